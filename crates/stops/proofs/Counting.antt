-- The stops, counted: where the next one is, and that there is none where all are counted. Assumes nothing.
use Prim.Native.Nat.{ℕ, zero, suc, ◌<◌, ◌≤◌}
use mathlib.Core.Path.{◌≡◌, refl, sym, ap, subst, ◌∙◌}
use mathlib.Core.Bool.{Bool, true, false}
use native.Mathlib.Omega.{arith}
use Rattle.trace.proofs.Tests.{by_test, either, lt_or_le, last_or_below}
use Rattle.stops.specs.Stops.{stops_before}

-- Two that say the same of the first n events count the same.
pub stops_agree : (stop stop' : ℕ → Bool) (n : ℕ) → ((p : ℕ) → p < n → stop p ≡ stop' p) → stops_before stop n ≡ stops_before stop' n
unfolding stops_before
stops_agree stop stop' zero same = refl
stops_agree stop stop' (suc n) same = rw (stops_agree stop stop' n (λ p h. same p (omega arith)), same n (omega arith))

-- The next stop from event i on, of those before n.
pub record NextStop (stop : ℕ → Bool) (i n p : ℕ) : Type 0 where
  pub from : i ≤ p
  pub below : p < n
  pub stops : stop p ≡ true
  pub counted : stops_before stop p ≡ stops_before stop i
  pub one_more : stops_before stop (suc p) ≡ suc (stops_before stop i)
  pub quiet : (q : ℕ) → i ≤ q → q < p → stop q ≡ false

module _ (stop : ℕ → Bool) where
  pub stops_one_more : (p : ℕ) → stop p ≡ true → stops_before stop (suc p) ≡ suc (stops_before stop p)
  unfolding stops_before
  stops_one_more p e = rw e (omega arith)

  pub stops_no_more : (p : ℕ) → stop p ≡ false → stops_before stop (suc p) ≡ stops_before stop p
  unfolding stops_before
  stops_no_more p e = rw e (omega arith)

  stops_step : (p : ℕ) → (stops_before stop p ≤ stops_before stop (suc p)) × (stops_before stop (suc p) ≤ suc (stops_before stop p))
  stops_step p =
      by_test (stop p)
      (λ e. let more = stops_one_more p e in (omega arith, omega arith))
      (λ e. let more = stops_no_more p e in (omega arith, omega arith))

  pub stops_below : (n : ℕ) → stops_before stop n ≤ n
  unfolding stops_before
  stops_below zero = omega arith
  stops_below (suc n) = let h = stops_below n in omega (arith, (stops_step n).1)

  pub stops_grow : (i n : ℕ) → i ≤ n → stops_before stop i ≤ stops_before stop n
  stops_grow i zero h = let e : i ≡ 0 = omega arith in rw e (omega arith)
  stops_grow i (suc n) h =
      either (lt_or_le i (suc n))
      (λ below. omega (arith, stops_grow i n (omega arith), (stops_step n).0))
      (λ same. let e : i ≡ suc n = omega arith in rw e (omega arith))

  stops_earlier : (i n : ℕ) → stops_before stop i < stops_before stop n → i < n
  stops_earlier i n h = either (lt_or_le i n) (λ early. early) (λ late. absurd (omega (arith, stops_grow n i late)))

  -- A stop has fewer stops before it than any later position.
  pub stops_rise : (p n : ℕ) → p < n → stop p ≡ true → stops_before stop p < stops_before stop n
  stops_rise p n h e = omega (arith, stops_one_more p e, stops_grow (suc p) n (omega arith))

  -- Where as many stops are before i as before n, none is between.
  pub no_stop_left : (i n : ℕ) → stops_before stop i ≡ stops_before stop n → (q : ℕ) → i ≤ q → q < n → stop q ≡ false
  no_stop_left i n e q from below =
      by_test (stop q) (λ s. absurd (omega (arith, stops_grow i q from, stops_rise q n below s))) (λ s. s)

  -- What every event that is no stop keeps holds where no stop is between.
  pub kept_over : (P : ℕ → Type 0) → ((q : ℕ) → stop q ≡ false → P q → P (suc q))
      → {i : ℕ} (p : ℕ) → i ≤ p → P i → ((q : ℕ) → i ≤ q → q < p → stop q ≡ false) → P p
  kept_over P keeps {i} zero h holds quiet = let same : i ≡ 0 = omega arith in subst P same holds
  kept_over P keeps {i} (suc p) h holds quiet =
      either (last_or_below i (suc p) (omega arith)) (λ same. subst P same holds)
      (λ l.
      keeps p (quiet p (omega arith) (omega arith)) (kept_over P keeps p (omega arith) holds (λ q low high. quiet q low (omega arith))))

  -- Else there is a next one.
  pub next_stop : (i n : ℕ) → stops_before stop i < stops_before stop n → (p : ℕ) × NextStop stop i n p
  unfolding stops_before
  next_stop i zero h = absurd (omega arith)
  next_stop i (suc n) h =
      either (lt_or_le (stops_before stop i) (stops_before stop n))
      (λ more. let found = next_stop i n more in
      let r = found.1 in
      let b = r.below in
      (found.0, record { from = r.from; below = omega arith; stops = r.stops; counted = r.counted; one_more = r.one_more; quiet = r.quiet }))
      (λ all. by_test (stop n)
      (λ s. let early = stops_earlier i (suc n) h in
      let from : i ≤ n = omega arith in
      let same : stops_before stop i ≡ stops_before stop n = omega (arith, stops_grow i n from) in (
        n,
        record {
          from = from;
          below = omega arith;
          stops = s;
          counted = sym same;
          one_more = stops_one_more n s ∙ ap suc (sym same);
          quiet = no_stop_left i n same;
        },
      ))
      (λ s. absurd (omega (arith, stops_no_more n s))))
