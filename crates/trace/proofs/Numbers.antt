-- NUMBERS THAT TELL PATHS. Where each of the first n events has a number, and of two of them the earlier reaches the later exactly if its number is no
-- larger, everything that is asked of paths is a comparison: reach, races, and the events that a race's two orders put first. How such numbers are found is
-- for the crates above; that there are some is the theorem of crate `segments`. Assumes nothing.
use Prim.Native.Nat.{ℕ, ◌<◌, ◌≤◌}
use mathlib.Core.Path.{◌≡◌}
use mathlib.Core.Logic.{◌⊎◌, inl, inr, ◌↔◌}
use native.Mathlib.Omega.{arith}
use Rattle.trace.specs.Trace.{Trace}
use Rattle.trace.specs.Graph.{Reach}
use Rattle.trace.specs.Race.{Conflict, Race, InD}
use Rattle.trace.proofs.Tests.{either, same_or_not, lt_or_le}
use Rattle.trace.proofs.Paths.{Forward, reach_refl, reach_le}

-- Of two of the first n events the earlier reaches the later exactly if its number is no larger.
pub record Numbers (tr : Trace) (n : ℕ) (number : ℕ → ℕ) : Type 0 where
  pub forward : Forward tr n
  pub tells : (p q : ℕ) → p < q → q < n → Reach tr n p q ↔ (number p ≤ number q)

-- Other numbers that are the same below n tell the same.
pub numbers_agree : {tr : Trace} {n : ℕ} (f g : ℕ → ℕ) → Numbers tr n f → ((p : ℕ) → p < n → g p ≡ f p) → Numbers tr n g
numbers_agree f g numbers same =
    record { forward = numbers.forward; tells = λ p q h i. rw (same p (omega arith), same q i) (numbers.tells p q h i) }

module _ (tr : Trace) (n : ℕ) (number : ℕ → ℕ) (numbers : Numbers tr n number) where
  -- A path leads from p to q exactly if p stands no later and its number is no larger.
  pub reach_by_number : (p q : ℕ) → p < n → q < n → Reach tr n p q ↔ ((p ≤ q) × (number p ≤ number q))
  reach_by_number p q h i =
      either (lt_or_le p q)
      (λ l.
      let t = numbers.tells p q l i in
      (λ r. (omega arith, t.0 r), λ w. t.1 w.1))
      (λ l. either (same_or_not p q)
      (λ e. rw e (λ r. (omega arith, omega arith), λ w. reach_refl i))
      (λ d. (
        λ r. let le = reach_le numbers.forward r in absurd (omega arith),
        λ w. let le = w.0 in absurd (omega arith),
      )))

  -- Two accesses that conflict race exactly if the later one's number is smaller.
  pub race_by_number : (s t : ℕ) → s < t → Conflict tr n s t → Race tr n s t ↔ (number t < number s)
  race_by_number s t l c =
      let path = numbers.tells s t l c.second_event in (
        λ r. let no : number s ≤ number t → ⊥ = λ le. r.not_forth (path.1 le) in omega arith,
        λ lt.
            record {
              conflict = c;
              not_forth = λ r. let le = path.0 r in omega arith;
              not_back = λ r. let le = reach_le numbers.forward r in omega arith;
            },
      )

  -- The events that a race's two orders put first, with one comparison for each: those before s against s, those between s and t against t.
  pub in_d_by_number : (s t p : ℕ) → s < t → Race tr n s t → p < n →
      InD tr n s t p ↔ (((p < s) × (number p ≤ number s)) ⊎ ((s < p) × (p < t) × (number p ≤ number t)))
  in_d_by_number s t p l r hp =
      let c = r.conflict in
      let lower = (race_by_number s t l c).0 r in
      let a = reach_by_number p s hp c.first_event in
      let b = reach_by_number p t hp c.second_event in (
        λ d.
            let ns = d.not_s in
            let nt = d.not_t in
            either (lt_or_le p s)
            (λ h. inl (h, either d.reaches (λ u. (a.0 u).1) (λ u. let le = (b.0 u).1 in omega arith)))
            (λ h. either d.reaches
            (λ u. let le = (a.0 u).0 in absurd (omega arith))
            (λ u. let le = (b.0 u).0 in inr (omega arith, omega arith, (b.0 u).1))),
        λ w. either w
            (λ u. let h = u.0 in record { not_s = λ e. omega arith; not_t = λ e. omega arith; reaches = inl (a.1 (omega arith, u.1)) })
            (λ u.
            let h = u.0 in
            let i = u.1 in
            record { not_s = λ e. omega arith; not_t = λ e. omega arith; reaches = inr (b.1 (omega arith, u.2)) }),
      )
