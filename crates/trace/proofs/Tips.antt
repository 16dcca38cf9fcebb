-- The tips of a run, and the arcs into its next event. A task's tip is the event that its next arc leaves: its last event or, where it has none, its
-- fork. A run's `last` names the tips; the tip of a task in `left` is its halt. So the arcs into the next event come from the tip of the running task
-- and, for a join, from the tip of the joined task. Assumes nothing.
use Prim.Native.Nat.{ℕ, suc, ◌<◌}
use mathlib.Core.Path.{◌≡◌, refl, sym, ap, ◌∙◌}
use mathlib.Core.List.{List, ◌∷◌}
use mathlib.Core.Logic.{◌⊎◌, inl, inr, ◌≢◌}
use native.Mathlib.Omega.{arith}
use Rattle.trace.specs.Trace.{Trace, FORK, JOIN, HALT}
use Rattle.trace.specs.Line.{Line}
use Rattle.trace.specs.Graph.{Arc, to_next, to_child, to_join, Reach, here, more}
use Rattle.trace.proofs.Tests.{either, same_or_not, last_or_below}
use Rattle.trace.proofs.Paths.{Forward}
use Rattle.trace.proofs.EventKinds.{access_not_fork, access_not_halt}
use Rattle.trace.proofs.Stacks.{In, in_eq, updated, updated_same, updated_other}
use Rattle.trace.proofs.Run.{DistinctStacks, UsedNumbers, Run, start, access, fork, join, halt, used_numbers, of_task_next, distinct_stacks}

-- Before event n, m is the last event of the task u, or u has none and m forks it.
abbrev pub Tip : Trace → ℕ → ℕ → ℕ → Type 0
Tip tr n u m =
    (m < n)
    × (((tr.task m ≡ u) × ((r : ℕ) → m < r → r < n → tr.task r ≢ u))
    ⊎ ((tr.kind m ≡ FORK) × (tr.operand m ≡ u) × ((r : ℕ) → r < n → tr.task r ≢ u)))

-- `last` names the tips before event n.
pub record Tips (tr : Trace) (n : ℕ) (last : ℕ → ℕ) : Type 0 where
  pub sound : (u m : ℕ) → last u ≡ suc m → Tip tr n u m
  pub complete : (u m : ℕ) → Tip tr n u m → last u ≡ suc m

-- The tip of a task in `left` is its halt, and a task that has halted is not active.
pub record Halts (tr : Trace) (n : ℕ) (left active : List ℕ) (last : ℕ → ℕ) : Type 0 where
  pub by_halt : (u : ℕ) → In u left → (m : ℕ) × (last u ≡ suc m) × (tr.kind m ≡ HALT) × (tr.task m ≡ u)
  pub is_tip : (m : ℕ) → m < n → tr.kind m ≡ HALT → last (tr.task m) ≡ suc m
  pub not_active : (m : ℕ) → m < n → tr.kind m ≡ HALT → In (tr.task m) active → ⊥

-- A task in `left` is not an active one.
pub left_not_active : {left active : List ℕ} → DistinctStacks left active → (x u : ℕ) → In x active → In u left → u ≢ x
left_not_active {left} {active} d x u i j e = d.disjoint x (in_eq left (sym e) j) i

module _ (tr : Trace) where
  -- ---- one event more: the tip of a task that event n is not of and does not fork

  no_event_next : (n u : ℕ) {P : ℕ → Type 0} → tr.task n ≢ u → ((r : ℕ) → P r → r < n → tr.task r ≢ u) → (r : ℕ) → P r → r < suc n → tr.task r ≢ u
  no_event_next n u t f r a b e = either (last_or_below r n b) (λ q. t (sym (ap tr.task q) ∙ e)) (λ c. f r a c e)

  tip_next : (n u m : ℕ) → tr.task n ≢ u → Tip tr n u m → Tip tr (suc n) u m
  tip_next n u m t c =
      let h = c.0 in (
        omega arith,
        either c.1
            (λ d. inl (d.0, no_event_next n u t d.1))
            (λ d. inr (d.0, d.1, λ r. no_event_next n u {P = λ z. Unit {0}} t (λ z i. d.2 z) r tt)),
      )

  tip_before : (n u m : ℕ) → tr.task n ≢ u → (tr.kind n ≡ FORK → tr.operand n ≢ u) → Tip tr (suc n) u m → Tip tr n u m
  tip_before n u m t f c =
      either (last_or_below m n c.0)
      (λ e. absurd (either c.1
      (λ d. t (sym (ap tr.task e) ∙ d.0))
      (λ d. f (sym (ap tr.kind e) ∙ d.0) (sym (ap tr.operand e) ∙ d.1))))
      (λ h. (
        h,
        either c.1
            (λ d. inl (d.0, λ r a b. d.1 r a (omega arith)))
            (λ d. inr (d.0, d.1, λ r b. d.2 r (omega arith))),
      ))

  -- ---- the tip of the task of event n

  own_tip : (n u : ℕ) → u ≡ tr.task n → Tip tr (suc n) u n
  own_tip n u e = (omega arith, inl (sym e, λ r a b. absurd (omega arith)))

  own_tip_unique : (n u m : ℕ) → u ≡ tr.task n → Tip tr (suc n) u m → m ≡ n
  own_tip_unique n u m e c =
      either (last_or_below m n c.0) (λ q. q)
      (λ h. absurd (either c.1 (λ d. d.1 n h (omega arith) (sym e)) (λ d. d.2 n (omega arith) (sym e))))

  -- ---- the tip of the task that event n forks

  forked_tip : {n : ℕ} {left paused used : List ℕ} → UsedNumbers tr n left (tr.task n ∷ paused) used → (In (tr.operand n) used → ⊥) →
      tr.kind n ≡ FORK → (u : ℕ) → u ≡ tr.operand n → Tip tr (suc n) u n
  forked_tip {n = n} {used = used} numbers new k u e =
      (omega arith, inr (k, sym e, λ r b t. new (in_eq used (sym e ∙ sym t) (of_task_next numbers r b))))

  forked_tip_unique : {n : ℕ} {left active used : List ℕ} → UsedNumbers tr n left active used → (In (tr.operand n) used → ⊥) → (u m : ℕ) →
      u ≡ tr.operand n → Tip tr (suc n) u m → m ≡ n
  forked_tip_unique {n = n} {used = used} numbers new u m e c =
      either (last_or_below m n c.0) (λ q. q)
      (λ h. absurd (new (either c.1
      (λ d. in_eq used (sym e ∙ sym d.0) (numbers.of_task m h))
      (λ d. in_eq used (sym e ∙ sym d.1) (numbers.of_fork m h d.0)))))

  -- ---- `last` names the tips

  -- One event more: for each task, event n becomes its tip, or its tip stays.
  tips_next : (n : ℕ) (last last' : ℕ → ℕ) → Tips tr n last →
      ((u : ℕ) →
      ((last' u ≡ suc n) × Tip tr (suc n) u n × ((m : ℕ) → Tip tr (suc n) u m → m ≡ n))
      ⊎ ((last' u ≡ last u) × (tr.task n ≢ u) × (tr.kind n ≡ FORK → tr.operand n ≢ u))) →
      Tips tr (suc n) last'
  tips_next n last last' tips f =
      record {
        sound = λ u m e. either (f u)
            (λ d. let q : m ≡ n = omega (arith, d.0) in rw q d.1)
            (λ d. tip_next n u m d.1 (tips.sound u m (sym d.0 ∙ e)));
        complete = λ u m c. either (f u)
            (λ d. d.0 ∙ ap suc (sym (d.2 m c)))
            (λ d. d.0 ∙ tips.complete u m (tip_before n u m d.1 d.2 c));
      }

  -- An event that is no fork.
  tips_own : (n : ℕ) (last : ℕ → ℕ) → Tips tr n last → tr.kind n ≢ FORK → Tips tr (suc n) (updated last (tr.task n) (suc n))
  tips_own n last tips k =
      tips_next n last (updated last (tr.task n) (suc n)) tips (λ u. either (same_or_not u (tr.task n))
      (λ e. inl (updated_same last (tr.task n) (suc n) u e, own_tip n u e, λ m. own_tip_unique n u m e))
      (λ e. inr (updated_other last (tr.task n) (suc n) u e, λ t. e (sym t), λ f. absurd (k f))))

  tips_fork : {n : ℕ} {left paused used : List ℕ} (last : ℕ → ℕ) → UsedNumbers tr n left (tr.task n ∷ paused) used →
      (In (tr.operand n) used → ⊥) → tr.kind n ≡ FORK → Tips tr n last →
      Tips tr (suc n) (updated (updated last (tr.task n) (suc n)) (tr.operand n) (suc n))
  tips_fork {n = n} last numbers new k tips =
      let last₁ = updated last (tr.task n) (suc n) in
      tips_next n last (updated last₁ (tr.operand n) (suc n)) tips (λ u. either (same_or_not u (tr.operand n))
      (λ e. inl (updated_same last₁ (tr.operand n) (suc n) u e, forked_tip numbers new k u e, λ m. forked_tip_unique numbers new u m e))
      (λ e. let other = updated_other last₁ (tr.operand n) (suc n) u e in either (same_or_not u (tr.task n))
      (λ q. inl (other ∙ updated_same last (tr.task n) (suc n) u q, own_tip n u q, λ m. own_tip_unique n u m q))
      (λ q. inr (other ∙ updated_other last (tr.task n) (suc n) u q, λ t. q (sym t), λ f t. e (sym t)))))

  -- ---- the halts

  -- One event more, that is no halt: no task comes to `left`, no halted task becomes active, and their tips stay.
  halts_next : (n : ℕ) (left left' active active' : List ℕ) (last last' : ℕ → ℕ) → Halts tr n left active last → tr.kind n ≢ HALT →
      ((y : ℕ) → In y left' → In y left × (last' y ≡ last y)) →
      ((m : ℕ) → m < n → tr.kind m ≡ HALT → (last' (tr.task m) ≡ last (tr.task m)) × (In (tr.task m) active' → In (tr.task m) active)) →
      Halts tr (suc n) left' active' last'
  halts_next n left left' active active' last last' halts k f g =
      record {
        by_halt = λ y i. let (m, a, b, c) = halts.by_halt y (f y i).0 in (m, (f y i).1 ∙ a, b, c);
        is_tip = λ m h q. either (last_or_below m n h) (λ e. absurd (k (sym (ap tr.kind e) ∙ q))) (λ i. (g m i q).0 ∙ halts.is_tip m i q);
        not_active = λ m h q a. either (last_or_below m n h) (λ e. k (sym (ap tr.kind e) ∙ q)) (λ i. halts.not_active m i q ((g m i q).1 a));
      }

module _ (haltRule : Line → ℕ) (tr : Trace) where
  -- At every moment of a run `last` names the tips,
  pub tips : {n : ℕ} {left active used : List ℕ} {last : ℕ → ℕ} → Run haltRule tr n left active used last → Tips tr n last
  tips start = record { sound = λ u m e. absurd (omega arith); complete = λ u m c. let h = c.0 in absurd (omega arith) }
  tips (access {n = n} {last = last} run k o) = tips_own tr n last (tips run) (access_not_fork (tr.kind n) k)
  tips (fork {n = n} {last = last} run k o new) = tips_fork tr last (used_numbers haltRule tr run) new k (tips run)
  tips (join {n = n} {last = last} run k) = tips_own tr n last (tips run) (λ f. omega arith)
  tips (halt {n = n} {last = last} run k o) = tips_own tr n last (tips run) (λ f. omega arith)

  -- and the tips of the tasks in `left` are their halts.
  pub halts : {n : ℕ} {left active used : List ℕ} {last : ℕ → ℕ} → Run haltRule tr n left active used last → Halts tr n left active last
  halts start = record { by_halt = λ u i. absurd i; is_tip = λ m h. absurd (omega arith); not_active = λ m h. absurd (omega arith) }
  halts (access {n = n} {left = left} {paused = paused} {last = last} run k o) =
      let H = halts run in
      let x = tr.task n in
      let d = distinct_stacks haltRule tr run in
      halts_next tr n left left (x ∷ paused) (x ∷ paused) last (updated last x (suc n)) H (access_not_halt (tr.kind n) k)
      (λ y i. (i, updated_other last x (suc n) y (left_not_active d x y (inl refl) i)))
      (λ m h q. (updated_other last x (suc n) (tr.task m) (λ e. H.not_active m h q (inl e)), λ i. i))
  halts (fork {n = n} {left = left} {paused = paused} {used = used} {last = last} run k o new) =
      let H = halts run in
      let x = tr.task n in
      let c = tr.operand n in
      let d = distinct_stacks haltRule tr run in
      let u = used_numbers haltRule tr run in
      let last₁ = updated last x (suc n) in
      let old : (y : ℕ) → In y used → y ≢ c = λ y i e. new (in_eq used (sym e) i) in
      halts_next tr n left left (x ∷ paused) (c ∷ (x ∷ paused)) last (updated last₁ c (suc n)) H (λ f. omega arith)
      (λ y i. (i, updated_other last₁ c (suc n) y (old y (u.of_left y i)) ∙ updated_other last x (suc n) y (left_not_active d x y (inl refl) i)))
      (λ m h q. (
        updated_other last₁ c (suc n) (tr.task m) (old (tr.task m) (u.of_task m h))
            ∙ updated_other last x (suc n) (tr.task m) (λ e. H.not_active m h q (inl e)),
        λ i. either i (λ e. absurd (old (tr.task m) (u.of_task m h) e)) (λ j. j),
      ))
  halts (join {n = n} {left = left} {paused = paused} {last = last} run k) =
      let H = halts run in
      let x = tr.task n in
      let d = distinct_stacks haltRule tr run in
      halts_next tr n (tr.operand n ∷ left) left (x ∷ paused) (x ∷ paused) last (updated last x (suc n)) H (λ f. omega arith)
      (λ y i. (inr i, updated_other last x (suc n) y (left_not_active d x y (inl refl) (inr i))))
      (λ m h q. (updated_other last x (suc n) (tr.task m) (λ e. H.not_active m h q (inl e)), λ i. i))
  halts (halt {n = n} {left = left} {paused = paused} {last = last} run k o) =
      let H = halts run in
      let x = tr.task n in
      let d = distinct_stacks haltRule tr run in
      record {
        by_halt = λ y i. either i
            (λ e. (n, updated_same last x (suc n) y e, k, sym e))
            (λ j. let (m, a, b, c) = H.by_halt y j in (m, updated_other last x (suc n) y (left_not_active d x y (inl refl) j) ∙ a, b, c));
        is_tip = λ m h q. either (last_or_below m n h)
            (λ e. updated_same last x (suc n) (tr.task m) (ap tr.task e) ∙ ap suc (sym e))
            (λ i. updated_other last x (suc n) (tr.task m) (λ e. H.not_active m i q (inl e)) ∙ H.is_tip m i q);
        not_active = λ m h q i. either (last_or_below m n h)
            (λ e. d.of_active.0 (in_eq paused (sym (ap tr.task e)) i))
            (λ j. H.not_active m j q (inr i));
      }

-- ---- arcs and paths into the next event

-- p reaches the tip that a value of `last` names.
abbrev pub ReachesTip : Trace → ℕ → ℕ → ℕ → Type 0
ReachesTip tr graph p value = (m : ℕ) × (value ≡ suc m) × Reach tr graph p m

module _ (haltRule : Line → ℕ) (tr : Trace) (graph : ℕ) (forward : Forward tr graph) where
  module _ {n : ℕ} {left active used : List ℕ} {last : ℕ → ℕ} (run : Run haltRule tr n left active used last) (inside : n < graph) where
    -- An arc from the tip of the event's own task,
    arc_own : (m : ℕ) → last (tr.task n) ≡ suc m → Arc tr graph m n
    arc_own m e =
        let c = (tips haltRule tr run).sound (tr.task n) m e in
        let h = c.0 in
        either c.1
        (λ d. to_next h inside (sym d.0) (λ r a b t. d.1 r a b (t ∙ d.0)))
        (λ d. let i : m < graph = omega arith in to_child i inside d.0 (sym d.1) (λ r b t. d.2 r b (t ∙ d.1)))

    -- from the tip of the task that it joins,
    arc_join : tr.kind n ≡ JOIN → In (tr.operand n) left → (m : ℕ) → last (tr.operand n) ≡ suc m → Arc tr graph m n
    arc_join k i m e =
        let (m', a, b, c) = (halts haltRule tr run).by_halt (tr.operand n) i in
        let q : m ≡ m' = omega arith in
        let h = ((tips haltRule tr run).sound (tr.operand n) m e).0 in
        let j : m < graph = omega arith in
        to_join j inside (ap tr.kind q ∙ b) k (sym c ∙ ap tr.task (sym q))

    -- and from nowhere else.
    arc_into : (m : ℕ) → m < n → Arc tr graph m n → (last (tr.task n) ≡ suc m) ⊎ ((tr.kind n ≡ JOIN) × (last (tr.operand n) ≡ suc m))
    arc_into m h (to_next a b c d) = inl ((tips haltRule tr run).complete (tr.task n) m (h, inl (sym c, λ r i j t. d r i j (t ∙ c))))
    arc_into m h (to_child a b c d e) = inl ((tips haltRule tr run).complete (tr.task n) m (h, inr (c, sym d, λ r j t. e r j (t ∙ d))))
    arc_into m h (to_join a b c d e) = inr (d, ap last e ∙ (halts haltRule tr run).is_tip m h c)

    -- What reaches one of these tips reaches event n.
    pub reach_own : (p : ℕ) → ReachesTip tr graph p (last (tr.task n)) → Reach tr graph p n
    reach_own p t = more t.2 (arc_own t.0 t.1)

    pub reach_join : (p : ℕ) → tr.kind n ≡ JOIN → In (tr.operand n) left → ReachesTip tr graph p (last (tr.operand n)) → Reach tr graph p n
    reach_join p k i t = more t.2 (arc_join k i t.0 t.1)

    -- An earlier event that reaches event n reaches the tip of its task or, where it is a join, of the joined task.
    pub reach_from : (p : ℕ) → p < n → Reach tr graph p n →
        ReachesTip tr graph p (last (tr.task n)) ⊎ ((tr.kind n ≡ JOIN) × ReachesTip tr graph p (last (tr.operand n)))
    reach_from p h (here i same) = absurd (omega arith)
    reach_from p h (more {m = m} path arc) =
        either (arc_into m (forward m n arc) arc) (λ e. inl (m, e, path)) (λ e. inr (e.0, (m, e.1, path)))
