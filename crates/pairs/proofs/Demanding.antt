-- What is demanded of the call holds of its outcome, for everything that can be lent. Assumes nothing.
use Prim.Native.Nat.{ℕ, ◌<◌, ◌≤◌}
use mathlib.Core.Path.{◌≡◌, refl, sym, ap}
use mathlib.Core.Bool.{true, false}
use mathlib.Core.List.{List, ◌++◌, map}
use mathlib.Core.Logic.{◌⊎◌, inl, inr}
use native.Mathlib.Omega.{arith}
use lib.ListN.{length, drop, length-map, length-append, length-drop, get_or-append}
use lib.Seq.{drop_at}
use Rattle.trace.specs.Trace.{Trace, trace_of}
use Rattle.trace.specs.Line.{Line, Checked, passes, fails, row, halt_operand, line_after}
use Rattle.trace.specs.Outcome.{says, refused, sizes, cleared}
use Rattle.trace.specs.Demands.{EventRefusal, KeepsRules, BreaksFirst}
use Rattle.trace.proofs.Tests.{by_test, either, test_or, test_lt}
use Rattle.trace.proofs.Lines.{passes_not_fails, step_row, kept_not_broken, broken_once, one_row, broken_at_graph}
use Rattle.trace.proofs.Sizes.{sized, sizes_row, refused_not_says}
use Rattle.trace.proofs.Demand1.{size_refusal, cleared_zero}
use Rattle.pairs.specs.Pairs.{Pair, close_pairs, Slices, slices, holding, too_short, PairsOutcome, list_checked, listing, pairs_checked, pairs_outcome}
use Rattle.pairs.specs.Demands.{PairsDemand1, ClosePairs, PairsDemand, PairsCallDemand}
use Rattle.pairs.proofs.Gathering.{long_enough}
use Rattle.pairs.proofs.Meaning.{Holds, close_pairs_law, number_same}

-- ---- the list in slices

-- By itself,
abbrev alone : List Pair → Slices
alone list = slices (map (λ p. p.s) list) (map (λ p. p.t) list)

-- and in those that were lent.
module _ (list : List Pair) (b : Slices) where
  holding_holds : Holds list (holding list b)
  unfolding holding
  holding_holds =
      record {
        earlier = λ i h. get_or-append (map (λ p. p.s) list) (drop (length list) b.earlier) 0 i (omega (arith, length-map list (λ p. p.s)));
        later = λ i h. get_or-append (map (λ p. p.t) list) (drop (length list) b.later) 0 i (omega (arith, length-map list (λ p. p.t)));
      }

  holding_rest : (drop (length list) (holding list b).earlier ≡ drop (length list) b.earlier) × (drop (length list) (holding list b).later ≡ drop (length list) b.later)
  unfolding holding
  holding_rest = (
    drop_at (map (λ p. p.s) list) (drop (length list) b.earlier) (length list) (length-map list (λ p. p.s)),
    drop_at (map (λ p. p.t) list) (drop (length list) b.later) (length list) (length-map list (λ p. p.t)),
  )

  holding_lengths :
      length list ≤ length b.earlier → length list ≤ length b.later
      → (length (holding list b).earlier ≡ length b.earlier) × (length (holding list b).later ≡ length b.later)
  unfolding holding
  holding_lengths room room' = (long (λ p. p.s) b.earlier room, long (λ p. p.t) b.later room')
    where
      long : (f : Pair → ℕ) (l : List ℕ) → length list ≤ length l → length (map f list ++ drop (length list) l) ≡ length l
      long f l h = omega (arith, length-append (map f list) (drop (length list) l), length-map list f, length-drop (length list) l)

-- ---- past the size checks

-- What is demanded of an outcome of a trace's n events, where w is the workspace that it is to leave.
record Past (tr : Trace) (n : ℕ) (b : Slices) (w : List ℕ) (o : PairsOutcome) : Type 0 where
  pub demand : PairsDemand tr n b o.answer o.slices
  pub workspace : o.workspace ≡ w
  pub refusals : (number position : ℕ) → o.answer ≡ refused number position → EventRefusal n number position ⊎ ((number ≡ 20) × (position ≡ 0))
  pub kept : (number position : ℕ) → o.answer ≡ refused number position → o.slices ≡ b
  pub lengths : (length o.slices.earlier ≡ length b.earlier) × (length o.slices.later ≡ length b.later)

module _ (tr : Trace) (n : ℕ) (b : Slices) (w : List ℕ) where
  abbrev list : List Pair
  list = close_pairs tr n

  -- Event p breaks a rule.
  past_broken :
      (number p : ℕ) → (p < n) × BreaksFirst halt_operand tr p number → Past tr n b w (record { answer = refused number p; slices = b; workspace = w })
  past_broken number p broken =
      let rows = step_row halt_operand tr p number broken.1.line broken.1.broken in
      let low = rows.1 in
      let not-kept : KeepsRules halt_operand tr n → ⊥ = λ kept. kept_not_broken halt_operand tr n p number broken.0 kept broken.1 in
      record {
        demand =
            record {
              listed = λ k e. absurd (refused_not_says refl e);
              rest = λ k e. absurd (refused_not_says refl e);
              listed_if = λ k other kept close room room'. absurd (not-kept kept);
              short_iff = (λ e. let same : number ≡ 20 = cc in absurd (omega arith), λ v. absurd (not-kept v.0));
              refused_iff = λ number' p' h. (
                λ e. let same : number ≡ number' = cc in let there : p ≡ p' = cc in rw (← same, ← there) broken,
                λ v.
                    let there : p ≡ p' = broken_once halt_operand tr p p' number number' broken.1 v.1 in
                    let same : number ≡ number' = one_row halt_operand tr p' number number' (rw there at broken.1) v.1 in
                    cc,
              );
            };
        workspace = refl;
        refusals = λ number' p' e.
            let same : number ≡ number' = cc in
            let there : p ≡ p' = cc in
            inl (rw (← same, ← there) (rows.0, rows.1, broken.0));
        kept = λ number' p' e. refl;
        lengths = (refl, refl);
      }

  module _ (kept : KeepsRules halt_operand tr n) where
    close_alone : ClosePairs tr n (alone list) (length list)
    close_alone =
        close_pairs_law tr n kept (alone list) (record { earlier = λ i h. refl; later = λ i h. refl }) (omega (arith, length-map list (λ p. p.s)))
        (omega (arith, length-map list (λ p. p.t)))

    number_is : {k : ℕ} {other : Slices} → ClosePairs tr n other k → k ≡ length list
    number_is close = number_same close close_alone

    not_broken : (number p : ℕ) → (p < n) × BreaksFirst halt_operand tr p number → ⊥
    not_broken number p v = kept_not_broken halt_operand tr n p number v.0 kept v.1

    -- A slice is too short.
    past_short : too_short b (length list) ≡ true → Past tr n b w (record { answer = refused 20 0; slices = b; workspace = w })
    unfolding too_short
    past_short short =
        let which = (test_or _ _ (test_lt (length b.earlier) (length list)) (test_lt (length b.later) (length list))).0 short in
        record {
          demand =
              record {
                listed = λ k e. absurd (refused_not_says refl e);
                rest = λ k e. absurd (refused_not_says refl e);
                listed_if = λ k other keeps close room room'. absurd (either which (λ h. omega (arith, number_is close)) (λ h. omega (arith, number_is close)));
                short_iff = (λ e. (kept, (length list, alone list, close_alone, which)), λ v. refl);
                refused_iff = λ number p h. (λ e. let same : 20 ≡ number = cc in absurd (omega arith), λ v. absurd (not_broken number p v));
              };
          workspace = refl;
          refusals = λ number p e. let same : number ≡ 20 = cc in let there : p ≡ 0 = cc in inr (same, there);
          kept = λ number p e. refl;
          lengths = (refl, refl);
        }

    -- The list is written.
    past_listed : too_short b (length list) ≡ false → Past tr n b w (record { answer = says (length list); slices = holding list b; workspace = w })
    past_listed long =
        let room = long_enough b (length list) long in
        let lengths = holding_lengths list b room.0 room.1 in
        record {
          demand =
              record {
                listed = λ k e.
                    let same : length list ≡ k = cc in
                    rw (← same) (kept, close_pairs_law tr n kept (holding list b) (holding_holds list b) (omega (arith, room.0, lengths.0)) (omega (arith, room.1, lengths.1)));
                rest = λ k e. let same : length list ≡ k = cc in rw (← same) (holding_rest list b);
                listed_if = λ k other keeps close here here'. ap says (sym (number_is close));
                short_iff = (
                  λ e. absurd (refused_not_says e refl),
                  λ v.
                      let close = v.1.2 in
                      absurd (either v.1.3 (λ h. omega (arith, number_is close, room.0)) (λ h. omega (arith, number_is close, room.1))),
                );
                refused_iff = λ number p h. (λ e. absurd (refused_not_says e refl), λ v. absurd (not_broken number p v));
              };
          workspace = refl;
          refusals = λ number p e. absurd (refused_not_says e refl);
          kept = λ number p e. absurd (refused_not_says e refl);
          lengths = lengths;
        }

  past : (c : Checked Line) → line_after halt_operand tr n ≡ c → Past tr n b w (listing b w tr n c)
  unfolding listing list_checked row
  past (fails number) e = past_broken number _ (broken_at_graph halt_operand tr n number e)
  past (passes line) e =
      let kept : KeepsRules halt_operand tr n = record { line = line; reached = e } in
      by_test (too_short b (length list)) (λ short. rw short (past_short kept short)) (λ long. rw long (past_listed kept long))

-- ---- all that can be lent

module _ (kinds tasks operands workspace : List ℕ) (b : Slices) where
  abbrev pub Demanded : PairsOutcome → Type 0
  Demanded out =
      PairsDemand1 kinds tasks operands workspace b out.answer out.slices out.workspace
      × PairsCallDemand kinds tasks operands workspace b out.answer out.slices

  checked : (c : Checked ℕ) → sizes kinds tasks operands workspace ≡ c → Demanded (pairs_checked kinds tasks operands workspace b c)
  unfolding pairs_checked
  checked (fails m) checks =
      let between = sizes_row kinds tasks operands workspace m checks in (
        record {
          refusals = λ number position e. inl (size_refusal 3 m number position between e);
          size_row = λ number e. let same : m ≡ number = cc (checks, e) in cc;
          slices_kept = λ number position e. refl;
          length_earlier = refl;
          length_later = refl;
          length_workspace = refl;
          workspace_kept = λ number position e h. refl;
          workspace_cleared = λ h. absurd (omega (arith, between, h m 0 refl));
        },
        record { past_sizes = λ n e. absurd (passes_not_fails e checks) },
      )
  checked (passes n) checks =
      let size = sized kinds tasks operands workspace n checks in
      let whole : length kinds ≡ n = size.of_kinds in
      let zeros = cleared_zero n workspace size.room in
      let tr = trace_of kinds tasks operands in
      let p = past tr n b (cleared n workspace) (line_after halt_operand tr n) refl in (
        record {
          refusals = λ number position e. rw whole (inr (p.refusals number position e));
          size_row = λ number e. absurd (passes_not_fails checks e);
          slices_kept = p.kept;
          length_earlier = p.lengths.0;
          length_later = p.lengths.1;
          length_workspace = rw p.workspace zeros.one_length;
          workspace_kept = λ number position e h.
              absurd (either (p.refusals number position e) (λ rows. omega (arith, rows.0)) (λ last. omega (arith, last.0)));
          workspace_cleared = λ h. rw (whole, p.workspace) zeros;
        },
        record { past_sizes = λ m e. let same : n ≡ m = cc (checks, e) in rw (← same) p.demand },
      )

  -- WHAT IS DEMANDED OF THE CALL holds of its outcome.
  pub demanded : Demanded (pairs_outcome kinds tasks operands workspace b)
  unfolding pairs_outcome
  demanded = checked (sizes kinds tasks operands workspace) refl
