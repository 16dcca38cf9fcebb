-- One event: what it leaves. The tables of `scan` stand below SEEN and the events' numbers, so that keeping an access there changes neither. Assumes nothing.
use Prim.Native.Nat.{ℕ, ◌+◌}
use mathlib.Core.Path.{◌≡◌, refl, sym, ◌∙◌}
use mathlib.Core.Bool.{Bool, true, false, true≢false}
use mathlib.Core.List.{List}
use mathlib.Core.Logic.{◌⊎◌}
use native.Mathlib.Omega.{arith}
use lib.ListN.{get_or, set}
use Rattle.trace.specs.Trace.{is_access}
use Rattle.trace.proofs.Tests.{either}
use Rattle.cells.specs.Cells.{SameFrom, NUMBER, number_in}
use Rattle.scan.specs.Tables.{TABLES as SCAN-TABLES, Testable, RaceSays}
use Rattle.scan.proofs.Largest.{keeps_tested, keeps_beyond}
use Rattle.pairs.specs.Pairs.{Slices}
use Rattle.pairs.specs.Close.{race_by, SEEN, Seen, close_in, Visitable, Taken, VisitSays}
use Rattle.pairs.proofs.Partners.{race_by_same}
use Rattle.pairs.proofs.PairLists.{at_agree}

module _ (kinds operands : List ℕ) (c d : List ℕ) (same : SameFrom SCAN-TABLES c d) where
  pub close_same : (t : ℕ) → close_in kinds operands d t ≡ close_in kinds operands c t
  close_same t =
      at_agree (race_by kinds operands (number_in d)) t (race_by kinds operands (number_in c))
      (λ s less. race_by_same kinds operands (number_in d) s t (number_in c) (same.same (NUMBER + s) (omega arith)) (same.same (NUMBER + t) (omega arith)))

  pub seen_same : (t : ℕ) → Seen kinds operands t c → Seen kinds operands t d
  seen_same t seen =
      record {
        within = λ l low. rw (same.same (SEEN + l) (omega arith)) (seen.within l low);
        none_since = λ l p low from less access. seen.none_since l p low (rw (same.same (SEEN + l) (omega arith)) at from) less access;
      }

  pub visitable_same : {write : Bool} {b : Slices} {count t : ℕ} → Visitable kinds operands c write b count t → Visitable kinds operands d write b count t
  visitable_same {t = t} v =
      let long = same.long in
      let room = v.room in
      record {
        inside = v.inside;
        of_operands = v.of_operands;
        few = v.few;
        room = omega arith;
        location = v.location;
        seen = seen_same t v.seen;
        small = v.small;
        fits = rw (close_same t) v.fits;
      }

module _ {kinds operands c : List ℕ} {write : Bool} {b : Slices} {count t : ℕ} (v : Visitable kinds operands c write b count t) where
  pub visit_move : is_access (get_or kinds t 0) ≡ false → VisitSays kinds operands c c write b b count count t
  visit_move quiet = record { move = λ e. (refl, refl, refl); access = λ yes. absurd (true≢false (sym yes ∙ quiet)) }

  module _ (access : is_access (get_or kinds t 0) ≡ true) where
    pub visit_testable : Testable c (get_or kinds t 0) (get_or operands t 0)
    visit_testable = let room = v.room in record { access = access; location = v.location access; room = omega arith }

    module _ (kept : List ℕ) (r : Bool) (says : RaceSays c kept (get_or kinds t 0) (get_or operands t 0) (number_in c t) r) where
      pub kept_same : SameFrom SCAN-TABLES c kept
      kept_same = let f = visit_testable in keeps_beyond f.location (keeps_tested c kept _ _ _ r f says)

      pub kept_visitable : Visitable kinds operands kept write b count t
      kept_visitable = visitable_same kinds operands c kept kept_same v

      -- The access raced, and its pairs are taken; or it did not.
      pub visit_access :
          (exit : List ℕ) (b' : Slices) (next : ℕ) → exit ≡ set kept (SEEN + get_or operands t 0) (t + 1)
          → ((r ≡ true) × Taken kinds operands kept write b b' count next t) ⊎ ((r ≡ false) × ((next ≡ count) × (b' ≡ b)))
          → VisitSays kinds operands c exit write b b' count next t
      visit_access exit b' next stored came =
          record {
            move = λ other. absurd (true≢false (sym access ∙ other));
            access = λ yes. (
              kept,
              r,
              says,
              stored,
              λ raced. either came (λ w. rw (close_same kinds operands c kept kept_same t) at w.1) (λ w. absurd (true≢false (sym raced ∙ w.0))),
              λ quiet. either came (λ w. absurd (true≢false (sym w.0 ∙ quiet))) (λ w. w.1),
            );
          }
