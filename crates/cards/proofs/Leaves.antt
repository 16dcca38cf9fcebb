-- One law for each return of the small functions. Assumes nothing.
use Prim.Native.Nat.{ℕ, ◌+◌, ◌≤◌, ◌<◌}
use mathlib.Core.Path.{◌≡◌, ap, ◌∙◌}
use mathlib.Core.List.{List}
use mathlib.Core.Logic.{◌≢◌}
use native.Mathlib.Omega.{arith}
use lib.ListN.{length, get_or, set}
use borrow.Author.Tests.{eq-eqb, ne_eqb}
use Rattle.trace.specs.Trace.{READ, WRITE, SUM, LOCATIONS, MAX_EVENTS}
use Rattle.cells.specs.Cells.{zeroed}
use Rattle.cards.specs.declared.Card.{Card}
use Rattle.cards.specs.Tally.{FIRST, LAST, counts_of, TALLY_CELLS, earlier, touched_in, Touchable, position_in, card_in, due_after, Tables, wiped}

pub due_clean : (code : ℕ) → code ≡ 0 → LOCATIONS ≡ due_after code
unfolding due_after
due_clean code e = rw (eq-eqb code 0 e)

pub due_other : (code : ℕ) → code ≢ 0 → 0 ≡ due_after code
unfolding due_after
due_other code e = rw (ne_eqb code 0 e)

pub card_made : (c : List ℕ) (l f g : ℕ) → f ≡ position_in (get_or c (FIRST + l) 0) → g ≡ position_in (get_or c (LAST + l) 0)
    → ◌≡◌ {A = Card}
    (record {
      reads = get_or c (counts_of READ + l) 0;
      writes = get_or c (counts_of WRITE + l) 0;
      sums = get_or c (counts_of SUM + l) 0;
      first = f;
      last = g;
    })
    (card_in c l)
unfolding card_in
card_made c l f g e h = cc (e, h)

pub wipe_none : (k : ℕ) (c : List ℕ) → k ≡ 0 → c ≡ wiped k c
unfolding wiped
wipe_none k c e = rw (eq-eqb k 0 e)

pub wipe_all : (k : ℕ) (c d : List ℕ) → k ≢ 0 → d ≡ zeroed TALLY_CELLS c → d ≡ wiped k c
unfolding wiped
wipe_all k c d e f = rw (ne_eqb k 0 e) f

pub wipe_room : (k : ℕ) (c : List ℕ) → Tables c k → k ≢ 0 → TALLY_CELLS ≤ length c
wipe_room k c t e = let room = t.room (omega arith) in omega arith

pub count_fits : {c : List ℕ} {kind l at counts r : ℕ} → Touchable c kind l at → counts ≡ counts_of kind → r ≡ get_or c (counts + l) 0 → r < MAX_EVENTS
count_fits {c} {kind} {l} t e f = let few = t.few in let same = f ∙ ap (λ (z : ℕ). get_or c (z + l) 0) e in omega arith

pub touch_made :
    (c c₁ c₂ c₃ : List ℕ) (kind l at counts n old v : ℕ) → counts ≡ counts_of kind → n ≡ get_or c (counts + l) 0 → c₁ ≡ set c (counts + l) (n + 1)
    → old ≡ get_or c₁ (FIRST + l) 0 → v ≡ earlier old at → c₂ ≡ set c₁ (FIRST + l) v → c₃ ≡ set c₂ (LAST + l) (at + 1) → c₃ ≡ touched_in c kind l at
unfolding touched_in
touch_made c c₁ c₂ c₃ kind l at counts n old v e₀ e₁ e₂ e₃ e₄ e₅ e₆ = cc (e₀, e₁, e₂, e₃, e₄, e₅, e₆)
