-- `convert::set_halts` meets its contract: before each turn the halts before event i are set. Assumes nothing.
use mathlib.Core.Path.{◌≡◌, refl, sym, ◌∙◌}
use mathlib.Core.Bool.{true, false}
use Rattle.std.specs.Prelude.{Result, Ok, Err}
use Rattle.std.specs.Result.{is_err}
use Rattle.trace.specs.declared.Row.{Row}
use mathlib.Core.Logic.{inl, inr}
use native.Mathlib.Omega.{arith}
use Rattle.convert.proofs.Converting.{Read, converting_begins, converting_ends, set_of_lent, line_sound, started_long}
use Rattle.convert.proofs.Converting.{stops_named, stops_broken, long_exit, can_move, converting_more}
use Rattle.convert.proofs.set_halts.Goals as goal
use Rattle.convert.proofs.set_halts.Goals.{Joined-kind-eq-HALT, then-kind-eq-HALT+else-operand-ne0, else-kind-eq-HALT}

-- The row that is met, or that none is.
met_of : (r : Result (Unit {0}) Row) → is_err r ≡ true → (row : Row) × (r ≡ Err row)
met_of (Ok done) e = absurd (cc)
met_of (Err row) e = (row, refl)

none_of : (r : Result (Unit {0}) Row) → is_err r ≡ false → r ≡ Ok tt
none_of (Ok done) e = refl
none_of (Err row) e = absurd (cc)

-- The operand that is chosen, where the two ways to choose it meet.
read : (c : Joined-kind-eq-HALT) → Read _ _ _ _ c.loop-i.invariant c.loop-i-test.true c.if-kind-eq-HALT.operand
read c =
    elim c.if-kind-eq-HALT.branch [
      | then-kind-eq-HALT+else-operand-ne0 w ↦ inl (w.if-kind-eq-HALT.true, w.if-operand-ne0.false, w.operand-is ∙ w.resumes-operand.ensures)
      | else-kind-eq-HALT w ↦ inr (w.if-kind-eq-HALT.false, w.operand-is)
    ]

pub loop-i-init : goal.loop-i-init
loop-i-init c =
    converting_begins _ _ _ _ _ (let room = c.requires.room in omega arith) c.start-line.ensures.1 _ c.start-line.ensures.0

pub bounds-operands-i : goal.bounds-operands-i
bounds-operands-i c =
    omega (arith, c.loop-i.invariant.set.long, c.requires.of_operands)

pub shape_of-ws-then-operand-ne0 : goal.shape_of-ws-then-operand-ne0
shape_of-ws-then-operand-ne0 c =
    c.loop-i.invariant.beyond.long ∙ started_long _ _ (let room = c.requires.room in omega arith) c.start-line.ensures.1

pub returns-then-operand-ne0 : goal.returns-then-operand-ne0
returns-then-operand-ne0 c =
    set_of_lent _ _ _ _ _ (let room = c.requires.room in omega arith) c.start-line.ensures.1
    (stops_named _ _ _ _ c.loop-i.invariant c.loop-i-test.true c.if-kind-eq-HALT.true c.if-operand-ne0.true)

pub shape_of-ws-then-is_err : goal.shape_of-ws-then-is_err
shape_of-ws-then-is_err c =
    let chosen = read (goal.at.shape_of-ws-then-is_err c).Joined-kind-eq-HALT in
    long_exit _ _ _ _ c.loop-i.invariant c.loop-i-test.true _ chosen _ _ c.admit.ensures
    ∙ started_long _ _ (let room = c.requires.room in omega arith) c.start-line.ensures.1

pub returns-then-is_err : goal.returns-then-is_err
returns-then-is_err c =
    let chosen = read (goal.at.returns-then-is_err c).Joined-kind-eq-HALT in
    let met = met_of c.admit.result (sym c.is_err.ensures.value ∙ c.if-is_err.true) in
    set_of_lent _ _ _ _ _ (let room = c.requires.room in omega arith) c.start-line.ensures.1
    (stops_broken _ _ _ _ c.loop-i.invariant c.loop-i-test.true _ chosen _ _ c.admit.ensures _ met.1)

pub after-line-requires : goal.after-line-requires
after-line-requires c =
    let chosen = read (goal.at.after-line-requires c).Joined-kind-eq-HALT in
    can_move _ _ _ _ c.loop-i.invariant c.loop-i-test.true _ chosen _ _ c.admit.ensures (none_of c.admit.result (sym c.is_err.ensures.value ∙ c.if-is_err.false))

pub loop-i-preserved : goal.loop-i-preserved
loop-i-preserved c =
    let chosen = read (goal.at.loop-i-preserved c).Joined-kind-eq-HALT in
    converting_more _ _ _ _ c.loop-i.invariant c.loop-i-test.true _ chosen _ _ c.admit.ensures c.requires.of_operands
    (none_of c.admit.result (sym c.is_err.ensures.value ∙ c.if-is_err.false)) _ c.after-line.ensures

pub shape_of-ws : goal.shape_of-ws
shape_of-ws c =
    c.loop-i.invariant.beyond.long ∙ started_long _ _ (let room = c.requires.room in omega arith) c.start-line.ensures.1

pub returns : goal.returns
returns c =
    set_of_lent _ _ _ _ _ (let room = c.requires.room in omega arith) c.start-line.ensures.1
    (converting_ends _ _ _ _ c.loop-i.invariant c.loop-i-test.false)

pub resumes-operand-requires : goal.resumes-operand-requires
resumes-operand-requires c = line_sound _ _ _ _ c.loop-i.invariant c.loop-i-test.true

pub admit-requires : goal.admit-requires
admit-requires c = line_sound _ _ _ _ c.loop-i.invariant c.loop-i-test.true
