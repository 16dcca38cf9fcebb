-- `ordering::answer` meets its contract. Assumes nothing.
use Prim.Native.Nat.{suc}
use mathlib.Core.Path.{refl}
use native.Mathlib.Omega.{arith}
use Rattle.trace.specs.Answers.{ordering_reply}
use Rattle.ranks.proofs.Counting.{segments_less}
use Rattle.ordering.proofs.Answering.{says_broken, says_unknown, says_known, replied}
use Rattle.ordering.proofs.answer.Goals as goal

pub reaches-requires : goal.reaches-requires
reaches-requires c =
    let a = c.args in
    let p = c.if-p-ranked.true in
    let q = c.if-q-ranked.true in
    (segments_less (suc a.p) (omega (arith, p)) c.requires, segments_less (suc a.q) (omega (arith, q)) c.requires)

pub returns-in-Some : goal.returns-in-Some
unfolding ordering_reply
returns-in-Some c = says_broken _ _ _ _ _ _ _ c.in-Some.is (rw c.at.ensures refl)

pub returns-then-q-ranked : goal.returns-then-q-ranked
returns-then-q-ranked c = search (says_known, replied)

pub returns : goal.returns
unfolding ordering_reply
returns c = says_unknown _ _ _ _ _ _ c.in_default.is c.else-p-ranked.either (rw c.at-2.ensures refl)
