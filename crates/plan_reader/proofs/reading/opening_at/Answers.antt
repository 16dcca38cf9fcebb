-- `opening_at` meets its contract: the reader counts the position after the location from the bytes that are left. Assumes nothing.
use Rattle.std.proofs.Common.{arith, sym, ap, ◌∙◌, Some}
use Rattle.plan.specs.declared.Letter.{Letter}
use Rattle.plan_reader.proofs.Rows.{opening_leaf}
use Rattle.plan_reader.proofs.reading.opening_at.Goals as goal

pub returns-in_ok-location-in-Leaf : goal.returns-in_ok-location-in-Leaf
returns-in_ok-location-in-Leaf c =
    let found = c.in_ok-byte.ensures.ok_part in
    let there = rw found at c.get.ensures.lookup.3 in
    let byte = rw found at (c.get.ensures.lookup.4 (omega arith) 0) in
    let spelt = sym c.letter_of.ensures ∙ (c.in_ok-access.ensures.ok_part ∙ ap (λ (x : Letter). Some x) c.in-Leaf.is) in
    opening_leaf _ _ _ there.0 _ (rw (← byte) spelt) _ c.number_at.ensures.read c.number_at.ensures.within _ c.in_ok-location-in-Leaf.ensures.ok_part
