-- A SECOND CONVERSION CHANGES NOTHING MORE (`converted_again`): before the first event of a converted trace that breaks a rule, row 12 read as it was, every halt has
-- the operand 0, and so it had before. NOR DOES A TRACE CHANGE THAT KEEPS THE RULES AS THEY ARE NOW (`kept_stays`). Assumes nothing.
use Prim.Native.Nat.{ℕ, zero, suc, ◌<◌, ◌≤◌}
use mathlib.Core.Path.{◌≡◌, refl, sym, ◌∙◌}
use mathlib.Core.List.{List}
use native.Mathlib.Omega.{arith}
use lib.ListN.{get_or}
use lib.Seq.{ext_get_or}
use Rattle.trace.specs.Trace.{Trace, trace_of, HALT}
use Rattle.trace.specs.Line.{halt_operand, halt_operand_before, line_after}
use Rattle.trace.specs.Demands.{KeepsRules}
use Rattle.trace.proofs.Tests.{either, same_or_not, lt_or_le, last_or_below}
use Rattle.trace.proofs.Lines.{passes_earlier, halt_meets, graph_kept, graph_le}
use Rattle.trace.proofs.Congruence.{SameButHalts, same_fewer, line_same}
use Rattle.trace.proofs.SameVerdict.{HaltsMeet, line_carries}
use Rattle.convert.specs.Conversion.{operand_at, first_break, converted_operands}
use Rattle.convert.proofs.EachOperand.{set_at, other_at, later_at}
use Rattle.convert.proofs.Meaning.{converted_length, converted_at, converted_set}

module _ (tr : Trace) (n : ℕ) where
  stop_le : first_break tr n ≤ n
  unfolding first_break
  stop_le = graph_le halt_operand_before tr n

  -- The events before the first that breaks a rule keep them.
  kept_to : (m : ℕ) → m ≤ first_break tr n → KeepsRules halt_operand_before tr m
  unfolding first_break
  kept_to m h =
      let all = graph_kept halt_operand_before tr n in
      let before = passes_earlier halt_operand_before tr m _ all.0 h all.1 in
      record { line = before.0; reached = before.1 }

  -- A halt among them has the operand 0.
  zero_before : (p : ℕ) → p < first_break tr n → tr.kind p ≡ HALT → tr.operand p ≡ 0
  unfolding halt_operand_before
  zero_before p h k =
      let before = kept_to p (omega arith) in
      let after = kept_to (suc p) h in
      halt_meets halt_operand_before tr p before.line after.line before.reached after.reached k

module _ (kinds tasks operands : List ℕ) (n : ℕ) where
  abbrev old : Trace
  old = trace_of kinds tasks operands

  abbrev o : List ℕ
  o = converted_operands old n

  abbrev new : Trace
  new = trace_of kinds tasks o

  new_at : (p : ℕ) → p < n → new.operand p ≡ operand_at old (first_break old n) p
  unfolding trace_of
  new_at p h = converted_at old n p h

  same : SameButHalts old new n
  unfolding trace_of
  same = record { kinds = λ p h. refl; tasks = λ p h. refl; operands = λ p h k. sym ((converted_set old n).others p h k) }

  same_kind : (p : ℕ) → new.kind p ≡ old.kind p
  unfolding trace_of
  same_kind p = refl

  -- Before the first event of the new trace that breaks a rule no halt was set to another task.
  halts_same : (p : ℕ) → p < first_break new n → old.kind p ≡ HALT → old.operand p ≡ new.operand p
  halts_same p h k =
      let few = stop_le new n in
      either (lt_or_le p (first_break old n))
      (λ l. zero_before old n p l k ∙ sym (zero_before new n p h (same_kind p ∙ k)))
      (λ l. sym (new_at p (omega arith) ∙ later_at old n p l))

  lines_same : (m : ℕ) → m ≤ first_break new n → line_after halt_operand_before old m ≡ line_after halt_operand_before new m
  lines_same = line_same halt_operand_before (same_fewer (stop_le new n) same) halts_same

  of_new : (p : ℕ) {value : ℕ} → get_or o p 0 ≡ value → new.operand p ≡ value
  unfolding trace_of
  of_new p e = e

  -- So what a second conversion sets is there already.
  again_at : (p : ℕ) → p < n → operand_at new (first_break new n) p ≡ new.operand p
  again_at p h =
      either (same_or_not (new.kind p) HALT)
      (λ k.
      either (lt_or_le p (first_break new n))
      (λ l.
      let before = kept_to new n p (omega arith) in
      let after = kept_to new n (suc p) l in
      let set = (converted_set old n).sets p before.line h (sym (same_kind p) ∙ k)
      (record { line = after.line; reached = lines_same (suc p) l ∙ after.reached }) (lines_same p (omega arith) ∙ before.reached) in
      set_at new n p before.line l k before.reached ∙ sym (of_new p set))
      (λ l. later_at new n p l))
      (λ k. other_at new n p k)

  pub converted_again : converted_operands new n ≡ o
  unfolding trace_of
  converted_again =
      let long = converted_length new n in
      ext_get_or 0 (converted_operands new n) o (converted_length new n ∙ sym (converted_length old n))
      (λ p h. converted_at new n p (omega arith) ∙ again_at p (omega arith))

-- ---- a trace that keeps the rules as they are now

module _ (tr : Trace) (n : ℕ) (kept : KeepsRules halt_operand tr n) where
  itself : (m : ℕ) → SameButHalts tr tr m
  itself m = record { kinds = λ p h. refl; tasks = λ p h. refl; operands = λ p h k. refl }

  -- A halt that keeps the rules that were has the operand that is asked for now: up to there the line is the same by both.
  named_now : (m : ℕ) → m ≤ n → HaltsMeet halt_operand_before halt_operand tr tr m
  named_now zero h p i k line next before after = absurd (omega arith)
  named_now (suc m) h p i k line next before after =
      either (last_or_below p m i)
      (λ e.
      let here = line_carries halt_operand_before halt_operand tr tr (itself m) (named_now m (omega arith)) p (omega arith) line before in
      let there = passes_earlier halt_operand tr (suc p) n kept.line (omega arith) kept.reached in
      halt_meets halt_operand tr p line there.0 here there.1 k)
      (λ l. named_now m (omega arith) p l k line next before after)

  pub kept_stays : (p : ℕ) → p < n → operand_at tr (first_break tr n) p ≡ tr.operand p
  kept_stays p h =
      either (same_or_not (tr.kind p) HALT)
      (λ k.
      either (lt_or_le p (first_break tr n))
      (λ l.
      let before = kept_to tr n p (omega arith) in
      let after = kept_to tr n (suc p) l in
      set_at tr n p before.line l k before.reached
      ∙ sym (named_now n (omega arith) p h k before.line after.line before.reached after.reached))
      (λ l. later_at tr n p l))
      (λ k. other_at tr n p k)
