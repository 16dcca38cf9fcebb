-- The depths of the two stacks after an event, by its kind. Assumes nothing.
use Prim.Native.Nat.{ℕ, ◌+◌, ◌-◌}
use mathlib.Core.Path.{◌≡◌, ap, ap₂, ◌∙◌}
use mathlib.Core.Logic.{◌≢◌}
use native.Mathlib.Omega.{arith}
use lib.Dec.{eqb}
use mir.Val.{bool_byte}
use borrow.Author.Tests.{eq-eqb, ne_eqb}
use Rattle.trace.specs.Trace.{FORK, JOIN, HALT, is_access}
use Rattle.trace.proofs.Tests.{by_test, either, same_or_not}
use Rattle.line.specs.declared.Line.{Line}
use Rattle.line.specs.Rules.{rule_of}
use Rattle.line.specs.Cells.{depths}
use Rattle.line.specs.Steps.{after_in}
use Rattle.line.proofs.Rows.{rule_fork, rule_join, rule_halt}

counts : {n a b : ℕ} → n ≡ bool_byte (eqb a b) → a ≡ b → n ≡ 1
counts {a = a} {b = b} e same = e ∙ ap bool_byte (eq-eqb a b same)

counts_not : {n a b : ℕ} → n ≡ bool_byte (eqb a b) → a ≢ b → n ≡ 0
counts_not {a = a} {b = b} e other = e ∙ ap bool_byte (ne_eqb a b other)

module _ (line : Line) (kind : ℕ) where
  pub after_fork : kind ≡ FORK → depths (line.active + 1) line.left ≡ after_in line (rule_of kind)
  after_fork e = ap (after_in line) (rule_fork kind e)

  pub after_join : kind ≡ JOIN → depths line.active (line.left - 1) ≡ after_in line (rule_of kind)
  after_join e = ap (after_in line) (rule_join kind e)

  pub after_halt : kind ≡ HALT → depths (line.active - 1) (line.left + 1) ≡ after_in line (rule_of kind)
  after_halt e = ap (after_in line) (rule_halt kind e)

  pub after_other : kind ≢ FORK → kind ≢ JOIN → kind ≢ HALT → line ≡ after_in line (rule_of kind)
  unfolding rule_of
  after_other fork join halt =
      rw (ne_eqb kind FORK fork, ne_eqb kind JOIN join, ne_eqb kind HALT halt)
      (by_test (is_access kind) (λ e. rw e) (λ e. rw e))

  -- Each test of the code counts 1 or 0, and at most one of the three counts.
  pub after_computed :
      {fork join halt : ℕ} → fork ≡ bool_byte (eqb kind FORK) → join ≡ bool_byte (eqb kind JOIN) → halt ≡ bool_byte (eqb kind HALT)
      → depths (line.active + fork - halt) (line.left + halt - join) ≡ after_in line (rule_of kind)
  after_computed {fork} {join} {halt} forks joins halts =
      either (same_or_not kind FORK)
      (λ e.
      let j = counts_not joins (λ g. absurd (omega (arith, e, g))) in
      let h = counts_not halts (λ g. absurd (omega (arith, e, g))) in
      ap₂ depths (omega (arith, counts forks e, h)) (omega (arith, j, h)) ∙ after_fork e)
      (λ f.
      either (same_or_not kind JOIN)
      (λ e.
      let h = counts_not halts (λ g. absurd (omega (arith, e, g))) in
      ap₂ depths (omega (arith, counts_not forks f, h)) (omega (arith, counts joins e, h)) ∙ after_join e)
      (λ j.
      either (same_or_not kind HALT)
      (λ e. ap₂ depths (omega (arith, counts_not forks f, counts halts e)) (omega (arith, counts_not joins j, counts halts e)) ∙ after_halt e)
      (λ h. ap₂ depths (omega (arith, counts_not forks f, counts_not halts h)) (omega (arith, counts_not joins j, counts_not halts h)) ∙ after_other f j h)))
