-- A move in the cells is a move of the segments: the next one is put after its source, and the stacks go on. Assumes nothing.
use Prim.Native.Nat.{ℕ, suc, ◌+◌, ◌-◌, ◌<◌, ◌≤◌}
use mathlib.Core.Path.{◌≡◌, sym, ap, subst, ◌∙◌}
use mathlib.Core.Bool.{cond}
use mathlib.Core.List.{List, [], ◌∷◌, tail}
use mathlib.Core.Logic.{◌≢◌}
use native.Mathlib.Omega.{arith}
use lib.Dec.{eqb, ltb}
use lib.ListN.{length, get_or, set, length-set}
use lib.Seq.{get_or-set_same, get_or-set_other}
use borrow.Author.Tests.{lt-ltb, le-ltb}
use Rattle.trace.specs.Trace.{FORK, JOIN, HALT, TASKS, WORKSPACE_CELLS}
use Rattle.segments.specs.Segments.{top}
use Rattle.trace.proofs.Tests.{by_test, either}
use Rattle.segments.proofs.SegmentCells.{link_in_length, link_in_frame}
use Rattle.line.specs.declared.Line.{Line}
use Rattle.line.specs.Held.{StackAt, OfLine}
use Rattle.line.proofs.Moves.{stack_frame}
use Rattle.ranks.specs.Lists.{FORKS, HALTS, NEXT, SEGMENTS, source_in, pushed_in, opened_in}

-- ---- which cells change

module _ (c : List ℕ) (line : Line) (kind g : ℕ) where
  pub pushed_length : length (pushed_in c line kind g) ≡ length c
  unfolding pushed_in
  pushed_length =
      by_test (eqb kind FORK) (λ e. rw e (length-set c (FORKS + line.active - 1) g))
      (λ e. by_test (eqb kind HALT) (λ f. rw (e, f) (length-set c (HALTS + line.left) g)) (λ f. rw (e, f)))

  pub pushed_other : (i : ℕ) → i ≢ FORKS + line.active - 1 → i ≢ HALTS + line.left → get_or (pushed_in c line kind g) i 0 ≡ get_or c i 0
  unfolding pushed_in
  pushed_other i a b =
      by_test (eqb kind FORK) (λ e. rw e (get_or-set_other c (FORKS + line.active - 1) i g 0 a))
      (λ e. by_test (eqb kind HALT) (λ f. rw (e, f) (get_or-set_other c (HALTS + line.left) i g 0 b)) (λ f. rw (e, f)))

  pub opened_length : length (opened_in c line kind g) ≡ length c
  unfolding opened_in
  opened_length = link_in_length NEXT (source_in c line kind g) (g + 1) (pushed_in c line kind g) ∙ pushed_length

  -- The list's tables do not meet the stacks'.
  pub opened_stacks : (i : ℕ) → i < NEXT → get_or (opened_in c line kind g) i 0 ≡ get_or (pushed_in c line kind g) i 0
  unfolding opened_in
  opened_stacks i h = link_in_frame NEXT (source_in c line kind g) (g + 1) i (pushed_in c line kind g) (λ e. omega arith) (λ e. omega arith)

  -- Nor do the line's; and past the tables no cell changes.
  module _ (some : 0 < line.active) (few_active : line.active ≤ TASKS) (few_left : line.left ≤ TASKS) where
    pub opened_line : (i : ℕ) → OfLine i → get_or (opened_in c line kind g) i 0 ≡ get_or c i 0
    opened_line i w =
        opened_stacks i (either w (λ h. omega arith) (λ h. omega arith))
        ∙ pushed_other i (λ e. either w (λ h. omega arith) (λ h. omega arith)) (λ e. either w (λ h. omega arith) (λ h. omega arith))

    pub opened_beyond : g + 1 < SEGMENTS → source_in c line kind g < SEGMENTS → (i : ℕ) → WORKSPACE_CELLS ≤ i →
        get_or (opened_in c line kind g) i 0 ≡ get_or c i 0
    unfolding opened_in
    opened_beyond few_g few-m i h =
        link_in_frame NEXT (source_in c line kind g) (g + 1) i (pushed_in c line kind g) (λ e. omega arith) (λ e. omega arith)
        ∙ pushed_other i (λ e. omega arith) (λ e. omega arith)

    -- The push does not meet the list.
    pub pushed_list : (i : ℕ) → NEXT ≤ i → get_or (pushed_in c line kind g) i 0 ≡ get_or c i 0
    pushed_list i h = pushed_other i (λ e. omega arith) (λ e. omega arith)

-- ---- stacks

stack_pushed : (c : List ℕ) (base at y : ℕ) (l : List ℕ) → at ≡ base + length l → at < length c → StackAt c base l → StackAt (set c at y) base (y ∷ l)
stack_pushed c base at y l e h s = (
  ap (λ (i : ℕ). get_or (set c at y) i 0) (sym e) ∙ get_or-set_same c at y 0 h,
  stack_frame c (set c at y) base l (λ i k. get_or-set_other c at (base + i) y 0 (λ q. omega arith)) s,
)

stack_tail : (c : List ℕ) (base : ℕ) (l : List ℕ) → StackAt c base l → StackAt c base (tail l)
stack_tail c base [] s = s
stack_tail c base (y ∷ l) s = s.1

stack_top : (c : List ℕ) (base at g : ℕ) (l : List ℕ) → StackAt c base l → at + 1 ≡ base + length l → 0 < length l → get_or c at 0 ≡ top g l
unfolding top
stack_top c base at g [] s e h = absurd (omega arith)
stack_top c base at g (y ∷ l) s e h = let i : at ≡ base + length l = omega arith in ap (λ (j : ℕ). get_or c j 0) i ∙ s.0

-- ---- the three moves

-- Where the next segment is put, and the stacks that are left.
pub record Opened (c : List ℕ) (line : Line) (kind g m : ℕ) (forks halts : List ℕ) : Type 0 where
  pub source_is : source_in c line kind g ≡ m
  pub of_forks : StackAt (opened_in c line kind g) FORKS forks
  pub of_halts : StackAt (opened_in c line kind g) HALTS halts

module _ (c : List ℕ) (line : Line) (kind g : ℕ) (forks halts : List ℕ) (room : WORKSPACE_CELLS ≤ length c) (of_forks : StackAt c FORKS forks)
    (of_halts : StackAt c HALTS halts) (active : line.active ≡ suc (length forks)) (left : line.left ≡ length halts)
    (few_active : line.active ≤ TASKS) (few_left : line.left ≤ TASKS) where
  -- What the link leaves of a stack.
  kept : (base : ℕ) (l : List ℕ) → base + length l ≤ NEXT → StackAt (pushed_in c line kind g) base l → StackAt (opened_in c line kind g) base l
  kept base l h = stack_frame (pushed_in c line kind g) (opened_in c line kind g) base l (λ i k. opened_stacks c line kind g (base + i) (omega arith))

  pub open_fork : kind ≡ FORK → Opened c line kind g g (g ∷ forks) halts
  unfolding source_in pushed_in
  open_fork k =
      let e : pushed_in c line kind g ≡ set c (FORKS + line.active - 1) g = rw k in
      record {
        source_is = rw k;
        of_forks = kept FORKS (g ∷ forks) (omega arith) (subst (λ (x : List ℕ). StackAt x FORKS (g ∷ forks)) (sym e)
            (stack_pushed c FORKS (FORKS + line.active - 1) g forks (omega arith) (omega arith) of_forks));
        of_halts = kept HALTS halts (omega arith) (subst (λ (x : List ℕ). StackAt x HALTS halts) (sym e) (stack_frame c (set c (FORKS + line.active - 1) g) HALTS halts
            (λ i h. get_or-set_other c (FORKS + line.active - 1) (HALTS + i) g 0 (λ q. omega arith)) of_halts));
      }

  pub open_join : kind ≡ JOIN → 0 < line.left → Opened c line kind g (top g halts) forks (tail halts)
  unfolding source_in pushed_in
  open_join k some =
      record {
        source_is = rw k (stack_top c HALTS (HALTS + line.left - 1) g halts of_halts (omega arith) (omega arith));
        of_forks = kept FORKS forks (omega arith) (rw k of_forks);
        of_halts = stack_tail (opened_in c line kind g) HALTS halts (kept HALTS halts (omega arith) (rw k of_halts));
      }

  halt_source : (l : List ℕ) → StackAt c FORKS l → line.active ≡ suc (length l) →
      cond (ltb 1 line.active) (get_or c (FORKS + line.active - 2) 0) g ≡ top g l
  unfolding top
  halt_source [] s e = rw (le-ltb 1 line.active (omega arith))
  halt_source (y ∷ l) s e =
      rw (lt-ltb 1 line.active (omega arith)) (stack_top c FORKS (FORKS + line.active - 2) g (y ∷ l) s (omega arith) (omega arith))

  pub open_halt : kind ≡ HALT → Opened c line kind g (top g forks) (tail forks) (g ∷ halts)
  unfolding source_in pushed_in
  open_halt k =
      let e : pushed_in c line kind g ≡ set c (HALTS + line.left) g = rw k in
      record {
        source_is = rw k (halt_source forks of_forks active);
        of_forks = stack_tail (opened_in c line kind g) FORKS forks (kept FORKS forks (omega arith) (subst (λ (x : List ℕ). StackAt x FORKS forks) (sym e) (stack_frame c (set c (HALTS + line.left) g) FORKS forks
            (λ i h. get_or-set_other c (HALTS + line.left) (FORKS + i) g 0 (λ q. omega arith)) of_forks)));
        of_halts = kept HALTS (g ∷ halts) (omega arith) (subst (λ (x : List ℕ). StackAt x HALTS (g ∷ halts)) (sym e)
            (stack_pushed c HALTS (HALTS + line.left) g halts (omega arith) (omega arith) of_halts));
      }
