-- The output in a lent buffer: one law for each loop and each `return` of the functions that put bytes. Assumes nothing.
use Prim.Native.Nat.{ℕ, zero, suc, ◌+◌, ◌/◌, ◌%◌, ◌≤◌, ◌<◌, min}
use native.Mathlib.Numerals.{add-one}
use native.Mathlib.Omega.{arith}
use mathlib.Core.Path.{◌≡◌, refl, ap, ◌∙◌}
use mathlib.Core.List.{List, [], ◌∷◌, ◌++◌}
use lib.ListN.{length, get_or, take, drop, set}
use lib.Seq.{drop-cons}
use borrow.Author.Tests.{lt-ltb, le-ltb}
use Rattle.numbers.specs.Decimal.{decimal}
use Rattle.output.specs.Output.{rest, order_line, Buffer, buffer, add_byte, add}
use Rattle.numbers.proofs.Decimal.{decimal_digit, NUMBERS, decimal_split}

pub add_append : (b : Buffer) (s t : List ℕ) → add b (s ++ t) ≡ add (add b s) t
add_append b [] t = refl
add_append b (byte ∷ s) t = add_append (add_byte b byte) s t

-- ---- `put_byte`

pub byte_left_out : (out : List ℕ) (at byte : ℕ) → length out ≤ at → buffer out at ≡ add_byte (buffer out at) byte
unfolding add_byte
byte_left_out out at byte h = rw (le-ltb at (length out) h)

pub byte_put : (out : List ℕ) (at byte : ℕ) → at < length out → buffer (set out at byte) (at + 1) ≡ add_byte (buffer out at) byte
unfolding add_byte
byte_put out at byte h = rw (lt-ltb at (length out) h)

-- ---- `put_number` and `put_next`

module _ (b : Buffer) (n : ℕ) where
  pub number_digit : n < 10 → (last : Buffer) → last ≡ add_byte b (48 + n) → last ≡ add b (decimal n)
  number_digit h last e = rw (decimal_digit n h) e

  pub number_more : 10 ≤ n → n < NUMBERS → (b₁ : Buffer) → b₁ ≡ add b (decimal (n / 10)) → (b₂ : Buffer) → b₂ ≡ add_byte b₁ (48 + n % 10)
      → b₂ ≡ add b (decimal n)
  number_more h k b₁ e b₂ f = rw (decimal_split n h k, add_append b (decimal (n / 10)) ((48 + n % 10) ∷ []), ← e) f

  pub next_put : (b₁ : Buffer) → b₁ ≡ add_byte b 32 → (b₂ : Buffer) → b₂ ≡ add b₁ (decimal n) → b₂ ≡ add b (32 ∷ decimal n)
  next_put b₁ e b₂ f = f ∙ ap (λ (z : Buffer). add z (decimal n)) e

-- ---- `put_rest`

pub rest_more : (now whole : Buffer) (cells : List ℕ) (i : ℕ) → add now (rest (drop i cells)) ≡ whole → i < length cells → (next : Buffer)
    → next ≡ add now (32 ∷ decimal (get_or cells i 0)) → add next (rest (drop (i + 1) cells)) ≡ whole
rest_more now whole cells i p h next e =
    rw (e, add-one, ← add_append now (32 ∷ decimal (get_or cells i 0)) (rest (drop (suc i) cells))) (rw (drop-cons cells i 0 h) at p)

-- ---- `put_order`

take_min : (count : ℕ) (order : List ℕ) → take count order ≡ take (min count (length order)) order
take_min zero order = let e : min 0 (length order) ≡ 0 = omega arith in rw e
take_min (suc count) [] = let e : min (suc count) 0 ≡ 0 = omega arith in rw e
take_min (suc count) (x ∷ order) =
    let e : min (suc count) (suc (length order)) ≡ suc (min count (length order)) = omega arith in
    rw (e, ← take_min count order)

-- The first cell and the others of an order.
pub order_put : (b : Buffer) (order : List ℕ) (count end : ℕ) → end ≡ min count (length order) → (first : ℕ) (more : List ℕ)
    → take end order ≡ first ∷ more → (b₁ : Buffer) → b₁ ≡ add b (decimal first) → (b₂ : Buffer) → b₂ ≡ add b₁ (rest more)
    → b₂ ≡ add b (order_line (take count order))
order_put b order count end is first more cells b₁ e b₂ f =
    rw (take_min count order, ← is, cells, add_append b (decimal first) (rest more), ← e) f

-- ---- the lines of an output

module _ (b : Buffer) (word : List ℕ) (b₁ : Buffer) (e₁ : b₁ ≡ add b word) (m : ℕ) (b₂ : Buffer) (e₂ : b₂ ≡ add b₁ (32 ∷ decimal m)) where
  pub one_number : (b₃ : Buffer) → b₃ ≡ add_byte b₂ 10 → b₃ ≡ add b (word ++ rest (m ∷ []))
  one_number b₃ e₃ =
      rw (add_append b word (rest (m ∷ [])), ← e₁, add_append b₁ (32 ∷ decimal m) (10 ∷ []), ← e₂) e₃

  pub two_numbers : (n : ℕ) (b₃ : Buffer) → b₃ ≡ add b₂ (32 ∷ decimal n) → (b₄ : Buffer) → b₄ ≡ add_byte b₃ 10 → b₄ ≡ add b (word ++ rest (m ∷ n ∷ []))
  two_numbers n b₃ e₃ b₄ e₄ =
      rw (
        add_append b word (rest (m ∷ n ∷ [])),
        ← e₁,
        add_append b₁ (32 ∷ decimal m) (rest (n ∷ [])),
        ← e₂,
        add_append b₂ (32 ∷ decimal n) (10 ∷ []),
        ← e₃,
      )
      e₄

pub three_lines : (b : Buffer) (s t u : List ℕ) (b₁ : Buffer) → b₁ ≡ add b s → (b₂ : Buffer) → b₂ ≡ add b₁ t → (b₃ : Buffer) → b₃ ≡ add b₂ u
    → b₃ ≡ add b (s ++ (t ++ u))
three_lines b s t u b₁ e₁ b₂ e₂ b₃ e₃ = rw (add_append b s (t ++ u), ← e₁, add_append b₁ t u, ← e₂) e₃
