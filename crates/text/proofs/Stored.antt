-- WHAT `translate` LEAVES, for its callers: where it answers a number, the text is accepted and the first cells of the three slices hold its events
-- (`stored`); where it refuses, the text is refused so (`said_refusal`). Assumes nothing.
use Prim.Native.Nat.{ℕ, ◌≤◌}
use native.Mathlib.Omega.{arith}
use mathlib.Core.Path.{◌≡◌, refl, sym, ap, ◌∙◌}
use mathlib.Core.List.{List, ◌++◌, map}
use lib.ListN.{length, take, replicate, length-append, length-map, length-replicate}
use lib.Seq.{take_at}
use Rattle.std.specs.Prelude.{Result, Ok, Err}
use Rattle.trace.specs.Trace.{Event}
use Rattle.trace.specs.Outcome.{Reply, says, refused}
use Rattle.trace.specs.Slices.{Slices, slices, Room, Translated}
use Rattle.trace.specs.Answers.{reply, translated_of}
use Rattle.trace.specs.declared.Refusal.{Refusal}
use Rattle.trace.proofs.Sizes.{refused_not_says}
use Rattle.trace.proofs.Slices.{After}
use Rattle.form.specs.Decided.{MAX_TEXT_EVENTS}
use Rattle.form.specs.Translation.{translation, translated}
use Rattle.form.proofs.Accepted.{Sized, slices_after}

by_reply : {A : Type 0} {C : Type 0} (reply : Reply A) → ((a : A) → reply ≡ says a → C) → ((number position : ℕ) → reply ≡ refused number position → C) → C
by_reply (says a) f g = f a refl
by_reply (refused number position) f g = g number position refl

says_injective : {A : Type 0} {a b : A} → says a ≡ says b → a ≡ b
says_injective e = cc

refused_injective : {A : Type 0} {m n p q : ℕ} → ◌≡◌ {A = Reply A} (refused m p) (refused n q) → (m ≡ n) × (p ≡ q)
refused_injective e = (cc, cc)

-- Slices that a caller makes for the translation, all 0.
abbrev cells : List ℕ
cells = replicate MAX_TEXT_EVENTS 0

pub fresh_sized : Sized (slices cells cells cells)
fresh_sized = let l : length cells ≡ MAX_TEXT_EVENTS = length-replicate {A = ℕ} MAX_TEXT_EVENTS 0 in record { kinds = l; tasks = l; operands = l }

-- One slice that begins with a part of each event.
module _ (part : Event → ℕ) (es : List Event) (slice rest : List ℕ) (count : ℕ) (counted : count ≡ length es) (holds : slice ≡ map part es ++ rest) where
  part_room : count ≤ length slice
  part_room = omega (arith, ap length holds, length-append (map part es) rest, length-map es part)

  part_taken : take count slice ≡ map part es
  part_taken = rw holds (take_at (map part es) rest count (omega (arith, length-map es part)))

-- The text is accepted, and the first `count` cells of the slices hold its events.
pub record Stored (text kinds tasks operands : List ℕ) (count : ℕ) : Type 0 where
  pub events : List Event
  pub accepted : translation text ≡ says events
  pub counted : count ≡ length events
  pub room : Room (slices kinds tasks operands) count
  pub kinds_are : take count kinds ≡ map (λ e. e.kind) events
  pub tasks_are : take count tasks ≡ map (λ e. e.task) events
  pub operands_are : take count operands ≡ map (λ e. e.operand) events

after_stored : {text kinds tasks operands : List ℕ} {b : Slices} {count : ℕ} (es : List Event) → translation text ≡ says es → count ≡ length es
    → After b es (slices kinds tasks operands) → Stored text kinds tasks operands count
after_stored es e n a =
    record {
      events = es;
      accepted = e;
      counted = n;
      room =
          record {
            kinds = part_room (λ z. z.kind) es _ _ _ n a.kinds;
            tasks = part_room (λ z. z.task) es _ _ _ n a.tasks;
            operands = part_room (λ z. z.operand) es _ _ _ n a.operands;
          };
      kinds_are = part_taken (λ z. z.kind) es _ _ _ n a.kinds;
      tasks_are = part_taken (λ z. z.task) es _ _ _ n a.tasks;
      operands_are = part_taken (λ z. z.operand) es _ _ _ n a.operands;
    }

translated_says : (text : List ℕ) (b : Slices) (es : List Event) → translation text ≡ says es → (translated text b).answer ≡ says (length es)
unfolding translated
translated_says text b es e = rw e

translated_refused : (text : List ℕ) (b : Slices) (number position : ℕ) → translation text ≡ refused number position
    → (translated text b).answer ≡ refused number position
unfolding translated
translated_refused text b number position e = rw e

-- What `translate` answers, and leaves in slices that had the content of b.
module _ (text : List ℕ) (b : Slices) (sized : Sized b) (kinds tasks operands : List ℕ) (r : Result ℕ Refusal)
    (told : translated_of r (slices kinds tasks operands) ≡ translated text b) where
  module _ (count : ℕ) (is-ok : r ≡ Ok count) where
    said_count : says count ≡ (translated text b).answer
    unfolding reply
    said_count = rw is-ok at (ap (λ (z : Translated). z.answer) told)

    pub stored : Stored text kinds tasks operands count
    stored =
        by_reply (translation text)
        (λ es e. let f : says count ≡ says (length es) = said_count ∙ translated_says text b es e in
        after_stored {b = b} es e (says_injective f) (rw (ap (λ (z : Translated). z.slices) told) (slices_after text b es sized e)))
        (λ number position e. absurd (refused_not_says (translated_refused text b number position e) (sym said_count)))

  module _ (x : Refusal) (is-err : r ≡ Err x) where
    said : refused x.number x.position ≡ (translated text b).answer
    unfolding reply
    said = rw is-err at (ap (λ (z : Translated). z.answer) told)

    pub said_refusal : translation text ≡ refused x.number x.position
    said_refusal =
        by_reply (translation text) (λ es f. absurd (refused_not_says (sym said) (translated_says text b es f)))
        (λ number position f. let same = refused_injective (said ∙ translated_refused text b number position f) in f ∙ rw (same.0, same.1))
