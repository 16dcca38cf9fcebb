-- The laws behind the reads: the bytes that they gave stand at the start of the buffer, in order (`reads_held`), and one more read goes on or ends the reading
-- as the promise says (`turned`). Assumes nothing.
use Prim.Native.Nat.{ℕ, zero, suc, ◌+◌, ◌≤◌, ◌<◌}
use native.Mathlib.Omega.{arith}
use mathlib.Core.Path.{◌≡◌, refl, sym, ap, subst, ◌∙◌}
use mathlib.Core.Bool.{Bool, true, false, cond}
use mathlib.Core.List.{List, [], ◌++◌}
use lib.Dec.{ltb}
use lib.ListN.{length, take, drop, length-append, length-drop, take-append-drop}
use lib.IntN.{ℤ, pos, negsuc}
use lib.Seq.{length-take-le, take-append-add}
use borrow.Author.Tests.{ltb-true, ltb-false}
use Rattle.std.specs.Prelude.{Result, Ok, Err}
use Rattle.std.specs.declared.ops.ControlFlow.TheVariants.{Continue, Break}
use Rattle.input.specs.declared.InputError.{InputError}
use Rattle.input.specs.declared.InputError.TheVariants.{Failed, Arguments}
use Rattle.input.specs.Reading.{OneRead, Turn, decided, ReadOnce, Reads, none, more, full, ended, TextRead, Received}

-- ---- reads, one after the other

-- One read's bytes behind those that were there.
module _ (before after bytes : List ℕ) (got : ℕ) (one : OneRead (length bytes) before after (pos got)) (room : length bytes ≤ length before) where
  chunk_length : length (take got (drop (length bytes) after)) ≡ got
  chunk_length = length-take-le got (drop (length bytes) after) (omega (arith, one.moved, one.long, length-drop (length bytes) after))

  read_length : length (bytes ++ take got (drop (length bytes) after)) ≡ length bytes + got
  read_length = omega (arith, chunk_length, length-append bytes (take got (drop (length bytes) after)))

  read_held : take (length bytes) before ≡ bytes → take (length (bytes ++ take got (drop (length bytes) after))) after
      ≡ bytes ++ take got (drop (length bytes) after)
  read_held held =
      let split : after ≡ bytes ++ drop (length bytes) after
      = sym (take-append-drop (length bytes) after) ∙ ap (λ (z : List ℕ). z ++ drop (length bytes) after) (one.kept ∙ held) in
      rw read_length
      (ap (λ (z : List ℕ). take (length bytes + got) z) split ∙ take-append-add bytes (drop (length bytes) after) got)

pub reads_within : (start after bytes : List ℕ) → Reads start after bytes → length bytes ≤ length after
reads_within start _ _ none = omega arith
reads_within start _ _ (more {before} {after} {bytes} got reads some one) =
    let room = reads_within start before bytes reads in
    omega (arith, read_length before after bytes got one room, one.moved, one.long)

pub reads_held : (start after bytes : List ℕ) → Reads start after bytes → take (length bytes) after ≡ bytes
reads_held start _ _ none = refl
reads_held start _ _ (more {before} {after} {bytes} got reads some one) =
    read_held before after bytes got one (reads_within start before bytes reads) (reads_held start before bytes reads)

-- ---- the loop of `read_text`

-- The reads so far filled so many bytes.
pub record Begun (start text : List ℕ) (filled : ℕ) : Type 0 where
  pub bytes : List ℕ
  pub reads : Reads start text bytes
  pub counted : filled ≡ length bytes

pub begins : (text : List ℕ) → Begun text text 0
begins text = record { bytes = []; reads = none; counted = refl }

pub begun_within : (start text : List ℕ) (filled : ℕ) → Begun start text filled → filled ≤ length text
begun_within start text filled begun = omega (arith, begun.counted, reads_within start text begun.bytes begun.reads)

-- What a turn comes to, by what its read decides.
abbrev pub Turned : List ℕ → List ℕ → ℕ → Turn → Type 0
Turned start after filled (Continue total) = Begun start after total × (filled < total) × (total < length after)
Turned start after filled (Break input) = TextRead start after input

module _ (start before after : List ℕ) (filled : ℕ) (begun : Begun start before filled) where
  -- The read, behind the bytes themselves.
  behind : (got : ℤ) → OneRead filled before after got → OneRead (length begun.bytes) before after got
  behind got one = subst (λ (n : ℕ). OneRead n before after got) begun.counted one

  more_bytes : (n : ℕ) → OneRead filled before after (pos (suc n)) → Begun start after (filled + suc n)
  more_bytes n one =
      let b = begun.bytes in
      let room = reads_within start before b begun.reads in
      record {
        bytes = b ++ take (suc n) (drop (length b) after);
        reads = more (suc n) begun.reads (omega arith) (behind (pos (suc n)) one);
        counted = omega (arith, begun.counted, read_length before after b (suc n) (behind (pos (suc n)) one) room);
      }

  by_room : (n : ℕ) → OneRead filled before after (pos (suc n)) → (b : Bool) → ltb (filled + suc n) (length before) ≡ b
      → Turned start after filled (cond b (Continue (filled + suc n)) (Break (Ok (filled + suc n))))
  by_room n one true e = (more_bytes n one, omega arith, omega (arith, ltb-true (filled + suc n) (length before) e, one.long))
  by_room n one false e =
      let now = more_bytes n one in
      let within = reads_within start after now.bytes now.reads in
      record {
        bytes = now.bytes;
        before = after;
        reads = now.reads;
        whole = full (omega (arith, now.counted, ltb-false (filled + suc n) (length before) e, one.long)) refl;
        counted = now.counted;
        held = rw now.counted (reads_held start after now.bytes now.reads);
      }

  turned_by : (got : ℤ) → OneRead filled before after got → Turned start after filled (decided got filled (length before))
  unfolding decided
  turned_by (negsuc n) one =
      record { bytes = begun.bytes; before = before; reads = begun.reads; code = n; last = behind (negsuc n) one }
  turned_by (pos zero) one =
      record {
        bytes = begun.bytes;
        before = before;
        reads = begun.reads;
        whole = ended (behind (pos zero) one);
        counted = begun.counted;
        held = one.kept ∙ rw begun.counted (reads_held start before begun.bytes begun.reads);
      }
  turned_by (pos (suc n)) one = by_room n one (ltb (filled + suc n) (length before)) refl

  pub turned : (step step' : Turn) → ReadOnce filled before after step → step ≡ step' → Turned start after filled step'
  turned step step' once e = rw (sym e ∙ once.decides) (turned_by once.got once.read)

-- ---- what `Received` says of the words, and the row of `receive` with no arguments

-- With arguments the buffer is as it was.
pub received_arguments : (words : ℕ) (start after : List ℕ) (input : Result ℕ InputError) → 1 < words → Received words start after input
    → (input ≡ Err Arguments) × (after ≡ start)
received_arguments words start after (Ok count) h received = let few = received.0 in absurd (omega arith)
received_arguments words start after (Err Failed) h received = let few = received.0 in absurd (omega arith)
received_arguments words start after (Err Arguments) h received = (refl, received.1)

pub received_alone : (words : ℕ) (start after : List ℕ) (input : Result ℕ InputError) → words ≤ 1 → TextRead start after input → Received words start after input
received_alone words start after (Ok count) h read = (h, read)
received_alone words start after (Err Failed) h read = (h, read)
received_alone words start after (Err Arguments) h read = absurd read
