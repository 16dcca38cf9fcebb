-- WHAT IS READ. The contract of `read` bounds the number that it gives, and says nothing of the bytes of standard input. So what was read is stated over reads:
-- there are some that give this buffer and this count. That they are the calls which the code makes no contract can say: it is trusted of the few lines that make
-- them. What the number of a read decides is no matter of trust: `decided` is an equation. Assumes nothing.
use Rattle.std.specs.Prelude.{ℕ, zero, suc, ◌+◌, ◌-◌, ◌≤◌, ◌<◌, ◌≡◌, cond, List, [], ◌++◌, ltb, length, take, drop, ℤ, pos, negsuc}
use Rattle.std.specs.Prelude.{Option, Some, None, Result, Ok, Err}
use Rattle.std.specs.declared.ops.ControlFlow.{ControlFlow}
use Rattle.std.specs.declared.ops.ControlFlow.TheVariants.{Continue, Break}
use Rattle.input.specs.declared.InputError.{InputError}
use Rattle.input.specs.declared.InputError.TheVariants.{Failed, Arguments}

-- ---- one read

-- The number of a read for which there was room for n bytes: -1, or how many it gave, at most n.
abbrev pub Moved : ℕ → ℤ → Type 0
Moved n (pos k) = k ≤ n
Moved n (negsuc k) = k ≡ 0

-- The number of a read, from what the code knows of it.
abbrev pub number_of : Option ℕ → ℤ
number_of (Some k) = pos k
number_of None = negsuc 0

-- One read into the bytes of a buffer behind the first `filled`: the number that it gave is -1, or at most as many as there was room for; the length and the
-- first bytes stay.
pub record OneRead (filled : ℕ) (before after : List ℕ) (got : ℤ) : Type 0 where
  pub moved : Moved (length before - filled) got
  pub long : length after ≡ length before
  pub kept : take filled after ≡ take filled before

-- ---- reads, one after the other

-- Reads that each gave a byte at least, from the buffer at the start: the buffer that they left, and the bytes that they gave, in order. Those of one read
-- stand behind the bytes that were there before it.
pub data Reads (start : List ℕ) : List ℕ → List ℕ → Type 0 where
  none : Reads start start []
  more : {before after bytes : List ℕ} (got : ℕ) → Reads start before bytes → 0 < got → OneRead (length bytes) before after (pos got)
      → Reads start after (bytes ++ take got (drop (length bytes) after))

-- Why no more is read: the buffer is full, or one more read gave 0, which is the end of the input.
pub data Whole (before bytes after : List ℕ) : Type 0 where
  full : length bytes ≡ length after → before ≡ after → Whole before bytes after
  ended : OneRead (length bytes) before after (pos 0) → Whole before bytes after

-- THE TEXT AS READ: the first `count` bytes of the buffer are the bytes that the reads gave, in order, and they are all that fit, or all there are.
pub record AsRead (start after : List ℕ) (count : ℕ) : Type 0 where
  pub bytes : List ℕ
  pub before : List ℕ
  pub reads : Reads start before bytes
  pub whole : Whole before bytes after
  pub counted : count ≡ length bytes
  pub held : take count after ≡ bytes

-- A read that failed: one that gave a negative number, after others.
pub record ReadFailed (start after : List ℕ) : Type 0 where
  pub bytes : List ℕ
  pub before : List ℕ
  pub reads : Reads start before bytes
  pub code : ℕ
  pub last : OneRead (length bytes) before after (negsuc code)

-- What was read of standard input, from the buffer at the start.
abbrev pub TextRead : List ℕ → List ℕ → Result ℕ InputError → Type 0
TextRead start after (Ok count) = AsRead start after count
TextRead start after (Err Failed) = ReadFailed start after
TextRead start after (Err Arguments) = ⊥

-- WHAT A PROGRAM TAKES IN that was started with `words` words, its own name among them. It takes no arguments: with any, nothing is read.
abbrev pub Received : ℕ → List ℕ → List ℕ → Result ℕ InputError → Type 0
Received words start after (Ok count) = (words ≤ 1) × AsRead start after count
Received words start after (Err Failed) = (words ≤ 1) × ReadFailed start after
Received words start after (Err Arguments) = (1 < words) × (after ≡ start)

-- ---- what the functions beneath promise; a reader need not believe it, since it is proved to come to the above

-- What one read decides: to read again, with so many bytes filled, or that the reading has ended, and how.
abbrev pub Turn : Type 0
Turn = ControlFlow (Result ℕ InputError) ℕ

-- What the number of one read decides, where the buffer has `room` bytes. Negative: the read failed. 0: the input has ended. Else so many more bytes are
-- filled, and if these are all, nothing more is read.
unfoldable pub decided : ℤ → ℕ → ℕ → Turn
decided (negsuc n) filled room = Break (Err Failed)
decided (pos zero) filled room = Break (Ok filled)
decided (pos (suc n)) filled room = cond (ltb (filled + suc n) room) (Continue (filled + suc n)) (Break (Ok (filled + suc n)))

-- One read, whatever its number, and what that decides.
pub record ReadOnce (filled : ℕ) (before after : List ℕ) (step : Turn) : Type 0 where
  pub got : ℤ
  pub read : OneRead filled before after got
  pub decides : step ≡ decided got filled (length before)
