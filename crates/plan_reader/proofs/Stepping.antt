-- The laws behind the steps of the second pass: what each function leaves is what the machine asks for. Assumes nothing.
use Prim.Native.Nat.{ℕ, zero, suc, ◌+◌, ◌-◌, ◌≤◌, ◌<◌}
use native.Mathlib.Omega.{arith}
use native.Mathlib.Numerals.{add-one}
use mathlib.Core.Path.{◌≡◌, refl, sym, ap, ◌∙◌}
use mathlib.Core.Bool.{cond}
use mathlib.Core.List.{List, [], ◌∷◌}
use mathlib.Core.Option.{some}
use mathlib.Core.Logic.{◌≢◌}
use lib.Dec.{eqb}
use lib.ListN.{length, drop, get_or, set, drop_of_length-le, length-set}
use lib.Seq.{drop-cons, get_or-set_same, get_or-set_other}
use borrow.Author.Tests.{eq-eqb, ne_eqb}
use Rattle.std.specs.Prelude.{Option, Some, None}
use Rattle.trace.specs.Trace.{Event}
use Rattle.trace.specs.Slices.{Slices, store, store_all, Room}
use Rattle.trace.proofs.Tests.{either, lt_or_le}
use Rattle.numbers.specs.Reading.{number}
use Rattle.numbers.specs.Answers.{after_number, Within}
use Rattle.numbers.specs.declared.Number.{Number}
use Rattle.plan.specs.Events.{kind_of}
use Rattle.plan.specs.Reading.{letter_of, LAST_LOCATION}
use Rattle.plan.specs.declared.Access.{Access}
use Rattle.plan.specs.declared.Letter.{Letter}
use Rattle.plan.specs.declared.Letter.TheVariants.{Joint}
use Rattle.plan.specs.declared.Operator.{Operator}
use Rattle.plan.specs.declared.Operator.TheVariants.{Series, Parallel}
use Rattle.plan_reader.specs.Machine.{frame, State, state, halting, joining, goes, entered, enter, leave, step_by, step_of}
use Rattle.plan_reader.specs.Machine.{frames_in, state_of, turned, closed, opening_frame, opened, code_event}
use Rattle.plan_reader.specs.Machine.{Stands, Goes, After, AfterLeaf}
use Rattle.plan_reader.proofs.Rows.{number_ending}
use Rattle.plan_reader.specs.declared.emission.Frame.{Frame}
use Rattle.plan_reader.specs.declared.emission.Writer.{Writer}
use Rattle.plan_reader.specs.declared.emission.Move.{Move}

-- ---- slices of one length

pub record SameLengths (b c : Slices) : Type 0 where
  pub kinds : length c.kinds ≡ length b.kinds
  pub tasks : length c.tasks ≡ length b.tasks
  pub operands : length c.operands ≡ length b.operands

same_trans : {b c d : Slices} → SameLengths b c → SameLengths c d → SameLengths b d
same_trans i j = record { kinds = j.kinds ∙ i.kinds; tasks = j.tasks ∙ i.tasks; operands = j.operands ∙ i.operands }

store_same : (b : Slices) (at : ℕ) (e : Event) → SameLengths b (store b at e)
unfolding store
store_same b at e = record { kinds = simp length-set; tasks = simp length-set; operands = simp length-set }

pub store_all_same : (b : Slices) (at : ℕ) (es : List Event) → SameLengths b (store_all b at es)
store_all_same b at [] = record { kinds = refl; tasks = refl; operands = refl }
store_all_same b at (e ∷ es) = same_trans (store_same b at e) (store_all_same (store b at e) (at + 1) es)

-- Room for fewer cells, in slices of these lengths.
room_part : {b c : Slices} {m n : ℕ} → SameLengths b c → Room b m → n ≤ m → Room c n
room_part s r h =
    let i = s.kinds in
    let j = s.tasks in
    let k = s.operands in
    let x = r.kinds in
    let y = r.tasks in
    let z = r.operands in
    record { kinds = omega arith; tasks = omega arith; operands = omega arith }

pub room_kept : (b₀ b : Slices) (at : ℕ) (es : List Event) {m n : ℕ} → b ≡ store_all b₀ at es → Room b₀ m → n ≤ m → Room b n
room_kept b₀ b at es e r h = room_part (rw e (store_all_same b₀ at es)) r h

-- ---- `leaf`

pub leaf_done : (text : List ℕ) (from : Writer) (k : Access) (r : Option Number) → after_number text r ≡ number LAST_LOCATION (drop from.at text) → Within text r
    → (n : Number) → r ≡ Some n → (kind : ℕ) → kind ≡ kind_of k
    → AfterLeaf k text from (record { event = Some (code_event kind from.actor n.value); after = record from { at = n.end } })
leaf_done text from k r there within n e kind f stack =
    let i : number LAST_LOCATION (drop from.at text) ≡ some (n.value, drop n.end text) = cc in
    let w = rw e at within in
    let p = number_ending text from.at n.value n.end i w in
    rw i (record { bytes = refl; further = p.further; within = w; state_is = refl; events_are = rw f })

-- ---- the stack

pub frames_length : (stack : List Frame) (d : ℕ) → length (frames_in stack d) ≡ d
frames_length stack zero = refl
frames_length stack (suc d) = let i = frames_length stack d in omega arith

-- Frames past those of the open operators do not matter.
frames_same : (stack : List Frame) (i : ℕ) (f : Frame) (d : ℕ) → d ≤ i → frames_in (set stack i f) d ≡ frames_in stack d
frames_same stack i f zero h = refl
frames_same stack i f (suc d) h =
    let a : d ≢ i = λ e. omega arith in rw (get_or-set_other stack i d f (frame 0 None) a, frames_same stack i f d (omega arith))

pushed_frames : (stack : List Frame) (d : ℕ) (f : Frame) → d < length stack → frames_in (set stack d f) (d + 1) ≡ f ∷ frames_in stack d
pushed_frames stack d f h =
    let u : d + 1 ≡ suc d = omega arith in
    rw (u, get_or-set_same stack d f (frame 0 None) h, frames_same stack d f d (omega arith))

-- ---- the machine at a comma or a closing bracket

left_open : (stack : List Frame) (d byte : ℕ) (s : List ℕ) (st : State) {es : List Event} {rest : List ℕ} {st₁ : State}
    → leave (frames_in stack d) byte s st ≡ goes es rest st₁ → 0 < d
left_open stack zero byte s st e = let z : ◌≡◌ {A = ℕ} 0 1 = cc in absurd (omega arith)
left_open stack (suc d) byte s st e = omega arith

-- The innermost open operator.
abbrev pub top : List Frame → ℕ → Frame
top stack d = get_or stack (d - 1) (frame 0 None)

leave_top : (stack : List Frame) (d byte : ℕ) (s : List ℕ) (st : State) → 0 < d → leave (frames_in stack d) byte s st
    ≡ cond (eqb byte 44) (goes (halting (top stack d)) s (state (top stack d).actor st.next (frames_in stack d)))
    (goes (joining (top stack d)) s (state st.actor st.next (frames_in stack (d - 1))))
leave_top stack zero byte s st h = absurd (omega arith)
leave_top stack (suc d) byte s st h = let i : suc d - 1 ≡ d = omega arith in rw i

-- ---- the machine at the letter of an operator

deeper : (o : Operator) (s : List ℕ) (st : State) {es : List Event} {rest : List ℕ} {st₁ : State} → entered o s st ≡ goes es rest st₁
    → length st₁.frames ≡ suc (length st.frames)
deeper Series s st {es} {rest} {st₁} e =
    let j : state st.actor st.next (frame st.actor None ∷ st.frames) ≡ st₁ = cc in sym (ap (λ (z : State). length z.frames) j)
deeper Parallel s st {es} {rest} {st₁} e =
    let j : state st.next (st.next + 1) (frame st.actor (Some st.next) ∷ st.frames) ≡ st₁ = cc in sym (ap (λ (z : State). length z.frames) j)

opened_after : (o : Operator) (text : List ℕ) (from inside : Writer) (stack stack₁ : List Frame) → inside ≡ record from { at = from.at + 2 }
    → from.at + 2 ≤ length text → from.depth < length stack → stack₁ ≡ set stack from.depth (opening_frame o inside) → (m : Move) → m ≡ opened o inside
    → After (entered o (drop (from.at + 2) text) (state_of from stack)) text from m stack₁
opened_after Series text from inside stack stack₁ i h low c m e =
    rw (e, c, i)
    (record { bytes = refl; further = omega arith; within = h; state_is = rw (pushed_frames stack from.depth (frame from.actor None) low); events_are = refl })
opened_after Parallel text from inside stack stack₁ i h low c m e =
    rw (e, c, i)
    (record {
      bytes = refl;
      further = omega arith;
      within = h;
      state_is = rw (pushed_frames stack from.depth (frame from.actor (Some from.next)) low);
      events_are = refl;
    })

-- ---- `step`

module _ (text : List ℕ) (from : Writer) (stack : List Frame) (stands : Stands from text stack)
    (go : Goes (step_of (drop from.at text) (state_of from stack))) (l : Option Letter) (spelt : l ≡ letter_of (get_or text from.at 0)) where
  step_so : step_of (drop from.at text) (state_of from stack) ≡ step_by l (get_or text from.at 0) (drop (from.at + 1) text) (state_of from stack)
  step_so = rw (drop-cons text from.at 0 stands.byte, ← spelt, add-one)

  step_goes : step_by l (get_or text from.at 0) (drop (from.at + 1) text) (state_of from stack) ≡ goes go.events go.rest go.after
  step_goes = sym step_so ∙ go.is

  -- ---- an operator

  module _ (o : Operator) (is : l ≡ Some (Joint o)) where
    enter_goes : enter o (drop (from.at + 1) text) (state_of from stack) ≡ goes go.events go.rest go.after
    enter_goes = rw is at step_goes

    bracket_within : from.at + 2 ≤ length text
    bracket_within =
        either (lt_or_le (from.at + 1) (length text)) (λ h. omega arith)
        (λ h. let f = rw (drop_of_length-le text h) at enter_goes in let z : ◌≡◌ {A = ℕ} 0 1 = cc in absurd (omega arith))

    enter_so : enter o (drop (from.at + 1) text) (state_of from stack) ≡ entered o (drop (from.at + 2) text) (state_of from stack)
    enter_so =
        let h = bracket_within in
        let u : suc (from.at + 1) ≡ from.at + 2 = omega arith in
        rw (drop-cons text (from.at + 1) 0 (omega arith), u)

    enter_low : from.depth < length stack
    enter_low =
        let i = deeper o (drop (from.at + 2) text) (state_of from stack) (sym enter_so ∙ enter_goes) in
        let j = frames_length stack from.depth in
        let k = stands.size in
        let m = go.low in
        omega arith

    pub enter_after : (inside : Writer) → inside ≡ record from { at = from.at + 2 } → (stack₁ : List Frame) → stack₁ ≡ set stack from.depth (opening_frame o inside)
        → (m : Move) → m ≡ opened o inside → After (step_of (drop from.at text) (state_of from stack)) text from m stack₁
    enter_after inside i stack₁ c m e =
        rw (step_so, is, enter_so) (opened_after o text from inside stack stack₁ i bracket_within enter_low c m e)

  -- ---- a comma, or a closing bracket

  module _ (is : l ≡ None) where
    some_open : 0 < from.depth
    some_open = left_open stack from.depth (get_or text from.at 0) (drop (from.at + 1) text) (state_of from stack) (rw is at step_goes)

    top_so : step_of (drop from.at text) (state_of from stack)
        ≡ cond (eqb (get_or text from.at 0) 44)
        (goes (halting (top stack from.depth)) (drop (from.at + 1) text) (state (top stack from.depth).actor from.next (frames_in stack from.depth)))
        (goes (joining (top stack from.depth)) (drop (from.at + 1) text) (state from.actor from.next (frames_in stack (from.depth - 1))))
    top_so =
        step_so ∙ (rw is (leave_top stack from.depth (get_or text from.at 0) (drop (from.at + 1) text) (state_of from stack) some_open))

    pub turn_after : get_or text from.at 0 ≡ 44 → (m : Move) → m ≡ turned (record from { at = from.at + 1 }) (top stack from.depth)
        → After (step_of (drop from.at text) (state_of from stack)) text from m stack
    turn_after comma m e =
        let h = stands.byte in
        rw (top_so, eq-eqb (get_or text from.at 0) 44 comma, e)
        (record { bytes = refl; further = omega arith; within = omega arith; state_is = refl; events_are = refl })

    pub close_after : (get_or text from.at 0 ≡ 44 → ⊥) → (m : Move) → m ≡ closed (record from { at = from.at + 1 }) (top stack from.depth)
        → After (step_of (drop from.at text) (state_of from stack)) text from m stack
    close_after other m e =
        let h = stands.byte in
        rw (top_so, ne_eqb (get_or text from.at 0) 44 other, e)
        (record { bytes = refl; further = omega arith; within = omega arith; state_is = refl; events_are = refl })
