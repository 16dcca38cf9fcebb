-- The laws behind `emit`: at each turn of its loop some of the plan's events are stored, and the machine goes on to write the others (`Stage`). Assumes nothing.
use Prim.Native.Nat.{ℕ, ◌+◌, ◌-◌, ◌≤◌, ◌<◌}
use native.Mathlib.Omega.{arith}
use mathlib.Core.Path.{◌≡◌, refl, sym, ap, ◌∙◌}
use mathlib.Core.List.{List, [], ◌++◌, append-nil, append_assoc}
use lib.ListN.{length, drop, length-append, drop_of_length-le, length-drop}
use Rattle.trace.specs.Trace.{Event, TASKS}
use Rattle.trace.specs.Slices.{Slices, store_all, Room}
use Rattle.trace.proofs.Slices.{store_all_append}
use Rattle.plan.specs.Plans.{Plan, LEVELS, IsPlan}
use Rattle.plan.specs.Events.{events_of}
use Rattle.plan.proofs.Accepts.{one_plan}
use Rattle.plan_reader.specs.Machine.{State, goes, step_of, Runs, ended, steps}
use Rattle.plan_reader.specs.Machine.{events_in, state_of, Goes, Went, After, Ready, Emitted}
use Rattle.plan_reader.specs.declared.emission.Frame.{Frame}
use Rattle.plan_reader.specs.declared.emission.Writer.{Writer}
use Rattle.plan_reader.specs.declared.emission.Move.{Move}
use Rattle.plan_reader.proofs.Writing.{whole_runs}
use Rattle.plan_reader.proofs.Stepping.{frames_length, room_kept}

-- Where the pass begins.
abbrev pub START : Writer
START = record { at = 0; depth = 0; next = 1; actor = 0 }

-- ---- the machine's next step

record Next (bytes : List ℕ) (st : State) (left : List Event) : Type 0 where
  events : List Event
  rest : List ℕ
  after : State
  others : List Event
  is : step_of bytes st ≡ goes events rest after
  few : after.next ≤ TASKS
  low : length after.frames ≤ LEVELS
  runs : Runs rest after others
  all : left ≡ events ++ others

next : {bytes : List ℕ} {st : State} {left : List Event} → Runs bytes st left → 0 < length bytes → Next bytes st left
next ended h = absurd (omega arith)
next (steps {es = es} {fs = fs} e few low r) h =
    record { events = es; rest = _; after = _; others = fs; is = e; few = few; low = low; runs = r; all = refl }

none_left : {bytes : List ℕ} {st : State} {left : List Event} → Runs bytes st left → bytes ≡ [] → left ≡ []
none_left ended e = refl
none_left (steps {st = st} f few low r) e = let g = rw e at f in let z : ◌≡◌ {A = ℕ} 0 1 = cc in absurd (omega arith)

-- ---- events stored after others

split_all : (whole written left es others : List Event) → whole ≡ written ++ left → left ≡ es ++ others → whole ≡ (written ++ es) ++ others
split_all whole written left es others e f = e ∙ ((rw f) ∙ sym (append_assoc written es others))

stored_more : (b₀ b b₁ : Slices) (count : ℕ) (written es : List Event) → b ≡ store_all b₀ 0 written → count ≡ length written → b₁ ≡ store_all b count es
    → b₁ ≡ store_all b₀ 0 (written ++ es)
stored_more b₀ b b₁ count written es e f g =
    let z : 0 + length written ≡ count = omega arith in
    g ∙ ((rw (e, ← z)) ∙ sym (store_all_append b₀ 0 written es))

-- ---- the loop

pub record Stage (text : List ℕ) (b₀ : Slices) (w : Writer) (stack : List Frame) (count : ℕ) (b : Slices) : Type 0 where
  pub plan : Plan
  pub is_plan : IsPlan LEVELS text plan
  pub room : Room b₀ (length (events_of plan))
  pub written : List Event
  pub left : List Event
  pub all : events_of plan ≡ written ++ left
  pub runs : Runs (drop w.at text) (state_of w stack) left
  pub within : w.at ≤ length text
  pub low : w.depth ≤ LEVELS
  pub size : length stack ≡ LEVELS
  pub count_is : count ≡ length written
  pub slices_are : b ≡ store_all b₀ 0 written

pub stage_begins : (text : List ℕ) (b : Slices) (stack : List Frame) → Ready text b → length stack ≡ LEVELS → Stage text b START stack 0 b
stage_begins text b stack r c =
    let i = r.is_plan in
    record {
      plan = r.plan;
      is_plan = i;
      room = r.room;
      written = [];
      left = events_of r.plan;
      all = refl;
      runs = rw (← i.printed) at (whole_runs r.plan i.in_range i.low r.tasks);
      within = omega arith;
      low = omega arith;
      size = c;
      count_is = refl;
      slices_are = refl;
    }

module _ (text : List ℕ) (b₀ : Slices) (w : Writer) (stack : List Frame) (count : ℕ) (b : Slices) (s : Stage text b₀ w stack count b)
    (byte : w.at < length text) where
  the_next : Next (drop w.at text) (state_of w stack) s.left
  the_next = next s.runs (rw (length-drop w.at text) (omega arith))

  pub stage_goes : Goes (step_of (drop w.at text) (state_of w stack))
  stage_goes =
      let n = the_next in
      record { events = n.events; rest = n.rest; after = n.after; is = n.is; few = n.few; low = n.low }

  module _ (m : Move) (stack₁ : List Frame) (size : length stack₁ ≡ LEVELS)
      (went : After (step_of (drop w.at text) (state_of w stack)) text w m stack₁) where
    the_went : Went text the_next.events the_next.rest the_next.after w m stack₁
    the_went = rw the_next.is at went

    pub stage_falls : length text - m.after.at < length text - w.at
    stage_falls = let f = the_went.further in let g = the_went.within in omega arith

    -- There is room for what the step writes.
    pub stage_room : Room b (count + length (events_in m.event))
    stage_room =
        let n = the_next in
        let i = ap length s.all in
        let j = length-append s.written s.left in
        let k = ap length n.all in
        let l = length-append n.events n.others in
        let c = s.count_is in
        let e = ap length the_went.events_are in
        room_kept b₀ b 0 s.written s.slices_are s.room (omega arith)

    pub stage_more : (count₁ : ℕ) (b₁ : Slices) → count₁ ≡ count + length (events_in m.event) → b₁ ≡ store_all b count (events_in m.event)
        → Stage text b₀ m.after stack₁ count₁ b₁
    stage_more count₁ b₁ counted stored =
        let n = the_next in
        let g = the_went in
        let c = s.count_is in
        let l = length-append s.written n.events in
        let e = ap length g.events_are in
        let f = n.low in
        record {
          plan = s.plan;
          is_plan = s.is_plan;
          room = s.room;
          written = s.written ++ n.events;
          left = n.others;
          all = split_all (events_of s.plan) s.written s.left n.events n.others s.all n.all;
          runs = rw (← g.bytes, ← g.state_is) at n.runs;
          within = g.within;
          low = let e = ap (λ (t : State). length t.frames) g.state_is in let u = frames_length stack₁ m.after.depth in omega arith;
          size = size;
          count_is = omega arith;
          slices_are = stored_more b₀ b b₁ count s.written n.events s.slices_are c (rw g.events_are at stored);
        }

pub stage_ends : (text : List ℕ) (b₀ : Slices) (w : Writer) (stack : List Frame) (count : ℕ) (b : Slices) → Stage text b₀ w stack count b → length text ≤ w.at
    → Emitted text b₀ b
stage_ends text b₀ w stack count b s h p is =
    let same = one_plan text p s.plan is s.is_plan in
    let none = none_left s.runs (drop_of_length-le text h) in
    let all : events_of p ≡ s.written = ap events_of same ∙ (s.all ∙ (rw none (append-nil s.written))) in
    rw all s.slices_are
