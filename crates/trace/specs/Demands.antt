-- The owner's demands 1, 2 and 3, as records that a contract can cite; what the ordering call's answer says, and the number beside the judge's. Assumes
-- nothing.
use Rattle.std.specs.Prelude.{ℕ, suc, ◌+◌, ◌<◌, ◌≤◌, ◌≡◌, Bool, true, false, List, ◌∷◌, ◌++◌, ◌⊎◌, ◌↔◌, ◌≢◌, length, get_or, take, drop}
use Rattle.trace.specs.Trace.{Trace, trace_of, READ, TASKS, WORKSPACE_CELLS}
use Rattle.trace.specs.Line.{Line, passes, fails, halt_operand, step, line_after}
use Rattle.trace.specs.Graph.{Reach, graph_events}
use Rattle.trace.specs.Race.{Conflict, Race, InD}
use Rattle.trace.specs.Orders.{occurrences, Rising, Order, KeepsArcs, positions, SameHeld, HeldDiffers, SameSeen, SeenDiffers}
use Rattle.trace.specs.Joins.{Chain, top_of, links_of, MAX_LINKS, joins_after}
use Rattle.trace.specs.Outcome.{Reply, says, refused, Verdict, clean, race, sizes, order_room, looked_at}

-- ---- demand 1

-- A refusal by one of the rows 1 to `last`, which are tied to no event: "A refusal tied to no event, line or byte has position 0."
abbrev pub SizeRefusal : ℕ → ℕ → ℕ → Type 0
SizeRefusal last number position = (1 ≤ number) × (number ≤ last) × (position ≡ 0)

-- A refusal of one of n events: "The position is the event's for 5 to 12".
abbrev pub EventRefusal : ℕ → ℕ → ℕ → Type 0
EventRefusal n number position = (5 ≤ number) × (number ≤ 12) × (position < n)

-- "the first 12,288 cells plus one per event are 0, and the rest is unchanged": of n events, and of the workspace before and after.
pub record FirstCellsZero (n : ℕ) (before after : List ℕ) : Type 0 where
  pub room : WORKSPACE_CELLS + n ≤ length before
  pub one_length : length after ≡ length before
  pub zeros : (i : ℕ) → i < WORKSPACE_CELLS + n → get_or after i 0 ≡ 0
  pub rest : (i : ℕ) → WORKSPACE_CELLS + n ≤ i → get_or after i 0 ≡ get_or before i 0

-- DEMAND 1 of the judge: of its answer to what was lent, and of what the workspace and the two order buffers hold then.
pub record JudgeDemand1 (kinds tasks operands workspace first second : List ℕ) (answer : Reply Verdict) (workspace' first' second' : List ℕ) : Type 0 where
  -- "The answer to every trace and every set of lent buffers is clean, race with two event positions, or one refusal from the table in document 01 with
  -- its position."
  pub race_positions : (s t : ℕ) → answer ≡ says (race s t) → (s < t) × (t < length kinds)
  pub refusals : (number position : ℕ) → answer ≡ refused number position → SizeRefusal 4 number position ⊎ EventRefusal (length kinds) number position
  -- "The checks go 1, 2, 3, 4; then for each event": the row that the sizes meet is the answer.
  pub size_row : (number : ℕ) → order_room first second (sizes kinds tasks operands workspace) ≡ fails number → answer ≡ refused number 0
  -- "With clean or refused neither buffer changes."
  pub orders_kept : ((s t : ℕ) → answer ≢ says (race s t)) → (first' ≡ first) × (second' ≡ second)
  -- No buffer changes its length.
  pub length_workspace : length workspace' ≡ length workspace
  pub length_first : length first' ≡ length first
  pub length_second : length second' ≡ length second
  -- "After refusals 1 to 4" "the workspace is unchanged."
  pub workspace_kept : (number position : ℕ) → answer ≡ refused number position → number ≤ 4 → workspace' ≡ workspace
  -- "After every other answer the first 12,288 cells plus one per event are 0, and the rest is unchanged."
  pub workspace_cleared :
      ((number position : ℕ) → answer ≡ refused number position → 4 < number) → FirstCellsZero (length kinds) workspace workspace'

-- DEMAND 1 of the ordering call: "The ordering call says yes, no or such a refusal." It has no order buffers, and row 13 besides.
pub record OrderingDemand1 (kinds tasks operands workspace : List ℕ) (answer : Reply Bool) (workspace' : List ℕ) : Type 0 where
  pub refusals :
      (number position : ℕ) → answer ≡ refused number position
      → SizeRefusal 3 number position ⊎ EventRefusal (length kinds) number position ⊎ ((number ≡ 13) × (position ≡ 0))
  pub size_row : (number : ℕ) → sizes kinds tasks operands workspace ≡ fails number → answer ≡ refused number 0
  pub length_workspace : length workspace' ≡ length workspace
  -- "It treats the workspace as the judge does."
  pub workspace_kept : (number position : ℕ) → answer ≡ refused number position → number ≤ 3 → workspace' ≡ workspace
  pub workspace_cleared :
      ((number position : ℕ) → answer ≡ refused number position → 3 < number) → FirstCellsZero (length kinds) workspace workspace'

-- ---- demand 2, for the first n events of a trace, with one rule or another for a halt's operand (row 12)

module _ (haltRule : Line → ℕ) (tr : Trace) where
  -- The first n events keep the line rules.
  pub record KeepsRules (n : ℕ) : Type 0 where
    pub line : Line
    pub reached : line_after haltRule tr n ≡ passes line

  -- Event p is the first that breaks a line rule, and meets the row of this number.
  pub record BreaksFirst (p number : ℕ) : Type 0 where
    pub line : Line
    pub kept_before : line_after haltRule tr p ≡ passes line
    pub broken : step haltRule tr p line ≡ fails number

-- In a graph of this many events, no access before t races with an earlier one.
abbrev pub NoRaceBefore : Trace → ℕ → ℕ → Type 0
NoRaceBefore tr graph t = (p q : ℕ) → p < q → q < t → Race tr graph p q → ⊥

module _ (haltRule : Line → ℕ) (tr : Trace) (n : ℕ) where
  abbrev graph : ℕ
  graph = graph_events haltRule tr n

  -- "it keeps the line rules and every two conflicting accesses are joined by a path in its task graph"
  pub record IsClean : Type 0 where
    pub keeps_rules : KeepsRules haltRule tr n
    pub connected : (p q : ℕ) → Conflict tr graph p q → Reach tr graph p q ⊎ Reach tr graph q p

  -- "Otherwise the first event that breaks a rule or races with an earlier one decides the answer." Event p breaks a rule, and no access before it
  -- races with an earlier one.
  pub record IsRefused (number p : ℕ) : Type 0 where
    pub inside : p < n
    pub breaks_first : BreaksFirst haltRule tr p number
    pub no_race : NoRaceBefore tr graph p

  -- "A race names the first access that has a conflicting, unordered access before it, and the earliest such partner."
  pub record IsRace (s t : ℕ) : Type 0 where
    pub inside : t < n
    pub before : s < t
    pub keeps_rules : KeepsRules haltRule tr (suc t)
    pub pair : Race tr graph s t
    pub first : NoRaceBefore tr graph t
    pub earliest : (p : ℕ) → p < s → Race tr graph p t → ⊥

  -- DEMAND 2 of an answer, past rows 1 to 4.
  pub record Demand2 (answer : Reply Verdict) : Type 0 where
    pub clean_iff : (answer ≡ says clean) ↔ IsClean
    pub refused_iff : (number p : ℕ) → (answer ≡ refused number p) ↔ IsRefused number p
    pub race_iff : (s t : ℕ) → (answer ≡ says (race s t)) ↔ IsRace s t

-- DEMAND 2 of the judge's answer to what was lent: "Past the size checks (rows 1 to 4)" it holds of the trace's n events.
pub record JudgeDemand2 (kinds tasks operands workspace first second : List ℕ) (answer : Reply Verdict) : Type 0 where
  pub past_sizes : (n : ℕ) → order_room first second (sizes kinds tasks operands workspace) ≡ passes n → Demand2 halt_operand (trace_of kinds tasks operands) n answer

-- ---- the ordering call

-- Of an answer to p and q and the first n events of a trace, past rows 1 to 3. "The whole trace must keep the line rules; races don't stop it."
pub record OrderingDemand (tr : Trace) (n p q : ℕ) (answer : Reply Bool) : Type 0 where
  -- "It says yes exactly if p reaches q, else no."
  pub yes_iff : (answer ≡ says true) ↔ (KeepsRules halt_operand tr n × (p < n) × (q < n) × Reach tr n p q)
  pub no_iff : (answer ≡ says false) ↔ (KeepsRules halt_operand tr n × (p < n) × (q < n) × (Reach tr n p q → ⊥))
  -- Row 13: "p or q isn't below the number of events". "Refusal 13 comes after all others."
  pub beyond_iff : (answer ≡ refused 13 0) ↔ (KeepsRules halt_operand tr n × ((n ≤ p) ⊎ (n ≤ q)))
  -- Rows 5 to 12: event k is the first that breaks a rule, and meets the row of this number.
  pub refused_iff : (number k : ℕ) → number ≤ 12 → (answer ≡ refused number k) ↔ ((k < n) × BreaksFirst halt_operand tr k number)

-- The same of the ordering call's answer to what was lent.
pub record OrderingCallDemand (kinds tasks operands workspace : List ℕ) (p q : ℕ) (answer : Reply Bool) : Type 0 where
  pub past_sizes : (n : ℕ) → sizes kinds tasks operands workspace ≡ passes n → OrderingDemand (trace_of kinds tasks operands) n p q answer

-- ---- demand 3

-- In the order o "each read sees the same write as in the trace itself, and each location ends with the same last write as there". "Two writes are the
-- same if they are one event; none is the same only as none." Document 02, K3: "each read sees the same last write and the same set of sums after that
-- write, and so does each location at the end."
pub record SameThroughout (tr : Trace) (n : ℕ) (o : List ℕ) : Type 0 where
  pub reads : (r : ℕ) → r < n → tr.kind r ≡ READ → SameSeen tr o (positions n) r
  pub ends : (l : ℕ) → SameHeld tr o (positions n) l

-- "The two are equal at every place but two, side by side, where the first has s, t and the second t, s."
pub record Swapped (s t : ℕ) (o₁ o₂ : List ℕ) : Type 0 where
  pub at : ℕ
  pub fits : suc at < length o₁
  pub one_length : length o₁ ≡ length o₂
  pub first_s : get_or o₁ at 0 ≡ s
  pub first_t : get_or o₁ (suc at) 0 ≡ t
  pub second_t : get_or o₂ at 0 ≡ t
  pub second_s : get_or o₂ (suc at) 0 ≡ s
  pub elsewhere : (i : ℕ) → i ≢ at → i ≢ suc at → get_or o₁ i 0 ≡ get_or o₂ i 0

-- "two orders of the events up to t, t included. Each keeps all arcs between those events."
pub record Witnesses (tr : Trace) (graph s t : ℕ) (o₁ o₂ : List ℕ) : Type 0 where
  pub order₁ : Order (suc t) o₁
  pub order₂ : Order (suc t) o₂
  pub keeps₁ : KeepsArcs tr graph (suc t) o₁
  pub keeps₂ : KeepsArcs tr graph (suc t) o₂
  pub swapped : Swapped s t o₁ o₂

-- "For a race, what the location holds after the pair differs between the two orders in the last write or in the set of sums, or else the read of the pair
-- sees something different" (document 02, K3). The pair s, t stands at the places `at` and `at` + 1 of two orders.
pub record PairMatters (tr : Trace) (s t at : ℕ) (o₁ o₂ : List ℕ) : Type 0 where
  -- Where neither reads, what their location holds right after the pair differs;
  pub held_differs : tr.kind s ≢ READ → tr.kind t ≢ READ → HeldDiffers tr (take (at + 2) o₁) (take (at + 2) o₂) (tr.operand s)
  -- where one reads, what it sees differs.
  pub seen_differs : (r : ℕ) → (r ≡ s) ⊎ (r ≡ t) → tr.kind r ≡ READ → SeenDiffers tr o₁ o₂ r

-- "in position order": a list of those positions up to t of which P holds.
pub record InPositionOrder (t : ℕ) (P : ℕ → Type 0) (list : List ℕ) : Type 0 where
  pub rising : Rising list
  pub entries : (p : ℕ) → (0 < occurrences p list) ↔ ((p ≤ t) × P p)

-- "D in position order, then s, t, then all other positions up to t in position order": with a and b for s and t, either way round.
pub record Scheduled (tr : Trace) (graph s t a b : ℕ) (o : List ℕ) : Type 0 where
  pub earlier : List ℕ
  pub later : List ℕ
  pub listed : o ≡ earlier ++ (a ∷ b ∷ later)
  pub all_D : InPositionOrder t (InD tr graph s t) earlier
  pub all_other : InPositionOrder t (λ p. (p ≢ s) × (p ≢ t) × (InD tr graph s t p → ⊥)) later

-- DEMAND 3 of an answer about the first n events, and of the order buffers before (b₁, b₂) and after (a₁, a₂).
pub record Demand3 (tr : Trace) (n : ℕ) (answer : Reply Verdict) (b₁ b₂ a₁ a₂ : List ℕ) : Type 0 where
  -- "if the judge said clean, then whatever order of all the events the cores take, so long as it keeps all arcs of the task graph, each read sees the
  -- same write as in the trace itself, and each location ends with the same last write as there"; and the same sums after that write.
  pub when_clean : answer ≡ says clean → (o : List ℕ) → Order n o → KeepsArcs tr (graph_events halt_operand tr n) n o → SameThroughout tr n o
  -- "If it said race s t, the first t + 1 cells of the two order buffers hold two orders of the events up to t, t included."
  pub when_race : (s t : ℕ) → answer ≡ says (race s t) → Witnesses tr (graph_events halt_operand tr n) s t (take (suc t) a₁) (take (suc t) a₂)
  -- Between these two what the location holds right after the pair differs, or else what the read of the pair sees.
  pub pair_matters :
      (s t : ℕ) (said : answer ≡ says (race s t)) → PairMatters tr s t (when_race s t said).swapped.at (take (suc t) a₁) (take (suc t) a₂)
  -- "The first order buffer (u16 cells) then holds D in position order, then s, t, then all other positions up to t in position order. The second holds
  -- the same with t, s."
  pub holds₁ : (s t : ℕ) → answer ≡ says (race s t) → Scheduled tr (graph_events halt_operand tr n) s t s t (take (suc t) a₁)
  pub holds₂ : (s t : ℕ) → answer ≡ says (race s t) → Scheduled tr (graph_events halt_operand tr n) s t t s (take (suc t) a₂)
  -- "Cells from t + 1 on are unchanged."
  pub unchanged₁ : (s t : ℕ) → answer ≡ says (race s t) → drop (suc t) a₁ ≡ drop (suc t) b₁
  pub unchanged₂ : (s t : ℕ) → answer ≡ says (race s t) → drop (suc t) a₂ ≡ drop (suc t) b₂

-- DEMAND 3 of the judge's answer to what was lent, and of the order buffers at exit: "For every trace and every set of lent buffers".
abbrev pub JudgeDemand3 : List ℕ → List ℕ → List ℕ → Reply Verdict → List ℕ → List ℕ → List ℕ → List ℕ → Type 0
JudgeDemand3 kinds tasks operands answer b₁ b₂ a₁ a₂ = Demand3 (trace_of kinds tasks operands) (length kinds) answer b₁ b₂ a₁ a₂

-- ---- how long the chains get (document 02, K2)

-- In the table of joins after the first m events:
module _ (tr : Trace) (m : ℕ) where
  -- "the links between the task and the top": from each task a chain of them leads to its top; "and is never above 10".
  pub record FewLinks : Type 0 where
    pub chain : (t : ℕ) → t < TASKS → Chain (joins_after tr m) t (top_of (joins_after tr m) t) (links_of (joins_after tr m) t)
    pub few : (t h k : ℕ) → t < TASKS → Chain (joins_after tr m) t h k → k ≤ MAX_LINKS

  -- "the largest such number that any task has"
  pub record MostLinks (links : ℕ) : Type 0 where
    pub has : (t : ℕ) × (h : ℕ) × (t < TASKS) × Chain (joins_after tr m) t h links
    pub most : (t h k : ℕ) → t < TASKS → Chain (joins_after tr m) t h k → k ≤ links

-- What the number beside the judge's answer says.
pub record JudgeLinks (kinds tasks operands : List ℕ) (answer : Reply Verdict) (links : ℕ) : Type 0 where
  -- "Every caller's promise carries that bound": after each number of events looked at, of every task.
  pub bound : (m : ℕ) → m ≤ looked_at (length kinds) answer → FewLinks (trace_of kinds tasks operands) m
  pub at_most : links ≤ MAX_LINKS
  -- "With clean or race the judge reports the largest such number that any task has after the last event looked at;"
  pub with_verdict : (v : Verdict) → answer ≡ says v → MostLinks (trace_of kinds tasks operands) (looked_at (length kinds) answer) links
  -- "with a refusal, 0."
  pub with_refusal : (number position : ℕ) → answer ≡ refused number position → links ≡ 0
