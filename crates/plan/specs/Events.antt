-- The events that a plan makes (document 02, K4 and K6). Assumes nothing.
use Rattle.std.specs.Prelude.{ℕ, ◌+◌, List, [], ◌∷◌, ◌++◌}
use Rattle.trace.specs.Trace.{Event, READ, WRITE, SUM, FORK, JOIN, HALT}
use Rattle.plan.specs.Plans.{Plan, leaf, pair}
use Rattle.plan.specs.declared.Access.{Access}
use Rattle.plan.specs.declared.Access.TheVariants.{Read, Write, Sum}
use Rattle.plan.specs.declared.Operator.TheVariants.{Series, Parallel}

abbrev pub kind_of : Access → ℕ
kind_of Read = READ
kind_of Write = WRITE
kind_of Sum = SUM

abbrev pub event : ℕ → ℕ → ℕ → Event
event kind task operand = record { kind = kind; task = task; operand = operand }

-- How many tasks a plan forks: one for each P.
abbrev pub forks : Plan → ℕ
forks (leaf k l) = 0
forks (pair Series a b) = forks a + forks b
forks (pair Parallel a b) = 1 + (forks a + forks b)

-- The events of a plan that task x runs, where the next task to be forked has the number `next`: "P forks a task for G1, goes on with G2, then joins. Tasks are
-- numbered 1, 2, 3 in fork order." The halt of the forked task names x (K6): "A halt's operand now names the task that resumes", and "The text program and the
-- plan reader fill it in."
abbrev pub events_from : Plan → ℕ → ℕ → List Event
events_from (leaf k l) x next = event (kind_of k) x l ∷ []
events_from (pair Series a b) x next = events_from a x next ++ events_from b x (next + forks a)
events_from (pair Parallel a b) x next =
    event FORK x next
    ∷ (events_from a next (next + 1)
    ++ (event HALT next x
    ∷ (events_from b x (next + 1 + forks a)
    ++ (event JOIN x next ∷ []))))

-- The events of a whole plan: task 0 runs it.
abbrev pub events_of : Plan → List Event
events_of p = events_from p 0 1
