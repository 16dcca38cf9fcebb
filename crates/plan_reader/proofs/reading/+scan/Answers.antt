-- `scan` meets its contract: a plan has fewer events than bytes (`Rows`). Assumes nothing.
use Rattle.std.proofs.Common.{rules}
use Rattle.plan_reader.proofs.Rows.{events_fit, forks_fit, all_events_fit, all_forks_fit}
use Rattle.plan_reader.proofs.reading.+scan.Goals as goal

pub overflow_add-events : goal.overflow_add-events
overflow_add-events t c = search (rules, events_fit)

pub overflow_add-forks : goal.overflow_add-forks
overflow_add-forks t c = search (rules, forks_fit)

pub overflow_add-size : goal.overflow_add-size
overflow_add-size t c = search (rules, all_events_fit)

pub overflow_add-size-in-Parallel : goal.overflow_add-size-in-Parallel
overflow_add-size-in-Parallel t c = search (rules, all_forks_fit)
