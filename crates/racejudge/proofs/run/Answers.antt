-- `racejudge::run` meets its contract (`Running`). Assumes nothing.
use Rattle.std.proofs.Common.{rules}
use Rattle.racejudge.proofs.Running.{ran}
use Rattle.racejudge.proofs.run.Goals as goal

pub returns-clause-run : goal.returns-clause-run
returns-clause-run g c =
    let received = c.receive-taken in
    let answer = c.respond-used in
    ran c.args.words c.args.text.now received.new.text c.args.out.now answer.new.out answer.result received.result (search rules) received.ensures
    answer.ensures.responds
