-- `racejudge::trouble_of` meets its contract. Assumes nothing.
use Rattle.std.proofs.Common.{◌≡◌}
use Rattle.input.specs.declared.InputError.TheVariants.{Failed, Arguments}
use Rattle.racejudge.specs.Program.{trouble_of}
use Rattle.racejudge.proofs.trouble_of.Goals as goal

pub returns-in-Err-Arguments : goal.returns-in-Err-Arguments
unfolding trouble_of
returns-in-Err-Arguments c =
    let a = c.in-Err-Arguments in
    let arguments : a.field-0 ≡ Arguments = rw a.is at a.field-0-is in
    rw (a.is, arguments)

pub returns-in-Err-Failed : goal.returns-in-Err-Failed
unfolding trouble_of
returns-in-Err-Failed c =
    let a = c.in-Err-Failed in
    let failed : a.field-0 ≡ Failed = rw a.is at a.field-0-is in
    rw (a.is, failed)

pub returns-then-written : goal.returns-then-written
unfolding trouble_of
returns-then-written c = rw (c.in-Ok.is, c.if-written.true)

pub returns-else-written : goal.returns-else-written
unfolding trouble_of
returns-else-written c = rw (c.in-Ok.is, c.if-written.false)
