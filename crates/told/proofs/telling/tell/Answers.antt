-- `told::telling::tell` meets its contract: of either kind of answer the first values are stored. Assumes nothing.
use Rattle.told.proofs.telling.tell.Goals as goal
use Rattle.told.proofs.telling.tell.Goals.{in-Ok, in-Err}

pub returns : goal.returns
returns g c =
    let after = c.copy_from_slice.ensures.after in
    elim c.match-answer.branch [
      | in-Ok w ↦ rw w.in-Ok.is (w.into-told.result, w.into-told.ensures, (let same = w.told-is in cc after))
      | in-Err w ↦ rw w.in-Err.is (w.into-told-in-Err.result, w.into-told-in-Err.ensures, (let same = w.told-is in cc after))
    ]
