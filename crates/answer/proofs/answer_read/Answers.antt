-- `answer::answer_read` meets its contract: an array of 53,274 bytes that is full decides (`LongTexts`). Assumes nothing.
use Rattle.answer.proofs.LongTexts.{read_part, read_full, links_full}
use Rattle.answer.proofs.answer_read.Goals as goal

pub returns-then-count-lt-TEXT_BYTES : goal.returns-then-count-lt-TEXT_BYTES
returns-then-count-lt-TEXT_BYTES c =
    let promised = c.answer.ensures in
    record { answer = read_part _ _ c.bytes-1.given _ _ _ c.if-count-lt-TEXT_BYTES.true promised.answer; within = promised.within; chains = promised.chains }

pub returns : goal.returns
returns c =
    let promised = c.answer-2.ensures in
    let sized = c.bytes-1.given in
    record {
      answer = read_full _ _ sized _ _ _ c.if-count-lt-TEXT_BYTES.false promised.answer;
      within = promised.within;
      chains = links_full _ _ sized c.if-count-lt-TEXT_BYTES.false promised.chains;
    }
