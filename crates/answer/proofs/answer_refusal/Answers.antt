-- `answer::answer_refusal` meets its contract: a refusal is rendered with its number and position. Assumes nothing.
use Rattle.answer.proofs.Answering.{render_refusal}
use Rattle.answer.proofs.answer_refusal.Goals as goal

pub returns : goal.returns
returns c = search render_refusal
