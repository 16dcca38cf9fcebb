-- `Cursor::word` meets its contract. Assumes nothing.
use Rattle.text.proofs.TokenRows.{word_missed, word_matched}
use Rattle.text.proofs.cursor.Cursor.word.Goals as goal

pub returns-in_default : goal.returns-in_default
returns-in_default c =
    word_missed c.args.expected.now c.args.self.text.now c.args.self.at c.in_default.ensures.cases

pub returns : goal.returns
returns c = word_matched c.args.expected.now c.args.self.text.now c.args.self.at c.in-Some.ensures.cases.0
