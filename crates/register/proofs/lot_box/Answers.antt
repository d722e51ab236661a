-- `lot_box`: by what the judging of the document says.
use borrow.Author.Rules.{rules}
use Rattle.register.proofs.DocumentAnswers.{box_asks, box_read, box_refused}
use Rattle.register.proofs.lot_box.Goals as goal

pub returns-in_err-dictionary : goal.returns-in_err-dictionary
returns-in_err-dictionary c = search (rules, box_refused)

pub lot_box-requires : goal.lot_box-requires
lot_box-requires c = box_asks _ _ _ c.judge.ensures _ c.in_ok-dictionary.was

pub returns : goal.returns
returns c = box_read _ _ _ c.judge.ensures _ c.in_ok-dictionary.was _ c.lot_box.ensures
