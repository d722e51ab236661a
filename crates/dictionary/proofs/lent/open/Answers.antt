-- `open`: as it was read.
use mathlib.Core.Path.{sym}
use Rattle.dictionary.proofs.LentLaws.{opens_to}
use Rattle.dictionary.proofs.lent.open.Goals as goal

pub returns : goal.returns
returns c = sym (opens_to _ _ c.names_read-names.ensures)
