-- `enter`: the entry that is stored is the answer's.
use Rattle.fields.proofs.enter.Goals as goal

pub returns : goal.returns
returns c = rw c.entry_of.ensures
