-- `size`: the length of the metadata, which is bytes.
use Rattle.dictionary.proofs.LentLaws.{lent_bytes}
use Rattle.dictionary.proofs.lent.Dictionary.size.Goals as goal

pub returns-clause-bytes : goal.returns-clause-bytes
returns-clause-bytes c = lent_bytes c.self.invariant.0 c.self.view_is c.self.invariant.1
