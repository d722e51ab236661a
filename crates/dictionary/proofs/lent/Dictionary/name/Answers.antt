use Rattle.dictionary.proofs.LentLaws.{lent_within}
use Rattle.dictionary.proofs.lent.Dictionary.name.Goals as goal

pub name-requires : goal.name-requires
name-requires c = (c.self.invariant.0, lent_within c.self.invariant.0 c.self.view_is _ c.requires)
