-- `comes_before`: by the ids where the dictionary is sorted, else by the bytes of the names.
use Rattle.dictionary.proofs.LentLaws.{lent_before}
use Rattle.dictionary.proofs.lent.Dictionary.comes_before.Goals as goal

pub returns-then-self : goal.returns-then-self
returns-then-self c = lent_before c.self.invariant.0 c.self.view_is _ _ c.if-self.true c.requires.0 c.requires.1
