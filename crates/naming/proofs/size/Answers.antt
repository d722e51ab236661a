-- `size`: the parts of normal metadata summed.
use borrow.Author.Rules.{rules}
use Rattle.naming.proofs.ChosenLaws.{names_length}
use Rattle.naming.proofs.SizeLaws.{size_is, size_fits}
use Rattle.naming.proofs.size.Goals as goal

pub overflow_mul-result : goal.overflow_mul-result
overflow_mul-result c = let fits = size_fits _ _ c.requires.few c.offset_size-width.ensures.2 in search rules

pub overflow_add-result-3 : goal.overflow_add-result-3
overflow_add-result-3 c = let fits = size_fits _ _ c.requires.few c.offset_size-width.ensures.2 in search rules

pub overflow_add-result-4 : goal.overflow_add-result-4
overflow_add-result-4 c = let fits = size_fits _ _ c.requires.few c.offset_size-width.ensures.2 in search rules

pub returns : goal.returns
returns c = size_is _ _ _ _ (names_length c.args.dictionary.now.names c.args.chosen.now) c.total_of-total.ensures c.offset_size-width.ensures
