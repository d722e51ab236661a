-- `value`: what it is rewritten to is the normal form of what it means.
use borrow.Author.Rules.{rules}
use Rattle.writing.proofs.MeaningLaws.{ready_writable, ready_wrote}
use Rattle.writing.proofs.writer.value.Goals as goal

pub written-requires : goal.written-requires
written-requires c = search (rules, ready_writable)

pub returns : goal.returns
returns c = search (rules, ready_wrote)
