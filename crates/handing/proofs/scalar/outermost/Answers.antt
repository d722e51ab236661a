-- `outermost`: by the kind of the outermost node.
use borrow.Author.Rules.{rules}
use Rattle.handing.proofs.AloneLaws.{alone_kind, alone_headed, alone_untyped, alone_column}
use Rattle.handing.proofs.scalar.outermost.Goals as goal

pub kind_at-requires : goal.kind_at-requires
kind_at-requires c = search (rules, alone_kind)

pub column-requires : goal.column-requires
column-requires c = (c.requires.1, search rules, search (rules, alone_headed))

pub returns-in-Leftover : goal.returns-in-Leftover
returns-in-Leftover c = λ alone. alone_untyped alone c.kind_at.ensures c.place.ensures c.in-Leftover.is

pub returns-in-Column : goal.returns-in-Column
returns-in-Column c = search (rules, alone_column)
