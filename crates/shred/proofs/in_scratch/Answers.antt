-- `in_scratch`: the normal form stands in front of the scratch, and its row is the document's; what is too large is refused.
use Rattle.std.specs.Prelude.{Err}
use mathlib.Core.Path.{ap, ◌∙◌}
use native.Mathlib.Omega.{arith}
use lib.ListN.{length-take}
use Rattle.shred.proofs.ScratchLaws.{metadata_inside, value_inside, normal_asked, normal_answers, short_never, refused_answers}
use Rattle.shred.proofs.in_scratch.Goals as goal

pub shared_whole_as_front-with_tables : goal.shared_whole_as_front-with_tables
shared_whole_as_front-with_tables g c = let inside = metadata_inside c.requires.0 c.normalise-answer.ensures c.in-Ok.is in (omega (arith, c.normalise-answer.auto), omega arith)

pub shared_whole_as_front-with_tables-in-Ok : goal.shared_whole_as_front-with_tables-in-Ok
shared_whole_as_front-with_tables-in-Ok g c = let inside = value_inside c.requires.0 c.normalise-answer.ensures c.in-Ok.is in (omega (arith, c.normalise-answer.auto), omega arith)

pub with_tables-requires : goal.with_tables-requires
with_tables-requires g c = (
  normal_asked c.requires.0 c.normalise-answer.ensures c.in-Ok.is c.requires.2 (omega arith) c.requires.1,
  rw length-take (omega (arith, c.normalise-answer.auto)),
  rw length-take (omega (arith, c.normalise-answer.auto)),
  rw length-take (omega (arith, c.normalise-answer.auto)),
  omega arith,
)

pub unreachable-requires : goal.unreachable-requires
unreachable-requires g c =
    short_never c.requires.0 c.normalise-answer.ensures (c.in-Err-Short.is ∙ ap Err (rw c.in-Err-Short.is at c.in-Err-Short.field-0-is))
    c.requires.3 (λ i. omega (arith, c.type_inv.value i)) (omega arith) (omega arith)

pub returns-in-Ok : goal.returns-in-Ok
returns-in-Ok g c = normal_answers c.requires.0 c.normalise-answer.ensures c.in-Ok.is c.requires.2 (omega arith) c.with_tables.ensures

pub returns-in-Err-Refused : goal.returns-in-Err-Refused
returns-in-Err-Refused g c = refused_answers c.requires.0 c.normalise-answer.ensures (c.in-Err-Refused.is ∙ ap Err (rw c.in-Err-Refused.is at c.in-Err-Refused.field-0-is)) _ _
