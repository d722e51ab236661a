-- `kind_at`: tag by tag.
use native.Mathlib.Omega.{arith}
use Rattle.schemas.proofs.KindLaws.{kind_leftover, kind_column, kind_list, kind_fields}
use Rattle.schemas.proofs.readers.kind_at.Goals as goal

pub returns-in-0 : goal.returns-in-0
returns-in-0 c = kind_leftover _ _ c.in-0.is

pub bounds-schema-place-in-16 : goal.bounds-schema-place-in-16
bounds-schema-place-in-16 c = c.requires.code_there c.in-16.is

pub returns-in-16 : goal.returns-in-16
returns-in-16 c = kind_column _ _ c.in-16.is

pub returns-in-32 : goal.returns-in-32
returns-in-32 c = kind_list _ _ c.in-32.is

pub returns-in_default : goal.returns-in_default
returns-in_default c = kind_fields c.args.schema.now c.args.place (λ e. omega arith) (λ e. omega arith) (λ e. omega arith)
