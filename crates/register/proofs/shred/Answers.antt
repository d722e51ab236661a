-- `shred`: the schema's length, the document, then the schema.
use borrow.Author.Rules.{rules}
use Rattle.std.proofs.lemmas.Result.{err_from_is_err_and}
use Rattle.register.proofs.NormaliseLaws.{normalise_asks}
use Rattle.register.proofs.ShredLaws.{shred_schema_long, shred_refused, shred_schema_bad, shred_lawful}
use Rattle.register.proofs.shred.Goals as goal

pub returns-then-schema-gt-MOST_SCHEMA : goal.returns-then-schema-gt-MOST_SCHEMA
returns-then-schema-gt-MOST_SCHEMA c = shred_schema_long _ _ _ c.if-schema-gt-MOST_SCHEMA.true _

pub returns-in_err-dictionary : goal.returns-in_err-dictionary
returns-in_err-dictionary c =
    let p = err_from_is_err_and c.from_residual.result c.from_residual.ensures.1 in
    rw (p.1, p.2) (shred_refused _ _ _ c.if-schema-gt-MOST_SCHEMA.false _ c.judge.ensures _ c.in_err-dictionary.was _)

pub returns-then-not-good : goal.returns-then-not-good
returns-then-not-good c =
    shred_schema_bad _ _ _ c.if-schema-gt-MOST_SCHEMA.false _ c.judge.ensures _ c.in_ok-dictionary.was _ c.good.ensures c.if-not-good.true _

pub shred-requires : goal.shred-requires
shred-requires c =
    (normalise_asks _ _ _ c.judge.ensures _ c.in_ok-dictionary.was, search rules, c.if-schema-gt-MOST_SCHEMA.false)

pub returns : goal.returns
returns c =
    shred_lawful _ _ _ c.if-schema-gt-MOST_SCHEMA.false _ c.judge.ensures _ c.in_ok-dictionary.was _ c.good.ensures c.if-not-good.false
    c.shred.ensures
