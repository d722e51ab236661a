-- `judge`: the refusals in their order.
use Rattle.std.proofs.Common.{None, Some, arith, rules, ◌≡◌}
use Rattle.std.proofs.lemmas.Result.{err_from_is_err_and}
use Rattle.documents.proofs.DocumentLaws.{metadata_long, value_long, metadata_bad, document_lawful, value_bad}
use Rattle.paper.specs.declared.Refusal.TheVariants.{BadMetadata}
use Rattle.documents.proofs.judge.Goals as goal

pub returns-then-metadata-gt-MOST_METADATA : goal.returns-then-metadata-gt-MOST_METADATA
returns-then-metadata-gt-MOST_METADATA c = search (rules, metadata_long)

pub returns-then-value-gt-MOST_VALUE : goal.returns-then-value-gt-MOST_VALUE
returns-then-value-gt-MOST_VALUE c = search (rules, value_long)

pub returns-in_err-dictionary : goal.returns-in_err-dictionary
returns-in_err-dictionary c =
    let p = err_from_is_err_and c.from_residual.result c.from_residual.ensures.1 in
    let none : c.judge.result ≡ None = grind arith in
    let bad : c.in_err-dictionary.field-0.0 ≡ BadMetadata = grind arith in
    rw (p.1, p.2, bad) (search (rules, metadata_bad))

pub returns-then-lawful_value : goal.returns-then-lawful_value
returns-then-lawful_value c =
    let is : c.judge.result ≡ Some c.in_ok-dictionary.dictionary = grind arith in search (rules, document_lawful)

pub returns : goal.returns
returns c =
    let is : c.judge.result ≡ Some c.in_ok-dictionary.dictionary = grind arith in search (rules, value_bad)
