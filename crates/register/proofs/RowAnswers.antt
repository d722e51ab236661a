-- The answers of the row judge: the lengths, the schema, then the row's verdict.
use Rattle.std.specs.Prelude.{Option, None, Some, Ok, Err, MatchResult}
use mathlib.Core.Bool.{Bool, true, false, ◌&&◌}
use mathlib.Core.List.{List}
use mathlib.Core.Logic.{◌⊎◌, inl, inr}
use mathlib.Core.Path.{◌≡◌, refl, sym, ap, ◌∙◌}
use Prim.Native.Nat.{ℕ, ◌/◌, ◌≤◌, ◌<◌}
use native.Mathlib.Omega.{arith}
use lib.Dec.{leb}
use lib.ListN.{length}
use Rattle.paper.specs.Limits.{most_schema, most_row}
use Rattle.paper.specs.Operations.{checked_by, judge_answer, row_judged}
use Rattle.paper.specs.Refusals.{Outcome, require, obtain}
use Rattle.paper.specs.Rows.{Row, row_of}
use Rattle.paper.specs.Rules.{row_lawful}
use Rattle.paper.specs.Schemas.{Schema, schema_of}
use Rattle.paper.specs.Words.{is_there}
use Rattle.paper.specs.declared.Refusal.TheVariants.{TooLong, BadSchema, BadRow, BrokenRule}
use Rattle.paper.proofs.WordLaws.{there_some}
use Rattle.paper.specs.declared.Refusal.{Refusal}
use Rattle.rebuild.specs.Rebuilding.{Judged}
use Rattle.rows.specs.Judging.{JudgedAs}
use Rattle.rows.specs.declared.judging.RowParts.{RowParts}
use Rattle.register.proofs.DocumentAnswers.{same_refusal}
use Rattle.register.proofs.RowOutcomes.{outcome_long, outcome_schema_bad, outcome_unparsed, outcome_broken, outcome_lawful}

module _ (s row : List ℕ) where
  abbrev Judge : Schema → Row → Outcome Row
  Judge node parsed = Ok parsed

  -- ---- judged in order: the lengths, the schema, then the row

  pub too_long : (most_schema < length s) ⊎ ((length s ≤ most_schema) × (most_row < length row)) → Err TooLong ≡ judge_answer s row
  unfolding judge_answer checked_by
  too_long long = sym (ap checked_by (outcome_long Judge s row long))

  module _ (short : length s ≤ most_schema) (fits : length row ≤ most_row) (good : Bool) (is : good ≡ is_there (schema_of s)) where
    pub schema_bad : good ≡ false → Err BadSchema ≡ judge_answer s row
    unfolding judge_answer checked_by
    schema_bad bad = sym (ap checked_by (outcome_schema_bad Judge s row short fits (sym is ∙ bad)))

    pub row_judged_as : good ≡ true → {table : List ℕ} → length s / 9 ≤ length table → (r : Outcome RowParts) → JudgedAs s row table r
        → MatchResult r (λ parts. (judged : Judged s parts table) × (judged.bytes ≡ row)) (λ refusal. Err refusal ≡ judge_answer s row)
    unfolding judge_answer checked_by
    row_judged_as well tabled (Ok parts) told = (
      record {
        bytes = row;
        handed = told.handed parts refl;
        good = sym is ∙ well;
        tabled = tabled;
        schema_short = short;
        row_short = fits;
        lawful = λ node f. sym (told.verdict_is node f);
      },
      refl,
    )
    row_judged_as well {table} tabled (Err refusal) told = go (told.refused refusal refl) told
      where
        node : (n : Schema) × (schema_of s ≡ Some n)
        node = there_some (schema_of s) (sym is ∙ well)

        go : {refusal : Refusal} → (refusal ≡ BrokenRule) ⊎ (refusal ≡ BadRow) → JudgedAs s row table (Err refusal) → Err refusal ≡ judge_answer s row
        go (inl broken) given =
            rw broken (sym (ap checked_by (outcome_broken Judge s row short fits node.1 ((rw broken at given).verdict_is node.0 node.1))))
        go (inr unparsed) given =
            rw unparsed (sym (ap checked_by (outcome_unparsed Judge s row short fits node.1 ((rw unparsed at given).verdict_is node.0 node.1))))

  -- ---- what the judgement says

  -- What is refused is refused alike, whatever is to come of a lawful row.
  pub refused_outcome : {A : Type 0} (next : Schema → Row → Outcome A) {refusal : Refusal} → Err refusal ≡ judge_answer s row
      → row_judged s row next ≡ Err refusal
  unfolding judge_answer row_judged checked_by require obtain
  refused_outcome next {refusal} e = go (leb (length s) most_schema && leb (length row) most_row) (schema_of s) (sym e)
    where
      kept : (node : Schema) (parsed : Row) (b : Bool) → checked_by (require b BrokenRule (Ok parsed)) ≡ Err refusal
          → require b BrokenRule (next node parsed) ≡ Err refusal
      kept node parsed true f = absurd (let z : ◌≡◌ {A = ℕ} 0 1 = cc in omega arith)
      kept node parsed false f = same_refusal f

      read : (node : Schema) (x : Option Row) → checked_by (obtain x BadRow λ parsed. require (row_lawful node parsed) BrokenRule (Ok parsed)) ≡ Err refusal
          → obtain x BadRow (λ parsed. require (row_lawful node parsed) BrokenRule (next node parsed)) ≡ Err refusal
      read node None f = same_refusal f
      read node (Some parsed) f = kept node parsed (row_lawful node parsed) f

      go : (b : Bool) (x : Option Schema)
          → checked_by (require b TooLong (obtain x BadSchema λ node. obtain (row_of node row) BadRow λ parsed. require (row_lawful node parsed) BrokenRule (Ok parsed))) ≡ Err refusal
          → require b TooLong (obtain x BadSchema λ node. obtain (row_of node row) BadRow λ parsed. require (row_lawful node parsed) BrokenRule (next node parsed)) ≡ Err refusal
      go false x f = same_refusal f
      go true None f = same_refusal f
      go true (Some node) f = read node (row_of node row) f

-- A lawful row's document, for whatever is to come of it.
pub lawful_outcome : {s : List ℕ} {parts : RowParts} {table : List ℕ} (judged : Judged s parts table) {A : Type 0} (next : Schema → Row → Outcome A)
    → (node : Schema) × (parsed : Row) × (schema_of s ≡ Some node) × (row_of node judged.bytes ≡ Some parsed) × (row_judged s judged.bytes next ≡ next node parsed)
lawful_outcome {s} judged next =
    let node = there_some (schema_of s) judged.good in
    let came = outcome_lawful next s judged.bytes judged.schema_short judged.row_short node.1 (sym (judged.lawful node.0 node.1)) in
    (node.0, came.0, node.1, came.1, came.2)

pub row_good : {s : List ℕ} {parts : RowParts} {table : List ℕ} (judged : Judged s parts table) → Ok tt ≡ judge_answer s judged.bytes
unfolding judge_answer checked_by
row_good judged = let came = lawful_outcome judged (λ node parsed. Ok parsed) in sym (ap checked_by came.4)
