-- Rebuild: a lawful row comes to what is written of what it means, another is refused and leaves both buffers as they were; and
-- the lengths have room in a word.
use Rattle.paper.specs.declared.Unwritten.TheVariants.{Refused}
use Rattle.std.specs.Prelude.{Some, Err, Ok}
use mathlib.Core.Bool.{Bool, true, false}
use mathlib.Core.List.{List}
use mathlib.Core.Path.{◌≡◌, refl, ap, ◌∙◌}
use Prim.Native.Nat.{ℕ, ◌≤◌, ◌<◌}
use native.Mathlib.Omega.{arith}
use borrow.Author.Tests.{leb-true}
use lib.Dec.{leb}
use lib.ListN.{length, get_or}
use Rattle.normalise.specs.Answered.{Answered}
use Rattle.paper.specs.Limits.{most_metadata, most_value}
use Rattle.paper.specs.Meaning.{Doc}
use Rattle.paper.specs.Normal as normal
use Rattle.paper.specs.Normal.{normal_form}
use Rattle.paper.specs.Operations.{written, writable, rebuild_outcome, judge_answer}
use Rattle.paper.specs.Rebuilding.{row_meaning}
use Rattle.paper.specs.Refusals.{Outcome, require, DocumentAnswer}
use Rattle.paper.specs.Rows.{Row, row_of}
use Rattle.paper.specs.Schemas.{Schema, schema_of}
use Rattle.paper.specs.declared.Refusal.TheVariants.{TooLarge}
use Rattle.paper.specs.declared.Refusal.{Refusal}
use Rattle.rebuild.proofs.MeaningLaws.{row_means}
use Rattle.rebuild.proofs.NumberedLaws.{metadata_fits}
use Rattle.rebuild.specs.Rebuilding.{Judged}
use Rattle.rows.specs.Judging.{InOrder}
use Rattle.rows.specs.declared.judging.RowParts.{RowParts}
use Rattle.words.specs.Boundary.{document_has_room}
use Rattle.register.proofs.NormaliseLaws.{refused_answers, Fitting, lengths_fit}
use Rattle.register.proofs.RowAnswers.{lawful_outcome, refused_outcome}

-- What is answered, with lengths that have room in a word.
abbrev Rebuilt : (s row first first' second second' : List ℕ) → DocumentAnswer → Type 0
Rebuilt s row first first' second second' a = Answered (rebuild_outcome s row) first first' second second' a × (document_has_room a ≡ true)

-- What is written of a document whose normal metadata is no longer than metadata may be.
written_fits : (d : Doc) → length (normal_form d).metadata ≤ most_metadata → (n : normal.Document) → written d ≡ Ok n → Fitting n
unfolding written writable require
written_fits d short n e = go (leb (length (normal_form d).value) most_value) refl e
  where
    go : (b : Bool) → leb (length (normal_form d).value) most_value ≡ b → require b TooLarge (Ok (normal_form d)) ≡ Ok n → Fitting n
    go true f g =
        let same : normal_form d ≡ n = cc in
        rw (← same) (record { metadata_fits = short; value_fits = leb-true (length (normal_form d).value) most_value f })
    go false f g = absurd (let z : ◌≡◌ {A = ℕ} 0 1 = cc in omega arith)

module _ (s row : List ℕ) where
  abbrev Write : Schema → Row → Outcome normal.Document
  Write node parsed = written (row_meaning node parsed)

  pub rebuild_refused : {refusal : Refusal} → Err refusal ≡ judge_answer s row → (first second : List ℕ)
      → Rebuilt s row first first second second (Err (Refused refusal))
  unfolding rebuild_outcome
  rebuild_refused e first second = (refused_answers (refused_outcome s row Write e) first second, refl)

module _ {s : List ℕ} {parts : RowParts} {table : List ℕ} (judged : Judged s parts table) where
  abbrev Bytes : List ℕ
  Bytes = judged.bytes

  pub rebuild_lawful : ((i : ℕ) → get_or Bytes i 0 < 256) → {first first' second second' : List ℕ} {a : DocumentAnswer}
      → ((bytes : List ℕ) → InOrder bytes parts → (node : Schema) (parsed : Row) → schema_of s ≡ Some node → row_of node bytes ≡ Some parsed
      → Answered (written (row_meaning node parsed)) first first' second second' a)
      → Rebuilt s Bytes first first' second second' a
  unfolding rebuild_outcome
  rebuild_lawful small {first} {first'} {second} {second'} {a} answers =
      let came = lawful_outcome judged (λ node parsed. written (row_meaning node parsed)) in
      let here = judged.handed.in_order in
      let d : Doc = row_meaning came.0 came.1 in
      let answered = answers Bytes here came.0 came.1 came.2 came.3 in
      let means = row_means here came.0 came.1 came.3 s came.2 in
      let size : length (normal_form d).metadata ≤ most_metadata = rw means (metadata_fits judged small) in
      (rw came.4 answered, ap document_has_room answered.answer_is ∙ lengths_fit (written d) (written_fits d size) (length first) (length second))
