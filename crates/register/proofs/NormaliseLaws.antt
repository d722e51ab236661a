-- Normalise: a lawful document comes to what is written of it, another is refused and leaves both buffers as they were;
-- and the lengths have room in a word.
use Rattle.paper.specs.declared.Unwritten.TheVariants.{Refused, Short}
use Rattle.std.specs.Prelude.{Some, Err, Ok}
use mathlib.Core.Bool.{Bool, true, false, cond, ◌&&◌}
use mathlib.Core.List.{List}
use mathlib.Core.Path.{◌≡◌, refl, sym, ap, ◌∙◌}
use Prim.Native.Nat.{ℕ, ◌^◌, ◌≤◌, ◌<◌}
use native.Mathlib.Omega.{arith}
use borrow.Author.Tests.{lt-ltb}
use lib.Dec.{ltb}
use lib.ListN.{length, get_or}
use Rattle.dictionary.specs.Lent.{LentNames}
use Rattle.documents.specs.Judged.{document_of}
use Rattle.normalise.specs.Answered.{Answered, Lent}
use Rattle.paper.specs.Limits.{most_levels, most_metadata, most_value}
use Rattle.paper.specs.Meaning.{Doc}
use Rattle.paper.specs.Normal as normal
use Rattle.paper.specs.Normal.{names_used, metadata_bytes, value_bytes, normal_form}
use Rattle.paper.specs.Operations.{written, document_room, document_answer, metadata_written, value_written, normalise_outcome}
use Rattle.paper.specs.Refusals.{Outcome, DocumentAnswer}
use Rattle.paper.specs.Values.{meaning_of}
use Rattle.paper.specs.declared.Refusal.{Refusal}
use Rattle.words.specs.Boundary.{document_has_room}
use Rattle.dictionary.proofs.LentLaws.{lent_size}
use Rattle.forms.proofs.NormalLaws.{Accepted, accepted, normal_shorter}
use Rattle.numbers.proofs.PutLaws.{put_none}
use Rattle.paper.proofs.WordLaws.{some_there}
use Rattle.register.proofs.DocumentAnswers.{judged_lawful, judged_refused, lawful, refused_same}

-- What is refused leaves both buffers as they were.
pub refused_answers : {o : Outcome normal.Document} {refusal : Refusal} → o ≡ Err refusal → (first second : List ℕ)
    → Answered o first first second second (Err (Refused refusal))
unfolding document_answer metadata_written value_written
refused_answers e first second =
    rw e (record { answer_is = refl; metadata_is = sym (put_none first 0); value_is = sym (put_none second 0) })

module _ (m v : List ℕ) (r : Outcome LentNames) (told : r ≡ document_of m v) where
  -- what the writing of the normal form asks
  pub normalise_asks : (d : LentNames) → r ≡ Ok d → Lent d v
  normalise_asks d e =
      let l = lawful m v r told d e in
      let size : length m ≡ d.size = lent_size (record { metadata = m; opens = l.opens }) in
      let short = l.metadata_short in
      record { meant = some_there (meaning_of most_levels d.names v) l.means; metadata_short = omega arith; value_short = l.short }

  module _ (first first' second second' : List ℕ) where
    pub normalise_lawful : (d : LentNames) → r ≡ Ok d → (a : DocumentAnswer)
        → ((doc : Doc) → meaning_of most_levels d.names v ≡ Some doc → Answered (written doc) first first' second second' a)
        → Answered (normalise_outcome m v) first first' second second' a
    unfolding normalise_outcome
    normalise_lawful d e a answers =
        let l = lawful m v r told d e in
        rw (judged_lawful (λ ns d. written d) m v l) (answers l.doc_is l.means)

  pub normalise_refused : (refusal : Refusal) → r ≡ Err refusal → (first second : List ℕ)
      → Answered (normalise_outcome m v) first first second second (Err (Refused refusal))
  unfolding normalise_outcome
  normalise_refused refusal e first second =
      refused_answers (judged_refused (λ ns d. written d) m v refusal (refused_same m v r told refusal e)) first second

-- ---- the lengths of an answer have room in a word

pub record Fitting (n : normal.Document) : Type 0 where
  pub metadata_fits : length n.metadata ≤ most_metadata
  pub value_fits : length n.value ≤ most_value

pub lengths_fit : (o : Outcome normal.Document) → ((n : normal.Document) → o ≡ Ok n → Fitting n) → (a b : ℕ) → document_has_room (document_answer o a b) ≡ true
unfolding document_answer
lengths_fit (Err refusal) fits a b = refl
lengths_fit (Ok n) fits a b = go (document_room n a b)
  where
    small : ltb (length n.metadata) (2 ^ 24) && ltb (length n.value) (2 ^ 24) ≡ true
    small =
        let one : length n.metadata < 2 ^ 24 = omega (arith, (fits n refl).metadata_fits) in
        let two : length n.value < 2 ^ 24 = omega (arith, (fits n refl).value_fits) in
        rw (lt-ltb (length n.metadata) (2 ^ 24) one, lt-ltb (length n.value) (2 ^ 24) two)

    go : (room : Bool)
        → document_has_room (cond room (Ok (record { metadata = length n.metadata; value = length n.value })) (Err (Short (record { metadata = length n.metadata; value = length n.value })))) ≡ true
    go true = small
    go false = small

module _ (m v : List ℕ) (bytes : (i : ℕ) → get_or m i 0 < 256) where
  -- the normal metadata is no longer than the lent one, and the normal value no longer than a value may be
  reached_fits : (n : normal.Document) → normalise_outcome m v ≡ Ok n → Fitting n
  unfolding normal_form
  reached_fits n e =
      let a : Accepted m v n = accepted m v n e in
      let own : length n.metadata ≡ length (metadata_bytes (names_used a.d)) = ap (λ (k : normal.Document). length k.metadata) (sym a.written_is) in
      let own_value : length n.value ≡ length (value_bytes (names_used a.d) a.d) = ap (λ (k : normal.Document). length k.value) (sym a.written_is) in
      let shorter : length (metadata_bytes (names_used a.d)) ≤ length m = normal_shorter m v n a bytes in
      let fit : length m ≤ most_metadata = a.metadata_fits in
      let fit-value : length (value_bytes (names_used a.d) a.d) ≤ most_value = a.written_fits in
      record { metadata_fits = omega arith; value_fits = omega arith }

  pub answer_fits : (first first' second second' : List ℕ) (answer : DocumentAnswer)
      → Answered (normalise_outcome m v) first first' second second' answer → document_has_room answer ≡ true
  answer_fits first first' second second' answer is =
      ap document_has_room is.answer_is ∙ lengths_fit (normalise_outcome m v) reached_fits (length first) (length second)
