-- What is answered of a document to be written, test by test: 8, a 9 for either buffer, or done.
use Rattle.paper.specs.declared.Unwritten.TheVariants.{Refused, Short}
use Rattle.std.specs.Prelude.{Err, Ok}
use mathlib.Core.Bool.{true, false, and-false}
use mathlib.Core.List.{List, []}
use mathlib.Core.Logic.{◌⊎◌, inl, inr}
use mathlib.Core.Path.{◌≡◌, refl, sym, ap, ◌∙◌}
use Prim.Native.Nat.{ℕ, ◌≤◌, ◌<◌}
use borrow.Author.Tests.{le-leb, lt-leb}
use lib.Dec.{leb}
use lib.ListN.{length}
use Rattle.normalise.specs.Answered.{Answered}
use Rattle.numbers.specs.Little.{put_at}
use Rattle.paper.specs.Limits.{most_value}
use Rattle.paper.specs.Meaning.{Doc}
use Rattle.paper.specs.Metadata.{Dictionary}
use Rattle.paper.specs.Normal.{names_used, metadata_bytes, normal_form}
use Rattle.paper.specs.Operations.{written, lengths_of, document_room, document_answer, metadata_written, value_written, writable}
use Rattle.paper.specs.Refusals.{require}
use Rattle.paper.specs.declared.DocumentLengths.{DocumentLengths}
use Rattle.paper.specs.declared.Refusal.TheVariants.{TooLarge}
use Rattle.numbers.proofs.PutLaws.{put_none}

-- Nothing written leaves a buffer as it was.
kept : (l : List ℕ) (new : List ℕ) → new ≡ [] → l ≡ put_at l 0 new
kept l new e = sym (ap (put_at l 0) e ∙ put_none l 0)

-- The document's own lengths, and then those that the code has.
module _ (d : Doc) (first second : List ℕ) where
  large : most_value < length (normal_form d).value → Answered (written d) first first second second (Err (Refused TooLarge))
  unfolding written writable require document_answer metadata_written value_written
  large h =
      rw (lt-leb (length (normal_form d).value) most_value h)
      (record { answer_is = refl; metadata_is = kept first [] refl; value_is = kept second [] refl })

  module _ (fits : length (normal_form d).value ≤ most_value) where
    fitting : written d ≡ Ok (normal_form d)
    unfolding written writable require
    fitting = rw (le-leb (length (normal_form d).value) most_value fits)

    no_room : document_room (normal_form d) (length first) (length second) ≡ false
        → Answered (written d) first first second second (Err (Short (lengths_of (normal_form d))))
    unfolding document_answer metadata_written value_written
    no_room e =
        rw (fitting)
        (record {
          answer_is = rw e;
          metadata_is = kept first _ (rw e refl);
          value_is = kept second _ (rw e refl);
        })

    short : (length first < length (normal_form d).metadata) ⊎ ((length (normal_form d).metadata ≤ length first) × (length second < length (normal_form d).value))
        → Answered (written d) first first second second (Err (Short (lengths_of (normal_form d))))
    unfolding document_room
    short (inl h) = no_room (rw (lt-leb (length (normal_form d).metadata) (length first) h))
    short (inr h) = no_room (rw (lt-leb (length (normal_form d).value) (length second) h.1) (and-false (leb (length (normal_form d).metadata) (length first))))

    done : length (normal_form d).metadata ≤ length first → length (normal_form d).value ≤ length second → {first' second' : List ℕ}
        → first' ≡ put_at first 0 (normal_form d).metadata → second' ≡ put_at second 0 (normal_form d).value
        → Answered (written d) first first' second second' (Ok (lengths_of (normal_form d)))
    unfolding document_answer metadata_written value_written document_room
    done h k put put' =
        let room : document_room (normal_form d) (length first) (length second) ≡ true = rw (le-leb (length (normal_form d).metadata) (length first) h, le-leb (length (normal_form d).value) (length second) k) in
        rw (fitting) (record { answer_is = rw room; metadata_is = put ∙ rw room; value_is = put' ∙ rw room })

  module _ (needed : DocumentLengths) (same : lengths_of (normal_form d) ≡ needed) where
    metadata_same : length (normal_form d).metadata ≡ needed.metadata
    metadata_same = ap (λ (n : DocumentLengths). n.metadata) same

    value_same : length (normal_form d).value ≡ needed.value
    value_same = ap (λ (n : DocumentLengths). n.value) same

    pub needed_large : most_value < needed.value → Answered (written d) first first second second (Err (Refused TooLarge))
    needed_large h = large (rw value_same h)

    pub needed_short : needed.value ≤ most_value → (length first < needed.metadata) ⊎ ((needed.metadata ≤ length first) × (length second < needed.value))
        → Answered (written d) first first second second (Err (Short needed))
    needed_short fits either = rw (← same) (short (rw value_same fits) (rw (metadata_same, value_same) either))

    pub needed_done : needed.value ≤ most_value → needed.metadata ≤ length first → needed.value ≤ length second → {first' second' : List ℕ}
        → first' ≡ put_at first 0 (normal_form d).metadata → second' ≡ put_at second 0 (normal_form d).value
        → Answered (written d) first first' second second' (Ok needed)
    needed_done fits h k put put' = rw (← same) (done (rw value_same fits) (rw metadata_same h) (rw value_same k) put put')

pub answer_large : (d : Doc) (value : List ℕ) → value ≡ (normal_form d).value → (first second : List ℕ) → most_value < length value
    → Answered (written d) first first second second (Err (Refused TooLarge))
answer_large d value is first second h = large d first second (rw (← is) h)

-- What is handed out has the document's lengths, and is the document.
module _ (d : Doc) (names : Dictionary) (used : names ≡ names_used d) (value : List ℕ) (is : value ≡ (normal_form d).value)
    (needed : DocumentLengths) (size : needed.metadata ≡ length (metadata_bytes names)) (long : needed.value ≡ length value) where
  metadata_is-normal : metadata_bytes names ≡ (normal_form d).metadata
  unfolding normal_form
  metadata_is-normal = ap metadata_bytes used

  pub lengths_same : lengths_of (normal_form d) ≡ needed
  lengths_same =
      let first : length (normal_form d).metadata ≡ needed.metadata = rw (size, metadata_is-normal) in
      let second : length (normal_form d).value ≡ needed.value = rw (long, is) in
      rw (first, second)

  pub handed_done : {first first' second second' : List ℕ} → (needed.value ≤ most_value) × (needed.metadata ≤ length first) × (needed.value ≤ length second)
      → first' ≡ put_at first 0 (metadata_bytes names) → second' ≡ put_at second 0 value
      → Answered (written d) first first' second second' (Ok needed)
  handed_done {first} {first'} {second} {second'} room put put' =
      needed_done d first second needed lengths_same room.0 room.1 room.2 (put ∙ ap (put_at first 0) metadata_is-normal) (put' ∙ ap (put_at second 0) is)
