-- A lent document normalised into scratch that has room for it: its normal form stands there, or it is too large.
use Rattle.paper.specs.declared.Unwritten.TheVariants.{Refused, Short}
use Rattle.std.specs.Prelude.{Some, Err, Ok}
use mathlib.Core.Bool.{Bool, true, false, ◌&&◌}
use mathlib.Core.List.{List}
use mathlib.Core.Path.{◌≡◌, refl, ap, ◌∙◌}
use Prim.Native.Nat.{ℕ, ◌*◌, ◌≤◌, ◌<◌, min}
use native.Mathlib.Omega.{arith}
use borrow.Author.Tests.{leb-true, le-leb}
use lib.Dec.{leb}
use lib.ListN.{length, get_or, take}
use lib.Seq.{take_at}
use Rattle.dictionary.proofs.LentLaws.{lent_dictionary, lent_size}
use Rattle.dictionary.specs.Lent.{LentNames, LentBytes}
use Rattle.forms.proofs.GrowthLaws.{normal_grows}
use Rattle.forms.proofs.NormalLaws.{normal_shorter}
use Rattle.forms.proofs.WellFormedLaws.{decoded-well_formed}
use Rattle.normalise.proofs.NumberedLaws.{count_few}
use Rattle.normalise.specs.Answered.{Answered, Lent}
use Rattle.numbers.proofs.PutLaws.{length_put}
use Rattle.numbers.specs.Little.{put_at}
use Rattle.paper.proofs.WordLaws.{and_both, there_some}
use Rattle.paper.specs.Limits.{most_levels, most_metadata, most_schema, most_value}
use Rattle.paper.specs.Meaning.{Doc}
use Rattle.paper.specs.Normal.{names_used, metadata_bytes, value_bytes, normal_form}
use Rattle.paper.specs.Operations.{writable, written, document_room, document_answer, metadata_written, value_written, row_outcome}
use Rattle.paper.specs.Refusals.{require, DocumentAnswer, RowAnswer}
use Rattle.paper.specs.Schemas.{Schema, schema_of}
use Rattle.paper.specs.Values.{meaning_of}
use Rattle.paper.specs.Words.{is_there}
use Rattle.paper.specs.declared.DocumentLengths.{DocumentLengths}
use Rattle.paper.specs.declared.Refusal.TheVariants.{TooLarge}
use Rattle.paper.specs.declared.Refusal.{Refusal}
use Rattle.handing.proofs.HandLaws.{refused_row}
use Rattle.handing.specs.Handing.{RowAnswered, Normalised}

-- What was put in front of a buffer stands there.
put_in_front : (before new : List ℕ) {after : List ℕ} → after ≡ put_at before 0 new → {size : ℕ} → size ≡ length new → length new ≤ length before
    → (size ≤ length after) × (take size after ≡ new)
unfolding put_at
put_in_front before new is e room =
    let same = length_put before 0 new (omega arith) in
    (rw is (omega arith), rw (is, e) (take_at new _ (length new) refl))

-- ---- a document's normal form may be written, or it is too large, and so is its row

abbrev Metadata : Doc → List ℕ
Metadata d = metadata_bytes (names_used d)

abbrev Value : Doc → List ℕ
Value d = value_bytes (names_used d) d

data Writing (d : Doc) : Type 0 where
  large : written d ≡ Err TooLarge → ((node : Schema) → row_outcome node d ≡ Err TooLarge) → Writing d
  fitting : length (Value d) ≤ most_value → written d ≡ Ok (normal_form d) → Writing d

writing : (d : Doc) → Writing d
unfolding written row_outcome writable require normal_form
writing d = go (leb (length (Value d)) most_value) refl
  where
    go : (b : Bool) → leb (length (Value d)) most_value ≡ b → Writing d
    go true e = fitting (leb-true (length (Value d)) most_value e) (rw e)
    go false e = large (rw e) (λ node. rw e)

-- ---- what normalise answered

module _ (d : Doc) {first first' second second' : List ℕ} {a : DocumentAnswer} (answered : Answered (written d) first first' second second' a) where
  abbrev Rooms : Bool
  Rooms = leb (length (Metadata d)) (length first) && leb (length (Value d)) (length second)

  was_refused : written d ≡ Err TooLarge → a ≡ Err (Refused TooLarge)
  unfolding document_answer
  was_refused is = rw is at answered.answer_is

  was_short : written d ≡ Ok (normal_form d) → Rooms ≡ false → a ≡ Err (Short (record { metadata = length (Metadata d); value = length (Value d) }))
  unfolding document_answer document_room normal_form
  was_short is room = rw (is, room) at answered.answer_is

  was_done : written d ≡ Ok (normal_form d) → Rooms ≡ true → a ≡ Ok (record { metadata = length (Metadata d); value = length (Value d) })
  unfolding document_answer document_room normal_form
  was_done is room = rw (is, room) at answered.answer_is

  -- Done: the normal form stands in front of both buffers.
  record Stands (w : DocumentLengths) : Type 0 where
    pub metadata_inside : w.metadata ≤ length first'
    pub metadata_stands : take w.metadata first' ≡ Metadata d
    pub metadata_fits : length (Metadata d) ≤ length first
    pub value_inside : w.value ≤ length second'
    pub value_stands : take w.value second' ≡ Value d
    pub fits : length (Value d) ≤ most_value

  done_stands : {w : DocumentLengths} → a ≡ Ok w → Stands w
  unfolding metadata_written value_written document_room normal_form
  done_stands {w} e = go (writing d)
    where
      by_room : written d ≡ Ok (normal_form d) → length (Value d) ≤ most_value → (b : Bool) → Rooms ≡ b → Stands w
      by_room is short true room =
          let told = was_done is room in
          let same : w ≡ record { metadata = length (Metadata d); value = length (Value d) } = cc in
          let k-is : w.metadata ≡ length (Metadata d) = ap (λ (l : DocumentLengths). l.metadata) same in
          let l-is : w.value ≡ length (Value d) = ap (λ (l : DocumentLengths). l.value) same in
          let rooms = and_both (leb (length (Metadata d)) (length first)) (leb (length (Value d)) (length second)) room in
          let metadata_fits = leb-true (length (Metadata d)) (length first) rooms.0 in
          let metadata = put_in_front first (Metadata d) (rw (is, room) at answered.metadata_is) k-is metadata_fits in
          let value = put_in_front second (Value d) (rw (is, room) at answered.value_is) l-is (leb-true (length (Value d)) (length second) rooms.1) in
          record {
            metadata_inside = metadata.0;
            metadata_stands = metadata.1;
            metadata_fits = metadata_fits;
            value_inside = value.0;
            value_stands = value.1;
            fits = short;
          }
      by_room is short false room = let told = was_short is room in absurd (let z : ◌≡◌ {A = ℕ} 0 1 = cc in omega arith)

      go : Writing d → Stands w
      go (large refuses row) = let told = was_refused refuses in absurd (let z : ◌≡◌ {A = ℕ} 0 1 = cc in omega arith)
      go (fitting short is) = by_room is short _ refl

  -- Short: not where both buffers have room.
  never_short : {w : DocumentLengths} → a ≡ Err (Short w) → (length (Value d) ≤ most_value → (length (Metadata d) ≤ length first) × (length (Value d) ≤ length second)) → ⊥
  never_short {w} e room = go (writing d)
    where
      go : Writing d → ⊥
      go (large refuses row) = let told = was_refused refuses in let z : ◌≡◌ {A = ℕ} 0 1 = cc in omega arith
      go (fitting short is) =
          let told = was_done is (rw (le-leb (length (Metadata d)) (length first) (room short).0, le-leb (length (Value d)) (length second) (room short).1)) in
          let z : ◌≡◌ {A = ℕ} 0 1 = cc in
          omega arith

  -- Refused: so is the row.
  row_refused : {refusal : Refusal} → a ≡ Err (Refused refusal) → (node : Schema) (row : List ℕ) → RowAnswered (row_outcome node d) row row (Err (Refused refusal))
  row_refused {refusal} e node row = go (writing d)
    where
      by_room : written d ≡ Ok (normal_form d) → (b : Bool) → Rooms ≡ b → RowAnswered (row_outcome node d) row row (Err (Refused refusal))
      by_room is true room = let told = was_done is room in absurd (let z : ◌≡◌ {A = ℕ} 0 1 = cc in omega arith)
      by_room is false room = let told = was_short is room in absurd (let z : ◌≡◌ {A = ℕ} 0 1 = cc in omega arith)

      go : Writing d → RowAnswered (row_outcome node d) row row (Err (Refused refusal))
      go (large refuses refuses-row) =
          let told = was_refused refuses in
          let same : TooLarge ≡ refusal = cc in
          refused_row (refuses-row node ∙ ap Err same) row
      go (fitting short is) = by_room is _ refl

-- ---- of a lent document

module _ {names : LentNames} {v : List ℕ} (lent : Lent names v) {first first' second second' : List ℕ} {a : DocumentAnswer}
    (answers : (d : Doc) → meaning_of most_levels names.names v ≡ Some d → Answered (written d) first first' second second' a) where
  meant : (d : Doc) × (meaning_of most_levels names.names v ≡ Some d)
  meant = there_some (meaning_of most_levels names.names v) lent.meant

  pub refused_answers : {refusal : Refusal} → a ≡ Err (Refused refusal) → (schema row : List ℕ)
      → (node : Schema) (d : Doc) → schema_of schema ≡ Some node → meaning_of most_levels names.names v ≡ Some d → RowAnswered (row_outcome node d) row row (Err (Refused refusal))
  refused_answers e schema row node d is means = row_refused d (answers d means) e node row

  -- Where there is room for what may be written, nothing is too short.
  pub short_never : {w : DocumentLengths} → a ≡ Err (Short w) → LentBytes names → ((i : ℕ) → get_or v i 0 < 256) → names.size ≤ length first
      → min (2 * length v) most_value ≤ length second → ⊥
  unfolding normal_form
  short_never e known value_bytes_of metadata_room value_room =
      let few = count_few known.lent lent.metadata_short in
      let short = lent.value_short in
      let d : Doc = meant.0 in
      let most : length (Value d) ≤ 2 * length v = normal_grows most_levels names.names v d meant.1 value_bytes_of (omega arith) (omega arith) in
      never_short d (answers d meant.1) e λ fits. (let shorter = metadata_shorter d meant.1 fits in omega arith, omega arith)
    where
      metadata_shorter : (d : Doc) → meaning_of most_levels names.names v ≡ Some d → length (Value d) ≤ most_value → length (Metadata d) ≤ names.size
      metadata_shorter d means fits =
          rw (← lent_size known.lent)
          (normal_shorter known.lent.metadata v (normal_form d)
          (record {
            names = names.names;
            d = d;
            metadata_fits = rw (lent_size known.lent) lent.metadata_short;
            value_fits = lent.value_short;
            metadata_is = lent_dictionary known.lent;
            value_is = means;
            written_fits = fits;
            written_is = refl;
          })
          known.bytes)

  module _ {w : DocumentLengths} (e : a ≡ Ok w) where
    pub metadata_inside : w.metadata ≤ length first'
    metadata_inside = (done_stands meant.0 (answers meant.0 meant.1) e).metadata_inside

    pub value_inside : w.value ≤ length second'
    value_inside = (done_stands meant.0 (answers meant.0 meant.1) e).value_inside

    module _ {schema : List ℕ} (short : length schema ≤ most_schema) (few : length first ≤ most_metadata) where
      done_normal : (node : Schema) (d : Doc) → schema_of schema ≡ Some node → meaning_of most_levels names.names v ≡ Some d
          → Normalised schema (take w.metadata first') (take w.value second')
      done_normal node d is means =
          let stands = done_stands d (answers d means) e in
          let fits = stands.metadata_fits in
          record {
            node = node;
            node_is = is;
            schema_short = short;
            d = d;
            good = decoded-well_formed most_levels names.names v d means;
            metadata_is = stands.metadata_stands;
            metadata_short = rw stands.metadata_stands (omega arith);
            value_is = stands.value_stands;
            value_short = rw stands.value_stands stands.fits;
          }

      pub normal_asked : is_there (schema_of schema) ≡ true → Normalised schema (take w.metadata first') (take w.value second')
      normal_asked good = let node = there_some (schema_of schema) good in done_normal node.0 meant.0 node.1 meant.1

      pub normal_answers : {row row' : List ℕ} {answer : RowAnswer}
          → ((normal : Normalised schema (take w.metadata first') (take w.value second')) → RowAnswered (row_outcome normal.node normal.d) row row' answer)
          → (node : Schema) (d : Doc) → schema_of schema ≡ Some node → meaning_of most_levels names.names v ≡ Some d → RowAnswered (row_outcome node d) row row' answer
      unfolding done_normal
      normal_answers answered node d is means = answered (done_normal node d is means)
