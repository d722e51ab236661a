-- A document's normal form under a good schema: what is read of its metadata, and its tables.
use Rattle.paper.specs.Refusals.{RowAnswer}
use Rattle.std.specs.Prelude.{Some}
use Rattle.std.proofs.lemmas.Option.{same_Some}
use mathlib.Core.Bool.{Bool, true, false}
use mathlib.Core.List.{List, ◌++◌}
use mathlib.Core.Path.{◌≡◌, sym, ap, ◌∙◌}
use Prim.Native.Nat.{ℕ, ◌+◌, ◌*◌, ◌/◌, ◌≤◌, ◌<◌}
use native.Mathlib.Nat.{mul-le-mul, mul-one}
use native.Mathlib.Omega.{arith}
use lib.ListN.{length, get_or, take, drop, length-append, length-take, get_or-append}
use Rattle.dictionary.specs.Lent.{LentNames, lent_of}
use Rattle.fields.proofs.NamesLaws.{none_told}
use Rattle.fields.specs.Telling.{names_fields, Told}
use Rattle.lookup.proofs.IdLaws.{ids_length, ids_at}
use Rattle.lookup.specs.Looking.{Ordered, ids_below}
use Rattle.names.proofs.MetadataLaws.{metadata_length, width_bounds, flag_set_lem, metadata_back}
use Rattle.names.proofs.UsedLaws.{names_rise}
use Rattle.paper.proofs.WordLaws.{never, some_there}
use Rattle.paper.specs.Bounds.{most_names}
use Rattle.paper.specs.Metadata.{Dictionary, flag_set, offset_size, dictionary_of}
use Rattle.paper.specs.Normal.{names_used, metadata_width, metadata_bytes}
use Rattle.paper.specs.Operations.{row_outcome}
use Rattle.paper.specs.Schemas.{Schema, schema_of}
use Rattle.paper.specs.Words.{at, and_then, is_there, joined}
use Rattle.handing.specs.Handing.{RowAnswered, Normalised, Tabled}

-- ---- each field's id

pub sorted_ordered : {d : LentNames} → d.sorted ≡ true → (order : List ℕ) → Ordered d order
sorted_ordered set order = record { ids = λ clear. never (sym set ∙ clear) }

-- A schema that names no field.
pub nothing_told : {schema : List ℕ} {r : Bool} → ((node : Schema) → schema_of schema ≡ Some node → r ≡ names_fields node) → r ≡ false
    → (names : Dictionary) (table : List ℕ) (node : Schema) → schema_of schema ≡ Some node → Told names schema table node 0
nothing_told {schema} told none_named names table node is = none_told names schema table node 0 (sym (told node is) ∙ none_named)

-- ---- a normal form's metadata

-- A dictionary has no more names than its normal metadata has bytes, and they are no longer together.
pub metadata_holds : (names : Dictionary) → (length names ≤ length (metadata_bytes names)) × (length (joined names) ≤ length (metadata_bytes names))
metadata_holds names =
    let size = metadata_length names in
    let table : (length names + 1) * 1 ≤ (length names + 1) * metadata_width names = mul-le-mul (omega arith) (width_bounds names).0 in
    let one = mul-one (length names + 1) in
    (omega arith, omega arith)

module _ {schema metadata value : List ℕ} (normal : Normalised schema metadata value) where
  abbrev Used : Dictionary
  Used = names_used normal.d

  used_few : (length Used ≤ most_names) × (length (joined Used) ≤ most_names)
  used_few =
      let short : length (metadata_bytes Used) ≤ most_names = rw normal.metadata_is at normal.metadata_short in
      let hold = metadata_holds Used in
      (omega arith, omega arith)

  pub normal_few : length Used ≤ most_names
  normal_few = used_few.0

  pub normal_good : is_there (schema_of schema) ≡ true
  normal_good = some_there (schema_of schema) normal.node_is

  dictionary_is : dictionary_of metadata ≡ Some Used
  dictionary_is = let few = used_few in rw normal.metadata_is (metadata_back Used (names_rise normal.d) (omega arith) (omega arith))

  pub normal_there : is_there (dictionary_of metadata) ≡ true
  normal_there = some_there (dictionary_of metadata) dictionary_is

  -- what a contract sees of it
  seen : LentNames
  seen = record { names = Used; width = offset_size (at metadata 0); sorted = true; size = length metadata }

  used_within : length Used ≤ length metadata
  used_within = rw normal.metadata_is (metadata_holds Used).0

  -- the dictionary that it opens to, and the ids listed in front of a table, so many
  module _ {d : LentNames} (opens : Some d ≡ lent_of metadata) where
    seen_is : d ≡ seen
    unfolding seen lent_of and_then
    seen_is =
        let flag : flag_set (at metadata 0) ≡ true = rw normal.metadata_is (flag_set_lem Used) in
        same_Some d seen (opens ∙ rw (dictionary_is, flag))

    names_are : d.names ≡ Used
    unfolding seen
    names_are = ap (λ (v : LentNames). v.names) seen_is

    pub opens_sorted : d.sorted ≡ true
    unfolding seen
    opens_sorted = ap (λ (v : LentNames). v.sorted) seen_is

    pub opens_few : length d.names ≤ most_names
    opens_few = rw names_are normal_few

    module _ {count : ℕ} (counted : count ≡ length d.names) where
      count_used : count ≡ length Used
      count_used = counted ∙ ap length names_are

      pub count_within : count ≤ length metadata
      count_within = let is = count_used in let within = used_within in omega arith

      pub count_few : count ≤ most_names
      count_few = let is = count_used in let few = normal_few in omega arith

      pub normal_tabled : (ranks : List ℕ) {table ids : List ℕ} → ((node : Schema) → schema_of schema ≡ Some node → Told d.names schema table node 0)
          → length schema / 9 ≤ length table → count ≤ length ranks → ids ≡ ids_below (length (take count ranks))
          → Tabled (ids ++ drop count ranks) schema table metadata value
      normal_tabled ranks {table} {ids} told tabled room listed =
          record {
            normal = normal;
            told = rw names_are at (told normal.node normal.node_is);
            tabled = tabled;
            ranked = rw (length-append, sizes) (let is = count_used in omega arith);
            own = own;
          }
        where
          are : ids ≡ ids_below count
          are = let size : length (take count ranks) ≡ count = length-take count ranks ∙ (omega arith) in listed ∙ ap ids_below size

          sizes : length ids ≡ count
          sizes = ap length are ∙ ids_length count

          own : (id : ℕ) → id < length Used → get_or (ids ++ drop count ranks) id 0 ≡ id
          own id h =
              let is = count_used in
              let size = sizes in
              get_or-append ids (drop count ranks) 0 id (omega arith) ∙ ap (λ (l : List ℕ). get_or l id 0) are ∙ ids_at count id (omega arith)

      -- so what is answered with the tables is the answer
      pub tabled_answers : (ranks : List ℕ) {table ids : List ℕ} → ((node : Schema) → schema_of schema ≡ Some node → Told d.names schema table node 0)
          → length schema / 9 ≤ length table → count ≤ length ranks → ids ≡ ids_below (length (take count ranks))
          → {row row' : List ℕ} {a : RowAnswer}
          → ((ready : Tabled (ids ++ drop count ranks) schema table metadata value) → RowAnswered (row_outcome ready.normal.node ready.normal.d) row row' a)
          → RowAnswered (row_outcome normal.node normal.d) row row' a
      unfolding normal_tabled
      tabled_answers ranks told tabled room listed answers = answers (normal_tabled ranks told tabled room listed)
