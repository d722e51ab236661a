-- A scalar that is its own normal form: no id is in it, so it is written as it stands, and it has no names.
use Rattle.paper.specs.Refusals.{RowAnswer}
use Rattle.std.specs.Prelude.{Some}
use mathlib.Core.Bool.{Bool, true, false, cond, not, ◌&&◌, ◌||◌}
use mathlib.Core.List.{List, [], ◌∷◌}
use mathlib.Core.Path.{◌≡◌, refl, sym, ap, ◌∙◌}
use Prim.Native.Nat.{ℕ, zero, suc, ◌+◌, ◌-◌, ◌*◌, ◌/◌, ◌%◌, ◌≤◌, ◌<◌}
use native.Mathlib.Omega.{arith}
use borrow.Author.Tests.{eq-eqb, lt-leb, ltb-true, eqb-true}
use lib.Dec.{leb, ltb, eqb}
use lib.ListN.{length, get_or, drop}
use Rattle.forms.proofs.WellFormedLaws.{decoded-well_formed}
use Rattle.forms.specs.WellFormed.{well_formed}
use Rattle.handing.specs.Handing.{RowAnswered, no_names, Alone}
use Rattle.marking.specs.Ids.{ids_by, ids_in, holds}
use Rattle.members.proofs.OpenLaws.{no_array, no_object}
use Rattle.normalise.specs.Answered.{Lent}
use Rattle.dictionary.specs.Lent.{LentNames}
use Rattle.paper.proofs.WordLaws.{never, and_both, there_some}
use Rattle.numbers.specs.Little.{number_bytes, width_within, smallest_width}
use Rattle.paper.specs.FirstBytes.{length_prefixed, payload_sizes, primitive_reading, kind_reading, reading_of}
use Rattle.paper.specs.Limits.{most_levels, most_schema}
use Rattle.paper.specs.Meaning.{Doc, null, scalar, array, object, Docs, Fields}
use Rattle.paper.specs.Metadata.{Dictionary}
use Rattle.paper.specs.Normal.{add_names, names_used, id_of, offsets_from, numbers_bytes, metadata_width, metadata_bytes, value_bytes}
use Rattle.paper.specs.Operations.{row_outcome}
use Rattle.paper.specs.Schemas.{Schema, schema_of}
use Rattle.paper.specs.Values.{meaning_by, meaning_of}
use Rattle.paper.specs.Words.{at, is_there, joined}
use Rattle.paper.specs.declared.Reading.TheVariants.{Fixed, Prefixed, Short, ObjectHead, ArrayHead, Nothing}
use Rattle.paper.specs.declared.Reading.{Reading}
use Rattle.values.proofs.ValueLaws.{whole_some}
use Rattle.writing.proofs.MeaningLaws.{rewritten_is}
use Rattle.writing.proofs.RewrittenLaws.{one_level}
use Rattle.writing.specs.Rewritten.{shortened, rewritten_by, rewritten}
use Rattle.shred.specs.Alone.{stands_alone}

-- ---- what its first byte says

-- A primitive or a short string is read as no container.
data Plain (first : ℕ) : Reading → Type 0 where
  fixed : {type size : ℕ} → Plain first (Fixed type size)
  prefixed : {type : ℕ} → first ≡ 4 * type → Plain first (Prefixed type)
  short : {size : ℕ} → Plain first (Short size)
  unread : Plain first Nothing

primitive : (first type : ℕ) → first ≡ 4 * type → Plain first (primitive_reading type)
unfolding primitive_reading
primitive first type is = go (leb type 20) (eqb (get_or payload_sizes type 0) length_prefixed)
  where
    go : (b c : Bool) → Plain first (cond b (cond c (Prefixed type) (Fixed type (get_or payload_sizes type 0))) Nothing)
    go true true = prefixed is
    go true false = fixed
    go false c = unread

plain : (first : ℕ) → first % 4 < 2 → Plain first (reading_of first)
unfolding reading_of kind_reading
plain first low = go (first % 4) (first / 4) (omega arith) low
  where
    go : (kind rest : ℕ) → first ≡ 4 * rest + kind → kind < 2 → Plain first (kind_reading kind rest)
    go zero rest is low = primitive first rest (omega arith)
    go (suc zero) rest is low = short
    go (suc (suc more)) rest is low = absurd (omega arith)

no_list : {first : ℕ} {r : Reading} → Plain first r → (counted width : ℕ) → r ≡ ArrayHead counted width → ◌≡◌ {A = ℕ} 0 1
no_list fixed counted width e = cc
no_list (prefixed is) counted width e = cc
no_list short counted width e = cc
no_list unread counted width e = cc

no_fields_lem : {first : ℕ} {r : Reading} → Plain first r → (counted id width : ℕ) → r ≡ ObjectHead counted id width → ◌≡◌ {A = ℕ} 0 1
no_fields_lem fixed counted id width e = cc
no_fields_lem (prefixed is) counted id width e = cc
no_fields_lem short counted id width e = cc
no_fields_lem unread counted id width e = cc

-- ---- it is rewritten to itself, and nothing in it has an id

module _ (s : List ℕ) (alone : stands_alone s ≡ true) where
  low : at s 0 % 4 < 2
  unfolding stands_alone
  low = ltb-true (at s 0 % 4) 2 (and_both (ltb (at s 0 % 4) 2) (not (eqb (at s 0) 0x40) || ltb 68 (length s)) alone).0

  long : at s 0 ≡ 0x40 → 68 < length s
  unfolding stands_alone
  long e =
      let rest : not (eqb (at s 0) 0x40) || ltb 68 (length s) ≡ true =
      (and_both (ltb (at s 0 % 4) 2) (not (eqb (at s 0) 0x40) || ltb 68 (length s)) alone).1 in
      ltb-true 68 (length s) (rw (eq-eqb (at s 0) 0x40 e) at rest)

  unshortened : (type : ℕ) → at s 0 ≡ 4 * type → shortened type s ≡ s
  unfolding shortened
  unshortened type is = go (eqb type 16) refl
    where
      go : (b : Bool) → eqb type 16 ≡ b → cond (b && leb (length s) 68) ((4 * (length s - 5) + 1) ∷ drop 5 s) s ≡ s
      go true e = let string = eqb-true type 16 e in rw (lt-leb (length s) 68 (long (omega arith)))
      go false e = refl

  as_it_stands : (names : Dictionary) → is_there (meaning_of most_levels names s) ≡ true → (ids_in most_levels s ≡ []) × (rewritten most_levels [] s ≡ s)
  unfolding ids_by rewritten_by meaning_by is_there
  as_it_stands names there =
      let level = one_level most_levels names [] s there in
      let both = go (plain (at s 0) low) level.by in
      (level.ids ∙ both.0, level.same ∙ both.1)
    where
      go : {r : Reading} → Plain (at s 0) r → is_there (meaning_by (meaning_of (most_levels - 1) names) names r s) ≡ true
          → (ids_by (ids_in (most_levels - 1)) r s ≡ []) × (rewritten_by (rewritten (most_levels - 1) []) [] r s ≡ s)
      go fixed known = (refl, refl)
      go (prefixed {type = type} is) known = (refl, unshortened type is)
      go short known = (refl, refl)
      go unread known = never (sym known)

-- ---- it has no names

no_names_lem : (d : Doc) → ((ds : Docs) → d ≡ array ds → ⊥) → ((fs : Fields) → d ≡ object fs → ⊥) → names_used d ≡ []
unfolding names_used add_names
no_names_lem null array_no object_no = refl
no_names_lem (scalar a) array_no object_no = refl
no_names_lem (array ds) array_no object_no = absurd (array_no ds refl)
no_names_lem (object fs) array_no object_no = absurd (object_no fs refl)

empty_metadata : metadata_bytes [] ≡ no_names
unfolding number_bytes metadata_bytes metadata_width smallest_width width_within numbers_bytes offsets_from joined
empty_metadata = refl

module _ (schema : List ℕ) {names : LentNames} {value : List ℕ} (lent : Lent names value) (bytes : (i : ℕ) → get_or value i 0 < 256)
    (schema_short : length schema ≤ most_schema) (alone : stands_alone value ≡ true) where
  module _ (node : Schema) (d : Doc) (node_is : schema_of schema ≡ Some node) (means : meaning_of most_levels names.names value ≡ Some d) where
    own : value ≡ value_bytes (names_used d) d
    unfolding holds
    own =
        let short = lent.value_short in
        let both = as_it_stands value alone names.names lent.meant in
        let nothing : (id : ℕ) → holds id (ids_in most_levels value) ≡ true → get_or {A = ℕ} [] id 0 ≡ id_of (names_used d) (get_or names.names id []) =
        λ id held. never (sym held ∙ ap (holds id) both.0) in
        sym both.1 ∙ rewritten_is most_levels names.names (names_used d) [] value d means bytes (omega arith) nothing

    good : well_formed most_levels d ≡ true
    good = decoded-well_formed most_levels names.names value d means

    array_no : (ds : Docs) → d ≡ array ds → ⊥
    array_no =
        no_array (names_used d) most_levels d value good own refl
        (λ counted width e. let z = no_list (plain (at value 0) (low value alone)) counted width e in omega arith)

    object_no : (fs : Fields) → d ≡ object fs → ⊥
    object_no =
        no_object (names_used d) most_levels d value good own refl
        (λ counted id width e. let z = no_fields_lem (plain (at value 0) (low value alone)) counted id width e in omega arith)

    alone_as : Alone schema value
    alone_as =
        record {
          normal = record {
            node = node;
            node_is = node_is;
            schema_short = schema_short;
            d = d;
            good = good;
            metadata_is = sym (ap metadata_bytes (no_names_lem d array_no object_no) ∙ empty_metadata);
            metadata_short = omega arith;
            value_is = own;
            value_short = lent.value_short;
          };
          no_array = array_no;
          no_object = object_no;
        }

    pub alone_row : {row row' : List ℕ} {a : RowAnswer} → ((known : Alone schema value) → RowAnswered (row_outcome known.normal.node known.normal.d) row row' a)
        → RowAnswered (row_outcome node d) row row' a
    unfolding alone_as
    alone_row answered = answered alone_as

  pub alone_known : is_there (schema_of schema) ≡ true → Alone schema value
  alone_known there =
      let node = there_some (schema_of schema) there in
      let d = there_some (meaning_of most_levels names.names value) lent.meant in
      alone_as node.0 d.0 node.1 d.1

-- A lawful value has a first byte.
pub value_begins : {names : LentNames} {value : List ℕ} → Lent names value → 1 ≤ length value
value_begins {names} {value} lent =
    let level = one_level most_levels names.names [] value lent.meant in
    omega (arith, whole_some value level.fills)
