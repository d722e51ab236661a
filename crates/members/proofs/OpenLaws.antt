-- A document's normal value by the reading of its first byte: an array whose elements can be looked at by position, an object
-- whose fields can, or neither.
use mathlib.Core.Bool.{true}
use mathlib.Core.List.{List, map}
use mathlib.Core.Path.{◌≡◌, refl, sym, ap, ◌∙◌}
use Prim.Native.Nat.{ℕ, ◌*◌, ◌^◌, ◌≤◌}
use native.Mathlib.Omega.{arith}
use lib.ListN.{length}
use Rattle.containers.specs.Layouts.{HeadThere}
use Rattle.forms.proofs.ContainerLaws.{count_of, width_of}
use Rattle.forms.specs.WellFormed.{well_formed, names_there, field_names_there}
use Rattle.members.proofs.HeldLaws.{array_reads, array_container, array_parted, object_reads, fields_container, fields_held, fields_twice}
use Rattle.members.proofs.ShapeLaws.{Shape, nothing, fixed, prefixed, short, listed, fielded, value_shape}
use Rattle.members.specs.Members.{MembersAt, Parted, Held}
use Rattle.members.specs.declared.Members.{Members}
use Rattle.numbers.specs.Little.{smallest_width}
use Rattle.paper.specs.Bounds.{most_walked}
use Rattle.paper.specs.FirstBytes.{reading_of}
use Rattle.paper.specs.Meaning.{Doc, array, object, Docs, Fields}
use Rattle.paper.specs.Metadata.{Dictionary}
use Rattle.paper.specs.Normal.{largest, array_bytes, id_of, field_names, value_bytes, element_bytes, member_bytes}
use Rattle.paper.specs.Words.{at}
use Rattle.paper.specs.declared.Reading.TheVariants.{ObjectHead, ArrayHead}
use Rattle.paper.specs.declared.Reading.{Reading}

-- An array, by a reading of its head.
pub record ArrayOpened (names : Dictionary) (d : Doc) (s : List ℕ) (counted width : ℕ) : Type 0 where
  pub docs : Docs
  pub is : d ≡ array docs
  pub container : HeadThere s counted 0 width
  pub parted : (m : Members) → MembersAt s counted 0 width m → Parted s m (element_bytes names docs)

-- An object.
pub record ObjectOpened (names : Dictionary) (d : Doc) (s : List ℕ) (counted id width : ℕ) : Type 0 where
  pub fs : Fields
  pub is : d ≡ object fs
  pub container : HeadThere s counted id width
  pub held : (m : Members) → MembersAt s counted id width m → Held names s m fs
  pub twice : 2 * length (field_names fs) ≤ length s

-- Two kinds that differ prove anything.
apart : {A : Type 0} → ◌≡◌ {A = ℕ} 0 1 → A
apart e = absurd (omega arith)

module _ {d : Doc} {r : Reading} (shape : Shape d r) where
  array_only : (counted width : ℕ) → r ≡ ArrayHead counted width → (ds : Docs) × (d ≡ array ds)
  array_only c w e = go shape e
    where
      go : {d : Doc} {r : Reading} → Shape d r → r ≡ ArrayHead c w → (ds : Docs) × (d ≡ array ds)
      go (listed {ds = ds}) e = (ds, refl)
      go nothing e = apart cc
      go fixed e = apart cc
      go prefixed e = apart cc
      go short e = apart cc
      go fielded e = apart cc

  object_only : (counted id width : ℕ) → r ≡ ObjectHead counted id width → (fs : Fields) × (d ≡ object fs)
  object_only c i w e = go shape e
    where
      go : {d : Doc} {r : Reading} → Shape d r → r ≡ ObjectHead c i w → (fs : Fields) × (d ≡ object fs)
      go (fielded {fs = fs}) e = (fs, refl)
      go nothing e = apart cc
      go fixed e = apart cc
      go prefixed e = apart cc
      go short e = apart cc
      go listed e = apart cc

-- Of which elements, or fields, is known.
module _ (names : Dictionary) (d : Doc) {s : List ℕ} (is : s ≡ value_bytes names d) (small : length s ≤ most_walked) where
  array_opened : (ds : Docs) → d ≡ array ds → (c w : ℕ) → reading_of (at s 0) ≡ ArrayHead c w → ArrayOpened names d s c w
  unfolding value_bytes
  array_opened ds kind c w reads =
      let parts : List (List ℕ) = element_bytes names ds in
      let same : s ≡ array_bytes parts = is ∙ ap (value_bytes names) kind in
      let short : length (array_bytes parts) ≤ most_walked = rw same at small in
      let says : reading_of (at s 0) ≡ ArrayHead (count_of parts) (width_of parts) = ap (λ (l : List ℕ). reading_of (at l 0)) same ∙ array_reads parts in
      let c-is : count_of parts ≡ c = cc in
      let w-is : width_of parts ≡ w = cc in
      record {
        docs = ds;
        is = kind;
        container = rw (same, ← c-is, ← w-is) (array_container parts short);
        parted = rw (same, ← c-is, ← w-is) (λ m stand. array_parted parts short stand);
      }

  object_opened : length names ≤ 2 ^ 32 → names_there names d ≡ true → (fs : Fields) → d ≡ object fs
      → (c i w : ℕ) → reading_of (at s 0) ≡ ObjectHead c i w → ObjectOpened names d s c i w
  unfolding value_bytes names_there
  object_opened few there fs kind c i w reads =
      let ids : List ℕ = map (id_of names) (field_names fs) in
      let parts : List (List ℕ) = member_bytes names fs in
      let same : s ≡ value_bytes names (object fs) = is ∙ ap (value_bytes names) kind in
      let short : length (value_bytes names (object fs)) ≤ most_walked = rw same at small in
      let names_in : field_names_there names fs ≡ true = rw kind at there in
      let says : reading_of (at s 0) ≡ ObjectHead (count_of parts) (smallest_width (largest ids)) (width_of parts) =
      ap (λ (l : List ℕ). reading_of (at l 0)) same ∙ object_reads ids parts in
      let c-is : count_of parts ≡ c = cc in
      let i-is : smallest_width (largest ids) ≡ i = cc in
      let w-is : width_of parts ≡ w = cc in
      record {
        fs = fs;
        is = kind;
        container = rw (same, ← c-is, ← i-is, ← w-is) (fields_container names few fs names_in short);
        held = rw (same, ← c-is, ← i-is, ← w-is) (λ m stand. fields_held names few fs names_in short stand);
        twice = rw same (fields_twice names few fs names_in short);
      }

module _ (names : Dictionary) (depth : ℕ) (d : Doc) (s : List ℕ) (good : well_formed depth d ≡ true) (is : s ≡ value_bytes names d)
    {r : Reading} (told : r ≡ reading_of (at s 0)) where
  read_as : r ≡ reading_of (at (value_bytes names d) 0)
  read_as = told ∙ ap (λ (l : List ℕ). reading_of (at l 0)) is

  pub shape_is : Shape d r
  shape_is = rw read_as (value_shape names depth d good)

  -- What is read otherwise is no array, and no object.
  pub no_array : ((counted width : ℕ) → r ≡ ArrayHead counted width → ⊥) → (ds : Docs) → d ≡ array ds → ⊥
  unfolding value_bytes
  no_array other ds e = other _ _ (read_as ∙ ap (λ (x : Doc). reading_of (at (value_bytes names x) 0)) e ∙ array_reads (element_bytes names ds))

  pub no_object : ((counted id width : ℕ) → r ≡ ObjectHead counted id width → ⊥) → (fs : Fields) → d ≡ object fs → ⊥
  unfolding value_bytes
  no_object other fs e =
      other _ _ _ (read_as ∙ ap (λ (x : Doc). reading_of (at (value_bytes names x) 0)) e ∙ object_reads (map (id_of names) (field_names fs)) (member_bytes names fs))

  module _ (small : length s ≤ most_walked) where
    pub array_opens : (counted width : ℕ) → r ≡ ArrayHead counted width → ArrayOpened names d s counted width
    array_opens c w e = let only = array_only shape_is c w e in array_opened names d is small only.0 only.1 c w (sym told ∙ e)

    pub object_opens : length names ≤ 2 ^ 32 → names_there names d ≡ true → (counted id width : ℕ) → r ≡ ObjectHead counted id width
        → ObjectOpened names d s counted id width
    object_opens few there c i w e =
        let only = object_only shape_is c i w e in object_opened names d is small few there only.0 only.1 c i w (sym told ∙ e)
