-- The members of an array and of an object in normal form: what its first byte says of its head, and that what stands there
-- are its elements, or its fields' ids and values.
use mathlib.Core.Bool.{true}
use mathlib.Core.List.{List, [], map}
use mathlib.Core.Path.{◌≡◌, refl, sym, ◌∙◌}
use Prim.Native.Nat.{ℕ, suc, ◌+◌, ◌*◌, ◌^◌, ◌≤◌, ◌<◌}
use native.Mathlib.Nat.{zero-add, mul-zero, mul-le-mul, mul-one}
use native.Mathlib.Omega.{arith}
use lib.ListN.{length, get_or, length-map}
use Rattle.containers.specs.Layouts.{HeadThere}
use Rattle.forms.proofs.BackLaws.{ids_length, ids_below_lem}
use Rattle.forms.proofs.ContainerLaws.{large_most, count_holds, largest_below, below_largest, count_of, width_of, parts_fit, array_filled, object_filled, object_length}
use Rattle.forms.proofs.FirstByteLaws.{array_reading, object_reading}
use Rattle.forms.proofs.LaidLaws.{laid}
use Rattle.forms.specs.WellFormed.{field_names_there}
use Rattle.heads.proofs.HeadLaws.{extent_some}
use Rattle.members.proofs.StandLaws.{laid_parted, laid_identified}
use Rattle.members.specs.Members.{MembersAt, member_id, member_part, Parted, Identified, Held, From, ended, further}
use Rattle.members.specs.declared.Members.{Members}
use Rattle.names.proofs.RunLaws.{numbers_bytes-length}
use Rattle.numbers.proofs.WidthLaws.{smallest_bounds, smallest_holds}
use Rattle.numbers.specs.Little.{smallest_width}
use Rattle.paper.specs.Bounds.{most_walked}
use Rattle.paper.specs.FirstBytes.{count_size, reading_of}
use Rattle.paper.specs.Meaning.{object, Fields, no_fields, field}
use Rattle.paper.specs.Metadata.{Dictionary}
use Rattle.paper.specs.Normal.{numbers_bytes, large_bit, largest, array_bytes, object_bytes, id_of, field_names, value_bytes, member_bytes}
use Rattle.paper.specs.Values.{head_size_of, extent_by}
use Rattle.paper.specs.Words.{at, joined}
use Rattle.paper.specs.declared.Reading.TheVariants.{ObjectHead, ArrayHead}

count_bounds : (parts : List (List ℕ)) → (1 ≤ count_of parts) × (count_of parts ≤ 4)
unfolding count_size
count_bounds parts = let large = large_most (length parts) in (omega arith, omega arith)

-- ---- arrays

module _ (parts : List (List ℕ)) where
  pub array_reads : reading_of (at (array_bytes parts) 0) ≡ ArrayHead (count_of parts) (width_of parts)
  unfolding array_bytes
  array_reads =
      let bounds = smallest_bounds (length (joined parts)) in
      array_reading (width_of parts) (large_bit (length parts)) bounds.0 bounds.1 (large_most (length parts))

  module _ (small : length (array_bytes parts) ≤ most_walked) where
    pub array_container : HeadThere (array_bytes parts) (count_of parts) 0 (width_of parts)
    unfolding extent_by
    array_container =
        let filled = (extent_some (array_bytes parts) (array_filled parts (omega arith))).1 in
        record {
          fills = rw array_reads at filled;
          count_least = (count_bounds parts).0;
          count_most = (count_bounds parts).1;
          id_most = omega arith;
          least = (smallest_bounds (length (joined parts))).0;
          most = (smallest_bounds (length (joined parts))).1;
          small = small;
        }

    pub array_parted : {m : Members} → MembersAt (array_bytes parts) (count_of parts) 0 (width_of parts) m → Parted (array_bytes parts) m parts
    unfolding array_bytes laid
    array_parted stand =
        let fit = parts_fit (at (array_bytes parts) 0) 0 [] parts (sym (mul-zero (length parts))) in
        laid_parted (at (array_bytes parts) 0) (count_of parts) 0 (width_of parts) [] parts (sym (mul-zero (length parts)))
        (count_holds (length parts) (omega arith)) (smallest_bounds (length (joined parts))).0 (smallest_bounds (length (joined parts))).1
        (smallest_holds (length (joined parts)) (omega arith)) small stand

-- ---- objects

module _ (ids : List ℕ) (parts : List (List ℕ)) where
  abbrev id_width : ℕ
  id_width = smallest_width (largest ids)

  pub object_reads : reading_of (at (object_bytes ids parts) 0) ≡ ObjectHead (count_of parts) id_width (width_of parts)
  unfolding object_bytes
  object_reads =
      let bounds = smallest_bounds (length (joined parts)) in
      let id-bounds = smallest_bounds (largest ids) in
      object_reading (width_of parts) id_width (large_bit (length parts)) bounds.0 bounds.1 id-bounds.0 id-bounds.1
      (large_most (length parts))

  module _ (same : length ids ≡ length parts) (small : length (object_bytes ids parts) ≤ most_walked) where
    pub object_container : HeadThere (object_bytes ids parts) (count_of parts) id_width (width_of parts)
    unfolding extent_by
    object_container =
        let filled = (extent_some (object_bytes ids parts) (object_filled ids parts same (omega arith))).1 in
        record {
          fills = rw object_reads at filled;
          count_least = (count_bounds parts).0;
          count_most = (count_bounds parts).1;
          id_most = (smallest_bounds (largest ids)).1;
          least = (smallest_bounds (length (joined parts))).0;
          most = (smallest_bounds (length (joined parts))).1;
          small = small;
        }

    module _ {m : Members} (stand : MembersAt (object_bytes ids parts) (count_of parts) id_width (width_of parts) m) where
      id_size : length (numbers_bytes id_width ids) ≡ length parts * id_width
      id_size = numbers_bytes-length id_width ids ∙ rw same

      abbrev first : ℕ
      first = at (object_bytes ids parts) 0

      fit : (length parts ≤ length (object_bytes ids parts)) × (length (joined parts) ≤ length (object_bytes ids parts))
      unfolding object_bytes laid
      fit = parts_fit first id_width (numbers_bytes id_width ids) parts id_size

      pub object_parted : Parted (object_bytes ids parts) m parts
      unfolding object_bytes laid
      object_parted =
          let inside = fit in
          laid_parted first (count_of parts) id_width (width_of parts) (numbers_bytes id_width ids) parts id_size
          (count_holds (length parts) (omega arith)) (smallest_bounds (length (joined parts))).0 (smallest_bounds (length (joined parts))).1
          (smallest_holds (length (joined parts)) (omega arith)) small stand

      pub object_identified : largest ids < 2 ^ 32 → Identified (object_bytes ids parts) m ids
      unfolding object_bytes laid
      object_identified low =
          let inside = fit in
          let bounds = smallest_bounds (largest ids) in
          laid_identified first (count_of parts) id_width (width_of parts) (numbers_bytes id_width ids) parts id_size
          (count_holds (length parts) (omega arith)) (smallest_bounds (length (joined parts))).0 (smallest_bounds (length (joined parts))).1
          (smallest_holds (length (joined parts)) (omega arith)) small stand
          ids refl same bounds.0 bounds.1 (below_largest (256 ^ id_width) ids (smallest_holds (largest ids) low))

    -- Each member has an id and a start.
    pub object_twice : 2 * length parts ≤ length (object_bytes ids parts)
    unfolding head_size_of
    object_twice =
        let all = object_length ids parts same in
        let id-each : length parts * 1 ≤ length parts * id_width = mul-le-mul (omega arith) (smallest_bounds (largest ids)).0 in
        let start-each : length parts * 1 ≤ (length parts + 1) * width_of parts =
        mul-le-mul (omega arith) (smallest_bounds (length (joined parts))).0 in
        let one : length parts * 1 ≡ length parts = mul-one (length parts) in
        omega arith

-- ---- the fields of a document's object

module _ (names : Dictionary) (few : length names ≤ 2 ^ 32) (fs : Fields) (there : field_names_there names fs ≡ true)
    (small : length (value_bytes names (object fs)) ≤ most_walked) where
  abbrev field_ids : List ℕ
  field_ids = map (id_of names) (field_names fs)

  pub fields_container : HeadThere (value_bytes names (object fs)) (count_of (member_bytes names fs)) (smallest_width (largest field_ids)) (width_of (member_bytes names fs))
  unfolding value_bytes
  fields_container = object_container field_ids (member_bytes names fs) (ids_length names fs) small

  pub fields_held : {m : Members} → MembersAt (value_bytes names (object fs)) (count_of (member_bytes names fs)) (smallest_width (largest field_ids)) (width_of (member_bytes names fs)) m
      → Held names (value_bytes names (object fs)) m fs
  unfolding value_bytes
  fields_held stand =
      let same = ids_length names fs in
      record {
        parts = object_parted field_ids (member_bytes names fs) same small stand;
        ids = object_identified field_ids (member_bytes names fs) same small stand
            (largest_below (length names) (2 ^ 32) field_ids (ids_below_lem names fs there) few (omega arith));
      }

  pub fields_twice : 2 * length (field_names fs) ≤ length (value_bytes names (object fs))
  unfolding value_bytes
  fields_twice =
      let same = ids_length names fs in
      let as_many : length field_ids ≡ length (field_names fs) = length-map (field_names fs) (id_of names) in
      let twice = object_twice field_ids (member_bytes names fs) same small in
      omega arith

-- ---- fields that are held, one member after another

module _ {names : Dictionary} {s : List ℕ} {m : Members} {fs : Fields} (held : Held names s m fs) where
  from_member : (k : ℕ) (rest : Fields) → m.count ≡ k + length (member_bytes names rest)
      → ((j : ℕ) → k + j < m.count → member_part s m (k + j) ≡ get_or (member_bytes names rest) j [])
      → ((j : ℕ) → k + j < m.count → member_id s m (k + j) ≡ get_or (map (id_of names) (field_names rest)) j 0)
      → From names s m k rest
  unfolding member_bytes field_names
  from_member k no_fields size parts ids = let all : k ≡ m.count = omega arith in ended all
  from_member k (field name d more) size parts ids =
      let here : k < m.count = omega arith in
      let first : k + 0 ≡ k = omega arith in
      let next : (j : ℕ) → k + 1 + j ≡ k + suc j = λ j. omega arith in
      further (held.parts.there k here) (held.ids.there k here) (rw first at (ids 0 (omega arith))) (rw first at (parts 0 (omega arith)))
      (from_member (k + 1) more (omega arith) (λ j h. rw (next j) (parts (suc j) (omega arith))) (λ j h. rw (next j) (ids (suc j) (omega arith))))

  pub held_from : From names s m 0 fs
  held_from =
      from_member 0 fs (held.parts.counted ∙ sym (zero-add (length (member_bytes names fs))))
      (λ j h. let here : 0 + j ≡ j = zero-add j in rw here (held.parts.are j (rw here at h)))
      (λ j h. let here : 0 + j ≡ j = zero-add j in rw here (held.ids.are j (rw here at h)))

  pub held_count : m.count ≡ length (field_names fs)
  held_count = held.ids.counted ∙ length-map (field_names fs) (id_of names)
