-- What a place of a lawful row is rebuilt to is the normal form of what it means: by its parts, and by induction over its node.
use Rattle.std.specs.Prelude.{Option, None, Some}
use mathlib.Core.Bool.{Bool, true, false, cond}
use mathlib.Core.List.{List, [], ◌∷◌}
use mathlib.Core.Path.{◌≡◌, refl, sym, ap, ◌∙◌}
use Prim.Native.Nat.{ℕ, ◌+◌, ◌-◌, ◌≤◌, ◌<◌}
use native.Mathlib.Omega.{arith}
use lib.Dec.{leb}
use lib.ListN.{length, get_or}
use Rattle.fields.proofs.TellingLaws.{element_told, fields_told, field_told_lem}
use Rattle.fields.specs.Telling.{Told, FieldsTold}
use Rattle.marking.specs.Ids.{ids_in}
use Rattle.paper.proofs.WordLaws.{given_some}
use Rattle.paper.specs.Bounds.{most_walked}
use Rattle.paper.specs.Framing.{Piece}
use Rattle.paper.specs.Limits.{most_leftover}
use Rattle.paper.specs.Meaning.{Doc, object}
use Rattle.paper.specs.Metadata.{Dictionary, rising}
use Rattle.paper.specs.Normal.{value_bytes}
use Rattle.paper.specs.Rebuilding.{merge, fields_in, or_null, place_meaning_by}
use Rattle.paper.specs.Rows.{Place, leftover_meaning, place_under}
use Rattle.paper.specs.Rules.{place_lawful}
use Rattle.paper.specs.Schemas.{Schema, leftover_only, column, list, fields, SchemaFields, none_named, named}
use Rattle.paper.specs.Values.{meaning_of}
use Rattle.paper.specs.Words.{part, and_then}
use Rattle.places.specs.Parts.{parts_of}
use Rattle.places.specs.Verdicts.{verdict_of, typed_under, place_verdict}
use Rattle.places.specs.declared.parts.Parts.{Parts}
use Rattle.places.specs.declared.verdicts.Verdict.TheVariants.{Lawful, Broken}
use Rattle.rebuilt.proofs.HeldLaws.{Held, nothing_held, left_held, typed_held, both_held, under_held, typed_keeps, both_keep, Fits, part_fits}
use Rattle.rebuilt.proofs.MemberLaws.{no_members, more_members}
use Rattle.rebuilt.proofs.NumberedLaws.{numbered_front, numbered_behind}
use Rattle.rebuilt.proofs.PartsLaws.{inside_ids, ids_parts, typed_meaning, meaning_parts}
use Rattle.rebuilt.proofs.PartwiseLaws.{place_is-typed}
use Rattle.rebuilt.proofs.TypedLaws.{PlaceIs, MembersAre, TypedIs, leftover_typed, cell_typed, list_typed, object_typed}
use Rattle.rebuilt.specs.Meant.{place_doc}
use Rattle.rebuilt.specs.Members.{no_left}
use Rattle.rebuilt.specs.Rebuilt.{rebuilt_by, place_rebuilt, typed_rebuilt}
use Rattle.rebuilt.specs.There.{Numbered}
use Rattle.rebuilt.specs.Using.{place_ids}
use Rattle.schemas.specs.Frames.{frame_end}
use Rattle.schemas.specs.Positions.{field_node, Stands}
use Rattle.writing.proofs.MeaningLaws.{rewritten_is}
use Rattle.writing.specs.Rewritten.{rewritten}

left_means : (levels : ℕ) (names : Dictionary) (left : List ℕ) {d : Doc} → leftover_meaning levels names left ≡ Some d → meaning_of levels names left ≡ Some d
unfolding leftover_meaning
left_means levels names left e = (given_some (leb (length left) most_leftover) (meaning_of levels names left) e).1

module _ (names normal : Dictionary) (ranks schema table : List ℕ) where
  -- ---- a place, from what is typed in it

  module _ (under : Schema) (levels node : ℕ) (inside : TypedIs names normal ranks schema table under levels node) where
    held_is : (body : List ℕ) → Fits body → (q : Parts) (p : Place) → Held (leftover_meaning levels names) (typed_under under levels names) body q p
        → place_lawful under names p ≡ true
        → Numbered names normal ranks (rebuilt_by [] [] (ids_in levels) (inside_ids under levels schema table node) q body)
        → rebuilt_by [] (0x00 ∷ []) (rewritten levels ranks) (typed_rebuilt under levels ranks schema table node) q body
        ≡ value_bytes normal (or_null (place_meaning_by (typed_meaning under) p))
    unfolding rebuilt_by inside_ids or_null place_meaning_by fields_in
    held_is body fits q p (nothing_held e) lawful numbered = unfold value_bytes in refl
    held_is body fits q p (left_held {d = d} e) lawful numbered =
        let own = part_fits body 3 (length body) fits in
        rewritten_is levels names normal ranks (part body 3 (length body)) d (left_means levels names _ e) own.bytes own.small numbered.right
    held_is body fits q p (typed_held {t = t} e) lawful numbered =
        inside.alone (part body 3 (length body)) t
        (record {
          read = e;
          lawful = typed_keeps under names t lawful;
          numbered = numbered_behind (ids_in levels no_left) _ numbered;
          fits = part_fits body 3 (length body) fits;
        })
    held_is body fits q p (both_held {middle = middle} {d = d} {t = t} e f) lawful numbered =
        let keep = both_keep under names d t lawful in
        let left : List ℕ = part body 3 middle in
        let s : List ℕ = part body (middle + 3) (length body) in
        inside.beside left s keep.fs t
        (record {
          on_fields = keep.on_fields;
          apart = keep.apart;
          means = left_means levels names left e ∙ ap Some keep.is;
          numbered = numbered_front (ids_in levels left) _ numbered;
          fits = part_fits body 3 middle fits;
        })
        (record {
          read = f;
          lawful = keep.inside;
          numbered = numbered_behind (ids_in levels left) _ numbered;
          fits = part_fits body (middle + 3) (length body) fits;
        })
        ∙ ap (λ (c : Doc). value_bytes normal (object (merge (fields_in c) (fields_in (typed_meaning under t))))) (sym keep.is)

    place_by-parts : PlaceIs names normal ranks schema table under levels node
    place_by-parts piece p here =
        rw (place_is-typed under levels ranks schema table node piece.body, meaning_parts under)
        (held_is piece.body here.fits (parts_of piece.body) p (under_held under levels names piece p here.read) here.lawful
        (rw (ids_parts under levels schema table node piece.body) at here.numbered))

  -- ---- by induction over the node

  module _ (rise : rising normal ≡ true) where
    mutual
      place_is : (under : Schema) (levels node : ℕ) → Told names schema table under node → PlaceIs names normal ranks schema table under levels node
      place_is leftover_only levels node told =
          place_by-parts leftover_only levels node (leftover_typed names normal ranks schema table levels node)
      place_is (column said) levels node told =
          place_by-parts (column said) levels node (cell_typed names normal ranks schema table said levels node)
      place_is (list element) levels node told =
          place_by-parts (list element) levels node
          (list_typed names normal ranks schema table element levels node (place_is element (levels - 1) (node + 3) (element_told told)))
      place_is (fields columns) levels node told =
          place_by-parts (fields columns) levels node
          (object_typed names normal ranks schema table rise columns levels node (members_are columns (levels - 1) (node + 3) (fields_told told)))

      members_are : (columns : SchemaFields) (levels field : ℕ) → FieldsTold names schema table columns field
          → MembersAre names normal ranks schema table columns levels field
      members_are none_named levels field told = no_members names normal ranks schema table levels field
      members_are (named name node columns) levels field told =
          let first = field_told_lem told in
          more_members names normal ranks schema table levels field name node columns first.here
          (place_is node levels (field_node schema field) first.inside)
          (members_are columns levels (frame_end schema field) first.behind)

-- ---- a lawful place, by its bytes

-- Lawful is what is there and keeps the rules.
lawful_there : {A : Type 0} (x : Option A) (keeps : A → Bool) → verdict_of x keeps ≡ Lawful → (a : A) × (x ≡ Some a) × (keeps a ≡ true)
unfolding verdict_of
lawful_there None keeps e = absurd (let z : ◌≡◌ {A = ℕ} 0 1 = cc in omega arith)
lawful_there (Some a) keeps e = (a, refl, go (keeps a) e)
  where
    go : (b : Bool) → cond b Lawful Broken ≡ Lawful → b ≡ true
    go true f = refl
    go false f = absurd (let z : ◌≡◌ {A = ℕ} 0 1 = cc in omega arith)

pub place_rebuilt_lem : (under : Schema) (levels : ℕ) (names normal : Dictionary) (ranks schema table : List ℕ) (node : ℕ) (body : List ℕ)
    → Stands levels schema node under → Told names schema table under node
    → place_verdict under levels names body ≡ Lawful
    → rising normal ≡ true
    → Numbered names normal ranks (place_ids under levels schema table node body)
    → ((i : ℕ) → get_or body i 0 < 256) → length body ≤ most_walked
    → place_rebuilt under levels ranks schema table node body ≡ value_bytes normal (place_doc under levels names body)
unfolding place_verdict place_doc and_then
place_rebuilt_lem under levels names normal ranks schema table node body stands told lawful rise numbered bytes small =
    let piece : Piece = record { tag = 0x50; body = body } in
    let there = lawful_there (place_under under levels names piece) (place_lawful under names) lawful in
    rw there.1
    (place_is names normal ranks schema table rise under levels node told piece there.0
    (record { read = there.1; lawful = there.2; numbered = numbered; fits = record { bytes = bytes; small = small } }))
