-- An object's places one at a time: one that is present is a member with its field's id, which has the field's name, and an
-- empty one is none.
use Rattle.dictionary.specs.declared.ids.InputId.{InputId}
use Rattle.std.specs.Prelude.{Option, None, Some}
use mathlib.Core.Bool.{true, not, ◌&&◌}
use mathlib.Core.List.{List, [], ◌∷◌, ◌++◌}
use mathlib.Core.Path.{◌≡◌, sym, ap, subst, ◌∙◌}
use Prim.Native.Nat.{ℕ}
use Rattle.fields.specs.Telling.{looked_at}
use Rattle.lookup.specs.Looking.{Tells, found, missing}
use Rattle.paper.proofs.WordLaws.{never, then_some, and_both, there_some, some_there}
use Rattle.paper.specs.Framing.{Piece}
use Rattle.paper.specs.Meaning.{Doc, Fields}
use Rattle.paper.specs.Metadata.{Dictionary}
use Rattle.paper.specs.Normal.{value_bytes}
use Rattle.paper.specs.Rebuilding.{place_meaning_by, or_null, add_field, place_meaning, fields_meaning}
use Rattle.paper.specs.Rows.{Place, Places, place, leftover_meaning, place_under, field_places}
use Rattle.paper.specs.Rules.{breaks_f, place_lawful, fields_lawful}
use Rattle.paper.specs.Schemas.{Schema, SchemaFields, none_named, named}
use Rattle.paper.specs.Words.{is_there, among}
use Rattle.places.specs.Parts.{parts_of}
use Rattle.places.specs.Verdicts.{typed_under}
use Rattle.rebuilt.proofs.HeldLaws.{Held, under_held, empty_held, present_held, present_meant, present_named, AllFit, one_fits}
use Rattle.rebuilt.proofs.MergeLaws.{AreFields, none_are, one_more}
use Rattle.rebuilt.proofs.NumberedLaws.{numbered_front, numbered_behind, numbered_more, numbered_rank, numbered_there}
use Rattle.rebuilt.proofs.PartsLaws.{typed_meaning, meaning_parts}
use Rattle.rebuilt.proofs.TypedLaws.{PlaceIs, MembersAre}
use Rattle.rebuilt.specs.Members.{Member}
use Rattle.rebuilt.specs.Rebuilt.{add_member, place_rebuilt, member_places}
use Rattle.rebuilt.specs.There.{Numbered}
use Rattle.rebuilt.specs.Using.{add_id, place_ids, member_ids}
use Rattle.schemas.specs.Frames.{frame_end}
use Rattle.schemas.specs.Positions.{field_node}
use Rattle.std.proofs.lemmas.Option.{same_Some}

-- A place by its body: empty, or it means something and the dictionary has its name.
data Presence (names : Dictionary) (name : List ℕ) : (body : List ℕ) → Option Doc → Type 0 where
  absent : Presence names name [] None
  present : {b : ℕ} {bs : List ℕ} {d : Doc} → among name names ≡ true → Presence names name (b ∷ bs) (Some d)

module _ (names : Dictionary) (name : List ℕ) (node : Schema) (levels : ℕ) (p : Place) (keeps : not (breaks_f names name p) ≡ true) where
  presence : (body : List ℕ) → Held (leftover_meaning levels names) (typed_under node levels names) body (parts_of body) p
      → Presence names name body (place_meaning node p)
  unfolding place_meaning_by
  presence [] held = rw (empty_held held, meaning_parts node) absent
  presence (b ∷ bs) held =
      let here = present_held held in
      let meant = there_some (place_meaning_by (typed_meaning node) p) (present_meant (typed_meaning node) p here) in
      rw (meaning_parts node, meant.1) (present (present_named names name p here keeps))

module _ (names normal : Dictionary) (ranks : List ℕ) where
  -- The ids behind a field's own.
  member_ids_lem : (body : List ℕ) (looked : Option InputId) (ids : List ℕ) → Numbered names normal ranks (add_id body looked ids) → Numbered names normal ranks ids
  unfolding add_id
  member_ids_lem [] looked ids numbered = numbered
  member_ids_lem (b ∷ bs) (Some id) ids numbered = numbered_more id.0 ids numbered
  member_ids_lem (b ∷ bs) None ids numbered = numbered

  member_added : {name : List ℕ} {looked : Option InputId} {body : List ℕ} {x : Option Doc} {ms : List Member} {fs : Fields} (bytes ids : List ℕ)
      → Tells names name looked → Presence names name body x → bytes ≡ value_bytes normal (or_null x) → Numbered names normal ranks (add_id body looked ids)
      → AreFields normal ranks ms fs → AreFields normal ranks (add_member body looked bytes ms) (add_field name x fs)
  unfolding add_member add_field add_id or_null
  member_added bytes ids tells absent is numbered are = are
  member_added bytes ids (found id below at-id) (present there) is numbered are =
      one_more (record { rank = numbered_rank id.0 ids numbered at-id; there = numbered_there id.0 ids numbered at-id; bytes_are = is }) are
  member_added bytes ids (missing nowhere) (present there) is numbered are = never (sym there ∙ nowhere)

  module _ (schema table : List ℕ) (levels field : ℕ) where
    pub no_members : MembersAre names normal ranks schema table none_named levels field
    unfolding member_places fields_meaning
    no_members pieces ps here = none_are

    module _ (name : List ℕ) (node : Schema) (columns : SchemaFields) (tells : Tells names name (looked_at table field))
        (each : PlaceIs names normal ranks schema table node levels (field_node schema field))
        (others : MembersAre names normal ranks schema table columns levels (frame_end schema field)) where
      member_are : (piece : Piece) (more : List Piece) (p : Place) (ps : Places) → place_under node levels names piece ≡ Some p
          → field_places columns levels names more ≡ Some ps → fields_lawful (named name node columns) names (place p ps) ≡ true
          → Numbered names normal ranks (member_ids (named name node columns) levels schema table field (piece ∷ more)) → AllFit (piece ∷ more)
          → AreFields normal ranks (member_places (named name node columns) levels ranks schema table field (piece ∷ more))
          (fields_meaning (named name node columns) (place p ps))
      unfolding fields_lawful member_ids member_places fields_meaning
      member_are piece more p ps read reads lawful numbered (one_fits fits fit) =
          let keep = and_both (not (breaks_f names name p) && place_lawful node names p) (fields_lawful columns names ps) lawful in
          let own = and_both (not (breaks_f names name p)) (place_lawful node names p) keep.0 in
          let own-ids : List ℕ = place_ids node levels schema table (field_node schema field) piece.body in
          let more-ids : List ℕ = member_ids columns levels schema table (frame_end schema field) more in
          let inside = member_ids_lem piece.body (looked_at table field) (own-ids ++ more-ids) numbered in
          let bytes = each piece p (record { read = read; lawful = own.1; numbered = numbered_front own-ids more-ids inside; fits = fits }) in
          let behind = others more ps (record { read = reads; lawful = keep.1; numbered = numbered_behind own-ids more-ids inside; fit = fit }) in
          let here = presence names name node levels p own.0 piece.body (under_held node levels names piece p read) in
          member_added (place_rebuilt node levels ranks schema table (field_node schema field) piece.body) (own-ids ++ more-ids) tells here bytes numbered behind

      pub more_members : MembersAre names normal ranks schema table (named name node columns) levels field
      unfolding field_places is_there
      more_members [] ps here = never (sym (some_there None here.read))
      more_members (piece ∷ more) ps here =
          let first = then_some (place_under node levels names piece) _ here.read in
          let rest = then_some (field_places columns levels names more) _ first.2 in
          let is : place first.0 rest.0 ≡ ps = same_Some (place first.0 rest.0) ps rest.2 in
          let lawful = ap (fields_lawful (named name node columns) names) is ∙ here.lawful in
          subst (λ (l : Places). AreFields normal ranks (member_places (named name node columns) levels ranks schema table field (piece ∷ more)) (fields_meaning (named name node columns) l)) is
          (member_are piece more first.0 rest.0 first.1 rest.1 lawful here.numbered here.fit)
