-- `missing`: empty places are all alike, so those of the fields that were passed may stand behind those of the fields that are left.
use Rattle.std.specs.Prelude.{Some, None, Option}
use mathlib.Core.List.{List, [], ◌++◌, append_assoc, append-nil}
use mathlib.Core.Path.{◌≡◌, refl, sym, ap, ◌∙◌}
use Prim.Native.Nat.{ℕ, ◌+◌, ◌-◌, ◌≤◌, ◌<◌}
use native.Mathlib.Omega.{arith}
use lib.ListN.{length, length-append}
use Rattle.clashes.specs.Shared.{SomeFields}
use Rattle.members.proofs.FromLaws.{no_member}
use Rattle.members.specs.declared.Members.{Members}
use Rattle.paper.specs.Framing.{frame}
use Rattle.paper.specs.Meaning.{Fields, no_fields}
use Rattle.paper.specs.Metadata.{Dictionary}
use Rattle.paper.specs.Schemas.{SchemaFields, none_named, named}
use Rattle.paper.specs.Shredding.{cut_field, cut_fields, place_bytes, places_bytes}
use Rattle.paper.specs.Standing.{field_at}
use Rattle.putting.proofs.PutLaws.{told_here, told_full, told_length, told_room}
use Rattle.putting.specs.Put.{Room, PutAs, put, full}
use Rattle.schemas.proofs.FieldsStandLaws.{FirstField, no_field, first_field, field_framed}
use Rattle.schemas.specs.Frames.{frame_end}
use Rattle.schemas.specs.Positions.{FieldsStand}
use Rattle.writing.proofs.EndLaws.{nothing_ends, ends_join}
use Rattle.writing.specs.Ends.{EndsAt}
use Rattle.cutting.specs.Cutting.{FieldsReady, fields_cut, empties}

-- An empty place in front of others or behind them.
alike : (columns : SchemaFields) → frame 0x50 [] ++ empties columns ≡ empties columns ++ frame 0x50 []
unfolding empties
alike none_named = append-nil (frame 0x50 [])
alike (named name node more) =
    ap (λ (l : List ℕ). frame 0x50 [] ++ l) (alike more) ∙ sym (append_assoc (frame 0x50 []) (empties more) (frame 0x50 []))

-- What was written is what the fields that are left lack.
pub record Left (levels : ℕ) (schema : List ℕ) (to : ℕ) (columns : SchemaFields) (before out : List ℕ) (end start field : ℕ) : Type 0 where
  pub more : SchemaFields
  pub stand : FieldsStand levels schema field to more
  pub written : List ℕ
  pub ends : EndsAt written before out end start
  pub all : empties columns ≡ empties more ++ written

pub record MissingSeen (schema : List ℕ) (from to : ℕ) (before out : List ℕ) (end start field : ℕ) : Type 0 where
  pub room : Room out 0 start
  pub out_size : length out ≡ length before
  pub left : (levels : ℕ) (columns : SchemaFields) → FieldsStand levels schema from to columns → Left levels schema to columns before out end start field

pub missing_start : {schema : List ℕ} {from to : ℕ} {out : List ℕ} {end : ℕ} → Room out 0 end → MissingSeen schema from to out out end end from
missing_start {out = out} {end = end} room =
    record {
      room = room;
      out_size = refl;
      left = λ levels columns stand. record { more = columns; stand = stand; written = []; ends = nothing_ends out end; all = sym (append-nil (empties columns)) };
    }

module _ {schema : List ℕ} {from to : ℕ} {before out : List ℕ} {end start field : ℕ} (seen : MissingSeen schema from to before out end start field) where
  pub missing_done : to ≤ field → (levels : ℕ) (columns : SchemaFields) → FieldsStand levels schema from to columns → PutAs (empties columns) before out 0 end (Some start)
  unfolding empties
  missing_done over levels columns stand =
      let left = seen.left levels columns stand in
      let none : left.more ≡ none_named = no_field left.stand over in
      let same : empties columns ≡ left.written = left.all ∙ ap (λ (l : SchemaFields). empties l ++ left.written) none in
      rw same (put start (omega arith) left.ends)

  module _ (some_left : field < to) where
    first : {levels : ℕ} {columns : SchemaFields} (stand : FieldsStand levels schema from to columns) → FirstField levels schema field to (seen.left levels columns stand).more
    first {levels} {columns} stand = first_field (seen.left levels columns stand).stand some_left

    pub missing_framed : SomeFields schema from to → frame_end schema field ≤ length schema
    missing_framed some = field_framed (first some.stand).stands

    pub missing_falls : SomeFields schema from to → {next : ℕ} → next ≡ frame_end schema field → to - next < to - field
    missing_falls some is =
        let here = (first some.stand).stands in
        let inside = here.inside.within in
        let fills = here.fills in
        let ordered = here.frame_in in
        omega arith

    -- One more in front.
    one_more : {levels : ℕ} {columns : SchemaFields} (stand : FieldsStand levels schema from to columns)
        → empties columns ≡ empties (first stand).more ++ (frame 0x50 [] ++ (seen.left levels columns stand).written)
    unfolding empties
    one_more {levels} {columns} stand =
        let left = seen.left levels columns stand in
        left.all ∙ ap (λ (l : SchemaFields). empties l ++ left.written) (first stand).are
        ∙ ap (λ (l : List ℕ). l ++ left.written) (alike (first stand).more)
        ∙ append_assoc (empties (first stand).more) (frame 0x50 []) left.written

    module _ (fits : end ≤ length before) {after : List ℕ} {q : Option ℕ} (one : PutAs (frame 0x50 []) out after 0 start q) where
      pub missing_full : q ≡ None → (levels : ℕ) (columns : SchemaFields) → FieldsStand levels schema from to columns → PutAs (empties columns) before after 0 end None
      missing_full e levels columns stand =
          let left = seen.left levels columns stand in
          let short = told_full one e in
          let size = left.ends.size in
          let rest = length-append (empties (first stand).more) (frame 0x50 [] ++ left.written) in
          let both = length-append (frame 0x50 []) left.written in
          let long = ap length (one_more stand) in
          full (omega arith)

      pub missing_next : {next place : ℕ} → q ≡ Some next → place ≡ frame_end schema field → MissingSeen schema from to before after end next place
      missing_next e is =
          record {
            room = told_room one seen.room e;
            out_size = told_length one seen.room.within e ∙ seen.out_size;
            left = λ levels columns stand. record {
              more = (first stand).more;
              stand = rw (← is) at (first stand).stands.behind;
              written = frame 0x50 [] ++ (seen.left levels columns stand).written;
              ends = ends_join (seen.left levels columns stand).ends fits (told_here one e).1;
              all = one_more stand;
            };
          }

-- ---- an object without members from one on has none of the fields

nothing_cut : (names : Dictionary) (columns : SchemaFields) → places_bytes names (cut_fields columns no_fields) ≡ empties columns
unfolding cut_fields cut_field field_at places_bytes place_bytes empties
nothing_cut names none_named = refl
nothing_cut names (named name node more) = ap (λ (l : List ℕ). frame 0x50 [] ++ l) (nothing_cut names more)

module _ {levels : ℕ} {ranks schema table : List ℕ} {from to : ℕ} {s : List ℕ} {m : Members} {k notes ids : ℕ}
    (ready : FieldsReady levels ranks schema table from to s m k notes ids) where
  pub some_fields : SomeFields schema from to
  some_fields = record { levels = levels; columns = ready.columns; stand = ready.stand }

  pub put_all_missing : m.count ≤ k → {before after : List ℕ} {end : ℕ} {q : Option ℕ}
      → ((inner : ℕ) (columns : SchemaFields) → FieldsStand inner schema from to columns → PutAs (empties columns) before after 0 end q)
      → PutAs (fields_cut ready) before after 0 end q
  put_all_missing over done =
      let none : ready.fs ≡ no_fields = no_member ready.held over in
      let same : fields_cut ready ≡ empties ready.columns =
      ap (λ (fs : Fields). places_bytes ready.names (cut_fields ready.columns fs)) none ∙ nothing_cut ready.names ready.columns in
      rw same (done levels ready.columns ready.stand)
