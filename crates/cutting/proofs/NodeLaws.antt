-- `place`: by the kind of the node, a leftover, a value under a column, a list's or an object's.
use Rattle.std.specs.Prelude.{Option, Some, None}
use mathlib.Core.List.{List}
use mathlib.Core.Path.{◌≡◌, ap, ◌∙◌}
use Prim.Native.Nat.{ℕ, ◌+◌, ◌-◌, ◌≤◌}
use lib.ListN.{length}
use Rattle.enclosing.specs.Frames.{place_of, column_place, Headed}
use Rattle.fields.proofs.TellingLaws.{element_told, fields_told}
use Rattle.paper.specs.FirstBytes.{reading_of}
use Rattle.paper.specs.Rows.{leftover}
use Rattle.paper.specs.Schemas.{Schema}
use Rattle.paper.specs.Shredding.{cut, place_bytes}
use Rattle.paper.specs.Words.{at}
use Rattle.putting.specs.Put.{PutAs}
use Rattle.schemas.proofs.KindLaws.{kind_there, leftover_here_lem, column_here_lem, list_here_lem, object_here}
use Rattle.schemas.proofs.StandingLaws.{some_level}
use Rattle.schemas.specs.Frames.{frame_end}
use Rattle.schemas.specs.Kinds.{kind_at, KindThere}
use Rattle.schemas.specs.declared.readers.Kind.TheVariants.{Leftover, Column as ColumnKind, List as ListKind, Fields as FieldsKind}
use Rattle.schemas.specs.declared.readers.Kind.{Kind}
use Rattle.cutting.specs.Cutting.{Valued, PlaceReady, place_cut, ListReady, list_cut, ObjectReady, object_cut}
use Rattle.cutting.proofs.ColumnLaws.{column_cut, value_headed}

-- A value that is left over as it is.
pub put_left : (node : Schema) {names : _} {s : List ℕ} {notes ids : ℕ} (valued : Valued names s notes ids) → cut node valued.d ≡ leftover valued.d
    → {before after : List ℕ} {end : ℕ} {r : Option ℕ} → PutAs (place_of 0x41 s) before after 0 end r → PutAs (place_bytes names (cut node valued.d)) before after 0 end r
unfolding place_bytes place_of
put_left node valued is done = rw (is, ← valued.is) done

module _ {levels : ℕ} {ranks schema table : List ℕ} {node : ℕ} {s : List ℕ} {notes ids : ℕ} (ready : PlaceReady levels ranks schema table node s notes ids) where
  pub node_kind : KindThere schema node
  node_kind = kind_there ready.stands

  pub node_level : 1 ≤ levels
  node_level = some_level ready.stands

  pub node_framed : frame_end schema node ≤ length schema
  node_framed = ready.stands.within

  pub node_headed : Headed s
  node_headed =
      let valued = ready.valued in
      rw valued.is (value_headed ready.names valued.depth valued.d valued.good (rw valued.is at valued.short))

  module _ {k : Kind} (is : k ≡ kind_at schema node) where
    pub put_leftover : k ≡ Leftover → {before after : List ℕ} {end : ℕ} {r : Option ℕ} → PutAs (place_of 0x41 s) before after 0 end r → PutAs (place_cut ready) before after 0 end r
    unfolding cut
    put_leftover e done =
        let node_is = leftover_here_lem ready.stands is e in
        put_left ready.under ready.valued (rw node_is) done

    pub put_column : {code : ℕ} → k ≡ ColumnKind code → {before after : List ℕ} {end : ℕ} {r : Option ℕ} → PutAs (column_place code (reading_of (at s 0)) s) before after 0 end r
        → PutAs (place_cut ready) before after 0 end r
    put_column {code} e done =
        let valued = ready.valued in
        let here = column_here_lem ready.stands is e in
        let same : place_cut ready ≡ column_place code (reading_of (at s 0)) s =
        ap (λ (n : Schema). place_bytes ready.names (cut n valued.d)) here.1
        ∙ column_cut here.0 here.3.good ready.names valued.depth valued.d valued.good
        ∙ rw (here.2, ← valued.is) in
        rw same done

    module _ (e : k ≡ ListKind) where
      pub list_ready : ListReady (levels - 1) ranks schema table (node + 3) s notes ids
      list_ready =
          let here = list_here_lem ready.stands is e in
          record {
            names = ready.names;
            ground = ready.ground;
            element = here.0;
            stands = here.2.inside;
            told = element_told (rw here.1 at ready.told);
            valued = ready.valued;
          }

      pub put_list : {before after : List ℕ} {end : ℕ} {r : Option ℕ} → PutAs (list_cut list_ready) before after 0 end r → PutAs (place_cut ready) before after 0 end r
      unfolding list_ready
      put_list done = let here = list_here_lem ready.stands is e in rw here.1 done

    module _ (e : k ≡ FieldsKind) {to : ℕ} (ends : to ≡ frame_end schema node) where
      pub object_ready : ObjectReady (levels - 1) ranks schema table (node + 3) to s notes ids
      object_ready =
          let here = object_here ready.stands is e in
          record {
            names = ready.names;
            ground = ready.ground;
            columns = here.0;
            stand = rw (← ends) at here.2.inside;
            told = fields_told (rw here.1 at ready.told);
            valued = ready.valued;
          }

      pub put_object : {before after : List ℕ} {end : ℕ} {r : Option ℕ} → PutAs (object_cut object_ready) before after 0 end r → PutAs (place_cut ready) before after 0 end r
      unfolding object_ready
      put_object done = let here = object_here ready.stands is e in rw here.1 done
