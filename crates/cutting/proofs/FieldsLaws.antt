-- `fields`: the first field's place in front of those behind it, from the member that has its name, or empty.
use Rattle.std.specs.Prelude.{Some, None, Option}
use mathlib.Core.Bool.{true, false}
use mathlib.Core.List.{List, [], ◌∷◌, ◌++◌}
use mathlib.Core.Path.{◌≡◌, ap, ◌∙◌}
use Prim.Native.Nat.{ℕ, ◌+◌, ◌-◌, ◌≤◌, ◌<◌}
use native.Mathlib.Omega.{arith}
use lib.Arith.{lt_of_le-ne}
use lib.ListN.{length, length-append, length-take, length-drop}
use Rattle.fields.proofs.TellingLaws.{FirstTold, field_told_lem, field_in_table}
use Rattle.fields.specs.Telling.{entry_place, looked_at}
use Rattle.forms.specs.WellFormed.{well_formed}
use Rattle.members.specs.Members.{PartThere, member_part, From}
use Rattle.members.specs.declared.Members.{Members}
use Rattle.paper.specs.Framing.{frame}
use Rattle.paper.specs.Meaning.{Fields}
use Rattle.paper.specs.Metadata.{rising}
use Rattle.paper.specs.Schemas.{SchemaFields, none_named, column_names}
use Rattle.paper.specs.Shredding.{cut, cut_field, cut_fields, place_bytes, places_bytes}
use Rattle.paper.specs.Standing.{field_at}
use Rattle.putting.proofs.PutLaws.{put_join, told_here, told_full}
use Rattle.putting.specs.Put.{PutAs, put, full}
use Rattle.schemas.proofs.FieldsStandLaws.{FirstField, no_field, first_field, field_framed, field_named}
use Rattle.schemas.specs.Frames.{frame_end}
use Rattle.schemas.specs.Positions.{field_node}
use Rattle.writing.proofs.EndLaws.{nothing_ends}
use Rattle.cutting.specs.Cutting.{PlaceReady, place_cut, FieldsReady, fields_cut, Run, PassedBy, is_member}
use Rattle.cutting.proofs.FieldLaws.{Reached, reached, not_reached, passed_from, passed_cut}
use Rattle.cutting.proofs.SkipLaws.{skipped, skipped_rise, skipped_good, skipped_there, from_run}

module _ {levels : ℕ} {ranks schema table : List ℕ} {from to : ℕ} {s : List ℕ} {m : Members} {k notes ids : ℕ}
    (ready : FieldsReady levels ranks schema table from to s m k notes ids) where
  -- ---- no field is left

  pub fields_none : from ≡ to → {before : List ℕ} {end : ℕ} → PutAs (fields_cut ready) before before 0 end (Some end)
  unfolding cut_fields places_bytes
  fields_none e {before} {end} =
      let no_columns_lem : ready.columns ≡ none_named = no_field ready.stand (omega arith) in
      let none_left : fields_cut ready ≡ [] = ap (λ (columns : SchemaFields). places_bytes ready.names (cut_fields columns ready.fs)) no_columns_lem in
      rw none_left (put end (omega arith) (nothing_ends before end))

  -- ---- one is left

  module _ (some_left : from ≡ to → ⊥) where
    first : FirstField levels schema from to ready.columns
    first = first_field ready.stand (lt_of_le-ne ready.stand.ordered some_left)

    told : FirstTold ready.names schema table first.name first.node first.more from
    told = field_told_lem (rw first.are at ready.told)

    rise : rising (first.name ∷ column_names first.more) ≡ true
    unfolding column_names
    rise = rw first.are at ready.stand.rise

    pub first_run : Run s m k
    first_run = from_run ready.held

    pub first_in_table : entry_place from < length table
    first_in_table = field_in_table first.stands table ready.ground.tabled

    pub first_framed : frame_end schema from ≤ length schema
    first_framed = field_framed first.stands

    pub first_named : field_node schema from ≤ length schema
    first_named = field_named first.stands

    -- The fields behind are nearer the end.
    pub first_falls : {next : ℕ} → next ≡ frame_end schema from → to - next < to - from
    first_falls is =
        let inside = first.stands.inside.within in
        let fills = first.stands.fills in
        let ordered = first.stands.frame_in in
        omega arith

    -- ---- the members that were passed on the way to its own

    module _ {here : ℕ} (passed : PassedBy s m k (looked_at table from) here) where
      abbrev left : Fields
      left = skipped (here - k) ready.fs

      held_left : From ready.names s m here left
      held_left = passed_from ready.held passed

      pub here_run : Run s m here
      here_run = from_run held_left

      module _ {next notes' ids' : ℕ} (is : next ≡ frame_end schema from) (same-notes : notes' ≡ notes) (same_ids : ids' ≡ ids) where
        pub next_ready : FieldsReady levels ranks schema table next to s m here notes' ids'
        next_ready =
            record {
              names = ready.names;
              ground = ready.ground;
              columns = first.more;
              stand = rw (← is) at first.stands.behind;
              told = rw (← is) at told.behind;
              fs = left;
              depth = ready.depth;
              held = held_left;
              rise = skipped_rise (here - k) ready.fs ready.rise;
              good = skipped_good (well_formed ready.depth) (here - k) ready.fs ready.good;
              there = skipped_there ready.names (here - k) ready.fs ready.there;
              short = ready.short;
              notes_room = rw same-notes ready.notes_room;
              ids_room = rw same_ids ready.ids_room;
            }

        abbrev own : List ℕ
        own = place_bytes ready.names (cut_field (λ d. cut first.node d) (field_at first.name left))

        -- Its place in front of those behind it.
        split : fields_cut ready ≡ own ++ fields_cut next_ready
        unfolding cut_fields places_bytes next_ready
        split =
            ap (λ (columns : SchemaFields). places_bytes ready.names (cut_fields columns ready.fs)) first.are
            ∙ ap (places_bytes ready.names)
            (passed_cut ready.held passed first.name first.node first.more ready.ground.rises told.here rise ready.there)

        pub fields_full : {before after : List ℕ} {end : ℕ} {r : Option ℕ} → PutAs (fields_cut next_ready) before after 0 end r → r ≡ None
            → PutAs (fields_cut ready) before after 0 end None
        fields_full behind e =
            let short = told_full behind e in
            let long = ap length split ∙ length-append own (fields_cut next_ready) in
            full (omega arith)

        joined : {before middle after : List ℕ} {start end : ℕ} {r q : Option ℕ} → end ≤ length before → PutAs (fields_cut next_ready) before middle 0 end r
            → r ≡ Some start → PutAs own middle after 0 start q → PutAs (fields_cut ready) before after 0 end q
        joined within behind e one = rw split (put_join within (told_here behind e).1 one)

        -- ---- no member has its name

        pub put_missing : is_member s m here (looked_at table from) ≡ false → {before middle after : List ℕ} {start end : ℕ} {r q : Option ℕ} → end ≤ length before
            → PutAs (fields_cut next_ready) before middle 0 end r → r ≡ Some start → PutAs (frame 0x50 []) middle after 0 start q
            → PutAs (fields_cut ready) before after 0 end q
        unfolding cut_field place_bytes next_ready
        put_missing is-not within behind e one =
            let nothing =
            not_reached ready.names s m here first.name k (looked_at table from) passed told.here held_left ready.ground.rises
            next_ready.rise next_ready.there is-not in
            joined within behind e (rw nothing one)

      -- ---- a member has its name

      module _ (is-it : is_member s m here (looked_at table from) ≡ true) where
        abbrev member : Reached ready.names (well_formed ready.depth) s m here first.name left
        member =
            reached ready.names s m here first.name (well_formed ready.depth) (looked_at table from) told.here held_left
            (skipped_there ready.names (here - k) ready.fs ready.there) (skipped_good (well_formed ready.depth) (here - k) ready.fs ready.good) is-it

        pub member_part-there : PartThere s m here
        member_part-there = member.part_there

        module _ {node : ℕ} {part : List ℕ} {notes' ids' : ℕ} (node_is : node ≡ field_node schema from) (part_is : part ≡ member_part s m here)
            (same-notes : notes' ≡ notes) (same_ids : ids' ≡ ids) where
          short : length part ≤ length s
          short = rw part_is (simp (length-take, length-drop) (omega arith))

          pub member_ready : PlaceReady levels ranks schema table node part notes' ids'
          member_ready =
              let few = short in
              let all = ready.short in
              let notes_room = ready.notes_room in
              let ids_room = ready.ids_room in
              record {
                names = ready.names;
                ground = ready.ground;
                under = first.node;
                stands = rw (← node_is) at first.stands.inside;
                told = rw (← node_is) at told.inside;
                valued = record {
                  d = member.d;
                  depth = ready.depth;
                  is = part_is ∙ member.part_is;
                  good = member.well;
                  there = member.known;
                  short = omega arith;
                  notes_room = omega arith;
                  ids_room = omega arith;
                };
              }

          pub put_member : {next notes'' ids'' : ℕ} (is : next ≡ frame_end schema from) (also-notes : notes'' ≡ notes) (also-ids : ids'' ≡ ids)
              → {before middle after : List ℕ} {start end : ℕ} {r q : Option ℕ} → end ≤ length before
              → PutAs (fields_cut (next_ready is also-notes also-ids)) before middle 0 end r → r ≡ Some start → PutAs (place_cut member_ready) middle after 0 start q
              → PutAs (fields_cut ready) before after 0 end q
          unfolding cut_field member_ready
          put_member is also-notes also-ids within behind e one = joined is also-notes also-ids within behind e (rw member.is one)
