-- `object_place`: an object's places, their head, what is left over in front of that, and the place's head.
use Rattle.std.specs.Prelude.{Some, None, Option}
use mathlib.Core.Bool.{true}
use mathlib.Core.List.{List, ◌++◌}
use mathlib.Core.Logic.{◌⊎◌, inl, inr}
use mathlib.Core.Path.{◌≡◌, refl, sym, ap, ◌∙◌}
use Prim.Native.Nat.{ℕ, zero, suc, ◌+◌, ◌-◌, ◌≤◌, ◌<◌}
use native.Mathlib.Omega.{arith}
use lib.ListN.{length, length-append}
use Rattle.containers.specs.Layouts.{HeadThere}
use Rattle.enclosing.proofs.FrameLaws.{frame_length, put_framed}
use Rattle.enclosing.specs.Frames.{frame_head, place_of}
use Rattle.forms.specs.WellFormed.{all_members, well_formed_by, well_formed, names_there, field_names_there}
use Rattle.members.proofs.HeldLaws.{held_from, held_count}
use Rattle.members.proofs.OpenLaws.{ObjectOpened, no_object, object_opens}
use Rattle.members.proofs.ShapeLaws.{value_there}
use Rattle.members.specs.Members.{MembersAt, Held}
use Rattle.members.specs.declared.Members.{Members}
use Rattle.paper.proofs.WordLaws.{never, and_both}
use Rattle.paper.specs.FirstBytes.{reading_of}
use Rattle.paper.specs.Framing.{frame}
use Rattle.paper.specs.Limits.{most_row}
use Rattle.paper.specs.Meaning.{Doc, null, scalar, array, object, Fields, no_fields, field}
use Rattle.paper.specs.Metadata.{Dictionary, rising}
use Rattle.paper.specs.Normal.{field_names}
use Rattle.paper.specs.Rows.{Typed, leftover, inner}
use Rattle.paper.specs.Schemas.{SchemaFields, fields, column_names}
use Rattle.paper.specs.Shredding.{unnamed, with_rest, cut, cut_fields, place_bytes, typed_bytes}
use Rattle.paper.specs.Words.{at}
use Rattle.paper.specs.declared.Reading.TheVariants.{ObjectHead}
use Rattle.paper.specs.declared.Reading.{Reading}
use Rattle.putting.proofs.PutLaws.{put_join, told_here, told_full, told_length, told_room}
use Rattle.putting.specs.Put.{Room, PutAs, full}
use Rattle.remainder.specs.Remainder.{rest_bytes, RestReady}
use Rattle.cutting.specs.Cutting.{ObjectReady, object_cut, FieldsReady, fields_cut}
use Rattle.cutting.proofs.NodeLaws.{put_left}

-- A value that is no object is left over.
pub no_fields_lem : (columns : SchemaFields) (d : Doc) → ((fs : Fields) → d ≡ object fs → ⊥) → cut (fields columns) d ≡ leftover d
unfolding cut
no_fields_lem columns null other = refl
no_fields_lem columns (scalar a) other = refl
no_fields_lem columns (array ds) other = refl
no_fields_lem columns (object fs) other = absurd (other fs refl)

-- A reading that is the fourth is none of the others.
pub other_tag : (◌≡◌ {A = ℕ} 3 0) ⊎ ((◌≡◌ {A = ℕ} 3 1) ⊎ ((◌≡◌ {A = ℕ} 3 2) ⊎ ((◌≡◌ {A = ℕ} 3 4) ⊎ (◌≡◌ {A = ℕ} 3 5)))) → ⊥
other_tag (inl e) = omega arith
other_tag (inr (inl e)) = omega arith
other_tag (inr (inr (inl e))) = omega arith
other_tag (inr (inr (inr (inl e)))) = omega arith
other_tag (inr (inr (inr (inr e)))) = omega arith

-- What is left over in front of what is typed.
rest_bytes_lem : (names : Dictionary) (left : Fields) (t : Typed) → place_bytes names (with_rest left t) ≡ frame 0x50 (rest_bytes names left ++ frame 0x42 (typed_bytes names t))
unfolding place_bytes with_rest rest_bytes
rest_bytes_lem names no_fields t = refl
rest_bytes_lem names (field name d fs) t = refl

-- What was put leaves room for a head in front of it.
asked : (tag : ℕ) {bytes before after : List ℕ} {start end : ℕ} {q : Option ℕ} → Room before 0 end → length before ≤ most_row → PutAs bytes before after 0 end q → q ≡ Some start
    → tag < 256 → Room after 0 start × (start ≤ end) × (end ≤ length after) × (length after ≤ most_row) × (tag < 256)
asked tag room short done here small =
    let size = (told_here done here).1.size in
    let within = room.within in
    let same = told_length done within here in
    (told_room done room here, omega arith, omega arith, omega arith, small)

module _ {levels : ℕ} {ranks schema table : List ℕ} {from to : ℕ} {s : List ℕ} {notes ids : ℕ}
    (ready : ObjectReady levels ranks schema table from to s notes ids) where
  pub object_first : 1 ≤ length s
  object_first = let valued = ready.valued in rw valued.is (omega (arith, value_there ready.names valued.d))

  module _ {r : Reading} (told : r ≡ reading_of (at s 0)) where
    pub put-no_object : ((counted id width : ℕ) → r ≡ ObjectHead counted id width → ⊥) → {before after : List ℕ} {end : ℕ} {q : Option ℕ}
        → PutAs (place_of 0x41 s) before after 0 end q → PutAs (object_cut ready) before after 0 end q
    put-no_object other done =
        let valued = ready.valued in
        let none-such = no_object ready.names valued.depth valued.d s valued.good valued.is told other in
        put_left (fields ready.columns) valued (no_fields_lem ready.columns valued.d none-such) done

    module _ {counted id width : ℕ} (says : r ≡ ObjectHead counted id width) where
      opened : ObjectOpened ready.names ready.valued.d s counted id width
      opened =
          let valued = ready.valued in
          let short = valued.short in
          let few = ready.ground.few in
          object_opens ready.names valued.depth valued.d s valued.good valued.is told (omega arith) (omega arith) valued.there counted id width says

      pub object_container : HeadThere s counted id width
      object_container = opened.container

      inside : (depth : ℕ) → (d : Doc) → d ≡ object opened.fs → well_formed depth d ≡ true → names_there ready.names d ≡ true
          → (n : ℕ) × (rising (field_names opened.fs) ≡ true) × (all_members (well_formed n) opened.fs ≡ true) × (field_names_there ready.names opened.fs ≡ true)
      unfolding well_formed well_formed_by names_there
      inside zero d is good there = never (sym good)
      inside (suc n) d is good there =
          let both = and_both (rising (field_names opened.fs)) (all_members (well_formed n) opened.fs) (rw is at good) in
          (n, both.0, both.1, rw is at there)

      abbrev known : (n : ℕ) × (rising (field_names opened.fs) ≡ true) × (all_members (well_formed n) opened.fs ≡ true) × (field_names_there ready.names opened.fs ≡ true)
      known = let valued = ready.valued in inside valued.depth valued.d opened.is valued.good valued.there

      module _ {m : Members} (stand : MembersAt s counted id width m) where
        held : Held ready.names s m opened.fs
        held = opened.held m stand

        pub fields_ready : FieldsReady levels ranks schema table from to s m 0 notes ids
        fields_ready =
            record {
              names = ready.names;
              ground = ready.ground;
              columns = ready.columns;
              stand = ready.stand;
              told = ready.told;
              fs = opened.fs;
              depth = known.0;
              held = held_from held;
              rise = known.1;
              good = known.2;
              there = known.3;
              short = ready.valued.short;
              notes_room = ready.valued.notes_room;
              ids_room = ready.valued.ids_room;
            }

        module _ {notes' ids' : ℕ} (same-notes : notes' ≡ notes) (same_ids : ids' ≡ ids) where
          pub rest_ready : RestReady ranks schema table from to s m notes' ids'
          rest_ready =
              let twice = opened.twice in
              let count = held_count held in
              let notes_room = ready.valued.notes_room in
              let ids_room = ready.valued.ids_room in
              record {
                names = ready.names;
                columns = ready.columns;
                fs = opened.fs;
                levels = levels;
                depth = known.0;
                ground = ready.ground;
                stand = ready.stand;
                told = ready.told;
                held = held;
                rise = known.1;
                good = known.2;
                there = known.3;
                short = ready.valued.short;
                notes_room = omega arith;
                ids_room = omega arith;
              }

          abbrev places : List ℕ
          places = fields_cut fields_ready

          abbrev left : List ℕ
          left = rest_bytes rest_ready.names (unnamed (column_names rest_ready.columns) rest_ready.fs)

          object_is : object_cut ready ≡ frame 0x50 (left ++ frame 0x42 places)
          unfolding cut typed_bytes fields_ready rest_ready
          object_is =
              ap (λ (d : Doc). place_bytes ready.names (cut (fields ready.columns) d)) opened.is
              ∙ rest_bytes_lem ready.names (unnamed (column_names ready.columns) opened.fs) (inner (cut_fields ready.columns opened.fs))

          object_long : length (object_cut ready) ≡ 3 + (length left + (3 + length places))
          object_long =
              ap length object_is ∙ frame_length 0x50 (left ++ frame 0x42 places)
              ∙ ap (λ (n : ℕ). 3 + n) (length-append left (frame 0x42 places) ∙ ap (λ (n : ℕ). length left + n) (frame_length 0x42 places))

          -- A part that does not fit: nor does the whole.
          pub places_full : {before after : List ℕ} {end : ℕ} {q : Option ℕ} → PutAs places before after 0 end q → q ≡ None → PutAs (object_cut ready) before after 0 end None
          places_full done e =
              let short = told_full done e in
              let long = object_long in
              full (omega arith)

          module _ {before middle : List ℕ} {start end : ℕ} {q : Option ℕ} (fits : end ≤ length before) (done : PutAs places before middle 0 end q) (here : q ≡ Some start) where
            typed_put : {after : List ℕ} {p : Option ℕ} → PutAs (frame_head 0x42 (end - start)) middle after 0 start p → PutAs (frame 0x42 places) before after 0 end p
            typed_put head = put_framed 0x42 places fits (told_here done here).1 head

            pub typed_full : {after : List ℕ} {p : Option ℕ} → PutAs (frame_head 0x42 (end - start)) middle after 0 start p → p ≡ None → PutAs (object_cut ready) before after 0 end None
            typed_full head e =
                let short = told_full (typed_put head) e in
                let long = object_long in
                let inside = frame_length 0x42 places in
                full (omega arith)

            module _ {more : List ℕ} {typed : ℕ} {p : Option ℕ} (head : PutAs (frame_head 0x42 (end - start)) middle more 0 start p) (at_Typed : p ≡ Some typed) where
              left_put : {after : List ℕ} {o : Option ℕ} → PutAs left more after 0 typed o → PutAs (left ++ frame 0x42 places) before after 0 end o
              left_put done-left = put_join fits (told_here (typed_put head) at_Typed).1 done-left

              pub left_full : {after : List ℕ} {o : Option ℕ} → PutAs left more after 0 typed o → o ≡ None → PutAs (object_cut ready) before after 0 end None
              left_full done-left e =
                  let short = told_full (left_put done-left) e in
                  let long = object_long in
                  let both = length-append left (frame 0x42 places) in
                  let inside = frame_length 0x42 places in
                  full (omega arith)

              pub object_put : {last after : List ℕ} {first : ℕ} {o u : Option ℕ} → PutAs left more last 0 typed o → o ≡ Some first
                  → PutAs (frame_head 0x50 (end - first)) last after 0 first u → PutAs (object_cut ready) before after 0 end u
              object_put done-left at_first outer =
                  rw object_is (put_framed 0x50 (left ++ frame 0x42 places) fits (told_here (left_put done-left) at_first).1 outer)

          -- ---- what the calls ask of the room

          pub places_asked : {before middle : List ℕ} {start end : ℕ} {q : Option ℕ} → Room before 0 end → length before ≤ most_row → PutAs places before middle 0 end q
              → q ≡ Some start → Room middle 0 start × (start ≤ end) × (end ≤ length middle) × (length middle ≤ most_row) × (0x42 < 256)
          places_asked room short done here = asked 0x42 room short done here (omega arith)

          module _ {before middle : List ℕ} {start end : ℕ} {q : Option ℕ} (room : Room before 0 end) (short : length before ≤ most_row) (done : PutAs places before middle 0 end q)
              (here : q ≡ Some start) {more : List ℕ} {typed : ℕ} {p : Option ℕ} (head : PutAs (frame_head 0x42 (end - start)) middle more 0 start p) (at_Typed : p ≡ Some typed) where
            pub typed_asked : Room more 0 typed × (length more ≤ most_row)
            typed_asked = let all = asked 0x42 room short (typed_put room.within done here head) at_Typed (omega arith) in (all.0, all.3)

            pub left_asked : {last : List ℕ} {first : ℕ} {o : Option ℕ} → PutAs left more last 0 typed o → o ≡ Some first
                → Room last 0 first × (first ≤ end) × (end ≤ length last) × (length last ≤ most_row) × (0x50 < 256)
            left_asked done-left at_first = asked 0x50 room short (left_put room.within done here head at_Typed done-left) at_first (omega arith)
