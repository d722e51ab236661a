-- What is left over, put from its end: its members, the head of an object in front of them, the head of a frame in front of that;
-- and where one of these finds no room, there is none for all of it.
use Rattle.std.specs.Prelude.{Some, None, Option}
use mathlib.Core.Bool.{true}
use mathlib.Core.List.{List, [], map}
use mathlib.Core.Path.{◌≡◌, refl, sym, ap, ◌∙◌}
use Prim.Native.Nat.{ℕ, ◌+◌, ◌-◌, ◌*◌, ◌≤◌, ◌<◌}
use native.Mathlib.Omega.{arith}
use lib.ListN.{length, length-map}
use Rattle.containers.proofs.WalkLaws.{below_more}
use Rattle.runs.proofs.NumbersRunLaws.{run_length}
use Rattle.enclosing.proofs.FrameLaws.{frame_split, frame_length}
use Rattle.enclosing.specs.Frames.{frame_head}
use Rattle.forms.proofs.BackLaws.{ids_length, ids_below_lem}
use Rattle.forms.proofs.PartLaws.{AllFilled}
use Rattle.members.proofs.HeldLaws.{held_from}
use Rattle.members.specs.declared.Members.{Members}
use Rattle.paper.specs.Bounds.{most_walked}
use Rattle.paper.specs.Framing.{frame}
use Rattle.paper.specs.Limits.{most_row}
use Rattle.paper.specs.Meaning.{Fields, no_fields, field}
use Rattle.paper.specs.Metadata.{Dictionary}
use Rattle.paper.specs.Normal.{object_bytes, id_of, field_names, value_bytes, member_bytes}
use Rattle.paper.specs.Schemas.{column_names}
use Rattle.paper.specs.Shredding.{unnamed}
use Rattle.paper.specs.Words.{numbers, all_below, joined}
use Rattle.putting.proofs.PutLaws.{put_join, told_here, told_full, told_room, told_length, ends_lie, put_object, object_holds}
use Rattle.putting.specs.Put.{Room, PutAs, put, full}
use Rattle.remainder.proofs.FilledLaws.{members_filled, ranks_own}
use Rattle.remainder.proofs.UnnamedLaws.{unnamed_filled, unnamed_there}
use Rattle.remainder.specs.Left.{NotedThere, noted_parts, LeftNoted, AllLeft}
use Rattle.remainder.specs.Remainder.{rest_bytes, RestReady}
use Rattle.writing.proofs.EndLaws.{nothing_ends}
use Rattle.writing.specs.Ends.{EndsAt, Lies, Lying}
use Rattle.writing.specs.Heads.{object_head}
use Rattle.writing.specs.Rewritten.{ranks_at}

-- ---- what is left: nothing, or an object

none_left : (names : Dictionary) (left : Fields) → length (field_names left) ≡ 0 → rest_bytes names left ≡ []
unfolding rest_bytes field_names
none_left names no_fields e = refl
none_left names (field name d fs) e = absurd (omega arith)

some_left : (names : Dictionary) (left : Fields) → (length (field_names left) ≡ 0 → ⊥)
    → rest_bytes names left ≡ frame 0x41 (object_bytes (map (id_of names) (field_names left)) (member_bytes names left))
unfolding rest_bytes field_names value_bytes
some_left names no_fields h = absurd (h refl)
some_left names (field name d fs) h = refl

-- ---- what stands in the tables, for one reading

module _ {ranks schema table : List ℕ} {from to : ℕ} {s : List ℕ} {m : Members} {notes_room ids_room : ℕ} {notes ids : List ℕ} {count : ℕ}
    (ready : RestReady ranks schema table from to s m notes_room ids_room) (all : AllLeft schema table from to s m notes_room ids_room notes ids count) where
  abbrev names : Dictionary
  names = ready.names

  abbrev left : Fields
  left = unnamed (column_names ready.columns) ready.fs

  abbrev left_ids : List ℕ
  left_ids = map (id_of names) (field_names left)

  abbrev parts : List (List ℕ)
  parts = member_bytes names left

  noted : LeftNoted names left s m notes ids count
  noted = all.each (record { ranks = ranks; ready = ready })

  ids_many : length left_ids ≡ count
  ids_many =
      let room = noted.ids_room in
      ap length (sym noted.ids_are) ∙ run_length 2 count ids (omega arith) (omega arith)

  names_many : length (field_names left) ≡ count
  names_many = sym (length-map (field_names left) (id_of names)) ∙ ids_many

  parts_many : length parts ≡ count
  parts_many = sym (ids_length names left) ∙ ids_many

  parts_filled : AllFilled parts
  parts_filled =
      let few = ready.ground.few in
      unnamed_filled names (column_names ready.columns) ready.fs
      (members_filled names (omega arith) ready.depth ready.short (held_from ready.held) ready.good ready.there)

  ids_low : all_below (length names) left_ids ≡ true
  ids_low = ids_below_lem names left (unnamed_there names (column_names ready.columns) ready.fs ready.there)

  pub rest_noted : NotedThere s m notes count
  rest_noted = noted.noted

  -- The ids are there, in two bytes each.
  pub rest_ids : (count * 2 ≤ length ids) × (1 ≤ 2) × (2 ≤ 4)
  rest_ids = let room = noted.ids_room in (omega arith, omega arith, omega arith)

  module _ {given : List ℕ} (is : given ≡ numbers 2 count ids) where
    given_are : given ≡ left_ids
    given_are = is ∙ noted.ids_are

    given_many : length given ≡ count
    given_many = ap length given_are ∙ ids_many

    own_ranks : ranks_at ranks given ≡ left_ids
    own_ranks = rw given_are (ranks_own ranks (length names) ready.ground.own left_ids ids_low)

    pub rest_ranked : all_below (length ranks) given ≡ true
    rest_ranked = rw given_are (below_more (length names) (length ranks) left_ids ready.ground.ranked ids_low)

  -- ---- nothing is left

  pub rest_none : count ≡ 0 → (out : List ℕ) (end : ℕ) → PutAs (rest_bytes names left) out out 0 end (Some end)
  rest_none e out end = rw (none_left names left (names_many ∙ e)) (put end (omega arith) (nothing_ends out end))

  -- ---- something is

  module _ (some : count ≡ 0 → ⊥) {out : List ℕ} {end : ℕ} (room : Room out 0 end) where
    rest_is : rest_bytes names left ≡ frame 0x41 (object_bytes left_ids parts)
    rest_is = some_left names left (λ e. some (sym names_many ∙ e))

    few : count ≤ most_walked
    few =
        let within = noted.within in
        let most = (noted.noted.there 0 (omega arith)).few in
        omega arith

    too_long : {after : List ℕ} → end < length (object_bytes left_ids parts) → PutAs (rest_bytes names left) out after 0 end None
    too_long short =
        let size = frame_length 0x41 (object_bytes left_ids parts) in
        rw rest_is (full (omega arith))

    -- The members.
    module _ {out₁ : List ℕ} {r₁ : Option ℕ} (copied : PutAs (joined (noted_parts s m notes count)) out out₁ 0 end r₁) where
      pub rest_full : r₁ ≡ None → PutAs (rest_bytes names left) out out₁ 0 end None
      rest_full e =
          let short = told_full copied e in
          let hold = object_holds left_ids parts in
          let same : length (joined (noted_parts s m notes count)) ≡ length (joined parts) = ap (λ (l : List (List ℕ)). length (joined l)) noted.parts_are in
          too_long (omega arith)

      module _ {start : ℕ} (here : r₁ ≡ Some start) where
        ends : EndsAt (joined parts) out out₁ end start
        ends = rw noted.parts_are at (told_here copied here).1

        lies : Lies out₁ start end parts
        lies = ends_lie parts parts_filled room.within ends

        module _ {given : List ℕ} (is : given ≡ numbers 2 count ids) where
          one_each : length parts ≡ length given
          one_each = parts_many ∙ sym (given_many is)

          -- What the writer of an object's head asks.
          pub rest_members : Room out₁ 0 start × Lying out₁ start end (length given) × (length given ≤ most_walked) × (end ≤ length out₁)
          rest_members = (
            told_room copied room here,
            record { parts = parts; lie = lies; count_is = one_each },
            rw (given_many is) few,
            rw (told_length copied room.within here) room.within,
          )

          -- The head of an object.
          module _ {out₂ : List ℕ} {r₂ : Option ℕ}
              (headed : (those : List (List ℕ)) → Lies out₁ start end those → length those ≡ length given
              → PutAs (object_head (ranks_at ranks given) those) out₁ out₂ 0 start r₂) where
            body : PutAs (object_bytes left_ids parts) out out₂ 0 end r₂
            body =
                let head = headed parts lies one_each in
                put_object parts room.within ends left_ids (rw (own_ranks is) at head)

            pub rest_full_head : r₂ ≡ None → PutAs (rest_bytes names left) out out₂ 0 end None
            rest_full_head e = let short = told_full body e in too_long (omega arith)

            module _ {first : ℕ} (there : r₂ ≡ Some first) where
              body_size : first + length (object_bytes left_ids parts) ≡ end
              body_size = (told_here body there).1.size

              -- What the writer of the frame's head asks.
              pub rest_asks : length out ≤ most_row → Room out₂ 0 first × (first ≤ end) × (end ≤ length out₂) × (length out₂ ≤ most_row) × (0x41 < 256)
              rest_asks few =
                  let size = body_size in
                  let same = told_length body room.within there in
                  let within = room.within in
                  (told_room body room there, omega arith, omega arith, omega arith, omega arith)

              -- The head of a frame.
              pub rest_put : {out₃ : List ℕ} {r₃ : Option ℕ} → PutAs (frame_head 0x41 (end - first)) out₂ out₃ 0 first r₃ → PutAs (rest_bytes names left) out out₃ 0 end r₃
              rest_put {out₃} {r₃} framed =
                  let value : List ℕ = object_bytes left_ids parts in
                  let place = body_size in
                  let size : end - first ≡ length value = omega arith in
                  let head : PutAs (frame_head 0x41 (length value)) out₂ out₃ 0 first r₃ = rw size at framed in
                  rw (rest_is, frame_split 0x41 value) (put_join room.within (told_here body there).1 head)
