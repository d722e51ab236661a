-- `list_place`: an array's elements written last to first, those from one on stand up to the end; then the heads.
use Rattle.std.specs.Prelude.{Some, None, Option}
use mathlib.Core.Bool.{true}
use mathlib.Core.List.{List, [], ◌++◌}
use mathlib.Core.Logic.{◌⊎◌, inl, inr}
use mathlib.Core.Path.{◌≡◌, refl, sym, ap, ◌∙◌}
use Prim.Native.Nat.{ℕ, zero, suc, ◌+◌, ◌-◌, ◌≤◌, ◌<◌}
use native.Mathlib.Omega.{arith}
use lib.ListN.{length, get_or, length-append, length-take, length-drop}
use Rattle.containers.specs.Layouts.{HeadThere}
use Rattle.enclosing.proofs.FrameLaws.{place_long, put_place}
use Rattle.enclosing.specs.Frames.{frame_head, place_of}
use Rattle.forms.specs.WellFormed.{all_docs, well_formed_by, well_formed, names_there, all_names_there}
use Rattle.members.proofs.OpenLaws.{ArrayOpened, no_array, array_opens}
use Rattle.members.proofs.ShapeLaws.{value_there}
use Rattle.members.specs.Members.{MembersAt, PartThere, member_part, Parted}
use Rattle.members.specs.declared.Members.{Members}
use Rattle.paper.proofs.WordLaws.{never, and_both}
use Rattle.paper.specs.Bounds.{most_walked}
use Rattle.paper.specs.FirstBytes.{reading_of}
use Rattle.paper.specs.Meaning.{Doc, null, scalar, array, object, Docs, no_docs, doc}
use Rattle.paper.specs.Metadata.{Dictionary}
use Rattle.paper.specs.Normal.{value_bytes, element_bytes}
use Rattle.paper.specs.Rows.{leftover}
use Rattle.paper.specs.Schemas.{Schema, list}
use Rattle.paper.specs.Shredding.{cut, cut_all, place_bytes, places_bytes, typed_bytes}
use Rattle.paper.specs.Words.{at}
use Rattle.paper.specs.declared.Reading.TheVariants.{ArrayHead}
use Rattle.paper.specs.declared.Reading.{Reading}
use Rattle.putting.proofs.PutLaws.{told_here, told_full, told_length, told_room}
use Rattle.putting.specs.Put.{Room, PutAs, full}
use Rattle.writing.proofs.EndLaws.{nothing_ends, ends_join}
use Rattle.writing.specs.Ends.{EndsAt}
use Rattle.cutting.specs.Cutting.{PlaceReady, place_cut, ListReady, list_cut}
use Rattle.cutting.proofs.NodeLaws.{put_left}

-- ---- elements from one on

unfoldable pub behind : ℕ → Docs → Docs
behind zero ds = ds
behind (suc n) no_docs = no_docs
behind (suc n) (doc d ds) = behind n ds

record ElementAt (names : Dictionary) (depth : ℕ) (ds : Docs) (k : ℕ) : Type 0 where
  pub d : Doc
  pub from_here : behind k ds ≡ doc d (behind (suc k) ds)
  pub bytes : get_or (element_bytes names ds) k [] ≡ value_bytes names d
  pub good : well_formed depth d ≡ true
  pub there : names_there names d ≡ true

element_at : (names : Dictionary) (depth : ℕ) (ds : Docs) (k : ℕ) → k < length (element_bytes names ds) → all_docs (well_formed depth) ds ≡ true → all_names_there names ds ≡ true
    → ElementAt names depth ds k
unfolding behind element_bytes all_docs all_names_there
element_at names depth no_docs k below good there = absurd (omega arith)
element_at names depth (doc d ds) zero below good there =
    record {
      d = d;
      from_here = refl;
      bytes = refl;
      good = (and_both (well_formed depth d) (all_docs (well_formed depth) ds) good).0;
      there = (and_both (names_there names d) (all_names_there names ds) there).0;
    }
element_at names depth (doc d ds) (suc k) below good there =
    let more = element_at names depth ds k (omega arith) (and_both (well_formed depth d) (all_docs (well_formed depth) ds) good).1
    (and_both (names_there names d) (all_names_there names ds) there).1 in
    record { d = more.d; from_here = more.from_here; bytes = more.bytes; good = more.good; there = more.there }

none_behind : (names : Dictionary) (ds : Docs) (k : ℕ) → k ≡ length (element_bytes names ds) → behind k ds ≡ no_docs
unfolding behind element_bytes
none_behind names no_docs zero is = refl
none_behind names no_docs (suc k) is = refl
none_behind names (doc d ds) zero is = absurd (omega arith)
none_behind names (doc d ds) (suc k) is = none_behind names ds k (omega arith)

-- Those from one on are no longer than all.
behind_long : (names : Dictionary) (element : Schema) (ds : Docs) (k : ℕ)
    → length (places_bytes names (cut_all (λ d. cut element d) (behind k ds))) ≤ length (places_bytes names (cut_all (λ d. cut element d) ds))
unfolding behind cut_all places_bytes
behind_long names element ds zero = omega arith
behind_long names element no_docs (suc k) = omega arith
behind_long names element (doc d ds) (suc k) =
    let more = behind_long names element ds k in
    let all = length-append (place_bytes names (cut element d)) (places_bytes names (cut_all (λ d. cut element d) ds)) in
    omega arith

-- ---- a value that is no array is left over

pub no_list : (element : Schema) (d : Doc) → ((ds : Docs) → d ≡ array ds → ⊥) → cut (list element) d ≡ leftover d
unfolding cut
no_list element null other = refl
no_list element (scalar a) other = refl
no_list element (array ds) other = absurd (other ds refl)
no_list element (object fs) other = refl

-- A reading that is the fifth is none of the others.
pub no_other : (◌≡◌ {A = ℕ} 4 0) ⊎ ((◌≡◌ {A = ℕ} 4 1) ⊎ ((◌≡◌ {A = ℕ} 4 2) ⊎ ((◌≡◌ {A = ℕ} 4 3) ⊎ (◌≡◌ {A = ℕ} 4 5)))) → ⊥
no_other (inl e) = omega arith
no_other (inr (inl e)) = omega arith
no_other (inr (inr (inl e))) = omega arith
no_other (inr (inr (inr (inl e)))) = omega arith
no_other (inr (inr (inr (inr e)))) = omega arith

-- ---- the loop

pub record ListSeen (levels : ℕ) (ranks schema table : List ℕ) (node : ℕ) (s notes₀ ids₀ out₀ : List ℕ) (end : ℕ) (m : Members) (notes ids out : List ℕ) (start i : ℕ) : Type 0 where
  pub within : i ≤ m.count
  pub room : Room out 0 start
  pub below : start ≤ end
  pub notes_size : length notes ≡ length notes₀
  pub ids_size : length ids ≡ length ids₀
  pub out_size : length out ≡ length out₀
  pub ends : (ready : ListReady levels ranks schema table node s (length notes₀) (length ids₀)) (ds : Docs) → ready.valued.d ≡ array ds
      → EndsAt (places_bytes ready.names (cut_all (λ d. cut ready.element d) (behind i ds))) out₀ out end start

module _ {levels : ℕ} {ranks schema table : List ℕ} {node : ℕ} {s : List ℕ} {notes ids : ℕ} (ready : ListReady levels ranks schema table node s notes ids) where
  small : length s ≤ most_walked
  small = let short = ready.valued.short in omega arith

  pub list_first : 1 ≤ length s
  list_first = let valued = ready.valued in rw valued.is (omega (arith, value_there ready.names valued.d))

  module _ {r : Reading} (told : r ≡ reading_of (at s 0)) where
    pub put-no_array : ((counted width : ℕ) → r ≡ ArrayHead counted width → ⊥) → {before after : List ℕ} {end : ℕ} {q : Option ℕ} → PutAs (place_of 0x41 s) before after 0 end q
        → PutAs (list_cut ready) before after 0 end q
    put-no_array other done =
        let valued = ready.valued in
        let none-such = no_array ready.names valued.depth valued.d s valued.good valued.is told other in
        put_left (list ready.element) valued (no_list ready.element valued.d none-such) done

    module _ {counted width : ℕ} (says : r ≡ ArrayHead counted width) where
      opened : ArrayOpened ready.names ready.valued.d s counted width
      opened = let valued = ready.valued in array_opens ready.names valued.depth valued.d s valued.good valued.is told small counted width says

      pub list_container : HeadThere s counted 0 width
      list_container = opened.container

      module _ {m : Members} (stand : MembersAt s counted 0 width m) where
        parted : Parted s m (element_bytes ready.names opened.docs)
        parted = opened.parted m stand

        pub list_there : {k : ℕ} → k < m.count → PartThere s m k
        list_there {k} below = parted.there k below

        pub list_few : m.count ≤ most_walked
        list_few = go m.count refl
          where
            go : (n : ℕ) → m.count ≡ n → m.count ≤ most_walked
            go zero e = omega arith
            go (suc n) e = (parted.there 0 (omega arith)).few

        inside : (depth : ℕ) → (d : Doc) → d ≡ array opened.docs → well_formed depth d ≡ true → names_there ready.names d ≡ true
            → (n : ℕ) × (depth ≡ suc n) × (all_docs (well_formed n) opened.docs ≡ true) × (all_names_there ready.names opened.docs ≡ true)
        unfolding well_formed well_formed_by names_there
        inside zero d is good there = never (sym good)
        inside (suc n) d is good there = (n, refl, rw is at good, rw is at there)

        one : (k : ℕ) → k < m.count → (n : ℕ) × ElementAt ready.names n opened.docs k
        one k below =
            let valued = ready.valued in
            let all = inside valued.depth valued.d opened.is valued.good valued.there in
            (all.0, element_at ready.names all.0 opened.docs k (rw parted.counted at below) all.2 all.3)

        module _ {k : ℕ} (below : k < m.count) {part : List ℕ} {notes' ids' : ℕ} (part_is : part ≡ member_part s m k) (same-notes : notes' ≡ notes) (same_ids : ids' ≡ ids) where
          pub element_ready : PlaceReady levels ranks schema table node part notes' ids'
          element_ready =
              let here = one k below in
              let all = ready.valued.short in
              let few : length part ≤ length s = rw part_is (simp (length-take, length-drop) (omega arith)) in
              let notes_room = ready.valued.notes_room in
              let ids_room = ready.valued.ids_room in
              record {
                names = ready.names;
                ground = ready.ground;
                under = ready.element;
                stands = ready.stands;
                told = ready.told;
                valued = record {
                  d = here.1.d;
                  depth = here.0;
                  is = part_is ∙ parted.are k below ∙ here.1.bytes;
                  good = here.1.good;
                  there = here.1.there;
                  short = omega arith;
                  notes_room = omega arith;
                  ids_room = omega arith;
                };
              }

-- ---- the laws of the loop, of every reading of the bytes

same_docs : {d : Doc} {ds es : Docs} → d ≡ array ds → d ≡ array es → ds ≡ es
same_docs {d} {ds} {es} is also = array_same (sym is ∙ also)
  where
    array_same : array ds ≡ array es → ds ≡ es
    array_same e = cc

module _ {levels : ℕ} {ranks schema table : List ℕ} {node : ℕ} {s : List ℕ} {r : Reading} (told : r ≡ reading_of (at s 0)) {counted width : ℕ}
    (says : r ≡ ArrayHead counted width) {m : Members} (stand : MembersAt s counted 0 width m) where
  docs_are : {notes ids : ℕ} (ready : ListReady levels ranks schema table node s notes ids) (ds : Docs) → ready.valued.d ≡ array ds → (opened ready told says).docs ≡ ds
  docs_are ready ds is = same_docs (opened ready told says).is is

  none_left : {notes ids : ℕ} (ready : ListReady levels ranks schema table node s notes ids) (ds : Docs) → ready.valued.d ≡ array ds → behind m.count ds ≡ no_docs
  none_left ready ds is =
      none_behind ready.names ds m.count
      ((parted ready told says stand).counted ∙ ap (λ (es : Docs). length (element_bytes ready.names es)) (docs_are ready ds is))

  -- An array's place: what its elements are cut into, typed.
  list_is : {notes ids : ℕ} (ready : ListReady levels ranks schema table node s notes ids) (ds : Docs) → ready.valued.d ≡ array ds
      → list_cut ready ≡ place_of 0x42 (places_bytes ready.names (cut_all (λ d. cut ready.element d) ds))
  unfolding cut place_bytes typed_bytes place_of
  list_is ready ds is = ap (λ (d : Doc). place_bytes ready.names (cut (list ready.element) d)) is

  pub list_start : {notes ids out : List ℕ} {end : ℕ} → Room out 0 end
      → ListSeen levels ranks schema table node s notes ids out end m notes ids out end m.count
  unfolding cut_all places_bytes
  list_start {notes} {ids} {out} {end} room =
      record {
        within = omega arith;
        room = room;
        below = omega arith;
        notes_size = refl;
        ids_size = refl;
        out_size = refl;
        ends = λ ready ds is. rw (none_left ready ds is) (nothing_ends out end);
      }

  module _ {notes₀ ids₀ out₀ : List ℕ} {end : ℕ} {notes ids out : List ℕ} {start i : ℕ}
      (seen : ListSeen levels ranks schema table node s notes₀ ids₀ out₀ end m notes ids out start i) (fits : end ≤ length out₀) where
    module _ (k : ℕ) (next : k + 1 ≡ i) {part : List ℕ} (part_is : part ≡ member_part s m k) {after : List ℕ} {q : Option ℕ}
        (put : (one : PlaceReady levels ranks schema table node part (length notes) (length ids)) → PutAs (place_cut one) out after 0 start q) where
      below_count : k < m.count
      below_count = let most = seen.within in omega arith

      module _ (ready : ListReady levels ranks schema table node s (length notes₀) (length ids₀)) where
        abbrev element_here : PlaceReady levels ranks schema table node part (length notes) (length ids)
        element_here = element_ready ready told says stand below_count part_is seen.notes_size seen.ids_size

        -- What stands from it on: its place, and those behind it.
        from_here : (ds : Docs) → ready.valued.d ≡ array ds → places_bytes ready.names (cut_all (λ d. cut ready.element d) (behind k ds))
            ≡ place_cut element_here ++ places_bytes ready.names (cut_all (λ d. cut ready.element d) (behind i ds))
        unfolding cut_all places_bytes element_ready
        from_here ds is =
            let here = (one ready told says stand k below_count).1 in
            let docs : (opened ready told says).docs ≡ ds = docs_are ready ds is in
            let up : suc k ≡ i = omega arith in
            let split : behind k ds ≡ doc here.d (behind i ds) = rw (docs, up) at here.from_here in
            ap (λ (es : Docs). places_bytes ready.names (cut_all (λ d. cut ready.element d) es)) split

        pub list_full : q ≡ None → PutAs (list_cut ready) out₀ after 0 end None
        list_full e =
            let ds : Docs = (opened ready told says).docs in
            let is : ready.valued.d ≡ array ds = (opened ready told says).is in
            let short = told_full (put element_here) e in
            let size = (seen.ends ready ds is).size in
            let split = ap length (from_here ds is) ∙ length-append (place_cut element_here) (places_bytes ready.names (cut_all (λ d. cut ready.element d) (behind i ds))) in
            let all = behind_long ready.names ready.element ds k in
            rw (list_is ready ds is) (full (omega (arith, place_long 0x42 (places_bytes ready.names (cut_all (λ d. cut ready.element d) ds)))))

      pub list_next : ListReady levels ranks schema table node s (length notes₀) (length ids₀) → {first : ℕ} → q ≡ Some first → {notes' ids' : List ℕ} → length notes' ≡ length notes → length ids' ≡ length ids
          → ListSeen levels ranks schema table node s notes₀ ids₀ out₀ end m notes' ids' after first k
      list_next ready {first} e {notes'} {ids'} same-notes same_ids =
          let done = put (element_here ready) in
          let size = (told_here done e).1.size in
          let most = seen.within in
          let before-notes = seen.notes_size in
          let before-ids = seen.ids_size in
          let below = seen.below in
          record {
            within = omega arith;
            room = told_room done seen.room e;
            below = omega arith;
            notes_size = same-notes ∙ before-notes;
            ids_size = same_ids ∙ before-ids;
            out_size = told_length done seen.room.within e ∙ seen.out_size;
            ends = λ ready ds is. rw (from_here ready ds is) (ends_join (seen.ends ready ds is) fits (told_here (put (element_here ready)) e).1);
          }

    pub list_put : i ≡ 0 → {after : List ℕ} {q : Option ℕ} → PutAs (frame_head 0x50 (3 + (end - start)) ++ frame_head 0x42 (end - start)) out after 0 start q
        → (ready : ListReady levels ranks schema table node s (length notes₀) (length ids₀)) → PutAs (list_cut ready) out₀ after 0 end q
    unfolding behind
    list_put e heads ready =
        let ds : Docs = (opened ready told says).docs in
        let is : ready.valued.d ≡ array ds = (opened ready told says).is in
        let ends = rw e at (seen.ends ready ds is) in
        rw (list_is ready ds is) (put_place 0x42 (places_bytes ready.names (cut_all (λ d. cut ready.element d) ds)) fits ends heads)
