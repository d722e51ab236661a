-- What a lawful value is rewritten to is the normal form of what it means, if the table has the normal ids of its names.
use Rattle.std.specs.Prelude.{Option, None, Some}
use mathlib.Core.Bool.{Bool, true, false, ◌||◌}
use mathlib.Core.List.{List, [], ◌∷◌, ◌++◌, map}
use mathlib.Core.Path.{◌≡◌, refl, sym, ap, ◌∙◌, subst}
use Prim.Native.Nat.{ℕ, zero, suc, ◌≤◌}
use native.Mathlib.Omega.{arith}
use borrow.Author.Tests.{eq-eqb}
use lib.Dec.{eqb}
use lib.ListN.{length, get_or, drop, length-map, length-drop}
use Rattle.forms.proofs.LieLaws.{Bytes, bytes_drop, child_bytes_lem, child_length, elements_lie, members_lie}
use Rattle.marking.specs.Ids.{holds, ids_of_all, ids_inside, ids_by, ids_in}
use Rattle.names.proofs.SameLaws.{or_second}
use Rattle.paper.specs.Bounds.{most_walked}
use Rattle.paper.proofs.MeaningLaws.{string_is, prefixed_is}
use Rattle.paper.proofs.WordLaws.{never, given_some, then_some, some_there}
use Rattle.paper.specs.FirstBytes.{reading_of}
use Rattle.paper.specs.Meaning.{Doc, array, object, Docs, no_docs, doc, Fields, no_fields, field}
use Rattle.paper.specs.Metadata.{Dictionary}
use Rattle.paper.specs.Normal.{id_of, field_names, value_bytes, element_bytes, member_bytes}
use Rattle.numbers.specs.Little.{number_at}
use Rattle.paper.specs.Values.{head_size_of, child_extent, children_at, child_bytes, area_of, starts_of, ids_of, names_at, elements_of, members_of, element_docs, member_docs, meaning_by, meaning_of, whole}
use Rattle.paper.specs.declared.Child.{Child}
use Rattle.paper.specs.Words.{at, is_there}
use Rattle.paper.specs.declared.Reading.TheVariants.{Fixed, Prefixed, Short, ObjectHead, ArrayHead, Nothing}
use Rattle.paper.specs.declared.Reading.{Reading}
use Rattle.containers.proofs.ChildLaws.{extent_fits}
use Rattle.containers.proofs.LayoutLaws.{ids_starts_length}
use Rattle.values.proofs.ValueLaws.{object_container, object_id}
use Rattle.writing.specs.Rewritten.{ranks_at, sized_part, part_at, parts_of, rewritten_by, rewritten}
use Rattle.writing.specs.Ends.{EndsAt}
use Rattle.writing.specs.Written.{Right, Ready, Wrote, Writable}
use Rattle.writing.proofs.AsItStandsLaws.{fixed_stands, prefixed_stands, short_stands}
use Rattle.std.proofs.lemmas.Option.{same_Some}

-- ---- ids of a part, and of the whole

pub or_first : (a b : Bool) → a ≡ true → a || b ≡ true
or_first true b e = refl
or_first false b e = never (sym e)

holds_front : (id : ℕ) (ns ms : List ℕ) → holds id ns ≡ true → holds id (ns ++ ms) ≡ true
unfolding holds
holds_front id [] ms e = never (sym e)
holds_front id (n ∷ ns) ms e = go (eqb n id) e (holds_front id ns ms)
  where
    go : (b : Bool) → b || holds id ns ≡ true → (holds id ns ≡ true → holds id (ns ++ ms) ≡ true) → b || holds id (ns ++ ms) ≡ true
    go true f rest = refl
    go false f rest = rest f

holds_behind : (id : ℕ) (ns ms : List ℕ) → holds id ms ≡ true → holds id (ns ++ ms) ≡ true
unfolding holds
holds_behind id [] ms e = e
holds_behind id (n ∷ ns) ms e = or_second (eqb n id) (holds id (ns ++ ms)) (holds_behind id ns ms e)

module _ (names normal : Dictionary) (ranks : List ℕ) where
  right_front : (ns ms : List ℕ) → Right names normal ranks (ns ++ ms) → Right names normal ranks ns
  right_front ns ms right id e = right id (holds_front id ns ms e)

  right_behind : (ns ms : List ℕ) → Right names normal ranks (ns ++ ms) → Right names normal ranks ms
  right_behind ns ms right id e = right id (holds_behind id ns ms e)

  -- The table gives each name's normal id.
  ranks_right : (ids : List ℕ) → Right names normal ranks ids → ranks_at ranks ids ≡ map (id_of normal) (names_at names ids)
  unfolding ranks_at names_at holds
  ranks_right [] right = refl
  ranks_right (id ∷ ids) right =
      let here : get_or ranks id 0 ≡ id_of normal (get_or names id []) = right id (or_first (eqb id id) (holds id ids) (eq-eqb id id refl)) in
      let others = ranks_right ids (λ n e. right n (or_second (eqb id n) (holds n ids) e)) in
      rw (here, others)

-- ---- the insides of containers

module _ (names normal : Dictionary) (ranks : List ℕ) (decode : List ℕ → Option Doc) (ids_within write : List ℕ → List ℕ)
    (each : (s : List ℕ) (d : Doc) → decode s ≡ Some d → Bytes s → length s ≤ most_walked → Right names normal ranks (ids_within s)
    → write s ≡ value_bytes normal d)
    (area : List ℕ) (bytes : Bytes area) (small : length area ≤ most_walked) where
  part_written : (start size : ℕ) (d : Doc) → child_extent area start ≡ Some size
      → decode (child_bytes area (record { start = start; size = size })) ≡ Some d
      → Right names normal ranks (ids_within (child_bytes area (record { start = start; size = size }))) → part_at write area start ≡ value_bytes normal d
  unfolding part_at sized_part
  part_written start size d long meant right =
      let child : Child = record { start = start; size = size } in
      let size_is = child_length area child long in
      let fits = (extent_fits area start size long).1 in
      rw long (each (child_bytes area child) d meant (child_bytes_lem area child bytes) (omega arith) right)

  elements_written : (starts : List ℕ) (kids : List Child) (ds : Docs) → children_at area starts ≡ Some kids → element_docs decode area kids ≡ Some ds
      → Right names normal ranks (ids_of_all ids_within area kids) → map (part_at write area) starts ≡ element_bytes normal ds
  unfolding children_at element_docs element_bytes ids_of_all
  elements_written [] kids ds are meant right =
      let empty : [] ≡ kids = same_Some [] kids are in
      let none-meant : Some no_docs ≡ Some ds = ap (element_docs decode area) empty ∙ meant in
      ap (element_bytes normal) (same_Some no_docs ds none-meant)
  elements_written (start ∷ more) kids ds are meant right =
      let first = then_some (child_extent area start) _ are in
      let rest = then_some (children_at area more) _ first.2 in
      let child : Child = record { start = start; size = first.0 } in
      let is : child ∷ rest.0 ≡ kids = same_Some (child ∷ rest.0) kids rest.2 in
      let own = then_some (decode (child_bytes area child)) _ (ap (element_docs decode area) is ∙ meant) in
      let others = then_some (element_docs decode area rest.0) _ own.2 in
      let all : doc own.0 others.0 ≡ ds = same_Some (doc own.0 others.0) ds others.2 in
      let right-all : Right names normal ranks (ids_within (child_bytes area child) ++ ids_of_all ids_within area rest.0) =
      subst (λ (l : List Child). Right names normal ranks (ids_of_all ids_within area l)) (sym is) right in
      let here = part_written start first.0 own.0 first.1 own.1 (right_front names normal ranks _ _ right-all) in
      let behind = elements_written more rest.0 others.0 rest.1 others.1
      (right_behind names normal ranks (ids_within (child_bytes area child)) _ right-all) in
      rw (here, behind) (ap (element_bytes normal) {x = doc own.0 others.0} all)

  pub members_written : (starts : List ℕ) (kids : List Child) (ns : List (List ℕ)) (fs : Fields) → length ns ≡ length starts
      → children_at area starts ≡ Some kids → member_docs decode area ns kids ≡ Some fs → Right names normal ranks (ids_of_all ids_within area kids)
      → (map (part_at write area) starts ≡ member_bytes normal fs) × (field_names fs ≡ ns)
  unfolding children_at member_docs member_bytes field_names ids_of_all
  members_written [] kids [] fs same are meant right =
      let is : no_fields ≡ fs = same_Some no_fields fs meant in
      (ap (member_bytes normal) is, ap field_names (sym is))
  members_written [] kids (name ∷ ns) fs same are meant right = absurd (omega arith)
  members_written (start ∷ more) kids [] fs same are meant right = absurd (omega arith)
  members_written (start ∷ more) kids (name ∷ ns) fs same are meant right =
      let first = then_some (child_extent area start) _ are in
      let rest = then_some (children_at area more) _ first.2 in
      let child : Child = record { start = start; size = first.0 } in
      let is : child ∷ rest.0 ≡ kids = same_Some (child ∷ rest.0) kids rest.2 in
      let own = then_some (decode (child_bytes area child)) _ (ap (member_docs decode area (name ∷ ns)) is ∙ meant) in
      let others = then_some (member_docs decode area ns rest.0) _ own.2 in
      let all : field name own.0 others.0 ≡ fs = same_Some (field name own.0 others.0) fs others.2 in
      let right-all : Right names normal ranks (ids_within (child_bytes area child) ++ ids_of_all ids_within area rest.0) =
      subst (λ (l : List Child). Right names normal ranks (ids_of_all ids_within area l)) (sym is) right in
      let here = part_written start first.0 own.0 first.1 own.1 (right_front names normal ranks _ _ right-all) in
      let behind = members_written more rest.0 ns others.0 (omega arith) rest.1 others.1
      (right_behind names normal ranks (ids_within (child_bytes area child)) _ right-all) in
      (rw (here, behind.0) (ap (member_bytes normal) {x = field name own.0 others.0} all), ap field_names (sym all) ∙ ap (λ (l : List (List ℕ)). name ∷ l) behind.1)

pub names_length : (names : Dictionary) (ids : List ℕ) → length (names_at names ids) ≡ length ids
unfolding names_at
names_length names ids = length-map ids (λ (id : ℕ). get_or names id [])

-- ---- any value, by its reading

module _ (names normal : Dictionary) (ranks : List ℕ) (decode : List ℕ → Option Doc) (ids_within write : List ℕ → List ℕ)
    (each : (s : List ℕ) (d : Doc) → decode s ≡ Some d → Bytes s → length s ≤ most_walked → Right names normal ranks (ids_within s)
    → write s ≡ value_bytes normal d)
    (s : List ℕ) (bytes : Bytes s) (small : length s ≤ most_walked) (fills : whole s ≡ true) where
  area_bytes : (c i w : ℕ) → Bytes (area_of c i w s)
  unfolding area_of
  area_bytes c i w = bytes_drop (head_size_of (number_at s 1 c) c i w) s bytes

  area_small : (c i w : ℕ) → length (area_of c i w s) ≤ most_walked
  unfolding area_of
  area_small c i w = rw length-drop (omega arith)

  -- The children found are those of the ids.
  inside_right : (area starts : List ℕ) (kids : List Child) → children_at area starts ≡ Some kids
      → Right names normal ranks (ids_inside ids_within area (children_at area starts)) → Right names normal ranks (ids_of_all ids_within area kids)
  unfolding ids_inside
  inside_right area starts kids are right = subst (λ (x : Option (List Child)). Right names normal ranks (ids_inside ids_within area x)) are right

  written_by : (r : Reading) → reading_of (at s 0) ≡ r → (d : Doc) → meaning_by decode names r s ≡ Some d → Right names normal ranks (ids_by ids_within r s)
      → rewritten_by write ranks r s ≡ value_bytes normal d
  unfolding meaning_by ids_by rewritten_by parts_of value_bytes is_there
  written_by (Fixed type size) is d e right = fixed_stands s fills normal type size d is e
  written_by (Prefixed type) is d e right =
      prefixed_stands s fills bytes type is normal ∙ ap (value_bytes normal) (sym (prefixed_is (eqb type 16) type (drop 5 s) e))
  written_by (Short size) is d e right =
      short_stands s fills normal size bytes is ∙ ap (value_bytes normal) (sym (string_is (drop 1 s) e))
  written_by (ObjectHead c i w) is d e right =
      let lie = then_some (members_of names c i w s) _ e in
      let inside = then_some (member_docs decode (area_of c i w s) (names_at names (ids_of c i s)) lie.0) _ lie.2 in
      let lies = members_lie names s c i w lie.0 lie.1 in
      let container = object_container s fills (ObjectHead c i w) (sym is) c i w refl small in
      let least = object_id s fills (ObjectHead c i w) (sym is) c i w refl in
      let many : length (names_at names (ids_of c i s)) ≡ length (starts_of c i w s) =
      names_length names (ids_of c i s) ∙ ids_starts_length s c i w container least in
      let both = members_written names normal ranks decode ids_within write each (area_of c i w s) (area_bytes c i w) (area_small c i w) (starts_of c i w s)
      lie.0 (names_at names (ids_of c i s)) inside.0 many lies.are inside.1
      (inside_right (area_of c i w s) (starts_of c i w s) lie.0 lies.are (right_behind names normal ranks (ids_of c i s) _ right)) in
      let ids : ranks_at ranks (ids_of c i s) ≡ map (id_of normal) (field_names inside.0) =
      ranks_right names normal ranks (ids_of c i s) (right_front names normal ranks (ids_of c i s) _ right)
      ∙ ap (map (id_of normal)) (sym both.1) in
      rw (ids, both.0) (ap (value_bytes normal) (same_Some (object inside.0) d inside.2))
  written_by (ArrayHead c w) is d e right =
      let lie = then_some (elements_of c w s) _ e in
      let inside = then_some (element_docs decode (area_of c 0 w s) lie.0) _ lie.2 in
      let lies = elements_lie s c w lie.0 lie.1 in
      let parts = elements_written names normal ranks decode ids_within write each (area_of c 0 w s) (area_bytes c 0 w) (area_small c 0 w) (starts_of c 0 w s)
      lie.0 inside.0 lies.are inside.1 (inside_right (area_of c 0 w s) (starts_of c 0 w s) lie.0 lies.are right) in
      rw parts (ap (value_bytes normal) (same_Some (array inside.0) d inside.2))
  written_by Nothing is d e right = never (sym (some_there None e))

pub rewritten_is : (levels : ℕ) (names normal : Dictionary) (ranks s : List ℕ) (d : Doc) → meaning_of levels names s ≡ Some d → Bytes s → length s ≤ most_walked
    → Right names normal ranks (ids_in levels s) → rewritten levels ranks s ≡ value_bytes normal d
unfolding meaning_of is_there ids_in rewritten
rewritten_is zero names normal ranks s d e bytes small right = never (sym (some_there None e))
rewritten_is (suc levels) names normal ranks s d e bytes small right =
    let told = given_some (whole s) _ e in
    written_by names normal ranks (meaning_of levels names) (ids_in levels) (rewritten levels ranks)
    (λ t c m b l r. rewritten_is levels names normal ranks t c m b l r) s bytes small told.0 (reading_of (at s 0)) refl d told.1 right

-- ---- what the writer needs, and what it has written

module _ {levels : ℕ} {s ranks : List ℕ} {room end : ℕ} (ready : Ready levels s ranks room end) where
  pub ready_writable : Writable levels s ranks room end
  ready_writable =
      let same : rewritten levels ranks s ≡ value_bytes ready.normal ready.d =
      rewritten_is levels ready.names ready.normal ranks s ready.d ready.meant ready.bytes ready.small ready.right in
      record {
        names = ready.names;
        meant = some_there (meaning_of levels ready.names s) ready.meant;
        small = ready.small;
        ranked = ready.ranked;
        fits = rw same ready.fits;
        within = ready.within;
        most = ready.most;
      }

  pub ready_wrote : {before after : List ℕ} {start : ℕ} → EndsAt (rewritten levels ranks s) before after end start → (names normal : Dictionary) (d : Doc)
      → meaning_of levels names s ≡ Some d → Right names normal ranks (ids_in levels s) → Wrote normal d before after end start
  ready_wrote ended names normal d meant right =
      rw (rewritten_is levels names normal ranks s d meant ready.bytes ready.small right) at ended
