-- A place's own rules, from the node's tag and the leftover's first byte.
use Rattle.std.specs.Prelude.{Option, None, Some}
use mathlib.Core.Bool.{Bool, true, false, not, ◌&&◌, ◌||◌}
use mathlib.Core.List.{List}
use mathlib.Core.Path.{◌≡◌, refl, sym, ap, ◌∙◌}
use Prim.Native.Nat.{ℕ, ◌+◌, ◌-◌, ◌%◌, ◌≤◌, ◌<◌}
use native.Mathlib.Omega.{arith}
use borrow.Author.Tests.{ne_eqb, le-leb, lt-leb, leb-true, not-true, not-false}
use lib.Dec.{leb, eqb}
use lib.ListN.{length}
use Rattle.clashes.specs.Shared.{SomeFields}
use Rattle.paper.specs.Limits.{most_leftover}
use Rattle.paper.specs.Meaning.{Doc}
use Rattle.paper.specs.Metadata.{Dictionary}
use Rattle.paper.specs.Rows.{leftover_meaning}
use Rattle.paper.specs.Rules.{is_fields_node, is_list_node, named_by, has_any}
use Rattle.paper.specs.Schemas.{Schema, leftover_only, column, list, fields, SchemaFields, column_names}
use Rattle.paper.specs.Values.{meaning_of}
use Rattle.paper.specs.Words.{at, given, is_there}
use Rattle.paths.specs.Places.{LawfulIn}
use Rattle.schemas.specs.Frames.{frame_end}
use Rattle.schemas.specs.Positions.{Stands, FieldsStand}
use Rattle.clashes.proofs.LeftKindLaws.{left_kind}
use Rattle.paper.proofs.WordLaws.{never, given_some, there_some, some_there}
use Rattle.paths.proofs.LawfulLaws.{lawful_some}
use Rattle.schemas.proofs.StandingLaws.{NodeAt, leftover_at, column_at, list_at, fields_at, node_at, object_stands}
use Rattle.places.specs.Leftovers.{left_broken, left_broken_at, beside_broken, with_left}
use Rattle.places.specs.Walking.{LeftReady, BesideReady}
use Rattle.places.specs.Verdicts.{broken_if}
use Rattle.places.specs.declared.verdicts.Verdict.TheVariants.{Lawful, Unparsed}
use Rattle.places.specs.declared.verdicts.Verdict.{Verdict}

-- ---- the kinds of node and leftover

node_kinds : {levels : ℕ} {s : List ℕ} {place : ℕ} {node : Schema} → NodeAt levels s place node
    → (is_fields_node node ≡ eqb (at s place) 0x30) × (is_list_node node ≡ eqb (at s place) 0x20)
unfolding is_fields_node is_list_node
node_kinds (leftover_at here) = rw here.tagged (refl, refl)
node_kinds (column_at here) = rw here.tagged (refl, refl)
node_kinds (list_at here) = rw here.tagged (refl, refl)
node_kinds (fields_at here) = rw here.tagged (refl, refl)

-- The meaning of a leftover is that of its bytes.
left_means : (levels : ℕ) (names : Dictionary) (left : List ℕ) {d : Doc} → leftover_meaning levels names left ≡ Some d → meaning_of levels names left ≡ Some d
unfolding leftover_meaning
left_means levels names left e = (given_some (leb (length left) most_leftover) (meaning_of levels names left) e).1

pub left_long : (levels : ℕ) (names : Dictionary) (left : List ℕ) → most_leftover < length left → leb (length left) most_leftover ≡ is_there (leftover_meaning levels names left)
unfolding leftover_meaning given is_there
left_long levels names left h = rw (lt-leb (length left) most_leftover h)

pub left_judged : (levels : ℕ) (names : Dictionary) (left : List ℕ) → length left ≤ most_leftover → (b : Bool) → b ≡ is_there (meaning_of levels names left)
    → b ≡ is_there (leftover_meaning levels names left)
unfolding leftover_meaning given
left_judged levels names left h b is = is ∙ rw (le-leb (length left) most_leftover h)

-- ---- rule d

module _ (tag first : ℕ) where
  pub fields_tag : tag ≡ 0x30 → eqb (first % 4) 2 ≡ left_broken_at tag first
  unfolding left_broken_at
  fields_tag e = rw e (go (eqb (first % 4) 2) (eqb (first % 4) 3))
    where
      go : (a b : Bool) → a ≡ (a && true) || (b && false)
      go true b = refl
      go false true = refl
      go false false = refl

  pub list_tag : tag ≡ 0x20 → eqb (first % 4) 3 ≡ left_broken_at tag first
  unfolding left_broken_at
  list_tag e = rw e (go (eqb (first % 4) 2) (eqb (first % 4) 3))
    where
      go : (a b : Bool) → b ≡ (a && false) || (b && true)
      go true true = refl
      go true false = refl
      go false true = refl
      go false false = refl

  pub no_tag : (tag ≡ 0x30 → ⊥) → (tag ≡ 0x20 → ⊥) → false ≡ left_broken_at tag first
  unfolding left_broken_at
  no_tag a b = rw (ne_eqb tag 0x30 a, ne_eqb tag 0x20 b) (go (eqb (first % 4) 2) (eqb (first % 4) 3))
    where
      go : (a b : Bool) → false ≡ (a && false) || (b && false)
      go true true = refl
      go true false = refl
      go false true = refl
      go false false = refl

module _ (levels : ℕ) (s : List ℕ) (place : ℕ) (names : Dictionary) (left : List ℕ) where
  left_broken_lem : (inner : ℕ) (d : Doc) → leftover_meaning inner names left ≡ Some d → (under : Schema) → Stands levels s place under
      → left_broken_at (at s place) (at left 0) ≡ left_broken under d
  unfolding left_broken_at left_broken
  left_broken_lem inner d means under stands =
      let kind = left_kind inner names left (left_means inner names left means) in
      let tag = node_kinds (node_at stands) in
      rw (kind.0, kind.1, tag.0, tag.1)

  pub alone_unread : (b : Bool) → b ≡ is_there (leftover_meaning levels names left) → not b ≡ true → (under : Schema) → Stands levels s place under
      → Unparsed ≡ with_left (leftover_meaning levels names left) λ d. broken_if (left_broken under d) Lawful
  unfolding with_left is_there
  alone_unread b is e under stands = go (leftover_meaning levels names left) (sym is ∙ not-true b e)
    where
      go : (x : Option Doc) → is_there x ≡ false → Unparsed ≡ with_left x λ d. broken_if (left_broken under d) Lawful
      go None f = refl
      go (Some d) f = never f

  pub beside_unread : (b : Bool) → b ≡ is_there (leftover_meaning levels names left) → not b ≡ true → (right : Verdict) (under : Schema) → Stands levels s place under
      → Unparsed ≡ with_left (leftover_meaning levels names left) λ d. broken_if (beside_broken under d) right
  unfolding with_left is_there
  beside_unread b is e right under stands = go (leftover_meaning levels names left) (sym is ∙ not-true b e)
    where
      go : (x : Option Doc) → is_there x ≡ false → Unparsed ≡ with_left x λ d. broken_if (beside_broken under d) right
      go None f = refl
      go (Some d) f = never f

  module _ (b : Bool) (is : b ≡ is_there (leftover_meaning levels names left)) (yes : not b ≡ false) where
    pub left_there : is_there (leftover_meaning levels names left) ≡ true
    left_there = sym is ∙ not-false b yes

    pub left_some : 0 < length left
    unfolding leftover_meaning
    left_some =
        let got = there_some (leftover_meaning levels names left) left_there in
        let told = given_some (leb (length left) most_leftover) (meaning_of levels names left) got.1 in
        let small = leb-true (length left) most_leftover told.0 in
        lawful_some (record { levels = levels; meant = some_there (meaning_of levels names left) told.1; small = omega arith })

    pub alone_judged : (broken : Bool) → broken ≡ left_broken_at (at s place) (at left 0) → (v : Verdict) → v ≡ broken_if broken Lawful → (under : Schema) → Stands levels s place under
        → v ≡ with_left (leftover_meaning levels names left) λ d. broken_if (left_broken under d) Lawful
    unfolding with_left is_there
    alone_judged broken told v told-v under stands = told-v ∙ go (leftover_meaning levels names left) refl left_there
      where
        go : (x : Option Doc) → leftover_meaning levels names left ≡ x → is_there x ≡ true → broken_if broken Lawful ≡ with_left x λ d. broken_if (left_broken under d) Lawful
        go None f g = never (sym g)
        go (Some d) f g = ap (λ (c : Bool). broken_if c Lawful) (told ∙ left_broken_lem levels d f under stands)

    pub beside_judged : (broken : Bool)
        → ((inner : ℕ) (d : Doc) → leftover_meaning inner names left ≡ Some d → (deep : ℕ) (under : Schema) → Stands deep s place under → broken ≡ beside_broken under d)
        → (right v : Verdict) → v ≡ broken_if broken right → (under : Schema) → Stands levels s place under
        → v ≡ with_left (leftover_meaning levels names left) λ d. broken_if (beside_broken under d) right
    unfolding with_left is_there
    beside_judged broken told right v told-v under stands = told-v ∙ go (leftover_meaning levels names left) refl left_there
      where
        go : (x : Option Doc) → leftover_meaning levels names left ≡ x → is_there x ≡ true → broken_if broken right ≡ with_left x λ d. broken_if (beside_broken under d) right
        go None f g = never (sym g)
        go (Some d) f g = ap (λ (c : Bool). broken_if c right) (told levels d f levels under stands)

-- ---- rules a, b and c

module _ {s : List ℕ} {place : ℕ} (names : Dictionary) (left : List ℕ) where
  pub other_node : (at s place ≡ 0x30 → ⊥) → (inner : ℕ) (d : Doc) → leftover_meaning inner names left ≡ Some d → (deep : ℕ) (under : Schema) → Stands deep s place under
      → true ≡ beside_broken under d
  unfolding beside_broken
  other_node other inner d means deep under stands = rw ((node_kinds (node_at stands)).0, ne_eqb (at s place) 0x30 other)

  module _ (tag : at s place ≡ 0x30) where
    pub other_left : (at left 0 % 4 ≡ 2 → ⊥) → (inner : ℕ) (d : Doc) → leftover_meaning inner names left ≡ Some d → (deep : ℕ) (under : Schema)
        → Stands deep s place under → true ≡ beside_broken under d
    unfolding beside_broken
    other_left other inner d means deep under stands =
        let kind = left_kind inner names left (left_means inner names left means) in
        rw ((node_kinds (node_at stands)).0, tag, kind.0, ne_eqb (at left 0 % 4) 2 other)

    pub clash_judged : at left 0 % 4 ≡ 2 → (to : ℕ) → to ≡ frame_end s place → (b : Bool)
        → ((inner : ℕ) (d : Doc) → meaning_of inner names left ≡ Some d → (deep : ℕ) (columns : SchemaFields) → FieldsStand deep s (place + 3) to columns → b ≡ has_any (column_names columns) d)
        → (inner : ℕ) (d : Doc) → leftover_meaning inner names left ≡ Some d → (deep : ℕ) (under : Schema) → Stands deep s place under → b ≡ beside_broken under d
    unfolding beside_broken
    clash_judged first to ends b told inner d means deep under stands =
        let kind = left_kind inner names left (left_means inner names left means) in
        rw ((node_kinds (node_at stands)).0, tag, kind.0, first) (go under stands (node_at stands))
      where
        go : (under : Schema) → Stands deep s place under → NodeAt deep s place under → b ≡ has_any (named_by under) d
        go leftover_only st (leftover_at here) = absurd (omega (arith, here.tagged))
        go (column said) st (column_at here) = absurd (omega (arith, here.tagged))
        go (list element) st (list_at here) = absurd (omega (arith, here.tagged))
        go (fields columns) st n = unfold named_by in told inner d (left_means inner names left means) (deep - 1) columns (rw ends (object_stands st).inside)

-- ---- what the calls ask

pub left_ready_lem : {levels : ℕ} {s : List ℕ} {place : ℕ} → LeftReady levels s place → place < length s
left_ready_lem ready = let inside = ready.stands.within in omega arith

pub beside_ready : {levels : ℕ} {s : List ℕ} {place : ℕ} → LeftReady levels s place
    → (names : Dictionary) (left : List ℕ) (b : Bool) → b ≡ is_there (leftover_meaning levels names left) → not b ≡ false → BesideReady names s place left
beside_ready {levels} ready names left b is known =
    record {
      levels = levels;
      node = ready.node;
      stands = ready.stands;
      meant = sym is ∙ not-false b known;
    }

module _ {names : Dictionary} {s : List ℕ} {place : ℕ} {left : List ℕ} (ready : BesideReady names s place left) where
  pub node_in : place < length s
  node_in = let inside = ready.stands.within in omega arith

  pub frame_in : frame_end s place ≤ length s
  frame_in = ready.stands.within

  lawful_left : LawfulIn names left
  unfolding leftover_meaning
  lawful_left =
      let got = there_some (leftover_meaning ready.levels names left) ready.meant in
      let told = given_some (leb (length left) most_leftover) (meaning_of ready.levels names left) got.1 in
      let small = leb-true (length left) most_leftover told.0 in
      record { levels = ready.levels; meant = some_there (meaning_of ready.levels names left) told.1; small = omega arith }

  pub left_in : 0 < length left
  left_in = lawful_some lawful_left

  pub clash_ready : at s place ≡ 0x30 → (from to : ℕ) → from ≡ place + 3 → to ≡ frame_end s place
      → LawfulIn names left × SomeFields s from to
  clash_ready tag from to begins ends = (lawful_left, go ready.node ready.stands (node_at ready.stands))
    where
      go : (under : Schema) → Stands ready.levels s place under → NodeAt ready.levels s place under → SomeFields s from to
      go leftover_only st (leftover_at here) = absurd (omega (arith, here.tagged))
      go (column said) st (column_at here) = absurd (omega (arith, here.tagged))
      go (list element) st (list_at here) = absurd (omega (arith, here.tagged))
      go (fields columns) st n = record { levels = ready.levels - 1; columns = columns; stand = rw (begins, ends) (object_stands st).inside }
