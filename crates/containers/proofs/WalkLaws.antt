-- The walk over an area by the children's lengths: it covers what it has passed, it stands where a child ends, and where
-- no child starts under it some byte is not held once.
use Rattle.std.specs.Prelude.{None, Some, Option}
use mathlib.Core.Bool.{Bool, true, false, not}
use mathlib.Core.List.{List, [], ◌∷◌, map}
use mathlib.Core.Path.{◌≡◌, refl, sym, ap, ◌∙◌}
use Prim.Native.Nat.{ℕ, zero, suc, ◌+◌, ◌-◌, ◌*◌, ◌≤◌, ◌<◌}
use native.Mathlib.Omega.{arith}
use borrow.Author.Tests.{eq-eqb, le-leb, eqb-true, eqb-false, ltb-true, lt-ltb}
use lib.Dec.{leb, ltb, eqb}
use lib.ListN.{length, drop}
use mir.Syntax.{w64}
use mir.Val.{Fits}
use Rattle.paper.specs.Bounds.{most_walked}
use Rattle.paper.specs.Values.{child_extent, children_at, holders, every_byte_once}
use Rattle.paper.specs.declared.Child.{Child}
use Rattle.paper.specs.Words.{one_if, is_there, all_below}
use Rattle.containers.specs.Children.{sizes}
use Rattle.containers.specs.Marks.{bit_of, Marked}
use Rattle.heads.proofs.HeadLaws.{extent_positive}
use Rattle.paper.proofs.WordLaws.{never, and_both, some_there as some-is-there}
use Rattle.containers.proofs.BitLaws.{bit_or_none}
use Rattle.containers.proofs.ChildLaws.{AllSized, SizedIn, children_sized, children_below, extent_fits}
use Rattle.containers.proofs.CoverLaws.{Test, passed, failed, equal, less, inside, holding, Holds, held, before_it, behind_it, AllWithin, starting, ending, total_sizes, once_by_sum, cut_without_start, holders_cons}
use Rattle.containers.proofs.MarkLaws.{times, starting_times, map_says}
use Rattle.std.proofs.lemmas.Option.{same_Some}

-- ---- a child that starts under the walk

module _ (area : List ℕ) (place size : ℕ) (long : child_extent area place ≡ Some size) where
  same_size : (child : Child) → child_extent area child.start ≡ Some child.size → child.start ≡ place → child.size ≡ size
  same_size child e f = same_Some child.size size (sym e ∙ ap (child_extent area) f ∙ long)

  pub start_ends : (children : List Child) → AllSized area children → 1 ≤ starting place children → 1 ≤ ending (place + size) children
  unfolding AllSized starting ending one_if
  start_ends [] sized h = absurd (omega arith)
  start_ends (child ∷ more) sized h = go (equal child.start place) (start_ends more sized.1) h
    where
      go : Test (eqb child.start place) (child.start ≡ place) (child.start ≡ place → ⊥) → (1 ≤ starting place more → 1 ≤ ending (place + size) more)
          → 1 ≤ one_if (eqb child.start place) + starting place more → 1 ≤ one_if (eqb (child.start + child.size) (place + size)) + ending (place + size) more
      go (passed t e) rest h =
          let own : child.size ≡ size = same_size child sized.0 e in
          rw (eq-eqb (child.start + child.size) (place + size) (omega arith)) (omega arith)
      go (failed t e) rest h =
          let later : 1 ≤ one_if false + starting place more = rw t at h in
          let more-ends : 1 ≤ ending (place + size) more = rest (omega arith) in
          omega arith

  pub start_held : (children : List Child) → AllSized area children → 1 ≤ starting place children
      → (i : ℕ) → place ≤ i → i < place + size → 1 ≤ holders i children
  unfolding AllSized starting one_if
  start_held [] sized h i a b = absurd (omega arith)
  start_held (child ∷ more) sized h i a b = go (equal child.start place) (λ k. start_held more sized.1 k i a b) (holding i child) h
    where
      cons : holders i (child ∷ more) ≡ inside i child + holders i more
      cons = holders_cons i child more

      go : Test (eqb child.start place) (child.start ≡ place) (child.start ≡ place → ⊥) → (1 ≤ starting place more → 1 ≤ holders i more) → Holds i child
          → 1 ≤ one_if (eqb child.start place) + starting place more → 1 ≤ holders i (child ∷ more)
      go (passed t e) rest (held p q f) h = omega (arith, cons)
      go (passed t e) rest (before_it p f) h = absurd (omega arith)
      go (passed t e) rest (behind_it p f) h =
          let own : child.size ≡ size = same_size child sized.0 e in
          absurd (omega arith)
      go (failed t e) rest hold h =
          let later : 1 ≤ one_if false + starting place more = rw t at h in
          let more-hold : 1 ≤ holders i more = rest (omega arith) in
          omega (arith, cons)

-- A child that starts at a place has a length there.
pub start_extent : (area : List ℕ) (place : ℕ) (children : List Child) → AllSized area children → 1 ≤ starting place children
    → (size : ℕ) × (child_extent area place ≡ Some size)
unfolding AllSized starting one_if
start_extent area place [] sized h = absurd (omega arith)
start_extent area place (child ∷ more) sized h = go (equal child.start place) (start_extent area place more sized.1) h
  where
    go : Test (eqb child.start place) (child.start ≡ place) (child.start ≡ place → ⊥) → (1 ≤ starting place more → (size : ℕ) × (child_extent area place ≡ Some size))
        → 1 ≤ one_if (eqb child.start place) + starting place more → (size : ℕ) × (child_extent area place ≡ Some size)
    go (passed t e) rest h = (child.size, ap (child_extent area) (sym e) ∙ sized.0)
    go (failed t e) rest h =
        let later : 1 ≤ one_if false + starting place more = rw t at h in
        rest (omega arith)

-- ---- the walk

none_there : (n : ℕ) → one_if (leb 1 n) ≡ 0 → n ≡ 0
unfolding one_if
none_there zero e = refl
none_there (suc n) e = absurd (let z : one_if true ≡ 0 = rw (le-leb 1 (suc n) (omega arith)) at e in omega arith)

some_there : (n : ℕ) → (one_if (leb 1 n) ≡ 0 → ⊥) → 1 ≤ n
unfolding one_if
some_there zero e = absurd (e refl)
some_there (suc n) e = omega arith

-- A map of the starts of children that all have their lengths, and whose sizes come to the area's length.
pub record Scattered (area : List ℕ) (children : List Child) (marks : List ℕ) : Type 0 where
  pub sized : AllSized area children
  pub within : AllWithin (length area) children
  pub sum : sizes children ≡ length area
  pub starts : (i : ℕ) → i < length area → bit_of marks i ≡ one_if (leb 1 (starting i children))

-- What the walk has passed is held, and it stands at the start or where a child ends.
pub record Walked (children : List Child) (place : ℕ) : Type 0 where
  pub passed_held : (i : ℕ) → i < place → 1 ≤ holders i children
  pub at_end : (place ≡ 0 → ⊥) → 1 ≤ ending place children

module _ (area : List ℕ) (children : List Child) (marks : List ℕ) (scattered : Scattered area children marks) (place : ℕ) (walked : Walked children place) where
  -- no mark: no child starts here
  pub walk_unmarked : place < length area → bit_of marks place ≡ 0 → false ≡ every_byte_once (length area) children
  walk_unmarked h e =
      sym (cut_without_start (length area) place children scattered.within h walked.at_end
      (none_there (starting place children) (sym (scattered.starts place h) ∙ e)))

  -- a mark: a child starts here, has its length, and the walk goes on to its end
  module _ (h : place < length area) (mark : bit_of marks place ≡ 0 → ⊥) where
    here : 1 ≤ starting place children
    here = some_there (starting place children) (λ e. mark (scattered.starts place h ∙ e))

    pub walk_lost : child_extent area place ≡ None → false ≡ every_byte_once (length area) children
    unfolding is_there
    walk_lost e =
        let has = start_extent area place children scattered.sized here in
        never (sym (ap is_there (sym e ∙ has.1)))

    pub walk_on : (size : ℕ) → child_extent area place ≡ Some size → Walked children (place + size)
    walk_on size e =
        record {
          passed_held = λ i k. go i k (less i place);
          at_end = λ z. start_ends area place size e children scattered.sized here;
        }
      where
        go : (i : ℕ) → i < place + size → Test (ltb i place) (i < place) (place ≤ i) → 1 ≤ holders i children
        go i k (passed t before) = walked.passed_held i before
        go i k (failed t behind) = start_held area place size e children scattered.sized here i behind k

  -- at the end of the area
  pub walk_ended : length area ≤ place → place ≤ length area → true ≡ every_byte_once (length area) children
  walk_ended a b =
      sym (once_by_sum (length area) children (λ i h. walked.passed_held i (omega arith))
      (total_sizes (length area) children scattered.within ∙ scattered.sum))

-- The walk starts at 0, with nothing passed.
pub walk_start : (children : List Child) → Walked children 0
walk_start children = record { passed_held = λ i h. absurd (omega arith); at_end = λ z. absurd (z refl) }

-- ---- from a marked map to the walk

pub below_more : (a b : ℕ) (ns : List ℕ) → a ≤ b → all_below a ns ≡ true → all_below b ns ≡ true
unfolding all_below
below_more a b [] h e = refl
below_more a b (n ∷ ns) h e =
    let both = and_both (ltb n a) (all_below a ns) e in
    let less = ltb-true n a both.0 in
    rw (lt-ltb n b (omega arith)) (below_more a b ns h both.1)

pub all_within : (area : List ℕ) (children : List Child) → AllSized area children → AllWithin (length area) children
unfolding AllSized AllWithin
all_within area [] sized = tt
all_within area (child ∷ more) sized =
    let fit = extent_fits area child.start child.size sized.0 in
    ((extent_positive (drop child.start area) fit.0, fit.1), all_within area more sized.1)

module _ (area starts : List ℕ) (children : List Child) (marks : List ℕ) (map_of : Marked area starts children marks) where
  facts : AllSized area children × (map (λ (c : Child). c.start) children ≡ starts)
  unfolding SizedIn
  facts = rw map_of.are at (children_sized area starts)

  on : all_below (8 * map_of.size) starts ≡ true
  on =
      below_more (length area) (8 * map_of.size) starts map_of.room
      (children_below area starts (some-is-there (children_at area starts) map_of.are))

  pub marked_scattered : Scattered area children marks
  marked_scattered =
      record {
        sized = facts.0;
        within = all_within area children facts.0;
        sum = map_of.sum;
        starts = λ i h.
            ap (λ (l : List ℕ). bit_of l i) map_of.map ∙ map_says map_of.size starts i on (let room = map_of.room in omega arith)
            ∙ ap (λ (n : ℕ). one_if (leb 1 n)) (ap (times i) (sym facts.1) ∙ sym (starting_times i children));
      }

-- ---- the loop that walks: whatever children the map is of, it has walked over them

pub record WalkSeen (area marks : List ℕ) (place : ℕ) : Type 0 where
  pub within : place ≤ length area
  pub walked : (starts : List ℕ) (children : List Child) → Marked area starts children marks → Walked children place

pub seen_start : (area marks : List ℕ) → WalkSeen area marks 0
seen_start area marks = record { within = omega arith; walked = λ starts children m. walk_start children }

module _ {area marks : List ℕ} {place : ℕ} (seen : WalkSeen area marks place) where
  -- what the walk answers of whatever children the map is of
  abbrev pub Answers : Bool → Type 0
  Answers r = (starts : List ℕ) (children : List Child) → Marked area starts children marks → r ≡ every_byte_once (length area) children

  pub seen_ended : length area ≤ place → Answers true
  seen_ended past starts children m =
      walk_ended area children marks (marked_scattered area starts children marks m) place (seen.walked starts children m) past seen.within

  module _ (h : place < length area) where
    -- b is what the map says of the place
    module _ (b : Bool) (says : b ≡ eqb (bit_of marks place) 1) where
      pub seen_unmarked : not b ≡ true → Answers false
      seen_unmarked f starts children m =
          walk_unmarked area children marks (marked_scattered area starts children marks m) place (seen.walked starts children m) h
          (go b says f (bit_or_none marks place))
        where
          go : (b : Bool) → b ≡ eqb (bit_of marks place) 1 → not b ≡ true → bit_of marks place ≤ 1 → bit_of marks place ≡ 0
          go true e f most = never (sym f)
          go false e f most = let apart = eqb-false (bit_of marks place) 1 (sym e) in omega arith

      module _ (f : not b ≡ false) (r : Option ℕ) (told : r ≡ child_extent area place) where
        mark : bit_of marks place ≡ 0 → ⊥
        mark z = go b says f
          where
            go : (b : Bool) → b ≡ eqb (bit_of marks place) 1 → not b ≡ false → ⊥
            go true e f = let one = eqb-true (bit_of marks place) 1 (sym e) in omega arith
            go false e f = never f

        pub seen_lost : r ≡ None → Answers false
        seen_lost e starts children m =
            walk_lost area children marks (marked_scattered area starts children marks m) place (seen.walked starts children m) h mark
            (sym told ∙ e)

        module _ (size : ℕ) (e : r ≡ Some size) where
          known : child_extent area place ≡ Some size
          known = sym told ∙ e

          pub seen_fits : length area ≤ most_walked → Fits w64 (place + size)
          seen_fits small = let fit = extent_fits area place size known in record { fits = omega arith }

          pub seen_falls : length area - (place + size) < length area - place
          seen_falls =
              let fit = extent_fits area place size known in
              let least = extent_positive (drop place area) fit.0 in
              omega arith

          pub seen_next : WalkSeen area marks (place + size)
          seen_next =
              record {
                within = (extent_fits area place size known).1;
                walked = λ starts children m.
                    walk_on area children marks (marked_scattered area starts children marks m) place (seen.walked starts children m) h mark size known;
              }
