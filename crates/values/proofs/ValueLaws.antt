-- What a value comes to, by the reading of its first byte.
use Rattle.std.specs.Prelude.{Option, None, Some}
use mathlib.Core.Bool.{Bool, true, false, not, ◌&&◌}
use mathlib.Core.List.{List}
use mathlib.Core.Path.{◌≡◌, refl, sym, ap, ◌∙◌}
use Prim.Native.Nat.{ℕ, zero, suc, ◌-◌, ◌≤◌, ◌<◌}
use native.Mathlib.Omega.{arith}
use lib.Dec.{eqb}
use lib.ListN.{length, drop}
use Rattle.paper.specs.Bounds.{most_walked}
use Rattle.paper.proofs.MeaningLaws.{string_there, prefixed_there}
use Rattle.paper.specs.FirstBytes.{reading_of}
use Rattle.paper.specs.Meaning.{Doc}
use Rattle.paper.specs.Metadata.{Dictionary, rising}
use Rattle.paper.specs.Values.{children_at, primitive_meaning, meaning_by, meaning_of, area_of, starts_of, ids_of, names_at, whole, extent_by}
use Rattle.paper.specs.declared.Child.{Child}
use Rattle.paper.specs.Words.{at, is_there, all_below}
use Rattle.paper.specs.declared.Reading.TheVariants.{Fixed, Prefixed, Short, ObjectHead, ArrayHead, Nothing}
use Rattle.paper.specs.declared.Reading.{Reading}
use Rattle.containers.specs.Children.{once_in, tiled_in}
use Rattle.containers.specs.Layouts.{HeadThere}
use Rattle.values.specs.Insides.{insides_good}
use Rattle.heads.proofs.HeadLaws.{extent_some}
use Rattle.heads.proofs.ReadingLaws.{object_sizes, array_sizes}
use Rattle.paper.proofs.WordLaws.{never, given_passed, and_both}
use Rattle.containers.proofs.LayoutLaws.{ids_starts_length}
use Rattle.values.proofs.PrimitiveLaws.{whole_extent}
use Rattle.values.proofs.VerdictLaws.{array_verdict, object_verdict}

pub false_first : (b q : Bool) → not b ≡ true → b && q ≡ false
false_first true q f = never (sym f)
false_first false q f = refl

pub true_first : (b q : Bool) → not b ≡ false → b && q ≡ q
true_first true q f = refl
true_first false q f = never f

kept : (b : Bool) → not b ≡ false → b ≡ true
kept true f = refl
kept false f = never f

-- Children that lie as they must are there.
tiled_there : (end : ℕ) (K : Option (List Child)) → tiled_in end K ≡ true → is_there K ≡ true
unfolding tiled_in is_there
tiled_there end None e = e
tiled_there end (Some children) e = refl

once_there : (end : ℕ) (K : Option (List Child)) → once_in end K ≡ true → is_there K ≡ true
unfolding once_in is_there
once_there end None e = e
once_there end (Some children) e = refl

regroup : (x y z : Bool) → x && (y && z) ≡ (x && y) && z
regroup true y z = refl
regroup false y z = refl

pub value_none : (levels : ℕ) (names : Dictionary) (s : List ℕ) → levels ≡ 0 → false ≡ is_there (meaning_of levels names s)
unfolding meaning_of is_there
value_none levels names s e = rw e

pub whole_some : (s : List ℕ) → whole s ≡ true → 0 < length s
whole_some s e = (extent_some s (whole_extent s e)).0

-- ---- what the judging of each kind asks

module _ (s : List ℕ) (fills : whole s ≡ true) (r : Reading) (told : r ≡ reading_of (at s 0)) where
  pub fixed_asks : (code size : ℕ) → r ≡ Fixed code size → (whole s ≡ true) × (reading_of (at s 0) ≡ Fixed code size)
  fixed_asks code size e = (fills, sym told ∙ e)

  pub array_container : (c w : ℕ) → r ≡ ArrayHead c w → length s ≤ most_walked → HeadThere s c 0 w
  unfolding extent_by
  array_container c w e small =
      let sizes = array_sizes (at s 0) (sym told ∙ e) in
      record {
        fills = rw (sym told ∙ e) at (extent_some s (whole_extent s fills)).1;
        count_least = sizes.0.0;
        count_most = sizes.0.1;
        id_most = omega arith;
        least = sizes.1.0;
        most = sizes.1.1;
        small = small;
      }

  pub object_container : (c i w : ℕ) → r ≡ ObjectHead c i w → length s ≤ most_walked → HeadThere s c i w
  unfolding extent_by
  object_container c i w e small =
      let sizes = object_sizes (at s 0) (sym told ∙ e) in
      record {
        fills = rw (sym told ∙ e) at (extent_some s (whole_extent s fills)).1;
        count_least = sizes.0.0;
        count_most = sizes.0.1;
        id_most = sizes.1.1;
        least = sizes.2.0;
        most = sizes.2.1;
        small = small;
      }

  pub object_id : (c i w : ℕ) → r ≡ ObjectHead c i w → 1 ≤ i
  object_id c i w e = (object_sizes (at s 0) (sym told ∙ e)).1.0

-- b is what was said of how the children lie: they are there
pub array_there : (s : List ℕ) (c w : ℕ) (b : Bool) → b ≡ tiled_in (length (area_of c 0 w s)) (children_at (area_of c 0 w s) (starts_of c 0 w s))
    → not b ≡ false → is_there (children_at (area_of c 0 w s) (starts_of c 0 w s)) ≡ true
array_there s c w b lies f = tiled_there (length (area_of c 0 w s)) (children_at (area_of c 0 w s) (starts_of c 0 w s)) (sym lies ∙ kept b f)

pub object_there : (names : Dictionary) (s : List ℕ) (c i w : ℕ) (b : Bool)
    → b ≡ (all_below (length names) (ids_of c i s) && rising (names_at names (ids_of c i s)))
    && once_in (length (area_of c i w s)) (children_at (area_of c i w s) (starts_of c i w s))
    → not b ≡ false → is_there (children_at (area_of c i w s) (starts_of c i w s)) ≡ true
object_there names s c i w b lies f =
    once_there (length (area_of c i w s)) (children_at (area_of c i w s) (starts_of c i w s))
    (and_both (all_below (length names) (ids_of c i s) && rising (names_at names (ids_of c i s)))
    (once_in (length (area_of c i w s)) (children_at (area_of c i w s) (starts_of c i w s))) (sym lies ∙ kept b f)).1

-- ---- what a value comes to

module _ (levels : ℕ) (names : Dictionary) (s : List ℕ) (some_left : levels ≡ 0 → ⊥) (fills : whole s ≡ true) where
  step : meaning_of levels names s ≡ meaning_by (meaning_of (levels - 1) names) names (reading_of (at s 0)) s
  step = go levels refl some_left
    where
      go : (n : ℕ) → levels ≡ n → (n ≡ 0 → ⊥) → meaning_of n names s ≡ meaning_by (meaning_of (levels - 1) names) names (reading_of (at s 0)) s
      go zero e h = absurd (h refl)
      go (suc n) e h =
          let less : levels - 1 ≡ n = omega arith in
          rw less (unfold meaning_of in given_passed (whole s) (meaning_by (meaning_of n names) names (reading_of (at s 0)) s) fills)

  module _ (r : Reading) (told : r ≡ reading_of (at s 0)) where
    by : (q : Reading) → r ≡ q → is_there (meaning_of levels names s) ≡ is_there (meaning_by (meaning_of (levels - 1) names) names q s)
    by q e = ap is_there step ∙ ap (λ (x : Reading). is_there (meaning_by (meaning_of (levels - 1) names) names x s)) (sym told ∙ e)

    pub value_fixed : (code size : ℕ) → r ≡ Fixed code size → (b : Bool) → b ≡ is_there (primitive_meaning code (drop 1 s)) → b ≡ is_there (meaning_of levels names s)
    unfolding meaning_by
    value_fixed code size e b f = f ∙ sym (by (Fixed code size) e)

    pub value_prefixed : (code : ℕ) → r ≡ Prefixed code → true ≡ is_there (meaning_of levels names s)
    unfolding meaning_by
    value_prefixed code e = sym (by (Prefixed code) e ∙ prefixed_there (eqb code 16) code (drop 5 s))

    pub value_short : (size : ℕ) → r ≡ Short size → true ≡ is_there (meaning_of levels names s)
    unfolding meaning_by
    value_short size e = sym (by (Short size) e ∙ string_there (drop 1 s))

    pub value_nothing : r ≡ Nothing → false ≡ is_there (meaning_of levels names s)
    unfolding meaning_by is_there
    value_nothing e = sym (by Nothing e)

    -- ---- an array

    module _ (c w : ℕ) (e : r ≡ ArrayHead c w) where
      array_is : is_there (meaning_of levels names s)
          ≡ tiled_in (length (area_of c 0 w s)) (children_at (area_of c 0 w s) (starts_of c 0 w s))
          && insides_good (meaning_of (levels - 1) names) (area_of c 0 w s) (children_at (area_of c 0 w s) (starts_of c 0 w s))
      array_is = by (ArrayHead c w) e ∙ array_verdict (meaning_of (levels - 1) names) names s c w

      module _ (b : Bool) (lies : b ≡ tiled_in (length (area_of c 0 w s)) (children_at (area_of c 0 w s) (starts_of c 0 w s))) where
        pub value_array_not : not b ≡ true → false ≡ is_there (meaning_of levels names s)
        value_array_not f = sym (array_is ∙ rw (← lies) (false_first b _ f))

        pub value_array : not b ≡ false → (q : Bool)
            → q ≡ insides_good (meaning_of (levels - 1) names) (area_of c 0 w s) (children_at (area_of c 0 w s) (starts_of c 0 w s))
            → q ≡ is_there (meaning_of levels names s)
        value_array f q g = sym (array_is ∙ rw (← lies, ← g) (true_first b _ f))

    -- ---- an object

    module _ (c i w : ℕ) (e : r ≡ ObjectHead c i w) (small : length s ≤ most_walked) where
      object_is : is_there (meaning_of levels names s)
          ≡ (all_below (length names) (ids_of c i s) && rising (names_at names (ids_of c i s)))
          && (once_in (length (area_of c i w s)) (children_at (area_of c i w s) (starts_of c i w s))
          && insides_good (meaning_of (levels - 1) names) (area_of c i w s) (children_at (area_of c i w s) (starts_of c i w s)))
      object_is =
          by (ObjectHead c i w) e
          ∙ object_verdict (meaning_of (levels - 1) names) names s c i w (ids_starts_length s c i w (object_container s fills r told c i w e small) (object_id s fills r told c i w e))

      object_grouped : is_there (meaning_of levels names s)
          ≡ ((all_below (length names) (ids_of c i s) && rising (names_at names (ids_of c i s)))
          && once_in (length (area_of c i w s)) (children_at (area_of c i w s) (starts_of c i w s)))
          && insides_good (meaning_of (levels - 1) names) (area_of c i w s) (children_at (area_of c i w s) (starts_of c i w s))
      object_grouped =
          object_is
          ∙ regroup (all_below (length names) (ids_of c i s) && rising (names_at names (ids_of c i s)))
          (once_in (length (area_of c i w s)) (children_at (area_of c i w s) (starts_of c i w s)))
          (insides_good (meaning_of (levels - 1) names) (area_of c i w s) (children_at (area_of c i w s) (starts_of c i w s)))

      module _ (b : Bool)
          (lies : b ≡ (all_below (length names) (ids_of c i s) && rising (names_at names (ids_of c i s)))
          && once_in (length (area_of c i w s)) (children_at (area_of c i w s) (starts_of c i w s))) where
        pub value_object_not : not b ≡ true → false ≡ is_there (meaning_of levels names s)
        value_object_not f = sym (object_grouped ∙ rw (← lies) (false_first b _ f))

        pub value_object : not b ≡ false → (q : Bool)
            → q ≡ insides_good (meaning_of (levels - 1) names) (area_of c i w s) (children_at (area_of c i w s) (starts_of c i w s))
            → q ≡ is_there (meaning_of levels names s)
        value_object f q g = sym (object_grouped ∙ rw (← lies, ← g) (true_first b _ f))

-- ---- what was said of an opened container is said of its bytes

module _ (names : Dictionary) (s : List ℕ) (c i w : ℕ) {ids starts area : List ℕ} (same_ids : ids ≡ ids_of c i s) (same_starts : starts ≡ starts_of c i w s)
    (same_area : area ≡ area_of c i w s) where
  pub object_said : {b : Bool}
      → b ≡ (all_below (length names) ids && rising (names_at names ids)) && once_in (length area) (children_at area starts)
      → b ≡ (all_below (length names) (ids_of c i s) && rising (names_at names (ids_of c i s)))
      && once_in (length (area_of c i w s)) (children_at (area_of c i w s) (starts_of c i w s))
  object_said told = told ∙ rw (same_ids, same_starts, same_area)

module _ (s : List ℕ) (c i w : ℕ) {starts area : List ℕ} (same_starts : starts ≡ starts_of c i w s) (same_area : area ≡ area_of c i w s) where
  pub array_said : {b : Bool} → b ≡ tiled_in (length area) (children_at area starts)
      → b ≡ tiled_in (length (area_of c i w s)) (children_at (area_of c i w s) (starts_of c i w s))
  array_said told = told ∙ rw (same_starts, same_area)

  pub children_said : is_there (children_at (area_of c i w s) (starts_of c i w s)) ≡ true → is_there (children_at area starts) ≡ true
  children_said there = rw (same_starts, same_area) there

  pub insides_said : (inner : List ℕ → Option Doc) {b : Bool} → b ≡ insides_good inner area (children_at area starts)
      → b ≡ insides_good inner (area_of c i w s) (children_at (area_of c i w s) (starts_of c i w s))
  insides_said inner told = told ∙ rw (same_starts, same_area)
