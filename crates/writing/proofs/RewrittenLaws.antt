-- A lawful value opened one level: what it means, its ids and its rewriting go by its first byte; and what is rewritten is
-- one value, as long as it says.
use mathlib.Core.Bool.{Bool, true, false, cond, ◌&&◌}
use mathlib.Core.List.{List, [], ◌∷◌}
use mathlib.Core.Path.{◌≡◌, refl, sym, ap, ◌∙◌, subst}
use Prim.Native.Nat.{ℕ, zero, suc, ◌+◌, ◌-◌, ◌*◌, ◌^◌, ◌≤◌, ◌<◌}
use native.Mathlib.Omega.{arith}
use borrow.Author.Tests.{leb-true, le-leb}
use lib.Dec.{leb, eqb}
use lib.ListN.{length, get_or, drop, length-map, length-drop}
use Rattle.forms.proofs.ContainerLaws.{array_filled, object_filled}
use Rattle.forms.proofs.ScalarLaws.{Filled, scalar_written}
use Rattle.forms.specs.WellFormed.{scalar_good}
use Rattle.heads.proofs.HeadLaws.{extent_some}
use Rattle.marking.specs.Ids.{ids_by, ids_in}
use Rattle.paper.specs.Bounds.{most_walked}
use Rattle.paper.proofs.WordLaws.{never, there_given, given_some, and_both}
use Rattle.paper.specs.FirstBytes.{reading_of}
use Rattle.paper.specs.Meaning.{text}
use Rattle.paper.specs.Metadata.{Dictionary}
use Rattle.paper.specs.Normal.{text_bytes, scalar_bytes}
use Rattle.paper.specs.Values.{extent_by, area_of, starts_of, ids_of, meaning_by, meaning_of, whole}
use Rattle.paper.specs.Words.{at, is_there}
use Rattle.paper.specs.declared.Reading.TheVariants.{Fixed, Prefixed, Short, ObjectHead, ArrayHead, Nothing}
use Rattle.paper.specs.declared.Reading.{Reading}
use Rattle.containers.proofs.LayoutLaws.{ids_starts_length}
use Rattle.containers.specs.Layouts.{HeadThere}
use Rattle.values.proofs.PrimitiveLaws.{whole_extent}
use Rattle.values.proofs.ValueLaws.{object_container, object_id}
use Rattle.writing.specs.Rewritten.{ranks_at, shortened, part_at, parts_in, parts_of, rewritten_by, rewritten}

-- What a lawful value tells, one level further in.
pub record OneLevel (levels : ℕ) (names : Dictionary) (ranks s : List ℕ) : Type 0 where
  pub some_level : 1 ≤ levels
  pub fills : whole s ≡ true
  pub by : is_there (meaning_by (meaning_of (levels - 1) names) names (reading_of (at s 0)) s) ≡ true
  pub ids : ids_in levels s ≡ ids_by (ids_in (levels - 1)) (reading_of (at s 0)) s
  pub same : rewritten levels ranks s ≡ rewritten_by (rewritten (levels - 1) ranks) ranks (reading_of (at s 0)) s

pub one_level : (levels : ℕ) (names : Dictionary) (ranks s : List ℕ) → is_there (meaning_of levels names s) ≡ true → OneLevel levels names ranks s
unfolding meaning_of is_there ids_in rewritten
one_level zero names ranks s e = never (sym e)
one_level (suc n) names ranks s e =
    let meant = meaning_by (meaning_of n names) names (reading_of (at s 0)) s in
    let both = and_both (whole s) (is_there meant) (sym (there_given (whole s) meant) ∙ e) in
    let less : suc n - 1 ≡ n = omega arith in
    record { some_level = omega arith; fills = both.0; by = rw less both.1; ids = rw less; same = rw less }

-- By its first byte.
module _ {levels : ℕ} {names : Dictionary} {ranks s : List ℕ} (told : OneLevel levels names ranks s) (r : Reading) (is : r ≡ reading_of (at s 0)) where
  pub same_by : rewritten levels ranks s ≡ rewritten_by (rewritten (levels - 1) ranks) ranks r s
  same_by = told.same ∙ ap (λ (q : Reading). rewritten_by (rewritten (levels - 1) ranks) ranks q s) (sym is)

  pub ids_by_lem : ids_in levels s ≡ ids_by (ids_in (levels - 1)) r s
  ids_by_lem = told.ids ∙ ap (λ (q : Reading). ids_by (ids_in (levels - 1)) q s) (sym is)

  pub there_by : is_there (meaning_by (meaning_of (levels - 1) names) names r s) ≡ true
  there_by = ap (λ (q : Reading). is_there (meaning_by (meaning_of (levels - 1) names) names q s)) is ∙ told.by

  pub nothing_never : r ≡ Nothing → ⊥
  unfolding meaning_by is_there
  nothing_never e = never (sym (rw e at there_by))

-- ---- a string with its length in front

pub prefix_there : (s : List ℕ) (type : ℕ) → whole s ≡ true → reading_of (at s 0) ≡ Prefixed type → 5 ≤ length s
unfolding extent_by
prefix_there s type fills is = leb-true 5 (length s) (given_some (leb 5 (length s)) _ (rw is at (extent_some s (whole_extent s fills)).1)).0

-- The shorter form is that of the text.
pub text_short : (s : List ℕ) → 5 ≤ length s → length s ≤ 68 → (4 * (length s - 5) + 1) ∷ drop 5 s ≡ text_bytes (drop 5 s)
unfolding text_bytes
text_short s long few =
    let size : length (drop 5 s) ≡ length s - 5 = length-drop 5 s in
    rw (size, le-leb (length s - 5) 63 (omega arith))

shortened_filled : (type : ℕ) (s : List ℕ) → 5 ≤ length s → Filled s → length (shortened type s) < 2 ^ 32 → Filled (shortened type s)
unfolding shortened scalar_bytes
shortened_filled type s long fills small = go (eqb type 16) (leb (length s) 68) refl small
  where
    go : (b few : Bool) → leb (length s) 68 ≡ few → length (cond (b && few) ((4 * (length s - 5) + 1) ∷ drop 5 s) s) < 2 ^ 32
        → Filled (cond (b && few) ((4 * (length s - 5) + 1) ∷ drop 5 s) s)
    go true true e h =
        let same = text_short s long (leb-true (length s) 68 e) in
        let size : length ((4 * (length s - 5) + 1) ∷ drop 5 s) ≡ length (text_bytes (drop 5 s)) = ap length same in
        let filled : Filled (text_bytes (drop 5 s)) = (scalar_written [] (text (drop 5 s)) (unfold scalar_good in refl) (omega arith)).0 in
        subst (λ (l : List ℕ). Filled l) (sym same) filled
    go true false e h = fills
    go false few e h = fills

-- ---- any value

-- As many parts as starts, and as many as an object's ids.
pub parts_counted : (inner : List ℕ → List ℕ) (area starts : List ℕ) → length (parts_in inner area starts) ≡ length starts
parts_counted inner area starts = length-map starts (part_at inner area)

pub parts_length : (inner : List ℕ → List ℕ) (c i w : ℕ) (s : List ℕ) → length (parts_of inner c i w s) ≡ length (starts_of c i w s)
unfolding parts_of
parts_length inner c i w s = length-map (starts_of c i w s) (part_at inner (area_of c i w s))

pub ids_counted : (inner : List ℕ → List ℕ) {s : List ℕ} {c i w : ℕ} → HeadThere s c i w → (ranks : List ℕ) → 1 ≤ i
    → length (ranks_at ranks (ids_of c i s)) ≡ length (parts_of inner c i w s)
unfolding ranks_at
ids_counted inner {s} {c} {i} {w} there ranks least =
    length-map (ids_of c i s) (λ (id : ℕ). get_or ranks id 0) ∙ ids_starts_length s c i w there least ∙ sym (parts_length inner c i w s)

pub rewritten_filled : (levels : ℕ) (names : Dictionary) (ranks s : List ℕ) → is_there (meaning_of levels names s) ≡ true → length s ≤ most_walked
    → length (rewritten levels ranks s) < 2 ^ 32 → Filled (rewritten levels ranks s)
unfolding rewritten_by ranks_at
rewritten_filled levels names ranks s e small fit = go (reading_of (at s 0)) refl
  where
    open_it : OneLevel levels names ranks s
    open_it = one_level levels names ranks s e

    fills : Filled s
    fills = whole_extent s open_it.fills

    inner : List ℕ → List ℕ
    inner = rewritten (levels - 1) ranks

    by_reading : (r : Reading) → r ≡ reading_of (at s 0) → Filled (rewritten_by inner ranks r s) → Filled (rewritten levels ranks s)
    by_reading r is filled = rw (same_by open_it r is) filled

    go : (r : Reading) → r ≡ reading_of (at s 0) → Filled (rewritten levels ranks s)
    go (Fixed type size) is = by_reading (Fixed type size) is fills
    go (Prefixed type) is =
        by_reading (Prefixed type) is
        (shortened_filled type s (prefix_there s type open_it.fills (sym is)) fills (rw (same_by open_it (Prefixed type) is) at fit))
    go (Short size) is = by_reading (Short size) is fills
    go (ObjectHead c i w) is =
        let container = object_container s open_it.fills (ObjectHead c i w) is c i w refl small in
        let least = object_id s open_it.fills (ObjectHead c i w) is c i w refl in
        let same = ids_counted inner container ranks least in
        by_reading (ObjectHead c i w) is
        (object_filled (ranks_at ranks (ids_of c i s)) (parts_of inner c i w s) same (rw (same_by open_it (ObjectHead c i w) is) at fit))
    go (ArrayHead c w) is =
        by_reading (ArrayHead c w) is (array_filled (parts_of inner c 0 w s) (rw (same_by open_it (ArrayHead c w) is) at fit))
    go Nothing is = absurd (nothing_never open_it Nothing is refl)
