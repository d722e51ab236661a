-- What a merge of two runs is when their names never fall: the ids of both, and names that never fall.
use mathlib.Core.Bool.{Bool, true, false, cond, not, ◌||◌}
use mathlib.Core.List.{List, [], ◌∷◌, ◌++◌}
use mathlib.Core.Logic.{◌⊎◌, inl, inr}
use mathlib.Core.Path.{◌≡◌, refl, sym, ap, ◌∙◌}
use Prim.Native.Nat.{ℕ, suc, ◌+◌, ◌<◌}
use native.Mathlib.Omega.{arith}
use borrow.Author.Tests.{not-true}
use lib.Dec.{eqb}
use lib.ListN.{length, get_or, length-append}
use Rattle.order.specs.Before.{before}
use Rattle.paper.specs.Metadata.{Dictionary}
use Rattle.paper.specs.Values.{names_at}
use Rattle.paper.specs.Words.{all_below}
use Rattle.ranking.specs.Merging.{merge_into, merged}
use Rattle.marking.specs.Ids.{holds}
use Rattle.ranking.specs.Ranks.{never_falls, Sorted}
use Rattle.names.proofs.SameLaws.{or_either}
use Rattle.order.proofs.OrderLaws.{before_total, before_transitive, before_asymmetric}
use Rattle.paper.proofs.WordLaws.{never, and_both}
use Rattle.ranking.proofs.HeldLaws.{or_more, held_first, held_append, held_either, held_below, below_held}

-- Not to come before goes on from name to name.
pub not_before_through : (a b c : List ℕ) → before b a ≡ false → before c b ≡ false → before c a ≡ false
not_before_through a b c p q = go (before c a) refl (before a b) refl
  where
    go : (t : Bool) → before c a ≡ t → (u : Bool) → before a b ≡ u → t ≡ false
    go false e u f = refl
    go true e true f = never (sym (before_transitive c a b e f) ∙ q)
    go true e false f = never (sym e ∙ ap (before c) (before_total a b f p) ∙ q)

module _ (names : Dictionary) where
  -- ---- the ids of both

  into_length : (x : ℕ) (rest : List ℕ → List ℕ) (k : ℕ) → ((ys : List ℕ) → length (rest ys) ≡ k + length ys)
      → (ys : List ℕ) → length (merge_into names x rest ys) ≡ suc k + length ys
  unfolding merge_into
  into_length x rest k size [] = let e = size [] in omega arith
  into_length x rest k size (y ∷ ys) = go (before (get_or names y []) (get_or names x [])) (into_length x rest k size ys)
    where
      go : (b : Bool) → length (merge_into names x rest ys) ≡ suc k + length ys
          → length (cond b (y ∷ merge_into names x rest ys) (x ∷ rest (y ∷ ys))) ≡ suc k + suc (length ys)
      go true e = omega arith
      go false e = let f = size (y ∷ ys) in omega arith

  pub merged_length : (xs ys : List ℕ) → length (merged names xs ys) ≡ length xs + length ys
  unfolding merged
  merged_length [] ys = omega arith
  merged_length (x ∷ xs) ys = into_length x (merged names xs) (length xs) (merged_length xs) ys

  -- tests in another order
  or_swap : (a b c : Bool) → a || (b || c) ≡ b || (a || c)
  or_swap true true c = refl
  or_swap true false c = refl
  or_swap false b c = refl

  into_held : (id x : ℕ) (rest : List ℕ → List ℕ) (b : Bool) → ((ys : List ℕ) → holds id (rest ys) ≡ b || holds id ys)
      → (ys : List ℕ) → holds id (merge_into names x rest ys) ≡ eqb x id || (b || holds id ys)
  unfolding merge_into holds
  into_held id x rest b inner [] = ap (λ (c : Bool). eqb x id || c) (inner [])
  into_held id x rest b inner (y ∷ ys) = go (before (get_or names y []) (get_or names x [])) (into_held id x rest b inner ys)
    where
      go : (t : Bool) → holds id (merge_into names x rest ys) ≡ eqb x id || (b || holds id ys)
          → holds id (cond t (y ∷ merge_into names x rest ys) (x ∷ rest (y ∷ ys))) ≡ eqb x id || (b || (eqb y id || holds id ys))
      go true e =
          ap (λ (c : Bool). eqb y id || c) e ∙ or_swap (eqb y id) (eqb x id) (b || holds id ys)
          ∙ ap (λ (c : Bool). eqb x id || c) (or_swap (eqb y id) b (holds id ys))
      go false e = ap (λ (c : Bool). eqb x id || c) (inner (y ∷ ys))

  pub merged_held : (id : ℕ) (xs ys : List ℕ) → holds id (merged names xs ys) ≡ holds id xs || holds id ys
  unfolding merged holds
  merged_held id [] ys = refl
  merged_held id (x ∷ xs) ys = into_held id x (merged names xs) (holds id xs) (merged_held id xs) ys ∙ sym (or_more (eqb x id) (holds id xs) (holds id ys))

  -- ---- names that never fall

  -- The name of an id does not come before that of another.
  abbrev NotBefore : ℕ → ℕ → Type 0
  NotBefore later earlier = before (get_or names later []) (get_or names earlier []) ≡ false

  -- .. nor does that of any of some.
  abbrev AllAfter : ℕ → List ℕ → Type 0
  AllAfter first ids = (id : ℕ) → holds id ids ≡ true → NotBefore id first

  all_none : (x : ℕ) → AllAfter x []
  unfolding holds
  all_none x id e = never (sym e)

  all_behind : (x y : ℕ) (ids : List ℕ) → NotBefore x y → AllAfter x ids → AllAfter y (x ∷ ids)
  all_behind x y ids after all id e = go (held_either id x ids e)
    where
      go : (x ≡ id) ⊎ (holds id ids ≡ true) → NotBefore id y
      go (inl is) = rw (← is) after
      go (inr further) = not_before_through (get_or names y []) (get_or names x []) (get_or names id []) after (all id further)

  all_merged : (x : ℕ) (xs ys : List ℕ) → AllAfter x xs → AllAfter x ys → AllAfter x (merged names xs ys)
  all_merged x xs ys first second id e = go (or_either (holds id xs) (holds id ys) (sym (merged_held id xs ys) ∙ e))
    where
      go : (holds id xs ≡ true) ⊎ (holds id ys ≡ true) → NotBefore id x
      go (inl in-xs) = first id in-xs
      go (inr in_ys) = second id in_ys

  abbrev InOrder : List ℕ → Type 0
  InOrder ids = never_falls (names_at names ids) ≡ true

  order_none : InOrder []
  unfolding never_falls names_at
  order_none = refl

  order_one : (id : ℕ) → InOrder (id ∷ [])
  unfolding never_falls names_at
  order_one id = refl

  order_more : (first : ℕ) (more : List ℕ) → InOrder (first ∷ more) → InOrder more
  unfolding never_falls names_at
  order_more first [] e = refl
  order_more first (second ∷ more) e =
      (and_both (not (before (get_or names second []) (get_or names first []))) (never_falls (names_at names (second ∷ more))) e).1

  order_all : (first : ℕ) (more : List ℕ) → InOrder (first ∷ more) → AllAfter first more
  unfolding never_falls names_at
  order_all first [] e = all_none first
  order_all first (second ∷ more) e =
      let both = and_both (not (before (get_or names second []) (get_or names first []))) (never_falls (names_at names (second ∷ more))) e in
      all_behind second first more (not-true (before (get_or names second []) (get_or names first [])) both.0) (order_all second more both.1)

  order_front : (first : ℕ) (more : List ℕ) → InOrder more → AllAfter first more → InOrder (first ∷ more)
  unfolding never_falls names_at
  order_front first [] e after = refl
  order_front first (second ∷ more) e after = rw (after second (held_first second more)) e

  into_order : (x : ℕ) (xs : List ℕ) → InOrder (x ∷ xs) → ((ys : List ℕ) → InOrder ys → InOrder (merged names xs ys))
      → (ys : List ℕ) → InOrder ys → InOrder (merged names (x ∷ xs) ys)
  unfolding merged merge_into
  into_order x xs f inner [] g = order_front x (merged names xs []) (inner [] g) (all_merged x xs [] (order_all x xs f) (all_none x))
  into_order x xs f inner (y ∷ ys) g = go (before (get_or names y []) (get_or names x [])) refl (into_order x xs f inner ys (order_more y ys g))
    where
      go : (b : Bool) → before (get_or names y []) (get_or names x []) ≡ b → InOrder (merged names (x ∷ xs) ys)
          → InOrder (cond b (y ∷ merged names (x ∷ xs) ys) (x ∷ merged names xs (y ∷ ys)))
      go true e rest =
          order_front y (merged names (x ∷ xs) ys) rest
          (all_merged y (x ∷ xs) ys (all_behind x y xs (before_asymmetric (get_or names y []) (get_or names x []) e) (order_all x xs f)) (order_all y ys g))
      go false e rest =
          order_front x (merged names xs (y ∷ ys)) (inner (y ∷ ys) g)
          (all_merged x xs (y ∷ ys) (order_all x xs f) (all_behind y x ys e (order_all y ys g)))

  pub merged_order : (xs ys : List ℕ) → InOrder xs → InOrder ys → InOrder (merged names xs ys)
  unfolding merged
  merged_order [] ys f g = g
  merged_order (x ∷ xs) ys f g = into_order x xs f (λ l. merged_order xs l (order_more x xs f)) ys g

  -- ---- sorted ids

  pub sort_few : (ids : List ℕ) → length ids < 2 → Sorted names ids ids
  sort_few [] h = record { size = refl; members = λ id. refl; order = order_none }
  sort_few (x ∷ []) h = record { size = refl; members = λ id. refl; order = order_one x }
  sort_few (x ∷ y ∷ ids) h = absurd (omega arith)

  pub sorted_below : (bound : ℕ) {ids sorted : List ℕ} → Sorted names ids sorted → all_below bound ids ≡ true → all_below bound sorted ≡ true
  sorted_below bound {ids} {sorted} s below = held_below bound sorted λ id e. below_held bound ids below id (sym (s.members id) ∙ e)

  pub sort_merged : {xs ys a b : List ℕ} → Sorted names xs a → Sorted names ys b → Sorted names (xs ++ ys) (merged names a b)
  sort_merged {xs} {ys} {a} {b} s t =
      record {
        size = let e = s.size in let f = t.size in rw (merged_length a b, length-append) (omega arith);
        members = λ id. rw (merged_held id a b, held_append id xs ys, s.members id, t.members id);
        order = merged_order a b s.order t.order;
      }
