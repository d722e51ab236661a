-- When a container is lawful: an array when its children lie end to end and are lawful inside, an object when its names
-- rise, every byte of its area is in exactly one child and the children are lawful inside.
use Rattle.std.specs.Prelude.{Option, None, Some}
use mathlib.Core.Bool.{Bool, true, false, ◌&&◌}
use mathlib.Core.List.{List, [], ◌∷◌}
use mathlib.Core.Path.{◌≡◌, refl, sym, ap, ◌∙◌}
use Prim.Native.Nat.{ℕ}
use native.Mathlib.Omega.{arith}
use lib.ListN.{length, length-map}
use Rattle.paper.specs.Meaning.{Doc, Docs, doc, Fields, field, array, object}
use Rattle.paper.specs.Metadata.{Dictionary, rising}
use Rattle.paper.specs.Values.{children_at, end_to_end, every_byte_once, element_docs, member_docs, child_bytes, elements_of, members_of, area_of, starts_of, ids_of, names_at, meaning_by}
use Rattle.paper.specs.declared.Child.{Child}
use Rattle.paper.specs.Words.{given, and_then, is_there, all_below}
use Rattle.paper.specs.declared.Reading.TheVariants.{ObjectHead, ArrayHead}
use Rattle.containers.specs.Children.{once_in, tiled_in}
use Rattle.values.specs.Insides.{all_good, insides_good}
use Rattle.paper.proofs.WordLaws.{never, there_then}
use Rattle.containers.proofs.ChildLaws.{SizedIn, children_sized, children_below}

-- ---- the insides of children

there_elements : (inner : List ℕ → Option Doc) (area : List ℕ) (children : List Child)
    → is_there (element_docs inner area children) ≡ all_good inner area children
unfolding element_docs all_good is_there and_then
there_elements inner area [] = refl
there_elements inner area (child ∷ more) = go (inner (child_bytes area child)) (element_docs inner area more) (there_elements inner area more)
  where
    go : (x : Option Doc) (rest : Option Docs) → is_there rest ≡ all_good inner area more
        → is_there (and_then x λ d. and_then rest λ ds. Some (doc d ds)) ≡ is_there x && all_good inner area more
    go None rest e = refl
    go (Some d) None e = e
    go (Some d) (Some ds) e = e

there_members : (inner : List ℕ → Option Doc) (area : List ℕ) (names : List (List ℕ)) (children : List Child) → length names ≡ length children
    → is_there (member_docs inner area names children) ≡ all_good inner area children
unfolding member_docs all_good is_there and_then
there_members inner area [] [] e = refl
there_members inner area [] (child ∷ more) e = absurd (omega arith)
there_members inner area (name ∷ names) [] e = absurd (omega arith)
there_members inner area (name ∷ names) (child ∷ more) e =
    go (inner (child_bytes area child)) (member_docs inner area names more) (there_members inner area names more (omega arith))
  where
    go : (x : Option Doc) (rest : Option Fields) → is_there rest ≡ all_good inner area more
        → is_there (and_then x λ d. and_then rest λ fs. Some (field name d fs)) ≡ is_there x && all_good inner area more
    go None rest e = refl
    go (Some d) None e = e
    go (Some d) (Some fs) e = e

-- ---- the verdicts

module _ (inner : List ℕ → Option Doc) (names : Dictionary) (s : List ℕ) where
  pub array_verdict : (c w : ℕ)
      → is_there (meaning_by inner names (ArrayHead c w) s)
      ≡ tiled_in (length (area_of c 0 w s)) (children_at (area_of c 0 w s) (starts_of c 0 w s))
      && insides_good inner (area_of c 0 w s) (children_at (area_of c 0 w s) (starts_of c 0 w s))
  unfolding meaning_by elements_of tiled_in insides_good is_there given and_then
  array_verdict c w =
      go (children_at area starts) (all_below (length area) starts) (children_below area starts)
    where
      area : List ℕ
      area = area_of c 0 w s

      starts : List ℕ
      starts = starts_of c 0 w s

      inside : (children : List Child) (t : Bool)
          → is_there (and_then (given t (Some children)) λ cs. and_then (element_docs inner area cs) λ ds. Some (array ds)) ≡ t && all_good inner area children
      inside children true = there_then (element_docs inner area children) (λ ds. Some (array ds)) (λ ds. refl) ∙ there_elements inner area children
      inside children false = refl

      go : (K : Option (List Child)) (b : Bool) → (is_there K ≡ true → b ≡ true)
          → is_there (and_then (given b (and_then K λ children. given (end_to_end 0 (length area) children) (Some children))) λ cs. and_then (element_docs inner area cs) λ ds. Some (array ds))
          ≡ tiled_in (length area) K && insides_good inner area K
      go None true below = refl
      go None false below = refl
      go (Some children) false below = never (sym (below refl))
      go (Some children) true below = inside children (end_to_end 0 (length area) children)

  pub object_verdict : (c i w : ℕ) → length (ids_of c i s) ≡ length (starts_of c i w s)
      → is_there (meaning_by inner names (ObjectHead c i w) s)
      ≡ (all_below (length names) (ids_of c i s) && rising (names_at names (ids_of c i s)))
      && (once_in (length (area_of c i w s)) (children_at (area_of c i w s) (starts_of c i w s))
      && insides_good inner (area_of c i w s) (children_at (area_of c i w s) (starts_of c i w s)))
  unfolding meaning_by members_of once_in insides_good is_there given and_then names_at SizedIn
  object_verdict c i w same =
      go (children_at area starts) (all_below (length area) starts) (all_below (length names) (ids_of c i s) && rising field_names)
      (children_below area starts) (children_sized area starts)
    where
      area : List ℕ
      area = area_of c i w s

      starts : List ℕ
      starts = starts_of c i w s

      field_names : List (List ℕ)
      field_names = names_at names (ids_of c i s)

      inside : (children : List Child) (t : Bool) → length children ≡ length starts
          → is_there (and_then (given t (Some children)) λ cs. and_then (member_docs inner area field_names cs) λ fs. Some (object fs)) ≡ t && all_good inner area children
      inside children true e =
          there_then (member_docs inner area field_names children) (λ fs. Some (object fs)) (λ fs. refl)
          ∙ there_members inner area field_names children (length-map (ids_of c i s) (λ (id : ℕ). lib.ListN.get_or names id []) ∙ same ∙ sym e)
      inside children false e = refl

      go : (K : Option (List Child)) (b t : Bool) → (is_there K ≡ true → b ≡ true) → SizedIn area starts K
          → is_there (and_then (given t (given b (and_then K λ children. given (every_byte_once (length area) children) (Some children)))) λ cs. and_then (member_docs inner area field_names cs) λ fs. Some (object fs))
          ≡ t && (once_in (length area) K && insides_good inner area K)
      go K b false below sized = refl
      go None true true below sized = refl
      go None false true below sized = refl
      go (Some children) false true below sized = never (sym (below refl))
      go (Some children) true true below sized = inside children (every_byte_once (length area) children)
          (sym (length-map children (λ (child : Child). child.start)) ∙ ap length sized.1)
