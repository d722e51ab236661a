-- The walk along a path: what is left of it, looked for from the current value at its place, leads where the whole does.
use Rattle.std.specs.Prelude.{Option, None, Some}
use mathlib.Core.Bool.{true}
use mathlib.Core.List.{List, [], ◌∷◌}
use mathlib.Core.Path.{◌≡◌, refl, sym, ap, ◌∙◌}
use Prim.Native.Nat.{ℕ, zero, suc, ◌+◌, ◌-◌, ◌≤◌, ◌<◌}
use native.Mathlib.Omega.{arith}
use lib.ListN.{length, take, drop, length-take, length-drop}
use lib.Seq.{take_all, take-take, take-nil, drop-drop}
use mir.Syntax.{w64}
use mir.Val.{Fits}
use Rattle.paper.specs.Bounds.{most_walked}
use Rattle.paper.specs.Limits.{most_levels}
use Rattle.paper.specs.Metadata.{Dictionary}
use Rattle.paper.specs.Paths.{step_of, path_of, step_into, find_from}
use Rattle.paper.specs.Standing.{Step}
use Rattle.paper.specs.Values.{child_bytes, meaning_of}
use Rattle.paper.specs.declared.Child.{Child}
use Rattle.paper.specs.Words.{and_then, is_there}
use Rattle.paths.specs.Places.{LawfulIn}
use Rattle.paper.proofs.WordLaws.{never, then_some}
use Rattle.paths.proofs.LawfulLaws.{step_held}
use Rattle.frames.specs.Frames.{frame_end, piece_in}
use Rattle.frames.proofs.FrameLaws.{frame_fits}
use Rattle.paths.proofs.PathLaws.{step_then, path_cut, path_more, path_ended}
use Rattle.std.proofs.lemmas.Option.{same_Some}

-- ---- a part of a part

drop_take : (p m : ℕ) (s : List ℕ) → p ≤ m → drop p (take m s) ≡ take (m - p) (drop p s)
drop_take zero m s h = let e : m - 0 ≡ m = omega arith in rw e
drop_take (suc p) zero s h = absurd (omega arith)
drop_take (suc p) (suc m) [] h = sym (take-nil (suc m - suc p))
drop_take (suc p) (suc m) (b ∷ s) h = let e : suc m - suc p ≡ m - p = omega arith in rw e (drop_take p m s (omega arith))

-- The current value, and a child of it.
abbrev pub here : List ℕ → ℕ → ℕ → List ℕ
here value start end = take (end - start) (drop start value)

here_child : (value : List ℕ) (start end : ℕ) (child : Child) → child.start + child.size ≤ end - start
    → child_bytes (here value start end) child ≡ here value (start + child.start) (start + child.start + child.size)
unfolding child_bytes
here_child value start end child h =
    let e : start + child.start + child.size - (start + child.start) ≡ child.size = omega arith in
    rw (
      e,
      drop_take child.start (end - start) (drop start value) (omega arith),
      drop-drop,
      take-take child.size (end - start - child.start) (drop (start + child.start) value) (omega arith),
    )

-- ---- one step more

find_more : (names : Dictionary) (first : Option Step) (rest : Option (List Step)) (place : ℕ) (s : List ℕ) → is_there rest ≡ true
    → (and_then (step_then first rest) λ steps. find_from names steps place s)
    ≡ (and_then (and_then first λ step. step_into names step s) λ child. and_then rest λ steps. find_from names steps (place + child.start) (child_bytes s child))
unfolding step_then and_then find_from is_there
find_more names None rest place s e = refl
find_more names (Some step) None place s e = never (sym e)
find_more names (Some step) (Some steps) place s e = refl

-- Steps that are there: the first one and the others.
both_there : (first : Option Step) (rest : Option (List Step)) → is_there (step_then first rest) ≡ true → (is_there first ≡ true) × (is_there rest ≡ true)
unfolding step_then and_then is_there
both_there None rest e = never (sym e)
both_there (Some step) None e = never (sym e)
both_there (Some step) (Some steps) e = (refl, refl)

-- ---- the loop over the steps

pub record FindSeen (names : Dictionary) (value path : List ℕ) (start end at : ℕ) : Type 0 where
  pub order : start ≤ end
  pub end_in : end ≤ length value
  pub few : length value ≤ most_walked
  pub within : at ≤ length path
  pub lawful : LawfulIn names (here value start end)
  pub good : is_there (path_of (drop at path)) ≡ true
  pub whole_is : (and_then (path_of path) λ steps. find_from names steps 0 value)
      ≡ (and_then (path_of (drop at path)) λ steps. find_from names steps start (here value start end))

pub find_start : {names : Dictionary} {value path : List ℕ} → is_there (meaning_of most_levels names value) ≡ true → length value ≤ most_walked → is_there (path_of path) ≡ true
    → FindSeen names value path 0 (length value) 0
find_start {names} {value} {path} meant small good =
    let all : here value 0 (length value) ≡ value = take_all (length value - 0) value (omega arith) in
    record {
      order = omega arith;
      end_in = omega arith;
      few = small;
      within = omega arith;
      lawful = rw all (record { levels = most_levels; meant = meant; small = small });
      good = good;
      whole_is = rw all;
    }

module _ {names : Dictionary} {value path : List ℕ} {start end at : ℕ} (seen : FindSeen names value path start end at) where
  long : length (here value start end) ≡ end - start
  long = let order = seen.order in let inside = seen.end_in in rw (length-take, length-drop) (omega arith)

  answer : (steps : List Step) → path_of path ≡ Some steps
      → find_from names steps 0 value ≡ (and_then (path_of (drop at path)) λ steps. find_from names steps start (here value start end))
  unfolding and_then
  answer steps e = sym (ap (λ (x : Option (List Step)). and_then x λ steps. find_from names steps 0 value) e) ∙ seen.whole_is

  pub find_done : length path ≤ at → (steps : List Step) → path_of path ≡ Some steps
      → Some (record { start = start; size = end - start }) ≡ find_from names steps 0 value
  unfolding and_then find_from
  find_done past steps e = rw (answer steps e, path_ended path at past, long)

  module _ (h : at < length path) {f : Option ℕ} (framed : f ≡ frame_end path at) where
    -- a piece stands there
    pub never_cut : f ≡ None → ⊥
    unfolding is_there
    never_cut e = never (sym (ap is_there (sym (path_cut path at h (sym framed ∙ e))) ∙ seen.good))

    module _ (next : ℕ) (is : f ≡ Some next) where
      pub next_in : (at + 3 ≤ next) × (next ≤ length path)
      next_in = frame_fits path at next (sym framed ∙ is)

      left : path_of (drop at path) ≡ step_then (step_of (piece_in path at next)) (path_of (drop next path))
      left = path_more path at h next (sym framed ∙ is)

      parts : (is_there (step_of (piece_in path at next)) ≡ true) × (is_there (path_of (drop (next) path)) ≡ true)
      parts = both_there (step_of (piece_in path at next)) (path_of (drop (next) path)) (ap is_there (sym left) ∙ seen.good)

      -- what the step asks
      pub step_asks : LawfulIn names (here value start end) × (is_there (step_of (piece_in path at next)) ≡ true)
      step_asks = (seen.lawful, parts.0)

      module _ (r : Option Child) (told : r ≡ (and_then (step_of (piece_in path at next)) λ step. step_into names step (here value start end))) where
        onward : (and_then (path_of path) λ steps. find_from names steps 0 value)
            ≡ (and_then (and_then (step_of (piece_in path at next)) λ step. step_into names step (here value start end)) λ child.
            and_then (path_of (drop (next) path)) λ steps. find_from names steps (start + child.start) (child_bytes (here value start end) child))
        onward =
            seen.whole_is ∙ ap (λ (x : Option (List Step)). and_then x λ steps. find_from names steps start (here value start end)) left
            ∙ find_more names (step_of (piece_in path at next)) (path_of (drop (next) path)) start (here value start end) parts.1

        pub find_lost : r ≡ None → (steps : List Step) → path_of path ≡ Some steps → None ≡ find_from names steps 0 value
        unfolding and_then
        find_lost e steps is-path =
            let nothing = sym told ∙ e in
            let all : find_from names steps 0 value ≡ None =
            sym (ap (λ (x : Option (List Step)). and_then x λ steps. find_from names steps 0 value) is-path) ∙ onward
            ∙ ap (λ (x : Option Child). and_then x λ child.
            and_then (path_of (drop (next) path)) λ steps. find_from names steps (start + child.start) (child_bytes (here value start end) child)) nothing in
            rw all

        module _ (child : Child) (e : r ≡ Some child) where
          led : (and_then (step_of (piece_in path at next)) λ step. step_into names step (here value start end)) ≡ Some child
          led = sym told ∙ e

          next_held : (child.start + child.size ≤ length (here value start end)) × LawfulIn names (child_bytes (here value start end) child)
          next_held = go (step_of (piece_in path at next)) led
            where
              go : (x : Option Step) → (and_then x λ step. step_into names step (here value start end)) ≡ Some child
                  → (child.start + child.size ≤ length (here value start end)) × LawfulIn names (child_bytes (here value start end) child)
              go x f = let one = then_some x _ f in step_held seen.lawful one.0 child one.2

          next_end : (child.start + child.size ≤ end - start) × (start + child.start + child.size ≤ length value)
          next_end = let fit = next_held.0 in let size_is = long in let top = seen.end_in in let order = seen.order in (omega arith, omega arith)

          pub start_fits : Fits w64 (start + child.start)
          start_fits = let fit = next_end.1 in let few = seen.few in record { fits = omega arith }

          pub end_fits : Fits w64 (start + child.start + child.size)
          end_fits = let fit = next_end.1 in let few = seen.few in record { fits = omega arith }

          pub find_next : FindSeen names value path (start + child.start) (start + child.start + child.size) (next)
          unfolding and_then
          find_next =
              record {
                order = omega arith;
                end_in = next_end.1;
                few = seen.few;
                within = next_in.1;
                lawful = rw (← here_child value start end child next_end.0) next_held.1;
                good = parts.1;
                whole_is =
                    onward ∙ ap (λ (x : Option Child). and_then x λ child.
                    and_then (path_of (drop (next) path)) λ steps. find_from names steps (start + child.start) (child_bytes (here value start end) child)) led
                    ∙ ap (λ (l : List ℕ). and_then (path_of (drop (next) path)) λ steps. find_from names steps (start + child.start) l)
                    (here_child value start end child next_end.0);
              }

-- ---- what is found lies inside the value

pub found_inside : (names : Dictionary) (steps : List Step) (place : ℕ) (s : List ℕ) (child : Child) → LawfulIn names s
    → find_from names steps place s ≡ Some child → child.start + child.size ≤ place + length s
unfolding find_from child_bytes
found_inside names [] place s child lawful e = rw (← same_Some _ child e) (omega arith)
found_inside names (step ∷ more) place s child lawful e =
    let first = then_some (step_into names step s) _ e in
    let has = step_held lawful step first.0 first.1 in
    let inside = has.0 in
    let rest = found_inside names more (place + first.0.start) (child_bytes s first.0) child has.1 first.2 in
    let size : length (child_bytes s first.0) ≤ first.0.size = rw (length-take, length-drop) (omega arith) in
    omega arith
