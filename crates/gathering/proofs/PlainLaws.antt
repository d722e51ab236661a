-- A plain place uses no id: it has no bytes, or a cell alone, or a leftover that is no container.
use Rattle.std.specs.Prelude.{Some}
use mathlib.Core.Bool.{Bool, true, false}
use mathlib.Core.List.{List, []}
use mathlib.Core.Path.{◌≡◌, refl, sym, ap, ◌∙◌}
use Prim.Native.Nat.{ℕ, ◌+◌, ◌-◌, ◌%◌, ◌≤◌, ◌<◌}
use native.Mathlib.Omega.{arith}
use borrow.Author.Tests.{eqb-true, ltb-true}
use lib.Dec.{eqb, ltb}
use lib.ListN.{length, drop}
use lib.Seq.{get_or-take, get_or-drop}
use Rattle.frames.proofs.FrameLaws.{ends_there, frame_ends}
use Rattle.frames.specs.Frames.{frame_end}
use Rattle.marking.proofs.ChildLaws.{no_ids}
use Rattle.marking.specs.Ids.{ids_in, mark_ids}
use Rattle.numbers.specs.Little.{number_at}
use Rattle.paper.proofs.WordLaws.{never}
use Rattle.paper.specs.Schemas.{Schema}
use Rattle.paper.specs.Words.{at, part}
use Rattle.places.proofs.PartLaws.{parts_empty, parts_one, only_leftover}
use Rattle.places.proofs.PlaceLaws.{Told, told}
use Rattle.places.specs.Parts.{parts_of}
use Rattle.places.specs.declared.parts.Parts.TheVariants.{Empty, Leftover, Typed, Both, Unframed}
use Rattle.places.specs.declared.parts.Parts.{Parts}
use Rattle.rebuilt.proofs.PartwiseLaws.{ids_are-typed, no_left-ids}
use Rattle.rebuilt.specs.Rebuilt.{rebuilt_by}
use Rattle.rebuilt.specs.Using.{place_ids}
use Rattle.schemas.proofs.KindLaws.{kind_column, kind_there, column_here_lem}
use Rattle.schemas.specs.Positions.{Stands}
use Rattle.gathering.specs.Gathering.{PlaceReady, Plain}

-- ---- for the test

module _ (schema : List ℕ) (node : ℕ) (body : List ℕ) where
  pub not_told : false ≡ true → Plain schema node body
  not_told e = never (sym e)

  pub empty_plain : length body ≡ 0 → true ≡ true → Plain schema node body
  unfolding rebuilt_by
  empty_plain e answered =
      record { none_used = λ levels table under stands. ids_are-typed under levels schema table node body ∙ rw (← parts_empty body e) }

  -- A cell alone, or frames that are no place's.
  cell_by : at body 0 ≡ 0x42 → (levels : ℕ) (p : Parts) → Told body p → rebuilt_by [] [] (ids_in levels) (λ left typed. ids_in levels left) p body ≡ []
  unfolding rebuilt_by
  cell_by first levels Empty frames = refl
  cell_by first levels Leftover frames = absurd (omega (arith, frames.tagged))
  cell_by first levels Typed frames = no_left-ids levels
  cell_by first levels (Both middle) frames = absurd (omega (arith, frames.first_tag))
  cell_by first levels Unframed frames = refl

  pub cell_plain : at body 0 ≡ 0x42 → eqb (at schema node) 0x10 ≡ true → Plain schema node body
  unfolding place_ids
  cell_plain first test =
      let tagged : at schema node ≡ 0x10 = eqb-true (at schema node) 0x10 test in
      record {
        none_used =
            λ levels table under stands.
            let here = column_here_lem stands (kind_column schema node tagged) refl in
            ap (λ (n : Schema). place_ids n levels schema table node body) here.1 ∙ cell_by first levels (parts_of body) (told body);
      }

  module _ (first : at body 0 ≡ 0x41) (long : 4 ≤ length body) (size : ℕ) (is : size ≡ number_at body 1 2) (fills : 3 + size ≡ length body) where
    one_leftover : parts_of body ≡ Leftover
    one_leftover =
        let ends : frame_end body 0 ≡ Some (3 + size) = frame_ends body 0 (3 + size) _ (ends_there body 0 (omega arith) size is (omega arith)) refl in
        parts_one body (3 + size) ends fills ∙ sym (only_leftover (at body 0) first)

    first_own : at (part body 3 (length body)) 0 ≡ at body 3
    first_own = get_or-take (length body - 3) (drop 3 body) 0 0 (omega arith) ∙ get_or-drop 3 body 0 0

    pub leftover_plain : ltb (at body 3 % 4) 2 ≡ true → Plain schema node body
    unfolding rebuilt_by
    leftover_plain test =
        let no-container : at (part body 3 (length body)) 0 % 4 < 2 = rw first_own (ltb-true (at body 3 % 4) 2 test) in
        record {
          none_used =
              λ levels table under stands.
              ids_are-typed under levels schema table node body ∙ rw one_leftover (no_ids levels (part body 3 (length body)) no-container);
        }

-- ---- for the walk

pub held-node_in : {levels : ℕ} {schema table : List ℕ} {node : ℕ} {body : List ℕ} {size : ℕ} → PlaceReady levels schema table node body size → node < length schema
held-node_in ready = (kind_there ready.there.stands).tag_there

pub plain_marked : {schema : List ℕ} {node : ℕ} {body : List ℕ} {b : Bool} → (b ≡ true → Plain schema node body) → b ≡ true
    → (levels : ℕ) (table used : List ℕ) (under : Schema) → Stands levels schema node under → used ≡ mark_ids used (place_ids under levels schema table node body)
unfolding mark_ids
plain_marked tells answered levels table used under stands = sym (ap (mark_ids used) ((tells answered).none_used levels table under stands))
