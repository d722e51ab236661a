-- The quick look at a place: an empty one is lawful, and so is one good cell alone under a column, by its frame and its node's tag.
use Rattle.std.specs.Prelude.{Some}
use mathlib.Core.Bool.{Bool, true}
use mathlib.Core.List.{List}
use mathlib.Core.Path.{◌≡◌, refl, sym, ◌∙◌}
use Prim.Native.Nat.{ℕ, ◌+◌, ◌-◌, ◌≤◌, ◌<◌}
use native.Mathlib.Omega.{arith}
use lib.ListN.{length}
use Rattle.numbers.specs.Little.{number_at}
use Rattle.paper.specs.Cells.{cell_meaning}
use Rattle.paper.specs.Metadata.{Dictionary}
use Rattle.paper.specs.Schemas.{Schema, column_code}
use Rattle.paper.specs.Words.{at, part, is_there}
use Rattle.places.specs.Parts.{parts_of}
use Rattle.places.specs.Verdicts.{place_verdict}
use Rattle.places.specs.Walking.{NodeReady}
use Rattle.places.specs.declared.parts.Parts.TheVariants.{Typed}
use Rattle.places.specs.declared.verdicts.Verdict.TheVariants.{Lawful}
use Rattle.schemas.specs.Positions.{Stands}
use Rattle.frames.proofs.FrameLaws.{ends_there}
use Rattle.places.proofs.PartLaws.{only_typed, split_one}
use Rattle.places.proofs.PlaceLaws.{told_by, place_empty, place_typed}
use Rattle.schemas.proofs.KindLaws.{kind_there, kind_column, column_here_lem}
use Rattle.rows.proofs.WalkLaws.{typed_cell}
use Rattle.rows.specs.Quick.{NodeThere}

-- ---- what the look asks and reads

pub some_node : {levels : ℕ} {names : Dictionary} {s table : List ℕ} {place : ℕ} → NodeReady levels names s table place → NodeThere s place
some_node {levels} ready = record { levels = levels; node = ready.node; stands = ready.stands }

-- A node of a column's tag has a column's code behind its frame's head.
module _ {s : List ℕ} {place : ℕ} (there : NodeThere s place) (tagged : at s place ≡ 0x10) where
  pub code_there : place + 3 < length s
  code_there = (kind_there there.stands).code_there tagged

  pub code_good : column_code (at s (place + 3)) ≡ true
  code_good =
      let here = column_here_lem there.stands (kind_column s place tagged) refl in rw here.2 at here.3.good

-- ---- what it tells

-- Whatever node stands there.
abbrev pub LawfulThere : (s : List ℕ) (place : ℕ) (body : List ℕ) → Type 0
LawfulThere s place body = (levels : ℕ) (names : Dictionary) (under : Schema) → Stands levels s place under → place_verdict under levels names body ≡ Lawful

pub empty_lawful : (s : List ℕ) (place : ℕ) (body : List ℕ) → length body ≡ 0 → LawfulThere s place body
empty_lawful s place body e levels names under stands = place_empty under levels names body e

-- One frame of something typed fills the body.
typed_alone : (body : List ℕ) → at body 0 ≡ 0x42 → 3 ≤ length body → length body - 3 ≡ number_at body 1 2 → Typed ≡ parts_of body
typed_alone body tagged long fills =
    split_one body (omega arith) (Some (0 + 3 + (length body - 3))) (ends_there body 0 (omega arith) (length body - 3) fills (omega arith))
    (0 + 3 + (length body - 3)) refl (omega arith) Typed (only_typed (at body 0) tagged)

pub cell_lawful : (s : List ℕ) (place : ℕ) (body : List ℕ) → at body 0 ≡ 0x42 → 3 ≤ length body → length body - 3 ≡ number_at body 1 2 → at s place ≡ 0x10
    → (good : Bool) → good ≡ is_there (cell_meaning (record { code = at s (place + 3) }) (part body 3 (length body))) → good ≡ true → LawfulThere s place body
cell_lawful s place body tagged long fills column good is-good e levels names under stands =
    place_typed under levels names body (told_by body (typed_alone body tagged long fills) refl)
    ∙ sym (typed_cell (kind_column s place column) names (part body 3 (length body)) refl good is-good Lawful (rw e) under stands)
