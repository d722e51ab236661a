-- The scan that fills the table: the fields in front of a place are told, the others are left.
use Rattle.std.specs.Prelude.{Some}
use mathlib.Core.Bool.{true}
use mathlib.Core.List.{List, [], ◌∷◌, ◌++◌, append-nil}
use mathlib.Core.Path.{◌≡◌, refl, sym, ap, subst, ◌∙◌}
use Prim.Native.Nat.{ℕ, ◌/◌, ◌≤◌, ◌<◌}
use native.Mathlib.Omega.{arith}
use lib.ListN.{length, length-set}
use lib.Seq.{append_snoc}
use Rattle.fields.proofs.ApartLaws.{Apart, node_apart, told_kept}
use Rattle.fields.proofs.EntryLaws.{entry_back, entry_there, entered}
use Rattle.fields.proofs.ScanLaws.{Left, over, node_left, FieldFirst, NodeFirst, Next, at_end, at_field, at_node, next}
use Rattle.fields.proofs.SpotLaws.{Spot, spots_in, AllTold, told_behind, told_in}
use Rattle.fields.specs.Telling.{entry_of, entry_place, looked_at, Told, Noted}
use Rattle.paper.specs.Limits.{most_levels}
use Rattle.paper.specs.Metadata.{Dictionary}
use Rattle.paper.specs.Schemas.{Schema, schema_of}
use Rattle.paper.specs.Words.{at, is_there}
use Rattle.paper.proofs.WordLaws.{there_some}
use Rattle.schemas.proofs.StandingLaws.{schema_stands}
use Rattle.schemas.proofs.WalkLaws.{next_forward}
use Rattle.schemas.specs.Frames.{frame_end}
use Rattle.schemas.specs.Positions.{field_node, field_name}
use Rattle.schemas.specs.Walk.{frame_next}

pub record ScanSeen (names : Dictionary) (s before table : List ℕ) (place : ℕ) : Type 0 where
  pub root : Schema
  pub is : schema_of s ≡ Some root
  pub front : List Spot
  pub left : List Spot
  pub whole : spots_in s root 0 ≡ front ++ left
  pub told : AllTold names table front
  pub rest : Left s place left
  pub size : length table ≡ length before

pub scan_start : (names : Dictionary) (s table : List ℕ) → is_there (schema_of s) ≡ true → ScanSeen names s table table 0
unfolding AllTold
scan_start names s table good =
    let read = there_some (schema_of s) good in
    let stands = schema_stands s read.0 read.1 in
    let spots : List Spot = spots_in s read.0 0 in
    let end : length s ≤ frame_end s 0 = omega (arith, stands.1) in
    record {
      root = read.0;
      is = read.1;
      front = [];
      left = spots;
      whole = refl;
      told = tt;
      rest = node_left most_levels read.0 [] stands.0 (sym (append-nil spots)) (over end refl);
      size = refl;
    }

module _ {names : Dictionary} {s before table : List ℕ} {place : ℕ} (scanned : ScanSeen names s before table place) where
  -- ---- a field

  module _ (inside : place < length s) (tagged : at s place ≡ 0x31) where
    pub field_first : FieldFirst s place scanned.left
    field_first = go (next scanned.rest)
      where
        go : Next s place scanned.left → FieldFirst s place scanned.left
        go (at_end past none_left) = absurd (omega arith)
        go (at_field first) = first
        go (at_node first) = absurd (first.no_field tagged)

    pub field_entry : length s / 9 ≤ length before → entry_place place < length table
    field_entry room =
        let size = scanned.size in
        let first = field_first in
        entry_there place (length s) (length table) first.room (omega arith)

    pub scan_field : length s / 9 ≤ length before → {after : List ℕ} → Noted names (field_name s place) place table after → ScanSeen names s before after (field_node s place)
    scan_field room {after} noted =
        let first = field_first in
        let spot : Spot = record { place = place; name = field_name s place } in
        let stands = schema_stands s scanned.root scanned.is in
        let whole : spots_in s scanned.root 0 ≡ scanned.front ++ (spot ∷ first.more) = scanned.whole ∙ ap (λ (l : List Spot). scanned.front ++ l) first.first in
        let apart : Apart 3 (frame_end s 0) (scanned.front ++ (spot ∷ first.more)) = rw whole at (node_apart s scanned.root most_levels 0 stands.0) in
        let there : entry_place place < length table = field_entry room in
        let last : looked_at after place ≡ noted.looked =
        ap (λ (t : List ℕ). looked_at t place) noted.entered ∙ entered table place (entry_of noted.looked) there ∙ entry_back noted.looked in
        let kept : AllTold names after scanned.front =
        rw noted.entered (told_kept names table (entry_of noted.looked) scanned.front spot first.more apart scanned.told) in
        record {
          root = scanned.root;
          is = scanned.is;
          front = scanned.front ++ (spot ∷ []);
          left = first.more;
          whole = whole ∙ sym (append_snoc scanned.front spot first.more);
          told = told_behind names after scanned.front spot kept (rw last noted.tells);
          rest = first.rest;
          size = ap length noted.entered ∙ length-set table (entry_place place) (entry_of noted.looked) ∙ scanned.size;
        }

  -- ---- a node

  module _ (inside : place < length s) (no_field : at s place ≡ 0x31 → ⊥) where
    pub node_first : NodeFirst s place scanned.left
    node_first = go (next scanned.rest)
      where
        go : Next s place scanned.left → NodeFirst s place scanned.left
        go (at_end past none_left) = absurd (omega arith)
        go (at_field first) = absurd (no_field first.tagged)
        go (at_node first) = first

    pub scan_node : ScanSeen names s before table (frame_next s place)
    scan_node =
        record {
          root = scanned.root;
          is = scanned.is;
          front = scanned.front;
          left = scanned.left;
          whole = scanned.whole;
          told = scanned.told;
          rest = node_first.rest;
          size = scanned.size;
        }

  -- ---- the end

  pub scan_done : length s ≤ place → (node : Schema) → schema_of s ≡ Some node → Told names s table node 0
  scan_done past node e = go (next scanned.rest)
    where
      go : Next s place scanned.left → Told names s table node 0
      go (at_end end none_left) =
          let same : scanned.root ≡ node = let f = scanned.is in cc in
          let all : spots_in s scanned.root 0 ≡ scanned.front = scanned.whole ∙ ap (λ (l : List Spot). scanned.front ++ l) none_left ∙ append-nil scanned.front in
          subst (λ (n : Schema). Told names s table n 0) same (told_in names table s scanned.root 0 (rw all scanned.told))
      go (at_field first) = absurd (let room = first.room in omega arith)
      go (at_node first) = absurd (let room = first.room in let forward = next_forward s place in omega arith)
