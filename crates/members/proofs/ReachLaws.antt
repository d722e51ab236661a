-- The numbers of a member are there: its id, its start, and the start of the next.
use mathlib.Core.List.{List}
use mathlib.Core.Path.{◌≡◌, refl}
use Prim.Native.Nat.{ℕ, ◌+◌, ◌*◌, ◌≤◌}
use native.Mathlib.Nat.{le_refl, suc-mul}
use native.Mathlib.Numerals.{add-one}
use native.Mathlib.Omega.{arith}
use lib.ListN.{length}
use mir.Syntax.{w64}
use mir.Val.{Fits}
use Rattle.runs.proofs.NumbersRunLaws.{run_there}
use Rattle.members.specs.Members.{start_at, member_part, PartThere, IdThere}
use Rattle.members.specs.declared.Members.{Members}
use Rattle.numbers.specs.Little.{number_at}
use Rattle.paper.specs.Words.{part}

module _ {s : List ℕ} {m : Members} {k : ℕ} (there : IdThere s m k) where
  id_reach : m.ids + k * m.id + m.id ≤ length s
  id_reach =
      let last = run_there m.id m.count k (m.count * m.id) (k * m.id) (le_refl (m.count * m.id)) there.below refl in
      let inside = there.ids_in in
      omega arith

  pub id_place_fits : Fits w64 (k * m.id)
  id_place_fits = let reach = id_reach in let small = there.small in record { fits = omega arith }

  pub id_fits : Fits w64 (m.ids + k * m.id)
  id_fits = let reach = id_reach in let small = there.small in record { fits = omega arith }

  pub id_readable : (m.ids + k * m.id + m.id ≤ length s) × (1 ≤ m.id) × (m.id ≤ 4)
  id_readable = (id_reach, there.least, there.most)

module _ {s : List ℕ} {m : Members} {k : ℕ} (there : PartThere s m k) where
  next_start : (k + 1) * m.offset ≡ k * m.offset + m.offset
  next_start = rw (add-one k, suc-mul)

  start_reach : m.starts + k * m.offset + m.offset + m.offset ≤ length s
  start_reach =
      let below = there.below in
      let all : ℕ = (m.count + 1) * m.offset in
      let last = run_there m.offset (m.count + 1) (k + 1) all ((k + 1) * m.offset) (le_refl all) (omega arith) refl in
      let one = next_start in
      let inside = there.starts_in in
      omega arith

  pub start_place_fits : Fits w64 (k * m.offset)
  start_place_fits = let reach = start_reach in let small = there.small in record { fits = omega arith }

  pub start_fits : Fits w64 (m.starts + k * m.offset)
  start_fits = let reach = start_reach in let small = there.small in record { fits = omega arith }

  pub end_fits : Fits w64 (m.starts + k * m.offset + m.offset)
  end_fits = let reach = start_reach in let small = there.small in record { fits = omega arith }

  pub start_readable : (m.starts + k * m.offset + m.offset ≤ length s) × (1 ≤ m.offset) × (m.offset ≤ 4)
  start_readable = let reach = start_reach in (omega arith, there.least, there.most)

  pub end_readable : (m.starts + k * m.offset + m.offset + m.offset ≤ length s) × (1 ≤ m.offset) × (m.offset ≤ 4)
  end_readable = (start_reach, there.least, there.most)

  -- What was read is where the next member starts, and where this one does.
  module _ {to : ℕ} (end : to ≡ number_at s (m.starts + k * m.offset + m.offset) m.offset) where
    end_is : to ≡ start_at s m (k + 1)
    end_is =
        let one = next_start in
        let same : m.starts + k * m.offset + m.offset ≡ m.starts + (k + 1) * m.offset = omega arith in
        rw same at end

    pub part_inside : m.area + to ≤ length s
    part_inside = let is = end_is in let inside = there.area_in in omega arith

    pub part_fits : Fits w64 (m.area + to)
    part_fits = let inside = part_inside in let small = there.small in record { fits = omega arith }

    module _ {from : ℕ} (start : from ≡ number_at s (m.starts + k * m.offset) m.offset) where
      pub part_ordered : m.area + from ≤ m.area + to
      part_ordered = let is = end_is in let rises = there.rises in omega arith

      pub part_is : part s (m.area + from) (m.area + to) ≡ member_part s m k
      part_is = rw (start, end_is)
