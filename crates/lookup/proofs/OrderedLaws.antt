-- All ids of a lent dictionary in the order of their names, and what halving them tells of a name.
use Rattle.std.specs.Prelude.{Some, None}
use mathlib.Core.Bool.{Bool, true, false, cond}
use mathlib.Core.List.{List, [], ◌++◌}
use mathlib.Core.Path.{◌≡◌, refl, sym, ap, ◌∙◌}
use Prim.Native.Nat.{ℕ, ◌+◌, ◌≤◌, ◌<◌}
use native.Mathlib.Omega.{arith}
use lib.ListN.{length, get_or, take, length-take}
use lib.Seq.{get_or-take, take_at, length-take-le}
use Rattle.dictionary.specs.Judging.{Opened}
use Rattle.dictionary.specs.Lent.{LentNames, Lent}
use Rattle.dictionary.specs.declared.Names.{Names}
use Rattle.dictionary.specs.declared.ids.InputId.{InputId}
use Rattle.order.specs.Before.{order_of}
use Rattle.std.specs.declared.cmp.Ordering.TheVariants.{Less, Equal, Greater}
use Rattle.std.specs.declared.cmp.Ordering.{Ordering}
use Rattle.paper.specs.Metadata.{Dictionary, names_in, rising, offset_size, name_count, flag_set}
use Rattle.paper.specs.Values.{names_at}
use Rattle.paper.specs.Words.{at, among, all_below}
use Rattle.ranking.specs.Ranks.{Sorted}
use Rattle.lookup.specs.Looking.{Tells, found, missing, Ordered, ids_below, ids_in_order}
use Rattle.dictionary.proofs.DictionaryLaws.{opened_rising}
use Rattle.dictionary.proofs.LentLaws.{lent_there, lent_names_in, lent_sorted}
use Rattle.runs.proofs.NumbersRunLaws.{below_at}
use Rattle.lookup.proofs.HalvingLaws.{LookSeen, rising_never, halved_start, halved_less, halved_greater, halved_none}
use Rattle.lookup.proofs.IdLaws.{ids_length, ids_at, ids_below_lem, names_all}
use Rattle.order.proofs.OrderLaws.{equal_same}
use Rattle.paper.proofs.WordLaws.{never}
use Rattle.ranking.proofs.HeldLaws.{names_length, names_place, same_names}
use Rattle.ranking.proofs.SortLaws.{sorted_below}

-- ---- all ids, in order

-- A lent dictionary's flag says that its names rise.
pub lent_rises : {d : LentNames} → Lent d → d.sorted ≡ true → rising d.names ≡ true
lent_rises {d} lent set =
    let m = lent.metadata in
    let read : Names = record { width = offset_size (at m 0); count = name_count m; sorted = flag_set (at m 0) } in
    let opened : Opened m read = record { there = lent_there lent; width = refl; count = refl; sorted = refl } in
    let rise : rising (names_in m) ≡ true = opened_rising opened (lent_sorted lent ∙ set) in
    rw (lent_names_in lent) at rise

-- The table is sorted once, and the sorted flag is as good.
pub order_sorted : {d : LentNames} {order : List ℕ} → Lent d → Ordered d order → Sorted d.names (ids_below (length d.names)) (ids_in_order d order)
unfolding ids_in_order
order_sorted {d} {order} lent told = go d.sorted refl
  where
    go : (b : Bool) → d.sorted ≡ b
        → Sorted d.names (ids_below (length d.names)) (cond b (ids_below (length d.names)) (take (length d.names) order))
    go false e = told.ids e
    go true e =
        record { size = refl; members = λ id. refl; order = rw (names_all d.names (length d.names) refl) (rising_never d.names (lent_rises lent e)) }

pub order_room : {d : LentNames} {order : List ℕ} → Ordered d order → d.sorted ≡ false → length d.names ≤ length order
order_room {d} {order} told clear =
    let size : length (take (length d.names) order) ≡ length (ids_below (length d.names)) = (told.ids clear).size in
    let all : length (ids_below (length d.names)) ≡ length d.names = ids_length (length d.names) in
    let least = length-take (length d.names) order in
    omega arith

-- ---- the table made

-- All ids were listed in front of a table: what sorting them asks, and what comes of it.
module _ (order : List ℕ) {listed : List ℕ} {n count : ℕ} (is : n ≡ count) (room : count ≤ length order)
    (are : listed ≡ ids_below (length (take n order))) where
  all_listed : listed ≡ ids_below count
  all_listed = are ∙ ap ids_below (length-take-le n order (omega arith) ∙ is)

  pub listed_asks : (most : ℕ) → count ≤ most → (all_below count listed ≡ true) × (length listed ≤ most)
  listed_asks most few =
      let size = ids_length count in
      (rw all_listed (ids_below_lem count count (omega arith)), rw all_listed (omega arith))

  pub listed_sorted : {names : Dictionary} {sorted : List ℕ} → Sorted names listed sorted → Sorted names (ids_below count) sorted
  listed_sorted s = rw all_listed at s

module _ {d : LentNames} where
  pub order_flag : (order : List ℕ) → d.sorted ≡ true → Ordered d order
  order_flag order set = record { ids = λ clear. never (sym set ∙ clear) }

  pub order_table : {ids : List ℕ} → Sorted d.names (ids_below (length d.names)) ids → (more : List ℕ) → Ordered d (ids ++ more)
  order_table {ids} s more = record { ids = λ clear. rw (take_at ids more (length d.names) (s.size ∙ ids_length (length d.names))) s }

-- ---- the id at a place in the order

module _ (d : LentNames) (order : List ℕ) (place : ℕ) (h : place < length d.names) where
  pub at_flag : d.sorted ≡ true → place ≡ get_or (ids_in_order d order) place 0
  unfolding ids_in_order
  at_flag set = rw set (sym (ids_at (length d.names) place h))

  pub at_table : d.sorted ≡ false → {r : ℕ} → r ≡ get_or order place 0 → r ≡ get_or (ids_in_order d order) place 0
  unfolding ids_in_order
  at_table clear is = rw clear (is ∙ sym (get_or-take (length d.names) order place 0 h))

-- ---- a name looked up

-- The names in order.
abbrev pub names_in_order : LentNames → List ℕ → Dictionary
names_in_order d order = names_at d.names (ids_in_order d order)

module _ {d : LentNames} {order : List ℕ} (lent : Lent d) (told : Ordered d order) (name : List ℕ) where
  in_order : Sorted d.names (ids_below (length d.names)) (ids_in_order d order)
  in_order = order_sorted lent told

  ids_count : length (ids_in_order d order) ≡ length d.names
  ids_count = in_order.size ∙ ids_length (length d.names)

  pub look_start : (count : ℕ) → count ≡ length d.names → LookSeen (names_in_order d order) name 0 count
  look_start count all = halved_start (names_in_order d order) name count (names_length d.names (ids_in_order d order) ∙ ids_count ∙ sym all)

  module _ {low high : ℕ} (halved : LookSeen (names_in_order d order) name low high) where
    pub look_none : high ≤ low → Tells d.names name None
    look_none h =
        missing
        (ap (among name) (sym (names_all d.names (length d.names) refl))
        ∙ sym (same_names d.names (ids_in_order d order) (ids_below (length d.names)) in_order.members name)
        ∙ halved_none halved h)

    pub look_few : high ≤ length d.names
    look_few =
        let within = halved.within in
        let all = names_length d.names (ids_in_order d order) in
        let size = ids_count in
        omega arith

    module _ (middle : ℕ) (h : middle < high) where
      pub look_inside : middle < length d.names
      look_inside = let few = look_few in omega arith

      module _ (id : InputId) (is : id.0 ≡ get_or (ids_in_order d order) middle 0) where
        pub look_below : id.0 < length d.names
        look_below =
            let inside = look_inside in
            let size = ids_count in
            let all : all_below (length d.names) (ids_in_order d order) ≡ true =
            sorted_below d.names (length d.names) in_order (ids_below_lem (length d.names) (length d.names) (omega arith)) in
            let lower = below_at (length d.names) (ids_in_order d order) middle all (omega arith) in
            omega arith

        name_there : get_or (names_in_order d order) middle [] ≡ get_or d.names id.0 []
        name_there =
            let inside = look_inside in
            let size = ids_count in
            names_place d.names (ids_in_order d order) middle (omega arith) ∙ ap (λ (n : ℕ). get_or d.names n []) (sym is)

        module _ (side : Ordering) (answer : side ≡ order_of (get_or d.names id.0 []) name) where
          stands_there : {what : Ordering} → side ≡ what → order_of (get_or (names_in_order d order) middle []) name ≡ what
          stands_there e = rw name_there (sym answer ∙ e)

          pub look_found : side ≡ Equal → Tells d.names name (Some id)
          look_found e = found id look_below (equal_same (get_or d.names id.0 []) name (sym answer ∙ e))

          pub look_less : side ≡ Less → low ≤ middle → LookSeen (names_in_order d order) name (middle + 1) high
          look_less e l = halved_less halved in_order.order middle h l (stands_there e)

          pub look_greater : side ≡ Greater → low ≤ middle → LookSeen (names_in_order d order) name low middle
          look_greater e l = halved_greater halved in_order.order middle h l (stands_there e)
