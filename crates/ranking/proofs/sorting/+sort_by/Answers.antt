use Prim.Native.Nat.{◌/◌, ◌≤◌}
use native.Mathlib.Omega.{arith}
use borrow.Author.Rules.{rules}
use lib.ListN.{length}
use Rattle.ranking.proofs.SortedHalfLaws.{sort_none, first_size, first_shorter, second_below, second_size, both_below, both_size, both_sorted}
use Rattle.ranking.proofs.HalfLaws.{half_below}
use Rattle.ranking.proofs.sorting.+sort_by.Goals as goal

pub returns-then-half-eq0 : goal.returns-then-half-eq0
returns-then-half-eq0 t c = sort_none c.args.dictionary.now.names c.args.ids.now c.if-half-eq0.true

pub slice_bounds-sort_by-end-2 : goal.slice_bounds-sort_by-end-2
slice_bounds-sort_by-end-2 t c = first_size c.args.ids.now c.if-half-eq0.false

pub sort_by-requires : goal.sort_by-requires
sort_by-requires t c = let ids = c.args.ids.now in
    let pre = c.requires in
    let shorter = first_shorter ids c.if-half-eq0.false in
    (omega arith, (half_below ids (length ids / 2) _ pre.0, omega arith))

pub sort_by-requires-2 : goal.sort_by-requires-2
sort_by-requires-2 t c = let some = c.if-half-eq0.false in
    let pre = c.requires in
    let ids = c.args.ids.now in
    let names = c.args.dictionary.now.names in
    let half = length ids / 2 in
    let within : half ≤ length ids = omega arith in
    let size = second_size names ids half within _ c.sort_by.ensures in
    (omega arith, (second_below names ids half within _ c.sort_by.ensures _ pre.0, search rules))

pub join-requires : goal.join-requires
join-requires t c = let pre = c.requires in
    let ids = c.args.ids.now in
    let names = c.args.dictionary.now.names in
    let half = length ids / 2 in
    let within : half ≤ length ids = omega arith in
    let size = both_size names ids half within _ c.sort_by.ensures _ c.sort_by-2.ensures in
    (both_below names ids half within _ c.sort_by.ensures _ c.sort_by-2.ensures _ pre.0, search rules, omega arith)

pub returns : goal.returns
returns t c = let ids = c.args.ids.now in
    let names = c.args.dictionary.now.names in
    let half = length ids / 2 in
    let within : half ≤ length ids = omega arith in
    both_sorted names ids half within _ c.sort_by.ensures _ c.sort_by-2.ensures c.join.ensures
