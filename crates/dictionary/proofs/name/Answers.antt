-- `name`: the offsets of the id are read where they stand, and the name lies between them.
use native.Mathlib.Omega.{arith}
use borrow.Author.Rules.{rules}
use Rattle.dictionary.proofs.DictionaryLaws.{opened_width}
use Rattle.dictionary.proofs.NameLaws.{name_places, name_within, name_is}
use Rattle.dictionary.proofs.name.Goals as goal

pub overflow_add-place : goal.overflow_add-place
overflow_add-place c = let places = name_places c.requires in search rules

pub overflow_mul-place : goal.overflow_mul-place
overflow_mul-place c = let places = name_places c.requires in search rules

pub overflow_add-place-2 : goal.overflow_add-place-2
overflow_add-place-2 c = let places = name_places c.requires in search rules

pub overflow_add-area : goal.overflow_add-area
overflow_add-area c = let places = name_places c.requires in search rules

pub overflow_add-area-2 : goal.overflow_add-area-2
overflow_add-area-2 c = let places = name_places c.requires in search rules

pub overflow_mul-area : goal.overflow_mul-area
overflow_mul-area c = let places = name_places c.requires in search rules

pub overflow_add-area-3 : goal.overflow_add-area-3
overflow_add-area-3 c = let places = name_places c.requires in search rules

pub read-from-requires : goal.read-from-requires
read-from-requires c = let places = name_places c.requires in
    let width = opened_width c.requires.0 in
    (omega arith, width.0, width.1 (omega (arith, c.type_inv.metadata 0)))

pub overflow_add-place-3 : goal.overflow_add-place-3
overflow_add-place-3 c = let places = name_places c.requires in search rules

pub read-to-requires : goal.read-to-requires
read-to-requires c = let places = name_places c.requires in
    let width = opened_width c.requires.0 in
    (omega arith, width.0, width.1 (omega (arith, c.type_inv.metadata 0)))

pub slice_bounds-names-count : goal.slice_bounds-names-count
slice_bounds-names-count c = let places = name_places c.requires in search rules

pub slice_bounds-names-start : goal.slice_bounds-names-start
slice_bounds-names-start c = let places = name_places c.requires in search rules

pub slice_bounds-result-count : goal.slice_bounds-result-count
slice_bounds-result-count c = let within = name_within c.requires _ _ c.read-from.ensures.0 c.read-to.ensures.0 in search rules

pub slice_bounds-result-start : goal.slice_bounds-result-start
slice_bounds-result-start c = let within = name_within c.requires _ _ c.read-from.ensures.0 c.read-to.ensures.0 in search rules

pub slice_bounds-result-end : goal.slice_bounds-result-end
slice_bounds-result-end c = let within = name_within c.requires _ _ c.read-from.ensures.0 c.read-to.ensures.0 in search rules

pub returns : goal.returns
returns c = name_is c.requires _ _ c.read-from.ensures.0 c.read-to.ensures.0
