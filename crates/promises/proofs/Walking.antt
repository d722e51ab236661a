-- Every place is reached by a path, shown: over the node. A name leads to its own field, as the names of a node differ.
use Rattle.std.specs.Prelude.{Some}
use mathlib.Core.Bool.{Bool, true, false, cond}
use mathlib.Core.List.{List, [], ◌∷◌}
use mathlib.Core.Path.{◌≡◌, refl, sym, ap, ◌∙◌}
use Prim.Native.Nat.{ℕ, zero, suc, ◌-◌}
use Rattle.names.proofs.RisingLaws.{rising_more, rising_once}
use Rattle.names.proofs.SameLaws.{same_refl, same_is}
use Rattle.paper.proofs.WordLaws.{never}
use Rattle.paper.specs.Limits.{most_levels}
use Rattle.paper.specs.Metadata.{rising}
use Rattle.paper.specs.Rows.{Place, empty, leftover, typed, both, cell, inner, Places, no_places, place}
use Rattle.paper.specs.Rules.{inside_lawful, inner_lawful}
use Rattle.paper.specs.Schemas.{Schema, leftover_only, column, list, fields, SchemaFields, none_named, named, column_names}
use Rattle.paper.specs.Standing.{Step, by_name, by_index}
use Rattle.paper.specs.Words.{and_then, same, among}
use Rattle.schemas.proofs.GoodLaws.{good_element, good_object, good_field, schema_good}
use Rattle.schemas.specs.Written.{good_schema, good_fields}
use Rattle.written.specs.Everywhere.{every_element, everywhere, every_field}
use Rattle.promises.specs.Walking.{Stop, inner_in, inner_of, place_number, place_named, step_to, place_at, EveryPlaceReached}
use Rattle.promises.proofs.ShownLaws.{found_named}

-- What holds of the inner places of a place holds of what is typed in it.
inner_inside : (All : Places → Bool) (p : Place) → All (inner_of p) ≡ true → inside_lawful (inner_lawful All) p ≡ true
unfolding inside_lawful inner_lawful inner_of inner_in
inner_inside All empty holds = refl
inner_inside All (leftover d) holds = refl
inner_inside All (typed (cell said value)) holds = refl
inner_inside All (typed (inner ps)) holds = holds
inner_inside All (both d (cell said value)) holds = refl
inner_inside All (both d (inner ps)) holds = holds

all_elements : (One : Place → Bool) (ps : Places) → ((index : ℕ) (q : Place) → place_number index ps ≡ Some q → One q ≡ true) → every_element One ps ≡ true
unfolding place_number every_element
all_elements One no_places each = refl
all_elements One (place p ps) each = rw (each zero p refl) (all_elements One ps (λ index q found. each (suc index) q found))

module _ (test : Schema → Place → Bool) where
  -- A test holds wherever a path leads.
  abbrev Along : Schema → Place → Type 0
  Along node p = (path : List Step) (stop : Stop) → place_at node p path ≡ Some stop → test stop.node stop.held ≡ true

  AlongFields : SchemaFields → Places → Type 0
  AlongFields columns ps = (name : List ℕ) (next : Stop) → place_named name columns ps ≡ Some next → Along next.node next.held

  element_along : (element : Schema) (p : Place) → Along (list element) p → (index : ℕ) (q : Place) → place_number index (inner_of p) ≡ Some q → Along element q
  unfolding place_at step_to and_then
  element_along element p along index q there path stop found = along (by_index index ∷ path) stop (rw there found)

  fields_along : (columns : SchemaFields) (p : Place) → Along (fields columns) p → AlongFields columns (inner_of p)
  unfolding place_at step_to and_then AlongFields
  fields_along columns p along name next there path stop found = along (by_name name ∷ path) stop (rw there found)

  first_along : (name : List ℕ) (node : Schema) (columns : SchemaFields) (p : Place) (ps : Places) → AlongFields (named name node columns) (place p ps) → Along node p
  unfolding AlongFields place_named
  first_along name node columns p ps along = along name (record { node = node; held = p }) (rw (same_refl name))

  others_along : (name : List ℕ) (node : Schema) (columns : SchemaFields) (p : Place) (ps : Places) → rising (name ∷ column_names columns) ≡ true
      → AlongFields (named name node columns) (place p ps) → AlongFields columns ps
  unfolding AlongFields place_named
  others_along name node columns p ps rise along other next found = along other next (go (same name other) refl)
    where
      go : (b : Bool) → same name other ≡ b → cond b (Some (record { node = node; held = p })) (place_named other columns ps) ≡ Some next
      go true is =
          never (sym (found_named other columns ps next found) ∙ ap (λ (n : List ℕ). among n (column_names columns)) (sym (same_is name other is))
          ∙ rising_once name (column_names columns) rise)
      go false is = found

  mutual
    unfolding everywhere every_field place_at column_names

    reached : (node : Schema) (levels : ℕ) → good_schema node levels ≡ true → (p : Place) → Along node p → everywhere test node p ≡ true
    reached leftover_only levels good p along = along [] (record { node = leftover_only; held = p }) refl
    reached (column said) levels good p along = along [] (record { node = column said; held = p }) refl
    reached (list element) levels good p along =
        rw (along [] (record { node = list element; held = p }) refl)
        (inner_inside (every_element (λ q. everywhere test element q)) p
        (all_elements (λ q. everywhere test element q) (inner_of p) (λ index q there.
        reached element (levels - 1) (good_element element levels good) q (element_along element p along index q there))))
    reached (fields columns) levels good p along =
        let object = good_object columns levels good in
        rw (along [] (record { node = fields columns; held = p }) refl)
        (inner_inside (λ ps. every_field test columns ps) p
        (reached_fields columns (levels - 1) object.inside object.rise (inner_of p) (fields_along columns p along)))

    reached_fields : (columns : SchemaFields) (levels : ℕ) → good_fields columns levels ≡ true → rising (column_names columns) ≡ true → (ps : Places)
        → AlongFields columns ps → every_field test columns ps ≡ true
    reached_fields none_named levels good rise ps along = refl
    reached_fields (named name node columns) levels good rise no_places along = refl
    reached_fields (named name node columns) levels good rise (place p ps) along =
        let goods = good_field name node columns levels good in
        rw (reached node levels goods.0 p (first_along name node columns p ps along))
        (reached_fields columns levels goods.1 (rising_more name (column_names columns) rise) ps (others_along name node columns p ps rise along))

pub every_place_reached : EveryPlaceReached
every_place_reached test schema node p is along = reached test node most_levels (schema_good schema node is) p along
