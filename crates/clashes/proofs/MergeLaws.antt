-- One walk along a run of ids and the fields of a schema, whose names rise: where it stands, what is left of both decides.
use mathlib.Core.Bool.{Bool, true, false}
use mathlib.Core.List.{List, [], ◌∷◌}
use mathlib.Core.Path.{◌≡◌, refl, sym, ap, ◌∙◌}
use Prim.Native.Nat.{ℕ, ◌+◌, ◌-◌, ◌≤◌, ◌<◌}
use native.Mathlib.Omega.{arith}
use lib.ListN.{length, get_or, drop}
use Rattle.order.specs.Before.{order_of}
use Rattle.std.specs.declared.cmp.Ordering.TheVariants.{Less, Equal, Greater}
use Rattle.std.specs.declared.cmp.Ordering.{Ordering}
use Rattle.paper.specs.Metadata.{Dictionary, rising}
use Rattle.paper.specs.Schemas.{SchemaFields, column_names}
use Rattle.paper.specs.Values.{names_at}
use Rattle.paper.specs.Words.{all_below}
use Rattle.schemas.specs.Frames.{frame_end}
use Rattle.schemas.specs.Positions.{field_node, field_name, FieldsStand}
use Rattle.clashes.specs.Shared.{shared, SomeFields}
use Rattle.clashes.proofs.SharedLaws.{shared_none, shared_less, shared_greater, shared_equal}
use Rattle.runs.proofs.NumbersRunLaws.{below_at, next_number, no_more}
use Rattle.names.proofs.RisingLaws.{rising_more}
use Rattle.schemas.proofs.FieldsStandLaws.{FirstField, first_field, no_field}

-- Two names that were looked up, compared.
pub compared : (x y a b : List ℕ) → a ≡ x → b ≡ y → (r : Ordering) → r ≡ order_of a b → r ≡ order_of x y
compared x y a b first second r told = told ∙ rw (first, second)

-- What is left of some fields stands from a place on, and decides with what is left of some names.
pub record FieldsLeft (all left : List (List ℕ)) (schema : List ℕ) (field to levels : ℕ) (columns : SchemaFields) : Type 0 where
  pub more : SchemaFields
  pub stand : FieldsStand levels schema field to more
  pub whole_is : shared all (column_names columns) ≡ shared left (column_names more)

-- The walk has passed i ids, and the fields before a place.
pub record MergeSeen (names : Dictionary) (ids schema : List ℕ) (from to field i : ℕ) : Type 0 where
  pub rise : rising (names_at names (drop i ids)) ≡ true
  pub further : (levels : ℕ) (columns : SchemaFields) → FieldsStand levels schema from to columns
      → FieldsLeft (names_at names ids) (names_at names (drop i ids)) schema field to levels columns

pub merge_start : (names : Dictionary) (ids schema : List ℕ) (from to : ℕ) → rising (names_at names ids) ≡ true
    → MergeSeen names ids schema from to from 0
merge_start names ids schema from to rise =
    record {
      rise = rise;
      further = λ levels columns stand. record { more = columns; stand = stand; whole_is = refl };
    }

-- What is answered, of whatever fields stand there.
abbrev pub Said : Dictionary → List ℕ → List ℕ → (from to : ℕ) → Bool → Type 0
Said names ids schema from to r =
    (levels : ℕ) (columns : SchemaFields) → FieldsStand levels schema from to columns
    → r ≡ shared (names_at names ids) (column_names columns)

module _ {names : Dictionary} {ids schema : List ℕ} {from to field i : ℕ} (seen : MergeSeen names ids schema from to field i) where
  -- one of the two has ended
  pub ids_ended : length ids ≤ i → Said names ids schema from to false
  unfolding names_at shared
  ids_ended past levels columns stand =
      let left = seen.further levels columns stand in
      sym (left.whole_is ∙ ap (λ (l : List ℕ). shared (names_at names l) (column_names left.more)) (no_more ids i past))

  pub fields_ended : to ≤ field → Said names ids schema from to false
  unfolding column_names
  fields_ended past levels columns stand =
      let left = seen.further levels columns stand in
      let names-left = names_at names (drop i ids) in
      sym (left.whole_is ∙ ap (λ (more : SchemaFields). shared names-left (column_names more)) (no_field left.stand past) ∙ shared_none names-left)

  -- the field here
  module _ (some_left : field < to) where
    first : {levels : ℕ} {columns : SchemaFields} (stand : FieldsStand levels schema from to columns)
        → FirstField levels schema field to (seen.further levels columns stand).more
    first {levels} {columns} stand = first_field (seen.further levels columns stand).stand some_left

    pub name_there : SomeFields schema from to → field_node schema field ≤ length schema
    name_there fields = let inside = (first fields.stand).stands.inside.within in omega arith

    pub frame_there : SomeFields schema from to → frame_end schema field ≤ length schema
    frame_there fields = let here = (first fields.stand).stands in omega (arith, here.frame_in, here.behind.within)

    pub frame_falls : SomeFields schema from to → (next : ℕ) → next ≡ frame_end schema field → to - next < to - field
    frame_falls fields next is = omega arith

    -- the id here
    module _ (h : i < length ids) (id : ℕ) (is : id ≡ get_or ids i 0) where
      pub id_below : all_below (length names) ids ≡ true → id < length names
      id_below below = rw is (below_at (length names) ids i below h)

      abbrev name : List ℕ
      name = get_or names id []

      abbrev others : List (List ℕ)
      others = names_at names (drop (i + 1) ids)

      names_next : names_at names (drop i ids) ≡ name ∷ others
      unfolding names_at
      names_next = rw (next_number ids i h id is)

      names_rise : rising (name ∷ others) ≡ true
      names_rise = sym (ap rising names_next) ∙ seen.rise

      -- whatever fields stand there, how the two names compare says what is left
      module _ (r : Ordering) (told : r ≡ order_of (get_or names id []) (field_name schema field)) where
        answered : {o : Ordering} → r ≡ o → order_of name (field_name schema field) ≡ o
        answered e = sym told ∙ e

        module _ {levels : ℕ} {columns : SchemaFields} (stand : FieldsStand levels schema from to columns) where
          abbrev left : SchemaFields
          left = (seen.further levels columns stand).more

          abbrev behind : List (List ℕ)
          behind = column_names (first stand).more

          fields_next : column_names left ≡ field_name schema field ∷ behind
          unfolding column_names
          fields_next = ap column_names (first stand).are ∙ ap (λ (n : List ℕ). n ∷ behind) (first stand).stands.name_is

          fields_rise : rising (field_name schema field ∷ behind) ≡ true
          fields_rise = sym (ap rising fields_next) ∙ (seen.further levels columns stand).stand.rise

          whole_here : shared (names_at names ids) (column_names columns) ≡ shared (name ∷ others) (field_name schema field ∷ behind)
          whole_here = (seen.further levels columns stand).whole_is ∙ rw (names_next, fields_next)

        -- the id's name comes first: no field has it
        pub merge_less : r ≡ Less → MergeSeen names ids schema from to field (i + 1)
        merge_less e =
            record {
              rise = rising_more name others names_rise;
              further = λ levels columns stand.
                  record {
                    more = left stand;
                    stand = (seen.further levels columns stand).stand;
                    whole_is = whole_here stand
                        ∙ shared_less name (field_name schema field) others (behind stand) (answered e) (fields_rise stand)
                        ∙ sym (ap (shared others) (fields_next stand));
                  };
            }

        -- the field's name comes first: no id has it
        pub merge_greater : r ≡ Greater → (next : ℕ) → next ≡ frame_end schema field → MergeSeen names ids schema from to next i
        merge_greater e next ends =
            rw ends
            (record {
              rise = seen.rise;
              further = λ levels columns stand.
                  record {
                    more = (first stand).more;
                    stand = (first stand).stands.behind;
                    whole_is = whole_here stand
                        ∙ shared_greater name (field_name schema field) others (behind stand) (answered e) names_rise
                        ∙ sym (ap (λ (l : List (List ℕ)). shared l (behind stand)) names_next);
                  };
            })

        pub merge_equal : r ≡ Equal → Said names ids schema from to true
        merge_equal e levels columns stand =
            sym (whole_here stand ∙ shared_equal name (field_name schema field) others (behind stand) (answered e))
