-- A leftover's names: only an object has any, and a lawful object's are those of its ids, which rise.
use Rattle.std.specs.Prelude.{Some}
use mathlib.Core.Bool.{Bool, true, false, ◌&&◌}
use mathlib.Core.List.{List}
use mathlib.Core.Path.{◌≡◌, sym, ◌∙◌}
use Prim.Native.Nat.{ℕ}
use lib.ListN.{length}
use Rattle.paper.specs.FirstBytes.{reading_of}
use Rattle.paper.specs.Meaning.{Doc}
use Rattle.paper.specs.Metadata.{Dictionary, rising}
use Rattle.paper.specs.Rules.{has_any}
use Rattle.paper.specs.Schemas.{SchemaFields, column_names}
use Rattle.paper.specs.Values.{area_of, ids_of, names_at, members_of, meaning_of}
use Rattle.paper.specs.Words.{at, all_below, is_there}
use Rattle.paper.specs.declared.Reading.TheVariants.{ObjectHead}
use Rattle.paper.specs.declared.Reading.{Reading}
use Rattle.paths.specs.Places.{LawfulIn}
use Rattle.schemas.specs.Positions.{FieldsStand}
use Rattle.boxes.proofs.MemberLaws.{made_of}
use Rattle.clashes.proofs.LeftKindLaws.{no_object}
use Rattle.clashes.proofs.MergeLaws.{Said}
use Rattle.clashes.proofs.SharedLaws.{any_shared, names_given}
use Rattle.paper.proofs.WordLaws.{given_some, there_some, and_both}
use Rattle.paths.proofs.LawfulLaws.{object_members}

-- What is answered, of whatever the leftover means and whatever fields stand there.
abbrev Clashes : Dictionary → List ℕ → List ℕ → (from to : ℕ) → Bool → Type 0
Clashes names s schema from to r =
    (levels : ℕ) (d : Doc) → meaning_of levels names s ≡ Some d
    → (inner : ℕ) (columns : SchemaFields) → FieldsStand inner schema from to columns → r ≡ has_any (column_names columns) d

pub no_names_lem : (names : Dictionary) (s : List ℕ) {schema : List ℕ} {from to : ℕ} {r : Reading} → r ≡ reading_of (at s 0)
    → ((c i w : ℕ) → r ≡ ObjectHead c i w → ⊥) → Clashes names s schema from to false
no_names_lem names s told other levels d means inner columns stand = no_object levels names s means told other (column_names columns)

-- The ids of an object whose children are there: below the count, and their names rise.
ids_lawful : (names : Dictionary) (c i w : ℕ) (s : List ℕ) → is_there (members_of names c i w s) ≡ true
    → (all_below (length names) (ids_of c i s) ≡ true) × (rising (names_at names (ids_of c i s)) ≡ true)
unfolding members_of
ids_lawful names c i w s there =
    let some-children = there_some (members_of names c i w s) there in
    let good = given_some (all_below (length names) (ids_of c i s) && rising (names_at names (ids_of c i s))) _ some-children.1 in
    and_both (all_below (length names) (ids_of c i s)) (rising (names_at names (ids_of c i s))) good.0

module _ {names : Dictionary} {s : List ℕ} (lawful : LawfulIn names s) {r : Reading} (told : r ≡ reading_of (at s 0)) {c i w : ℕ} (e : r ≡ ObjectHead c i w)
    {ids : List ℕ} (ids_are : ids ≡ ids_of c i s) where
  pub ids_asks : (all_below (length names) ids ≡ true) × (rising (names_at names ids) ≡ true)
  ids_asks = rw ids_are (ids_lawful names c i w s (object_members lawful r told c i w e))

  -- b is what the merge answered
  pub clash_is : {schema : List ℕ} {from to : ℕ} {b : Bool} → Said names ids schema from to b → Clashes names s schema from to b
  unfolding has_any
  clash_is merged levels d means inner columns stand =
      let made = made_of levels names c i w s (sym told ∙ e) means in
      let fields = made.2 in
      let given = names_given (meaning_of fields.levels names) (area_of c i w s) (names_at names (ids_of c i s)) fields.children fields.docs in
      merged inner columns stand ∙ rw (ids_are, made.1, any_shared (column_names columns) made.0, given)
