-- The names of the typed fields that a place means are among its node's, so a leftover without the node's names has none of them.
use Rattle.std.specs.Prelude.{Option, None, Some}
use mathlib.Core.Bool.{Bool, true, false, ◌||◌}
use mathlib.Core.List.{List}
use mathlib.Core.Path.{◌≡◌, refl, sym}
use Prim.Native.Nat.{ℕ}
use Rattle.names.proofs.SameLaws.{or_second}
use Rattle.paper.proofs.WordLaws.{never}
use Rattle.paper.specs.Meaning.{Doc, Fields, no_fields, field}
use Rattle.paper.specs.Normal.{field_names}
use Rattle.paper.specs.Rebuilding.{add_field, place_meaning, fields_meaning}
use Rattle.paper.specs.Rows.{Places, no_places, place}
use Rattle.paper.specs.Rules.{any_named}
use Rattle.paper.specs.Schemas.{SchemaFields, none_named, named, column_names}
use Rattle.paper.specs.Words.{same, among}

or_fewer : (a b c : Bool) → (b ≡ true → c ≡ true) → a || b ≡ true → a || c ≡ true
or_fewer true b c fewer e = refl
or_fewer false b c fewer e = fewer e

pub meant_named : (columns : SchemaFields) (ps : Places) (name : List ℕ)
    → among name (field_names (fields_meaning columns ps)) ≡ true → among name (column_names columns) ≡ true
unfolding fields_meaning add_field field_names column_names among
meant_named none_named ps name e = e
meant_named (named first node columns) no_places name e = never (sym e)
meant_named (named first node columns) (place p ps) name e = go (place_meaning node p) e (meant_named columns ps name)
  where
    go : (x : Option Doc) → among name (field_names (add_field first x (fields_meaning columns ps))) ≡ true
        → (among name (field_names (fields_meaning columns ps)) ≡ true → among name (column_names columns) ≡ true)
        → same first name || among name (column_names columns) ≡ true
    go None f rest = or_second (same first name) (among name (column_names columns)) (rest f)
    go (Some d) f rest = or_fewer (same first name) (among name (field_names (fields_meaning columns ps))) (among name (column_names columns)) rest f

pub fewer_named : (few all : List (List ℕ)) → ((name : List ℕ) → among name few ≡ true → among name all ≡ true)
    → (fs : Fields) → any_named all fs ≡ false → any_named few fs ≡ false
unfolding any_named
fewer_named few all fewer no_fields e = refl
fewer_named few all fewer (field name d fs) e = go (among name few) (among name all) (fewer name) (fewer_named few all fewer fs) e
  where
    go : (a b : Bool) → (a ≡ true → b ≡ true) → (any_named all fs ≡ false → any_named few fs ≡ false) → b || any_named all fs ≡ false → a || any_named few fs ≡ false
    go a true both rest f = never f
    go true false both rest f = never (sym (both refl))
    go false false both rest f = rest f
