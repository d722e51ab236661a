-- A lent row judged under a lent schema, for whatever comes of a lawful one: the lengths, the schema, then the row's verdict.
use Rattle.std.specs.Prelude.{Option, None, Some, Err}
use mathlib.Core.Bool.{Bool, true, false, cond}
use mathlib.Core.List.{List}
use mathlib.Core.Logic.{◌⊎◌, inl, inr}
use mathlib.Core.Path.{◌≡◌, refl, ◌∙◌}
use Prim.Native.Nat.{ℕ, ◌≤◌, ◌<◌}
use native.Mathlib.Omega.{arith}
use borrow.Author.Tests.{le-leb, lt-leb}
use lib.ListN.{length}
use Rattle.paper.proofs.WordLaws.{never}
use Rattle.paper.specs.Limits.{most_schema, most_row}
use Rattle.paper.specs.Operations.{row_judged}
use Rattle.paper.specs.Refusals.{Outcome, require, obtain}
use Rattle.paper.specs.Rows.{Row, row_of}
use Rattle.paper.specs.Rules.{row_lawful}
use Rattle.paper.specs.Schemas.{Schema, schema_of}
use Rattle.paper.specs.Words.{is_there}
use Rattle.paper.specs.declared.Refusal.TheVariants.{TooLong, BadSchema, BadRow, BrokenRule}
use Rattle.places.specs.Verdicts.{verdict_of, row_verdict}
use Rattle.places.specs.declared.verdicts.Verdict.TheVariants.{Lawful, Broken, Unparsed}
use Rattle.places.specs.declared.verdicts.Verdict.{Verdict}

-- ---- what a verdict says of a row

pub data Came (node : Schema) (x : Option Row) : Verdict → Type 0 where
  unparsed : x ≡ None → Came node x Unparsed
  broken : (parsed : Row) → x ≡ Some parsed → row_lawful node parsed ≡ false → Came node x Broken
  lawful : (parsed : Row) → x ≡ Some parsed → row_lawful node parsed ≡ true → Came node x Lawful

came : (node : Schema) (x : Option Row) → Came node x (verdict_of x (row_lawful node))
unfolding verdict_of
came node None = unparsed refl
came node (Some parsed) = go (row_lawful node parsed) refl
  where
    go : (b : Bool) → row_lawful node parsed ≡ b → Came node (Some parsed) (cond b Lawful Broken)
    go true e = lawful parsed refl e
    go false e = broken parsed refl e

row_came : (node : Schema) (row : List ℕ) {v : Verdict} → v ≡ row_verdict node row → Came node (row_of node row) v
unfolding row_verdict
row_came node row e = rw e (came node (row_of node row))

module _ {A : Type 0} (next : Schema → Row → Outcome A) (s row : List ℕ) where
  pub outcome_long : (most_schema < length s) ⊎ ((length s ≤ most_schema) × (most_row < length row)) → row_judged s row next ≡ Err TooLong
  unfolding row_judged require
  outcome_long (inl long) = rw (lt-leb (length s) most_schema long)
  outcome_long (inr (short, long)) = rw (le-leb (length s) most_schema short, lt-leb (length row) most_row long)

  module _ (short : length s ≤ most_schema) (fits : length row ≤ most_row) where
    abbrev Under : Schema → Outcome A
    Under node = obtain (row_of node row) BadRow λ parsed. require (row_lawful node parsed) BrokenRule (next node parsed)

    inside : row_judged s row next ≡ obtain (schema_of s) BadSchema Under
    unfolding row_judged require
    inside = rw (le-leb (length s) most_schema short, le-leb (length row) most_row fits)

    pub outcome_schema_bad : is_there (schema_of s) ≡ false → row_judged s row next ≡ Err BadSchema
    unfolding is_there obtain
    outcome_schema_bad e = inside ∙ go (schema_of s) e
      where
        go : (x : Option Schema) → is_there x ≡ false → obtain x BadSchema Under ≡ Err BadSchema
        go None f = refl
        go (Some node) f = never f

    module _ {node : Schema} (is : schema_of s ≡ Some node) where
      under : row_judged s row next ≡ Under node
      unfolding obtain
      under = inside ∙ rw is

      pub outcome_unparsed : Unparsed ≡ row_verdict node row → row_judged s row next ≡ Err BadRow
      unfolding obtain
      outcome_unparsed e = under ∙ go (row_came node row e) refl
        where
          go : {v : Verdict} → Came node (row_of node row) v → v ≡ Unparsed → Under node ≡ Err BadRow
          go (unparsed f) g = rw f
          go (broken parsed f kept) g = absurd (let z : ◌≡◌ {A = ℕ} 0 1 = cc in omega arith)
          go (lawful parsed f kept) g = absurd (let z : ◌≡◌ {A = ℕ} 0 1 = cc in omega arith)

      pub outcome_broken : Broken ≡ row_verdict node row → row_judged s row next ≡ Err BrokenRule
      unfolding obtain require
      outcome_broken e = under ∙ go (row_came node row e) refl
        where
          go : {v : Verdict} → Came node (row_of node row) v → v ≡ Broken → Under node ≡ Err BrokenRule
          go (unparsed f) g = absurd (let z : ◌≡◌ {A = ℕ} 0 1 = cc in omega arith)
          go (broken parsed f kept) g = rw (f, kept)
          go (lawful parsed f kept) g = absurd (let z : ◌≡◌ {A = ℕ} 0 1 = cc in omega arith)

      pub outcome_lawful : Lawful ≡ row_verdict node row → (parsed : Row) × (row_of node row ≡ Some parsed) × (row_judged s row next ≡ next node parsed)
      unfolding obtain require
      outcome_lawful e = go (row_came node row e) refl
        where
          go : {v : Verdict} → Came node (row_of node row) v → v ≡ Lawful
              → (parsed : Row) × (row_of node row ≡ Some parsed) × (row_judged s row next ≡ next node parsed)
          go (unparsed f) g = absurd (let z : ◌≡◌ {A = ℕ} 0 1 = cc in omega arith)
          go (broken parsed f kept) g = absurd (let z : ◌≡◌ {A = ℕ} 0 1 = cc in omega arith)
          go (lawful parsed f kept) g = (parsed, f, under ∙ rw (f, kept))
