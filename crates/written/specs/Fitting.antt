-- What a row can hold, so that it is read back: a document at a place of it, and a document as a whole.
use Rattle.std.specs.Prelude.{true, ◌≡◌, ℕ, ◌≤◌, length}
use Rattle.forms.specs.WellFormed.{all_docs, all_members, well_formed, names_there, all_names_there, field_names_there}
use Rattle.paper.specs.Limits.{most_metadata, most_value, most_row, most_leftover, most_levels}
use Rattle.paper.specs.Meaning.{Doc, Docs, Fields}
use Rattle.paper.specs.Metadata.{Dictionary}
use Rattle.paper.specs.Normal.{names_used, value_bytes, element_bytes, member_bytes, normal_form}
use Rattle.paper.specs.Rows.{Row}
use Rattle.paper.specs.Schemas.{Schema}
use Rattle.paper.specs.Shredding.{cut, row_bytes}
use Rattle.paper.specs.Words.{joined}
use Rattle.schemas.specs.Written.{good_schema}

-- A document that can be a leftover where so many levels are left, under the row's dictionary.
pub record Fits (names : Dictionary) (levels : ℕ) (d : Doc) : Type 0 where
  pub good : well_formed levels d ≡ true
  pub there : names_there names d ≡ true
  pub short : length (value_bytes names d) ≤ most_leftover

-- Each of an array's elements, and each of an object's members, with what they take together.
pub record ElementsFit (names : Dictionary) (levels : ℕ) (ds : Docs) : Type 0 where
  pub good : all_docs (well_formed levels) ds ≡ true
  pub there : all_names_there names ds ≡ true
  pub short : length (joined (element_bytes names ds)) ≤ most_leftover

pub record MembersFit (names : Dictionary) (levels : ℕ) (fs : Fields) : Type 0 where
  pub good : all_members (well_formed levels) fs ≡ true
  pub there : field_names_there names fs ≡ true
  pub short : length (joined (member_bytes names fs)) ≤ most_leftover

-- A document whose row under a good schema is within all limits.
pub record RowFits (node : Schema) (d : Doc) : Type 0 where
  pub node_good : good_schema node most_levels ≡ true
  pub good : well_formed most_levels d ≡ true
  pub value_fits : length (normal_form d).value ≤ most_value
  pub metadata_fits : length (normal_form d).metadata ≤ most_metadata
  pub row_fits : length (row_bytes node d) ≤ most_row

-- Its row, as it is read back: the names used in it, and what it is cut into.
abbrev pub cut_row : Schema → Doc → Row
cut_row node d = record { names = names_used d; outermost = cut node d }
