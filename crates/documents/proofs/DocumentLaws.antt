-- A document judged, refusal by refusal; and what a lawful one has.
use Rattle.std.specs.Prelude.{Option, None, Some, Ok, Err}
use mathlib.Core.Bool.{Bool, true, false, ◌&&◌}
use mathlib.Core.List.{List}
use mathlib.Core.Path.{◌≡◌, refl, sym, ap, ◌∙◌}
use Prim.Native.Nat.{ℕ, ◌≤◌, ◌<◌}
use borrow.Author.Tests.{le-leb, lt-leb, leb-true}
use lib.ListN.{length}
use Rattle.dictionary.specs.Lent.{LentNames, lent_of, lent_read}
use Rattle.documents.specs.Judged.{document_by, document_of}
use lib.Dec.{leb}
use Rattle.paper.specs.declared.Refusal.{Refusal}
use Rattle.paper.specs.Meaning.{Doc}
use Rattle.paper.specs.Limits.{most_metadata, most_value, most_levels}
use Rattle.paper.specs.Metadata.{Dictionary, flag_set, offset_size, dictionary_of, names_in}
use Rattle.paper.specs.Operations.{judged, document_fits, check_outcome, value_judged}
use Rattle.paper.specs.Refusals.{require, obtain, Outcome}
use Rattle.paper.specs.Values.{meaning_of}
use Rattle.paper.specs.Words.{at, and_then, is_there}
use Rattle.paper.specs.declared.Refusal.TheVariants.{TooLong, BadMetadata, BadValue}
use Rattle.dictionary.proofs.DictionaryLaws.{names_told}
use Rattle.paper.proofs.WordLaws.{never, there_some}
use Rattle.std.proofs.lemmas.Option.{same_Some}

not_there : {A : Type 0} (x : Option A) → is_there x ≡ false → x ≡ None
unfolding is_there
not_there None e = refl
not_there (Some a) e = never e

-- ---- what lent metadata opens to

opened_none : (m : List ℕ) → lent_of m ≡ None → dictionary_of m ≡ None
unfolding lent_of and_then
opened_none m e = go (dictionary_of m) e
  where
    go : (x : Option Dictionary) → and_then {B = LentNames} x (λ names. Some (record { names = names; width = offset_size (at m 0); sorted = flag_set (at m 0); size = length m })) ≡ None → x ≡ None
    go None f = refl
    go (Some names) f = cc

-- Metadata that keeps its rules: the names that it opens to are those that are in it.
opened_some : (m : List ℕ) (names : Dictionary) → dictionary_of m ≡ Some names → lent_of m ≡ Some (lent_read m) × (names_in m ≡ names)
unfolding lent_of lent_read and_then
opened_some m names e = let those = names_told m names e in (rw (e, those), those)

opened_to : (m : List ℕ) (d : LentNames) → lent_of m ≡ Some d → (dictionary_of m ≡ Some d.names) × (lent_read m ≡ d)
unfolding lent_of lent_read and_then
opened_to m d e = go (dictionary_of m) refl
  where
    go : (x : Option Dictionary) → dictionary_of m ≡ x → (dictionary_of m ≡ Some d.names) × (lent_read m ≡ d)
    go None f = let none : None ≡ Some d = rw f at e in cc
    go (Some names) f =
        let opened = opened_some m names f in
        let same : lent_read m ≡ d = same_Some (lent_read m) d (sym opened.0 ∙ e) in
        (f ∙ ap Some (sym opened.1 ∙ ap (λ (u : LentNames). u.names) same), same)

-- ---- the refusals, in their order

module _ (m v : List ℕ) where
  pub metadata_long : most_metadata < length m → Err TooLong ≡ document_of m v
  unfolding document_of document_by check_outcome document_fits require
  metadata_long h = rw (lt-leb (length m) most_metadata h)

  module _ (short : length m ≤ most_metadata) where
    pub value_long : most_value < length v → Err TooLong ≡ document_of m v
    unfolding document_of document_by check_outcome document_fits require
    value_long h = rw (le-leb (length m) most_metadata short, lt-leb (length v) most_value h)

    module _ (small : length v ≤ most_value) (r : Option LentNames) (told : r ≡ lent_of m) where
      -- a document that fits is judged by its metadata and its value
      fitting : check_outcome m v ≡ judged m v (λ names d. Ok d)
      unfolding check_outcome document_fits require
      fitting = rw (le-leb (length m) most_metadata short, le-leb (length v) most_value small)

      pub metadata_bad : r ≡ None → Err BadMetadata ≡ document_of m v
      unfolding document_of document_by judged value_judged obtain
      metadata_bad e = rw (fitting, opened_none m (sym told ∙ e))

      module _ (d : LentNames) (e : r ≡ Some d) where
        opens : (dictionary_of m ≡ Some d.names) × (lent_read m ≡ d)
        opens = opened_to m d (sym told ∙ e)

        with_names : check_outcome m v ≡ obtain (meaning_of most_levels d.names v) BadValue (λ d. Ok d)
        unfolding judged value_judged obtain
        with_names = fitting ∙ rw opens.0

        module _ (b : Bool) (lies : b ≡ is_there (meaning_of most_levels d.names v)) where
          pub document_lawful : b ≡ true → Ok d ≡ document_of m v
          unfolding document_of document_by obtain
          document_lawful f =
              let is = there_some (meaning_of most_levels d.names v) (sym lies ∙ f) in
              rw (with_names, is.1, opens.1)

          pub value_bad : b ≡ false → Err BadValue ≡ document_of m v
          unfolding document_of document_by obtain
          value_bad f = rw (with_names, not_there (meaning_of most_levels d.names v) (sym lies ∙ f))

-- ---- what a lawful document has

pub record LawfulDocument (m v : List ℕ) (d : LentNames) : Type 0 where
  pub opens : lent_of m ≡ Some d
  pub names_are : dictionary_of m ≡ Some d.names
  pub doc_is : Doc
  pub means : meaning_of most_levels d.names v ≡ Some doc_is
  pub metadata_short : length m ≤ most_metadata
  pub short : length v ≤ most_value
  pub outcome : check_outcome m v ≡ Ok doc_is

pub lawful_document : (m v : List ℕ) (d : LentNames) → document_of m v ≡ Ok d → LawfulDocument m v d
unfolding document_of document_by check_outcome document_fits require judged value_judged obtain
lawful_document m v d e = fitted (leb (length m) most_metadata) (leb (length v) most_value) refl refl e
  where
    refuse : (r : Refusal) → ◌≡◌ {A = Outcome LentNames} (Err r) (Ok d) → LawfulDocument m v d
    refuse r f = cc

    meant : (ns : Dictionary) → dictionary_of m ≡ Some ns → leb (length m) most_metadata ≡ true → leb (length v) most_value ≡ true
        → (x : Option Doc) → meaning_of most_levels ns v ≡ x → document_by (lent_read m) (obtain x BadValue λ d. Ok d) ≡ Ok d
        → LawfulDocument m v d
    meant ns is a b None f g = refuse BadValue g
    meant ns is a b (Some doc) f g =
        let same : lent_read m ≡ d = cc in
        let opened = opened_some m ns is in
        let to = opened_to m d (opened.0 ∙ ap Some same) in
        let those : ns ≡ d.names = same_Some ns d.names (sym is ∙ to.0) in
        record {
          opens = opened.0 ∙ ap Some same;
          names_are = to.0;
          doc_is = doc;
          means = ap (λ (x : Dictionary). meaning_of most_levels x v) (sym those) ∙ f;
          metadata_short = leb-true (length m) most_metadata a;
          short = leb-true (length v) most_value b;
          outcome = rw (a, b, is, f);
        }

    found : (x : Option Dictionary) → dictionary_of m ≡ x → leb (length m) most_metadata ≡ true → leb (length v) most_value ≡ true
        → document_by (lent_read m) (obtain x BadMetadata λ ns. obtain (meaning_of most_levels ns v) BadValue λ d. Ok d) ≡ Ok d
        → LawfulDocument m v d
    found None is a b f = refuse BadMetadata f
    found (Some ns) is a b f = meant ns is a b (meaning_of most_levels ns v) refl f

    fitted : (p q : Bool) → leb (length m) most_metadata ≡ p → leb (length v) most_value ≡ q
        → document_by (lent_read m) (require (p && q) TooLong (judged m v λ ns d. Ok d)) ≡ Ok d → LawfulDocument m v d
    fitted true true a b f = found (dictionary_of m) refl a b f
    fitted true false a b f = refuse TooLong f
    fitted false q a b f = refuse TooLong f
