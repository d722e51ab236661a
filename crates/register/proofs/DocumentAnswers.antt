-- The answers of the operations that judge a document first, by what the judging says.
use Rattle.paper.specs.declared.LotBox.{LotBox}
use Rattle.std.specs.Prelude.{Option, None, Some, Err, Ok}
use mathlib.Core.Bool.{Bool, true, false, ◌&&◌}
use mathlib.Core.List.{List}
use mathlib.Core.Path.{◌≡◌, refl, sym, ap, ◌∙◌}
use Prim.Native.Nat.{ℕ, ◌≤◌, ◌<◌}
use native.Mathlib.Omega.{arith}
use borrow.Author.Tests.{le-leb, lt-leb}
use lib.Dec.{leb}
use lib.ListN.{length}
use Rattle.boxes.specs.Sides.{Lawful as BoxLawful}
use Rattle.dictionary.specs.Lent.{LentNames, lent_read}
use Rattle.documents.specs.Judged.{document_by, document_of}
use Rattle.paper.specs.Bounds.{most_walked}
use Rattle.paper.specs.Boxes.{box_of}
use Rattle.paper.specs.Limits.{most_levels, most_path}
use Rattle.paper.specs.Meaning.{Doc}
use Rattle.paper.specs.Metadata.{Dictionary, dictionary_of}
use Rattle.paper.specs.Operations.{judged, document_fits, check_outcome, checked_by, check_answer, find_answer, box_answer, value_judged}
use Rattle.paper.specs.Paths.{path_of, find_from}
use Rattle.paper.specs.Standing.{Step}
use Rattle.paper.specs.Refusals.{Outcome, require, obtain}
use Rattle.paper.specs.Values.{meaning_of}
use Rattle.paper.specs.declared.Child.{Child}
use Rattle.paper.specs.Words.{is_there}
use Rattle.paper.specs.declared.Refusal.TheVariants.{TooLong, BadMetadata, BadValue, BadPath}
use Rattle.paper.specs.declared.Refusal.{Refusal}
use Rattle.documents.proofs.DocumentLaws.{LawfulDocument, lawful_document}
use Rattle.paper.proofs.WordLaws.{never, some_there}

-- ---- what comes next is come to from a lawful document; another is refused as check refuses it

fits : (b : Bool) (x : Outcome Doc) {d : Doc} → require b TooLong x ≡ Ok d → b ≡ true
unfolding require
fits true x e = refl
fits false x e = absurd (let z : ◌≡◌ {A = ℕ} 0 1 = cc in omega arith)

pub same_refusal : {A B : Type 0} {other refusal : Refusal} → ◌≡◌ {A = Outcome A} (Err other) (Err refusal)
    → ◌≡◌ {A = Outcome B} (Err other) (Err refusal)
same_refusal {other = other} {refusal} e = let is : other ≡ refusal = cc in ap Err is

module _ {A : Type 0} (next : Dictionary → Doc → Outcome A) (m v : List ℕ) where
  pub judged_lawful : {d : LentNames} (l : LawfulDocument m v d)
      → require (document_fits m v) TooLong (judged m v next) ≡ next d.names l.doc_is
  unfolding require judged value_judged obtain check_outcome
  judged_lawful l = rw (fits (document_fits m v) (judged m v λ names d. Ok d) l.outcome, l.names_are, l.means)

  pub judged_refused : (refusal : Refusal) → check_outcome m v ≡ Err refusal → require (document_fits m v) TooLong (judged m v next) ≡ Err refusal
  unfolding check_outcome require judged value_judged obtain
  judged_refused refusal = go (document_fits m v) (dictionary_of m)
    where
      inner : (names : Dictionary) (x : Option Doc) → obtain x BadValue (λ d. Ok d) ≡ Err refusal → obtain x BadValue (next names) ≡ Err refusal
      inner names None e = same_refusal e
      inner names (Some other) e = absurd (let z : ◌≡◌ {A = ℕ} 0 1 = cc in omega arith)

      go : (b : Bool) (x : Option Dictionary)
          → require b TooLong (obtain x BadMetadata λ names. obtain (meaning_of most_levels names v) BadValue λ d. Ok d) ≡ Err refusal
          → require b TooLong (obtain x BadMetadata λ names. obtain (meaning_of most_levels names v) BadValue (next names)) ≡ Err refusal
      go false x e = same_refusal e
      go true None e = same_refusal e
      go true (Some names) e = inner names (meaning_of most_levels names v) e

module _ (m v : List ℕ) (r : Outcome LentNames) (told : r ≡ document_of m v) where
  pub lawful : (d : LentNames) → r ≡ Ok d → LawfulDocument m v d
  lawful d e = lawful_document m v d (sym told ∙ e)

  pub refused_same : (refusal : Refusal) → r ≡ Err refusal → check_outcome m v ≡ Err refusal
  unfolding document_of document_by
  refused_same refusal e = go (check_outcome m v) (sym told ∙ e)
    where
      go : (x : Outcome Doc) → document_by (lent_read m) x ≡ Err refusal → x ≡ Err refusal
      go (Err other) f = let same : other ≡ refusal = cc in ap Err same
      go (Ok d) f = absurd (let z : ◌≡◌ {A = ℕ} 0 1 = cc in omega arith)

  -- ---- check

  pub check_good : (d : LentNames) → r ≡ Ok d → Ok tt ≡ check_answer m v
  unfolding check_answer checked_by
  check_good d e = rw (lawful d e).outcome

  pub check_refused : (refusal : Refusal) → r ≡ Err refusal → Err refusal ≡ check_answer m v
  unfolding check_answer checked_by
  check_refused refusal e = rw (refused_same refusal e)

  -- ---- find

  asks : (d : LentNames) → r ≡ Ok d → (is_there (meaning_of most_levels d.names v) ≡ true) × (length v ≤ most_walked)
  asks d e =
      let l = lawful d e in
      let short = l.short in
      (some_there (meaning_of most_levels d.names v) l.means, omega arith)

  module _ (p : List ℕ) (short : length p ≤ most_path) where
    both_fit : {A : Type 0} (x : Outcome A) → require (document_fits m v && leb (length p) most_path) TooLong x ≡ require (document_fits m v) TooLong x
    both_fit x = rw (le-leb (length p) most_path short) (go (document_fits m v))
      where
        go : (b : Bool) → require (b && true) TooLong x ≡ require b TooLong x
        go true = refl
        go false = refl

    pub find_refused : (refusal : Refusal) → r ≡ Err refusal → Err refusal ≡ find_answer m v p
    unfolding find_answer
    find_refused refusal e = sym (both_fit _ ∙ judged_refused _ m v refusal (refused_same refusal e))

    -- good is whether the path keeps its rules
    module _ (d : LentNames) (e : r ≡ Ok d) (good : Bool) (is : good ≡ is_there (path_of p)) where
      inside : find_answer m v p ≡ (obtain (path_of p) BadPath λ steps. Ok (find_from d.names steps 0 v))
      unfolding find_answer
      inside = both_fit _ ∙ judged_lawful _ m v (lawful d e)

      pub find_path_bad : good ≡ false → Err BadPath ≡ find_answer m v p
      unfolding is_there obtain
      find_path_bad bad = go (path_of p) (sym is ∙ bad) ∙ sym inside
        where
          go : (x : Option (List Step)) → is_there x ≡ false → Err BadPath ≡ (obtain x BadPath λ steps. Ok (find_from d.names steps 0 v))
          go None f = refl
          go (Some steps) f = never f

      pub find_asks : good ≡ true
          → (is_there (meaning_of most_levels d.names v) ≡ true) × (length v ≤ most_walked) × (is_there (path_of p) ≡ true)
      find_asks well = let l = asks d e in (l.0, l.1, sym is ∙ well)

      pub found : good ≡ true → (f : Option Child) → ((steps : List Step) → path_of p ≡ Some steps → f ≡ find_from d.names steps 0 v)
          → Ok f ≡ find_answer m v p
      unfolding is_there obtain
      found well f tells = go (path_of p) (sym is ∙ well) tells ∙ sym inside
        where
          go : (x : Option (List Step)) → is_there x ≡ true → ((steps : List Step) → x ≡ Some steps → f ≡ find_from d.names steps 0 v)
              → Ok f ≡ (obtain x BadPath λ steps. Ok (find_from d.names steps 0 v))
          go None g along = never (sym g)
          go (Some steps) g along = ap Ok (along steps refl)

  -- ---- box

  pub box_asks : (d : LentNames) → r ≡ Ok d → BoxLawful d.names v
  box_asks d e = let l = asks d e in record { means = l.0; small = l.1 }

  -- b is what the box reader found in a lawful document
  pub box_read : (d : LentNames) → r ≡ Ok d → (b : Option LotBox)
      → ((doc : Doc) → meaning_of most_levels d.names v ≡ Some doc → b ≡ box_of doc) → Ok b ≡ box_answer m v
  unfolding box_answer
  box_read d e b answers =
      let l = lawful d e in ap Ok (answers l.doc_is l.means) ∙ sym (judged_lawful _ m v l)

  pub box_refused : (refusal : Refusal) → r ≡ Err refusal → Err refusal ≡ box_answer m v
  unfolding box_answer
  box_refused refusal e = sym (judged_refused _ m v refusal (refused_same refusal e))

-- A path longer than a path may be.
pub path_long : (m v p : List ℕ) → most_path < length p → Err TooLong ≡ find_answer m v p
unfolding find_answer require
path_long m v p long = rw (lt-leb (length p) most_path long) (go (document_fits m v) _)
  where
    go : (b : Bool) (x : Outcome (Option Child)) → Err TooLong ≡ (require (b && false) TooLong x)
    go true x = refl
    go false x = refl
