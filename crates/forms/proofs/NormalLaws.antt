-- Normal form: what it says of a document is read back whole, so two documents mean the same exactly when their normal
-- forms are the same bytes; and what is in normal form is its own normal form.
use Rattle.std.specs.Prelude.{Option, None, Some, Ok}
use mathlib.Core.Bool.{Bool, true, false, ◌&&◌}
use mathlib.Core.List.{List}
use mathlib.Core.Logic.{◌↔◌}
use mathlib.Core.Path.{◌≡◌, refl, sym, ap, ◌∙◌}
use Prim.Native.Nat.{ℕ, ◌+◌, ◌*◌, ◌^◌, ◌≤◌, ◌<◌}
use native.Mathlib.Nat.{mul-le-mul, mul-one}
use native.Mathlib.Omega.{arith}
use borrow.Author.Tests.{leb-true, le-leb}
use lib.Dec.{leb}
use lib.ListN.{length, get_or}
use Rattle.forms.specs.WellFormed.{well_formed}
use Rattle.paper.specs.Limits.{most_metadata, most_value, most_levels}
use Rattle.paper.specs.Meaning.{Doc}
use Rattle.paper.specs.Metadata.{Dictionary, dictionary_of}
use Rattle.paper.specs.Normal.{names_used, metadata_width, metadata_bytes, value_bytes, Document, normal_form}
use Rattle.paper.specs.Operations.{judged, document_fits, check_outcome, written, normalise_outcome, value_judged, writable}
use Rattle.paper.specs.Refusals.{Outcome, require, obtain}
use Rattle.paper.specs.Values.{meaning_of}
use Rattle.paper.specs.Words.{joined}
use Rattle.paper.specs.declared.Refusal.{Refusal}
use Rattle.forms.proofs.BackLaws.{value_back}
use Rattle.forms.proofs.NamesLaws.{there_used, normal-names_there}
use Rattle.forms.proofs.WellFormedLaws.{decoded-well_formed, decoded-names_there}
use Rattle.names.proofs.MetadataLaws.{metadata_length, metadata_back, width_bounds}
use Rattle.names.proofs.NeverLongerLaws.{never_longer}
use Rattle.names.proofs.UsedLaws.{names_rise, among_used}
use Rattle.paper.proofs.WordLaws.{and_both}
use Rattle.std.proofs.lemmas.Option.{same_Some}

-- A document that normal form can hold: within so many levels, its value no longer than a value may be, its names few and
-- short enough for offsets of four bytes.
pub record Writable (levels : ℕ) (d : Doc) : Type 0 where
  pub good : well_formed levels d ≡ true
  pub value_fits : length (value_bytes (names_used d) d) ≤ most_value
  pub names_few : length (names_used d) < 2 ^ 32
  pub names_short : length (joined (names_used d)) < 2 ^ 32

value_small : (n : ℕ) → n ≤ most_value → n < 2 ^ 32
value_small n h = omega arith

-- Short metadata has few names, and short ones.
pub short_writable : (levels : ℕ) (d : Doc) → well_formed levels d ≡ true → length (value_bytes (names_used d) d) ≤ most_value
    → length (metadata_bytes (names_used d)) ≤ most_metadata → Writable levels d
short_writable levels d good value_fits metadata_fits =
    let used : Dictionary = names_used d in
    let size = metadata_length used in
    let table : (length used + 1) * 1 ≤ (length used + 1) * metadata_width used = mul-le-mul (omega arith) (width_bounds used).0 in
    let one = mul-one (length used + 1) in
    record { good = good; value_fits = value_fits; names_few = omega arith; names_short = omega arith }

module _ (levels : ℕ) (d : Doc) (writable : Writable levels d) where
  pub normal_back : (dictionary_of (normal_form d).metadata ≡ Some (names_used d)) × (meaning_of levels (names_used d) (normal_form d).value ≡ Some d)
  unfolding normal_form
  normal_back =
      let few = writable.names_few in (
        metadata_back (names_used d) (names_rise d) few writable.names_short,
        value_back (names_used d) (omega arith) levels d writable.good (normal-names_there d) (value_small _ writable.value_fits),
      )

-- Two documents have the same normal form exactly when they are equal.
pub same_normal : (levels : ℕ) (a b : Doc) → Writable levels a → Writable levels b → (normal_form a ≡ normal_form b) ↔ (a ≡ b)
same_normal levels a b writable-a writable-b = (equal, ap normal_form)
  where
    equal : normal_form a ≡ normal_form b → a ≡ b
    equal e =
        let back_a = normal_back levels a writable-a in
        let back-b = normal_back levels b writable-b in
        let names : names_used a ≡ names_used b =
        same_Some (names_used a) (names_used b) (sym back_a.0 ∙ ap (λ (n : Document). dictionary_of n.metadata) e ∙ back-b.0) in
        let value : meaning_of levels (names_used a) (normal_form a).value ≡ Some b =
        rw (names, e) back-b.1 in
        same_Some a b (sym back_a.1 ∙ value)

-- ---- what is accepted

pub require_reached : {A : Type 0} (refusal : Refusal) (b : Bool) (next : Outcome A) {a : A} → require b refusal next ≡ Ok a
    → (b ≡ true) × (next ≡ Ok a)
unfolding require
require_reached refusal true next e = (refl, e)
require_reached refusal false next e = absurd (let z : ◌≡◌ {A = ℕ} 0 1 = cc in omega arith)

pub obtain_reached : {A B : Type 0} (refusal : Refusal) (x : Option A) (next : A → Outcome B) {b : B} → obtain x refusal next ≡ Ok b
    → (a : A) × (x ≡ Some a) × (next a ≡ Ok b)
unfolding obtain
obtain_reached refusal None next e = absurd (let z : ◌≡◌ {A = ℕ} 0 1 = cc in omega arith)
obtain_reached refusal (Some a) next e = (a, refl, e)

-- What `normalise` has seen of a document that it accepts.
pub record Accepted (metadata value : List ℕ) (n : Document) : Type 0 where
  pub names : Dictionary
  pub d : Doc
  pub metadata_fits : length metadata ≤ most_metadata
  pub value_fits : length value ≤ most_value
  pub metadata_is : dictionary_of metadata ≡ Some names
  pub value_is : meaning_of most_levels names value ≡ Some d
  pub written_fits : length (value_bytes (names_used d) d) ≤ most_value
  pub written_is : normal_form d ≡ n

pub accepted : (metadata value : List ℕ) (n : Document) → normalise_outcome metadata value ≡ Ok n → Accepted metadata value n
unfolding normalise_outcome judged value_judged written writable document_fits normal_form
accepted metadata value n e =
    let first = require_reached _ (leb (length metadata) most_metadata && leb (length value) most_value) _ e in
    let fit = and_both (leb (length metadata) most_metadata) (leb (length value) most_value) first.0 in
    let second = obtain_reached _ (dictionary_of metadata) _ first.1 in
    let third = obtain_reached _ (meaning_of most_levels second.0 value) _ second.2 in
    let d : Doc = third.0 in
    let fourth = require_reached _ (leb (length (value_bytes (names_used d) d)) most_value) _ third.2 in
    record {
      names = second.0;
      d = d;
      metadata_fits = leb-true (length metadata) most_metadata fit.0;
      value_fits = leb-true (length value) most_value fit.1;
      metadata_is = second.1;
      value_is = third.1;
      written_fits = leb-true (length (value_bytes (names_used d) d)) most_value fourth.0;
      written_is = cc fourth.1;
    }

-- The other way round: a document that keeps all of that is accepted.
pub accepts : (metadata value : List ℕ) (n : Document) → Accepted metadata value n → normalise_outcome metadata value ≡ Ok n
unfolding normalise_outcome judged value_judged written writable document_fits normal_form require obtain
accepts metadata value n a =
    rw (
      le-leb (length metadata) most_metadata a.metadata_fits,
      le-leb (length value) most_value a.value_fits,
      a.metadata_is,
      a.value_is,
      le-leb (length (value_bytes (names_used a.d) a.d)) most_value a.written_fits,
    ) (ap Ok a.written_is)

module _ (metadata value : List ℕ) (n : Document) (a : Accepted metadata value n) (bytes : (i : ℕ) → get_or metadata i 0 < 256) where
  abbrev used : Dictionary
  used = names_used a.d

  -- the normal metadata is no longer than the lent one
  pub normal_shorter : length (metadata_bytes used) ≤ length metadata
  normal_shorter =
      never_longer metadata a.names a.metadata_is bytes used (names_rise a.d)
      (λ name in-used. there_used a.names a.d (decoded-names_there most_levels a.names value a.d a.value_is) name
      (sym (among_used name a.d) ∙ in-used))

  pub accepted_writable : Writable most_levels a.d
  accepted_writable =
      let shorter = normal_shorter in
      let fit : length metadata ≤ most_metadata = a.metadata_fits in
      short_writable most_levels a.d (decoded-well_formed most_levels a.names value a.d a.value_is) a.written_fits (omega arith)

  normal_accepted : Accepted (normal_form a.d).metadata (normal_form a.d).value (normal_form a.d)
  unfolding normal_form
  normal_accepted =
      let back = normal_back most_levels a.d accepted_writable in
      let shorter = normal_shorter in
      let fit : length metadata ≤ most_metadata = a.metadata_fits in
      record {
        names = used;
        d = a.d;
        metadata_fits = omega arith;
        value_fits = a.written_fits;
        metadata_is = back.0;
        value_is = back.1;
        written_fits = a.written_fits;
        written_is = refl;
      }

  accepted_again : Accepted n.metadata n.value n
  accepted_again = rw a.written_is at normal_accepted

pub normal_again : (metadata value : List ℕ) (n : Document) → ((i : ℕ) → get_or metadata i 0 < 256) → normalise_outcome metadata value ≡ Ok n
    → normalise_outcome n.metadata n.value ≡ Ok n
normal_again metadata value n bytes e =
    accepts n.metadata n.value n (accepted_again metadata value n (accepted metadata value n e) bytes)

-- ---- lent documents: the same normal form exactly when they mean the same

pub accepted_means : (metadata value : List ℕ) (n : Document) (a : Accepted metadata value n) → check_outcome metadata value ≡ Ok a.d
unfolding check_outcome document_fits judged value_judged require obtain
accepted_means metadata value n a =
    rw (le-leb (length metadata) most_metadata a.metadata_fits, le-leb (length value) most_value a.value_fits, a.metadata_is, a.value_is)

-- What is in normal form means the same.
pub normal_means : (metadata value : List ℕ) (n : Document) (a : Accepted metadata value n) → ((i : ℕ) → get_or metadata i 0 < 256)
    → check_outcome n.metadata n.value ≡ Ok a.d
unfolding normal_accepted
normal_means metadata value n a bytes =
    let form : Document = normal_form a.d in
    ap (λ (f : Document). check_outcome f.metadata f.value) (sym a.written_is)
    ∙ accepted_means form.metadata form.value form (normal_accepted metadata value n a bytes)

pub same_reached : {a b : Doc} → ◌≡◌ {A = Outcome Doc} (Ok a) (Ok b) → a ≡ b
same_reached e = cc

pub same_meaning : (metadata value metadata' value' : List ℕ) → ((i : ℕ) → get_or metadata i 0 < 256) → ((i : ℕ) → get_or metadata' i 0 < 256)
    → (n n' : Document) → normalise_outcome metadata value ≡ Ok n → normalise_outcome metadata' value' ≡ Ok n'
    → (d d' : Doc) → check_outcome metadata value ≡ Ok d → check_outcome metadata' value' ≡ Ok d' → (n ≡ n') ↔ (d ≡ d')
same_meaning metadata value metadata' value' bytes bytes' n n' e e' d d' means means' =
    let a : Accepted metadata value n = accepted metadata value n e in
    let b : Accepted metadata' value' n' = accepted metadata' value' n' e' in
    let first : a.d ≡ d = same_reached (sym (accepted_means metadata value n a) ∙ means) in
    let second : b.d ≡ d' = same_reached (sym (accepted_means metadata' value' n' b) ∙ means') in
    let same : (normal_form a.d ≡ normal_form b.d) ↔ (a.d ≡ b.d) =
    same_normal most_levels a.d b.d (accepted_writable metadata value n a bytes) (accepted_writable metadata' value' n' b bytes') in
    rw (a.written_is, b.written_is, first, second) at same

-- A lent document that check accepts comes to what is written of its meaning: its normal form, or refusal 8.
pub accepted_written : (metadata value : List ℕ) (d : Doc) → check_outcome metadata value ≡ Ok d → normalise_outcome metadata value ≡ written d
unfolding check_outcome normalise_outcome judged value_judged require obtain
accepted_written metadata value d e =
    let first = require_reached _ (document_fits metadata value) _ e in
    let second = obtain_reached _ (dictionary_of metadata) _ first.1 in
    let third = obtain_reached _ (meaning_of most_levels second.0 value) _ second.2 in
    rw (first.0, second.1, third.1) (ap written (same_reached third.2))

-- So documents that mean the same have the same outcome, refusal 8 too.
pub same_outcome : (metadata value metadata' value' : List ℕ) (d d' : Doc) → check_outcome metadata value ≡ Ok d
    → check_outcome metadata' value' ≡ Ok d' → d ≡ d' → normalise_outcome metadata value ≡ normalise_outcome metadata' value'
same_outcome metadata value metadata' value' d d' means means' same =
    accepted_written metadata value d means ∙ ap written same ∙ sym (accepted_written metadata' value' d' means')
