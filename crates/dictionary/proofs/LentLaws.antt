-- A lent dictionary: what is read of its metadata and what contracts see of it go together.
use Rattle.std.specs.Prelude.{Option, None, Some}
use Rattle.std.proofs.lemmas.Option.{none-some, same_Some}
use mathlib.Core.Bool.{true}
use mathlib.Core.List.{List, []}
use mathlib.Core.Path.{◌≡◌, refl, sym, ap, ◌∙◌}
use Prim.Native.Nat.{ℕ, ◌<◌}
use native.Mathlib.Omega.{arith}
use lib.Dec.{ltb}
use lib.ListN.{length, get_or}
use Rattle.order.specs.Before.{before}
use Rattle.dictionary.specs.Judging.{judged_of, Opened}
use Rattle.dictionary.specs.Lent.{LentNames, Lent, LentBytes, lent_of, lent_read}
use Rattle.dictionary.specs.declared.Names.{Names}
use Rattle.paper.specs.Metadata.{Dictionary, flag_set, offset_size, name_count, rising, names_in, dictionary_of}
use Rattle.paper.specs.Words.{at, and_then, is_there}
use Rattle.dictionary.proofs.DictionaryLaws.{opened_names, opened_count, opened_rising, sorted_before, broken, names_told}
use Rattle.paper.proofs.WordLaws.{some_there}

-- What a contract sees of metadata and of what was read of it.
abbrev pub seen_of : List ℕ → Names → LentNames
seen_of m d = record { names = names_in m; width = d.width; sorted = d.sorted; size = length m }

pub opens_to : (m : List ℕ) (d : Names) → Opened m d → lent_of m ≡ Some (seen_of m d)
unfolding lent_of and_then
opens_to m d o = rw (opened_names o, o.width, o.sorted) refl

pub opens_not : (m : List ℕ) → judged_of m ≡ None → None ≡ lent_of m
unfolding lent_of and_then
opens_not m e = rw (broken m e)

module _ {m : List ℕ} {d : Names} (o : Opened m d) {v : LentNames} (seen : seen_of m d ≡ v) where
  pub lent_count : d.count ≡ length v.names
  lent_count = sym (opened_count o) ∙ ap (λ (u : LentNames). length u.names) seen

  pub lent_opens : Lent v
  lent_opens = record { metadata = m; opens = opens_to m d o ∙ ap Some seen }

  pub lent_bytes : ((i : ℕ) → get_or m i 0 < 256) → LentBytes v
  unfolding lent_opens
  lent_bytes bytes = record { lent = lent_opens; bytes = bytes }

  pub lent_rises : d.sorted ≡ true → rising v.names ≡ true
  lent_rises set = sym (ap (λ (u : LentNames). rising u.names) seen) ∙ opened_rising o set

  pub lent_within : (i : ℕ) → i < length v.names → i < d.count
  lent_within i h = let e = lent_count in omega arith

  pub lent_before : (i j : ℕ) → d.sorted ≡ true → i < length v.names → j < length v.names
      → ltb i j ≡ before (get_or v.names i []) (get_or v.names j [])
  lent_before i j set h k =
      sorted_before o i j set (lent_within i h) (lent_within j k)
      ∙ ap (λ (u : LentNames). before (get_or u.names i []) (get_or u.names j [])) seen

  pub lent_name : (i : ℕ) → get_or (names_in m) i [] ≡ get_or v.names i []
  lent_name i = ap (λ (u : LentNames). get_or u.names i []) seen

-- ---- for the laws of the crates above

-- What was read of the metadata that opens to it.
module _ {v : LentNames} (lent : Lent v) where
  abbrev m : List ℕ
  m = lent.metadata

  abbrev read : (names : Dictionary) → LentNames
  read names = record { names = names; width = offset_size (at m 0); sorted = flag_set (at m 0); size = length m }

  told : (x : Option Dictionary) → and_then x (λ names. Some (read names)) ≡ Some v → (names : Dictionary) × (x ≡ Some names) × (read names ≡ v)
  unfolding and_then
  told None e = absurd (none-some v e)
  told (Some names) e = (names, refl, same_Some (read names) v e)

  opened_to : (names : Dictionary) × (dictionary_of m ≡ Some names) × (read names ≡ v)
  unfolding lent_of
  opened_to = told (dictionary_of m) lent.opens

  pub lent_dictionary : dictionary_of lent.metadata ≡ Some v.names
  lent_dictionary = opened_to.1 ∙ ap (λ (u : LentNames). Some u.names) opened_to.2

  pub lent_there : is_there (dictionary_of lent.metadata) ≡ true
  lent_there = some_there (dictionary_of lent.metadata) lent_dictionary

  pub lent_names_in : names_in lent.metadata ≡ v.names
  lent_names_in = names_told lent.metadata v.names lent_dictionary

  pub lent_is : lent_read lent.metadata ≡ v
  unfolding lent_read
  lent_is = ap read (names_told m opened_to.0 opened_to.1) ∙ opened_to.2

  pub lent_size : length lent.metadata ≡ v.size
  lent_size = ap (λ (u : LentNames). u.size) opened_to.2

  pub lent_sorted : flag_set (at lent.metadata 0) ≡ v.sorted
  lent_sorted = ap (λ (u : LentNames). u.sorted) opened_to.2

  -- A dictionary whose flag says so rises.
  pub lent_rising : v.sorted ≡ true → rising v.names ≡ true
  lent_rising set =
      let o : Opened m (record { width = offset_size (at m 0); count = name_count m; sorted = flag_set (at m 0) }) =
      record { there = lent_there; width = refl; count = refl; sorted = refl } in
      rw (← lent_names_in) (opened_rising o (lent_sorted ∙ set))
