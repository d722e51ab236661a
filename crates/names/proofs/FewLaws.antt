-- How many names a dictionary has: each takes an offset, so no more than its metadata has bytes.
use mathlib.Core.List.{List}
use mathlib.Core.Path.{◌≡◌, ◌∙◌}
use Prim.Native.Nat.{ℕ, ◌+◌, ◌*◌, ◌≤◌}
use native.Mathlib.Nat.{mul-le-mul, mul-one}
use native.Mathlib.Omega.{arith}
use lib.ListN.{length}
use Rattle.dictionary.specs.Judging.{Opened}
use Rattle.dictionary.specs.declared.Names.{Names}
use Rattle.paper.specs.Bounds.{most_names}
use Rattle.paper.specs.Limits.{most_metadata}
use Rattle.paper.specs.Metadata.{offset_size, names_in}
use Rattle.paper.specs.Words.{at}
use Rattle.dictionary.proofs.DictionaryLaws.{opened_names}
use Rattle.names.proofs.NeverLongerLaws.{read_length, read_count}

module _ {m : List ℕ} {names : Names} (opened : Opened m names) where
  pub count_is : names.count ≡ length (names_in m)
  count_is = opened.count ∙ read_count m (names_in m) (opened_names opened)

  pub names_within : names.count ≤ length m
  unfolding offset_size
  names_within =
      let all = read_length m (names_in m) (opened_names opened) in
      let one : (length (names_in m) + 1) * 1 ≤ (length (names_in m) + 1) * offset_size (at m 0) = mul-le-mul (omega arith) (omega arith) in
      let same = mul-one (length (names_in m) + 1) in
      let is = count_is in
      omega arith

  pub names_few : length m ≤ most_metadata → names.count ≤ most_names
  names_few short = let within = names_within in omega arith
