-- Demand 4, the two screens as operations, shown: find goes with the meaning, and the meaning with the places.
use Rattle.std.specs.Prelude.{Option, Some, Ok}
use mathlib.Core.Bool.{true, ◌&&◌}
use mathlib.Core.List.{List}
use mathlib.Core.Path.{◌≡◌, ap, ◌∙◌}
use Prim.Native.Nat.{ℕ, ◌+◌, ◌-◌, ◌≤◌}
use native.Mathlib.Omega.{arith}
use borrow.Author.Tests.{leb-true, le-leb}
use lib.Dec.{leb}
use lib.ListN.{length, take, drop, length-take, length-drop}
use lib.Seq.{take-length}
use Rattle.forms.proofs.NormalLaws.{require_reached, obtain_reached, same_reached}
use Rattle.paper.proofs.WordLaws.{and_both}
use Rattle.paper.specs.Limits.{most_metadata, most_value, most_path, most_levels}
use Rattle.paper.specs.Meaning.{Doc}
use Rattle.paper.specs.Metadata.{Dictionary, dictionary_of}
use Rattle.paper.specs.Operations.{document_fits, judged, value_judged, check_outcome, find_answer}
use Rattle.paper.specs.Rebuilding.{row_meaning}
use Rattle.paper.specs.Refusals.{require, obtain}
use Rattle.paper.specs.Values.{child_bytes, meaning_of}
use Rattle.paper.specs.declared.Child.{Child}
use Rattle.paper.specs.Words.{part}
use Rattle.promises.specs.Done.{Means}
use Rattle.promises.specs.Finding.{Tells, tells_of, tells_nothing, FindTells, TwoScreens}
use Rattle.promises.proofs.FindLaws.{FoundIn, found_nowhere, found_at, find_led}
use Rattle.promises.proofs.Screens.{rebuilt_means, screens_agree}

-- What check has seen of a document that it accepts.
record Checked (metadata value : List ℕ) (d : Doc) : Type 0 where
  pub names : Dictionary
  pub metadata_fits : leb (length metadata) most_metadata ≡ true
  pub value_fits : leb (length value) most_value ≡ true
  pub names_are : dictionary_of metadata ≡ Some names
  pub means : meaning_of most_levels names value ≡ Some d

checked : (metadata value : List ℕ) (d : Doc) → Means metadata value d → Checked metadata value d
unfolding check_outcome document_fits judged value_judged
checked metadata value d e =
    let first = require_reached _ (leb (length metadata) most_metadata && leb (length value) most_value) _ e in
    let fit = and_both (leb (length metadata) most_metadata) (leb (length value) most_value) first.0 in
    let second = obtain_reached _ (dictionary_of metadata) _ first.1 in
    let third = obtain_reached _ (meaning_of most_levels second.0 value) _ second.2 in
    record {
      names = second.0;
      metadata_fits = fit.0;
      value_fits = fit.1;
      names_are = second.1;
      means = third.1 ∙ ap Some (same_reached third.2);
    }

-- A part of a value, lent with its metadata.
part_means : (metadata value : List ℕ) (d : Doc) (c : Checked metadata value d) (child : Child) (e : Doc)
    → meaning_of most_levels c.names (child_bytes value child) ≡ Some e → Means metadata (part value child.start (child.start + child.size)) e
unfolding check_outcome document_fits judged value_judged require obtain child_bytes
part_means metadata value d c child e means =
    let size : child.start + child.size - child.start ≡ child.size = omega arith in
    let room = leb-true (length value) most_value c.value_fits in
    let short : length (take child.size (drop child.start value)) ≤ most_value = rw (length-take, length-drop) (omega arith) in
    rw (size, c.metadata_fits, le-leb (length (take child.size (drop child.start value))) most_value short, c.names_are, means)

pub find_tells : FindTells
unfolding find_answer document_fits judged value_judged require obtain
find_tells metadata value path d steps means short path-is =
    let c = checked metadata value d means in
    rw (c.metadata_fits, c.value_fits, le-leb (length path) most_path short, c.names_are, c.means, path-is)
    (go c (find_led c.names value steps most_levels 0 value d (take-length value) c.means))
  where
    go : (c : Checked metadata value d) {x : Option Child} {y : Option Doc} → FoundIn c.names most_levels value x y → Tells metadata value (Ok x) y
    go c found_nowhere = tells_nothing
    go c (found_at {child = child} {d = e} inside) = tells_of (part_means metadata value d c child e inside)

pub two_screens : TwoScreens
two_screens schema row metadata_room value_room form bytes rebuilds node parsed is reads path steps stop short path-is found =
    let d : Doc = row_meaning node parsed in
    let means = rebuilt_means schema row metadata_room value_room form bytes rebuilds node parsed is reads in
    rw (← screens_agree schema row metadata_room value_room form bytes rebuilds node parsed is reads d means steps stop found)
    (find_tells form.metadata form.value path d steps means short path-is)
