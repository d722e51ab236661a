-- Demand 4 shown: by the laws of what is shown, from the outermost place.
use Rattle.std.specs.Prelude.{Option, None, Some}
use mathlib.Core.Bool.{true}
use mathlib.Core.List.{List, [], ◌∷◌}
use mathlib.Core.Path.{◌≡◌, refl, sym, ap, ◌∙◌}
use Prim.Native.Nat.{ℕ}
use Rattle.forms.proofs.NormalLaws.{same_reached}
use Rattle.paper.specs.Limits.{most_levels}
use Rattle.paper.specs.Meaning.{Doc}
use Rattle.paper.specs.Metadata.{Dictionary}
use Rattle.paper.specs.Normal.{Document}
use Rattle.paper.specs.Operations.{rebuild_outcome}
use Rattle.paper.specs.Rebuilding.{or_null, place_meaning, row_meaning}
use Rattle.paper.specs.Rows.{Place, Row, row_of}
use Rattle.paper.specs.Rules.{place_lawful, row_lawful}
use Rattle.paper.specs.Schemas.{Schema, schema_of}
use Rattle.paper.specs.Standing.{Step, stands_at}
use Rattle.schemas.proofs.GoodLaws.{schema_good}
use Rattle.promises.specs.Screens.{shows, ScreensAgree, RebuiltMeans}
use Rattle.promises.specs.Walking.{Stop, place_at}
use Rattle.promises.specs.Done.{Bytes, Rebuilds}
use Rattle.promises.proofs.DoneLaws.{document_reached}
use Rattle.promises.proofs.RebuiltLaws.{Rebuilt, row_rebuilds}
use Rattle.promises.proofs.ShownLaws.{Good, shown_at, empty_nowhere}
use Rattle.promises.proofs.WalkingLaws.{same_stop}

outermost_shown : (names : Dictionary) (node : Schema) (p : Place) (x : Option Doc) → place_meaning node p ≡ x → Good node → place_lawful node names p ≡ true
    → (path : List Step) (stop : Stop) → place_at node p path ≡ Some stop → stands_at (or_null x) path ≡ shows path stop
unfolding shows or_null stands_at place_at
outermost_shown names node p x is good lawful [] stop found =
    same_stop (λ n q. Some (or_null x) ≡ Some (or_null (place_meaning n q))) node p stop found (rw is)
outermost_shown names node p None is good lawful (step ∷ more) stop found = empty_nowhere node p step more stop is found
outermost_shown names node p (Some d) is good lawful (step ∷ more) stop found = shown_at names (step ∷ more) node p d stop good lawful is found

rebuilt : (schema row : List ℕ) (metadata_room value_room : ℕ) (form : Document) → Bytes row → Rebuilds schema row metadata_room value_room form
    → (node : Schema) (parsed : Row) → schema_of schema ≡ Some node → row_of node row ≡ Some parsed → Rebuilt node parsed form
rebuilt schema row metadata_room value_room form bytes rebuilds =
    row_rebuilds schema row form bytes (document_reached (rebuild_outcome schema row) metadata_room value_room form rebuilds).0

pub rebuilt_means : RebuiltMeans
rebuilt_means schema row metadata_room value_room form bytes rebuilds node parsed is reads =
    (rebuilt schema row metadata_room value_room form bytes rebuilds node parsed is reads).means

pub screens_agree : ScreensAgree
unfolding row_meaning row_lawful
screens_agree schema row metadata_room value_room form bytes rebuilds node parsed is reads d means path stop found =
    let r : Rebuilt node parsed form = rebuilt schema row metadata_room value_room form bytes rebuilds node parsed is reads in
    ap (λ (e : Doc). stands_at e path) (same_reached (sym means ∙ r.means))
    ∙ outermost_shown parsed.names node parsed.outermost (place_meaning node parsed.outermost) refl (most_levels, schema_good schema node is)
    r.lawful path stop found
