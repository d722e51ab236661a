-- What a place means, by its bytes.
use Rattle.std.specs.Prelude.{List, ℕ}
use Rattle.paper.specs.Meaning.{Doc}
use Rattle.paper.specs.Metadata.{Dictionary}
use Rattle.paper.specs.Rebuilding.{or_null, place_meaning}
use Rattle.paper.specs.Rows.{place_under}
use Rattle.paper.specs.Schemas.{Schema}
use Rattle.paper.specs.Words.{and_then}

-- An empty place means null, as the outermost one does.
unfoldable pub place_doc : Schema → (levels : ℕ) → Dictionary → List ℕ → Doc
place_doc under levels names body = or_null (and_then (place_under under levels names (record { tag = 0x50; body = body })) (place_meaning under))
