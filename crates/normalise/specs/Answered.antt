-- A document to be written into two lent buffers: the answer, and every byte of both.
use Rattle.std.specs.Prelude.{true, List, [], ◌≡◌, ℕ, ◌≤◌, ◌<◌, length, get_or, Some}
use Rattle.dictionary.specs.Lent.{LentNames}
use Rattle.marking.specs.Ids.{ids_in}
use Rattle.naming.specs.Chosen.{chosen_names, Chosen}
use Rattle.numbers.specs.Little.{put_at}
use Rattle.paper.specs.Limits.{most_levels, most_metadata, most_value}
use Rattle.paper.specs.Meaning.{Doc}
use Rattle.paper.specs.Normal.{Document, names_used}
use Rattle.paper.specs.Operations.{document_answer, metadata_written, value_written}
use Rattle.paper.specs.Refusals.{Outcome, DocumentAnswer}
use Rattle.paper.specs.Values.{meaning_of}
use Rattle.paper.specs.Words.{is_there, all_below}
use Rattle.writing.specs.Rewritten.{rewritten}
use Rattle.writing.specs.Written.{Right}

pub record Answered (outcome : Outcome Document) (metadata₀ metadata value₀ value : List ℕ) (answer : DocumentAnswer) : Type 0 where
  pub answer_is : answer ≡ document_answer outcome (length metadata₀) (length value₀)
  pub metadata_is : metadata ≡ put_at metadata₀ 0 (metadata_written outcome (length metadata₀) (length value₀))
  pub value_is : value ≡ put_at value₀ 0 (value_written outcome (length metadata₀) (length value₀))

-- A lent document that was judged lawful.
pub record Lent (dictionary : LentNames) (value : List ℕ) : Type 0 where
  pub meant : is_there (meaning_of most_levels dictionary.names value) ≡ true
  pub metadata_short : dictionary.size ≤ most_metadata
  pub value_short : length value ≤ most_value

-- Its used names numbered: the chosen ids name exactly the names used, rising, and each used id's rank is its name's place
-- among them.
pub record Numbered (dictionary : LentNames) (value ranks chosen : List ℕ) : Type 0 where
  pub choice : Chosen dictionary chosen
  pub d : Doc
  pub means : meaning_of most_levels dictionary.names value ≡ Some d
  pub used : chosen_names dictionary.names chosen ≡ names_used d
  pub ranked : all_below (length ranks) (ids_in most_levels value) ≡ true
  pub right : Right dictionary.names (names_used d) ranks (ids_in most_levels value)
  pub bytes : (i : ℕ) → get_or value i 0 < 256
  pub value_short : length value ≤ most_value

-- A value that uses no names and is its own normal form.
pub record Standing (value : List ℕ) : Type 0 where
  pub same : (ranks : List ℕ) → rewritten most_levels ranks value ≡ value
  pub none_used : ids_in most_levels value ≡ []
