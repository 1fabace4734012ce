-- Words one behind the other in one text.
use Rattle.std.specs.Prelude.{ℕ, ◌<◌, List, length}
use Rattle.std.specs.Str.{IsCharBoundary}
use Rattle.fleet_index.specs.Runs.{AreEnds, end_at}

-- each word begins where the one before it ends, the last ends with the text, and each is a text by itself
pub record AreWords (bytes ends : List ℕ) : Type 0 where
  pub follow : AreEnds bytes ends
  pub cut : (place : ℕ) → place < length ends → IsCharBoundary bytes (end_at ends place)
