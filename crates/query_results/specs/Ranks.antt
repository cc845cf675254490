-- The keys by which documents and scores are sorted.
use Rattle.std.specs.Prelude.{ℕ, Option, Some, None}
use Rattle.attr_types.specs.declared.score.Score.{Score}
use Rattle.attr_types.specs.declared.value.Value.{Value}
use Rattle.result_model.specs.declared.direction.Direction.{Direction}
use Rattle.result_model.specs.declared.direction.Direction.TheVariants.{Ascending, Descending}
use Rattle.query_results.specs.declared.ranks.Place.{Place}
use Rattle.query_results.specs.declared.ranks.Place.TheVariants as places
use Rattle.query_results.specs.declared.ranks.Ranked.{Ranked}
use Rattle.query_results.specs.declared.score_keys.ScoreKey.{ScoreKey}

-- where a value is in an order of values; no value is last
abbrev pub place_of : Direction → Option Value → Place
place_of direction None = places.Last
place_of Ascending (Some value) = places.Up value
place_of Descending (Some value) = places.Down (record { 0 = value })

-- a document with its value, as a key
abbrev pub ranked : Direction → Option Value × ℕ → Ranked
ranked direction k = record { place = place_of direction k.0; doc = k.1 }

-- a score as a key, and back
abbrev pub as_key : Score → ScoreKey
as_key score = record { score = record { 0 = score.score }; doc = score.doc }

abbrev pub as_score : ScoreKey → Score
as_score key = record { doc = key.doc; score = key.score.0 }
