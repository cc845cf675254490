-- Whether a document was gathered.
use Rattle.std.specs.Prelude.{ℕ, Bool}
use Rattle.index_model.specs.Sets.{has, in_words}
use Rattle.index_model.specs.declared.gathered.Gathered.{Gathered}
use Rattle.index_model.specs.declared.gathered.Gathered.TheVariants.{Few, Many}

abbrev pub is_gathered : Gathered → ℕ → Bool
is_gathered (Few docs) doc = has docs.items doc
is_gathered (Many words) doc = in_words words doc
