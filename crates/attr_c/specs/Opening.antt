-- What a call that opens an engine says.
use Rattle.std.specs.Prelude.{◌≡◌, ◌≢◌, ◌≤◌, ◌*◌, ℕ, not, nat_eq, if◌then◌else◌, List, Option, Some, None, Ok, Err, ℤ}
use Rattle.attr_c.specs.Attributes.{fields_in}
use Rattle.attr_c.specs.Engines.{AreNewCounts, HasOwnReaders, IsNewEngine, dense_of, fields_of, open_counts, open_waiting}
use Rattle.attr_c.specs.Stores.{HasMemory, open_bits, open_ledger, open_memory}
use Rattle.attr_c.specs.declared.codes.TheConstants.{OK, MEMORY, BOUNDS, ATTRIBUTES, NO_TEXT}
use Rattle.attr_c.specs.declared.state.Engine.{Engine}
use Rattle.attr_c.specs.declared.told.Sizes.{Sizes}
use Rattle.word_arena.specs.declared.config.TheConstants.{MOST_COMMITS, MOST_GENERATIONS}

-- the sizes that an engine may have
pub record InBounds (sizes : Sizes) : Type 0 where
  pub some_buffers : 1 ≤ sizes.buffers
  pub few_buffers : sizes.buffers ≤ 8191
  pub few_narrow : sizes.wide ≡ 0 → sizes.buffers ≤ 1023
  pub some_words : 8192 ≤ sizes.words
  pub few_words : sizes.words ≤ 65536
  pub few_in_all : sizes.buffers * sizes.words ≤ 67108864
  pub few_readers : sizes.readers ≤ 64

-- the bits of a reference for the place in a buffer: more buffers leave fewer
abbrev pub bits_for : Sizes → ℕ
bits_for sizes = if nat_eq sizes.wide 0 then 22 else 19

-- a new engine, which has the attributes that the text names, and as many readers of them to hand out as were asked for;
-- it keeps bit vectors if they are wanted
pub record Opens (text : List ℕ) (sizes : Sizes) (engine : Engine) : Type 0 where
  pub is_new : IsNewEngine engine
  pub reads : fields_in text ≡ Ok (fields_of engine)
  pub in_bounds : InBounds sizes
  pub memory : HasMemory sizes.buffers sizes.words MOST_COMMITS MOST_GENERATIONS (open_memory engine.inner)
  pub bits : open_bits engine.inner ≡ bits_for sizes
  pub counts : AreNewCounts sizes (open_counts engine.inner)
  pub readers : open_waiting engine.inner ≡ sizes.readers
  pub made : (open_ledger engine.inner).work.made ≡ sizes.readers
  pub own : HasOwnReaders engine.inner
  pub dense : dense_of engine ≡ not (nat_eq sizes.dense 0)

-- the engine that was written for C
abbrev pub OpensEngine : List ℕ → Sizes → Option Engine → Type 0
OpensEngine text sizes (Some engine) = Opens text sizes engine
OpensEngine text sizes None = ⊥

-- when each code comes; the place is the number of the wrong attribute
pub record RefusesOpening (text : List ℕ) (sizes : Sizes) (place : ℕ) (code : ℤ) : Type 0 where
  pub not_ok : code ≢ OK
  pub not_text : code ≢ NO_TEXT
  pub attributes : code ≡ ATTRIBUTES → fields_in text ≡ Err place
  pub bounds : code ≡ BOUNDS → InBounds sizes → ⊥
  pub others : code ≢ ATTRIBUTES → code ≢ BOUNDS → code ≡ MEMORY
