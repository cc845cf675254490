-- The blocks of a list that is a bit vector, and where the old records of a list come from.
use Rattle.std.specs.Prelude.{◌≡◌, ◌≢◌, ℕ, Option, None, Some}
use Rattle.entry_ref.specs.Records.{Records, Among}
use Rattle.image_format.specs.Postings.{ListForm, short, tree, vector, list_form}
use Rattle.bit_vector.specs.Keeps.{block_at}
use Rattle.posting_store.specs.Lists.{list_reach, is_vector}

-- the record of a block; other lists have no blocks
abbrev pub form_block : Records → ListForm → ℕ → Option ℕ
form_block m (short ref) k = None
form_block m (tree root) k = None
form_block m (vector root) k = block_at m root k

abbrev pub list_block : Records → ℕ → ℕ → Option ℕ
list_block m word k = form_block m (list_form word) k

-- a block whose record is old was this block before
pub record KeepsListBlocks (IsOld : ℕ → Type 0) (m n : Records) (word next : ℕ) : Type 0 where
  pub each : (k r : ℕ) → list_block n next k ≡ Some r → IsOld r → list_block m word k ≡ Some r

-- a list whose form changed to or from that of a bit vector has no old record
pub record FlowsList (IsOld : ℕ → Type 0) (m n : Records) (word next : ℕ) : Type 0 where
  pub blocks : KeepsListBlocks IsOld m n word next
  pub anew : is_vector next ≢ is_vector word → (r : ℕ) → IsOld r → Among r (list_reach n next) → ⊥
