-- The words of a tree node, and the numbers of its format.
use Rattle.std.specs.Prelude.{◌≡◌, ℕ, ◌+◌, ◌-◌, ◌*◌, ◌/◌, ◌%◌, ◌<◌, ◌≤◌, ◌^◌, List, ◌∷◌, ◌++◌, length, slice_index, take, drop, replicate}
use Rattle.tree_read.specs.declared.node_format.TheConstants.{NODE_WORDS, MOST_SLOTS, FIRST_KEY, FIRST_VALUE}

-- word 0 is 256 times the level, plus the number of used slots
abbrev pub level_of : List ℕ → ℕ
level_of ws = slice_index ws 0 / 256

abbrev pub used_of : List ℕ → ℕ
used_of ws = slice_index ws 0 % 256

-- word 1 is the number of pairs below the node
abbrev pub count_of : List ℕ → ℕ
count_of ws = slice_index ws 1

-- the keys and the values of the used slots
abbrev pub node_keys : List ℕ → List ℕ
node_keys ws = take (used_of ws) (drop FIRST_KEY ws)

abbrev pub node_values : List ℕ → List ℕ
node_values ws = take (used_of ws) (drop FIRST_VALUE ws)

-- the words of a node of a level with at least `least` used slots; the words of unused slots are 0
pub record IsNodeForm (level least : ℕ) (ws : List ℕ) : Type 0 where
  pub size : length ws ≡ NODE_WORDS
  pub at_level : level_of ws ≡ level
  pub filled : least ≤ used_of ws
  pub room : used_of ws ≤ MOST_SLOTS
  pub no_key : (i : ℕ) → used_of ws ≤ i → i < MOST_SLOTS → slice_index ws (FIRST_KEY + i) ≡ 0
  pub no_value : (i : ℕ) → used_of ws ≤ i → i < MOST_SLOTS → slice_index ws (FIRST_VALUE + i) ≡ 0
  pub few : count_of ws < 2 ^ 32

-- the words of 16 slots, the first of which are used
abbrev pub slot_words : List ℕ → List ℕ
slot_words used = used ++ replicate (MOST_SLOTS - length used) 0

-- the words of a node with these used slots
abbrev pub node_words : ℕ → ℕ → List ℕ → List ℕ → List ℕ
node_words level count keys values = (level * 256 + length keys) ∷ count ∷ (slot_words keys ++ slot_words values)
