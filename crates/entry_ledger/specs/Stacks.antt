-- A stack of the indices of the list elements that pass a test, each once.
use Rattle.std.specs.Prelude.{◌≡◌, ◌≢◌, ℕ, ◌<◌, Bool, true, List, length, slice_index, slice_index_or, count_by}

pub record IsStack {A : Type 0} (d : A) (test : A → Bool) (elements : List A) (stack : List ℕ) : Type 0 where
  pub below : (i : ℕ) → i < length stack → slice_index stack i < length elements
  pub passes : (i : ℕ) → i < length stack → test (slice_index_or elements (slice_index stack i) d) ≡ true
  pub apart : (i j : ℕ) → i < j → j < length stack → slice_index stack i ≢ slice_index stack j
  pub count : length stack ≡ count_by test elements
