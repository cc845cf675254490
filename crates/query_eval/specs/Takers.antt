-- What the keys of a tree add to documents.
use Rattle.std.specs.Prelude.{◌≡◌, ℕ, Bool, ◌||◌, ◌&&◌, List}
use Rattle.index_model.specs.Sets.{has}

-- exactly these documents are added
abbrev pub Adds : (ℕ → Bool) → List ℕ → (ℕ → Bool) → Type 0
Adds old docs new = (doc : ℕ) → new doc ≡ (old doc || has docs doc)

-- exactly those of these documents are added that are in a set
abbrev pub AddsMeeting : (ℕ → Bool) → (ℕ → Bool) → List ℕ → (ℕ → Bool) → Type 0
AddsMeeting set old docs new = (doc : ℕ) → new doc ≡ (old doc || (set doc && has docs doc))
