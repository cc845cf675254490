-- The laws of a layout as one argument.
use Rattle.std.proofs.Common.{◌≡◌, ℕ, List, []}
use Rattle.entry_ref.specs.Records.{Records, SameAt, AllThere}

pub record IsLayout (reaches : ℕ → Records → ℕ → List ℕ) (lawful : ℕ → Records → ℕ → Type 0) : Type 0 where
  -- root 0 reaches nothing and is lawful
  pub empty_reaches : (shape : ℕ) (m : Records) → reaches shape m 0 ≡ []
  pub empty_lawful : (shape : ℕ) (m : Records) → lawful shape m 0
  -- what is lawful reaches only records that are there
  pub present : (shape : ℕ) (m : Records) (root : ℕ) → lawful shape m root → AllThere (reaches shape m root) m
  -- it stays so, with the same reach, where the words at all that is reached are the same
  pub stays :
      (shape : ℕ) (m n : Records) (root : ℕ) → SameAt (reaches shape m root) m n → lawful shape m root
      → lawful shape n root × (reaches shape n root ≡ reaches shape m root)
