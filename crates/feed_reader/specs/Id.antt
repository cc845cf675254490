-- The document that an id names.
use Rattle.std.specs.Prelude.{ℕ, ◌==◌, List, length, nat_lt, if◌then◌else◌, codes, Option, Some, None}
use Rattle.std.specs.List.{position_or_len, before_first, after_first}
use Rattle.std.specs.Str.{bytes_eq}
use Rattle.feed_reader.specs.Numerals.{document_written}

infixl 10 ◌>>=◌
abbrev pub ◌>>=◌ : {A B : Type 0} → Option A → (A → Option B) → Option B
None >>= f = None
(Some x) >>= f = f x

-- what precedes the first colon, and what follows it
abbrev pub cut_at_colon : List ℕ → Option (List ℕ × List ℕ)
cut_at_colon text = if nat_lt (position_or_len (λ b. b == 58) text) (length text)
    then Some (before_first (λ b. b == 58) text, after_first (λ b. b == 58) text) else None

-- the same, if at least one byte precedes the colon
abbrev pub cut_some_at_colon : List ℕ → Option (List ℕ × List ℕ)
cut_some_at_colon text = do
  parts ← cut_at_colon text
  if nat_lt 0 (length parts.0) then Some parts else None

-- `id:`, a namespace, `:`, a document type, `:`, a part that may be empty, `:`, the document's number
unfoldable pub id_read : List ℕ → Option ℕ
id_read text = do
  scheme ← cut_at_colon text
  namespace ← if bytes_eq scheme.0 (codes "id") then cut_some_at_colon scheme.1 else None
  document_type ← cut_some_at_colon namespace.1
  part ← cut_at_colon document_type.1
  document_written part.1
