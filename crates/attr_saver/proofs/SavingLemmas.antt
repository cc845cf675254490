-- What is written one after another is a save.
use Rattle.std.proofs.Common.{◌≡◌, ℕ, ◌+◌, List, [], ◌∷◌, ◌++◌, length, Fits, w32, refl, arith}
use Rattle.std.specs.List.{flat_map}
use Rattle.attr_types.specs.Table.{Table}
use Rattle.attr_types.specs.declared.kind.Kind.{Kind}
use Rattle.attr_types.specs.declared.kind.ValueType.{ValueType}
use Rattle.attr_saver.specs.Bytes.{form_bytes, head_bytes, document_bytes, saved_bytes}
use Rattle.attr_saver.specs.Lawful.{first_column, save_of, AreLawfulDocuments}
use Rattle.attr_saver.proofs.Columns.{column_few}

counted : (table : Table) (n : ℕ) → n ≡ length table → n ≡ length (first_column table)
counted [] n is = is
counted (e ∷ table) n is = omega (arith, is, counted table (length table) refl)

pub counted_fits : (kind : Kind) (type : ValueType) (table : Table) (n : ℕ) → AreLawfulDocuments kind type (first_column table) → n ≡ length table → Fits w32 n
counted_fits kind type table n lawful is =
    record { fits = omega (arith, column_few kind type (first_column table) lawful, counted table n is) }

pub saved_is : (kind : Kind) (type : ValueType) (operations n : ℕ) (table : Table) (none head all : List ℕ) → none ≡ []
    → head ≡ none ++ head_bytes kind type operations n → all ≡ head ++ flat_map (document_bytes kind) (first_column table) → n ≡ length table
    → all ≡ saved_bytes (save_of kind type operations table)
saved_is kind type operations n table none head all p q r is = rw (r, q, p, ← counted table n is) refl

pub saved_len : (kind : Kind) (type : ValueType) (operations : ℕ) (table : Table)
    → 14 + length (flat_map (document_bytes kind) (first_column table)) ≡ length (saved_bytes (save_of kind type operations table))
unfolding head_bytes form_bytes
saved_len kind type operations table = omega arith
