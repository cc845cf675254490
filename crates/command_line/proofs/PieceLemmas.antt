-- Pieces of a text: how far they reach, and where each ends.
use Rattle.std.proofs.Common.{◌≡◌, ◌≤◌, ◌+◌, ◌∙◌, ℕ, Bool, true, false, cond, List, [], ◌∷◌, length, refl, arith}
use Rattle.std.specs.List.{AllByRecursion, slice_split, onto_first}
use Rattle.clap.specs.Walk.{Text}
use Rattle.command_line.specs.Also.{EndsBefore, Piece, placed, span}

onto_span : (byte : ℕ) (texts : List Text) (n : ℕ) → span texts ≡ n + 1 → span (onto_first byte texts) ≡ n + 2
onto_span byte [] n e = absurd (omega (arith, e))
onto_span byte (text ∷ texts) n e = omega (arith, e)

-- what stands between marks, with a mark after each, is the text with one mark more
pub split_span : (mark : ℕ → Bool) (text : Text) → span (slice_split mark text) ≡ length text + 1
split_span mark [] = refl
split_span mark (byte ∷ text) = go (mark byte) (split_span mark text)
  where
    go : (b : Bool) → span (slice_split mark text) ≡ length text + 1
        → span (cond b ([] ∷ slice_split mark text) (onto_first byte (slice_split mark text))) ≡ length (byte ∷ text) + 1
    go true e = omega (arith, e)
    go false e = onto_span byte (slice_split mark text) (length text) e ∙ omega arith

pub placed_end : (offset place : ℕ) (texts : List Text) → place + span texts ≤ offset + 1
    → AllByRecursion (EndsBefore offset) (placed place texts)
placed_end offset place [] reach = tt
placed_end offset place (text ∷ texts) reach =
    (omega (arith, reach), placed_end offset (place + length text + 1) texts (omega (arith, reach)))

pub ends_weaker : (small large : ℕ) (pieces : List Piece) → small ≤ large → AllByRecursion (EndsBefore small) pieces
    → AllByRecursion (EndsBefore large) pieces
ends_weaker small large [] below all = tt
ends_weaker small large (piece ∷ pieces) below all =
    (omega (arith, below, all.0), ends_weaker small large pieces below all.1)
