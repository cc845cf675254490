-- Words with zeros after them.
use Rattle.std.proofs.Common.{◌≡◌, ℕ, ◌-◌, ◌≤◌, List, length, get_or, sym, ◌∙◌, arith, inl, inr, length-append}
use Rattle.std.proofs.Math.ListN.{get_or-append, get_or-eq_default, replicate}
use Rattle.std.proofs.Math.Seq.{get_or-append_right}
use Rattle.std.proofs.lemmas.List.{length-replicate}
use Rattle.std.proofs.lemmas.Bool.{cases_lt}
use Rattle.list_lemmas.proofs.Places.{slice_index-zeros}
use Rattle.arena_api.specs.Calls.{padded}

abbrev zeros : ℕ → List ℕ
zeros n = replicate n 0

length-zeros : (n : ℕ) → length (zeros n) ≡ n
length-zeros n = length-replicate n 0

pub length-padded : (ws : List ℕ) (width : ℕ) → length ws ≤ width → length (padded ws width) ≡ width
length-padded ws width fits = length-append ws (zeros (width - length ws)) ∙ (let n = length-zeros (width - length ws) in omega arith)

pub padded-at : (ws : List ℕ) (width i : ℕ) → get_or (padded ws width) i 0 ≡ get_or ws i 0
padded-at ws width i = elim (cases_lt i (length ws)) [
  | inl h ↦ get_or-append ws (zeros (width - length ws)) 0 i h
  | inr h ↦ get_or-append_right ws (zeros (width - length ws)) i 0 h ∙ slice_index-zeros (width - length ws) (i - length ws) ∙ sym (get_or-eq_default ws 0 h)
]
