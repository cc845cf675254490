-- A machine's run, byte by byte.
use Rattle.std.proofs.Common.{◌≡◌, ◌<◌, ◌≤◌, ◌+◌, ℕ, List, ◌∷◌, length, get_or, drop, Option, Some, None, Ok, Err, Bool, sym, ap, ◌∙◌, cond, add-one, drop-cons}
use Rattle.std.proofs.lemmas.List.{drop_all}
use Rattle.query_text.specs.Machine.{run_from, on_next}

drop-next : (text : List ℕ) (i : ℕ) → i < length text → drop i text ≡ get_or text i 0 ∷ drop (i + 1) text
drop-next text i h = drop-cons text i 0 h ∙ ap (λ k. get_or text i 0 ∷ drop k text) (sym (add-one i))

module _ {S : Type 0} (after : S → ℕ → ℕ → Option S) (ends : S → Bool) (state : S) (text : List ℕ) where
  -- one byte more
  run-drop : (i byte : ℕ) → i < length text → byte ≡ get_or text i 0
      → run_from after ends state i (drop i text) ≡ on_next (after state i byte) (λ next. run_from after ends next (i + 1) (drop (i + 1) text)) i
  unfolding run_from
  run-drop i byte h e =
      ap (run_from after ends state i) (drop-next text i h)
      ∙ ap (λ b. on_next (after state i b) (λ next. run_from after ends next (i + 1) (drop (i + 1) text)) i) (sym e)

  pub run-more : (next : S) (i byte : ℕ) → i < length text → byte ≡ get_or text i 0 → after state i byte ≡ Some next
      → run_from after ends state i (drop i text) ≡ run_from after ends next (i + 1) (drop (i + 1) text)
  run-more next i byte h e more =
      run-drop i byte h e ∙ ap (λ o. on_next o (λ next. run_from after ends next (i + 1) (drop (i + 1) text)) i) more

  pub run-none : (i byte : ℕ) → i < length text → byte ≡ get_or text i 0 → after state i byte ≡ None
      → run_from after ends state i (drop i text) ≡ Err i
  run-none i byte h e none =
      run-drop i byte h e ∙ ap (λ o. on_next o (λ next. run_from after ends next (i + 1) (drop (i + 1) text)) i) none

  -- the end
  pub run-end : (i : ℕ) → length text ≤ i → run_from after ends state i (drop i text) ≡ cond (ends state) (Ok state) (Err i)
  unfolding run_from
  run-end i h = ap (run_from after ends state i) (drop_all i text h)
