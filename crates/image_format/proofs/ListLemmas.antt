-- The form of a posting list, and that none is empty.
use Rattle.std.proofs.Common.{◌≡◌, ℕ, pos, ◌+◌, ◌-◌, ◌*◌, ◌/◌, ◌%◌, ◌<◌, ◌^◌, List, [], ◌∷◌, length, sym, ap, subst, ◌∙◌, arith, cond}
use Rattle.std.specs.Prelude.{nat_eq, nat_le}
use Rattle.std.proofs.lemmas.Bool.{cond-true, cond-false, lt-leb, le-leb}
use Rattle.std.proofs.lemmas.List.{length-map}
use Rattle.entry_ref.specs.Records.{Records}
use Rattle.tree_read.specs.Trees.{tree_pairs}
use Rattle.image_format.specs.Postings.{ListForm, short, tree, vector, list_form, vector_documents, postings_at, IsPostingList}
use Rattle.image_format.specs.Words.{stored_items, unpacked, weight_in_bits}
use Rattle.image_format.specs.declared.TheConstants.{FIRST_VECTOR}

form_below : (word : ℕ) → word < 2 ^ 33 → list_form word ≡ cond (nat_eq (word % 2) 0) (short (word / 2)) (tree (word / 2))
form_below word below = cond-false (nat_le FIRST_VECTOR word) (vector (word - FIRST_VECTOR)) (cond (nat_eq (word % 2) 0) (short (word / 2)) (tree (word / 2)))
    (lt-leb FIRST_VECTOR word (let number : word < 8589934592 = below in omega arith))

word_short : (ref : ℕ) → ref < 2 ^ 32 → list_form (ref * 2) ≡ short ref
word_short ref below =
    form_below (ref * 2) (omega arith)
    ∙ ap (λ r. cond (nat_eq r 0) (short (ref * 2 / 2)) (tree (ref * 2 / 2))) (let even : ref * 2 % 2 ≡ 0 = omega arith in even)
    ∙ ap short (let half : ref * 2 / 2 ≡ ref = omega arith in half)

word_tree : (ref : ℕ) → ref < 2 ^ 32 → list_form (ref * 2 + 1) ≡ tree ref
word_tree ref below =
    form_below (ref * 2 + 1) (omega arith)
    ∙ ap (λ r. cond (nat_eq r 0) (short ((ref * 2 + 1) / 2)) (tree ((ref * 2 + 1) / 2))) (let odd : (ref * 2 + 1) % 2 ≡ 1 = omega arith in odd)
    ∙ ap tree (let half : (ref * 2 + 1) / 2 ≡ ref = omega arith in half)

word_vector : (ref : ℕ) → list_form (FIRST_VECTOR + ref) ≡ vector ref
word_vector ref =
    let word : ℕ = FIRST_VECTOR + ref in
    cond-true (nat_le FIRST_VECTOR word) (vector (word - FIRST_VECTOR)) (cond (nat_eq (word % 2) 0) (short (word / 2)) (tree (word / 2))) (le-leb FIRST_VECTOR word (omega arith))
    ∙ ap vector (let rest : FIRST_VECTOR + ref - FIRST_VECTOR ≡ ref = omega arith in rest)

pub word_tells_form : (ref : ℕ) → ref < 2 ^ 32 → (list_form (ref * 2) ≡ short ref) × (list_form (ref * 2 + 1) ≡ tree ref) × (list_form (FIRST_VECTOR + ref) ≡ vector ref)
word_tells_form ref below = (word_short ref below, word_tree ref below, word_vector ref)

pub lists_filled : (m : Records) (form : ListForm) → IsPostingList m form → 0 < length (postings_at m form)
lists_filled m (short ref) list = subst (λ n. 0 < n) (sym (length-map (stored_items (m ref)) unpacked)) list.some
lists_filled m (tree root) list =
    let many : 0 < length (tree_pairs m root) = (let more = list.1 in omega arith) in
    subst (λ n. 0 < n) (sym (length-map (tree_pairs m root) (λ (p : ℕ × ℕ). (p.0, weight_in_bits p.1)))) many
lists_filled m (vector root) list =
    let many : 0 < length (vector_documents m root) = (let more = list.1 in omega arith) in
    subst (λ n. 0 < n) (sym (length-map (vector_documents m root) (λ (doc : ℕ). (doc, pos 1)))) many
