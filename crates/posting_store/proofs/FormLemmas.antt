-- The form of a list by its word.
use Rattle.std.proofs.Common.{◌≡◌, ℕ, zero, suc, ℤ, ◌+◌, ◌-◌, ◌*◌, ◌/◌, ◌%◌, ◌<◌, ◌≤◌, Bool, true, false, cond, nat_eq, [], ◌∷◌, map, length, refl, sym, ap, subst, ◌∙◌, arith}
use Rattle.std.proofs.lemmas.Bool.{le-leb, leb-true, leb-false}
use Rattle.std.proofs.lemmas.List.{length-map}
use Rattle.entry_ref.specs.Records.{Records}
use Rattle.tree_read.specs.Trees.{tree_pairs, tree_nodes}
use Rattle.frozen_btree.specs.Changes.{levels}
use Rattle.list_lemmas.proofs.Tests.{too_many}
use Rattle.image_format.specs.Postings.{ListForm, short, tree, vector, list_form, postings_at, postings_reach, IsPostingList}
use Rattle.image_format.specs.Words.{stored_items, unpacked, weight_in_bits}
use Rattle.posting_store.specs.Lists.{list_at, list_reach, list_levels, form_levels, is_vector, IsList, IsPlain}

form_by : Bool → Bool → ℕ → ListForm
form_by dense even word = cond dense (vector (word - 8589934592)) (cond even (short (word / 2)) (tree (word / 2)))

-- a plain word's form is told by its lowest bit
pub form_even : (word : ℕ) → IsPlain word → word % 2 ≡ 0 → list_form word ≡ short (word / 2)
unfolding form_by
form_even word plain even =
    ap (λ b. form_by b (nat_eq (word % 2) 0) word) (too_many 8589934592 word plain)
    ∙ ap (λ n. form_by false (nat_eq n 0) word) even

pub form_odd : (word : ℕ) → IsPlain word → word % 2 ≡ 1 → list_form word ≡ tree (word / 2)
unfolding form_by
form_odd word plain odd =
    ap (λ b. form_by b (nat_eq (word % 2) 0) word) (too_many 8589934592 word plain)
    ∙ ap (λ n. form_by false (nat_eq n 0) word) odd

pub form_short : (word ref : ℕ) → IsPlain word → word ≡ 2 * ref → list_form word ≡ short ref
form_short word ref plain is = form_even word plain (omega arith) ∙ ap short (let e : word / 2 ≡ ref = omega arith in e)

pub form_tree : (word root : ℕ) → IsPlain word → word ≡ 2 * root + 1 → list_form word ≡ tree root
form_tree word root plain is = form_odd word plain (omega arith) ∙ ap tree (let e : word / 2 ≡ root = omega arith in e)

-- a bit vector is told by its word alone
pub plain_of : (word : ℕ) → is_vector word ≡ false → IsPlain word
plain_of word is = leb-false 8589934592 word is

pub no_vector : (word : ℕ) → IsPlain word → is_vector word ≡ false
no_vector word plain = too_many 8589934592 word plain

pub vector_high : (word : ℕ) → is_vector word ≡ true → 8589934592 ≤ word
vector_high word is = leb-true 8589934592 word is

pub form_vector : (word root : ℕ) → word ≡ 8589934592 + root → list_form word ≡ vector root
unfolding form_by
form_vector word root is =
    ap (λ b. form_by b (nat_eq (word % 2) 0) word) (le-leb 8589934592 word (omega arith))
    ∙ ap vector (let e : word - 8589934592 ≡ root = omega arith in e)

-- what is not empty is read by its form
pub at_form : (m : Records) (word : ℕ) → 0 < word → list_at m word ≡ postings_at m (list_form word)
at_form m zero some = absurd (omega arith)
at_form m (suc word) some = refl

pub reach_form : (m : Records) (word : ℕ) → 0 < word → list_reach m word ≡ postings_reach m (list_form word)
reach_form m zero some = absurd (omega arith)
reach_form m (suc word) some = refl

module _ (m : Records) (word ref : ℕ) (plain : IsPlain word) (is : word ≡ 2 * ref) (some : 0 < ref) where
  pub short_at : list_at m word ≡ map unpacked (stored_items (m ref))
  short_at = at_form m word (omega arith) ∙ ap (postings_at m) (form_short word ref plain is)

  pub short_reach : list_reach m word ≡ ref ∷ []
  short_reach = reach_form m word (omega arith) ∙ ap (postings_reach m) (form_short word ref plain is)

module _ (m : Records) (word root : ℕ) (plain : IsPlain word) (is : word ≡ 2 * root + 1) where
  pub tree_at : list_at m word ≡ map (λ p. (p.0, weight_in_bits p.1)) (tree_pairs m root)
  tree_at = at_form m word (omega arith) ∙ ap (postings_at m) (form_tree word root plain is)

  pub tree_reach : list_reach m word ≡ tree_nodes m root
  tree_reach = reach_form m word (omega arith) ∙ ap (postings_reach m) (form_tree word root plain is)

  pub tree_levels : list_levels m word ≡ levels m root
  tree_levels = ap (form_levels m) (form_tree word root plain is)

  pub tree_form : IsList m word → IsPostingList m (tree root)
  tree_form list = subst (IsPostingList m) (form_tree word root plain is) (list.form (omega arith))

-- a plain list that is no tree is short, and one of more documents is a tree
pub short_few : (m : Records) (word : ℕ) → IsPlain word → word % 2 ≡ 0 → IsList m word → length (list_at m word) ≤ 8
short_few m word plain even list = told word refl
  where
    told : (w : ℕ) → w ≡ word → length (list_at m w) ≤ 8
    told zero is = omega arith
    told (suc w) is =
        let form : list_form (suc w) ≡ short (suc w / 2) = form_even (suc w) (subst IsPlain (sym is) plain) (omega arith) in
        let posting : IsPostingList m (short (suc w / 2)) = subst (IsPostingList m) form (subst (λ v. IsPostingList m (list_form v)) (sym is) (list.form (omega arith))) in
        let few = posting.few in
        let size : length (map {B = ℕ × ℤ} unpacked (stored_items (m (suc w / 2)))) ≡ length (stored_items (m (suc w / 2))) = length-map (stored_items (m (suc w / 2))) unpacked in
        let whole = ap (λ form. length (postings_at m form)) form in
        omega arith

pub many_odd : (m : Records) (word : ℕ) → IsPlain word → IsList m word → 8 < length (list_at m word) → word % 2 ≡ 1
many_odd m word plain list many = told (word % 2) refl
  where
    told : (bit : ℕ) → word % 2 ≡ bit → word % 2 ≡ 1
    told zero is = absurd (let few = short_few m word plain is list in omega arith)
    told (suc zero) is = is
    told (suc (suc bit)) is = absurd (omega arith)
