-- The keys of a list that is a bit vector: the numbers with which its blocks begin.
use Rattle.std.proofs.Common.{◌≡◌, ℕ, ◌+◌, ◌*◌, ◌/◌, ◌<◌, ◌^◌, Bool, true, false, cond, nat_lt, not, List, [], ◌∷◌, map, length, None, Some, Option, option_map}
use Rattle.std.proofs.Common.{Less, is_lt, nat_cmp, refl, sym, ap, subst, ◌∙◌, arith}
use Rattle.std.proofs.lemmas.Bool.{le-ltb, lt-ltb, ltb-true, ltb-false}
use Rattle.std.specs.Cmp.{ranks}
use Rattle.std.specs.List.{find, flat_map, AllByRecursion}
use Rattle.std.specs.List.Sorted.{IsStrictlySortedBy}
use Rattle.std.specs.Ordering.{MatchOrdering}
use Rattle.std.specs.Prelude.{IfSome}
use Rattle.std.specs.declared.cmp.Ordering.{Ordering}
use Rattle.std.specs.declared.cmp.Ordering.TheVariants.{Equal, Greater}
use Rattle.entry_ref.specs.Records.{Records}
use Rattle.tree_read.specs.Pairs.{choose, seek}
use Rattle.tree_read.specs.Trees.{tree_pairs}
use Rattle.image_format.specs.Postings.{vector, list_form, block_documents, IsBlock, IsPostingList}
use Rattle.posting_store.specs.Lists.{IsList}
use Rattle.posting_store.specs.Moves.{form_docs}
use Rattle.posting_store.proofs.FormLemmas.{form_vector}
use Rattle.posting_store.proofs.VectorLemmas.{vector_form}
use Rattle.attr_compaction.specs.PhaseKeys.{first_item}
use Rattle.attr_compaction.proofs.NextLemmas.{lt_cmp, past_number}

-- ---- numbers and the blocks that they lie in
past_block : (doc k : ℕ) → nat_lt doc (4096 * k) ≡ not (is_lt (nat_cmp k (doc / 4096 + 1)))
past_block doc k = same ∙ sym (lt_cmp (doc / 4096) k) ∙ past_number (doc / 4096) k
  where
    same : nat_lt doc (4096 * k) ≡ nat_lt (doc / 4096) k
    same = told (nat_lt (doc / 4096) k) refl
      where
        told : (t : Bool) → nat_lt (doc / 4096) k ≡ t → nat_lt doc (4096 * k) ≡ t
        told true is = let less = ltb-true (doc / 4096) k is in lt-ltb doc (4096 * k) (omega (arith, less))
        told false is = let most = ltb-false (doc / 4096) k is in le-ltb doc (4096 * k) (omega (arith, most))

abbrev start : ℕ × ℕ → ℕ
start p = 4096 * p.0

twice : (o : Option (ℕ × ℕ)) → option_map (λ (k : ℕ). 4096 * k) (option_map (λ (p : ℕ × ℕ). p.0) o) ≡ option_map start o
twice None = refl
twice (Some p) = refl

starts_first : (ps : List (ℕ × ℕ)) → option_map start (first_item ps) ≡ first_item (map start ps)
starts_first [] = refl
starts_first (p ∷ ps) = refl

starts_past : (doc : ℕ) (ps : List (ℕ × ℕ)) → option_map start (first_item (seek (λ key. nat_cmp key (doc / 4096 + 1)) ps)) ≡ find (nat_lt doc) (map start ps)
starts_past doc [] = refl
starts_past doc (p ∷ ps) =
    (elim (nat_cmp p.0 (doc / 4096 + 1)) as (λ o. nat_cmp p.0 (doc / 4096 + 1) ≡ o
    → option_map start (first_item (choose o (seek (λ key. nat_cmp key (doc / 4096 + 1)) ps) (p ∷ ps) (p ∷ ps))) ≡ find (nat_lt doc) (map start (p ∷ ps))) [
      | Less ↦ λ e. starts_past doc ps ∙ sym (tested e)
      | Equal ↦ λ e. sym (tested e)
      | Greater ↦ λ e. sym (tested e)
    ]) refl
  where
    tested : {o : Ordering} → nat_cmp p.0 (doc / 4096 + 1) ≡ o
        → find (nat_lt doc) (map start (p ∷ ps)) ≡ cond (not (is_lt o)) (Some (4096 * p.0)) (find (nat_lt doc) (map start ps))
    tested {o} e = ap (λ (b : Bool). cond b (Some (4096 * p.0)) (find (nat_lt doc) (map start ps))) (past_block doc p.0 ∙ ap (λ (x : Ordering). not (is_lt x)) e)

-- ---- what ascends by number
less_start : (a b : ℕ) → nat_cmp a b ≡ Less → nat_cmp (4096 * a) (4096 * b) ≡ Less
less_start a b less = told (nat_cmp a b) (ranks a b) less
  where
    back : (o : Ordering) → MatchOrdering o (4096 * a < 4096 * b) (4096 * a ≡ 4096 * b) (4096 * b < 4096 * a) → a < b → o ≡ Less
    back Less h low = refl
    back Equal h low = absurd (omega (arith, h, low))
    back Greater h low = absurd (omega (arith, h, low))

    told : (o : Ordering) → MatchOrdering o (a < b) (a ≡ b) (b < a) → o ≡ Less → nat_cmp (4096 * a) (4096 * b) ≡ Less
    told Less h is = back (nat_cmp (4096 * a) (4096 * b)) (ranks (4096 * a) (4096 * b)) h
    told Equal h is = absurd (grind (arith, is))
    told Greater h is = absurd (grind (arith, is))

starts_above : (a : ℕ) (ps : List (ℕ × ℕ)) → AllByRecursion (λ b. nat_cmp a b ≡ Less) (map (λ p. p.0) ps) → AllByRecursion (λ b. nat_cmp (4096 * a) b ≡ Less) (map start ps)
starts_above a [] all = tt
starts_above a (p ∷ ps) all = (less_start a p.0 all.0, starts_above a ps all.1)

starts_ascend : (ps : List (ℕ × ℕ)) → IsStrictlySortedBy nat_cmp (map (λ p. p.0) ps) → IsStrictlySortedBy nat_cmp (map start ps)
unfolding IsStrictlySortedBy
starts_ascend [] up = tt
starts_ascend (p ∷ ps) up = (starts_above p.0 ps up.0, starts_ascend ps up.1)

-- ---- a bit vector
module _ (m : Records) (word root : ℕ) (list : IsList m word) (at : word ≡ 8589934592 + root) where
  pub vector_docs : form_docs m (list_form word) ≡ map (λ p. 4096 * p.0) (tree_pairs m root)
  vector_docs = ap (form_docs m) (form_vector word root at)

  blocks : IsPostingList m (vector root)
  blocks = vector_form m word root at list

  small : (ps : List (ℕ × ℕ)) → AllByRecursion (λ p. IsBlock p.0 (m p.1)) ps → AllByRecursion (λ p. p.0 < 2 ^ 32) ps
  small [] all = tt
  small (p ∷ ps) all = ((let few = all.0.few in omega (arith, few)), small ps all.1)

  pub vector_small : AllByRecursion (λ p. p.0 < 2 ^ 32) (tree_pairs m root)
  vector_small = small (tree_pairs m root) blocks.2

  few_first : (ps : List (ℕ × ℕ)) → AllByRecursion (λ p. IsBlock p.0 (m p.1)) ps → IfSome (option_map (λ (p : ℕ × ℕ). p.0) (first_item ps)) (λ k. k < 2 ^ 20)
  few_first [] all = tt
  few_first (p ∷ ps) all = all.0.few

  few_past : (c : ℕ → Ordering) (ps : List (ℕ × ℕ)) → AllByRecursion (λ p. IsBlock p.0 (m p.1)) ps
      → IfSome (option_map (λ (p : ℕ × ℕ). p.0) (first_item (seek c ps))) (λ k. k < 2 ^ 20)
  few_past c [] all = tt
  few_past c (p ∷ ps) all =
      elim (c p.0) as (λ o. IfSome (option_map (λ (q : ℕ × ℕ). q.0) (first_item (choose o (seek c ps) (p ∷ ps) (p ∷ ps)))) (λ k. k < 2 ^ 20)) [
        | Less ↦ few_past c ps all.1
        | Equal ↦ all.0.few
        | Greater ↦ all.0.few
      ]

  pub first_few : (number : Option ℕ) → number ≡ option_map (λ (p : ℕ × ℕ). p.0) (first_item (tree_pairs m root)) → IfSome number (λ k. k < 2 ^ 20)
  first_few number is = subst {A = Option ℕ} (λ o. IfSome o (λ k. k < 2 ^ 20)) (sym is) (few_first (tree_pairs m root) blocks.2)

  pub past_few : (doc : ℕ) (number : Option ℕ) → number ≡ option_map (λ (p : ℕ × ℕ). p.0) (first_item (seek (λ key. nat_cmp key (doc / 4096 + 1)) (tree_pairs m root)))
      → IfSome number (λ k. k < 2 ^ 20)
  past_few doc number is =
      subst {A = Option ℕ} (λ o. IfSome o (λ k. k < 2 ^ 20)) (sym is) (few_past (λ key. nat_cmp key (doc / 4096 + 1)) (tree_pairs m root) blocks.2)

  pub first_vector : (number : Option ℕ) → number ≡ option_map (λ (p : ℕ × ℕ). p.0) (first_item (tree_pairs m root))
      → option_map (λ (k : ℕ). 4096 * k) number ≡ first_item (form_docs m (list_form word))
  first_vector number is =
      ap (option_map (λ (k : ℕ). 4096 * k)) is ∙ twice (first_item (tree_pairs m root)) ∙ starts_first (tree_pairs m root)
      ∙ sym (ap (λ (docs : List ℕ). first_item docs) vector_docs)

  pub past_vector : (doc : ℕ) (number : Option ℕ) → number ≡ option_map (λ (p : ℕ × ℕ). p.0) (first_item (seek (λ key. nat_cmp key (doc / 4096 + 1)) (tree_pairs m root)))
      → option_map (λ (k : ℕ). 4096 * k) number ≡ find (nat_lt doc) (form_docs m (list_form word))
  past_vector doc number is =
      ap (option_map (λ (k : ℕ). 4096 * k)) is ∙ twice (first_item (seek (λ key. nat_cmp key (doc / 4096 + 1)) (tree_pairs m root)))
      ∙ starts_past doc (tree_pairs m root) ∙ sym (ap (find (nat_lt doc)) vector_docs)

  pub vector_ascends : IsStrictlySortedBy nat_cmp (form_docs m (list_form word))
  vector_ascends = subst (λ (ds : List ℕ). IsStrictlySortedBy nat_cmp ds) (sym vector_docs) (starts_ascend (tree_pairs m root) blocks.0.ascends)

  some_pair : (ps : List (ℕ × ℕ)) → ps ≡ tree_pairs m root → 0 < length (map start ps)
  some_pair [] is =
      let many = subst {A = List (ℕ × ℕ)} (λ qs. 8 < length (flat_map (λ (p : ℕ × ℕ). block_documents p.0 (m p.1)) qs)) (sym is) blocks.1 in
      absurd (omega (arith, many))
  some_pair (p ∷ ps) is = omega arith

  pub vector_filled : 0 < length (form_docs m (list_form word))
  vector_filled = subst {A = List ℕ} (λ docs. 0 < length docs) (sym vector_docs) (some_pair (tree_pairs m root) refl)
