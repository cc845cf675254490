-- Where the old records of a list come from: blocks from the same blocks, and none where the form changed.
use Rattle.std.proofs.Common.{◌≡◌, ◌≢◌, ℕ, zero, suc, ◌+◌, ◌-◌, ◌%◌, Bool, true, false, true≢false, List, [], ◌∷◌, map, length, Option, None, Some, inl, inr, ◌⊎◌, refl, sym, ap, subst, ◌∙◌, arith}
use Rattle.entry_ref.specs.Records.{Records, SameAt, Among}
use Rattle.tree_read.specs.Pairs.{lookup}
use Rattle.tree_read.specs.ProofsForTrees.{SameAt-left, tree_pairs-same}
use Rattle.tree_read.specs.Trees.{tree_nodes, tree_pairs}
use Rattle.store_api.specs.Ledgers.{Ledger}
use Rattle.store_api.specs.Parts.{Turns}
use Rattle.store_api.specs.Statuses.{in_use}
use Rattle.store_api.specs.Units.{MayDo}
use Rattle.store_api.proofs.Flows.{began-then, flow_part}
use Rattle.std.proofs.lemmas.Bool.{le-leb}
use Rattle.bit_vector.specs.Blocks.{beside_block}
use Rattle.bit_vector.specs.Keeps.{block_at, KeepsBlocks}
use Rattle.bit_vector.specs.Vectors.{vector_reach}
use Rattle.bit_vector.proofs.KeepLemmas.{block_among}
use Rattle.image_format.specs.Postings.{ListForm, short, tree, vector, postings_reach}
use Rattle.posting_store.specs.Changes.{list_part}
use Rattle.posting_store.specs.Keeps.{form_block, list_block, FlowsList}
use Rattle.posting_store.specs.Lists.{list_reach, is_vector, IsPlain}
use Rattle.posting_store.specs.ProofsForLists.{list_reach-same}
use Rattle.posting_store.proofs.FormLemmas.{form_even, form_odd, form_vector, no_vector, plain_of, reach_form, vector_high}

-- ---- blocks of a list
no_some : (x : ℕ) → None ≡ Some x → ⊥
no_some x e = grind (arith, e)

-- a list that is no bit vector has none
pub plain_block : (m : Records) (word k r : ℕ) → IsPlain word → list_block m word k ≡ Some r → ⊥
plain_block m word k r plain there = told (word % 2) refl
  where
    told : (bit : ℕ) → word % 2 ≡ bit → ⊥
    told zero is = no_some r (sym (ap (λ f. form_block m f k) (form_even word plain is)) ∙ there)
    told (suc zero) is = no_some r (sym (ap (λ f. form_block m f k) (form_odd word plain is)) ∙ there)
    told (suc (suc bit)) is = absurd (omega (arith, is))

-- those of a bit vector
vector_block : (m : Records) (word root k : ℕ) → word ≡ 8589934592 + root → list_block m word k ≡ block_at m root k
vector_block m word root k is = ap (λ f. form_block m f k) (form_vector word root is)

reach_is : (m : Records) (word root : ℕ) → word ≡ 8589934592 + root → list_reach m word ≡ vector_reach m root
reach_is m word root is = reach_form m word (omega (arith, is)) ∙ ap (postings_reach m) (form_vector word root is)

word_of : (word : ℕ) → is_vector word ≡ true → word ≡ 8589934592 + (word - 8589934592)
word_of word dense = let high = vector_high word dense in omega (arith, high)

-- a list has the records of its blocks
pub list_block_among : (m : Records) (word k r : ℕ) → list_block m word k ≡ Some r → Among r (list_reach m word)
list_block_among m word k r there = told (is_vector word) refl
  where
    told : (dense : Bool) → is_vector word ≡ dense → Among r (list_reach m word)
    told false plain = absurd (plain_block m word k r (plain_of word plain) there)
    told true dense =
        let is = word_of word dense in
        let root = word - 8589934592 in
        subst (λ rs. Among r rs) (sym (reach_is m word root is)) (block_among m root k r (sym (vector_block m word root k is) ∙ there))

-- ---- flows
-- neither list is a bit vector
pub flows_plain : (IsOld : ℕ → Type 0) (m n : Records) (word next : ℕ) → IsPlain word → IsPlain next → FlowsList IsOld m n word next
flows_plain IsOld m n word next plain next_plain = record {
  blocks = record { each = λ k r there old. absurd (plain_block n next k r next_plain there) };
  anew = λ apart r old among. apart (no_vector next next_plain ∙ sym (no_vector word plain));
}

-- nothing old is in the new list
pub flows_fresh : (IsOld : ℕ → Type 0) (m n : Records) (word next : ℕ) → ((r : ℕ) → IsOld r → Among r (list_reach n next) → ⊥) → FlowsList IsOld m n word next
flows_fresh IsOld m n word next none = record {
  blocks = record { each = λ k r there old. absurd (none r old (list_block_among n next k r there)) };
  anew = λ apart r old among. none r old among;
}

-- nothing was done
pub flows_nothing : (IsOld : ℕ → Type 0) (m : Records) (word : ℕ) → FlowsList IsOld m m word word
flows_nothing IsOld m word = record { blocks = record { each = λ k r there old. there }; anew = λ apart r old among. apart refl }

nodes_of_all : (m n : Records) (root : ℕ) → SameAt (vector_reach m root) m n → SameAt (tree_nodes m root) m n
nodes_of_all m n root all = SameAt-left m n (tree_nodes m root) (map (λ p. p.1) (tree_pairs m root)) all

-- the list's records stay
pub flows_kept : (IsOld : ℕ → Type 0) (m n : Records) (word : ℕ) → SameAt (list_reach m word) m n → FlowsList IsOld m n word word
flows_kept IsOld m n word same = record { blocks = record { each = λ k r there old. was k r there }; anew = λ apart r old among. apart refl }
  where
    was : (k r : ℕ) → list_block n word k ≡ Some r → list_block m word k ≡ Some r
    was k r there = told (is_vector word) refl
      where
        told : (dense : Bool) → is_vector word ≡ dense → list_block m word k ≡ Some r
        told false plain = absurd (plain_block n word k r (plain_of word plain) there)
        told true dense =
            let is = word_of word dense in
            let root = word - 8589934592 in
            let all : SameAt (vector_reach m root) m n = subst (λ rs. SameAt rs m n) (reach_is m word root is) same in
            let pairs = tree_pairs-same m n root (nodes_of_all m n root all) in
            vector_block m word root k is ∙ ap (lookup (beside_block k)) (sym pairs) ∙ sym (vector_block n word root k is) ∙ there

-- one change after another
same_or : (x y : Bool) → (x ≡ y) ⊎ (x ≢ y)
same_or true true = inl refl
same_or false false = inl refl
same_or true false = inr (λ e. true≢false e)
same_or false true = inr (λ e. true≢false (sym e))

pub flows_then : (IsOld IsLater : ℕ → Type 0) (m n o : Records) (word mid next : ℕ) → ((r : ℕ) → IsOld r → IsLater r)
    → ((r : ℕ) → IsOld r → Among r (list_reach o next) → Among r (list_reach n mid)) → FlowsList IsOld m n word mid → FlowsList IsLater n o mid next → FlowsList IsOld m o word next
flows_then IsOld IsLater m n o word mid next later from first second = record {
  blocks = record { each = λ k r there old. first.blocks.each k r (second.blocks.each k r there (later r old)) old };
  anew = λ apart r old among. elim (same_or (is_vector next) (is_vector mid)) [
    | inl same ↦ first.anew (λ e. apart (same ∙ e)) r old (from r old among)
    | inr other ↦ second.anew other r (later r old) among
  ];
}

-- a bit vector in place of another
pub flows_vector : {H : Type 0} (a b : Ledger H) (m n : Records) (word next was root : ℕ) → word ≡ 8589934592 + was → next ≡ 8589934592 + root → MayDo a b
    → Turns a b m n (list_part word ∷ []) (list_part next ∷ []) → KeepsBlocks (λ r. Among r (vector_reach m was)) m n was root
    → FlowsList (λ r. in_use (a.back r) ≡ true) m n word next
flows_vector a b m n word next was root is next_is may turns keeps = record {
  blocks = record {
    each = λ k r there old.
        vector_block m word was k is
        ∙ keeps.each k r (sym (vector_block n next root k next_is) ∙ there)
        (subst (λ rs. Among r rs) (reach_is m word was is) (flow_part a b m n (list_part word) (list_part next) may turns r old (list_block_among n next k r there)));
  };
  anew = λ apart r old among. apart (le-leb 8589934592 next (omega (arith, next_is)) ∙ sym (le-leb 8589934592 word (omega (arith, is))));
}

-- a list made where there was none
pub flows_made : {H : Type 0} (a b : Ledger H) (m n : Records) (word next : ℕ) → MayDo a b → Turns a b m n (list_part 0 ∷ []) (list_part next ∷ [])
    → FlowsList (λ r. in_use (a.back r) ≡ true) m n word next
flows_made a b m n word next may turns =
    flows_fresh (λ r. in_use (a.back r) ≡ true) m n word next (λ r old among. absurd (flow_part a b m n (list_part 0) (list_part next) may turns r old among))

-- a change of a list, and then one of what it made
pub flows_both : {H : Type 0} (a b c : Ledger H) (m n o : Records) (word mid next : ℕ) → MayDo a b → MayDo b c → Turns b c n o (list_part mid ∷ []) (list_part next ∷ [])
    → FlowsList (λ r. in_use (a.back r) ≡ true) m n word mid → FlowsList (λ r. in_use (b.back r) ≡ true) n o mid next
    → FlowsList (λ r. in_use (a.back r) ≡ true) m o word next
flows_both a b c m n o word mid next first then turns one two =
    flows_then (λ r. in_use (a.back r) ≡ true) (λ r. in_use (b.back r) ≡ true) m n o word mid next (began-then a b first)
    (λ r old among. flow_part b c n o (list_part mid) (list_part next) then turns r (began-then a b first r old) among) one two

-- then its records stay
pub flows_on : (IsOld : ℕ → Type 0) (m n o : Records) (word next : ℕ) → SameAt (list_reach n next) n o → FlowsList IsOld m n word next → FlowsList IsOld m o word next
flows_on IsOld m n o word next same flows =
    flows_then IsOld IsOld m n o word next next (λ r old. old) (λ r old among. subst (λ rs. Among r rs) (list_reach-same n o next same) among) flows (flows_kept IsOld n o next same)

-- ---- what a word tells of its blocks, as lists
abbrev pub coded : Option ℕ → List ℕ
coded None = []
coded (Some r) = r ∷ []

coded_is : (x : Option ℕ) (r : ℕ) → coded x ≡ r ∷ [] → x ≡ Some r
coded_is None r e = let size : 0 ≡ 1 = ap length e in absurd (omega (arith, size))
coded_is (Some y) r e = ap Some (first e)
  where
    first : y ∷ [] ≡ r ∷ [] → y ≡ r
    first e = cc

one_word : (x y : ℕ) → x ∷ [] ≡ y ∷ [] → x ≡ y
one_word x y e = cc

-- the same word, with the same blocks
pub flows_as : (IsOld : ℕ → Type 0) (m n : Records) (word next : ℕ) → next ∷ [] ≡ word ∷ [] → ((k : ℕ) → coded (list_block n next k) ≡ coded (list_block m word k)) → FlowsList IsOld m n word next
flows_as IsOld m n word next same blocks = record {
  blocks = record { each = λ k r there old. coded_is (list_block m word k) r (sym (blocks k) ∙ ap coded there) };
  anew = λ apart r old among. apart (ap is_vector (one_word next word same));
}

-- the blocks stay where the records stay
pub blocks_stay : (m n : Records) (k : ℕ) (form : ListForm) → SameAt (postings_reach m form) m n → form_block n form k ≡ form_block m form k
blocks_stay m n k (short ref) same = refl
blocks_stay m n k (tree root) same = refl
blocks_stay m n k (vector root) same = ap (lookup (beside_block k)) (tree_pairs-same m n root (nodes_of_all m n root same))
