-- What an attribute owns: its nodes, its keys, its lists, and the records of its documents.
use Rattle.std.proofs.Common.{◌≡◌, ◌≢◌, ℕ, zero, suc, ◌-◌, ◌/◌, ◌%◌, List, [], ◌∷◌, length, map, replicate, inl, inr, refl, sym, ap, subst, arith, length-append}
use Rattle.std.proofs.lemmas.List.{length-replicate}
use Rattle.std.specs.List.{flat_map}
use Rattle.entry_ref.specs.Records.{Records, Among}
use Rattle.tree_read.specs.Trees.{tree_nodes, tree_pairs}
use Rattle.attr_field.specs.Documents.{documents_own, items_own}
use Rattle.attr_field.specs.Fields.{field_part}
use Rattle.image_format.specs.Postings.{list_form, postings_reach, short, tree}
use Rattle.image_format.specs.Words.{class_of, stored_items, IsStoredList}
use Rattle.attr_types.specs.declared.kind.Kind.{Kind}
use Rattle.array_store.proofs.ClassLemmas.{class_holds, class_no_node}
use Rattle.posting_store.proofs.FormLemmas.{form_even, form_odd}
use Rattle.posting_store.specs.Lists.{IsPlain}
use Rattle.value_index.proofs.KeyLemmas.{among_left, among_right}
use Rattle.value_index.specs.Indexes.{index_reach}
use Rattle.compaction_steps.proofs.StepsLists.{flat_in, IsIn}

-- ---- a record that is no node
-- a short list's record has not the length of a node
pub short_size : (ws : List ℕ) → IsStoredList 8 ws → length ws ≢ 34
short_size ws stored size =
    let items = stored_items ws in
    let n = suc (length items) in
    let few = stored.few in
    let holds = class_holds n (omega arith) in
    let zeros = length-append (slice_first ws ∷ items) (replicate (class_of n - n) 0) in
    class_no_node n (omega (arith, ap length stored.words, length-replicate {A = ℕ} (class_of n - n) 0, zeros))
  where
    slice_first : List ℕ → ℕ
    slice_first us = length (stored_items us)

-- ---- the form of a plain word
pub data FormOf (word : ℕ) : Type 0 where
  is_short : list_form word ≡ short (word / 2) → FormOf word
  is_tree : list_form word ≡ tree (word / 2) → FormOf word

pub form_of : (word : ℕ) → IsPlain word → FormOf word
form_of word plain = told (word % 2) refl
  where
    told : (bit : ℕ) → word % 2 ≡ bit → FormOf word
    told zero is = is_short (form_even word plain is)
    told (suc zero) is = is_tree (form_odd word plain is)
    told (suc (suc bit)) is = absurd (omega (arith, is))

-- ---- owned by an index, by documents, and by an attribute
module _ (m : Records) (root : ℕ) where
  key_index : (p : ℕ × ℕ) → IsIn p (tree_pairs m root) → Among p.0 (index_reach m root)
  key_index p there = among_right p.0 (tree_nodes m root) (flat_map (λ (q : ℕ × ℕ). q.0 ∷ postings_reach m (list_form q.1)) (tree_pairs m root))
      (flat_in (λ (q : ℕ × ℕ). q.0 ∷ postings_reach m (list_form q.1)) (tree_pairs m root) p p.0 there (inl refl))

  list_index : (p : ℕ × ℕ) (r : ℕ) → IsIn p (tree_pairs m root) → Among r (postings_reach m (list_form p.1)) → Among r (index_reach m root)
  list_index p r there among = among_right r (tree_nodes m root) (flat_map (λ (q : ℕ × ℕ). q.0 ∷ postings_reach m (list_form q.1)) (tree_pairs m root))
      (flat_in (λ (q : ℕ × ℕ). q.0 ∷ postings_reach m (list_form q.1)) (tree_pairs m root) p r there (inr among))

module _ (kind : Kind) (m : Records) (documents dictionary : ℕ) where
  abbrev owned : List ℕ
  owned = (field_part kind documents dictionary).reach m

  of_documents : (r : ℕ) → Among r (documents_own kind m documents) → Among r owned
  of_documents r among = among_left r (documents_own kind m documents) (index_reach m dictionary) among

  of_index : (r : ℕ) → Among r (index_reach m dictionary) → Among r owned
  of_index r among = among_right r (documents_own kind m documents) (index_reach m dictionary) among

  pub map_node_owned : (r : ℕ) → Among r (tree_nodes m documents) → Among r owned
  map_node_owned r among = of_documents r (among_left r (tree_nodes m documents) (flat_map (λ (p : ℕ × ℕ). items_own kind p.1) (tree_pairs m documents)) among)

  pub item_owned : (p : ℕ × ℕ) (r : ℕ) → IsIn p (tree_pairs m documents) → Among r (items_own kind p.1) → Among r owned
  item_owned p r there among = of_documents r (among_right r (tree_nodes m documents) (flat_map (λ (q : ℕ × ℕ). items_own kind q.1) (tree_pairs m documents))
      (flat_in (λ (q : ℕ × ℕ). items_own kind q.1) (tree_pairs m documents) p r there among))

  pub value_node_owned : (r : ℕ) → Among r (tree_nodes m dictionary) → Among r owned
  value_node_owned r among = of_index r (among_left r (tree_nodes m dictionary)
      (flat_map (λ (q : ℕ × ℕ). q.0 ∷ postings_reach m (list_form q.1)) (tree_pairs m dictionary)) among)

  pub key_owned : (p : ℕ × ℕ) → IsIn p (tree_pairs m dictionary) → Among p.0 owned
  key_owned p there = of_index p.0 (key_index m dictionary p there)

  pub list_owned : (p : ℕ × ℕ) (r : ℕ) → IsIn p (tree_pairs m dictionary) → Among r (postings_reach m (list_form p.1)) → Among r owned
  list_owned p r there among = of_index r (list_index m dictionary p r there among)

-- the pair of a key
pub record OfKey (key : ℕ) (ps : List (ℕ × ℕ)) : Type 0 where
  pub pair : ℕ × ℕ
  pub there : IsIn pair ps
  pub is : key ≡ pair.0

pub of_key : (key : ℕ) (ps : List (ℕ × ℕ)) → Among key (map (λ p. p.0) ps) → OfKey key ps
of_key key [] among = absurd among
of_key key (p ∷ ps) (inl e) = record { pair = p; there = inl refl; is = e }
of_key key (p ∷ ps) (inr later) = let found = of_key key ps later in record { pair = found.pair; there = inr found.there; is = found.is }

pub key_is_owned : (kind : Kind) (m : Records) (documents dictionary key : ℕ) → Among key (map (λ p. p.0) (tree_pairs m dictionary))
    → Among key ((field_part kind documents dictionary).reach m)
key_is_owned kind m documents dictionary key among =
    let found = of_key key (tree_pairs m dictionary) among in
    subst (λ k. Among k ((field_part kind documents dictionary).reach m)) (sym found.is) (key_owned kind m documents dictionary found.pair found.there)
