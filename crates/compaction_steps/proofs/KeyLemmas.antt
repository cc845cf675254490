-- The keys of an attribute's phases: what they are, and that they stay where the attribute's records stay.
use Rattle.std.proofs.Common.{◌≡◌, ℕ, zero, suc, ◌<◌, Bool, true, false, cond, nat_eq, List, [], ◌∷◌, ◌++◌, map, length, Some, is_lt, refl, sym, ap, subst, ◌∙◌, arith}
use Rattle.std.specs.Prelude.{slice_get}
use Rattle.std.specs.List.{find, flat_map, AllByRecursion, AllZip}
use Rattle.image_format.proofs.ImageLemmas.{value_typed}
use Rattle.list_lemmas.proofs.Each.{AllByRecursion-append}
use Rattle.list_lemmas.proofs.Options.{same_Some}
use Rattle.attr_compaction.proofs.StageLemmas.{less_is}
use Rattle.entry_ref.specs.Records.{Records, SameAt}
use Rattle.tree_read.specs.ProofsForTrees.{SameAt-left, SameAt-right, flat_map-same, map-same, tree_pairs-same}
use Rattle.tree_read.specs.Trees.{tree_nodes, tree_pairs}
use Rattle.attr_field.specs.Documents.{documents_own, items_own}
use Rattle.attr_field.specs.Forms.{wants}
use Rattle.image_format.specs.Postings.{dictionary_reach, list_form, postings_reach}
use Rattle.image_format.specs.Tables.{AttributeTrees}
use Rattle.image_format.specs.Values.{stored_value, value_of}
use Rattle.attr_types.specs.declared.kind.ValueType.{ValueType}
use Rattle.attr_types.specs.declared.value.Value.{Value as AnyValue}
use Rattle.attr_compaction.specs.Places.{has_key, key_cmp, IsPast, PlanPlace}
use Rattle.attr_compaction.specs.declared.plan.PlanKey.{PlanKey}
use Rattle.attr_compaction.specs.declared.plan.PlanKey.TheVariants.{Value, Doc, Pair}
use Rattle.attr_compaction.specs.declared.plan.TheConstants.{DOCUMENTS, KEYS, LISTS, PHASES}
use Rattle.value_index.specs.Indexes.{index_reach}
use Rattle.value_index.proofs.FormLemmas.{form_stays}
use Rattle.attr_compaction.specs.PhaseKeys.{document_keys, key_past, keys_of_pairs, pair_keys, value_keys, HasType}
use Rattle.attr_operations.specs.Fields.{part_of, KeepForms}
use Rattle.compaction_moves.proofs.BlockLemmas.{docs_same}
use Rattle.posting_store.specs.Lists.{IsPlain}
use Rattle.posting_store.specs.Moves.{form_docs}
use Rattle.compaction_steps.specs.Units.{keys_at, ArePlain, KeepKeys, KeepsKeys}

-- ---- they stay where the records stay
module _ (m n : Records) where
  abbrev pair_reach : ℕ × ℕ → List ℕ
  pair_reach p = p.0 ∷ postings_reach m (list_form p.1)

  abbrev value_key : ValueType → Records → ℕ × ℕ → PlanKey
  value_key type k p = Value (stored_value type k p.0)

  abbrev list_keys : ValueType → Records → ℕ × ℕ → List PlanKey
  list_keys type k p = map (λ doc. Pair (stored_value type k p.0) doc) (form_docs k (list_form p.1))

  one_value : (type : ValueType) (p : ℕ × ℕ) → SameAt (pair_reach p) m n → value_key type n p ≡ value_key type m p
  one_value type p same = ap (λ (ws : List ℕ). Value (value_of type ws)) same.0

  one_list : (type : ValueType) (p : ℕ × ℕ) → SameAt (pair_reach p) m n → list_keys type n p ≡ list_keys type m p
  one_list type p same =
      ap (λ (docs : List ℕ). map (λ doc. Pair (stored_value type n p.0) doc) docs) (docs_same m n (list_form p.1) same.1)
      ∙ ap (λ (ws : List ℕ). map (λ doc. Pair (value_of type ws) doc) (form_docs m (list_form p.1))) same.0

  module _ (type : ValueType) (root : ℕ) (nodes : SameAt (tree_nodes m root) m n) (rest : SameAt (dictionary_reach m root) m n) where
    values_stay : value_keys type n root ≡ value_keys type m root
    values_stay =
        ap (λ (ps : List (ℕ × ℕ)). map (value_key type n) ps) (tree_pairs-same m n root nodes)
        ∙ map-same m n pair_reach (value_key type m) (value_key type n) (one_value type) (tree_pairs m root) rest

    lists_stay : pair_keys type n root ≡ pair_keys type m root
    lists_stay =
        ap (λ (ps : List (ℕ × ℕ)). flat_map (list_keys type n) ps) (tree_pairs-same m n root nodes)
        ∙ flat_map-same m n pair_reach (list_keys type m) (list_keys type n) (one_list type) (tree_pairs m root) rest

  documents_stay : (root : ℕ) → SameAt (tree_nodes m root) m n → document_keys n root ≡ document_keys m root
  documents_stay root nodes = ap (λ (ps : List (ℕ × ℕ)). map (λ p. Doc p.0) ps) (tree_pairs-same m n root nodes)

  abbrev by_phase : ℕ → List PlanKey → List PlanKey → List PlanKey → List PlanKey
  by_phase phase values documents lists = cond (nat_eq phase KEYS) values (cond (nat_eq phase DOCUMENTS) documents (cond (nat_eq phase LISTS) lists (values ++ documents)))

  pub keys_stay : (a : AttributeTrees) → SameAt ((part_of a).reach m) m n → (phase : ℕ) → keys_at n a phase ≡ keys_at m a phase
  keys_stay a same phase =
      let own = SameAt-left m n (documents_own a.kind m a.documents) (index_reach m a.dictionary) same in
      let index = SameAt-right m n (documents_own a.kind m a.documents) (index_reach m a.dictionary) same in
      let map_nodes = SameAt-left m n (tree_nodes m a.documents) (flat_map (λ p. items_own a.kind p.1) (tree_pairs m a.documents)) own in
      let nodes = SameAt-left m n (tree_nodes m a.dictionary) (dictionary_reach m a.dictionary) index in
      let rest = SameAt-right m n (tree_nodes m a.dictionary) (dictionary_reach m a.dictionary) index in
      ap (λ (v : List PlanKey). by_phase phase v (document_keys n a.documents) (pair_keys a.type n a.dictionary)) (values_stay a.type a.dictionary nodes rest)
      ∙ ap (λ (d : List PlanKey). by_phase phase (value_keys a.type m a.dictionary) d (pair_keys a.type n a.dictionary)) (documents_stay a.documents map_nodes)
      ∙ ap (λ (l : List PlanKey). by_phase phase (value_keys a.type m a.dictionary) (document_keys m a.documents) l) (lists_stay a.type a.dictionary nodes rest)

-- ---- what they are
pub record FitsPhase (type : ValueType) (phase : ℕ) (key : PlanKey) : Type 0 where
  pub typed : HasType type key
  pub of_phase : has_key phase key ≡ true

module _ (type : ValueType) (m : Records) (phase : ℕ) where
  values_fit : ((v : AnyValue) → has_key phase (Value v) ≡ true) → (ps : List (ℕ × ℕ)) → AllByRecursion (FitsPhase type phase) (map (λ p. Value (stored_value type m p.0)) ps)
  values_fit is [] = tt
  values_fit is (p ∷ ps) = (record { typed = value_typed type (m p.0); of_phase = is (stored_value type m p.0) }, values_fit is ps)

  documents_fit : ((d : ℕ) → has_key phase (Doc d) ≡ true) → (ps : List (ℕ × ℕ)) → AllByRecursion (FitsPhase type phase) (map (λ p. Doc p.0) ps)
  documents_fit is [] = tt
  documents_fit is (p ∷ ps) = (record { typed = tt; of_phase = is p.0 }, documents_fit is ps)

  one_fits : ((v : AnyValue) (d : ℕ) → has_key phase (Pair v d) ≡ true) → (key : ℕ) (docs : List ℕ)
      → AllByRecursion (FitsPhase type phase) (map (λ doc. Pair (stored_value type m key) doc) docs)
  one_fits is key [] = tt
  one_fits is key (d ∷ docs) = (record { typed = value_typed type (m key); of_phase = is (stored_value type m key) d }, one_fits is key docs)

  pairs_fit : ((v : AnyValue) (d : ℕ) → has_key phase (Pair v d) ≡ true) → (ps : List (ℕ × ℕ)) → AllByRecursion (FitsPhase type phase) (keys_of_pairs type m ps)
  pairs_fit is [] = tt
  pairs_fit is (p ∷ ps) =
      AllByRecursion-append (FitsPhase type phase) (map (λ doc. Pair (stored_value type m p.0) doc) (form_docs m (list_form p.1))) (keys_of_pairs type m ps)
      (one_fits is p.0 (form_docs m (list_form p.1))) (pairs_fit is ps)

pub keys_fit : (m : Records) (a : AttributeTrees) (phase : ℕ) → phase < PHASES → AllByRecursion (FitsPhase a.type phase) (keys_at m a phase)
keys_fit m a zero few = values_fit a.type m 0 (λ v. refl) (tree_pairs m a.dictionary)
keys_fit m a (suc zero) few = documents_fit a.type m 1 (λ d. refl) (tree_pairs m a.documents)
keys_fit m a (suc (suc zero)) few = pairs_fit a.type m 2 (λ v d. refl) (tree_pairs m a.dictionary)
keys_fit m a (suc (suc (suc zero))) few =
    AllByRecursion-append (FitsPhase a.type 3) (value_keys a.type m a.dictionary) (document_keys m a.documents)
    (values_fit a.type m 3 (λ v. refl) (tree_pairs m a.dictionary)) (documents_fit a.type m 3 (λ d. refl) (tree_pairs m a.documents))
keys_fit m a (suc (suc (suc (suc phase)))) few = absurd (omega arith)

pub found_is : (P : PlanKey → Type 0) (test : PlanKey → Bool) (keys : List PlanKey) (key : PlanKey) → AllByRecursion P keys → find test keys ≡ Some key → P key × (test key ≡ true)
found_is P test [] key all found = cc
found_is P test (x ∷ xs) key all found = told (λ later. found_is P test xs key all.1 later) (test x) refl found
  where
    told : (find test xs ≡ Some key → P key × (test key ≡ true)) → (t : Bool) → test x ≡ t → cond t (Some x) (find test xs) ≡ Some key → P key × (test key ≡ true)
    told more true is here = let e = same_Some x key here in (subst P e all.0, ap test (sym e) ∙ is)
    told more false is later = more later

pub next_fits : (m : Records) (a : AttributeTrees) (at : PlanPlace) (key : PlanKey) → at.stage.phase < PHASES → key_past at.key (keys_at m a at.stage.phase) ≡ Some key
    → HasType a.type key × IsPast at key
next_fits m a at key few next =
    let found = found_is (FitsPhase a.type at.stage.phase) (λ k. is_lt (key_cmp at.key k)) (keys_at m a at.stage.phase) key (keys_fit m a at.stage.phase few) next in
    (found.0.typed, record { of_phase = found.0.of_phase; above = less_is (key_cmp at.key key) found.1 })

-- ---- of all attributes
pub all_keep : (m n : Records) (trees next : List AttributeTrees) → length next ≡ length trees
    → ((j : ℕ) (a b : AttributeTrees) → slice_get trees j ≡ Some a → slice_get next j ≡ Some b → KeepsKeys m n a b)
    → KeepKeys m n trees next
all_keep m n [] [] sized each = tt
all_keep m n [] (b ∷ next) sized each = absurd (omega arith)
all_keep m n (a ∷ trees) [] sized each = absurd (omega arith)
all_keep m n (a ∷ trees) (b ∷ next) sized each = (each 0 a b refl refl, all_keep m n trees next (omega arith) (λ j c d at there. each (suc j) c d at there))

pub same_keys : (m : Records) (trees : List AttributeTrees) → KeepKeys m m trees trees
same_keys m [] = tt
same_keys m (a ∷ trees) = (record { keys = λ phase. refl; plain = λ plain. plain; form = λ dense is. is }, same_keys m trees)

-- an attribute whose records stay
pub keeps_stay : (m n : Records) (a : AttributeTrees) → SameAt ((part_of a).reach m) m n → KeepsKeys m n a a
keeps_stay m n a same =
    let index = SameAt-right m n (documents_own a.kind m a.documents) (index_reach m a.dictionary) same in
    let nodes = SameAt-left m n (tree_nodes m a.dictionary) (dictionary_reach m a.dictionary) index in
    record {
      keys = keys_stay m n a same;
      plain = λ plain. subst (AllByRecursion (λ p. IsPlain p.1)) (sym (tree_pairs-same m n a.dictionary nodes)) plain;
      form = λ dense is. form_stays a.type m n a.dictionary index (wants dense a.kind) is;
    }

pub one_keeps_then : (m n o : Records) (a b d : AttributeTrees) → KeepsKeys m n a b → KeepsKeys n o b d → KeepsKeys m o a d
one_keeps_then m n o a b d first second = record {
  keys = λ phase. second.keys phase ∙ first.keys phase;
  plain = λ plain. second.plain (first.plain plain);
  form = λ dense is. second.form dense (first.form dense is);
}

-- the keys alone
pub keys_of_all : (m n : Records) (trees next : List AttributeTrees) → KeepKeys m n trees next → AllZip (λ a b. (phase : ℕ) → keys_at n b phase ≡ keys_at m a phase) trees next
keys_of_all m n [] [] keep = tt
keys_of_all m n [] (b ∷ next) keep = absurd keep
keys_of_all m n (a ∷ trees) [] keep = absurd keep
keys_of_all m n (a ∷ trees) (b ∷ next) keep = (keep.0.keys, keys_of_all m n trees next keep.1)

-- no list of all is a bit vector, if none was
pub plain_kept : (m n : Records) (trees next : List AttributeTrees) → KeepKeys m n trees next → ArePlain m trees → ArePlain n next
plain_kept m n [] [] keep plain = tt
plain_kept m n [] (b ∷ next) keep plain = absurd keep
plain_kept m n (a ∷ trees) [] keep plain = absurd keep
plain_kept m n (a ∷ trees) (b ∷ next) keep plain = (keep.0.plain plain.0, plain_kept m n trees next keep.1 plain.1)

-- the forms of all
pub forms_kept : (m n : Records) (trees next : List AttributeTrees) → KeepKeys m n trees next → KeepForms m n trees next
forms_kept m n [] [] keep dense are = tt
forms_kept m n [] (b ∷ next) keep dense are = absurd keep
forms_kept m n (a ∷ trees) [] keep dense are = absurd keep
forms_kept m n (a ∷ trees) (b ∷ next) keep dense are = (keep.0.form dense are.0, forms_kept m n trees next keep.1 dense are.1)
