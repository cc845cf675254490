-- What was in use when a unit began, through its calls: of what a call makes of parts, that was of these parts.
use Rattle.std.proofs.Common.{◌≡◌, ◌≢◌, ℕ, ℤ, List, [], ◌∷◌, ◌++◌, map, None, Some, inl, inr, ⊎_elim, refl, ap, subst, ◌∙◌, arith}
use Rattle.std.proofs.lemmas.Bool.{cases_eq}
use Rattle.std.proofs.lemmas.Cmp.{nat_cmp_total}
use Rattle.std.specs.Prelude.{unwrap_or}
use Rattle.std.specs.declared.cmp.Ordering.{Ordering}
use Rattle.std.specs.declared.cmp.Ordering.TheVariants.{Less, Equal, Greater}
use Rattle.std.specs.List.{AllByRecursion}
use Rattle.std.specs.List.Sorted.{IsStrictlySortedBy}
use Rattle.std.specs.Ordering.{nat_cmp}
use Rattle.entry_ref.specs.Records.{Records, Among, SameAt}
use Rattle.tree_read.specs.Pairs.{choose, lookup, put, take_out}
use Rattle.tree_read.proofs.PairLemmas.{lookup-put}
use Rattle.store_api.specs.Ledgers.{Ledger}
use Rattle.store_api.specs.Parts.{uses}
use Rattle.store_api.specs.Units.{MayDo}
use Rattle.store_api.proofs.Times.{among-times, times-among, times-append}
use Rattle.tree_read.specs.ProofsForTrees.{SameAt-left, SameAt-right, tree_nodes-same, tree_pairs-same}
use Rattle.tree_read.specs.Trees.{tree_nodes, tree_pairs}
use Rattle.doc_vector.proofs.DocumentLemmas.{other_number, same_number}
use Rattle.doc_vector.proofs.MapLemmas.{put_others, take_out_gone, take_out_others}
use Rattle.doc_vector.specs.Documents.{beside_document}
use Rattle.attr_types.specs.declared.kind.Kind.{Kind}
use Rattle.attr_field.specs.DocumentsChanges.{pairs_own, SetsItems}
use Rattle.attr_field.specs.Documents.{documents_own, items_own, items_refer}
use Rattle.attr_field.specs.DocumentsFlows.{own_at, refer_at, reference_at, FlowsDocuments}
use Rattle.attr_field.proofs.RecordLemmas.{weighted-on}
use Rattle.store_api.specs.Flows.{ComesFrom}
use Rattle.store_api.proofs.Flows.{comes-then}

-- documents that nothing was done to, and one change after another
pub documents_flow_same : {H : Type 0} (kind : Kind) (a : Ledger H) (m : Records) (root : ℕ) → FlowsDocuments kind a m m root [] root
documents_flow_same kind a m root = record { nodes = λ r began among. among; own = λ doc r began among. among; refer = λ doc r among. inl among }

pub among_left : (r : ℕ) (ks ls : List ℕ) → Among r ks → Among r (ks ++ ls)
among_left r ks ls key = let some = among-times r ks key in let both = times-append r ks ls in times-among r (ks ++ ls) (omega arith)

pub among_right : (r : ℕ) (ks ls : List ℕ) → Among r ls → Among r (ks ++ ls)
among_right r ks ls key = let some = among-times r ls key in let both = times-append r ks ls in times-among r (ks ++ ls) (omega arith)

pub documents_flow_then : {H : Type 0} (kind : Kind) (a b : Ledger H) (m n o : Records) (root mid next : ℕ) (ks ls : List ℕ) → MayDo a b
    → FlowsDocuments kind a m n root ks mid → FlowsDocuments kind b n o mid ls next → FlowsDocuments kind a m o root (ks ++ ls) next
documents_flow_then kind a b m n o root mid next ks ls may one two = record {
  nodes = comes-then a b (tree_nodes m root) (tree_nodes n mid) (tree_nodes o next) may one.nodes two.nodes;
  own = λ doc. comes-then a b (own_at kind m root doc) (own_at kind n mid doc) (own_at kind o next doc) may (one.own doc) (two.own doc);
  refer = λ doc r among. ⊎_elim (λ before. ⊎_elim inl (λ key. inr (among_left r ks ls key)) (one.refer doc r before)) (λ key. inr (among_right r ks ls key)) (two.refer doc r among);
}

-- ---- one document's reference among others
pub refer_same : (kind : Kind) (m n : Records) (ref : ℕ) → SameAt (items_own kind ref) m n → items_refer kind ref (n ref) ≡ items_refer kind ref (m ref)
refer_same kind m n ref same = ap (map (λ (e : ℕ × ℤ). e.0)) (weighted-on kind m n ref same)

found_holds : (P : ℕ → Type 0) → P 0 → (c : ℕ → Ordering) (ps : List (ℕ × ℕ)) → AllByRecursion (λ p. P p.1) ps → P (unwrap_or (lookup c ps) 0)
found_holds P none c [] all = none
found_holds P none c (p ∷ ps) all =
    elim (c p.0) as (λ o. P (unwrap_or (choose o (lookup c ps) (Some p.1) None) 0)) [
      | Less ↦ found_holds P none c ps all.1
      | Equal ↦ all.0
      | Greater ↦ none
    ]

own_stay : (kind : Kind) (m n : Records) (ps : List (ℕ × ℕ)) → SameAt (pairs_own kind ps) m n → AllByRecursion (λ p. SameAt (items_own kind p.1) m n) ps
own_stay kind m n [] same = tt
own_stay kind m n (p ∷ ps) same = (
  SameAt-left m n (items_own kind p.1) (pairs_own kind ps) same,
  own_stay kind m n ps (SameAt-right m n (items_own kind p.1) (pairs_own kind ps) same),
)

own_stay_at : (kind : Kind) (m n : Records) (c : ℕ → Ordering) (ps : List (ℕ × ℕ)) → SameAt (pairs_own kind ps) m n
    → SameAt (items_own kind (unwrap_or (lookup c ps) 0)) m n
own_stay_at kind m n c ps same = found_holds (λ ref. SameAt (items_own kind ref) m n) tt c ps (own_stay kind m n ps same)

-- documents whose records stay
module _ {H : Type 0} (kind : Kind) (a : Ledger H) (m n : Records) (root : ℕ) (same : SameAt (documents_own kind m root) m n) where
  nodes_stay : SameAt (tree_nodes m root) m n
  nodes_stay = SameAt-left m n (tree_nodes m root) (pairs_own kind (tree_pairs m root)) same

  pairs_same : tree_pairs n root ≡ tree_pairs m root
  pairs_same = tree_pairs-same m n root nodes_stay

  reference_same : (doc : ℕ) → reference_at n root doc ≡ reference_at m root doc
  reference_same doc = ap (λ ps. unwrap_or (lookup (beside_document doc) ps) 0) pairs_same

  refers_same : (doc : ℕ) → refer_at kind n root doc ≡ refer_at kind m root doc
  refers_same doc =
      ap (λ ref. items_refer kind ref (n ref)) (reference_same doc)
      ∙ refer_same kind m n (reference_at m root doc) (own_stay_at kind m n (beside_document doc) (tree_pairs m root)
      (SameAt-right m n (tree_nodes m root) (pairs_own kind (tree_pairs m root)) same))

  pub documents_flow_stay : FlowsDocuments kind a m n root [] root
  documents_flow_stay = record {
    nodes = λ r began among. subst (Among r) (tree_nodes-same m n root nodes_stay) among;
    own = λ doc r began among. subst (Among r) (ap (items_own kind) (reference_same doc)) among;
    refer = λ doc r among. inl (subst (Among r) (refers_same doc) among);
  }

out_put : (c : ℕ → Ordering) (pair : ℕ × ℕ) → c pair.0 ≡ Equal → (ps : List (ℕ × ℕ)) → take_out c (put c pair ps) ≡ take_out c ps
out_put c pair equal [] = ap (λ o. choose o (pair ∷ []) [] (pair ∷ [])) equal
out_put c pair equal (p ∷ ps) =
    (elim (c p.0) as (λ o. c p.0 ≡ o → take_out c (choose o (p ∷ put c pair ps) (pair ∷ ps) (pair ∷ p ∷ ps)) ≡ choose o (p ∷ take_out c ps) ps (p ∷ ps)) [
      | Less ↦ λ is. ap (λ o. choose o (p ∷ take_out c (put c pair ps)) (put c pair ps) (p ∷ put c pair ps)) is ∙ ap (λ qs. p ∷ qs) (out_put c pair equal ps)
      | Equal ↦ λ is. ap (λ o. choose o (pair ∷ take_out c ps) ps (pair ∷ ps)) equal
      | Greater ↦ λ is. ap (λ o. choose o (pair ∷ take_out c (p ∷ ps)) (p ∷ ps) (pair ∷ p ∷ ps)) equal
    ]) refl

-- one document changed
module _ {H : Type 0} (kind : Kind) (a : Ledger H) (m o : Records) (root doc next : ℕ) (up : IsStrictlySortedBy nat_cmp (map (λ p. p.0) (tree_pairs m root)))
    (stay : SameAt (pairs_own kind (take_out (beside_document doc) (tree_pairs m root))) m o) (nodes : ComesFrom a (tree_nodes o next) (tree_nodes m root)) where
  abbrev pairs_then : List (ℕ × ℕ)
  pairs_then = tree_pairs o next

  others_same : (d : ℕ) → d ≢ doc → lookup (beside_document d) (take_out (beside_document doc) (tree_pairs m root)) ≡ lookup (beside_document d) (tree_pairs m root)
  others_same d ne = take_out_others nat_cmp nat_cmp_total (λ k. k) doc d (other_number doc d ne) (tree_pairs m root) up

  stay_at : (d : ℕ) → d ≢ doc → SameAt (items_own kind (reference_at m root d)) m o
  stay_at d ne = subst (λ f. SameAt (items_own kind (unwrap_or f 0)) m o) (others_same d ne)
      (own_stay_at kind m o (beside_document d) (take_out (beside_document doc) (tree_pairs m root)) stay)

  other_own : (d : ℕ) → lookup (beside_document d) pairs_then ≡ lookup (beside_document d) (tree_pairs m root) → own_at kind o next d ≡ own_at kind m root d
  other_own d is = ap (λ f. items_own kind (unwrap_or f 0)) is

  other_refer : (d : ℕ) → d ≢ doc → lookup (beside_document d) pairs_then ≡ lookup (beside_document d) (tree_pairs m root) → refer_at kind o next d ≡ refer_at kind m root d
  other_refer d ne is =
      ap (λ f. items_refer kind (unwrap_or f 0) (o (unwrap_or f 0))) is ∙ refer_same kind m o (reference_at m root d) (stay_at d ne)

  module _ (ref : ℕ) (keys : List ℕ) (pairs_are : tree_pairs o next ≡ put (beside_document doc) (doc, ref) (tree_pairs m root)) (refers : items_refer kind ref (o ref) ≡ keys) where
    set_ref : reference_at o next doc ≡ ref
    set_ref = ap (λ ps. unwrap_or (lookup (beside_document doc) ps) 0) pairs_are ∙ ap (λ f. unwrap_or f 0) (lookup-put (beside_document doc) (doc, ref) (tree_pairs m root) (same_number doc))

    set_own : own_at kind o next doc ≡ items_own kind ref
    set_own = ap (items_own kind) set_ref

    set_refer : refer_at kind o next doc ≡ keys
    set_refer = ap (λ x. items_refer kind x (o x)) set_ref ∙ refers

    set_other : (d : ℕ) → d ≢ doc → lookup (beside_document d) pairs_then ≡ lookup (beside_document d) (tree_pairs m root)
    set_other d ne = ap (lookup (beside_document d)) pairs_are
        ∙ put_others nat_cmp nat_cmp_total (λ k. k) doc d (other_number doc d ne) (doc, ref) (tree_pairs m root) (same_number doc)

    pub set_flows : ComesFrom a (items_own kind ref) [] → FlowsDocuments kind a m o root keys next
    set_flows made = record {
      nodes = nodes;
      own = λ d r began among. elim (cases_eq d doc) [
        | inl e ↦ absurd (made r began (subst (Among r) set_own (subst (λ x. Among r (own_at kind o next x)) e among)))
        | inr ne ↦ subst (Among r) (other_own d (set_other d ne)) among
      ];
      refer = λ d r among. elim (cases_eq d doc) [
        | inl e ↦ inr (subst (Among r) set_refer (subst (λ x. Among r (refer_at kind o next x)) e among))
        | inr ne ↦ inl (subst (Among r) (other_refer d ne (set_other d ne)) among)
      ];
    }

    pub sets_items : ((r : ℕ) → Among r (items_own kind ref) → uses a r ≡ 0) → SetsItems kind a m o root doc keys next
    sets_items fresh = record {
      fresh = λ r among. fresh r (subst (Among r) set_own among);
      refer = set_refer;
      others = ap (take_out (beside_document doc)) pairs_are ∙ out_put (beside_document doc) (doc, ref) (same_number doc) (tree_pairs m root);
      stay = stay;
    }

  module _ (pairs_are : tree_pairs o next ≡ take_out (beside_document doc) (tree_pairs m root)) where
    out_ref : reference_at o next doc ≡ 0
    out_ref = ap (λ ps. unwrap_or (lookup (beside_document doc) ps) 0) pairs_are ∙ ap (λ f. unwrap_or f 0) (take_out_gone nat_cmp nat_cmp_total (λ k. k) doc (tree_pairs m root) up)

    out_other : (d : ℕ) → d ≢ doc → lookup (beside_document d) pairs_then ≡ lookup (beside_document d) (tree_pairs m root)
    out_other d ne = ap (lookup (beside_document d)) pairs_are ∙ others_same d ne

    pub out_flows : FlowsDocuments kind a m o root [] next
    out_flows = record {
      nodes = nodes;
      own = λ d r began among. elim (cases_eq d doc) [
        | inl e ↦ absurd (subst (Among r) (ap (items_own kind) out_ref) (subst (λ x. Among r (own_at kind o next x)) e among))
        | inr ne ↦ subst (Among r) (other_own d (out_other d ne)) among
      ];
      refer = λ d r among. elim (cases_eq d doc) [
        | inl e ↦ absurd (subst (Among r) (ap (λ x. items_refer kind x (o x)) out_ref) (subst (λ x. Among r (refer_at kind o next x)) e among))
        | inr ne ↦ inl (subst (Among r) (other_refer d ne (out_other d ne)) among)
      ];
    }
