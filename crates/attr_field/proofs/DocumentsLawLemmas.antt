-- What documents are: the laws.
use Rattle.std.proofs.Common.{◌≡◌, ℕ, zero, suc, ◌+◌, ℤ, List, [], ◌∷◌, ◌++◌, map, refl, sym, ap, subst, ◌∙◌, arith}
use Rattle.std.proofs.lemmas.List.{map-append}
use Rattle.std.specs.Prelude.{◌↔◌}
use Rattle.std.specs.List.{flat_map, AllByRecursion}
use Rattle.std.specs.List.Sorted.{IsStrictlySortedBy}
use Rattle.std.specs.Ordering.{nat_cmp}
use Rattle.entry_ref.specs.Records.{Records, SameAt, Among}
use Rattle.tree_read.specs.ProofsForTrees.{SameAt-left, SameAt-right}
use Rattle.tree_read.specs.Trees.{tree_nodes, tree_pairs, by_number, IsTree}
use Rattle.store_api.specs.Parts.{times}
use Rattle.store_api.proofs.Times.{times-append, among-times, times-among}
use Rattle.doc_vector.proofs.DocumentLemmas.{map_nothing, map_stays}
use Rattle.doc_vector.specs.Documents.{IsDocumentMap, IsDocumentPair}
use Rattle.image_format.specs.Documents.{weighted, items_at, items_reach, column_at, documents_reach, AreItemRecords}
use Rattle.image_format.specs.Values.{stored_value}
use Rattle.index_model.specs.Columns.{IsLawfulColumn, column_values}
use Rattle.attr_types.specs.Lawful.{IsDocNumber, IsLawfulItems}
use Rattle.attr_types.specs.Value.{values_of}
use Rattle.attr_types.specs.declared.items.Item.{Item}
use Rattle.attr_types.specs.declared.kind.Kind.{Kind}
use Rattle.attr_types.specs.declared.kind.Kind.TheVariants.{Single, Array, WeightedSet}
use Rattle.attr_types.specs.declared.kind.ValueType.{ValueType}
use Rattle.attr_field.specs.Documents.{items_own, items_refer, documents_own, documents_refer, AreItemsAt, IsDocuments}
use Rattle.attr_field.specs.Items.{item_of}
use Rattle.attr_field.proofs.PairLemmas.{columned, columned-keys, columned-same, all-columned, all-keys}
use Rattle.attr_field.proofs.RecordLemmas.{pairs-stay, all-on, same-on, refer-on}

pub documents_nothing : (kind : Kind) (type : ValueType) (m : Records) → IsDocuments kind type m 0 × (column_at kind type m 0 ≡ []) × (documents_own kind m 0 ≡ [])
documents_nothing kind type m = (record { map_is = map_nothing m; items = tt }, refl, refl)

-- documents stay
module _ (kind : Kind) (type : ValueType) (m n : Records) (root : ℕ) (own : SameAt (documents_own kind m root) m n) (refer : SameAt (documents_refer kind m root) m n) (is : IsDocuments kind type m root) where
  map_on : IsDocumentMap n root × (tree_pairs n root ≡ tree_pairs m root)
  map_on = map_stays m n root (SameAt-left m n (tree_nodes m root) (flat_map (λ p. items_own kind p.1) (tree_pairs m root)) own) is.map_is

  pub documents_stay : IsDocuments kind type n root × (column_at kind type n root ≡ column_at kind type m root) × (documents_refer kind n root ≡ documents_refer kind m root)
  documents_stay =
      let pairs = map_on.1 in
      let stays = pairs-stay kind type m n (tree_pairs m root) (SameAt-right m n (tree_nodes m root) (flat_map (λ p. items_own kind p.1) (tree_pairs m root)) own) refer in (
        record {
          map_is = map_on.0;
          items = subst (AllByRecursion (λ (p : ℕ × ℕ). AreItemsAt kind type n p.1)) (sym pairs) (all-on kind type m n (tree_pairs m root) stays is.items);
        },
        ap (columned (items_at kind type n)) pairs ∙ columned-same (items_at kind type m) (items_at kind type n) (tree_pairs m root) (same-on kind type m n (tree_pairs m root) stays),
        ap (flat_map (λ (p : ℕ × ℕ). items_refer kind p.1 (n p.1))) pairs ∙ refer-on kind type m n (tree_pairs m root) stays,
      )

-- they are lawful
module _ (kind : Kind) (type : ValueType) (m : Records) where
  records_of : (ps : List (ℕ × ℕ)) → AllByRecursion (λ p. AreItemsAt kind type m p.1) ps → AllByRecursion (λ p. AreItemRecords kind type m p.1) ps
  records_of [] all = tt
  records_of (p ∷ ps) all = (all.0.records, records_of ps all.1)

  lawful_of : (ps : List (ℕ × ℕ)) → AllByRecursion (λ p. AreItemsAt kind type m p.1) ps → AllByRecursion (λ p. IsLawfulItems kind (items_at kind type m p.1)) ps
  lawful_of [] all = tt
  lawful_of (p ∷ ps) all = (all.0.lawful, lawful_of ps all.1)

  numbers_of : (ps : List (ℕ × ℕ)) → AllByRecursion IsDocumentPair ps → AllByRecursion (λ p. IsDocNumber p.0) ps
  numbers_of [] all = tt
  numbers_of (p ∷ ps) all = (all.0.document, numbers_of ps all.1)

  pub documents_lawful : (root : ℕ) → IsDocuments kind type m root
      → IsTree nat_cmp by_number m root × AllByRecursion (λ p. AreItemRecords kind type m p.1) (tree_pairs m root) × IsLawfulColumn kind (column_at kind type m root)
  documents_lawful root is =
      let ps = tree_pairs m root in
      let keys = columned-keys (items_at kind type m) ps in (
        is.map_is.tree_is,
        records_of ps is.items,
        record {
          ascends = subst (IsStrictlySortedBy nat_cmp) (sym keys) is.map_is.tree_is.ascends;
          numbers = subst (AllByRecursion IsDocNumber) (sym keys) (all-keys IsDocNumber ps (numbers_of ps is.map_is.pairs));
          items = all-columned (λ (e : ℕ × List Item). IsLawfulItems kind e.1) (items_at kind type m) ps (lawful_of ps is.items);
        },
      )

  -- the values that they refer to
  values_read : (es : List (ℕ × ℤ)) → map (stored_value type m) (map (λ e. e.0) es) ≡ values_of (map (item_of type m) es)
  values_read [] = refl
  values_read (e ∷ es) = ap (λ vs. stored_value type m e.0 ∷ vs) (values_read es)

  pairs_values : (ps : List (ℕ × ℕ)) → map (stored_value type m) (flat_map (λ p. items_refer kind p.1 (m p.1)) ps) ≡ column_values (columned (items_at kind type m) ps)
  pairs_values [] = refl
  pairs_values (p ∷ ps) =
      map-append (stored_value type m) (items_refer kind p.1 (m p.1)) (flat_map (λ q. items_refer kind q.1 (m q.1)) ps)
      ∙ ap (λ vs. vs ++ map (stored_value type m) (flat_map (λ q. items_refer kind q.1 (m q.1)) ps)) (values_read (weighted kind p.1 (m p.1)))
      ∙ ap (λ vs. values_of (items_at kind type m p.1) ++ vs) (pairs_values ps)

  pub documents_values : (root : ℕ) → map (stored_value type m) (documents_refer kind m root) ≡ column_values (column_at kind type m root)
  documents_values root = pairs_values (tree_pairs m root)

-- what they reach
items_reached : (kind : Kind) (r ref : ℕ) (ws : List ℕ) → times r (items_reach kind ref ws) ≡ times r (items_own kind ref) + times r (items_refer kind ref ws)
items_reached kind r zero ws = refl
items_reached Single r (suc ref) ws = omega arith
items_reached Array r (suc ref) ws = omega arith
items_reached WeightedSet r (suc ref) ws = omega arith

module _ (kind : Kind) (m : Records) (r : ℕ) where
  pairs_reached : (ps : List (ℕ × ℕ)) → times r (flat_map (λ p. items_reach kind p.1 (m p.1)) ps)
      ≡ times r (flat_map (λ p. items_own kind p.1) ps) + times r (flat_map (λ p. items_refer kind p.1 (m p.1)) ps)
  pairs_reached [] = refl
  pairs_reached (p ∷ ps) =
      let a = times-append r (items_reach kind p.1 (m p.1)) (flat_map (λ q. items_reach kind q.1 (m q.1)) ps) in
      let b = times-append r (items_own kind p.1) (flat_map (λ q. items_own kind q.1) ps) in
      let c = times-append r (items_refer kind p.1 (m p.1)) (flat_map (λ q. items_refer kind q.1 (m q.1)) ps) in
      let here = items_reached kind r p.1 (m p.1) in
      let rest = pairs_reached ps in
      omega arith

  pub reached : (root : ℕ) → times r (tree_nodes m root ++ documents_reach kind m root) ≡ times r (documents_own kind m root ++ documents_refer kind m root)
  reached root =
      let a = times-append r (tree_nodes m root) (documents_reach kind m root) in
      let b = times-append r (documents_own kind m root) (documents_refer kind m root) in
      let c = times-append r (tree_nodes m root) (flat_map (λ p. items_own kind p.1) (tree_pairs m root)) in
      let here = pairs_reached (tree_pairs m root) in
      omega arith

  pub documents_reached : (root : ℕ) → Among r (tree_nodes m root ++ documents_reach kind m root) ↔ Among r (documents_own kind m root ++ documents_refer kind m root)
  documents_reached root =
      let same = reached root in (
        λ among. let some = among-times r (tree_nodes m root ++ documents_reach kind m root) among in times-among r (documents_own kind m root ++ documents_refer kind m root) (omega arith),
        λ among. let some = among-times r (documents_own kind m root ++ documents_refer kind m root) among in times-among r (tree_nodes m root ++ documents_reach kind m root) (omega arith),
      )
