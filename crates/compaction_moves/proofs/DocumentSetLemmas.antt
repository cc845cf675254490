-- A document set to its own items again, by keys that lie elsewhere.
use Rattle.std.proofs.Common.{◌≡◌, ◌≢◌, ℕ, ◌<◌, ℤ, true, List, [], ◌∷◌, length, map, None, Some, Option, option_map, Result, Ok, Err, inl, inr, ⊎_elim, refl, sym, ap, subst, ◌∙◌, arith}
use Rattle.std.specs.Prelude.{IfOk, unwrap_or}
use Rattle.std.specs.BTreeMap.{is_at}
use Rattle.std.specs.List.{flat_map, AllByRecursion}
use Rattle.std.specs.Map.{lookup as lookup_in}
use Rattle.std.specs.Ordering.{nat_cmp}
use Rattle.list_lemmas.proofs.Each.{AllByRecursion-weaker}
use Rattle.entry_ref.proofs.Among.{Among-all}
use Rattle.entry_ref.specs.References.{buffer_of}
use Rattle.entry_ref.specs.Records.{Records, SameAt, Among}
use Rattle.tree_read.specs.Pairs.{lookup}
use Rattle.store_api.specs.Ledgers.{Ledger}
use Rattle.store_api.specs.Parts.{Owns, times}
use Rattle.store_api.specs.Units.{MayDo}
use Rattle.store_api.specs.declared.store.StoreError.{StoreError}
use Rattle.store_api.proofs.PartLemmas.{owns-some, turns-same}
use Rattle.store_api.proofs.Times.{all_from_times, among-times, times-among, times-append}
use Rattle.store_api.proofs.Uses.{in-uses, uses-in}
use Rattle.tree_read.specs.Trees.{tree_nodes, tree_pairs}
use Rattle.frozen_btree.specs.Paths.{NoneIn}
use Rattle.doc_vector.specs.Documents.{beside_document}
use Rattle.image_format.proofs.ImageLemmas.{value_typed}
use Rattle.image_format.specs.Documents.{weighted, column_at, items_at}
use Rattle.image_format.specs.Postings.{index_of}
use Rattle.image_format.specs.Values.{stored_value}
use Rattle.index_model.proofs.PartLemmas.{insert_same}
use Rattle.index_model.specs.Columns.{Column, with_change}
use Rattle.index_model.specs.Index.{list_of}
use Rattle.attr_types.proofs.EntryLemmas.{all-lookup}
use Rattle.attr_types.specs.Lawful.{IsLawfulItems}
use Rattle.attr_types.specs.Value.{type_of, values_of, AreOfType}
use Rattle.attr_types.specs.declared.items.Item.{Item}
use Rattle.attr_types.specs.declared.kind.Kind.{Kind}
use Rattle.attr_types.specs.declared.kind.ValueType.{ValueType}
use Rattle.attr_types.specs.declared.value.Value.{Value}
use Rattle.attr_field.specs.DocumentsChanges.{pairs_own, AreBeside, MakesDocuments, SetsItems}
use Rattle.attr_field.specs.Documents.{documents_own, documents_part, items_own, items_refer}
use Rattle.attr_field.specs.DocumentsFlows.{own_at, reference_at}
use Rattle.attr_field.specs.Items.{item_of}
use Rattle.attr_field.proofs.DocumentsFlowLemmas.{among_left, among_right}
use Rattle.attr_field.proofs.DocumentsLawLemmas.{documents_lawful}
use Rattle.attr_field.proofs.PairLemmas.{columned, columned-found, found, found-or, times-out}
use Rattle.value_index.specs.Indexes.{index_part, index_reach, IsKey}
use Rattle.value_index.specs.Laws.{KeyIsRead}
use Rattle.compaction_moves.specs.DocumentMoves.{AreItemsApart, CanMoveItems, MovesItems}

-- ---- what holds of the values that documents refer to holds of those of a document's items
entries_each : (P : Value → Type 0) (type : ValueType) (m : Records) (es : List (ℕ × ℤ)) → ((r : ℕ) → Among r (map (λ e. e.0) es) → P (stored_value type m r))
    → AllByRecursion (λ (item : Item). P item.value) (map (item_of type m) es)
entries_each P type m [] each = tt
entries_each P type m (e ∷ es) each = (each e.0 (inl refl), entries_each P type m es (λ r later. each r (inr later)))

module _ (P : Value → Type 0) (kind : Kind) (type : ValueType) (m : Records) where
  abbrev refers : List (ℕ × ℕ) → List ℕ
  refers ps = flat_map (λ p. items_refer kind p.1 (m p.1)) ps

  pairs_each : (ps : List (ℕ × ℕ)) → ((r : ℕ) → Among r (refers ps) → P (stored_value type m r))
      → AllByRecursion (λ (e : ℕ × List Item). AllByRecursion (λ (item : Item). P item.value) e.1) (columned (items_at kind type m) ps)
  pairs_each [] each = tt
  pairs_each (p ∷ ps) each = (
    entries_each P type m (weighted kind p.1 (m p.1)) (λ r among. each r (among_left r (items_refer kind p.1 (m p.1)) (refers ps) among)),
    pairs_each ps (λ r among. each r (among_right r (items_refer kind p.1 (m p.1)) (refers ps) among)),
  )

all_values : (P : Value → Type 0) (items : List Item) → AllByRecursion (λ (item : Item). P item.value) items → AllByRecursion P (values_of items)
all_values P [] all = tt
all_values P (item ∷ items) all = (all.0, all_values P items all.1)

pub same_self : (m : Records) (refs : List ℕ) → SameAt refs m m
same_self m [] = tt
same_self m (r ∷ refs) = (refl, same_self m refs)

-- ---- what may be moved
module _ {H : Type 0} (bits buffer : ℕ) (kind : Kind) (type : ValueType) (a : Ledger H) (m : Records) (root dictionary doc : ℕ)
    (can : CanMoveItems bits buffer kind type a m root dictionary) where
  abbrev column : Column
  column = column_at kind type m root

  pub owns_documents : Owns a m (documents_part kind root ∷ [])
  owns_documents = owns-some a m (documents_part kind root ∷ index_part dictionary ∷ []) (documents_part kind root ∷ []) can.owns (λ r. omega arith)

  pub keys_beside : KeyIsRead → (keys : List ℕ) → AllByRecursion (IsKey m dictionary) keys → AreBeside a m (documents_part kind root ∷ []) keys
  keys_beside read keys are = record {
    each = λ r among.
        let owned = among-times r (index_reach m dictionary) (read type m dictionary r can.index_is (Among-all (IsKey m dictionary) keys are r among)).owned in
        let all = can.owns.each r in
        omega arith;
  }

  -- nothing is done
  pub items_unmoved : AreItemsApart bits buffer kind m (reference_at m root doc) → MovesItems bits buffer doc kind type a a m m root dictionary root
  items_unmoved apart = record {
    documents_are = can.documents_are;
    column_is = refl;
    apart = apart;
    others = refl;
    stay = same_self m (pairs_own kind (Rattle.tree_read.specs.Pairs.take_out (beside_document doc) (tree_pairs m root)));
    refers = λ r among. inl among;
    owns = owns_documents;
    turns = turns-same a m (documents_part kind root ∷ []);
  }

  none_mapped : {A B : Type 0} (f : A → B) (o : Option A) → option_map f o ≡ None → o ≡ None
  none_mapped f None is = refl
  none_mapped f (Some x) is = cc

  -- a document that is not there
  pub none_unmoved : lookup_in (is_at (nat_cmp doc)) column ≡ None → MovesItems bits buffer doc kind type a a m m root dictionary root
  none_unmoved none =
      let gone : lookup (beside_document doc) (tree_pairs m root) ≡ None = none_mapped (items_at kind type m) (lookup (beside_document doc) (tree_pairs m root))
      (columned-found (items_at kind type m) doc (tree_pairs m root) can.documents_are.map_is.tree_is.ascends ∙ none) in
      items_unmoved (subst (λ (f : Option ℕ). AreItemsApart bits buffer kind m (unwrap_or f 0)) (sym gone) (record { own = tt; refer = tt }))

  module _ (items : List Item) (there : lookup_in (is_at (nat_cmp doc)) column ≡ Some items) where
    pub items_lawful : IsLawfulItems kind items
    items_lawful = all-lookup (λ xs. IsLawfulItems kind xs) (is_at (nat_cmp doc)) column (documents_lawful kind type m root can.documents_are).2.items items there

    pub items_typed : AreOfType type (values_of items)
    items_typed = all_values (λ value. type_of value ≡ type) items
        (all-lookup (λ xs. AllByRecursion (λ (item : Item). type_of item.value ≡ type) xs) (is_at (nat_cmp doc)) column
        (pairs_each (λ value. type_of value ≡ type) kind type m (tree_pairs m root) (λ r among. value_typed type (m r))) items there)

    pub items_listed : AllByRecursion (λ (item : Item). 0 < length (list_of item.value (index_of type m dictionary))) items
    items_listed =
        all-lookup (λ xs. AllByRecursion (λ (item : Item). 0 < length (list_of item.value (index_of type m dictionary))) xs) (is_at (nat_cmp doc)) column
        (pairs_each (λ value. 0 < length (list_of value (index_of type m dictionary))) kind type m (tree_pairs m root) can.listed) items there

    -- the document was set
    module _ (d : Ledger H) (o : Records) (next : ℕ) (keys : List ℕ) (kept : AllByRecursion (IsKey m dictionary) keys) (sealed : a.sealed buffer ≡ true)
        (may : MayDo a d) (bits_are : d.bits ≡ bits) (makes : MakesDocuments kind type a d m o root keys (with_change column doc (Some items)) next)
        (sets : SetsItems kind a m o root doc keys next) where
      own_owned : (r : ℕ) → Among r (own_at kind o next doc) → 0 < times r (documents_own kind o next)
      own_owned r among =
          let some = among-times r (own_at kind o next doc) among in
          let part = times-out r (items_own kind) (beside_document doc) (tree_pairs o next) in
          let here : times r (found (items_own kind) (lookup (beside_document doc) (tree_pairs o next))) ≡ times r (own_at kind o next doc) =
          ap (times r) (found-or (items_own kind) (lookup (beside_document doc) (tree_pairs o next)) refl) in
          let whole = times-append r (tree_nodes o next) (pairs_own kind (tree_pairs o next)) in
          omega arith

      own_elsewhere : (r : ℕ) → Among r (own_at kind o next doc) → buffer_of bits r ≢ buffer
      own_elsewhere r among lies =
          let some = own_owned r among in
          let owned = makes.owns.each r in
          let used = in-uses d r (omega arith) in
          let there : d.sealed (buffer_of d.bits r) ≡ true =
          ap (λ (s : ℕ → _). s (buffer_of d.bits r)) may.sealed ∙ ap (λ k. a.sealed (buffer_of k r)) bits_are ∙ ap a.sealed lies ∙ sealed in
          let was = uses-in a r (may.unsealed r used there) in
          let none = sets.fresh r among in
          omega arith

      pub moved : MovesItems bits buffer doc kind type a d m o root dictionary next
      moved = record {
        documents_are = makes.documents_are;
        column_is = makes.column_is ∙ insert_same doc items column (documents_lawful kind type m root can.documents_are).2.ascends there;
        apart = record {
          own = all_from_times (λ r. buffer_of bits r ≢ buffer) (own_at kind o next doc) (λ r some. own_elsewhere r (times-among r (own_at kind o next doc) some));
          refer = subst (NoneIn bits buffer) (sym sets.refer) (AllByRecursion-weaker (IsKey m dictionary) (λ r. buffer_of bits r ≢ buffer) can.keys keys kept);
        };
        others = sets.others;
        stay = sets.stay;
        refers = λ r among. ⊎_elim inl (λ key. inr (Among-all (IsKey m dictionary) keys kept r key)) (makes.refers r among);
        owns = makes.owns;
        turns = makes.turns;
      }

    module _ (d : Ledger H) (o : Records) (keys : List ℕ) (kept : AllByRecursion (IsKey m dictionary) keys) (sealed : a.sealed buffer ≡ true)
        (may : MayDo a d) (bits_are : d.bits ≡ bits) where
      pub moved_by : (answer : Result ℕ StoreError) → IfOk answer (MakesDocuments kind type a d m o root keys (with_change column doc (Some items)))
          → IfOk answer (SetsItems kind a m o root doc keys) → IfOk answer (MovesItems bits buffer doc kind type a d m o root dictionary)
      moved_by (Err e) makes sets = tt
      moved_by (Ok next) makes sets = moved d o next keys kept sealed may bits_are makes sets
