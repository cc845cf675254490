-- One document of documents changed.
use Rattle.std.proofs.Common.{◌≡◌, ℕ, zero, suc, ◌+◌, ◌<◌, ℤ, List, [], ◌∷◌, map, None, Some, refl, sym, ap, subst, ◌∙◌, arith, inl, inr, ◌⊎◌, Result, Ok, Err}
use Rattle.std.specs.Prelude.{IfOk, IsSome, unwrap_or}
use Rattle.store_api.specs.declared.store.StoreError.{StoreError}
use Rattle.std.specs.BTreeMap.{is_at}
use Rattle.std.specs.List.{flat_map, AllByRecursion}
use Rattle.std.specs.Map.{lookup as lookup_in}
use Rattle.std.specs.Ordering.{nat_cmp}
use Rattle.entry_ref.proofs.Among.{SameAt-then}
use Rattle.entry_ref.specs.Records.{Records, SameAt, Among}
use Rattle.tree_read.specs.ProofsForTrees.{SameAt-right, tree_nodes-same}
use Rattle.tree_read.specs.Trees.{tree_nodes, tree_pairs}
use Rattle.tree_read.specs.Pairs.{lookup, put, take_out}
use Rattle.tree_read.proofs.PairLemmas.{All-take_out}
use Rattle.store_api.specs.Ledgers.{Ledger}
use Rattle.store_api.specs.Parts.{Part, After, Owns, Turns, count_in, entries, times, uses}
use Rattle.store_api.specs.Units.{MayDo}
use Rattle.store_api.proofs.PartLemmas.{after, owns-some, owns-then, turns-as, turns-then}
use Rattle.store_api.proofs.Times.{times-append, among-times, times-among}
use Rattle.frozen_btree.specs.Changes.{tree}
use Rattle.doc_vector.proofs.DocumentLemmas.{map_stays}
use Rattle.doc_vector.specs.Documents.{beside_document, IsDocumentMap, MakesMap}
use Rattle.image_format.specs.Documents.{weighted, items_at, column_at, IsItemsRecord}
use Rattle.image_format.specs.Values.{IsValueRecord}
use Rattle.index_model.specs.Columns.{with_change}
use Rattle.attr_types.specs.Lawful.{IsLawfulItems}
use Rattle.attr_types.specs.declared.items.Item.{Item}
use Rattle.attr_types.specs.declared.kind.Kind.{Kind}
use Rattle.attr_types.specs.declared.kind.ValueType.{ValueType}
use Rattle.attr_field.specs.DocumentsChanges.{AreBeside, AreKeysOf, ChangesPair, MakesDocuments, SetsItems, pairs_own}
use Rattle.attr_field.specs.Documents.{documents_part, documents_refer, items_own, items_refer, AreItemsAt, IsDocuments}
use Rattle.store_api.specs.Flows.{ComesFrom}
use Rattle.attr_field.specs.Items.{entries_by_key, item_of, MakesItems}
use Rattle.store_api.proofs.Flows.{began-then, flow_made, flow_part, made_fresh}
use Rattle.attr_field.proofs.DocumentsFlowLemmas.{out_flows, set_flows, sets_items}
use Rattle.attr_field.proofs.FrameLemmas.{beside-same, same-some}
use Rattle.attr_field.proofs.KeyLemmas.{keys_are, keys_items, keys_values}
use Rattle.attr_field.proofs.PairLemmas.{found, found-or, times-out, times-put, all-put, columned, columned-put, columned-same, columned-out, columned-found, there-mapped}
use Rattle.attr_field.proofs.RecordLemmas.{form-on, weighted-on, values-on, items-same, pairs-stay, all-on, same-on, refer-on}

-- the reference of one document, in the map and with the old one's own record dropped
module _ {H : Type 0} (kind : Kind) (a b c : Ledger H) (m n o : Records) (root doc old next : ℕ) (owns : Owns a m (documents_part kind root ∷ []))
    (was : old ≡ unwrap_or (lookup (beside_document doc) (tree_pairs m root)) 0) where
  abbrev others : List (ℕ × ℕ)
  others = take_out (beside_document doc) (tree_pairs m root)

  abbrev split : List Part
  split = tree root ∷ entries (items_own kind old) ∷ entries (pairs_own kind others) ∷ []

  counts_split : (r : ℕ) → count_in r m split ≡ count_in r m (documents_part kind root ∷ [])
  counts_split r =
      let whole = times-append r (tree_nodes m root) (pairs_own kind (tree_pairs m root)) in
      let parts = times-out r (items_own kind) (beside_document doc) (tree_pairs m root) in
      let here : times r (found (items_own kind) (lookup (beside_document doc) (tree_pairs m root))) ≡ times r (items_own kind old) =
      ap (times r) (found-or (items_own kind) (lookup (beside_document doc) (tree_pairs m root)) refl ∙ ap (items_own kind) (sym was)) in
      omega arith

  owns_split : Owns a m split
  owns_split = owns-some a m (documents_part kind root ∷ []) split owns (λ r. let e = counts_split r in omega arith)

  pub owns_tree : Owns a m (tree root ∷ [])
  owns_tree = owns-some a m split (tree root ∷ []) owns_split (λ r. omega arith)

  module _ (pairs : List (ℕ × ℕ)) (makes : MakesMap a b m n root pairs next) where
    abbrev between : List Part
    between = tree next ∷ entries (items_own kind old) ∷ entries (pairs_own kind others) ∷ []

    first : After a b m n split between (entries (items_own kind old) ∷ entries (pairs_own kind others) ∷ [])
    first = after a b m n (tree root ∷ []) (tree next ∷ []) (entries (items_own kind old) ∷ entries (pairs_own kind others) ∷ []) split between owns_split makes.turns
        (λ k r. omega arith) (λ k r. omega arith)

    pub owns_old : Owns b n (entries (items_own kind old) ∷ [])
    owns_old = owns-some b n between (entries (items_own kind old) ∷ []) first.owns (λ r. omega arith)

    module _ (may : MayDo a b) (dropped : Turns b c n o (entries (items_own kind old) ∷ []) []) where
      abbrev left : List Part
      left = tree next ∷ entries (pairs_own kind others) ∷ []

      second : After b c n o between left left
      second = after b c n o (entries (items_own kind old) ∷ []) [] left between left first.owns dropped (λ k r. omega arith) (λ k r. omega arith)

      pub changes_pair : ChangesPair kind a c m o root others pairs next
      changes_pair =
          let map = map_stays n o next second.stay.0 makes.map_is in
          record {
            map_is = map.0;
            pairs_are = map.1 ∙ makes.pairs_are;
            stay = SameAt-then m n o (pairs_own kind others) first.stay.1.0 second.stay.1.0;
            nodes = λ r began among. flow_part a b m n (tree root) (tree next) may makes.turns r began (subst (Among r) (tree_nodes-same n o next second.stay.0) among);
            turns = turns-as a c m o split left (documents_part kind root ∷ []) left (turns-then a b c m n o split between left first.turns second.turns) (λ r. sym (counts_split r)) (λ r. refl);
          }

either_some : (x y : ℕ) → 0 < x + y → (0 < x) ⊎ (0 < y)
either_some zero y some = inr (omega arith)
either_some (suc x) y some = inl (omega arith)

-- documents, with one document's items set
module _ {H : Type 0} (kind : Kind) (type : ValueType) (a d : Ledger H) (m o : Records) (root doc : ℕ) (is : IsDocuments kind type m root) (owns : Owns a m (documents_part kind root ∷ []))
    (values : AreBeside a m (documents_part kind root ∷ []) (documents_refer kind m root)) where
  abbrev ps : List (ℕ × ℕ)
  ps = tree_pairs m root

  abbrev rest : List (ℕ × ℕ)
  rest = take_out (beside_document doc) ps

  abbrev refers_at : Records → List (ℕ × ℕ) → List ℕ
  refers_at k xs = flat_map (λ p. items_refer kind p.1 (k p.1)) xs

  fewer : (r : ℕ) → times r (refers_at m ps) ≡ times r (found (λ ref. items_refer kind ref (m ref)) (lookup (beside_document doc) ps)) + times r (refers_at m rest)
  fewer r = times-out r (λ ref. items_refer kind ref (m ref)) (beside_document doc) ps

  module _ (next : ℕ) (q : List Part) (turns : Turns a d m o (documents_part kind root ∷ []) q) (stay : SameAt (pairs_own kind rest) m o) where
    stays : AllByRecursion (λ p. SameAt (items_own kind p.1) m o × SameAt (items_refer kind p.1 (m p.1)) m o) rest
    stays = pairs-stay kind type m o rest stay
        (same-some m o (refers_at m ps) (refers_at m rest) (beside-same a d m o (documents_part kind root ∷ []) q (documents_refer kind m root) turns values)
        (λ r some. let e = fewer r in omega arith))

    rest_are : AllByRecursion (λ p. AreItemsAt kind type o p.1) rest
    rest_are = all-on kind type m o rest stays (All-take_out (λ p. AreItemsAt kind type m p.1) (beside_document doc) ps is.items)

  module _ (ref next : ℕ) (keys : List ℕ) (items : List Item) (are : AreKeysOf type m keys items) (there : AreBeside a m (documents_part kind root ∷ []) keys) (lawful : IsLawfulItems kind items)
      (map_is : IsDocumentMap o next) (pairs_are : tree_pairs o next ≡ put (beside_document doc) (doc, ref) ps) (stay : SameAt (pairs_own kind rest) m o)
      (turns : Turns a d m o (documents_part kind root ∷ []) (tree next ∷ entries (pairs_own kind rest) ∷ entries (items_own kind ref) ∷ []))
      (form : IsItemsRecord kind ref (o ref)) (weighted_are : weighted kind ref (o ref) ≡ entries_by_key keys items)
      (nodes : ComesFrom a (tree_nodes o next) (tree_nodes m root)) (made : ComesFrom a (items_own kind ref) []) where
    abbrev parts : List Part
    parts = tree next ∷ entries (pairs_own kind rest) ∷ entries (items_own kind ref) ∷ []

    counts_next : (r : ℕ) → count_in r o (documents_part kind next ∷ []) ≡ count_in r o parts
    counts_next r =
        let whole = times-append r (tree_nodes o next) (pairs_own kind (tree_pairs o next)) in
        let here = ap (λ xs. times r (pairs_own kind xs)) pairs_are in
        let put_in = times-put r (items_own kind) (beside_document doc) (doc, ref) ps in
        omega arith

    turns_set : Turns a d m o (documents_part kind root ∷ []) (documents_part kind next ∷ [])
    turns_set = turns-as a d m o (documents_part kind root ∷ []) parts (documents_part kind root ∷ []) (documents_part kind next ∷ []) turns (λ r. refl) counts_next

    keys_same : SameAt (map (λ e. e.0) (entries_by_key keys items)) m o
    keys_same = subst (λ ks. SameAt ks m o) (sym (keys_are type m keys items are)) (beside-same a d m o (documents_part kind root ∷ []) parts keys turns there)

    items_read : items_at kind type o ref ≡ items
    items_read = ap (map (item_of type o)) weighted_are ∙ items-same type m o (entries_by_key keys items) keys_same ∙ keys_items type m keys items are

    new_are : AreItemsAt kind type o ref
    new_are = record {
      records = (form, subst (AllByRecursion (λ e. IsValueRecord type (o e.0))) (sym weighted_are) (values-on type m o (entries_by_key keys items) keys_same (keys_values type m keys items are)));
      lawful = subst (IsLawfulItems kind) (sym items_read) lawful;
    }

    refers_new : items_refer kind ref (o ref) ≡ keys
    refers_new = ap (map (λ (e : ℕ × ℤ). e.0)) weighted_are ∙ keys_are type m keys items are

    refers_set : (r : ℕ) → Among r (documents_refer kind o next) → Among r (documents_refer kind m root) ⊎ Among r keys
    refers_set r among =
        let some = among-times r (documents_refer kind o next) among in
        let here = ap (λ xs. times r (refers_at o xs)) pairs_are in
        let put_in = times-put r (λ q. items_refer kind q (o q)) (beside_document doc) (doc, ref) ps in
        let same = ap (times r) (refer-on kind type m o rest (stays next parts turns stay)) in
        let new = ap (times r) refers_new in
        let e = fewer r in
        elim (either_some (times r (refers_at m rest)) (times r keys) (omega arith)) [
          | inl old ↦ inl (times-among r (documents_refer kind m root) (omega arith))
          | inr key ↦ inr (times-among r keys key)
        ]

    pub makes_set : MakesDocuments kind type a d m o root keys (with_change (column_at kind type m root) doc (Some items)) next
    makes_set = record {
      documents_are = record {
        map_is = map_is;
        items = subst (AllByRecursion (λ (p : ℕ × ℕ). AreItemsAt kind type o p.1)) (sym pairs_are)
            (all-put (λ p. AreItemsAt kind type o p.1) (beside_document doc) (doc, ref) new_are ps (rest_are next parts turns stay));
      };
      column_is = ap (columned (items_at kind type o)) pairs_are
          ∙ columned-put (items_at kind type m) (items_at kind type o) doc ref items items_read ps (same-on kind type m o rest (stays next parts turns stay));
      refers = refers_set;
      flows = set_flows kind a m o root doc next is.map_is.tree_is.ascends stay nodes ref keys pairs_are refers_new made;
      owns = owns-then a d m o (documents_part kind root ∷ []) (documents_part kind next ∷ []) owns turns_set;
      turns = turns_set;
    }

    pub sets_set : ((r : ℕ) → Among r (items_own kind ref) → uses a r ≡ 0) → SetsItems kind a m o root doc keys next
    sets_set fresh = sets_items kind a m o root doc next is.map_is.tree_is.ascends stay nodes ref keys pairs_are refers_new fresh

  -- one document taken out
  module _ (next : ℕ) (changes : ChangesPair kind a d m o root rest rest next) where
    abbrev parts_left : List Part
    parts_left = tree next ∷ entries (pairs_own kind rest) ∷ []

    counts_left : (r : ℕ) → count_in r o (documents_part kind next ∷ []) ≡ count_in r o parts_left
    counts_left r =
        let whole = times-append r (tree_nodes o next) (pairs_own kind (tree_pairs o next)) in
        let here = ap (λ xs. times r (pairs_own kind xs)) changes.pairs_are in
        omega arith

    turns_out : Turns a d m o (documents_part kind root ∷ []) (documents_part kind next ∷ [])
    turns_out = turns-as a d m o (documents_part kind root ∷ []) parts_left (documents_part kind root ∷ []) (documents_part kind next ∷ []) changes.turns (λ r. refl) counts_left

    refers_out : (r : ℕ) → Among r (documents_refer kind o next) → Among r (documents_refer kind m root) ⊎ Among r []
    refers_out r among =
        let some = among-times r (documents_refer kind o next) among in
        let here = ap (λ xs. times r (refers_at o xs)) changes.pairs_are in
        let same = ap (times r) (refer-on kind type m o rest (stays next parts_left changes.turns changes.stay)) in
        let e = fewer r in
        inl (times-among r (documents_refer kind m root) (omega arith))

    pub makes_out : MakesDocuments kind type a d m o root [] (with_change (column_at kind type m root) doc None) next
    makes_out = record {
      documents_are = record {
        map_is = changes.map_is;
        items = subst (AllByRecursion (λ (p : ℕ × ℕ). AreItemsAt kind type o p.1)) (sym changes.pairs_are) (rest_are next parts_left changes.turns changes.stay);
      };
      column_is = ap (columned (items_at kind type o)) changes.pairs_are
          ∙ columned-same (items_at kind type m) (items_at kind type o) rest (same-on kind type m o rest (stays next parts_left changes.turns changes.stay))
          ∙ columned-out (items_at kind type m) doc ps is.map_is.tree_is.ascends;
      refers = refers_out;
      flows = out_flows kind a m o root doc next is.map_is.tree_is.ascends changes.stay changes.nodes changes.pairs_are;
      owns = owns-then a d m o (documents_part kind root ∷ []) (documents_part kind next ∷ []) owns turns_out;
      turns = turns_out;
    }

  -- a document of the column is one of the map
  pub there_in_map : IsSome (lookup_in (is_at (nat_cmp doc)) (column_at kind type m root)) → IsSome (lookup (beside_document doc) ps)
  there_in_map there = there-mapped (items_at kind type m) (lookup (beside_document doc) ps) (subst (λ o. IsSome o) (sym (columned-found (items_at kind type m) doc ps is.map_is.tree_is.ascends)) there)

-- what is made first, then set
module _ {H : Type 0} (kind : Kind) (type : ValueType) (a b c : Ledger H) (m n o : Records) (root doc ref : ℕ) (is : IsDocuments kind type m root) (owns : Owns a m (documents_part kind root ∷ []))
    (list : List (ℕ × ℤ)) (makes : MakesItems kind a b m n list ref) where
  abbrev own : List Part
  own = documents_part kind root ∷ []

  begun : After a b m n own (entries (items_own kind ref) ∷ documents_part kind root ∷ []) own
  begun = after a b m n [] (entries (items_own kind ref) ∷ []) own own (entries (items_own kind ref) ∷ documents_part kind root ∷ []) owns makes.turns (λ k r. omega arith) (λ k r. omega arith)

  pub nodes_stay : SameAt (tree_nodes m root) m n
  nodes_stay = Rattle.tree_read.specs.ProofsForTrees.SameAt-left m n (tree_nodes m root) (pairs_own kind (tree_pairs m root)) begun.stay.0

  pub still_map : IsDocumentMap n root
  still_map = (map_stays m n root nodes_stay is.map_is).0

  same_pairs : tree_pairs n root ≡ tree_pairs m root
  same_pairs = (map_stays m n root nodes_stay is.map_is).1

  pub still_owned : Owns b n own
  still_owned = owns-some b n (entries (items_own kind ref) ∷ documents_part kind root ∷ []) own begun.owns (λ r. omega arith)

  module _ (next : ℕ) (changed : ChangesPair kind b c n o root (take_out (beside_document doc) (tree_pairs n root)) (put (beside_document doc) (doc, ref) (tree_pairs n root)) next)
      (values : AreBeside a m (documents_part kind root ∷ []) (documents_refer kind m root)) (keys : List ℕ) (items : List Item) (is_list : list ≡ entries_by_key keys items)
      (are : AreKeysOf type m keys items) (there : AreBeside a m (documents_part kind root ∷ []) keys) (lawful : IsLawfulItems kind items) (may : MayDo a b) where
    abbrev others_m : List (ℕ × ℕ)
    others_m = take_out (beside_document doc) (tree_pairs m root)

    changes : ChangesPair kind b c n o root others_m (put (beside_document doc) (doc, ref) (tree_pairs m root)) next
    changes = subst (λ ps. ChangesPair kind b c n o root (take_out (beside_document doc) ps) (put (beside_document doc) (doc, ref) ps) next) same_pairs changed

    abbrev end : List Part
    end = tree next ∷ entries (pairs_own kind others_m) ∷ entries (items_own kind ref) ∷ []

    ended : After b c n o (entries (items_own kind ref) ∷ documents_part kind root ∷ []) end (entries (items_own kind ref) ∷ [])
    ended = after b c n o own (tree next ∷ entries (pairs_own kind others_m) ∷ []) (entries (items_own kind ref) ∷ []) (entries (items_own kind ref) ∷ documents_part kind root ∷ []) end begun.owns changes.turns
        (λ k r. omega arith) (λ k r. omega arith)

    others_stay : SameAt (pairs_own kind others_m) m o
    others_stay = SameAt-then m n o (pairs_own kind others_m)
        (same-some m n (pairs_own kind (tree_pairs m root)) (pairs_own kind others_m) (SameAt-right m n (tree_nodes m root) (pairs_own kind (tree_pairs m root)) begun.stay.0)
        (λ r some. let e = times-out r (items_own kind) (beside_document doc) (tree_pairs m root) in omega arith))
        changes.stay

    all_turns : Turns a c m o own end
    all_turns = turns-then a b c m n o own (entries (items_own kind ref) ∷ documents_part kind root ∷ []) end begun.turns ended.turns

    nodes_flow : ComesFrom a (tree_nodes o next) (tree_nodes m root)
    nodes_flow r began among = subst (Among r) (tree_nodes-same m n root nodes_stay) (changed.nodes r (began-then a b may r began) among)

    new_form : IsItemsRecord kind ref (o ref)
    new_form = form-on kind n o ref ended.stay.0 makes.form

    new_weighted : weighted kind ref (o ref) ≡ entries_by_key keys items
    new_weighted = weighted-on kind n o ref ended.stay.0 ∙ makes.weighted_are ∙ is_list

    new_made : ComesFrom a (items_own kind ref) []
    new_made = flow_made a b m n (entries (items_own kind ref)) may makes.turns

    pub makes_documents : MakesDocuments kind type a c m o root keys (with_change (column_at kind type m root) doc (Some items)) next
    makes_documents = makes_set kind type a c m o root doc is owns values ref next keys items are there lawful changes.map_is changes.pairs_are others_stay
        all_turns new_form new_weighted nodes_flow new_made

    pub sets_document : SetsItems kind a m o root doc keys next
    sets_document = sets_set kind type a c m o root doc is owns values ref next keys items are there lawful changes.map_is changes.pairs_are others_stay
        all_turns new_form new_weighted nodes_flow new_made (made_fresh a b m n (entries (items_own kind ref)) makes.turns)

module _ {H : Type 0} (kind : Kind) (type : ValueType) (a b c : Ledger H) (m n o : Records) (root doc ref : ℕ) (is : IsDocuments kind type m root) (owns : Owns a m (documents_part kind root ∷ []))
    (values : AreBeside a m (documents_part kind root ∷ []) (documents_refer kind m root)) (keys : List ℕ) (items : List Item) (are : AreKeysOf type m keys items)
    (there : AreBeside a m (documents_part kind root ∷ []) keys) (lawful : IsLawfulItems kind items) (makes : MakesItems kind a b m n (entries_by_key keys items) ref)
    (may : MayDo a b) where
  pub made_documents : (result : Result ℕ StoreError)
      → IfOk result (ChangesPair kind b c n o root (take_out (beside_document doc) (tree_pairs n root)) (put (beside_document doc) (doc, ref) (tree_pairs n root)))
      → IfOk result (MakesDocuments kind type a c m o root keys (with_change (column_at kind type m root) doc (Some items)))
  made_documents (Ok next) changed = makes_documents kind type a b c m n o root doc ref is owns (entries_by_key keys items) makes next changed values keys items refl are there lawful may
  made_documents (Err e) changed = tt

  pub set_documents : (result : Result ℕ StoreError)
      → IfOk result (ChangesPair kind b c n o root (take_out (beside_document doc) (tree_pairs n root)) (put (beside_document doc) (doc, ref) (tree_pairs n root)))
      → IfOk result (SetsItems kind a m o root doc keys)
  set_documents (Ok next) changed = sets_document kind type a b c m n o root doc ref is owns (entries_by_key keys items) makes next changed values keys items refl are there lawful may
  set_documents (Err e) changed = tt
