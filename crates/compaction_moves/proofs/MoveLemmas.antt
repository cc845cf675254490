-- A key of a phase was moved: the attribute stands, and is cleared up to the key.
use Rattle.std.proofs.Common.{◌≡◌, ◌⊎◌, ℕ, ◌<◌, List, [], ◌∷◌, map, true, Some, inl, refl, sym, ap, subst, ◌∙◌, arith}
use Rattle.entry_ref.specs.Records.{Records, Among}
use Rattle.store_api.specs.Ledgers.{Ledger}
use Rattle.store_api.specs.Parts.{Owns, Turns, entries}
use Rattle.store_api.proofs.PartLemmas.{turns-as}
use Rattle.compaction_moves.specs.Cleared.{IsClearedField}
use Rattle.attr_compaction.specs.Places.{PlanView}
use Rattle.attr_compaction.specs.declared.plan.PlanKey.{PlanKey}
use Rattle.attr_compaction.specs.declared.plan.PlanKey.TheVariants.{Start, Value, Doc, Pair}
use Rattle.attr_field.specs.DocumentsChanges.{AreBeside}
use Rattle.attr_field.specs.Documents.{documents_part, documents_refer}
use Rattle.attr_field.specs.DocumentsLaws.{DocumentsStay}
use Rattle.attr_field.specs.Fields.{field_part, IsField, RefersBeside}
use Rattle.image_format.specs.Postings.{index_of}
use Rattle.image_format.specs.Tables.{AttributeTrees}
use Rattle.attr_types.specs.Lawful.{IsDocNumber}
use Rattle.attr_types.specs.Value.{type_of}
use Rattle.attr_types.specs.declared.value.Value.{Value as AnyValue}
use Rattle.compaction_moves.specs.DocumentMoves.{CanMoveItems, MovesDocumentNodes, MovesItems}
use Rattle.compaction_moves.specs.IndexMoves.{MovesKey, MovesList, MovesNodes}
use Rattle.attr_compaction.specs.PhaseKeys.{key_past, phase_keys}
use Rattle.value_index.specs.Indexes.{index_part, IsIndex, IsKey}
use Rattle.value_index.specs.Laws.{IndexStays}
use Rattle.compaction_moves.specs.DocumentsCleared.{IsNext, AreTrees, ItemsAreCleared, ItemsCanMove, MapIsCleared, NodesCanMove}
use Rattle.compaction_moves.specs.IndexLaws.{KeyMoveClears, KeysAreSame, ListMoveClears, NodeMoveClears}
use Rattle.compaction_moves.specs.IndexTurns.{IsTurn, LeavesBuffer}
use Rattle.compaction_moves.specs.FieldMoves.{HasBegun}
use Rattle.compaction_moves.specs.Steps.{CanMove, Moved}
use Rattle.compaction_moves.proofs.BlockLemmas.{dictionary_docs}
use Rattle.compaction_moves.proofs.FieldLemmas.{column_same, documents_moved, documents_same, documents_turns, index_is, index_moved, index_owned, index_same, index_turns, keys_stay, refer_as}
use Rattle.compaction_moves.proofs.FieldKeyLemmas.{document_phase, next_fine, pair_phase, value_phase}

module _ {H : Type 0} (bits : ℕ) (plan : PlanView) (a : AttributeTrees) (old : Ledger H) (m : Records) where
  -- ---- what a key of the phase is
  pub typed_value : (phase : ℕ) (value : AnyValue) → phase < 4 → CanMove bits old m a plan phase (Value value) → type_of value ≡ a.type
  typed_value phase value below can = (next_fine a.type m a.documents a.dictionary phase plan.place.key (Value value) can.field.documents_are.map_is below can.next).0

  pub typed_pair : (phase : ℕ) (value : AnyValue) (doc : ℕ) → phase < 4 → CanMove bits old m a plan phase (Pair value doc) → type_of value ≡ a.type
  typed_pair phase value doc below can = (next_fine a.type m a.documents a.dictionary phase plan.place.key (Pair value doc) can.field.documents_are.map_is below can.next).0

  pub numbered : (phase doc : ℕ) → phase < 4 → CanMove bits old m a plan phase (Doc doc) → IsDocNumber doc
  numbered phase doc below can = (next_fine a.type m a.documents a.dictionary phase plan.place.key (Doc doc) can.field.documents_are.map_is below can.next).0

  -- ---- all that a key's move finds
  pub as_given : (given : PlanKey) → old.unit ≡ true → HasBegun old → old.sealed plan.victim ≡ true → IsField a.kind a.type m a.documents a.dictionary
      → Owns old m (field_part a.kind a.documents a.dictionary ∷ []) → RefersBeside old a.kind m a.documents a.dictionary (field_part a.kind a.documents a.dictionary ∷ [])
      → key_past plan.place.key (phase_keys a.type m a.documents a.dictionary plan.place.stage.phase) ≡ Some given
      → IsClearedField bits plan.victim plan.place plan.place.stage.field m a → (key : PlanKey) → given ≡ key → CanMove bits old m a plan plan.place.stage.phase key
  as_given given unit begun sealed field owns refers next cleared key is = record {
    unit = unit;
    begun = begun;
    sealed = sealed;
    phase_is = refl;
    field = field;
    owns = owns;
    refers = refers;
    next = next ∙ ap (λ (k : PlanKey). Some k) is;
    cleared = cleared;
  }

  -- ---- which phase it is of
  pub at_phase : (phase other : ℕ) (key : PlanKey) → phase ≡ other → CanMove bits old m a plan phase key → CanMove bits old m a plan other key
  at_phase phase other key is can = subst (λ p. CanMove bits old m a plan p key) is can

  pub value_last : (phase : ℕ) (value : AnyValue) → phase < 4 → (phase ≡ 0 → ⊥) → CanMove bits old m a plan phase (Value value) → CanMove bits old m a plan 3 (Value value)
  value_last phase value below other can =
      let fine = next_fine a.type m a.documents a.dictionary phase plan.place.key (Value value) can.field.documents_are.map_is below can.next in
      at_phase phase 3 (Value value) (value_phase phase value below fine.1 other) can

  pub document_last : (phase doc : ℕ) → phase < 4 → (phase ≡ 1 → ⊥) → CanMove bits old m a plan phase (Doc doc) → CanMove bits old m a plan 3 (Doc doc)
  document_last phase doc below other can =
      let fine = next_fine a.type m a.documents a.dictionary phase plan.place.key (Doc doc) can.field.documents_are.map_is below can.next in
      at_phase phase 3 (Doc doc) (document_phase phase doc below fine.1 other) can

  pub pair_lists : (phase : ℕ) (value : AnyValue) (doc : ℕ) → phase < 4 → CanMove bits old m a plan phase (Pair value doc) → CanMove bits old m a plan 2 (Pair value doc)
  pair_lists phase value doc below can =
      let fine = next_fine a.type m a.documents a.dictionary phase plan.place.key (Pair value doc) can.field.documents_are.map_is below can.next in
      at_phase phase 2 (Pair value doc) (pair_phase phase value doc below fine.1) can

  pub not_start : (phase : ℕ) → phase < 4 → CanMove bits old m a plan phase Start → ⊥
  not_start phase below can = next_fine a.type m a.documents a.dictionary phase plan.place.key Start can.field.documents_are.map_is below can.next

  -- ---- what the moves of an index ask for
  pub value_index : (phase : ℕ) (key : PlanKey) (value : AnyValue) → CanMove bits old m a plan phase key → type_of value ≡ a.type → IsIndex (type_of value) m a.dictionary
  value_index phase key value can typed = subst (λ t. IsIndex t m a.dictionary) (sym typed) can.field.index_is

  pub owned_index : (phase : ℕ) (key : PlanKey) → CanMove bits old m a plan phase key → Owns old m (index_part a.dictionary ∷ [])
  owned_index phase key can = index_owned bits plan.victim a.kind a.type old old m m a.documents a.dictionary can.field can.owns can.refers

  turn : (phase : ℕ) (key : PlanKey) → CanMove bits old m a plan phase key → IsTurn plan.place plan.place.stage.field phase m a key
  turn phase key can = record {
    field_is = refl;
    phase_is = can.phase_is;
    index_is = can.field.index_is;
    map_is = can.field.documents_are.map_is;
    next = can.next;
  }

  is_next : (phase : ℕ) (key : PlanKey) → CanMove bits old m a plan phase key → IsNext plan.place m a key
  is_next phase key can =
      subst (λ p. key_past plan.place.key (phase_keys a.type m a.documents a.dictionary p) ≡ Some key) (sym can.phase_is) can.next

  trees : (phase : ℕ) (key : PlanKey) → CanMove bits old m a plan phase key → AreTrees m a
  trees phase key can = record { documents_are = can.field.documents_are; index_is = can.field.index_is }

  -- ---- what the moves of documents ask for
  pub items_can : ItemsCanMove H → (doc : ℕ) → CanMove bits old m a plan 1 (Doc doc) → CanMoveItems bits plan.victim a.kind a.type old m a.documents a.dictionary
  items_can can_move doc can = can_move bits plan.victim plan.place.stage.field plan.place a old m refl can.phase_is can.field can.owns can.refers can.cleared

  pub nodes_can : NodesCanMove H → (doc : ℕ) → CanMove bits old m a plan 3 (Doc doc)
      → Owns old m (documents_part a.kind a.documents ∷ []) × AreBeside old m (documents_part a.kind a.documents ∷ []) (documents_refer a.kind m a.documents)
  nodes_can can_move doc can = can_move a old m can.field can.owns can.refers

  module _ (new : Ledger H) (n : Records) (next : ℕ) where
    -- ---- the index is another
    abbrev with_index : AttributeTrees
    with_index = record { kind = a.kind; type = a.type; documents = a.documents; dictionary = next }

    module _ (stay : DocumentsStay) (same : KeysAreSame) where
      pub key_done : KeyMoveClears H → (value : AnyValue) → CanMove bits old m a plan 0 (Value value)
          → MovesKey bits plan.victim value old new m n a.dictionary next → Moved bits plan (Value value) old new m n a with_index
      unfolding index_moved
      key_done clears value can moves =
          let typed = typed_value 0 value (omega arith) can in
          let index : IsIndex a.type n next = subst (λ t. IsIndex t n next) typed moves.index_is in
          let reads : index_of a.type n next ≡ index_of a.type m a.dictionary = subst (λ t. index_of t n next ≡ index_of t m a.dictionary) typed moves.reads_as in
          let stays : (r : ℕ) → IsKey m a.dictionary r → n r ≡ m r = λ r key. keys_stay m n a.dictionary r moves.stay key in
          let column = column_same bits plan.victim a.kind a.type old new m n a.documents a.dictionary can.field can.owns can.refers
          stay next moves.left moves.left_in index reads moves.keys stays moves.turns in
          record {
            moves = index_moved bits plan.victim a.kind a.type old new m n a.documents a.dictionary can.field can.owns can.refers
                stay next moves.left moves.left_in index reads moves.keys stays moves.turns
                (λ phase. same a.kind a.type m n a.documents a.dictionary a.documents next phase reads moves.docs column) moves.plain;
            cleared = clears bits plan.victim plan.place.stage.field next plan.place value old new m n a typed (turn 0 (Value value) can) moves can.cleared;
            left_none = λ copies. moves.left_none (λ ref here. copies.apart value ref can.phase_is refl here);
          }

      pub list_done : ListMoveClears H → LeavesBuffer bits plan.victim old new m n → (value : AnyValue) (doc : ℕ) → CanMove bits old m a plan 2 (Pair value doc)
          → MovesList bits plan.victim doc value old new m n a.dictionary next → Moved bits plan (Pair value doc) old new m n a with_index
      unfolding index_moved
      list_done clears leaves value doc can moves =
          let typed = typed_pair 2 value doc (omega arith) can in
          let index : IsIndex a.type n next = subst (λ t. IsIndex t n next) typed moves.index_is in
          let reads : index_of a.type n next ≡ index_of a.type m a.dictionary = subst (λ t. index_of t n next ≡ index_of t m a.dictionary) typed moves.reads_as in
          let stays : (r : ℕ) → IsKey m a.dictionary r → n r ≡ m r = λ r key. (moves.keys r key).1 in
          let kept : (r : ℕ) → IsKey m a.dictionary r → IsKey n next r ⊎ Among r [] = λ r key. inl (moves.keys r key).0 in
          let turns : Turns old new m n (index_part a.dictionary ∷ []) (index_part next ∷ entries [] ∷ []) =
          turns-as old new m n (index_part a.dictionary ∷ []) (index_part next ∷ []) (index_part a.dictionary ∷ []) (index_part next ∷ entries [] ∷ []) moves.turns
          (λ r. refl) (λ r. refl) in
          let column = column_same bits plan.victim a.kind a.type old new m n a.documents a.dictionary can.field can.owns can.refers stay next [] tt index reads kept stays turns in
          record {
            moves = index_moved bits plan.victim a.kind a.type old new m n a.documents a.dictionary can.field can.owns can.refers stay next [] tt index reads kept stays turns
                (λ phase. same a.kind a.type m n a.documents a.dictionary a.documents next phase reads moves.docs column) moves.plain;
            cleared = clears bits plan.victim plan.place.stage.field doc next plan.place value old new m n a typed (turn 2 (Pair value doc) can) moves
                leaves (owned_index 2 (Pair value doc) can)
                (documents_same bits plan.victim a.kind a.type old new m n a.documents a.dictionary can.field can.owns can.refers stay next [] tt index reads kept stays turns)
                can.cleared;
            left_none = λ copies. refl;
          }

      pub value_nodes_done : NodeMoveClears H → LeavesBuffer bits plan.victim old new m n → (value : AnyValue) → CanMove bits old m a plan 3 (Value value)
          → MovesNodes bits plan.victim value old new m n a.dictionary next → Moved bits plan (Value value) old new m n a with_index
      unfolding index_moved
      value_nodes_done clears leaves value can moves =
          let typed = typed_value 3 value (omega arith) can in
          let index : IsIndex a.type n next = subst (λ t. IsIndex t n next) typed moves.index_is in
          let reads : index_of a.type n next ≡ index_of a.type m a.dictionary = subst (λ t. index_of t n next ≡ index_of t m a.dictionary) typed moves.reads_as in
          let stays : (r : ℕ) → IsKey m a.dictionary r → n r ≡ m r = λ r key. keys_stay m n a.dictionary r moves.stay key in
          let kept : (r : ℕ) → IsKey m a.dictionary r → IsKey n next r ⊎ Among r [] = λ r key. inl (subst (λ (ps : List (ℕ × ℕ)). Among r (map (λ p. p.0) ps)) (sym moves.pairs) key) in
          let turns = index_turns old new m n a.dictionary next moves.pairs moves.turns moves.stay in
          let column = column_same bits plan.victim a.kind a.type old new m n a.documents a.dictionary can.field can.owns can.refers stay next [] tt index reads kept stays turns in
          record {
            moves = index_moved bits plan.victim a.kind a.type old new m n a.documents a.dictionary can.field can.owns can.refers stay next [] tt index reads kept stays turns
                (λ phase. same a.kind a.type m n a.documents a.dictionary a.documents next phase reads moves.docs column) moves.plain;
            cleared = clears bits plan.victim plan.place.stage.field next plan.place value old new m n a typed (turn 3 (Value value) can) moves
                leaves (owned_index 3 (Value value) can)
                (documents_same bits plan.victim a.kind a.type old new m n a.documents a.dictionary can.field can.owns can.refers stay next [] tt index reads kept stays turns)
                can.cleared;
            left_none = λ copies. refl;
          }

    -- ---- the documents are others
    abbrev with_documents : AttributeTrees
    with_documents = record { kind = a.kind; type = a.type; documents = next; dictionary = a.dictionary }

    module _ (stay : IndexStays) (same : KeysAreSame) where
      pub items_done : ItemsAreCleared H → (doc : ℕ) → CanMove bits old m a plan 1 (Doc doc)
          → MovesItems bits plan.victim doc a.kind a.type old new m n a.documents a.dictionary next → Moved bits plan (Doc doc) old new m n a with_documents
      unfolding documents_moved
      items_done clears doc can moves =
          let index = index_is bits plan.victim a.kind a.type old new m n a.documents a.dictionary can.field can.owns can.refers
          stay next moves.documents_are moves.column_is moves.refers moves.turns in
          let words = index_same bits plan.victim a.kind a.type old new m n a.documents a.dictionary can.field can.owns can.refers
          stay next moves.documents_are moves.column_is moves.refers moves.turns in
          record {
            moves = documents_moved bits plan.victim a.kind a.type old new m n a.documents a.dictionary can.field can.owns can.refers
                stay next moves.documents_are moves.column_is moves.refers moves.turns
                (λ phase. same a.kind a.type m n a.documents a.dictionary next a.dictionary phase index.1 (dictionary_docs m n a.dictionary words) moves.column_is);
            cleared = clears bits plan.victim plan.place.stage.field doc next plan.place a old new m n refl can.phase_is (is_next 1 (Doc doc) can) (trees 1 (Doc doc) can)
                words moves can.cleared;
            left_none = λ copies. refl;
          }

      pub map_done : MapIsCleared H → LeavesBuffer bits plan.victim old new m n → (doc : ℕ) → CanMove bits old m a plan 3 (Doc doc)
          → Owns old m (documents_part a.kind a.documents ∷ [])
          → MovesDocumentNodes bits plan.victim doc a.kind a.type old new m n a.documents next → Moved bits plan (Doc doc) old new m n a with_documents
      unfolding documents_moved
      map_done clears leaves doc can owned moves =
          let refers : (r : ℕ) → Among r (documents_refer a.kind n next) → Among r (documents_refer a.kind m a.documents) ⊎ IsKey m a.dictionary r =
          λ r among. inl (subst (Among r) (refer_as old new m n a.documents next moves.pairs moves.turns a.kind moves.stay) among) in
          let turns = documents_turns old new m n a.documents next moves.pairs moves.turns a.kind in
          let index = index_is bits plan.victim a.kind a.type old new m n a.documents a.dictionary can.field can.owns can.refers
          stay next moves.documents_are moves.column_is refers turns in
          let words = index_same bits plan.victim a.kind a.type old new m n a.documents a.dictionary can.field can.owns can.refers
          stay next moves.documents_are moves.column_is refers turns in
          record {
            moves = documents_moved bits plan.victim a.kind a.type old new m n a.documents a.dictionary can.field can.owns can.refers
                stay next moves.documents_are moves.column_is refers turns
                (λ phase. same a.kind a.type m n a.documents a.dictionary next a.dictionary phase index.1 (dictionary_docs m n a.dictionary words) moves.column_is);
            cleared = clears bits plan.victim plan.place.stage.field doc next plan.place a old new m n refl can.phase_is (is_next 3 (Doc doc) can) (trees 3 (Doc doc) can)
                words owned leaves.unmade leaves.words moves can.cleared;
            left_none = λ copies. refl;
          }
