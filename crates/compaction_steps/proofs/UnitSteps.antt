-- A unit of a compaction: what the move of its key asks for, and what all attributes are after it.
use Rattle.std.proofs.Common.{◌≡◌, ◌≢◌, ℕ, zero, suc, ◌<◌, ◌≤◌, Bool, ◌||◌, true, false, true≢false, cond, nat_eq, List, [], ◌∷◌, length, set, Some, refl, sym, ap, subst, ◌∙◌, arith, inl, inr}
use Rattle.std.proofs.lemmas.Bool.{cases_eq}
use Rattle.std.specs.Prelude.{◌↔◌, slice_get}
use Rattle.std.specs.List.{AllByRecursion}
use Rattle.std.specs.Option.{IfSome}
use Rattle.list_lemmas.proofs.Options.{same_Some}
use Rattle.list_lemmas.proofs.Places.{slice_get-set_other}
use Rattle.list_lemmas.proofs.Each.{AllByRecursion-slice_get}
use Rattle.entry_ref.specs.References.{buffer_of}
use Rattle.entry_ref.specs.Records.{Among, Records, SameAt}
use Rattle.arena_api.specs.Calls.{FitsEntry}
use Rattle.arena_api.specs.Works.{active_width}
use Rattle.store_api.specs.Calls.{Accepts, IsUsedWidth, RefusesOf, Undoes}
use Rattle.store_api.specs.Ledgers.{Ledger, IsSettled}
use Rattle.store_api.specs.Parts.{AllStay, Owns, Part, Turns, count_in, entries}
use Rattle.store_api.specs.Statuses.{Status, has_record, in_use}
use Rattle.store_api.specs.declared.store.StoreError.{StoreError}
use Rattle.store_api.specs.declared.store.StoreError.TheVariants.{Full, Memory}
use Rattle.store_api.proofs.PartLemmas.{owns-some}
use Rattle.store_api.proofs.Uses.{used_has}
use Rattle.compaction_moves.specs.IndexMoves.{IsKeyIn}
use Rattle.attr_field.specs.Documents.{documents_refer}
use Rattle.image_format.specs.Documents.{column_at}
use Rattle.index_model.specs.Columns.{documents_with, Column}
use Rattle.index_model.specs.Index.{list_of}
use Rattle.compaction_moves.specs.Counts.{most_nodes, one_record, MakesKey}
use Rattle.value_index.specs.Counts.{by_width}
use Rattle.attr_field.specs.Fields.{field_part, IsField}
use Rattle.attr_field.specs.Forms.{wants}
use Rattle.image_format.specs.Postings.{index_of}
use Rattle.attr_types.specs.declared.value.Value.{Value}
use Rattle.posting_store.specs.Lists.{AreOnes}
use Rattle.value_index.specs.Forms.{IsOfForm, IsPlainIndex}
use Rattle.compaction_moves.specs.Cleared.{IsCleared, IsClearedField}
use Rattle.compaction_steps.specs.StepsLaws.{OthersStayCleared, StayLeavesCleared}
use Rattle.attr_compaction.specs.Places.{PlanPlace, PlanView}
use Rattle.attr_compaction.specs.declared.plan.PlanKey.{PlanKey}
use Rattle.attr_compaction.specs.declared.plan.TheConstants.{PHASES}
use Rattle.image_format.specs.Tables.{AttributeTrees}
use Rattle.attr_types.specs.declared.field.Field.{Field}
use Rattle.attr_types.specs.declared.kind.Kind.{Kind}
use Rattle.attr_types.specs.declared.kind.ValueType.{ValueType}
use Rattle.attr_field.proofs.CopyLemmas.{refers_some}
use Rattle.attr_compaction.specs.PhaseKeys.{key_past, phase_keys, HasType}
use Rattle.attr_operations.specs.Calls.{KeepsStore}
use Rattle.array_store.specs.Roots.{root_entries}
use Rattle.attr_operations.specs.Fields.{AllReferBeside, HoldsAttributes, IsFieldAt, IsOfFormAt, part_of, parts_of}
use Rattle.attr_operations.proofs.Columns.{FieldLaws}
use Rattle.attr_operations.proofs.CountLemmas.{spares_among}
use Rattle.attr_operations.proofs.PartLists.{count_at}
use Rattle.attr_operations.proofs.Referring.{RefersAt, all_weaker}
use Rattle.attr_operations.proofs.TreeLists.{get_set-same, set_length}
use Rattle.compaction_moves.specs.FieldMoves.{HasBegun, MovesField}
use Rattle.compaction_steps.specs.Units.{keys_at, CompactsTo, HasActive, IsUnderWay, KeepsKeys, SparesBelow}
use Rattle.compaction_steps.proofs.KeyLemmas.{all_keep, keeps_stay, one_keeps_then, next_fits}
use Rattle.compaction_steps.proofs.Moving.{MovesPart, all_stay, mid_are, new_holds, new_owned, new_table, other_stays}

-- what the move of one key asks for
pub record MeetsMove {H : Type 0} (bits : ℕ) (ledger : Ledger H) (m : Records) (a : AttributeTrees) (plan : PlanView) : Type 0 where
  pub unit : ledger.unit ≡ true
  pub begun : HasBegun ledger
  pub sealed : ledger.sealed plan.victim ≡ true
  pub field : IsFieldAt m a
  pub owns : Owns ledger m (part_of a ∷ [])
  pub refers : RefersAt ledger m (part_of a ∷ []) a
  pub cleared : IsClearedField bits plan.victim plan.place plan.place.stage.field m a

pub or_left : (a b : Bool) → (a || b) ≡ false → a ≡ false
or_left false b e = refl
or_left true b e = absurd (true≢false e)

pub or_right : (a b : Bool) → (a || b) ≡ false → b ≡ false
or_right false b e = e
or_right true b e = absurd (true≢false e)

module _ {H : Type 0} (bits : ℕ) (old : Ledger H) (m : Records) (fields : List Field) (trees : List AttributeTrees) (root : ℕ) (plan : PlanView) (a : AttributeTrees)
    (holds : HoldsAttributes bits old m fields trees root) (way : IsUnderWay bits root old m trees plan) (at : slice_get trees plan.place.stage.field ≡ Some a) where
  abbrev before : List Part
  before = entries (root_entries root) ∷ parts_of trees

  begun_owns : Owns (record old { unit = true }) m before
  begun_owns = record { each = λ r. holds.owns.each r }

  begun_refer : AllReferBeside (record old { unit = true }) m trees before
  begun_refer = all_weaker old (record old { unit = true }) m trees before before holds.refer (λ r less. less)

  one_few : (r : ℕ) → count_in r m (part_of a ∷ []) ≤ count_in r m before
  one_few r = let e = count_at trees plan.place.stage.field a m r at in omega arith

  pub meets_move : IsSettled old m → MeetsMove bits (record old { unit = true }) m a plan
  meets_move settled = record {
    unit = refl;
    begun = record { each = λ r used. ap (λ (s : ℕ → Status). in_use (s r)) settled.back ∙ used };
    sealed = way.sealed;
    field = AllByRecursion-slice_get (IsFieldAt m) trees plan.place.stage.field a holds.are_fields.each at;
    owns = owns-some (record old { unit = true }) m before (part_of a ∷ []) begun_owns one_few;
    refers = refers_some a.kind (record old { unit = true }) m a.documents a.dictionary before (part_of a ∷ [])
        (AllByRecursion-slice_get (RefersAt (record old { unit = true }) m before) trees plan.place.stage.field a begun_refer at) one_few;
    cleared = way.cleared plan.place.stage.field a at;
  }

  -- after begin
  pub meets_begun : IsSettled old m → (begun : Ledger H) (k : Records) → begun ≡ record old { unit = true } → k ≡ m → MeetsMove bits begun k a plan
  meets_begun settled begun k begins records = subst (λ (l : Ledger H). MeetsMove bits l k a plan) (sym begins)
      (subst (λ (f : Records). MeetsMove bits (record old { unit = true }) f a plan) (sym records) (meets_move settled))

  -- ---- the key was moved, and the unit accepted
  module _ {clean : Type 0} (laws : FieldLaws) (stays : StayLeavesCleared) (others : OthersStayCleared) (mid new : Ledger H) (n o : Records) (key : PlanKey) (b : AttributeTrees) (type : b.type ≡ a.type)
      (few : plan.place.stage.phase < PHASES) (next : key_past plan.place.key (keys_at m a plan.place.stage.phase) ≡ Some key)
      (part : MovesPart bits plan.victim clean (record old { unit = true }) mid m n a b)
      (cleared : IsClearedField bits plan.victim (record { stage = plan.place.stage; key = key }) plan.place.stage.field n b)
      (accepts : Accepts mid new n o) (keeps : KeepsStore old new) where
    abbrev i : ℕ
    i = plan.place.stage.field

    abbrev after : List AttributeTrees
    after = set trees i b

    abbrev place : PlanPlace
    place = record { stage = plan.place.stage; key = key }

    apart_stays : (j : ℕ) (c : AttributeTrees) → j ≢ i → slice_get trees j ≡ Some c → SameAt ((part_of c).reach m) m n
    apart_stays = other_stays laws bits plan.victim (record old { unit = true }) mid m n fields trees root i a b at holds.are_fields begun_owns begun_refer part

    parts_stay : AllStay (parts_of after) n o
    parts_stay = all_stay laws bits plan.victim (record old { unit = true }) mid m n fields trees root i a b at holds.are_fields begun_owns begun_refer part new o accepts

    mid_each : AllByRecursion (IsFieldAt n) after
    mid_each = (mid_are laws bits plan.victim (record old { unit = true }) mid m n fields trees root i a b at holds.are_fields begun_owns begun_refer part).each

    one_stays : (list : List AttributeTrees) → AllStay (parts_of list) n o → (j : ℕ) (c : AttributeTrees) → slice_get list j ≡ Some c → SameAt ((part_of c).reach n) n o
    one_stays [] stay j c there = cc
    one_stays (x ∷ list) stay zero c there = subst (λ (y : AttributeTrees). SameAt ((part_of y).reach n) n o) (same_Some x c there) stay.0
    one_stays (x ∷ list) stay (suc j) c there = one_stays list stay.1 j c there

    is_b : (j : ℕ) (c : AttributeTrees) → j ≡ i → slice_get after j ≡ Some c → b ≡ c
    is_b j c e there = same_Some b c (sym (get_set-same trees i a b at) ∙ ap (slice_get after) (sym e) ∙ there)

    was : (j : ℕ) (c : AttributeTrees) → j ≢ i → slice_get after j ≡ Some c → slice_get trees j ≡ Some c
    was j c apart there = sym (slice_get-set_other trees i j b apart) ∙ there

    -- in the unit
    mid_cleared : IsCleared bits plan.victim place n after
    mid_cleared j c there = elim (cases_eq j i) [
      | inl e ↦ subst (λ (f : ℕ). IsClearedField bits plan.victim place f n c) (sym e)
          (subst (λ (d : AttributeTrees). IsClearedField bits plan.victim place i n d) (is_b j c e there) cleared)
      | inr apart ↦ (let here = was j c apart there in
          let is = AllByRecursion-slice_get (IsFieldAt m) trees j c holds.are_fields.each here in
          stays bits plan.victim j place m n c is (apart_stays j c apart here) (others bits plan.victim j plan.place key m c is (λ e. apart (sym e)) (way.cleared j c here)))
    ]

    new_cleared : IsCleared bits plan.victim place o after
    new_cleared j c there = stays bits plan.victim j place n o c (AllByRecursion-slice_get (IsFieldAt n) after j c mid_each there) (one_stays after parts_stay j c there) (mid_cleared j c there)

    mid_keys : (j : ℕ) (c d : AttributeTrees) → slice_get trees j ≡ Some c → slice_get after j ≡ Some d → KeepsKeys m n c d
    mid_keys j c d here there = elim (cases_eq j i) [
      | inl e ↦ (let first : a ≡ c = same_Some a c (sym at ∙ ap (slice_get trees) (sym e) ∙ here) in
          subst (λ (x : AttributeTrees). KeepsKeys m n x d) first (subst (λ (y : AttributeTrees). KeepsKeys m n a y) (is_b j d e there) part.keys))
      | inr apart ↦ (let same : c ≡ d = same_Some c d (sym here ∙ was j d apart there) in
          subst (λ (y : AttributeTrees). KeepsKeys m n c y) same (keeps_stay m n c (apart_stays j c apart here)))
    ]

    typed : IfSome (slice_get after i) (λ c. HasType c.type key)
    typed = subst (λ o. IfSome o (λ (c : AttributeTrees). HasType c.type key)) (sym (get_set-same trees i a b at))
        (subst (λ (t : ValueType). HasType t key) (sym type) (next_fits m a plan.place key few next).0)

    pub unit_compacts : (copied : Bool) → (copied ≡ false → clean) → (copied ≡ false → plan.copied ≡ false) → CompactsTo bits new m o fields trees after root (record { victim = plan.victim; fields = plan.fields; place = place; copied = copied })
    unit_compacts copied is_clean was_none = record {
      holds = new_holds laws bits plan.victim (record old { unit = true }) mid m n fields trees root i a b at holds.are_fields begun_owns begun_refer part new o accepts old way.sealed
          (λ r. refl) holds.owns keeps.sealed (keeps.unit ∙ holds.unit) (keeps.finished ∙ way.unfinished);
      under_way = record {
        sealed = ap (λ (s : ℕ → Bool). s plan.victim) keeps.sealed ∙ way.sealed;
        unfinished = keeps.finished ∙ way.unfinished;
        all = way.all ∙ sym (set_length trees i b);
        typed = typed;
        cleared = new_cleared;
        whole = λ none. new_owned laws bits plan.victim (record old { unit = true }) mid m n fields trees root i a b at holds.are_fields begun_owns begun_refer part new o accepts old way.sealed
            (λ r. refl) holds.owns keeps.sealed (is_clean none) keeps.left (way.whole (was_none none));
      };
      table = new_table laws bits plan.victim (record old { unit = true }) mid m n fields trees root i a b at holds.are_fields begun_owns begun_refer part new o accepts;
      keys = all_keep m o trees after (set_length trees i b) (λ j c d here there. one_keeps_then m n o c d d (mid_keys j c d here there) (keeps_stay n o d (one_stays after parts_stay j d there)));
    }

-- ---- what the move says, as of the state before the unit
key_lies : (bits victim dictionary : ℕ) (m : Records) (left : List ℕ) → AllByRecursion (IsKeyIn bits victim m dictionary) left → (r : ℕ) → Among r left → buffer_of bits r ≡ victim
key_lies bits victim dictionary m [] all r among = absurd among
key_lies bits victim dictionary m (q ∷ left) all r (inl e) = ap (buffer_of bits) e ∙ all.0.lies
key_lies bits victim dictionary m (q ∷ left) all r (inr later) = key_lies bits victim dictionary m left all.1 r later

-- the index is of the same form, since it has the same lists
form_moved : (m n : Records) (a b : AttributeTrees) → b.kind ≡ a.kind → b.type ≡ a.type → IsFieldAt m a → IsField a.kind a.type n b.documents b.dictionary
    → column_at a.kind a.type n b.documents ≡ column_at a.kind a.type m a.documents → (IsPlainIndex m a.dictionary → IsPlainIndex n b.dictionary) → (dense : Bool)
    → IsOfFormAt dense m a → IsOfFormAt dense n b
form_moved m n a b kind type was now column plain dense is =
    subst (λ (k : Kind). IsOfForm (wants dense k) b.type n b.dictionary) (sym kind)
    (subst (λ (t : ValueType). IsOfForm (wants dense a.kind) t n b.dictionary) (sym type)
    (record {
      ones = λ wanted value. subst AreOnes (sym (same value)) (is.ones wanted value);
      plain = λ off. plain (is.plain off);
    }))
  where
    same : (value : Value) → list_of value (index_of a.type n b.dictionary) ≡ list_of value (index_of a.type m a.dictionary)
    same value = now.index_of_documents.lists value ∙ ap (documents_with value) column ∙ sym (was.index_of_documents.lists value)

part_moved : {H : Type 0} {clean : Type 0} (bits victim : ℕ) (old mid : Ledger H) (m n : Records) (a b : AttributeTrees) → b.kind ≡ a.kind → b.type ≡ a.type → IsFieldAt m a
    → (moves : MovesField bits victim a.kind a.type old mid m n a.documents a.dictionary b.documents b.dictionary)
    → (clean → moves.left ≡ []) → MovesPart bits victim clean old mid m n a b
part_moved bits victim old mid m n a b kind type was moves none = record {
  left = moves.left;
  left_none = none;
  left_in = key_lies bits victim a.dictionary m moves.left moves.left_in;
  is_field = subst (λ (k : Kind). IsField k b.type n b.documents b.dictionary) (sym kind)
      (subst (λ (t : ValueType). IsField a.kind t n b.documents b.dictionary) (sym type) moves.field_is);
  column_is = ap (λ (k : Kind). column_at k b.type n b.documents) kind ∙ ap (λ (t : ValueType). column_at a.kind t n b.documents) type ∙ moves.column_is;
  refers = λ r among. moves.refers r (subst (λ (k : Kind). Among r (documents_refer k n b.documents)) kind among);
  keys = record {
    keys = λ phase. ap (λ (t : ValueType). phase_keys t n b.documents b.dictionary phase) type ∙ moves.keys_are phase;
    plain = moves.plain;
    form = form_moved m n a b kind type was moves.field_is moves.column_is moves.plain;
  };
  turns = subst (λ (k : Kind). Turns old mid m n (part_of a ∷ []) (field_part k b.documents b.dictionary ∷ entries moves.left ∷ [])) (sym kind) moves.turns;
}

pub part_begun : {H : Type 0} {clean : Type 0} (bits victim : ℕ) (old begun mid : Ledger H) (m k n : Records) (a b : AttributeTrees) → b.kind ≡ a.kind → b.type ≡ a.type
    → begun ≡ record old { unit = true } → k ≡ m → IsFieldAt k a
    → (moves : MovesField bits victim a.kind a.type begun mid k n a.documents a.dictionary b.documents b.dictionary)
    → (clean → moves.left ≡ []) → MovesPart bits victim clean (record old { unit = true }) mid m n a b
part_begun {H} {clean} bits victim old begun mid m k n a b kind type begins records was moves none =
    subst (λ (l : Ledger _). MovesPart bits victim clean l mid m n a b) begins
    (subst (λ (f : Records). MovesPart bits victim clean begun mid f n a b) records (part_moved bits victim begun mid k n a b kind type was moves none))

-- ---- the width of a full store
-- a record of it was in use as the unit began, and so it is again: it lies in an active buffer
pub active_begun : {H : Type 0} (bits : ℕ) (old begun mid new : Ledger H) (m k o : Records) (e : StoreError) → begun ≡ record old { unit = true } → k ≡ m
    → ((r : ℕ) → (has_record (old.status r) ≡ true) ↔ (0 < length (m r))) → o ≡ m
    → ((r : ℕ) → 0 < length (o r) → FitsEntry bits new.work.sizes (active_width (new.work.buffer (buffer_of bits r))) r (length (o r)))
    → RefusesOf (IsUsedWidth begun k) begun mid e → HasActive new e
active_begun bits old begun mid new m k o (Full width active held oldest) begins records recorded left placed refuses =
    let ref : ℕ = refuses.one.ref in
    let used : in_use (old.status ref) ≡ true = subst (λ (l : Ledger _). in_use (l.status ref) ≡ true) begins refuses.one.used in
    let some = (recorded ref).0 (used_has (old.status ref) used) in
    let same = ap (λ (f : Records). length (f ref)) left in
    let was = ap (λ (f : Records). length (f ref)) records in
    let fits = placed ref (omega arith) in
    record { buffer = buffer_of bits ref; inside = fits.entry.inside; active = sym fits.whole ∙ same ∙ sym was ∙ refuses.one.length_is }
active_begun bits old begun mid new m k o Memory begins records recorded left placed refuses = tt

-- ---- what a full store has to spare
few_below : (width w : ℕ) → by_width most_nodes (one_record width) w < 34
few_below width w = told (nat_eq w 34) (nat_eq w width)
  where
    told : (t u : Bool) → cond t 27 (cond u 1 0) < 34
    told true u = omega arith
    told false true = omega arith
    told false false = omega arith

pub spares_begun : {H : Type 0} {plain : Type 0} (among : ℕ → Type 0) (kind : Kind) (type : ValueType) (column : Column) (old begun mid new : Ledger H) → begun ≡ record old { unit = true }
    → MakesKey plain kind type column begun mid → (m o : Records) (e : StoreError) → IsSettled old m → RefusesOf among begun mid e → Undoes mid new o → SparesBelow new 34 e
spares_begun among kind type column old begun mid new begins made m o (Full w active held oldest) settled refuses undoes =
    let spare = spares_among old begun mid new (by_width most_nodes (one_record made.width)) begins made.counts among m o (Full w active held oldest) settled refuses undoes in
    let few = few_below made.width w in
    omega (arith, spare, few)
spares_begun among kind type column old begun mid new begins made m o Memory settled refuses undoes = tt
