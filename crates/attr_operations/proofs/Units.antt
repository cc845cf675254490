-- A unit from before its begin to its end.
use Rattle.std.proofs.Common.{◌≡◌, ◌↔◌, Bool, ℕ, ◌*◌, ◌<◌, ◌≤◌, List, [], ◌∷◌, true, false, Option, inl, inr, true≢false, refl, sym, ap, ap₂, subst, ◌∙◌, arith}
use Rattle.std.specs.List.{AllByRecursion, AllZip}
use Rattle.entry_ref.specs.References.{buffer_of}
use Rattle.entry_ref.specs.Records.{Records}
use Rattle.arena_api.specs.Works.{WorkView}
use Rattle.store_api.specs.Calls.{Accepts, EndsOf, Undoes, IsFull, RefusesOf}
use Rattle.store_api.specs.Ledgers.{Ledger, IsSettled, capacity}
use Rattle.store_api.specs.Parts.{Part, After, AllStay, count_in, entries, uses}
use Rattle.store_api.specs.Statuses.{Status, after_accept, in_use, is_free_status}
use Rattle.store_api.specs.Units.{MayDo, KeepsCommits, IsSameBack}
use Rattle.store_api.specs.declared.store.StoreError.{StoreError}
use Rattle.store_api.specs.declared.store.StoreError.TheVariants.{Full, Memory}
use Rattle.store_api.proofs.PartLemmas.{count-stays}
use Rattle.store_api.proofs.Uses.{accept_uses, uses-in}
use Rattle.store_api.proofs.UnitLemmas.{unit-accepts, accept-stays, turns-accept}
use Rattle.image_format.specs.Tables.{AttributeTrees, HaveSameDocuments, columns_at, table_of_columns}
use Rattle.attr_types.specs.Value.{Document}
use Rattle.attr_types.specs.declared.field.Field.{Field}
use Rattle.index_model.specs.Columns.{Column}
use Rattle.attr_operations.specs.Calls.{KeepsStore, LeavesEntries, IsOutOfRoom, RefusesUnit}
use Rattle.attr_operations.specs.Fields.{AllReferBeside, AreFields, ChangesFields, FlowsTrees, HaveForms, IsFieldAt, OwnsFields, parts_of, table_with}
use Rattle.attr_operations.specs.Views.{table_at}
use Rattle.attr_operations.specs.Widths.{IsFullAmong}
use Rattle.attr_operations.proofs.Columns.{FieldLaws}
use Rattle.attr_operations.proofs.Flowing.{all_began, all_step, step_stays}
use Rattle.attr_operations.proofs.Referring.{AreSame, all_moved, all_weaker, each_same, forms_same}

-- ---- attributes that are the same in other records
module _ (m n : Records) where
  each_stays : (trees : List AttributeTrees) → AreSame m n trees → AllByRecursion (IsFieldAt n) trees
  each_stays [] same = tt
  each_stays (a ∷ trees) same = (same.0.field_is, each_stays trees same.1)

  pub columns_stay : (trees : List AttributeTrees) → AreSame m n trees → columns_at n trees ≡ columns_at m trees
  columns_stay [] same = refl
  columns_stay (a ∷ trees) same = ap₂ (λ (c : Column) (cs : List Column). c ∷ cs) same.0.column_is (columns_stay trees same.1)

  pub fields_stay : (fields : List Field) (trees : List AttributeTrees) → AreFields m fields trees → AreSame m n trees → AreFields n fields trees
  fields_stay fields trees are same = record {
    some = are.some;
    sized = are.sized;
    each = each_stays trees same;
    documents = subst HaveSameDocuments (sym (columns_stay trees same)) are.documents;
  }

  pub table_stays : (trees : List AttributeTrees) → AreSame m n trees → table_at n trees ≡ table_at m trees
  table_stays trees same = ap table_of_columns (columns_stay trees same)

-- ---- the store after a unit, however it ended
pub keeps_unit : {H : Type 0} (old mid new : Ledger H) → old.unit ≡ false → MayDo (record old { unit = true }) mid → new.unit ≡ false → new.work ≡ mid.work
    → new.shape ≡ mid.shape → new.sealed ≡ mid.sealed → new.finished ≡ mid.finished → ((r : ℕ) → new.status r ≡ Status.left → old.status r ≡ Status.left) → KeepsStore old new
keeps_unit old mid new none may unit work shape sealed finished left = record {
  unit = unit ∙ sym none;
  home = ap (λ w. w.home) work ∙ may.home;
  shape = shape ∙ may.shape;
  sizes = ap (λ w. w.sizes) work ∙ may.sizes;
  commits = subst (λ (w : WorkView _). KeepsCommits old.work.commits w.commits) (sym work) may.commits;
  told = ap (λ w. w.told) work ∙ may.told;
  readers = ap (λ w. w.made) work ∙ may.readers;
  stops = subst (λ (w : WorkView _). old.work.stops ≤ w.stops) (sym work) may.stops;
  alone = λ made. ap (λ w. w.stops) work ∙ may.alone made;
  sealed = sealed ∙ may.sealed;
  finished = finished ∙ may.finished;
  left = left;
}

-- it leaves nothing out
free_left : Status.free ≡ Status.left → ⊥
free_left is = true≢false (ap is_free_status is)

accept_left : (status : Status) → after_accept status ≡ Status.left → status ≡ Status.left
accept_left Status.unmade is = is
accept_left Status.free is = is
accept_left Status.pending is = is
accept_left Status.live is = is
accept_left Status.dropped is = is
accept_left Status.let_go is = absurd (free_left is)
accept_left (Status.held tag) is = is
accept_left Status.left is = is

back_left : (old new : Status) → IsSameBack old new → new ≡ Status.left → old ≡ Status.left
back_left old new (inl same) is = sym same ∙ is
back_left old new (inr freed) is = absurd (free_left (sym freed.1 ∙ is))

module _ {H : Type 0} (old mid new : Ledger H) (m n o : Records) (settled : IsSettled old m) (may : MayDo (record old { unit = true }) mid) where
  was_left : (r : ℕ) → mid.back r ≡ Status.left → old.status r ≡ Status.left
  was_left r is = ap (λ (f : ℕ → Status). f r) (sym settled.back) ∙ back_left (old.back r) (mid.back r) (may.back r) is

  pub none_left_accepted : ((r : ℕ) → (mid.status r ≡ Status.left) ↔ (mid.back r ≡ Status.left)) → Accepts mid new n o → (r : ℕ) → new.status r ≡ Status.left → old.status r ≡ Status.left
  none_left_accepted stays accepts r is = was_left r ((stays r).0 (accept_left (mid.status r) (sym (accepts.status r) ∙ is)))

  pub none_left_undone : Undoes mid new o → (r : ℕ) → new.status r ≡ Status.left → old.status r ≡ Status.left
  none_left_undone undoes r is = was_left r (ap (λ (f : ℕ → Status). f r) (sym undoes.status) ∙ is)

out_of_room : {H : Type 0} (old mid : Ledger H) (width active held : ℕ) (oldest : _) (work : WorkView H) → work ≡ mid.work
    → Rattle.store_api.specs.Ledgers.is_width width ≡ true → IsFull (record old { unit = true }) mid width active held oldest
    → IsOutOfRoom old (record mid { work = work }) width active held oldest
out_of_room old mid width active held oldest work same is full =
    subst (λ w. IsOutOfRoom old (record mid { work = w }) width active held oldest) (sym same) (record {
      is_width_of = is;
      free = full.free;
      active_is = full.active_is;
      held_is = full.held_is;
      all = full.all;
      unread = full.unread;
      generation = full.generation;
      hold = full.hold;
      newest = full.newest;
      stopped = full.stopped;
      made = full.made;
      found = full.found;
    })

-- what it says of the store is said of its work
of_work : {H : Type 0} (old mid new : Ledger H) (width active held : ℕ) (oldest : _) → ((w : ℕ) → EndsOf (mid.of_width w) (new.of_width w))
    → IsOutOfRoom old (record mid { work = new.work }) width active held oldest → IsOutOfRoom old new width active held oldest
of_work old mid new width active held oldest ends room = record {
  made =
      let e = ends width in
      let same : (new.of_width width).buffers * capacity new.work.sizes.words width ≡ (mid.of_width width).buffers * capacity new.work.sizes.words width =
      ap (λ n. n * capacity new.work.sizes.words width) e.buffers in
      omega (arith, room.made, same, e.made);
  found = room.found;
  is_width_of = room.is_width_of;
  free = room.free;
  active_is = room.active_is;
  held_is = room.held_is;
  all = room.all;
  unread = room.unread;
  generation = room.generation;
  hold = room.hold;
  newest = room.newest;
  stopped = room.stopped;
}

pub refused_among : {H : Type 0} (among : ℕ → Type 0) (old mid new : Ledger H) (e : StoreError) → new.work ≡ mid.work → ((w : ℕ) → EndsOf (mid.of_width w) (new.of_width w))
    → RefusesOf among (record old { unit = true }) mid e → RefusesUnit old new e
refused_among among old mid new (Full width active held oldest) same ends refuses =
    of_work old mid new width active held oldest ends (out_of_room old mid width active held oldest new.work same refuses.is refuses.full)
refused_among among old mid new Memory same ends refuses = tt

-- for which width
pub full_among : {H : Type 0} (among : ℕ → Type 0) (begun mid : Ledger H) (e : StoreError) → RefusesOf among begun mid e → IsFullAmong among e
full_among among begun mid (Full width active held oldest) refuses = refuses.one
full_among among begun mid Memory refuses = tt

pub left_unit : {H : Type 0} (old mid new : Ledger H) (m o : Records) → IsSettled old m → MayDo (record old { unit = true }) mid → Undoes mid new o → LeavesEntries old new m o
left_unit old mid new m o settled may undoes = record {
  status = λ r. subst (λ s. IsSameBack s (new.status r)) (ap (λ (f : ℕ → Status). f r) settled.back)
      (subst (λ s. IsSameBack (old.back r) s) (ap (λ (f : ℕ → Status). f r) (sym undoes.status)) (may.back r));
  records = undoes.records ∙ may.back_records ∙ settled.back_records;
}

-- ---- a unit that is accepted
module _ (laws : FieldLaws) {H : Type 0} (old begun mid new : Ledger H) (m k n o : Records) (fields : List Field) (trees next : List AttributeTrees) (doc : ℕ) (document : Option Document)
    (begins : begun ≡ record old { unit = true }) (records : k ≡ m) (owns : OwnsFields old m trees) where
  same_uses : (r : ℕ) → uses begun r ≡ uses old r
  same_uses r = ap (λ (l : Ledger H). uses l r) begins

  same_count : (r : ℕ) → count_in r k (parts_of trees) ≡ count_in r m (parts_of trees)
  same_count r = ap (λ (f : Records). count_in r f (parts_of trees)) records

  begun_refer : (p : List Part) → AllReferBeside old m trees p → AllReferBeside begun k trees p
  begun_refer p refer = subst (λ (f : Records). AllReferBeside begun f trees p) (sym records) (all_weaker old begun m trees p p refer (λ r less. let same = same_uses r in omega arith))

  pub begun_owns : OwnsFields begun k trees
  begun_owns = record {
    owns = record { each = λ r. let each = owns.owns.each r in let same = same_uses r in let count = same_count r in omega arith };
    refer = begun_refer (parts_of trees) owns.refer;
  }

  module _ (may : MayDo begun mid) (changes : ChangesFields fields begun mid k n trees doc document next) (accepts : Accepts mid new n o) where
    whole : After old new m o (parts_of trees) (parts_of next) []
    whole = unit-accepts old begun mid new m k n o (parts_of trees) (parts_of next) owns.owns begins records changes.turns accepts

    stay : AllStay (parts_of next) n o
    stay = accept-stays old begun mid new m k n o (parts_of trees) (parts_of next) owns.owns begins records changes.turns accepts

    abbrev beside_none : List AttributeTrees → List Part
    beside_none these = entries [] ∷ parts_of these

    -- what the unit made refers to keys, and to old copies that were there before it
    mid_refer : AllReferBeside mid n next (beside_none next)
    mid_refer = changes.refer [] (begun_refer (beside_none trees) (all_weaker old old m trees (parts_of trees) (beside_none trees) owns.refer (λ r less. omega arith)))

    copies_stay : (r : ℕ) → count_in r n (beside_none next) < uses mid r → o r ≡ n r
    copies_stay r less =
        let t = changes.turns.balance r in
        let same = same_uses r in
        let count = same_count r in
        whole.turns.kept r (omega arith) ∙ sym (ap (λ (f : Records). f r) records) ∙ sym (changes.turns.kept r (omega arith))

    are_same : AreSame n o next
    are_same = each_same laws mid n o next (beside_none next) changes.are_fields.each mid_refer stay copies_stay

    pub unit_forms : (dense : Bool) → HaveForms dense n next → HaveForms dense o next
    unit_forms dense forms = forms_same dense n o next are_same forms

    pub unit_changes : ChangesFields fields old new m o trees doc document next
    unit_changes = record {
      are_fields = fields_stay n o fields next changes.are_fields are_same;
      table_is = table_stays n o next are_same ∙ changes.table_is ∙ ap (λ (f : Records). table_with (table_at f trees) doc document) records;
      turns = whole.turns;
      owns = whole.owns;
      refer = λ others all. all_moved mid new n o next (entries others ∷ parts_of next) (entries others ∷ parts_of next) are_same
          (changes.refer others (begun_refer (entries others ∷ parts_of trees) all))
          (λ r less.
          let one = changes.turns.balance r in
          let two = whole.turns.balance r in
          let same = same_uses r in
          let count = same_count r in
          let stays = count-stays (parts_of next) n o r stay in
          omega arith);
      flows = subst (λ (f : Records). AllZip (FlowsTrees old f o) trees next) records (all_began begun old k o trees next (ap (λ (l : Ledger H). l.back) begins)
          (all_step begun mid k n o trees next next may changes.flows refl (step_stays mid n o next stay)));
      unsealed = record {
        each = λ r used sealed.
            let was : in_use (mid.status r) ≡ true = sym (accept_uses (mid.status r)) ∙ sym (ap in_use (accepts.status r)) ∙ used in
            sym (ap (λ (l : Ledger H). in_use (l.status r)) begins)
            ∙ changes.unsealed.each r was (ap (λ (l : Ledger H). l.sealed (buffer_of l.bits r)) begins ∙ sealed);
      };
      words = record {
        each = λ r began used.
            let was : in_use (mid.status r) ≡ true = sym (accept_uses (mid.status r)) ∙ sym (ap in_use (accepts.status r)) ∙ used in
            let here : in_use (begun.back r) ≡ true = ap (λ (l : Ledger H). in_use (l.back r)) begins ∙ began in
            (turns-accept mid new n o accepts).kept r (let is = uses-in mid r was in omega arith)
            ∙ changes.words.each r here was
            ∙ ap (λ (f : Records). f r) records;
      };
    }
