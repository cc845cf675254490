-- A compaction that is begun or goes on, and what a walk and its end make of it.
use Rattle.std.proofs.Common.{◌≡◌, ◌≢◌, ℕ, ◌≤◌, Bool, true, false, cond, nat_eq, List, ◌∷◌, length, Option, None, Some, Greater, inl, true≢false, refl, sym, ap, ap₂, subst, ◌∙◌, arith}
use Rattle.std.proofs.lemmas.Bool.{eqb-true, eqb-false}
use Rattle.std.specs.Prelude.{slice_get}
use Rattle.std.specs.Option.{IfSome}
use Rattle.store_api.proofs.May.{back-then}
use Rattle.entry_ref.specs.References.{buffer_of}
use Rattle.entry_ref.specs.Records.{Records, Among}
use Rattle.store_api.specs.Calls.{CanUnseal, Seals, Unseals}
use Rattle.store_api.specs.Statuses.{Status}
use Rattle.store_api.specs.Ledgers.{Ledger, OfWidth, is_this}
use Rattle.store_api.specs.Victims.{IsVictim}
use Rattle.store_api.specs.declared.store.StoreError.{StoreError}
use Rattle.attr_compaction.specs.Places.{first_place, place_cmp, PlanPlace, PlanView}
use Rattle.attr_compaction.specs.declared.plan.PlanKey.TheVariants.{Start}
use Rattle.image_format.specs.Tables.{AttributeTrees, attributes_reach}
use Rattle.attr_types.specs.declared.field.Field.{Field}
use Rattle.attr_operations.proofs.Referring.{all_weaker}
use Rattle.attr_operations.proofs.StepLemmas.{keeps_same, leaves_same}
use Rattle.attr_operations.specs.Calls.{KeepsStore, LeavesEntries}
use Rattle.array_store.specs.Roots.{root_entries}
use Rattle.attr_operations.specs.Fields.{HoldsAttributes, parts_of}
use Rattle.attr_operations.specs.Views.{table_at}
use Rattle.store_api.specs.Parts.{count_in, entries, uses}
use Rattle.compaction_steps.specs.Units.{IsUnderWay}
use Rattle.attr_compaction.specs.PhaseKeys.{HasType}
use Rattle.attr_compaction.specs.Counts.{keys_between}
use Rattle.compaction_steps.specs.StepsLaws.{FirstIsCleared}
use Rattle.compaction_steps.proofs.WalkLemmas.{keeps_then, refused_since}
use Rattle.compaction_steps.proofs.KeyCounts.{rises_none, rises_sealed}
use Rattle.compaction_steps.specs.Compactions.{Empties, GoesTo, IsUnderPlan, KeepsStoreBut, OpensPlan, RefusesStep, Went}
use Rattle.compaction_steps.specs.Walks.{HasLastField, IsOver, RefusesFirst, RefusesNext, Stops, Visits}

-- ---- a ledger with other buffers sealed or finished
module _ {H : Type 0} (bits : ℕ) (old : Ledger H) (m : Records) (fields : List Field) (trees : List AttributeTrees) (root : ℕ) (s : ℕ → Bool) (w : ℕ → OfWidth) (f : Option ℕ) where
  abbrev other : Ledger H
  other = record old { sealed = s; of_width = w; finished = f }

  pub holds_with : ((b : ℕ) → s b ≡ false → old.sealed b ≡ false) → ((r : ℕ) → Among r (attributes_reach m trees) → is_this f (buffer_of bits r) ≡ false)
      → HoldsAttributes bits old m fields trees root → HoldsAttributes bits other m fields trees root
  holds_with fewer apart holds = record {
    are_fields = holds.are_fields;
    owns = record { each = holds.owns.each; all = λ r e. holds.owns.all r (fewer (buffer_of bits r) e) };
    refer = all_weaker old other m trees (entries (root_entries root) ∷ parts_of trees) (entries (root_entries root) ∷ parts_of trees) holds.refer (λ r less. less);
    unit = holds.unit;
    apart = apart;
  }

  pub keeps_with : KeepsStoreBut old other
  keeps_with = record {
    unit = refl;
    home = refl;
    shape = refl;
    sizes = refl;
    commits = (keeps_same old).commits;
    told = refl;
    readers = refl;
    stops = omega arith;
    alone = λ none. refl;
    sealed = refl;
    finished = refl;
    left = λ r is. is;
  }

pub but_then : {H : Type 0} (a b c : Ledger H) → KeepsStoreBut a b → KeepsStore (record b { sealed = a.sealed; finished = a.finished }) (record c { sealed = a.sealed; finished = a.finished })
    → KeepsStoreBut a c
but_then a b c one two = keeps_then a (record b { sealed = a.sealed; finished = a.finished }) (record c { sealed = a.sealed; finished = a.finished }) one two

pub but_kept : {H : Type 0} (a b c : Ledger H) → KeepsStore b c → KeepsStore (record b { sealed = a.sealed; finished = a.finished }) (record c { sealed = a.sealed; finished = a.finished })
but_kept a b c keeps = record {
  unit = keeps.unit;
  home = keeps.home;
  shape = keeps.shape;
  sizes = keeps.sizes;
  commits = keeps.commits;
  told = keeps.told;
  readers = keeps.readers;
  stops = keeps.stops;
  alone = keeps.alone;
  sealed = refl;
  finished = refl;
  left = keeps.left;
}

pub leaves_then : {H : Type 0} (a b c : Ledger H) (m k n : Records) → LeavesEntries a b m k → LeavesEntries b c k n → LeavesEntries a c m n
leaves_then a b c m k n one two = record {
  status = λ r. back-then (a.status r) (b.status r) (c.status r) (one.status r) (two.status r);
  records = two.records ∙ one.records;
}

-- ---- it goes on, or is begun
typed_first : (o : Option AttributeTrees) → IfSome o (λ (a : AttributeTrees). HasType a.type Start)
typed_first None = tt
typed_first (Some a) = tt

module _ {H : Type 0} (bits root : ℕ) (old : Ledger H) (m : Records) (fields : List Field) (trees : List AttributeTrees) (holds : HoldsAttributes bits old m fields trees root) where
  pub opens_going : (plan : PlanView) → IsUnderWay bits root old m trees plan → HasLastField plan → OpensPlan bits root old old m m fields trees (Some plan) plan
  opens_going plan under_way last = record {
    under = record { victim = refl; all = refl; sealed = refl };
    place = refl;
    keeps = keeps_same old;
    counts = rises_none old (λ w. 0);
    left = leaves_same old m;
    holds = holds;
    under_way = under_way;
    last = last;
  }

  module _ (first : FirstIsCleared) (mid : Ledger H) (victim count : ℕ) (seals : Seals old mid victim) (is : IsVictim bits old victim) (unfinished : old.finished ≡ None) (count_is : count ≡ length fields)
      (left_out : (r : ℕ) → old.status r ≡ Status.left → old.sealed (buffer_of bits r) ≡ true) where
    abbrev begun : PlanView
    begun = record { victim = victim; fields = count; place = first_place; copied = false }

    own : (b : ℕ) → nat_eq b b ≡ true
    own b = by (nat_eq b b) refl
      where
        by : (t : Bool) → nat_eq b b ≡ t → nat_eq b b ≡ true
        by true e = e
        by false e = absurd (eqb-false b b e refl)

    fewer_by : (t u : Bool) → cond t true u ≡ false → u ≡ false
    fewer_by true u e = absurd (true≢false e)
    fewer_by false u e = e

    opens_here : OpensPlan bits root old (record old { sealed = mid.sealed; of_width = mid.of_width }) m m fields trees None begun
    opens_here = record {
      under = record { unfinished = unfinished; victim = is; all = count_is; sealed = seals.sealed };
      place = refl;
      keeps = keeps_with bits old m fields trees root mid.sealed mid.of_width old.finished;
      counts = let rises = rises_sealed old mid victim seals in record { made = rises.made; buffers = rises.buffers };
      left = record { status = λ r. inl refl; records = refl };
      holds = holds_with bits old m fields trees root mid.sealed mid.of_width old.finished (λ b e. fewer_by (nat_eq b victim) (old.sealed b) (sym (seals.sealed b) ∙ e)) holds.apart holds;
      under_way = record {
        sealed = seals.sealed victim ∙ ap (λ (t : Bool). cond t true (old.sealed victim)) (own victim);
        unfinished = unfinished;
        all = count_is ∙ sym holds.are_fields.sized;
        typed = typed_first (slice_get trees 0);
        cleared = first bits victim m trees holds.are_fields.each;
        whole = λ fresh. record {
          owned = λ r lies. holds.owns.all r (ap old.sealed lies ∙ is.candidate.unsealed);
          none_left = λ r left lies. true≢false (sym (left_out r left) ∙ ap old.sealed lies ∙ is.candidate.unsealed);
        };
      };
      last = record { last = λ over. absurd (omega arith) };
    }

    pub opens_begun : (n : Records) (plan : PlanView) → n ≡ m → plan.victim ≡ victim → plan.fields ≡ count → plan.place ≡ first_place → plan.copied ≡ false → OpensPlan bits root old mid m n fields trees None plan
    opens_begun n plan same v f p c =
        subst (λ (x : PlanView). OpensPlan bits root old mid m n fields trees None x) (λ i. record { victim = sym v i; fields = sym f i; place = sym p i; copied = sym c i })
        (subst (λ (k : Records). OpensPlan bits root old mid m k fields trees None begun) (sym same)
        (subst (λ (l : Ledger H). OpensPlan bits root old l m m fields trees None begun) (sym seals.same) opens_here))

-- ---- the victim is given up
module _ {H : Type 0} (bits root : ℕ) (old : Ledger H) (m : Records) (fields : List Field) (trees : List AttributeTrees) (plan : PlanView)
    (holds : HoldsAttributes bits old m fields trees root) (way : IsUnderWay bits root old m trees plan) (fresh : plan.copied ≡ false) where
  pub can_unseal : CanUnseal bits old plan.victim
  can_unseal = record {
    unit = holds.unit;
    sealed = way.sealed;
    unfinished = λ is. none_some (sym way.unfinished ∙ is);
    none_left = (way.whole fresh).none_left;
  }
    where
      none_some : {v : ℕ} → None ≡ Some v → ⊥
      none_some is = cc

  pub holds_unsealed : (new : Ledger H) → Unseals old new plan.victim → HoldsAttributes bits new m fields trees root
  holds_unsealed new unseals = subst (λ (l : Ledger H). HoldsAttributes bits l m fields trees root) (sym unseals.same) (record {
    are_fields = holds.are_fields;
    owns = record { each = holds.owns.each; all = λ r free. owned r (nat_eq (buffer_of bits r) plan.victim) refl free };
    refer = all_weaker old (record old { sealed = new.sealed; of_width = new.of_width }) m trees (entries (root_entries root) ∷ parts_of trees) (entries (root_entries root) ∷ parts_of trees)
        holds.refer (λ r less. less);
    unit = holds.unit;
    apart = holds.apart;
  })
    where
      owned : (r : ℕ) (t : Bool) → nat_eq (buffer_of bits r) plan.victim ≡ t → new.sealed (buffer_of bits r) ≡ false
          → uses old r ≤ count_in r m (entries (root_entries root) ∷ parts_of trees)
      owned r true is free = (way.whole fresh).owned r (eqb-true (buffer_of bits r) plan.victim is)
      owned r false is free = holds.owns.all r (sym (unseals.sealed (buffer_of bits r) ∙ ap (λ (t : Bool). cond t false (old.sealed (buffer_of bits r))) is) ∙ free)

-- ---- after a walk
module _ {H : Type 0} (bits root : ℕ) (old mid new : Ledger H) (m k n : Records) (fields : List Field) (trees next : List AttributeTrees) (before : Option PlanView) (start plan : PlanView)
    (opens : OpensPlan bits root old mid m k fields trees before start) where
  under_by : (o : Option PlanView) → IsUnderPlan bits (length fields) old mid o start → plan.victim ≡ start.victim → plan.fields ≡ start.fields → new.sealed ≡ mid.sealed → IsUnderPlan bits (length fields) old new o plan
  under_by None under victim all sealed = record {
    unfinished = under.unfinished;
    victim = subst (IsVictim bits old) (sym victim) under.victim;
    all = all ∙ under.all;
    sealed = λ b. ap (λ (s : ℕ → Bool). s b) sealed ∙ under.sealed b ∙ ap (λ (v : ℕ). cond (nat_eq b v) true (old.sealed b)) (sym victim);
  }
  under_by (Some was) under victim all sealed = record { victim = victim ∙ under.victim; all = all ∙ under.all; sealed = sealed ∙ under.sealed }

  module _ (visited : ℕ) (visits : Visits bits root mid new k n fields trees next start plan visited) where
    pub went : Went bits root old new m n fields trees next before plan visited
    went = record {
      under = under_by before opens.under visits.victim visits.all visits.keeps.sealed;
      rises = subst (λ (p : PlanPlace). place_cmp p plan.place ≢ Greater) opens.place visits.rises;
      count = ap₂ (λ (f : Records) (p : PlanPlace). keys_between p plan.place f trees) (sym opens.left.records) (sym opens.place) ∙ visits.count;
      holds = visits.holds;
      table = visits.table ∙ ap (λ (f : Records). table_at f trees) opens.left.records;
      keeps = but_then old mid new opens.keeps (but_kept old mid new visits.keeps);
    }

    pub goes_to : (after : Option PlanView) → after ≡ Some plan → GoesTo bits root old new m n fields trees next before after visited
    goes_to after is = record { plan = plan; plan_is = is; went = went; under_way = visits.under_way; last = visits.last }

  pub refused_then : (error : StoreError) → RefusesNext mid new error → RefusesNext old new error
  refused_then error refused = record { why = refused_since old mid new error opens.keeps.stops refused.why; spare = refused.spare; active = refused.active }

  pub stops_then : (keys visited : ℕ) (stop : Option StoreError) → Stops mid new keys visited stop → Stops old new keys visited stop
  stops_then keys visited None stops = stops
  stops_then keys visited (Some error) stops = record { some = stops.some; few = stops.few; refused = refused_then error stops.refused }

  pub step_refused : (after : Option PlanView) (error : StoreError) → after ≡ Some plan → RefusesFirst bits root mid new k n fields trees next start plan error
      → RefusesStep bits root old new m n fields trees next before after error
  step_refused after error is refuses = record {
    goes = goes_to 0 refuses.visits after is;
    left = leaves_then old mid new m k n opens.left refuses.left;
    trees_are = refuses.trees_are;
    refused = refused_then error refuses.refused;
  }

  -- the emptied buffer is finished
  pub step_over : (after : Option PlanView) (keys buffer : ℕ) (end : Ledger H) (last : Records) → IsOver bits root mid new k n fields trees next start plan keys → after ≡ None
      → buffer ≡ plan.victim → end ≡ record new { finished = Some plan.victim } → last ≡ n → HoldsAttributes bits end last fields next root
      → ((r : ℕ) → Among r (attributes_reach last next) → buffer_of bits r ≢ plan.victim) → Empties bits root old end m last fields trees next before after keys buffer
  step_over after keys buffer end last over gone is ledger records holds apart =
      let w = went over.visited over.visits in
      record {
        plan = plan;
        gone = gone;
        visited = over.visited;
        few = over.few;
        went = record {
          under = under_end before w.under (ap (λ (l : Ledger H). l.sealed) ledger);
          rises = w.rises;
          count = w.count;
          holds = holds;
          table = ap (λ (f : Records). table_at f next) records ∙ w.table;
          keeps = subst (λ (l : Ledger H). KeepsStoreBut old l) (sym ledger) w.keeps;
        };
        over = over.over;
        victim = is;
        finished = ap (λ (l : Ledger H). l.finished) ledger ∙ ap Some (sym is);
        apart = λ r among. subst (λ (b : ℕ). buffer_of bits r ≢ b) (sym is) (apart r among);
      }
    where
      under_end : (o : Option PlanView) → IsUnderPlan bits (length fields) old new o plan → end.sealed ≡ new.sealed → IsUnderPlan bits (length fields) old end o plan
      under_end None under sealed = record { unfinished = under.unfinished; victim = under.victim; all = under.all; sealed = λ b. ap (λ (s : ℕ → Bool). s b) sealed ∙ under.sealed b }
      under_end (Some was) under sealed = record { victim = under.victim; all = under.all; sealed = sealed ∙ under.sealed }

-- ---- the end
module _ {H : Type 0} (bits root : ℕ) (old : Ledger H) (m : Records) (fields : List Field) (trees : List AttributeTrees) (victim : ℕ) where
  this_by : (b : ℕ) → b ≢ victim → is_this (Some victim) b ≡ false
  this_by b apart = by (nat_eq victim b) refl
    where
      by : (t : Bool) → nat_eq victim b ≡ t → nat_eq victim b ≡ false
      by true e = absurd (apart (sym (eqb-true victim b e)))
      by false e = e

  pub holds_finished : ((r : ℕ) → Among r (attributes_reach m trees) → buffer_of bits r ≢ victim) → HoldsAttributes bits old m fields trees root
      → HoldsAttributes bits (record old { finished = Some victim }) m fields trees root
  holds_finished apart holds =
      holds_with bits old m fields trees root old.sealed old.of_width (Some victim) (λ b e. e) (λ r among. this_by (buffer_of bits r) (apart r among)) holds
