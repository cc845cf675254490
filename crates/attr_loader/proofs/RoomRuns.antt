-- What a loading makes, batch by batch, and a full store that is owed to it.
use Rattle.std.proofs.Common.{◌≡◌, ℕ, zero, suc, ◌+◌, ◌-◌, ◌*◌, ◌/◌, ◌<◌, ◌≤◌, Bool, true, false, true≢false, List, [], ◌∷◌, ◌++◌, length, take, refl, sym, ap, ◌∙◌, subst, arith}
use Rattle.std.specs.Prelude.{Result, Ok, Err, IfOk}
use Rattle.std.specs.List.Sorted.{IsStrictlySortedBy}
use Rattle.std.proofs.lemmas.List.Sums.{sum_by-append, sum_by-cons}
use Rattle.arena_api.specs.Works.{Sizes, free_count}
use Rattle.store_api.specs.Ledgers.{Ledger, buffers_in, capacity, is_width, widths}
use Rattle.attr_loader.proofs.Levels.{commits_batches}
use Rattle.attr_loader.proofs.Owed.{full_owed}
use Rattle.attr_loader.proofs.Steps.{start_long, start_made, within_filled}
use Rattle.attr_loader.specs.Laws.{no_steps}
use Rattle.attr_loader.specs.Made.{Steps, after_keys, after_operation, after_root, pairs_of}
use Rattle.attr_loader.specs.Runs.{commits_to, step_keys, weight, IsOwed}
use Rattle.attr_types.specs.Table.{Table, after_op, after_ops}
use Rattle.attr_types.specs.declared.field.Field.{Field}
use Rattle.attr_types.specs.declared.op.Op.{Op}
use Rattle.attribute_kinds.specs.Counts.{operation_values, HasNoVectors}
use Rattle.attribute_kinds.specs.Views.{AttributeView}
use Rattle.attr_loader.proofs.Points.{batch_of, whole}
use Rattle.array_store.specs.Adding.{MakesOneOf}
use Rattle.image_format.specs.Words.{class_of}
use Rattle.attr_operations.specs.Counts.{MakesOperation}
use Rattle.attr_operations.specs.Widths.{IsOperationWidth}
use Rattle.attr_types.specs.Lawful.{OpFits}
use Rattle.compaction_steps.specs.Counts.{MakesKeys}
use Rattle.attr_loader.proofs.RoomSteps.{made_after, made_keys, made_refused, made_root}
use Rattle.attr_loader.specs.Batches.{AddsQuietly, AddsSteps, AppliesRoom, CommitsBatch, CommitsRoom, LoadsRoom, RefusesSteps}
use Rattle.attr_loader.specs.Loading.{commit_point}
use Rattle.attr_loader.specs.Room.{after_values, is_single_long, load_of, values_of, HasMadeNothing, IsMade, IsRefusedBy, LeavesRoom}
use Rattle.attr_loader.specs.declared.batch.Batch.{Batch}
use Rattle.attr_loader.specs.declared.batch.Batch.TheVariants.{Done, Full}

-- ---- the values of operations
pub values_append : (fields : List Field) (table : Table) (xs ys : List Op) → values_of fields table (xs ++ ys) ≡ values_of fields table xs ++ values_of fields (after_ops fields table xs) ys
values_append fields table [] ys = refl
values_append fields table (x ∷ xs) ys = ap (λ ts. operation_values fields table x ∷ ts) (values_append fields (after_op fields table x) xs ys)

pub values_length : (fields : List Field) (table : Table) (ops : List Op) → length (values_of fields table ops) ≡ length ops
values_length fields table [] = refl
values_length fields table (op ∷ ops) = ap suc (values_length fields (after_op fields table op) ops)

pub values_take : (fields : List Field) (table : Table) (ops : List Op) (n : ℕ) → take n (values_of fields table ops) ≡ values_of fields table (take n ops)
values_take fields table ops zero = refl
values_take fields table [] (suc n) = refl
values_take fields table (op ∷ ops) (suc n) = ap (λ ts. operation_values fields table op ∷ ts) (values_take fields (after_op fields table op) ops n)

pub after_append : (steps : Steps) (xs ys : List ℕ) → after_values steps (xs ++ ys) ≡ after_values (after_values steps xs) ys
after_append steps [] ys = refl
after_append steps (x ∷ xs) ys = after_append (after_operation steps x) xs ys

pub after_pairs : (steps : Steps) (ts : List ℕ) → pairs_of (after_values steps ts) ≡ pairs_of steps + weight ts
after_pairs steps [] = omega arith
after_pairs steps (t ∷ ts) =
    let rest = after_pairs (after_operation steps t) ts in
    let one = sum_by-cons (λ (x : ℕ). x + 1) t ts in
    omega (arith, rest, one)

pub after_roots : (steps : Steps) (ts : List ℕ) → (after_values steps ts).roots ≡ steps.roots
after_roots steps [] = refl
after_roots steps (t ∷ ts) = after_roots (after_operation steps t) ts

pub after_key : (steps : Steps) (ts : List ℕ) → (after_values steps ts).keys ≡ steps.keys
after_key steps [] = refl
after_key steps (t ∷ ts) = after_key (after_operation steps t) ts

-- a root record more may be made
pub refused_more : {H : Type 0} (dense : Bool) (ledger : Ledger H) (fields : List Field) (table : Table) (steps : Steps) (width : ℕ) → IsRefusedBy dense ledger fields table steps width
    → IsRefusedBy dense ledger fields table (after_root steps) width
refused_more dense ledger fields table steps width refused =
    let made = refused.made in
    record {
      made = record {
        one = made.one;
        most = made.most;
        has = record { nodes = made.has.nodes; records = (let few = made.has.records in omega (arith, few)); narrow = made.has.narrow };
        long = record { long = made.long.long; wide = made.long.wide };
        plain = made.plain;
        within = made.within;
        lawful = made.lawful;
        typed = made.typed;
        values = made.values;
        documents = made.documents;
      };
      apart = refused.apart;
    }

take_whole : {A : Type 0} (xs : List A) → take (length xs) xs ≡ xs
take_whole [] = refl
take_whole (x ∷ xs) = ap (λ ys. x ∷ ys) (take_whole xs)

pub take_all : {A : Type 0} (xs : List A) (n : ℕ) → n ≡ length xs → take n xs ≡ xs
take_all xs n is = ap (λ k. take k xs) is ∙ take_whole xs

none_ascend : IsStrictlySortedBy Rattle.std.proofs.Common.nat_cmp []
unfolding IsStrictlySortedBy
none_ascend = tt

-- nothing was made of an empty table
pub empty_made : {H : Type 0} (dense : Bool) (ledger : Ledger H) (fields : List Field) → length fields ≡ 1 → HasMadeNothing ledger → IsMade dense ledger fields [] no_steps
empty_made dense ledger fields one nothing = record {
  one = one;
  most = λ w. 0;
  has = start_made (is_single_long fields);
  long = start_long;
  plain = λ none w off. refl;
  within = λ sparse. record {
    made_few = λ w. (let same = ap (λ c. c.made) (nothing.counts w) in omega (arith, same));
    buffers_few = λ w. (let same = ap (λ c. c.buffers) (nothing.counts w) in omega (arith, same));
  };
  lawful = record { ascends = none_ascend; numbers = tt; documents = tt };
  typed = tt;
  values = omega arith;
  documents = omega arith;
}

-- ---- a batch
module _ {S H : Type 0} (ledger : S → Ledger H) where
  -- one operation more
  pub room_on : (a b : AttributeView S) (P : Steps → Type 0) (ops : List Op) (op : Op) → AddsSteps ledger a b (λ steps. after_values steps (values_of a.fields a.table ops)) → b.table ≡ after_ops a.fields a.table ops
      → b.fields ≡ a.fields → ((steps : Steps) → IsMade b.dense (ledger b.store) b.fields b.table steps → P (after_operation steps (operation_values b.fields b.table op)))
      → (steps : Steps) → IsMade a.dense (ledger a.store) a.fields a.table steps → P (after_values steps (values_of a.fields a.table (ops ++ op ∷ [])))
  room_on a b P ops op before table fields one =
      λ steps made.
      let t = operation_values a.fields (after_ops a.fields a.table ops) op in
      let value : operation_values b.fields b.table op ≡ t = ap (λ fs. operation_values fs b.table op) fields ∙ ap (λ tb. operation_values a.fields tb op) table in
      let is : after_values steps (values_of a.fields a.table (ops ++ op ∷ [])) ≡ after_operation (after_values steps (values_of a.fields a.table ops)) t =
      ap (after_values steps) (values_append a.fields a.table ops (op ∷ [])) ∙ after_append steps (values_of a.fields a.table ops) (t ∷ []) in
      subst P (sym is)
      (subst (λ n. P (after_operation (after_values steps (values_of a.fields a.table ops)) n)) value (one (after_values steps (values_of a.fields a.table ops)) (before steps made)))

  pub room_applied : (b c : AttributeView S) (op : Op) → c.fields ≡ b.fields → c.table ≡ after_op b.fields b.table op → c.dense ≡ b.dense → OpFits b.fields op
      → MakesOperation b.dense (ledger b.store) (ledger c.store) b.fields b.table op → (steps : Steps) → IsMade b.dense (ledger b.store) b.fields b.table steps
      → IsMade c.dense (ledger c.store) c.fields c.table (after_operation steps (operation_values b.fields b.table op))
  room_applied b c op fields table dense fits makes steps made =
      let now = made_after b.dense (ledger b.store) (ledger c.store) b.fields b.table op steps made fits makes in
      subst (λ (on : Bool). IsMade on (ledger c.store) c.fields c.table (after_operation steps (operation_values b.fields b.table op))) (sym dense)
      (subst (λ (fs : List Field). IsMade b.dense (ledger c.store) fs c.table (after_operation steps (operation_values b.fields b.table op))) (sym fields)
      (subst (λ (t : Table). IsMade b.dense (ledger c.store) b.fields t (after_operation steps (operation_values b.fields b.table op))) (sym table) now))

  pub room_refused : (b c : AttributeView S) (op : Op) (width : ℕ) → c.fields ≡ b.fields → c.table ≡ b.table → c.dense ≡ b.dense → OpFits b.fields op
      → MakesOperation b.dense (ledger b.store) (ledger c.store) b.fields b.table op → IsOperationWidth b.dense b.fields b.table op width → (steps : Steps) → IsMade b.dense (ledger b.store) b.fields b.table steps
      → IsRefusedBy c.dense (ledger c.store) c.fields c.table (after_operation steps (operation_values b.fields b.table op)) width
  room_refused b c op width fields table dense fits makes names steps made =
      let now = made_refused b.dense (ledger b.store) (ledger c.store) b.fields b.table op steps made fits makes width names in
      subst (λ (on : Bool). IsRefusedBy on (ledger c.store) c.fields c.table (after_operation steps (operation_values b.fields b.table op)) width) (sym dense)
      (subst (λ (fs : List Field). IsRefusedBy b.dense (ledger c.store) fs c.table (after_operation steps (operation_values b.fields b.table op)) width) (sym fields)
      (subst (λ (t : Table). IsRefusedBy b.dense (ledger c.store) b.fields t (after_operation steps (operation_values b.fields b.table op)) width) (sym table) now))

  pub room_root : (a b : AttributeView S) → b.fields ≡ a.fields → b.table ≡ a.table → b.dense ≡ a.dense → MakesOneOf (class_of (1 + 2 * length a.fields)) (ledger a.store) (ledger b.store)
      → AddsSteps ledger a b after_root
  room_root a b fields table dense makes =
      λ steps made.
      subst (λ (on : Bool). IsMade on (ledger b.store) b.fields b.table (after_root steps)) (sym dense)
      (subst (λ (fs : List Field). IsMade a.dense (ledger b.store) fs b.table (after_root steps)) (sym fields)
      (subst (λ (t : Table). IsMade a.dense (ledger b.store) a.fields t (after_root steps)) (sym table) (made_root a.dense (ledger a.store) (ledger b.store) a.fields a.table steps made makes)))

  -- the width of the root record of one attribute is 4
  pub root_refused : (a b : AttributeView S) (width : ℕ) → b.fields ≡ a.fields → b.table ≡ a.table → b.dense ≡ a.dense → MakesOneOf (class_of (1 + 2 * length a.fields)) (ledger a.store) (ledger b.store)
      → width ≡ class_of (1 + 2 * length a.fields) → is_width width ≡ true
      → ((ledger b.store).of_width width).buffers * capacity (ledger b.store).work.sizes.words width ≤ ((ledger b.store).of_width width).made → RefusesSteps ledger a b after_root
  root_refused a b width fields table dense makes for_root is full = record {
    width = width;
    is = is;
    whole = full;
    adds = λ steps made. record {
      made = room_root a b fields table dense makes steps made;
      apart = λ wide. absurd (
          let four : width ≡ 4 = for_root ∙ ap (λ n. class_of (1 + 2 * n)) made.one in
          omega (arith, wide, four));
    };
  }

  pub room_keys : (a b : AttributeView S) → b.fields ≡ a.fields → b.table ≡ a.table → b.dense ≡ a.dense
      → MakesKeys (HasNoVectors a.dense a.table) a.fields a.table (ledger a.store) (ledger b.store) step_keys
      → AddsSteps ledger a b (λ steps. after_keys steps step_keys)
  room_keys a b fields table dense makes =
      λ steps made.
      subst (λ (on : Bool). IsMade on (ledger b.store) b.fields b.table (after_keys steps step_keys)) (sym dense)
      (subst (λ (fs : List Field). IsMade a.dense (ledger b.store) fs b.table (after_keys steps step_keys)) (sym fields)
      (subst (λ (t : Table). IsMade a.dense (ledger b.store) a.fields t (after_keys steps step_keys)) (sym table)
      (made_keys a.dense (ledger a.store) (ledger b.store) a.fields a.table steps step_keys (omega arith) made makes)))

  -- nothing is begun while there is room
  room_over : (a b : AttributeView S) (steps : Steps) → (ledger b.store).work.sizes ≡ (ledger a.store).work.sizes → b.fields ≡ a.fields
      → LeavesRoom (ledger a.store).work.sizes.words (is_single_long a.fields) steps → LeavesRoom (ledger b.store).work.sizes.words (is_single_long b.fields) steps
  room_over a b steps sizes fields left =
      subst (λ (s : Sizes). LeavesRoom s.words (is_single_long b.fields) steps) (sym sizes)
      (subst (λ (fs : List Field). LeavesRoom (ledger a.store).work.sizes.words (is_single_long fs) steps) (sym fields) left)

  pub quiet_then : (a b c : AttributeView S) (f h : Steps → Steps) → (b.plan ≡ a.plan) × AddsSteps ledger a b f → (ledger b.store).work.sizes ≡ (ledger a.store).work.sizes → b.fields ≡ a.fields → b.dense ≡ a.dense
      → AddsQuietly ledger b c h → AddsQuietly ledger a c (λ steps. h (f steps))
  quiet_then a b c f h adds sizes fields dense quiet =
      λ none steps made left sparse. quiet (adds.0 ∙ none) (f steps) (adds.1 steps made) (room_over a b (h (f steps)) sizes fields left) (λ on. sparse (sym dense ∙ on))

  -- a commit that finds no room names the last operation
  -- a commit that finds no room names the last operation
  pub named_of : {E : Type 0} (b c : AttributeView S) (count skipped : ℕ) (o : Result Batch E) → IfOk o (CommitsBatch ledger b c count skipped)
      → (before active held : ℕ) → o ≡ Ok (Full before active held) → before ≡ count
  named_of {E = E} b c count skipped o commits before active held is = (subst (λ (r : Result Batch E). IfOk r (CommitsBatch ledger b c count skipped)) is commits).0

  -- what is applied and then committed, or finds no room for the commit
  pub room_of : {E : Type 0} (a b c : AttributeView S) (ops : List Op) (skipped count : ℕ) (o : Result Batch E) → count ≡ length ops → AppliesRoom ledger a b ops (Done skipped)
      → (ledger b.store).work.sizes ≡ (ledger a.store).work.sizes → b.fields ≡ a.fields → b.dense ≡ a.dense → ((before active held : ℕ) → o ≡ Ok (Full before active held) → before ≡ count)
      → IfOk o (CommitsRoom ledger b c) → IfOk o (LoadsRoom ledger a c ops)
  room_of a b c ops skipped count (Err e) long applies sizes fields dense named made = tt
  room_of a b c ops skipped count (Ok (Done more)) long applies sizes fields dense named made = (
    λ steps start. made.0 (after_values steps (values_of a.fields a.table ops)) (applies.1 steps start),
    quiet_then a b c (λ steps. after_values steps (values_of a.fields a.table ops)) after_root applies sizes fields dense made.1,
  )
  room_of a b c ops skipped count (Ok (Full before active held)) long applies sizes fields dense named made = record {
    width = made.width;
    is = made.is;
    whole = made.whole;
    adds = λ steps start.
        subst (λ (xs : List Op). IsRefusedBy c.dense (ledger c.store) c.fields c.table (after_root (after_values steps (values_of a.fields a.table xs))) made.width)
        (sym (take_all ops before (named before active held refl ∙ long)))
        (made.adds (after_values steps (values_of a.fields a.table ops)) (applies.1 steps start));
  }

  pub room_full : (a c : AttributeView S) (ops : List Op) (before active held : ℕ) → AppliesRoom ledger a c ops (Full before active held) → LoadsRoom ledger a c ops (Full before active held)
  room_full a c ops before active held applies = record {
    width = applies.width;
    is = applies.is;
    whole = applies.whole;
    adds = λ steps start. refused_more c.dense (ledger c.store) c.fields c.table (after_values steps (values_of a.fields a.table (take before ops))) applies.width (applies.adds steps start);
  }

  -- the values of one part more
  module _ (start b : AttributeView S) (steps : Steps) (count : ℕ) (ops part : List Op) (n : ℕ) (fields : b.fields ≡ start.fields) (table : b.table ≡ after_ops start.fields [] (take count ops))
      (front : take (count + n) ops ≡ take count ops ++ take n part) where
    abbrev ts : List ℕ
    ts = values_of b.fields b.table (take n part)

    ts_are : values_of start.fields [] (take (count + n) ops) ≡ values_of start.fields [] (take count ops) ++ ts
    ts_are =
        ap (values_of start.fields []) front ∙ values_append start.fields [] (take count ops) (take n part)
        ∙ ap (λ us. values_of start.fields [] (take count ops) ++ us)
        (sym (ap (λ fs. values_of fs b.table (take n part)) fields ∙ ap (λ tb. values_of start.fields tb (take n part)) table))

    pub weight_on : pairs_of steps ≡ weight (values_of start.fields [] (take count ops)) → pairs_of (after_values steps ts) ≡ weight (values_of start.fields [] (take (count + n) ops))
    weight_on so_far =
        let pairs = after_pairs steps ts in
        let whole_sum = ap weight ts_are ∙ sum_by-append (λ (x : ℕ). x + 1) (values_of start.fields [] (take count ops)) ts in
        omega (arith, pairs, so_far, whole_sum)

  -- ---- a loading
  -- what was made after so many operations, in whole batches but for the last one
  pub record Runs (batch : ℕ) (ops : List Op) (start now : AttributeView S) (count : ℕ) : Type 0 where
    pub last : ℕ
    pub point : count ≡ commit_point batch (length ops) last
    pub steps : Steps
    pub made : IsMade now.dense (ledger now.store) now.fields now.table steps
    pub pairs : pairs_of steps ≡ weight (values_of start.fields [] (take count ops))
    pub roots : steps.roots ≡ last
    pub keys : steps.keys ≡ step_keys * last

  module _ (batch : ℕ) (ops : List Op) (start : AttributeView S) where
    pub runs_begin : start.table ≡ [] → length start.fields ≡ 1 → HasMadeNothing (ledger start.store) → Runs batch ops start start 0
    runs_begin empty one nothing =
        record {
          last = 0;
          point = (let m = Rattle.std.proofs.Common.mul-zero batch in omega (arith, m));
          steps = no_steps;
          made = subst (λ (t : Table). IsMade start.dense (ledger start.store) start.fields t no_steps) (sym empty) (empty_made start.dense (ledger start.store) start.fields one nothing);
          pairs = refl;
          roots = refl;
          keys = omega arith;
        }

    pub runs_on : (b c : AttributeView S) (count skipped : ℕ) (runs : Runs batch ops start b count) (part : List Op) → b.fields ≡ start.fields → b.table ≡ after_ops start.fields [] (take count ops)
        → take (count + length part) ops ≡ take count ops ++ part → count + length part ≡ commit_point batch (length ops) (suc runs.last) → LoadsRoom ledger b c part (Done skipped)
        → Runs batch ops start c (count + length part)
    runs_on b c count skipped runs part fields table front point room =
        let ts = values_of b.fields b.table part in
        let pairs = subst (λ (xs : List Op). pairs_of (after_values runs.steps (values_of b.fields b.table xs)) ≡ weight (values_of start.fields [] (take (count + length part) ops)))
        (take_all part (length part) refl)
        (weight_on start b runs.steps count ops part (length part) fields table (front ∙ ap (λ xs. take count ops ++ xs) (sym (take_all part (length part) refl))) runs.pairs) in
        let roots = after_roots runs.steps ts in
        let keys = after_key runs.steps ts in
        let was = runs.roots in
        let had = runs.keys in
        record {
          last = suc runs.last;
          point = point;
          steps = after_keys (after_root (after_values runs.steps ts)) step_keys;
          made = room.0 runs.steps runs.made;
          pairs = pairs;
          roots = omega (arith, roots, was);
          keys = omega (arith, keys, had);
        }

    -- ---- no room
    module _ (b c : AttributeView S) (count : ℕ) (runs : Runs batch ops start b count) (part : List Op) (before active held : ℕ) (fields : b.fields ≡ start.fields)
        (table : b.table ≡ after_ops start.fields [] (take count ops)) (front : take (count + before) ops ≡ take count ops ++ take before part) (room : LoadsRoom ledger b c part (Full before active held))
        (some : 0 < batch) (below : count < length ops) (same_fields : c.fields ≡ start.fields) (off : c.dense ≡ false) (sizes : (ledger c.store).work.sizes ≡ (ledger start.store).work.sizes)
        (free : free_count (ledger c.store).work.buffer (ledger c.store).work.sizes.buffers ≡ 0)
        (words : 8192 ≤ (ledger c.store).work.sizes.words)
        (counted : free_count (ledger c.store).work.buffer (ledger c.store).work.sizes.buffers + buffers_in (ledger c.store).of_width widths ≡ (ledger c.store).work.sizes.buffers)
        (few : (width : ℕ) → is_width width ≡ true
        → ((ledger c.store).of_width width).buffers ≤ 1 + ((ledger c.store).of_width width).made / capacity (ledger c.store).work.sizes.words width) where
      abbrev after : Steps
      after = after_root (after_values runs.steps (values_of b.fields b.table (take before part)))

      made_now : IsMade c.dense (ledger c.store) c.fields c.table after
      made_now = (room.adds runs.steps runs.made).made

      commits_are : commits_to batch (length ops) count ≡ runs.last
      commits_are =
          let here : count ≡ batch * runs.last = whole batch (length ops) runs.last count runs.point below in
          commits_batches batch (length ops) count some below
          ∙ ap (λ n. n / batch) (let same : count ≡ batch * runs.last + 1 - 1 = omega (arith, here) in same) ∙ batch_of batch runs.last 1 some (omega arith) (omega (arith, some))

      weight_is : weight (take (count + before) (values_of start.fields [] ops)) ≡ weight (values_of start.fields [] (take (count + before) ops))
      weight_is = ap weight (values_take start.fields [] ops (count + before))

      owed_now : IsOwed (load_of (ledger c.store).work.sizes.buffers (ledger c.store).work.sizes.words c.fields batch ops) (count + before) count
      owed_now =
          let total : length (values_of c.fields [] ops) ≡ length ops = values_length c.fields [] ops in
          let weights : weight (take (count + before) (values_of c.fields [] ops)) ≡ weight (values_of start.fields [] (take (count + before) ops)) =
          ap (λ fs. weight (take (count + before) (values_of fs [] ops))) same_fields ∙ weight_is in
          let commits : commits_to batch (length (values_of c.fields [] ops)) count ≡ runs.last = ap (λ n. commits_to batch n count) total ∙ commits_are in
          full_owed (load_of (ledger c.store).work.sizes.buffers (ledger c.store).work.sizes.words c.fields batch ops) (count + before) count after made_now.most
          (λ width. ((ledger c.store).of_width width).made) (λ width. ((ledger c.store).of_width width).buffers) words
          (record {
            pairs = (let pairs = weight_on start b runs.steps count ops part before fields table front runs.pairs in omega (arith, pairs, weights));
            roots = (let roots = after_roots runs.steps (values_of b.fields b.table (take before part)) in let was = runs.roots in omega (arith, roots, was, commits));
            keys = (let keys = after_key runs.steps (values_of b.fields b.table (take before part)) in let had = runs.keys in omega (arith, keys, had, commits));
          })
          made_now.has
          (within_filled (ledger c.store).work.sizes.words made_now.most (λ width. ((ledger c.store).of_width width).made) (λ width. ((ledger c.store).of_width width).buffers)
          (made_now.within (λ on. absurd (true≢false (sym on ∙ off)))) few)
          (omega (arith, counted, free))

      pub owed_at : IsOwed (load_of (ledger start.store).work.sizes.buffers (ledger start.store).work.sizes.words start.fields batch ops) (count + before) count
      owed_at =
          subst (λ (s : Sizes). IsOwed (load_of s.buffers s.words start.fields batch ops) (count + before) count) sizes
          (subst (λ (fs : List Field). IsOwed (load_of (ledger c.store).work.sizes.buffers (ledger c.store).work.sizes.words fs batch ops) (count + before) count) same_fields owed_now)
