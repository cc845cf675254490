-- A small run: no compaction begins before its last operation, and the store is never full.
use Rattle.std.proofs.Common.{◌≡◌, ◌⊎◌, ℕ, ◌+◌, ◌-◌, ◌*◌, ◌/◌, ◌<◌, ◌≤◌, Bool, true, false, List, [], ◌∷◌, ◌++◌, length, take, None, refl, sym, ap, ◌∙◌, subst, arith, inl, inr, mul-zero}
use Rattle.std.specs.Prelude.{Result, Ok, IfOk}
use Rattle.std.proofs.lemmas.List.Sums.{sum_by-take-le}
use Rattle.arena_api.specs.Works.{Sizes, active_width, free_count}
use Rattle.entry_ref.specs.Records.{Records}
use Rattle.store_api.specs.Ledgers.{Ledger, IsUnfilled, buffers_in, capacity, is_width, widths}
use Rattle.store_api.specs.Statuses.{is_dead}
use Rattle.store_api.specs.Victims.{HasNoVictim, IsCandidate, count_entries, dead_words}
use Rattle.attr_loader.proofs.Small.{small_full, small_room}
use Rattle.attr_loader.proofs.Steps.{within_filled}
use Rattle.attr_loader.specs.Laws.{no_steps}
use Rattle.attr_loader.specs.Made.{Steps, HasFewLong, HasMade, after_root, pairs_of}
use Rattle.attr_loader.specs.Runs.{weight, IsSmall}
use Rattle.attr_types.specs.Table.{Table, after_ops}
use Rattle.attr_types.specs.declared.field.Field.{Field}
use Rattle.attr_types.specs.declared.op.Op.{Op}
use Rattle.attribute_kinds.specs.Compacting.{CompactsTo, IsIdle}
use Rattle.attribute_kinds.specs.Views.{AttributeView}
use Rattle.attribute_kinds.specs.declared.answers.AttrError.{AttrError}
use Rattle.attribute_kinds.specs.declared.answers.Compacted.{Compacted}
use Rattle.attribute_kinds.specs.declared.answers.Compacted.TheVariants.{Idle}
use Rattle.attr_loader.proofs.RoomRuns.{after_key, after_roots, empty_made, values_length, values_take, weight_on}
use Rattle.attr_loader.specs.Batches.{AddsQuietly, LoadsRoom, RefusesSteps}
use Rattle.attr_loader.specs.Room.{after_values, is_single_long, load_of, values_of, AreSparse, HasMadeNothing, IsMade, LeavesRoom}
use Rattle.attr_loader.specs.declared.batch.Batch.TheVariants.{Done}

-- ---- no buffer is worth a compaction
module _ {H : Type 0} (bits : ℕ) (dense : Bool) (ledger : Ledger H) (fields : List Field) (table : Table) (steps : Steps) (made : IsMade dense ledger fields table steps)
    (sparse : AreSparse dense steps)
    (left : LeavesRoom ledger.work.sizes.words (is_single_long fields) steps)
    (unfilled : (b : ℕ) → IsUnfilled ledger b
    → capacity ledger.work.sizes.words (active_width (ledger.work.buffer b)) ≤ (ledger.of_width (active_width (ledger.work.buffer b))).made) where
  no_candidate : (b : ℕ) (t : Bool) → is_width (active_width (ledger.work.buffer b)) ≡ t → ¬ IsCandidate bits ledger b
  no_candidate b true is candidate =
      let w = active_width (ledger.work.buffer b) in
      let full = unfilled b (record { below = candidate.below; active = candidate.active; unfilled = candidate.unfilled }) in
      let few = (made.within sparse).made_few w in
      let low = left.each made.most made.has made.long w is in
      omega (arith, full, few, low)
  no_candidate b false is candidate =
      let w = active_width (ledger.work.buffer b) in
      let full = unfilled b (record { below = candidate.below; active = candidate.active; unfilled = candidate.unfilled }) in
      let few = (made.within sparse).made_few w in
      let none = made.plain left.none w is in
      let small : capacity ledger.work.sizes.words w ≡ 0 = omega (arith, full, few, none) in
      let dead : dead_words bits ledger b ≡ 0 = ap (λ n. w * count_entries bits is_dead ledger.status b n) small ∙ mul-zero w in
      let more = candidate.dead in
      omega (arith, more, dead)

  pub no_victim : HasNoVictim bits ledger
  no_victim = record { none = λ b. no_candidate b (is_width (active_width (ledger.work.buffer b))) refl }

module _ {S H : Type 0} (bits : ℕ) (ledger : S → Ledger H) (records : S → Records) (old new : AttributeView S) (keys : ℕ) (o : Result Compacted AttrError) where
  -- a step without a victim changes nothing
  pub quiet_step : IfOk o (CompactsTo bits ledger records old new keys) → (IsIdle bits (ledger old.store) old.plan → o ≡ Ok Idle)
      → ((b : ℕ) → IsUnfilled (ledger old.store) b
      → capacity (ledger old.store).work.sizes.words (active_width ((ledger old.store).work.buffer b)) ≤ ((ledger old.store).of_width (active_width ((ledger old.store).work.buffer b))).made)
      → AddsQuietly ledger old new (λ steps. steps)
  quiet_step steps_are idle unfilled =
      λ none steps made left sparse.
      let is = idle (record { none = none; why = inr (no_victim bits old.dense (ledger old.store) old.fields old.table steps made sparse left unfilled) }) in
      let stays = subst (λ (r : Result Compacted AttrError). IfOk r (CompactsTo bits ledger records old new keys)) is steps_are in
      (ap (λ (v : AttributeView S). v.plan) stays.same ∙ none, subst (λ (v : AttributeView S). IsMade v.dense (ledger v.store) v.fields v.table steps) (sym stays.same) made)

-- ---- what was made
by_kind : (t : Bool) → (t ≡ true) ⊎ (t ≡ false)
by_kind true = inl refl
by_kind false = inr refl

after_count : (steps : Steps) (ts : List ℕ) → (after_values steps ts).operations ≡ steps.operations + length ts
after_count steps [] = omega arith
after_count steps (t ∷ ts) = let rest = after_count (Rattle.attr_loader.specs.Made.after_operation steps t) ts in omega (arith, rest)

weight_take : (values : List ℕ) (n : ℕ) → weight (take n values) ≤ weight values
weight_take values n = sum_by-take-le (λ (t : ℕ). t + 1) values n

module _ {S H : Type 0} (ledger : S → Ledger H) (batch : ℕ) (ops : List Op) (start : AttributeView S) where
  -- until the last operation no compaction was in progress
  pub record QuietRuns (now : AttributeView S) (count : ℕ) : Type 0 where
    pub plan : now.plan ≡ None
    pub steps : Steps
    pub made : IsMade now.dense (ledger now.store) now.fields now.table steps
    pub pairs : pairs_of steps ≡ weight (values_of start.fields [] (take count ops))
    pub operations : steps.operations ≡ count
    pub roots : steps.roots ≤ count
    pub keys : steps.keys ≡ 0

  pub quiet_begin : start.table ≡ [] → length start.fields ≡ 1 → HasMadeNothing (ledger start.store) → start.plan ≡ None → QuietRuns start 0
  quiet_begin empty one nothing plan = record {
    plan = plan;
    steps = no_steps;
    made = subst (λ (t : Table). IsMade start.dense (ledger start.store) start.fields t no_steps) (sym empty) (empty_made start.dense (ledger start.store) start.fields one nothing);
    pairs = refl;
    operations = refl;
    roots = omega arith;
    keys = refl;
  }

  -- what all operations weigh, and these
  part_weight : (n : ℕ) → weight (values_of start.fields [] (take n ops)) ≤ weight (values_of start.fields [] ops)
  part_weight n =
      let few = weight_take (values_of start.fields [] ops) n in
      let same : weight (take n (values_of start.fields [] ops)) ≡ weight (values_of start.fields [] (take n ops)) = ap weight (values_take start.fields [] ops n) in
      omega (arith, few, same)

  module _ (b : AttributeView S) (count : ℕ) (runs : QuietRuns b count) (part : List Op) (n : ℕ) (fits : length (take n part) ≡ n) (some : 0 < n) (within : count + n ≤ length ops)
      (fields : b.fields ≡ start.fields) (table : b.table ≡ after_ops start.fields [] (take count ops)) (front : take (count + n) ops ≡ take count ops ++ take n part) where
    abbrev after : Steps
    after = after_root (after_values runs.steps (values_of b.fields b.table (take n part)))

    pairs_now : pairs_of after ≡ weight (values_of start.fields [] (take (count + n) ops))
    pairs_now =
        let so_far = runs.pairs in
        let on = weight_on ledger start b runs.steps count ops part n fields table front runs.pairs in
        omega (arith, on)

    operations_now : after.operations ≡ count + n
    operations_now =
        let more = after_count runs.steps (values_of b.fields b.table (take n part)) in
        let long = values_length b.fields b.table (take n part) in
        let was = runs.operations in
        omega (arith, more, long, was, fits)

    roots_now : after.roots ≤ count + 1
    roots_now = let same = after_roots runs.steps (values_of b.fields b.table (take n part)) in let was = runs.roots in omega (arith, same, was)

    keys_now : after.keys ≡ 0
    keys_now = let same = after_key runs.steps (values_of b.fields b.table (take n part)) in let was = runs.keys in omega (arith, same, was)

    part_of : (buffers words : ℕ) → Rattle.attr_loader.specs.Laws.IsPartOf (load_of buffers words start.fields batch ops) after
    part_of buffers words =
        let total = values_length start.fields [] ops in
        let operations = operations_now in
        record {
          pairs = (let pairs = pairs_now in let few = part_weight (count + n) in omega (arith, pairs, few));
          some = omega (arith, operations, some);
          operations = omega (arith, operations, total, within);
          roots = (let roots = roots_now in omega (arith, roots, operations));
          keys = keys_now;
        }

    -- no list becomes a bit vector
    sparse_now : (dense : Bool) (buffers words : ℕ) → IsSmall (load_of buffers words start.fields batch ops) → AreSparse dense after
    sparse_now dense buffers words small on =
        let pairs = pairs_now in
        let few = part_weight (count + n) in
        let light = small.light in
        omega (arith, pairs, few, light)

    -- before the last operation there is room
    pub leaves_room : (buffers words : ℕ) → 8192 ≤ words → IsSmall (load_of buffers words start.fields batch ops) → count + n < length ops
        → LeavesRoom words (is_single_long start.fields) after
    leaves_room buffers words large small below = record {
      none = keys_now;
      each = λ most has long width is.
          small_room (load_of buffers words start.fields batch ops) after most width large small (part_of buffers words) has (left most long (by_kind (is_single_long start.fields))) is;
    }
      where
        left : (most : ℕ → ℕ) → HasFewLong after most → (is_single_long start.fields ≡ true) ⊎ (is_single_long start.fields ≡ false)
            → (is_single_long start.fields ≡ true) ⊎ ((after.operations < length (values_of start.fields [] ops)) × HasFewLong after most)
        left most long (inl single) = inl single
        left most long (inr other) = inr ((let total = values_length start.fields [] ops in let operations = operations_now in omega (arith, total, operations, below)), long)

    pub quiet_on : (c : AttributeView S) (skipped : ℕ) → take n part ≡ part → (ledger b.store).work.sizes ≡ (ledger start.store).work.sizes → 8192 ≤ (ledger start.store).work.sizes.words
        → IsSmall (load_of (ledger start.store).work.sizes.buffers (ledger start.store).work.sizes.words start.fields batch ops) → count + n < length ops
        → LoadsRoom ledger b c part (Done skipped) → QuietRuns c (count + n)
    quiet_on c skipped whole sizes large small below room =
        let left = leaves_room (ledger start.store).work.sizes.buffers (ledger start.store).work.sizes.words large small below in
        let here : LeavesRoom (ledger b.store).work.sizes.words (is_single_long b.fields) after =
        subst (λ (s : Sizes). LeavesRoom s.words (is_single_long b.fields) after) (sym sizes)
        (subst (λ (fs : List Field). LeavesRoom (ledger start.store).work.sizes.words (is_single_long fs) after) (sym fields) left) in
        let parts = subst (λ (xs : List Op). LeavesRoom (ledger b.store).work.sizes.words (is_single_long b.fields) (after_root (after_values runs.steps (values_of b.fields b.table xs)))
        → AreSparse b.dense (after_root (after_values runs.steps (values_of b.fields b.table xs))) → (c.plan ≡ None) × IsMade c.dense (ledger c.store) c.fields c.table
        (after_root (after_values runs.steps (values_of b.fields b.table xs)))) (sym whole)
        (room.1 runs.plan runs.steps runs.made) here (sparse_now b.dense (ledger start.store).work.sizes.buffers (ledger start.store).work.sizes.words small) in
        record {
          plan = parts.0;
          steps = after;
          made = parts.1;
          pairs = pairs_now;
          operations = operations_now;
          roots = (let roots = roots_now in omega (arith, roots, some));
          keys = keys_now;
        }

    -- and then the store is not full
    pub never_full : (c : AttributeView S) → RefusesSteps ledger b c (λ steps. after_root (after_values steps (values_of b.fields b.table (take n part))))
        → c.fields ≡ start.fields → (ledger c.store).work.sizes ≡ (ledger start.store).work.sizes → 8192 ≤ (ledger c.store).work.sizes.words
        → free_count (ledger c.store).work.buffer (ledger c.store).work.sizes.buffers ≡ 0
        → free_count (ledger c.store).work.buffer (ledger c.store).work.sizes.buffers + buffers_in (ledger c.store).of_width widths ≡ (ledger c.store).work.sizes.buffers
        → ((width : ℕ) → is_width width ≡ true
        → ((ledger c.store).of_width width).buffers ≤ 1 + ((ledger c.store).of_width width).made / capacity (ledger c.store).work.sizes.words width)
        → 8 ≤ (ledger start.store).work.sizes.buffers
        → ¬ IsSmall (load_of (ledger start.store).work.sizes.buffers (ledger start.store).work.sizes.words start.fields batch ops)
    never_full c room same sizes large free counted few many small =
        let words = (ledger c.store).work.sizes.words in
        let buffers = (ledger c.store).work.sizes.buffers in
        let made = λ (width : ℕ). ((ledger c.store).of_width width).made in
        let taken = λ (width : ℕ). ((ledger c.store).of_width width).buffers in
        let refused = room.adds runs.steps runs.made in
        let most = refused.made.most in
        let keys = keys_now in
        small_full (load_of buffers words start.fields batch ops) after most made taken room.width large
        (subst (λ (s : Sizes). 8 ≤ s.buffers) (sym sizes) many)
        (subst (λ (s : Sizes). IsSmall (load_of s.buffers s.words start.fields batch ops)) (sym sizes) small)
        (part_of buffers words) (subst (λ (fs : List Field). HasMade (is_single_long fs) after most) same refused.made.has) refused.made.long
        (within_filled words most made taken (refused.made.within (sparse_now c.dense (ledger start.store).work.sizes.buffers (ledger start.store).work.sizes.words small)) few)
        (record {
          is = room.is;
          whole = room.whole;
          apart = λ wide. (let below = refused.apart wide in omega (arith, below, keys));
        })
        (omega (arith, counted, free))
