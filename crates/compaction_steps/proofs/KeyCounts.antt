-- How many records a compaction makes, key by key.
use Rattle.std.proofs.Common.{◌≡◌, ℕ, suc, ◌+◌, ◌*◌, ◌<◌, ◌≤◌, Bool, true, false, cond, nat_eq, List, length, Option, Some, refl, sym, ap, subst, ◌∙◌, arith}
use Rattle.std.proofs.Math.Nat.{mul-le-mul_left, mul-suc}
use Rattle.std.proofs.lemmas.Bool.{eqb-true}
use Rattle.std.specs.Prelude.{slice_get}
use Rattle.list_lemmas.proofs.Each.{AllByRecursion-slice_get}
use Rattle.entry_ref.specs.Records.{Records}
use Rattle.store_api.specs.Calls.{EndsOf, Seals}
use Rattle.store_api.specs.Ledgers.{Ledger, IsSettled}
use Rattle.store_api.specs.Units.{MakesWithin}
use Rattle.index_model.specs.Columns.{Column, column_of}
use Rattle.attr_operations.proofs.CountLemmas.{counts_unit}
use Rattle.attr_types.specs.Table.{Table}
use Rattle.attr_types.specs.declared.field.Field.{Field}
use Rattle.attr_types.specs.declared.kind.Kind.{Kind}
use Rattle.attr_types.specs.declared.kind.Kind.TheVariants.{Single}
use Rattle.attr_types.specs.declared.kind.ValueType.{ValueType}
use Rattle.attr_types.specs.declared.kind.ValueType.TheVariants.{Long}
use Rattle.compaction_moves.specs.Counts.{key_nodes, most_nodes, one_record, IsLowColumn, MakesKey}
use Rattle.value_index.proofs.WalksCountLemmas.{one_of}
use Rattle.value_index.specs.Counts.{by_width}
use Rattle.compaction_steps.specs.Counts.{MakesKeys, RisesBy}

-- ---- counts that rise
module _ {H : Type 0} where
  pub rises_more : (a b : Ledger H) (f h : ℕ → ℕ) → ((w : ℕ) → f w ≤ h w) → RisesBy a b f → RisesBy a b h
  rises_more a b f h more rises = record {
    made = λ w. let up = more w in let few = rises.made w in omega (arith, up, few);
    buffers = λ w. let up = more w in let few = rises.buffers w in omega (arith, up, few);
  }

  pub rises_then : (a b c : Ledger H) (f h : ℕ → ℕ) → RisesBy a b f → RisesBy b c h → RisesBy a c (λ w. f w + h w)
  rises_then a b c f h first second = record {
    made = λ w. let one = first.made w in let two = second.made w in omega (arith, one, two);
    buffers = λ w. let one = first.buffers w in let two = second.buffers w in omega (arith, one, two);
  }

  pub rises_none : (a : Ledger H) (f : ℕ → ℕ) → RisesBy a a f
  rises_none a f = record { made = λ w. omega arith; buffers = λ w. omega arith }

  rises_from : (a b c : Ledger H) (f : ℕ → ℕ) → RisesBy a b (λ w. 0) → RisesBy b c f → RisesBy a c f
  rises_from a b c f none rises = record {
    made = λ w. let one = none.made w in let two = rises.made w in omega (arith, one, two);
    buffers = λ w. let one = none.buffers w in let two = rises.buffers w in omega (arith, one, two);
  }

  rises_within : (a b : Ledger H) (f : ℕ → ℕ) → MakesWithin a b f → RisesBy a b f
  rises_within a b f within = record { made = λ w. (within.each w).made; buffers = λ w. (within.each w).buffers }

  pub rises_sealed : (a b : Ledger H) (victim : ℕ) → Seals a b victim → RisesBy a b (λ w. 0)
  rises_sealed a b victim seals = record {
    made = λ w. let same = (seals.counts w).made in omega (arith, same);
    buffers = λ w. let same = (seals.counts w).buffers in omega (arith, same);
  }

-- ---- nodes and records by width
width_more : (nodes more : ℕ) (records most : ℕ → ℕ) → nodes ≤ more → ((w : ℕ) → records w ≤ most w) → (w : ℕ) → by_width nodes records w ≤ by_width more most w
width_more nodes more records most up rises w = told (nat_eq w 34)
  where
    told : (t : Bool) → cond t nodes (records w) ≤ cond t more (most w)
    told true = up
    told false = rises w

width_then : (nodes more all : ℕ) (records most : ℕ → ℕ) → nodes + more ≤ all → (w : ℕ) → by_width nodes records w + by_width more most w ≤ by_width all (λ v. records v + most v) w
width_then nodes more all records most few w = told (nat_eq w 34)
  where
    told : (t : Bool) → cond t nodes (records w) + cond t more (most w) ≤ cond t all (records w + most w)
    told true = few
    told false = omega arith

one_more : (nodes n : ℕ) → nodes * n + nodes * 1 ≤ nodes * (n + 1)
one_more nodes n =
    let same : n + 1 ≡ suc n = omega arith in
    let is : nodes * (n + 1) ≡ nodes * n + nodes = ap (λ k. nodes * k) same ∙ mul-suc nodes n in
    let one : nodes * 1 ≡ nodes = omega arith in
    omega (arith, is, one)

module _ {H : Type 0} {plain : Type 0} (fields : List Field) (table : Table) where
  pub keys_none : (a : Ledger H) (n : ℕ) → MakesKeys plain fields table a a n
  keys_none a n = record {
    records = λ w. 0;
    few = omega arith;
    narrow = λ is long w wide. refl;
    counts = rises_none a (by_width (most_nodes * n) (λ w. 0));
    trees = λ is. rises_none a (by_width (key_nodes 8 * n) (λ w. 0));
    low = λ is levels stay. rises_none a (by_width (key_nodes levels * n) (λ w. 0));
  }

  pub keys_more : (a b : Ledger H) (n k : ℕ) → n ≤ k → MakesKeys plain fields table a b n → MakesKeys plain fields table a b k
  keys_more a b n k more made = record {
    records = made.records;
    few = let few = made.few in omega (arith, few);
    narrow = made.narrow;
    counts = rises_more a b (by_width (most_nodes * n) made.records) (by_width (most_nodes * k) made.records)
        (width_more (most_nodes * n) (most_nodes * k) made.records made.records (mul-le-mul_left most_nodes more) (λ w. omega arith)) made.counts;
    trees = λ is. rises_more a b (by_width (key_nodes 8 * n) made.records) (by_width (key_nodes 8 * k) made.records)
        (width_more (key_nodes 8 * n) (key_nodes 8 * k) made.records made.records (mul-le-mul_left (key_nodes 8) more) (λ w. omega arith)) (made.trees is);
    low = λ is levels stay. rises_more a b (by_width (key_nodes levels * n) made.records) (by_width (key_nodes levels * k) made.records)
        (width_more (key_nodes levels * n) (key_nodes levels * k) made.records made.records (mul-le-mul_left (key_nodes levels) more) (λ w. omega arith)) (made.low is levels stay);
  }

  pub keys_then : (a b c : Ledger H) (n : ℕ) → MakesKeys plain fields table a b n → MakesKeys plain fields table b c 1 → MakesKeys plain fields table a c (n + 1)
  keys_then a b c n first second = record {
    records = λ w. first.records w + second.records w;
    few = let one = first.few in let two = second.few in omega (arith, one, two);
    narrow = λ is long w wide. let one = first.narrow is long w wide in let two = second.narrow is long w wide in omega (arith, one, two);
    counts = rises_more a c (λ w. by_width (most_nodes * n) first.records w + by_width (most_nodes * 1) second.records w)
        (by_width (most_nodes * (n + 1)) (λ w. first.records w + second.records w))
        (width_then (most_nodes * n) (most_nodes * 1) (most_nodes * (n + 1)) first.records second.records (one_more most_nodes n))
        (rises_then a b c (by_width (most_nodes * n) first.records) (by_width (most_nodes * 1) second.records) first.counts second.counts);
    trees = λ is.
        rises_more a c (λ w. by_width (key_nodes 8 * n) first.records w + by_width (key_nodes 8 * 1) second.records w)
        (by_width (key_nodes 8 * (n + 1)) (λ w. first.records w + second.records w))
        (width_then (key_nodes 8 * n) (key_nodes 8 * 1) (key_nodes 8 * (n + 1)) first.records second.records (one_more (key_nodes 8) n))
        (rises_then a b c (by_width (key_nodes 8 * n) first.records) (by_width (key_nodes 8 * 1) second.records) (first.trees is) (second.trees is));
    low = λ is levels stay.
        rises_more a c (λ w. by_width (key_nodes levels * n) first.records w + by_width (key_nodes levels * 1) second.records w)
        (by_width (key_nodes levels * (n + 1)) (λ w. first.records w + second.records w))
        (width_then (key_nodes levels * n) (key_nodes levels * 1) (key_nodes levels * (n + 1)) first.records second.records (one_more (key_nodes levels) n))
        (rises_then a b c (by_width (key_nodes levels * n) first.records) (by_width (key_nodes levels * 1) second.records) (first.low is levels stay) (second.low is levels stay));
  }

  -- the store was sealed before
  pub keys_sealed : (a b c : Ledger H) (n : ℕ) → RisesBy a b (λ w. 0) → MakesKeys plain fields table b c n → MakesKeys plain fields table a c n
  keys_sealed a b c n none made = record {
    records = made.records;
    few = made.few;
    narrow = made.narrow;
    counts = rises_from a b c (by_width (most_nodes * n) made.records) none made.counts;
    trees = λ is. rises_from a b c (by_width (key_nodes 8 * n) made.records) none (made.trees is);
    low = λ is levels stay. rises_from a b c (by_width (key_nodes levels * n) made.records) none (made.low is levels stay);
  }

  -- a buffer was marked as finished since
  pub keys_finished : (a b : Ledger H) (n : ℕ) (buffer : Option ℕ) → MakesKeys plain fields table a b n → MakesKeys plain fields table a (record b { finished = buffer }) n
  keys_finished a b n buffer made = record {
    records = made.records;
    few = made.few;
    narrow = made.narrow;
    counts = record { made = made.counts.made; buffers = made.counts.buffers };
    trees = λ is. let trees = made.trees is in record { made = trees.made; buffers = trees.buffers };
    low = λ is levels stay. let low = made.low is levels stay in record { made = low.made; buffers = low.buffers };
  }

-- ---- what holds if no list is a bit vector holds if something more does
pub keys_plain : {H : Type 0} {plain more : Type 0} (fields : List Field) (table : Table) (a b : Ledger H) (n : ℕ) → (more → plain) → MakesKeys plain fields table a b n
    → MakesKeys more fields table a b n
keys_plain fields table a b n so made = record {
  records = made.records;
  few = made.few;
  narrow = λ is. made.narrow (so is);
  counts = made.counts;
  trees = λ is. made.trees (so is);
  low = λ is. made.low (so is);
}

-- ---- a unit
pub key_unit : {H : Type 0} {plain : Type 0} (kind : Kind) (type : ValueType) (column : Column) (old begun mid new : Ledger H) → begun ≡ record old { unit = true } → MakesKey plain kind type column begun mid
    → (o : Records) → ((w : ℕ) → EndsOf (mid.of_width w) (new.of_width w)) → IsSettled new o → MakesKey plain kind type column old new
key_unit kind type column old begun mid new begins made o ends settled = record {
  width = made.width;
  narrow = made.narrow;
  counts = counts_unit old begun mid new (by_width most_nodes (one_record made.width)) begins made.counts o ends settled;
  trees = λ is. counts_unit old begun mid new (by_width (key_nodes 8) (one_record made.width)) begins (made.trees is) o ends settled;
  low = λ is levels stays. counts_unit old begun mid new (by_width (key_nodes levels) (one_record made.width)) begins (made.low is levels stays) o ends settled;
}

-- ---- a key of one attribute, among all
wide_none : (width w : ℕ) → width ≤ 16 → 16 < w → one_record width w ≡ 0
wide_none width w narrow wide = told (nat_eq w width) refl
  where
    told : (t : Bool) → nat_eq w width ≡ t → cond {A = ℕ} t 1 0 ≡ 0
    told true is = absurd (let same = eqb-true w width is in omega arith)
    told false is = refl

pub key_among : {H : Type 0} {plain : Type 0} (fields : List Field) (table : Table) (i : ℕ) (field : Field) (column : Column) (old new : Ledger H) → slice_get fields i ≡ Some field → i < length fields
    → column ≡ column_of i table → MakesKey plain field.kind field.value column old new → MakesKeys plain fields table old new 1
key_among fields table i field column old new at below reads made = record {
  records = one_record made.width;
  few = one_of made.width;
  narrow = λ is long w wide.
      let own = AllByRecursion-slice_get (λ (f : Field). (f.kind ≡ Single) × (f.value ≡ Long)) fields i field long at in
      wide_none made.width w (made.narrow is own.0 own.1) wide;
  counts = rises_more old new (by_width most_nodes (one_record made.width)) (by_width (most_nodes * 1) (one_record made.width))
      (width_more most_nodes (most_nodes * 1) (one_record made.width) (one_record made.width) (omega arith) (λ w. omega arith))
      (rises_within old new (by_width most_nodes (one_record made.width)) made.counts);
  trees = λ is. rises_more old new (by_width (key_nodes 8) (one_record made.width)) (by_width (key_nodes 8 * 1) (one_record made.width))
      (width_more (key_nodes 8) (key_nodes 8 * 1) (one_record made.width) (one_record made.width) (omega arith) (λ w. omega arith))
      (rises_within old new (by_width (key_nodes 8) (one_record made.width)) (made.trees is));
  low = λ is levels stay.
      let low : IsLowColumn levels column = subst (λ (cl : Column). IsLowColumn levels cl) (sym reads) (stay i below) in
      rises_more old new (by_width (key_nodes levels) (one_record made.width)) (by_width (key_nodes levels * 1) (one_record made.width))
      (width_more (key_nodes levels) (key_nodes levels * 1) (one_record made.width) (one_record made.width) (omega arith) (λ w. omega arith))
      (rises_within old new (by_width (key_nodes levels) (one_record made.width)) (made.low is levels low));
}
