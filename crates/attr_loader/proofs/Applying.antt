-- Operations applied one after another, and what stays of a store.
use Rattle.std.proofs.Common.{◌≡◌, ℕ, ◌+◌, ◌<◌, ◌≤◌, Bool, true, false, if◌then◌else◌, List, [], ◌∷◌, ◌++◌, length, take, inl, inr, refl, sym, ap, ◌∙◌, subst, arith}
use Rattle.std.specs.Prelude.{Result, Ok, Err, IfOk, Option, Some, None, slice_get}
use Rattle.std.proofs.lemmas.List.{length_push, length-take-le}
use Rattle.std.proofs.Math.Seq.{take-length}
use Rattle.entry_ref.specs.Images.{words_at}
use Rattle.entry_ref.specs.declared.images.Image.{Image}
use Rattle.arena_api.specs.Works.{WorkView}
use Rattle.arena_api.specs.Calls.{published}
use Rattle.arena_api.specs.declared.answers.Oldest.{Oldest}
use Rattle.attr_operations.specs.Calls.{IsOutOfRoom}
use Rattle.store_api.specs.Calls.{with_hold}
use Rattle.store_api.specs.Ledgers.{Ledger}
use Rattle.attr_types.specs.declared.applied.Applied.{Applied}
use Rattle.attr_types.specs.declared.applied.Applied.TheVariants.{Changed, Skipped}
use Rattle.image_format.specs.Images.{IsLawfulImage, table_of}
use Rattle.image_format.specs.Shapes.{shape_of, types_of}
use Rattle.attr_types.specs.Table.{Table, after_op, is_skipped, after_ops, skipped_ops}
use Rattle.attr_types.specs.declared.field.Field.{Field}
use Rattle.attr_types.specs.declared.op.Op.{Op}
use Rattle.attribute_kinds.specs.Views.{AttributeView}
use Rattle.attribute_kinds.specs.Calls.{KeepsStore, KeepsStoreBut, CommitsImage, IsForRoot, RefusesCommit, RefusesOperation, applied_to}
use Rattle.attribute_kinds.specs.declared.answers.AttrError.{AttrError}
use Rattle.attribute_kinds.specs.declared.answers.AttrError.TheVariants as errors
use Rattle.attr_loader.specs.Refusals.{IsRefusedCommit, IsRefusedOperation}
use Rattle.attribute_kinds.specs.declared.answers.CommitInfo.{CommitInfo}
use Rattle.attr_loader.specs.Loading.{StaysIn}
use Rattle.attr_loader.specs.Batches.{skips_of, AppliesAll, CannotCommit, CommitsBatch, FindsNoRoom, IsFullStore, KeepsCommit, KeepsTable, LoadsBatch}
use Rattle.attr_loader.specs.declared.batch.Batch.{Batch}
use Rattle.attr_loader.specs.declared.batch.Batch.TheVariants.{Done, Full}

pub after_ops-append : (fields : List Field) (table : Table) (xs ys : List Op) → after_ops fields table (xs ++ ys) ≡ after_ops fields (after_ops fields table xs) ys
after_ops-append fields table [] ys = refl
after_ops-append fields table (x ∷ xs) ys = after_ops-append fields (after_op fields table x) xs ys

pub skipped_ops-append : (fields : List Field) (table : Table) (xs ys : List Op)
    → skipped_ops fields table (xs ++ ys) ≡ skipped_ops fields table xs + skipped_ops fields (after_ops fields table xs) ys
skipped_ops-append fields table [] ys = omega arith
skipped_ops-append fields table (x ∷ xs) ys = let h = skipped_ops-append fields (after_op fields table x) xs ys in omega (arith, h)

abbrev by_one : Bool → ℕ
by_one b = if b then 1 else 0

skips_by : (b : Bool) → skips_of (if b then Skipped else Changed) ≡ (if b then 1 else 0)
skips_by true = refl
skips_by false = refl

pub at_most_one : (applied : Applied) → skips_of applied ≤ 1
at_most_one Skipped = omega arith
at_most_one Changed = omega arith

one_at_most : (b : Bool) → (if b then 1 else 0) ≤ 1
one_at_most true = omega arith
one_at_most false = omega arith

pub skipped_ops-few : (fields : List Field) (table : Table) (ops : List Op) → skipped_ops fields table ops ≤ length ops
skipped_ops-few fields table [] = omega arith
skipped_ops-few fields table (x ∷ ops) =
    let rest = skipped_ops-few fields (after_op fields table x) ops in
    let one = one_at_most (is_skipped fields table x) in
    omega (arith, rest, one)

-- a commit is one more, and of as many readers
pub commit_number : {H : Type 0} (old new : Ledger H) (bits : ℕ) (image : Image) (info : CommitInfo) → CommitsImage bits old new image info
    → new.work.commits.last ≡ old.work.commits.last + 1
commit_number old new bits image info made =
    let stores = made.stores in
    stores.reclaim_keeps.last ∙ stores.advance_keeps.last ∙ stores.adds.last ∙ ap (λ n. n + 1) made.prepares.commits.last

with_hold-made : {H : Type 0} (work : WorkView H) (finished : Option ℕ) → (with_hold work finished).made ≡ work.made
with_hold-made work None = refl
with_hold-made work (Some b) = refl

pub commit_readers : {H : Type 0} (old new : Ledger H) (bits : ℕ) (image : Image) (info : CommitInfo) → CommitsImage bits old new image info
    → new.work.made ≡ old.work.made
commit_readers {H = H} old new bits image info made =
    let stores = made.stores in
    ap (λ (w : WorkView H). w.made) stores.work ∙ ap (λ (w : WorkView H). w.made) stores.next_is
    ∙ with_hold-made (published made.mid.work stores.commits image) made.mid.finished ∙ made.prepares.readers

module _ {S H : Type 0} (ledger : S → Ledger H) where
  pub keeps_of : (old new : AttributeView S) → KeepsStore (ledger old.store) (ledger new.store) → new.fields ≡ old.fields → new.dense ≡ old.dense → new.committed ≡ old.committed
      → new.committed_operations ≡ old.committed_operations
      → KeepsCommit ledger old new
  keeps_of old new keeps fields dense committed count = record {
    stays = record { home = keeps.home; sizes = keeps.sizes; readers = keeps.readers; fields = fields; dense = dense };
    told = keeps.told;
    last = keeps.commits.last;
    committed = committed;
    committed_operations = count;
  }

  -- a step of a compaction
  pub keeps_table : (old new : AttributeView S) → KeepsStoreBut (ledger old.store) (ledger new.store) → new.fields ≡ old.fields → new.dense ≡ old.dense → new.table ≡ old.table → new.operations ≡ old.operations
      → new.committed ≡ old.committed → new.committed_operations ≡ old.committed_operations → KeepsTable ledger old new
  keeps_table old new keeps fields dense table operations committed count = record {
    keeps = record {
      stays = record { home = keeps.home; sizes = keeps.sizes; readers = keeps.readers; fields = fields; dense = dense };
      told = keeps.told;
      last = keeps.commits.last;
      committed = committed;
      committed_operations = count;
    };
    table = table;
    operations = operations;
  }

  pub stays_on : (a b c : AttributeView S) → StaysIn ledger a b → StaysIn ledger b c → StaysIn ledger a c
  stays_on a b c first second = record {
    home = second.home ∙ first.home;
    sizes = second.sizes ∙ first.sizes;
    readers = second.readers ∙ first.readers;
    fields = second.fields ∙ first.fields;
    dense = second.dense
        ∙ first.dense;
  }

  pub keeps_on : (a b c : AttributeView S) → KeepsCommit ledger a b → KeepsCommit ledger b c → KeepsCommit ledger a c
  keeps_on a b c first second = record {
    stays = stays_on a b c first.stays second.stays;
    told = second.told ∙ first.told;
    last = second.last ∙ first.last;
    committed = second.committed ∙ first.committed;
    committed_operations = second.committed_operations ∙ first.committed_operations;
  }

  -- what is committed and then compacted
  pub commits_on : (a b c : AttributeView S) (count skipped more : ℕ) → CommitsBatch ledger a b count skipped (Done more) → KeepsTable ledger b c → CommitsBatch ledger a c count skipped (Done more)
  commits_on a b c count skipped more made kept =
      let commit = made.1 in
      let fields : c.fields ≡ b.fields = kept.keeps.stays.fields in (
        made.0,
        record {
          stays = stays_on a b c commit.stays kept.keeps.stays;
          table = kept.table ∙ commit.table;
          operations = kept.operations ∙ commit.operations;
          committed = kept.keeps.committed ∙ commit.committed ∙ sym kept.table;
          committed_operations = kept.keeps.committed_operations ∙ commit.committed_operations ∙ sym kept.operations;
          number = kept.keeps.last ∙ commit.number;
          image = commit.image;
          told = kept.keeps.told ∙ commit.told;
          lawful = subst (λ (fs : List Field). IsLawfulImage (shape_of (types_of fs)) (words_at commit.image) commit.image.root) (sym fields) commit.lawful;
          image_operations = commit.image_operations ∙ sym kept.operations;
          image_table = ap (λ (fs : List Field). table_of (shape_of (types_of fs)) (words_at commit.image) commit.image.root) fields ∙ commit.image_table ∙ sym kept.table;
        },
      )

  -- what is applied and then committed, or finds no room for the commit
  pub loads_of : {E : Type 0} (a b c : AttributeView S) (ops : List Op) (skipped count : ℕ) (o : Result Batch E) → 0 < length ops → count ≡ length ops → AppliesAll ledger a b ops skipped
      → IfOk o (CommitsBatch ledger b c count skipped) → IfOk o (LoadsBatch ledger a c ops)
  loads_of a b c ops skipped count (Err e) some long applies made = tt
  loads_of a b c ops skipped count (Ok (Done more)) some long applies made =
      record { mid = b; applies = subst (AppliesAll ledger a b ops) (sym made.0) applies; commits = made.1 }
  loads_of a b c ops skipped count (Ok (Full before active held)) some long applies made =
      let is = made.0 in
      record {
        keeps = keeps_on a b c applies.keeps made.1.keeps.keeps;
        some = omega (arith, is, long, some);
        most = omega (arith, is, long);
        full = made.1.full;
        applied = length ops;
        table = made.1.keeps.table ∙ applies.table ∙ ap (after_ops a.fields a.table) (sym (take-length ops));
        operations = made.1.keeps.operations ∙ applies.operations;
        fits = omega arith;
        refused = record {
          old = ledger b.store;
          keeps = made.1.store;
          width = made.1.width;
          oldest = made.1.oldest;
          call = inr (record { number_is = is ∙ long; is_last = refl; refuses = made.1.refuses });
        };
      }

  full_store : (old : Ledger H) (c : AttributeView S) (width active held : ℕ) (oldest : Oldest) → IsOutOfRoom old (ledger c.store) width active held oldest → IsFullStore ledger c active held
  full_store old c width active held oldest out = record { free = out.free; active_is = out.active_is; held_is = out.held_is; all = out.all; unread = out.unread }

  -- an operation that was refused, after so many
  pub stops_at : (a b c : AttributeView S) (ops : List Op) (op : Op) (done skipped width active held : ℕ) (oldest : Oldest) (error : AttrError) → done < length ops → slice_get ops done ≡ Some op
      → AppliesAll ledger a b (take done ops) skipped → KeepsCommit ledger b c → KeepsStore (ledger b.store) (ledger c.store) → c ≡ record b { store = c.store }
      → IsRefusedOperation (ledger b.store) (ledger c.store) b.dense b.fields b.table op error → error ≡ errors.Full width active held oldest
      → FindsNoRoom ledger a c ops (done + 1) active held
  stops_at a b c ops op done skipped width active held oldest error below is applies keeps store left refuses error_is =
      let here = subst (IsRefusedOperation (ledger b.store) (ledger c.store) b.dense b.fields b.table op) error_is refuses in
      let there = subst (λ (v : AttributeView S). IsRefusedOperation (ledger b.store) (ledger c.store) v.dense v.fields v.table op (errors.Full width active held oldest)) (sym left) here in
      let fits : done ≤ length ops = omega (arith, below) in
      record {
        keeps = keeps_on a b c applies.keeps keeps;
        some = omega arith;
        most = omega (arith, below);
        full = full_store (ledger b.store) c width active held oldest here.refused;
        applied = done;
        table = ap (λ (v : AttributeView S). v.table) left ∙ applies.table;
        operations = ap (λ (v : AttributeView S). v.operations) left ∙ applies.operations ∙ ap (λ n. a.operations + n) (length-take-le done ops fits);
        fits = fits;
        refused = record {
          old = ledger b.store;
          keeps = store;
          width = width;
          oldest = oldest;
          call = inl (record { number_is = refl; op = op; is_next = is; refuses = there });
        };
      }

  -- a commit that was refused
  pub cannot_commit : (b c : AttributeView S) (width active held : ℕ) (oldest : Oldest) (error : AttrError) → KeepsCommit ledger b c → KeepsStore (ledger b.store) (ledger c.store)
      → c ≡ record b { store = c.store } → IsRefusedCommit (ledger b.store) (ledger c.store) b.fields error → error ≡ errors.Full width active held oldest → CannotCommit ledger b c active held
  cannot_commit b c width active held oldest error keeps store left refuses error_is =
      let here = subst (IsRefusedCommit (ledger b.store) (ledger c.store) b.fields) error_is refuses in
      record {
        keeps = record { keeps = keeps; table = ap (λ (v : AttributeView S). v.table) left; operations = ap (λ (v : AttributeView S). v.operations) left };
        full = full_store (ledger b.store) c width active held oldest here.refused.room;
        store = store;
        width = width;
        oldest = oldest;
        refuses = subst (λ (v : AttributeView S). IsRefusedCommit (ledger b.store) (ledger c.store) v.fields (errors.Full width active held oldest)) (sym left) here;
      }

  pub applies_none : (a : AttributeView S) → AppliesAll ledger a a [] 0
  applies_none a = record {
    keeps = record { stays = record { home = refl; sizes = refl; readers = refl; fields = refl; dense = refl }; told = refl; last = refl; committed = refl; committed_operations = refl };
    table = refl;
    operations = omega arith;
    skips = refl;
  }

  module _ (a b c : AttributeView S) (ops : List Op) (op : Op) (skipped : ℕ) (before : AppliesAll ledger a b ops skipped) (keeps : KeepsCommit ledger b c)
      (table : c.table ≡ after_op b.fields b.table op) (operations : c.operations ≡ b.operations + 1) (applied : Applied) (is : applied ≡ applied_to b.fields b.table op) where
    here : is_skipped b.fields b.table op ≡ is_skipped a.fields (after_ops a.fields a.table ops) op
    here = ap (λ fields. is_skipped fields b.table op) before.keeps.stays.fields ∙ ap (λ t. is_skipped a.fields t op) before.table

    one : skipped_ops a.fields a.table (ops ++ op ∷ []) ≡ skipped_ops a.fields a.table ops + (if is_skipped b.fields b.table op then 1 else 0)
    one =
        let more = skipped_ops-append a.fields a.table ops (op ∷ []) in
        let same = ap by_one here in
        omega (arith, more, same)

    more : (now : ℕ) → now ≡ skipped + (if is_skipped b.fields b.table op then 1 else 0) → AppliesAll ledger a c (ops ++ op ∷ []) now
    more now count = record {
      keeps = keeps_on a b c before.keeps keeps;
      table = table ∙ ap (λ fields. after_op fields b.table op) before.keeps.stays.fields ∙ ap (λ t. after_op a.fields t op) before.table ∙ sym (after_ops-append a.fields a.table ops (op ∷ []));
      operations = (let o = before.operations in let l = length_push ops op in omega (arith, operations, o, l));
      skips = (let s = before.skips in omega (arith, count, s, one));
    }

    pub one_more : AppliesAll ledger a c (ops ++ op ∷ []) (skipped + skips_of applied)
    one_more = more (skipped + skips_of applied) (ap (λ n. skipped + n) (ap skips_of is ∙ skips_by (is_skipped b.fields b.table op)))
