-- How much of the store behind an engine is in use.
use Rattle.std.specs.Prelude.{◌≡◌, ℕ, Bool}
use Rattle.atomic_table.specs.Seated.{TableId}
use Rattle.store_api.specs.Ledgers.{Ledger}
use Rattle.store_api.specs.Usages.{IsUsage}
use Rattle.store_api.specs.declared.store.Usage.{Usage}
use Rattle.gen_core.specs.declared.views.WriterView.{WriterView}
use Rattle.arena_api.specs.Works.{Sizes}
use Rattle.word_arena.specs.Knows.{view_of}
use Rattle.word_arena.specs.Ruled.{api_sizes, writer_of}
use Rattle.gen_core.specs.Work.{writer_records}
use Rattle.entry_ledger.specs.Ledgers.{LedgerView, entries_of}
use Rattle.entry_ref.specs.Records.{Records}
use Rattle.entry_store.specs.Standing.{ledger_of, records_by_status, statuses}
use Rattle.attribute_kinds.specs.Views.{AttributeView}
use Rattle.attr_c.specs.declared.state.AnyOpen.{AnyOpen}
use Rattle.attr_c.specs.declared.state.AnyOpen.TheVariants.{Narrow, Wide}

-- the ledger of a store over a memory, whose references have this many bits for the place in a buffer
abbrev pub ledger_over : {H : Type 0} → ℕ → H → WriterView → LedgerView → Bool → Ledger H
ledger_over bits home writer entries unit =
    ledger_of bits (view_of home writer) writer.sizes.shape (writer_records writer) (entries_of bits entries) unit

-- the records of such a store
abbrev pub records_over : {H : Type 0} → ℕ → H → WriterView → LedgerView → Records
records_over bits home writer entries =
    records_by_status (statuses (view_of home writer).commits (entries_of bits entries)) (writer_records writer)

abbrev pub open_ledger : AnyOpen → Ledger TableId
open_ledger (Narrow o) =
    let store = o.attribute.store in
    ledger_over 22 store.work.place.table_id (writer_of store.work.place.me.0) store.entries store.unit
open_ledger (Wide o) =
    let store = o.attribute.store in
    ledger_over 19 store.work.place.table_id (writer_of store.work.place.me.0) store.entries store.unit

-- what holds of the attributes of an engine before and after a call, by the bits of a reference for the place in a buffer, and
-- by the ledger and the records of their store
abbrev pub OfOpen : ((S : Type 0) → ℕ → AttributeView S → AttributeView S → (S → Ledger TableId) → (S → Records) → Type 0)
    → AnyOpen → AnyOpen → Type 0
OfOpen holds (Narrow old) (Narrow new) =
    holds _ 22 old.attribute new.attribute
    (λ store. ledger_over 22 store.work.place.table_id (writer_of store.work.place.me.0) store.entries store.unit)
    (λ store. records_over 22 store.work.place.table_id (writer_of store.work.place.me.0) store.entries)
OfOpen holds (Wide old) (Wide new) =
    holds _ 19 old.attribute new.attribute
    (λ store. ledger_over 19 store.work.place.table_id (writer_of store.work.place.me.0) store.entries store.unit)
    (λ store. records_over 19 store.work.place.table_id (writer_of store.work.place.me.0) store.entries)
OfOpen holds old new = ⊥

-- the bits of a reference for the place in a buffer
abbrev pub open_bits : AnyOpen → ℕ
open_bits (Narrow o) = 22
open_bits (Wide o) = 19

abbrev pub IsOpenUsage : AnyOpen → Usage → Type 0
IsOpenUsage o usage = IsUsage (open_bits o) (open_ledger o) usage

-- the sizes of the memory behind an engine
abbrev pub open_memory : AnyOpen → Sizes
open_memory (Narrow o) = api_sizes (writer_of o.attribute.store.work.place.me.0).sizes
open_memory (Wide o) = api_sizes (writer_of o.attribute.store.work.place.me.0).sizes

-- a memory of this many buffers of this many words, for so many commits and generations
pub record HasMemory (buffers words commits generations : ℕ) (sizes : Sizes) : Type 0 where
  pub buffers_are : sizes.buffers ≡ buffers
  pub words_are : sizes.words ≡ words
  pub commits_are : sizes.commits ≡ commits
  pub generations_are : sizes.generations ≡ generations
