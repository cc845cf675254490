-- The list is emptied of what is tagged below the oldest generation, entry by entry.
use Rattle.std.proofs.Common.{◌≡◌, ℕ, ◌+◌, ◌<◌, List, length, Some, sym, ap, subst, ◌∙◌, arith}
use Rattle.std.specs.Option.{option_map}
use Rattle.std.specs.List.{find}
use Rattle.std.proofs.lemmas.List.Edits.{length-remove}
use Rattle.entry_ref.specs.References.{buffer_of}
use Rattle.buffer_states.specs.declared.Buffer.{Buffer}
use Rattle.entry_ledger.specs.Shelves.{ShelvesView, shelf_at}
use Rattle.hold_lists.specs.Held.{HeldEntry, HeldList, is_below, without_first}
use Rattle.entry_ledger.specs.Entries.{EntriesView}
use Rattle.entry_ledger.specs.Ledgers.{LedgerView, entries_of, CanRelease, Releases, AreEntries}
use Rattle.entry_ledger.proofs.Pops.{IsAt, found-at, IsNamed, named}
use Rattle.entry_ledger.proofs.Releases.{Freeing, can-release, release-kept, release-freeing}

pub record IsEmptying (bits oldest : ℕ) (first : EntriesView) (v : LedgerView) (list : HeldList) (unheld : ℕ) : Type 0 where
  pub kept : AreEntries bits v list.held list.room unheld
  pub far : Freeing oldest first (entries_of bits v)

-- the generations do not change on the way
pub emptying-generation : (bits oldest : ℕ) (first : EntriesView) (v : LedgerView) (list : HeldList) (unheld : ℕ) → IsEmptying bits oldest first v list unheld → v.generation ≡ first.generation
unfolding entries_of
emptying-generation bits oldest first v list unheld k = ap (λ (t : EntriesView). t.generation) k.far.same

module _ (bits oldest : ℕ) (first : EntriesView) (v : LedgerView) (list : HeldList) (unheld : ℕ) (k : IsEmptying bits oldest first v list unheld)
    (r : ℕ) (is : Some r ≡ option_map (λ (h : HeldEntry). h.entry) (find (is_below oldest) list.held)) where
  found : IsNamed (find (is_below oldest) list.held) r
  found = named (find (is_below oldest) list.held) r is

  abbrev width : ℕ → ℕ
  width q = (shelf_at v.shelves.shelves (buffer_of bits q)).width

  pub empty-can : 0 < (shelf_at v.shelves.shelves (buffer_of bits r)).width → CanRelease bits v.shelves v.buffers unheld r
  empty-can wide = subst (CanRelease bits v.shelves v.buffers unheld) found.entry
      (can-release bits v list.held list.room unheld k.kept oldest found.held found.found (subst (λ q. 0 < width q) (sym found.entry) wide))

  module _ (later : HeldList) (rest_is : later ≡ record { held = without_first (is_below oldest) list.held; room = list.room + 1 }) where
    pub empty-less : length later.held < length list.held
    empty-less =
        let at : IsAt (is_below oldest) list.held found.held = found-at (is_below oldest) list.held found.held found.found in
        let is_left = ap (λ (l : HeldList). length l.held) rest_is ∙ ap length at.rest in
        omega (arith, is_left, length-remove list.held at.place at.inside)

    pub empty-next : (new : ShelvesView) (buffers : List Buffer) (left : ℕ)
        → (0 < (shelf_at v.shelves.shelves (buffer_of bits r)).width → Releases bits r v.shelves new v.buffers buffers unheld left)
        → ((shelf_at v.shelves.shelves (buffer_of bits r)).width ≡ 0 → (new ≡ v.shelves) × (buffers ≡ v.buffers) × (left ≡ unheld))
        → IsEmptying bits oldest first (record v { shelves = new; buffers = buffers }) later left
    unfolding entries_of
    empty-next new buffers left free gone =
        let free_there : 0 < width found.held.entry → Releases bits found.held.entry v.shelves new v.buffers buffers unheld left =
        λ wide. subst (λ q. Releases bits q v.shelves new v.buffers buffers unheld left) (sym found.entry) (free (subst (λ q. 0 < width q) found.entry wide)) in
        let gone_there : width found.held.entry ≡ 0 → (new ≡ v.shelves) × (buffers ≡ v.buffers) × (left ≡ unheld) =
        λ none. gone (subst (λ q. width q ≡ 0) found.entry none) in
        subst (λ l. IsEmptying bits oldest first (record v { shelves = new; buffers = buffers }) l left) (sym rest_is) (record {
          kept = release-kept bits v list.held list.room unheld k.kept oldest found.held found.found first k.far new buffers left free_there gone_there;
          far = release-freeing bits v list.held list.room unheld k.kept oldest found.held found.found first k.far new buffers left free_there gone_there;
        })
