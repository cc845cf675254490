-- What is kept where a buffer is marked finished, or another generation is the current one.
use Rattle.std.proofs.Common.{◌≡◌, ℕ, ◌≤◌, Bool, true, false, ◌&&◌, cond, eqb, leb, List, Option, None, Some, refl, sym, subst, ◌∙◌, arith}
use Rattle.std.proofs.lemmas.List.Elements.{All-weaker}
use Rattle.std.proofs.lemmas.Bool.{and_parts, leb-true, le-leb, true≢false}
use Rattle.list_lemmas.proofs.Options.{same_Some}
use Rattle.entry_ref.specs.References.{buffer_of}
use Rattle.buffer_states.specs.Buffers.{is_state_active, is_on_hold}
use Rattle.entry_ledger.specs.declared.state.State.{State}
use Rattle.entry_ledger.specs.declared.state.State.TheVariants.{Free, Returned, Made, InUse, LetGo, DroppedNow, Dropped}
use Rattle.hold_lists.specs.Held.{HeldEntry, HoldTag}
use Rattle.entry_ledger.specs.Entries.{is_timely, is_dropped_since}
use Rattle.entry_ledger.specs.Ledgers.{LedgerView, entries_of, IsHeldList, tag_fits, tag_below, is_in_list, AreEntries}
use Rattle.entry_ledger.proofs.Takes.{entries_in}

-- another list over the same shelves
pub list-kept : (bits : ℕ) (v : LedgerView) (held : List HeldEntry) (room unheld : ℕ) → AreEntries bits v held room unheld → (later : List HeldEntry) (space : ℕ)
    → IsHeldList bits (entries_of bits v) later → unheld ≤ space → AreEntries bits v later space unheld
list-kept bits v held room unheld k later space list fits = record {
  count = k.count;
  few_buffers = k.few_buffers;
  some_words = k.some_words;
  few_words = k.few_words;
  offsets = k.offsets;
  product = k.product;
  made_rows = k.made_rows;
  filled_rows = k.filled_rows;
  counted = k.counted;
  filled = k.filled;
  flagged = k.flagged;
  enough = k.enough;
  sound = k.sound;
  list = list;
  unheld_is = k.unheld_is;
  fits = fits;
}

module _ (bits : ℕ) (v : LedgerView) (held : List HeldEntry) (room unheld : ℕ) (k : AreEntries bits v held room unheld) where
  pub finish-kept : (b : ℕ) → ((entries_in bits v).mark b).sealed ≡ true → AreEntries bits (record v { finished = Some b }) held room unheld
  unfolding entries_of
  finish-kept b sealed = record {
    count = k.count;
    few_buffers = k.few_buffers;
    some_words = k.some_words;
    few_words = k.few_words;
    offsets = k.offsets;
    product = k.product;
    made_rows = k.made_rows;
    filled_rows = k.filled_rows;
    counted = k.counted;
    filled = k.filled;
    flagged = k.flagged;
    enough = k.enough;
    sound = record {
      order = k.sound.order;
      up_to = k.sound.up_to;
      marks = λ a. record { width = (k.sound.marks a).width; from = (k.sound.marks a).from; to = (k.sound.marks a).to };
      sealed = λ a is. record { below = (k.sound.sealed a is).below; active = (k.sound.sealed a is).active; unfilled = (k.sound.sealed a is).unfilled };
      finished = λ a is. subst (λ n. ((entries_in bits v).mark n).sealed ≡ true) (same_Some b a is) sealed;
      few_made = k.sound.few_made;
      whole = k.sound.whole;
    };
    list = record { each = k.list.each; apart = k.list.apart; all = k.list.all };
    unheld_is = k.unheld_is;
    fits = k.fits;
  }

  later : (generation : ℕ) → v.generation ≤ generation → (s : State) → is_timely (entries_in bits v) s ≡ true → is_timely (entries_in bits (record v { generation = generation })) s ≡ true
  later generation rises Free is = refl
  later generation rises Returned is = refl
  later generation rises Made is = refl
  later generation rises (InUse after) is = is
  later generation rises LetGo is = refl
  later generation rises (DroppedNow after) is = is
  later generation rises (Dropped after g) is = parts (leb after v.last) (leb v.oldest g) (leb g v.generation) is (λ low. le-leb g generation (let below = leb-true g v.generation low in omega (arith, below, rises)))
    where
      parts : (a b c : Bool) → (a && b && c) ≡ true → (c ≡ true → leb g generation ≡ true) → (a && b && leb g generation) ≡ true
      parts true true true e next = next refl
      parts true true false e next = absurd (true≢false (sym e))
      parts true false c e next = absurd (true≢false (sym e))
      parts false b c e next = absurd (true≢false (sym e))

  -- an entry of the list that has no tag was dropped since the last commit
  tagged-fits : (generation : ℕ) (tag : Option HoldTag) (state : Option State) → is_dropped_since v.last state ≡ false → tag_fits v.last v.generation tag state ≡ true → tag_fits v.last generation tag state ≡ true
  tagged-fits generation None None since is = is
  tagged-fits generation None (Some Free) since is = is
  tagged-fits generation None (Some Returned) since is = is
  tagged-fits generation None (Some Made) since is = is
  tagged-fits generation None (Some (InUse after)) since is = is
  tagged-fits generation None (Some LetGo) since is = is
  tagged-fits generation None (Some (DroppedNow after)) since is = is
  tagged-fits generation None (Some (Dropped after g)) since is = absurd (true≢false (sym (and_parts (eqb after v.last) (eqb g v.generation) is).0 ∙ since))
  tagged-fits generation (Some tag) None since is = is
  tagged-fits generation (Some tag) (Some Free) since is = is
  tagged-fits generation (Some tag) (Some Returned) since is = is
  tagged-fits generation (Some tag) (Some Made) since is = is
  tagged-fits generation (Some tag) (Some (InUse after)) since is = is
  tagged-fits generation (Some tag) (Some LetGo) since is = is
  tagged-fits generation (Some tag) (Some (DroppedNow after)) since is = is
  tagged-fits generation (Some tag) (Some (Dropped after g)) since is = is

  pub advance-kept : (generation : ℕ) → v.generation ≤ generation → ((r : ℕ) → is_dropped_since v.last ((entries_in bits v).state r) ≡ false)
      → AreEntries bits (record v { generation = generation }) held room unheld
  unfolding entries_of
  advance-kept generation rises tagged = record {
    count = k.count;
    few_buffers = k.few_buffers;
    some_words = k.some_words;
    few_words = k.few_words;
    offsets = k.offsets;
    product = k.product;
    made_rows = k.made_rows;
    filled_rows = k.filled_rows;
    counted = k.counted;
    filled = k.filled;
    flagged = k.flagged;
    enough = k.enough;
    sound = record {
      order = omega (arith, k.sound.order, rises);
      up_to = λ r s is. later generation rises s (k.sound.up_to r s is);
      marks = λ a. record { width = (k.sound.marks a).width; from = (k.sound.marks a).from; to = λ is. (let below = (k.sound.marks a).to is in omega (arith, below, rises)) };
      sealed = λ a is. record { below = (k.sound.sealed a is).below; active = (k.sound.sealed a is).active; unfilled = (k.sound.sealed a is).unfilled };
      finished = k.sound.finished;
      few_made = k.sound.few_made;
      whole = k.sound.whole;
    };
    list = record {
      each = All-weaker (λ h. is_in_list bits (entries_in bits v) h ≡ true) (λ h. is_in_list bits (entries_in bits (record v { generation = generation })) h ≡ true) each held k.list.each;
      apart = k.list.apart;
      all = k.list.all;
    };
    unheld_is = k.unheld_is;
    fits = k.fits;
  }
    where
      each : (h : HeldEntry) → is_in_list bits (entries_in bits v) h ≡ true → is_in_list bits (entries_in bits (record v { generation = generation })) h ≡ true
      each h = by_state (is_state_active ((entries_in bits v).mark (buffer_of bits h.entry)).state)
        where
          by_state : (a : Bool) → cond a (tag_fits v.last v.generation h.tag ((entries_in bits v).state h.entry))
              (cond (is_on_hold ((entries_in bits v).mark (buffer_of bits h.entry)).state) (tag_below ((entries_in bits v).mark (buffer_of bits h.entry)).generation h.tag) false) ≡ true
              → cond a (tag_fits v.last generation h.tag ((entries_in bits v).state h.entry))
              (cond (is_on_hold ((entries_in bits v).mark (buffer_of bits h.entry)).state) (tag_below ((entries_in bits v).mark (buffer_of bits h.entry)).generation h.tag) false) ≡ true
          by_state true is = tagged-fits generation h.tag ((entries_in bits v).state h.entry) (tagged h.entry) is
          by_state false is = is
