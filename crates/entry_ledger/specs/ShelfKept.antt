-- What a shelf keeps in its lists: the free entries, and those that the unit changed. Each list has space for all
-- entries.
use Rattle.std.specs.Prelude.{ℕ, ◌^◌, ◌<◌, ◌≤◌, List, length}
use Rattle.entry_ledger.specs.declared.state.State.{State}
use Rattle.entry_ledger.specs.declared.state.State.TheVariants.{Free}
use Rattle.entry_ledger.specs.States.{is_free_state, is_touched}
use Rattle.entry_ledger.specs.Stacks.{IsStack}

pub record IsShelf (states : List State) (free touched : List ℕ) (room cap1 cap2 cap3 : ℕ) : Type 0 where
  pub taken : length states ≤ room
  pub fits : room < 2 ^ 32
  pub free_is : IsStack Free is_free_state states free
  pub touched_is : IsStack Free is_touched states touched
  pub room1 : room ≤ cap1
  pub room2 : room ≤ cap2
  pub room3 : room ≤ cap3
