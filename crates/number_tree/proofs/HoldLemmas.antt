-- A tree that is all that is in use stays so through a unit and through a commit.
use Rattle.std.proofs.Common.{◌≡◌, ℕ, [], ◌∷◌, true, false, Option, None, Some, is_some, refl, sym, ap, subst, ◌∙◌, arith, true≢false}
use Rattle.std.specs.List.Sorted.{IsStrictlySortedBy}
use Rattle.std.specs.Ordering.{nat_cmp}
use Rattle.list_lemmas.proofs.Each.{AllByRecursion-each}
use Rattle.entry_ref.specs.References.{buffer_of}
use Rattle.entry_ref.specs.Images.{image_of, words_at}
use Rattle.entry_ref.specs.Records.{Records, SameAt, AllThere}
use Rattle.arena_api.specs.Calls.{published}
use Rattle.arena_api.specs.Works.{WorkView}
use Rattle.tree_read.specs.ProofsForTrees.{tree_pairs-same, IsTree-same, tree_there}
use Rattle.tree_read.specs.Trees.{tree_pairs, tree_nodes, by_number, IsTree}
use Rattle.tree_read.specs.Keys.{IsKeyedTree}
use Rattle.store_api.specs.Statuses.{in_use}
use Rattle.store_api.specs.Ledgers.{Ledger, IsNew, IsSettled, is_this}
use Rattle.store_api.specs.Units.{MayDo}
use Rattle.store_api.specs.Calls.{Accepts, Undoes, Refuses, IsFull, IsWhole, StoresCommit, with_hold}
use Rattle.store_api.specs.Parts.{Owns, OwnsAll, Turns, After, times, uses}
use Rattle.store_api.specs.declared.store.Stored.{Stored}
use Rattle.store_api.specs.declared.store.StoreError.{StoreError}
use Rattle.store_api.specs.declared.store.StoreError.TheVariants.{Full, Memory}
use Rattle.store_api.proofs.CommitLemmas.{whole-from, commit-same, commit-owns}
use Rattle.store_api.proofs.PartLemmas.{all-owns, all-then}
use Rattle.store_api.proofs.UnitLemmas.{unit-accepts, accept-stays, undone}
use Rattle.store_api.proofs.Uses.{uses-out}
use Rattle.frozen_btree.specs.Changes.{tree}
use Rattle.frozen_btree.specs.Makes.{CountsNodes}
use Rattle.number_tree.specs.Maps.{HoldsTree, IsRefusal}

-- a number is read from nothing
pub number_keyed : (m : Records) (root : ℕ) → IsTree nat_cmp by_number m root → IsKeyedTree nat_cmp by_number (λ n key. Unit {0}) (λ n key. []) m root
number_keyed m root is = record {
  tree = is;
  readable = AllByRecursion-each (λ (p : ℕ × ℕ). Unit {0}) (λ p. tt) (tree_pairs m root);
  apart = AllByRecursion-each (λ (p : ℕ × ℕ). Unit {0}) (λ p. tt) (tree_pairs m root);
}

module _ {H : Type 0} (old begun mid new : Ledger H) (m k o : Records) (root : ℕ) (holds : HoldsTree old m root)
    (begins : begun ≡ record old { unit = true }) (records : k ≡ m) where
  pub begun_owns : Owns begun k (tree root ∷ [])
  begun_owns = record {
    each = λ r.
        let all = holds.owns.each r in
        let same : uses begun r ≡ uses old r = ap (λ (l : Ledger H). uses l r) begins in
        let nodes = ap (λ (f : Records). times r (tree_nodes f root)) records in
        omega arith;
  }

  pub begun_tree : IsTree nat_cmp by_number k root
  begun_tree = subst (λ f. IsTree nat_cmp by_number f root) (sym records) holds.is_tree

  module _ (may : MayDo begun mid) where
    ends_finished : new.finished ≡ mid.finished → new.finished ≡ None
    ends_finished e = e ∙ may.finished ∙ ap (λ (l : Ledger H). l.finished) begins ∙ holds.finished

    -- the work below has as many commits, and is as large
    pub ends_last : new.work ≡ mid.work → new.work.commits.last ≡ old.work.commits.last
    ends_last e = ap (λ (w : WorkView H). w.commits.last) e ∙ may.commits.last ∙ ap (λ (l : Ledger H). l.work.commits.last) begins

    pub ends_sizes : new.work ≡ mid.work → new.work.sizes ≡ old.work.sizes
    ends_sizes e = ap (λ (w : WorkView H). w.sizes) e ∙ may.sizes ∙ ap (λ (l : Ledger H). l.work.sizes) begins

    -- a node was refused within the unit, which was undone
    pub is_refusal : (most : ℕ) (e : StoreError) → CountsNodes begun mid most → Refuses begun mid 34 e → Undoes mid new o → IsRefusal old new o most e
    is_refusal most (Full w a h oldest) counts (is, full) undoes =
        let made : CountsNodes (record old { unit = true }) mid most = subst (λ l. CountsNodes l mid most) begins counts in
        let was : IsFull (record old { unit = true }) mid w a h oldest =
        subst (λ l. IsFull l mid w a h oldest) begins (subst (λ x. IsFull begun mid x a h oldest) (sym is) full) in
        record {
          node = is;
          mid = mid;
          counts = record { nodes = made.nodes; others = made.others };
          full = record {
            spare = was.spare;
            made = was.made;
            free = was.free;
            active_is = was.active_is;
            held_is = was.held_is;
            all = was.all;
            unread = was.unread;
            generation = was.generation;
            hold = was.hold;
            newest = was.newest;
            stopped = was.stopped;
            found = was.found;
          };
          undoes = undoes;
        }
    is_refusal most Memory counts refuses undoes = tt

    -- a unit that is accepted
    module _ (n : Records) (next : ℕ) (turns : Turns begun mid k n (tree root ∷ []) (tree next ∷ [])) (accepts : Accepts mid new n o) where
      done : After old new m o (tree root ∷ []) (tree next ∷ []) []
      done = unit-accepts old begun mid new m k n o (tree root ∷ []) (tree next ∷ []) (all-owns old m (tree root ∷ []) holds.owns) begins records turns accepts

      same_next : SameAt (tree_nodes n next) n o
      same_next = (accept-stays old begun mid new m k n o (tree root ∷ []) (tree next ∷ []) (all-owns old m (tree root ∷ []) holds.owns) begins records turns accepts).0

      pub holds_next : IsTree nat_cmp by_number n next → HoldsTree new o next
      holds_next is = record {
        is_tree = IsTree-same nat_cmp by_number n o next same_next refl is;
        owns = all-then old new m o (tree root ∷ []) (tree next ∷ []) holds.owns done.turns;
        unit = accepts.unit;
        finished = ends_finished accepts.finished;
      }

      pub pairs_next : tree_pairs o next ≡ tree_pairs n next
      pairs_next = tree_pairs-same n o next same_next

    -- a unit that is undone
    module _ (settled : IsSettled old m) (undoes : Undoes mid new o) where
      pub left_same : o ≡ m
      left_same = (undone old begun mid new m o settled begins may undoes).0

      pub holds_still : HoldsTree new o root
      holds_still =
          let both = undone old begun mid new m o settled begins may undoes in
          record {
            is_tree = subst (λ f. IsTree nat_cmp by_number f root) (sym both.0) holds.is_tree;
            owns = record { each = λ r. let all = holds.owns.each r in let used = both.1 r in let nodes = ap (λ (f : Records). times r (tree_nodes f root)) both.0 in omega arith };
            unit = undoes.unit;
            finished = ends_finished undoes.finished;
          }

-- a commit
module _ {H : Type 0} (bits : ℕ) (old new : Ledger H) (m n : Records) (root : ℕ) (holds : HoldsTree old m root) where
  pub tree_whole : IsWhole bits old (tree_nodes m root)
  tree_whole = whole-from bits old m (tree root) [] holds.owns (λ r some. absurd (omega arith)) (λ r among. ap (λ f. is_this f (buffer_of bits r)) holds.finished)

  module _ (answer : Stored) (records : n ≡ words_at (image_of (tree_nodes m root) m root)) (stores : StoresCommit bits old new (image_of (tree_nodes m root) m root) answer) where
    there : AllThere (tree_nodes m root) m
    there = tree_there m root holds.is_tree.node

    pub same_commit : SameAt (tree_nodes m root) m n
    same_commit =
        subst (λ f. SameAt (tree_nodes m root) m f) (sym records)
        (commit-same bits old new m (tree root) [] root answer holds.owns tree_whole there stores)

    pub holds_commit : HoldsTree new n root
    holds_commit = record {
      is_tree = IsTree-same nat_cmp by_number m n root same_commit refl holds.is_tree;
      owns = subst (λ f. OwnsAll new f (tree root ∷ [])) (sym records) (commit-owns bits old new m (tree root) [] root answer holds.owns tree_whole there stores);
      unit = stores.unit;
      finished = stores.finished;
    }

    pub sizes_commit : new.work.sizes ≡ old.work.sizes
    sizes_commit =
        ap (λ (w : WorkView H). w.sizes) stores.work ∙ ap (λ (w : WorkView H). w.sizes) stores.next_is
        ∙ ap (λ f. (with_hold (published old.work stores.commits (image_of (tree_nodes m root) m root)) f).sizes) holds.finished

-- a store of which nothing was made holds the empty tree
pub holds_nothing : {H : Type 0} (ledger : Ledger H) (m : Records) → IsNew ledger → HoldsTree ledger m 0
unfolding IsStrictlySortedBy
holds_nothing ledger m new = record {
  is_tree = record { node = λ some. absurd (omega arith); ascends = tt };
  owns = record { each = λ r. let none = uses-out ledger r (ap in_use (new.status r)) in omega arith };
  unit = new.unit;
  finished = new.finished;
}

pub none_of : (o : Option ℕ) → is_some o ≡ false → o ≡ None
none_of None none = refl
none_of (Some x) none = absurd (true≢false none)
