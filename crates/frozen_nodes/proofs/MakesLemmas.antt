-- Nodes made one after another.
use Rattle.std.proofs.Common.{◌≡◌, ℕ, ◌+◌, ◌<◌, ◌≤◌, true, length, refl, sym, ap, subst, ◌∙◌, arith, Result, Ok, Err, IsErrAnd}
use Rattle.std.specs.Prelude.{IfErr}
use Rattle.entry_ref.specs.Records.{Records}
use Rattle.arena_api.specs.Works.{Sizes}
use Rattle.store_api.specs.Statuses.{in_use}
use Rattle.store_api.specs.Ledgers.{Ledger, capacity}
use Rattle.store_api.specs.Units.{MayDo, MakesAtMost}
use Rattle.store_api.specs.Calls.{Refuses}
use Rattle.store_api.specs.declared.store.StoreError.{StoreError}
use Rattle.store_api.specs.declared.store.StoreError.TheVariants.{Full, Memory}
use Rattle.store_api.proofs.Counts.{at_most-none, at_most-then, at_most-more}
use Rattle.store_api.proofs.May.{may_do-same, may_do-then}
use Rattle.store_api.proofs.Uses.{uses-in, in-uses}
use Rattle.tree_read.specs.Trees.{Keeps}
use Rattle.frozen_nodes.specs.Makes.{CountsNodes, MakesNodes}

pub keeps-then : (m n o : Records) → Keeps m n → Keeps n o → Keeps m o
keeps-then m n o a b q some = let same = a q some in b q (subst (λ ws. 0 < length ws) (sym same) some) ∙ same

pub counts-then : {H : Type 0} (a b c : Ledger H) (first second most : ℕ) → first + second ≤ most → MayDo a b → CountsNodes a b first → CountsNodes b c second → CountsNodes a c most
counts-then a b c first second most room may x y =
    let same : capacity b.work.sizes.words 34 ≡ capacity a.work.sizes.words 34 = ap (λ (s : Sizes). capacity s.words 34) may.sizes in
    let next = subst (λ k. MakesAtMost k second (b.of_width 34) (c.of_width 34)) same y.nodes in
    record {
      nodes = at_most-more _ (first + second) most _ _ room (at_most-then _ first second _ _ _ x.nodes next);
      others = λ k width ne. at_most-then k 0 0 _ _ _ (x.others k width ne) (y.others k width ne);
    }

-- nothing was made
pub counts-none : {H : Type 0} (ledger : Ledger H) (most : ℕ) → CountsNodes ledger ledger most
counts-none ledger most = record { nodes = at_most-more _ 0 most _ _ (omega arith) (at_most-none _ _); others = λ c width ne. at_most-none c _ }

pub makes-none : {H : Type 0} (ledger : Ledger H) (m : Records) (most : ℕ) → MakesNodes ledger ledger m m most
makes-none ledger m most = record {
  keeps = λ q some. refl;
  stays = λ r. omega arith;
  counts = counts-none ledger most;
  may = may_do-same ledger;
}

-- one thing after another
pub makes-then : {H : Type 0} (a b c : Ledger H) (m n o : Records) (first second most : ℕ) → first + second ≤ most → MakesNodes a b m n first → MakesNodes b c n o second → MakesNodes a c m o most
makes-then a b c m n o first second most room x y = record {
  keeps = keeps-then m n o x.keeps y.keeps;
  stays = λ r. let p = x.stays r in let q = y.stays r in omega arith;
  counts = counts-then a b c first second most room x.may x.counts y.counts;
  may = may_do-then a b c x.may y.may;
}

pub makes-more : {H : Type 0} (a b : Ledger H) (m n : Records) (few most : ℕ) → few ≤ most → MakesNodes a b m n few → MakesNodes a b m n most
makes-more a b m n few most room x = record {
  keeps = x.keeps;
  stays = x.stays;
  counts = record { nodes = at_most-more _ few most _ _ room x.counts.nodes; others = x.counts.others };
  may = x.may;
}

-- what is in use stays so
pub makes-stays : {H : Type 0} (a b : Ledger H) (m n : Records) (most : ℕ) → MakesNodes a b m n most → (q : ℕ) → in_use (a.status q) ≡ true → in_use (b.status q) ≡ true
makes-stays a b m n most makes q used = let one = uses-in a q used in let more = makes.stays q in in-uses b q (omega arith)

-- a refusal, seen from before
pub refuses-from : {H : Type 0} (a b c : Ledger H) (width : ℕ) (e : StoreError) → MayDo a b → Refuses b c width e → Refuses a c width e
refuses-from a b c width (Full w active held oldest) may (is, full) = (
  is,
  record {
    spare = full.spare;
    made = full.made;
    free = full.free;
    active_is = full.active_is;
    held_is = full.held_is;
    all = full.all;
    unread = full.unread;
    generation = full.generation;
    hold = full.hold;
    newest = full.newest;
    stopped = λ it. let rest = full.stopped it in (rest.0, rest.1, let less = rest.2 in let more = may.stops in omega arith);
    found = full.found;
  },
)
refuses-from a b c width Memory may refuses = tt

pub refuses-if : {H A : Type 0} (a b c : Ledger H) (width : ℕ) (result : Result A StoreError) → MayDo a b → IfErr result (Refuses b c width) → IfErr result (Refuses a c width)
refuses-if a b c width (Ok x) may refuses = tt
refuses-if a b c width (Err e) may refuses = refuses-from a b c width e may refuses

-- the error of a `?` is the one that was answered
pub refuses-exit : {H A : Type 0} (a c : Ledger H) (width : ℕ) (result : Result A StoreError) (e : StoreError) → IsErrAnd result (λ x. x ≡ e) → Refuses a c width e → IfErr result (Refuses a c width)
refuses-exit a c width (Ok x) e told refuses = tt
refuses-exit a c width (Err x) e told refuses = subst (Refuses a c width) (sym told) refuses
