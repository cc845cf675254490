use Rattle.std.proofs.Common.{rules, ◌≡◌, ℕ, sym, subst, arith}
use Rattle.entry_ref.specs.Images.{image_of, words_at}
use Rattle.test_kit.specs.OneNode.{node_reaches, IsNodeRecord}
use Rattle.store_api.specs.Calls.{IsWhole, StoresCommit}
use Rattle.test_arena.proofs.KeepLemmas.{whole-root, commit-keeps}
use Rattle.test_arena.proofs.keeping.commit_root.Goals as goal

pub returns-then-commits_left-eq0-clause-none : goal.returns-then-commits_left-eq0-clause-none
returns-then-commits_left-eq0-clause-none g c = c.requires

pub from_raw-requires : goal.from_raw-requires
from_raw-requires g c = omega arith

pub commit-stored-requires : goal.commit-stored-requires
commit-stored-requires g c =
    let s = c.args.store.now in
    let m = g.S.Frozen.records s in
    let shape = g.S.Frozen.shape s in (
      omega arith,
      (
        c.requires.unit,
        (
          subst (IsNodeRecord shape m) (sym c.from_raw.ensures) c.requires.node,
          (
            search rules,
            subst (λ (r : ℕ). IsWhole 22 (g.S.Store.ledger s) (node_reaches shape m r)) (sym c.from_raw.ensures)
                (whole-root shape (g.S.Store.ledger s) m c.args.keeping c.requires),
          ),
        ),
      ),
    )

pub returns-clause-some : goal.returns-clause-some
returns-clause-some g c =
    let s = c.args.store.now in
    let t = c.commit-stored.new.self in
    let m = g.S.Frozen.records s in
    let shape = g.S.Frozen.shape s in
    commit-keeps shape (g.S.Store.ledger s) m c.args.keeping c.requires (g.S.Store.ledger t) (g.S.Frozen.records t) c.commit-stored.result _
    (subst (λ (r : ℕ). StoresCommit 22 (g.S.Store.ledger s) (g.S.Store.ledger t) (image_of (node_reaches shape m r) m r) c.commit-stored.result) c.from_raw.ensures c.commit-stored.ensures.stores)
    (subst (λ (r : ℕ). g.S.Frozen.records t ≡ words_at (image_of (node_reaches shape m r) m r)) c.from_raw.ensures c.commit-stored.ensures.records)
