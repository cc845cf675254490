use Rattle.std.proofs.Common.{◌≡◌, ◌∙◌, ℕ, ◌<◌, length, refl, sym, ap, subst, arith}
use Rattle.std.proofs.Math.Nat.{pos_of_div-pos}
use Rattle.entry_ref.specs.References.{buffer_limit}
use Rattle.test_arena.specs.Keepings.{IsKeeping}
use Rattle.test_arena.proofs.KeepLemmas.{long-of, made-owns, put-keeps, undo-keeps}
use Rattle.test_arena.proofs.keeping.put_node.Goals as goal

pub begin-requires : goal.begin-requires
begin-requires g c = c.requires.unit

pub make_entry-requires : goal.make_entry-requires
make_entry-requires g c = (omega arith, (ap (λ l. l.unit) c.begin.ensures.ledger, (refl, omega (arith, c.words_of.ensures))))

pub drop_root-requires-clause-unit : goal.drop_root-requires-clause-unit
drop_root-requires-clause-unit g c = c.make_entry.ensures.may.unit ∙ ap (λ l. l.unit) c.begin.ensures.ledger

pub drop_root-requires-clause-owns : goal.drop_root-requires-clause-owns
drop_root-requires-clause-owns g c =
    let ledger = g.S.Store.ledger in
    let records = g.S.Frozen.records in
    made-owns (ledger c.args.store.now) (ledger c.begin.new.self) (ledger c.make_entry.new.store)
    (records c.args.store.now) (records c.begin.new.self) (records c.make_entry.new.store) c.args.keeping c.in-Ok.node
    c.requires c.begin.ensures.ledger c.in-Ok.ensures.turns c.make_entry.ensures.may

pub accept-requires : goal.accept-requires
accept-requires g c = c.drop_root.ensures.may.unit ∙ c.make_entry.ensures.may.unit ∙ ap (λ l. l.unit) c.begin.ensures.ledger

pub raw-requires : goal.raw-requires
raw-requires g c = omega arith

pub returns-in-Ok-clause-ok : goal.returns-in-Ok-clause-ok
returns-in-Ok-clause-ok g c =
    let ledger = g.S.Store.ledger in
    let records = g.S.Frozen.records in
    let made = c.make_entry.new.store in
    let after = c.accept.new.self in
    let k = c.args.keeping in
    let q : ℕ = c.in-Ok.node in
    let long : length (records made q) ≡ 34 = long-of (records made q) c.words_of.result c.in-Ok.ensures.words (omega (arith, c.words_of.ensures)) in
    let some : 0 < q = pos_of_div-pos (buffer_limit 22) (g.met.S.Store.placed made q (omega (arith, long))).entry.first in
    subst (λ (r : ℕ). IsKeeping (ledger after) (records after) (record { last = k.last; root = r; sealed = k.sealed; finished = k.finished })) (sym c.raw.ensures)
    (put-keeps (ledger c.args.store.now) (ledger c.begin.new.self) (ledger made) (records c.args.store.now) (records c.begin.new.self) (records made) k q
    c.requires c.begin.ensures.ledger c.in-Ok.ensures.turns c.make_entry.ensures.may (ledger c.drop_root.new.store) (ledger after) (records c.drop_root.new.store) (records after) k.last
    c.drop_root.ensures.turns c.drop_root.ensures.may c.accept.ensures long some c.in-Ok.ensures.unsealed (λ f is. g.met.S.Store.finished after f is))

pub undo-requires : goal.undo-requires
undo-requires g c = c.make_entry.ensures.may.unit ∙ ap (λ l. l.unit) c.begin.ensures.ledger

pub returns-in-Err-clause-err : goal.returns-in-Err-clause-err
returns-in-Err-clause-err g c =
    undo-keeps (g.S.Store.ledger c.args.store.now) (g.S.Store.ledger c.begin.new.self) (g.S.Store.ledger c.make_entry.new.store) (g.S.Store.ledger c.undo.new.self)
    (g.S.Frozen.records c.args.store.now) (g.S.Frozen.records c.undo.new.self) c.args.keeping c.requires
    (g.met.S.Store.settled c.args.store.now c.requires.unit) c.begin.ensures.ledger c.make_entry.ensures.may c.undo.ensures
