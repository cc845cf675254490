use Rattle.std.proofs.Common.{◌≡◌, true, false, length, sym, subst, ◌∙◌}
use Rattle.std.specs.Prelude.{IfOk, IfErr}
use Rattle.std.specs.BTreeMap.{is_at}
use Rattle.std.specs.Map.{remove_entry}
use Rattle.std.specs.Ordering.{nat_cmp}
use Rattle.store_api.specs.Calls.{RefusesOf}
use Rattle.store_api.specs.Units.{MakesWithin}
use Rattle.posting_store.specs.Lists.{list_at, list_levels, is_vector}
use Rattle.posting_store.specs.Changes.{list_change_most, IsListChangeWidth, MakesList}
use Rattle.posting_store.proofs.removing.remove_in_form.Goals as goal

pub returns-then-is_vector-clause-makes : goal.returns-then-is_vector-clause-makes
returns-then-is_vector-clause-makes g c =
    let ledger = g.S.Store.ledger in
    let records = g.S.Frozen.records in
    let s = c.args.store.now in
    let t = c.remove_from_vector.new.store in
    let docs = remove_entry (is_at (nat_cmp c.args.doc)) (list_at (records s) c.args.list) in
    let is : is_vector c.args.list ≡ true = sym c.is_vector.ensures.vector ∙ c.if-is_vector.true in
    subst (λ v. IfOk c.remove_from_vector.result (MakesList (ledger s) (ledger t) (records s) (records t) c.args.list docs v)) (sym is) c.remove_from_vector.ensures.makes

pub returns-then-is_vector-clause-counts : goal.returns-then-is_vector-clause-counts
returns-then-is_vector-clause-counts g c =
    let ledger = g.S.Store.ledger in
    let records = g.S.Frozen.records in
    let s = c.args.store.now in
    let t = c.remove_from_vector.new.store in
    let docs = remove_entry (is_at (nat_cmp c.args.doc)) (list_at (records s) c.args.list) in
    let is : is_vector c.args.list ≡ true = sym c.is_vector.ensures.vector ∙ c.if-is_vector.true in
    subst (λ v. MakesWithin (ledger s) (ledger t) (list_change_most v v (list_levels (records s) c.args.list) docs)) (sym is) c.remove_from_vector.ensures.counts

pub returns-then-is_vector-clause-refuses : goal.returns-then-is_vector-clause-refuses
returns-then-is_vector-clause-refuses g c =
    let ledger = g.S.Store.ledger in
    let records = g.S.Frozen.records in
    let s = c.args.store.now in
    let t = c.remove_from_vector.new.store in
    let docs = remove_entry (is_at (nat_cmp c.args.doc)) (list_at (records s) c.args.list) in
    let is : is_vector c.args.list ≡ true = sym c.is_vector.ensures.vector ∙ c.if-is_vector.true in
    subst (λ v. IfErr c.remove_from_vector.result (RefusesOf (IsListChangeWidth v (length docs)) (ledger s) (ledger t))) (sym is) c.remove_from_vector.ensures.refuses

pub returns-else-is_vector-clause-makes : goal.returns-else-is_vector-clause-makes
returns-else-is_vector-clause-makes g c =
    let ledger = g.S.Store.ledger in
    let records = g.S.Frozen.records in
    let s = c.args.store.now in
    let t = c.remove_from_tree.new.store in
    let docs = remove_entry (is_at (nat_cmp c.args.doc)) (list_at (records s) c.args.list) in
    let is : is_vector c.args.list ≡ false = sym c.is_vector.ensures.vector ∙ c.if-is_vector.false in
    subst (λ v. IfOk c.remove_from_tree.result (MakesList (ledger s) (ledger t) (records s) (records t) c.args.list docs v)) (sym is) c.remove_from_tree.ensures.makes

pub returns-else-is_vector-clause-counts : goal.returns-else-is_vector-clause-counts
returns-else-is_vector-clause-counts g c =
    let ledger = g.S.Store.ledger in
    let records = g.S.Frozen.records in
    let s = c.args.store.now in
    let t = c.remove_from_tree.new.store in
    let docs = remove_entry (is_at (nat_cmp c.args.doc)) (list_at (records s) c.args.list) in
    let is : is_vector c.args.list ≡ false = sym c.is_vector.ensures.vector ∙ c.if-is_vector.false in
    subst (λ v. MakesWithin (ledger s) (ledger t) (list_change_most v v (list_levels (records s) c.args.list) docs)) (sym is) c.remove_from_tree.ensures.counts

pub returns-else-is_vector-clause-refuses : goal.returns-else-is_vector-clause-refuses
returns-else-is_vector-clause-refuses g c =
    let ledger = g.S.Store.ledger in
    let records = g.S.Frozen.records in
    let s = c.args.store.now in
    let t = c.remove_from_tree.new.store in
    let docs = remove_entry (is_at (nat_cmp c.args.doc)) (list_at (records s) c.args.list) in
    let is : is_vector c.args.list ≡ false = sym c.is_vector.ensures.vector ∙ c.if-is_vector.false in
    subst (λ v. IfErr c.remove_from_tree.result (RefusesOf (IsListChangeWidth v (length docs)) (ledger s) (ledger t))) (sym is) c.remove_from_tree.ensures.refuses

pub remove_from_vector-requires-clause-vector : goal.remove_from_vector-requires-clause-vector
remove_from_vector-requires-clause-vector g c = sym c.is_vector.ensures.vector ∙ c.if-is_vector.true

pub remove_from_tree-requires-clause-plain : goal.remove_from_tree-requires-clause-plain
remove_from_tree-requires-clause-plain g c = c.is_vector.ensures.plain c.if-is_vector.false
