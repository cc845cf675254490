use Rattle.std.proofs.Common.{◌≡◌, true, false, ℤ, pos, w32, length, sym, subst, ◌∙◌}
use Rattle.std.specs.Prelude.{IfOk, IfErr}
use Rattle.std.proofs.lemmas.Int.{to_z-of_z}
use Rattle.std.specs.BTreeMap.{insert_entry}
use Rattle.std.specs.Ordering.{nat_cmp}
use Rattle.store_api.specs.Calls.{RefusesOf}
use Rattle.store_api.specs.Units.{MakesWithin}
use Rattle.posting_store.specs.Lists.{list_at, list_levels, is_vector}
use Rattle.posting_store.specs.Changes.{list_change_most, IsListChangeWidth, MakesList}
use Rattle.posting_store.proofs.adding.add_in_form.Goals as goal

pub returns-then-is_vector-clause-makes : goal.returns-then-is_vector-clause-makes
returns-then-is_vector-clause-makes g c =
    let ledger = g.S.Store.ledger in
    let records = g.S.Frozen.records in
    let s = c.args.store.now in
    let t = c.add_to_vector.new.store in
    let es = list_at (records s) c.args.list in
    let is : is_vector c.args.list ≡ true = sym c.is_vector.ensures.vector ∙ c.if-is_vector.true in
    let weight : pos 1 ≡ c.args.weight = sym (c.requires.one is) in
    subst (λ v. IfOk c.add_to_vector.result (MakesList (ledger s) (ledger t) (records s) (records t) c.args.list (insert_entry nat_cmp es c.args.doc c.args.weight) v)) (sym is)
    (subst (λ (w : ℤ). IfOk c.add_to_vector.result (MakesList (ledger s) (ledger t) (records s) (records t) c.args.list (insert_entry nat_cmp es c.args.doc w) true)) weight c.add_to_vector.ensures.makes)

pub returns-then-is_vector-clause-counts : goal.returns-then-is_vector-clause-counts
returns-then-is_vector-clause-counts g c =
    let ledger = g.S.Store.ledger in
    let records = g.S.Frozen.records in
    let s = c.args.store.now in
    let t = c.add_to_vector.new.store in
    let es = list_at (records s) c.args.list in
    let is : is_vector c.args.list ≡ true = sym c.is_vector.ensures.vector ∙ c.if-is_vector.true in
    let weight : pos 1 ≡ c.args.weight = sym (c.requires.one is) in
    subst (λ v. MakesWithin (ledger s) (ledger t) (list_change_most v v (list_levels (records s) c.args.list) (insert_entry nat_cmp es c.args.doc c.args.weight))) (sym is)
    (subst (λ (w : ℤ). MakesWithin (ledger s) (ledger t) (list_change_most true true (list_levels (records s) c.args.list) (insert_entry nat_cmp es c.args.doc w))) weight c.add_to_vector.ensures.counts)

pub returns-then-is_vector-clause-refuses : goal.returns-then-is_vector-clause-refuses
returns-then-is_vector-clause-refuses g c =
    let ledger = g.S.Store.ledger in
    let records = g.S.Frozen.records in
    let s = c.args.store.now in
    let t = c.add_to_vector.new.store in
    let es = list_at (records s) c.args.list in
    let is : is_vector c.args.list ≡ true = sym c.is_vector.ensures.vector ∙ c.if-is_vector.true in
    let weight : pos 1 ≡ c.args.weight = sym (c.requires.one is) in
    subst (λ v. IfErr c.add_to_vector.result (RefusesOf (IsListChangeWidth v (length (insert_entry nat_cmp es c.args.doc c.args.weight))) (ledger s) (ledger t))) (sym is)
    (subst (λ (w : ℤ). IfErr c.add_to_vector.result (RefusesOf (IsListChangeWidth true (length (insert_entry nat_cmp es c.args.doc w))) (ledger s) (ledger t))) weight c.add_to_vector.ensures.refuses)

pub returns-else-is_vector-clause-makes : goal.returns-else-is_vector-clause-makes
returns-else-is_vector-clause-makes g c =
    let ledger = g.S.Store.ledger in
    let records = g.S.Frozen.records in
    let s = c.args.store.now in
    let t = c.add_to_plain.new.store in
    let es = list_at (records s) c.args.list in
    let is : is_vector c.args.list ≡ false = sym c.is_vector.ensures.vector ∙ c.if-is_vector.false in
    let weight = to_z-of_z w32 c.args.weight c.ranges.weight in
    subst (λ v. IfOk c.add_to_plain.result (MakesList (ledger s) (ledger t) (records s) (records t) c.args.list (insert_entry nat_cmp es c.args.doc c.args.weight) v)) (sym is)
    (subst (λ (w : ℤ). IfOk c.add_to_plain.result (MakesList (ledger s) (ledger t) (records s) (records t) c.args.list (insert_entry nat_cmp es c.args.doc w) false)) weight c.add_to_plain.ensures.makes)

pub returns-else-is_vector-clause-counts : goal.returns-else-is_vector-clause-counts
returns-else-is_vector-clause-counts g c =
    let ledger = g.S.Store.ledger in
    let records = g.S.Frozen.records in
    let s = c.args.store.now in
    let t = c.add_to_plain.new.store in
    let es = list_at (records s) c.args.list in
    let is : is_vector c.args.list ≡ false = sym c.is_vector.ensures.vector ∙ c.if-is_vector.false in
    let weight = to_z-of_z w32 c.args.weight c.ranges.weight in
    subst (λ v. MakesWithin (ledger s) (ledger t) (list_change_most v v (list_levels (records s) c.args.list) (insert_entry nat_cmp es c.args.doc c.args.weight))) (sym is)
    (subst (λ (w : ℤ). MakesWithin (ledger s) (ledger t) (list_change_most false false (list_levels (records s) c.args.list) (insert_entry nat_cmp es c.args.doc w))) weight c.add_to_plain.ensures.counts)

pub returns-else-is_vector-clause-refuses : goal.returns-else-is_vector-clause-refuses
returns-else-is_vector-clause-refuses g c =
    let ledger = g.S.Store.ledger in
    let records = g.S.Frozen.records in
    let s = c.args.store.now in
    let t = c.add_to_plain.new.store in
    let es = list_at (records s) c.args.list in
    let is : is_vector c.args.list ≡ false = sym c.is_vector.ensures.vector ∙ c.if-is_vector.false in
    let weight = to_z-of_z w32 c.args.weight c.ranges.weight in
    subst (λ v. IfErr c.add_to_plain.result (RefusesOf (IsListChangeWidth v (length (insert_entry nat_cmp es c.args.doc c.args.weight))) (ledger s) (ledger t))) (sym is)
    (subst (λ (w : ℤ). IfErr c.add_to_plain.result (RefusesOf (IsListChangeWidth false (length (insert_entry nat_cmp es c.args.doc w))) (ledger s) (ledger t))) weight c.add_to_plain.ensures.refuses)

pub add_to_vector-requires-clause-vector : goal.add_to_vector-requires-clause-vector
add_to_vector-requires-clause-vector g c = sym c.is_vector.ensures.vector ∙ c.if-is_vector.true

pub add_to_plain-requires-clause-plain : goal.add_to_plain-requires-clause-plain
add_to_plain-requires-clause-plain g c = c.is_vector.ensures.plain c.if-is_vector.false
