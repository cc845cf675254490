use Rattle.std.proofs.Common.{ℤ, w32, to_z, of_z, length, refl, sym, subst, ◌∙◌, ◌||◌, arith}
use Rattle.std.proofs.lemmas.Int.{to_z-of_z}
use Rattle.std.proofs.lemmas.Result.{err_from_is_err_and}
use Rattle.std.specs.BTreeMap.{insert_entry}
use Rattle.std.specs.Ordering.{nat_cmp}
use Rattle.image_format.specs.Postings.{is_dense}
use Rattle.store_api.proofs.May.{may_do-same, may_do-then}
use Rattle.store_api.specs.Units.{MakesWithin}
use Rattle.posting_store.specs.Lists.{list_at, list_levels, is_vector, AreOnes}
use Rattle.posting_store.specs.Changes.{list_change_most, IsListChangeWidth, MakesList}
use Rattle.posting_store.proofs.LeafLemmas.{length_in_least}
use Rattle.posting_store.proofs.PairLemmas.{ones_in}
use Rattle.posting_store.proofs.RefusalLemmas.{of_more}
use Rattle.posting_store.proofs.RuleLemmas.{changed_more, dense_many, first_counts, one_weight, rule_counts, rule_makes, rule_plain, rule_refuses}
use Rattle.posting_store.proofs.VectorLemmas.{vector_many}
use Rattle.posting_store.proofs.adding.add.Goals as goal

pub add_in_form-requires-clause-one : goal.add_in_form-requires-clause-one
add_in_form-requires-clause-one g c = λ is.
    to_z-of_z w32 c.args.weight c.ranges.weight ∙ one_weight c.args.dense c.args.list c.args.weight c.requires.plain (λ dense. (c.requires.ones dense).1) is

pub by_rule-requires-clause-unit : goal.by_rule-requires-clause-unit
by_rule-requires-clause-unit g c = c.add_in_form.ensures.may.unit ∙ c.requires.unit

pub by_rule-requires-clause-list : goal.by_rule-requires-clause-list
by_rule-requires-clause-list g c = c.in_ok-next.ensures.makes.list_is

pub by_rule-requires-clause-owns : goal.by_rule-requires-clause-owns
by_rule-requires-clause-owns g c = c.in_ok-next.ensures.makes.owns

pub by_rule-requires-clause-plain : goal.by_rule-requires-clause-plain
by_rule-requires-clause-plain g c =
    let ledger = g.S.Store.ledger in
    let records = g.S.Frozen.records in
    let s = c.args.store.now in
    let t = c.add_in_form.new.store in
    let es = list_at (records s) c.args.list in
    let docs = insert_entry nat_cmp es c.args.doc c.args.weight in
    let was = is_vector c.args.list in
    let again = to_z-of_z w32 c.args.weight c.ranges.weight in
    let makes = subst (λ (w : ℤ). MakesList (ledger s) (ledger t) (records s) (records t) c.args.list (insert_entry nat_cmp es c.args.doc w) was c.in_ok-next.next) again c.in_ok-next.ensures.makes in
    rule_plain (ledger s) (ledger t) (ledger t) (records s) (records t) (records t) c.args.list c.in_ok-next.next docs was makes c.args.dense c.requires.plain refl

pub by_rule-requires-clause-ones : goal.by_rule-requires-clause-ones
by_rule-requires-clause-ones g c =
    let ledger = g.S.Store.ledger in
    let records = g.S.Frozen.records in
    let s = c.args.store.now in
    let t = c.add_in_form.new.store in
    let es = list_at (records s) c.args.list in
    let docs = insert_entry nat_cmp es c.args.doc c.args.weight in
    let was = is_vector c.args.list in
    let again = to_z-of_z w32 c.args.weight c.ranges.weight in
    let makes = subst (λ (w : ℤ). MakesList (ledger s) (ledger t) (records s) (records t) c.args.list (insert_entry nat_cmp es c.args.doc w) was c.in_ok-next.next) again c.in_ok-next.ensures.makes in
    λ dense. subst AreOnes (sym makes.docs_are) (ones_in c.args.doc c.args.weight es (c.requires.ones dense).1 (c.requires.ones dense).0)

pub returns-in_err-next-clause-counts : goal.returns-in_err-next-clause-counts
returns-in_err-next-clause-counts g c =
    let ledger = g.S.Store.ledger in
    let records = g.S.Frozen.records in
    let s = c.args.store.now in
    let t = c.add_in_form.new.store in
    let es = list_at (records s) c.args.list in
    let docs = insert_entry nat_cmp es c.args.doc c.args.weight in
    let was = is_vector c.args.list in
    let again = to_z-of_z w32 c.args.weight c.ranges.weight in
    let made = subst (λ (w : ℤ). MakesWithin (ledger s) (ledger t) (list_change_most was was (list_levels (records s) c.args.list) (insert_entry nat_cmp es c.args.doc w))) again c.add_in_form.ensures.counts in
    first_counts (ledger s) (ledger t) was (is_dense c.args.dense (length docs) c.args.documents) (list_levels (records s) c.args.list) docs
    (λ is. let least = length_in_least c.args.doc c.args.weight es in let many = vector_many (records s) c.args.list is c.requires.list in omega (arith, least, many))
    (dense_many c.args.dense (length docs) c.args.documents) made

pub returns-in_err-next-clause-refuses : goal.returns-in_err-next-clause-refuses
returns-in_err-next-clause-refuses g c =
    let ledger = g.S.Store.ledger in
    let records = g.S.Frozen.records in
    let s = c.args.store.now in
    let t = c.add_in_form.new.store in
    let es = list_at (records s) c.args.list in
    let docs = insert_entry nat_cmp es c.args.doc c.args.weight in
    let was = is_vector c.args.list in
    let again = to_z-of_z w32 c.args.weight c.ranges.weight in
    let p = err_from_is_err_and c.from_residual.result c.from_residual.ensures.1 in
    let is = is_dense c.args.dense (length docs) c.args.documents in
    rw (p.1, p.2) (of_more (IsListChangeWidth was (length (insert_entry nat_cmp es c.args.doc (to_z w32 (of_z w32 c.args.weight))))) (IsListChangeWidth (was || is) (length docs)) (ledger s) (ledger s) (ledger t) _
    (may_do-same (ledger s))
    (λ w one. changed_more was is (length docs) w (subst (λ (z : ℤ). IsListChangeWidth was (length (insert_entry nat_cmp es c.args.doc z)) w) again one)) c.in_err-next.ensures.refuses)

pub returns-clause-makes : goal.returns-clause-makes
returns-clause-makes g c =
    let ledger = g.S.Store.ledger in
    let records = g.S.Frozen.records in
    let s = c.args.store.now in
    let t = c.add_in_form.new.store in
    let es = list_at (records s) c.args.list in
    let docs = insert_entry nat_cmp es c.args.doc c.args.weight in
    let was = is_vector c.args.list in
    let again = to_z-of_z w32 c.args.weight c.ranges.weight in
    let u = c.by_rule.new.store in
    let makes = subst (λ (w : ℤ). MakesList (ledger s) (ledger t) (records s) (records t) c.args.list (insert_entry nat_cmp es c.args.doc w) was c.in_ok-next.next) again c.in_ok-next.ensures.makes in
    rule_makes (ledger s) (ledger t) (ledger u) (records s) (records t) (records u) c.args.list c.in_ok-next.next docs was makes
    c.add_in_form.ensures.may c.by_rule.ensures.may c.by_rule.result c.args.dense c.args.documents c.by_rule.ensures.makes

pub returns-clause-counts : goal.returns-clause-counts
returns-clause-counts g c =
    let ledger = g.S.Store.ledger in
    let records = g.S.Frozen.records in
    let s = c.args.store.now in
    let t = c.add_in_form.new.store in
    let es = list_at (records s) c.args.list in
    let docs = insert_entry nat_cmp es c.args.doc c.args.weight in
    let was = is_vector c.args.list in
    let again = to_z-of_z w32 c.args.weight c.ranges.weight in
    let u = c.by_rule.new.store in
    let makes = subst (λ (w : ℤ). MakesList (ledger s) (ledger t) (records s) (records t) c.args.list (insert_entry nat_cmp es c.args.doc w) was c.in_ok-next.next) again c.in_ok-next.ensures.makes in
    let made = subst (λ (w : ℤ). MakesWithin (ledger s) (ledger t) (list_change_most was was (list_levels (records s) c.args.list) (insert_entry nat_cmp es c.args.doc w))) again c.add_in_form.ensures.counts in
    rule_counts (ledger s) (ledger t) (ledger u) (records s) (records t) (records u) c.args.list c.in_ok-next.next docs was makes c.args.dense c.args.documents (list_levels (records s) c.args.list)
    c.add_in_form.ensures.may made c.by_rule.ensures.counts

pub returns-clause-refuses : goal.returns-clause-refuses
returns-clause-refuses g c =
    let ledger = g.S.Store.ledger in
    let records = g.S.Frozen.records in
    let s = c.args.store.now in
    let t = c.add_in_form.new.store in
    let es = list_at (records s) c.args.list in
    let docs = insert_entry nat_cmp es c.args.doc c.args.weight in
    let was = is_vector c.args.list in
    let again = to_z-of_z w32 c.args.weight c.ranges.weight in
    let u = c.by_rule.new.store in
    let makes = subst (λ (w : ℤ). MakesList (ledger s) (ledger t) (records s) (records t) c.args.list (insert_entry nat_cmp es c.args.doc w) was c.in_ok-next.next) again c.in_ok-next.ensures.makes in
    rule_refuses (ledger s) (ledger t) (ledger u) (records s) (records t) (records u) c.args.list c.in_ok-next.next docs was makes c.by_rule.result c.args.dense c.args.documents
    c.add_in_form.ensures.may c.by_rule.ensures.refuses

pub returns-clause-may : goal.returns-clause-may
returns-clause-may g c = may_do-then _ _ _ c.add_in_form.ensures.may c.by_rule.ensures.may
