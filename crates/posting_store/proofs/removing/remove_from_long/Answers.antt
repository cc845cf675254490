use Rattle.std.proofs.Common.{length, refl, sym, subst, ◌∙◌, ◌||◌, arith}
use Rattle.std.proofs.lemmas.Result.{err_from_is_err_and}
use Rattle.std.specs.BTreeMap.{is_at}
use Rattle.std.specs.Map.{remove_entry}
use Rattle.std.specs.Ordering.{nat_cmp}
use Rattle.image_format.specs.Postings.{is_dense}
use Rattle.store_api.proofs.May.{may_do-same, may_do-then}
use Rattle.posting_store.specs.Lists.{list_at, list_levels, is_vector, AreOnes}
use Rattle.posting_store.specs.Changes.{IsListChangeWidth}
use Rattle.posting_store.proofs.PairLemmas.{length_out_some, ones_out}
use Rattle.posting_store.proofs.RefusalLemmas.{of_more}
use Rattle.posting_store.proofs.RuleLemmas.{changed_more, dense_many, first_counts, rule_counts, rule_makes, rule_plain, rule_refuses}
use Rattle.posting_store.proofs.removing.remove_from_long.Goals as goal

pub by_rule-requires-clause-unit : goal.by_rule-requires-clause-unit
by_rule-requires-clause-unit g c = c.remove_in_form.ensures.may.unit ∙ c.requires.unit

pub by_rule-requires-clause-list : goal.by_rule-requires-clause-list
by_rule-requires-clause-list g c = c.in_ok-next.ensures.makes.list_is

pub by_rule-requires-clause-owns : goal.by_rule-requires-clause-owns
by_rule-requires-clause-owns g c = c.in_ok-next.ensures.makes.owns

pub by_rule-requires-clause-plain : goal.by_rule-requires-clause-plain
by_rule-requires-clause-plain g c =
    let ledger = g.S.Store.ledger in
    let records = g.S.Frozen.records in
    let s = c.args.store.now in
    let t = c.remove_in_form.new.store in
    let es = list_at (records s) c.args.list in
    let docs = remove_entry (is_at (nat_cmp c.args.doc)) es in
    let was = is_vector c.args.list in
    rule_plain (ledger s) (ledger t) (ledger t) (records s) (records t) (records t) c.args.list c.in_ok-next.next docs was c.in_ok-next.ensures.makes c.args.dense c.requires.plain refl

pub by_rule-requires-clause-ones : goal.by_rule-requires-clause-ones
by_rule-requires-clause-ones g c =
    let ledger = g.S.Store.ledger in
    let records = g.S.Frozen.records in
    let s = c.args.store.now in
    let t = c.remove_in_form.new.store in
    let es = list_at (records s) c.args.list in
    let docs = remove_entry (is_at (nat_cmp c.args.doc)) es in
    let was = is_vector c.args.list in
    λ dense. subst AreOnes (sym c.in_ok-next.ensures.makes.docs_are) (ones_out (is_at (nat_cmp c.args.doc)) es (c.requires.ones dense))

pub returns-in_err-next-clause-counts : goal.returns-in_err-next-clause-counts
returns-in_err-next-clause-counts g c =
    let ledger = g.S.Store.ledger in
    let records = g.S.Frozen.records in
    let s = c.args.store.now in
    let t = c.remove_in_form.new.store in
    let es = list_at (records s) c.args.list in
    let docs = remove_entry (is_at (nat_cmp c.args.doc)) es in
    let was = is_vector c.args.list in
    first_counts (ledger s) (ledger t) was (is_dense c.args.dense (length docs) c.args.documents) (list_levels (records s) c.args.list) docs
    (λ is. let less = length_out_some (is_at (nat_cmp c.args.doc)) es c.requires.there in let many = c.requires.many in omega (arith, less, many))
    (dense_many c.args.dense (length docs) c.args.documents) c.remove_in_form.ensures.counts

pub returns-in_err-next-clause-refuses : goal.returns-in_err-next-clause-refuses
returns-in_err-next-clause-refuses g c =
    let ledger = g.S.Store.ledger in
    let records = g.S.Frozen.records in
    let s = c.args.store.now in
    let t = c.remove_in_form.new.store in
    let es = list_at (records s) c.args.list in
    let docs = remove_entry (is_at (nat_cmp c.args.doc)) es in
    let was = is_vector c.args.list in
    let p = err_from_is_err_and c.from_residual.result c.from_residual.ensures.1 in
    let is = is_dense c.args.dense (length docs) c.args.documents in
    rw (p.1, p.2) (of_more (IsListChangeWidth was (length docs)) (IsListChangeWidth (was || is) (length docs)) (ledger s) (ledger s) (ledger t) _
    (may_do-same (ledger s)) (λ w one. changed_more was is (length docs) w one) c.in_err-next.ensures.refuses)

pub returns-clause-makes : goal.returns-clause-makes
returns-clause-makes g c =
    let ledger = g.S.Store.ledger in
    let records = g.S.Frozen.records in
    let s = c.args.store.now in
    let t = c.remove_in_form.new.store in
    let es = list_at (records s) c.args.list in
    let docs = remove_entry (is_at (nat_cmp c.args.doc)) es in
    let was = is_vector c.args.list in
    let u = c.by_rule.new.store in
    rule_makes (ledger s) (ledger t) (ledger u) (records s) (records t) (records u) c.args.list c.in_ok-next.next docs was c.in_ok-next.ensures.makes
    c.remove_in_form.ensures.may c.by_rule.ensures.may c.by_rule.result c.args.dense c.args.documents c.by_rule.ensures.makes

pub returns-clause-counts : goal.returns-clause-counts
returns-clause-counts g c =
    let ledger = g.S.Store.ledger in
    let records = g.S.Frozen.records in
    let s = c.args.store.now in
    let t = c.remove_in_form.new.store in
    let es = list_at (records s) c.args.list in
    let docs = remove_entry (is_at (nat_cmp c.args.doc)) es in
    let was = is_vector c.args.list in
    let u = c.by_rule.new.store in
    rule_counts (ledger s) (ledger t) (ledger u) (records s) (records t) (records u) c.args.list c.in_ok-next.next docs was c.in_ok-next.ensures.makes c.args.dense c.args.documents (list_levels
    (records s) c.args.list) c.remove_in_form.ensures.may c.remove_in_form.ensures.counts c.by_rule.ensures.counts

pub returns-clause-refuses : goal.returns-clause-refuses
returns-clause-refuses g c =
    let ledger = g.S.Store.ledger in
    let records = g.S.Frozen.records in
    let s = c.args.store.now in
    let t = c.remove_in_form.new.store in
    let es = list_at (records s) c.args.list in
    let docs = remove_entry (is_at (nat_cmp c.args.doc)) es in
    let was = is_vector c.args.list in
    let u = c.by_rule.new.store in
    rule_refuses (ledger s) (ledger t) (ledger u) (records s) (records t) (records u) c.args.list c.in_ok-next.next docs was c.in_ok-next.ensures.makes c.by_rule.result c.args.dense c.args.documents
    c.remove_in_form.ensures.may c.by_rule.ensures.refuses

pub returns-clause-may : goal.returns-clause-may
returns-clause-may g c = may_do-then _ _ _ c.remove_in_form.ensures.may c.by_rule.ensures.may
