use Rattle.std.proofs.Common.{◌≡◌, ◌∷◌, [], true, false, length, sym, subst, ◌∙◌, ◌<◌, ◌≤◌, ◌||◌, arith}
use Rattle.std.proofs.lemmas.Bool.{leb-true, leb-false}
use Rattle.std.specs.Prelude.{IfOk, IfErr, IsSome}
use Rattle.std.specs.BTreeMap.{is_at}
use Rattle.std.specs.Map.{lookup, remove_entry}
use Rattle.std.specs.Ordering.{nat_cmp}
use Rattle.image_format.specs.Postings.{is_dense}
use Rattle.store_api.specs.Calls.{RefusesOf}
use Rattle.store_api.specs.Parts.{Owns}
use Rattle.store_api.specs.Units.{MayDo, MakesWithin}
use Rattle.store_api.proofs.May.{may_do-same}
use Rattle.posting_store.specs.Lists.{list_at, list_levels, is_vector, AreOnes, IsList}
use Rattle.posting_store.specs.Changes.{list_part, list_most, list_change_most, IsListWidth, IsListChangeWidth, MakesByRule, MakesList}
use Rattle.posting_store.proofs.PairLemmas.{length_out_some}
use Rattle.posting_store.proofs.RefusalLemmas.{if_more}
use Rattle.posting_store.proofs.RuleLemmas.{changed_list, short_counts, short_sparse}
use Rattle.posting_store.proofs.removing.remove.Goals as goal

pub remove_from_long-requires-clause-list : goal.remove_from_long-requires-clause-list
remove_from_long-requires-clause-list g c = subst (λ s. IsList (g.S.Frozen.records s) c.args.list) (sym c.has_at_least.ensures.same) c.requires.list

pub remove_from_long-requires-clause-unit : goal.remove_from_long-requires-clause-unit
remove_from_long-requires-clause-unit g c = subst (λ s. (g.S.Store.ledger s).unit ≡ true) (sym c.has_at_least.ensures.same) c.requires.unit

pub remove_from_long-requires-clause-owns : goal.remove_from_long-requires-clause-owns
remove_from_long-requires-clause-owns g c = subst (λ s. Owns (g.S.Store.ledger s) (g.S.Frozen.records s) (list_part c.args.list ∷ [])) (sym c.has_at_least.ensures.same) c.requires.owns

pub remove_from_long-requires-clause-there : goal.remove_from_long-requires-clause-there
remove_from_long-requires-clause-there g c = subst (λ s. IsSome (lookup (is_at (nat_cmp c.args.doc)) (list_at (g.S.Frozen.records s) c.args.list))) (sym c.has_at_least.ensures.same) c.requires.there

pub remove_from_long-requires-clause-ones : goal.remove_from_long-requires-clause-ones
remove_from_long-requires-clause-ones g c = subst (λ s. (c.args.dense ≡ true → AreOnes (list_at (g.S.Frozen.records s) c.args.list))) (sym c.has_at_least.ensures.same) c.requires.ones

pub remove_from_long-requires-clause-many : goal.remove_from_long-requires-clause-many
remove_from_long-requires-clause-many g c =
    subst (λ s. 9 < length (list_at (g.S.Frozen.records s) c.args.list)) (sym c.has_at_least.ensures.same)
    (leb-true 10 (length (list_at (g.S.Frozen.records c.args.store.now) c.args.list)) (sym c.has_at_least.ensures.least ∙ c.if-has_at_least.true))

pub remove_from_short-requires-clause-few : goal.remove_from_short-requires-clause-few
remove_from_short-requires-clause-few g c =
    subst (λ s. length (list_at (g.S.Frozen.records s) c.args.list) ≤ 9) (sym c.has_at_least.ensures.same)
    (let below = leb-false 10 (length (list_at (g.S.Frozen.records c.args.store.now) c.args.list)) (sym c.has_at_least.ensures.least ∙ c.if-has_at_least.false) in omega (arith, below))

pub returns-then-has_at_least-clause-makes : goal.returns-then-has_at_least-clause-makes
returns-then-has_at_least-clause-makes g c =
    let ledger = g.S.Store.ledger in
    let records = g.S.Frozen.records in
    let s = c.args.store.now in
    let t = c.remove_from_long.new.store in
    let docs = remove_entry (is_at (nat_cmp c.args.doc)) (list_at (records s) c.args.list) in
    subst (λ s. IfOk c.remove_from_long.result (MakesByRule c.args.dense c.args.documents (ledger s) (ledger t) (records s) (records t) c.args.list (remove_entry (is_at (nat_cmp c.args.doc)) (list_at
    (records s) c.args.list)))) c.has_at_least.ensures.same c.remove_from_long.ensures.makes

pub returns-then-has_at_least-clause-counts : goal.returns-then-has_at_least-clause-counts
returns-then-has_at_least-clause-counts g c =
    let ledger = g.S.Store.ledger in
    let records = g.S.Frozen.records in
    let s = c.args.store.now in
    let t = c.remove_from_long.new.store in
    let docs = remove_entry (is_at (nat_cmp c.args.doc)) (list_at (records s) c.args.list) in
    subst (λ s. MakesWithin (ledger s) (ledger t) (list_change_most (is_vector c.args.list) (is_dense c.args.dense (length (remove_entry (is_at (nat_cmp c.args.doc)) (list_at (records s)
    c.args.list))) c.args.documents) (list_levels (records s) c.args.list) (remove_entry (is_at (nat_cmp c.args.doc)) (list_at (records s) c.args.list)))) c.has_at_least.ensures.same
    c.remove_from_long.ensures.counts

pub returns-then-has_at_least-clause-refuses : goal.returns-then-has_at_least-clause-refuses
returns-then-has_at_least-clause-refuses g c =
    let ledger = g.S.Store.ledger in
    let records = g.S.Frozen.records in
    let s = c.args.store.now in
    let t = c.remove_from_long.new.store in
    let docs = remove_entry (is_at (nat_cmp c.args.doc)) (list_at (records s) c.args.list) in
    subst (λ s. IfErr c.remove_from_long.result (RefusesOf (IsListChangeWidth (is_vector c.args.list || is_dense c.args.dense (length (remove_entry (is_at (nat_cmp c.args.doc)) (list_at (records s)
    c.args.list))) c.args.documents) (length (remove_entry (is_at (nat_cmp c.args.doc)) (list_at (records s) c.args.list)))) (ledger s) (ledger t))) c.has_at_least.ensures.same
    c.remove_from_long.ensures.refuses

pub returns-then-has_at_least-clause-may : goal.returns-then-has_at_least-clause-may
returns-then-has_at_least-clause-may g c =
    let ledger = g.S.Store.ledger in
    let records = g.S.Frozen.records in
    let s = c.args.store.now in
    let t = c.remove_from_long.new.store in
    let docs = remove_entry (is_at (nat_cmp c.args.doc)) (list_at (records s) c.args.list) in
    subst (λ s. MayDo (ledger s) (ledger t)) c.has_at_least.ensures.same c.remove_from_long.ensures.may

pub returns-else-has_at_least-clause-makes : goal.returns-else-has_at_least-clause-makes
returns-else-has_at_least-clause-makes g c =
    let ledger = g.S.Store.ledger in
    let records = g.S.Frozen.records in
    let s = c.args.store.now in
    let t = c.remove_from_short.new.store in
    let docs = remove_entry (is_at (nat_cmp c.args.doc)) (list_at (records s) c.args.list) in
    let few : length docs ≤ 8 = let less = length_out_some (is_at (nat_cmp c.args.doc)) (list_at (records s) c.args.list) c.requires.there in
    let less_than_ten = leb-false 10 (length (list_at (records s) c.args.list)) (sym c.has_at_least.ensures.least ∙ c.if-has_at_least.false) in omega (arith, less, less_than_ten) in
    subst (λ d. IfOk c.remove_from_short.result (MakesList (ledger s) (ledger t) (records s) (records t) c.args.list docs d)) (sym (short_sparse c.args.dense (length docs) c.args.documents few))
    (subst (λ s. IfOk c.remove_from_short.result (MakesList (ledger s) (ledger t) (records s) (records t) c.args.list (remove_entry (is_at (nat_cmp c.args.doc)) (list_at (records s) c.args.list))
    false)) c.has_at_least.ensures.same c.remove_from_short.ensures.makes)

pub returns-else-has_at_least-clause-counts : goal.returns-else-has_at_least-clause-counts
returns-else-has_at_least-clause-counts g c =
    let ledger = g.S.Store.ledger in
    let records = g.S.Frozen.records in
    let s = c.args.store.now in
    let t = c.remove_from_short.new.store in
    let docs = remove_entry (is_at (nat_cmp c.args.doc)) (list_at (records s) c.args.list) in
    let few : length docs ≤ 8 = let less = length_out_some (is_at (nat_cmp c.args.doc)) (list_at (records s) c.args.list) c.requires.there in
    let less_than_ten = leb-false 10 (length (list_at (records s) c.args.list)) (sym c.has_at_least.ensures.least ∙ c.if-has_at_least.false) in omega (arith, less, less_than_ten) in
    short_counts (ledger s) (ledger t) (is_vector c.args.list) c.args.dense c.args.documents (list_levels (records s) c.args.list) docs few
    (subst (λ s. MakesWithin (ledger s) (ledger t) (list_most (list_levels (records s) c.args.list) (length (remove_entry (is_at (nat_cmp c.args.doc)) (list_at (records s) c.args.list)))))
    c.has_at_least.ensures.same c.remove_from_short.ensures.counts)

pub returns-else-has_at_least-clause-refuses : goal.returns-else-has_at_least-clause-refuses
returns-else-has_at_least-clause-refuses g c =
    let ledger = g.S.Store.ledger in
    let records = g.S.Frozen.records in
    let s = c.args.store.now in
    let t = c.remove_from_short.new.store in
    let docs = remove_entry (is_at (nat_cmp c.args.doc)) (list_at (records s) c.args.list) in
    let few : length docs ≤ 8 = let less = length_out_some (is_at (nat_cmp c.args.doc)) (list_at (records s) c.args.list) c.requires.there in
    let less_than_ten = leb-false 10 (length (list_at (records s) c.args.list)) (sym c.has_at_least.ensures.least ∙ c.if-has_at_least.false) in omega (arith, less, less_than_ten) in
    let either = is_vector c.args.list || is_dense c.args.dense (length docs) c.args.documents in
    if_more (IsListWidth (length docs)) (IsListChangeWidth either (length docs)) (ledger s) (ledger s) (ledger t) c.remove_from_short.result (may_do-same (ledger s)) (λ w one. changed_list either (length docs) w one)
    (subst (λ s. IfErr c.remove_from_short.result (RefusesOf (IsListWidth (length (remove_entry (is_at (nat_cmp c.args.doc)) (list_at (records s) c.args.list)))) (ledger s) (ledger t)))
    c.has_at_least.ensures.same c.remove_from_short.ensures.refuses)

pub returns-else-has_at_least-clause-may : goal.returns-else-has_at_least-clause-may
returns-else-has_at_least-clause-may g c = subst (λ s. MayDo (g.S.Store.ledger s) (g.S.Store.ledger c.remove_from_short.new.store)) c.has_at_least.ensures.same c.remove_from_short.ensures.may
