use Rattle.std.proofs.Common.{◌≡◌, ◌∷◌, [], true, false, length, sym, ap, subst, ◌∙◌, ◌<◌}
use Rattle.std.specs.Prelude.{IfOk, IfErr}
use Rattle.image_format.specs.Postings.{is_dense}
use Rattle.store_api.specs.Calls.{RefusesOf}
use Rattle.store_api.specs.Parts.{Owns}
use Rattle.store_api.specs.Units.{MayDo, MakesWithin}
use Rattle.posting_store.specs.Lists.{list_at, is_vector, AreOnes, IsList}
use Rattle.posting_store.specs.Changes.{list_part, form_most, IsFormWidth, MakesList}
use Rattle.posting_store.proofs.ChangeLemmas.{counts_none}
use Rattle.posting_store.proofs.FormLemmas.{no_vector}
use Rattle.posting_store.proofs.RuleLemmas.{dense_many, makes_same, none_dense}
use Rattle.posting_store.proofs.forming.by_rule.Goals as goal

pub returns-then-not-dense-clause-makes : goal.returns-then-not-dense-clause-makes
returns-then-not-dense-clause-makes g c =
    let m = g.S.Frozen.records c.args.store.now in
    let count = length (list_at m c.args.list) in
    makes_same (g.S.Store.ledger c.args.store.now) m c.args.list (is_dense c.args.dense count c.args.documents) c.requires.list
    (no_vector c.args.list (c.requires.plain c.if-not-dense.true) ∙ sym (none_dense c.args.dense count c.args.documents c.if-not-dense.true)) c.requires.owns

pub returns-then-not-dense-clause-counts : goal.returns-then-not-dense-clause-counts
returns-then-not-dense-clause-counts g c =
    let es = list_at (g.S.Frozen.records c.args.store.now) c.args.list in
    counts_none (g.S.Store.ledger c.args.store.now) (form_most (is_vector c.args.list) (is_dense c.args.dense (length es) c.args.documents) es)

pub as_vector-requires-clause-unit : goal.as_vector-requires-clause-unit
as_vector-requires-clause-unit g c = subst (λ s. (g.S.Store.ledger s).unit ≡ true) (sym c.is_long.ensures.same) c.requires.unit

pub as_vector-requires-clause-list : goal.as_vector-requires-clause-list
as_vector-requires-clause-list g c = subst (λ s. IsList (g.S.Frozen.records s) c.args.list) (sym c.is_long.ensures.same) c.requires.list

pub as_vector-requires-clause-many : goal.as_vector-requires-clause-many
as_vector-requires-clause-many g c =
    subst (λ s. 8 < length (list_at (g.S.Frozen.records s) c.args.list)) (sym c.is_long.ensures.same)
    (dense_many c.args.dense (length (list_at (g.S.Frozen.records c.args.store.now) c.args.list)) c.args.documents
    (ap (λ b. is_dense b (length (list_at (g.S.Frozen.records c.args.store.now) c.args.list)) c.args.documents) c.if-not-dense.false ∙ sym c.is_long.ensures.dense ∙ c.if-is_long.true))

pub as_vector-requires-clause-ones : goal.as_vector-requires-clause-ones
as_vector-requires-clause-ones g c =
    subst (λ s. AreOnes (list_at (g.S.Frozen.records s) c.args.list)) (sym c.is_long.ensures.same) (c.requires.ones c.if-not-dense.false)

pub as_vector-requires-clause-owns : goal.as_vector-requires-clause-owns
as_vector-requires-clause-owns g c =
    subst (λ s. Owns (g.S.Store.ledger s) (g.S.Frozen.records s) (list_part c.args.list ∷ [])) (sym c.is_long.ensures.same) c.requires.owns

pub as_plain-requires-clause-unit : goal.as_plain-requires-clause-unit
as_plain-requires-clause-unit g c = subst (λ s. (g.S.Store.ledger s).unit ≡ true) (sym c.is_long.ensures.same) c.requires.unit

pub as_plain-requires-clause-list : goal.as_plain-requires-clause-list
as_plain-requires-clause-list g c = subst (λ s. IsList (g.S.Frozen.records s) c.args.list) (sym c.is_long.ensures.same) c.requires.list

pub as_plain-requires-clause-owns : goal.as_plain-requires-clause-owns
as_plain-requires-clause-owns g c =
    subst (λ s. Owns (g.S.Store.ledger s) (g.S.Frozen.records s) (list_part c.args.list ∷ [])) (sym c.is_long.ensures.same) c.requires.owns

pub returns-then-is_long-clause-makes : goal.returns-then-is_long-clause-makes
returns-then-is_long-clause-makes g c =
    let ledger = g.S.Store.ledger in
    let records = g.S.Frozen.records in
    let s = c.args.store.now in
    let t = c.as_vector.new.store in
    let es = list_at (records s) c.args.list in
    let is : is_dense c.args.dense (length es) c.args.documents ≡ true = ap (λ b. is_dense b (length es) c.args.documents) c.if-not-dense.false ∙ sym c.is_long.ensures.dense ∙ c.if-is_long.true in
    subst (λ d. IfOk c.as_vector.result (MakesList (ledger s) (ledger t) (records s) (records t) c.args.list es d)) (sym is)
    (subst (λ s. IfOk c.as_vector.result (MakesList (ledger s) (ledger t) (records s) (records t) c.args.list (list_at (records s) c.args.list) true)) c.is_long.ensures.same c.as_vector.ensures.makes)

pub returns-then-is_long-clause-counts : goal.returns-then-is_long-clause-counts
returns-then-is_long-clause-counts g c =
    let ledger = g.S.Store.ledger in
    let records = g.S.Frozen.records in
    let s = c.args.store.now in
    let t = c.as_vector.new.store in
    let es = list_at (records s) c.args.list in
    let is : is_dense c.args.dense (length es) c.args.documents ≡ true = ap (λ b. is_dense b (length es) c.args.documents) c.if-not-dense.false ∙ sym c.is_long.ensures.dense ∙ c.if-is_long.true in
    subst (λ d. MakesWithin (ledger s) (ledger t) (form_most (is_vector c.args.list) d es)) (sym is)
    (subst (λ s. MakesWithin (ledger s) (ledger t) (form_most (is_vector c.args.list) true (list_at (records s) c.args.list))) c.is_long.ensures.same c.as_vector.ensures.counts)

pub returns-then-is_long-clause-refuses : goal.returns-then-is_long-clause-refuses
returns-then-is_long-clause-refuses g c =
    let ledger = g.S.Store.ledger in
    let records = g.S.Frozen.records in
    let s = c.args.store.now in
    let t = c.as_vector.new.store in
    let es = list_at (records s) c.args.list in
    let is : is_dense c.args.dense (length es) c.args.documents ≡ true = ap (λ b. is_dense b (length es) c.args.documents) c.if-not-dense.false ∙ sym c.is_long.ensures.dense ∙ c.if-is_long.true in
    subst (λ d. IfErr c.as_vector.result (RefusesOf (IsFormWidth (is_vector c.args.list) d) (ledger s) (ledger t))) (sym is)
    (subst (λ s. IfErr c.as_vector.result (RefusesOf (IsFormWidth (is_vector c.args.list) true) (ledger s) (ledger t))) c.is_long.ensures.same c.as_vector.ensures.refuses)

pub returns-then-is_long-clause-may : goal.returns-then-is_long-clause-may
returns-then-is_long-clause-may g c = subst (λ s. MayDo (g.S.Store.ledger s) (g.S.Store.ledger c.as_vector.new.store)) c.is_long.ensures.same c.as_vector.ensures.may

pub returns-else-is_long-clause-makes : goal.returns-else-is_long-clause-makes
returns-else-is_long-clause-makes g c =
    let ledger = g.S.Store.ledger in
    let records = g.S.Frozen.records in
    let s = c.args.store.now in
    let t = c.as_plain.new.store in
    let es = list_at (records s) c.args.list in
    let is : is_dense c.args.dense (length es) c.args.documents ≡ false = ap (λ b. is_dense b (length es) c.args.documents) c.if-not-dense.false ∙ sym c.is_long.ensures.dense ∙ c.if-is_long.false in
    subst (λ d. IfOk c.as_plain.result (MakesList (ledger s) (ledger t) (records s) (records t) c.args.list es d)) (sym is)
    (subst (λ s. IfOk c.as_plain.result (MakesList (ledger s) (ledger t) (records s) (records t) c.args.list (list_at (records s) c.args.list) false)) c.is_long.ensures.same c.as_plain.ensures.makes)

pub returns-else-is_long-clause-counts : goal.returns-else-is_long-clause-counts
returns-else-is_long-clause-counts g c =
    let ledger = g.S.Store.ledger in
    let records = g.S.Frozen.records in
    let s = c.args.store.now in
    let t = c.as_plain.new.store in
    let es = list_at (records s) c.args.list in
    let is : is_dense c.args.dense (length es) c.args.documents ≡ false = ap (λ b. is_dense b (length es) c.args.documents) c.if-not-dense.false ∙ sym c.is_long.ensures.dense ∙ c.if-is_long.false in
    subst (λ d. MakesWithin (ledger s) (ledger t) (form_most (is_vector c.args.list) d es)) (sym is)
    (subst (λ s. MakesWithin (ledger s) (ledger t) (form_most (is_vector c.args.list) false (list_at (records s) c.args.list))) c.is_long.ensures.same c.as_plain.ensures.counts)

pub returns-else-is_long-clause-refuses : goal.returns-else-is_long-clause-refuses
returns-else-is_long-clause-refuses g c =
    let ledger = g.S.Store.ledger in
    let records = g.S.Frozen.records in
    let s = c.args.store.now in
    let t = c.as_plain.new.store in
    let es = list_at (records s) c.args.list in
    let is : is_dense c.args.dense (length es) c.args.documents ≡ false = ap (λ b. is_dense b (length es) c.args.documents) c.if-not-dense.false ∙ sym c.is_long.ensures.dense ∙ c.if-is_long.false in
    subst (λ d. IfErr c.as_plain.result (RefusesOf (IsFormWidth (is_vector c.args.list) d) (ledger s) (ledger t))) (sym is)
    (subst (λ s. IfErr c.as_plain.result (RefusesOf (IsFormWidth (is_vector c.args.list) false) (ledger s) (ledger t))) c.is_long.ensures.same c.as_plain.ensures.refuses)

pub returns-else-is_long-clause-may : goal.returns-else-is_long-clause-may
returns-else-is_long-clause-may g c = subst (λ s. MayDo (g.S.Store.ledger s) (g.S.Store.ledger c.as_plain.new.store)) c.is_long.ensures.same c.as_plain.ensures.may
