use Rattle.std.proofs.Common.{◌≡◌, ◌≢◌, [], drop, arith, sym, ap, subst, ◌∙◌, true≢false}
use Rattle.std.specs.declared.cmp.Ordering.TheVariants.{Equal}
use Rattle.tree_read.specs.Trees.{tree_pairs}
use Rattle.tree_read.specs.SearchPlaces.{pairs_from}
use Rattle.image_format.specs.Values.{stored_value, IsValueRecord}
use Rattle.attr_types.specs.Value.{type_of, value_cmp}
use Rattle.unique_store.proofs.RecordLemmas.{value_there}
use Rattle.enum_dictionary.specs.Dictionaries.{beside_value}
use Rattle.enum_dictionary.proofs.BehindLemmas.{behind_none, equal_from, apart_from, stands_at_value, goes_on, stays_there}
use Rattle.enum_dictionary.proofs.cursors.upper.Goals as goal

pub returns-then-at_end-clause-pairs : goal.returns-then-at_end-clause-pairs
returns-then-at_end-clause-pairs g c =
    let m = g.F.Frozen.records c.args.frozen.now in
    let none : pairs_from m c.lower-cursor.result ≡ [] = (c.at_end.ensures.pairs m c.lower-cursor.ensures.at).0 c.if-at_end.true in
    none ∙ sym (behind_none (beside_value c.args.value.now m) (tree_pairs m c.args.root) (sym c.lower-cursor.ensures.pairs ∙ none))

pub overflow_cast-key : goal.overflow_cast-key
overflow_cast-key g c =
    let frozen = c.args.frozen.now in
    let m = g.F.Frozen.records frozen in
    let value = c.args.value.now in
    let from = pairs_from m c.lower-cursor.result in
    let some : from ≢ [] = λ none. true≢false (sym ((c.at_end.ensures.pairs m c.lower-cursor.ensures.at).1 none) ∙ c.if-at_end.false) in
    let is = stands_at_value (type_of value) m c.args.root c.requires value from c.key.result c.lower-cursor.ensures.pairs (c.key.ensures m c.lower-cursor.ensures.at) some in
    let below = g.met.F.Frozen.references frozen c.key.result (omega (arith, value_there (type_of value) (m c.key.result) is)) in
    omega arith

pub compare-requires : goal.compare-requires
compare-requires g c =
    let m = g.F.Frozen.records c.args.frozen.now in
    let value = c.args.value.now in
    let from = pairs_from m c.lower-cursor.result in
    let some : from ≢ [] = λ none. true≢false (sym ((c.at_end.ensures.pairs m c.lower-cursor.ensures.at).1 none) ∙ c.if-at_end.false) in
    let is = stands_at_value (type_of value) m c.args.root c.requires value from c.from_raw-key.result c.lower-cursor.ensures.pairs
    (c.from_raw-key.ensures ∙ c.key.ensures m c.lower-cursor.ensures.at) some in
    (omega arith, subst (λ (f : g.row.F.Denot). IsValueRecord (type_of value) (g.F.Frozen.records f c.from_raw-key.result)) (sym c.lower-cursor.ensures.same) is)

pub returns-then-is_eq-clause-pairs : goal.returns-then-is_eq-clause-pairs
returns-then-is_eq-clause-pairs g c =
    let m = g.F.Frozen.records c.args.frozen.now in
    let value = c.args.value.now in
    let key = c.from_raw-key.result in
    let from = pairs_from m c.lower-cursor.result in
    let same = c.compare.ensures.same ∙ c.lower-cursor.ensures.same in
    let equal : value_cmp (stored_value (type_of value) m key) value ≡ Equal =
    ap (λ (f : g.row.F.Denot). value_cmp (stored_value (type_of value) (g.F.Frozen.records f) key) value) (sym c.lower-cursor.ensures.same)
    ∙ sym c.compare.ensures.answer ∙ equal_from c.compare.result (sym c.is_eq.ensures ∙ c.if-is_eq.true) in
    subst (λ (f : g.row.F.Denot). pairs_from (g.F.Frozen.records f) c.next.new.self ≡ drop 1 (pairs_from (g.F.Frozen.records f) c.lower-cursor.result)) same c.next.ensures.pairs
    ∙ goes_on (type_of value) m c.args.root c.requires value from key c.lower-cursor.ensures.pairs (c.from_raw-key.ensures ∙ c.key.ensures m c.lower-cursor.ensures.at) equal

pub returns-else-is_eq-clause-pairs : goal.returns-else-is_eq-clause-pairs
returns-else-is_eq-clause-pairs g c =
    let m = g.F.Frozen.records c.args.frozen.now in
    let value = c.args.value.now in
    let key = c.from_raw-key.result in
    let from = pairs_from m c.lower-cursor.result in
    stays_there (type_of value) m c.args.root c.requires value from key c.lower-cursor.ensures.pairs (c.from_raw-key.ensures ∙ c.key.ensures m c.lower-cursor.ensures.at)
    (λ equal. apart_from c.compare.result (sym c.is_eq.ensures ∙ c.if-is_eq.false)
    (c.compare.ensures.answer ∙ ap (λ (f : g.row.F.Denot). value_cmp (stored_value (type_of value) (g.F.Frozen.records f) key) value) c.lower-cursor.ensures.same ∙ equal))
