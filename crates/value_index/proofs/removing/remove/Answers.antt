use Rattle.std.proofs.Common.{◌≡◌, ◌∷◌, [], true, false, Some, IsSome, sym, subst, ◌∙◌, arith}
use Rattle.std.specs.Prelude.{IfOk, IfErr, length}
use Rattle.std.specs.BTreeMap.{is_at}
use Rattle.std.specs.Map.{lookup as lookup_in, remove_entry}
use Rattle.std.specs.Ordering.{nat_cmp}
use Rattle.image_format.specs.Postings.{index_of}
use Rattle.index_model.specs.Index.{list_of, without_posting}
use Rattle.attr_types.specs.Value.{type_of}
use Rattle.enum_dictionary.specs.Dictionaries.{beside_value}
use Rattle.tree_read.specs.Pairs.{lookup_pair}
use Rattle.tree_read.specs.Trees.{tree_pairs}
use Rattle.store_api.specs.Calls.{RefusesOf}
use Rattle.store_api.specs.Parts.{Owns}
use Rattle.store_api.specs.Units.{MayDo, MakesWithin}
use Rattle.value_index.specs.Changes.{change_most, IsChangeWidth, MakesIndex}
use Rattle.posting_store.specs.Lists.{AreOnes}
use Rattle.value_index.specs.Forms.{IsPlainIndex}
use Rattle.value_index.specs.Indexes.{index_part, IsIndex}
use Rattle.value_index.proofs.StepLemmas.{entry_found, entry_none, value_found}
use Rattle.value_index.proofs.removing.remove.Goals as goal

pub find-requires : goal.find-requires
find-requires g c = (omega arith, (omega arith, c.requires.index.dictionary_is))

pub remove_from-requires : goal.remove_from-requires
remove_from-requires g c =
    let ledger = g.S.Store.ledger in
    let records = g.S.Frozen.records in
    let value = c.args.value.now in
    let root = c.args.root in
    let found = entry_found g.row.OFFSET_BITS (lookup_pair (beside_value value (records c.args.store.now)) (tree_pairs (records c.args.store.now) root)) c.in-Some.entry c.from_word.result
    (sym c.in-Some.is ∙ c.find.ensures.entry) c.from_word.ensures in
    let back = sym c.find.ensures.same in (
      omega arith,
      (
        subst (λ s. (ledger s).unit ≡ true) back c.requires.unit,
        (
          subst (λ s. IsIndex (type_of value) (records s) root) back c.requires.index,
          (
            subst (λ s. Owns (ledger s) (records s) (index_part root ∷ [])) back c.requires.owns,
            (
              subst (λ s. c.args.dense ≡ false → IsPlainIndex (records s) root) back c.requires.plain,
              (
                subst (λ s. c.args.dense ≡ true → AreOnes (list_of value (index_of (type_of value) (records s) root))) back c.requires.ones,
                (
                  subst (λ s. lookup_pair (beside_value value (records s)) (tree_pairs (records s) root) ≡ Some (c.in-Some.entry.key, c.from_word.result)) back found,
                  subst (λ s. IsSome (lookup_in (is_at (nat_cmp c.args.doc)) (list_of value (index_of (type_of value) (records s) root)))) back c.requires.there,
                ),
              ),
            ),
          ),
        ),
      ),
    )

pub unreachable-requires : goal.unreachable-requires
unreachable-requires g c =
    let m = g.S.Frozen.records c.args.store.now in
    let value = c.args.value.now in
    value_found value m c.args.root c.args.doc c.requires.index c.requires.there
    (entry_none g.row.OFFSET_BITS (lookup_pair (beside_value value m) (tree_pairs m c.args.root)) (sym c.in-None.is ∙ c.find.ensures.entry))

pub returns-clause-makes : goal.returns-clause-makes
returns-clause-makes g c =
    let ledger = g.S.Store.ledger in
    let records = g.S.Frozen.records in
    let value = c.args.value.now in
    let t = c.remove_from.new.store in
    subst (λ s. IfOk c.remove_from.result (MakesIndex (type_of value) (ledger s) (ledger t) (records s) (records t) c.args.root
    (without_posting value c.args.doc (index_of (type_of value) (records s) c.args.root)))) c.find.ensures.same c.remove_from.ensures.makes

pub returns-clause-refuses : goal.returns-clause-refuses
returns-clause-refuses g c =
    let ledger = g.S.Store.ledger in
    let records = g.S.Frozen.records in
    let value = c.args.value.now in
    let root = c.args.root in
    let t = c.remove_from.new.store in
    subst (λ s. IfErr c.remove_from.result (RefusesOf (IsChangeWidth c.args.dense value
    (length (remove_entry (is_at (nat_cmp c.args.doc)) (list_of value (index_of (type_of value) (records s) root))))) (ledger s) (ledger t))) c.find.ensures.same c.remove_from.ensures.refuses

pub returns-clause-may : goal.returns-clause-may
returns-clause-may g c = subst (λ s. MayDo (g.S.Store.ledger s) (g.S.Store.ledger c.remove_from.new.store)) c.find.ensures.same c.remove_from.ensures.may

pub returns-clause-counts : goal.returns-clause-counts
returns-clause-counts g c =
    let ledger = g.S.Store.ledger in
    let records = g.S.Frozen.records in
    let value = c.args.value.now in
    let root = c.args.root in
    let t = c.remove_from.new.store in
    subst (λ s. MakesWithin (ledger s) (ledger t) (change_most value (records s) root c.args.dense c.args.documents
    (remove_entry (is_at (nat_cmp c.args.doc)) (list_of value (index_of (type_of value) (records s) root))))) c.find.ensures.same c.remove_from.ensures.counts

pub returns-clause-plain : goal.returns-clause-plain
returns-clause-plain g c = c.remove_from.ensures.plain
