use Rattle.std.proofs.Common.{◌≡◌, ◌∷◌, [], true, false, ℕ, ℤ, List, map, length, sym, ap, subst, ◌∙◌, arith}
use Rattle.std.specs.Prelude.{IfOk, IfErr}
use Rattle.std.specs.BTreeMap.{is_at}
use Rattle.std.specs.Map.{remove_entry}
use Rattle.std.specs.Ordering.{nat_cmp}
use Rattle.list_lemmas.proofs.Counts.{length-remove_entry}
use Rattle.image_format.specs.Words.{unpacked}
use Rattle.store_api.specs.Calls.{RefusesOf}
use Rattle.store_api.specs.Parts.{Owns}
use Rattle.store_api.specs.Units.{MayDo, MakesWithin}
use Rattle.posting_store.specs.Lists.{list_at, list_levels, IsList, AreDocuments}
use Rattle.posting_store.specs.Changes.{list_part, list_most, IsListWidth, MakesList}
use Rattle.posting_store.proofs.ChangeLemmas.{counts_more}
use Rattle.posting_store.proofs.LeafLemmas.{same_size}
use Rattle.posting_store.proofs.PairLemmas.{documents_out}
use Rattle.posting_store.proofs.removing.remove_from_short.Goals as goal

pub replace_list-requires-clause-unit : goal.replace_list-requires-clause-unit
replace_list-requires-clause-unit g c = subst (λ s. (g.S.Store.ledger s).unit ≡ true) (sym c.items_of-items.ensures.same) c.requires.unit

pub replace_list-requires-clause-list : goal.replace_list-requires-clause-list
replace_list-requires-clause-list g c = subst (λ s. IsList (g.S.Frozen.records s) c.args.list) (sym c.items_of-items.ensures.same) c.requires.list

pub replace_list-requires-clause-owns : goal.replace_list-requires-clause-owns
replace_list-requires-clause-owns g c =
    subst (λ s. Owns (g.S.Store.ledger s) (g.S.Frozen.records s) (list_part c.args.list ∷ [])) (sym c.items_of-items.ensures.same) c.requires.owns

pub replace_list-requires-clause-few : goal.replace_list-requires-clause-few
replace_list-requires-clause-few g c =
    let m = g.S.Frozen.records c.args.store.now in
    let es = list_at m c.args.list in
    let docs = (remove_entry (is_at (nat_cmp c.args.doc)) es) in
    let read = (ap (map unpacked) c.as_slice.ensures.value ∙ c.take_item.ensures ∙ ap (λ (ds : List (ℕ × ℤ)). remove_entry (is_at (nat_cmp c.args.doc)) ds) c.items_of-items.ensures.items) in
    let size = same_size c.as_slice.result.now docs read in
    let less = length-remove_entry (is_at (nat_cmp c.args.doc)) es in let few = c.requires.few in
    omega arith

pub replace_list-requires-clause-documents : goal.replace_list-requires-clause-documents
replace_list-requires-clause-documents g c =
    let m = g.S.Frozen.records c.args.store.now in
    let es = list_at m c.args.list in
    let docs = (remove_entry (is_at (nat_cmp c.args.doc)) es) in
    let read : map unpacked c.as_slice.result.now ≡ docs = (ap (map unpacked) c.as_slice.ensures.value ∙ c.take_item.ensures
    ∙ ap (λ (ds : List (ℕ × ℤ)). remove_entry (is_at (nat_cmp c.args.doc)) ds) c.items_of-items.ensures.items) in
    let are : AreDocuments es = record { ascends = c.requires.list.ascends; numbers = c.requires.list.numbers } in
    subst AreDocuments (sym read) (documents_out (is_at (nat_cmp c.args.doc)) es are)

pub returns-clause-makes : goal.returns-clause-makes
returns-clause-makes g c =
    let ledger = g.S.Store.ledger in
    let records = g.S.Frozen.records in
    let m = records c.args.store.now in
    let t = c.replace_list.new.store in
    let es = list_at m c.args.list in
    let docs = (remove_entry (is_at (nat_cmp c.args.doc)) es) in
    let read = (ap (map unpacked) c.as_slice.ensures.value ∙ c.take_item.ensures ∙ ap (λ (ds : List (ℕ × ℤ)). remove_entry (is_at (nat_cmp c.args.doc)) ds) c.items_of-items.ensures.items) in
    subst (λ (ds : List (ℕ × ℤ)). IfOk c.replace_list.result (MakesList (ledger c.args.store.now) (ledger t) m (records t) c.args.list ds false)) read
    (subst (λ s. IfOk c.replace_list.result (MakesList (ledger s) (ledger t) (records s) (records t) c.args.list (map unpacked c.as_slice.result.now) false)) c.items_of-items.ensures.same c.replace_list.ensures.makes)

pub returns-clause-counts : goal.returns-clause-counts
returns-clause-counts g c =
    let ledger = g.S.Store.ledger in
    let m = g.S.Frozen.records c.args.store.now in
    let t = c.replace_list.new.store in
    let es = list_at m c.args.list in
    let docs = (remove_entry (is_at (nat_cmp c.args.doc)) es) in
    let read = (ap (map unpacked) c.as_slice.ensures.value ∙ c.take_item.ensures ∙ ap (λ (ds : List (ℕ × ℤ)). remove_entry (is_at (nat_cmp c.args.doc)) ds) c.items_of-items.ensures.items) in
    let made = subst (λ s. MakesWithin (ledger s) (ledger t) (list_most 0 (length c.as_slice.result.now))) c.items_of-items.ensures.same c.replace_list.ensures.counts in
    subst (λ (k : ℕ). MakesWithin (ledger c.args.store.now) (ledger t) (list_most (list_levels m c.args.list) k)) (same_size c.as_slice.result.now docs read)
    (counts_more (ledger c.args.store.now) (ledger t) (list_levels m c.args.list) (length c.as_slice.result.now) made)

pub returns-clause-refuses : goal.returns-clause-refuses
returns-clause-refuses g c =
    let ledger = g.S.Store.ledger in
    let m = g.S.Frozen.records c.args.store.now in
    let t = c.replace_list.new.store in
    let es = list_at m c.args.list in
    let docs = (remove_entry (is_at (nat_cmp c.args.doc)) es) in
    let read = (ap (map unpacked) c.as_slice.ensures.value ∙ c.take_item.ensures ∙ ap (λ (ds : List (ℕ × ℤ)). remove_entry (is_at (nat_cmp c.args.doc)) ds) c.items_of-items.ensures.items) in
    let refuses = subst (λ s. IfErr c.replace_list.result (RefusesOf (IsListWidth (length c.as_slice.result.now)) (ledger s) (ledger t))) c.items_of-items.ensures.same c.replace_list.ensures.refuses in
    subst (λ (k : ℕ). IfErr c.replace_list.result (RefusesOf (IsListWidth k) (ledger c.args.store.now) (ledger t))) (same_size c.as_slice.result.now docs read) refuses

pub returns-clause-may : goal.returns-clause-may
returns-clause-may g c = subst (λ s. MayDo (g.S.Store.ledger s) (g.S.Store.ledger c.replace_list.new.store)) c.items_of-items.ensures.same c.replace_list.ensures.may
