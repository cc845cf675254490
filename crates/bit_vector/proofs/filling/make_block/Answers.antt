use Rattle.std.proofs.Common.{◌≡◌, ◌++◌, ◌∷◌, [], ℕ, List, true, length, rules, refl, sym, ap, subst, ◌∙◌, arith}
use Rattle.store_api.specs.Units.{MayDo, MakesWithin}
use Rattle.store_api.proofs.May.{may_do-same}
use Rattle.tree_read.specs.Trees.{tree_pairs}
use Rattle.index_model.specs.Sets.{in_words}
use Rattle.bit_vector.specs.Fillings.{block_most, IsBlockOf, MakesBlock}
use Rattle.bit_vector.specs.Vectors.{is_block_of}
use Rattle.bit_vector.specs.declared.filling.Blocks.{Blocks}
use Rattle.bit_vector.proofs.CountLemmas.{within_none, within_one}
use Rattle.bit_vector.proofs.FillLemmas.{keys, no_block_of, some_block_of}
use Rattle.bit_vector.proofs.GatherLemmas.{makes_no_block, makes_one_block}
use Rattle.bit_vector.proofs.TurnLemmas.{padded_same}
use Rattle.bit_vector.proofs.filling.make_block.Goals as goal

pub make_entry-requires : goal.make_entry-requires
make_entry-requires g c =
    let own : length c.words_of_tree-words.result ≡ 64 = search rules in
    (omega arith, (subst (λ f. (g.S.Store.ledger f).unit ≡ true) (sym c.words_of_tree-words.ensures.same) c.requires.unit, (refl, omega (arith, own))))

pub returns-then-is_empty-clause-makes : goal.returns-then-is_empty-clause-makes
returns-then-is_empty-clause-makes g c =
    let ledger = g.S.Store.ledger in
    let records = g.S.Frozen.records in
    let s = c.args.store.now in
    let docs = keys (tree_pairs (records s) c.args.root) in
    let none = no_block_of docs c.args.number (λ i low. sym (c.words_of_tree-words.ensures.bits i low) ∙ c.if-is_empty.ensures.none refl i) in
    subst (λ (f : g.row.S.Denot). MakesBlock (ledger s) (ledger f) (records s) (records f) docs c.args.number c.args.blocks.now c.args.blocks.now) (sym c.words_of_tree-words.ensures.same)
    (makes_no_block (ledger s) (records s) docs c.args.number c.args.blocks.now none)

pub returns-then-is_empty-clause-counts : goal.returns-then-is_empty-clause-counts
returns-then-is_empty-clause-counts g c =
    let ledger = g.S.Store.ledger in
    let s = c.args.store.now in
    let most = block_most (is_block_of (keys (tree_pairs (g.S.Frozen.records s) c.args.root)) c.args.number) in
    subst (λ (f : g.row.S.Denot). MakesWithin (ledger s) (ledger f) most) (sym c.words_of_tree-words.ensures.same) (within_none (ledger s) most)

pub returns-then-is_empty-clause-may : goal.returns-then-is_empty-clause-may
returns-then-is_empty-clause-may g c =
    let ledger = g.S.Store.ledger in
    let s = c.args.store.now in
    subst (λ (f : g.row.S.Denot). MayDo (ledger s) (ledger f)) (sym c.words_of_tree-words.ensures.same) (may_do-same (ledger s))

pub returns-in_err-block-clause-counts : goal.returns-in_err-block-clause-counts
returns-in_err-block-clause-counts g c =
    let ledger = g.S.Store.ledger in
    let s = c.words_of_tree-words.new.frozen in
    let t = c.make_entry.new.store in
    let docs = keys (tree_pairs (g.S.Frozen.records c.args.store.now) c.args.root) in
    let own : length c.words_of_tree-words.result ≡ 64 = search rules in
    let some = some_block_of docs c.args.number c.words_of_tree-words.result own (c.if-is_empty.ensures.some refl) c.words_of_tree-words.ensures.bits in
    subst (λ (f : g.row.S.Denot). MakesWithin (ledger f) (ledger t) (block_most (is_block_of docs c.args.number))) c.words_of_tree-words.ensures.same
    (within_one (ledger s) (ledger t) (is_block_of docs c.args.number) some c.make_entry.ensures.one c.make_entry.ensures.others)

pub returns-clause-counts : goal.returns-clause-counts
returns-clause-counts g c =
    let ledger = g.S.Store.ledger in
    let s = c.words_of_tree-words.new.frozen in
    let t = c.make_entry.new.store in
    let docs = keys (tree_pairs (g.S.Frozen.records c.args.store.now) c.args.root) in
    let own : length c.words_of_tree-words.result ≡ 64 = search rules in
    let some = some_block_of docs c.args.number c.words_of_tree-words.result own (c.if-is_empty.ensures.some refl) c.words_of_tree-words.ensures.bits in
    subst (λ (f : g.row.S.Denot). MakesWithin (ledger f) (ledger t) (block_most (is_block_of docs c.args.number))) c.words_of_tree-words.ensures.same
    (within_one (ledger s) (ledger t) (is_block_of docs c.args.number) some c.make_entry.ensures.one c.make_entry.ensures.others)

pub returns-clause-makes : goal.returns-clause-makes
returns-clause-makes g c =
    let ledger = g.S.Store.ledger in
    let records = g.S.Frozen.records in
    let s = c.words_of_tree-words.new.frozen in
    let t = c.make_entry.new.store in
    let docs = keys (tree_pairs (records c.args.store.now) c.args.root) in
    let words = c.words_of_tree-words.result in
    let own : length words ≡ 64 = search rules in
    let some = some_block_of docs c.args.number words own (c.if-is_empty.ensures.some refl) c.words_of_tree-words.ensures.bits in
    let stored = c.in_ok-block.ensures.words ∙ padded_same words own in
    let is : IsBlockOf docs c.args.number (records t c.in_ok-block.block) = record {
      size = ap length stored ∙ own;
      bits = λ i low. ap (λ (ws : List ℕ). in_words ws i) stored ∙ c.words_of_tree-words.ensures.bits i low;
    } in
    let next : Blocks = record { numbers = c.push.new.self; records = c.push-2.new.self } in
    subst (λ (f : g.row.S.Denot). MakesBlock (ledger f) (ledger t) (records f) (records t) docs c.args.number c.args.blocks.now next) c.words_of_tree-words.ensures.same
    (makes_one_block (ledger s) (ledger t) (records s) (records t) docs c.args.number c.in_ok-block.block c.args.blocks.now next some is c.in_ok-block.ensures.turns c.push.ensures.items
    (c.push-2.ensures.items ∙ ap (λ (r : ℕ). c.args.blocks.now.records.items ++ r ∷ []) c.raw.ensures))

pub returns-clause-may : goal.returns-clause-may
returns-clause-may g c =
    let ledger = g.S.Store.ledger in
    subst (λ (f : g.row.S.Denot). MayDo (ledger f) (ledger c.make_entry.new.store)) c.words_of_tree-words.ensures.same c.make_entry.ensures.may
