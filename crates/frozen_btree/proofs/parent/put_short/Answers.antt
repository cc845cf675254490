use Rattle.std.proofs.Common.{◌≡◌, length, sym, ap, subst, ◌∙◌}
use Rattle.tree_read.specs.Nodes.{level_of, node_keys, node_values}
use Rattle.tree_read.specs.Slots.{slot_pairs}
use Rattle.frozen_nodes.specs.Words.{AreWords}
use Rattle.frozen_nodes.proofs.MakeWordLemmas.{words-keys, words-values}
use Rattle.frozen_btree.specs.Removes.{PutsBack}
use Rattle.frozen_nodes.proofs.RemoveWordLemmas.{words-own}
use Rattle.frozen_btree.proofs.parent.put_short.Goals as goal

pub returns-clause-puts : goal.returns-clause-puts
returns-clause-puts g c =
    let ledger = g.S.Store.ledger in
    let records = g.S.Frozen.records in
    let s = c.args.store.now in
    let t = c.put_back.new.store in
    let old = ledger s in
    let mid = ledger t in
    let m = records s in
    let n = records t in
    let words = c.args.words.now in
    let below = c.args.child.now in
    let l = level_of below in
    let i = c.args.place in
    let ks = node_keys words in
    let vs = node_values words in
    let ck = node_keys below in
    let cv = node_values below in
    let before = c.args.replaced.now.items in
    let after = c.put_back.new.replaced.items in
    let slots = c.slots_of-slots.result in
    let short = c.slots_of-below.result in
    let last = c.put_back.new.slots in
    let new = c.write_slots.new.words in
    let are = c.write_slots.ensures in
    let p1 = subst (λ j. PutsBack old mid m n j i slots.keys.items slots.values.items short.keys.items short.values.items before after last.keys.items last.values.items) c.slots_of-below.ensures.level
    c.in_ok-put_back.ensures.puts in
    let p2 = subst (λ xs. PutsBack old mid m n l i xs slots.values.items short.keys.items short.values.items before after last.keys.items last.values.items) c.slots_of-slots.ensures.keys p1 in
    let p3 = subst (λ xs. PutsBack old mid m n l i ks xs short.keys.items short.values.items before after last.keys.items last.values.items) c.slots_of-slots.ensures.values p2 in
    let p4 = subst (λ xs. PutsBack old mid m n l i ks vs xs short.values.items before after last.keys.items last.values.items) c.slots_of-below.ensures.keys p3 in
    let p5 = subst (λ xs. PutsBack old mid m n l i ks vs ck xs before after last.keys.items last.values.items) c.slots_of-below.ensures.values p4 in
    let p6 = subst (λ xs. PutsBack old mid m n l i ks vs ck cv before after xs last.values.items) (sym (words-keys last.level c.args.pairs last.keys.items last.values.items new are)) p5 in
    let puts : PutsBack old mid m n l i ks vs ck cv before after (node_keys new) (node_values new) =
    subst (λ xs. PutsBack old mid m n l i ks vs ck cv before after (node_keys new) xs) (sym (words-values last.level c.args.pairs last.keys.items last.values.items new are)) p6 in
    puts

pub returns-clause-words : goal.returns-clause-words
returns-clause-words g c =
    let ledger = g.S.Store.ledger in
    let records = g.S.Frozen.records in
    let s = c.args.store.now in
    let t = c.put_back.new.store in
    let old = ledger s in
    let mid = ledger t in
    let m = records s in
    let n = records t in
    let words = c.args.words.now in
    let below = c.args.child.now in
    let l = level_of below in
    let i = c.args.place in
    let ks = node_keys words in
    let vs = node_values words in
    let ck = node_keys below in
    let cv = node_values below in
    let before = c.args.replaced.now.items in
    let after = c.put_back.new.replaced.items in
    let slots = c.slots_of-slots.result in
    let short = c.slots_of-below.result in
    let last = c.put_back.new.slots in
    let new = c.write_slots.new.words in
    let are = c.write_slots.ensures in
    let p1 = subst (λ j. PutsBack old mid m n j i slots.keys.items slots.values.items short.keys.items short.values.items before after last.keys.items last.values.items) c.slots_of-below.ensures.level
    c.in_ok-put_back.ensures.puts in
    let p2 = subst (λ xs. PutsBack old mid m n l i xs slots.values.items short.keys.items short.values.items before after last.keys.items last.values.items) c.slots_of-slots.ensures.keys p1 in
    let p3 = subst (λ xs. PutsBack old mid m n l i ks xs short.keys.items short.values.items before after last.keys.items last.values.items) c.slots_of-slots.ensures.values p2 in
    let p4 = subst (λ xs. PutsBack old mid m n l i ks vs xs short.values.items before after last.keys.items last.values.items) c.slots_of-below.ensures.keys p3 in
    let p5 = subst (λ xs. PutsBack old mid m n l i ks vs ck xs before after last.keys.items last.values.items) c.slots_of-below.ensures.values p4 in
    let p6 = subst (λ xs. PutsBack old mid m n l i ks vs ck cv before after xs last.values.items) (sym (words-keys last.level c.args.pairs last.keys.items last.values.items new are)) p5 in
    let puts : PutsBack old mid m n l i ks vs ck cv before after (node_keys new) (node_values new) =
    subst (λ xs. PutsBack old mid m n l i ks vs ck cv before after (node_keys new) xs) (sym (words-values last.level c.args.pairs last.keys.items last.values.items new are)) p6 in
    let level : last.level ≡ level_of words = c.put_back.ensures.level ∙ c.slots_of-slots.ensures.level in
    let pairs : c.args.pairs ≡ length (slot_pairs n (level_of words) (node_keys new) (node_values new)) =
    c.requires.counted ∙ sym (ap length puts.pairs_are) ∙ ap (λ k. length (slot_pairs n k (node_keys new) (node_values new))) (sym c.requires.upper) in
    subst (λ k. AreWords k (length (slot_pairs n (level_of words) (node_keys new) (node_values new))) (node_keys new) (node_values new) new) level
    (subst (λ k. AreWords last.level k (node_keys new) (node_values new) new) pairs (words-own last.level c.args.pairs last.keys.items last.values.items new are))
