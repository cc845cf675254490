use Rattle.std.proofs.Common.{◌≡◌, ℕ, List, [], ◌∷◌, ◌++◌, length, refl, sym, ap, ◌∙◌, arith}
use Rattle.tree_read.proofs.CountLemmas.{leaf_count}
use Rattle.tree_read.proofs.SlotLemmas.{hand-leaf}
use Rattle.frozen_btree.proofs.root.make_leaf.Goals as goal

pub make_part-requires-clause-hand : goal.make_part-requires-clause-hand
make_part-requires-clause-hand g c =
    let m = g.S.Frozen.records c.args.store.now in
    let keys : c.push.new.self.items ≡ c.args.word ∷ [] = c.push.ensures.items ∙ ap (λ (xs : List ℕ). xs ++ (c.args.word ∷ [])) c.new.ensures in
    let values : c.push-2.new.self.items ≡ c.args.value ∷ [] = c.push-2.ensures.items ∙ ap (λ (xs : List ℕ). xs ++ (c.args.value ∷ [])) c.new-2.ensures in
    hand-leaf m c.push.new.self.items c.push-2.new.self.items (ap length keys ∙ sym (ap length values))

pub make_part-requires-clause-few : goal.make_part-requires-clause-few
make_part-requires-clause-few g c =
    let m = g.S.Frozen.records c.args.store.now in
    let ks = c.push.new.self.items in
    let vs = c.push-2.new.self.items in
    let keys : ks ≡ c.args.word ∷ [] = c.push.ensures.items ∙ ap (λ (xs : List ℕ). xs ++ (c.args.word ∷ [])) c.new.ensures in
    let values : vs ≡ c.args.value ∷ [] = c.push-2.ensures.items ∙ ap (λ (xs : List ℕ). xs ++ (c.args.value ∷ [])) c.new-2.ensures in
    let count = leaf_count m ks vs 0 refl (hand-leaf m ks vs (ap length keys ∙ sym (ap length values))) in
    let one : length ks ≡ 1 = ap length keys in
    omega arith
