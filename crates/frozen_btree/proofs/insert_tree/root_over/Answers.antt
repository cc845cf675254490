use Rattle.std.proofs.Common.{◌≡◌, ◌<◌, inl, inr, ℕ, List, [], ◌∷◌, ◌++◌, length, sym, ap, subst, ◌∙◌, arith, ◌^◌}
use Rattle.std.proofs.lemmas.Bool.{cases_eq}
use Rattle.std.specs.List.{flat_map}
use Rattle.tree_read.specs.Trees.{pairs_below, root_least}
use Rattle.frozen_nodes.specs.declared.parts.Parts.TheVariants.{Two}
use Rattle.frozen_nodes.specs.Parts.{AreParts, part_nodes}
use Rattle.frozen_btree.specs.Inserts.{IsRootOver}
use Rattle.frozen_btree.proofs.InsertRootLemmas.{two-hand, two-few, two_root}
use Rattle.frozen_btree.proofs.insert_tree.root_over.Goals as goal

pub make_part-requires-clause-hand : goal.make_part-requires-clause-hand
make_part-requires-clause-hand g c =
    let m = g.S.Frozen.records c.args.store.now in
    let level = c.args.level in
    let first = c.in-Two.first in
    let second = c.in-Two.second in
    let keys : c.push-in-Two-2.new.self.items ≡ first.key ∷ second.key ∷ [] =
    c.push-in-Two-2.ensures.items ∙ ap (λ (xs : List ℕ). xs ++ (second.key ∷ [])) (c.push.ensures.items ∙ ap (λ (xs : List ℕ). xs ++ (first.key ∷ [])) c.new.ensures) in
    let low : c.from.result ≡ first.node = c.from.ensures in
    let high : c.from-in-Two.result ≡ second.node = c.from-in-Two.ensures in
    let values : c.push-in-Two-3.new.self.items ≡ first.node ∷ second.node ∷ [] =
    c.push-in-Two-3.ensures.items ∙ ap (λ (xs : List ℕ). xs ++ (c.from-in-Two.result ∷ [])) (c.push-in-Two.ensures.items ∙ ap (λ (xs : List ℕ). xs ++ (c.from.result ∷ [])) c.new-in-Two.ensures)
    ∙ ap (λ a. a ∷ c.from-in-Two.result ∷ []) low ∙ ap (λ b. first.node ∷ b ∷ []) high in
    let parts : AreParts m (root_least level) level (Two first second) (flat_map (pairs_below m level) (part_nodes c.args.parts.now)) =
    subst (λ p. AreParts m (root_least level) level p (flat_map (pairs_below m level) (part_nodes c.args.parts.now))) c.in-Two.is c.requires.parts in
    two-hand m (root_least level) level first second (flat_map (pairs_below m level) (part_nodes c.args.parts.now)) parts c.push-in-Two-2.new.self.items c.push-in-Two-3.new.self.items keys values

pub make_part-requires-clause-few : goal.make_part-requires-clause-few
make_part-requires-clause-few g c =
    let m = g.S.Frozen.records c.args.store.now in
    let level = c.args.level in
    let first = c.in-Two.first in
    let second = c.in-Two.second in
    let keys : c.push-in-Two-2.new.self.items ≡ first.key ∷ second.key ∷ [] =
    c.push-in-Two-2.ensures.items ∙ ap (λ (xs : List ℕ). xs ++ (second.key ∷ [])) (c.push.ensures.items ∙ ap (λ (xs : List ℕ). xs ++ (first.key ∷ [])) c.new.ensures) in
    let low : c.from.result ≡ first.node = c.from.ensures in
    let high : c.from-in-Two.result ≡ second.node = c.from-in-Two.ensures in
    let values : c.push-in-Two-3.new.self.items ≡ first.node ∷ second.node ∷ [] =
    c.push-in-Two-3.ensures.items ∙ ap (λ (xs : List ℕ). xs ++ (c.from-in-Two.result ∷ [])) (c.push-in-Two.ensures.items ∙ ap (λ (xs : List ℕ). xs ++ (c.from.result ∷ [])) c.new-in-Two.ensures)
    ∙ ap (λ a. a ∷ c.from-in-Two.result ∷ []) low ∙ ap (λ b. first.node ∷ b ∷ []) high in
    let parts : AreParts m (root_least level) level (Two first second) (flat_map (pairs_below m level) (part_nodes c.args.parts.now)) =
    subst (λ p. AreParts m (root_least level) level p (flat_map (pairs_below m level) (part_nodes c.args.parts.now))) c.in-Two.is c.requires.parts in
    two-few m (root_least level) level first second (flat_map (pairs_below m level) (part_nodes c.args.parts.now)) parts c.push-in-Two-2.new.self.items c.push-in-Two-3.new.self.items keys values
    (subst (λ p. length (flat_map (pairs_below m level) (part_nodes p)) < 2 ^ 32) c.in-Two.is c.requires.few)

pub returns-in_ok-root-in-Two-clause-root : goal.returns-in_ok-root-in-Two-clause-root
returns-in_ok-root-in-Two-clause-root g c =
    let m = g.S.Frozen.records c.args.store.now in
    let n = g.S.Frozen.records c.make_part.new.store in
    let old = g.S.Store.ledger c.args.store.now in
    let new = g.S.Store.ledger c.make_part.new.store in
    let level = c.args.level in
    let first = c.in-Two.first in
    let second = c.in-Two.second in
    let keys : c.push-in-Two-2.new.self.items ≡ first.key ∷ second.key ∷ [] =
    c.push-in-Two-2.ensures.items ∙ ap (λ (xs : List ℕ). xs ++ (second.key ∷ [])) (c.push.ensures.items ∙ ap (λ (xs : List ℕ). xs ++ (first.key ∷ [])) c.new.ensures) in
    let low : c.from.result ≡ first.node = c.from.ensures in
    let high : c.from-in-Two.result ≡ second.node = c.from-in-Two.ensures in
    let values : c.push-in-Two-3.new.self.items ≡ first.node ∷ second.node ∷ [] =
    c.push-in-Two-3.ensures.items ∙ ap (λ (xs : List ℕ). xs ++ (c.from-in-Two.result ∷ [])) (c.push-in-Two.ensures.items ∙ ap (λ (xs : List ℕ). xs ++ (c.from.result ∷ [])) c.new-in-Two.ensures)
    ∙ ap (λ a. a ∷ c.from-in-Two.result ∷ []) low ∙ ap (λ b. first.node ∷ b ∷ []) high in
    let parts : AreParts m (root_least level) level (Two first second) (flat_map (pairs_below m level) (part_nodes c.args.parts.now)) =
    subst (λ p. AreParts m (root_least level) level p (flat_map (pairs_below m level) (part_nodes c.args.parts.now))) c.in-Two.is c.requires.parts in
    let two : length (part_nodes c.args.parts.now) ≡ 2 = ap (λ p. length (part_nodes p)) c.in-Two.is in
    let most = c.requires.low in
    let high_one = c.requires.two in
    let below : level < 7 = elim (cases_eq level 7) [ inl e ↦ absurd (let one = high_one e in omega arith) | inr ne ↦ omega arith ] in
    subst (IsRootOver old new m n level c.args.parts.now) (sym c.from_raw-in-Two.ensures)
    (subst (λ p. IsRootOver old new m n level p c.in_ok-root-in-Two.root.node) (sym c.in-Two.is)
    (two_root m (root_least level) level first second (flat_map (pairs_below m level) (part_nodes c.args.parts.now)) parts c.push-in-Two-2.new.self.items c.push-in-Two-3.new.self.items keys values
    old new n c.in_ok-root-in-Two.root.node below c.in_ok-root-in-Two.ensures.makes.node))
