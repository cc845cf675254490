use Rattle.std.proofs.Common.{◌≡◌, ◌<◌, ◌^◌, ◌+◌, ℕ, suc, List, ◌∷◌, ◌++◌, length, take, drop, insert, sym, ap, subst, ◌∙◌, arith, IfOk}
use Rattle.tree_read.specs.Nodes.{level_of, count_of, node_keys, node_values}
use Rattle.tree_read.specs.Slots.{slot_pairs, IsInHand}
use Rattle.frozen_nodes.specs.Words.{AreWords}
use Rattle.frozen_nodes.proofs.MakeWordLemmas.{form-words, words-used, words-form, cut-size}
use Rattle.frozen_nodes.specs.Parts.{MakesParts, part_keys, part_nodes}
use Rattle.frozen_nodes.proofs.HandLemmas.{hand-size, level-set, used-set, keys-set, values-set}
use Rattle.frozen_nodes.proofs.parts.put_parts.Goals as goal

pub make_one-requires-clause-some : goal.make_one-requires-clause-some
make_one-requires-clause-some g c =
    let words = c.args.words.now in
    let level = level_of words in
    let i = c.args.place in
    let size = hand-size level words c.requires.form in
    let asked = c.requires.place in
    let low : i < length (node_keys words) = omega arith in
    let are = c.set_slot.ensures level (count_of words) (node_keys words) (node_values words) (form-words level 1 words c.requires.form) low in
    let used = words-used level c.args.pairs _ _ c.set_slot.new.words are in
    let same = cut-size (node_keys words) i c.in-One.part.key low in
    omega arith

pub make_one-requires-clause-fits : goal.make_one-requires-clause-fits
make_one-requires-clause-fits g c =
    let words = c.args.words.now in
    let level = level_of words in
    let i = c.args.place in
    let size = hand-size level words c.requires.form in
    let asked = c.requires.place in
    let low : i < length (node_keys words) = omega arith in
    let are = c.set_slot.ensures level (count_of words) (node_keys words) (node_values words) (form-words level 1 words c.requires.form) low in
    let used = words-used level c.args.pairs _ _ c.set_slot.new.words are in
    let few = are.few in
    omega arith

pub returns-in-One-clause-parts : goal.returns-in-One-clause-parts
returns-in-One-clause-parts g c =
    let words = c.args.words.now in
    let new = c.set_slot.new.words in
    let level = level_of words in
    let i = c.args.place in
    let ks = node_keys words in
    let vs = node_values words in
    let parts = c.args.parts.now in
    let size = hand-size level words c.requires.form in
    let asked = c.requires.place in
    let low : i < length ks = omega arith in
    let keys = take i ks ++ (part_keys parts ++ drop (suc i) ks) in
    let values = take i vs ++ (part_nodes parts ++ drop (suc i) vs) in
    let keys_are : take i ks ++ (c.in-One.part.key ∷ drop (suc i) ks) ≡ keys = ap (λ p. take i ks ++ (part_keys p ++ drop (suc i) ks)) (sym c.in-One.is) in
    let values_are : take i vs ++ (c.from.result ∷ drop (suc i) vs) ≡ values =
    ap (λ n. take i vs ++ (n ∷ drop (suc i) vs)) c.from.ensures ∙ ap (λ p. take i vs ++ (part_nodes p ++ drop (suc i) vs)) (sym c.in-One.is) in
    let same = cut-size ks i c.in-One.part.key low in
    let some : 0 < length keys = subst (λ xs. 0 < length xs) keys_are (omega arith) in
    let are : AreWords level c.args.pairs keys values new =
    subst (λ k. AreWords level c.args.pairs k values new) keys_are
    (subst (λ v. AreWords level c.args.pairs (take i ks ++ (c.in-One.part.key ∷ drop (suc i) ks)) v new) values_are
    (c.set_slot.ensures level (count_of words) ks vs (form-words level 1 words c.requires.form) low)) in
    c.make_one.ensures.parts level keys values (subst (λ n. AreWords level n keys values new) c.requires.counted are) c.requires.hand some c.requires.few

pub put_slot-requires-clause-form : goal.put_slot-requires-clause-form
put_slot-requires-clause-form g c =
    let words = c.args.words.now in
    let new = c.set_slot-in-Two.new.words in
    let level = level_of words in
    let i = c.args.place in
    let ks = node_keys words in
    let vs = node_values words in
    let parts = c.args.parts.now in
    let first = c.in-Two.first in
    let second = c.in-Two.second in
    let size = hand-size level words c.requires.form in
    let asked = c.requires.place in
    let low : i < length ks = omega arith in
    let are = c.set_slot-in-Two.ensures level (count_of words) ks vs (form-words level 1 words c.requires.form) low in
    let same = cut-size ks i first.key low in
    let counted = c.requires.counted in
    let few = c.requires.few in
    words-form level c.args.pairs _ _ new are (omega arith) (omega arith)

pub put_slot-requires-clause-low : goal.put_slot-requires-clause-low
put_slot-requires-clause-low g c =
    let words = c.args.words.now in
    let new = c.set_slot-in-Two.new.words in
    let level = level_of words in
    let i = c.args.place in
    let ks = node_keys words in
    let vs = node_values words in
    let parts = c.args.parts.now in
    let first = c.in-Two.first in
    let second = c.in-Two.second in
    let size = hand-size level words c.requires.form in
    let asked = c.requires.place in
    let low : i < length ks = omega arith in
    let are = c.set_slot-in-Two.ensures level (count_of words) ks vs (form-words level 1 words c.requires.form) low in
    let is = level-set words new c.args.pairs i first.key c.from-in-Two.result second.key 0 c.requires.form c.requires.place are in
    let most = c.requires.low in
    omega arith

pub put_slot-requires-clause-slot : goal.put_slot-requires-clause-slot
put_slot-requires-clause-slot g c =
    let words = c.args.words.now in
    let new = c.set_slot-in-Two.new.words in
    let level = level_of words in
    let i = c.args.place in
    let ks = node_keys words in
    let vs = node_values words in
    let parts = c.args.parts.now in
    let first = c.in-Two.first in
    let second = c.in-Two.second in
    let size = hand-size level words c.requires.form in
    let asked = c.requires.place in
    let low : i < length ks = omega arith in
    let are = c.set_slot-in-Two.ensures level (count_of words) ks vs (form-words level 1 words c.requires.form) low in
    let is = used-set words new c.args.pairs i first.key c.from-in-Two.result second.key 0 c.requires.form c.requires.place are in
    omega arith

pub put_slot-requires-clause-hand : goal.put_slot-requires-clause-hand
put_slot-requires-clause-hand g c =
    let words = c.args.words.now in
    let new = c.set_slot-in-Two.new.words in
    let level = level_of words in
    let i = c.args.place in
    let ks = node_keys words in
    let vs = node_values words in
    let parts = c.args.parts.now in
    let first = c.in-Two.first in
    let second = c.in-Two.second in
    let size = hand-size level words c.requires.form in
    let asked = c.requires.place in
    let low : i < length ks = omega arith in
    let are = c.set_slot-in-Two.ensures level (count_of words) ks vs (form-words level 1 words c.requires.form) low in
    let keys = take i ks ++ (part_keys parts ++ drop (suc i) ks) in
    let values = take i vs ++ (part_nodes parts ++ drop (suc i) vs) in
    let n1 = c.from-in-Two.result in
    let n2 = c.from-in-Two-2.result in
    let level_is = level-set words new c.args.pairs i first.key n1 second.key n2 c.requires.form c.requires.place are in
    let keys_are : insert (node_keys new) (i + 1) second.key ≡ keys =
    keys-set words new c.args.pairs i first.key n1 second.key n2 c.requires.form c.requires.place are
    ∙ ap (λ p. take i ks ++ (part_keys p ++ drop (suc i) ks)) (sym c.in-Two.is) in
    let values_are : insert (node_values new) (i + 1) n2 ≡ values =
    values-set words new c.args.pairs i first.key n1 second.key n2 c.requires.form c.requires.place are
    ∙ ap (λ n. take i vs ++ (n ∷ n2 ∷ drop (suc i) vs)) c.from-in-Two.ensures
    ∙ ap (λ n. take i vs ++ (first.node ∷ n ∷ drop (suc i) vs)) c.from-in-Two-2.ensures
    ∙ ap (λ p. take i vs ++ (part_nodes p ++ drop (suc i) vs)) (sym c.in-Two.is) in
    let moved : (P : ℕ → List ℕ → List ℕ → Type 0) → P level keys values → P (level_of new) (insert (node_keys new) (i + 1) second.key) (insert (node_values new) (i + 1) n2) =
    λ P h. subst (λ l. P l (insert (node_keys new) (i + 1) second.key) (insert (node_values new) (i + 1) n2)) (sym level_is)
    (subst (λ k. P level k (insert (node_values new) (i + 1) n2)) (sym keys_are) (subst (λ v. P level keys v) (sym values_are) h)) in
    let back : (P : ℕ → List ℕ → List ℕ → Type 0) → P (level_of new) (insert (node_keys new) (i + 1) second.key) (insert (node_values new) (i + 1) n2) → P level keys values =
    λ P h. subst (λ v. P level keys v) values_are (subst (λ k. P level k (insert (node_values new) (i + 1) n2)) keys_are
    (subst (λ l. P l (insert (node_keys new) (i + 1) second.key) (insert (node_values new) (i + 1) n2)) level_is h)) in
    moved (λ l k v. IsInHand (g.S.Frozen.records c.args.store.now) l k v) c.requires.hand

pub put_slot-requires-clause-few : goal.put_slot-requires-clause-few
put_slot-requires-clause-few g c =
    let words = c.args.words.now in
    let new = c.set_slot-in-Two.new.words in
    let level = level_of words in
    let i = c.args.place in
    let ks = node_keys words in
    let vs = node_values words in
    let parts = c.args.parts.now in
    let first = c.in-Two.first in
    let second = c.in-Two.second in
    let size = hand-size level words c.requires.form in
    let asked = c.requires.place in
    let low : i < length ks = omega arith in
    let are = c.set_slot-in-Two.ensures level (count_of words) ks vs (form-words level 1 words c.requires.form) low in
    let keys = take i ks ++ (part_keys parts ++ drop (suc i) ks) in
    let values = take i vs ++ (part_nodes parts ++ drop (suc i) vs) in
    let n1 = c.from-in-Two.result in
    let n2 = c.from-in-Two-2.result in
    let level_is = level-set words new c.args.pairs i first.key n1 second.key n2 c.requires.form c.requires.place are in
    let keys_are : insert (node_keys new) (i + 1) second.key ≡ keys =
    keys-set words new c.args.pairs i first.key n1 second.key n2 c.requires.form c.requires.place are
    ∙ ap (λ p. take i ks ++ (part_keys p ++ drop (suc i) ks)) (sym c.in-Two.is) in
    let values_are : insert (node_values new) (i + 1) n2 ≡ values =
    values-set words new c.args.pairs i first.key n1 second.key n2 c.requires.form c.requires.place are
    ∙ ap (λ n. take i vs ++ (n ∷ n2 ∷ drop (suc i) vs)) c.from-in-Two.ensures
    ∙ ap (λ n. take i vs ++ (first.node ∷ n ∷ drop (suc i) vs)) c.from-in-Two-2.ensures
    ∙ ap (λ p. take i vs ++ (part_nodes p ++ drop (suc i) vs)) (sym c.in-Two.is) in
    let moved : (P : ℕ → List ℕ → List ℕ → Type 0) → P level keys values → P (level_of new) (insert (node_keys new) (i + 1) second.key) (insert (node_values new) (i + 1) n2) =
    λ P h. subst (λ l. P l (insert (node_keys new) (i + 1) second.key) (insert (node_values new) (i + 1) n2)) (sym level_is)
    (subst (λ k. P level k (insert (node_values new) (i + 1) n2)) (sym keys_are) (subst (λ v. P level keys v) (sym values_are) h)) in
    let back : (P : ℕ → List ℕ → List ℕ → Type 0) → P (level_of new) (insert (node_keys new) (i + 1) second.key) (insert (node_values new) (i + 1) n2) → P level keys values =
    λ P h. subst (λ v. P level keys v) values_are (subst (λ k. P level k (insert (node_values new) (i + 1) n2)) keys_are
    (subst (λ l. P l (insert (node_keys new) (i + 1) second.key) (insert (node_values new) (i + 1) n2)) level_is h)) in
    moved (λ l k v. length (slot_pairs (g.S.Frozen.records c.args.store.now) l k v) < 2 ^ 32) c.requires.few

pub put_slot-requires-clause-counted : goal.put_slot-requires-clause-counted
put_slot-requires-clause-counted g c =
    let words = c.args.words.now in
    let new = c.set_slot-in-Two.new.words in
    let level = level_of words in
    let i = c.args.place in
    let ks = node_keys words in
    let vs = node_values words in
    let parts = c.args.parts.now in
    let first = c.in-Two.first in
    let second = c.in-Two.second in
    let size = hand-size level words c.requires.form in
    let asked = c.requires.place in
    let low : i < length ks = omega arith in
    let are = c.set_slot-in-Two.ensures level (count_of words) ks vs (form-words level 1 words c.requires.form) low in
    let keys = take i ks ++ (part_keys parts ++ drop (suc i) ks) in
    let values = take i vs ++ (part_nodes parts ++ drop (suc i) vs) in
    let n1 = c.from-in-Two.result in
    let n2 = c.from-in-Two-2.result in
    let level_is = level-set words new c.args.pairs i first.key n1 second.key n2 c.requires.form c.requires.place are in
    let keys_are : insert (node_keys new) (i + 1) second.key ≡ keys =
    keys-set words new c.args.pairs i first.key n1 second.key n2 c.requires.form c.requires.place are
    ∙ ap (λ p. take i ks ++ (part_keys p ++ drop (suc i) ks)) (sym c.in-Two.is) in
    let values_are : insert (node_values new) (i + 1) n2 ≡ values =
    values-set words new c.args.pairs i first.key n1 second.key n2 c.requires.form c.requires.place are
    ∙ ap (λ n. take i vs ++ (n ∷ n2 ∷ drop (suc i) vs)) c.from-in-Two.ensures
    ∙ ap (λ n. take i vs ++ (first.node ∷ n ∷ drop (suc i) vs)) c.from-in-Two-2.ensures
    ∙ ap (λ p. take i vs ++ (part_nodes p ++ drop (suc i) vs)) (sym c.in-Two.is) in
    let moved : (P : ℕ → List ℕ → List ℕ → Type 0) → P level keys values → P (level_of new) (insert (node_keys new) (i + 1) second.key) (insert (node_values new) (i + 1) n2) =
    λ P h. subst (λ l. P l (insert (node_keys new) (i + 1) second.key) (insert (node_values new) (i + 1) n2)) (sym level_is)
    (subst (λ k. P level k (insert (node_values new) (i + 1) n2)) (sym keys_are) (subst (λ v. P level keys v) (sym values_are) h)) in
    let back : (P : ℕ → List ℕ → List ℕ → Type 0) → P (level_of new) (insert (node_keys new) (i + 1) second.key) (insert (node_values new) (i + 1) n2) → P level keys values =
    λ P h. subst (λ v. P level keys v) values_are (subst (λ k. P level k (insert (node_values new) (i + 1) n2)) keys_are
    (subst (λ l. P l (insert (node_keys new) (i + 1) second.key) (insert (node_values new) (i + 1) n2)) level_is h)) in
    moved (λ l k v. c.args.pairs ≡ length (slot_pairs (g.S.Frozen.records c.args.store.now) l k v)) c.requires.counted

pub returns-in-Two-clause-parts : goal.returns-in-Two-clause-parts
returns-in-Two-clause-parts g c =
    let words = c.args.words.now in
    let new = c.set_slot-in-Two.new.words in
    let level = level_of words in
    let i = c.args.place in
    let ks = node_keys words in
    let vs = node_values words in
    let parts = c.args.parts.now in
    let first = c.in-Two.first in
    let second = c.in-Two.second in
    let size = hand-size level words c.requires.form in
    let asked = c.requires.place in
    let low : i < length ks = omega arith in
    let are = c.set_slot-in-Two.ensures level (count_of words) ks vs (form-words level 1 words c.requires.form) low in
    let keys = take i ks ++ (part_keys parts ++ drop (suc i) ks) in
    let values = take i vs ++ (part_nodes parts ++ drop (suc i) vs) in
    let n1 = c.from-in-Two.result in
    let n2 = c.from-in-Two-2.result in
    let level_is = level-set words new c.args.pairs i first.key n1 second.key n2 c.requires.form c.requires.place are in
    let keys_are : insert (node_keys new) (i + 1) second.key ≡ keys =
    keys-set words new c.args.pairs i first.key n1 second.key n2 c.requires.form c.requires.place are
    ∙ ap (λ p. take i ks ++ (part_keys p ++ drop (suc i) ks)) (sym c.in-Two.is) in
    let values_are : insert (node_values new) (i + 1) n2 ≡ values =
    values-set words new c.args.pairs i first.key n1 second.key n2 c.requires.form c.requires.place are
    ∙ ap (λ n. take i vs ++ (n ∷ n2 ∷ drop (suc i) vs)) c.from-in-Two.ensures
    ∙ ap (λ n. take i vs ++ (first.node ∷ n ∷ drop (suc i) vs)) c.from-in-Two-2.ensures
    ∙ ap (λ p. take i vs ++ (part_nodes p ++ drop (suc i) vs)) (sym c.in-Two.is) in
    let moved : (P : ℕ → List ℕ → List ℕ → Type 0) → P level keys values → P (level_of new) (insert (node_keys new) (i + 1) second.key) (insert (node_values new) (i + 1) n2) =
    λ P h. subst (λ l. P l (insert (node_keys new) (i + 1) second.key) (insert (node_values new) (i + 1) n2)) (sym level_is)
    (subst (λ k. P level k (insert (node_values new) (i + 1) n2)) (sym keys_are) (subst (λ v. P level keys v) (sym values_are) h)) in
    let back : (P : ℕ → List ℕ → List ℕ → Type 0) → P (level_of new) (insert (node_keys new) (i + 1) second.key) (insert (node_values new) (i + 1) n2) → P level keys values =
    λ P h. subst (λ v. P level keys v) values_are (subst (λ k. P level k (insert (node_values new) (i + 1) n2)) keys_are
    (subst (λ l. P l (insert (node_keys new) (i + 1) second.key) (insert (node_values new) (i + 1) n2)) level_is h)) in
    back (λ l k v. IfOk c.put_slot.result (MakesParts (g.S.Store.ledger c.args.store.now) (g.S.Store.ledger c.put_slot.new.store) (g.S.Frozen.records c.args.store.now) (g.S.Frozen.records c.put_slot.new.store) l k v))
    c.put_slot.ensures.parts
