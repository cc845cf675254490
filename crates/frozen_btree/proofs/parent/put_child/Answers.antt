use Rattle.std.proofs.Common.{◌≡◌, ◌-◌, ◌<◌, ◌≤◌, ◌^◌, suc, ◌∷◌, ◌++◌, length, take, drop, set, refl, sym, ap, subst, ◌∙◌, arith, length-append}
use Rattle.std.specs.Prelude.{slice_index_or}
use Rattle.std.proofs.lemmas.List.{set_split}
use Rattle.tree_read.specs.Nodes.{level_of, used_of, count_of, node_keys, node_values}
use Rattle.tree_read.specs.Slots.{slot_pairs}
use Rattle.frozen_nodes.specs.Makes.{MakesPart}
use Rattle.frozen_nodes.specs.Words.{AreWords}
use Rattle.frozen_nodes.proofs.MakeWordLemmas.{form-words, words-used, words-keys, words-values}
use Rattle.frozen_btree.specs.Removes.{PutsBack, spliced}
use Rattle.frozen_btree.proofs.SettleLemmas.{settles-alone}
use Rattle.frozen_btree.proofs.ParentLemmas.{puts-alone}
use Rattle.frozen_nodes.proofs.RemoveWordLemmas.{words-own}
use Rattle.frozen_btree.proofs.parent.put_child.Goals as goal

pub returns-clause-puts : goal.returns-clause-puts
returns-clause-puts g c =
    let ledger = g.S.Store.ledger in
    let records = g.S.Frozen.records in
    let s = c.args.store.now in
    let t = c.make_words.new.store in
    let old = ledger s in
    let mid = ledger t in
    let m = records s in
    let n = records t in
    let words = c.args.words.now in
    let below = c.args.child.now in
    let l = level_of below in
    let i = c.args.place in
    let ks = node_keys words in
    let vs = node_values words in
    let ck = node_keys below in
    let cv = node_values below in
    let before = c.args.replaced.now.items in
    let part = c.in_ok-part.part in
    let new = c.set_slot.new.words in
    let count = length (slot_pairs m l ck cv) in
    let used : used_of below ≡ length ck = words-used l count ck cv below c.requires.child_words in
    let read = c.used_in.ensures in
    let test = c.if-used_in-lt-LEAST_SLOTS.false in
    let many : 8 ≤ length ck = omega arith in
    let few = c.requires.few in
    let front = slot_pairs m (suc l) (take i ks) (take i vs) in
    let back = slot_pairs m (suc l) (drop (suc i) ks) (drop (suc i) vs) in
    let first = length-append front (slot_pairs m l ck cv ++ back) in
    let second = length-append (slot_pairs m l ck cv) back in
    let small : length (slot_pairs m l ck cv) < 2 ^ 32 = omega arith in
    let made : MakesPart old mid m n l ck cv part = c.in_ok-part.ensures.makes l ck cv c.requires.child_words c.requires.hand (omega arith) small in
    let even = c.requires.parent.even in
    let place = c.requires.place in
    let left = slice_index_or words 1 0 - 1 in
    let are : AreWords (level_of words) left (take i ks ++ (part.key ∷ drop (suc i) ks)) (take i vs ++ (c.from.result ∷ drop (suc i) vs)) new =
    c.set_slot.ensures (level_of words) (count_of words) ks vs (form-words (level_of words) 2 words c.requires.form) place in
    let keys_are : node_keys new ≡ set ks i part.key = words-keys (level_of words) left _ _ new are ∙ sym (set_split ks i part.key place) in
    let values_are : node_values new ≡ set vs i part.node =
    words-values (level_of words) left _ _ new are ∙ ap (λ q. take i vs ++ (q ∷ drop (suc i) vs)) c.from.ensures ∙ sym (set_split vs i part.node (omega arith)) in
    let settles = settles-alone old mid m n l ck cv part.key part.node made.node made.key many i ks vs (node_keys new) (node_values new) even place keys_are values_are in
    let puts : PutsBack old mid m n l i ks vs ck cv before before (node_keys new) (node_values new) =
    puts-alone old mid m n l ks vs ck cv before before (node_keys new) (node_values new) c.requires.parent c.requires.hand i place refl settles in
    puts

pub returns-clause-words : goal.returns-clause-words
returns-clause-words g c =
    let ledger = g.S.Store.ledger in
    let records = g.S.Frozen.records in
    let s = c.args.store.now in
    let t = c.make_words.new.store in
    let old = ledger s in
    let mid = ledger t in
    let m = records s in
    let n = records t in
    let words = c.args.words.now in
    let below = c.args.child.now in
    let l = level_of below in
    let i = c.args.place in
    let ks = node_keys words in
    let vs = node_values words in
    let ck = node_keys below in
    let cv = node_values below in
    let before = c.args.replaced.now.items in
    let part = c.in_ok-part.part in
    let new = c.set_slot.new.words in
    let count = length (slot_pairs m l ck cv) in
    let used : used_of below ≡ length ck = words-used l count ck cv below c.requires.child_words in
    let read = c.used_in.ensures in
    let test = c.if-used_in-lt-LEAST_SLOTS.false in
    let many : 8 ≤ length ck = omega arith in
    let few = c.requires.few in
    let front = slot_pairs m (suc l) (take i ks) (take i vs) in
    let back = slot_pairs m (suc l) (drop (suc i) ks) (drop (suc i) vs) in
    let first = length-append front (slot_pairs m l ck cv ++ back) in
    let second = length-append (slot_pairs m l ck cv) back in
    let small : length (slot_pairs m l ck cv) < 2 ^ 32 = omega arith in
    let made : MakesPart old mid m n l ck cv part = c.in_ok-part.ensures.makes l ck cv c.requires.child_words c.requires.hand (omega arith) small in
    let even = c.requires.parent.even in
    let place = c.requires.place in
    let left = slice_index_or words 1 0 - 1 in
    let are : AreWords (level_of words) left (take i ks ++ (part.key ∷ drop (suc i) ks)) (take i vs ++ (c.from.result ∷ drop (suc i) vs)) new =
    c.set_slot.ensures (level_of words) (count_of words) ks vs (form-words (level_of words) 2 words c.requires.form) place in
    let keys_are : node_keys new ≡ set ks i part.key = words-keys (level_of words) left _ _ new are ∙ sym (set_split ks i part.key place) in
    let values_are : node_values new ≡ set vs i part.node =
    words-values (level_of words) left _ _ new are ∙ ap (λ q. take i vs ++ (q ∷ drop (suc i) vs)) c.from.ensures ∙ sym (set_split vs i part.node (omega arith)) in
    let settles = settles-alone old mid m n l ck cv part.key part.node made.node made.key many i ks vs (node_keys new) (node_values new) even place keys_are values_are in
    let puts : PutsBack old mid m n l i ks vs ck cv before before (node_keys new) (node_values new) =
    puts-alone old mid m n l ks vs ck cv before before (node_keys new) (node_values new) c.requires.parent c.requires.hand i place refl settles in
    let asked = c.requires.counted in
    let same : slice_index_or words 1 0 ≡ count_of words = refl in
    let counted : left ≡ length (spliced m l i ks vs (slot_pairs m l ck cv)) = omega arith in
    let pairs : left ≡ length (slot_pairs n (level_of words) (node_keys new) (node_values new)) =
    counted ∙ sym (ap length puts.pairs_are) ∙ ap (λ k. length (slot_pairs n k (node_keys new) (node_values new))) (sym c.requires.upper) in
    subst (λ k. AreWords (level_of words) k (node_keys new) (node_values new) new) pairs
    (words-own (level_of words) left (take i ks ++ (part.key ∷ drop (suc i) ks)) (take i vs ++ (c.from.result ∷ drop (suc i) vs)) new are)
