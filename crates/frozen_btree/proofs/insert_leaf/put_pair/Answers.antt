use Rattle.std.proofs.Common.{◌≡◌, ◌<◌, ◌^◌, ◌+◌, length, true, false, sym, subst, ◌∙◌, arith, true≢false, IfOk}
use Rattle.tree_read.specs.Nodes.{count_of, node_keys, node_values}
use Rattle.tree_read.specs.Slots.{slot_pairs, IsInHand}
use Rattle.frozen_nodes.specs.Words.{AreWords}
use Rattle.frozen_nodes.proofs.MakeWordLemmas.{form-words, words-used, cut-size}
use Rattle.frozen_nodes.specs.Parts.{MakesParts}
use Rattle.frozen_btree.specs.Inserts.{put_at}
use Rattle.frozen_nodes.proofs.HandLemmas.{hand-size, hand-even}
use Rattle.frozen_btree.proofs.PutLemmas.{pair-hand, pair-count}
use Rattle.frozen_btree.proofs.insert_leaf.put_pair.Goals as goal

pub make_one-requires-clause-some : goal.make_one-requires-clause-some
make_one-requires-clause-some g c =
    let words = c.args.words.now in
    let i = c.args.spot.slot in
    let size = hand-size 0 words c.requires.form in
    let asked = c.requires.found c.if-spot.true in
    let low : i < length (node_keys words) = omega arith in
    let are = c.set_slot.ensures 0 (count_of words) (node_keys words) (node_values words) (form-words 0 1 words c.requires.form) low in
    let used = words-used 0 c.used_in-pairs.result _ _ c.set_slot.new.words are in
    let same = cut-size (node_keys words) i c.args.word low in
    omega arith

pub make_one-requires-clause-fits : goal.make_one-requires-clause-fits
make_one-requires-clause-fits g c =
    let words = c.args.words.now in
    let i = c.args.spot.slot in
    let size = hand-size 0 words c.requires.form in
    let asked = c.requires.found c.if-spot.true in
    let low : i < length (node_keys words) = omega arith in
    let are = c.set_slot.ensures 0 (count_of words) (node_keys words) (node_values words) (form-words 0 1 words c.requires.form) low in
    let used = words-used 0 c.used_in-pairs.result _ _ c.set_slot.new.words are in
    let few = are.few in
    omega arith

pub returns-then-spot-clause-parts : goal.returns-then-spot-clause-parts
returns-then-spot-clause-parts g c =
    let m = g.S.Frozen.records c.args.store.now in
    let words = c.args.words.now in
    let i = c.args.spot.slot in
    let ks = node_keys words in
    let vs = node_values words in
    let size = hand-size 0 words c.requires.form in
    let even = hand-even 0 words c.requires.form in
    let asked = c.requires.found c.if-spot.true in
    let low : i < length ks = omega arith in
    let first = form-words 0 1 words c.requires.form in
    let keys = put_at true i c.args.word ks in
    let values = put_at true i c.args.value vs in
    let are : AreWords 0 c.used_in-pairs.result keys values c.set_slot.new.words = c.set_slot.ensures 0 (count_of words) ks vs first low in
    let same = cut-size ks i c.args.word low in
    let hand = pair-hand m ks vs i c.args.word c.args.value even true (omega arith) (λ e. low) in
    let count : length (slot_pairs m 0 keys values) ≡ length ks = pair-count m ks vs i c.args.word c.args.value even true (omega arith) (λ e. low) in
    let few = first.few in
    let pairs : c.used_in-pairs.result ≡ length (slot_pairs m 0 keys values) = c.used_in-pairs.ensures ∙ size ∙ sym count in
    subst (λ f. IfOk c.make_one.result (MakesParts (g.S.Store.ledger c.args.store.now) (g.S.Store.ledger c.make_one.new.store) m (g.S.Frozen.records c.make_one.new.store) 0 (put_at f i c.args.word ks)
    (put_at f i c.args.value vs)))
    (sym c.if-spot.true)
    (c.make_one.ensures.parts 0 keys values (subst (λ n. AreWords 0 n keys values c.set_slot.new.words) pairs are) hand (omega arith) (omega arith))

pub put_slot-requires-clause-hand : goal.put_slot-requires-clause-hand
put_slot-requires-clause-hand g c =
    let m = g.S.Frozen.records c.args.store.now in
    let words = c.args.words.now in
    let i = c.args.spot.slot in
    let ks = node_keys words in
    let vs = node_values words in
    let size = hand-size 0 words c.requires.form in
    let asked = c.requires.within in
    let no_one : false ≡ true → i < length ks = λ e. absurd (true≢false (sym e)) in
    subst (λ l. IsInHand m l (put_at false i c.args.word ks) (put_at false i c.args.value vs)) (sym c.requires.form.at_level)
    (pair-hand m ks vs i c.args.word c.args.value (hand-even 0 words c.requires.form) false (omega arith) no_one)

pub put_slot-requires-clause-few : goal.put_slot-requires-clause-few
put_slot-requires-clause-few g c =
    let m = g.S.Frozen.records c.args.store.now in
    let words = c.args.words.now in
    let i = c.args.spot.slot in
    let ks = node_keys words in
    let vs = node_values words in
    let size = hand-size 0 words c.requires.form in
    let asked = c.requires.within in
    let no_one : false ≡ true → i < length ks = λ e. absurd (true≢false (sym e)) in
    let few = (form-words 0 1 words c.requires.form).few in
    let count = pair-count m ks vs i c.args.word c.args.value (hand-even 0 words c.requires.form) false (omega arith) no_one in
    subst (λ l. length (slot_pairs m l (put_at false i c.args.word ks) (put_at false i c.args.value vs)) < 2 ^ 32) (sym c.requires.form.at_level) (omega arith)

pub put_slot-requires-clause-counted : goal.put_slot-requires-clause-counted
put_slot-requires-clause-counted g c =
    let m = g.S.Frozen.records c.args.store.now in
    let words = c.args.words.now in
    let i = c.args.spot.slot in
    let ks = node_keys words in
    let vs = node_values words in
    let size = hand-size 0 words c.requires.form in
    let asked = c.requires.within in
    let no_one : false ≡ true → i < length ks = λ e. absurd (true≢false (sym e)) in
    let count = pair-count m ks vs i c.args.word c.args.value (hand-even 0 words c.requires.form) false (omega arith) no_one in
    let is = c.used_in-pairs.ensures in
    subst (λ l. c.used_in-pairs.result + 1 ≡ length (slot_pairs m l (put_at false i c.args.word ks) (put_at false i c.args.value vs))) (sym c.requires.form.at_level) (omega arith)
