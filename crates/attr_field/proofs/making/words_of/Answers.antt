use Rattle.std.proofs.Common.{◌≡◌, ◌∷◌, [], ℕ, ℤ, suc, ◌+◌, length, map, take, ◌++◌, sym, ap, ◌∙◌, refl, arith}
use Rattle.std.proofs.lemmas.List.{map-append}
use Rattle.std.proofs.lemmas.Option.{slice_get_read}
use Rattle.attr_field.specs.Items.{entries_by_key, word_entry}
use Rattle.attr_field.proofs.KeyLemmas.{entries_more}
use Rattle.attr_field.proofs.making.words_of.Goals as goal

pub loop-i-preserved : goal.loop-i-preserved
loop-i-preserved g c =
    let kind = c.args.kind in
    let keys = c.args.keys.now in
    let items = c.args.items.now in
    let i = c.loop-i.i in
    let below = c.loop-i-test.true in
    let at_key = slice_get_read keys (length keys) i c.index-keys-i.result refl below c.index-keys-i.is in
    let at_item = slice_get_read items (length keys) i c.index-items-i.result c.requires.sized below c.index-items-i.is in
    ap (map (word_entry kind)) c.in_ok-push.ensures.items
    ∙ map-append (word_entry kind) c.loop-i.words.items (c.word_of.result ∷ [])
    ∙ ap (λ es. es ++ word_entry kind c.word_of.result ∷ []) c.loop-i.invariant
    ∙ ap (λ (e : ℕ × ℤ). entries_by_key (take i keys) (take i items) ++ e ∷ []) c.word_of.ensures
    ∙ sym (entries_more keys items i c.index-keys-i.result c.index-items-i.result at_key at_item)
    ∙ ap (λ j. entries_by_key (take j keys) (take j items)) (let e : suc i ≡ i + 1 = omega arith in e)
