use Rattle.std.proofs.Common.{◌+◌, ◌-◌, ◌/◌, ◌++◌, ◌∷◌, [], ℕ, List, length, ap, ◌∙◌}
use Rattle.std.specs.Int.{from_be_bytes, w64}
use Rattle.image_format.specs.Values.{packed_bytes}
use Rattle.check_images.proofs.TextLemmas.{pack_step}
use Rattle.check_images.proofs.values.pack.Goals as goal

pub loop-i-preserved : goal.loop-i-preserved
loop-i-preserved c =
    let n = (length c.args.bytes.now + 7) / 8 in
    let rest = c.loop-i.rest.now in
    let all = packed_bytes n c.args.bytes.now in
    let word = c.from_be_bytes.ensures ∙ ap (from_be_bytes w64) c.eight_of.ensures in
    let i = c.loop-i.i in
    ap (λ (ws : List ℕ). ws ++ packed_bytes (n - (i + 1)) c.behind_eight-rest.result.now) c.in_ok-push.ensures.items
    ∙ ap (λ (r : List ℕ). (c.loop-i.words.items ++ c.from_be_bytes.result ∷ []) ++ packed_bytes (n - (i + 1)) r) c.behind_eight-rest.ensures
    ∙ pack_step c.loop-i.words.items rest all n i c.from_be_bytes.result c.loop-i-test.true word c.loop-i.invariant
