use Rattle.std.proofs.Common.{◌≡◌, ℕ, List, [], ◌∷◌, ◌++◌, append_assoc, ◌∙◌}
use Rattle.attr_saver.specs.Bytes.{magic, form_bytes}
use Rattle.attr_saver.proofs.writing.push_form.Goals as goal

formed : (a b c d : List ℕ) (k t : ℕ) → b ≡ a ++ magic → c ≡ b ++ k ∷ [] → d ≡ c ++ t ∷ [] → d ≡ a ++ (magic ++ k ∷ t ∷ [])
formed a b c d k t p q r = rw (r, q, p) (append_assoc (a ++ magic) (k ∷ []) (t ∷ []) ∙ append_assoc a magic (k ∷ t ∷ []))

pub returns : goal.returns
unfolding form_bytes
returns c =
    rw (← c.kind_byte.ensures, ← c.type_byte.ensures) (formed c.args.out.now.items _ _ _ c.kind_byte.result c.type_byte.result
    c.in_ok-extend_from_slice.ensures.items c.in_ok-push.ensures.items c.in_ok-push-2.ensures.items)
