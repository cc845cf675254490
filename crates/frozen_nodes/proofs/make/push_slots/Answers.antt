use Rattle.std.proofs.Common.{◌≡◌, ◌≤◌, ℕ, List, ◌-◌, ◌++◌, length, take, drop, replicate, ap, ◌∙◌, append_assoc, arith}
use Rattle.std.proofs.lemmas.List.{drop-replicate, take_all, length-replicate}
use Rattle.tree_read.specs.Nodes.{slot_words}
use Rattle.frozen_nodes.proofs.make.push_slots.Goals as goal

slots_more : (words slots all : List ℕ) → all ≡ words ++ slots → length slots ≤ 16
    → all ++ take (16 - length slots) (drop (length slots) (replicate 16 0)) ≡ words ++ slot_words slots
slots_more words slots all is few =
    let size : length (replicate {A = ℕ} (16 - length slots) 0) ≡ 16 - length slots = length-replicate (16 - length slots) 0 in
    let rest : take (16 - length slots) (drop (length slots) (replicate 16 0)) ≡ replicate (16 - length slots) 0 =
    ap (take (16 - length slots)) (drop-replicate (length slots) 16 0) ∙ take_all (16 - length slots) (replicate (16 - length slots) 0) (omega arith) in
    ap (λ xs. xs ++ take (16 - length slots) (drop (length slots) (replicate 16 0))) is
    ∙ append_assoc words slots (take (16 - length slots) (drop (length slots) (replicate 16 0)))
    ∙ ap (λ zs. words ++ (slots ++ zs)) rest

pub returns : goal.returns
returns c = record { words = c.append-2.ensures ∙ slots_more c.args.words.now.items c.args.slots.now c.append.new.words.items c.append.ensures c.requires.few }
