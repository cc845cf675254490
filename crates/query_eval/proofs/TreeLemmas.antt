-- The root of a posting tree.
use Rattle.std.proofs.Common.{◌≡◌, ℕ, zero, suc, ◌<◌, ◌≤◌, [], length, arith}
use Rattle.entry_ref.specs.Records.{Records}
use Rattle.tree_read.specs.Nodes.{used_of}
use Rattle.tree_read.proofs.PlaceLemmas.{leads-root, step-room, step-size}
use Rattle.image_format.specs.Postings.{tree, IsPostingList}

root_some : (m : Records) (root : ℕ) → IsPostingList m (tree root) → 0 < root
root_some m zero list = absurd (omega (arith, list.1))
root_some m (suc root) list = omega arith

pub root_form : (m : Records) (root : ℕ) → IsPostingList m (tree root) → (length (m root) ≡ 34) × (used_of (m root) ≤ 16)
root_form m root list =
    let some = root_some m root list in
    let leads = leads-root m root some (list.0.node some) in
    (step-size m root [] root leads, step-room m root [] root leads)
