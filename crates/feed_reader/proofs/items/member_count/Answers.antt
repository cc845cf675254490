use Rattle.std.proofs.Common.{◌≡◌, ◌∙◌, sym, ap, rules, vec_len, length}
use Rattle.serde_json.specs.View.{view}
use Rattle.serde_json.proofs.Views.{view-Array, view-Object, items_len-items_view, members_len-members_view}
use Rattle.feed_reader.specs.Items.{member_count}
use Rattle.feed_reader.proofs.items.member_count.Goals as goal

pub returns-in-Array : goal.returns-in-Array
returns-in-Array c =
    let len : vec_len c.in-Array.list ≡ length c.in-Array.list.items = search rules in
    c.len.ensures ∙ len ∙ sym (items_len-items_view c.in-Array.list.items)
    ∙ sym (ap member_count (view-Array c.in-Array.list)) ∙ ap (λ v. member_count (view v)) (sym c.in-Array.is)

pub returns-in-Object : goal.returns-in-Object
returns-in-Object c =
    c.len-in-Object.ensures.len ∙ sym (members_len-members_view c.in-Object.members.entries)
    ∙ sym (ap member_count (view-Object c.in-Object.members)) ∙ ap (λ v. member_count (view v)) (sym c.in-Object.is)
