use Rattle.std.proofs.Common.{sym, ◌∙◌}
use Rattle.attr_c.proofs.FeedLemmas.{filled, says_one, says_popped}
use Rattle.attr_c.proofs.line.operation_in.Goals as goal

pub returns-in-Ok : goal.returns-in-Ok
returns-in-Ok c =
    let fields = c.args.fields.now in
    let line = c.args.line.now in
    let blank = sym c.is_blank_line.ensures ∙ c.if-is_blank_line.false in
    let one = says_one fields line c.in-Ok.ops (c.requires (filled line blank)) blank c.in-Ok.ensures.feed c.in-Ok.ensures.fits in
    says_popped fields line c.in-Ok.ops c.into_vec.result.items c.into_vec.result.len c.pop.result one c.into_vec.ensures c.into_vec.result.ok.0 c.pop.ensures.value blank
