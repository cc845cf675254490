use Rattle.std.proofs.Common.{◌<◌, arith}
use Rattle.image_format.proofs.ShapeLemmas.{digits_small}
use Rattle.image_format.proofs.shape.+digits_of.Goals as goal

pub overflow_mul-result : goal.overflow_mul-result
overflow_mul-result t c =
    let few : c.digits_of.result < 2097152 = digits_small c.args.fields.now c.digits_of.result c.digits_of.ensures.small c.requires in
    omega arith

pub overflow_add-result : goal.overflow_add-result
overflow_add-result t c =
    let few : c.digits_of.result < 2097152 = digits_small c.args.fields.now c.digits_of.result c.digits_of.ensures.small c.requires in
    let digit = c.digit_of.ensures.small in
    omega arith
