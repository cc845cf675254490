-- How an operation changes a plain table, and its answers.
use Rattle.std.specs.Prelude.{if◌then◌else◌}
use Rattle.attr_types.specs.Table.{after_op, is_skipped}
use Rattle.attr_types.specs.declared.op.Op.{Op}
use Rattle.plain_model.specs.Plain.{Plain}
use Rattle.attr_types.specs.declared.applied.Applied.{Applied}
use Rattle.attr_types.specs.declared.applied.Applied.TheVariants.{Changed, Skipped}

abbrev pub plain_after : Plain → Op → Plain
plain_after plain op = record plain { table = after_op plain.fields plain.table op }

abbrev pub answer_to : Plain → Op → Applied
answer_to plain op = if is_skipped plain.fields plain.table op then Skipped else Changed
