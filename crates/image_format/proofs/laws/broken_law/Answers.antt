use Rattle.image_format.proofs.ExampleLemmas.{missing_record, wrong_count, unlawful_table, missing_value, wrong_weight, other_document}
use Rattle.image_format.proofs.laws.broken_law.Goals as goal

pub returns-clause-missing : goal.returns-clause-missing
returns-clause-missing c = missing_record

pub returns-clause-count : goal.returns-clause-count
returns-clause-count c = wrong_count

pub returns-clause-table : goal.returns-clause-table
returns-clause-table c = unlawful_table

pub returns-clause-value : goal.returns-clause-value
returns-clause-value c = missing_value

pub returns-clause-weight : goal.returns-clause-weight
returns-clause-weight c = wrong_weight

pub returns-clause-document : goal.returns-clause-document
returns-clause-document c = other_document
