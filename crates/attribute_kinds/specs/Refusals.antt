-- A refusal of the store, as one of the attributes, and the result of a step.
use Rattle.std.specs.Prelude.{Bool, true, false, Result, Ok, Err}
use Rattle.std.specs.Option.{option_map}
use Rattle.store_api.specs.declared.store.StoreError.{StoreError}
use Rattle.store_api.specs.declared.store.StoreError.TheVariants as errors
use Rattle.compaction_steps.specs.declared.stepping.Step.{Step}
use Rattle.compaction_steps.specs.declared.stepping.Step.TheVariants as steps
use Rattle.attribute_kinds.specs.declared.answers.AttrError.{AttrError}
use Rattle.attribute_kinds.specs.declared.answers.AttrError.TheVariants.{Full, Memory}
use Rattle.attribute_kinds.specs.declared.answers.Compacted.{Compacted}
use Rattle.attribute_kinds.specs.declared.answers.Compacted.TheVariants.{Idle, Moved, Finished}

abbrev pub refusal_of_store : StoreError → AttrError
refusal_of_store (errors.Full width active held oldest) = Full width active held oldest
refusal_of_store errors.Memory = Memory

abbrev pub told_of : Result Step StoreError → Result Compacted AttrError
told_of (Ok steps.Idle) = Ok Idle
told_of (Ok (steps.Moved keys stop)) = Ok (Moved keys (option_map refusal_of_store stop))
told_of (Ok (steps.Finished buffer)) = Ok (Finished buffer)
told_of (Err error) = Err (refusal_of_store error)

-- whether an emptied buffer waits for its commit after this step
abbrev pub has_finished : Result Step StoreError → Bool
has_finished (Ok steps.Idle) = false
has_finished (Ok (steps.Moved keys stop)) = false
has_finished (Ok (steps.Finished buffer)) = true
has_finished (Err error) = false
