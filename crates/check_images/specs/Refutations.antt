-- The meaning of a check without a result.
use Rattle.check_images.specs.declared.fault.CheckFault.{CheckFault}
use Rattle.check_images.specs.declared.fault.CheckFault.TheVariants.{Broken, Memory}

-- a fact is false, unless memory was exhausted
abbrev pub Refutes : Type 0 → CheckFault → Type 0
Refutes P Broken = ¬ P
Refutes P Memory = Unit {0}
