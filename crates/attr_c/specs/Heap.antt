-- The right to free a block of the heap.
use base.Fml.{Fml}
use mir.Syntax.{Ty}
use denote.RawPtr.{Ptr}
use Rattle.std.specs.declared.alloc.Global.{Global}
use Rattle.std.specs.contracts.impls.GlobalAllocator.TheImpl.{ghosts}

abbrev pub token : Global → Ty → Ptr → Fml
token heap = ghosts.dealloc_token heap
