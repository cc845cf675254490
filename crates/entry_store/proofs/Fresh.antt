-- A work that was only opened is fresh.
use Rattle.std.proofs.Common.{refl, List}
use Rattle.entry_ref.specs.declared.images.Image.{Image}
use Rattle.arena_api.specs.Works.{Sizes}
use Rattle.arena_api.specs.Calls.{IsFresh, opened}

pub opened-fresh : {H : Type 0} (home : H) (sizes : Sizes) (told : List Image) → IsFresh (opened home sizes told)
opened-fresh home sizes told = record { queue = refl; floor = refl; last = refl; image = refl; buffers = λ b. refl }
