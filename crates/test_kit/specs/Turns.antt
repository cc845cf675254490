-- What a writer preserves that reuses its buffers in turn.
use Rattle.std.specs.Prelude.{ℕ, ◌<◌}
use Rattle.arena_api.specs.Works.{WorkView, active_width}

-- a buffer is active
pub record IsActive {H : Type 0} (work : WorkView H) (b : ℕ) : Type 0 where
  pub below : b < work.sizes.buffers
  pub wide : 0 < active_width (work.buffer b)
