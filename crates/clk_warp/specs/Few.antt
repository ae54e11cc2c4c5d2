-- What keeps the counters of a warp run in their types.
use Rattle.std.specs.Prelude.{◌≡◌, ℕ, ◌+◌, ◌*◌, ◌/◌, ◌^◌, ◌<◌, ◌≤◌, false}
use Rattle.clk_warp.specs.declared.progress.Progress.{Progress}

-- a side that has not ended looked at each eighth turn, and made no more turns than it may
pub record IsFew (span turns : ℕ) (p : Progress) : Type 0 where
  pub start : p.start + span < 2 ^ 64
  pub turn : p.turn ≤ turns + 9
  pub going : p.ended ≡ false → 8 * ((p.turn + 7) / 8) ≤ turns + 8

pub record AreFew (span turns nr random : ℕ) (source target : Progress) : Type 0 where
  pub allowed : turns ≤ 4096
  pub counted : nr ≤ source.turn + target.turn
  pub changed : random ≤ nr
  pub at_source : IsFew span turns source
  pub at_target : IsFew span turns target
