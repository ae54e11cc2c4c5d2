-- What the private steps of the counters do. No public contract cites it.
use Rattle.std.specs.Prelude.{◌≡◌, ℕ, ◌+◌, ◌-◌, ◌&&◌, not, max, nat_lt, Bool, Some, MatchBool}
use Rattle.clk_record.specs.declared.warp.Side.{Side}
use Rattle.clk_record.specs.declared.warp.Side.TheVariants.{Source, Target}
use Rattle.clk_record.specs.Sides.{one_if_changed}
use Rattle.clk_warp.specs.declared.progress.Progress.{Progress}
use Rattle.clk_warp.specs.declared.counts.WarpCounts.{WarpCounts}
use Rattle.clk_warp.specs.Counts.{limits_of}

-- one side's value in place of the other's
abbrev pub at_source : {A : Type 0} → Side → A → A → A
at_source Source a b = a
at_source Target a b = b

abbrev pub at_target : {A : Type 0} → Side → A → A → A
at_target Source a b = b
at_target Target a b = a

pub record SameFalls (before after : WarpCounts) : Type 0 where
  pub nr : after.nr ≡ before.nr
  pub max : after.max ≡ before.max
  pub random : after.random ≡ before.random
  pub cur_source : after.cur_source ≡ before.cur_source
  pub cur_target : after.cur_target ≡ before.cur_target
  pub last : after.last ≡ before.last

-- one side went on
pub record WithProgress (side : Side) (p : Progress) (before after : WarpCounts) : Type 0 where
  pub limits : limits_of after ≡ limits_of before
  pub prev : after.prev ≡ before.prev
  pub falls : SameFalls before after
  pub source : after.source ≡ at_source side p before.source
  pub target : after.target ≡ at_target side p before.target

pub record OneFall (side : Side) (size : ℕ) (before after : WarpCounts) : Type 0 where
  pub nr : after.nr ≡ before.nr + 1
  pub most : after.max ≡ max before.max size
  pub random : after.random ≡ before.random + one_if_changed before.last side
  pub cur_source : after.cur_source ≡ at_source side (max before.max size) before.cur_source
  pub cur_target : after.cur_target ≡ at_target side (max before.max size) before.cur_target
  pub last : after.last ≡ Some side

pub record SameProgress (before after : WarpCounts) : Type 0 where
  pub limits : limits_of after ≡ limits_of before
  pub source : after.source ≡ before.source
  pub target : after.target ≡ before.target

-- one fall more
pub record WithFall (side : Side) (size : ℕ) (before after : WarpCounts) : Type 0 where
  pub progress : SameProgress before after
  pub prev : after.prev ≡ before.prev
  pub falls : OneFall side size before after

-- a turn that is counted where it is a fall, and that is the turn before the next
pub record Compares (side : Side) (ended : Bool) (tsc : ℕ) (before after : WarpCounts) : Type 0 where
  pub progress : SameProgress before after
  pub prev : after.prev ≡ tsc
  pub falls : MatchBool (not ended && nat_lt tsc before.prev) (OneFall side (before.prev - tsc) before after) (SameFalls before after)
