-- A finished warp run.
use Rattle.std.specs.Prelude.{◌≡◌, true, length, []}
use Rattle.clk_record.specs.declared.warp.Side.TheVariants.{Source, Target}
use Rattle.clk_record.specs.declared.warp.WarpRun.{WarpRun}
use Rattle.clk_record.specs.Falls.{Limits, AreInTurn, is_ended, falls, greatest, changes, greatest_seen}

-- each side has its start reading, its turns and its last one and nothing after it, and the numbers count the falls
pub record IsWarpRun (l : Limits) (run : WarpRun) : Type 0 where
  pub turns : AreInTurn l [] run.readings.items
  pub source_ended : is_ended l Source run.readings.items ≡ true
  pub target_ended : is_ended l Target run.readings.items ≡ true
  pub nr : run.nr ≡ length (falls l run.readings.items)
  pub max : run.max ≡ greatest (falls l run.readings.items)
  pub random : run.random ≡ changes (falls l run.readings.items)
  pub cur_source : run.cur_source ≡ greatest_seen Source (falls l run.readings.items)
  pub cur_target : run.cur_target ≡ greatest_seen Target (falls l run.readings.items)
