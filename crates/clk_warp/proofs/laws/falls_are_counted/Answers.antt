use Rattle.clk_record.proofs.Falls.{no_fall_where_none_falls, greatest_is_most, seen_is_at_most_greatest, changes_where_sides_change}
use Rattle.clk_warp.proofs.laws.falls_are_counted.Goals as goal

pub returns : goal.returns
returns c = record {
  steady = no_fall_where_none_falls;
  greatest = greatest_is_most;
  seen = seen_is_at_most_greatest;
  changes = changes_where_sides_change;
}
