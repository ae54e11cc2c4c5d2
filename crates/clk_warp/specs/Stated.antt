-- A `WarpState` as contracts see it, and what it keeps true. No public contract cites it.
use Rattle.std.specs.Prelude.{◌≡◌, ℕ, ◌+◌, ◌<◌, ◌≤◌, ◌⊎◌, true, [], length, IfSome}
use Rattle.std.specs.List.{All}
use Rattle.clk_num.specs.Range.{IsNear}
use Rattle.clk_machine.specs.Plan.{cpu_count}
use Rattle.atomic_table.specs.Seated.{TableId}
use Rattle.clk_record.specs.Falls.{AreInTurn}
use Rattle.clk_warp.specs.declared.counts.WarpCounts.{WarpCounts}
use Rattle.clk_warp.specs.declared.state.TableOf.{TableOf}
use Rattle.clk_warp.specs.declared.state.TableOf.TheVariants.{OfSeat, OfTable}
use Rattle.clk_warp.specs.declared.state.Inner.{Inner}
use Rattle.clk_warp.specs.Counts.{AreCountsOf}
use Rattle.clk_warp.specs.Run.{Run, limits_at, most_readings, both_here, ShowsCounter}

abbrev pub table_of : TableOf → TableId
table_of (OfSeat seat) = seat.value.table
table_of (OfTable table) = table.value.table

abbrev pub run_of : Inner → Run
run_of s = record {
  machine = s.machine.value;
  tickets = table_of s.tickets;
  cpu = s.cpu;
  adjust = s.adjust;
  target = s.target_here;
  time = s.time;
  readings = s.readings.items;
  sections = s.sections;
}

-- tickets and room are left for all readings that the run may still make, no reading stands before both sides arrived,
-- each is a section of its own and shows the counter at its ticket, and the counters are those of the readings
pub record IsKept (s : Run) (room : ℕ) (counts : WarpCounts) : Type 0 where
  pub cpu : (1 ≤ s.cpu) × (s.cpu < cpu_count s.machine)
  pub near : IsNear 48 s.adjust
  pub none_before : (s.readings ≡ []) ⊎ (both_here s ≡ true)
  pub few : length s.readings ≤ s.sections
  pub room_left : most_readings s.machine ≤ room + length s.readings
  pub tickets_left : IfSome s.time (λ t. (t.table ≡ s.tickets) × (most_readings s.machine ≤ t.left + length s.readings))
  pub shows : All (ShowsCounter s) s.readings
  pub in_turn : AreInTurn (limits_at s) [] s.readings
  pub counted : AreCountsOf (limits_at s) s.readings counts
