use Rattle.std.proofs.Common.{rules, sym, subst}
use Rattle.crossbeam_utils.specs.Seq.{cell_view}
use Rattle.clk_latch.proofs.CellSteps.{splits}
use Rattle.clk_latch.proofs.CellReading.{reader_seat}
use Rattle.clk_latch.specs.CellRule.{IsCellSeated}
use Rattle.clk_latch.proofs.cell.CellLatchEpochs.split.Goals as goal

pub split_pass-requires : goal.split_pass-requires
split_pass-requires g c = (search rules, (search rules, (search rules, splits _ _)))

pub invariant_of-seat : goal.invariant_of-seat
invariant_of-seat g c = subst (IsCellSeated c.seat.inside.current) (sym c.split_pass.ensures.kept.1) c.seat.invariant

pub invariant_of-result : goal.invariant_of-result
invariant_of-result g c = reader_seat (cell_view c.seat.inside.pass) _ c.split_pass.ensures.given.1 c.seat.invariant.some_seen
