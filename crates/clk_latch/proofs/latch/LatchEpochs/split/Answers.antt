use Rattle.std.proofs.Common.{rules}
use Rattle.clk_latch.proofs.Seating.{splits}
use Rattle.clk_latch.proofs.latch.LatchEpochs.split.Goals as goal

pub split_seat-reader-requires : goal.split_seat-reader-requires
split_seat-reader-requires c = (search rules, search rules, splits _ _)
