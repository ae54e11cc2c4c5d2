use Rattle.std.proofs.Common.{◌≡◌, ◌++◌, pos, take, drop}
use Rattle.clk_machine.specs.Sums.{jumps_summed}
use Rattle.clk_machine.proofs.Summing.{cycles_of}
use Rattle.clk_machine.proofs.parts.sum_jumps.Given as goal

abbrev pub invariant-loop-jump : goal.invariant-loop-jump
invariant-loop-jump l = record {
  sum : l.sum ≡ cycles_of (take l.jump-index l.initial.jumps);
  done : l.jumps ≡ jumps_summed (pos 0) (take l.jump-index l.initial.jumps) ++ drop l.jump-index l.initial.jumps;
}
