use Rattle.std.proofs.Common.{◌≡◌, ◌++◌, take, drop}
use Rattle.std.specs.List.{sum_by}
use Rattle.clk_machine.specs.Plan.{count_of}
use Rattle.clk_machine.specs.Sums.{delays_summed}
use Rattle.clk_machine.proofs.parts.sum_delays.Given as goal

abbrev pub invariant-loop-delay : goal.invariant-loop-delay
invariant-loop-delay l = record {
  sum : l.sum ≡ sum_by (λ d. count_of d.ns) (take l.delay-index l.initial.delays);
  done : l.delays ≡ delays_summed 0 (take l.delay-index l.initial.delays) ++ drop l.delay-index l.initial.delays;
}
