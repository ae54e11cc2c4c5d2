use Rattle.std.proofs.Common.{◌≡◌, ◌++◌, map, take, drop}
use Rattle.clk_machine.specs.Sums.{source_summed}
use Rattle.clk_machine.proofs.parts.sum_sources.Given as goal

abbrev pub invariant-loop-source : goal.invariant-loop-source
invariant-loop-source l = l.sources ≡ map source_summed (take l.source-index l.initial.sources) ++ drop l.source-index l.initial.sources
