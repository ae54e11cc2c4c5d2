use Rattle.std.proofs.Common.{◌≡◌, ◌+◌, ◌||◌, map, drop}
use Rattle.clk_base.specs.First.{first, each_told}
use Rattle.clk_machine.specs.Plan.{source_plan}
use Rattle.clk_machine.specs.Ranges.{source_tests, each_source}
use Rattle.clk_machine.proofs.sources.test_each.Given as goal

-- what is left decides
abbrev pub invariant-loop-i : goal.invariant-loop-i
invariant-loop-i l =
    each_source (map source_plan l.sources)
    ≡ each_told (λ own_before entry s. first (source_tests entry own_before s)) (λ own_before s. own_before || s.tsc) l.own_before (l.i + 1) (drop l.i (map source_plan l.sources))
