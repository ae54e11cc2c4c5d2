use Rattle.std.proofs.Common.{◌≡◌}
use Rattle.clk_tests_warp.specs.declared.warp_counts.TheConstants.{LONG}
use Rattle.clk_tests_warp.proofs.warp_counts.counted.Given as goal

-- the span stays
abbrev pub invariant-loop-side : goal.invariant-loop-side
invariant-loop-side g l = l.counts.span ≡ LONG
