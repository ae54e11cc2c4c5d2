use Rattle.std.proofs.Common.{◌^◌, ◌<◌, ◌≤◌, ℕ}
use Rattle.clk_num.specs.Rates.{quotient}
use Rattle.clk_num.proofs.rate.mult_shift.Given as goal

-- no greater shift passes
abbrev pub invariant-loop-shift : goal.invariant-loop-shift
invariant-loop-shift l = (k : ℕ) → l.shift ≤ k → k < 33 → 2 ^ l.bits ≤ quotient l.from l.to k
