use Rattle.std.proofs.Common.{◌≡◌, take}
use Rattle.clk_tool.specs.Make.{steps_of}
use Rattle.clk_tool.proofs.make.steps_in.Given as goal

-- the steps of the histories so far
abbrev pub invariant-loop-history : goal.invariant-loop-history
invariant-loop-history l = l.steps ≡ steps_of (take l.history-index l.histories)
