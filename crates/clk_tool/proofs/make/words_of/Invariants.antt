use Rattle.std.proofs.Common.{◌≡◌, ◌*◌, ◌^◌, ◌≤◌, take, length}
use Rattle.std.specs.List.{sum_by}
use Rattle.clk_machine.specs.Plan.{threads_of}
use Rattle.clk_tool.proofs.make.words_of.Given as goal

-- the words of the threads so far
abbrev pub invariant-loop-thread : goal.invariant-loop-thread
invariant-loop-thread l =
    record { words : l.words ≡ sum_by (λ t. length t.1) (take l.thread (threads_of l.machine)); few : l.words ≤ l.thread * 2 ^ 32 }
