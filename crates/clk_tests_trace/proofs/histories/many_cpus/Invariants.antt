use Rattle.std.proofs.Common.{◌≡◌, ◌+◌, ◌<◌, length}
use Rattle.std.specs.List.{All}
use Rattle.clk_tests_trace.proofs.histories.many_cpus.Given as goal

abbrev pub invariant-loop-thread : goal.invariant-loop-thread
invariant-loop-thread l =
    (length l.cpu_of.items ≡ l.thread) × (l.cpu_of.room + l.thread ≡ 32) × All (λ cpu. cpu < 16) l.cpu_of.items
