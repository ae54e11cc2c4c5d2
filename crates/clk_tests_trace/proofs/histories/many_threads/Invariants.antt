use Rattle.std.proofs.Common.{◌≡◌, ◌+◌, ◌≤◌, length}
use Rattle.std.specs.List.{All}
use Rattle.clk_lawful.specs.Filling.{NamesWordsBelow}
use Rattle.clk_tests_trace.proofs.histories.many_threads.Given as goal

abbrev pub invariant-loop-thread : goal.invariant-loop-thread
invariant-loop-thread l =
    (length l.threads.items ≡ l.thread) × (l.threads.room + l.thread ≡ 32) × All (λ es. length es.items ≤ l.steps) l.threads.items × All (λ es. All (λ e. NamesWordsBelow 16 e.kind) es.items) l.threads.items
