use Rattle.std.proofs.Common.{◌≡◌, ◌+◌, length}
use Rattle.std.specs.List.{All}
use Rattle.clk_lawful.specs.Filling.{NamesWordsBelow}
use Rattle.clk_tests_trace.proofs.histories.many_steps.Given as goal

abbrev pub invariant-loop-call : goal.invariant-loop-call
invariant-loop-call l =
    (length l.events.items ≡ l.call) × (l.events.room + l.call ≡ l.steps) × All (λ e. NamesWordsBelow 16 e.kind) l.events.items
