use Rattle.std.proofs.Common.{◌≡◌, ◌+◌, [], length}
use Rattle.std.specs.List.{All}
use Rattle.clk_tests_trace.proofs.histories.many_words.Given as goal

abbrev pub invariant-loop-word : goal.invariant-loop-word
invariant-loop-word l =
    (length l.lists.items ≡ l._word) × (l.lists.room + l._word ≡ 16) × All (λ lines. lines.items ≡ []) l.lists.items × All (λ lines. lines.room ≡ l.room) l.lists.items
