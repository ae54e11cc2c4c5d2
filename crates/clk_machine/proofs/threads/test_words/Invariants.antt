use Rattle.std.proofs.Common.{◌≡◌, ◌+◌, drop}
use Rattle.clk_base.specs.First.{each}
use Rattle.clk_machine.specs.Ranges.{word_test}
use Rattle.clk_machine.proofs.threads.test_words.Given as goal

-- what is left decides
abbrev pub invariant-loop-i : goal.invariant-loop-i
invariant-loop-i l =
    each (word_test l.cpus l.row l.entry) 1 l.words ≡ each (word_test l.cpus l.row l.entry) (l.i + 1) (drop l.i l.words)
