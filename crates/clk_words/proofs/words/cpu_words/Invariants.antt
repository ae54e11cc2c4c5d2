use Rattle.std.proofs.Common.{◌≡◌, ◌++◌, replicate}
use Rattle.clk_words.specs.FirstWords.{pair_words}
use Rattle.clk_words.proofs.words.cpu_words.Given as goal

-- the pairs of the CPUs so far stand behind the clocks
abbrev pub invariant-loop : goal.invariant-loop
invariant-loop l = l.words.items ≡ replicate l.cpus l.clock ++ pair_words l.counter l.gtod l.raw
