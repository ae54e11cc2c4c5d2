use Rattle.std.proofs.Common.{ap}
use Rattle.clk_machine.specs.Plan.{ScriptPlan}
use Rattle.clk_file.proofs.ReaderWords.{words_of_reader}
use Rattle.clk_file.proofs.entries.ReaderPartEntry.read.Goals as goal

pub returns-clause-short : goal.returns-clause-short
returns-clause-short c =
    let words = ap (λ (s : ScriptPlan). s.words) c.in_ok-script.ensures.value in
    record {
      words = c.in_ok-script.ensures.short;
      kinds = rw words (words_of_reader _);
    }
