use Rattle.std.proofs.Common.{refl, sym, ◌∙◌}
use Rattle.clk_machine.specs.Plan.{threads_of}
use Rattle.clk_lawful.proofs.CountingLaws.{counts_tickets, counts_steps}
use Rattle.clk_make.specs.Made.{made}
use Rattle.clk_make.proofs.Lists.{zip_length}
use Rattle.clk_make.proofs.Threading.{threads_count, words_are, tickets_are, steps_are, drawn_are}
use Rattle.clk_make.proofs.Within.{cpus_are, readers_are}
use Rattle.clk_make.proofs.laws.sizes_are_fixed.Goals as goal

pub returns-clause-machines : goal.returns-clause-machines
returns-clause-machines c = λ n. record { cpus = cpus_are n; readers = readers_are n; words = words_are n; tickets = tickets_are n }

pub returns-clause-runs : goal.returns-clause-runs
returns-clause-runs c = λ n t lawful. record {
  histories = lawful.histories.count ∙ cpus_are n;
  threads = sym (zip_length _ (threads_of (made n)) t.threads.items lawful.script.events) ∙ threads_count n;
  tickets = counts_tickets (made n) t lawful refl refl refl ∙ drawn_are n;
  steps = counts_steps (made n) t lawful refl refl refl ∙ steps_are n;
}
