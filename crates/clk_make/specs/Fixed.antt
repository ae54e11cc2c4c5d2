-- The number of a made machine alone tells how large it is, and how large each lawful run of it is.
use Rattle.std.specs.Prelude.{◌≡◌, ℕ, ◌+◌, length}
use Rattle.std.specs.List.{sum_by}
use Rattle.clk_machine.specs.Plan.{Plan, cpu_count, threads_of}
use Rattle.clk_machine.specs.Tickets.{tickets_needed}
use Rattle.clk_lawful.specs.LawfulTrace.{IsLawful}
use Rattle.clk_lawful.specs.declared.trace.Trace.{Trace}
use Rattle.clk_make.specs.Made.{made_cpus, made_readers, made}
use Rattle.clk_make.specs.Numbers.{made_words, made_tickets, made_steps}

pub record IsSized (n : ℕ) (m : Plan) : Type 0 where
  pub cpus : cpu_count m ≡ made_cpus n
  pub readers : length m.reader ≡ made_readers n
  pub words : sum_by (λ t. length t.1) (threads_of m) ≡ made_words n
  pub tickets : tickets_needed m ≡ made_tickets n

-- each CPU has a history; no ticket that the machine needs is left over
pub record IsRunSized (n : ℕ) (t : Trace) : Type 0 where
  pub histories : length t.histories.items ≡ made_cpus n
  pub threads : length t.threads.items ≡ made_cpus n + made_readers n
  pub tickets : t.tickets ≡ made_tickets n
  pub steps : sum_by (λ lines. length lines.items) t.histories.items ≡ made_steps n

abbrev pub MachinesAreSized : Type 0
MachinesAreSized = (n : ℕ) → IsSized n (made n)

abbrev pub RunsAreSized : Type 0
RunsAreSized = (n : ℕ) (t : Trace) → IsLawful (made n) t → IsRunSized n t
