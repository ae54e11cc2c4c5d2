use Rattle.std.proofs.Common.{sym, get_or, map}
use Rattle.clk_machine.specs.Plan.{plan_of, cpu_count, cpu_plan, reader_plan}
use Rattle.clk_machine.proofs.Counting.{runnable, threads_draw}
use Rattle.clk_machine.proofs.tickets.of_words.Goals as goal

pub of_cpus-requires-clause-scripts : goal.of_cpus-requires-clause-scripts
of_cpus-requires-clause-scripts c =
    rw c.items.ensures (λ k d low. runnable (cpu_count (plan_of c.args.parts.now)) (get_or (map cpu_plan c.args.parts.now.cpu.items) k d).script
    (c.requires.cpu k d low).script)

pub of_readers-requires-clause-scripts : goal.of_readers-requires-clause-scripts
of_readers-requires-clause-scripts c =
    rw c.items-2.ensures (λ k d low. runnable (cpu_count (plan_of c.args.parts.now)) (get_or (map reader_plan c.args.parts.now.reader.items) k d).script
    (c.requires.reader k d low).script)

pub returns-clause-count : goal.returns-clause-count
returns-clause-count c =
    let all = threads_draw (plan_of c.args.parts.now) in
    rw (c.of_cpus.ensures.count, c.of_readers.ensures.count, c.items.ensures, c.items-2.ensures) (sym all)
