-- How many tickets and steps a lawful trace has, where the machine alone tells: the clock is per-CPU from the start,
-- and there is no bring-up and no watchdog.
use Rattle.std.specs.Prelude.{◌≡◌, ℕ, ◌+◌, ◌==◌, length, false, None, if◌then◌else◌}
use Rattle.std.specs.List.{sum_by}
use Rattle.clk_machine.specs.declared.script.Word.{Word}
use Rattle.clk_machine.specs.declared.script.Word.TheVariants.{Local, Remote, Tick, Idle, Update, Pause}
use Rattle.clk_machine.specs.Plan.{Plan, count_of, threads_of}
use Rattle.clk_machine.specs.Tickets.{boot_tickets, word_tickets}
use Rattle.clk_lawful.specs.LawfulTrace.{IsLawful}
use Rattle.clk_lawful.specs.declared.trace.Trace.{Trace}

-- the steps that a word of a thread on this CPU makes, on whichever clock words: a reading makes one, and a reading of
-- another CPU's clock a second one, which couples the two; a tick reads once, and the end of an idle time reads and
-- ticks
abbrev pub steps_of_word : ℕ → Word → ℕ
steps_of_word cpu Local = 1
steps_of_word cpu (Remote d) = if count_of d == cpu then 1 else 2
steps_of_word cpu Tick = 1
steps_of_word cpu Idle = 2
steps_of_word cpu Update = 0
steps_of_word cpu (Pause n) = 0

-- those of all threads
abbrev pub word_steps : Plan → ℕ
word_steps m = sum_by (λ t. sum_by (steps_of_word t.0) t.1) (threads_of m)

-- as many tickets as the boot and the words draw
abbrev pub CountsTickets : Type 0
CountsTickets =
    (m : Plan) (t : Trace)
    → IsLawful m t
    → m.stable ≡ false
    → m.bringup ≡ None
    → m.watchdog ≡ None
    → t.tickets ≡ boot_tickets m + word_tickets m

-- as many steps in the histories as the words make
abbrev pub CountsSteps : Type 0
CountsSteps =
    (m : Plan) (t : Trace)
    → IsLawful m t
    → m.stable ≡ false
    → m.bringup ≡ None
    → m.watchdog ≡ None
    → sum_by (λ l. length l.items) t.histories.items ≡ word_steps m
