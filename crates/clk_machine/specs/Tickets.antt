-- How many tickets a machine needs.
use Rattle.std.specs.Prelude.{ℕ, ◌+◌, ◌-◌, ◌*◌, length, Option, Some, None, if◌then◌else◌}
use Rattle.std.specs.List.{sum_by}
use Rattle.clk_machine.specs.declared.script.Word.{Word}
use Rattle.clk_machine.specs.declared.script.Word.TheVariants.{Local, Remote, Tick, Idle, Update, Pause}
use Rattle.clk_machine.specs.declared.parts.BringUpPart.{BringUpPart}
use Rattle.clk_machine.specs.declared.parts.WatchPart.{WatchPart}
use Rattle.clk_machine.specs.Plan.{Plan, count_of, cpu_count, threads_of}

-- what one script word draws
abbrev pub tickets_of : Word → ℕ
tickets_of Local = 1
tickets_of (Remote cpu) = 1
tickets_of Tick = 3
tickets_of Idle = 4
tickets_of Update = 1
tickets_of (Pause n) = count_of n

-- the epoch, and two for a stamp; a stable start stamps twice
abbrev pub boot_tickets : Plan → ℕ
boot_tickets m = if m.stable then 5 else 3

-- each CPU but the first has up to three runs with the register, and one without, of two sides; a failed bring-up of a
-- stable start demotes, which takes a stamp
abbrev pub bring_up_tickets : Plan → Option BringUpPart → ℕ
bring_up_tickets m None = 0
bring_up_tickets m (Some b) =
    (cpu_count m - 1) * ((if b.adjust then 3 else 1) * (2 * (count_of b.turns + 10))) + (if m.stable then 2 else 0)

-- each check pauses, reads each source in up to so many attempts of four readings, and may stamp
abbrev pub watch_tickets : Plan → Option WatchPart → ℕ
watch_tickets m None = 0
watch_tickets m (Some w) = count_of w.checks * (count_of w.pause + length m.source * ((count_of w.retries + 1) * 4) + 2)

abbrev pub word_tickets : Plan → ℕ
word_tickets m = sum_by (λ t. sum_by tickets_of t.1) (threads_of m)

abbrev pub tickets_needed : Plan → ℕ
tickets_needed m = boot_tickets m + bring_up_tickets m m.bringup + word_tickets m + watch_tickets m m.watchdog
