-- Between the stable clock and per-CPU clocks no thread goes to and fro.
use Rattle.std.specs.Prelude.{◌≡◌, true, All, AllPairs, IsTrue, IsFalse, None}
use Rattle.clk_machine.specs.Plan.{Plan}
use Rattle.clk_lawful.specs.LawfulTrace.{IsLawful}
use Rattle.clk_lawful.specs.Modes.{shows_stable, shows_percpu, reads_percpu}
use Rattle.clk_lawful.specs.Standing.{is_stable, demotion_of}
use Rattle.clk_lawful.specs.declared.event.EventKind.{EventKind}
use Rattle.clk_lawful.specs.declared.trace.Trace.{Trace}

-- after a per-CPU reading the other event does not show a stable clock
abbrev pub StaysPerCpu : EventKind → EventKind → Type 0
StaysPerCpu before after = IsTrue (reads_percpu before) → IsFalse (shows_stable after)

-- in each thread, of each event and each later one
abbrev pub NoStableAfterPerCpu : Type 0
NoStableAfterPerCpu = (m : Plan) (t : Trace) → IsLawful m t → All (λ es. AllPairs (λ e f. StaysPerCpu e.kind f.kind) es.items) t.threads.items

-- a clock that starts stable, and is not demoted, stays stable
abbrev pub NoPerCpuUndemoted : Type 0
NoPerCpuUndemoted =
    (m : Plan) (t : Trace)
    → IsLawful m t
    → is_stable t.starts ≡ true
    → demotion_of t ≡ None
    → All (λ es. All (λ e. IsFalse (shows_percpu e.kind)) es.items) t.threads.items
