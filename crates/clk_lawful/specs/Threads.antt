-- The threads of a trace: first each CPU's own, which has the CPU's number and owns its latch and its stamps, then the
-- readers.
use Rattle.std.specs.Prelude.{ℕ, List, take, drop, flat_map}
use Rattle.clk_num.specs.Listed.{Listed}
use Rattle.clk_machine.specs.Plan.{Plan, cpu_count}
use Rattle.clk_lawful.specs.declared.event.Event.{Event}
use Rattle.clk_lawful.specs.declared.trace.Trace.{Trace}

abbrev pub owners : Plan → Trace → List (Listed Event)
owners m t = take (cpu_count m) t.threads.items

abbrev pub readers : Plan → Trace → List (Listed Event)
readers m t = drop (cpu_count m) t.threads.items

-- the CPU of each reader
abbrev pub reader_cpus : Plan → Trace → List ℕ
reader_cpus m t = drop (cpu_count m) t.cpu_of.items

-- the events of a CPU's own thread
abbrev pub own_events : ℕ → Trace → List Event
own_events cpu t = flat_map (λ es. es.items) (take 1 (drop cpu t.threads.items))
