-- The text of a trace, line by line.
use Rattle.std.specs.Prelude.{ℕ, ◌+◌, ◌==◌, ◌%◌, Bool, ℤ, List, [], ◌∷◌, ◌++◌, map, flat_map, length, slice_index, if◌then◌else◌}
use Rattle.clk_base.specs.Walk.{flat_from}
use Rattle.clk_num.specs.Listed.{Listed}
use Rattle.clk_record.specs.Verdicts.{verdict_of}
use Rattle.clk_record.specs.declared.warp.WarpRun.{WarpRun}
use Rattle.clk_record.specs.declared.step.Step.{Step}
use Rattle.clk_record.specs.declared.up.CpuUp.{CpuUp}
use Rattle.clk_record.specs.declared.stable.StableStamp.{StableStamp}
use Rattle.clk_record.specs.declared.stable.Demotion.{Demotion}
use Rattle.clk_lawful.specs.Lines.{Line, step_line, text_of}
use Rattle.clk_lawful.specs.Lines.Line.{Head, Epoch, Boot, Start, Run, Turn, Done, Cpu, Demoted, Word, Thread, Shown, Watchdog, Checking, Attempted, Judged, Stamped, Lifted, Current, History, End}
use Rattle.clk_lawful.specs.Checks.{Visit, Check, listed, checks_of}
use Rattle.clk_lawful.specs.declared.event.Event.{Event}
use Rattle.clk_lawful.specs.declared.trace.HistoryStep.{HistoryStep}
use Rattle.clk_lawful.specs.declared.trace.WatchTrace.{WatchTrace}
use Rattle.clk_lawful.specs.declared.trace.Trace.{Trace}

abbrev pub boot_line : StableStamp → Line
boot_line s = Boot s.gtod_ticket s.gtod s.raw

-- what a run counts, and its verdict: there are runs left where it is not the last of its CPU
abbrev pub done_line : Bool → WarpRun → Line
done_line last run = Done run.nr run.max run.random run.cur_source run.cur_target (verdict_of run (if last then 1 else 2))

-- the run at place n of so many runs of a CPU; the text numbers them from 1
abbrev pub run_lines : ℕ → ℕ → ℕ → WarpRun → List Line
run_lines cpu count n run = Run cpu (n + 1) ∷ map (λ r. Turn r) run.readings.items ++ (done_line (n + 1 == count) run ∷ [])

abbrev pub cpu_line : CpuUp → Line
cpu_line up = Cpu up.cpu up.adjust up.outcome

-- the bring-up of a CPU: its runs, and what came of them
abbrev pub up_lines : ℕ → CpuUp → List Line
up_lines n up = flat_from (run_lines up.cpu (length up.runs.items)) 0 up.runs.items ++ (cpu_line up ∷ [])

-- the opening of clock word w; all words open alike
abbrev pub word_lines : {A : Type 0} → ℤ → ℕ → A → List Line
word_lines opening w _ = Word w opening ∷ []

abbrev pub thread_lines : List ℕ → ℕ → Listed Event → List Line
thread_lines cpus n events = Thread n (slice_index cpus n) ∷ map (λ e. Shown e) events.items

abbrev pub history_lines : ℕ → Listed HistoryStep → List Line
history_lines w steps = History w (length steps.items) ∷ map step_line steps.items

-- ---- the watchdog's

abbrev pub lift_line : Step → Line
lift_line s = Lifted s.word s.old s.new

-- a demotion, and these lifts
abbrev pub demotion_lines : List Step → Demotion → List Line
demotion_lines lifts d = Demoted d ∷ map lift_line lifts

-- a visit: its attempts, what it found, and the stable stamp or the demotion with its lifts after that, if any
abbrev pub visit_lines : List Step → Visit → List Line
visit_lines lifts v =
    map (λ a. Attempted v.made.source a) v.attempts
    ++ (Judged v.made.source v.made.outcome ∷ map (λ s. Stamped s) (listed v.stamp))
    ++ flat_map (demotion_lines lifts) (listed v.demotion)

-- the check of this number among so many CPUs, which it takes in turn
abbrev pub check_lines : ℕ → List Step → ℕ → Check → List Line
check_lines cpus lifts n c = Checking n (n % cpus) c.ticket ∷ flat_map (visit_lines lifts) c.visits ++ (Current c.current ∷ [])

abbrev pub watch_lines : ℕ → WatchTrace → List Line
watch_lines cpus w = Watchdog w.thread ∷ flat_from (check_lines cpus w.lifts.items) 0 (checks_of w)

-- ---- all of them

abbrev pub lines_of : Trace → List Line
lines_of t =
    (Head ∷ Epoch t.epoch_ticket t.epoch_cyc ∷ map boot_line t.boots.items)
    ++ (Start t.starts t.sched_offset t.gtod_offset ∷ flat_from up_lines 0 t.ups.cpus.items)
    ++ map (λ d. Demoted d) (listed t.boot_demotion)
    ++ flat_from (word_lines t.start_word) 0 t.histories.items
    ++ flat_from (thread_lines t.cpu_of.items) 0 t.threads.items
    ++ flat_map (watch_lines (length t.histories.items)) (listed t.watch)
    ++ flat_from history_lines 0 t.histories.items
    ++ (End t.tickets ∷ [])

abbrev pub text : Trace → List ℕ
text t = text_of (lines_of t)
