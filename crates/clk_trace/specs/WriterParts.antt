-- The parts of a trace's text, as the writer goes through them. No public contract cites these.
use Rattle.std.specs.Prelude.{ℕ, ◌+◌, ◌==◌, ◌%◌, ℤ, List, ◌++◌, length, slice_index}
use Rattle.clk_base.specs.Text.{lines_from}
use Rattle.clk_num.specs.Listed.{Listed}
use Rattle.clk_record.specs.declared.warp.WarpReading.{WarpReading}
use Rattle.clk_record.specs.declared.warp.WarpRun.{WarpRun}
use Rattle.clk_record.specs.declared.step.Step.{Step}
use Rattle.clk_record.specs.declared.attempt.Attempt.{Attempt}
use Rattle.clk_record.specs.declared.up.CpuUp.{CpuUp}
use Rattle.clk_record.specs.declared.stable.StableStamp.{StableStamp}
use Rattle.clk_record.specs.declared.stable.Demotion.{Demotion}
use Rattle.clk_lawful.specs.Lines.{step_line, line_text}
use Rattle.clk_lawful.specs.Lines.Line.{Run, Turn, Demoted, Word, Thread, Shown, Watchdog, Checking, Attempted, Judged, Stamped, Current, History}
use Rattle.clk_lawful.specs.Checks.{Visit, Check, listed, checks_of}
use Rattle.clk_lawful.specs.TraceText.{boot_line, done_line, cpu_line, lift_line}
use Rattle.clk_lawful.specs.declared.event.Event.{Event}
use Rattle.clk_lawful.specs.declared.trace.HistoryStep.{HistoryStep}
use Rattle.clk_lawful.specs.declared.trace.WatchTrace.{WatchTrace}

abbrev pub event_text : ℕ → Event → List ℕ
event_text n e = line_text (Shown e)

abbrev pub boot_text : ℕ → StableStamp → List ℕ
boot_text n s = line_text (boot_line s)

abbrev pub step_text : ℕ → HistoryStep → List ℕ
step_text n s = line_text (step_line s)

abbrev pub reading_text : ℕ → WarpReading → List ℕ
reading_text n r = line_text (Turn r)

abbrev pub run_text : ℕ → ℕ → ℕ → WarpRun → List ℕ
run_text cpu count n run =
    line_text (Run cpu (n + 1)) ++ lines_from reading_text 0 run.readings.items ++ line_text (done_line (n + 1 == count) run)

abbrev pub up_text : ℕ → CpuUp → List ℕ
up_text n up = lines_from (run_text up.cpu (length up.runs.items)) 0 up.runs.items ++ line_text (cpu_line up)

abbrev pub boot_demotion_text : ℕ → Demotion → List ℕ
boot_demotion_text n d = line_text (Demoted d)

abbrev pub word_text : {A : Type 0} → ℤ → ℕ → A → List ℕ
word_text opening w _ = line_text (Word w opening)

abbrev pub thread_text : List ℕ → ℕ → Listed Event → List ℕ
thread_text cpus n events = line_text (Thread n (slice_index cpus n)) ++ lines_from event_text 0 events.items

abbrev pub history_text : ℕ → Listed HistoryStep → List ℕ
history_text w steps = line_text (History w (length steps.items)) ++ lines_from step_text 0 steps.items

-- ---- the watchdog's

abbrev pub attempt_text : ℕ → ℕ → Attempt → List ℕ
attempt_text source n a = line_text (Attempted source a)

abbrev pub stamp_text : ℕ → StableStamp → List ℕ
stamp_text n s = line_text (Stamped s)

abbrev pub lift_text : ℕ → Step → List ℕ
lift_text n s = line_text (lift_line s)

abbrev pub demotion_text : List Step → ℕ → Demotion → List ℕ
demotion_text lifts n d = line_text (Demoted d) ++ lines_from lift_text 0 lifts

abbrev pub visit_text : List Step → ℕ → Visit → List ℕ
visit_text lifts n v =
    lines_from (attempt_text v.made.source) 0 v.attempts
    ++ line_text (Judged v.made.source v.made.outcome)
    ++ lines_from stamp_text 0 (listed v.stamp)
    ++ lines_from (demotion_text lifts) 0 (listed v.demotion)

abbrev pub check_text : ℕ → List Step → ℕ → Check → List ℕ
check_text cpus lifts n c =
    line_text (Checking n (n % cpus) c.ticket) ++ lines_from (visit_text lifts) 0 c.visits ++ line_text (Current c.current)

abbrev pub watch_text : ℕ → ℕ → WatchTrace → List ℕ
watch_text cpus n w = line_text (Watchdog w.thread) ++ lines_from (check_text cpus w.lifts.items) 0 (checks_of w)
