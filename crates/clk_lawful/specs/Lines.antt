-- The lines of a trace's text, as data: what is printed, and nothing else.
use Rattle.std.specs.Prelude.{ℕ, ℤ, List, [], ◌∷◌, ◌++◌, codes, decimal, flat_map, slice_index, if◌then◌else◌}
use Rattle.std.specs.Fmt.{signed_decimal}
use Rattle.clk_base.specs.Text.{line}
use Rattle.clk_machine.specs.declared.reading.RawReading.{RawReading}
use Rattle.clk_record.specs.declared.mode.Mode.{Mode}
use Rattle.clk_record.specs.declared.mode.Mode.TheVariants as mode
use Rattle.clk_record.specs.declared.warp.Side.{Side}
use Rattle.clk_record.specs.declared.warp.Side.TheVariants.{Source, Target}
use Rattle.clk_record.specs.declared.warp.WarpReading.{WarpReading}
use Rattle.clk_record.specs.declared.verdict.Verdict.{Verdict}
use Rattle.clk_record.specs.declared.verdict.Verdict.TheVariants as verdict
use Rattle.clk_record.specs.declared.up.UpOutcome.{UpOutcome}
use Rattle.clk_record.specs.declared.up.UpOutcome.TheVariants as outcome
use Rattle.clk_record.specs.declared.attempt.Attempt.{Attempt}
use Rattle.clk_record.specs.declared.visit.Outcome.{Outcome}
use Rattle.clk_record.specs.declared.visit.Outcome.TheVariants as visit
use Rattle.clk_record.specs.declared.stable.StableStamp.{StableStamp}
use Rattle.clk_record.specs.declared.stable.Demotion.{Demotion}
use Rattle.clk_lawful.specs.declared.event.Event.{Event}
use Rattle.clk_lawful.specs.declared.event.EventKind.{EventKind}
use Rattle.clk_lawful.specs.declared.event.EventKind.TheVariants as kind
use Rattle.clk_lawful.specs.declared.trace.HistoryStep.{HistoryStep}

pub data Line : Type 0 where
  -- the version; the ticket and counter value of record 0; a stamp of the boot
  Head : Line
  Epoch : ℕ → ℕ → Line
  Boot : ℕ → ℤ → RawReading → Line
  -- how the clock starts, and the offsets of the stable clock and of monotonic time
  Start : Mode → ℤ → ℤ → Line
  -- a CPU and the number of a warp run of its bring-up; a reading of the run; the run's falls, their greatest, how many
  -- changed sides and the greatest of either side, and the verdict
  Run : ℕ → ℕ → Line
  Turn : WarpReading → Line
  Done : ℕ → ℕ → ℕ → ℕ → ℕ → Verdict → Line
  -- a CPU, what its counter was adjusted by in all, and what came of its bring-up
  Cpu : ℕ → ℤ → UpOutcome → Line
  -- a demotion, at boot or of the watchdog
  Demoted : Demotion → Line
  -- a clock word and where it opens
  Word : ℕ → ℤ → Line
  -- a thread and its CPU; one of its events
  Thread : ℕ → ℕ → Line
  Shown : Event → Line
  -- the watchdog's thread; a check with its CPU and the first ticket of its pause; an attempt at a source, and what the
  -- visit found; a stable stamp; a lift of a clock word, which it had before and after; and the place of the current
  -- source
  Watchdog : ℕ → Line
  Checking : ℕ → ℕ → ℕ → Line
  Attempted : ℕ → Attempt → Line
  Judged : ℕ → Outcome → Line
  Stamped : StableStamp → Line
  Lifted : ℕ → ℤ → ℤ → Line
  Current : ℕ → Line
  -- a clock word and how many steps it made; a step's thread and call, and the word before and after
  History : ℕ → ℕ → Line
  Step : ℕ → ℕ → ℤ → ℤ → Line
  -- how many tickets were drawn
  End : ℕ → Line

-- the line that shows a step
abbrev pub step_line : HistoryStep → Line
step_line s = Step s.thread s.call s.old s.new

-- ---- the words of a line

abbrev pub mode_name : Mode → List ℕ
mode_name mode.Stable = codes "stable"
mode_name mode.PerCpu = codes "percpu"

-- CPU 0, and the CPU that is brought up
abbrev pub side_name : Side → List ℕ
side_name Source = codes "a"
side_name Target = codes "b"

abbrev pub verdict_words : Verdict → List (List ℕ)
verdict_words verdict.Passed = codes "passed" ∷ []
verdict_words (verdict.Again adjust) = codes "again" ∷ signed_decimal adjust ∷ []
verdict_words (verdict.Failed max random) = codes "failed" ∷ []

abbrev pub outcome_name : UpOutcome → List ℕ
outcome_name outcome.Untested = codes "untested"
outcome_name outcome.Synced = codes "synced"
outcome_name outcome.Failed = codes "failed"
outcome_name outcome.Skipped = codes "skipped"

-- what a visit of the watchdog found; the ns are how far the source and the watchdog went
abbrev pub judgement_words : Outcome → List (List ℕ)
judgement_words visit.Passed = codes "passed" ∷ []
judgement_words visit.Slow = codes "slow" ∷ []
judgement_words visit.Skip = codes "skip" ∷ []
judgement_words visit.First = codes "first" ∷ []
judgement_words (visit.Good cs_ns wd_ns) = codes "good" ∷ signed_decimal cs_ns ∷ signed_decimal wd_ns ∷ []
judgement_words (visit.Bad cs_ns wd_ns) = codes "bad" ∷ signed_decimal cs_ns ∷ signed_decimal wd_ns ∷ []

abbrev pub raw_words : RawReading → List (List ℕ)
raw_words r = decimal r.ticket ∷ decimal r.cyc ∷ decimal r.rec ∷ signed_decimal r.ns ∷ []

-- one equation for each kind of event
abbrev pub kind_words : EventKind → List (List ℕ)
kind_words (kind.Stable raw value) = (codes "stable" ∷ raw_words raw) ++ (signed_decimal value ∷ [])
kind_words (kind.Local raw tick_raw tick_gtod offset old new) =
    (codes "local" ∷ raw_words raw)
    ++ (signed_decimal tick_raw ∷ signed_decimal tick_gtod ∷ signed_decimal offset ∷ signed_decimal old ∷ signed_decimal new ∷ [])
kind_words (kind.Couple cpu own other word old new) =
    codes "couple" ∷ decimal cpu ∷ signed_decimal own ∷ signed_decimal other ∷ decimal word ∷ signed_decimal old ∷ signed_decimal new ∷ []
kind_words (kind.Stamp gtod_ticket gtod raw) = codes "stamp" ∷ decimal gtod_ticket ∷ signed_decimal gtod ∷ raw_words raw
kind_words kind.Nothing = codes "none" ∷ []
kind_words (kind.Update p) = codes "update" ∷ decimal p.rec ∷ decimal p.ticket ∷ decimal p.cyc ∷ signed_decimal p.ns ∷ []
kind_words (kind.Pause ticket count) = codes "pause" ∷ decimal ticket ∷ decimal count ∷ []

-- and one for each kind of line
abbrev pub line_words : Line → List (List ℕ)
line_words Head = codes "trace" ∷ decimal 1 ∷ []
line_words (Epoch ticket cyc) = codes "epoch" ∷ decimal ticket ∷ decimal cyc ∷ []
line_words (Boot gtod_ticket gtod raw) = codes "boot" ∷ decimal gtod_ticket ∷ signed_decimal gtod ∷ raw_words raw
line_words (Start starts sched_offset gtod_offset) = codes "start" ∷ mode_name starts ∷ signed_decimal sched_offset ∷ signed_decimal gtod_offset ∷ []
line_words (Run cpu number) = codes "run" ∷ decimal cpu ∷ decimal number ∷ []
line_words (Turn r) = (if r.start then codes "s" else codes "r") ∷ side_name r.side ∷ decimal r.ticket ∷ decimal r.tsc ∷ []
line_words (Done nr max random cur_source cur_target verdict) =
    codes "done" ∷ decimal nr ∷ decimal max ∷ decimal random ∷ decimal cur_source ∷ decimal cur_target ∷ verdict_words verdict
line_words (Cpu cpu adjust outcome) = codes "cpu" ∷ decimal cpu ∷ signed_decimal adjust ∷ outcome_name outcome ∷ []
line_words (Demoted d) =
    (codes "demote" ∷ decimal d.gtod_ticket ∷ signed_decimal d.gtod ∷ raw_words d.raw)
    ++ (signed_decimal d.gtod_offset ∷ signed_decimal d.opening ∷ signed_decimal d.drift ∷ [])
line_words (Word w opening) = codes "word" ∷ decimal w ∷ signed_decimal opening ∷ []
line_words (Thread thread cpu) = codes "thread" ∷ decimal thread ∷ decimal cpu ∷ []
line_words (Shown e) = decimal e.call ∷ kind_words e.kind
line_words (Watchdog thread) = codes "watch" ∷ decimal thread ∷ []
line_words (Checking number cpu ticket) = codes "check" ∷ decimal number ∷ decimal cpu ∷ decimal ticket ∷ []
line_words (Attempted source a) =
    codes "read" ∷ decimal source ∷ decimal (slice_index a.ticket 0) ∷ decimal (slice_index a.value 0)
    ∷ decimal (slice_index a.ticket 1) ∷ decimal (slice_index a.value 1) ∷ decimal (slice_index a.ticket 2) ∷ decimal (slice_index a.value 2)
    ∷ decimal (slice_index a.ticket 3) ∷ decimal (slice_index a.value 3) ∷ []
line_words (Judged source outcome) = codes "source" ∷ decimal source ∷ judgement_words outcome
line_words (Stamped s) = (codes "stable" ∷ decimal s.gtod_ticket ∷ signed_decimal s.gtod ∷ raw_words s.raw) ++ (signed_decimal s.offset ∷ [])
line_words (Lifted w old new) = codes "lift" ∷ decimal w ∷ signed_decimal old ∷ signed_decimal new ∷ []
line_words (Current place) = codes "current" ∷ decimal place ∷ []
line_words (History w count) = codes "history" ∷ decimal w ∷ decimal count ∷ []
line_words (Step thread call old new) = decimal thread ∷ decimal call ∷ signed_decimal old ∷ signed_decimal new ∷ []
line_words (End tickets) = codes "end" ∷ decimal tickets ∷ []

abbrev pub line_text : Line → List ℕ
line_text l = line (line_words l)

-- the text of some lines
abbrev pub text_of : List Line → List ℕ
text_of ls = flat_map line_text ls
