-- What contracts see of a watch, and how many checks it is made for.
use Rattle.std.specs.Prelude.{ℕ, ◌+◌, ◌*◌, Bool, List, [], length, Option, Some, None}
use Rattle.clk_num.specs.Listed.{Listed}
use Rattle.clk_machine.specs.declared.parts.WatchPart.{WatchPart}
use Rattle.clk_machine.specs.Plan.{Plan, count_of}
use Rattle.clk_record.specs.declared.attempt.Attempt.{Attempt}
use Rattle.clk_record.specs.declared.visit.SourceRecord.{SourceRecord}
use Rattle.clk_record.specs.declared.watched.Watched.{Watched}
use Rattle.clk_record.specs.Attempts.{retries_of}
use Rattle.clk_record.specs.Fold.{at_first, watch_after}

-- the machine that is watched, whether its TSC source was lost at boot, and the attempts and records so far
pub record Watching : Type 0 where
  pub machine : Plan
  pub tsc_unstable : Bool
  pub attempts : Listed Attempt
  pub records : Listed SourceRecord

-- what is kept of the sources
abbrev pub kept_of : Watching → List Watched
kept_of w = watch_after w.attempts.items (at_first w.machine w.tsc_unstable) w.records.items

-- how many checks a machine asks for, none without a watchdog, and how many visits they make at most
abbrev pub checks_asked : Option WatchPart → ℕ
checks_asked None = 0
checks_asked (Some w) = count_of w.checks

abbrev pub most_visits : Plan → ℕ
most_visits m = checks_asked m.watchdog * length m.source

-- a watch that has room for all of them, and for all of their attempts
abbrev pub started : Plan → Bool → Watching
started m lost = record {
  machine = m;
  tsc_unstable = lost;
  attempts = record { items = []; room = most_visits m * (retries_of m + 1) };
  records = record { items = []; room = most_visits m };
}
