-- What a visit to a source does to a watch.
use Rattle.std.specs.Prelude.{◌≡◌, ℕ, ◌+◌, ◌≤◌, ℤ, List, [], ◌∷◌, ◌++◌, length}
use Rattle.clk_num.specs.Listed.{Listed}
use Rattle.clk_ticket.specs.Time.{Time}
use Rattle.clk_machine.specs.Plan.{Plan}
use Rattle.clk_record.specs.declared.attempt.Attempt.{Attempt}
use Rattle.clk_record.specs.declared.visit.SourceRecord.{SourceRecord}
use Rattle.clk_record.specs.declared.watched.Watched.{Watched}
use Rattle.clk_record.specs.Attempts.{retries_of}
use Rattle.clk_record.specs.Fold.{after_record, IsVisit}
use Rattle.clk_record.specs.Watching.{Watching, kept_of}
use Rattle.clk_watch.specs.Brackets.{Tries}

-- a visit to source s, on this CPU: the attempts that were made and appended, and what they call for
pub record Visits (m : Plan) (cpu : ℕ) (adjust : ℤ) (s : ℕ) (ws : List Watched) (before after : Listed Attempt) (t u : Time) (r : SourceRecord) (left : List Watched) : Type 0 where
  pub made : List Attempt
  pub tries : Tries m cpu adjust s before made after t u
  pub few : length made ≤ retries_of m + 1
  pub source_is : r.source ≡ s
  pub first_is : r.first ≡ length before.items
  pub count_is : r.count ≡ length made
  pub visit : IsVisit m after.items ws r
  pub left_is : left ≡ after_record after.items r ws

-- the record of a visit is appended, and nothing else changes but what it leaves of the sources
pub record Checks (cpu : ℕ) (adjust : ℤ) (s : ℕ) (w : Watching) (t : Time) (r : SourceRecord) (v : Watching) (u : Time) : Type 0 where
  pub visits : Visits w.machine cpu adjust s (kept_of w) w.attempts v.attempts t u r (kept_of v)
  pub records : v.records.items ≡ w.records.items ++ r ∷ []
  pub room : v.records.room + 1 ≡ w.records.room
  pub machine_is : v.machine ≡ w.machine
  pub tsc_is : v.tsc_unstable ≡ w.tsc_unstable
