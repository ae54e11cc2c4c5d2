-- Laws that functions of this crate carry.
use Rattle.std.specs.Prelude.{◌≡◌, ◌≢◌, ℕ, ◌<◌, ◌≤◌, true, false, IsTrue, List, [], ◌∷◌, ◌++◌, length, Some, None}
use Rattle.std.specs.Int.{abs_diff}
use Rattle.std.specs.List.{All}
use Rattle.clk_machine.specs.Plan.{Plan}
use Rattle.clk_machine.specs.Limits.{IsWithinLimits}
use Rattle.clk_machine.specs.Time.{source_plan_at}
use Rattle.clk_record.specs.declared.attempt.Attempt.{Attempt}
use Rattle.clk_record.specs.declared.attempt.Bracket.TheVariants.{Accepted}
use Rattle.clk_record.specs.declared.visit.Outcome.TheVariants.{Passed}
use Rattle.clk_record.specs.declared.visit.SourceRecord.{SourceRecord}
use Rattle.clk_record.specs.declared.watched.Pair.{Pair}
use Rattle.clk_record.specs.declared.watched.Watched.{Watched}
use Rattle.clk_record.specs.Attempts.{reference_ns, decided}
use Rattle.clk_record.specs.Fold.{source_ns, margin_of, is_lost, at_first, watched_at, attempts_of, last_of, after_record, watch_after, ratings_of, IsCurrent, AreVisits}

-- in a visit some attempt decided, and where it was accepted after a kept pair, the source and the watchdog went the
-- same time since then, but for the margin
pub record IsHealthy (m : Plan) (s : ℕ) (w : Watched) (attempts : List Attempt) : Type 0 where
  pub decides : decided m (last_of attempts) ≢ None
  pub agrees : (cs wd : ℕ) (last : Pair) → decided m (last_of attempts) ≡ Some (Accepted cs wd) → w.kept ≡ Some last
      → abs_diff (source_ns m s last.cs cs) (reference_ns m last.wd wd) ≤ margin_of m s

-- it does in each of its visits
abbrev pub StaysHealthy : Plan → ℕ → List Attempt → List Watched → List SourceRecord → Type 0
StaysHealthy m s attempts ws [] = Unit {0}
StaysHealthy m s attempts ws (r ∷ records) =
    (r.source ≡ s → IsHealthy m s (watched_at ws s) (attempts_of attempts r)) × StaysHealthy m s attempts (after_record attempts r ws) records

-- such a source is never demoted
abbrev pub HealthyIsNeverDemoted : Type 0
HealthyIsNeverDemoted =
    (m : Plan) (s : ℕ) (attempts : List Attempt) (ws : List Watched) (records : List SourceRecord)
    → AreVisits m attempts ws records → (watched_at ws s).unstable ≡ false → StaysHealthy m s attempts ws records
    → All (λ r. r.source ≡ s → is_lost r.outcome ≡ false) records × ((watched_at (watch_after attempts ws records) s).unstable ≡ false)

-- after a record that demoted a source no record reads it, and it is never current
abbrev pub DemotedStaysOut : Type 0
DemotedStaysOut =
    (m : Plan) (attempts : List Attempt) (ws : List Watched) (before : List SourceRecord) (r : SourceRecord) (after : List SourceRecord)
    → IsWithinLimits m → length ws ≡ length m.source → AreVisits m attempts ws (before ++ r ∷ after) → IsTrue (is_lost r.outcome)
    → All (λ later. later.source ≡ r.source → (later.outcome ≡ Passed) × (attempts_of attempts later ≡ [])) after
    × ((place : ℕ) → IsCurrent (ratings_of m (watch_after attempts ws (before ++ r ∷ after))) place → place ≢ r.source)

-- nor does any record read a TSC source that was lost at boot, and it is never current
abbrev pub LostAtBootStaysOut : Type 0
LostAtBootStaysOut =
    (m : Plan) (attempts : List Attempt) (records : List SourceRecord) (s : ℕ)
    → IsWithinLimits m → s < length m.source → IsTrue (source_plan_at m s).tsc → AreVisits m attempts (at_first m true) records
    → All (λ r. r.source ≡ s → (r.outcome ≡ Passed) × (attempts_of attempts r ≡ [])) records
    × ((place : ℕ) → IsCurrent (ratings_of m (watch_after attempts (at_first m true) records)) place → place ≢ s)
