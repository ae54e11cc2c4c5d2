-- What is kept of each source: the fold of the records of checks over their attempts.
use Rattle.std.specs.Prelude.{◌≡◌, ◌↔◌, ℕ, ◌+◌, ◌-◌, ◌<◌, ◌≤◌, nat_lt, Bool, true, false, ◌&&◌, IsTrue, pos, List, [], ◌∷◌, ◌++◌, map, take, drop, length, slice_index, slice_index_or, slice_set, Option, Some, None, EachIndex, if◌then◌else◌}
use Rattle.std.specs.Int.{abs_diff}
use Rattle.clk_num.specs.Conversion.{convert}
use Rattle.clk_num.specs.Masked.{masked_delta}
use Rattle.clk_machine.specs.Plan.{Plan, SourcePlan, count_of}
use Rattle.clk_machine.specs.Time.{source_plan_at, rate_of}
use Rattle.clk_record.specs.declared.attempt.Attempt.{Attempt}
use Rattle.clk_record.specs.declared.attempt.Bracket.{Bracket}
use Rattle.clk_record.specs.declared.attempt.Bracket.TheVariants.{Accepted, Skip as SkipBracket, Slow as SlowBracket}
use Rattle.clk_record.specs.declared.visit.Outcome.{Outcome}
use Rattle.clk_record.specs.declared.visit.Outcome.TheVariants.{Passed, Slow, Skip, First, Good, Bad}
use Rattle.clk_record.specs.declared.visit.SourceRecord.{SourceRecord}
use Rattle.clk_record.specs.declared.watched.Pair.{Pair}
use Rattle.clk_record.specs.declared.watched.Watched.{Watched}
use Rattle.clk_record.specs.Attempts.{reference_ns, IsBracket}

-- ---- what a bracket says of a source

-- the ns of a source from one of its readings to another
abbrev pub source_ns : Plan → ℕ → ℕ → ℕ → ℕ
source_ns m s last now = convert (masked_delta now last (count_of (source_plan_at m s).bits)) (rate_of m s)

-- how far a source and the watchdog may differ
abbrev pub margin_of : Plan → ℕ → ℕ
margin_of m s = count_of (source_plan_at m s).margin + count_of m.reference.margin

abbrev pub compared : ℕ → ℕ → ℕ → Outcome
compared margin cs wd = if nat_lt margin (abs_diff cs wd) then Bad (pos cs) (pos wd) else Good (pos cs) (pos wd)

-- an accepted pair, after the pair that was kept, if any
abbrev pub judged : Plan → ℕ → Option Pair → Pair → Outcome
judged m s None now = First
judged m s (Some last) now = compared (margin_of m s) (source_ns m s last.cs now.cs) (reference_ns m last.wd now.wd)

-- the outcome by how the bracket ended; a source that was not read was passed over
abbrev pub outcome_of : Plan → ℕ → Watched → Option Bracket → Outcome
outcome_of m s w None = Passed
outcome_of m s w (Some SkipBracket) = Skip
outcome_of m s w (Some SlowBracket) = Slow
outcome_of m s w (Some (Accepted cs wd)) = judged m s w.kept (record { cs = cs; wd = wd })

abbrev pub is_good : Outcome → Bool
is_good Passed = false
is_good Slow = false
is_good Skip = false
is_good First = false
is_good (Good cs_ns wd_ns) = true
is_good (Bad cs_ns wd_ns) = false

-- the outcomes that make a source unstable
abbrev pub is_lost : Outcome → Bool
is_lost Passed = false
is_lost Slow = true
is_lost Skip = false
is_lost First = false
is_lost (Good cs_ns wd_ns) = false
is_lost (Bad cs_ns wd_ns) = true

-- the outcome that ends a check
abbrev pub ends_check : Outcome → Bool
ends_check Passed = false
ends_check Slow = false
ends_check Skip = true
ends_check First = false
ends_check (Good cs_ns wd_ns) = false
ends_check (Bad cs_ns wd_ns) = false

-- ---- what a record leaves of the sources

-- at first nothing is kept, and only a TSC source is unstable, where it was lost at boot
abbrev pub source_at_first : Bool → SourcePlan → Watched
source_at_first lost s =
    record { kept = None; unstable = lost && s.tsc; rating = if lost && s.tsc then 0 else count_of s.rating }

abbrev pub at_first : Plan → Bool → List Watched
at_first m lost = map (source_at_first lost) m.source

abbrev pub watched_at : List Watched → ℕ → Watched
watched_at ws s = slice_index_or ws s (record { kept = None; unstable = false; rating = 0 })

abbrev pub demoted : Watched → Watched
demoted w = record w { unstable = true; rating = 0 }

abbrev pub keeping : Pair → Watched → Watched
keeping now w = record w { kept = Some now }

abbrev pub unmarked : Watched → Watched
unmarked w = record w { kept = None }

abbrev pub left_of : Outcome → Pair → Watched → Watched
left_of Passed now w = w
left_of Slow now w = demoted w
left_of Skip now w = unmarked w
left_of First now w = keeping now w
left_of (Good cs_ns wd_ns) now w = keeping now w
left_of (Bad cs_ns wd_ns) now w = demoted (keeping now w)

-- a skip drops what was kept of every source
abbrev pub left_by : Outcome → Pair → ℕ → List Watched → List Watched
left_by outcome now s ws =
    if ends_check outcome then map unmarked ws else slice_set ws s (left_of outcome now (watched_at ws s))

-- the attempts that a record names
abbrev pub attempts_of : List Attempt → SourceRecord → List Attempt
attempts_of attempts r = take r.count (drop r.first attempts)

abbrev pub last_of : List Attempt → Attempt
last_of attempts = slice_index_or attempts (length attempts - 1) (record { ticket = []; value = [] })

-- the source's reading in an attempt, and the watchdog's before it
abbrev pub pair_of : Attempt → Pair
pair_of a = record { cs = slice_index a.value 1; wd = slice_index a.value 0 }

abbrev pub after_record : List Attempt → SourceRecord → List Watched → List Watched
after_record attempts r ws = left_by r.outcome (pair_of (last_of (attempts_of attempts r))) r.source ws

abbrev pub watch_after : List Attempt → List Watched → List SourceRecord → List Watched
watch_after attempts ws [] = ws
watch_after attempts ws (r ∷ records) = watch_after attempts (after_record attempts r ws) records

-- ---- the current source

-- the ratings of the sources, and last that of the reference
abbrev pub ratings_of : Plan → List Watched → List ℕ
ratings_of m ws = map (λ w. w.rating) ws ++ count_of m.reference.rating ∷ []

-- the place of the greatest rating, the first one on a tie
pub record IsCurrent (ratings : List ℕ) (place : ℕ) : Type 0 where
  pub there : place < length ratings
  pub greatest : EachIndex ratings (λ k. slice_index ratings k ≤ slice_index ratings place)
  pub first : (k : ℕ) → k < place → slice_index ratings k < slice_index ratings place

-- ---- right records

-- an unstable source is not read, and any other one is read by a bracket
abbrev pub IsReadBy : Plan → Watched → List Attempt → Option Bracket → Type 0
IsReadBy m w attempts None = (w.unstable ≡ true) × (attempts ≡ [])
IsReadBy m w attempts (Some outcome) = (w.unstable ≡ false) × IsBracket m attempts outcome

-- a record tells what its attempts call for, by what was kept of the sources
pub record IsVisit (m : Plan) (attempts : List Attempt) (ws : List Watched) (r : SourceRecord) : Type 0 where
  pub there : r.source < length m.source
  pub named : r.first + r.count ≤ length attempts
  pub ends : Option Bracket
  pub read : IsReadBy m (watched_at ws r.source) (attempts_of attempts r) ends
  pub outcome_is : r.outcome ≡ outcome_of m r.source (watched_at ws r.source) ends
  pub current : IsTrue r.tsc_current ↔ (IsTrue (is_good r.outcome && (source_plan_at m r.source).tsc) × IsCurrent (ratings_of m ws) r.source)
  pub lost : r.tsc_demoted ≡ (is_lost r.outcome && (source_plan_at m r.source).tsc)

-- so do all of these, each by what those before it left
abbrev pub AreVisits : Plan → List Attempt → List Watched → List SourceRecord → Type 0
AreVisits m attempts ws [] = Unit {0}
AreVisits m attempts ws (r ∷ records) = IsVisit m attempts ws r × AreVisits m attempts (after_record attempts r ws) records
