-- When the checks of a watchdog are those that its machine calls for, by what its own attempts show.
use Rattle.std.specs.Prelude.{◌≡◌, ℕ, ◌+◌, Bool, ◌&&◌, List, [], ◌∷◌, map, take, flat_map, length, All, is_some, MatchBool}
use Rattle.std.specs.List.{AllZip}
use Rattle.clk_machine.specs.Plan.{Plan, threads_of}
use Rattle.clk_record.specs.declared.visit.SourceRecord.{SourceRecord}
use Rattle.clk_record.specs.Fold.{ends_check, at_first, watch_after, ratings_of, IsCurrent, AreVisits}
use Rattle.clk_record.specs.Watching.{checks_asked}
use Rattle.clk_lawful.specs.Checks.{listed, visits_of, checks_of}
use Rattle.clk_lawful.specs.declared.trace.WatchTrace.{WatchTrace}

-- ---- one check

-- the records of a check visit each of n sources in order, from this one on; a skip ends the check
abbrev pub IsPass : ℕ → ℕ → List SourceRecord → Type 0
IsPass source n [] = source ≡ n
IsPass source n (r ∷ rs) = (r.source ≡ source) × MatchBool (ends_check r.outcome) (rs ≡ []) (IsPass (source + 1) n rs)

-- each record names the attempts from where the one before it ended, and all m of them are named
abbrev pub NamesAll : ℕ → List SourceRecord → ℕ → Type 0
NamesAll n [] m = n ≡ m
NamesAll n (r ∷ rs) m = (r.first ≡ n) × NamesAll (n + r.count) rs m

-- ---- all of them

-- there are as many checks as the file asks for. Each visits the sources in order; all records stand in a check, and
-- all attempts in a record; each record is what its attempts call for by the fold of those before it, and after each
-- check the current source is that of the fold so far. At first the TSC source is lost where a bring-up failed
pub record AreChecks (m : Plan) (lost : Bool) (w : WatchTrace) : Type 0 where
  pub thread : w.thread ≡ length (threads_of m)
  pub pauses : length w.pauses.items ≡ checks_asked m.watchdog
  pub ends : length w.last_record.items ≡ checks_asked m.watchdog
  pub passes : All (λ c. IsPass 0 (length m.source) (map (λ v. v.made) c.visits)) (checks_of w)
  pub whole : flat_map (λ c. c.visits) (checks_of w) ≡ visits_of w
  pub named : NamesAll 0 w.watch.records.items (length w.watch.attempts.items)
  pub visits : AreVisits m w.watch.attempts.items (at_first m lost) w.watch.records.items
  pub currents :
      AllZip
      (λ n place. IsCurrent (ratings_of m (watch_after w.watch.attempts.items (at_first m lost) (take n w.watch.records.items))) place)
      w.last_record.items
      w.currents.items

-- ---- stable stamps and the demotion

-- where the clock is stable a stamp stands exactly after each record of a good TSC source that is current, and the
-- demotion exactly after the one by which the TSC source was lost; there are no others. No TSC source is good or lost
-- after that
pub record AreCalledFor (stable : Bool) (w : WatchTrace) : Type 0 where
  pub stamps : All (λ v. is_some v.stamp ≡ (stable && v.made.tsc_current)) (visits_of w)
  pub demotions : All (λ v. is_some v.demotion ≡ (stable && v.made.tsc_demoted)) (visits_of w)
  pub stamps_shown : flat_map (λ v. listed v.stamp) (visits_of w) ≡ w.stamps.items
  pub demotion_shown : flat_map (λ v. listed v.demotion) (visits_of w) ≡ listed w.demotion
