-- What a watchdog keeps of its visits and checks, and how its lists grow by them.
use Rattle.std.specs.Prelude.{◌≡◌, ℕ, ◌+◌, Bool, true, not, ◌&&◌, is_some, List, [], ◌∷◌, ◌++◌, map, take, length, flat_map, All, Option, Some, None, if◌then◌else◌}
use Rattle.std.specs.List.{AllZip}
use Rattle.clk_base.specs.Walk.{EachFrom}
use Rattle.clk_machine.specs.Plan.{Plan}
use Rattle.clk_record.specs.declared.step.Step.{Step}
use Rattle.clk_record.specs.Fold.{at_first, watch_after, ratings_of, IsCurrent, AreVisits}
use Rattle.clk_record.specs.declared.stable.Demotion.{Demotion}
use Rattle.clk_words.specs.declared.opening.Start.{Start}
use Rattle.clk_lawful.specs.Checks.{Visit, Check, listed}
use Rattle.clk_lawful.specs.Watchdog.{IsPass}
use Rattle.clk_lawful.specs.declared.trace.WatchTrace.{WatchTrace}
use Rattle.clk_demote.specs.Lifts.{lifts_of}

-- ---- visits

-- while the clock is stable a stamp stands after each record of a good TSC source that is current, and the demotion
-- after the one by which the TSC source was lost, which ends the stable mode
abbrev pub AreCalled : Bool → List Visit → Bool → Type 0
AreCalled stable [] after = stable ≡ after
AreCalled stable (v ∷ visits) after =
    (is_some v.stamp ≡ (stable && v.made.tsc_current)) × (is_some v.demotion ≡ (stable && v.made.tsc_demoted))
    × AreCalled (stable && not v.made.tsc_demoted) visits after

-- each record names its visit's attempts, from where those before it ended
abbrev pub AreNamed : ℕ → List Visit → ℕ → Type 0
AreNamed n [] m = n ≡ m
AreNamed n (v ∷ visits) m = (v.made.first ≡ n) × (v.made.count ≡ length v.attempts) × AreNamed (n + v.made.count) visits m

-- the lists of a watchdog grow by these visits
pub record KeepsVisits (stable : Bool) (before : WatchTrace) (visits : List Visit) (after : Bool) (w : WatchTrace) : Type 0 where
  pub attempts : w.watch.attempts.items ≡ before.watch.attempts.items ++ flat_map (λ v. v.attempts) visits
  pub records : w.watch.records.items ≡ before.watch.records.items ++ map (λ v. v.made) visits
  pub named : AreNamed (length before.watch.attempts.items) visits (length w.watch.attempts.items)
  pub stamps : w.stamps.items ≡ before.stamps.items ++ flat_map (λ v. listed v.stamp) visits
  pub demotion : listed w.demotion ≡ listed before.demotion ++ flat_map (λ v. listed v.demotion) visits
  pub called : AreCalled stable visits after

-- a demotion by the seat of this number lifts the words
abbrev pub lifts_in : ℕ → Start → ℕ → ℕ → Option Demotion → List Step
lifts_in number start check cpus None = []
lifts_in number start check cpus (Some d) = lifts_of number start check d.opening cpus

-- the check of the demotion, where n was kept before these visits of a check
abbrev pub demoted_after : ℕ → List Visit → ℕ → ℕ
demoted_after check [] n = n
demoted_after check (v ∷ visits) n = demoted_after check visits (if is_some v.demotion then check else n)

-- the lifts of a demotion in these visits, and its check
pub record KeepsDemotion (number : ℕ) (start : Start) (check cpus : ℕ) (before : WatchTrace) (visits : List Visit) (w : WatchTrace) : Type 0 where
  pub lifts : w.lifts.items ≡ before.lifts.items ++ flat_map (λ v. lifts_in number start check cpus v.demotion) visits
  pub demoted_in : w.demoted_in ≡ demoted_after check visits before.demoted_in

-- what no visit changes
pub record KeepsRest (before w : WatchTrace) : Type 0 where
  pub thread : w.thread ≡ before.thread
  pub machine : w.watch.machine ≡ before.watch.machine
  pub lost : w.watch.tsc_unstable ≡ before.watch.tsc_unstable
  pub pauses : w.pauses ≡ before.pauses
  pub ends : w.last_record ≡ before.last_record
  pub currents : w.currents ≡ before.currents

-- ---- checks

-- how many records there are after each check, where there were n before them
abbrev pub ends_from : ℕ → List Check → List ℕ
ends_from n [] = []
ends_from n (c ∷ checks) = (n + length c.visits) ∷ ends_from (n + length c.visits) checks

abbrev pub visits_in : List Check → List Visit
visits_in checks = flat_map (λ c. c.visits) checks

-- what is kept of all checks so far, where the clock was stable at first if `stable` says so, and is if `now` does
pub record KeepsChecks (m : Plan) (stable : Bool) (checks : List Check) (now : Bool) (w : WatchTrace) : Type 0 where
  pub attempts : w.watch.attempts.items ≡ flat_map (λ v. v.attempts) (visits_in checks)
  pub records : w.watch.records.items ≡ map (λ v. v.made) (visits_in checks)
  pub named : AreNamed 0 (visits_in checks) (length w.watch.attempts.items)
  pub stamps : w.stamps.items ≡ flat_map (λ v. listed v.stamp) (visits_in checks)
  pub demotion : listed w.demotion ≡ flat_map (λ v. listed v.demotion) (visits_in checks)
  pub called : AreCalled stable (visits_in checks) now
  pub pauses : w.pauses.items ≡ map (λ c. c.ticket) checks
  pub ends : w.last_record.items ≡ ends_from 0 checks
  pub currents : w.currents.items ≡ map (λ c. c.current) checks
  pub passes : All (λ c. IsPass 0 (length m.source) (map (λ v. v.made) c.visits)) checks
  pub visits : AreVisits m w.watch.attempts.items (at_first m w.watch.tsc_unstable) w.watch.records.items
  pub places :
      AllZip
      (λ n place. IsCurrent (ratings_of m (watch_after w.watch.attempts.items (at_first m w.watch.tsc_unstable) (take n w.watch.records.items))) place)
      w.last_record.items
      w.currents.items
  pub demoted_in : EachFrom (λ n c. All (λ v. is_some v.demotion ≡ true → w.demoted_in ≡ n) c.visits) 0 checks
