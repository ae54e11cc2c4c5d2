-- What a bring-up finds, over its finished lists: of each CPU but the first its warp runs, what its counter was
-- adjusted by, and the outcome. All of it is printed.
use Rattle.std.specs.Prelude.{◌≡◌, ℕ, ◌+◌, ◌-◌, ◌==◌, Bool, true, false, ◌||◌, ℤ, pos, ◌+ℤ◌, List, [], ◌∷◌, ◌++◌, length, Option, Some, None, if◌then◌else◌}
use Rattle.std.specs.List.{All, list_any}
use Rattle.clk_base.specs.Walk.{Along, told_after, EachFrom}
use Rattle.clk_machine.specs.declared.parts.BringUpPart.{BringUpPart}
use Rattle.clk_machine.specs.Plan.{Plan, cpu_count}
use Rattle.clk_machine.specs.Time.{counter_at}
use Rattle.clk_record.specs.declared.warp.WarpRun.{WarpRun}
use Rattle.clk_record.specs.declared.verdict.Verdict.{Verdict}
use Rattle.clk_record.specs.declared.verdict.Verdict.TheVariants as verdict
use Rattle.clk_record.specs.WarpLimits.{limits_in, cpu_of, side_adjust}
use Rattle.clk_record.specs.Warps.{IsWarpRun}
use Rattle.clk_record.specs.Verdicts.{adjustment, verdict_of}
use Rattle.clk_record.specs.declared.up.UpOutcome.{UpOutcome}
use Rattle.clk_record.specs.declared.up.UpOutcome.TheVariants.{Untested, Synced, Failed, Skipped}
use Rattle.clk_record.specs.declared.up.CpuUp.{CpuUp}
use Rattle.clk_record.specs.declared.up.BroughtUp.{BroughtUp}

-- ---- the runs of a CPU

-- a warp run of this CPU, whose counter is adjusted by so many cycles: each reading is its side's counter at its ticket
pub record IsRunOfCpu (m : Plan) (cpu : ℕ) (adjust : ℤ) (run : WarpRun) : Type 0 where
  pub run_is : IsWarpRun (limits_in m cpu) run
  pub counters : All (λ r. r.tsc ≡ counter_at m (cpu_of r.side cpu) (side_adjust r.side adjust) r.ticket) run.readings.items

-- each run adds what it calls for, and is made by the sum of what the runs before it called for
abbrev pub adjusted : ℤ → WarpRun → ℤ
adjusted adjust run = adjust +ℤ adjustment run

abbrev pub adjusted_by : List WarpRun → ℤ
adjusted_by runs = told_after adjusted (pos 0) runs

abbrev pub AreRunsOf : Plan → ℕ → List WarpRun → Type 0
AreRunsOf m cpu runs = Along (IsRunOfCpu m cpu) adjusted (pos 0) runs

-- a CPU has three runs if its counter has the register that adjusts it, and else one
abbrev pub most_runs : BringUpPart → ℕ
most_runs part = if part.adjust then 3 else 1

-- with the runs left at each of these, another one follows
abbrev pub AreMadeAgain : ℕ → List WarpRun → Type 0
AreMadeAgain most runs = EachFrom (λ n run. verdict_of run (most - n) ≡ verdict.Again (adjustment run)) 0 runs

-- what the last run's verdict makes of the CPU: it is no call for another run
abbrev pub Decides : Verdict → UpOutcome → Type 0
Decides verdict.Passed outcome = outcome ≡ Synced
Decides (verdict.Again adjust) outcome = ⊥
Decides (verdict.Failed max random) outcome = outcome ≡ Failed

-- ---- a CPU

-- a CPU that was tested: each run but the last one is followed by another, with a run fewer left, and the last one
-- decides
pub record IsTested (m : Plan) (most : ℕ) (up : CpuUp) : Type 0 where
  pub before : List WarpRun
  pub last : WarpRun
  pub runs_are : up.runs.items ≡ before ++ last ∷ []
  pub runs : AreRunsOf m up.cpu up.runs.items
  pub again : AreMadeAgain most before
  pub adjust : up.adjust ≡ adjusted_by before
  pub decides : Decides (verdict_of last (most - length before)) up.outcome

-- a CPU of which no run was made: its counter is as it was
pub record IsLeft (outcome : UpOutcome) (up : CpuUp) : Type 0 where
  pub runs : up.runs.items ≡ []
  pub adjust : up.adjust ≡ pos 0
  pub outcome_is : up.outcome ≡ outcome

-- how a CPU is to be tested, if it is: not without a bring-up, and not where it is the one that is passed over
abbrev pub is_passed_over : Option ℕ → ℕ → Bool
is_passed_over None cpu = false
is_passed_over (Some but) cpu = but == cpu

abbrev pub test_of : Plan → Option ℕ → ℕ → Option BringUpPart
test_of m but cpu = if is_passed_over but cpu then None else m.bringup

-- what comes of it, by whether a CPU before it failed
abbrev pub IsUp : Plan → Option BringUpPart → Bool → CpuUp → Type 0
IsUp m None failed up = IsLeft Untested up
IsUp m (Some part) true up = IsLeft Skipped up
IsUp m (Some part) false up = IsTested m (most_runs part) up

-- ---- all CPUs

abbrev pub is_failure : UpOutcome → Bool
is_failure Untested = false
is_failure Synced = false
is_failure Failed = true
is_failure Skipped = false

abbrev pub failed_after : Bool → CpuUp → Bool
failed_after failed up = failed || is_failure up.outcome

-- there is an entry for each CPU from 1, in order. At most one CPU is passed over, and after one that failed no CPU is
-- tested
pub record IsBroughtUp (m : Plan) (but : Option ℕ) (up : BroughtUp) : Type 0 where
  pub count : length up.cpus.items + 1 ≡ cpu_count m
  pub numbers : EachFrom (λ n cpu. cpu.cpu ≡ n) 1 up.cpus.items
  pub cpus : Along (λ failed cpu. IsUp m (test_of m but cpu.cpu) failed cpu) failed_after false up.cpus.items
  pub failed : up.failed ≡ list_any (λ cpu. is_failure cpu.outcome) up.cpus.items
