-- No finished bring-up adjusts a counter by more than it may be read by.
use Rattle.std.proofs.Common.{◌≡◌, ℕ, ◌+◌, ◌-◌, ◌*◌, ◌^◌, ◌<◌, ◌≤◌, Bool, true, false, cond, ℤ, pos, List, [], ◌∷◌, length, get_or, Option, Some, None, sym, subst, inl, inr, arith}
use Rattle.std.specs.List.{All}
use Rattle.std.proofs.lemmas.Bool.{cases_lt}
use Rattle.std.proofs.lemmas.Int.{ints}
use Rattle.std.proofs.lemmas.List.Concat.{flat_map-append}
use Rattle.std.proofs.lemmas.List.Elements.{All-nil, All-cons}
use Rattle.clk_base.specs.Walk.{Along, EachFrom}
use Rattle.clk_base.proofs.Walks.{along_split, each_at, all_both}
use Rattle.clk_num.specs.Range.{IsNear}
use Rattle.clk_machine.specs.declared.parts.BringUpPart.{BringUpPart}
use Rattle.clk_machine.specs.Plan.{Plan, cpu_count}
use Rattle.clk_machine.specs.Limits.{most_tickets, IsWithinLimits}
use Rattle.clk_record.specs.declared.warp.WarpReading.{WarpReading}
use Rattle.clk_record.specs.declared.warp.WarpRun.{WarpRun}
use Rattle.clk_record.specs.declared.verdict.Verdict.TheVariants as verdict
use Rattle.clk_record.specs.declared.up.CpuUp.{CpuUp}
use Rattle.clk_record.specs.WarpLimits.{limits_in}
use Rattle.clk_record.specs.Verdicts.{adjustment, verdict_of}
use Rattle.clk_record.specs.BroughtUp.{IsRunOfCpu, adjusted, adjusted_by, AreRunsOf, most_runs, AreMadeAgain, IsTested, test_of, IsUp, failed_after}
use Rattle.clk_record.specs.WarpReadings.{readings_in, all_readings}
use Rattle.clk_record.proofs.Counters.{readings_by}
use Rattle.clk_record.proofs.Sizes.{run_small}
use Rattle.clk_record.proofs.Calls.{IsFar, far_wider, far_sum, adjustment_far, calls_again}

-- ---- one run

abbrev Within : WarpReading → Type 0
Within r = r.ticket < most_tickets

-- a run's counters go by its adjustment and 19 * 2^41 cycles at most, and what it calls for no further
far_more : (m : Plan) (cpu n : ℕ) (adjust : ℤ) (run : WarpRun) → IsWithinLimits m → cpu < cpu_count m → All Within run.readings.items → IsFar n adjust
    → IsRunOfCpu m cpu adjust run → IsFar (n + (n + 19 * 2 ^ 41)) (adjusted adjust run)
far_more m cpu n adjust run limits there within far is =
    let small = run_small (limits_in m cpu) (n + 19 * 2 ^ 41) run is.run_is (readings_by m cpu adjust n run.readings.items limits there far.high within is.counters) in
    far_sum n (n + 19 * 2 ^ 41) adjust (adjustment run) far (adjustment_far (n + 19 * 2 ^ 41) run small)

far_none : IsFar 0 (pos 0)
far_none = record { low = omega (arith, ints); high = omega (arith, ints) }

-- before the last one there are two at most
far_runs : (m : Plan) (cpu : ℕ) (runs : List WarpRun) → IsWithinLimits m → cpu < cpu_count m → length runs ≤ 2 → All Within (readings_in runs)
    → AreRunsOf m cpu runs → IsFar (2 ^ 47) (adjusted_by runs)
far_runs m cpu [] limits there few within runs = far_wider 0 (2 ^ 47) (pos 0) (omega arith) far_none
far_runs m cpu (r ∷ []) limits there few within runs =
    let first = all_both Within r.readings.items [] within in
    let far = far_more m cpu 0 (pos 0) r limits there first.0 far_none runs.0 in
    far_wider (0 + (0 + 19 * 2 ^ 41)) (2 ^ 47) (adjusted (pos 0) r) (omega arith) far
far_runs m cpu (r ∷ s ∷ []) limits there few within runs =
    let first = all_both Within r.readings.items (readings_in (s ∷ [])) within in
    let second = all_both Within s.readings.items [] first.1 in
    let near = far_wider (0 + (0 + 19 * 2 ^ 41)) (19 * 2 ^ 41) (adjusted (pos 0) r) (omega arith) (far_more m cpu 0 (pos 0) r limits there first.0 far_none runs.0) in
    let far = far_more m cpu (19 * 2 ^ 41) (adjusted (pos 0) r) s limits there second.0 near runs.1.0 in
    far_wider (19 * 2 ^ 41 + (19 * 2 ^ 41 + 19 * 2 ^ 41)) (2 ^ 47) (adjusted (adjusted (pos 0) r) s) (omega arith) far
far_runs m cpu (r ∷ s ∷ t ∷ runs) limits there few within all = absurd (omega (arith, few))

runs_few : (b : Bool) → (1 ≤ cond b 3 1) × (cond b 3 1 ≤ 3)
runs_few true = (omega arith, omega arith)
runs_few false = (omega arith, omega arith)

few_again : (most : ℕ) (runs : List WarpRun) → 1 ≤ most → AreMadeAgain most runs → length runs < most
few_again most [] some again = some
few_again most (r ∷ runs) some again =
    elim (cases_lt (length (r ∷ runs)) most) [
      | inl few ↦ few
      | inr many ↦
          let k : ℕ = most - 1 in
          let run : WarpRun = get_or (r ∷ runs) k r in
          let call = each_at (λ (n : ℕ) (x : WarpRun). verdict_of x (most - n) ≡ verdict.Again (adjustment x)) 0 (r ∷ runs) k r (omega (arith, some, many)) again in
          absurd ((calls_again (most - (0 + k)) (adjustment run) run call).others (omega (arith, some)))
    ]

pub zero_near : (z : ℤ) → z ≡ pos 0 → IsNear 47 z
zero_near z e = subst (IsNear 47) (sym e) (omega (arith, ints), omega (arith, ints))

tested_near : (m : Plan) (part : BringUpPart) (up : CpuUp) → IsWithinLimits m → up.cpu < cpu_count m → All Within (readings_in up.runs.items)
    → IsTested m (most_runs part) up → IsNear 47 up.adjust
tested_near m part up limits there within h =
    let last : List WarpRun = h.last ∷ [] in
    let some = runs_few part.adjust in
    let most = some.0 in
    let three = some.1 in
    let few = few_again (most_runs part) h.before most h.again in
    let runs = along_split (IsRunOfCpu m up.cpu) adjusted (pos 0) h.before last (subst (AreRunsOf m up.cpu) h.runs_are h.runs) in
    let all = subst (λ (xs : List WarpRun). All Within (readings_in xs)) h.runs_are within in
    let both = all_both Within (readings_in h.before) (readings_in last) (subst (All Within) (flat_map-append (λ (r : WarpRun). r.readings.items) h.before last) all) in
    let far = far_runs m up.cpu h.before limits there (omega (arith, few, three)) both.0 runs.0 in
    let low = far.low in
    let high = far.high in
    subst (IsNear 47) (sym h.adjust) (omega (arith, ints, low), omega (arith, ints, high))

up_near : (m : Plan) (o : Option BringUpPart) (failed : Bool) (up : CpuUp) → IsWithinLimits m → up.cpu < cpu_count m → All Within (readings_in up.runs.items)
    → IsUp m o failed up → IsNear 47 up.adjust
up_near m None failed up limits there within h = zero_near up.adjust h.adjust
up_near m (Some part) true up limits there within h = zero_near up.adjust h.adjust
up_near m (Some part) false up limits there within h = tested_near m part up limits there within h

pub ups_near : (m : Plan) (n : ℕ) (failed : Bool) (ups : List CpuUp) → IsWithinLimits m → n + length ups ≤ cpu_count m → All Within (all_readings ups)
    → EachFrom (λ n up. up.cpu ≡ n) n ups → Along (λ failed up. IsUp m (test_of m None up.cpu) failed up) failed_after failed ups
    → All (λ up. IsNear 47 up.adjust) ups
ups_near m n failed [] limits few within numbers along = All-nil (λ up. IsNear 47 up.adjust)
ups_near m n failed (up ∷ ups) limits few within numbers along =
    let number = numbers.0 in
    let both = all_both Within (readings_in up.runs.items) (all_readings ups) within in
    All-cons (λ (x : CpuUp). IsNear 47 x.adjust) up ups (up_near m m.bringup failed up limits (omega (arith, number, few)) both.0 along.0)
    (ups_near m (n + 1) (failed_after failed up) ups limits (omega (arith, few)) both.1 numbers.1 along.1)
