-- The runs of a CPU so far: each was made by the sum of the adjustments before it, and called for another one.
use Rattle.std.proofs.Common.{◌≡◌, ℕ, zero, suc, ◌+◌, ◌-◌, ◌*◌, ◌^◌, ◌<◌, ◌≤◌, false, ℤ, pos, ◌+ℤ◌, List, [], ◌∷◌, ◌++◌, length, length-append, Some, refl, sym, ap, ◌∙◌, subst, mul-le-mul_right, arith}
use Rattle.std.proofs.Common.{FitsSigned, w64, to_z-of_z, rules}
use mir.Val.{to_z, of_z}
use Rattle.std.proofs.lemmas.Int.{ints}
use Rattle.std.proofs.lemmas.List.{length_push}
use Rattle.clk_base.specs.Walk.{told_after, EachFrom}
use Rattle.clk_base.proofs.Walks.{along_both}
use Rattle.clk_num.specs.Listed.{Listed}
use Rattle.clk_num.specs.Range.{IsNear}
use Rattle.clk_ticket.specs.Time.{Time}
use Rattle.clk_machine.specs.Plan.{Plan, cpu_count}
use Rattle.clk_machine.specs.Limits.{IsWithinLimits}
use Rattle.clk_machine.specs.declared.parts.BringUpPart.{BringUpPart}
use Rattle.clk_record.specs.declared.warp.WarpReading.{WarpReading}
use Rattle.clk_record.specs.declared.warp.WarpRun.{WarpRun}
use Rattle.clk_record.specs.declared.verdict.Verdict.{Verdict}
use Rattle.clk_record.specs.declared.verdict.Verdict.TheVariants as verdict
use Rattle.clk_record.specs.Verdicts.{adjustment, verdict_of}
use Rattle.clk_record.specs.WarpLimits.{limits_in}
use Rattle.clk_record.specs.declared.up.UpOutcome.{UpOutcome}
use Rattle.clk_record.specs.declared.up.CpuUp.{CpuUp}
use Rattle.clk_record.specs.BroughtUp.{IsRunOfCpu, adjusted, adjusted_by, AreRunsOf, most_runs, AreMadeAgain, Decides, IsTested}
use Rattle.clk_record.specs.WarpReadings.{readings_in}
use Rattle.clk_record.proofs.Counters.{readings_by}
use Rattle.clk_record.proofs.Sizes.{IsSmall, run_small}
use Rattle.clk_record.proofs.Calls.{IsFar, far_near, adjustment_far, calls_again}
use Rattle.clk_warp.specs.Run.{most_readings}
use Rattle.clk_warp.specs.Pairs.{DrawsFor, IsPaired}
use Rattle.clk_adjust.specs.Tickets.{cpu_tickets, HasDrawn}
use Rattle.clk_adjust.specs.Outcomes.{Brings}
use Rattle.clk_adjust.proofs.Few.{few_readings}
use Rattle.clk_adjust.proofs.Drawing.{draws_none, draws_both, readings_push, runs_made, run_of}

-- ---- how far the adjustments go

-- after so many runs: the next counter goes as far as it did, and by that and 19 * 2^41 cycles the next adjustment
abbrev pub far_after : ℕ → ℕ
far_after zero = 0
far_after (suc n) = 2 * far_after n + 19 * 2 ^ 41

far_most : (n : ℕ) → n ≤ 2 → far_after n ≤ 57 * 2 ^ 41
far_most zero few = omega arith
far_most (suc zero) few = omega arith
far_most (suc (suc zero)) few = omega arith
far_most (suc (suc (suc n))) few = absurd (omega arith)

-- ---- the runs so far

pub record Goes (m : Plan) (cpu most done : ℕ) (before : Time) (runs : List WarpRun) (adjust : ℤ) (now : Time) : Type 0 where
  pub going : done < most
  pub count : length runs ≡ done
  pub made : AreRunsOf m cpu runs
  pub again : AreMadeAgain most runs
  pub adjust_is : adjust ≡ adjusted_by runs
  pub far : IsFar (far_after done) adjust
  pub draws : DrawsFor before (readings_in runs) now
  pub few : length (readings_in runs) ≤ done * most_readings m

pub goes_first : (m : Plan) (cpu most : ℕ) (t : Time) → 0 < most → Goes m cpu most 0 t [] (pos 0) t
goes_first m cpu most t some = record {
  going = some;
  count = refl;
  made = tt;
  again = tt;
  adjust_is = refl;
  far = record { low = omega (arith, ints); high = omega (arith, ints) };
  draws = draws_none t;
  few = omega arith;
}

-- no adjustment goes further than a counter may be read by
pub near_enough : (m : Plan) (cpu most done : ℕ) (t u : Time) (runs : List WarpRun) (adjust : ℤ) → most ≤ 3 → Goes m cpu most done t runs adjust u → IsNear 47 adjust
near_enough m cpu most done t u runs adjust few h =
    let going = h.going in
    let far = far_most done (omega (arith, going, few)) in
    far_near 47 (far_after done) adjust (omega (arith, far)) h.far

pub may_run : (m : Plan) (cpu most done : ℕ) (t u : Time) (runs : List WarpRun) (adjust : ℤ) → most ≤ 3 → Goes m cpu most done t runs adjust u → IsNear 48 adjust
may_run m cpu most done t u runs adjust few h =
    let going = h.going in
    let far = far_most done (omega (arith, going, few)) in
    far_near 48 (far_after done) adjust (omega (arith, far)) h.far

-- the tickets of one more run are left
pub run_tickets : (m : Plan) (cpu most done : ℕ) (t u : Time) (runs : List WarpRun) (adjust : ℤ) (part : BringUpPart) → most ≡ most_runs part
    → cpu_tickets m (Some part) ≤ t.left → Goes m cpu most done t runs adjust u → most_readings m ≤ u.left
run_tickets m cpu most done t u runs adjust part e enough h =
    let going = h.going in
    let few = h.few in
    let left = h.draws.left in
    let whole : most * most_readings m ≤ t.left = rw e enough in
    let up : done + 1 ≤ most = omega (arith, going) in
    let most_of = mul-le-mul_right (most_readings m) up in
    let product : (done + 1) * most_readings m ≡ done * most_readings m + most_readings m = grind arith in
    omega (arith, few, left, whole, most_of, product)

pub goes_drawn : (m : Plan) (cpu most done : ℕ) (t u : Time) (runs : List WarpRun) (adjust : ℤ) → Goes m cpu most done t runs adjust u → HasDrawn m t u
goes_drawn m cpu most done t u runs adjust h = record { runs = runs; made = runs_made m cpu (pos 0) runs h.made; draws = h.draws }

pub goes_few : (m : Plan) (cpu most done : ℕ) (t u : Time) (runs : List WarpRun) (adjust : ℤ) (part : BringUpPart) → most ≡ most_runs part
    → Goes m cpu most done t runs adjust u → t.left ≤ u.left + cpu_tickets m (Some part)
goes_few m cpu most done t u runs adjust part e h =
    let going = h.going in
    let few = h.few in
    let left = h.draws.left in
    let up : done ≤ most = omega (arith, going) in
    let most_of = mul-le-mul_right (most_readings m) up in
    let same : most * most_readings m ≡ cpu_tickets m (Some part) = ap (λ (n : ℕ). n * most_readings m) e in
    omega (arith, few, left, most_of, same)

-- one more run
pub run_small_by : (m : Plan) (cpu most done : ℕ) (t u v : Time) (runs : List WarpRun) (adjust : ℤ) (run : WarpRun) → IsWithinLimits m → cpu < cpu_count m
    → Goes m cpu most done t runs adjust u → IsPaired m cpu adjust u run v → IsSmall (far_after done + 19 * 2 ^ 41) run
run_small_by m cpu most done t u v runs adjust run l there h p =
    run_small (limits_in m cpu) (far_after done + 19 * 2 ^ 41) run p.run_is
    (readings_by m cpu adjust (far_after done) run.readings.items l there h.far.high p.tickets.within p.counters)

pub record Grows (m : Plan) (cpu done : ℕ) (before : Time) (runs : List WarpRun) (now : Time) : Type 0 where
  pub made : AreRunsOf m cpu runs
  pub draws : DrawsFor before (readings_in runs) now
  pub few : length (readings_in runs) ≤ done * most_readings m

told_push : (z : ℤ) (runs : List WarpRun) (run : WarpRun) → told_after adjusted z (runs ++ run ∷ []) ≡ told_after adjusted z runs +ℤ adjustment run
told_push z [] run = refl
told_push z (r ∷ runs) run = told_push (adjusted z r) runs run

pub grows : (m : Plan) (cpu most done : ℕ) (t u v : Time) (runs : List WarpRun) (adjust : ℤ) (run : WarpRun) → Goes m cpu most done t runs adjust u
    → IsPaired m cpu adjust u run v → Grows m cpu (done + 1) t (runs ++ run ∷ []) v
grows m cpu most done t u v runs adjust run h p =
    let is = run_of m cpu adjust u v run p in
    let more = few_readings m cpu run p.run_is in
    let before = h.few in
    let rs = readings_push runs run in
    let both = length-append (readings_in runs) run.readings.items in
    let product : (done + 1) * most_readings m ≡ done * most_readings m + most_readings m = grind arith in
    record {
      made = along_both (IsRunOfCpu m cpu) adjusted (pos 0) runs (run ∷ []) h.made (subst (λ (z : ℤ). IsRunOfCpu m cpu z run) h.adjust_is is, tt);
      draws =
          subst (λ (xs : List WarpReading). DrawsFor t xs v) (sym rs)
          (draws_both t u v (readings_in runs) run.readings.items h.draws p.tickets);
      few = rw rs (omega (arith, both, before, more, product));
    }

pub each_push : {A : Type 0} (P : ℕ → A → Type 0) (n : ℕ) (xs : List A) (x : A) → EachFrom P n xs → P (n + length xs) x → EachFrom P n (xs ++ x ∷ [])
each_push P n [] x each here = let e : n + 0 ≡ n = omega arith in (subst (λ (i : ℕ). P i x) e here, tt)
each_push P n (y ∷ xs) x each here =
    let e : n + length (y ∷ xs) ≡ n + 1 + length xs = omega arith in
    (each.0, each_push P (n + 1) xs x each.1 (subst (λ (i : ℕ). P i x) e here))

pub goes_more : (m : Plan) (cpu most done : ℕ) (t u v : Time) (runs : List WarpRun) (adjust more : ℤ) (run : WarpRun) → IsWithinLimits m → cpu < cpu_count m
    → Goes m cpu most done t runs adjust u → IsPaired m cpu adjust u run v → verdict_of run (most - done) ≡ verdict.Again more
    → Goes m cpu most (done + 1) t (runs ++ run ∷ []) (adjust +ℤ more) v
goes_more m cpu most done t u v runs adjust more run l there h p e =
    let calls = calls_again (most - done) more run e in
    let g = grows m cpu most done t u v runs adjust run h p in
    let far = adjustment_far (far_after done + 19 * 2 ^ 41) run (run_small_by m cpu most done t u v runs adjust run l there h p) in
    let going = h.going in
    let others = calls.others in
    let count = h.count in
    let pushed = length_push runs run in
    let on : done + 1 ≡ suc done = omega arith in
    let e_at : verdict_of run (most - (0 + length runs)) ≡ verdict.Again (adjustment run) =
    ap (λ (n : ℕ). verdict_of run (most - n)) (let z : 0 + length runs ≡ done = omega (arith, count) in z) ∙ e ∙ ap (λ (z : ℤ). verdict.Again z) calls.more_is in
    record {
      going = omega (arith, going, others);
      count = omega (arith, count, pushed);
      made = g.made;
      again = each_push (λ n r. verdict_of r (most - n) ≡ verdict.Again (adjustment r)) 0 runs run h.again e_at;
      adjust_is = ap (λ (z : ℤ). adjust +ℤ z) calls.more_is ∙ ap (λ (z : ℤ). z +ℤ adjustment run) h.adjust_is ∙ sym (told_push (pos 0) runs run);
      far = rw (calls.more_is, on) (farther (far_after done) adjust (adjustment run) h.far far);
      draws = g.draws;
      few = g.few;
    } where
      farther : (n : ℕ) (a b : ℤ) → IsFar n a → IsFar (n + 19 * 2 ^ 41) b → IsFar (2 * n + 19 * 2 ^ 41) (a +ℤ b)
      farther n a b x y =
          let xl = x.low in
          let xh = x.high in
          let yl = y.low in
          let yh = y.high in
          record { low = omega (arith, ints); high = omega (arith, ints) }

-- the last run
pub ends : (m : Plan) (cpu most done : ℕ) (t u v : Time) (before : List WarpRun) (runs : Listed WarpRun) (adjust : ℤ) (run : WarpRun) (outcome : UpOutcome)
    → Goes m cpu most done t before adjust u → IsPaired m cpu adjust u run v → runs.items ≡ before ++ run ∷ [] → Decides (verdict_of run (most - done)) outcome
    → IsTested m most (record { cpu = cpu; runs = runs; adjust = adjust; outcome = outcome })
ends m cpu most done t u v before runs adjust run outcome h p items decides =
    let g = grows m cpu most done t u v before adjust run h p in
    record {
      before = before;
      last = run;
      runs_are = items;
      runs = subst (AreRunsOf m cpu) (sym items) g.made;
      again = h.again;
      adjust = h.adjust_is;
      decides = subst (λ (n : ℕ). Decides (verdict_of run (most - n)) outcome) (sym h.count) decides;
    }

-- what the entry of the CPU says then
pub record Ends (m : Plan) (cpu : ℕ) (part : BringUpPart) (before : Time) (up : CpuUp) (now : Time) : Type 0 where
  pub brings : Brings m cpu (Some part) false before up now
  pub drawn : HasDrawn m before now
  pub few : before.left ≤ now.left + cpu_tickets m (Some part)

pub ended : (m : Plan) (cpu most done : ℕ) (t u v : Time) (before : List WarpRun) (runs : Listed WarpRun) (adjust : ℤ) (run : WarpRun) (outcome : UpOutcome) (part : BringUpPart) (up : CpuUp) (said is : Verdict)
    → most ≡ most_runs part → most ≤ 3 → Goes m cpu most done t before adjust u → IsPaired m cpu adjust u run v → runs.items ≡ before ++ run ∷ []
    → said ≡ verdict_of run (most - done) → said ≡ is → Decides is outcome → up ≡ record { cpu = cpu; runs = runs; adjust = adjust; outcome = outcome } → Ends m cpu part t up v
ended m cpu most done t u v before runs adjust run outcome part up said is e three h p items by says decides up_is =
    let g = grows m cpu most done t u v before adjust run h p in
    let tested = ends m cpu most done t u v before runs adjust run outcome h p items (subst (λ (w : Verdict). Decides w outcome) (sym says ∙ by) decides) in
    let going = h.going in
    let few = g.few in
    let left = g.draws.left in
    let high : done + 1 ≤ most = omega (arith, going) in
    let most_of = mul-le-mul_right (most_readings m) high in
    let same : most * most_readings m ≡ cpu_tickets m (Some part) = ap (λ (n : ℕ). n * most_readings m) e in
    let one : Brings m cpu (Some part) false t (record { cpu = cpu; runs = runs; adjust = adjust; outcome = outcome }) v = record {
      cpu_is = refl;
      up_is = subst (λ (n : ℕ). IsTested m n (record { cpu = cpu; runs = runs; adjust = adjust; outcome = outcome })) e tested;
      near = near_enough m cpu most done t u before adjust three h;
      draws = subst (λ (rs : List WarpRun). DrawsFor t (readings_in rs) v) (sym items) g.draws;
    } in
    record {
      brings = subst (λ (x : CpuUp). Brings m cpu (Some part) false t x v) (sym up_is) one;
      drawn = record { runs = before ++ run ∷ []; made = runs_made m cpu (pos 0) (before ++ run ∷ []) g.made; draws = g.draws };
      few = omega (arith, few, left, most_of, same);
    }

-- ---- as the code has it

near_fits : (z : ℤ) → IsNear 62 z → FitsSigned w64 z
near_fits z near = search rules

-- a run's numbers and what it calls for are far from the ends of their types
pub run_fits : (m : Plan) (cpu most done : ℕ) (t u v : Time) (runs : List WarpRun) (adjust : ℤ) (run : WarpRun) → most ≤ 3 → IsWithinLimits m → cpu < cpu_count m
    → Goes m cpu most done t runs adjust u → IsPaired m cpu adjust u run v → IsSmall (76 * 2 ^ 41) run
run_fits m cpu most done t u v runs adjust run three l there h p =
    let small = run_small_by m cpu most done t u v runs adjust run l there h p in
    let going = h.going in
    let far = far_most done (omega (arith, going, three)) in
    let max = small.max in
    let target = small.target in
    record { max = omega (arith, far, max); target = omega (arith, far, target) }

pub more_fits : (m : Plan) (cpu most done : ℕ) (t u v : Time) (runs : List WarpRun) (adjust more : ℤ) (run : WarpRun) → most ≤ 3 → IsWithinLimits m → cpu < cpu_count m
    → Goes m cpu most done t runs adjust u → IsPaired m cpu adjust u run v → verdict_of run (most - done) ≡ verdict.Again more → FitsSigned w64 more × FitsSigned w64 (adjust +ℤ more)
more_fits m cpu most done t u v runs adjust more run three l there h p e =
    let far = adjustment_far (76 * 2 ^ 41) run (run_fits m cpu most done t u v runs adjust run three l there h p) in
    let is = (calls_again (most - done) more run e).more_is in
    let near = near_enough m cpu most done t u runs adjust three h in
    let low = far.low in
    let high = far.high in
    rw is (near_fits (adjustment run) (omega (arith, ints, low), omega (arith, ints, high)), near_fits (adjust +ℤ adjustment run) (sum_near adjust (adjustment run) near far)) where
      sum_near : (a b : ℤ) → IsNear 47 a → IsFar (76 * 2 ^ 41) b → IsNear 62 (a +ℤ b)
      sum_near a b x y = let yl = y.low in let yh = y.high in (omega (arith, ints, x.0, yl), omega (arith, ints, x.1, yh))

pub sum_is : (adjust more : ℤ) → FitsSigned w64 more × FitsSigned w64 (adjust +ℤ more) → to_z w64 (of_z w64 (adjust +ℤ to_z w64 (of_z w64 more))) ≡ adjust +ℤ more
sum_is adjust more fits = ap (λ (z : ℤ). to_z w64 (of_z w64 (adjust +ℤ z))) (to_z-of_z fits.0) ∙ to_z-of_z fits.1

pub sum_fits : (adjust more : ℤ) → FitsSigned w64 more × FitsSigned w64 (adjust +ℤ more) → FitsSigned w64 (adjust +ℤ to_z w64 (of_z w64 more))
sum_fits adjust more fits = subst (λ (z : ℤ). FitsSigned w64 (adjust +ℤ z)) (sym (to_z-of_z fits.0)) fits.1
