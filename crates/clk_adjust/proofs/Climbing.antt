-- The CPUs so far, in order, and whether one of them failed.
use Rattle.std.proofs.Common.{◌≡◌, ℕ, ◌+◌, ◌-◌, ◌*◌, ◌<◌, ◌≤◌, Bool, true, false, ◌||◌, pos, if◌then◌else◌, List, [], ◌∷◌, ◌++◌, length, Option, Some, None, refl, sym, ap, ◌∙◌, subst, mul-le-mul_right, arith}
use Rattle.std.specs.List.{All, list_any}
use Rattle.std.proofs.lemmas.Int.{ints}
use Rattle.std.proofs.lemmas.List.{length_push}
use Rattle.std.proofs.lemmas.List.Elements.{All-nil, All-cons, All-head, All-tail, All-push}
use Rattle.clk_base.specs.Walk.{Along, told_after, EachFrom}
use Rattle.clk_base.proofs.Walks.{along_both}
use Rattle.clk_num.specs.Listed.{Listed}
use Rattle.clk_num.specs.Range.{IsNear}
use Rattle.clk_ticket.specs.Time.{Time}
use Rattle.clk_machine.specs.declared.parts.BringUpPart.{BringUpPart}
use Rattle.clk_machine.specs.Plan.{Plan, cpu_count}
use Rattle.clk_record.specs.declared.warp.WarpReading.{WarpReading}
use Rattle.clk_record.specs.declared.warp.WarpRun.{WarpRun}
use Rattle.clk_record.specs.declared.up.UpOutcome.{UpOutcome}
use Rattle.clk_record.specs.declared.up.UpOutcome.TheVariants.{Untested, Skipped}
use Rattle.clk_record.specs.declared.up.CpuUp.{CpuUp}
use Rattle.clk_record.specs.BroughtUp.{is_passed_over, test_of, IsUp, is_failure, failed_after, IsBroughtUp}
use Rattle.clk_record.specs.WarpReadings.{readings_in, all_readings}
use Rattle.clk_warp.specs.Pairs.{DrawsFor}
use Rattle.clk_adjust.specs.Tickets.{cpu_tickets, up_tickets, HasDrawn}
use Rattle.clk_adjust.specs.Outcomes.{Brings}
use Rattle.clk_adjust.proofs.Drawing.{draws_none, draws_both, all_push, drawn_none, drawn_both}
use Rattle.clk_adjust.proofs.Going.{each_push}

-- ---- one CPU

-- a CPU of which no run is made
brings_none : (m : Plan) (cpu : ℕ) (test : Option BringUpPart) (failed : Bool) (t : Time) (runs : Listed WarpRun) (outcome : UpOutcome) → runs.items ≡ []
    → IsUp m test failed (record { cpu = cpu; runs = runs; adjust = pos 0; outcome = outcome })
    → Brings m cpu test failed t (record { cpu = cpu; runs = runs; adjust = pos 0; outcome = outcome }) t
brings_none m cpu test failed t runs outcome none up_is = record {
  cpu_is = refl;
  up_is = up_is;
  near = (omega (arith, ints), omega (arith, ints));
  draws = subst (λ (rs : List WarpRun). DrawsFor t (readings_in rs) t) (sym none) (draws_none t);
}

-- by what was said of its test, and of a failure before it
pub brings_untested : (m : Plan) (cpu : ℕ) (test said : Option BringUpPart) (failed : Bool) (t : Time) (runs : Listed WarpRun) (up : CpuUp) → said ≡ test → said ≡ None
    → runs.items ≡ [] → up ≡ record { cpu = cpu; runs = runs; adjust = pos 0; outcome = Untested } → Brings m cpu test failed t up t
brings_untested m cpu test said failed t runs up by says none is =
    rw (is, sym by, says) (brings_none m cpu None failed t runs Untested none (record { runs = none; adjust = refl; outcome_is = refl }))

pub brings_skipped : (m : Plan) (cpu : ℕ) (test said : Option BringUpPart) (part : BringUpPart) (failed : Bool) (t : Time) (runs : Listed WarpRun) (up : CpuUp)
    → said ≡ test → said ≡ Some part → failed ≡ true → runs.items ≡ [] → up ≡ record { cpu = cpu; runs = runs; adjust = pos 0; outcome = Skipped }
    → Brings m cpu test failed t up t
brings_skipped m cpu test said part failed t runs up by says fails none is =
    rw (is, sym by, says, fails) (brings_none m cpu (Some part) true t runs Skipped none (record { runs = none; adjust = refl; outcome_is = refl }))

pub brings_tested : (m : Plan) (cpu : ℕ) (test said : Option BringUpPart) (part : BringUpPart) (failed : Bool) (t u : Time) (up : CpuUp)
    → said ≡ test → said ≡ Some part → failed ≡ false → Brings m cpu (Some part) false t up u → Brings m cpu test failed t up u
brings_tested m cpu test said part failed t u up by says holds b = rw (sym by, says, holds) b

-- a CPU that is to be tested is tested as the machine says
pub tests_by : (m : Plan) (but : Option ℕ) (cpu : ℕ) (part : BringUpPart) → test_of m but cpu ≡ Some part → m.bringup ≡ Some part
tests_by m but cpu part e = by_pass (is_passed_over but cpu) e where
  by_pass : (b : Bool) → (if b then None else m.bringup) ≡ Some part → m.bringup ≡ Some part
  by_pass true f = absurd (cc)
  by_pass false f = f

-- ---- the rooms for the runs

-- what holds of each item holds of the last one and of the others
pub popped : {A : Type 0} (P : A → Type 0) (xs : List A) (x : A) → All P (xs ++ x ∷ []) → All P xs × P x
popped P [] x all = (All-nil P, All-head P x [] all)
popped P (y ∷ xs) x all =
    let rest = popped P xs x (All-tail P y (xs ++ x ∷ []) all) in
    (All-cons P y xs (All-head P y (xs ++ x ∷ []) all) rest.0, rest.1)

-- ---- the CPUs so far

pub record Climbs (m : Plan) (but : Option ℕ) (before : Time) (ups : List CpuUp) (failed : Bool) (now : Time) : Type 0 where
  pub numbers : EachFrom (λ n up. up.cpu ≡ n) 1 ups
  pub cpus : Along (λ failed up. IsUp m (test_of m but up.cpu) failed up) failed_after false ups
  pub failed_is : failed ≡ told_after failed_after false ups
  pub near : All (λ up. IsNear 47 up.adjust) ups
  pub draws : DrawsFor before (all_readings ups) now
  pub drawn : HasDrawn m before now
  pub few : before.left ≤ now.left + length ups * cpu_tickets m m.bringup

pub climbs_first : (m : Plan) (but : Option ℕ) (t : Time) → Climbs m but t [] false t
climbs_first m but t = record {
  numbers = tt;
  cpus = tt;
  failed_is = refl;
  near = All-nil (λ up. IsNear 47 up.adjust);
  draws = draws_none t;
  drawn = drawn_none m t;
  few = omega arith;
}

failed_push : (b : Bool) (ups : List CpuUp) (up : CpuUp) → told_after failed_after b (ups ++ up ∷ []) ≡ failed_after (told_after failed_after b ups) up
failed_push b [] up = refl
failed_push b (u ∷ ups) up = failed_push (failed_after b u) ups up

-- one more CPU
pub climbs_more : (m : Plan) (but : Option ℕ) (t u v : Time) (cpu : ℕ) (ups : List CpuUp) (failed : Bool) (up : CpuUp) → cpu ≡ length ups + 1
    → Climbs m but t ups failed u → Brings m cpu (test_of m but cpu) failed u up v → HasDrawn m u v → u.left ≤ v.left + cpu_tickets m m.bringup
    → Climbs m but t (ups ++ up ∷ []) (failed_after failed up) v
climbs_more m but t u v cpu ups failed up at h b drawn few =
    let Test = λ (f : Bool) (x : CpuUp). IsUp m (test_of m but x.cpu) f x in
    let number : up.cpu ≡ 1 + length ups = b.cpu_is ∙ at ∙ (omega arith) in
    let here : Test (told_after failed_after false ups) up =
    subst (λ (f : Bool). IsUp m (test_of m but up.cpu) f up) h.failed_is
    (subst (λ (n : ℕ). IsUp m (test_of m but n) failed up) (sym b.cpu_is) b.up_is) in
    let pushed = length_push ups up in
    let before = h.few in
    let product : (length ups + 1) * cpu_tickets m m.bringup ≡ length ups * cpu_tickets m m.bringup + cpu_tickets m m.bringup = grind arith in
    record {
      numbers = each_push (λ n x. x.cpu ≡ n) 1 ups up h.numbers number;
      cpus = along_both Test failed_after false ups (up ∷ []) h.cpus (here, tt);
      failed_is = ap (λ (f : Bool). failed_after f up) h.failed_is ∙ sym (failed_push false ups up);
      near = All-push (λ x. IsNear 47 x.adjust) ups up h.near b.near;
      draws =
          subst (λ (rs : List WarpReading). DrawsFor t rs v) (sym (all_push ups up))
          (draws_both t u v (all_readings ups) (readings_in up.runs.items) h.draws b.draws);
      drawn = drawn_both m t u v h.drawn drawn;
      few = rw pushed (omega (arith, before, few, product));
    }

-- the next CPU's tickets are left
pub tickets_left : (m : Plan) (but : Option ℕ) (t u : Time) (ups : List CpuUp) (failed : Bool) → length ups + 1 < cpu_count m → up_tickets m ≤ t.left
    → Climbs m but t ups failed u → cpu_tickets m m.bringup ≤ u.left
tickets_left m but t u ups failed more enough h =
    let few = h.few in
    let wide : length ups + 1 ≤ cpu_count m - 1 = omega (arith, more) in
    let most = mul-le-mul_right (cpu_tickets m m.bringup) wide in
    let product : (length ups + 1) * cpu_tickets m m.bringup ≡ length ups * cpu_tickets m m.bringup + cpu_tickets m m.bringup = grind arith in
    omega (arith, enough, few, most, product)

-- nor where the memory for a run is wanting
pub few_then : (m : Plan) (but : Option ℕ) (t u v : Time) (ups : List CpuUp) (failed : Bool) → length ups + 1 < cpu_count m → Climbs m but t ups failed u
    → u.left ≤ v.left + cpu_tickets m m.bringup → t.left ≤ v.left + up_tickets m
few_then m but t u v ups failed more h next =
    let few = h.few in
    let wide : length ups + 1 ≤ cpu_count m - 1 = omega (arith, more) in
    let most = mul-le-mul_right (cpu_tickets m m.bringup) wide in
    let product : (length ups + 1) * cpu_tickets m m.bringup ≡ length ups * cpu_tickets m m.bringup + cpu_tickets m m.bringup = grind arith in
    omega (arith, few, next, most, product)

-- no more tickets are drawn than those of all CPUs
pub all_few : (m : Plan) (but : Option ℕ) (t u : Time) (ups : List CpuUp) (failed : Bool) → length ups + 1 ≤ cpu_count m → Climbs m but t ups failed u
    → t.left ≤ u.left + up_tickets m
all_few m but t u ups failed low h =
    let few = h.few in
    let wide : length ups ≤ cpu_count m - 1 = omega (arith, low) in
    let most = mul-le-mul_right (cpu_tickets m m.bringup) wide in
    omega (arith, few, most)

-- ---- all CPUs

told_any : (b : Bool) (ups : List CpuUp) → told_after failed_after b ups ≡ (b || list_any (λ up. is_failure up.outcome) ups)
told_any b [] = sym (or_false b) where
  or_false : (b : Bool) → (b || false) ≡ b
  or_false true = refl
  or_false false = refl
told_any b (up ∷ ups) = told_any (failed_after b up) ups ∙ or_assoc b (is_failure up.outcome) (list_any (λ up. is_failure up.outcome) ups) where
  or_assoc : (a b c : Bool) → ((a || b) || c) ≡ (a || (b || c))
  or_assoc true b c = refl
  or_assoc false b c = refl

pub brought_up : (m : Plan) (but : Option ℕ) (t u : Time) (ups : Listed CpuUp) (failed : Bool) → length ups.items + 1 ≡ cpu_count m
    → Climbs m but t ups.items failed u → IsBroughtUp m but (record { cpus = ups; failed = failed })
brought_up m but t u ups failed count h = record {
  count = count;
  numbers = h.numbers;
  cpus = h.cpus;
  failed = h.failed_is ∙ told_any false ups.items;
}
