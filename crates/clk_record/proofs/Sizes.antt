-- No fall of a run is greater than its counters.
use Rattle.std.proofs.Common.{ℕ, ◌-◌, ◌≤◌, Bool, true, false, cond, List, [], ◌∷◌, ◌++◌, fold, max, arith}
use Rattle.std.specs.List.{All}
use Rattle.std.proofs.lemmas.List.Elements.{All-nil, All-cons, All-head, All-tail, All-push, All-append}
use Rattle.clk_record.specs.declared.warp.Side.TheVariants.{Target}
use Rattle.clk_record.specs.declared.warp.WarpReading.{WarpReading}
use Rattle.clk_record.specs.declared.warp.WarpRun.{WarpRun}
use Rattle.clk_record.specs.Falls.{Limits, Fall, each_after, turn_before, is_fall, falls, greatest}
use Rattle.clk_record.specs.Warps.{IsWarpRun}
use Rattle.clk_record.proofs.Falls.{before_below, seen_is_at_most_greatest}

one_small : (b : Bool) (f : Fall) (n : ℕ) → f.size ≤ n → All (λ (g : Fall). g.size ≤ n) (cond b (f ∷ []) [])
one_small true f n low = All-cons (λ (g : Fall). g.size ≤ n) f [] low (All-nil (λ (g : Fall). g.size ≤ n))
one_small false f n low = All-nil (λ (g : Fall). g.size ≤ n)

small_after : (l : Limits) (n : ℕ) (front rs : List WarpReading) → All (λ s. s.tsc ≤ n) front → All (λ s. s.tsc ≤ n) rs
    → All (λ (f : Fall). f.size ≤ n)
    (each_after {A = Fall} (λ front r. cond (is_fall l front r) ((record { side = r.side; size = turn_before front - r.tsc }) ∷ []) []) front rs)
small_after l n front [] before all = All-nil (λ (f : Fall). f.size ≤ n)
small_after l n front (r ∷ rs) before all =
    let low = before_below n front before in
    let f : Fall = record { side = r.side; size = turn_before front - r.tsc } in
    All-append (λ (g : Fall). g.size ≤ n) (cond (is_fall l front r) (f ∷ []) [])
    (each_after {A = Fall} (λ front r. cond (is_fall l front r) ((record { side = r.side; size = turn_before front - r.tsc }) ∷ []) []) (front ++ r ∷ []) rs)
    (one_small (is_fall l front r) f n (omega (arith, low)))
    (small_after l n (front ++ r ∷ []) rs (All-push (λ s. s.tsc ≤ n) front r before (All-head (λ s. s.tsc ≤ n) r rs all)) (All-tail (λ s. s.tsc ≤ n) r rs all))

greatest_small : (n at : ℕ) (fs : List Fall) → at ≤ n → All (λ f. f.size ≤ n) fs → fold (λ (most : ℕ) (f : Fall). max most f.size) at fs ≤ n
greatest_small n at [] low all = low
greatest_small n at (f ∷ fs) low all =
    let here = All-head (λ (g : Fall). g.size ≤ n) f fs all in
    greatest_small n (max at f.size) fs (omega (arith, low, here)) (All-tail (λ (g : Fall). g.size ≤ n) f fs all)

-- what a run counts as its greatest fall, and what its target saw
pub record IsSmall (n : ℕ) (run : WarpRun) : Type 0 where
  pub max : run.max ≤ n
  pub target : run.cur_target ≤ n

pub run_small : (l : Limits) (n : ℕ) (run : WarpRun) → IsWarpRun l run → All (λ r. r.tsc ≤ n) run.readings.items → IsSmall n run
run_small l n run h all =
    let rs = run.readings.items in
    let most : greatest (falls l rs) ≤ n = greatest_small n 0 (falls l rs) (omega arith) (small_after l n [] rs (All-nil (λ s. s.tsc ≤ n)) all) in
    let max_is = h.max in
    let target_is = h.cur_target in
    let seen = seen_is_at_most_greatest Target (falls l rs) in
    record { max = omega (arith, max_is, most); target = omega (arith, target_is, seen, most) }
