-- How far a run adjusts the counter of its CPU, and when it calls for another run.
use Rattle.std.proofs.Common.{◌≡◌, ℕ, ◌+◌, ◌^◌, ◌≤◌, Bool, true, false, ◌||◌, ltb, nat_eq, ℤ, pos, ◌+ℤ◌, ◌-ℤ◌, ◌≤ℤ◌, neg_ℤ, if◌then◌else◌, refl, arith}
use Rattle.std.proofs.lemmas.Int.{ints}
use Rattle.clk_num.specs.Range.{IsNear}
use Rattle.clk_record.specs.declared.warp.WarpRun.{WarpRun}
use Rattle.clk_record.specs.declared.verdict.Verdict.TheVariants as verdict
use Rattle.clk_record.specs.Verdicts.{adjustment, verdict_of}
use Rattle.clk_record.proofs.Sizes.{IsSmall}

-- ---- how far

-- at most n cycles from 0, either way
pub record IsFar (n : ℕ) (z : ℤ) : Type 0 where
  pub low : (pos 0 -ℤ pos n) ≤ℤ z
  pub high : z ≤ℤ pos n

pub far_near : (bits n : ℕ) (z : ℤ) → n ≤ 2 ^ bits → IsFar n z → IsNear bits z
far_near bits n z few far = let low = far.low in let high = far.high in (omega (arith, ints), omega (arith, ints))

pub far_wider : (n k : ℕ) (z : ℤ) → n ≤ k → IsFar n z → IsFar k z
far_wider n k z wide far = let low = far.low in let high = far.high in record { low = omega (arith, ints); high = omega (arith, ints) }

pub far_sum : (n k : ℕ) (a b : ℤ) → IsFar n a → IsFar k b → IsFar (n + k) (a +ℤ b)
far_sum n k a b x y =
    let xl = x.low in
    let xh = x.high in
    let yl = y.low in
    let yh = y.high in
    record { low = omega (arith, ints); high = omega (arith, ints) }

pub adjustment_far : (n : ℕ) (run : WarpRun) → IsSmall n run → IsFar n (adjustment run)
adjustment_far n run small = by_seen (nat_eq run.cur_target 0) where
  by_seen : (b : Bool) → IsFar n (if b then neg_ℤ (pos run.max) else pos run.cur_target)
  by_seen true = let max = small.max in record { low = omega (arith, ints); high = omega (arith, ints) }
  by_seen false = let target = small.target in record { low = omega (arith, ints); high = omega (arith, ints) }

-- ---- when

-- the last run is not made again, and what is made again is made by the run's own adjustment
pub record CallsAgain (left : ℕ) (more : ℤ) (run : WarpRun) : Type 0 where
  pub more_is : more ≡ adjustment run
  pub others : left ≡ 1 → ⊥

pub calls_again : (left : ℕ) (more : ℤ) (run : WarpRun) → verdict_of run left ≡ verdict.Again more → CallsAgain left more run
calls_again left more run e = by_falls (nat_eq run.nr 0) e where
  by_last : (b c : Bool) → nat_eq left 1 ≡ b → (if b || c then verdict.Failed run.max run.random else verdict.Again (adjustment run)) ≡ verdict.Again more
      → CallsAgain left more run
  by_last true c last f = absurd (cc)
  by_last false true last f = absurd (cc)
  by_last false false last f =
      record { more_is = cc; others = λ z. absurd (let t : nat_eq left 1 ≡ true = rw z refl in cc) }

  by_falls : (b : Bool)
      → (if b then verdict.Passed else (if nat_eq left 1 || ltb 0 run.random then verdict.Failed run.max run.random else verdict.Again (adjustment run))) ≡ verdict.Again more
      → CallsAgain left more run
  by_falls true f = absurd (cc)
  by_falls false f = by_last (nat_eq left 1) (ltb 0 run.random) refl f
