-- How far time, counters and readings go, by the limits.
use Rattle.std.proofs.Common.{ℕ, ◌+◌, ◌*◌, ◌^◌, ◌<◌, ◌≤◌, ℤ, pos, negsuc, ◌+ℤ◌, ◌≤ℤ◌, inl, inr, arith}
use Rattle.std.specs.Int.{abs_diff}
use Rattle.std.proofs.lemmas.Int.{ints}
use Rattle.std.proofs.Math.Nat.{div-mul-le_self, mod-le, mul-le-mul_left, mul-le-mul_right, le_of_mul-le-mul_right}
use Rattle.clk_num.specs.Range.{IsNear}
use Rattle.clk_num.specs.Conversion.{convert}
use Rattle.clk_num.specs.Masked.{masked_delta}
use Rattle.clk_num.specs.Rates.{max_seconds}
use Rattle.clk_num.proofs.TrueTime.{convert_bounded}
use Rattle.clk_num.proofs.Rating.{few_cycles}
use Rattle.clk_num.proofs.Turning.{never_longer}
use Rattle.clk_machine.specs.Plan.{Plan, CpuPlan, count_of, cpu_count}
use Rattle.clk_machine.specs.Limits.{most_tickets, IsRateInKhz, IsWidth, IsCpu, AreJumps, AreInRange, IsWithinLimits}
use Rattle.clk_machine.specs.Time.{time_at, cycles_in, count_at, shown, cpu_at, counter_at, reference_at, sched_rate, reference_rate}
use Rattle.clk_machine.proofs.Halving.{delayed_few, jumped_near}

-- ---- time

pub time_below : (m : Plan) (k : ℕ) → AreInRange m → k < most_tickets → time_at m k < 3 * 2 ^ 39
time_below m k r h =
    let step = r.step.2 in
    let delays = r.delay.sum in
    let few = delayed_few k m.delay in
    let most = mul-le-mul_left k step in
    omega arith

pub cycles_few : (khz : ℤ) (time : ℕ) → IsRateInKhz khz → cycles_in khz time ≤ 4 * time
cycles_few khz time r = let most = mul-le-mul_left time r.2 in omega arith

-- ---- conversions

-- at least 1 MHz: a cycle takes at most 1,000 ns
hertz_low : (khz : ℤ) → IsRateInKhz khz → 1000000000 ≤ 1000 * (count_of khz * 1000)
hertz_low khz r = let low = r.1 in omega arith

hertz_high : (khz : ℤ) → IsRateInKhz khz → count_of khz * 1000 < 2 ^ 32
hertz_high khz r = let high = r.2 in omega arith

-- the ns of a bounded conversion, where a cycle takes at most 1,000 ns
at_most_thousand : (ns cyc from : ℕ) → 0 < from → 1000000000 ≤ 1000 * from → 4 * (ns * from) ≤ 4 * (cyc * 1000000000) + cyc * from → ns ≤ 1001 * cyc
at_most_thousand ns cyc from some low h =
    let most = mul-le-mul_left cyc low in
    le_of_mul-le-mul_right {k = from} (omega arith) some

pub convert_small : (m : Plan) (cyc : ℕ) → AreInRange m → convert cyc (sched_rate m) ≤ 1001 * cyc
convert_small m cyc r =
    let from : ℕ = count_of m.nominal_khz * 1000 in
    let low = hertz_low m.nominal_khz r.nominal in
    let high = hertz_high m.nominal_khz r.nominal in
    at_most_thousand (convert cyc (sched_rate m)) cyc (count_of m.nominal_khz * 1000) (omega arith) low
    (convert_bounded (count_of m.nominal_khz * 1000) 1000000000 3600 cyc (omega arith) low (omega arith))

-- the ns of the cycles of a rate in so much time are at most twice the time
twice_the_time : (ns cyc time khz : ℕ) → 0 < khz → cyc * 10 ^ 6 ≤ time * khz → cyc ≤ 4 * time
    → 4 * (ns * (khz * 1000)) ≤ 4 * (cyc * 1000000000) + cyc * (khz * 1000) → ns ≤ 2 * time
twice_the_time ns cyc time khz some whole few h =
    let most = mul-le-mul_right khz few in
    le_of_mul-le-mul_right {k = khz} (omega arith) some

pub gtod_small : (m : Plan) (k : ℕ) → AreInRange m → k < most_tickets → convert (reference_at m k) (reference_rate m) ≤ 2 ^ 42
gtod_small m k r h =
    let khz = r.reference.khz in
    let one = khz.1 in
    let low = hertz_low m.reference.khz khz in
    let high = hertz_high m.reference.khz khz in
    let time = time_below m k r h in
    let few = cycles_few m.reference.khz (time_at m k) khz in
    let true_cycles : reference_at m k * 10 ^ 6 ≤ time_at m k * count_of m.reference.khz = div-mul-le_self (time_at m k * count_of m.reference.khz) (10 ^ 6) in
    let seconds = few_cycles (count_of m.reference.khz * 1000) (count_of m.reference.bits) high in
    let bounded = convert_bounded (count_of m.reference.khz * 1000) 1000000000 (max_seconds (count_of m.reference.khz * 1000) (count_of m.reference.bits)) (reference_at m k) (omega arith) low (omega arith) in
    let twice = twice_the_time (convert (reference_at m k) (reference_rate m)) (reference_at m k) (time_at m k) (count_of m.reference.khz) (omega arith) true_cycles few bounded in
    omega arith

-- ---- counters

-- a width is 1 to 64 bits
pub width_few : (bits : ℤ) → IsWidth bits → (1 ≤ count_of bits) × (count_of bits ≤ 64)
width_few bits (inl e) = rw e (omega arith, omega arith)
width_few bits (inr (inl e)) = rw e (omega arith, omega arith)
width_few bits (inr (inr e)) = rw e (omega arith, omega arith)

pub cpu_in_range : (m : Plan) (cpu : ℕ) → AreInRange m → cpu < cpu_count m → IsCpu (cpu_count m) (cpu_at m cpu)
cpu_in_range m cpu r h = r.cpu cpu _ h

-- how far the counter of a CPU went from where it began is at most 11 * 2^41 cycles
count_high : (start : ℤ) (c : CpuPlan) (time : ℕ) → IsRateInKhz c.khz → AreJumps c.jumps → time < 3 * 2 ^ 39
    → count_at start c.khz c.jumps time ≤ℤ (start +ℤ pos (11 * 2 ^ 41))
count_high start c time khz jumps few =
    let (low, high) = jumped_near time c.jumps jumps in
    let cycles = cycles_few c.khz time khz in
    omega (arith, ints)

count_at_most : (z : ℤ) (n : ℕ) → z ≤ℤ pos n → count_of z ≤ n
count_at_most (pos z) n h = omega (arith, ints)
count_at_most (negsuc z) n h = omega (arith, ints)

abbrev pub count_of_cpu : Plan → ℕ → ℤ → ℕ → ℤ
count_of_cpu m cpu adjust k = let c = cpu_at m cpu in count_at (c.offset +ℤ adjust) c.khz c.jumps (time_at m k)

-- by an adjustment of at most n cycles, how far the count of a CPU is
count_adjusted : (m : Plan) (cpu : ℕ) (adjust : ℤ) (n k : ℕ) → IsWithinLimits m → cpu < cpu_count m → adjust ≤ℤ pos n → k < most_tickets
    → count_of (count_of_cpu m cpu adjust k) ≤ n + 19 * 2 ^ 41
count_adjusted m cpu adjust n k l h upper small =
    let c = cpu_in_range m cpu l.ranges h in
    let (low, high) = c.offset in
    let far = count_high ((cpu_at m cpu).offset +ℤ adjust) (cpu_at m cpu) (time_at m k) c.khz c.jumps (time_below m k l.ranges small) in
    count_at_most (count_of_cpu m cpu adjust k) (n + 19 * 2 ^ 41) (omega (arith, ints, far, upper, high))

pub count_small : (m : Plan) (cpu : ℕ) (adjust : ℤ) (k : ℕ) → IsWithinLimits m → cpu < cpu_count m → IsNear 47 adjust → k < most_tickets
    → count_of (count_of_cpu m cpu adjust k) ≤ 83 * 2 ^ 41
count_small m cpu adjust k l h near small = let most = count_adjusted m cpu adjust (2 ^ 47) k l h near.1 small in omega (arith, most)

-- no counter shows more than was counted
counter_adjusted : (m : Plan) (cpu : ℕ) (adjust : ℤ) (n k : ℕ) → IsWithinLimits m → cpu < cpu_count m → adjust ≤ℤ pos n → k < most_tickets
    → counter_at m cpu adjust k ≤ n + 19 * 2 ^ 41
counter_adjusted m cpu adjust n k l h upper small =
    let most = count_adjusted m cpu adjust n k l h upper small in
    let shows = mod-le (count_of (count_of_cpu m cpu adjust k)) (2 ^ count_of m.bits) in
    omega (arith, most, shows)

pub counter_small : (m : Plan) (cpu : ℕ) (adjust : ℤ) (k : ℕ) → IsWithinLimits m → cpu < cpu_count m → IsNear 47 adjust → k < most_tickets
    → counter_at m cpu adjust k ≤ 83 * 2 ^ 41
counter_small m cpu adjust k l h near small = let most = counter_adjusted m cpu adjust (2 ^ 47) k l h near.1 small in omega (arith, most)

pub counter_small_twice : (m : Plan) (cpu : ℕ) (adjust : ℤ) (k : ℕ) → IsWithinLimits m → cpu < cpu_count m → IsNear 48 adjust → k < most_tickets
    → counter_at m cpu adjust k ≤ 147 * 2 ^ 41
counter_small_twice m cpu adjust k l h near small = let most = counter_adjusted m cpu adjust (2 ^ 48) k l h near.1 small in omega (arith, most)

-- what the width leaves of the difference of two small counts
pub masked_small : (m : Plan) (a b : ℤ) (n : ℕ) → AreInRange m → count_of a ≤ n → count_of b ≤ n
    → masked_delta (shown m.bits a) (shown m.bits b) (count_of m.bits) ≤ n
masked_small m a b n r first second =
    let (low, high) = width_few m.bits r.bits in
    let most = never_longer (count_of m.bits) (count_of b) (count_of a) low high in
    omega (arith, most)

-- two counts as natural numbers are no further apart
counts_apart : (a b : ℤ) (n : ℕ) → a ≤ℤ (b +ℤ pos n) → b ≤ℤ (a +ℤ pos n) → abs_diff (count_of a) (count_of b) ≤ n
counts_apart (pos a) (pos b) n up down = omega (arith, ints)
counts_apart (pos a) (negsuc b) n up down = omega (arith, ints)
counts_apart (negsuc a) (pos b) n up down = omega (arith, ints)
counts_apart (negsuc a) (negsuc b) n up down = omega (arith, ints)

pub differ_less : (m : Plan) (a b : ℤ) (n : ℕ) → AreInRange m → a ≤ℤ (b +ℤ pos n) → b ≤ℤ (a +ℤ pos n)
    → masked_delta (shown m.bits a) (shown m.bits b) (count_of m.bits) ≤ n
differ_less m a b n r up down =
    let (low, high) = width_few m.bits r.bits in
    let apart = counts_apart a b n up down in
    let most = never_longer (count_of m.bits) (count_of b) (count_of a) low high in
    omega (arith, most, apart)
