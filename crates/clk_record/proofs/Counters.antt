-- How far the counters of a run go, by its adjustment.
use Rattle.std.proofs.Common.{◌≡◌, ℕ, ◌+◌, ◌*◌, ◌^◌, ◌<◌, ◌≤◌, ℤ, pos, negsuc, ◌+ℤ◌, ◌≤ℤ◌, List, get_or, arith}
use Rattle.std.specs.List.{All}
use Rattle.std.proofs.lemmas.Int.{ints}
use Rattle.std.proofs.Math.Nat.{mod-le}
use Rattle.clk_machine.specs.Plan.{Plan, CpuPlan, count_of, cpu_count}
use Rattle.clk_machine.specs.Limits.{most_tickets, IsRateInKhz, AreJumps, IsWithinLimits}
use Rattle.clk_machine.specs.Time.{time_at, count_at, cpu_at, counter_at}
use Rattle.clk_machine.proofs.Halving.{jumped_near}
use Rattle.clk_machine.proofs.Bounds.{time_below, cycles_few, cpu_in_range, count_of_cpu}
use Rattle.clk_record.specs.declared.warp.Side.{Side}
use Rattle.clk_record.specs.declared.warp.Side.TheVariants.{Source, Target}
use Rattle.clk_record.specs.declared.warp.WarpReading.{WarpReading}
use Rattle.clk_record.specs.WarpLimits.{cpu_of, side_adjust}

-- a counter goes at most 11 * 2^41 cycles from where it began
count_high : (start : ℤ) (c : CpuPlan) (time : ℕ) → IsRateInKhz c.khz → AreJumps c.jumps → time < 3 * 2 ^ 39
    → count_at start c.khz c.jumps time ≤ℤ (start +ℤ pos (11 * 2 ^ 41))
count_high start c time khz jumps few =
    let (low, high) = jumped_near time c.jumps jumps in
    let cycles = cycles_few c.khz time khz in
    omega (arith, ints)

count_at_most : (z : ℤ) (n : ℕ) → z ≤ℤ pos n → count_of z ≤ n
count_at_most (pos z) n h = omega (arith, ints)
count_at_most (negsuc z) n h = omega (arith, ints)

-- by an adjustment of at most n cycles
pub counter_by : (m : Plan) (cpu : ℕ) (adjust : ℤ) (n k : ℕ) → IsWithinLimits m → cpu < cpu_count m → adjust ≤ℤ pos n → k < most_tickets
    → counter_at m cpu adjust k ≤ n + 19 * 2 ^ 41
counter_by m cpu adjust n k l h upper small =
    let c = cpu_in_range m cpu l.ranges h in
    let (low, high) = c.offset in
    let far = count_high ((cpu_at m cpu).offset +ℤ adjust) (cpu_at m cpu) (time_at m k) c.khz c.jumps (time_below m k l.ranges small) in
    let most = count_at_most (count_of_cpu m cpu adjust k) (n + 19 * 2 ^ 41) (omega (arith, ints, far, upper, high)) in
    let shows = mod-le (count_of (count_of_cpu m cpu adjust k)) (2 ^ count_of m.bits) in
    omega (arith, most, shows)

side_by : (m : Plan) (cpu : ℕ) (adjust : ℤ) (n k : ℕ) (side : Side) → IsWithinLimits m → cpu < cpu_count m → adjust ≤ℤ pos n → k < most_tickets
    → counter_at m (cpu_of side cpu) (side_adjust side adjust) k ≤ n + 19 * 2 ^ 41
side_by m cpu adjust n k Source l h upper small = counter_by m 0 (pos 0) n k l (omega (arith, h)) (omega (arith, ints)) small
side_by m cpu adjust n k Target l h upper small = counter_by m cpu adjust n k l h upper small

pub readings_by : (m : Plan) (cpu : ℕ) (adjust : ℤ) (n : ℕ) (rs : List WarpReading) → IsWithinLimits m → cpu < cpu_count m → adjust ≤ℤ pos n
    → All (λ r. r.ticket < most_tickets) rs → All (λ r. r.tsc ≡ counter_at m (cpu_of r.side cpu) (side_adjust r.side adjust) r.ticket) rs
    → All (λ r. r.tsc ≤ n + 19 * 2 ^ 41) rs
readings_by m cpu adjust n rs l h upper within shows = λ i d low.
    let most = side_by m cpu adjust n (get_or rs i d).ticket (get_or rs i d).side l h upper (within i d low) in
    rw (shows i d low) most
