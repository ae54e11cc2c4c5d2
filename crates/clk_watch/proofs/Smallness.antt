-- How great masked differences, conversions and counters of sources are.
use Rattle.std.proofs.Common.{◌≡◌, ℕ, ◌+◌, ◌-◌, ◌*◌, ◌/◌, ◌^◌, ◌<◌, ◌≤◌, ℤ, pos, negsuc, ◌≤ℤ◌, length, ⊎_elim, sym, ap, ◌∙◌, arith}
use Rattle.std.specs.Prelude.{nat_lt, if◌then◌else◌}
use Rattle.std.proofs.Math.Nat.{mul-le-mul_left, mul-le-mul_right, le_of_mul-le-mul_right, mod-lt, mod-le}
use Rattle.std.proofs.lemmas.Nat.{div-add-mod', pow-add, pow_pos}
use Rattle.std.proofs.lemmas.Bool.{cases_lt}
use Rattle.std.proofs.lemmas.Bool.Decides.{nat_tests}
use Rattle.std.proofs.lemmas.Int.{ints}
use Rattle.clk_num.specs.declared.rate.Rate.{Rate}
use Rattle.clk_num.specs.Conversion.{convert}
use Rattle.clk_num.specs.Masked.{mask_of, turned, masked_delta}
use Rattle.clk_num.specs.Rates.{max_seconds, source_rate}
use Rattle.clk_num.proofs.TrueTime.{convert_bounded}
use Rattle.clk_num.proofs.Rating.{few_cycles}
use Rattle.clk_machine.specs.Plan.{Plan, count_of}
use Rattle.clk_machine.specs.Limits.{most_tickets, IsRateInKhz, IsWithinLimits}
use Rattle.clk_machine.specs.Time.{time_at, count_at, source_plan_at, source_at, rate_of, reference_rate}
use Rattle.clk_machine.proofs.Bounds.{time_below, cycles_few}
use Rattle.clk_machine.proofs.Halving.{jumped_near}
use Rattle.clk_watch.specs.Small.{IsSmall}

-- ---- masked differences

-- a remainder by m, where x lies d above or below a multiple of m
remainder_above : (x q r m t d : ℕ) → q * m + r ≡ x → r < m → x ≡ t * m + d → r ≤ d
remainder_above x q r m t d e small above =
    ⊎_elim
    (λ (less : q < t). let up : (q + 1) * m ≤ t * m = mul-le-mul_right m (omega arith) in absurd (omega (arith, e, small, above, up)))
    (λ (more : t ≤ q). let up : t * m ≤ q * m = mul-le-mul_right m more in omega (arith, e, above, up))
    (cases_lt q t)

remainder_below : (x q r m t d : ℕ) → q * m + r ≡ x → x + d ≡ t * m → 0 < d → m ≤ r + d
remainder_below x q r m t d e below some =
    ⊎_elim
    (λ (less : q < t). let up : (q + 1) * m ≤ t * m = mul-le-mul_right m (omega arith) in omega (arith, e, below, up))
    (λ (more : t ≤ q). let up : t * m ≤ q * m = mul-le-mul_right m more in absurd (omega (arith, e, below, up, some)))
    (cases_lt q t)

-- a difference counts where it is at most half the mask
chosen : (half r n : ℕ) → (r ≤ half → r ≤ n) → (if nat_lt half r then 0 else r) ≤ n
chosen half r n few =
    ⊎_elim
    (λ (far : half < r). grind (arith, nat_tests))
    (λ (near : r ≤ half). let most = few near in grind (arith, nat_tests))
    (cases_lt half r)

-- a turn of the counter goes a whole number of times into 2^64
turns : (bits : ℕ) → bits ≤ 64 → 2 ^ (64 - bits) * 2 ^ bits ≡ 2 ^ 64
turns bits width = sym (pow-add 2 (64 - bits) bits) ∙ (let e : 64 - bits + bits ≡ 64 = omega (arith, width) in ap (λ k. 2 ^ k) e)

-- a masked difference is at most the greater of the two
pub delta_few : (bits now last n : ℕ) → bits ≤ 64 → now ≤ n → last ≤ n → n < 2 ^ 64 → masked_delta now last bits ≤ n
delta_few bits now last n width a b fits =
    let whole = turns bits width in
    let some = pow_pos bits in
    let small : turned now last bits < 2 ^ bits = mod-lt (now + 2 ^ 64 - last) some in
    let parts : (now + 2 ^ 64 - last) / 2 ^ bits * 2 ^ bits + turned now last bits ≡ now + 2 ^ 64 - last = div-add-mod' (now + 2 ^ 64 - last) (2 ^ bits) in
    chosen (mask_of bits / 2) (turned now last bits) n (λ near.
    ⊎_elim
    (λ (back : now < last).
    let gone = remainder_below (now + 2 ^ 64 - last) ((now + 2 ^ 64 - last) / 2 ^ bits) (turned now last bits) (2 ^ bits) (2 ^ (64 - bits)) (last - now) parts (omega (arith, whole, back, fits, b)) (omega (arith, back)) in
    omega (arith, gone, near, b, some))
    (λ (on : last ≤ now).
    let gone = remainder_above (now + 2 ^ 64 - last) ((now + 2 ^ 64 - last) / 2 ^ bits) (turned now last bits) (2 ^ bits) (2 ^ (64 - bits)) (now - last) parts small (omega (arith, whole, on)) in
    omega (arith, gone, a))
    (cases_lt now last))

-- ---- conversions

-- at least 1 MHz: a cycle takes at most 1,000 ns
hertz_low : (khz : ℤ) → IsRateInKhz khz → 1000000000 ≤ 1000 * (count_of khz * 1000)
hertz_low khz r = let low = r.1 in omega arith

hertz_high : (khz : ℤ) → IsRateInKhz khz → count_of khz * 1000 < 2 ^ 32
hertz_high khz r = let high = r.2 in omega arith

-- the ns of a bounded conversion, where a cycle takes at most 1,000 ns
at_most_thousand : (ns cyc from : ℕ) → 0 < from → 1000000000 ≤ 1000 * from → 4 * (ns * from) ≤ 4 * (cyc * 1000000000) + cyc * from → ns ≤ 1024 * cyc
at_most_thousand ns cyc from some low h =
    let most = mul-le-mul_left cyc low in
    le_of_mul-le-mul_right {k = from} (omega arith) some

-- a cycle of a source is at most 1,024 ns
pub ns_few : (khz : ℤ) (bits cyc : ℕ) → IsRateInKhz khz → convert cyc (source_rate (count_of khz * 1000) bits) ≤ 1024 * cyc
ns_few khz bits cyc r =
    let one = r.1 in
    let low = hertz_low khz r in
    let high = hertz_high khz r in
    let seconds = few_cycles (count_of khz * 1000) bits high in
    at_most_thousand (convert cyc (source_rate (count_of khz * 1000) bits)) cyc (count_of khz * 1000) (omega arith) low
    (convert_bounded (count_of khz * 1000) 1000000000 (max_seconds (count_of khz * 1000) bits) cyc (omega arith) low (omega arith))

-- so the ns between two readings are few, as the code finds them
pub source_small : (m : Plan) (s now last bits cycles : ℕ) (rate : Rate) → IsWithinLimits m → s < length m.source → bits ≤ 64 → IsSmall now → IsSmall last
    → cycles ≡ masked_delta now last bits → rate ≡ rate_of m s → convert cycles rate < 2 ^ 60
source_small m s now last bits cycles rate l there width a b delta same =
    let source = l.ranges.source s (source_plan_at m s) there in
    let few = delta_few bits now last (147 * 2 ^ 41) width a b (omega arith) in
    let ns = ns_few (source_plan_at m s).nominal_khz (count_of (source_plan_at m s).bits) cycles (source_in m s l there) in
    let is : convert cycles rate ≡ convert cycles (rate_of m s) = ap (convert cycles) same in
    omega (arith, few, ns, is, delta)
  where
    source_in : (m : Plan) (s : ℕ) → IsWithinLimits m → s < length m.source → IsRateInKhz (source_plan_at m s).nominal_khz
    source_in m s l there = (l.ranges.source s _ there).nominal

pub watchdog_small : (m : Plan) (now last bits cycles : ℕ) (rate : Rate) → IsWithinLimits m → bits ≤ 64 → IsSmall now → IsSmall last
    → cycles ≡ masked_delta now last bits → rate ≡ reference_rate m → convert cycles rate < 2 ^ 60
watchdog_small m now last bits cycles rate l width a b delta same =
    let few = delta_few bits now last (147 * 2 ^ 41) width a b (omega arith) in
    let ns = ns_few m.reference.khz (count_of m.reference.bits) cycles l.ranges.reference.khz in
    let is : convert cycles rate ≡ convert cycles (reference_rate m) = ap (convert cycles) same in
    omega (arith, few, ns, is, delta)

-- ---- counters

count_at_most : (z : ℤ) (n : ℕ) → z ≤ℤ pos n → count_of z ≤ n
count_at_most (pos z) n h = omega (arith, ints)
count_at_most (negsuc z) n h = omega (arith, ints)

-- a source that is not the CPUs' own began at 0
pub other_small : (m : Plan) (s k : ℕ) → IsWithinLimits m → s < length m.source → k < most_tickets → source_at m s k ≤ 11 * 2 ^ 41
other_small m s k l there ticket =
    let source = l.ranges.source s _ there in
    let p = source_plan_at m s in
    let near = jumped_near (time_at m k) (source_plan_at m s).jumps source.jumps in
    let cycles = cycles_few (source_plan_at m s).khz (time_at m k) source.khz in
    let time = time_below m k l.ranges ticket in
    let high = near.1 in
    let counted = count_at_most (count_at (pos 0) (source_plan_at m s).khz (source_plan_at m s).jumps (time_at m k)) (11 * 2 ^ 41) (omega (arith, ints, high, cycles, time)) in
    let shows = mod-le (count_of (count_at (pos 0) (source_plan_at m s).khz (source_plan_at m s).jumps (time_at m k))) (2 ^ count_of (source_plan_at m s).bits) in
    omega (arith, counted, shows)
