-- How far a counter goes between two tickets, and how far readings go by it.
use Rattle.std.proofs.Common.{◌≡◌, ℕ, ◌+◌, ◌-◌, ◌*◌, ◌^◌, ◌<◌, ◌≤◌, Bool, true, false, cond, ℤ, pos, negsuc, nat_abs, ◌+ℤ◌, ◌≤ℤ◌, int_le, List, [], ◌∷◌, refl, arith}
use Rattle.std.proofs.lemmas.Int.{ints}
use Rattle.std.proofs.lemmas.Bool.Decides.{nat_tests}
use Rattle.std.proofs.lemmas.List.Sums.{sum_by-cons}
use Rattle.std.proofs.Math.Nat.{mul-le-mul_right}
use Rattle.clk_num.specs.Masked.{masked_delta}
use Rattle.clk_machine.specs.Plan.{Plan, JumpPlan, DelayPlan, count_of, cpu_count}
use Rattle.clk_machine.specs.Limits.{most_tickets, jump_sizes, AreInRange}
use Rattle.clk_machine.specs.Time.{delayed, time_at, cycles_in, jumped, count_at, cpu_at, counter_at}
use Rattle.clk_machine.proofs.Bounds.{time_below, cycles_few, cpu_in_range, differ_less}

-- what came by one ticket or time came by each later one
came_later : (z : ℤ) (i k : ℕ) → i ≤ k → int_le z (pos i) ≡ true → int_le z (pos k) ≡ true
came_later (pos z) i k h came = let low : z ≤ i = grind (arith, nat_tests) in grind (arith, nat_tests)
came_later (negsuc z) i k h came = refl

-- ---- time

no_less_by : (b c : Bool) (n : ℕ) → (b ≡ true → c ≡ true) → cond b n 0 ≤ cond c n 0
no_less_by true true n h = omega arith
no_less_by true false n h = let e = h refl in absurd (cc)
no_less_by false c n h = omega arith

delayed_rises : (ds : List DelayPlan) (i k : ℕ) → i ≤ k → delayed i ds ≤ delayed k ds
delayed_rises [] i k h = omega arith
delayed_rises (d ∷ ds) i k h =
    let rest = delayed_rises ds i k h in
    let a = sum_by-cons (λ (e : DelayPlan). cond (int_le e.ticket (pos i)) (count_of e.ns) 0) d ds in
    let b = sum_by-cons (λ (e : DelayPlan). cond (int_le e.ticket (pos k)) (count_of e.ns) 0) d ds in
    let here = no_less_by (int_le d.ticket (pos i)) (int_le d.ticket (pos k)) (count_of d.ns) (came_later d.ticket i k h) in
    omega (arith, rest, a, b, here)

pub time_rises : (m : Plan) (i k : ℕ) → i ≤ k → time_at m i ≤ time_at m k
time_rises m i k h =
    let delays = delayed_rises m.delay i k h in
    let steps = mul-le-mul_right (count_of m.step) h in
    omega arith

cycles_rise : (khz : ℤ) (i k : ℕ) → i ≤ k → cycles_in khz i ≤ cycles_in khz k
cycles_rise khz i k h = let most = mul-le-mul_right (count_of khz) h in omega arith

-- ---- travel

-- the sizes of the jumps up to a time
abbrev sizes_by : ℕ → List JumpPlan → ℕ
sizes_by time [] = 0
sizes_by time (j ∷ jumps) = cond (int_le j.at (pos time)) (nat_abs j.cycles) 0 + sizes_by time jumps

sizes_few : (time : ℕ) (js : List JumpPlan) → sizes_by time js ≤ jump_sizes js
sizes_few time [] = omega arith
sizes_few time (j ∷ js) =
    let rest = sizes_few time js in
    let whole = sum_by-cons (λ (i : JumpPlan). nat_abs i.cycles) j js in
    let here = at_most_all (int_le j.at (pos time)) (nat_abs j.cycles) in
    omega (arith, rest, whole, here)
  where
    at_most_all : (b : Bool) (n : ℕ) → cond b n 0 ≤ n
    at_most_all true n = omega arith
    at_most_all false n = omega arith

-- two sums of jumps are no further apart than the sizes of the jumps between
record AreApart (first second : ℤ) (before after : ℕ) : Type 0 where
  rise : before ≤ after
  up : (second +ℤ pos before) ≤ℤ (first +ℤ pos after)
  down : (first +ℤ pos before) ≤ℤ (second +ℤ pos after)

one_more : (b c : Bool) (z first second : ℤ) (before after : ℕ) → (b ≡ true → c ≡ true) → AreApart first second before after
    → AreApart (cond b z (pos 0) +ℤ first) (cond c z (pos 0) +ℤ second) (cond b (nat_abs z) 0 + before) (cond c (nat_abs z) 0 + after)
one_more true true z first second before after h a =
    let rise = a.rise in
    let up = a.up in
    let down = a.down in
    record { rise = omega (arith, ints); up = omega (arith, ints); down = omega (arith, ints) }
one_more true false z first second before after h a = let e = h refl in absurd (cc)
one_more false true z first second before after h a =
    let rise = a.rise in
    let up = a.up in
    let down = a.down in
    record { rise = omega (arith, ints); up = omega (arith, ints); down = omega (arith, ints) }
one_more false false z first second before after h a =
    let rise = a.rise in
    let up = a.up in
    let down = a.down in
    record { rise = omega (arith, ints); up = omega (arith, ints); down = omega (arith, ints) }

jumps_apart : (js : List JumpPlan) (i k : ℕ) → i ≤ k → AreApart (jumped i js) (jumped k js) (sizes_by i js) (sizes_by k js)
jumps_apart [] i k h = record { rise = omega arith; up = omega (arith, ints); down = omega (arith, ints) }
jumps_apart (j ∷ js) i k h =
    one_more (int_le j.at (pos i)) (int_le j.at (pos k)) j.cycles (jumped i js) (jumped k js) (sizes_by i js) (sizes_by k js)
    (came_later j.at i k h) (jumps_apart js i k h)

-- how far a counter goes by a ticket at most, there and back
abbrev pub travel : Plan → ℕ → ℕ → ℕ
travel m cpu k =
    let c = cpu_at m cpu in
    cycles_in c.khz (time_at m k) + sizes_by (time_at m k) c.jumps

pub travel_few : (m : Plan) (cpu k : ℕ) → AreInRange m → cpu < cpu_count m → k < most_tickets → travel m cpu k ≤ 11 * 2 ^ 41
travel_few m cpu k r h small =
    let c = cpu_in_range m cpu r h in
    let cycles = cycles_few (cpu_at m cpu).khz (time_at m k) c.khz in
    let sizes = sizes_few (time_at m k) (cpu_at m cpu).jumps in
    let few = c.jumps.sizes in
    let time = time_below m k r small in
    omega (arith, cycles, sizes, few, time)

-- from one ticket to a later one, no masked difference is longer than the way between
pub differ_by_travel : (m : Plan) (cpu : ℕ) (adjust : ℤ) (i k : ℕ) → AreInRange m → i ≤ k
    → travel m cpu i + masked_delta (counter_at m cpu adjust k) (counter_at m cpu adjust i) (count_of m.bits) ≤ travel m cpu k
differ_by_travel m cpu adjust i k r h =
    let c = cpu_at m cpu in
    let later = time_rises m i k h in
    let cycles = cycles_rise c.khz (time_at m i) (time_at m k) later in
    let apart = jumps_apart c.jumps (time_at m i) (time_at m k) later in
    let rise = apart.rise in
    let up = apart.up in
    let down = apart.down in
    let less = differ_less m (count_at (c.offset +ℤ adjust) c.khz c.jumps (time_at m k)) (count_at (c.offset +ℤ adjust) c.khz c.jumps (time_at m i))
    (travel m cpu k - travel m cpu i) r (omega (arith, ints)) (omega (arith, ints)) in
    omega (arith, less, cycles, rise)
