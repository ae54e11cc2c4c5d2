-- Time and counters, as functions of the ticket.
use Rattle.std.specs.Prelude.{ℕ, ◌+◌, ◌*◌, ◌/◌, ◌^◌, ℤ, pos, int_le, ◌+ℤ◌, List, [], ◌∷◌, slice_index_or, false, if◌then◌else◌}
use Rattle.std.specs.List.{sum_by}
use Rattle.clk_num.specs.declared.rate.Rate.{Rate}
use Rattle.clk_num.specs.Rates.{clock_rate, source_rate}
use Rattle.clk_num.specs.Conversion.{convert}
use Rattle.clk_num.specs.Masked.{low_bits}
use Rattle.clk_machine.specs.Plan.{Plan, CpuPlan, SourcePlan, DelayPlan, JumpPlan, count_of}

-- the ns of the delays at tickets up to k
abbrev pub delayed : ℕ → List DelayPlan → ℕ
delayed k delays = sum_by (λ d. if int_le d.ticket (pos k) then count_of d.ns else 0) delays

-- time in ns: each ticket takes a step, and some take longer
abbrev pub time_at : Plan → ℕ → ℕ
time_at m k = k * count_of m.step + delayed k m.delay

-- the cycles of a rate in so many ns, rounded down
abbrev pub cycles_in : ℤ → ℕ → ℕ
cycles_in khz time = time * count_of khz / 10 ^ 6

-- the cycles of the jumps up to a time
abbrev pub jumped : ℕ → List JumpPlan → ℤ
jumped time [] = pos 0
jumped time (j ∷ jumps) = (if int_le j.at (pos time) then j.cycles else pos 0) +ℤ jumped time jumps

-- how far a counter went by a time, from where it began
abbrev pub count_at : ℤ → ℤ → List JumpPlan → ℕ → ℤ
count_at start khz jumps time = (start +ℤ pos (cycles_in khz time)) +ℤ jumped time jumps

-- what a counter of so many bits shows of that: 0 below 0, and else the low bits
abbrev pub shown : ℤ → ℤ → ℕ
shown bits count = low_bits (count_of bits) (count_of count)

abbrev pub cpu_at : Plan → ℕ → CpuPlan
cpu_at m cpu = slice_index_or m.cpu cpu (record { khz = pos 0; offset = pos 0; socket = pos 0; jumps = []; script = record { repeat = pos 0; words = [] } })

-- the counter of a CPU with this adjustment
abbrev pub counter_at : Plan → ℕ → ℤ → ℕ → ℕ
counter_at m cpu adjust k =
    let c = cpu_at m cpu in
    shown m.bits (count_at (c.offset +ℤ adjust) c.khz c.jumps (time_at m k))

abbrev pub source_plan_at : Plan → ℕ → SourcePlan
source_plan_at m s =
    slice_index_or m.source s (record { tsc = false; rating = pos 0; margin = pos 0; khz = pos 0; nominal_khz = pos 0; bits = pos 0; jumps = [] })

-- the counter of a source that is not the CPUs' own
abbrev pub source_at : Plan → ℕ → ℕ → ℕ
source_at m s k =
    let source = source_plan_at m s in
    shown source.bits (count_at (pos 0) source.khz source.jumps (time_at m k))

-- the full count of the reference
abbrev pub reference_at : Plan → ℕ → ℕ
reference_at m k = cycles_in m.reference.khz (time_at m k)

-- ---- rates

-- the rate of the scheduler clock, at the nominal frequency
abbrev pub sched_rate : Plan → Rate
sched_rate m = clock_rate (count_of m.nominal_khz * 1000)

-- the rates of a source and of the reference, as they were registered
abbrev pub rate_of : Plan → ℕ → Rate
rate_of m s = let source = source_plan_at m s in source_rate (count_of source.nominal_khz * 1000) (count_of source.bits)

abbrev pub reference_rate : Plan → Rate
reference_rate m = source_rate (count_of m.reference.khz * 1000) (count_of m.reference.bits)

-- monotonic time (GTOD) in ns: the reference, converted
abbrev pub gtod_at : Plan → ℕ → ℤ
gtod_at m k = pos (convert (reference_at m k) (reference_rate m))
