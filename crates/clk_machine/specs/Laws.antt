-- What follows from the limits alone: how far counters, records and readings of a run go. And that the limits are what
-- the range tests test.
use Rattle.std.specs.Prelude.{◌≡◌, ℕ, ◌*◌, ◌^◌, ◌<◌, ◌≤◌, ◌↔◌, ℤ, pos, List, [], ◌∷◌, None}
use Rattle.std.specs.List.{All}
use Rattle.clk_base.specs.First.{first}
use Rattle.clk_num.specs.Range.{IsNear, IsFrom0To}
use Rattle.clk_machine.specs.declared.reading.RawReading.{RawReading}
use Rattle.clk_machine.specs.declared.reading.Published.{Published}
use Rattle.clk_machine.specs.Plan.{Plan, cpu_count}
use Rattle.clk_machine.specs.Limits.{most_tickets, AreInRange, IsWithinLimits}
use Rattle.clk_machine.specs.Short.{IsWellFormed}
use Rattle.clk_machine.specs.Ranges.{part_tests, range_tests}
use Rattle.clk_machine.specs.Time.{counter_at}
use Rattle.clk_machine.specs.Records.{above_base, AreRecords, IsRightReading}

-- a CPU of a machine, and an adjustment that a bring-up may give it
pub record IsAdjusted (m : Plan) (cpu : ℕ) (adjust : ℤ) : Type 0 where
  pub limits : IsWithinLimits m
  pub there : cpu < cpu_count m
  pub near : IsNear 47 adjust

-- records were made at tickets of a run, each no earlier than the one before
abbrev pub AreInOrder : ℕ → List Published → Type 0
AreInOrder last [] = Unit {0}
AreInOrder last (p ∷ records) = (last ≤ p.ticket) × (p.ticket < most_tickets) × AreInOrder p.ticket records

abbrev pub CountersAreSmall : Type 0
CountersAreSmall = (m : Plan) (cpu : ℕ) (adjust : ℤ) (k : ℕ) → IsAdjusted m cpu adjust → k < most_tickets → counter_at m cpu adjust k ≤ 83 * 2 ^ 41

-- a run of a bring-up adds its adjustment to those of the runs before it: a counter with the sum of two
abbrev pub CountersAdjustedTwiceAreSmall : Type 0
CountersAdjustedTwiceAreSmall =
    (m : Plan) (cpu : ℕ) (adjust : ℤ) (k : ℕ) → IsWithinLimits m → cpu < cpu_count m → IsNear 48 adjust → k < most_tickets
    → counter_at m cpu adjust k ≤ 147 * 2 ^ 41

-- times of records and readings are taken above the base
abbrev pub RecordsAreSmall : Type 0
RecordsAreSmall =
    (m : Plan) (cpu : ℕ) (adjust : ℤ) (records : List Published) → IsAdjusted m cpu adjust → AreRecords m cpu adjust records
    → AreInOrder 0 records → All (λ p. IsFrom0To (46 * 2 ^ 52) (above_base m p.ns)) records

-- no raw reading is below the base, and all are less than 2^59 ns above it
abbrev pub ReadingsAreSmall : Type 0
ReadingsAreSmall =
    (m : Plan) (cpu : ℕ) (adjust : ℤ) (records : List Published) (r : RawReading) → IsAdjusted m cpu adjust → AreRecords m cpu adjust records
    → AreInOrder 0 records → r.ticket < most_tickets → IsRightReading m cpu adjust records r → IsFrom0To (87 * 2 ^ 52) (above_base m r.ns)

-- CPU 0 began record 0 by its own counter, and so its readings by that record are what this counter went since ticket 0
abbrev pub FirstReadingsAreSmall : Type 0
FirstReadingsAreSmall =
    (m : Plan) (records : List Published) (r : RawReading) → IsWithinLimits m → AreRecords m 0 (pos 0) records → r.rec ≡ 0
    → r.ticket < most_tickets → IsRightReading m 0 (pos 0) records r → IsFrom0To (6 * 2 ^ 52) (above_base m r.ns)

-- the numbers of well-formed parts are in range exactly where no range test fails, and they and the tickets are within
-- the limits exactly where no test fails at all
abbrev pub RangesAreTested : Type 0
RangesAreTested = (m : Plan) → IsWellFormed m → (first (part_tests m) ≡ None) ↔ AreInRange m

abbrev pub LimitsAreTested : Type 0
LimitsAreTested = (m : Plan) → IsWellFormed m → (first (range_tests m) ≡ None) ↔ IsWithinLimits m
