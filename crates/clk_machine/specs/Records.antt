-- Latch records and raw readings. Their times are clock values, which wrap.
use Rattle.std.specs.Prelude.{◌≡◌, ℕ, ◌+◌, ◌<◌, ℤ, pos, ◌+ℤ◌, List, [], ◌∷◌, length, slice_index_or}
use Rattle.clk_num.specs.Wrapping.{wrap, above}
use Rattle.clk_num.specs.Conversion.{convert}
use Rattle.clk_num.specs.Masked.{masked_delta}
use Rattle.clk_machine.specs.Plan.{Plan, count_of}
use Rattle.clk_machine.specs.Time.{counter_at, sched_rate}
use Rattle.clk_machine.specs.declared.reading.RawReading.{RawReading}
use Rattle.clk_machine.specs.declared.reading.Published.{Published}

-- the ns at which the clocks of a machine begin, and how far a clock value is above them
unfoldable pub base_of : Plan → ℤ
base_of m = m.base

abbrev pub above_base : Plan → ℤ → ℤ
above_base m ns = above ns (base_of m)

-- record 0 of every CPU: the counter of CPU 0 at ticket 0, and the base
abbrev pub record_zero : Plan → Published
record_zero m = record { rec = 0; ticket = 0; cyc = counter_at m 0 (pos 0) 0; ns = base_of m }

-- the ns that a record gives for a counter value: its own, and those of the cycles since
abbrev pub raw_by : Plan → Published → ℕ → ℤ
raw_by m p cyc = wrap (p.ns +ℤ pos (convert (masked_delta cyc p.cyc (count_of m.bits)) (sched_rate m)))

-- the record after another: an update reads the counter, and takes the ns that the record before gives for it
pub record IsNextRecord (m : Plan) (cpu : ℕ) (adjust : ℤ) (last p : Published) : Type 0 where
  pub number : p.rec ≡ last.rec + 1
  pub counter : p.cyc ≡ counter_at m cpu adjust p.ticket
  pub time : p.ns ≡ raw_by m last p.cyc

abbrev pub AreNextRecords : Plan → ℕ → ℤ → Published → List Published → Type 0
AreNextRecords m cpu adjust last [] = Unit {0}
AreNextRecords m cpu adjust last (p ∷ ps) = IsNextRecord m cpu adjust last p × AreNextRecords m cpu adjust p ps

-- the records of a CPU: record 0 and its updates, in order
pub record AreRecords (m : Plan) (cpu : ℕ) (adjust : ℤ) (records : List Published) : Type 0 where
  pub updates : List Published
  pub all : records ≡ record_zero m ∷ updates
  pub next : AreNextRecords m cpu adjust (record_zero m) updates

-- a raw reading of a CPU shows its counter at its ticket, and what the record that it names gives for it
pub record IsRightReading (m : Plan) (cpu : ℕ) (adjust : ℤ) (records : List Published) (r : RawReading) : Type 0 where
  pub counter : r.cyc ≡ counter_at m cpu adjust r.ticket
  pub number : r.rec < length records
  pub time : r.ns ≡ raw_by m (slice_index_or records r.rec (record_zero m)) r.cyc
