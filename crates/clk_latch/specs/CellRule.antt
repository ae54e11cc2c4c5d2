-- The rule of a latch over one cell, and what each of its steps tells.
-- A seat knows what it would know of a latch over words that is between two updates: its sequence is twice the number
-- of the record, and both copies hold that.
use Rattle.std.specs.Prelude.{◌≡◌, ℕ, ◌+◌, ◌*◌, ◌<◌, ◌≤◌, true, false, List, [], ◌∷◌, ◌++◌, length, Option, None}
use mathlib.Core.Option.{some}
use mathlib.Core.List.{IsPrefix}
use lib.ListN.{get_elem?}
use Rattle.atomic_table.specs.declared.shared.Seat.{Seat}
use Rattle.crossbeam_utils.specs.declared.atomic.seq_cell.Doing.{Doing}
use Rattle.crossbeam_utils.specs.Seq.{cell_view}
use Rattle.clk_num.specs.Wrapping.{IsBitsOf}
use Rattle.clk_machine.specs.declared.reading.Published.{Published}
use Rattle.clk_latch.specs.declared.rule.Knows.{Knows}
use Rattle.clk_latch.specs.declared.cell_rule.CellRecord.{CellRecord}
use Rattle.clk_latch.specs.Epoch.{Place}
use Rattle.clk_latch.specs.LatchRule.{IsSmallIn, Known, knows_nothing, knows_begun}
use Rattle.clk_latch.specs.LatchSeats.{epoch_of, IsOwner}

-- the cell holds a record
pub record IsIn (p : Published) (x : CellRecord) : Type 0 where
  pub cyc : x.cyc ≡ p.cyc
  pub ns : IsBitsOf p.ns x.ns

abbrev pub cell_sequence : CellRecord → ℕ
cell_sequence x = 2 * x.rec

-- the rule, which holds between any two steps
pub record CellKept (x : CellRecord) (views : List Knows) : Type 0 where
  -- one list of records, which is empty until record 0 is written
  pub all : List Published
  pub low : x.rec ≤ 1024
  -- the last one is in the cell
  pub count : 0 < length all → length all ≡ x.rec + 1
  pub last : (p : Published) → get_elem? all x.rec ≡ some p → IsIn p x
  pub small : (i : ℕ) (p : Published) → get_elem? all i ≡ some p → IsSmallIn all p
  pub known : (j : ℕ) (v : Knows) → get_elem? views j ≡ some v → Known (cell_sequence x) all [] v
  -- one seat has the owner's right
  pub owner : ℕ
  pub one_owner : (j : ℕ) (v : Knows) → get_elem? views j ≡ some v → v.owner ≡ true → j ≡ owner

-- ---- views

-- the owner's, before record 0 is written
abbrev pub knows_unopened : Knows
knows_unopened = record knows_nothing { owner = true }

-- after the owner wrote a record, with so many updates left
abbrev pub knows_stored : Published → ℕ → Knows → Knows
knows_stored p left v = record v { left = left; records = v.records ++ p ∷ []; seen = 2 * length v.records; wrote = [] }

-- ---- what steps tell

-- a read, which is told the reading's ticket: the records have grown up to the one that the cell holds
pub record Found (ticket : ℕ) (before : Knows) (x y : CellRecord) (after : Knows) : Type 0 where
  pub records : List Published
  pub is : after ≡ knows_begun ticket (cell_sequence x) records before
  pub grown : IsPrefix before.records records
  pub low : x.rec ≤ 1024
  pub later : before.seen ≤ cell_sequence x
  pub count : 0 < length records → length records ≡ x.rec + 1
  pub last : (p : Published) → get_elem? records x.rec ≡ some p → IsIn p x
  pub small : (p : Published) → get_elem? records x.rec ≡ some p → IsSmallIn records p
  pub owner : before.owner ≡ true → (records ≡ before.records) × (cell_sequence x ≡ before.seen)

-- the read after a join
pub record Told (before : Knows) (x y : CellRecord) (after : Knows) : Type 0 where
  pub is : after ≡ before
  pub once : before.twice ≡ false
  pub told : length before.told ≤ length before.records → IsPrefix before.told before.records
  pub owner : before.owner ≡ true → IsPrefix before.told before.records

-- what the owner may write: the record that follows, whose number is how many there were
pub record MayStore (x : CellRecord) (p : Published) (left : ℕ) (v : Knows) : Type 0 where
  pub owner : v.owner ≡ true
  pub number : x.rec ≡ length v.records
  pub holds : IsIn p x
  pub later : v.seen ≤ 2 * length v.records
  pub few : 2 * length v.records + 2 * left ≤ 2048
  pub small : IsSmallIn (v.records ++ p ∷ []) p

-- ---- a `CellSeat` as contracts see it, and what it keeps true

abbrev pub cell_place : Seat CellRecord (Doing CellRecord Knows) → Place
cell_place s = record { latch = s.table_id; epoch = epoch_of (cell_view s) }

-- record 0 was seen, and a reader has no record at hand
pub record IsCellSeated (current : Option Published) (v : Knows) : Type 0 where
  pub some_seen : 0 < length v.records
  pub reader : v.owner ≡ false → (current ≡ None) × (v.left ≡ 0)
  pub owner : v.owner ≡ true → IsOwner current v
