-- What each call does to a seat, whatever latch it belongs to.
use Rattle.std.specs.Prelude.{◌≡◌, ℕ, ◌+◌, ◌-◌, ◌*◌, ◌^◌, ◌<◌, max, true, false, ◌||◌, ◌&&◌, ℤ, List, [], ◌∷◌, ◌++◌, length, slice_index_or}
use Rattle.std.specs.List.{All}
use mathlib.Core.List.{IsPrefix}
use Rattle.clk_base.specs.declared.block.Block.{Block}
use Rattle.clk_base.specs.Blocks.{times_in}
use Rattle.clk_ticket.specs.Time.{Time, Draws}
use Rattle.clk_num.specs.Range.{IsFrom0To}
use Rattle.clk_num.specs.Wrapping.{above}
use Rattle.clk_machine.specs.Plan.{Plan}
use Rattle.clk_machine.specs.Limits.{IsWithinLimits}
use Rattle.clk_machine.specs.Records.{record_zero, IsNextRecord, AreRecords, IsRightReading}
use Rattle.clk_machine.specs.declared.reading.RawReading.{RawReading}
use Rattle.clk_machine.specs.declared.reading.Published.{Published}
use Rattle.clk_latch.specs.declared.rule.TurnBegin.{TurnBegin}
use Rattle.clk_latch.specs.Epoch.{Epoch}

-- record 0 of some machine, which may have any ticket
pub record IsRecordZero (zero : Published) : Type 0 where
  pub machine : Plan
  pub limits : IsWithinLimits machine
  pub number : zero.rec ≡ 0
  pub cyc : zero.cyc ≡ (record_zero machine).cyc
  pub ns : zero.ns ≡ (record_zero machine).ns

-- one ticket was drawn
abbrev pub DrawsTicket : Time → ℕ → Time → Type 0
DrawsTicket before ticket after = Draws before ticket 1 after

-- the tickets of the records after record 0 are among the blocks
abbrev pub AreDrawn : List Block → List Published → Type 0
AreDrawn blocks [] = Unit {0}
AreDrawn blocks (zero ∷ updates) = All (λ p. 0 < times_in p.ticket blocks) updates

-- a reading: it is right by the last of the records that the seat has then seen, which was current in this call
pub record Reads (m : Plan) (cpu : ℕ) (adjust : ℤ) (before after : Epoch) (r : RawReading) : Type 0 where
  pub right : IsRightReading m cpu adjust after.records r
  -- the record is none older than any that the seat had seen
  pub seen : IsPrefix before.records after.records
  pub last : length after.records ≡ r.rec + 1
  -- the turns of this call were told the reading's ticket, so it was drawn before them; the last begin names its record
  pub between : List TurnBegin
  pub same : All (λ b. b.ticket ≡ r.ticket) between
  pub begun : after.begins ≡ (before.begins ++ between) ++ record { ticket = r.ticket; rec = r.rec } ∷ []
  -- the owner has seen every record, so it sees no further one
  pub owner : before.owner ≡ true → after.records ≡ before.records
  pub kept : (after.owner ≡ before.owner) × (after.left ≡ before.left)
  -- its ns are none below those of record 0, and not far above them
  pub bound : (d : Published) → IsFrom0To (11 * 2 ^ 55) (above r.ns (slice_index_or after.records 0 d).ns)

-- the last of some records
abbrev pub last_of : Published → List Published → Published
last_of d records = slice_index_or records (length records - 1) d

-- an update: the next record is added, and the records are still those of the counter
pub record Updates (m : Plan) (cpu : ℕ) (adjust : ℤ) (before after : Epoch) (p : Published) : Type 0 where
  pub is : after ≡ record before { left = before.left - 1; records = before.records ++ p ∷ [] }
  pub next : IsNextRecord m cpu adjust (last_of (record_zero m) before.records) p
  pub number : p.rec ≡ length before.records
  pub records : AreRecords m cpu adjust after.records

-- two seats as one: it has the right and the updates of both, the longer list of records, and the begins of the first
pub record Joins (a b after : Epoch) : Type 0 where
  pub owner : after.owner ≡ (a.owner || b.owner)
  pub once : (a.owner && b.owner) ≡ false
  pub left : after.left ≡ a.left + b.left
  pub begins : after.begins ≡ a.begins
  pub first : IsPrefix a.records after.records
  pub second : IsPrefix b.records after.records
  pub longer : length after.records ≡ max (length a.records) (length b.records)
  -- the owner has seen every record
  pub first_owner : a.owner ≡ true → after.records ≡ a.records
  pub second_owner : b.owner ≡ true → after.records ≡ b.records
