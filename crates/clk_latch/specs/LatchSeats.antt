-- A `LatchSeat` as contracts see it, and what it keeps true.
use Rattle.std.specs.Prelude.{◌≡◌, ◌+◌, ◌*◌, ◌≤◌, true, false, List, [], ◌∷◌, ◌++◌, length, Option, Some, None}
use Rattle.atomic_table.specs.declared.shared.Seat.{Seat}
use Rattle.clk_machine.specs.Laws.{AreInOrder}
use Rattle.clk_machine.specs.declared.reading.Published.{Published}
use Rattle.clk_latch.specs.Epoch.{Epoch, Place}
use Rattle.clk_latch.specs.LatchRule.{IsSmallIn}
use Rattle.clk_latch.specs.declared.rule.Knows.{Knows}

-- what the seat's view says
abbrev pub epoch_of : Knows → Epoch
epoch_of v = record { owner = v.owner; left = v.left; records = v.records; begins = v.begins }

abbrev pub place_of : Seat (Unit {0}) Knows → Place
place_of s = record { latch = s.table_id; epoch = epoch_of s.me.0 }

-- the tickets of the records after record 0 do not fall
abbrev pub AreUpdatesInOrder : List Published → Type 0
AreUpdatesInOrder [] = Unit {0}
AreUpdatesInOrder (zero ∷ updates) = AreInOrder 0 updates

-- between updates the owner has its current record at hand, and both copies hold it
pub record IsOwner (current : Option Published) (v : Knows) : Type 0 where
  pub last : Published
  pub hand : current ≡ Some last
  pub before : List Published
  pub records : v.records ≡ before ++ last ∷ []
  pub number : last.rec + 1 ≡ length v.records
  pub small : IsSmallIn v.records last
  pub order : AreUpdatesInOrder v.records
  pub even : v.seen + 2 ≡ 2 * length v.records
  pub few : v.seen + 2 * v.left ≤ 2048
  pub idle : v.wrote ≡ []

-- no slot is held, and a reader has no record at hand
pub record IsSeated (current : Option Published) (s : Seat (Unit {0}) Knows) : Type 0 where
  pub empty : s.me.1 ≡ []
  pub reader : s.me.0.owner ≡ false → (current ≡ None) × (s.me.0.left ≡ 0)
  pub owner : s.me.0.owner ≡ true → IsOwner current s.me.0
