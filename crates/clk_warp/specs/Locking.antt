-- What the private steps of the warp lock do. No public contract cites it.
use Rattle.std.specs.Prelude.{◌≡◌, ℕ, [], Option}
use Rattle.atomic_table.specs.declared.shared.Seat.{Seat}
use Rattle.clk_record.specs.declared.warp.Side.{Side}
use Rattle.clk_warp.specs.declared.view.Role.TheVariants.{Of}
use Rattle.clk_warp.specs.declared.view.Stage.TheVariants.{Away, Waiting}
use Rattle.clk_warp.specs.declared.view.View.{View}
use Rattle.clk_warp.specs.Run.{Run}
use Rattle.clk_warp.specs.LockRule.{knows_ticket, knows_called}

abbrev pub Place : Type 0
Place = Seat (Option Run) View

-- a side's seat, outside
pub record IsOutside (s : Place) : Type 0 where
  pub side : Side
  pub role : s.me.0.role ≡ Of side
  pub away : s.me.0.stage ≡ Away
  pub empty : s.me.1 ≡ []

-- a side's seat, with a ticket
pub record IsWaiting (s : Place) (ticket : ℕ) : Type 0 where
  pub side : Side
  pub role : s.me.0.role ≡ Of side
  pub waits : s.me.0.stage ≡ Waiting
  pub drawn : s.me.0.ticket ≡ ticket

pub record HasDrawn (before : Place) (ticket : ℕ) (now : Place) : Type 0 where
  pub table : now.table_id ≡ before.table_id
  pub id_is : now.id ≡ before.id
  pub is : now.me ≡ (knows_ticket ticket before.me.0, before.me.1)

pub record HasBeenCalled (before now : Place) : Type 0 where
  pub table : now.table_id ≡ before.table_id
  pub id_is : now.id ≡ before.id
  pub is : now.me ≡ (knows_called before.me.0, before.me.1)
