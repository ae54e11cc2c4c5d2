-- What each call shows, as the events of a trace do: a look at the mode, a stable reading, a raised reading, a stamp,
-- and what a tick and an idle event make of them. Each is told of what the thread's seats had before it and after it,
-- so that the events of a thread are a chain.
use Rattle.std.specs.Prelude.{◌≡◌, ℕ, ℤ, ◌+ℤ◌, [], ◌∷◌, ◌++◌}
use Rattle.clk_num.specs.Wrapping.{wrap, IsNotBelow}
use Rattle.clk_ticket.specs.Time.{Time}
use Rattle.clk_machine.specs.declared.reading.RawReading.{RawReading}
use Rattle.clk_machine.specs.Time.{gtod_at}
use Rattle.clk_record.specs.declared.mode.Mode.{Mode}
use Rattle.clk_record.specs.declared.mode.Mode.TheVariants.{Stable as StableMode, PerCpu as PerCpuMode}
use Rattle.clk_record.specs.declared.step.Step.{Step}
use Rattle.clk_record.specs.declared.step.Why.TheVariants.{Raise}
use Rattle.clk_words.specs.declared.view.View.{View}
use Rattle.clk_words.specs.declared.view.Name.TheVariants.{Raw, Gtod, Offset}
use Rattle.clk_words.specs.Bounds.{IsGtod}
use Rattle.clk_words.specs.Parts.{gtod_of, raw_of}
use Rattle.clk_words.specs.Told.{Raises, FindsMode, FindsOffset, stamped}
use Rattle.clk_latch.specs.Calls.{DrawsTicket, Reads}
use Rattle.clk_local.specs.declared.events.Reading.{Reading}
use Rattle.clk_local.specs.declared.events.Reading.TheVariants.{Stable, PerCpu}
use Rattle.clk_local.specs.declared.events.TickEvent.{TickEvent}
use Rattle.clk_local.specs.declared.events.TickEvent.TheVariants.{Nothing, Ticked}
use Rattle.clk_local.specs.declared.events.IdleEvent.{IdleEvent}
use Rattle.clk_local.specs.Context.{Site, Known}
use Rattle.clk_local.specs.Raising.{FindsPair, own_step, shown_on}

-- a raw reading of the thread's CPU at a ticket of its own
pub record ReadsRaw (z : Site) (v : Known) (t : Time) (raw : RawReading) (w : Known) : Type 0 where
  pub draws : DrawsTicket t raw.ticket w.time
  pub reads : Reads z.machine z.cpu z.adjust v.epoch w.epoch raw

-- a look at the mode, of which nothing else is changed
pub record ShowsLook (v : Known) (mode : Mode) (w : Known) : Type 0 where
  pub finds : FindsMode v.view mode w.view
  pub epoch_is : w.epoch ≡ v.epoch
  pub time_is : w.time ≡ v.time

-- a stable reading: a raw reading and the offset of the stable clock, and no step
pub record ShowsStable (z : Site) (v : Known) (raw : RawReading) (value : ℤ) (w : Known) : Type 0 where
  pub reads : ReadsRaw z v v.time raw w
  pub value_is : value ≡ wrap (raw.ns +ℤ z.sched_offset)
  pub view_is : w.view ≡ v.view

-- a raised reading: a raw reading, then the loads of the pair and of the offset, and then one step that raises the word
-- to the target of those
pub record ShowsRaised (z : Site) (v : Known) (raw : RawReading) (step : Step) (w : Known) : Type 0 where
  pub tick_raw : ℤ
  pub tick_gtod : ℤ
  pub offset : ℤ
  pub pair : View
  pub loaded : View
  pub reads : ReadsRaw z v v.time raw w
  pub finds : FindsPair v.view tick_raw tick_gtod pair
  pub finds_offset : FindsOffset pair offset loaded
  pub raises : Raises loaded step w.view
  pub step_is : step ≡ own_step v.view z.call (Raise raw.ns tick_raw tick_gtod offset) step.old
  -- what that comes to in the seat's lists
  pub mine_is : w.view.mine ≡ v.view.mine ++ step ∷ []
  pub seen_is : w.view.seen ≡ (v.view.seen ++ raises.makes.between) ++ step ∷ []
  pub loads_is : w.view.loads ≡ v.view.loads ++ (record { of = Raw z.cpu; value = tick_raw }) ∷ (record { of = Gtod z.cpu; value = tick_gtod })
      ∷ (record { of = Offset; value = offset }) ∷ []
  pub pairs_is : w.view.pairs ≡ pair.pairs
  pub from_start : v.view.start.opening.mode ≡ PerCpuMode → offset ≡ v.view.start.opening.offset
  -- what the word held is not below what the seat had seen of it, and the reading is not below that
  pub not_below : IsNotBelow step.old (shown_on z.cpu v.view)
  pub rises : IsNotBelow step.new step.old

-- a stamp: a GTOD is drawn for and stored, and then a raw reading
pub record ShowsStamp (z : Site) (v : Known) (gtod_ticket : ℕ) (gtod : ℤ) (stamp : RawReading) (w : Known) : Type 0 where
  pub middle : Time
  pub draws : DrawsTicket v.time gtod_ticket middle
  pub gtod_is : gtod ≡ gtod_at z.machine gtod_ticket
  pub bound : IsGtod gtod
  pub reads : ReadsRaw z v middle stamp w
  pub view_is : w.view ≡ stamped (raw_of z.cpu) stamp.ns (stamped (gtod_of z.cpu) gtod v.view)

-- a tick: a stamp, and a raised reading that goes by that stamp's pair
pub record ShowsTicked (z : Site) (v : Known) (gtod_ticket : ℕ) (gtod : ℤ) (stamp raw : RawReading) (step : Step) (w : Known) : Type 0 where
  pub between : Known
  pub stamps : ShowsStamp z v gtod_ticket gtod stamp between
  pub raises : ShowsRaised z between raw step w
  pub pair_is : step.why ≡ Raise raw.ns stamp.ns gtod raises.offset

-- ---- events

-- the mode that an answer speaks of
abbrev pub mode_read : Reading → Mode
mode_read (Stable raw value) = StableMode
mode_read (PerCpu raw step) = PerCpuMode

abbrev pub mode_ticked : TickEvent → Mode
mode_ticked Nothing = StableMode
mode_ticked (Ticked gtod_ticket gtod stamp raw step) = PerCpuMode

-- in each case of a reading and of a tick
abbrev pub OnReading : Site → Known → Reading → Known → Type 0
OnReading z v (Stable raw value) w = ShowsStable z v raw value w
OnReading z v (PerCpu raw step) w = ShowsRaised z v raw step w

abbrev pub OnTick : Site → Known → TickEvent → Known → Type 0
OnTick z v Nothing w = w ≡ v
OnTick z v (Ticked gtod_ticket gtod stamp raw step) w = ShowsTicked z v gtod_ticket gtod stamp raw step w

-- a reading: a look, which finds the mode that the answer speaks of, and then that reading
pub record ShowsReading (z : Site) (v : Known) (e : Reading) (w : Known) : Type 0 where
  pub between : Known
  pub looks : ShowsLook v (mode_read e) between
  pub shows : OnReading z between e w

-- a tick: likewise
pub record ShowsTick (z : Site) (v : Known) (e : TickEvent) (w : Known) : Type 0 where
  pub between : Known
  pub looks : ShowsLook v (mode_ticked e) between
  pub shows : OnTick z between e w

-- an idle event: a reading and then a tick, each with its own look
pub record ShowsIdle (z : Site) (v : Known) (e : IdleEvent) (w : Known) : Type 0 where
  pub between : Known
  pub reads : ShowsReading z v e.read between
  pub ticks : ShowsTick z between e.tick w

-- how many tickets a tick draws
abbrev pub tickets_of : TickEvent → ℕ
tickets_of Nothing = 0
tickets_of (Ticked gtod_ticket gtod stamp raw step) = 3

-- a reading raised a word, and a tick stamped
abbrev pub IsPerCpu : Reading → Type 0
IsPerCpu (Stable raw value) = ⊥
IsPerCpu (PerCpu raw step) = Unit {0}

abbrev pub HasTicked : TickEvent → Type 0
HasTicked Nothing = ⊥
HasTicked (Ticked gtod_ticket gtod stamp raw step) = Unit {0}
