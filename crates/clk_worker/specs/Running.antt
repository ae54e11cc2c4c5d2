-- How a thread goes from event to event, by what its seats have.
use Rattle.std.specs.Prelude.{◌≡◌, ◌≢◌, ℕ, ◌<◌, true, false, ℤ, List, [], ◌∷◌, ◌++◌}
use Rattle.clk_base.specs.Blocks.{Rises}
use Rattle.clk_ticket.specs.Time.{Draws, share_of}
use Rattle.clk_machine.specs.Records.{AreRecords}
use Rattle.clk_machine.specs.declared.reading.RawReading.{RawReading}
use Rattle.clk_machine.specs.declared.reading.Published.{Published}
use Rattle.clk_record.specs.declared.step.Step.{Step}
use Rattle.clk_record.specs.declared.step.Why.{Why}
use Rattle.clk_record.specs.declared.step.Why.TheVariants.{Raise}
use Rattle.clk_record.specs.declared.step.Why.TheVariants as why
use Rattle.clk_words.specs.Histories.{is_lift}
use Rattle.clk_lawful.specs.declared.event.Event.{Event}
use Rattle.clk_lawful.specs.declared.event.EventKind.{EventKind}
use Rattle.clk_lawful.specs.declared.event.EventKind.TheVariants.{Local, Couple, Stamp, Update, Pause}
use Rattle.clk_lawful.specs.declared.event.EventKind.TheVariants as kind
use Rattle.clk_latch.specs.Calls.{AreDrawn, DrawsTicket, Updates}
use Rattle.clk_local.specs.Context.{Site, Known, BeginsAtBase, MayStamp, looked_as}
use Rattle.clk_local.specs.Shows.{ShowsStable, ShowsRaised, ShowsStamp}
use Rattle.clk_local.specs.declared.events.Reading.{Reading}
use Rattle.clk_local.specs.declared.events.Reading.TheVariants.{Stable, PerCpu}
use Rattle.clk_local.specs.declared.events.TickEvent.{TickEvent}
use Rattle.clk_local.specs.declared.events.TickEvent.TheVariants.{Nothing, Ticked}
use Rattle.clk_remote.specs.Shows.{ShowsCoupling}

-- where the thread makes its call of this number
abbrev pub at_call : Site → ℕ → Site
at_call z call = record z { call = call }

-- a thread's seats: its records begin at the machine's base, and it has this share of the run's tickets, drawn or left
pub record IsSound (z : Site) (share : ℕ) (v : Known) : Type 0 where
  pub base : BeginsAtBase z.machine v.epoch
  pub share_is : share_of v.time ≡ share
  pub rises : Rises v.time.blocks

-- those of a CPU's own thread own its clock besides: they may stamp, and the latch's is the owner's, with the records
-- of the CPU, of which each after record 0 has a ticket of this thread
pub record OwnsClock (z : Site) (v : Known) : Type 0 where
  pub may_stamp : MayStamp v.view
  pub owner : v.epoch.owner ≡ true
  pub records : AreRecords z.machine z.cpu z.adjust v.epoch.records
  pub drawn : AreDrawn v.time.blocks v.epoch.records

-- ---- the events that a thread keeps of what a call answered

-- of a reading that made a step
abbrev pub kinds_of_why : RawReading → Why → ℤ → ℤ → List EventKind
kinds_of_why raw (Raise shown tick_raw tick_gtod offset) old new = Local raw tick_raw tick_gtod offset old new ∷ []
kinds_of_why raw (why.Couple from value) old new = []
kinds_of_why raw (why.Lift value) old new = []

abbrev pub kinds_of_step : RawReading → Step → List EventKind
kinds_of_step raw step = kinds_of_why raw step.why step.old step.new

abbrev pub kinds_of_reading : Reading → List EventKind
kinds_of_reading (Stable raw value) = kind.Stable raw value ∷ []
kinds_of_reading (PerCpu raw step) = kinds_of_step raw step

-- of a tick
abbrev pub kinds_of_tick : TickEvent → List EventKind
kinds_of_tick Nothing = kind.Nothing ∷ []
kinds_of_tick (Ticked gtod_ticket gtod stamp raw step) = Stamp gtod_ticket gtod stamp ∷ kinds_of_step raw step

-- ---- one event, and what its call's look at the mode had found

-- a stable reading: no look of the seat has found the clock per-CPU
pub record ShowsSettled (z : Site) (v : Known) (raw : RawReading) (value : ℤ) (w : Known) : Type 0 where
  pub found : v.view.modes.found ≡ false
  pub stable : ShowsStable z v raw value w

-- a tick that stamps nothing, likewise
pub record ShowsNothing (v w : Known) : Type 0 where
  pub found : v.view.modes.found ≡ false
  pub same : w ≡ v

-- a local reading is a step of the thread on its clock word
pub record ShowsLocal (z : Site) (v : Known) (raw : RawReading) (tick_raw tick_gtod offset old new : ℤ) (w : Known) : Type 0 where
  pub found : v.view.modes.found ≡ true
  pub step : Step
  pub raised : ShowsRaised z v raw step w
  pub why_is : step.why ≡ Raise raw.ns tick_raw tick_gtod offset
  pub old_is : step.old ≡ old
  pub new_is : step.new ≡ new

-- a step that is no lift stands here: it came after all lifts
pub record HasPassed (seen : List Step) : Type 0 where
  pub front : List Step
  pub step : Step
  pub back : List Step
  pub is : seen ≡ front ++ step ∷ back
  pub passes : is_lift step.why ≡ false

-- a coupling with another CPU of the words is a step on the lower of both clock words, after a reading of the own one
pub record ShowsCouple (z : Site) (v : Known) (asked : ℕ) (own other : ℤ) (word : ℕ) (old new : ℤ) (w : Known) : Type 0 where
  pub found : v.view.modes.found ≡ true
  pub passed : HasPassed v.view.seen
  pub step : Step
  pub coupled : ShowsCoupling z asked v own other step w
  pub within : asked < v.view.start.cpus
  pub apart : asked ≢ z.cpu
  pub word_is : step.word ≡ word
  pub old_is : step.old ≡ old
  pub new_is : step.new ≡ new

-- a stamp is one of a per-CPU clock
pub record ShowsStamped (z : Site) (v : Known) (gtod_ticket : ℕ) (gtod : ℤ) (raw : RawReading) (w : Known) : Type 0 where
  pub found : v.view.modes.found ≡ true
  pub stamps : ShowsStamp z v gtod_ticket gtod raw w

-- an update is what the latch's update answered
pub record ShowsUpdate (z : Site) (v : Known) (p : Published) (w : Known) : Type 0 where
  pub updates : Updates z.machine z.cpu z.adjust v.epoch w.epoch p
  pub draws : DrawsTicket v.time p.ticket w.time
  pub view_is : w.view ≡ v.view

-- a pause draws its tickets
pub record ShowsPause (v : Known) (ticket count : ℕ) (w : Known) : Type 0 where
  pub draws : Draws v.time ticket count w.time
  pub epoch_is : w.epoch ≡ v.epoch
  pub view_is : w.view ≡ v.view

-- the event of this site's call took the seats from v to w
abbrev pub Shows : Site → Known → EventKind → Known → Type 0
Shows z v (kind.Stable raw value) w = ShowsSettled z v raw value w
Shows z v (Local raw tick_raw tick_gtod offset old new) w = ShowsLocal z v raw tick_raw tick_gtod offset old new w
Shows z v (Couple asked own other word old new) w = ShowsCouple z v asked own other word old new w
Shows z v (Stamp gtod_ticket gtod raw) w = ShowsStamped z v gtod_ticket gtod raw w
Shows z v kind.Nothing w = ShowsNothing v w
Shows z v (Update p) w = ShowsUpdate z v p w
Shows z v (Pause ticket count) w = ShowsPause v ticket count w

-- ---- all events

-- looks at the mode, or none, and nothing else; what was found per-CPU stays so
pub record HasLooked (v w : Known) : Type 0 where
  pub view_is : w.view ≡ looked_as w.view v.view
  pub found : v.view.modes.found ≡ true → w.view.modes.found ≡ true
  pub epoch_is : w.epoch ≡ v.epoch
  pub time_is : w.time ≡ v.time

-- these events of a thread at this site, one after another, took its seats from v to w; before each there may be looks
abbrev pub Runs : Site → Known → List Event → Known → Type 0
Runs z v [] w = v ≡ w
Runs z v (e ∷ es) w = (t : Known) × (u : Known) × HasLooked v t × Shows (at_call z e.call) t e.kind u × Runs z u es w
