-- What a remote read shows, as the event of a trace does: told of what the thread's seats had before it and after it.
use Rattle.std.specs.Prelude.{◌≡◌, ℕ, ℤ, [], ◌∷◌, ◌++◌}
use Rattle.clk_num.specs.Wrapping.{IsNotBelow}
use Rattle.clk_machine.specs.declared.reading.RawReading.{RawReading}
use Rattle.clk_record.specs.declared.mode.Mode.{Mode}
use Rattle.clk_record.specs.declared.mode.Mode.TheVariants.{Stable as StableMode, PerCpu as PerCpuMode}
use Rattle.clk_record.specs.declared.step.Step.{Step}
use Rattle.clk_record.specs.LowerWord.{lower_value}
use Rattle.clk_words.specs.declared.view.View.{View}
use Rattle.clk_words.specs.declared.view.Name.TheVariants.{Clock}
use Rattle.clk_words.specs.Histories.{NamesHeld}
use Rattle.clk_words.specs.Told.{Loads, Raises}
use Rattle.clk_local.specs.Context.{Site, Known}
use Rattle.clk_local.specs.Raising.{shown_on}
use Rattle.clk_local.specs.Shows.{ShowsLook, ShowsStable, ShowsRaised}
use Rattle.clk_remote.specs.declared.event.RemoteEvent.{RemoteEvent}
use Rattle.clk_remote.specs.declared.event.RemoteEvent.TheVariants.{Stable, Coupled}
use Rattle.clk_remote.specs.Coupling.{coupling_step}

-- both words: the own one, and then that of the CPU asked
pub record LoadsBoth (v : View) (cpu asked : ℕ) (own other : ℤ) (w : View) : Type 0 where
  pub half : View
  pub first : Loads v cpu own half
  pub second : Loads half asked other w

-- a coupling: both loads, and then one step that raises the lower word to the other's value
pub record ShowsCoupling (z : Site) (asked : ℕ) (v : Known) (own other : ℤ) (step : Step) (w : Known) : Type 0 where
  pub loaded : View
  pub loads : LoadsBoth v.view z.cpu asked own other loaded
  pub raises : Raises loaded step w.view
  pub step_is : step ≡ coupling_step v.view z.call z.cpu asked own other step.old
  pub epoch_is : w.epoch ≡ v.epoch
  pub time_is : w.time ≡ v.time
  -- what that comes to in the seat's lists
  pub mine_is : w.view.mine ≡ v.view.mine ++ step ∷ []
  pub seen_is : w.view.seen ≡ (v.view.seen ++ (loads.first.between ++ loads.second.between ++ raises.makes.between)) ++ step ∷ []
  pub loads_is : w.view.loads ≡ v.view.loads ++ (record { of = Clock z.cpu; value = own }) ∷ (record { of = Clock asked; value = other }) ∷ []
  pub pairs_is : w.view.pairs ≡ v.view.pairs
  -- the value that the step names is one that the other word held
  pub named : NamesHeld v.view.start loaded.seen step.why
  -- what was loaded is not below what the seat had seen, what the step found is not below what was loaded, and the
  -- reading is below neither that nor what the seat had seen
  pub own_not_below : IsNotBelow own (shown_on z.cpu v.view)
  pub other_not_below : IsNotBelow other (shown_on asked v.view)
  pub old_not_below : IsNotBelow step.old (lower_value own other)
  pub rises : IsNotBelow step.new step.old
  pub new_not_below : IsNotBelow step.new (shown_on step.word v.view)

-- a remote reading of a per-CPU clock: a raised reading of the own word, and then a coupling
pub record ShowsCoupled (z : Site) (asked : ℕ) (v : Known) (raw : RawReading) (local : Step) (own other : ℤ) (step : Step) (w : Known) : Type 0 where
  pub between : Known
  pub raises : ShowsRaised z v raw local between
  pub couples : ShowsCoupling z asked between own other step w
  pub mine_is : w.view.mine ≡ v.view.mine ++ local ∷ step ∷ []

-- the mode that an answer speaks of
abbrev pub mode_coupled : RemoteEvent → Mode
mode_coupled (Stable raw value) = StableMode
mode_coupled (Coupled raw local own other step) = PerCpuMode

-- in each case
abbrev pub OnRemote : Site → ℕ → Known → RemoteEvent → Known → Type 0
OnRemote z asked v (Stable raw value) w = ShowsStable z v raw value w
OnRemote z asked v (Coupled raw local own other step) w = ShowsCoupled z asked v raw local own other step w

-- a remote reading: a look, which finds the mode that the answer speaks of, and then that reading
pub record ShowsRemote (z : Site) (asked : ℕ) (v : Known) (e : RemoteEvent) (w : Known) : Type 0 where
  pub between : Known
  pub looks : ShowsLook v (mode_coupled e) between
  pub shows : OnRemote z asked between e w
