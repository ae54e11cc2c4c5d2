-- When the stable stamps and the demotions of a trace are right: what each took from the readings that it shows.
use Rattle.std.specs.Prelude.{◌≡◌, ℕ, ℤ, true, ◌&&◌, is_some, List, [], ◌∷◌, length, All, Some, None}
use Rattle.clk_base.specs.Walk.{EachFrom}
use Rattle.clk_num.specs.Wrapping.{raise}
use Rattle.clk_machine.specs.Plan.{Plan, cpu_count}
use Rattle.clk_record.specs.declared.step.Step.{Step}
use Rattle.clk_record.specs.declared.step.Why.TheVariants.{Lift}
use Rattle.clk_record.specs.declared.stable.StableStamp.{StableStamp}
use Rattle.clk_record.specs.declared.stable.Demotion.{Demotion}
use Rattle.clk_record.specs.Demotions.{offset_by, IsDemotion}
use Rattle.clk_lawful.specs.Checks.{checks_of}
use Rattle.clk_lawful.specs.Standing.{is_stable}
use Rattle.clk_lawful.specs.declared.trace.WatchTrace.{WatchTrace}
use Rattle.clk_lawful.specs.declared.trace.Trace.{Trace}

-- the last of some stamps, or this one if there are none
abbrev pub last_stamp : StableStamp → List StableStamp → StableStamp
last_stamp s [] = s
last_stamp s (next ∷ stamps) = last_stamp next stamps

-- the last stamp of the boot, by the offset that the start line shows
abbrev pub boot_stamp : ℤ → StableStamp → List StableStamp → StableStamp
boot_stamp offset s stamps = record (last_stamp s stamps) { offset = offset }

-- a stable stamp shows what takes monotonic time to the stable clock
abbrev pub HasOffset : ℤ → StableStamp → Type 0
HasOffset sched_offset s = s.offset ≡ offset_by sched_offset s.gtod s.raw.ns

-- ---- at boot

-- a demotion at boot stands exactly where a bring-up of a stable start failed, and goes by the last stamp of the boot
pub record IsDemotedAtBoot (t : Trace) : Type 0 where
  pub called : is_some t.boot_demotion ≡ (is_stable t.starts && t.ups.failed)
  pub demotion : (d : Demotion) (s : StableStamp) → t.boot_demotion ≡ Some d → IsDemotion t.sched_offset t.gtod_offset (boot_stamp t.gtod_offset s t.boots.items) d

-- ---- by the watchdog

-- the lift of the word w in this check: from its opening to where the demotion opens, if that is later
pub record IsLiftOf (t : Trace) (check : ℕ) (d : Demotion) (w : ℕ) (s : Step) : Type 0 where
  pub word : s.word ≡ w
  pub call : s.call ≡ check
  pub why : s.why ≡ Lift d.opening
  pub old : s.old ≡ t.start_word
  pub new : s.new ≡ raise t.start_word d.opening

-- a demotion goes by the last stable stamp before it, and lifts each word; it stands in the check that it names
pub record IsDemotedBy (m : Plan) (t : Trace) (w : WatchTrace) (d : Demotion) : Type 0 where
  pub demotion : (s : StableStamp)
      → (stamp : StableStamp) → stamp ≡ last_stamp (boot_stamp t.gtod_offset s t.boots.items) w.stamps.items → IsDemotion t.sched_offset stamp.offset stamp d
  pub check : EachFrom (λ n c. All (λ v. is_some v.demotion ≡ true → w.demoted_in ≡ n) c.visits) 0 (checks_of w)
  pub each : EachFrom (IsLiftOf t w.demoted_in d) 0 w.lifts.items
  pub all : length w.lifts.items ≡ cpu_count m

-- each stable stamp has its offset; with no demotion nothing is lifted
pub record IsDemotedRight (m : Plan) (t : Trace) (w : WatchTrace) : Type 0 where
  pub stamps : All (HasOffset t.sched_offset) w.stamps.items
  pub demoted : (d : Demotion) → w.demotion ≡ Some d → IsDemotedBy m t w d
  pub none : w.demotion ≡ None → (w.lifts.items ≡ []) × (w.demoted_in ≡ 0)

-- all stamps and demotions of a trace
pub record HasDemotions (m : Plan) (t : Trace) : Type 0 where
  pub boot : IsDemotedAtBoot t
  pub watch : (w : WatchTrace) → t.watch ≡ Some w → IsDemotedRight m t w
