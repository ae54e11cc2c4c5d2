-- What a watchdog that made all its checks shows: what a lawful trace needs of it.
use Rattle.std.specs.Prelude.{◌≡◌, ℕ, ◌<◌, ℤ, Bool, true, List, ◌++◌, length, All, Some, None}
use mathlib.Core.List.{IsPrefix}
use Rattle.clk_base.specs.Blocks.{Rises, RisesFrom}
use Rattle.clk_base.specs.Walk.{EachFrom, flat_from}
use Rattle.clk_num.specs.Wrapping.{raise}
use Rattle.clk_ticket.specs.Time.{share_of}
use Rattle.clk_machine.specs.Plan.{cpu_count}
use Rattle.clk_machine.specs.Limits.{IsWithinLimits}
use Rattle.clk_machine.specs.declared.reading.Published.{Published}
use Rattle.clk_record.specs.declared.step.Why.TheVariants.{Lift}
use Rattle.clk_record.specs.declared.step.Step.{Step}
use Rattle.clk_record.specs.declared.stable.StableStamp.{StableStamp}
use Rattle.clk_record.specs.declared.stable.Demotion.{Demotion}
use Rattle.clk_record.specs.Demotions.{IsDemotion}
use Rattle.clk_words.specs.Histories.{opens_at}
use Rattle.clk_words.specs.Parts.{gtod_of, raw_of, part_of}
use Rattle.clk_lawful.specs.Checks.{pause_of, watch_blocks, checks_of}
use Rattle.clk_lawful.specs.Demoted.{HasOffset, last_stamp}
use Rattle.clk_lawful.specs.RightReadings.{check_cpu, named_in, NeverFall, IsRightVisit}
use Rattle.clk_lawful.specs.declared.trace.WatchTrace.{WatchTrace}
use Rattle.clk_demote.specs.Context.{Site, Known}
use Rattle.clk_demote.specs.Shows.{adjust_at}
use Rattle.clk_demote.specs.Stamping.{epoch_at}
use Rattle.clk_watcher.specs.Checking.{HasWatched}

-- the lift of a word in this check by a demotion that opens here, where words opened at o
pub record IsLift (check : ℕ) (o opening : ℤ) (w : ℕ) (s : Step) : Type 0 where
  pub word : s.word ≡ w
  pub call : s.call ≡ check
  pub why : s.why ≡ Lift opening
  pub old : s.old ≡ o
  pub new : s.new ≡ raise o opening

-- a demotion that the watchdog kept: it goes by the last stable stamp, the seat made its lifts and nothing else, and by
-- its end it knows the mode, the offset and each pair as the demotion left them
pub record DemotedShows (z : Site) (began : Known) (w : WatchTrace) (ended : Known) (d : Demotion) : Type 0 where
  pub is : (stamp : StableStamp) → stamp ≡ last_stamp began.last w.stamps.items → IsDemotion z.sched_offset stamp.offset stamp d
  pub lifts : EachFrom (IsLift w.demoted_in (opens_at began.view.start) d.opening) 0 w.lifts.items
  pub count : length w.lifts.items ≡ cpu_count z.machine
  pub by : All (λ s. s.by ≡ began.view.number) w.lifts.items
  pub mine : ended.view.mine ≡ began.view.mine ++ w.lifts.items
  pub seen : ended.view.seen ≡ began.view.seen ++ w.lifts.items
  pub found : ended.view.modes.found ≡ true
  pub offset : ended.view.modes.offset ≡ Some d.gtod_offset
  pub raws : (c : ℕ) → c < cpu_count z.machine → (part_of ended.view.pairs.parts (raw_of c)).zero ≡ Some d.raw.ns
  pub gtods : (c : ℕ) → c < cpu_count z.machine → (part_of ended.view.pairs.parts (gtod_of c)).zero ≡ Some d.gtod

pub record WatchShows (z : Site) (began : Known) (w : WatchTrace) (ended : Known) : Type 0 where
  -- the tickets
  pub blocks : ended.time.blocks ≡ began.time.blocks ++ watch_blocks (pause_of z.machine) (checks_of w)
  pub rises : RisesFrom began.time.seen (watch_blocks (pause_of z.machine) (checks_of w))
  pub share : share_of ended.time ≡ share_of began.time
  -- the readings, by records that begin with what it had seen of each CPU at its end
  pub right : (records : ℕ → List Published)
      → ((c : ℕ) → c < cpu_count z.machine → IsPrefix (epoch_at ended.epochs c).records (records c))
      → EachFrom (λ n c. All (IsRightVisit z.machine (check_cpu z.machine n) (adjust_at z (check_cpu z.machine n)) (records (check_cpu z.machine n))) c.visits) 0 (checks_of w)
  pub later : (c : ℕ) → NeverFall 0 (flat_from (named_in z.machine c) 0 (checks_of w))
  -- the stable stamps
  pub stamps : All (HasOffset z.sched_offset) w.stamps.items
  -- the seat at the words: with no demotion it made and saw nothing
  pub mine : w.demotion ≡ None → ended.view.mine ≡ began.view.mine
  pub seen : w.demotion ≡ None → ended.view.seen ≡ began.view.seen
  pub demoted : (d : Demotion) → w.demotion ≡ Some d → DemotedShows z began w ended d

-- a watchdog that made all its checks shows that, where it began with blocks that rise, a latch's seat of each CPU, and
-- the offset of the stamp that it goes by
abbrev pub WatchedIsShown : Type 0
WatchedIsShown =
    (z : Site) (stable lost : Bool) (began : Known) (w : WatchTrace) (ended : Known)
    → IsWithinLimits z.machine → length began.epochs ≡ cpu_count z.machine → Rises began.time.blocks → began.gtod_offset ≡ began.last.offset
    → HasWatched z stable lost began w ended → WatchShows z began w ended
