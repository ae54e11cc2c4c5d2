-- When a trace is lawful for a machine. It speaks of printed fields and of what they fix, and of any number of CPUs and
-- readers, in either start, with or without a bring-up and a watchdog, and of the demotions that they call for.
use Rattle.std.specs.Prelude.{◌≡◌, ℤ, pos, ◌+ℤ◌, ◌-ℤ◌, false, [], length, map, flat_map, All, IsPermutation, is_some, Option, Some, None, if◌then◌else◌}
use Rattle.std.specs.List.{AllZip}
use Rattle.clk_base.specs.Walk.{Along, EachFrom}
use Rattle.clk_num.specs.Wrapping.{wrap}
use Rattle.clk_machine.specs.Plan.{Plan, cpu_count, threads_of}
use Rattle.clk_machine.specs.Time.{counter_at}
use Rattle.clk_record.specs.BroughtUp.{IsBroughtUp}
use Rattle.clk_record.specs.declared.stable.Demotion.{Demotion}
use Rattle.clk_lawful.specs.Threads.{owners, readers, reader_cpus}
use Rattle.clk_lawful.specs.Lines.{step_line}
use Rattle.clk_lawful.specs.ScriptEvents.{AreEventsOf}
use Rattle.clk_lawful.specs.Couples.{CouplesLower}
use Rattle.clk_lawful.specs.Standing.{is_stable, begins_stable, standing_offset}
use Rattle.clk_lawful.specs.Modes.{modes_of, IsOfMode, turned_after}
use Rattle.clk_lawful.specs.RightReadings.{HasRightReadings}
use Rattle.clk_lawful.specs.Stamps.{no_pair, first_pair, last_pair, stamp_zero, stamps_of, NamesPair, pair_after, first_numbers, NamesStamps, numbers_after}
use Rattle.clk_lawful.specs.WordHistory.{steps_of, placed_on, line_of}
use Rattle.clk_lawful.specs.LegalHistory.{ReachesTarget, NamesSource, IsLegalHistory}
use Rattle.clk_lawful.specs.SeenBefore.{stood_at, NeverFalls}
use Rattle.clk_lawful.specs.Watchdog.{AreChecks, AreCalledFor}
use Rattle.clk_lawful.specs.Demoted.{HasDemotions}
use Rattle.clk_lawful.specs.declared.trace.WatchTrace.{WatchTrace}
use Rattle.clk_lawful.specs.declared.trace.Trace.{Trace}

-- the machine's threads, each with the events of its script; a coupling steps on the lower word
pub record FollowsScripts (m : Plan) (t : Trace) : Type 0 where
  pub cpus : t.cpu_of.items ≡ map (λ s. s.0) (threads_of m)
  pub events : AllZip (λ s es. AreEventsOf s.0 0 s.1 es.items) (threads_of m) t.threads.items
  pub couples : AllZip (λ cpu es. All (λ e. CouplesLower cpu e.kind) es.items) t.cpu_of.items t.threads.items

-- where the words open: by the last stamp of the boot, or as a demotion at boot says
abbrev pub opening_at : ℤ → Option Demotion → ℤ
opening_at opening None = opening
opening_at opening (Some d) = d.opening

-- record 0, the boot stamps, the offsets and the openings are as the boot makes them; sums wrap
pub record HasOpening (m : Plan) (t : Trace) : Type 0 where
  pub epoch : t.epoch_cyc ≡ counter_at m 0 (pos 0) 0
  pub epoch_drawn : t.epoch_cyc ≡ counter_at m 0 (pos 0) t.epoch_ticket
  pub boots : length t.boots.items ≡ (if m.stable then 2 else 1)
  pub starts : is_stable t.starts ≡ m.stable
  pub gtod_offset : t.gtod_offset ≡ wrap ((first_pair no_pair t.boots.items).raw -ℤ (first_pair no_pair t.boots.items).gtod)
  pub sched_offset :
      t.sched_offset ≡ (if m.stable then wrap (((last_pair no_pair t.boots.items).gtod +ℤ t.gtod_offset) -ℤ (last_pair no_pair t.boots.items).raw) else pos 0)
  pub start_word : t.start_word ≡ opening_at (wrap ((last_pair no_pair t.boots.items).gtod +ℤ t.gtod_offset)) t.boot_demotion

-- each CPU's clock word has a legal history from the opening, and each per-CPU reading names stamps of its CPU: an
-- owner its last one, and so the last before the reading, a reader none older than the reading before
pub record HasLegalHistories (m : Plan) (t : Trace) : Type 0 where
  pub count : length t.histories.items ≡ cpu_count m
  pub words : EachFrom (λ w lines. IsLegalHistory t.start_word (placed_on w (steps_of t)) lines.items) 0 t.histories.items
  pub targets : All (ReachesTarget m.tick) (steps_of t)
  pub sources : All (λ p. NamesSource t.start_word (steps_of t) p.step.why) (steps_of t)
  pub owners : All (λ es. Along (λ p e. NamesPair (standing_offset t) p e.kind) (λ p e. pair_after p e.kind) (stamp_zero t) es.items) (owners m t)
  pub readers :
      AllZip
      (λ cpu es. Along (λ n e. NamesStamps (stamps_of t cpu) (standing_offset t) n e.kind) (λ n e. numbers_after (stamps_of t cpu) n e.kind) first_numbers es.items)
      (reader_cpus m t)
      (readers m t)

-- the histories show the step of each reading once, and nothing else
abbrev pub HoldsEachStepOnce : Trace → Type 0
HoldsEachStepOnce t =
    IsPermutation (map (λ p. step_line (line_of p)) (steps_of t)) (flat_map (λ lines. map step_line lines.items) t.histories.items)

-- each event stands in a mode that it may stand in
abbrev pub HasModes : Trace → Type 0
HasModes t = All (λ es. Along (λ turned e. IsOfMode (modes_of t) t.sched_offset turned e.kind) (λ turned e. turned_after turned e.kind) false es.items) t.threads.items

-- the machine's watchdog made its checks, with the stamps and the demotion that they call for
pub record HasWatchdog (m : Plan) (t : Trace) : Type 0 where
  pub there : is_some t.watch ≡ is_some m.watchdog
  pub checks : (w : WatchTrace) → t.watch ≡ Some w → AreChecks m t.ups.failed w
  pub called : (w : WatchTrace) → t.watch ≡ Some w → AreCalledFor (begins_stable t) w

pub record IsLawful (m : Plan) (t : Trace) : Type 0 where
  pub script : FollowsScripts m t
  pub readings : HasRightReadings m t
  pub histories : HasLegalHistories m t
  pub once : HoldsEachStepOnce t
  pub seen : AllZip (λ cpu es. NeverFalls t.start_word (stood_at t) cpu [] es.items) t.cpu_of.items t.threads.items
  pub modes : HasModes t
  pub bring_up : IsBroughtUp m None t.ups
  pub watchdog : HasWatchdog m t
  pub demotion : HasDemotions m t
  pub opening : HasOpening m t
