-- What a demotion does to the clock in a lawful trace.
use Rattle.std.specs.Prelude.{◌≡◌, ℕ, pos, ◌≤ℤ◌, List, length, Some}
use Rattle.clk_base.specs.Walk.{EachFrom}
use Rattle.clk_num.specs.Wrapping.{above, IsAbove}
use Rattle.clk_machine.specs.Plan.{Plan, cpu_count}
use Rattle.clk_record.specs.declared.step.Step.{Step}
use Rattle.clk_record.specs.declared.stable.Demotion.{Demotion}
use Rattle.clk_record.specs.Demotions.{OpensLessDrift}
use Rattle.clk_lawful.specs.LawfulTrace.{IsLawful}
use Rattle.clk_lawful.specs.Standing.{demotion_of}
use Rattle.clk_lawful.specs.declared.trace.WatchTrace.{WatchTrace}
use Rattle.clk_lawful.specs.declared.trace.Trace.{Trace}

-- the clock opens at the stable value of the demotion's own raw reading, less the drift
abbrev pub LosesTheDrift : Type 0
LosesTheDrift = (m : Plan) (t : Trace) (d : Demotion) → IsLawful m t → demotion_of t ≡ Some d → OpensLessDrift d

-- ---- the clock words

-- the lift of the word w: the word takes the demotion's opening where that is above it, and else keeps its value
pub record KeepsHigher (t : Trace) (d : Demotion) (w : ℕ) (s : Step) : Type 0 where
  pub word : s.word ≡ w
  pub stood : s.old ≡ t.start_word
  pub lifted : IsAbove d.opening s.old → s.new ≡ d.opening
  pub stays : above d.opening s.old ≤ℤ pos 0 → s.new ≡ s.old

-- a demotion by the watchdog lifts each word once
pub record LiftsOnce (m : Plan) (t : Trace) (d : Demotion) (lifts : List Step) : Type 0 where
  pub all : length lifts ≡ cpu_count m
  pub each : EachFrom (KeepsHigher t d) 0 lifts

abbrev pub HigherWordsStay : Type 0
HigherWordsStay =
    (m : Plan) (t : Trace) (w : WatchTrace) (d : Demotion) → IsLawful m t → t.watch ≡ Some w → w.demotion ≡ Some d → LiftsOnce m t d w.lifts.items
