-- How a thread raises its own CPU's word, by the pair and the raw reading that it goes by.
use Rattle.std.specs.Prelude.{◌≡◌, ℕ, ℤ}
use Rattle.clk_num.specs.Wrapping.{raise}
use Rattle.clk_record.specs.declared.step.Step.{Step}
use Rattle.clk_record.specs.declared.step.Why.{Why}
use Rattle.clk_record.specs.declared.step.Why.TheVariants.{Raise}
use Rattle.clk_record.specs.Targets.{target}
use Rattle.clk_words.specs.declared.view.View.{View}
use Rattle.clk_words.specs.Calls.{step_of}
use Rattle.clk_words.specs.Histories.{opens_at, value_after}
use Rattle.clk_words.specs.Kinds.{cpu_of}
use Rattle.clk_words.specs.Told.{FindsRaw, FindsGtod, FindsOffset}

-- the pair of the seat's CPU: its raw value first, then its GTOD
pub record FindsPair (v : View) (tick_raw tick_gtod : ℤ) (w : View) : Type 0 where
  pub half : View
  pub first : FindsRaw v (cpu_of v.kind) tick_raw half
  pub second : FindsGtod half (cpu_of v.kind) tick_gtod w

-- what a reading goes by: the raw clock now, that pair, and then the offset
pub record FindsWhy (v : View) (raw : ℤ) (why : Why) (w : View) : Type 0 where
  pub tick_raw : ℤ
  pub tick_gtod : ℤ
  pub offset : ℤ
  pub both : View
  pub pair : FindsPair v tick_raw tick_gtod both
  pub last : FindsOffset both offset w
  pub why_is : why ≡ Raise raw tick_raw tick_gtod offset

-- what the view says that a clock word holds
abbrev pub shown_on : ℕ → View → ℤ
shown_on word v = value_after (opens_at v.start) word v.seen

-- the step of a call on the seat's own word, over the value that it found there
abbrev pub own_step : View → ℕ → Why → ℤ → Step
own_step v call why old = step_of v call (cpu_of v.kind) old (raise old (target v.start.tick why)) why
