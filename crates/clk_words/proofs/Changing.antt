-- What most kinds of step change of the rule, and what stays.
use Rattle.std.proofs.Common.{◌≡◌, ℕ, ℤ, false, length, ◌∙◌}
use Rattle.atomic_table.specs.Table.{State}
use Rattle.clk_record.specs.declared.step.Step.{Step}
use Rattle.clk_words.specs.declared.opening.Start.{Start}
use Rattle.clk_words.specs.declared.view.View.{View}
use Rattle.clk_words.specs.Histories.{opens_at}
use Rattle.clk_words.specs.WordsRule.{Chain, HasSeenAll, IsQuiet, HistoryPart, PairPart, ModePart, Kept}

-- the history, who holds which right, and the mode stay; the words, the views, the registers and the offset may change
pub changed : (start : Start) (s t : State Step View) (chain : ℕ → Chain) (offset : ℤ) (kept : Kept start s) → length t.words ≡ length s.words
    → (kept.percpu ≡ false → HasSeenAll kept.history t.views) → (kept.percpu ≡ false → IsQuiet chain t.views)
    → HistoryPart start kept.history kept.made kept.holder kept.splitter t.words t.views
    → PairPart start.cpus (opens_at start) chain kept.writer t.words t.views
    → ModePart start kept.percpu offset kept.watcher t.words t.views → Kept start t
changed start s t chain offset kept wide whole quiet clocks pairs modes = record {
  history = kept.history;
  made = kept.made;
  holder = kept.holder;
  splitter = kept.splitter;
  chain = chain;
  writer = kept.writer;
  percpu = kept.percpu;
  offset = offset;
  watcher = kept.watcher;
  wide = wide ∙ kept.wide;
  lifts_first = kept.lifts_first;
  lifted = kept.lifted;
  whole = whole;
  quiet = quiet;
  clocks = clocks;
  pairs = pairs;
  modes = modes;
}
