-- The rule, which holds between any two steps: three parts over one base.
use Rattle.std.specs.Prelude.{◌≡◌, ℕ, ◌+◌, ◌*◌, ◌<◌, ◌≤◌, ℤ, Bool, true, List, [], length, slice_index, nat_eq, All, ◌⊎◌, None, Some, if◌then◌else◌, false, IsTrue}
use Rattle.std.specs.List.{count_by}
use mathlib.Core.Option.{some}
use lib.ListN.{get_elem?}
use Rattle.atomic_table.specs.Table.{State}
use Rattle.clk_num.specs.Wrapping.{IsBitsOf}
use Rattle.clk_record.specs.declared.mode.Mode.TheVariants.{PerCpu}
use Rattle.clk_record.specs.declared.step.Step.{Step}
use Rattle.clk_words.specs.declared.opening.Start.{Start}
use Rattle.clk_words.specs.declared.view.View.{View}
use Rattle.clk_words.specs.declared.view.Part.{Part}
use Rattle.clk_words.specs.declared.view.PairView.{PairView}
use Rattle.clk_words.specs.declared.view.ModeView.{ModeView}
use Rattle.clk_words.specs.Fronts.{Begins}
use Rattle.clk_words.specs.Histories.{is_lift, AllLifted, opens_at, value_after, IsGlobalHistory, steps_by}
use Rattle.clk_words.specs.Heights.{IsClockWord}
use Rattle.clk_words.specs.Bounds.{IsGtod, IsRaw, IsOffset, IsClock}
use Rattle.clk_words.specs.Parts.{gtod_of, raw_of, part_of, last_from, PartBegins}
use Rattle.clk_words.specs.Rights.{has_number}
use Rattle.clk_words.specs.Views.{own_lists}

-- the seat n is held at the place j of the views, and these are its steps, in the history and in what was seen of it
pub record IsOwn (history : List Step) (made : ℕ) (holder : ℕ → ℕ) (j : ℕ) (front : List Step) (n : ℕ) (steps : List Step) : Type 0 where
  pub was_made : n < made
  pub held : holder n ≡ j
  pub in_history : steps_by n history ≡ steps
  pub in_front : steps_by n front ≡ steps

-- what the history part says of one view
pub record Fits (start : Start) (history : List Step) (made : ℕ) (holder : ℕ → ℕ) (splitter j : ℕ) (v : View) : Type 0 where
  pub start_is : v.start ≡ start
  pub front : Begins v.seen history
  pub lists : All (λ own. IsOwn history made holder j v.seen own.0 own.1) (own_lists v)
  pub single : (n : ℕ) → count_by (λ own. nat_eq own.0 n) (own_lists v) ≤ 1
  pub splits : 0 < v.made → (v.made ≡ made) × (j ≡ splitter)
  pub told_is : All (λ front. Begins front v.seen) v.told

-- the history part: the clock words are its replay, and each view has seen a beginning of it
pub record HistoryPart (start : Start) (history : List Step) (made : ℕ) (holder : ℕ → ℕ) (splitter : ℕ) (words : List ℕ) (views : List View) : Type 0 where
  pub legal : IsGlobalHistory start history
  pub made_by : All (λ s. s.by < made) history
  pub clocks : (w : ℕ) → w < start.cpus → IsClockWord start (value_after (opens_at start) w history) (slice_index words w)
  pub range : (w : ℕ) → IsClock (opens_at start) (value_after (opens_at start) w history)
  pub each : (j : ℕ) (v : View) → get_elem? views j ≡ some v → v.live ≡ true → Fits start history made holder splitter j v

-- the values that a stamp word has held
pub record Chain : Type 0 where
  pub zero_is : ℤ
  pub after : List ℤ

abbrev pub last_of : Chain → ℤ
last_of c = last_from c.zero_is c.after

-- a part knows stamp 0 or not, and a beginning of what follows
pub record Knows (c : Chain) (p : Part) : Type 0 where
  pub zero_is : (p.zero ≡ None) ⊎ (p.zero ≡ Some c.zero_is)
  pub after : Begins p.after c.after

-- what the pair part says of one view: of the CPUs that it owns it knows all that follows stamp 0
pub record FitsPairs (chain : ℕ → Chain) (p : PairView) : Type 0 where
  pub known : (r : ℕ) → Knows (chain r) (part_of p.parts r)
  pub gtods : (c : ℕ) → has_number p.owns c ≡ true → (part_of p.parts (gtod_of c)).after ≡ (chain (gtod_of c)).after
  pub raws : (c : ℕ) → has_number p.owns c ≡ true → (part_of p.parts (raw_of c)).after ≡ (chain (raw_of c)).after
  pub told_is : All (λ parts. (r : ℕ) → PartBegins (part_of parts r) (part_of p.parts r)) p.told

-- the pair part: each stamp word holds the last of its list, a CPU has as many GTODs as raws or one more, and one
-- writer
pub record PairPart (cpus : ℕ) (opens : ℤ) (chain : ℕ → Chain) (writer : ℕ → ℕ) (words : List ℕ) (views : List View) : Type 0 where
  pub lasts : (r : ℕ) → r < 2 * cpus → IsBitsOf (last_of (chain r)) (slice_index words (cpus + r))
  pub ahead : (c : ℕ) → length (chain (raw_of c)).after ≤ length (chain (gtod_of c)).after
  pub close : (c : ℕ) → length (chain (gtod_of c)).after ≤ length (chain (raw_of c)).after + 1
  pub gtods : (c : ℕ) → IsGtod (last_of (chain (gtod_of c)))
  pub raws : (c : ℕ) → IsRaw opens (last_of (chain (raw_of c)))
  pub writers : (j : ℕ) (v : View) → get_elem? views j ≡ some v → (c : ℕ) → has_number v.pairs.owns c ≡ true → writer c ≡ j
  pub each : (j : ℕ) (v : View) → get_elem? views j ≡ some v → FitsPairs chain v.pairs

-- what the mode part says of one view: while the mode is stable none has seen the offset, and the watchdog's seat knows
-- both as they stand
pub record FitsModes (percpu : Bool) (offset : ℤ) (watcher j : ℕ) (m : ModeView) : Type 0 where
  pub found_is : m.found ≡ true → percpu ≡ true
  pub offset_is : (m.offset ≡ None) ⊎ (m.offset ≡ Some offset)
  pub watches : m.watch ≡ true → watcher ≡ j
  pub knows : m.watch ≡ true → m.found ≡ percpu
  pub hidden : percpu ≡ false → m.offset ≡ None
  pub held_is : m.watch ≡ true → m.held ≡ Some offset
  pub told_is : All (λ seen. (seen ≡ None) ⊎ (seen ≡ m.offset)) m.told

-- the mode part: the mode and the offset stand in their words, and one seat has the watchdog's right
pub record ModePart (start : Start) (percpu : Bool) (offset : ℤ) (watcher : ℕ) (words : List ℕ) (views : List View) : Type 0 where
  pub mode_word : slice_index words (3 * start.cpus) ≡ (if percpu then 1 else 0)
  pub offset_word : IsBitsOf offset (slice_index words (3 * start.cpus + 1))
  pub range : IsOffset (opens_at start) offset
  pub fixed : start.opening.mode ≡ PerCpu → (percpu ≡ true) × (offset ≡ start.opening.offset)
  pub each : (j : ℕ) (v : View) → get_elem? views j ≡ some v → FitsModes percpu offset watcher j v.modes

-- the seat with the watchdog's right has seen the whole history
abbrev pub HasSeenAll : List Step → List View → Type 0
HasSeenAll history views = (j : ℕ) (v : View) → get_elem? views j ≡ some v → v.modes.watch ≡ true → v.seen ≡ history

-- the pairs before the mode is per-CPU: no stamp was made, none has seen stamp 0, and the watchdog's seat holds it
pub record IsQuiet (chain : ℕ → Chain) (views : List View) : Type 0 where
  pub bare : (r : ℕ) → (chain r).after ≡ []
  pub unknown : (j : ℕ) (v : View) → get_elem? views j ≡ some v → (r : ℕ) → (part_of v.pairs.parts r).zero ≡ None
  pub cloned : (j : ℕ) (v : View) → get_elem? views j ≡ some v → v.modes.watch ≡ true → (r : ℕ) → Knows (chain r) (part_of v.modes.cloned r)

pub record Kept (start : Start) (s : State Step View) : Type 0 where
  pub history : List Step
  pub made : ℕ
  pub holder : ℕ → ℕ
  pub splitter : ℕ
  pub chain : ℕ → Chain
  pub writer : ℕ → ℕ
  pub percpu : Bool
  pub offset : ℤ
  pub watcher : ℕ
  pub wide : length s.words ≡ 3 * start.cpus + 2
  -- while the mode is stable there are lifts alone, and once it is per-CPU every word was lifted
  pub lifts_first : percpu ≡ false → All (λ t. IsTrue (is_lift t.why)) history
  pub lifted : percpu ≡ true → AllLifted start history
  pub whole : percpu ≡ false → HasSeenAll history s.views
  pub quiet : percpu ≡ false → IsQuiet chain s.views
  pub clocks : HistoryPart start history made holder splitter s.words s.views
  pub pairs : PairPart start.cpus (opens_at start) chain writer s.words s.views
  pub modes : ModePart start percpu offset watcher s.words s.views
