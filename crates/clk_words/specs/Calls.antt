-- What a call does to a seat, and what the history is at the end.
use Rattle.std.specs.Prelude.{◌≡◌, ℕ, ◌<◌, ℤ, List, flat_map, All, Option, None, ◌⊎◌}
use Rattle.std.specs.List.{sum_by}
use Rattle.clk_num.specs.Wrapping.{IsAbove}
use Rattle.clk_record.specs.declared.step.Step.{Step}
use Rattle.clk_record.specs.declared.step.Why.{Why}
use Rattle.clk_words.specs.declared.opening.Start.{Start}
use Rattle.clk_words.specs.declared.step.Put.{Put}
use Rattle.clk_words.specs.declared.step.Put.TheVariants.{Done, Lost}
use Rattle.clk_words.specs.declared.view.View.{View}
use Rattle.clk_words.specs.declared.view.ModeView.{ModeView}
use Rattle.clk_words.specs.Fronts.{Begins}
use Rattle.clk_words.specs.Histories.{opens_at, value_after, IsGlobalHistory, IsChain, steps_by, steps_on}
use Rattle.clk_words.specs.Parts.{part_of, PartBegins}
use Rattle.clk_words.specs.Views.{own_lists, together}
use Rattle.clk_words.specs.Knowing.{IsGood}
use Rattle.clk_words.specs.Told.{Looks}

-- the step that a seat is asked to make
abbrev pub step_of : View → ℕ → ℕ → ℤ → ℤ → Why → Step
step_of v call w old new why = record { by = v.number; call = call; word = w; why = why; old = old; new = new }

-- in each case of an exchange
abbrev pub OnDone : Put → (Step → Type 0) → Type 0
OnDone (Done s) P = P s
OnDone (Lost found) P = Unit {0}

abbrev pub OnLost : Put → (ℤ → Type 0) → Type 0
OnLost (Done s) P = Unit {0}
OnLost (Lost found) P = P found

-- the word held another value, which is later; the seat has seen how
pub record Loses (v : View) (word : ℕ) (old found : ℤ) (w : View) : Type 0 where
  pub looks : Looks v w
  pub value_is : value_after (opens_at v.start) word w.seen ≡ found
  pub later : IsAbove found old

-- what was seen of the offset is seen still
abbrev pub KeepsOffset : View → View → Type 0
KeepsOffset v w = (v.modes.offset ≡ None) ⊎ (v.modes.offset ≡ w.modes.offset)

-- two seats as one: what either side had seen begins what is kept, an owner's list is kept as it was, and so is the
-- offset
pub record Joins (a b w : View) : Type 0 where
  pub view_is : w ≡ together a b
  pub good : IsGood w
  pub first : Begins a.seen w.seen
  pub second : Begins b.seen w.seen
  pub first_parts : (r : ℕ) → PartBegins (part_of a.pairs.parts r) (part_of w.pairs.parts r)
  pub second_parts : (r : ℕ) → PartBegins (part_of b.pairs.parts r) (part_of w.pairs.parts r)
  pub first_offset : KeepsOffset a w
  pub second_offset : KeepsOffset b w

-- all steps that a seat has
abbrev pub own_steps : View → List Step
own_steps v = flat_map (λ own. own.1) (own_lists v)

-- the history has each own step once, each seat's in its order, and is a chain on each word
pub record IsComplete (start : Start) (v : View) (history : List Step) : Type 0 where
  pub is : history ≡ v.seen
  pub legal : IsGlobalHistory start history
  pub once : (f : Step → ℕ) → sum_by f history ≡ sum_by f (own_steps v)
  pub order : (n : ℕ) → steps_by n history ≡ steps_by n (own_steps v)
  pub lists : All (λ own. steps_by own.0 history ≡ own.1) (own_lists v)
  pub made_by : All (λ s. s.by < v.made) history
  pub chain : (w : ℕ) → IsChain (opens_at start) (steps_on w history)

-- the same view of the modes with this of the offset
abbrev pub with_offset : Option ℤ → ModeView → ModeView
with_offset seen m = record m { offset = seen }

-- what no load, exchange or stamp changes; of the modes a load may only learn the offset
pub record KeepsSeat (v w : View) : Type 0 where
  pub start_is : w.start ≡ v.start
  pub number_is : w.number ≡ v.number
  pub kind_is : w.kind ≡ v.kind
  pub made_is : w.made ≡ v.made
  pub joined_is : w.joined ≡ v.joined
  pub owns_is : w.pairs.owns ≡ v.pairs.owns
  pub gives_is : w.gives ≡ v.gives
  pub modes_is : w.modes ≡ with_offset w.modes.offset v.modes
  pub offset_is : KeepsOffset v w
