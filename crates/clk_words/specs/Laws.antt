-- Laws of histories that functions of this crate carry.
use Rattle.std.specs.Prelude.{◌≡◌, ℕ, ◌<◌, ℤ, ◌⊎◌, true, false, List, ◌∷◌, ◌++◌}
use Rattle.clk_num.specs.Wrapping.{IsNotBelow}
use Rattle.clk_record.specs.declared.mode.Mode.TheVariants.{Stable}
use Rattle.clk_record.specs.declared.step.Step.{Step}
use Rattle.clk_words.specs.declared.opening.Start.{Start}
use Rattle.clk_words.specs.declared.view.View.{View}
use Rattle.clk_words.specs.Told.{FindsOffset}
use Rattle.clk_words.specs.Calls.{KeepsOffset}
use Rattle.clk_words.specs.Histories.{is_lift, opens_at, value_after, HadValue, Follows, IsGlobalHistory, IsChain, steps_on}

-- as a history goes on, no word falls, as the sign of a difference tells
abbrev pub WordsRise : Type 0
WordsRise =
    (start : Start) (front back : List Step) (w : ℕ) → IsGlobalHistory start (front ++ back)
    → IsNotBelow (value_after (opens_at start) w (front ++ back)) (value_after (opens_at start) w front)

-- this step made the word w hold x
pub record WasPut (history : List Step) (w : ℕ) (x : ℤ) : Type 0 where
  pub front : List Step
  pub step : Step
  pub back : List Step
  pub history_is : history ≡ front ++ step ∷ back
  pub word_is : step.word ≡ w
  pub new_is : step.new ≡ x

-- what a word has held is its opening or was put there
abbrev pub HeldWasPut : Type 0
HeldWasPut = (start : Start) (history : List Step) (w : ℕ) (x : ℤ) → HadValue start history w x → (x ≡ opens_at start) ⊎ WasPut history w x

-- on each word the steps go from the opening to the last value, each from where the one before it ended
abbrev pub StepsAreChains : Type 0
StepsAreChains = (start : Start) (history : List Step) (w : ℕ) → IsGlobalHistory start history → IsChain (opens_at start) (steps_on w history)

-- each step of a history may come where it stands
abbrev pub EachFollows : Type 0
EachFollows =
    (start : Start) (front back : List Step) (s : Step) → IsGlobalHistory start (front ++ s ∷ back) → Follows start front s

-- these steps lifted the word w, to a value that x is not below
pub record WasLifted (steps : List Step) (w : ℕ) (x : ℤ) : Type 0 where
  pub front : List Step
  pub lift : Step
  pub back : List Step
  pub steps_are : steps ≡ front ++ lift ∷ back
  pub lifts : is_lift lift.why ≡ true
  pub word_is : lift.word ≡ w
  pub reached : IsNotBelow x lift.new

-- after a stable start each step that is no lift found its word not below what a lift of that word had left
abbrev pub LiftedBefore : Type 0
LiftedBefore =
    (start : Start) (front back : List Step) (s : Step) → IsGlobalHistory start (front ++ s ∷ back) → start.opening.mode ≡ Stable
    → s.word < start.cpus → is_lift s.why ≡ false → WasLifted front s.word s.old

-- the offset that a seat has found it finds again, and so does each seat that has it from there
abbrev pub OffsetStays : Type 0
OffsetStays = (v w u t : View) (x y : ℤ) → FindsOffset v x w → KeepsOffset w u → FindsOffset u y t → y ≡ x
