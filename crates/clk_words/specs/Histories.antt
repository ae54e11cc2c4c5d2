-- One history over all clock words.
use Rattle.std.specs.Prelude.{◌≡◌, ℕ, ℤ, List, [], ◌∷◌, ◌++◌, filter, nat_eq, if◌then◌else◌, Bool, true, false, ◌&&◌, ◌||◌, ◌<◌, All, IsTrue}
use Rattle.clk_base.specs.Chains.{IsChainBy}
use Rattle.clk_num.specs.Wrapping.{raise}
use Rattle.clk_record.specs.declared.mode.Mode.TheVariants.{Stable}
use Rattle.clk_record.specs.declared.step.Step.{Step}
use Rattle.clk_record.specs.declared.step.Why.{Why}
use Rattle.clk_record.specs.declared.step.Why.TheVariants.{Raise, Couple, Lift}
use Rattle.clk_record.specs.Targets.{target}
use Rattle.clk_words.specs.declared.opening.Start.{Start}
use Rattle.clk_words.specs.Bounds.{opens_of, IsClock}

-- what each clock word begins with
abbrev pub opens_at : Start → ℤ
opens_at start = opens_of start.opening

-- what the word w holds after these steps, if it held x before them
abbrev pub value_after : ℤ → ℕ → List Step → ℤ
value_after x w [] = x
value_after x w (s ∷ steps) = value_after (if nat_eq s.word w then s.new else x) w steps

-- the word w held x at some moment of this history
pub record HadValue (start : Start) (history : List Step) (w : ℕ) (x : ℤ) : Type 0 where
  pub front : List Step
  pub back : List Step
  pub history_is : history ≡ front ++ back
  pub value_is : value_after (opens_at start) w front ≡ x

-- a remote reading names a value that the other word held
abbrev pub NamesHeld : Start → List Step → Why → Type 0
NamesHeld start before (Raise raw tick_raw tick_gtod offset) = Unit {0}
NamesHeld start before (Couple from value) = HadValue start before from value
NamesHeld start before (Lift value) = Unit {0}

-- a step that ends the stable mode, and whether these steps lifted the word w
abbrev pub is_lift : Why → Bool
is_lift (Raise raw tick_raw tick_gtod offset) = false
is_lift (Couple from value) = false
is_lift (Lift value) = true

abbrev pub has_lift : List Step → ℕ → Bool
has_lift [] w = false
has_lift (s ∷ steps) w = (is_lift s.why && nat_eq s.word w) || has_lift steps w

-- after a stable start every word was lifted
abbrev pub AllLifted : Start → List Step → Type 0
AllLifted start before = start.opening.mode ≡ Stable → (w : ℕ) → w < start.cpus → IsTrue (has_lift before w)

-- lifts come before all other steps, and after a stable start those come when every word was lifted
abbrev pub IsInOrder : Start → List Step → Why → Type 0
IsInOrder start before (Raise raw tick_raw tick_gtod offset) = AllLifted start before
IsInOrder start before (Couple from value) = AllLifted start before
IsInOrder start before (Lift value) = All (λ s. IsTrue (is_lift s.why)) before

-- the step may come after these: its word held `old`, and is raised to the target. Its range is said too, as steps
-- that rise by the sign of a difference alone could go round in a circle
pub record Follows (start : Start) (before : List Step) (s : Step) : Type 0 where
  pub old_is : s.old ≡ value_after (opens_at start) s.word before
  pub new_is : s.new ≡ raise s.old (target start.tick s.why)
  pub range : IsClock (opens_at start) s.new
  pub names : NamesHeld start before s.why
  pub in_order : IsInOrder start before s.why

-- each of these steps may come after those before it
abbrev pub AllFollow : Start → List Step → List Step → Type 0
AllFollow start before [] = Unit {0}
AllFollow start before (s ∷ steps) = Follows start before s × AllFollow start (before ++ s ∷ []) steps

abbrev pub IsGlobalHistory : Start → List Step → Type 0
IsGlobalHistory start history = AllFollow start [] history

-- the steps that the seat n made, and those on the word w
abbrev pub steps_by : ℕ → List Step → List Step
steps_by n steps = filter (λ s. nat_eq s.by n) steps

abbrev pub steps_on : ℕ → List Step → List Step
steps_on w steps = filter (λ s. nat_eq s.word w) steps

-- each step finds what the one before it left, and the first finds x
abbrev pub IsChain : ℤ → List Step → Type 0
IsChain x steps = IsChainBy (λ (s : Step). s.old) (λ s. s.new) x steps
