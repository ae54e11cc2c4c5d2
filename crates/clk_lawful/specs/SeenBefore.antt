-- What a thread has seen of the clock words.
use Rattle.std.specs.Prelude.{ℕ, ◌==◌, ℤ, int_lt, List, [], ◌∷◌, ◌++◌, flat_map, fold, if◌then◌else◌}
use Rattle.clk_base.specs.Walk.{Along}
use Rattle.clk_num.specs.Wrapping.{above, IsNotBelow}
use Rattle.clk_lawful.specs.Standing.{lifted_from, lifts_by}
use Rattle.clk_lawful.specs.declared.event.Event.{Event}
use Rattle.clk_lawful.specs.declared.event.EventKind.{EventKind}
use Rattle.clk_lawful.specs.declared.event.EventKind.TheVariants.{Stable, Local, Couple, Stamp, Nothing, Update, Pause}
use Rattle.clk_lawful.specs.declared.trace.Trace.{Trace}

-- a value of a clock word
pub record Seen : Type 0 where
  pub word : ℕ
  pub value : ℤ

abbrev pub seen_at : ℕ → ℤ → Seen
seen_at w value = record { word = w; value = value }

-- what an event of a thread on this CPU shows, loaded or as it left a word
abbrev pub shown_by_kind : ℕ → EventKind → List Seen
shown_by_kind cpu (Stable raw value) = []
shown_by_kind cpu (Local raw tick_raw tick_gtod offset old new) = seen_at cpu new ∷ []
shown_by_kind cpu (Couple asked own other word old new) = seen_at cpu own ∷ seen_at asked other ∷ seen_at word new ∷ []
shown_by_kind cpu (Stamp gtod_ticket gtod raw) = []
shown_by_kind cpu Nothing = []
shown_by_kind cpu (Update p) = []
shown_by_kind cpu (Pause ticket count) = []

-- of two values the one that is higher above the opening, and the highest of x and some more
abbrev pub higher : ℤ → ℤ → ℤ → ℤ
higher opening x y = if int_lt (above x opening) (above y opening) then y else x

abbrev pub highest : ℤ → ℤ → List ℤ → ℤ
highest opening x xs = fold (higher opening) x xs

-- those of the word w
abbrev pub values_on : ℕ → List Seen → List ℤ
values_on w seen = flat_map (λ v. if v.word == w then v.value ∷ [] else []) seen

-- where the words stood when per-CPU readings began: as the watchdog's demotion lifted them, or else at their opening
abbrev pub stood_at : Trace → ℕ → ℤ
stood_at t w = lifted_from t.start_word (lifts_by t.watch) w

-- the highest value of the word that was seen, or where it stood at first; nothing lies below that
abbrev pub seen_of : ℤ → (ℕ → ℤ) → ℕ → List Seen → ℤ
seen_of opening base w seen = highest opening (base w) (values_on w seen)

-- a value that was found of a word is below neither the word's opening nor what was seen of it
pub record IsFoundAbove (opening seen value : ℤ) : Type 0 where
  pub over_opening : IsNotBelow value opening
  pub over_seen : IsNotBelow value seen

-- what an event found is not below what was seen of that word before
abbrev pub IsAboveSeen : ℤ → (ℕ → ℤ) → ℕ → List Seen → EventKind → Type 0
IsAboveSeen opening base cpu seen (Stable raw value) = Unit {0}
IsAboveSeen opening base cpu seen (Local raw tick_raw tick_gtod offset old new) = IsFoundAbove opening (seen_of opening base cpu seen) old
IsAboveSeen opening base cpu seen (Couple asked own other word old new) =
    IsFoundAbove opening (seen_of opening base cpu seen) own × IsFoundAbove opening (seen_of opening base asked seen) other
IsAboveSeen opening base cpu seen (Stamp gtod_ticket gtod raw) = Unit {0}
IsAboveSeen opening base cpu seen Nothing = Unit {0}
IsAboveSeen opening base cpu seen (Update p) = Unit {0}
IsAboveSeen opening base cpu seen (Pause ticket count) = Unit {0}

-- no reading of these events falls below what its thread had seen; so much was seen before them
abbrev pub NeverFalls : ℤ → (ℕ → ℤ) → ℕ → List Seen → List Event → Type 0
NeverFalls opening base cpu seen es =
    Along (λ before e. IsAboveSeen opening base cpu before e.kind) (λ before e. before ++ shown_by_kind cpu e.kind) seen es
