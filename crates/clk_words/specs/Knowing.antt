-- What follows from a view alone.
use Rattle.std.specs.Prelude.{◌≡◌, ℕ, ◌+◌, ◌*◌, ◌<◌, ℤ, false, List, length, map, All, Contains, IsTrue, Some, is_some}
use Rattle.clk_record.specs.declared.step.Step.{Step}
use Rattle.clk_record.specs.declared.step.Why.{Why}
use Rattle.clk_record.specs.declared.step.Why.TheVariants.{Raise, Couple, Lift}
use Rattle.clk_words.specs.declared.opening.Start.{Start}
use Rattle.clk_words.specs.declared.kind.SeatKind.{SeatKind}
use Rattle.clk_words.specs.declared.kind.SeatKind.TheVariants.{Owner, Reader, Watch}
use Rattle.clk_words.specs.declared.view.View.{View}
use Rattle.clk_words.specs.declared.view.Load.{Load}
use Rattle.clk_words.specs.declared.view.Name.{Name}
use Rattle.clk_words.specs.declared.view.Name.TheVariants.{Clock, Gtod, Raw, Offset}
use Rattle.clk_words.specs.Kinds.{cpu_of}
use Rattle.clk_words.specs.Histories.{opens_at, IsGlobalHistory, steps_by, HadValue, has_lift}
use Rattle.clk_words.specs.Bounds.{IsGtod, IsRaw, IsOffset, IsClock}
use Rattle.clk_words.specs.Parts.{gtod_of, raw_of, part_of}
use Rattle.clk_words.specs.Rights.{has_number, has_kind}
use Rattle.clk_words.specs.Views.{own_lists}

-- what was seen is a legal history, and each own list is that number's steps in it
pub record IsGood (v : View) : Type 0 where
  pub legal : IsGlobalHistory v.start v.seen
  pub lists : All (λ own. steps_by own.0 v.seen ≡ own.1) (own_lists v)

-- the seat has found the word to hold x
abbrev pub HasLoaded : View → Name → ℤ → Type 0
HasLoaded v name x = Contains v.loads (record { of = name; value = x })

-- a value that was loaded from such a word lies in its range, and a clock word held it
abbrev pub IsSoundAs : Start → List Step → Name → ℤ → Type 0
IsSoundAs start front (Clock w) x = HadValue start front w x × IsClock (opens_at start) x
IsSoundAs start front (Gtod cpu) x = IsGtod x
IsSoundAs start front (Raw cpu) x = IsRaw (opens_at start) x
IsSoundAs start front Offset x = IsOffset (opens_at start) x

abbrev pub AreSound : Start → List Step → List Load → Type 0
AreSound start front loads = All (λ l. IsSoundAs start front l.of l.value) loads

-- the seat has found the mode per-CPU
abbrev pub HasFoundPerCpu : View → Type 0
HasFoundPerCpu v = IsTrue v.modes.found

-- it may stamp the pair of this CPU
abbrev pub Owns : View → ℕ → Type 0
Owns v cpu = IsTrue (has_number v.pairs.owns cpu)

-- it may stamp the pair of its own CPU
abbrev pub IsOwner : View → Type 0
IsOwner v = Owns v (cpu_of v.kind)

-- how many stamps it knows of a CPU: the GTODs and the raws after stamp 0
abbrev pub gtods_known : View → ℕ → ℕ
gtods_known v cpu = length (part_of v.pairs.parts (gtod_of cpu)).after

abbrev pub raws_known : View → ℕ → ℕ
raws_known v cpu = length (part_of v.pairs.parts (raw_of cpu)).after

-- of its own CPU it knows as many raws as GTODs, or one GTOD more
abbrev pub StampsAreWhole : View → Type 0
StampsAreWhole v = gtods_known v (cpu_of v.kind) ≡ raws_known v (cpu_of v.kind)

abbrev pub StampsAreHalf : View → Type 0
StampsAreHalf v = gtods_known v (cpu_of v.kind) ≡ raws_known v (cpu_of v.kind) + 1

-- it shows another kind than the watchdog's
abbrev pub IsReadingKind : SeatKind → Type 0
IsReadingKind (Owner cpu) = Unit {0}
IsReadingKind (Reader cpu) = Unit {0}
IsReadingKind Watch = ⊥

-- readers without end, and each other kind once
abbrev pub MayGive : View → SeatKind → Type 0
MayGive v (Owner cpu) = IsTrue (has_kind v.gives (Owner cpu))
MayGive v (Reader cpu) = Unit {0}
MayGive v Watch = IsTrue (has_kind v.gives Watch)

-- it is the first seat or was joined with it, and has the right to this kind
pub record MaySplit (v : View) (kind : SeatKind) : Type 0 where
  pub first : 0 < v.made
  pub gives : MayGive v kind

-- the numbers whose own lists it has
abbrev pub numbers_of : View → List ℕ
numbers_of v = map (λ own. own.0) (own_lists v)

-- it has the own list of every seat that was made
pub record HasAll (v : View) : Type 0 where
  pub first : 0 < v.made
  pub each : (n : ℕ) → n < v.made → IsTrue (has_number (numbers_of v) n)

-- it has the watchdog's right, and the mode is stable by its view
pub record MayDemote (v : View) : Type 0 where
  pub watch : IsTrue v.modes.watch
  pub stable : v.modes.found ≡ false

-- the offset that it holds, which the words began with or which it has stored, is in range
abbrev pub HoldsInRange : View → Type 0
HoldsInRange v = (x : ℤ) → v.modes.held ≡ Some x → IsOffset (opens_at v.start) x

-- it has stored a pair for each CPU, and lifted each word
abbrev pub HasCloned : View → Type 0
HasCloned v = (r : ℕ) → r < 2 * v.start.cpus → IsTrue (is_some (part_of v.modes.cloned r).zero)

abbrev pub HasLifted : View → Type 0
HasLifted v = (w : ℕ) → w < v.start.cpus → IsTrue (has_lift v.seen w)

-- why a step may be made: the values that it names were loaded, the raw reading is in range, and it is no lift
abbrev pub IsTrusted : View → Why → Type 0
IsTrusted v (Raise raw tick_raw tick_gtod offset) =
    IsRaw (opens_at v.start) raw × HasLoaded v (Raw (cpu_of v.kind)) tick_raw × HasLoaded v (Gtod (cpu_of v.kind)) tick_gtod
    × HasLoaded v Offset offset
IsTrusted v (Couple from value) = HasLoaded v (Clock from) value
IsTrusted v (Lift value) = ⊥

-- each value that a step names is in its range, where words open so
abbrev pub AreValuesInRange : ℤ → Why → Type 0
AreValuesInRange opens (Raise raw tick_raw tick_gtod offset) = IsRaw opens raw × IsRaw opens tick_raw × IsGtod tick_gtod × IsOffset opens offset
AreValuesInRange opens (Couple from value) = IsClock opens value
AreValuesInRange opens (Lift value) = IsClock opens value
