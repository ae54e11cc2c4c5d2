-- What the structs keep.
use Rattle.std.specs.Prelude.{◌≡◌, ℕ, ◌+◌, ◌*◌, ◌^◌, ◌<◌, ◌≤◌, ℤ, true, List, [], length, slice_index}
use Rattle.atomic_table.specs.Seated.{TableId}
use Rattle.atomic_table.specs.declared.shared.Seat.{Seat as TableSeat}
use Rattle.clk_record.specs.declared.step.Step.{Step}
use Rattle.clk_words.specs.declared.opening.Start.{Start}
use Rattle.clk_words.specs.declared.kind.SeatKind.{SeatKind}
use Rattle.clk_words.specs.declared.kind.SeatKind.TheVariants.{Owner, Watch}
use Rattle.clk_words.specs.declared.view.View.{View}
use Rattle.clk_words.specs.Kinds.{cpu_of}
use Rattle.clk_words.specs.Histories.{opens_at, value_after}
use Rattle.clk_words.specs.Heights.{IsClockWord}
use Rattle.clk_words.specs.Bounds.{IsOpening, IsTick, IsClock}
use Rattle.clk_words.specs.Rights.{has_number, has_kind}
use Rattle.clk_words.specs.Knowing.{AreSound}
use Rattle.clk_words.specs.Held.{Held}

abbrev pub held_of : TableSeat Step View → Held
held_of s = record { table = s.table_id; view = s.me.0 }

-- the seat's own numbers are its view's, it holds no slot, its loads are sound, and what it may give it owns
pub record IsSeated (number : ℕ) (kind : SeatKind) (made : ℕ) (taken : List (ℕ × Step)) (v : View) : Type 0 where
  pub empty : taken ≡ []
  pub live : v.live ≡ true
  pub number_is : number ≡ v.number
  pub kind_is : kind ≡ v.kind
  pub made_is : made ≡ v.made
  pub within : cpu_of v.kind < v.start.cpus
  pub sound : AreSound v.start v.seen v.loads
  pub owned : (c : ℕ) → has_kind v.gives (Owner c) ≡ true → has_number v.pairs.owns c ≡ true
  pub watched : has_kind v.gives Watch ≡ true → v.modes.watch ≡ true

-- the words of a table with this key
pub record AreWords (cpus : ℕ) (tick opens : ℤ) (table : TableId) (start : Start) : Type 0 where
  pub words : table.words ≡ 3 * start.cpus + 2
  pub slots : table.slots ≡ 0
  pub cpus_is : cpus ≡ start.cpus
  pub tick_is : tick ≡ start.tick
  pub opens_is : opens ≡ opens_at start
  pub some_cpu : 1 ≤ start.cpus
  pub small : start.cpus < 2 ^ 32
  pub tick_range : IsTick start.tick
  pub opening : IsOpening start.opening

-- the words at the end are the replay of the history
pub record AreEnded (start : Start) (history : List Step) (words : List ℕ) : Type 0 where
  pub wide : start.cpus ≤ length words
  pub clocks : (w : ℕ) → w < start.cpus → IsClockWord start (value_after (opens_at start) w history) (slice_index words w)
  pub range : (w : ℕ) → IsClock (opens_at start) (value_after (opens_at start) w history)
