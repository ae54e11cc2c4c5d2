-- How the histories of a trace are filled: lists of which each gains the lines on its word, and is then sorted.
use Rattle.std.specs.Prelude.{◌≡◌, ℕ, ◌+◌, ◌^◌, ◌<◌, ◌≤◌, nat_eq, ℤ, List, [], ◌∷◌, ◌++◌, length, drop, map, slice_index_or, All, IsPermutation, IsSorted, IfSome}
use Rattle.std.specs.List.{IsDistinct}
use Rattle.clk_base.specs.Walk.{EachFrom}
use Rattle.clk_num.specs.Listed.{Listed}
use Rattle.clk_lawful.specs.Standing.{lifts_by}
use Rattle.clk_lawful.specs.WordHistory.{Placed, steps_from, steps_of, placed_on, line_of, history_cmp, IsHistoryOf}
use Rattle.clk_lawful.specs.declared.event.Event.{Event}
use Rattle.clk_lawful.specs.declared.event.EventKind.{EventKind}
use Rattle.clk_lawful.specs.declared.event.EventKind.TheVariants.{Stable, Local, Couple, Stamp, Nothing, Update, Pause}
use Rattle.clk_lawful.specs.declared.trace.HistoryStep.{HistoryStep}
use Rattle.clk_lawful.specs.declared.trace.Trace.{Trace}

-- the lines of the steps on the word w
abbrev pub lines_on : ℕ → List Placed → List HistoryStep
lines_on w steps = map line_of (placed_on w steps)

-- those on it of a thread's events from place k on
abbrev pub lines_left : ℕ → ℕ → ℕ → List Event → ℕ → List HistoryStep
lines_left thread cpu k es w = lines_on w (steps_from thread cpu k (drop k es))

-- the steps that are left of all threads, which are numbered from n, where each stands at its place `next`
abbrev pub steps_left : (ℕ → ℕ) → ℕ → List ℕ → List (Listed Event) → List Placed
steps_left next n (cpu ∷ cpus) (es ∷ threads) = steps_from n cpu (next n) (drop (next n) es.items) ++ steps_left next (n + 1) cpus threads
steps_left next n _ _ = []

-- list w has `more w` behind what it had, and so much less room
pub record Gained (before after : List (Listed HistoryStep)) (more : ℕ → List HistoryStep) : Type 0 where
  pub count : length after ≡ length before
  pub items : (w : ℕ) (d : Listed HistoryStep) → w < length before → (slice_index_or after w d).items ≡ (slice_index_or before w d).items ++ more w
  pub room : (w : ℕ) (d : Listed HistoryStep) → w < length before → (slice_index_or after w d).room + length (more w) ≡ (slice_index_or before w d).room

-- the lists gained some of the lines that were to be kept, in any order, and `left` is still to be kept
pub record Keeps (before after : List (Listed HistoryStep)) (whole left : ℕ → List HistoryStep) : Type 0 where
  pub kept : ℕ → List HistoryStep
  pub parts : (w : ℕ) → IsPermutation (whole w) (kept w ++ left w)
  pub gained : Gained before after kept

abbrev pub HasRoomFor : List (Listed HistoryStep) → (ℕ → List HistoryStep) → Type 0
HasRoomFor lists more = (w : ℕ) (d : Listed HistoryStep) → w < length lists → length (more w) ≤ (slice_index_or lists w d).room

-- there is a list for each word that an event names, and for the CPU of each thread; a thread has fewer than 2^32
-- events
abbrev pub NamesWordsBelow : ℕ → EventKind → Type 0
NamesWordsBelow n (Stable raw value) = Unit {0}
NamesWordsBelow n (Local raw tick_raw tick_gtod offset old new) = Unit {0}
NamesWordsBelow n (Couple cpu own other word old new) = word < n
NamesWordsBelow n (Stamp gtod_ticket gtod raw) = Unit {0}
NamesWordsBelow n Nothing = Unit {0}
NamesWordsBelow n (Update p) = Unit {0}
NamesWordsBelow n (Pause ticket count) = Unit {0}

pub record HasWordsBelow (n : ℕ) (cpu_of : List ℕ) (threads : List (Listed Event)) : Type 0 where
  pub cpus : All (λ cpu. cpu < n) cpu_of
  pub few : All (λ es. length es.items < 2 ^ 32) threads
  pub words : All (λ es. All (λ e. NamesWordsBelow n e.kind) es.items) threads

-- the same lines in order
pub record Sorts (opening : ℤ) (before after : Listed HistoryStep) : Type 0 where
  pub all : IsPermutation before.items after.items
  pub sorted : IsSorted (history_cmp opening) after.items

pub record AreSorted (opening : ℤ) (before after : List (Listed HistoryStep)) : Type 0 where
  pub count : length after ≡ length before
  pub each : (w : ℕ) (d : Listed HistoryStep) → w < length before → Sorts opening (slice_index_or before w d) (slice_index_or after w d)

-- there is an empty list for each word, with room for its steps; the watchdog is none of the threads, and it lifts no
-- word twice
pub record MayFill (t : Trace) : Type 0 where
  pub count : length t.cpu_of.items ≡ length t.threads.items
  pub few : length t.threads.items < 2 ^ 32
  pub words : HasWordsBelow (length t.histories.items) t.cpu_of.items t.threads.items
  pub watchdog : IfSome t.watch (λ w. length t.threads.items ≤ w.thread)
  pub lifts : All (λ s. s.word < length t.histories.items) (lifts_by t.watch)
  pub once : IsDistinct nat_eq (map (λ s. s.word) (lifts_by t.watch))
  pub empty : All (λ l. l.items ≡ []) t.histories.items
  pub room : HasRoomFor t.histories.items (λ w. lines_on w (steps_of t))

-- each list is its word's history, and nothing else is changed
pub record FillsHistories (before after : Trace) : Type 0 where
  pub histories : EachFrom (λ w lines. IsHistoryOf before.start_word (placed_on w (steps_of before)) lines.items) 0 after.histories.items
  pub count : length after.histories.items ≡ length before.histories.items
  pub rest : after ≡ record before { histories = after.histories }
