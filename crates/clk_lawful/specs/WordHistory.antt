-- The history of a clock word, out of the events of the threads and the lifts of the watchdog.
use Rattle.std.specs.Prelude.{ℕ, ◌+◌, ◌==◌, Bool, ℤ, List, [], ◌∷◌, ◌++◌, map, filter, IsPermutation, IsSorted, Option, Some, None}
use Rattle.std.specs.declared.cmp.Ordering.{Ordering}
use Rattle.std.specs.Ordering.{ordering_then, nat_cmp, int_cmp, int_eq, bool_cmp}
use Rattle.clk_num.specs.Listed.{Listed}
use Rattle.clk_num.specs.Wrapping.{above}
use Rattle.clk_record.specs.declared.step.Step.{Step}
use Rattle.clk_record.specs.declared.step.Why.TheVariants as why
use Rattle.clk_lawful.specs.Couples.{named_word, named_value}
use Rattle.clk_lawful.specs.declared.event.Event.{Event}
use Rattle.clk_lawful.specs.declared.event.EventKind.{EventKind}
use Rattle.clk_lawful.specs.declared.event.EventKind.TheVariants.{Stable, Local, Couple, Stamp, Nothing, Update, Pause}
use Rattle.clk_lawful.specs.declared.trace.HistoryStep.{HistoryStep}
use Rattle.clk_lawful.specs.declared.trace.WatchTrace.{WatchTrace}
use Rattle.clk_lawful.specs.declared.trace.Trace.{Trace}

-- a step of the clock words, made `by` the thread of that number, and the place of its event there
pub record Placed : Type 0 where
  pub step : Step
  pub part : ℕ

-- the step of an event of this call, at this place of this thread on this CPU, if it makes one
abbrev pub steps_of_kind : ℕ → ℕ → ℕ → ℕ → EventKind → List Placed
steps_of_kind thread cpu call part (Stable raw value) = []
steps_of_kind thread cpu call part (Local raw tick_raw tick_gtod offset old new) =
    record {
      step = record { by = thread; call = call; word = cpu; why = why.Raise raw.ns tick_raw tick_gtod offset; old = old; new = new };
      part = part;
    } ∷ []
steps_of_kind thread cpu call part (Couple asked own other word old new) =
    record {
      step = record {
        by = thread;
        call = call;
        word = word;
        why = why.Couple (named_word cpu asked word) (named_value asked own other word);
        old = old;
        new = new;
      };
      part = part;
    } ∷ []
steps_of_kind thread cpu call part (Stamp gtod_ticket gtod raw) = []
steps_of_kind thread cpu call part Nothing = []
steps_of_kind thread cpu call part (Update p) = []
steps_of_kind thread cpu call part (Pause ticket count) = []

-- the steps of these events, whose places are counted from `part`
abbrev pub steps_from : ℕ → ℕ → ℕ → List Event → List Placed
steps_from thread cpu part [] = []
steps_from thread cpu part (e ∷ es) = steps_of_kind thread cpu e.call part e.kind ++ steps_from thread cpu (part + 1) es

-- the steps of all threads, which are numbered from n, each with its CPU
abbrev pub all_steps : ℕ → List ℕ → List (Listed Event) → List Placed
all_steps n (cpu ∷ cpus) (es ∷ threads) = steps_from n cpu 0 es.items ++ all_steps (n + 1) cpus threads
all_steps n _ _ = []

-- the lifts of the watchdog, under its thread's number; they have no place among events, and show 0
abbrev pub placed_lift : ℕ → Step → Placed
placed_lift thread s = record {
  step = record { by = thread; call = s.call; word = s.word; why = s.why; old = s.old; new = s.new };
  part = 0;
}

abbrev pub lift_steps : Option WatchTrace → List Placed
lift_steps None = []
lift_steps (Some w) = map (placed_lift w.thread) w.lifts.items

abbrev pub steps_of : Trace → List Placed
steps_of t = all_steps 0 t.cpu_of.items t.threads.items ++ lift_steps t.watch

-- those on the word w, wherever they were made
abbrev pub placed_on : ℕ → List Placed → List Placed
placed_on w steps = filter (λ p. p.step.word == w) steps

-- the line that a history keeps of a step
abbrev pub line_of : Placed → HistoryStep
line_of p = record { thread = p.step.by; call = p.step.call; part = p.part; old = p.step.old; new = p.step.new }

-- the step left the word as it was
abbrev pub is_flat : HistoryStep → Bool
is_flat s = int_eq s.old s.new

-- by how far the word is above its opening afterwards, then rising steps before flat ones, then by thread, call and
-- place; no two steps agree in these, and with the word before at the end, lines that are equal in order are equal
abbrev pub history_cmp : ℤ → HistoryStep → HistoryStep → Ordering
history_cmp opening a b =
    ordering_then
    (ordering_then
    (ordering_then
    (ordering_then (ordering_then (int_cmp (above a.new opening) (above b.new opening)) (bool_cmp (is_flat a) (is_flat b))) (nat_cmp a.thread b.thread))
    (nat_cmp a.call b.call))
    (nat_cmp a.part b.part))
    (int_cmp a.old b.old)

-- the lines are those of just these steps, in order
pub record IsHistoryOf (opening : ℤ) (steps : List Placed) (lines : List HistoryStep) : Type 0 where
  pub all : IsPermutation (map line_of steps) lines
  pub sorted : IsSorted (history_cmp opening) lines
