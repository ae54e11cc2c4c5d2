-- What the words of a script draw and step where the clock is per-CPU from the start: no event is of the stable clock
-- then.
use Rattle.std.proofs.Common.{◌≡◌, ℕ, ◌+◌, ℤ, Bool, true, false, cond, nat_eq, List, [], ◌∷◌, ◌++◌, length, flat_map, refl, ap, ◌∙◌, arith, length-append}
use Rattle.std.specs.Prelude.{MatchBool}
use Rattle.std.specs.List.{sum_by}
use Rattle.std.proofs.lemmas.List.Sums.{sum_by-cons, sum_by-append}
use Rattle.clk_base.specs.Walk.{Along}
use Rattle.clk_machine.specs.declared.script.Word.{Word}
use Rattle.clk_machine.specs.declared.script.Word.TheVariants as word
use Rattle.clk_machine.specs.Plan.{count_of}
use Rattle.clk_machine.specs.Tickets.{tickets_of}
use Rattle.clk_lawful.specs.Counting.{steps_of_word}
use Rattle.clk_lawful.specs.Modes.{Modes, IsOfMode, turned_after}
use Rattle.clk_lawful.specs.ScriptEvents.{IsOwnReading, IsRemoteReading, IsTick, IsUpdate, IsPause, Calls, events_at, AreEventsOf}
use Rattle.clk_lawful.specs.TicketOrder.{blocks_of_kind, blocks_of}
use Rattle.clk_lawful.specs.WordHistory.{steps_of_kind, steps_from}
use Rattle.clk_lawful.specs.declared.event.Event.{Event}
use Rattle.clk_lawful.specs.declared.event.EventKind.{EventKind}
use Rattle.clk_lawful.specs.declared.event.EventKind.TheVariants.{Stable, Local, Couple, Stamp, Nothing, Update, Pause}
use Rattle.clk_lawful.proofs.CountingBlocks.{size}

-- ---- an event

-- it is none of the stable clock
abbrev IsPerCpu : EventKind → Type 0
IsPerCpu (Stable raw value) = ⊥
IsPerCpu (Local raw tick_raw tick_gtod offset old new) = Unit {0}
IsPerCpu (Couple asked own other on old new) = Unit {0}
IsPerCpu (Stamp gtod_ticket gtod raw) = Unit {0}
IsPerCpu Nothing = ⊥
IsPerCpu (Update p) = Unit {0}
IsPerCpu (Pause ticket count) = Unit {0}

-- its tickets and its steps
abbrev kind_tickets : EventKind → ℕ
kind_tickets (Stable raw value) = 1
kind_tickets (Local raw tick_raw tick_gtod offset old new) = 1
kind_tickets (Couple asked own other on old new) = 0
kind_tickets (Stamp gtod_ticket gtod raw) = 2
kind_tickets Nothing = 0
kind_tickets (Update p) = 1
kind_tickets (Pause ticket count) = count

abbrev kind_steps : EventKind → ℕ
kind_steps (Stable raw value) = 0
kind_steps (Local raw tick_raw tick_gtod offset old new) = 1
kind_steps (Couple asked own other on old new) = 1
kind_steps (Stamp gtod_ticket gtod raw) = 0
kind_steps Nothing = 0
kind_steps (Update p) = 0
kind_steps (Pause ticket count) = 0

kind_drawn : (k : EventKind) → size (blocks_of_kind k) ≡ kind_tickets k
kind_drawn (Stable raw value) = refl
kind_drawn (Local raw tick_raw tick_gtod offset old new) = refl
kind_drawn (Couple asked own other on old new) = refl
kind_drawn (Stamp gtod_ticket gtod raw) = refl
kind_drawn Nothing = refl
kind_drawn (Update p) = refl
kind_drawn (Pause ticket count) = omega arith

kind_stepped : (thread cpu call part : ℕ) (k : EventKind) → length (steps_of_kind thread cpu call part k) ≡ kind_steps k
kind_stepped thread cpu call part (Stable raw value) = refl
kind_stepped thread cpu call part (Local raw tick_raw tick_gtod offset old new) = refl
kind_stepped thread cpu call part (Couple asked own other on old new) = refl
kind_stepped thread cpu call part (Stamp gtod_ticket gtod raw) = refl
kind_stepped thread cpu call part Nothing = refl
kind_stepped thread cpu call part (Update p) = refl
kind_stepped thread cpu call part (Pause ticket count) = refl

-- ---- the events of a word

abbrev ArePerCpu : List EventKind → Type 0
ArePerCpu [] = Unit {0}
ArePerCpu (k ∷ ks) = IsPerCpu k × ArePerCpu ks

abbrev tickets_in : List EventKind → ℕ
tickets_in [] = 0
tickets_in (k ∷ ks) = kind_tickets k + tickets_in ks

abbrev steps_in : List EventKind → ℕ
steps_in [] = 0
steps_in (k ∷ ks) = kind_steps k + steps_in ks

-- they have so many tickets and so many steps
record Counts (tickets steps : ℕ) (ks : List EventKind) : Type 0 where
  tickets_are : tickets_in ks ≡ tickets
  steps_are : steps_in ks ≡ steps

reading_counts : (ks : List EventKind) → ArePerCpu ks → IsOwnReading ks → Counts 1 1 ks
reading_counts [] p h = absurd h
reading_counts (Stable raw value ∷ ks) p h = absurd p.0
reading_counts (Local raw tick_raw tick_gtod offset old new ∷ []) p h = record { tickets_are = refl; steps_are = refl }
reading_counts (Local raw tick_raw tick_gtod offset old new ∷ k ∷ ks) p h = absurd h
reading_counts (Couple asked own other on old new ∷ ks) p h = absurd h
reading_counts (Stamp gtod_ticket gtod raw ∷ ks) p h = absurd h
reading_counts (Nothing ∷ ks) p h = absurd h
reading_counts (Update q ∷ ks) p h = absurd h
reading_counts (Pause ticket count ∷ ks) p h = absurd h

remote_counts : (asked : ℕ) (ks : List EventKind) → ArePerCpu ks → IsRemoteReading asked ks → Counts 1 2 ks
remote_counts asked [] p h = absurd h
remote_counts asked (Stable raw value ∷ ks) p h = absurd p.0
remote_counts asked (Local raw tick_raw tick_gtod offset old new ∷ []) p h = absurd h
remote_counts asked (Local raw tick_raw tick_gtod offset old new ∷ Couple named own other on from to ∷ []) p h = record { tickets_are = refl; steps_are = refl }
remote_counts asked (Local raw tick_raw tick_gtod offset old new ∷ Couple named own other on from to ∷ k ∷ ks) p h = absurd h
remote_counts asked (Local raw tick_raw tick_gtod offset old new ∷ Stable second value ∷ ks) p h = absurd h
remote_counts asked (Local raw tick_raw tick_gtod offset old new ∷ Local a b c d e f ∷ ks) p h = absurd h
remote_counts asked (Local raw tick_raw tick_gtod offset old new ∷ Stamp gtod_ticket gtod second ∷ ks) p h = absurd h
remote_counts asked (Local raw tick_raw tick_gtod offset old new ∷ Nothing ∷ ks) p h = absurd h
remote_counts asked (Local raw tick_raw tick_gtod offset old new ∷ Update q ∷ ks) p h = absurd h
remote_counts asked (Local raw tick_raw tick_gtod offset old new ∷ Pause ticket count ∷ ks) p h = absurd h
remote_counts asked (Couple named own other on old new ∷ ks) p h = absurd h
remote_counts asked (Stamp gtod_ticket gtod raw ∷ ks) p h = absurd h
remote_counts asked (Nothing ∷ ks) p h = absurd h
remote_counts asked (Update q ∷ ks) p h = absurd h
remote_counts asked (Pause ticket count ∷ ks) p h = absurd h

tick_counts : (ks : List EventKind) → ArePerCpu ks → IsTick ks → Counts 3 1 ks
tick_counts [] p h = absurd h
tick_counts (Nothing ∷ ks) p h = absurd p.0
tick_counts (Stamp gtod_ticket gtod stamp ∷ []) p h = absurd h
tick_counts (Stamp gtod_ticket gtod stamp ∷ Local raw tick_raw tick_gtod offset old new ∷ []) p h = record { tickets_are = refl; steps_are = refl }
tick_counts (Stamp gtod_ticket gtod stamp ∷ Local raw tick_raw tick_gtod offset old new ∷ k ∷ ks) p h = absurd h
tick_counts (Stamp gtod_ticket gtod stamp ∷ Stable raw value ∷ ks) p h = absurd h
tick_counts (Stamp gtod_ticket gtod stamp ∷ Couple named own other on old new ∷ ks) p h = absurd h
tick_counts (Stamp gtod_ticket gtod stamp ∷ Stamp a b c ∷ ks) p h = absurd h
tick_counts (Stamp gtod_ticket gtod stamp ∷ Nothing ∷ ks) p h = absurd h
tick_counts (Stamp gtod_ticket gtod stamp ∷ Update q ∷ ks) p h = absurd h
tick_counts (Stamp gtod_ticket gtod stamp ∷ Pause ticket count ∷ ks) p h = absurd h
tick_counts (Stable raw value ∷ ks) p h = absurd h
tick_counts (Local raw tick_raw tick_gtod offset old new ∷ ks) p h = absurd h
tick_counts (Couple named own other on old new ∷ ks) p h = absurd h
tick_counts (Update q ∷ ks) p h = absurd h
tick_counts (Pause ticket count ∷ ks) p h = absurd h

update_counts : (ks : List EventKind) → IsUpdate ks → Counts 1 0 ks
update_counts [] h = absurd h
update_counts (Update q ∷ []) h = record { tickets_are = refl; steps_are = refl }
update_counts (Update q ∷ k ∷ ks) h = absurd h
update_counts (Stable raw value ∷ ks) h = absurd h
update_counts (Local raw tick_raw tick_gtod offset old new ∷ ks) h = absurd h
update_counts (Couple named own other on old new ∷ ks) h = absurd h
update_counts (Stamp gtod_ticket gtod raw ∷ ks) h = absurd h
update_counts (Nothing ∷ ks) h = absurd h
update_counts (Pause ticket count ∷ ks) h = absurd h

pause_counts : (n : ℤ) (ks : List EventKind) → IsPause n ks → Counts (count_of n) 0 ks
pause_counts n [] h = absurd h
pause_counts n (Pause ticket count ∷ []) h =
    let e : count_of n ≡ count = ap count_of h in
    record { tickets_are = omega (arith, e); steps_are = refl }
pause_counts n (Pause ticket count ∷ k ∷ ks) h = absurd h
pause_counts n (Stable raw value ∷ ks) h = absurd h
pause_counts n (Local raw tick_raw tick_gtod offset old new ∷ ks) h = absurd h
pause_counts n (Couple named own other on old new ∷ ks) h = absurd h
pause_counts n (Stamp gtod_ticket gtod raw ∷ ks) h = absurd h
pause_counts n (Nothing ∷ ks) h = absurd h
pause_counts n (Update q ∷ ks) h = absurd h

word_counts : (cpu : ℕ) (u : Word) (ks : List EventKind) → ArePerCpu ks → Calls cpu u ks → Counts (tickets_of u) (steps_of_word cpu u) ks
word_counts cpu word.Local ks p h = reading_counts ks p h
word_counts cpu (word.Remote d) ks p h = at (nat_eq (count_of d) cpu) h
  where
    at : (b : Bool) → MatchBool b (IsOwnReading ks) (IsRemoteReading (count_of d) ks) → Counts 1 (cond b 1 2) ks
    at true r = reading_counts ks p r
    at false r = remote_counts (count_of d) ks p r
word_counts cpu word.Tick ks p h = tick_counts ks p h
word_counts cpu word.Idle [] p h = absurd h
word_counts cpu word.Idle (k ∷ ks) p h =
    let read = reading_counts (k ∷ []) (p.0, tt) h.0 in
    let tick = tick_counts ks p.1 h.1 in
    let read_tickets = read.tickets_are in
    let read_steps = read.steps_are in
    let tick_tickets = tick.tickets_are in
    let tick_steps = tick.steps_are in
    record { tickets_are = omega (arith, read_tickets, tick_tickets); steps_are = omega (arith, read_steps, tick_steps) }
word_counts cpu word.Update ks p h = update_counts ks h
word_counts cpu (word.Pause n) ks p h = pause_counts n ks h

-- ---- the events of a thread

abbrev pub AreOfPerCpu : List Event → Type 0
AreOfPerCpu [] = Unit {0}
AreOfPerCpu (e ∷ es) = IsPerCpu e.kind × AreOfPerCpu es

-- in a clock that is not stable no event is of the stable clock
kind_of_mode : (m : Modes) (offset : ℤ) (turned : Bool) (k : EventKind) → m.stable ≡ false → IsOfMode m offset turned k → IsPerCpu k
kind_of_mode m offset turned (Stable raw value) off h = absurd (let e : m.stable ≡ true = h.0 in cc)
kind_of_mode m offset turned (Local raw tick_raw tick_gtod shown old new) off h = tt
kind_of_mode m offset turned (Couple asked own other on old new) off h = tt
kind_of_mode m offset turned (Stamp gtod_ticket gtod raw) off h = tt
kind_of_mode m offset turned Nothing off h = absurd (let e : m.stable ≡ true = h.0 in cc)
kind_of_mode m offset turned (Update p) off h = tt
kind_of_mode m offset turned (Pause ticket count) off h = tt

pub of_mode : (m : Modes) (offset : ℤ) (turned : Bool) (es : List Event) → m.stable ≡ false
    → Along (λ turned e. IsOfMode m offset turned e.kind) (λ turned e. turned_after turned e.kind) turned es → AreOfPerCpu es
of_mode m offset turned [] off h = tt
of_mode m offset turned (e ∷ es) off h = (kind_of_mode m offset turned e.kind off h.0, of_mode m offset (turned_after turned e.kind) es off h.1)

-- those of a word, and the others
front_kinds : (m : ℕ) (ks : List EventKind) (rest : List Event) → AreOfPerCpu (events_at m ks ++ rest) → ArePerCpu ks × AreOfPerCpu rest
front_kinds m [] rest p = (tt, p)
front_kinds m (k ∷ ks) rest p = let more = front_kinds m ks rest p.1 in ((p.0, more.0), more.1)

abbrev drawn_by : List Event → ℕ
drawn_by es = size (flat_map blocks_of es)

drawn_cons : (e : Event) (es : List Event) → drawn_by (e ∷ es) ≡ kind_tickets e.kind + drawn_by es
drawn_cons e es =
    let both = sum_by-append (λ b. b.count) (blocks_of e) (flat_map blocks_of es) in
    let here = kind_drawn e.kind in
    omega (arith, both, here)

drawn_word : (m : ℕ) (ks : List EventKind) (rest : List Event) → drawn_by (events_at m ks ++ rest) ≡ tickets_in ks + drawn_by rest
drawn_word m [] rest = omega arith
drawn_word m (k ∷ ks) rest =
    let here = drawn_cons (record { call = m; kind = k }) (events_at m ks ++ rest) in
    let more = drawn_word m ks rest in
    omega (arith, here, more)

-- the tickets of a thread's events are those of its words
pub script_drawn : (cpu m : ℕ) (ws : List Word) (es : List Event) → AreOfPerCpu es → AreEventsOf cpu m ws es → drawn_by es ≡ sum_by tickets_of ws
script_drawn cpu m [] es p h = rw h refl
script_drawn cpu m (u ∷ ws) es p h =
    let split = front_kinds m h.0 h.1 (rw h.2 at p) in
    let here = (word_counts cpu u h.0 split.0 h.3).tickets_are in
    let rest = script_drawn cpu (m + 1) ws h.1 split.1 h.4 in
    let all : drawn_by es ≡ tickets_in h.0 + drawn_by h.1 = ap drawn_by h.2 ∙ drawn_word m h.0 h.1 in
    let sum = sum_by-cons tickets_of u ws in
    omega (arith, here, rest, all, sum)

abbrev stepped_by : List Event → ℕ
stepped_by [] = 0
stepped_by (e ∷ es) = kind_steps e.kind + stepped_by es

-- a thread's steps are those of its events
stepped : (thread cpu part : ℕ) (es : List Event) → length (steps_from thread cpu part es) ≡ stepped_by es
stepped thread cpu part [] = refl
stepped thread cpu part (e ∷ es) =
    let here = kind_stepped thread cpu e.call part e.kind in
    let more = stepped thread cpu (part + 1) es in
    let both = length-append (steps_of_kind thread cpu e.call part e.kind) (steps_from thread cpu (part + 1) es) in
    omega (arith, here, more, both)

stepped_word : (m : ℕ) (ks : List EventKind) (rest : List Event) → stepped_by (events_at m ks ++ rest) ≡ steps_in ks + stepped_by rest
stepped_word m [] rest = omega arith
stepped_word m (k ∷ ks) rest = let more = stepped_word m ks rest in omega (arith, more)

script_stepped : (cpu m : ℕ) (ws : List Word) (es : List Event) → AreOfPerCpu es → AreEventsOf cpu m ws es → stepped_by es ≡ sum_by (steps_of_word cpu) ws
script_stepped cpu m [] es p h = rw h refl
script_stepped cpu m (u ∷ ws) es p h =
    let split = front_kinds m h.0 h.1 (rw h.2 at p) in
    let here = (word_counts cpu u h.0 split.0 h.3).steps_are in
    let rest = script_stepped cpu (m + 1) ws h.1 split.1 h.4 in
    let all : stepped_by es ≡ steps_in h.0 + stepped_by h.1 = ap stepped_by h.2 ∙ stepped_word m h.0 h.1 in
    let sum = sum_by-cons (steps_of_word cpu) u ws in
    omega (arith, here, rest, all, sum)

pub thread_steps : (thread cpu m : ℕ) (ws : List Word) (es : List Event) → AreOfPerCpu es → AreEventsOf cpu m ws es
    → length (steps_from thread cpu 0 es) ≡ sum_by (steps_of_word cpu) ws
thread_steps thread cpu m ws es p h = stepped thread cpu 0 es ∙ script_stepped cpu m ws es p h
