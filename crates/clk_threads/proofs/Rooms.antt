-- The lists of a run have room: a thread makes no more steps on a clock word than its script calls for.
use Rattle.std.proofs.Common.{◌≡◌, ℕ, ◌+◌, ◌^◌, ◌<◌, ◌≤◌, ℤ, Bool, true, false, cond, nat_eq, List, [], ◌∷◌, ◌++◌, map, length, get_or, Option, refl, sym, ap, ◌∙◌, subst, arith, length-append}
use Rattle.std.specs.Prelude.{MatchBool, IfSome}
use Rattle.std.specs.List.{All, sum_by}
use Rattle.std.proofs.lemmas.List.{length-map}
use Rattle.std.proofs.lemmas.List.Elements.{All-nil, All-cons, All-head, All-tail, All-map, All-from_get_or, filter-append}
use Rattle.std.proofs.lemmas.List.Sums.{sum_by-cons}
use Rattle.clk_base.specs.Walk.{EachFrom}
use Rattle.clk_num.specs.Listed.{Listed}
use Rattle.clk_machine.specs.declared.script.Word.{Word}
use Rattle.clk_machine.specs.declared.script.Word.TheVariants as word
use Rattle.clk_machine.specs.Plan.{Plan, count_of, cpu_count, thread_at, threads_of}
use Rattle.clk_machine.specs.Limits.{IsWithinLimits}
use Rattle.clk_machine.specs.Steps.{on_word, steps_for}
use Rattle.clk_record.specs.LowerWord.{is_lower}
use Rattle.clk_record.specs.declared.step.Why.TheVariants as why
use Rattle.clk_lawful.specs.Couples.{CouplesLower, named_word, named_value}
use Rattle.clk_lawful.specs.Filling.{NamesWordsBelow, MayFill, lines_on}
use Rattle.clk_lawful.specs.ScriptEvents.{IsOwnReading, IsRemoteReading, IsTick, IsUpdate, IsPause, Calls, events_at, AreEventsOf}
use Rattle.clk_lawful.specs.WordHistory.{Placed, steps_of_kind, steps_from, all_steps, lift_steps, placed_on, line_of}
use Rattle.clk_lawful.specs.declared.event.Event.{Event}
use Rattle.clk_lawful.specs.declared.event.EventKind.{EventKind}
use Rattle.clk_lawful.specs.declared.event.EventKind.TheVariants.{Stable, Local, Couple, Stamp, Nothing, Update, Pause}
use Rattle.clk_lawful.specs.declared.trace.HistoryStep.{HistoryStep}
use Rattle.clk_lawful.specs.declared.trace.WatchTrace.{WatchTrace}
use Rattle.clk_lawful.specs.Standing.{lifts_by}
use Rattle.clk_worker.specs.Making.{Hand}
use Rattle.clk_worker.proofs.Scripts.{thread_words}
use Rattle.clk_threads.specs.Preparing.{lifts_room, no_steps, histories_below, IsPrepared}
use Rattle.clk_threads.specs.Ending.{begun_trace, whole_trace}
use Rattle.clk_threads.specs.declared.prepared.Prepared.{Prepared}
use Rattle.clk_threads.proofs.Built.{IsBuilt, built_count, built_at}
use Rattle.clk_threads.proofs.LawfulLists.{threads_at, cpus_count, thread_cpu}
use Rattle.clk_threads.proofs.Leaving.{HasLeft, ran_whole, left_shows}
use Rattle.clk_threads.proofs.Numbering.{threads_few}
use Rattle.clk_threads.proofs.WatchRooms.{FewLifts}

-- ---- the steps of events

-- a step of an event is on its CPU's word, or on one of the two that it couples
abbrev kind_room : ℕ → ℕ → EventKind → ℕ
kind_room w cpu (Stable raw value) = 0
kind_room w cpu (Local raw tick_raw tick_gtod offset old new) = on_word cpu w
kind_room w cpu (Couple asked own other on old new) = on_word cpu w + on_word asked w
kind_room w cpu (Stamp gtod_ticket gtod raw) = 0
kind_room w cpu Nothing = 0
kind_room w cpu (Update p) = 0
kind_room w cpu (Pause ticket count) = 0

one_step : (w v : ℕ) (x : Placed) → length (cond (nat_eq v w) (x ∷ []) []) ≤ on_word v w
one_step w v x = at (nat_eq v w)
  where
    at : (b : Bool) → length (cond b (x ∷ []) []) ≤ cond b 1 0
    at true = omega arith
    at false = omega arith

lower_on : (w cpu asked v : ℕ) (b : Bool) → v ≡ cond b asked cpu → on_word v w ≤ on_word cpu w + on_word asked w
lower_on w cpu asked v true e = rw e (omega arith)
lower_on w cpu asked v false e = rw e (omega arith)

kind_steps : (w thread cpu call part : ℕ) (k : EventKind) → CouplesLower cpu k → length (placed_on w (steps_of_kind thread cpu call part k)) ≤ kind_room w cpu k
kind_steps w thread cpu call part (Stable raw value) h = omega arith
kind_steps w thread cpu call part (Local raw tick_raw tick_gtod offset old new) h =
    one_step w cpu
    (record {
      step = record { by = thread; call = call; word = cpu; why = why.Raise raw.ns tick_raw tick_gtod offset; old = old; new = new };
      part = part;
    })
kind_steps w thread cpu call part (Couple asked own other on old new) h =
    let step : Placed = record {
      step = record { by = thread; call = call; word = on; why = why.Couple (named_word cpu asked on) (named_value asked own other on); old = old; new = new };
      part = part;
    } in
    let one = one_step w on step in
    let low = lower_on w cpu asked on (is_lower other own) h.0 in
    omega (arith, one, low)
kind_steps w thread cpu call part (Stamp gtod_ticket gtod raw) h = omega arith
kind_steps w thread cpu call part Nothing h = omega arith
kind_steps w thread cpu call part (Update p) h = omega arith
kind_steps w thread cpu call part (Pause ticket count) h = omega arith

abbrev events_room : ℕ → ℕ → List Event → ℕ
events_room w cpu [] = 0
events_room w cpu (e ∷ es) = kind_room w cpu e.kind + events_room w cpu es

event_steps : (w thread cpu part : ℕ) (es : List Event) → All (λ e. CouplesLower cpu e.kind) es
    → length (placed_on w (steps_from thread cpu part es)) ≤ events_room w cpu es
event_steps w thread cpu part [] h = omega arith
event_steps w thread cpu part (e ∷ es) h =
    let On : Placed → Bool = λ p. nat_eq p.step.word w in
    let here = kind_steps w thread cpu e.call part e.kind (All-head (λ (x : Event). CouplesLower cpu x.kind) e es h) in
    let rest = event_steps w thread cpu (part + 1) es (All-tail (λ (x : Event). CouplesLower cpu x.kind) e es h) in
    let both = ap length (filter-append On (steps_of_kind thread cpu e.call part e.kind) (steps_from thread cpu (part + 1) es)) in
    let sum = length-append (placed_on w (steps_of_kind thread cpu e.call part e.kind)) (placed_on w (steps_from thread cpu (part + 1) es)) in
    omega (arith, here, rest, both, sum)

-- ---- what a script calls for

abbrev kinds_room : ℕ → ℕ → List EventKind → ℕ
kinds_room w cpu [] = 0
kinds_room w cpu (k ∷ ks) = kind_room w cpu k + kinds_room w cpu ks

reading_room : (w cpu : ℕ) (ks : List EventKind) → IsOwnReading ks → kinds_room w cpu ks ≤ on_word cpu w
reading_room w cpu [] h = absurd h
reading_room w cpu (Stable raw value ∷ []) h = omega arith
reading_room w cpu (Stable raw value ∷ k ∷ ks) h = absurd h
reading_room w cpu (Local raw tick_raw tick_gtod offset old new ∷ []) h = omega arith
reading_room w cpu (Local raw tick_raw tick_gtod offset old new ∷ k ∷ ks) h = absurd h
reading_room w cpu (Couple asked own other on old new ∷ ks) h = absurd h
reading_room w cpu (Stamp gtod_ticket gtod raw ∷ ks) h = absurd h
reading_room w cpu (Nothing ∷ ks) h = absurd h
reading_room w cpu (Update p ∷ ks) h = absurd h
reading_room w cpu (Pause ticket count ∷ ks) h = absurd h

remote_room : (w cpu asked : ℕ) (ks : List EventKind) → IsRemoteReading asked ks → kinds_room w cpu ks ≤ on_word cpu w + (on_word cpu w + on_word asked w)
remote_room w cpu asked [] h = absurd h
remote_room w cpu asked (Stable raw value ∷ []) h = omega arith
remote_room w cpu asked (Stable raw value ∷ k ∷ ks) h = absurd h
remote_room w cpu asked (Local raw tick_raw tick_gtod offset old new ∷ []) h = absurd h
remote_room w cpu asked (Local raw tick_raw tick_gtod offset old new ∷ Couple named own other on from to ∷ []) h = rw h (omega arith)
remote_room w cpu asked (Local raw tick_raw tick_gtod offset old new ∷ Couple named own other on from to ∷ k ∷ ks) h = absurd h
remote_room w cpu asked (Local raw tick_raw tick_gtod offset old new ∷ Stable second value ∷ ks) h = absurd h
remote_room w cpu asked (Local raw tick_raw tick_gtod offset old new ∷ Local a b c d e f ∷ ks) h = absurd h
remote_room w cpu asked (Local raw tick_raw tick_gtod offset old new ∷ Stamp gtod_ticket gtod second ∷ ks) h = absurd h
remote_room w cpu asked (Local raw tick_raw tick_gtod offset old new ∷ Nothing ∷ ks) h = absurd h
remote_room w cpu asked (Local raw tick_raw tick_gtod offset old new ∷ Update p ∷ ks) h = absurd h
remote_room w cpu asked (Local raw tick_raw tick_gtod offset old new ∷ Pause ticket count ∷ ks) h = absurd h
remote_room w cpu asked (Couple named own other on old new ∷ ks) h = absurd h
remote_room w cpu asked (Stamp gtod_ticket gtod raw ∷ ks) h = absurd h
remote_room w cpu asked (Nothing ∷ ks) h = absurd h
remote_room w cpu asked (Update p ∷ ks) h = absurd h
remote_room w cpu asked (Pause ticket count ∷ ks) h = absurd h

tick_room : (w cpu : ℕ) (ks : List EventKind) → IsTick ks → kinds_room w cpu ks ≤ on_word cpu w
tick_room w cpu [] h = absurd h
tick_room w cpu (Nothing ∷ []) h = omega arith
tick_room w cpu (Nothing ∷ k ∷ ks) h = absurd h
tick_room w cpu (Stamp gtod_ticket gtod stamp ∷ []) h = absurd h
tick_room w cpu (Stamp gtod_ticket gtod stamp ∷ Local raw tick_raw tick_gtod offset old new ∷ []) h = omega arith
tick_room w cpu (Stamp gtod_ticket gtod stamp ∷ Local raw tick_raw tick_gtod offset old new ∷ k ∷ ks) h = absurd h
tick_room w cpu (Stamp gtod_ticket gtod stamp ∷ Stable raw value ∷ ks) h = absurd h
tick_room w cpu (Stamp gtod_ticket gtod stamp ∷ Couple named own other on old new ∷ ks) h = absurd h
tick_room w cpu (Stamp gtod_ticket gtod stamp ∷ Stamp a b c ∷ ks) h = absurd h
tick_room w cpu (Stamp gtod_ticket gtod stamp ∷ Nothing ∷ ks) h = absurd h
tick_room w cpu (Stamp gtod_ticket gtod stamp ∷ Update p ∷ ks) h = absurd h
tick_room w cpu (Stamp gtod_ticket gtod stamp ∷ Pause ticket count ∷ ks) h = absurd h
tick_room w cpu (Stable raw value ∷ ks) h = absurd h
tick_room w cpu (Local raw tick_raw tick_gtod offset old new ∷ ks) h = absurd h
tick_room w cpu (Couple named own other on old new ∷ ks) h = absurd h
tick_room w cpu (Update p ∷ ks) h = absurd h
tick_room w cpu (Pause ticket count ∷ ks) h = absurd h

update_room : (w cpu : ℕ) (ks : List EventKind) → IsUpdate ks → kinds_room w cpu ks ≤ 0
update_room w cpu [] h = absurd h
update_room w cpu (Update p ∷ []) h = omega arith
update_room w cpu (Update p ∷ k ∷ ks) h = absurd h
update_room w cpu (Stable raw value ∷ ks) h = absurd h
update_room w cpu (Local raw tick_raw tick_gtod offset old new ∷ ks) h = absurd h
update_room w cpu (Couple named own other on old new ∷ ks) h = absurd h
update_room w cpu (Stamp gtod_ticket gtod raw ∷ ks) h = absurd h
update_room w cpu (Nothing ∷ ks) h = absurd h
update_room w cpu (Pause ticket count ∷ ks) h = absurd h

pause_room : (w cpu : ℕ) (n : ℤ) (ks : List EventKind) → IsPause n ks → kinds_room w cpu ks ≤ 0
pause_room w cpu n [] h = absurd h
pause_room w cpu n (Pause ticket count ∷ []) h = omega arith
pause_room w cpu n (Pause ticket count ∷ k ∷ ks) h = absurd h
pause_room w cpu n (Stable raw value ∷ ks) h = absurd h
pause_room w cpu n (Local raw tick_raw tick_gtod offset old new ∷ ks) h = absurd h
pause_room w cpu n (Couple named own other on old new ∷ ks) h = absurd h
pause_room w cpu n (Stamp gtod_ticket gtod raw ∷ ks) h = absurd h
pause_room w cpu n (Nothing ∷ ks) h = absurd h
pause_room w cpu n (Update p ∷ ks) h = absurd h

word_room : (w cpu : ℕ) (u : Word) (ks : List EventKind) → Calls cpu u ks → kinds_room w cpu ks ≤ steps_for w cpu u
word_room w cpu word.Local ks h = reading_room w cpu ks h
word_room w cpu (word.Remote d) ks h = at (nat_eq (count_of d) cpu) h
  where
    at : (b : Bool) → MatchBool b (IsOwnReading ks) (IsRemoteReading (count_of d) ks)
        → kinds_room w cpu ks ≤ on_word cpu w + (on_word cpu w + on_word (count_of d) w)
    at true r = let one = reading_room w cpu ks r in omega (arith, one)
    at false r = remote_room w cpu (count_of d) ks r
word_room w cpu word.Tick ks h = tick_room w cpu ks h
word_room w cpu word.Idle [] h = absurd h
word_room w cpu word.Idle (k ∷ ks) h =
    let read = reading_room w cpu (k ∷ []) h.0 in
    let tick = tick_room w cpu ks h.1 in
    omega (arith, read, tick)
word_room w cpu word.Update ks h = update_room w cpu ks h
word_room w cpu (word.Pause n) ks h = pause_room w cpu n ks h

events_append : (w cpu m : ℕ) (ks : List EventKind) (rest : List Event) → events_room w cpu (events_at m ks ++ rest) ≡ kinds_room w cpu ks + events_room w cpu rest
events_append w cpu m [] rest = omega arith
events_append w cpu m (k ∷ ks) rest = let more = events_append w cpu m ks rest in omega (arith, more)

script_room : (w cpu m : ℕ) (ws : List Word) (es : List Event) → AreEventsOf cpu m ws es → events_room w cpu es ≤ sum_by (steps_for w cpu) ws
script_room w cpu m [] es h = rw h (omega arith)
script_room w cpu m (u ∷ ws) es h =
    let all = ap (events_room w cpu) h.2 ∙ events_append w cpu m h.0 h.1 in
    let here = word_room w cpu u h.0 h.3 in
    let rest = script_room w cpu (m + 1) ws h.1 h.4 in
    let sum = sum_by-cons (steps_for w cpu) u ws in
    omega (arith, all, here, rest, sum)

-- ---- what each thread leaves fits in

pub record FitsIn (m : Plan) (thread : ℕ) (es : Listed Event) : Type 0 where
  pub script : AreEventsOf (thread_at m thread).0 0 (thread_at m thread).1 es.items
  pub lower : All (λ e. CouplesLower (thread_at m thread).0 e.kind) es.items
  pub below : All (λ e. NamesWordsBelow (cpu_count m) e.kind) es.items
  pub few : length es.items < 2 ^ 32

pub fits_in : (p : Prepared) (ip : IsPrepared p.machine p) (thread : ℕ) (h : Hand) → thread < length (threads_of p.machine)
    → (l : HasLeft p ip.booted thread h) → FitsIn p.machine thread h.events
fits_in p ip thread h low l =
    let m : Plan = p.machine in
    let shows = left_shows p ip thread h low l in
    let words = (thread_words m thread ip.limits low).few in
    let few = l.made.few in
    record { script = (ran_whole p ip thread h l).script; lower = shows.lower; below = shows.below; few = omega (arith, few, words) }

-- ---- all threads, beside their scripts

threads_room : (m : Plan) (w n : ℕ) (ts : List (ℕ × List Word)) (threads : List (Listed Event)) → length threads ≡ length ts
    → EachFrom (λ k t. thread_at m k ≡ t) n ts → EachFrom (FitsIn m) n threads
    → length (placed_on w (all_steps n (map (λ (t : ℕ × List Word). t.0) ts) threads)) ≤ sum_by (λ (t : ℕ × List Word). sum_by (steps_for w t.0) t.1) ts
threads_room m w n [] threads count at fits = omega arith
threads_room m w n (t ∷ ts) [] count at fits = absurd (omega (arith, count))
threads_room m w n (t ∷ ts) (es ∷ threads) count at fits =
    let On : Placed → Bool = λ p. nat_eq p.step.word w in
    let cpus : List ℕ = map (λ (x : ℕ × List Word). x.0) ts in
    let script : AreEventsOf t.0 0 t.1 es.items = subst (λ (x : ℕ × List Word). AreEventsOf x.0 0 x.1 es.items) at.0 fits.0.script in
    let lower = subst (λ (x : ℕ × List Word). All (λ (e : Event). CouplesLower x.0 e.kind) es.items) at.0 fits.0.lower in
    let here = event_steps w n t.0 0 es.items lower in
    let called = script_room w t.0 0 t.1 es.items script in
    let rest = threads_room m w (n + 1) ts threads (omega (arith, count)) at.1 fits.1 in
    let both = ap length (filter-append On (steps_from n t.0 0 es.items) (all_steps (n + 1) cpus threads)) in
    let sum = length-append (placed_on w (steps_from n t.0 0 es.items)) (placed_on w (all_steps (n + 1) cpus threads)) in
    let sums = sum_by-cons (λ (x : ℕ × List Word). sum_by (steps_for w x.0) x.1) t ts in
    omega (arith, here, called, rest, both, sum, sums)

each_few : (m : Plan) (n : ℕ) (threads : List (Listed Event)) → EachFrom (FitsIn m) n threads → All (λ (es : Listed Event). length es.items < 2 ^ 32) threads
each_few m n [] fits = All-nil (λ (es : Listed Event). length es.items < 2 ^ 32)
each_few m n (es ∷ threads) fits = All-cons (λ (x : Listed Event). length x.items < 2 ^ 32) es threads fits.0.few (each_few m (n + 1) threads fits.1)

abbrev AllBelow : ℕ → Listed Event → Type 0
AllBelow c es = All (λ e. NamesWordsBelow c e.kind) es.items

each_below : (m : Plan) (n : ℕ) (threads : List (Listed Event)) → EachFrom (FitsIn m) n threads → All (AllBelow (cpu_count m)) threads
each_below m n [] fits = All-nil (AllBelow (cpu_count m))
each_below m n (es ∷ threads) fits = All-cons (AllBelow (cpu_count m)) es threads fits.0.below (each_below m (n + 1) threads fits.1)

cpus_below : (m : Plan) → IsWithinLimits m → All (λ x. x < cpu_count m) (map (λ (t : ℕ × List Word). t.0) (threads_of m))
cpus_below m limits =
    All-map (λ x. x < cpu_count m) (λ (t : ℕ × List Word). t.0) (threads_of m)
    (All-from_get_or (λ (t : ℕ × List Word). t.0 < cpu_count m) (threads_of m) (0, []) (λ i low. thread_cpu m i limits low))

-- ---- the histories

pub histories_built : (m : Plan) → IsBuilt (histories_below m) (no_steps m)
histories_built m = record { none = refl; more = λ n. refl }

pub may_fill : (p : Prepared) (ip : IsPrepared p.machine p) (threads : Listed (Listed Event)) (watch : Option WatchTrace) (tickets : ℕ)
    → length threads.items ≡ length (threads_of p.machine) → EachFrom (FitsIn p.machine) 0 threads.items
    → FewLifts (cpu_count p.machine) (lifts_room p.machine) watch → IfSome watch (λ w. length (threads_of p.machine) ≤ w.thread)
    → MayFill (whole_trace (begun_trace p) threads watch tickets)
may_fill p ip threads watch tickets count fits lifts number =
    let m : Plan = p.machine in
    let n : ℕ = cpu_count m in
    let lists = ip.lists in
    let cpus : List ℕ = map (λ (t : ℕ × List Word). t.0) (threads_of m) in
    let built : length p.lists.histories.items ≡ n = ap length lists.histories ∙ built_count (histories_below m) (no_steps m) (histories_built m) n in
    let empty_at : (w : ℕ) (d : Listed HistoryStep) → w < length p.lists.histories.items → get_or p.lists.histories.items w d ≡ no_steps m w = λ w d low.
    ap (λ (ls : List (Listed HistoryStep)). get_or ls w d) lists.histories
    ∙ built_at (histories_below m) (no_steps m) (histories_built m) n w d (omega (arith, low, built)) in
    record {
      count = ap length lists.cpu_of ∙ cpus_count m ∙ sym count;
      few = (let few = threads_few m ip.limits in omega (arith, count, few));
      words = record {
        cpus =
            subst (λ (k : ℕ). All (λ x. x < k) p.lists.cpu_of.items) (sym built)
            (subst (λ (cs : List ℕ). All (λ x. x < n) cs) (sym lists.cpu_of) (cpus_below m ip.limits));
        few = each_few m 0 threads.items fits;
        words = subst (λ (k : ℕ). All (AllBelow k) threads.items) (sym built) (each_below m 0 threads.items fits);
      };
      watchdog = subst (λ (k : ℕ). IfSome watch (λ w. k ≤ w.thread)) (sym count) number;
      lifts = subst (λ (k : ℕ). All (λ s. s.word < k) (lifts_by watch)) (sym built) lifts.below;
      once = lifts.once;
      empty =
          All-from_get_or (λ (l : Listed HistoryStep). l.items ≡ []) p.lists.histories.items (no_steps m 0) (λ i low.
          ap (λ (l : Listed HistoryStep). l.items) (empty_at i (no_steps m 0) low));
      room = λ w d low.
          let room = ap (λ (l : Listed HistoryStep). l.room) (empty_at w d low) in
          let few = threads_room m w 0 (threads_of m) threads.items count (threads_at m) fits in
          let lifted = lifts.few w in
          let made : List Placed = all_steps 0 cpus threads.items in
          let cpus_are = ap (λ (cs : List ℕ). length (lines_on w (all_steps 0 cs threads.items ++ lift_steps watch))) lists.cpu_of in
          let lines = length-map (placed_on w (made ++ lift_steps watch)) line_of in
          let both = ap length (filter-append (λ (x : Placed). nat_eq x.step.word w) made (lift_steps watch)) in
          let sum = length-append (placed_on w made) (placed_on w (lift_steps watch)) in
          omega (arith, room, few, lifted, cpus_are, lines, both, sum);
    }
