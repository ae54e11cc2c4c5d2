-- A thread that made an event of a per-CPU clock, as its script calls for them, has made a reading of its own clock,
-- and so a step; where the clock began stable, a step comes after a lift of each word. So where no word was lifted, no
-- event is per-CPU.
use Rattle.std.proofs.Common.{◌≡◌, ℕ, ◌+◌, ◌<◌, ◌==◌, ℤ, Bool, true, false, ◌||◌, ◌&&◌, inl, inr, List, [], ◌∷◌, ◌++◌, Contains, MatchBool, nat_eq, refl, ap, ◌∙◌, sym, subst, arith, append_assoc}
use Rattle.std.proofs.lemmas.List.Elements.{Contains-append_left, Contains-append_right}
use Rattle.clk_machine.specs.Plan.{count_of}
use Rattle.clk_machine.specs.declared.script.Word.{Word}
use Rattle.clk_machine.specs.declared.script.Word.TheVariants as word
use Rattle.clk_record.specs.declared.mode.Mode.{Mode}
use Rattle.clk_record.specs.declared.mode.Mode.TheVariants.{Stable as StableMode, PerCpu as PerCpuMode}
use Rattle.clk_record.specs.declared.step.Step.{Step}
use Rattle.clk_record.specs.declared.step.Why.{Why}
use Rattle.clk_record.specs.declared.step.Why.TheVariants.{Raise, Lift}
use Rattle.clk_record.specs.declared.step.Why.TheVariants as why
use Rattle.clk_words.specs.declared.opening.Start.{Start}
use Rattle.clk_words.specs.Fronts.{Begins}
use Rattle.clk_words.specs.Histories.{is_lift, has_lift, AllLifted, IsInOrder, IsGlobalHistory}
use Rattle.clk_words.specs.Views.{first_view}
use Rattle.clk_words.proofs.Holding.{each_follows}
use Rattle.clk_words.proofs.Modes.{and_left}
use Rattle.clk_words.proofs.Owning.{or_cases}
use Rattle.clk_lawful.specs.Modes.{shows_percpu, reads_percpu, Modes, IsOfMode, turned_after}
use Rattle.clk_lawful.specs.ScriptEvents.{IsOwnReading, IsRemoteReading, IsTick, IsIdle, IsUpdate, IsPause, Calls, events_at, AreEventsOf}
use Rattle.clk_lawful.specs.declared.event.Event.{Event}
use Rattle.clk_lawful.specs.declared.event.EventKind.{EventKind}
use Rattle.clk_lawful.specs.declared.event.EventKind.TheVariants.{Stable, Local, Couple, Stamp, Nothing, Update, Pause}
use Rattle.clk_local.specs.Context.{Site, Known}
use Rattle.clk_worker.specs.Running.{HasPassed, Shows, Runs, at_call}
use Rattle.clk_worker.proofs.RunKeeping.{runs_grows}
use Rattle.clk_worker.proofs.RunModes.{AreOfMode, runs_mode}
use Rattle.clk_worker.proofs.Showing.{raised_passed}

-- ---- what a script calls for

abbrev any_kind : (EventKind → Bool) → List EventKind → Bool
any_kind test [] = false
any_kind test (k ∷ ks) = test k || any_kind test ks

-- with the first there is the second
abbrev HasLocal : List EventKind → Type 0
HasLocal ks = any_kind shows_percpu ks ≡ true → any_kind reads_percpu ks ≡ true

never : {A : Type 0} → false ≡ true → A
never e = absurd (cc)

reading_local : (ks : List EventKind) → IsOwnReading ks → HasLocal ks
reading_local [] h e = absurd h
reading_local (Stable raw value ∷ []) h e = never e
reading_local (Stable raw value ∷ k ∷ ks) h e = absurd h
reading_local (Local raw tick_raw tick_gtod offset old new ∷ ks) h e = refl
reading_local (Couple cpu own other word old new ∷ ks) h e = absurd h
reading_local (Stamp gtod_ticket gtod raw ∷ ks) h e = absurd h
reading_local (Nothing ∷ ks) h e = absurd h
reading_local (Update p ∷ ks) h e = absurd h
reading_local (Pause ticket count ∷ ks) h e = absurd h

remote_local : (asked : ℕ) (ks : List EventKind) → IsRemoteReading asked ks → HasLocal ks
remote_local asked [] h e = absurd h
remote_local asked (Stable raw value ∷ []) h e = never e
remote_local asked (Stable raw value ∷ k ∷ ks) h e = absurd h
remote_local asked (Local raw tick_raw tick_gtod offset old new ∷ ks) h e = refl
remote_local asked (Couple cpu own other word old new ∷ ks) h e = absurd h
remote_local asked (Stamp gtod_ticket gtod raw ∷ ks) h e = absurd h
remote_local asked (Nothing ∷ ks) h e = absurd h
remote_local asked (Update p ∷ ks) h e = absurd h
remote_local asked (Pause ticket count ∷ ks) h e = absurd h

tick_local : (ks : List EventKind) → IsTick ks → HasLocal ks
tick_local [] h e = absurd h
tick_local (Stable raw value ∷ ks) h e = absurd h
tick_local (Local raw tick_raw tick_gtod offset old new ∷ ks) h e = refl
tick_local (Couple cpu own other word old new ∷ ks) h e = absurd h
tick_local (Stamp gtod_ticket gtod stamp ∷ []) h e = absurd h
tick_local (Stamp gtod_ticket gtod stamp ∷ Stable raw value ∷ ks) h e = absurd h
tick_local (Stamp gtod_ticket gtod stamp ∷ Local raw tick_raw tick_gtod offset old new ∷ ks) h e = refl
tick_local (Stamp gtod_ticket gtod stamp ∷ Couple cpu own other word old new ∷ ks) h e = absurd h
tick_local (Stamp gtod_ticket gtod stamp ∷ Stamp ticket time raw ∷ ks) h e = absurd h
tick_local (Stamp gtod_ticket gtod stamp ∷ Nothing ∷ ks) h e = absurd h
tick_local (Stamp gtod_ticket gtod stamp ∷ Update p ∷ ks) h e = absurd h
tick_local (Stamp gtod_ticket gtod stamp ∷ Pause ticket count ∷ ks) h e = absurd h
tick_local (Nothing ∷ []) h e = never e
tick_local (Nothing ∷ k ∷ ks) h e = absurd h
tick_local (Update p ∷ ks) h e = absurd h
tick_local (Pause ticket count ∷ ks) h e = absurd h

idle_local : (ks : List EventKind) → IsIdle ks → HasLocal ks
idle_local [] h e = absurd h
idle_local (Stable raw value ∷ ks) h e = tick_local ks h.1 e
idle_local (Local raw tick_raw tick_gtod offset old new ∷ ks) h e = refl
idle_local (Couple cpu own other word old new ∷ ks) h e = absurd h.0
idle_local (Stamp gtod_ticket gtod raw ∷ ks) h e = absurd h.0
idle_local (Nothing ∷ ks) h e = absurd h.0
idle_local (Update p ∷ ks) h e = absurd h.0
idle_local (Pause ticket count ∷ ks) h e = absurd h.0

update_local : (ks : List EventKind) → IsUpdate ks → HasLocal ks
update_local [] h e = absurd h
update_local (Stable raw value ∷ ks) h e = absurd h
update_local (Local raw tick_raw tick_gtod offset old new ∷ ks) h e = refl
update_local (Couple cpu own other word old new ∷ ks) h e = absurd h
update_local (Stamp gtod_ticket gtod raw ∷ ks) h e = absurd h
update_local (Nothing ∷ ks) h e = absurd h
update_local (Update p ∷ []) h e = never e
update_local (Update p ∷ k ∷ ks) h e = absurd h
update_local (Pause ticket count ∷ ks) h e = absurd h

pause_local : (n : ℤ) (ks : List EventKind) → IsPause n ks → HasLocal ks
pause_local n [] h e = absurd h
pause_local n (Stable raw value ∷ ks) h e = absurd h
pause_local n (Local raw tick_raw tick_gtod offset old new ∷ ks) h e = refl
pause_local n (Couple cpu own other word old new ∷ ks) h e = absurd h
pause_local n (Stamp gtod_ticket gtod raw ∷ ks) h e = absurd h
pause_local n (Nothing ∷ ks) h e = absurd h
pause_local n (Update p ∷ ks) h e = absurd h
pause_local n (Pause ticket count ∷ []) h e = never e
pause_local n (Pause ticket count ∷ k ∷ ks) h e = absurd h

either_local : (own : Bool) (asked : ℕ) (ks : List EventKind) → MatchBool own (IsOwnReading ks) (IsRemoteReading asked ks) → HasLocal ks
either_local true asked ks h e = reading_local ks h e
either_local false asked ks h e = remote_local asked ks h e

called_local : (cpu : ℕ) (w : Word) (ks : List EventKind) → Calls cpu w ks → HasLocal ks
called_local cpu word.Local ks h e = reading_local ks h e
called_local cpu (word.Remote d) ks h e = either_local (count_of d == cpu) (count_of d) ks h e
called_local cpu word.Tick ks h e = tick_local ks h e
called_local cpu word.Idle ks h e = idle_local ks h e
called_local cpu word.Update ks h e = update_local ks h e
called_local cpu (word.Pause n) ks h e = pause_local n ks h e

-- ---- all words

abbrev any_event : (EventKind → Bool) → List Event → Bool
any_event test [] = false
any_event test (e ∷ es) = test e.kind || any_event test es

or_assoc : (a b c : Bool) → (a || (b || c)) ≡ ((a || b) || c)
or_assoc true b c = refl
or_assoc false b c = refl

or_left : (a b : Bool) → a ≡ true → (a || b) ≡ true
or_left true b e = refl
or_left false b e = never e

or_right : (a b : Bool) → b ≡ true → (a || b) ≡ true
or_right true b e = refl
or_right false b e = e

any_at : (test : EventKind → Bool) (m : ℕ) (ks : List EventKind) (rest : List Event) → any_event test (events_at m ks ++ rest) ≡ (any_kind test ks || any_event test rest)
any_at test m [] rest = refl
any_at test m (k ∷ ks) rest = ap (λ (b : Bool). test k || b) (any_at test m ks rest) ∙ or_assoc (test k) (any_kind test ks) (any_event test rest)

script_local : (cpu m : ℕ) (ws : List Word) (es : List Event) → AreEventsOf cpu m ws es → any_event shows_percpu es ≡ true → any_event reads_percpu es ≡ true
script_local cpu m [] es a e = never (sym (ap (any_event shows_percpu) a) ∙ e)
script_local cpu m (w ∷ ws) es a e =
    let ks : List EventKind = a.0 in
    let rest : List Event = a.1 in
    let whole : (any_kind shows_percpu ks || any_event shows_percpu rest) ≡ true = sym (ap (any_event shows_percpu) a.2 ∙ any_at shows_percpu m ks rest) ∙ e in
    let found : (any_kind reads_percpu ks || any_event reads_percpu rest) ≡ true =
    elim (or_cases (any_kind shows_percpu ks) (any_event shows_percpu rest) whole) [
      | inl here ↦ or_left (any_kind reads_percpu ks) (any_event reads_percpu rest) (called_local cpu w ks a.3 here)
      | inr later ↦ or_right (any_kind reads_percpu ks) (any_event reads_percpu rest) (script_local cpu (m + 1) ws rest a.4 later)
    ] in
    ap (any_event reads_percpu) a.2 ∙ any_at reads_percpu m ks rest ∙ found

-- ---- the thread has made a step

passed_later : (front whole : List Step) → Begins front whole → HasPassed front → HasPassed whole
passed_later front whole begins p =
    record {
      front = p.front;
      step = p.step;
      back = p.back ++ begins.rest;
      is = begins.is ∙ ap (λ (zs : List Step). zs ++ begins.rest) p.is ∙ append_assoc p.front (p.step ∷ p.back) begins.rest;
      passes = p.passes;
    }

shows_passed : (z : Site) (v : Known) (k : EventKind) (w : Known) → Shows z v k w → reads_percpu k ≡ true → HasPassed w.view.seen
shows_passed z v (Stable raw value) w h e = never e
shows_passed z v (Local raw tick_raw tick_gtod offset old new) w h e = raised_passed z v w raw h.step h.raised
shows_passed z v (Couple asked own other word old new) w h e = never e
shows_passed z v (Stamp gtod_ticket gtod raw) w h e = never e
shows_passed z v Nothing w h e = never e
shows_passed z v (Update p) w h e = never e
shows_passed z v (Pause ticket count) w h e = never e

runs_passed : (z : Site) (v : Known) (es : List Event) (w : Known) → Runs z v es w → any_event reads_percpu es ≡ true → HasPassed w.view.seen
runs_passed z v [] w r e = never e
runs_passed z v (e ∷ es) w r found =
    elim (or_cases (reads_percpu e.kind) (any_event reads_percpu es) found) [
      | inl here ↦ passed_later r.1.view.seen w.view.seen (runs_grows z r.1 es w r.4).seen (shows_passed (at_call z e.call) r.0 e.kind r.1 r.3 here)
      | inr later ↦ runs_passed z r.1 es w r.4 later
    ]

-- ---- a step after a stable start comes after a lift

-- one of these steps is a lift
pub record HasLiftIn (history : List Step) : Type 0 where
  pub lift : Step
  pub there : Contains history lift
  pub lifts : is_lift lift.why ≡ true

lift_of : (steps : List Step) (w : ℕ) → has_lift steps w ≡ true → HasLiftIn steps
lift_of [] w e = never e
lift_of (s ∷ steps) w e =
    elim (or_cases (is_lift s.why && nat_eq s.word w) (has_lift steps w) e) [
      | inl here ↦ record { lift = s; there = (0, omega arith, refl); lifts = and_left (is_lift s.why) (nat_eq s.word w) here }
      | inr later ↦ lift_later s steps (lift_of steps w later)
    ]
  where
    lift_later : (s : Step) (steps : List Step) → HasLiftIn steps → HasLiftIn (s ∷ steps)
    lift_later s steps l = record { lift = l.lift; there = Contains-append_right (s ∷ []) steps l.lift l.there; lifts = l.lifts }

all_lifted : (start : Start) (before : List Step) (y : Why) → IsInOrder start before y → is_lift y ≡ false → AllLifted start before
all_lifted start before (Raise raw tick_raw tick_gtod offset) order other = order
all_lifted start before (why.Couple from value) order other = order
all_lifted start before (Lift value) order other = never (sym other)

pub passed_lift : (start : Start) (seen history : List Step) (cpu : ℕ) → start.opening.mode ≡ StableMode → cpu < start.cpus → IsGlobalHistory start history
    → Begins seen history → HasPassed seen → HasLiftIn history
passed_lift start seen history cpu stable low legal begins p =
    let rest : List Step = p.back ++ begins.rest in
    let whole : history ≡ p.front ++ p.step ∷ rest =
    begins.is ∙ ap (λ (zs : List Step). zs ++ begins.rest) p.is ∙ append_assoc p.front (p.step ∷ p.back) begins.rest in
    let follows = each_follows start p.front rest p.step (subst (IsGlobalHistory start) whole legal) in
    let found = lift_of p.front cpu (all_lifted start p.front p.step.why follows.in_order p.passes stable cpu low) in
    record {
      lift = found.lift;
      there = subst (λ (zs : List Step). Contains zs found.lift) (sym whole) (Contains-append_left p.front (p.step ∷ rest) found.lift found.there);
      lifts = found.lifts;
    }

-- ---- modes

-- the modes of a run, and the offset of its stable readings: the clock becomes per-CPU by lifts where it began stable
pub record ModesOf (z : Site) (start : Start) (history : List Step) (m : Modes) (offset : ℤ) : Type 0 where
  pub stable : start.opening.mode ≡ StableMode → (m.stable ≡ true) × (offset ≡ z.sched_offset)
  pub percpu : start.opening.mode ≡ PerCpuMode → m.percpu ≡ true
  pub lifted : start.opening.mode ≡ StableMode → HasLiftIn history → m.percpu ≡ true

-- the same modes but for whether the clock is per-CPU at the end
abbrev with_percpu : Bool → Modes → Modes
with_percpu percpu m = record { stable = m.stable; percpu = percpu }

kind_again : (m : Modes) (percpu : Bool) (offset : ℤ) (turned : Bool) (k : EventKind) → IsOfMode (with_percpu percpu m) offset turned k
    → (shows_percpu k ≡ true → m.percpu ≡ true) → IsOfMode m offset turned k
kind_again m percpu offset turned (Stable raw value) h on = h
kind_again m percpu offset turned (Local raw tick_raw tick_gtod shown old new) h on = on refl
kind_again m percpu offset turned (Couple cpu own other word old new) h on = on refl
kind_again m percpu offset turned (Stamp gtod_ticket gtod raw) h on = on refl
kind_again m percpu offset turned Nothing h on = h
kind_again m percpu offset turned (Update p) h on = tt
kind_again m percpu offset turned (Pause ticket count) h on = tt

modes_again : (m : Modes) (percpu : Bool) (offset : ℤ) (turned : Bool) (es : List Event) → AreOfMode (with_percpu percpu m) offset turned es
    → (any_event shows_percpu es ≡ true → m.percpu ≡ true) → AreOfMode m offset turned es
modes_again m percpu offset turned [] h on = tt
modes_again m percpu offset turned (e ∷ es) h on = (
  kind_again m percpu offset turned e.kind h.0 (λ f. on (or_left (shows_percpu e.kind) (any_event shows_percpu es) f)),
  modes_again m percpu offset (turned_after turned e.kind) es h.1 (λ f. on (or_right (shows_percpu e.kind) (any_event shows_percpu es) f)),
)

-- the events of a script, made by a seat that knows of the mode what the first seat knew, stand in the modes of the run
pub modes_made : (z : Site) (start : Start) (v : Known) (es : List Event) (w : Known) (m : Modes) (offset : ℤ) (call : ℕ) (ws : List Word) (history : List Step)
    → z.cpu < start.cpus → v.view.modes.found ≡ (first_view start).modes.found → Runs z v es w → AreEventsOf z.cpu call ws es
    → Begins w.view.seen history → IsGlobalHistory start history → ModesOf z start history m offset → AreOfMode m offset false es
modes_made z start v es w m offset call ws history low first r script begins legal modes =
    modes_again m w.view.modes.found offset false es
    (runs_mode z start v es w (with_percpu w.view.modes.found m) offset first r (record { stable = modes.stable; percpu = λ e. e }))
    (λ e. by_mode start.opening.mode refl e)
  where
    by_mode : (mode : Mode) → start.opening.mode ≡ mode → any_event shows_percpu es ≡ true → m.percpu ≡ true
    by_mode StableMode is e =
        modes.lifted is
        (passed_lift start w.view.seen history z.cpu is low legal begins (runs_passed z v es w r (script_local z.cpu call ws es script e)))
    by_mode PerCpuMode is e = modes.percpu is
