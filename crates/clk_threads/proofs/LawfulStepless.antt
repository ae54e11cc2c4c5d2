-- A thread that made no step on a clock word: its script shows no stamp either, since a stamp stands before a step
-- alone.
use Rattle.std.proofs.Common.{◌≡◌, ℕ, ◌+◌, ℤ, Bool, true, false, nat_eq, List, [], ◌∷◌, ◌++◌, refl, sym, subst}
use Rattle.std.specs.Prelude.{MatchBool}
use Rattle.std.proofs.lemmas.List.Elements.{All-nil, All-cons}
use Rattle.clk_machine.specs.declared.script.Word.{Word}
use Rattle.clk_machine.specs.declared.script.Word.TheVariants as word
use Rattle.clk_machine.specs.Plan.{count_of}
use Rattle.clk_lawful.specs.ScriptEvents.{IsOwnReading, IsRemoteReading, IsTick, IsUpdate, IsPause, Calls, events_at, AreEventsOf}
use Rattle.clk_lawful.specs.WordHistory.{steps_of_kind, steps_from}
use Rattle.clk_lawful.specs.declared.event.Event.{Event}
use Rattle.clk_lawful.specs.declared.event.EventKind.{EventKind}
use Rattle.clk_lawful.specs.declared.event.EventKind.TheVariants.{Stable, Local, Couple, Stamp, Nothing, Update, Pause}
use Rattle.clk_threads.proofs.LawfulQuiet.{IsQuiet, AreQuiet}

-- ---- lists without elements

pub nil_left : {A : Type 0} (xs ys : List A) → xs ++ ys ≡ [] → xs ≡ []
nil_left [] ys e = refl
nil_left (x ∷ xs) ys e = absurd (cc)

pub nil_right : {A : Type 0} (xs ys : List A) → xs ++ ys ≡ [] → ys ≡ []
nil_right [] ys e = e
nil_right (x ∷ xs) ys e = absurd (cc)

-- ---- events without a step

abbrev IsStepless : EventKind → Type 0
IsStepless (Stable raw value) = Unit {0}
IsStepless (Local raw tick_raw tick_gtod offset old new) = ⊥
IsStepless (Couple asked own other on old new) = ⊥
IsStepless (Stamp gtod_ticket gtod raw) = Unit {0}
IsStepless Nothing = Unit {0}
IsStepless (Update p) = Unit {0}
IsStepless (Pause ticket count) = Unit {0}

abbrev AreStepless : List EventKind → Type 0
AreStepless [] = Unit {0}
AreStepless (k ∷ ks) = IsStepless k × AreStepless ks

abbrev MadeNone : List Event → Type 0
MadeNone [] = Unit {0}
MadeNone (e ∷ es) = IsStepless e.kind × MadeNone es

stepless : (thread cpu call part : ℕ) (k : EventKind) → steps_of_kind thread cpu call part k ≡ [] → IsStepless k
stepless thread cpu call part (Stable raw value) e = tt
stepless thread cpu call part (Local raw tick_raw tick_gtod offset old new) e = absurd (cc)
stepless thread cpu call part (Couple asked own other on old new) e = absurd (cc)
stepless thread cpu call part (Stamp gtod_ticket gtod raw) e = tt
stepless thread cpu call part Nothing e = tt
stepless thread cpu call part (Update p) e = tt
stepless thread cpu call part (Pause ticket count) e = tt

made_none : (thread cpu part : ℕ) (es : List Event) → steps_from thread cpu part es ≡ [] → MadeNone es
made_none thread cpu part [] e = tt
made_none thread cpu part (x ∷ es) e = (
  stepless thread cpu x.call part x.kind (nil_left (steps_of_kind thread cpu x.call part x.kind) (steps_from thread cpu (part + 1) es) e),
  made_none thread cpu (part + 1) es (nil_right (steps_of_kind thread cpu x.call part x.kind) (steps_from thread cpu (part + 1) es) e),
)

-- ---- what a word calls for

abbrev AreQuietKinds : List EventKind → Type 0
AreQuietKinds [] = Unit {0}
AreQuietKinds (k ∷ ks) = IsQuiet k × AreQuietKinds ks

reading_quiet : (ks : List EventKind) → AreStepless ks → IsOwnReading ks → AreQuietKinds ks
reading_quiet [] p h = absurd h
reading_quiet (Stable raw value ∷ []) p h = (tt, tt)
reading_quiet (Stable raw value ∷ k ∷ ks) p h = absurd h
reading_quiet (Local raw tick_raw tick_gtod offset old new ∷ ks) p h = absurd p.0
reading_quiet (Couple asked own other on old new ∷ ks) p h = absurd p.0
reading_quiet (Stamp gtod_ticket gtod raw ∷ ks) p h = absurd h
reading_quiet (Nothing ∷ ks) p h = absurd h
reading_quiet (Update q ∷ ks) p h = absurd h
reading_quiet (Pause ticket count ∷ ks) p h = absurd h

remote_quiet : (asked : ℕ) (ks : List EventKind) → AreStepless ks → IsRemoteReading asked ks → AreQuietKinds ks
remote_quiet asked [] p h = absurd h
remote_quiet asked (Stable raw value ∷ []) p h = (tt, tt)
remote_quiet asked (Stable raw value ∷ k ∷ ks) p h = absurd h
remote_quiet asked (Local raw tick_raw tick_gtod offset old new ∷ ks) p h = absurd p.0
remote_quiet asked (Couple named own other on old new ∷ ks) p h = absurd p.0
remote_quiet asked (Stamp gtod_ticket gtod raw ∷ ks) p h = absurd h
remote_quiet asked (Nothing ∷ ks) p h = absurd h
remote_quiet asked (Update q ∷ ks) p h = absurd h
remote_quiet asked (Pause ticket count ∷ ks) p h = absurd h

tick_quiet : (ks : List EventKind) → AreStepless ks → IsTick ks → AreQuietKinds ks
tick_quiet [] p h = absurd h
tick_quiet (Nothing ∷ []) p h = (tt, tt)
tick_quiet (Nothing ∷ k ∷ ks) p h = absurd h
tick_quiet (Stamp gtod_ticket gtod stamp ∷ []) p h = absurd h
tick_quiet (Stamp gtod_ticket gtod stamp ∷ Local raw tick_raw tick_gtod offset old new ∷ ks) p h = absurd p.1.0
tick_quiet (Stamp gtod_ticket gtod stamp ∷ Stable raw value ∷ ks) p h = absurd h
tick_quiet (Stamp gtod_ticket gtod stamp ∷ Couple named own other on old new ∷ ks) p h = absurd h
tick_quiet (Stamp gtod_ticket gtod stamp ∷ Stamp a b c ∷ ks) p h = absurd h
tick_quiet (Stamp gtod_ticket gtod stamp ∷ Nothing ∷ ks) p h = absurd h
tick_quiet (Stamp gtod_ticket gtod stamp ∷ Update q ∷ ks) p h = absurd h
tick_quiet (Stamp gtod_ticket gtod stamp ∷ Pause ticket count ∷ ks) p h = absurd h
tick_quiet (Stable raw value ∷ ks) p h = absurd h
tick_quiet (Local raw tick_raw tick_gtod offset old new ∷ ks) p h = absurd p.0
tick_quiet (Couple named own other on old new ∷ ks) p h = absurd p.0
tick_quiet (Update q ∷ ks) p h = absurd h
tick_quiet (Pause ticket count ∷ ks) p h = absurd h

update_quiet : (ks : List EventKind) → IsUpdate ks → AreQuietKinds ks
update_quiet [] h = absurd h
update_quiet (Update q ∷ []) h = (tt, tt)
update_quiet (Update q ∷ k ∷ ks) h = absurd h
update_quiet (Stable raw value ∷ ks) h = absurd h
update_quiet (Local raw tick_raw tick_gtod offset old new ∷ ks) h = absurd h
update_quiet (Couple named own other on old new ∷ ks) h = absurd h
update_quiet (Stamp gtod_ticket gtod raw ∷ ks) h = absurd h
update_quiet (Nothing ∷ ks) h = absurd h
update_quiet (Pause ticket count ∷ ks) h = absurd h

pause_quiet : (n : ℤ) (ks : List EventKind) → IsPause n ks → AreQuietKinds ks
pause_quiet n [] h = absurd h
pause_quiet n (Pause ticket count ∷ []) h = (tt, tt)
pause_quiet n (Pause ticket count ∷ k ∷ ks) h = absurd h
pause_quiet n (Stable raw value ∷ ks) h = absurd h
pause_quiet n (Local raw tick_raw tick_gtod offset old new ∷ ks) h = absurd h
pause_quiet n (Couple named own other on old new ∷ ks) h = absurd h
pause_quiet n (Stamp gtod_ticket gtod raw ∷ ks) h = absurd h
pause_quiet n (Nothing ∷ ks) h = absurd h
pause_quiet n (Update q ∷ ks) h = absurd h

word_quiet : (cpu : ℕ) (u : Word) (ks : List EventKind) → AreStepless ks → Calls cpu u ks → AreQuietKinds ks
word_quiet cpu word.Local ks p h = reading_quiet ks p h
word_quiet cpu (word.Remote d) ks p h = at (nat_eq (count_of d) cpu) h
  where
    at : (b : Bool) → MatchBool b (IsOwnReading ks) (IsRemoteReading (count_of d) ks) → AreQuietKinds ks
    at true r = reading_quiet ks p r
    at false r = remote_quiet (count_of d) ks p r
word_quiet cpu word.Tick ks p h = tick_quiet ks p h
word_quiet cpu word.Idle [] p h = absurd h
word_quiet cpu word.Idle (k ∷ ks) p h = ((reading_quiet (k ∷ []) (p.0, tt) h.0).0, tick_quiet ks p.1 h.1)
word_quiet cpu word.Update ks p h = update_quiet ks h
word_quiet cpu (word.Pause n) ks p h = pause_quiet n ks h

-- ---- a script

split_none : (m : ℕ) (ks : List EventKind) (rest : List Event) → MadeNone (events_at m ks ++ rest) → AreStepless ks × MadeNone rest
split_none m [] rest h = (tt, h)
split_none m (k ∷ ks) rest h = let later = split_none m ks rest h.1 in ((h.0, later.0), later.1)

join_quiet : (m : ℕ) (ks : List EventKind) (rest : List Event) → AreQuietKinds ks → AreQuiet rest → AreQuiet (events_at m ks ++ rest)
join_quiet m [] rest q later = later
join_quiet m (k ∷ ks) rest q later =
    All-cons (λ (e : Event). IsQuiet e.kind) (record { call = m; kind = k }) (events_at m ks ++ rest) q.0 (join_quiet m ks rest q.1 later)

script_quiet : (cpu m : ℕ) (ws : List Word) (es : List Event) → AreEventsOf cpu m ws es → MadeNone es → AreQuiet es
script_quiet cpu m [] es h made = subst AreQuiet (sym h) (All-nil (λ (e : Event). IsQuiet e.kind))
script_quiet cpu m (w ∷ ws) es h made =
    let ks : List EventKind = h.0 in
    let rest : List Event = h.1 in
    let parts = split_none m ks rest (subst MadeNone h.2 made) in
    subst AreQuiet (sym h.2) (join_quiet m ks rest (word_quiet cpu w ks parts.0 h.3) (script_quiet cpu (m + 1) ws rest h.4 parts.1))

pub stepless_quiet : (thread cpu : ℕ) (ws : List Word) (es : List Event) → AreEventsOf cpu 0 ws es → steps_from thread cpu 0 es ≡ [] → AreQuiet es
stepless_quiet thread cpu ws es script made = script_quiet cpu 0 ws es script (made_none thread cpu 0 es made)
