-- Which events the words of a script call for.
use Rattle.std.specs.Prelude.{◌≡◌, ℕ, ◌+◌, ◌==◌, ℤ, pos, List, [], ◌∷◌, ◌++◌, map, MatchBool}
use Rattle.clk_machine.specs.Plan.{count_of}
use Rattle.clk_machine.specs.declared.script.Word.{Word}
use Rattle.clk_machine.specs.declared.script.Word.TheVariants as word
use Rattle.clk_lawful.specs.declared.event.Event.{Event}
use Rattle.clk_lawful.specs.declared.event.EventKind.{EventKind}
use Rattle.clk_lawful.specs.declared.event.EventKind.TheVariants.{Stable, Local, Couple, Stamp, Nothing, Update, Pause}

-- a reading of the own clock, in either mode
abbrev pub IsOwnReading : List EventKind → Type 0
IsOwnReading (Stable raw value ∷ []) = Unit {0}
IsOwnReading (Local raw tick_raw tick_gtod offset old new ∷ []) = Unit {0}
IsOwnReading _ = ⊥

-- a reading of another CPU's clock: per-CPU it is a reading of the own clock first
abbrev pub IsRemoteReading : ℕ → List EventKind → Type 0
IsRemoteReading asked (Stable raw value ∷ []) = Unit {0}
IsRemoteReading asked (Local raw tick_raw tick_gtod offset old new ∷ Couple cpu own other word from to ∷ []) = cpu ≡ asked
IsRemoteReading asked _ = ⊥

-- a tick: per-CPU it is a stamp and then a reading
abbrev pub IsTick : List EventKind → Type 0
IsTick (Nothing ∷ []) = Unit {0}
IsTick (Stamp gtod_ticket gtod stamp ∷ Local raw tick_raw tick_gtod offset old new ∷ []) = Unit {0}
IsTick _ = ⊥

-- the end of an idle time: a reading and then a tick
abbrev pub IsIdle : List EventKind → Type 0
IsIdle [] = ⊥
IsIdle (k ∷ ks) = IsOwnReading (k ∷ []) × IsTick ks

abbrev pub IsUpdate : List EventKind → Type 0
IsUpdate (Update p ∷ []) = Unit {0}
IsUpdate _ = ⊥

abbrev pub IsPause : ℤ → List EventKind → Type 0
IsPause n (Pause ticket count ∷ []) = n ≡ pos count
IsPause n _ = ⊥

-- what one script word of a thread on this CPU calls for; a remote reading of the own CPU is a reading of the own clock
abbrev pub Calls : ℕ → Word → List EventKind → Type 0
Calls cpu word.Local ks = IsOwnReading ks
Calls cpu (word.Remote d) ks = MatchBool (count_of d == cpu) (IsOwnReading ks) (IsRemoteReading (count_of d) ks)
Calls cpu word.Tick ks = IsTick ks
Calls cpu word.Idle ks = IsIdle ks
Calls cpu word.Update ks = IsUpdate ks
Calls cpu (word.Pause n) ks = IsPause n ks

-- the events of call m
abbrev pub events_at : ℕ → List EventKind → List Event
events_at m ks = map (λ k. record { call = m; kind = k }) ks

-- the events of a thread on this CPU are those of each word in order, whose calls are numbered from m
abbrev pub AreEventsOf : ℕ → ℕ → List Word → List Event → Type 0
AreEventsOf cpu m [] es = es ≡ []
AreEventsOf cpu m (w ∷ ws) es =
    (ks : List EventKind) × (rest : List Event) × (es ≡ events_at m ks ++ rest) × Calls cpu w ks × AreEventsOf cpu (m + 1) ws rest
