-- From what a step tells to what a call says, over plain data.
use Rattle.std.proofs.Common.{refl, ◌≡◌, ◌≢◌, ℕ, ◌+◌, ◌*◌, ◌^◌, ◌<◌, ℤ, pos, ◌+ℤ◌, List, [], ◌∷◌, ◌++◌, sym, ap, ◌∙◌, subst, arith, eq-eqb, ne_eqb, true, false}
use Rattle.std.specs.Int.{int_min, int_max}
use Rattle.std.proofs.lemmas.Int.{ints, clamps}
use Rattle.std.proofs.lemmas.List.Elements.{All-push, All-weaker, All-contains}
use mathlib.Core.Option.{some, some-injective}
use native.Mathlib.Decide.{ℕ_discrete}
use Rattle.atomic_table.specs.Seated.{TableId}
use Rattle.atomic_table.specs.Table.{Me}
use Rattle.atomic_table.specs.Table.{Step as Turn}
use Rattle.clk_num.specs.Biased.{IsWordOf}
use Rattle.clk_num.specs.Range.{IsNear}
use Rattle.clk_num.specs.Clamp.{local_target, elapsed}
use Rattle.clk_num.specs.Wrapping.{IsValue, wrap, above, raise, bits_of, IsBitsOf}
use Rattle.clk_num.proofs.Wraps.{wrapped}
use Rattle.clk_num.proofs.Heights.{wrap_fits, wrap_again, same_above, above_is, bits_are, bits_keep}
use Rattle.clk_record.specs.declared.step.Step.{Step}
use Rattle.clk_record.specs.declared.step.Why.{Why}
use Rattle.clk_record.specs.declared.step.Why.TheVariants.{Raise, Couple, Lift}
use Rattle.clk_record.specs.Targets.{target}
use Rattle.clk_words.specs.declared.opening.Start.{Start}
use Rattle.clk_words.specs.declared.view.View.{View}
use Rattle.clk_words.specs.declared.view.Load.{Load}
use Rattle.clk_words.specs.declared.view.ModeView.{ModeView}
use Rattle.clk_words.specs.declared.view.PairView.{PairView}
use Rattle.clk_words.specs.declared.view.Name.{Name}
use Rattle.clk_words.specs.declared.view.Name.TheVariants.{Clock, Gtod, Raw, Offset}
use Rattle.clk_words.specs.declared.kind.SeatKind.{SeatKind}
use Rattle.clk_words.specs.Kinds.{cpu_of}
use Rattle.clk_words.specs.Histories.{opens_at, value_after, HadValue, NamesHeld, is_lift}
use Rattle.clk_words.specs.Heights.{IsClockWord}
use Rattle.clk_words.specs.Bounds.{IsGtod, IsOffset, IsLiftValue, IsClock, IsTick}
use Rattle.clk_words.specs.Parts.{gtod_of, raw_of}
use Rattle.clk_words.specs.Rights.{has_number}
use Rattle.clk_words.specs.Knowing.{IsSoundAs, AreSound, HasLoaded, IsTrusted}
use Rattle.clk_words.specs.Told.{Looks, Makes, Raises, Loads, Finds, FindsGtod, FindsRaw, FindsOffset, Lifts, stamped, LoadedClock, Missed, Hit, Exchanged, Raised, LoadedGtod, LoadedRaw, LoadedOffset, offset_put, pair_cloned, Lifted}
use Rattle.clk_words.specs.Held.{Place, Held, place_of}
use Rattle.clk_words.specs.WordSeats.{IsSeated, AreWords}
use Rattle.clk_words.specs.Calls.{Loses, step_of}
use Rattle.clk_words.proofs.Replay.{clock_near, had_here, had_more}
use Rattle.clk_words.proofs.WordsSteps.{MayTry, MayRaise, raise_range}

-- a seat that belongs to the words is of their table and began with their key
pub record Belongs (table : TableId) (start : Start) (own : TableId) (key : Start) : Type 0 where
  pub table_is : table ≡ own
  pub start_is : start ≡ key

pub belongs : (table own : TableId) (v : View) (key : Start) (held : Held) (place : Place)
    → record { table = table; view = v } ≡ held → place_of held ≡ place → record { table = own; start = key } ≡ place
    → Belongs table v.start own key
belongs table own v key held place view_is own_is self_is =
    let e : record { table = table; start = v.start } ≡ record { table = own; start = key } = ap place_of view_is ∙ own_is ∙ sym self_is in
    record { table_is = ap (λ (p : Place). p.table) e; start_is = ap (λ (p : Place). p.start) e }

-- it belongs to them still
pub place_kept : (table own later : TableId) (start key now : Start) (place : Place) → Belongs table start own key → record { table = own; start = key } ≡ place
    → later ≡ table → now ≡ start → record { table = later; start = now } ≡ place
place_kept table own later start key now place b self_is e f = let x = b.table_is in let y = b.start_is in cc

-- loads stay sound as more is seen
sound_more : (start : Start) (front between : List Step) (name : Name) (x : ℤ) → IsSoundAs start front name x → IsSoundAs start (front ++ between) name x
sound_more start front between (Clock w) x h = (had_more start front between w x h.0, h.1)
sound_more start front between (Gtod cpu) x h = h
sound_more start front between (Raw cpu) x h = h
sound_more start front between Offset x h = h

pub loads_more : (start : Start) (front between : List Step) (loads : List Load) → AreSound start front loads → AreSound start (front ++ between) loads
loads_more start front between loads h =
    All-weaker (λ (l : Load). IsSoundAs start front l.of l.value) (λ (l : Load). IsSoundAs start (front ++ between) l.of l.value)
    (λ l is. sound_more start front between l.of l.value is) loads h

loads_push : (start : Start) (front : List Step) (loads : List Load) (name : Name) (x : ℤ) → AreSound start front loads → IsSoundAs start front name x
    → AreSound start front (loads ++ (record { of = name; value = x }) ∷ [])
loads_push start front loads name x h is = All-push (λ (l : Load). IsSoundAs start front l.of l.value) loads (record { of = name; value = x }) h is

module _ (number : ℕ) (kind : SeatKind) (made : ℕ) (taken later : List (ℕ × Step)) (v w : View) where
  pub sits_loads : IsSeated number kind made taken v → later ≡ taken → (word : ℕ) (x : ℤ) → Loads v word x w → IsSeated number kind made later w
  sits_loads seated same word x told =
      let front = v.seen ++ told.between in
      let held : value_after (opens_at v.start) word front ≡ x = ap (λ (u : View). value_after (opens_at v.start) word u.seen) (sym told.view_is) ∙ told.value_is in
      subst (IsSeated number kind made later) (sym told.view_is) (record {
        empty = same ∙ seated.empty;
        live = seated.live;
        number_is = seated.number_is;
        kind_is = seated.kind_is;
        made_is = seated.made_is;
        within = seated.within;
        owned = seated.owned;
        watched = seated.watched;
        sound = loads_push v.start front v.loads (Clock word) x (loads_more v.start v.seen told.between v.loads seated.sound)
            (had_here v.start front word x held, told.range);
      })

  pub sits_looks : IsSeated number kind made taken v → later ≡ taken → Looks v w → IsSeated number kind made later w
  sits_looks seated same told = subst (IsSeated number kind made later) (sym told.view_is) (record {
    empty = same ∙ seated.empty;
    live = seated.live;
    number_is = seated.number_is;
    kind_is = seated.kind_is;
    made_is = seated.made_is;
    within = seated.within;
    owned = seated.owned;
    watched = seated.watched;
    sound = loads_more v.start v.seen told.between v.loads seated.sound;
  })

  pub sits_makes : IsSeated number kind made taken v → later ≡ taken → (s : Step) → Makes v s w → IsSeated number kind made later w
  sits_makes seated same s told = subst (IsSeated number kind made later) (sym told.view_is) (record {
    empty = same ∙ seated.empty;
    live = seated.live;
    number_is = seated.number_is;
    kind_is = seated.kind_is;
    made_is = seated.made_is;
    within = seated.within;
    owned = seated.owned;
    watched = seated.watched;
    sound = loads_more v.start (v.seen ++ told.between) (s ∷ []) v.loads (loads_more v.start v.seen told.between v.loads seated.sound);
  })

  pub sits_finds : IsSeated number kind made taken v → later ≡ taken → (r : ℕ) (name : Name) (x : ℤ) → IsSoundAs v.start v.seen name x → Finds v r name x w
      → IsSeated number kind made later w
  sits_finds seated same r name x is told = subst (IsSeated number kind made later) (sym told.view_is) (record {
    empty = same ∙ seated.empty;
    live = seated.live;
    number_is = seated.number_is;
    kind_is = seated.kind_is;
    made_is = seated.made_is;
    within = seated.within;
    owned = seated.owned;
    watched = seated.watched;
    sound = loads_push v.start v.seen v.loads name x seated.sound is;
  })

  pub sits_stamped : IsSeated number kind made taken v → later ≡ taken → (r : ℕ) (x : ℤ) → w ≡ stamped r x v → IsSeated number kind made later w
  sits_stamped seated same r x is = subst (IsSeated number kind made later) (sym is) (record {
    empty = same ∙ seated.empty;
    live = seated.live;
    number_is = seated.number_is;
    kind_is = seated.kind_is;
    made_is = seated.made_is;
    within = seated.within;
    owned = seated.owned;
    watched = seated.watched;
    sound = seated.sound;
  })

-- a look, a load of the offset, and the watchdog's steps
module _ (number : ℕ) (kind : SeatKind) (made : ℕ) (taken later : List (ℕ × Step)) (v w : View) where
  -- what changes in the modes and the pairs alone, but not in the rights
  pub sits_modes : IsSeated number kind made taken v → later ≡ taken → (m : ModeView) (p : PairView) → w ≡ record v { modes = m; pairs = p }
      → m.watch ≡ v.modes.watch → p.owns ≡ v.pairs.owns → IsSeated number kind made later w
  sits_modes seated same m p is watch owns = subst (IsSeated number kind made later) (sym is) (record {
    empty = same ∙ seated.empty;
    live = seated.live;
    number_is = seated.number_is;
    kind_is = seated.kind_is;
    made_is = seated.made_is;
    within = seated.within;
    owned = λ c h. ap (λ ns. has_number ns c) owns ∙ seated.owned c h;
    watched = λ h. watch ∙ seated.watched h;
    sound = seated.sound;
  })

  pub sits_offset : IsSeated number kind made taken v → later ≡ taken → (x : ℤ) → FindsOffset v x w → IsSeated number kind made later w
  sits_offset seated same x told = subst (IsSeated number kind made later) (sym told.view_is) (record {
    empty = same ∙ seated.empty;
    live = seated.live;
    number_is = seated.number_is;
    kind_is = seated.kind_is;
    made_is = seated.made_is;
    within = seated.within;
    owned = seated.owned;
    watched = seated.watched;
    sound = loads_push v.start v.seen v.loads Offset x seated.sound told.range;
  })

  pub sits_lifts : IsSeated number kind made taken v → later ≡ taken → (s : Step) → Lifts v s w → IsSeated number kind made later w
  sits_lifts seated same s told = subst (IsSeated number kind made later) (sym told.view_is) (record {
    empty = same ∙ seated.empty;
    live = seated.live;
    number_is = seated.number_is;
    kind_is = seated.kind_is;
    made_is = seated.made_is;
    within = seated.within;
    owned = seated.owned;
    watched = seated.watched;
    sound = loads_more v.start v.seen (s ∷ []) v.loads seated.sound;
  })

-- what a load says, of the caller's view
same_clock : (start : Start) (x y : ℤ) (n : ℕ) → IsClock (opens_at start) x → IsValue y → IsClockWord start x n → IsClockWord start y n → x ≡ y
same_clock start x y n range fits p q = same_above (opens_at start) x y range.0 fits (omega (arith, ints))

pub says_loads : (turn : Turn Step) (m n : Me Step View) (found : ℕ) (v : View) (x : ℤ) → LoadedClock turn m found n → m.0 ≡ v → IsValue x → IsClockWord m.0.start x found
    → Loads v turn.word x n.0
says_loads turn m n found v x told e fits word =
    let same : told.value ≡ x = same_clock m.0.start told.value x found told.loads.range fits told.word_is word in
    subst (λ y. Loads v turn.word y n.0) same (subst (λ u. Loads u turn.word told.value n.0) e told.loads)

pub says_gtod : (turn : Turn Step) (m n : Me Step View) (found : ℕ) (v : View) (x : ℤ) → LoadedGtod turn m found n → m.0 ≡ v → IsBitsOf x found → FindsGtod v (cpu_of v.kind) x n.0
says_gtod turn m n found v x told e word =
    let same : told.value ≡ x = bits_keep told.value x found told.word_is word in
    subst (λ y. FindsGtod v (cpu_of v.kind) y n.0) same (subst (λ u. FindsGtod u (cpu_of u.kind) told.value n.0) e told.finds)

pub says_raw : (turn : Turn Step) (m n : Me Step View) (found : ℕ) (v : View) (x : ℤ) → LoadedRaw turn m found n → m.0 ≡ v → IsBitsOf x found → FindsRaw v (cpu_of v.kind) x n.0
says_raw turn m n found v x told e word =
    let same : told.value ≡ x = bits_keep told.value x found told.word_is word in
    subst (λ y. FindsRaw v (cpu_of v.kind) y n.0) same (subst (λ u. FindsRaw u (cpu_of u.kind) told.value n.0) e told.finds)

pub says_offset : (turn : Turn Step) (m n : Me Step View) (found : ℕ) (v : View) (x : ℤ) → LoadedOffset turn m found n → m.0 ≡ v → IsBitsOf x found → FindsOffset v x n.0
says_offset turn m n found v x told e word =
    let same : told.value ≡ x = bits_keep told.value x found told.word_is word in
    subst (λ y. FindsOffset v y n.0) same (subst (λ u. FindsOffset u told.value n.0) e told.finds)

-- a word in range has its value
pub clock_fits : (start : Start) (x : ℤ) (n : ℕ) → IsClockWord start x n → IsClock (opens_at start) x → n < 2 ^ 63
clock_fits start x n p q = let low = q.1 in let high = q.2 in omega (arith, ints)

-- a clock word of the words' opening is one of the seat's
pub word_here : (start key : Start) (opens x : ℤ) (n : ℕ) → start ≡ key → opens ≡ opens_at key → IsWordOf (above x opens) n → IsClockWord start x n
word_here start key opens x n same is word =
    subst (λ (o : Start). IsClockWord o x n) (sym same) (subst (λ o. IsWordOf (above x o) n) is word)

-- a word that the code takes in two's complement keeps its value
pub bits_here : (x : ℤ) (n : ℕ) → IsValue x → n ≡ bits_of x → IsBitsOf x n
bits_here x n fits is = subst (IsBitsOf x) (sym is) (bits_are x fits)

-- a value that was loaded is in range
pub loaded_sound : (v : View) (name : Name) (x : ℤ) → AreSound v.start v.seen v.loads → HasLoaded v name x → IsSoundAs v.start v.seen name x
loaded_sound v name x sound has = All-contains (λ (l : Load). IsSoundAs v.start v.seen l.of l.value) v.loads (record { of = name; value = x }) sound has

-- the target of a step that names values in range is in range, but that it may lie below the opening
pub record IsTarget (opens x : ℤ) : Type 0 where
  pub fits : IsValue x
  pub near : IsNear 60 (above x opens)

target_range : (opens tick raw tick_raw tick_gtod offset : ℤ) → IsTick tick → IsOffset opens offset → IsGtod tick_gtod
    → IsTarget opens (target tick (Raise raw tick_raw tick_gtod offset))
target_range opens tick raw tick_raw tick_gtod offset t o g = record {
  fits = wrap_fits _;
  near = (omega (arith, ints, clamps, wrapped), omega (arith, ints, clamps, wrapped));
}

clock_target : (opens x : ℤ) → IsClock opens x → IsTarget opens x
clock_target opens x p = let low = p.1 in let high = p.2 in record { fits = p.0; near = (omega (arith, ints), omega (arith, ints)) }

pub trusted_range : (v : View) (why : Why) → IsTick v.start.tick → AreSound v.start v.seen v.loads → IsTrusted v why
    → IsTarget (opens_at v.start) (target v.start.tick why)
trusted_range v (Raise raw tick_raw tick_gtod offset) t sound trusted =
    target_range (opens_at v.start) v.start.tick raw tick_raw tick_gtod offset t (loaded_sound v Offset offset sound trusted.3)
    (loaded_sound v (Gtod (cpu_of v.kind)) tick_gtod sound trusted.2)
trusted_range v (Couple from value) t sound trusted = clock_target (opens_at v.start) value (loaded_sound v (Clock from) value sound trusted).1
trusted_range v (Lift value) t sound trusted = absurd trusted

pub trusted_names : (v : View) (why : Why) → AreSound v.start v.seen v.loads → IsTrusted v why → NamesHeld v.start v.seen why
trusted_names v (Raise raw tick_raw tick_gtod offset) sound trusted = tt
trusted_names v (Couple from value) sound trusted = (loaded_sound v (Clock from) value sound trusted).0
trusted_names v (Lift value) sound trusted = tt

same_number : (m n : ℕ) → Dec (m ≡ n)
same_number m n = ℕ_discrete m n

-- an exchange, in each case
pub told_hit : (turn : Turn Step) (m n : Me Step View) (found : ℕ) → Exchanged turn m found n → found ≡ turn.first → Hit turn.said m n
told_hit turn m n found told e = let yes = eq-eqb found turn.first e in rw yes at told

pub told_miss : (turn : Turn Step) (m n : Me Step View) (found : ℕ) → Exchanged turn m found n → found ≢ turn.first → Missed m turn.first found turn.word n
told_miss turn m n found told k = let no_hit = ne_eqb found turn.first k in rw no_hit at told

pub sits_exchanged : (number : ℕ) (kind : SeatKind) (made : ℕ) (turn : Turn Step) (m n : Me Step View) (found : ℕ) → IsSeated number kind made m.1 m.0 → Exchanged turn m found n
    → IsSeated number kind made n.1 n.0
sits_exchanged number kind made turn m n found seated told = by_case (same_number found turn.first)
  where
    by_case : Dec (found ≡ turn.first) → IsSeated number kind made n.1 n.0
    by_case (yes e) = let hit = told_hit turn m n found told e in sits_makes number kind made m.1 n.1 m.0 n.0 seated hit.slots_kept hit.step hit.makes
    by_case (no k) = let miss = told_miss turn m n found told k in sits_looks number kind made m.1 n.1 m.0 n.0 seated miss.slots_kept miss.looks

same_start : (v w : View) → Looks v w → w.start ≡ v.start
same_start v w told = ap (λ (u : View). u.start) told.view_is

pub exchanged_start : (turn : Turn Step) (m n : Me Step View) (found : ℕ) → Exchanged turn m found n → n.0.start ≡ m.0.start
exchanged_start turn m n found told = by_case (same_number found turn.first)
  where
    by_case : Dec (found ≡ turn.first) → n.0.start ≡ m.0.start
    by_case (yes e) = let hit = told_hit turn m n found told e in ap (λ (u : View). u.start) hit.makes.view_is
    by_case (no k) = let miss = told_miss turn m n found told k in same_start m.0 n.0 miss.looks

-- what a lost exchange says, of the caller's view
pub says_lost : (turn : Turn Step) (m n : Me Step View) (found : ℕ) (v : View) (old x : ℤ) → Missed m turn.first found turn.word n → found ≢ turn.first → m.0 ≡ v
    → IsClock (opens_at m.0.start) old → IsClockWord m.0.start old turn.first → IsValue x → IsClockWord m.0.start x found → Loses v turn.word old x n.0
says_lost turn m n found v old x told k e range word fits held =
    let opens = opens_at m.0.start in
    let same : told.value ≡ x = same_clock m.0.start told.value x found told.range fits told.word_is held in
    let far = above_is opens x old (clock_near opens x (subst (IsClock opens) same told.range)) (clock_near opens old range) in
    record {
      looks = subst (λ u. Looks u n.0) e told.looks;
      value_is = subst (λ (u : View). value_after (opens_at u.start) turn.word n.0.seen ≡ x) e (told.value_is ∙ same);
      later = let p = told.later in omega (arith, ints);
    }

-- the words' number of CPUs is their key's
pub word_low : (own : TableId) (key : Start) (place : Place) (w : ℕ) → record { table = own; start = key } ≡ place → w < place.start.cpus → w < key.cpus
word_low own key place w self_is low = let e = ap (λ (p : Place). p.start.cpus) self_is in omega arith

-- the place of a CPU's register among the words
pub gtod_place : (own : TableId) (key : Start) (place : Place) (word cpu kind : ℕ) → record { table = own; start = key } ≡ place
    → word ≡ place.start.cpus + gtod_of cpu → cpu ≡ kind → word ≡ key.cpus + gtod_of kind
gtod_place own key place word cpu kind self_is e f = let g = ap (λ (p : Place). p.start.cpus) self_is in omega arith

pub raw_place : (own : TableId) (key : Start) (place : Place) (word cpu kind : ℕ) → record { table = own; start = key } ≡ place
    → word ≡ place.start.cpus + raw_of cpu → cpu ≡ kind → word ≡ key.cpus + raw_of kind
raw_place own key place word cpu kind self_is e f = let g = ap (λ (p : Place). p.start.cpus) self_is in omega arith

pub within_table : (own : TableId) (key : Start) (place : Place) (word : ℕ) → record { table = own; start = key } ≡ place → word < place.table.words → word < own.words
within_table own key place word self_is low = let e = ap (λ (p : Place). p.table.words) self_is in omega arith

-- the places of the mode and of the offset
pub mode_behind : (own : TableId) (key : Start) (place : Place) (word : ℕ) → record { table = own; start = key } ≡ place
    → word ≡ 3 * place.start.cpus → word ≡ 3 * key.cpus
mode_behind own key place word self_is e = let g = ap (λ (p : Place). p.start.cpus) self_is in omega arith

pub offset_behind : (own : TableId) (key : Start) (place : Place) (word : ℕ) → record { table = own; start = key } ≡ place
    → word ≡ 3 * place.start.cpus + 1 → word ≡ 3 * key.cpus + 1
offset_behind own key place word self_is e = let g = ap (λ (p : Place). p.start.cpus) self_is in omega arith

-- a seat's CPU is one of the words'
pub cpu_low : (table own : TableId) (start key : Start) (cpu : ℕ) → Belongs table start own key → cpu < start.cpus → cpu < key.cpus
cpu_low table own start key cpu b low = let e = ap (λ (s : Start). s.cpus) b.start_is in omega arith

-- an exchange that was done, of the caller's view
pub says_done : (turn : Turn Step) (m n : Me Step View) (found : ℕ) (v : View) (said : Step) → Exchanged turn m found n → found ≡ turn.first → turn.said ≡ some said → m.0 ≡ v → Makes v said n.0
says_done turn m n found v said told e is same =
    let hit = told_hit turn m n found told e in
    let step : hit.step ≡ said = some-injective hit.step said (sym hit.said_is ∙ is) in
    subst (λ s. Makes v s n.0) step (subst (λ u. Makes u hit.step n.0) same hit.makes)

-- what a raise says, of the caller's view
pub says_raised : (call : ℕ) (why : Why) (turn : Turn Step) (m n : Me Step View) (found : ℕ) (v : View) (x : ℤ) → Raised call why turn m found n → m.0 ≡ v
    → IsValue x → IsClockWord m.0.start x found → Raises v (step_of v call turn.word x (raise x (target v.start.tick why)) why) n.0
says_raised call why turn m n found v x told e fits word =
    let same : told.old ≡ x = same_clock m.0.start told.old x found told.raises.range fits told.word_is word in
    subst (λ (u : View). Raises u (step_of u call turn.word x (raise x (target u.start.tick why)) why) n.0) e
    (subst (λ y. Raises m.0 (step_of m.0 call turn.word y (raise y (target m.0.start.tick why)) why) n.0) same told.raises)

-- what a lift says, of the caller's view
pub says_lifted : (call : ℕ) (value : ℤ) (turn : Turn Step) (m n : Me Step View) (found : ℕ) (v : View) (x : ℤ) → Lifted call value turn m found n → m.0 ≡ v
    → IsValue x → IsClockWord m.0.start x found → Lifts v (step_of v call turn.word x (raise x value) (Lift value)) n.0
says_lifted call value turn m n found v x told e fits word =
    let same : told.old ≡ x = same_clock m.0.start told.old x found told.lifts.range fits told.word_is word in
    subst (λ (u : View). Lifts u (step_of u call turn.word x (raise x value) (Lift value)) n.0) e
    (subst (λ y. Lifts m.0 (step_of m.0 call turn.word y (raise y value) (Lift value)) n.0) same told.lifts)

-- what may be lifted to is in range
pub lift_range : (opens value : ℤ) → IsLiftValue opens value → IsTarget opens value
lift_range opens value is =
    let g = is.gtod_range in
    let o = is.offset_range in
    subst (IsTarget opens) (sym is.value_is) (record {
      fits = wrap_fits _;
      near = (omega (arith, ints, wrapped), omega (arith, ints, wrapped));
    })

-- a store of the watchdog's, of the caller's view
pub says_put : (m n : Me Step View) (v : View) (value x : ℤ) (word : ℕ) → n ≡ (offset_put value m.0, m.1) → m.0 ≡ v → IsBitsOf value word → IsBitsOf x word → n.0 ≡ offset_put x v
says_put m n v value x word is e p q =
    ap (λ (k : Me Step View). k.0) is ∙ ap (λ y. offset_put y m.0) (bits_keep value x word p q) ∙ ap (λ (u : View). offset_put x u) e

pub says_cloned : (m n : Me Step View) (v : View) (place register r : ℕ) (value x : ℤ) (word : ℕ) → n ≡ (pair_cloned register value m.0, m.1) → m.0 ≡ v
    → place ≡ m.0.start.cpus + register → place ≡ m.0.start.cpus + r → IsBitsOf value word → IsBitsOf x word → n.0 ≡ pair_cloned r x v
says_cloned m n v place register r value x word is e f g p q =
    let same : register ≡ r = omega arith in
    ap (λ (k : Me Step View). k.0) is ∙ ap (λ y. pair_cloned register y m.0) (bits_keep value x word p q) ∙ ap (λ i. pair_cloned i x m.0) same ∙ ap (λ (u : View). pair_cloned r x u) e

-- the value put is in range, since the target is
put_range : (v : View) (word : ℕ) (old new : ℤ) (why : Why) → IsTick v.start.tick → AreSound v.start v.seen v.loads → HasLoaded v (Clock word) old → IsTrusted v why
    → new ≡ raise old (target v.start.tick why) → IsClock (opens_at v.start) new
put_range v word old new why tick sound loaded trusted is =
    let to = trusted_range v why tick sound trusted in
    subst (IsClock (opens_at v.start)) (sym is) (raise_range (opens_at v.start) old (target v.start.tick why) (loaded_sound v (Clock word) old sound loaded).1 to.fits to.near)

trusted_raises : (v : View) (why : Why) → IsTrusted v why → is_lift why ≡ false
trusted_raises v (Raise raw tick_raw tick_gtod offset) trusted = refl
trusted_raises v (Couple from value) trusted = refl
trusted_raises v (Lift value) trusted = absurd trusted

-- what a caller may ask of a word, by the seat and the words that it hands in
pub record MayAsk (start : Start) (v : View) (word : ℕ) (why : Why) : Type 0 where
  pub low : word < start.cpus
  pub trusted : IsTrusted v why
  pub found : v.modes.found ≡ true
  pub tick : IsTick start.tick

pub asked : (table own : TableId) (v : View) (key : Start) (held : Held) (place : Place) (word : ℕ) (why : Why) (cpus : ℕ) (tick opens : ℤ)
    → AreWords cpus tick opens own key → record { table = table; view = v } ≡ held → record { table = own; start = key } ≡ place
    → word < place.start.cpus → IsTrusted held.view why → held.view.modes.found ≡ true → MayAsk key v word why
asked table own v key held place word why cpus tick opens are view_is self_is low trusted found = record {
  found = ap (λ (h : Held). h.view.modes.found) view_is ∙ found;
  low = word_low own key place word self_is low;
  trusted = subst (λ (h : Held). IsTrusted h.view why) (sym view_is) trusted;
  tick = are.tick_range;
}

-- what it asks to be raised has a target in range, and may be raised
module _ (start : Start) (v : View) (word : ℕ) (why : Why) (number : ℕ) (kind : SeatKind) (made : ℕ) (taken : List (ℕ × Step))
    (seated : IsSeated number kind made taken v) (same : v.start ≡ start) (may : MayAsk start v word why) where
  back : MayAsk v.start v word why
  back = subst (λ (s : Start). MayAsk s v word why) (sym same) may

  pub asked_target : IsTarget (opens_at start) (target start.tick why)
  asked_target = subst (λ (s : Start). IsTarget (opens_at s) (target s.tick why)) same
      (let here = back in trusted_range v why here.tick seated.sound here.trusted)

  pub raise_asked : (most : ℕ) → IsClockWord start (target start.tick why) most → MayRaise start v word most why
  raise_asked most is =
      let to = asked_target in
      record {
        low = may.low;
        fits = to.fits;
        near = to.near;
        most_is = is;
        names = subst (λ (s : Start). NamesHeld s v.seen why) same (trusted_names v why seated.sound may.trusted);
        found = may.found;
        no_lift = trusted_raises v why may.trusted;
      }

  -- what it asks to be put
  pub put_in_range : (old new : ℤ) → HasLoaded v (Clock word) old → new ≡ raise old (target start.tick why) → IsClock (opens_at start) old × IsClock (opens_at start) new
  put_in_range old new loaded is =
      let here = back in
      let put : new ≡ raise old (target v.start.tick why) = is ∙ ap (λ (s : Start). raise old (target s.tick why)) (sym same) in
      subst (λ (s : Start). IsClock (opens_at s) old × IsClock (opens_at s) new) same
      ((loaded_sound v (Clock word) old seated.sound loaded).1, put_range v word old new why here.tick seated.sound loaded here.trusted put)

-- the target that the code takes is near the opening that it keeps
pub near_here : (key : Start) (tick opens wanted : ℤ) (why : Why) → tick ≡ key.tick → opens ≡ opens_at key → wanted ≡ target tick why → IsTarget (opens_at key) (target key.tick why)
    → IsNear 60 (above wanted opens)
near_here key tick opens wanted why same is to near =
    subst (λ x. IsNear 60 (above x opens)) (sym (to ∙ ap (λ t. target t why) same)) (subst (λ o. IsNear 60 (above (target key.tick why) o)) (sym is) near.near)

pub target_here : (key : Start) (tick opens wanted : ℤ) (why : Why) (most : ℕ) → tick ≡ key.tick → opens ≡ opens_at key → wanted ≡ target tick why → IsWordOf (above wanted opens) most
    → IsClockWord key (target key.tick why) most
target_here key tick opens wanted why most same is to word =
    subst (λ x. IsClockWord key x most) (to ∙ ap (λ t. target t why) same) (word_here key key opens wanted most refl is word)

pub near_clock : (key : Start) (opens x : ℤ) → opens ≡ opens_at key → IsClock (opens_at key) x → IsNear 60 (above x opens)
near_clock key opens x is range = subst (λ o. IsNear 60 (above x o)) (sym is) (clock_target (opens_at key) x range).near

-- the step that the code answers is the one that was raised
pub same_raise : (v : View) (by c call word : ℕ) (y why : Why) (old new tick key wanted : ℤ) → by ≡ v.number → c ≡ call → y ≡ why → tick ≡ key → wanted ≡ target tick why → new ≡ raise old wanted
    → step_of v c word old (raise old (target key y)) y ≡ record { by = by; call = call; word = word; why = why; old = old; new = new }
same_raise v by c call word y why old new tick key wanted e f g same to is = cc

pub same_lift : (v : View) (by c call word : ℕ) (y value old new : ℤ) → by ≡ v.number → c ≡ call → y ≡ value → new ≡ raise old value
    → step_of v c word old (raise old y) (Lift y) ≡ record { by = by; call = call; word = word; why = Lift value; old = old; new = new }
same_lift v by c call word y value old new e f g put = cc

-- the target of a local reading, as the code sums it up
pub raise_target : (raw tick_raw tick_gtod offset tick gone past sum to : ℤ) (why : Why) → why ≡ Raise raw tick_raw tick_gtod offset → gone ≡ above raw tick_raw → past ≡ int_max gone (pos 0)
    → sum ≡ wrap (tick_gtod +ℤ offset) → to ≡ local_target sum past tick → to ≡ target tick why
raise_target raw tick_raw tick_gtod offset tick gone past sum to why is went since base reached =
    let least = int_min (elapsed raw tick_raw) tick in
    reached ∙ ap (λ d. wrap (sum +ℤ int_min d tick)) (since ∙ ap (λ x. int_max x (pos 0)) went) ∙ ap (λ b. wrap (b +ℤ least)) base
    ∙ wrap_again (tick_gtod +ℤ offset) least ∙ ap (target tick) (sym is)

pub try_asked : (start : Start) (v : View) (s : Step) (number : ℕ) (kind : SeatKind) (made old new : ℕ) (taken : List (ℕ × Step))
    → (seated : IsSeated number kind made taken v) → (same : v.start ≡ start) → MayAsk start v s.word s.why → HasLoaded v (Clock s.word) s.old → s.new ≡ raise s.old (target start.tick s.why)
    → s.by ≡ number → IsClockWord start s.old old → IsClockWord start s.new new → MayTry start v s old new
try_asked start v s number kind made old new taken seated same may loaded is by old_word new_word =
    let range = put_in_range start v s.word s.why number kind made taken seated same may s.old s.new loaded is in
    record {
      by_is = by ∙ seated.number_is;
      low = may.low;
      old_word = old_word;
      new_word = new_word;
      new_is = is;
      had = subst (λ (o : Start). HadValue o v.seen s.word s.old) same (loaded_sound v (Clock s.word) s.old seated.sound loaded).0;
      names = subst (λ (o : Start). NamesHeld o v.seen s.why) same (trusted_names v s.why seated.sound may.trusted);
      old_range = range.0;
      new_range = range.1;
      found = may.found;
      no_lift = trusted_raises v s.why may.trusted;
    }
