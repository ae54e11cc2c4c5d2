-- What each step tells.
use Rattle.std.specs.Prelude.{◌≡◌, ℕ, ◌+◌, ◌≤◌, ℤ, true, ◌||◌, List, [], ◌∷◌, ◌++◌, length, All, IsTrue, Some, None, ◌⊎◌, MatchBool, ◌==◌}
use mathlib.Core.Option.{some}
use mathlib.Core.Option.{Option as Said}
use Rattle.atomic_table.specs.Table.{Me}
use Rattle.atomic_table.specs.Table.{Step as Turn}
use Rattle.clk_num.specs.Wrapping.{raise, IsBitsOf}
use Rattle.clk_record.specs.declared.step.Step.{Step}
use Rattle.clk_record.specs.declared.mode.Mode.{Mode}
use Rattle.clk_record.specs.declared.mode.Mode.TheVariants.{PerCpu}
use Rattle.clk_record.specs.declared.step.Why.{Why}
use Rattle.clk_record.specs.declared.step.Why.TheVariants.{Lift}
use Rattle.clk_record.specs.Targets.{target}
use Rattle.clk_words.specs.declared.view.View.{View}
use Rattle.clk_words.specs.declared.view.ModeView.{ModeView}
use Rattle.clk_words.specs.declared.view.Name.{Name}
use Rattle.clk_words.specs.declared.view.Name.TheVariants.{Clock, Gtod, Raw, Offset}
use Rattle.clk_words.specs.Fronts.{Begins}
use Rattle.clk_words.specs.Kinds.{cpu_of}
use Rattle.clk_words.specs.Histories.{opens_at, value_after, is_lift}
use Rattle.clk_words.specs.Heights.{IsClockWord}
use Rattle.clk_words.specs.Bounds.{IsGtod, IsRaw, IsOffset, IsClock}
use Rattle.clk_words.specs.Parts.{gtod_of, raw_of, part_of, put_part, last_from, PartBegins}
use Rattle.clk_words.specs.Rights.{has_number}
use Rattle.clk_words.specs.Views.{is_percpu, mode_of, settled}
use Rattle.clk_words.specs.Knowing.{IsGood, HoldsInRange}

-- the view has seen more, and nothing else has changed
pub record Looks (v w : View) : Type 0 where
  pub between : List Step
  pub view_is : w ≡ record v { seen = v.seen ++ between }
  pub good : IsGood w

-- it has seen more and then its own step, which its list gains too
pub record Makes (v : View) (s : Step) (w : View) : Type 0 where
  pub between : List Step
  pub view_is : w ≡ record v { seen = (v.seen ++ between) ++ s ∷ []; mine = v.mine ++ s ∷ [] }
  pub good : IsGood w

-- the same, and at the end of what it has seen before its step the word held `old`
pub record Raises (v : View) (s : Step) (w : View) : Type 0 where
  pub makes : Makes v s w
  pub old_is : s.old ≡ value_after (opens_at v.start) s.word (v.seen ++ makes.between)
  pub range : IsClock (opens_at v.start) s.old

-- it has seen more, at whose end the clock word w holds x, and has that load
pub record Loads (v : View) (word : ℕ) (x : ℤ) (w : View) : Type 0 where
  pub between : List Step
  pub view_is : w ≡ record v { seen = v.seen ++ between; loads = v.loads ++ (record { of = Clock word; value = x }) ∷ [] }
  pub value_is : value_after (opens_at v.start) word w.seen ≡ x
  pub range : IsClock (opens_at v.start) x
  pub good : IsGood w

-- it knows stamp 0 of the register r, and more of what follows; the last is x
pub record Finds (v : View) (r : ℕ) (name : Name) (x : ℤ) (w : View) : Type 0 where
  pub stamp : ℤ
  pub more : List ℤ
  pub view_is : w ≡ record v {
    pairs = record {
      parts = put_part v.pairs.parts r (record { zero = Some stamp; after = (part_of v.pairs.parts r).after ++ more });
      owns = v.pairs.owns;
      told = v.pairs.told;
    };
    loads = v.loads ++ (record { of = name; value = x }) ∷ [];
  }
  pub same : (z : ℤ) → (part_of v.pairs.parts r).zero ≡ Some z → stamp ≡ z
  pub last_is : last_from stamp ((part_of v.pairs.parts r).after ++ more) ≡ x

-- the GTOD of this CPU: it is not older than any raw that was known. An owner learns nothing new
pub record FindsGtod (v : View) (cpu : ℕ) (x : ℤ) (w : View) : Type 0 where
  pub finds : Finds v (gtod_of cpu) (Gtod cpu) x w
  pub half : length (part_of v.pairs.parts (raw_of cpu)).after ≤ length (part_of w.pairs.parts (gtod_of cpu)).after
  pub whole : has_number v.pairs.owns cpu ≡ true → finds.more ≡ []
  pub range : IsGtod x

pub record FindsRaw (v : View) (cpu : ℕ) (x : ℤ) (w : View) : Type 0 where
  pub finds : Finds v (raw_of cpu) (Raw cpu) x w
  pub whole : has_number v.pairs.owns cpu ≡ true → finds.more ≡ []
  pub range : IsRaw (opens_at v.start) x

-- one more value of the register r
abbrev pub stamped : ℕ → ℤ → View → View
stamped r x v = record v {
  pairs = record {
    parts = put_part v.pairs.parts r (record { zero = (part_of v.pairs.parts r).zero; after = (part_of v.pairs.parts r).after ++ x ∷ [] });
    owns = v.pairs.owns;
    told = v.pairs.told;
  };
}

-- a look at the mode
abbrev pub looked_modes : Mode → ModeView → ModeView
looked_modes mode m = record m { looks = m.looks ++ mode ∷ []; found = m.found || is_percpu mode }

abbrev pub looked : Mode → View → View
looked mode v = record v { modes = looked_modes mode v.modes }

-- it finds the mode, which stays per-CPU; the watchdog's seat knows what it finds
pub record FindsMode (v : View) (mode : Mode) (w : View) : Type 0 where
  pub view_is : w ≡ looked mode v
  pub stays : v.modes.found ≡ true → mode ≡ PerCpu
  pub from_start : v.start.opening.mode ≡ PerCpu → mode ≡ PerCpu
  pub knows : v.modes.watch ≡ true → is_percpu mode ≡ v.modes.found

-- the offset is seen
abbrev pub seen_modes : ℤ → ModeView → ModeView
seen_modes x m = record m { offset = Some x }

abbrev pub offset_seen : ℤ → View → View
offset_seen x v = record v { loads = v.loads ++ (record { of = Offset; value = x }) ∷ []; modes = seen_modes x v.modes }

-- it is the one that was seen before, and in a per-CPU start the one of the opening
pub record FindsOffset (v : View) (x : ℤ) (w : View) : Type 0 where
  pub view_is : w ≡ offset_seen x v
  pub same : (y : ℤ) → v.modes.offset ≡ Some y → x ≡ y
  pub from_start : v.start.opening.mode ≡ PerCpu → x ≡ v.start.opening.offset
  pub range : IsOffset (opens_at v.start) x

-- the watchdog's stores: of the offset, of the register r, and of the mode, by which it has seen what it held
abbrev pub put_modes : ℤ → ModeView → ModeView
put_modes x m = record m { held = Some x }

abbrev pub offset_put : ℤ → View → View
offset_put x v = record v { modes = put_modes x v.modes }

abbrev pub cloned_modes : ℕ → ℤ → ModeView → ModeView
cloned_modes r x m = record m { cloned = put_part m.cloned r (record { zero = Some x; after = [] }) }

abbrev pub pair_cloned : ℕ → ℤ → View → View
pair_cloned r x v = record v { modes = cloned_modes r x v.modes }

abbrev pub published_modes : ModeView → ModeView
published_modes m = record m { found = true; offset = m.held; told = [] }

abbrev pub published : View → View
published v = record v { pairs = record { parts = v.modes.cloned; owns = v.pairs.owns; told = [] }; modes = published_modes v.modes }

-- a lift: it had seen all, lifts alone, and its step is next
pub record Lifts (v : View) (s : Step) (w : View) : Type 0 where
  pub view_is : w ≡ record v { seen = v.seen ++ s ∷ []; mine = v.mine ++ s ∷ [] }
  pub good : IsGood w
  pub old_is : s.old ≡ value_after (opens_at v.start) s.word v.seen
  pub range : IsClock (opens_at v.start) s.old
  pub lifts : All (λ t. IsTrue (is_lift t.why)) v.seen

-- what was told of the sides of a join begins what was kept
pub record Settles (v w : View) : Type 0 where
  pub view_is : w ≡ settled v
  pub good : IsGood w
  pub fronts : All (λ front. Begins front v.seen) v.told
  pub parts : All (λ parts. (r : ℕ) → PartBegins (part_of parts r) (part_of v.pairs.parts r)) v.pairs.told
  pub offsets : All (λ seen. (seen ≡ None) ⊎ (seen ≡ v.modes.offset)) v.modes.told

-- the steps on words, each of the view before and after it
pub record LoadedClock (turn : Turn Step) (before : Me Step View) (found : ℕ) (after : Me Step View) : Type 0 where
  pub value : ℤ
  pub word_is : IsClockWord before.0.start value found
  pub loads : Loads before.0 turn.word value after.0
  pub slots_kept : after.1 ≡ before.1

pub record Missed (before : Me Step View) (old found word : ℕ) (after : Me Step View) : Type 0 where
  pub value : ℤ
  pub word_is : IsClockWord before.0.start value found
  pub looks : Looks before.0 after.0
  pub value_is : value_after (opens_at before.0.start) word after.0.seen ≡ value
  pub range : IsClock (opens_at before.0.start) value
  pub later : old ≤ found
  pub slots_kept : after.1 ≡ before.1

pub record Hit (said : Said Step) (before : Me Step View) (after : Me Step View) : Type 0 where
  pub step : Step
  pub said_is : said ≡ some step
  pub makes : Makes before.0 step after.0
  pub slots_kept : after.1 ≡ before.1

-- the exchange found what it wanted, or something later
abbrev pub Exchanged : Turn Step → Me Step View → ℕ → Me Step View → Type 0
Exchanged turn before found after = MatchBool (found == turn.first) (Hit turn.said before after) (Missed before turn.first found turn.word after)

-- the word was raised to the target of the step that was asked for
pub record Raised (call : ℕ) (why : Why) (turn : Turn Step) (before : Me Step View) (found : ℕ) (after : Me Step View) : Type 0 where
  pub old : ℤ
  pub word_is : IsClockWord before.0.start old found
  pub raises : Raises before.0 (record {
    by = before.0.number;
    call = call;
    word = turn.word;
    why = why;
    old = old;
    new = raise old (target before.0.start.tick why);
  }) after.0
  pub slots_kept : after.1 ≡ before.1

pub record LoadedGtod (turn : Turn Step) (before : Me Step View) (found : ℕ) (after : Me Step View) : Type 0 where
  pub value : ℤ
  pub word_is : IsBitsOf value found
  pub finds : FindsGtod before.0 (cpu_of before.0.kind) value after.0
  pub slots_kept : after.1 ≡ before.1

pub record LoadedRaw (turn : Turn Step) (before : Me Step View) (found : ℕ) (after : Me Step View) : Type 0 where
  pub value : ℤ
  pub word_is : IsBitsOf value found
  pub finds : FindsRaw before.0 (cpu_of before.0.kind) value after.0
  pub slots_kept : after.1 ≡ before.1

pub record StoredGtod (turn : Turn Step) (before : Me Step View) (found : ℕ) (after : Me Step View) : Type 0 where
  pub value : ℤ
  pub word_is : IsBitsOf value turn.first
  pub is : after ≡ (stamped (gtod_of (cpu_of before.0.kind)) value before.0, before.1)

pub record StoredRaw (turn : Turn Step) (before : Me Step View) (found : ℕ) (after : Me Step View) : Type 0 where
  pub value : ℤ
  pub word_is : IsBitsOf value turn.first
  pub is : after ≡ (stamped (raw_of (cpu_of before.0.kind)) value before.0, before.1)

pub record LookedMode (turn : Turn Step) (before : Me Step View) (found : ℕ) (after : Me Step View) : Type 0 where
  pub finds : FindsMode before.0 (mode_of found) after.0
  pub slots_kept : after.1 ≡ before.1

pub record LoadedOffset (turn : Turn Step) (before : Me Step View) (found : ℕ) (after : Me Step View) : Type 0 where
  pub value : ℤ
  pub word_is : IsBitsOf value found
  pub finds : FindsOffset before.0 value after.0
  pub slots_kept : after.1 ≡ before.1

pub record StoredOffset (turn : Turn Step) (before : Me Step View) (found : ℕ) (after : Me Step View) : Type 0 where
  pub value : ℤ
  pub word_is : IsBitsOf value turn.first
  pub is : after ≡ (offset_put value before.0, before.1)

-- the watchdog's store to a stamp word; the offset that its seat holds is in range
pub record Cloned (turn : Turn Step) (before : Me Step View) (found : ℕ) (after : Me Step View) : Type 0 where
  pub value : ℤ
  pub word_is : IsBitsOf value turn.first
  pub register : ℕ
  pub place_is : turn.word ≡ before.0.start.cpus + register
  pub is : after ≡ (pair_cloned register value before.0, before.1)
  pub holds : HoldsInRange before.0

abbrev pub StoredMode : Turn Step → Me Step View → ℕ → Me Step View → Type 0
StoredMode turn before found after = after ≡ (published before.0, before.1)

-- the word was raised to the value that was asked for
pub record Lifted (call : ℕ) (value : ℤ) (turn : Turn Step) (before : Me Step View) (found : ℕ) (after : Me Step View) : Type 0 where
  pub old : ℤ
  pub word_is : IsClockWord before.0.start old found
  pub lifts : Lifts before.0 (record { by = before.0.number; call = call; word = turn.word; why = Lift value; old = old; new = raise old value }) after.0
  pub slots_kept : after.1 ≡ before.1

pub record Met (turn : Turn Step) (before : Me Step View) (found : ℕ) (after : Me Step View) : Type 0 where
  pub settles : Settles before.0 after.0
  pub slots_kept : after.1 ≡ before.1
