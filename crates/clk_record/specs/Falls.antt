-- A warp run as a list of readings in lock order: where each side ends, and which readings are falls.
use Rattle.std.specs.Prelude.{◌≡◌, ℕ, ◌+◌, ◌-◌, ◌%◌, Bool, false, not, ◌&&◌, ◌||◌, List, [], ◌∷◌, ◌++◌, length, fold, max, nat_eq, nat_lt, if◌then◌else◌}
use Rattle.std.specs.List.{list_any}
use Rattle.clk_record.specs.declared.warp.Side.{Side}
use Rattle.clk_record.specs.declared.warp.WarpReading.{WarpReading}
use Rattle.clk_record.specs.Sides.{is_same, of_side, turns_of, first_tsc, last_tsc}

-- how many cycles a side goes on after its start, and how many turns, before it looks whether to end
pub record Limits : Type 0 where
  pub span : ℕ
  pub turns : ℕ

-- a fall: the side that saw it, and by how many cycles the counter was below the turn before
pub record Fall : Type 0 where
  pub side : Side
  pub size : ℕ

-- what f makes of each reading and those before it, in order
abbrev pub each_after : {A : Type 0} → (List WarpReading → WarpReading → List A) → List WarpReading → List WarpReading → List A
each_after f front [] = []
each_after f front (r ∷ rs) = f front r ++ each_after f (front ++ r ∷ []) rs

abbrev pub each_place : {A : Type 0} → (List WarpReading → WarpReading → List A) → List WarpReading → List A
each_place f rs = each_after f [] rs

-- ---- where a side is

-- after its start reading a side's next reading is a turn, and turns are numbered from 0
abbrev pub is_started : Side → List WarpReading → Bool
is_started side rs = nat_lt 0 (length (of_side side rs))

abbrev pub start_of : Side → List WarpReading → ℕ
start_of side rs = first_tsc (of_side side rs)

abbrev pub next_turn : Side → List WarpReading → ℕ
next_turn side rs = length (of_side side rs) - 1

-- on every eighth turn a side ends if its time is over or it made more turns than it may
abbrev pub is_over : Limits → ℕ → ℕ → ℕ → Bool
is_over l start turn tsc = nat_eq (turn % 8) 0 && (nat_lt (start + l.span) tsc || nat_lt l.turns turn)

-- whether a reading is its side's last
abbrev pub is_last : Limits → List WarpReading → WarpReading → Bool
is_last l front r = not r.start && is_over l (start_of r.side front) (next_turn r.side front) r.tsc

-- the sides that have ended
abbrev pub ended_sides : Limits → List WarpReading → List Side
ended_sides l rs = each_place (λ front r. if is_last l front r then r.side ∷ [] else []) rs

abbrev pub is_ended : Limits → Side → List WarpReading → Bool
is_ended l side rs = list_any (is_same side) (ended_sides l rs)

-- each side has a start reading first, then turns, and nothing after its last
abbrev pub AreInTurn : Limits → List WarpReading → List WarpReading → Type 0
AreInTurn l front [] = Unit {0}
AreInTurn l front (r ∷ rs) =
    (is_ended l r.side front ≡ false) × (r.start ≡ not (is_started r.side front)) × AreInTurn l (front ++ r ∷ []) rs

-- ---- falls

-- the counter at the turn before, of whichever side, and 0 at the first turn; a start reading is none
abbrev pub turn_before : List WarpReading → ℕ
turn_before front = last_tsc (turns_of front)

-- a turn below the turn before it, where it is not its side's last
abbrev pub is_fall : Limits → List WarpReading → WarpReading → Bool
is_fall l front r = not r.start && (not (is_last l front r) && nat_lt r.tsc (turn_before front))

abbrev pub falls : Limits → List WarpReading → List Fall
falls l rs =
    each_place (λ front r. if is_fall l front r then (record { side = r.side; size = turn_before front - r.tsc }) ∷ [] else []) rs

-- ---- what falls count

-- the size of the greatest, or 0
abbrev pub greatest : List Fall → ℕ
greatest fs = fold (λ most f. max most f.size) 0 fs

-- how many come right after a fall on the other side
abbrev pub changes : List Fall → ℕ
changes [] = 0
changes (f ∷ []) = 0
changes (f ∷ (g ∷ fs)) = (if is_same f.side g.side then 0 else 1) + changes (g ∷ fs)

-- the falls up to and with the side's last
abbrev pub has_fall : Side → List Fall → Bool
has_fall side fs = list_any (λ f. is_same side f.side) fs

abbrev pub through_last : Side → List Fall → List Fall
through_last side [] = []
through_last side (f ∷ fs) = if has_fall side (f ∷ fs) then f ∷ through_last side fs else []

-- the greatest fall up to and with the side's last, or 0 if the side has none
abbrev pub greatest_seen : Side → List Fall → ℕ
greatest_seen side fs = greatest (through_last side fs)
