-- The views of the first seat, of the two seats of a split, and of a joined seat.
use Rattle.std.specs.Prelude.{ℕ, zero, suc, ◌+◌, pos, Bool, true, false, not, ◌&&◌, ◌||◌, List, [], ◌∷◌, ◌++◌, length, nat_eq, nat_lt, Some, None, if◌then◌else◌}
use Rattle.clk_record.specs.declared.mode.Mode.{Mode}
use Rattle.clk_record.specs.declared.mode.Mode.TheVariants.{Stable, PerCpu}
use Rattle.clk_record.specs.declared.step.Step.{Step}
use Rattle.clk_words.specs.declared.opening.Opening.{Opening}
use Rattle.clk_words.specs.declared.opening.Start.{Start}
use Rattle.clk_words.specs.declared.kind.SeatKind.{SeatKind}
use Rattle.clk_words.specs.declared.kind.SeatKind.TheVariants.{Reader}
use Rattle.clk_words.specs.declared.view.View.{View}
use Rattle.clk_words.specs.declared.view.Part.{Part}
use Rattle.clk_words.specs.declared.view.PairView.{PairView}
use Rattle.clk_words.specs.declared.view.ModeView.{ModeView}
use Rattle.clk_words.specs.Kinds.{is_watch}
use Rattle.clk_words.specs.Parts.{either_zero, joint_parts}
use Rattle.clk_words.specs.Rights.{has_number, first_gives, cpus_below, gives_without, owns_without, owned_by}

abbrev pub is_percpu : Mode → Bool
is_percpu Stable = false
is_percpu PerCpu = true

-- what the mode's word says
abbrev pub mode_of : ℕ → Mode
mode_of word = if nat_eq word 0 then Stable else PerCpu

-- the pair of the opening, for each of n CPUs
abbrev pub pairs_known : ℕ → Opening → List Part
pairs_known zero o = []
pairs_known (suc n) o = (record { zero = Some o.tick_gtod; after = [] }) ∷ (record { zero = Some o.tick_raw; after = [] }) ∷ pairs_known n o

abbrev pub first_modes : Opening → ModeView
first_modes o = record {
  looks = [];
  found = is_percpu o.mode;
  offset = if is_percpu o.mode then Some o.offset else None;
  watch = true;
  held = Some o.offset;
  cloned = [];
  told = [];
}

-- the first seat: it has every right, and in a per-CPU start alone it knows each pair and the offset
abbrev pub first_view : Start → View
first_view start = record {
  live = true;
  start = start;
  number = 0;
  kind = Reader 0;
  made = 1;
  mine = [];
  joined = [];
  seen = [];
  loads = [];
  pairs = record { parts = if is_percpu start.opening.mode then pairs_known start.cpus start.opening else []; owns = cpus_below start.cpus; told = [] };
  gives = first_gives start.cpus;
  told = [];
  modes = first_modes start.opening;
}

-- the watchdog's right is given away with what is held by it
abbrev pub giver_modes : Bool → ModeView → ModeView
giver_modes gone m = record m { watch = m.watch && not gone; held = if gone then None else m.held; cloned = if gone then [] else m.cloned }

abbrev pub given_modes : Bool → ModeView → ModeView
given_modes gone m = record {
  looks = [];
  found = m.found;
  offset = m.offset;
  watch = gone;
  held = if gone then m.held else None;
  cloned = if gone then m.cloned else [];
  told = [];
}

-- the seat that gave this kind
abbrev pub giver_view : SeatKind → View → View
giver_view kind v = record v {
  made = v.made + 1;
  gives = gives_without kind v.gives;
  pairs = record { parts = v.pairs.parts; owns = owns_without kind v.pairs.owns; told = v.pairs.told };
  modes = giver_modes (is_watch kind) v.modes;
}

-- the new seat: it has seen what its mother has, has made and loaded nothing, and may not split
abbrev pub given_view : SeatKind → View → View
given_view kind v = record {
  live = true;
  start = v.start;
  number = v.made;
  kind = kind;
  made = 0;
  mine = [];
  joined = [];
  seen = v.seen;
  loads = [];
  pairs = record { parts = v.pairs.parts; owns = owned_by kind; told = [] };
  gives = [];
  told = [];
  modes = given_modes (is_watch kind) v.modes;
}

-- the steps that a seat has, each list with the number that it was made under
abbrev pub own_lists : View → List (ℕ × List Step)
own_lists v = (v.number, v.mine) ∷ v.joined

abbrev pub longer : List Step → List Step → List Step
longer xs ys = if nat_lt (length xs) (length ys) then ys else xs

abbrev pub joint_pairs : PairView → PairView → PairView
joint_pairs p q = record {
  parts = joint_parts (has_number p.owns) (has_number q.owns) p.parts q.parts;
  owns = p.owns ++ q.owns;
  told = p.parts ∷ q.parts ∷ [];
}

abbrev pub joint_modes : ModeView → ModeView → ModeView
joint_modes m n = record {
  looks = m.looks;
  found = m.found || n.found;
  offset = either_zero m.offset n.offset;
  watch = m.watch || n.watch;
  held = if m.watch then m.held else n.held;
  cloned = if m.watch then m.cloned else n.cloned;
  told = m.offset ∷ n.offset ∷ [];
}

-- the right to split comes from the side that has it
abbrev pub joint_made : ℕ → ℕ → ℕ
joint_made m n = if nat_eq m 0 then n else m

-- two seats as one: it shows the number and the kind of the first, and has the rights of both
abbrev pub joint_view : View → View → View
joint_view v w = record v {
  made = joint_made v.made w.made;
  joined = v.joined ++ own_lists w;
  seen = longer v.seen w.seen;
  pairs = joint_pairs v.pairs w.pairs;
  gives = if nat_eq v.made 0 then w.gives else v.gives;
  told = v.seen ∷ w.seen ∷ [];
  modes = joint_modes v.modes w.modes;
}

-- what it was told is let go
abbrev pub settled_modes : ModeView → ModeView
settled_modes m = record m { told = [] }

abbrev pub settled : View → View
settled v = record v { told = []; pairs = record { parts = v.pairs.parts; owns = v.pairs.owns; told = [] }; modes = settled_modes v.modes }

abbrev pub together : View → View → View
together v w = settled (joint_view v w)

-- what a join leaves in the place of the second
abbrev pub spent_view : View
spent_view = record {
  live = false;
  start = record { cpus = 0; tick = pos 0; opening = record { mode = PerCpu; offset = pos 0; tick_gtod = pos 0; tick_raw = pos 0 } };
  number = 0;
  kind = Reader 0;
  made = 0;
  mine = [];
  joined = [];
  seen = [];
  loads = [];
  pairs = record { parts = []; owns = []; told = [] };
  gives = [];
  told = [];
  modes = record { looks = []; found = false; offset = None; watch = false; held = None; cloned = []; told = [] };
}
