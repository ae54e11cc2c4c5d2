-- What contracts see of a `TurnLock` and of a `TurnSeat`, and what each call does.
use Rattle.std.specs.Prelude.{◌≡◌, ℕ, ◌+◌, ◌^◌, ◌<◌, Bool, true, false, List, [], ◌∷◌, ◌++◌, length, Option, Some, None}
use mathlib.Core.List.{IsPrefix}
use Rattle.atomic_table.specs.Seated.{TableId}
use Rattle.clk_record.specs.declared.warp.Side.{Side}
use Rattle.clk_warp.specs.declared.section.Section.{Section}
use Rattle.clk_warp.specs.Run.{Run, change, IsSection}
use Rattle.clk_warp.specs.Sections.{after, AreSections, MayMake, sections_of}

-- which lock it is, and the first state that stood in it
pub record Lock : Type 0 where
  pub table : TableId
  pub first : Run

-- a seat: its lock, its side, whether it is inside, its last lock ticket, the sections that it has found or made, and
-- those that it made
pub record Turn : Type 0 where
  pub lock : Lock
  pub side : Side
  pub inside : Bool
  pub ticket : Option ℕ
  pub known : List Section
  pub own : List Section

-- a seat that has not entered yet
abbrev pub fresh : Lock → Side → Turn
fresh lock side = record { lock = lock; side = side; inside = false; ticket = None; known = []; own = [] }

-- it is inside, and has found the first state, changed by as many sections as its lock ticket. Those that it had found
-- or made are the first of these, and those of its side are its own
pub record Enters (before : Turn) (state : Run) (now : Turn) : Type 0 where
  pub lock_is : now.lock ≡ before.lock
  pub side_is : now.side ≡ before.side
  pub own_is : now.own ≡ before.own
  pub inside : now.inside ≡ true
  pub grown : IsPrefix before.known now.known
  pub legal : AreSections now.lock.first now.known
  pub state_is : state ≡ after now.lock.first now.known
  pub ticket_is : now.ticket ≡ Some (length now.known)
  pub room : length now.known + 1 < 2 ^ 64
  pub mine : sections_of now.side now.known ≡ sections_of now.side now.own

-- a state changed by one section, which the side may make
pub record IsChanged (side : Side) (old new : Run) : Type 0 where
  pub section : Section
  pub fits : IsSection old section
  pub may : MayMake side section
  pub is : new ≡ change old section

-- it is outside again, and has made one section more
pub record Leaves (before : Turn) (state : Run) (now : Turn) : Type 0 where
  pub section : Section
  pub fits : IsSection (after before.lock.first before.known) section
  pub may : MayMake before.side section
  pub state_is : state ≡ change (after before.lock.first before.known) section
  pub is : now ≡ record before { inside = false; known = before.known ++ section ∷ []; own = before.own ++ section ∷ [] }

-- the first state, changed by as many sections as the two seats made. Those that each has found or made are the first
pub record Closes (first : Run) (a b : Turn) (state : Run) : Type 0 where
  pub all : List Section
  pub legal : AreSections first all
  pub state_is : state ≡ after first all
  pub count : length all ≡ length a.own + length b.own
  pub first_known : IsPrefix a.known all
  pub second_known : IsPrefix b.known all
