-- The rule of the warp lock, and what each step tells.
use Rattle.std.specs.Prelude.{◌≡◌, ◌≢◌, ℕ, ◌+◌, ◌^◌, ◌<◌, ◌≤◌, List, [], ◌∷◌, ◌++◌, length, slice_index, Option, Some, None}
use Rattle.std.specs.List.{sum_by}
use mathlib.Core.Option.{some}
use mathlib.Core.List.{IsPrefix}
use lib.ListN.{get_elem?}
use Rattle.atomic_table.specs.Table.{State, Me, Step}
use Rattle.clk_record.specs.declared.warp.Side.{Side}
use Rattle.clk_record.specs.declared.warp.Side.TheVariants.{Source, Target}
use Rattle.clk_warp.specs.declared.section.Section.{Section}
use Rattle.clk_warp.specs.declared.view.Role.TheVariants.{First, Of, Joined, Spent}
use Rattle.clk_warp.specs.declared.view.Stage.{Stage}
use Rattle.clk_warp.specs.declared.view.Stage.TheVariants.{Away, Waiting, Called as CalledStage, Inside as InsideStage, Given}
use Rattle.clk_warp.specs.declared.view.View.{View}
use Rattle.clk_warp.specs.Run.{Run, change, IsSection}
use Rattle.clk_warp.specs.Sections.{after, AreSections, MayMake, sections_of}

abbrev pub Locked : Type 0
Locked = State (Option Run) View

-- the next lock ticket, and the one that is served
abbrev pub next : Locked → ℕ
next s = slice_index s.words 0

abbrev pub serving : Locked → ℕ
serving s = slice_index s.words 1

-- how far a seat has come
abbrev pub rank : Stage → ℕ
rank Away = 0
rank Waiting = 1
rank CalledStage = 2
rank InsideStage = 3
rank Given = 4

abbrev pub place : Side → ℕ
place Source = 0
place Target = 1

-- what a view at the place j knows, of the first state, all sections and the two words
pub record Known (first : Run) (all : List Section) (n m j : ℕ) (v : View) : Type 0 where
  pub first_is : (v.role ≢ Spent) → v.first ≡ Some first
  pub known : IsPrefix v.known all
  pub told : IsPrefix v.told all
  -- with a ticket it is one of those not served yet, and the one that is called is served
  pub drawn : 1 ≤ rank v.stage → (m ≤ v.ticket) × (v.ticket < n)
  pub called : 2 ≤ rank v.stage → v.ticket ≡ m
  -- the one with the state knows all sections: as many as its ticket, and one more once it has given the state back
  pub inside : 3 ≤ rank v.stage → v.known ≡ all
  pub holds : rank v.stage ≡ 3 → length all ≡ m
  pub gave : rank v.stage ≡ 4 → length all ≡ m + 1
  -- all sections of a side are its seat's own
  pub at : (side : Side) → v.role ≡ Of side → j ≡ place side
  pub mine : (side : Side) → v.role ≡ Of side → sections_of side all ≡ sections_of side v.own
  pub mine_known : (side : Side) → v.role ≡ Of side → sections_of side v.known ≡ sections_of side v.own
  pub idle : ((side : Side) → v.role ≢ Of side) → rank v.stage ≡ 0
  pub spent : v.role ≡ Spent → v.own ≡ []

-- no seat has come so far
abbrev pub NoneIs : ℕ → List View → Type 0
NoneIs r views = (j : ℕ) (v : View) → get_elem? views j ≡ some v → rank v.stage ≢ r

-- the rule, which holds between any two steps
pub record Kept (first : Run) (s : Locked) : Type 0 where
  pub all : List Section
  pub wide : length s.words ≡ 2
  pub single : length s.homes ≡ 1
  pub fits : next s < 2 ^ 64
  pub order : serving s ≤ next s
  pub legal : AreSections first all
  -- while no seat has it, the slot holds the first state after all sections, as many as were served, or one more
  -- between the return of the state and the raise of the ticket that is served
  pub home : NoneIs 3 s.views → get_elem? s.homes 0 ≡ some (some (Some (after first all)))
  pub count : NoneIs 4 s.views → length all ≡ serving s
  pub made : sum_by (λ v. length v.own) s.views ≡ length all
  pub known : (j : ℕ) (v : View) → get_elem? s.views j ≡ some v → Known first all (next s) (serving s) j v
  -- a ticket has one seat
  pub apart : (i j : ℕ) (v w : View) → get_elem? s.views i ≡ some v → get_elem? s.views j ≡ some w → 1 ≤ rank v.stage → 1 ≤ rank w.stage
      → v.ticket ≡ w.ticket → i ≡ j
  -- the first seat is alone, and what two were joined into has spent ones beside it
  pub whole : (j : ℕ) (v : View) → get_elem? s.views j ≡ some v → v.role ≡ First → (length s.views ≡ 1) × (all ≡ [])
  pub joined : (i j : ℕ) (v w : View) → get_elem? s.views i ≡ some v → get_elem? s.views j ≡ some w → v.role ≡ Joined → j ≢ i → w.role ≡ Spent

-- ---- views

abbrev pub knows_first : Run → View
knows_first first = record { first = Some first; role = First; stage = Away; ticket = 0; known = []; own = []; told = [] }

abbrev pub knows_side : Side → View → View
knows_side side v = record { first = v.first; role = Of side; stage = Away; ticket = 0; known = []; own = []; told = [] }

abbrev pub knows_ticket : ℕ → View → View
knows_ticket ticket v = record v { stage = Waiting; ticket = ticket }

abbrev pub knows_called : View → View
knows_called v = record v { stage = CalledStage }

abbrev pub knows_inside : List Section → View → View
knows_inside all v = record v { stage = InsideStage; known = all }

abbrev pub knows_given : Section → View → View
knows_given e v = record v { stage = Given; known = v.known ++ e ∷ []; own = v.own ++ e ∷ [] }

abbrev pub knows_away : View → View
knows_away v = record v { stage = Away }

abbrev pub knows_both : View → View → View
knows_both v w = record v { role = Joined; own = v.own ++ w.own; told = w.known }

abbrev pub knows_nothing : View
knows_nothing = record { first = None; role = Spent; stage = Away; ticket = 0; known = []; own = []; told = [] }

-- ---- what steps tell

-- the ticket is drawn where it was still the next one
pub record Drew (st : Step (Option Run)) (before : Me (Option Run) View) (found : ℕ) (now : Me (Option Run) View) : Type 0 where
  pub hit : found ≡ st.first → now ≡ (knows_ticket found before.0, before.1)
  pub miss : found ≢ st.first → now ≡ before

-- the seat is called where its ticket is served
pub record Called (st : Step (Option Run)) (before : Me (Option Run) View) (found : ℕ) (now : Me (Option Run) View) : Type 0 where
  pub hit : found ≡ before.0.ticket → now ≡ (knows_called before.0, before.1)
  pub miss : found ≢ before.0.ticket → now ≡ before

-- the state is taken: the first one after as many sections as the ticket
pub record Took (st : Step (Option Run)) (before : Me (Option Run) View) (found : ℕ) (now : Me (Option Run) View) : Type 0 where
  pub first : Run
  pub first_is : before.0.first ≡ Some first
  pub all : List Section
  pub is : now ≡ (knows_inside all before.0, (0, Some (after first all)) ∷ [])
  pub grown : IsPrefix before.0.known all
  pub legal : AreSections first all
  pub count : length all ≡ before.0.ticket
  pub room : length all + 1 < 2 ^ 64
  pub mine : (side : Side) → before.0.role ≡ Of side → sections_of side all ≡ sections_of side before.0.own

-- the state is given back, changed by one section
pub record Gave (st : Step (Option Run)) (before : Me (Option Run) View) (found : ℕ) (now : Me (Option Run) View) : Type 0 where
  pub first : Run
  pub first_is : before.0.first ≡ Some first
  pub section : Section
  pub fits : IsSection (after first before.0.known) section
  pub may : (side : Side) → before.0.role ≡ Of side → MayMake side section
  pub had : before.1 ≡ (0, Some (change (after first before.0.known) section)) ∷ []
  pub is : now ≡ (knows_given section before.0, [])

-- the lock is handed on
pub record Raised (st : Step (Option Run)) (before : Me (Option Run) View) (found : ℕ) (now : Me (Option Run) View) : Type 0 where
  pub is : now ≡ (knows_away before.0, before.1)
