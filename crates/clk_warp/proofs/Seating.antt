-- What a seat is after each call on the lock.
use Rattle.std.proofs.Common.{◌≡◌, ℕ, ◌+◌, ◌%◌, ◌^◌, ◌<◌, true, false, List, [], ◌∷◌, length, Some, None, Option, IsSome, refl, sym, ap, ◌∙◌, subst, length-append}
use mathlib.Core.List.{IsPrefix}
use mathlib.Core.Option.{some, none, some-injective}
use lib.ListN.{get_elem?}
use Rattle.atomic_table.specs.Table.{Me, Step, rest, step, Allows}
use Rattle.clk_record.specs.declared.warp.Side.{Side}
use Rattle.clk_warp.specs.declared.section.Section.{Section}
use Rattle.clk_warp.specs.declared.seat.TurnSeat.TheInside.{Inside}
use Rattle.clk_warp.specs.declared.view.Role.TheVariants.{Of}
use Rattle.clk_warp.specs.declared.view.Stage.TheVariants.{Called as CalledStage}
use Rattle.clk_warp.specs.declared.view.View.{View}
use Rattle.clk_warp.specs.Run.{Run, change, IsSection}
use Rattle.clk_warp.specs.Sections.{after, AreSections, MayMake, sections_of}
use Rattle.clk_warp.specs.Turns.{Enters, IsChanged, Leaves, Closes}
use Rattle.clk_warp.specs.LockRule.{Kept, knows_ticket, knows_called, knows_inside, knows_given, knows_away, knows_both, Took, Gave, Raised}
use Rattle.clk_warp.specs.TurnSeats.{turn_of, IsSeated}
use Rattle.clk_warp.specs.Locking.{Place, IsOutside, IsWaiting, HasDrawn, HasBeenCalled}
use Rattle.clk_warp.proofs.LockSteps.{giving, raises}
use Rattle.clk_warp.proofs.Ending.{IsEnd}

abbrev pub MeOf : Type 0
MeOf = Me (Option Run) View

pub outside_of : (s : Inside) → IsSeated s → s.inside ≡ false → IsOutside s.seat
outside_of s seated out = let o = seated.outside out in record { side = s.side; role = seated.role; away = o.0; empty = o.1 }

pub waiting_of : (a b : Place) (ticket : ℕ) → IsOutside a → HasDrawn a ticket b → IsWaiting b ticket
waiting_of a b ticket out drawn = record {
  side = out.side;
  role = ap (λ (me : MeOf). me.0.role) drawn.is ∙ out.role;
  waits = ap (λ (me : MeOf). me.0.stage) drawn.is;
  drawn = ap (λ (me : MeOf). me.0.ticket) drawn.is;
}

-- it has drawn still, where looks have told it nothing
pub still_drawn : (a b c : Place) (ticket : ℕ) → HasDrawn a ticket b → c.table_id ≡ b.table_id → c.id ≡ b.id → c.me ≡ b.me → HasDrawn a ticket c
still_drawn a b c ticket drawn table number me = record {
  table = table ∙ drawn.table;
  id_is = number ∙ drawn.id_is;
  is = me ∙ drawn.is;
}

-- the seat once it is called
pub record IsCalledSeat (c : Place) : Type 0 where
  pub side : Side
  pub role : c.me.0.role ≡ Of side
  pub stage : c.me.0.stage ≡ CalledStage
  pub empty : c.me.1 ≡ []

called_me : (a b c : Place) (ticket : ℕ) → HasDrawn a ticket b → HasBeenCalled b c → c.me ≡ (knows_called (knows_ticket ticket a.me.0), a.me.1)
called_me a b c ticket drawn called = called.is ∙ ap (λ (me : MeOf). (knows_called me.0, me.1)) drawn.is

pub called_of : (a b c : Place) (ticket : ℕ) → IsOutside a → HasDrawn a ticket b → HasBeenCalled b c → IsCalledSeat c
called_of a b c ticket out drawn called =
    let me = called_me a b c ticket drawn called in
    record {
      side = out.side;
      role = ap (λ (m : MeOf). m.0.role) me ∙ out.role;
      stage = ap (λ (m : MeOf). m.0.stage) me;
      empty = ap (λ (m : MeOf). m.1) me ∙ out.empty;
    }

-- what it took, in the terms of the seat as it was outside
pub record IsTaken (v : View) (ticket : ℕ) (me : MeOf) : Type 0 where
  pub first : Run
  pub first_is : v.first ≡ Some first
  pub all : List Section
  pub is : me ≡ (knows_inside all (knows_called (knows_ticket ticket v)), (0, Some (after first all)) ∷ [])
  pub grown : IsPrefix v.known all
  pub legal : AreSections first all
  pub count : length all ≡ ticket
  pub room : length all + 1 < 2 ^ 64
  pub mine : (side : Side) → v.role ≡ Of side → sections_of side all ≡ sections_of side v.own

pub taken_of : (st : Step (Option Run)) (a b c : Place) (ticket found : ℕ) (me : MeOf) → HasDrawn a ticket b → HasBeenCalled b c → Took st c.me found me → IsTaken a.me.0 ticket me
taken_of st a b c ticket found me drawn called took =
    let t = subst (λ (m : MeOf). Took st m found me) (called_me a b c ticket drawn called) took in
    record {
      first = t.first;
      first_is = t.first_is;
      all = t.all;
      is = t.is;
      grown = t.grown;
      legal = t.legal;
      count = t.count;
      room = t.room;
      mine = t.mine;
    }

some_run : (x y : Run) → Some x ≡ Some y → x ≡ y
some_run x y e = cc

-- the value that a seat took last
last_of : List (ℕ × Option Run) → Option Run
last_of [] = None
last_of (x ∷ xs) = x.1

first_run : (x y : Option Run) (xs : List (ℕ × Option Run)) → ◌≡◌ {A = List (ℕ × Option Run)} ((0, x) ∷ []) ((0, y) ∷ xs) → x ≡ y
unfolding last_of
first_run x y xs e = ap last_of e

-- the seat after `enter`: its view is as taken, and its slot is empty
pub entered : (i : Inside) (e : Place) (ticket : ℕ) (x : Option Run) (state : Run) (me : MeOf) → IsSeated i → IsTaken i.seat.me.0 ticket me
    → me.1 ≡ (0, x) ∷ rest me.1 → e.me ≡ (me.0, (0, None) ∷ rest me.1) → e.table_id ≡ i.seat.table_id → Some state ≡ x
    → Enters (turn_of i) state (turn_of (record i { seat = e; ticket = Some ticket; inside = true }))
entered i e ticket x state me seated taken held left table unwrapped =
    let first : taken.first ≡ i.first.value = some_run taken.first i.first.value (sym taken.first_is ∙ seated.first_is) in
    let slot : me.1 ≡ (0, Some (after taken.first taken.all)) ∷ [] = ap (λ (m : MeOf). m.1) taken.is in
    let state_is : state ≡ after taken.first taken.all =
    some_run state (after taken.first taken.all) (unwrapped ∙ sym (first_run (Some (after taken.first taken.all)) x (rest me.1) (sym slot ∙ held))) in
    let view : e.me.0 ≡ knows_inside taken.all (knows_called (knows_ticket ticket i.seat.me.0)) = ap (λ (m : MeOf). m.0) left ∙ ap (λ (m : MeOf). m.0) taken.is in
    let known : e.me.0.known ≡ taken.all = ap (λ (v : View). v.known) view in
    let own : e.me.0.own ≡ i.seat.me.0.own = ap (λ (v : View). v.own) view in
    record {
      lock_is = ap (λ t. record { table = t; first = i.first.value }) table;
      side_is = refl;
      own_is = own;
      inside = refl;
      grown = subst (λ es. IsPrefix i.seat.me.0.known es) (sym known) taken.grown;
      legal = subst (λ es. AreSections i.first.value es) (sym known) (subst (λ f. AreSections f taken.all) first taken.legal);
      state_is = state_is ∙ ap (λ f. after f taken.all) first ∙ ap (after i.first.value) (sym known);
      ticket_is = ap Some (sym taken.count ∙ ap length (sym known));
      room = subst (λ (es : List Section). length es + 1 < 2 ^ 64) (sym known) taken.room;
      mine = ap (sections_of i.side) known ∙ taken.mine i.side seated.role ∙ ap (sections_of i.side) (sym own);
    }

pub seated_inside : (i : Inside) (e : Place) (ticket : ℕ) (x : Option Run) (me : MeOf) → IsSeated i → IsTaken i.seat.me.0 ticket me → me.1 ≡ (0, x) ∷ rest me.1
    → e.me ≡ (me.0, (0, None) ∷ rest me.1) → IsSeated (record i { seat = e; ticket = Some ticket; inside = true })
seated_inside i e ticket x me seated taken held left =
    let view : e.me.0 ≡ knows_inside taken.all (knows_called (knows_ticket ticket i.seat.me.0)) = ap (λ (m : MeOf). m.0) left ∙ ap (λ (m : MeOf). m.0) taken.is in
    let empty : rest me.1 ≡ [] = ap (λ (m : MeOf). rest m.1) taken.is in
    record {
      role = ap (λ (v : View). v.role) view ∙ seated.role;
      first_is = ap (λ (v : View). v.first) view ∙ seated.first_is;
      outside = λ e. absurd (cc);
      within = λ _. (ap (λ (v : View). v.stage) view, ap (λ (m : MeOf). m.1) left ∙ ap (λ (xs : List (ℕ × Option Run)). (0, None) ∷ xs) empty);
    }

-- ---- leaving

-- it may give the changed state back
pub give_ready : (i : Inside) (d : Place) (first : Run) (x : Option Run) (state : Run) (slots id : ℕ) → IsSeated i → i.inside ≡ true → i.first.value ≡ first
    → i.seat.me.1 ≡ (0, x) ∷ rest i.seat.me.1 → d.me ≡ (i.seat.me.0, (0, Some state) ∷ rest i.seat.me.1)
    → IsChanged i.side (after i.first.value i.seat.me.0.known) state → Allows (Kept first) slots id d.me 1 (λ n. n) (Gave (step slots 1 0 0 none) d.me)
give_ready i d first x state slots id seated within same held put changed =
    let empty : rest i.seat.me.1 ≡ [] = ap rest (seated.within within).1 in
    let view : d.me.0 ≡ i.seat.me.0 = ap (λ (m : MeOf). m.0) put in
    let old : after i.first.value i.seat.me.0.known ≡ after first d.me.0.known = ap (λ (f : Run). after f i.seat.me.0.known) same ∙ ap (λ (v : View). after first v.known) (sym view) in
    giving first slots id d.me i.side changed.section
    (ap (λ (v : View). v.role) view ∙ seated.role)
    (ap (λ (v : View). v.stage) view ∙ (seated.within within).0)
    (subst (λ (r : Run). IsSection r changed.section) old changed.fits)
    changed.may
    (ap (λ (m : MeOf). m.1) put ∙ ap (λ (xs : List (ℕ × Option Run)). (0, Some state) ∷ xs) empty
    ∙ ap (λ (r : Run). (0, Some r) ∷ []) (changed.is ∙ ap (λ (r : Run). change r changed.section) old))

-- and hand the lock on
pub raise_ready : (st : Step (Option Run)) (i : Inside) (d e : Place) (state : Run) (first : Run) (slots id found : ℕ) → IsSeated i
    → d.me ≡ (i.seat.me.0, (0, Some state) ∷ rest i.seat.me.1) → Gave st d.me found e.me
    → Allows (Kept first) slots id e.me 1 (λ n. (n + 1) % 2 ^ 64) (Raised (step slots 1 1 0 none) e.me)
raise_ready st i d e state first slots id found seated put gave =
    raises first slots id e.me i.side (ap (λ (m : MeOf). m.0.role) gave.is ∙ ap (λ (m : MeOf). m.0.role) put ∙ seated.role) (ap (λ (m : MeOf). m.0.stage) gave.is)

pub record IsLeft (i : Inside) (state : Run) (f : Place) : Type 0 where
  pub section : Section
  pub fits : IsSection (after i.first.value i.seat.me.0.known) section
  pub may : MayMake i.side section
  pub state_is : state ≡ change (after i.first.value i.seat.me.0.known) section
  pub is : f.me ≡ (knows_away (knows_given section i.seat.me.0), [])

some_state : (x y : Run) → ◌≡◌ {A = List (ℕ × Option Run)} ((0, Some x) ∷ []) ((0, Some y) ∷ []) → x ≡ y
some_state x y e = some_run x y (first_run (Some x) (Some y) [] e)

pub left_of : (st su : Step (Option Run)) (i : Inside) (d e f : Place) (found gone : ℕ) (x : Option Run) (state : Run) → IsSeated i → i.inside ≡ true
    → i.seat.me.1 ≡ (0, x) ∷ rest i.seat.me.1 → d.me ≡ (i.seat.me.0, (0, Some state) ∷ rest i.seat.me.1)
    → Gave st d.me found e.me → Raised su e.me gone f.me → IsLeft i state f
left_of st su i d e f found gone x state seated within held put gave raised =
    let empty : rest i.seat.me.1 ≡ [] = ap rest (seated.within within).1 in
    let me : d.me ≡ (i.seat.me.0, (0, Some state) ∷ []) = put ∙ ap (λ (xs : List (ℕ × Option Run)). (i.seat.me.0, (0, Some state) ∷ xs)) empty in
    let g = subst (λ (m : MeOf). Gave st m found e.me) me gave in
    let first : g.first ≡ i.first.value = some_run g.first i.first.value (sym g.first_is ∙ seated.first_is) in
    record {
      section = g.section;
      fits = subst (λ (r : Run). IsSection (after r i.seat.me.0.known) g.section) first g.fits;
      may = g.may i.side seated.role;
      state_is = some_state state (change (after g.first i.seat.me.0.known) g.section) g.had ∙ ap (λ (r : Run). change (after r i.seat.me.0.known) g.section) first;
      is = raised.is ∙ ap (λ (m : MeOf). (knows_away m.0, m.1)) g.is;
    }

pub leaves_by : (i : Inside) (state : Run) (f : Place) → IsLeft i state f → f.table_id ≡ i.seat.table_id → Leaves (turn_of i) state (turn_of (record i { seat = f; inside = false }))
leaves_by i state f left table = record {
  section = left.section;
  fits = left.fits;
  may = left.may;
  state_is = left.state_is;
  is = ap (λ t. record (turn_of i) { lock = record { table = t; first = i.first.value }; inside = false; known = f.me.0.known; own = f.me.0.own }) table
      ∙ ap (λ (m : MeOf). record (turn_of i) { inside = false; known = m.0.known; own = m.0.own }) left.is;
}

pub seated_outside : (i : Inside) (state : Run) (f : Place) → IsSeated i → IsLeft i state f → IsSeated (record i { seat = f; inside = false })
seated_outside i state f seated left = record {
  role = ap (λ (m : MeOf). m.0.role) left.is ∙ seated.role;
  first_is = ap (λ (m : MeOf). m.0.first) left.is ∙ seated.first_is;
  outside = λ _. (ap (λ (m : MeOf). m.0.stage) left.is, ap (λ (m : MeOf). m.1) left.is);
  within = λ e. absurd (cc);
}

-- ---- closing

some_same : (y z : Option Run) → some y ≡ some z → y ≡ z
some_same y z e = some-injective y z e

pub end_as : (first : Run) (v w : View) (xs : List (Option Run)) → v ≡ w → IsEnd first v xs → IsEnd first w xs
end_as first v w xs e end = subst (λ (u : View). IsEnd first u xs) e end

pub slot_is : (first : Run) (v : View) (xs : List (Option Run)) (x : Option Run) (end : IsEnd first v xs) → get_elem? xs 0 ≡ some x → x ≡ Some (after first end.all)
slot_is first v xs x end found = some_same x (Some (after first end.all)) (sym found ∙ end.slot)

pub closes_by : (a b : Inside) (first state : Run) (x : Option Run) (xs : List (Option Run)) → IsEnd first (knows_both a.seat.me.0 b.seat.me.0) xs
    → get_elem? xs 0 ≡ some x → Some state ≡ x → Closes first (turn_of a) (turn_of b) state
closes_by a b first state x xs end found unwrapped = record {
  all = end.all;
  legal = end.legal;
  state_is = some_run state (after first end.all) (unwrapped ∙ slot_is first (knows_both a.seat.me.0 b.seat.me.0) xs x end found);
  count = end.count ∙ length-append a.seat.me.0.own b.seat.me.0.own;
  first_known = end.known;
  second_known = end.told;
}

-- the slot that was taken
pub taken_slot : (v : View) (ticket : ℕ) (me : MeOf) → IsTaken v ticket me → (old : Option Run) × (me.1 ≡ (0, old) ∷ rest me.1)
taken_slot v ticket me taken =
    let slot : me.1 ≡ (0, Some (after taken.first taken.all)) ∷ [] = ap (λ (m : MeOf). m.1) taken.is in
    (Some (after taken.first taken.all), slot ∙ ap (λ (xs : List (ℕ × Option Run)). (0, Some (after taken.first taken.all)) ∷ xs) (sym (ap rest slot)))

pub taken_some : (v : View) (ticket : ℕ) (x : Option Run) (me : MeOf) → IsTaken v ticket me → me.1 ≡ (0, x) ∷ rest me.1 → IsSome x
taken_some v ticket x me taken held =
    let slot : me.1 ≡ (0, Some (after taken.first taken.all)) ∷ [] = ap (λ (m : MeOf). m.1) taken.is in
    subst IsSome (first_run (Some (after taken.first taken.all)) x (rest me.1) (sym slot ∙ held)) refl
