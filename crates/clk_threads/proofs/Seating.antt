-- Workers are made of seats, from the last thread on.
use Rattle.std.proofs.Common.{◌≡◌, ℕ, ◌+◌, ℤ, List, [], ◌∷◌, ◌++◌, length, get_or, append_assoc, length-append, Option, Some, sym, ap, ◌∙◌, subst, refl, arith}
use Rattle.std.specs.Prelude.{reverse}
use Rattle.std.proofs.Math.Seq.{get_or-append_seam}
use Rattle.std.proofs.lemmas.List.{map-append, length-map, length-reverse, reverse-append}
use Rattle.clk_base.specs.Walk.{EachFrom}
use Rattle.clk_words.specs.Fronts.{Begins}
use Rattle.clk_machine.specs.Plan.{Plan}
use Rattle.clk_worker.specs.Making.{Hand}
use Rattle.clk_words.proofs.Fronts.{begins_self}
use Rattle.clk_threads.specs.Workers.{HaveSeats, IsOfLast, IsOfSeats, all_there, AreInSlots}
use Rattle.clk_threads.specs.declared.workers.Seats.{Seats}

-- ---- a list of which the last item is cut

cut_is : {A : Type 0} (all ys xs : List A) (x : A) → (b : Begins ys all) → xs ++ x ∷ [] ≡ ys → all ≡ xs ++ x ∷ b.rest
cut_is {A} all ys xs x b e = b.is ∙ ap (λ (zs : List A). zs ++ b.rest) (sym e) ∙ append_assoc xs (x ∷ []) b.rest

cut_front : {A : Type 0} (all ys xs : List A) (x : A) → Begins ys all → xs ++ x ∷ [] ≡ ys → Begins xs all
cut_front all ys xs x b e = record { rest = x ∷ b.rest; is = cut_is all ys xs x b e }

cut_item : {A : Type 0} (all ys xs : List A) (x : A) → Begins ys all → xs ++ x ∷ [] ≡ ys → x ≡ get_or all (length xs) x
cut_item {A} all ys xs x b e = sym (ap (λ (zs : List A). get_or zs (length xs) x) (cut_is all ys xs x b e) ∙ get_or-append_seam xs x b.rest x)

pub cut_length : {A : Type 0} (ys xs : List A) (x : A) (n : ℕ) → xs ++ x ∷ [] ≡ ys → length ys ≡ n → length xs + 1 ≡ n
cut_length ys xs x n e count =
    let all = ap length e in
    let both = length-append xs (x ∷ []) in
    omega (arith, all, both, count)

-- ---- the loop

-- the workers of the last threads were made, the last one first, and the seats of the others are there
pub record AreOnWay (m : Plan) (adjusts : List ℤ) (off : ℤ) (s0 s : Seats) (hands : List Hand) : Type 0 where
  pub all : HaveSeats (length s0.seats.items) s0
  pub there : HaveSeats (length s.seats.items) s
  pub seats_left : Begins s.seats.items s0.seats.items
  pub latches : Begins s.latches.items s0.latches.items
  pub times : Begins s.times.items s0.times.items
  pub events : Begins s.events.items s0.events.items
  pub count : length s.seats.items + length hands ≡ length s0.seats.items
  pub each : EachFrom (IsOfSeats m adjusts off s0) (length s.seats.items) (reverse hands)

-- the seats that are left once one worker more is made
left_seats : (m : Plan) (adjusts : List ℤ) (off : ℤ) (v w : Seats) (h : Hand) → HaveSeats (length v.seats.items) v → IsOfLast m adjusts off v w h → HaveSeats (length w.seats.items) w
left_seats m adjusts off v w h seats l =
    let count = cut_length v.seats.items w.seats.items l.own.seat (length v.seats.items) l.seats refl in
    let latches = cut_length v.latches.items w.latches.items l.own.latch_seat (length v.seats.items) l.latches seats.latches in
    let times = cut_length v.times.items w.times.items l.own.time (length v.seats.items) l.times seats.times in
    let events = cut_length v.events.items w.events.items l.list (length v.seats.items) l.events seats.events in
    record { seats = refl; latches = omega (arith, count, latches); times = omega (arith, count, times); events = omega (arith, count, events) }

last_of : (m : Plan) (adjusts : List ℤ) (off : ℤ) (s0 v w : Seats) (hands : List Hand) (h : Hand) → AreOnWay m adjusts off s0 v hands → IsOfLast m adjusts off v w h → IsOfSeats m adjusts off s0 (length w.seats.items) h
last_of m adjusts off s0 v w hands h o l =
    let left = left_seats m adjusts off v w h o.there l in
    record {
      own = l.own;
      list = l.list;
      seat = cut_item s0.seats.items v.seats.items w.seats.items l.own.seat o.seats_left l.seats;
      latch_seat =
          subst (λ (k : ℕ). l.own.latch_seat ≡ get_or s0.latches.items k l.own.latch_seat) left.latches
          (cut_item s0.latches.items v.latches.items w.latches.items l.own.latch_seat o.latches l.latches);
      time =
          subst (λ (k : ℕ). l.own.time ≡ get_or s0.times.items k l.own.time) left.times
          (cut_item s0.times.items v.times.items w.times.items l.own.time o.times l.times);
      events =
          subst (λ (k : ℕ). l.list ≡ get_or s0.events.items k l.list) left.events
          (cut_item s0.events.items v.events.items w.events.items l.list o.events l.events);
      hand = l.hand;
    }

pub way_more : (m : Plan) (adjusts : List ℤ) (off : ℤ) (s0 v w : Seats) (hands : List Hand) (h : Hand) → AreOnWay m adjusts off s0 v hands → IsOfLast m adjusts off v w h → AreOnWay m adjusts off s0 w (hands ++ h ∷ [])
way_more m adjusts off s0 v w hands h o l =
    let P : ℕ → Hand → Type 0 = IsOfSeats m adjusts off s0 in
    let n : ℕ = length w.seats.items in
    let one_less : n + 1 ≡ length v.seats.items = cut_length v.seats.items w.seats.items l.own.seat (length v.seats.items) l.seats refl in
    let both = length-append hands (h ∷ []) in
    let before = o.count in
    record {
      all = o.all;
      there = left_seats m adjusts off v w h o.there l;
      seats_left = cut_front s0.seats.items v.seats.items w.seats.items l.own.seat o.seats_left l.seats;
      latches = cut_front s0.latches.items v.latches.items w.latches.items l.own.latch_seat o.latches l.latches;
      times = cut_front s0.times.items v.times.items w.times.items l.own.time o.times l.times;
      events = cut_front s0.events.items v.events.items w.events.items l.list o.events l.events;
      count = omega (arith, one_less, both, before);
      each =
          subst (EachFrom P n) (sym (reverse-append hands (h ∷ [])))
          (last_of m adjusts off s0 v w hands h o l, subst (λ (k : ℕ). EachFrom P k (reverse hands)) (sym one_less) o.each);
    }

-- ---- in their slots

pub record AreSlotsOnWay (m : Plan) (adjusts : List ℤ) (off : ℤ) (s0 s : Seats) (slots : List (Option Hand)) : Type 0 where
  pub hands : List Hand
  pub there : slots ≡ all_there hands
  pub way : AreOnWay m adjusts off s0 s hands

pub slots_none : (m : Plan) (adjusts : List ℤ) (off : ℤ) (s : Seats) (slots : List (Option Hand)) → HaveSeats (length s.seats.items) s → slots ≡ []
    → AreSlotsOnWay m adjusts off s s slots
slots_none m adjusts off s slots seats empty =
    record {
      hands = [];
      there = empty;
      way = record {
        all = seats;
        there = seats;
        seats_left = begins_self s.seats.items;
        latches = begins_self s.latches.items;
        times = begins_self s.times.items;
        events = begins_self s.events.items;
        count = omega arith;
        each = tt;
      };
    }

pub slots_more : (m : Plan) (adjusts : List ℤ) (off : ℤ) (s0 v w : Seats) (slots more : List (Option Hand)) (h : Hand) → AreSlotsOnWay m adjusts off s0 v slots
    → IsOfLast m adjusts off v w h → more ≡ slots ++ Some h ∷ [] → AreSlotsOnWay m adjusts off s0 w more
slots_more m adjusts off s0 v w slots more h o l e =
    record {
      hands = o.hands ++ h ∷ [];
      there = e ∙ ap (λ (xs : List (Option Hand)). xs ++ Some h ∷ []) o.there ∙ sym (map-append (λ (x : Hand). Some x) o.hands (h ∷ []));
      way = way_more m adjusts off s0 v w o.hands h o.way l;
    }

there_reversed : (hands : List Hand) → reverse (all_there hands) ≡ all_there (reverse hands)
there_reversed [] = refl
there_reversed (h ∷ hands) =
    reverse-append (Some h ∷ []) (all_there hands)
    ∙ ap (λ (xs : List (Option Hand)). xs ++ Some h ∷ []) (there_reversed hands)
    ∙ sym (ap all_there (reverse-append (h ∷ []) hands) ∙ map-append (λ (x : Hand). Some x) (reverse hands) (h ∷ []))

-- all workers were made, and the list was turned round
pub slots_made : (m : Plan) (adjusts : List ℤ) (off : ℤ) (s0 s : Seats) (slots in_order : List (Option Hand)) → AreSlotsOnWay m adjusts off s0 s slots
    → length slots ≡ length s0.seats.items → in_order ≡ reverse slots → AreInSlots m adjusts off s0 in_order
slots_made m adjusts off s0 s slots in_order o all e =
    let many : length slots ≡ length o.hands = ap length o.there ∙ length-map o.hands (λ (h : Hand). Some h) in
    let left = o.way.count in
    let none : length s.seats.items ≡ 0 = omega (arith, left, many, all) in
    record {
      hands = reverse o.hands;
      there = e ∙ ap reverse o.there ∙ there_reversed o.hands;
      of_seats = record {
        count = length-reverse o.hands ∙ sym many ∙ all;
        each = subst (λ (n : ℕ). EachFrom (IsOfSeats m adjusts off s0) n (reverse o.hands)) none o.way.each;
      };
    }
