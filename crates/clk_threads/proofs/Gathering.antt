-- The seats of workers are joined with two, one after another.
use Rattle.std.proofs.Common.{◌≡◌, ℕ, zero, suc, ◌+◌, ◌/◌, nat_eq, Bool, true, false, ◌||◌, ◌<◌, List, [], ◌∷◌, ◌++◌, map, length, get_or, Option, Some, append_assoc, append-nil, sym, ap, ◌∙◌, subst, refl, arith, ⊎_elim, inl, inr, None}
use Rattle.std.specs.Prelude.{is_some}
use Rattle.std.specs.List.{All, flat_map, sum_by}
use Rattle.std.proofs.lemmas.Bool.Decides.{nat_tests}
use Rattle.std.proofs.lemmas.Grind.{flat_map-append}
use Rattle.std.proofs.lemmas.List.{map-append, flat_map_more}
use Rattle.std.proofs.lemmas.List.Elements.{All-nil, All-cons, All-head, All-append, All-weaker}
use Rattle.std.proofs.lemmas.List.Sums.{sum_by-cons, sum_by_push}
use Rattle.clk_base.specs.declared.block.Block.{Block}
use Rattle.clk_base.specs.Walk.{EachFrom}
use Rattle.clk_num.specs.Listed.{Listed}
use Rattle.clk_ticket.specs.Time.{Time, share_of, both_of}
use Rattle.clk_words.specs.declared.view.Part.{Part}
use Rattle.clk_words.specs.declared.view.View.{View}
use Rattle.clk_words.specs.Calls.{KeepsOffset, Joins}
use Rattle.clk_words.specs.Fronts.{Begins}
use Rattle.clk_words.specs.Held.{Held, place_of}
use Rattle.clk_words.specs.Parts.{part_of, kept_after}
use Rattle.clk_words.specs.Rights.{has_number}
use Rattle.clk_words.specs.Views.{own_lists, joint_made, together}
use Rattle.clk_words.proofs.Fronts.{begins_self, begins_through}
use Rattle.clk_words.proofs.Registers.{joint_at, part_through}
use Rattle.clk_lawful.specs.Checks.{listed}
use Rattle.clk_lawful.specs.declared.event.Event.{Event}
use Rattle.clk_lawful.specs.declared.trace.WatchTrace.{WatchTrace}
use Rattle.clk_latch.specs.Epoch.{Place as LatchPlace}
use Rattle.clk_worker.specs.declared.own.Own.{Own}
use Rattle.clk_worker.specs.declared.shared.Shared.{Shared}
use Rattle.clk_worker.specs.Making.{Hand}
use Rattle.clk_watcher.specs.Making.{Hand as WatchHand}
use Rattle.clk_watcher.specs.declared.parts.WatchParts.{WatchParts}
use Rattle.clk_threads.specs.Finishing.{KnowsNoMore}
use Rattle.clk_threads.specs.Ending.{hands_in, MayJoin, MayJoinSlot, own_list, owns_of, all_together, HasGathered, part_list, parts_of, WatchFollows, MayJoinWatch, HasGatheredWatch}

-- ---- many views as one

pub together_more : (v : View) (ws : List View) (w : View) → all_together v (ws ++ w ∷ []) ≡ together (all_together v ws) w
together_more v [] w = refl
together_more v (u ∷ ws) w = together_more (together v u) ws w

-- the own lists stand one after another
pub together_lists : (v : View) (ws : List View) → own_lists (all_together v ws) ≡ own_lists v ++ flat_map own_lists ws
together_lists v [] = sym (append-nil (own_lists v))
together_lists v (w ∷ ws) = together_lists (together v w) ws ∙ append_assoc (own_lists v) (own_lists w) (flat_map own_lists ws)

joint_left : (m n : ℕ) → 0 < m → joint_made m n ≡ m
joint_left m n there = let some : nat_eq m 0 ≡ false = grind (arith, nat_tests) in rw some refl

-- the first one's right to split stays
pub together_made : (v : View) (ws : List View) → 0 < v.made → (all_together v ws).made ≡ v.made
together_made v [] there = refl
together_made v (w ∷ ws) there =
    let same = joint_left v.made w.made there in
    together_made (together v w) ws (omega (arith, same, there)) ∙ same

-- what is known of a register, of which one owns the CPU: that one's list is kept
or_together : (a b c : Bool) → (a || (b || c)) ≡ ((a || b) || c)
or_together true b c = refl
or_together false b c = refl

has_both : (xs ys : List ℕ) (n : ℕ) → has_number (xs ++ ys) n ≡ (has_number xs n || has_number ys n)
has_both [] ys n = refl
has_both (x ∷ xs) ys n =
    ap (λ (t : Bool). nat_eq x n || t) (has_both xs ys n) ∙ or_together (nat_eq x n) (has_number xs n) (has_number ys n)

joint_after : (v w : View) (r : ℕ) (a b : Bool) → has_number v.pairs.owns (r / 2) ≡ a → has_number w.pairs.owns (r / 2) ≡ b
    → (part_of (together v w).pairs.parts r).after ≡ kept_after a b (part_of v.pairs.parts r).after (part_of w.pairs.parts r).after
joint_after v w r a b first second =
    ap (λ (p : Part). p.after) (joint_at (has_number v.pairs.owns) (has_number w.pairs.owns) v.pairs.parts w.pairs.parts r)
    ∙ ap (λ (t : Bool). kept_after t (has_number w.pairs.owns (r / 2)) (part_of v.pairs.parts r).after (part_of w.pairs.parts r).after) first
    ∙ ap (λ (t : Bool). kept_after a t (part_of v.pairs.parts r).after (part_of w.pairs.parts r).after) second

joint_owns : (v w : View) (n : ℕ) (a b : Bool) → has_number v.pairs.owns n ≡ a → has_number w.pairs.owns n ≡ b → has_number (together v w).pairs.owns n ≡ (a || b)
joint_owns v w n a b first second =
    has_both v.pairs.owns w.pairs.owns n ∙ ap (λ (t : Bool). t || has_number w.pairs.owns n) first ∙ ap (λ (t : Bool). a || t) second

after_kept : (v : View) (ws : List View) (r : ℕ) → has_number v.pairs.owns (r / 2) ≡ true
    → (part_of (all_together v ws).pairs.parts r).after ≡ (part_of v.pairs.parts r).after
after_kept v [] r own = refl
after_kept v (w ∷ ws) r own =
    after_kept (together v w) ws r (joint_owns v w (r / 2) true (has_number w.pairs.owns (r / 2)) own refl)
    ∙ joint_after v w r true (has_number w.pairs.owns (r / 2)) own refl

pub after_taken : (v : View) (ws : List View) (r k : ℕ) (d : View) → k < length ws → has_number v.pairs.owns (r / 2) ≡ false
    → ((j : ℕ) → j < k → has_number (get_or ws j d).pairs.owns (r / 2) ≡ false) → has_number (get_or ws k d).pairs.owns (r / 2) ≡ true
    → (part_of (all_together v ws).pairs.parts r).after ≡ (part_of (get_or ws k d).pairs.parts r).after
after_taken v [] r k d low none others own = absurd (omega (arith, low))
after_taken v (w ∷ ws) r zero d low none others own =
    after_kept (together v w) ws r (joint_owns v w (r / 2) false true none own) ∙ joint_after v w r false true none own
after_taken v (w ∷ ws) r (suc k) d low none others own =
    after_taken (together v w) ws r k d (omega (arith, low)) (joint_owns v w (r / 2) false false none (others zero (omega arith)))
    (λ j lower. others (suc j) (omega (arith, lower)))
    own

-- ---- what is known through joins

offset_through : (u v w : View) → KeepsOffset u v → KeepsOffset v w → KeepsOffset u w
offset_through u v w a b =
    ⊎_elim
    (λ (none : u.modes.offset ≡ None). inl none)
    (λ (e : u.modes.offset ≡ v.modes.offset). ⊎_elim (λ (none : v.modes.offset ≡ None). inl (e ∙ none)) (λ (f : v.modes.offset ≡ w.modes.offset). inr (e ∙ f)) b)
    a

pub known_through : (u v w : View) → KnowsNoMore u v → KnowsNoMore v w → KnowsNoMore u w
known_through u v w a b = record {
  parts = λ r. part_through (part_of u.pairs.parts r) (part_of v.pairs.parts r) (part_of w.pairs.parts r) (a.parts r) (b.parts r);
  offset = offset_through u v w a.offset b.offset;
}

pub first_known : (a b w : View) → Joins a b w → KnowsNoMore a w
first_known a b w j = record { parts = j.first_parts; offset = j.first_offset }

pub second_known : (a b w : View) → Joins a b w → KnowsNoMore b w
second_known a b w j = record { parts = j.second_parts; offset = j.second_offset }

-- ---- one worker more

pub hands_more : (slots : List (Option Hand)) (slot : Option Hand) (h : Hand) → slot ≡ Some h → hands_in (slots ++ slot ∷ []) ≡ hands_in slots ++ h ∷ []
hands_more slots slot h is =
    flat_map-append (λ (x : Option Hand). listed x) slots (slot ∷ []) ∙ ap (λ (x : Option Hand). hands_in slots ++ (listed x ++ [])) is

-- the worker of this slot is there, and may be joined
pub slot_there : (s : Shared) (slot : Option Hand) → MayJoinSlot s slot → is_some slot ≡ true
slot_there s slot may = ap is_some may.1

pub joins_slot : (s : Shared) (slot : Option Hand) (h : Hand) → slot ≡ Some h → MayJoinSlot s slot → MayJoin s h
joins_slot s slot h is may = subst (MayJoin s) (some_hand may.0 h (sym may.1 ∙ is)) may.2
  where
    some_hand : (a b : Hand) → Some a ≡ Some b → a ≡ b
    some_hand a b e = cc

owns_more : (hands : List Hand) (h : Hand) (o : Own) → h.own ≡ Some o → owns_of (hands ++ h ∷ []) ≡ owns_of hands ++ o ∷ []
owns_more hands h o is =
    flat_map-append (λ (x : Hand). own_list x.own) hands (h ∷ []) ∙ ap (λ (w : Option Own). owns_of hands ++ (own_list w ++ [])) is

-- what is flat over the seats goes on
flat_next : {A : Type 0} (f : Own → List A) (before now : List A) (hands : List Hand) (h : Hand) (o : Own) → h.own ≡ Some o → now ≡ before ++ flat_map f (owns_of hands)
    → now ++ f o ≡ before ++ flat_map f (owns_of (hands ++ h ∷ []))
flat_next {A} f before now hands h o is e =
    ap (λ (xs : List A). xs ++ f o) e ∙ flat_map_more f before (owns_of hands) o
    ∙ ap (λ (os : List Own). before ++ flat_map f os) (sym (owns_more hands h o is))

map_owns : {A : Type 0} (f : Own → A) (hands : List Hand) (h : Hand) (o : Own) → h.own ≡ Some o → map f (owns_of hands) ++ f o ∷ [] ≡ map f (owns_of (hands ++ h ∷ []))
map_owns f hands h o is = sym (ap (map f) (owns_more hands h o is) ∙ map-append f (owns_of hands) (o ∷ []))

pub record JoinsOne (s : Shared) (h : Hand) (o : Own) (whole : Held) (drawn : Time) (kept : Listed (Listed Event)) (seats : Listed LatchPlace)
    (whole2 : Held) (drawn2 : Time) (kept2 : Listed (Listed Event)) (seats2 : Listed LatchPlace) : Type 0 where
  pub own : h.own ≡ Some o
  pub place : place_of whole2 ≡ s.words
  pub joins : Joins whole.view o.seat.view whole2.view
  pub time : drawn2 ≡ both_of drawn o.time
  pub share : share_of drawn2 ≡ share_of drawn + share_of o.time
  pub events : kept2.items ≡ kept.items ++ h.events ∷ []
  pub latch : seats2.items ≡ seats.items ++ o.latch_seat ∷ []

pub gathered_more : (s : Shared) (hands : List Hand) (first : Held) (time : Time) (threads : Listed (Listed Event)) (latches : Listed LatchPlace)
    → (whole : Held) (drawn : Time) (kept : Listed (Listed Event)) (seats : Listed LatchPlace)
    → HasGathered s hands first time threads latches whole drawn kept seats
    → (h : Hand) (o : Own) (whole2 : Held) (drawn2 : Time) (kept2 : Listed (Listed Event)) (seats2 : Listed LatchPlace)
    → JoinsOne s h o whole drawn kept seats whole2 drawn2 kept2 seats2
    → HasGathered s (hands ++ h ∷ []) first time threads latches whole2 drawn2 kept2 seats2
gathered_more s hands first time threads latches whole drawn kept seats g h o whole2 drawn2 kept2 seats2 j =
    let Seen_as : Own → View = λ x. x.seat.view in
    let Seen : Own → Type 0 = λ x. Begins x.seat.view.seen whole2.view.seen in
    let Before : Own → Type 0 = λ x. Begins x.seat.view.seen whole.view.seen in
    let Known : Own → Type 0 = λ x. KnowsNoMore x.seat.view whole2.view in
    let Knew : Own → Type 0 = λ x. KnowsNoMore x.seat.view whole.view in
    let Latch : Own → LatchPlace = λ x. x.latch_seat in
    let share = j.share in
    let so_far = g.share in
    let more = ap (λ (os : List Own). sum_by (λ (x : Own). share_of x.time) os) (owns_more hands h o j.own) ∙ sum_by_push (λ (x : Own). share_of x.time) (owns_of hands) o in
    record {
      whole_own = j.place;
      view_is =
          j.joins.view_is ∙ ap (λ v. together v o.seat.view) g.view_is ∙ sym (together_more first.view (map Seen_as (owns_of hands)) o.seat.view)
          ∙ ap (all_together first.view) (map_owns Seen_as hands h o j.own);
      seen =
          subst (All Seen) (sym (owns_more hands h o j.own))
          (All-append Seen (owns_of hands) (o ∷ [])
          (All-weaker Before Seen (λ x b. begins_through x.seat.view.seen whole.view.seen whole2.view.seen b j.joins.first) (owns_of hands) g.seen)
          (All-cons Seen o [] j.joins.second (All-nil Seen)));
      known =
          subst (All Known) (sym (owns_more hands h o j.own))
          (All-append Known (owns_of hands) (o ∷ [])
          (All-weaker Knew Known
          (λ x b. known_through x.seat.view whole.view whole2.view b (first_known whole.view o.seat.view whole2.view j.joins))
          (owns_of hands) g.known)
          (All-cons Known o [] (second_known whole.view o.seat.view whole2.view j.joins) (All-nil Known)));
      drawn_own = ap (λ (t : Time). t.table) j.time ∙ g.drawn_own;
      blocks = ap (λ (t : Time). t.blocks) j.time ∙ flat_next (λ (x : Own). x.time.blocks) time.blocks drawn.blocks hands h o j.own g.blocks;
      share = omega (arith, share, so_far, more);
      events =
          j.events ∙ ap (λ (xs : List (Listed Event)). xs ++ h.events ∷ []) g.events
          ∙ append_assoc threads.items (map (λ (x : Hand). x.events) hands) (h.events ∷ [])
          ∙ ap (λ (xs : List (Listed Event)). threads.items ++ xs) (sym (map-append (λ (x : Hand). x.events) hands (h ∷ [])));
      seats_are =
          j.latch ∙ ap (λ (xs : List LatchPlace). xs ++ o.latch_seat ∷ []) g.seats_are
          ∙ append_assoc latches.items (map Latch (owns_of hands)) (o.latch_seat ∷ [])
          ∙ ap (λ (xs : List LatchPlace). latches.items ++ xs) (map_owns Latch hands h o j.own);
    }

-- ---- the watchdog's seats

known_self : (v : View) → KnowsNoMore v v
known_self v = record { parts = λ r. record { zero_is = inr refl; after = begins_self (part_of v.pairs.parts r).after }; offset = inr refl }

pub watch_none : (s : Shared) (owners : List LatchPlace) (first : Held) (time : Time) → place_of first ≡ s.words → time.table ≡ s.tickets.table
    → HasGatheredWatch s None owners first time first time None
watch_none s owners first time place table =
    record {
      whole_own = place;
      view_is = refl;
      first_seen = begins_self first.view.seen;
      first_known = known_self first.view;
      seen = All-nil (λ (x : WatchParts). Begins x.seat.view.seen first.view.seen);
      known = All-nil (λ (x : WatchParts). KnowsNoMore x.seat.view first.view);
      drawn_own = table;
      blocks = sym (append-nil time.blocks);
      share = omega arith;
      kept_is = refl;
      follow = All-nil (λ (x : WatchParts). EachFrom (WatchFollows owners) 0 x.latch_seats.items);
    }

pub record JoinsWatch (s : Shared) (h : WatchHand) (p : WatchParts) (trace : WatchTrace) (owners : List LatchPlace) (first : Held) (time : Time) (whole : Held) (drawn : Time) : Type 0 where
  pub parts : h.parts ≡ Some p
  pub trace_is : h.trace ≡ trace
  pub place : place_of whole ≡ s.words
  pub joins : Joins first.view p.seat.view whole.view
  pub table : time.table ≡ s.tickets.table
  pub time_is : drawn ≡ both_of time p.time
  pub share : share_of drawn ≡ share_of time + share_of p.time
  pub follow : EachFrom (WatchFollows owners) 0 p.latch_seats.items

pub watch_some : (s : Shared) (h : WatchHand) (p : WatchParts) (trace : WatchTrace) (owners : List LatchPlace) (first : Held) (time : Time) (whole : Held) (drawn : Time)
    → JoinsWatch s h p trace owners first time whole drawn → HasGatheredWatch s (Some h) owners first time whole drawn (Some trace)
watch_some s h p trace owners first time whole drawn j =
    let parts : parts_of (Some h) ≡ p ∷ [] = ap (λ (w : Option WatchParts). part_list w ++ []) j.parts in
    let Seen : WatchParts → Type 0 = λ x. Begins x.seat.view.seen whole.view.seen in
    let Known : WatchParts → Type 0 = λ x. KnowsNoMore x.seat.view whole.view in
    let Follows : WatchParts → Type 0 = λ x. EachFrom (WatchFollows owners) 0 x.latch_seats.items in
    let share = j.share in
    let one = sum_by-cons (λ (x : WatchParts). share_of x.time) p [] in
    let sum = ap (sum_by (λ (x : WatchParts). share_of x.time)) parts in
    record {
      whole_own = j.place;
      view_is = j.joins.view_is ∙ sym (ap (λ (ps : List WatchParts). all_together first.view (map (λ (x : WatchParts). x.seat.view) ps)) parts);
      first_seen = j.joins.first;
      first_known = first_known first.view p.seat.view whole.view j.joins;
      seen = subst (All Seen) (sym parts) (All-cons Seen p [] j.joins.second (All-nil Seen));
      known = subst (All Known) (sym parts) (All-cons Known p [] (second_known first.view p.seat.view whole.view j.joins) (All-nil Known));
      drawn_own = ap (λ (t : Time). t.table) j.time_is ∙ j.table;
      blocks =
          ap (λ (t : Time). t.blocks) j.time_is
          ∙ ap (λ (bs : List Block). time.blocks ++ bs) (sym (append-nil p.time.blocks) ∙ sym (ap (flat_map (λ (x : WatchParts). x.time.blocks)) parts));
      share = omega (arith, share, one, sum);
      kept_is = ap (λ (t : WatchTrace). Some t) (sym j.trace_is);
      follow = subst (All Follows) (sym parts) (All-cons Follows p [] j.follow (All-nil Follows));
    }

-- the watchdog's parts, taken out of it, may be joined
pub joins_one : (s : Shared) (owners : List LatchPlace) (watcher : Option WatchHand) (h : WatchHand) (p : WatchParts) → watcher ≡ Some h → h.parts ≡ Some p
    → All (MayJoinWatch s owners) (parts_of watcher) → MayJoinWatch s owners p
joins_one s owners watcher h p is parts all =
    let May : WatchParts → Type 0 = MayJoinWatch s owners in
    let one : parts_of watcher ≡ p ∷ [] = ap parts_of is ∙ ap (λ (w : Option WatchParts). part_list w ++ []) parts in
    All-head May p [] (subst (All May) one all)
