-- All workers of a run are taken, one after another, and come back so.
use Rattle.std.proofs.Common.{◌≡◌, ℕ, suc, ◌+◌, ◌<◌, true, List, [], ◌∷◌, ◌++◌, length, get_or, set, Option, Some, None, refl, sym, ap, ◌∙◌, subst, arith, append_assoc, append-nil, length-append}
use Rattle.std.specs.Prelude.{is_some, IsSome}
use Rattle.std.specs.List.{All}
use Rattle.std.proofs.Math.Seq.{get_or-append_seam, set-append_seam}
use Rattle.std.proofs.lemmas.List.{length-map}
use Rattle.std.proofs.lemmas.List.Elements.{All-nil, All-cons, All-head, All-tail, All-weaker, All-get_or}
use Rattle.clk_base.specs.Walk.{EachFrom}
use Rattle.clk_base.proofs.Walks.{each_from, each_at}
use Rattle.clk_machine.specs.Plan.{threads_of}
use Rattle.clk_record.specs.Watching.{checks_asked}
use Rattle.clk_lawful.specs.Checks.{listed}
use Rattle.clk_worker.specs.declared.shared.Shared.{Shared}
use Rattle.clk_worker.specs.Making.{Hand, script_of}
use Rattle.clk_watcher.specs.Making.{Hand as WatchHand, BelongsTo as WatchBelongsTo}
use Rattle.clk_threads.specs.Preparing.{IsPrepared}
use Rattle.clk_threads.specs.Workers.{AreOfSeats, all_there, all_taken, IsWatcherOf, HasRun, HaveRun, WatcherRan}
use Rattle.clk_threads.specs.Parts.{shared_of, seats_of, watch_seats_of, runs_stable, Parts, slot_at, with_slot, with_watcher, IsOpenedFrom, CameAt, CameFrom, WatchCame, HasMadeAll, AreBack}
use Rattle.clk_threads.specs.declared.prepared.Prepared.{Prepared}
use Rattle.clk_threads.proofs.Numbering.{each_of}
use Rattle.clk_threads.proofs.Opening.{seats_count}
use Rattle.clk_threads.proofs.Taking.{watch_stands, came_on, watch_came_on, thread_is, first_came, watch_first_came}

there_push : (hands : List Hand) (h : Hand) (rest : List (Option Hand)) → all_there hands ++ Some h ∷ rest ≡ all_there (hands ++ h ∷ []) ++ rest
there_push [] h rest = refl
there_push (x ∷ hands) h rest = ap (λ (xs : List (Option Hand)). Some x ∷ xs) (there_push hands h rest)

taken_push : (hands : List Hand) (h : Hand) (rest : List (Option Hand)) → all_taken hands ++ None ∷ rest ≡ all_taken (hands ++ h ∷ []) ++ rest
taken_push [] h rest = refl
taken_push (x ∷ hands) h rest = ap (λ (xs : List (Option Hand)). None ∷ xs) (taken_push hands h rest)

there_long : (hands : List Hand) → length (all_there hands) ≡ length hands
there_long hands = length-map hands (λ (h : Hand). Some h)

taken_long : (hands : List Hand) → length (all_taken hands) ≡ length hands
taken_long hands = length-map hands (λ (h : Hand). None)

-- item k, behind k others, and the same with another in its place
item_at : (xs : List (Option Hand)) (x : Option Hand) (rest : List (Option Hand)) (k : ℕ) → length xs ≡ k → get_or (xs ++ x ∷ rest) k None ≡ x
item_at xs x rest k long = ap (λ (n : ℕ). get_or (xs ++ x ∷ rest) n None) (sym long) ∙ get_or-append_seam xs x rest None

item_set : (xs : List (Option Hand)) (x : Option Hand) (rest : List (Option Hand)) (k : ℕ) (y : Option Hand) → length xs ≡ k → set (xs ++ x ∷ rest) k y ≡ xs ++ y ∷ rest
item_set xs x rest k y long = ap (λ (n : ℕ). set (xs ++ x ∷ rest) n y) (sym long) ∙ set-append_seam xs x rest y

-- ---- taken so far

abbrev pub with_slots : List (Option Hand) → Parts → Parts
with_slots slots r = record { prepared = r.prepared; slots = slots; watcher = r.watcher }

pub record HalfTaken (before now : Parts) (hands : List Hand) : Type 0 where
  pub rest : List (Option Hand)
  pub were : before.slots ≡ all_there hands ++ rest
  pub are : now ≡ with_slots (all_taken hands ++ rest) before

pub none_taken : (r : Parts) (hands : List Hand) → hands ≡ [] → HalfTaken r r hands
none_taken r hands none = subst (HalfTaken r r) (sym none) (record { rest = r.slots; were = refl; are = refl })

-- the next one
record IsNext (before now : Parts) (hands : List Hand) (k : ℕ) : Type 0 where
  pub slot : Option Hand
  pub rest : List (Option Hand)
  pub were : before.slots ≡ all_there hands ++ slot ∷ rest
  pub are : now ≡ with_slots (all_taken hands ++ slot ∷ rest) before
  pub was : get_or before.slots k None ≡ slot
  pub at : slot_at now k ≡ slot

next_taken : (before now : Parts) (hands : List Hand) (k : ℕ) → HalfTaken before now hands → length hands ≡ k → k < length before.slots → IsNext before now hands k
next_taken before now hands k half count low = at half.rest half.were half.are
  where
    at : (rest : List (Option Hand)) → before.slots ≡ all_there hands ++ rest → now ≡ with_slots (all_taken hands ++ rest) before → IsNext before now hands k
    at [] were are =
        let all = ap length were in
        let both = length-append (all_there hands) [] in
        let long = there_long hands in
        absurd (omega (arith, low, all, both, long, count))
    at (x ∷ rest) were are = record {
      slot = x;
      rest = rest;
      were = were;
      are = are;
      was = ap (λ (xs : List (Option Hand)). get_or xs k None) were ∙ item_at (all_there hands) x rest k (there_long hands ∙ count);
      at = ap (λ (r : Parts). slot_at r k) are ∙ item_at (all_taken hands) x rest k (taken_long hands ∙ count);
    }

pub next_there : (before now : Parts) (hands : List Hand) (k : ℕ) → HalfTaken before now hands → length hands ≡ k → k < length before.slots → All IsSome before.slots
    → is_some (slot_at now k) ≡ true
next_there before now hands k half count low all =
    let next = next_taken before now hands k half count low in
    ap is_some (next.at ∙ sym next.was) ∙ All-get_or IsSome before.slots k None low all

pub taken_more : (before now after : Parts) (hands more : List Hand) (k : ℕ) (h : Hand) → HalfTaken before now hands → length hands ≡ k → k < length before.slots
    → slot_at now k ≡ Some h → after ≡ with_slot k None now → more ≡ hands ++ h ∷ [] → HalfTaken before after more
taken_more before now after hands more k h half count low here step grown =
    let next = next_taken before now hands k half count low in
    let slot : next.slot ≡ Some h = sym next.at ∙ here in
    subst (HalfTaken before after) (sym grown)
    (record {
      rest = next.rest;
      were = next.were ∙ ap (λ (x : Option Hand). all_there hands ++ x ∷ next.rest) slot ∙ there_push hands h next.rest;
      are =
          step ∙ ap (λ (r : Parts). with_slot k None r) next.are
          ∙ ap (λ (xs : List (Option Hand)). with_slots xs before)
          (item_set (all_taken hands) next.slot next.rest k None (taken_long hands ∙ count) ∙ taken_push hands h next.rest);
    })

none_left : (xs : List (Option Hand)) → length xs ≡ 0 → xs ≡ []
none_left [] e = refl
none_left (x ∷ xs) e = absurd (omega (arith, e))

taken_rest : (before now : Parts) (hands : List Hand) → (half : HalfTaken before now hands) → length hands ≡ length before.slots → half.rest ≡ []
taken_rest before now hands half all =
    let long = there_long hands in
    let were = ap length half.were in
    let both = length-append (all_there hands) half.rest in
    none_left half.rest (omega (arith, long, were, both, all))

pub taken_slots : (before now : Parts) (hands : List Hand) → HalfTaken before now hands → length hands ≡ length before.slots → before.slots ≡ all_there hands
taken_slots before now hands half all =
    half.were ∙ ap (λ (xs : List (Option Hand)). all_there hands ++ xs) (taken_rest before now hands half all) ∙ append-nil (all_there hands)

pub taken_parts : (before now : Parts) (hands : List Hand) → HalfTaken before now hands → length hands ≡ length before.slots → now ≡ with_slots (all_taken hands) before
taken_parts before now hands half all =
    half.are
    ∙ ap (λ (xs : List (Option Hand)). with_slots xs before)
    (ap (λ (xs : List (Option Hand)). all_taken hands ++ xs) (taken_rest before now hands half all) ∙ append-nil (all_taken hands))

-- ---- back so far

pub record HalfBack (before now : Parts) (all hands : List Hand) : Type 0 where
  pub rest : List Hand
  pub whole : all ≡ hands ++ rest
  pub are : now ≡ with_slots (all_there hands ++ all_taken rest) before

pub none_back : (r : Parts) (all : List Hand) → r.slots ≡ all_taken all → HalfBack r r all []
none_back r all taken = record { rest = all; whole = refl; are = ap (λ (xs : List (Option Hand)). with_slots xs r) taken }

record IsNextBack (before now : Parts) (all hands : List Hand) (h : Hand) : Type 0 where
  pub rest : List Hand
  pub whole : all ≡ (hands ++ h ∷ []) ++ rest
  pub are : now ≡ with_slots (all_there hands ++ None ∷ all_taken rest) before

next_back : (before now : Parts) (all hands : List Hand) (h : Hand) → HalfBack before now all hands → length hands < length all → h ≡ get_or all (length hands) h
    → IsNextBack before now all hands h
next_back before now all hands h half low is = at half.rest half.whole half.are
  where
    at : (rest : List Hand) → all ≡ hands ++ rest → now ≡ with_slots (all_there hands ++ all_taken rest) before → IsNextBack before now all hands h
    at [] whole are =
        let count = ap length whole in
        let both = length-append hands [] in
        absurd (omega (arith, low, count, both))
    at (x ∷ rest) whole are =
        let same : h ≡ x = is ∙ ap (λ (xs : List Hand). get_or xs (length hands) h) whole ∙ get_or-append_seam hands x rest h in
        record {
          rest = rest;
          whole = whole ∙ ap (λ (y : Hand). hands ++ y ∷ rest) (sym same) ∙ sym (append_assoc hands (h ∷ []) rest);
          are = are;
        }

pub back_taken : (before now : Parts) (all hands : List Hand) (h : Hand) → HalfBack before now all hands → length hands < length all → h ≡ get_or all (length hands) h
    → EachFrom (CameAt before.prepared) 0 all → slot_at now h.post.thread ≡ None
back_taken before now all hands h half low is came =
    let next = next_back before now all hands h half low is in
    let here : CameAt before.prepared (length hands) h =
    subst (CameAt before.prepared (length hands)) (sym is) (each_of (CameAt before.prepared) all (length hands) h low came) in
    let thread = thread_is before.prepared (length hands) h here in
    ap (λ (r : Parts). slot_at r h.post.thread) next.are ∙ item_at (all_there hands) None (all_taken next.rest) h.post.thread (there_long hands ∙ sym thread)

pub back_came : (before now : Parts) (all hands : List Hand) (h : Hand) → HalfBack before now all hands → length hands < length all → h ≡ get_or all (length hands) h
    → EachFrom (CameAt before.prepared) 0 all → length all ≡ length (threads_of before.prepared.machine) → CameFrom now.prepared h
back_came before now all hands h half low is came count =
    let here : CameAt before.prepared (length hands) h =
    subst (CameAt before.prepared (length hands)) (sym is) (each_of (CameAt before.prepared) all (length hands) h low came) in
    let thread = thread_is before.prepared (length hands) h here in
    subst (λ (r : Parts). CameFrom r.prepared h) (sym half.are)
    (record { there = omega (arith, thread, low, count); came = subst (λ (n : ℕ). CameAt before.prepared n h) (sym thread) here })

pub back_more : (before now after : Parts) (all hands : List Hand) (h : Hand) → HalfBack before now all hands → length hands < length all → h ≡ get_or all (length hands) h
    → EachFrom (CameAt before.prepared) 0 all → after ≡ with_slot h.post.thread (Some h) now → HalfBack before after all (hands ++ h ∷ [])
back_more before now after all hands h half low is came step =
    let next = next_back before now all hands h half low is in
    let here : CameAt before.prepared (length hands) h =
    subst (CameAt before.prepared (length hands)) (sym is) (each_of (CameAt before.prepared) all (length hands) h low came) in
    let thread = thread_is before.prepared (length hands) h here in
    record {
      rest = next.rest;
      whole = next.whole;
      are =
          step ∙ ap (λ (r : Parts). with_slot h.post.thread (Some h) r) next.are
          ∙ ap (λ (xs : List (Option Hand)). with_slots xs before)
          (item_set (all_there hands) None (all_taken next.rest) h.post.thread (Some h) (there_long hands ∙ sym thread) ∙ there_push hands h (all_taken next.rest));
    }

no_hands : (xs : List Hand) → length xs ≡ 0 → xs ≡ []
no_hands [] e = refl
no_hands (x ∷ xs) e = absurd (omega (arith, e))

pub back_parts : (before now : Parts) (all hands : List Hand) → HalfBack before now all hands → length hands ≡ length all → now ≡ with_slots (all_there all) before
back_parts before now all hands half count =
    let whole = ap length half.whole in
    let both = length-append hands half.rest in
    let none : half.rest ≡ [] = no_hands half.rest (omega (arith, whole, both, count)) in
    let same : all ≡ hands = half.whole ∙ ap (λ (xs : List Hand). hands ++ xs) none ∙ append-nil hands in
    half.are
    ∙ ap (λ (xs : List (Option Hand)). with_slots xs before)
    (ap (λ (xs : List Hand). all_there hands ++ all_taken xs) none ∙ append-nil (all_there hands) ∙ ap all_there (sym same))

-- ---- the run of all of them

all_some : (hands : List Hand) → All IsSome (all_there hands)
all_some [] = All-nil IsSome
all_some (h ∷ hands) = All-cons IsSome (Some h) (all_there hands) refl (all_some hands)

pub opened_some : (p : Prepared) (r : Parts) → IsOpenedFrom p r → All IsSome r.slots
opened_some p r o = subst (All IsSome) (sym o.workers.there) (all_some o.workers.hands)

there_same : (xs ys : List Hand) → all_there xs ≡ all_there ys → xs ≡ ys
there_same [] [] e = refl
there_same [] (y ∷ ys) e = absurd (cc)
there_same (x ∷ xs) [] e = absurd (cc)
there_same (x ∷ xs) (y ∷ ys) e =
    let head : x ≡ y = cc in
    let tail : all_there xs ≡ all_there ys = cc in
    let rest = there_same xs ys tail in
    cc

-- the workers that were taken are those that were made
taken_given : (p : Prepared) (r : Parts) (hands : List Hand) → IsOpenedFrom p r → r.slots ≡ all_there hands
    → AreOfSeats p.machine p.lists.adjusts.items p.sched_offset (seats_of p) hands
taken_given p r hands o e =
    subst (AreOfSeats p.machine p.lists.adjusts.items p.sched_offset (seats_of p)) (there_same o.workers.hands hands (sym o.workers.there ∙ e)) o.workers.of_seats

taken_same : (xs ys : List Hand) → length xs ≡ length ys → all_taken xs ≡ all_taken ys
taken_same [] [] e = refl
taken_same [] (y ∷ ys) e = absurd (omega (arith, e))
taken_same (x ∷ xs) [] e = absurd (omega (arith, e))
taken_same (x ∷ xs) (y ∷ ys) e = ap (λ (zs : List (Option Hand)). None ∷ zs) (taken_same xs ys (omega (arith, e)))

-- what they are once they ran
ran_came : (p : Prepared) (ip : IsPrepared p.machine p) (before after : List Hand) → AreOfSeats p.machine p.lists.adjusts.items p.sched_offset (seats_of p) before
    → HaveRun (shared_of p) before after → EachFrom (CameAt p) 0 after
ran_came p ip before after given run =
    let count = given.count ∙ seats_count p ip in
    let first = first_came p ip 0 before (omega (arith, count)) given.each in
    each_from (CameAt p) 0 after (λ k d low.
    let same = run.count in
    let there : k < length before = omega (arith, low, same) in
    let came : CameAt p (0 + k) (get_or before k d) = each_at (CameAt p) 0 before k d there first in
    came_on p (0 + k) (get_or before k d) (get_or after k d) came (run.each k d there).went)

abbrev MadeAll : Shared → Hand → Type 0
MadeAll s h = h.next ≡ length (script_of s h.post)

all_by : (P : Hand → Type 0) (xs : List Hand) → ((k : ℕ) (d : Hand) → k < length xs → P (get_or xs k d)) → All P xs
all_by P [] f = All-nil P
all_by P (x ∷ xs) f = All-cons P x xs (f 0 x (omega arith)) (all_by P xs (λ k d low. f (suc k) d (omega (arith, low))))

all_made : (s : Shared) (hands : List Hand) → All (MadeAll s) hands → All (HasMadeAll s) (all_there hands)
all_made s [] all = All-nil (HasMadeAll s)
all_made s (h ∷ hands) all =
    All-cons (HasMadeAll s) (Some h) (all_there hands) (h, refl, All-head (MadeAll s) h hands all) (all_made s hands (All-tail (MadeAll s) h hands all))

ran_made : (p : Prepared) (ip : IsPrepared p.machine p) (before after : List Hand) → AreOfSeats p.machine p.lists.adjusts.items p.sched_offset (seats_of p) before
    → HaveRun (shared_of p) before after → All (HasMadeAll (shared_of p)) (all_there after)
ran_made p ip before after given run =
    let s : Shared = shared_of p in
    let count = given.count ∙ seats_count p ip in
    let first = first_came p ip 0 before (omega (arith, count)) given.each in
    all_made s after (all_by (MadeAll s) after (λ k d low.
    let same = run.count in
    let there : k < length before = omega (arith, low, same) in
    let came : CameAt p (0 + k) (get_or before k d) = each_at (CameAt p) 0 before k d there first in
    let ran : HasRun s (get_or before k d) (get_or after k d) = run.each k d there in
    ran.next ∙ ap (λ q. length (script_of s q)) (came.going.post ∙ sym (ran.went came.first came.going).post)))

-- ---- the watcher beside them

pub watch_belong : (p : Prepared) (watcher : Option WatchHand) → All (WatchCame p) (listed watcher) → All (WatchBelongsTo (shared_of p)) (listed watcher)
watch_belong p watcher all = All-weaker (WatchCame p) (WatchBelongsTo (shared_of p)) (λ h c. (c.first, c.going)) (listed watcher) all

watch_ran_came : (p : Prepared) (before after : Option WatchHand) → All (WatchCame p) (listed before) → WatcherRan (shared_of p) before after → All (WatchCame p) (listed after)
watch_ran_came p None after came ran = subst (λ (o : Option WatchHand). All (WatchCame p) (listed o)) (sym ran) (All-nil (WatchCame p))
watch_ran_came p (Some h) after came ran =
    let c : WatchCame p h = All-head (WatchCame p) h [] came in
    subst (λ (o : Option WatchHand). All (WatchCame p) (listed o)) (sym ran.1)
    (watch_stands p ran.0 (watch_came_on p h ran.0 c ran.2.went))

watch_ran_made : (p : Prepared) (before after : Option WatchHand) → WatcherRan (shared_of p) before after
    → All (λ (h : WatchHand). h.next ≡ checks_asked p.machine.watchdog) (listed after)
watch_ran_made p None after ran =
    subst (λ (o : Option WatchHand). All (λ (h : WatchHand). h.next ≡ checks_asked p.machine.watchdog) (listed o)) (sym ran)
    (All-nil (λ (h : WatchHand). h.next ≡ checks_asked p.machine.watchdog))
watch_ran_made p (Some h) after ran =
    let Whole : WatchHand → Type 0 = λ x. x.next ≡ checks_asked p.machine.watchdog in
    subst (λ (o : Option WatchHand). All Whole (listed o)) (sym ran.1) (All-cons Whole ran.0 [] ran.2.next (All-nil Whole))

watch_ran_some : (s : Shared) (before after : Option WatchHand) → WatcherRan s before after → is_some after ≡ is_some before
watch_ran_some s None after ran = ap is_some ran
watch_ran_some s (Some h) after ran = ap is_some ran.1

-- all are back
all_back : (p : Prepared) (ip : IsPrepared p.machine p) (before after : List Hand) (first last : Option WatchHand)
    → AreOfSeats p.machine p.lists.adjusts.items p.sched_offset (seats_of p) before → HaveRun (shared_of p) before after
    → is_some first ≡ is_some p.machine.watchdog → WatcherRan (shared_of p) first last → AreBack (record { prepared = p; slots = all_there after; watcher = last })
all_back p ip before after first last given run there ran =
    record {
      workers = ran_made p ip before after given run;
      watcher = watch_ran_some (shared_of p) first last ran ∙ there;
      checks = watch_ran_made p first last ran;
    }

-- ---- a run of which all is taken

pub record AreAllTaken (p : Prepared) (r : Parts) (hands : List Hand) (watcher : Option WatchHand) : Type 0 where
  pub given : AreOfSeats p.machine p.lists.adjusts.items p.sched_offset (seats_of p) hands
  pub count : length hands ≡ length (threads_of p.machine)
  pub are : r ≡ record { prepared = p; slots = all_taken hands; watcher = None }
  pub watched : is_some watcher ≡ is_some p.machine.watchdog
  pub came : All (WatchCame p) (listed watcher)

pub are_all_taken : (p : Prepared) (ip : IsPrepared p.machine p) (r0 r1 r2 : Parts) (hands : List Hand) (watcher : Option WatchHand) → IsOpenedFrom p r0
    → r0.slots ≡ all_there hands → r1 ≡ with_slots (all_taken hands) r0 → watcher ≡ r1.watcher → r2 ≡ with_watcher None r1 → AreAllTaken p r2 hands watcher
are_all_taken p ip r0 r1 r2 hands watcher o there first is second =
    let given = taken_given p r0 hands o there in
    let same : watcher ≡ r0.watcher = is ∙ ap (λ (r : Parts). r.watcher) first in
    record {
      given = given;
      count = given.count ∙ seats_count p ip;
      are =
          second ∙ ap (λ (r : Parts). with_watcher None r)
          (first ∙ ap (λ (q : Prepared). record { prepared = q; slots = all_taken hands; watcher = r0.watcher }) o.prepared);
      watched = ap is_some same ∙ o.watched;
      came =
          watch_first_came p ip watcher
          (subst (λ (w : Option WatchHand). IsWatcherOf p.stamps.items p.sched_offset p.gtod_offset (runs_stable p) (watch_seats_of p) w) (sym same) o.watcher);
    }

-- ---- and of which all ran

pub record HaveAllRun (p : Prepared) (r : Parts) (hands : List Hand) (watcher : Option WatchHand) : Type 0 where
  pub taken : r.slots ≡ all_taken hands
  pub count : length hands ≡ length (threads_of r.prepared.machine)
  pub came : EachFrom (CameAt r.prepared) 0 hands
  pub are : r ≡ record { prepared = p; slots = all_taken hands; watcher = None }
  pub watch_came : All (WatchCame p) (listed watcher)
  pub back : AreBack (record { prepared = p; slots = all_there hands; watcher = watcher })

pub have_all_run : (p : Prepared) (ip : IsPrepared p.machine p) (r : Parts) (s : Shared) (before after : List Hand) (first last : Option WatchHand)
    → AreAllTaken p r before first → s ≡ shared_of r.prepared → HaveRun s before after → WatcherRan s first last → HaveAllRun p r after last
have_all_run p ip r s before after first last t lent run ran =
    let same : s ≡ shared_of p = lent ∙ ap (λ (x : Parts). shared_of x.prepared) t.are in
    let run_here : HaveRun (shared_of p) before after = subst (λ (x : Shared). HaveRun x before after) same run in
    let ran_here : WatcherRan (shared_of p) first last = subst (λ (x : Shared). WatcherRan x first last) same ran in
    let taken : all_taken before ≡ all_taken after = taken_same before after (sym run.count) in
    record {
      taken = ap (λ (x : Parts). x.slots) t.are ∙ taken;
      count = run.count ∙ t.count ∙ ap (λ (x : Parts). length (threads_of x.prepared.machine)) (sym t.are);
      came = subst (λ (x : Parts). EachFrom (CameAt x.prepared) 0 after) (sym t.are) (ran_came p ip before after t.given run_here);
      are = t.are ∙ ap (λ (xs : List (Option Hand)). record { prepared = p; slots = xs; watcher = None }) taken;
      watch_came = watch_ran_came p first last t.came ran_here;
      back = all_back p ip before after first last t.given run_here t.watched ran_here;
    }

-- the workers come back, and then the watcher
pub slots_back : (p : Prepared) (r r2 : Parts) (hands : List Hand) (watcher : Option WatchHand) → HaveAllRun p r hands watcher → r2 ≡ with_slots (all_there hands) r
    → r2 ≡ record { prepared = p; slots = all_there hands; watcher = None }
slots_back p r r2 hands watcher h e = e ∙ ap (λ (x : Parts). with_slots (all_there hands) x) h.are

pub parts_back : (p : Prepared) (r r2 r3 : Parts) (hands : List Hand) (watcher : Option WatchHand) → HaveAllRun p r hands watcher → r2 ≡ with_slots (all_there hands) r
    → r3 ≡ with_watcher watcher r2 → r3 ≡ record { prepared = p; slots = all_there hands; watcher = watcher }
parts_back p r r2 r3 hands watcher h e f = f ∙ ap (λ (x : Parts). with_watcher watcher x) (slots_back p r r2 hands watcher h e)
