-- What each thread of a run leaves: its whole script, made from fresh seats, and what those seats have at the end.
use Rattle.std.proofs.Common.{◌≡◌, ℕ, ◌+◌, ◌<◌, ◌≤◌, Bool, true, false, nat_eq, ◌||◌, List, [], ◌∷◌, ◌++◌, map, length, Option, Some, refl, sym, ap, ◌∙◌, subst, arith}
use Rattle.std.specs.Prelude.{IsTrue}
use Rattle.std.specs.List.{All, flat_map, sum_by}
use Rattle.std.proofs.lemmas.Bool.Decides.{nat_tests}
use Rattle.std.proofs.lemmas.List.{take_all}
use Rattle.std.proofs.lemmas.List.Elements.{All-nil, All-cons, All-head, All-tail}
use Rattle.std.proofs.lemmas.List.Sums.{sum_by-cons}
use Rattle.clk_base.specs.declared.block.Block.{Block}
use Rattle.clk_base.specs.Walk.{EachFrom}
use Rattle.clk_num.specs.Listed.{Listed}
use Rattle.clk_ticket.specs.Time.{Time, share_of}
use Rattle.clk_machine.specs.declared.script.Word.{Word}
use Rattle.clk_machine.specs.Plan.{thread_at, threads_of}
use Rattle.clk_record.specs.declared.step.Step.{Step}
use Rattle.clk_words.specs.declared.opening.Start.{Start}
use Rattle.clk_words.specs.declared.view.View.{View}
use Rattle.clk_words.specs.Histories.{IsGlobalHistory}
use Rattle.clk_words.specs.Held.{place_of}
use Rattle.clk_words.specs.Rights.{has_number, owned_by}
use Rattle.clk_words.specs.Views.{own_lists}
use Rattle.clk_lawful.specs.ScriptEvents.{AreEventsOf}
use Rattle.clk_lawful.specs.declared.event.Event.{Event}
use Rattle.clk_latch.specs.Epoch.{Epoch}
use Rattle.clk_latch.specs.Epoch.{Place as LatchPlace}
use Rattle.clk_local.specs.Context.{Known}
use Rattle.clk_worker.specs.declared.own.Own.{Own}
use Rattle.clk_worker.specs.declared.own.Post.{Post}
use Rattle.clk_worker.specs.Calling.{site_at, has}
use Rattle.clk_worker.specs.Making.{Hand, script_of, HasMade, IsGoing}
use Rattle.clk_worker.proofs.Making.{begins}
use Rattle.clk_worker.proofs.RunKeeping.{Fixed, fixed, runs_fixed}
use Rattle.clk_worker.proofs.RunThread.{has_run}
use Rattle.clk_worker.proofs.RunThread.{IsFresh as IsFreshThread, HasRun as HasShown}
use Rattle.clk_threads.specs.Preparing.{start_of, kind_on, thread_seat, time_seat, no_events, IsPrepared}
use Rattle.clk_threads.specs.Finishing.{Ran, events_of, IsGiven, site_on, RanWhole}
use Rattle.clk_threads.specs.Parts.{shared_of}
use Rattle.clk_threads.specs.Ending.{own_list, owns_of, MayJoin, FitsLatch}
use Rattle.clk_threads.specs.declared.prepared.Prepared.{Prepared}
use Rattle.clk_threads.proofs.Beginning.{fresh_own, post_at, IsFresh, given_all, may_begin}
use Rattle.clk_threads.proofs.Giving.{not_watch}
use Rattle.clk_threads.proofs.LawfulLists.{thread_cpu}
use Rattle.clk_threads.proofs.Numbering.{kind_cpu}

-- ---- one thread

-- it made its whole script
pub record HasLeft (p : Prepared) (booted : Time) (thread : ℕ) (h : Hand) : Type 0 where
  pub latch : LatchPlace
  pub own : Own
  pub own_is : h.own ≡ Some own
  pub made : HasMade (shared_of p) (post_at p thread) (fresh_own p booted latch thread) (length (thread_at p.machine thread).1) own h.events

pub going_first : (p : Prepared) (ip : IsPrepared p.machine p) (thread : ℕ) (h : Hand) → thread < length (threads_of p.machine)
    → IsFresh p ip.booted thread h → IsGoing (shared_of p) h h
going_first p ip thread h low f =
    subst (λ (x : Hand). IsGoing (shared_of p) x x) (sym f.hand)
    (begins (post_at p thread) (fresh_own p ip.booted f.latch thread) (no_events (thread_at p.machine thread)) (shared_of p) (may_begin p ip f.latch thread low f.there))

pub has_left : (p : Prepared) (ip : IsPrepared p.machine p) (thread : ℕ) (h w : Hand)
    → IsFresh p ip.booted thread h → IsGoing (shared_of p) h w → w.next ≡ length (script_of (shared_of p) w.post) → HasLeft p ip.booted thread w
has_left p ip thread h w f g whole =
    let o : Own = fresh_own p ip.booted f.latch thread in
    let began : g.began ≡ o =
    (let first = g.began_is in let is = ap (λ (x : Hand). x.own) f.hand in some_is g.began o (sym first ∙ is)) in
    let post : w.post ≡ post_at p thread = g.post ∙ ap (λ (x : Hand). x.post) f.hand in
    let next : w.next ≡ length (thread_at p.machine thread).1 = whole ∙ ap (λ (q : Post). length (script_of (shared_of p) q)) post in
    let at_post = subst (λ (q : _). HasMade (shared_of p) q g.began w.next g.own w.events) post g.made in
    let from_own = subst (λ (x : Own). HasMade (shared_of p) (post_at p thread) x w.next g.own w.events) began at_post in
    record {
      latch = f.latch;
      own = g.own;
      own_is = g.own_is;
      made = subst (λ (n : ℕ). HasMade (shared_of p) (post_at p thread) o n g.own w.events) next from_own;
    }
  where
    some_is : (a b : Own) → Some a ≡ Some b → a ≡ b
    some_is a b e = cc

-- ---- as a thread of the run

abbrev pub ran_of : (p : Prepared) (booted : Time) (thread : ℕ) (h : Hand) → HasLeft p booted thread h → Ran
ran_of p booted thread h l = record { began = has (fresh_own p booted l.latch thread); ended = has l.own; events = h.events }

pub given : (p : Prepared) (ip : IsPrepared p.machine p) (thread : ℕ)
    → IsGiven (start_of p.machine p.stamps.items p.boot_demotion) thread (kind_on p.machine thread) (thread_seat p.machine p.opened.words thread).view
given p ip thread =
    let start = p.opened.words.start in
    let all = given_all p.machine start thread in
    let v : View = (thread_seat p.machine p.opened.words thread).view in
    subst (λ (s : Start). IsGiven s thread (kind_on p.machine thread) v) ip.opened.start
    (record {
      start_is = all.start_is;
      number_is = all.made;
      kind_is = refl;
      mine_is = refl;
      seen_is = all.seen;
      parts_is = all.parts;
      found_is = all.found;
      offset_is = all.offset;
      watch_is = not_watch p.machine thread;
      owns_is = refl;
    })

pub ran_whole : (p : Prepared) (ip : IsPrepared p.machine p) (thread : ℕ) (h : Hand) (l : HasLeft p ip.booted thread h)
    → RanWhole p.machine p.stamps.items p.up.cpus.items (start_of p.machine p.stamps.items p.boot_demotion) ip.booted.seen thread (ran_of p ip.booted thread h l)
ran_whole p ip thread h l =
    let cpu : ℕ = (thread_at p.machine thread).0 in
    let ws : List Word = (thread_at p.machine thread).1 in
    record {
      given = given p ip thread;
      owner = refl;
      records = refl;
      blocks = refl;
      later = omega arith;
      script = subst (λ (xs : List Word). AreEventsOf cpu 0 xs h.events.items) (take_all (length ws) ws (omega arith)) l.made.script;
      runs = l.made.runs;
    }

-- what its events show
pub left_shows : (p : Prepared) (ip : IsPrepared p.machine p) (thread : ℕ) (h : Hand) → thread < length (threads_of p.machine)
    → (l : HasLeft p ip.booted thread h)
    → HasShown (site_on p.machine p.stamps.items p.up.cpus.items (thread_at p.machine thread).0) (start_of p.machine p.stamps.items p.boot_demotion) thread (has (fresh_own p ip.booted l.latch thread)) h.events.items (has l.own)
left_shows p ip thread h low l =
    let m = p.machine in
    let start = start_of m p.stamps.items p.boot_demotion in
    let g = given p ip thread in
    let fresh : IsFreshThread (site_on m p.stamps.items p.up.cpus.items (thread_at m thread).0) start thread (has (fresh_own p ip.booted l.latch thread)) = record {
      home = record {
        start_is = g.start_is;
        number_is = g.number_is;
        cpu_is = kind_cpu m thread;
      };
      within = thread_cpu m thread ip.limits low;
      mine = refl;
      legal = subst (IsGlobalHistory start) (sym g.seen_is) tt;
      records = refl;
      parts = g.parts_is;
      found = g.found_is;
      offset = g.offset_is;
    } in
    has_run (site_on m p.stamps.items p.up.cpus.items (thread_at m thread).0) start thread (has (fresh_own p ip.booted l.latch thread)) h.events.items (has l.own) fresh l.made.runs

-- nothing that no event changes was changed
left_fixed : (p : Prepared) (booted : Time) (thread : ℕ) (h : Hand) (l : HasLeft p booted thread h)
    → fixed l.own.seat.view ≡ fixed (thread_seat p.machine p.opened.words thread).view
left_fixed p booted thread h l =
    runs_fixed (site_at (shared_of p) (post_at p thread) 0) (has (fresh_own p booted l.latch thread)) h.events.items (has l.own) l.made.runs

-- it owns what its seat was given
pub left_owns : (p : Prepared) (booted : Time) (thread : ℕ) (h : Hand) (l : HasLeft p booted thread h)
    → l.own.seat.view.pairs.owns ≡ owned_by (kind_on p.machine thread)
left_owns p booted thread h l = ap (λ (x : Fixed). x.owns) (left_fixed p booted thread h l)

-- the own list of its seat: its number is one higher than the thread's
pub left_lists : (p : Prepared) (ip : IsPrepared p.machine p) (thread : ℕ) (h : Hand) (l : HasLeft p ip.booted thread h)
    → own_lists l.own.seat.view ≡ (thread + 1, l.own.seat.view.mine) ∷ []
left_lists p ip thread h l =
    let v : View = l.own.seat.view in
    let same = left_fixed p ip.booted thread h l in
    let number : v.number ≡ thread + 1 = ap (λ (x : Fixed). x.number) same ∙ (given p ip thread).number_is in
    let joined : v.joined ≡ [] = ap (λ (x : Fixed). x.joined) same in
    ap (λ (n : ℕ). (n, v.mine) ∷ v.joined) number ∙ ap (λ (js : List (ℕ × List Step)). (thread + 1, v.mine) ∷ js) joined

-- it may be joined with the first seats
pub may_join : (p : Prepared) (booted : Time) (thread : ℕ) (h : Hand) → HasLeft p booted thread h → MayJoin (shared_of p) h
may_join p booted thread h l o is =
    let same : l.own ≡ o = (let own = l.own_is in some_is l.own o (sym own ∙ is)) in
    subst (λ (x : Own). (place_of x.seat ≡ p.opened.words) × (x.time.table ≡ p.tickets.table)) same (l.made.serves.of_words, l.made.serves.of_tickets)
  where
    some_is : (a b : Own) → Some a ≡ Some b → a ≡ b
    some_is a b e = cc

-- its latch seat is of its CPU's latch
left_latch : (p : Prepared) (booted : Time) (thread : ℕ) (h : Hand) (l : HasLeft p booted thread h) → FitsLatch (shared_of p) thread l.own.latch_seat
left_latch p booted thread h l = record { latch = l.made.serves.of_latch; owner = λ low. (l.made.serves.owner low).owner }

-- ---- all threads, numbered from n

abbrev pub rans_of : (p : Prepared) (booted : Time) (n : ℕ) (hands : List Hand) → EachFrom (HasLeft p booted) n hands → List Ran
rans_of p booted n [] each = []
rans_of p booted n (h ∷ hands) each = ran_of p booted n h each.0 ∷ rans_of p booted (n + 1) hands each.1

pub rans_count : (p : Prepared) (booted : Time) (n : ℕ) (hands : List Hand) → (each : EachFrom (HasLeft p booted) n hands)
    → length (rans_of p booted n hands each) ≡ length hands
rans_count p booted n [] each = refl
rans_count p booted n (h ∷ hands) each = let rest = rans_count p booted (n + 1) hands each.1 in omega (arith, rest)

pub rans_events : (p : Prepared) (booted : Time) (n : ℕ) (hands : List Hand) → (each : EachFrom (HasLeft p booted) n hands)
    → map (λ (h : Hand). h.events) hands ≡ events_of (rans_of p booted n hands each)
rans_events p booted n [] each = refl
rans_events p booted n (h ∷ hands) each = ap (λ (xs : List (Listed Event)). h.events ∷ xs) (rans_events p booted (n + 1) hands each.1)

-- what holds of each thread that is one of the first c
pub rans_each : (p : Prepared) (booted : Time) (P : ℕ → Ran → Type 0) (c : ℕ)
    → ((k : ℕ) (h : Hand) → k < c → (l : HasLeft p booted k h) → P k (ran_of p booted k h l))
    → (n : ℕ) (hands : List Hand) → n + length hands ≤ c → (each : EachFrom (HasLeft p booted) n hands) → EachFrom P n (rans_of p booted n hands each)
rans_each p booted P c f n [] few each = tt
rans_each p booted P c f n (h ∷ hands) few each =
    (f n h (omega (arith, few)) each.0, rans_each p booted P c f (n + 1) hands (omega (arith, few)) each.1)

-- the seats, one after another
owns_cons : (h : Hand) (hands : List Hand) (o : Own) → h.own ≡ Some o → owns_of (h ∷ hands) ≡ o ∷ owns_of hands
owns_cons h hands o is = ap (λ (w : Option Own). own_list w ++ owns_of hands) is

pub rans_blocks : (p : Prepared) (booted : Time) (n : ℕ) (hands : List Hand) → (each : EachFrom (HasLeft p booted) n hands)
    → flat_map (λ (o : Own). o.time.blocks) (owns_of hands) ≡ flat_map (λ (r : Ran). r.ended.time.blocks) (rans_of p booted n hands each)
rans_blocks p booted n [] each = refl
rans_blocks p booted n (h ∷ hands) each =
    ap (flat_map (λ (o : Own). o.time.blocks)) (owns_cons h hands each.0.own each.0.own_is)
    ∙ ap (λ (bs : List Block). each.0.own.time.blocks ++ bs) (rans_blocks p booted (n + 1) hands each.1)

-- what holds of all seats
pub rans_all : (p : Prepared) (booted : Time) (P : Known → Type 0) (n : ℕ) (hands : List Hand) → (each : EachFrom (HasLeft p booted) n hands)
    → All (λ (o : Own). P (has o)) (owns_of hands) → All (λ (r : Ran). P r.ended) (rans_of p booted n hands each)
rans_all p booted P n [] each all = All-nil (λ (r : Ran). P r.ended)
rans_all p booted P n (h ∷ hands) each all =
    let Q : Own → Type 0 = λ o. P (has o) in
    let o : Own = each.0.own in
    let here = subst (All Q) (owns_cons h hands o each.0.own_is) all in
    All-cons (λ (r : Ran). P r.ended) (ran_of p booted n h each.0) (rans_of p booted (n + 1) hands each.1)
    (All-head Q o (owns_of hands) here)
    (rans_all p booted P (n + 1) hands each.1 (All-tail Q o (owns_of hands) here))

pub rans_map : {A : Type 0} (p : Prepared) (booted : Time) (f : Known → A) (n : ℕ) (hands : List Hand) → (each : EachFrom (HasLeft p booted) n hands)
    → map (λ (o : Own). f (has o)) (owns_of hands) ≡ map (λ (r : Ran). f r.ended) (rans_of p booted n hands each)
rans_map p booted f n [] each = refl
rans_map {A} p booted f n (h ∷ hands) each =
    ap (map (λ (o : Own). f (has o))) (owns_cons h hands each.0.own each.0.own_is)
    ∙ ap (λ (xs : List A). f (has each.0.own) ∷ xs) (rans_map p booted f (n + 1) hands each.1)

-- the latch seats, one after another
pub latches_fit : (p : Prepared) (booted : Time) (n : ℕ) (hands : List Hand) → (each : EachFrom (HasLeft p booted) n hands)
    → EachFrom (FitsLatch (shared_of p)) n (map (λ (o : Own). o.latch_seat) (owns_of hands))
latches_fit p booted n [] each = tt
latches_fit p booted n (h ∷ hands) each =
    let Fits : ℕ → LatchPlace → Type 0 = FitsLatch (shared_of p) in
    subst (λ (os : List Own). EachFrom Fits n (map (λ (o : Own). o.latch_seat) os)) (sym (owns_cons h hands each.0.own each.0.own_is))
    (left_latch p booted n h each.0, latches_fit p booted (n + 1) hands each.1)

pub latches_count : (p : Prepared) (booted : Time) (n : ℕ) (hands : List Hand) → (each : EachFrom (HasLeft p booted) n hands)
    → length (map (λ (o : Own). o.latch_seat) (owns_of hands)) ≡ length hands
latches_count p booted n [] each = refl
latches_count p booted n (h ∷ hands) each =
    let here = ap (λ (os : List Own). length (map (λ (o : Own). o.latch_seat) os)) (owns_cons h hands each.0.own each.0.own_is) in
    let rest = latches_count p booted (n + 1) hands each.1 in
    omega (arith, here, rest)

pub latches_epochs : (p : Prepared) (booted : Time) (n : ℕ) (hands : List Hand) → (each : EachFrom (HasLeft p booted) n hands)
    → map (λ (s : LatchPlace). s.epoch) (map (λ (o : Own). o.latch_seat) (owns_of hands)) ≡ map (λ (r : Ran). r.ended.epoch) (rans_of p booted n hands each)
latches_epochs p booted n [] each = refl
latches_epochs p booted n (h ∷ hands) each =
    ap (λ (os : List Own). map (λ (s : LatchPlace). s.epoch) (map (λ (o : Own). o.latch_seat) os)) (owns_cons h hands each.0.own each.0.own_is)
    ∙ ap (λ (xs : List Epoch). each.0.own.latch_seat.epoch ∷ xs) (latches_epochs p booted (n + 1) hands each.1)

pub rans_join : (p : Prepared) (booted : Time) (n : ℕ) (hands : List Hand) → EachFrom (HasLeft p booted) n hands → All (MayJoin (shared_of p)) hands
rans_join p booted n [] each = All-nil (MayJoin (shared_of p))
rans_join p booted n (h ∷ hands) each =
    All-cons (MayJoin (shared_of p)) h hands (may_join p booted n h each.0) (rans_join p booted (n + 1) hands each.1)

-- their shares are those that they were given
pub rans_share : (p : Prepared) (booted : Time) (n : ℕ) (hands : List Hand) (ts : List (ℕ × List Word)) → length hands ≡ length ts
    → EachFrom (HasLeft p booted) n hands → EachFrom (λ k t. thread_at p.machine k ≡ t) n ts
    → sum_by (λ (o : Own). share_of o.time) (owns_of hands) ≡ sum_by share_of (map (time_seat booted) ts)
rans_share p booted n [] [] count each there = refl
rans_share p booted n [] (t ∷ ts) count each there = absurd (omega (arith, count))
rans_share p booted n (h ∷ hands) [] count each there = absurd (omega (arith, count))
rans_share p booted n (h ∷ hands) (t ∷ ts) count each there =
    let Share : Own → ℕ = λ o. share_of o.time in
    let o : Own = each.0.own in
    let owns = ap (sum_by Share) (owns_cons h hands o each.0.own_is) ∙ sum_by-cons Share o (owns_of hands) in
    let seats = sum_by-cons share_of (time_seat booted t) (map (time_seat booted) ts) in
    let same : share_of o.time ≡ share_of (time_seat booted t) = each.0.made.serves.sound.share_is ∙ ap (λ (x : ℕ × List Word). share_of (time_seat booted x)) there.0 in
    let rest = rans_share p booted (n + 1) hands ts (omega (arith, count)) each.1 there.1 in
    omega (arith, owns, seats, same, rest)

-- ---- the own lists of the seats

abbrev pub lists_from : ℕ → List Ran → List (ℕ × List Step)
lists_from n [] = []
lists_from n (r ∷ rans) = (n + 1, r.ended.view.mine) ∷ lists_from (n + 1) rans

pub rans_lists : (p : Prepared) (ip : IsPrepared p.machine p) (n : ℕ) (hands : List Hand) → (each : EachFrom (HasLeft p ip.booted) n hands)
    → flat_map own_lists (map (λ (o : Own). o.seat.view) (owns_of hands)) ≡ lists_from n (rans_of p ip.booted n hands each)
rans_lists p ip n [] each = refl
rans_lists p ip n (h ∷ hands) each =
    let Seen_as : Own → View = λ o. o.seat.view in
    ap (λ (os : List Own). flat_map own_lists (map Seen_as os)) (owns_cons h hands each.0.own each.0.own_is)
    ∙ ap (λ (xs : List (ℕ × List Step)). xs ++ flat_map own_lists (map Seen_as (owns_of hands))) (left_lists p ip n h each.0)
    ∙ ap (λ (xs : List (ℕ × List Step)). (n + 1, each.0.own.seat.view.mine) ∷ xs) (rans_lists p ip (n + 1) hands each.1)

pub lists_steps : (n : ℕ) (rans : List Ran) → flat_map (λ (own : ℕ × List Step). own.1) (lists_from n rans) ≡ flat_map (λ (r : Ran). r.ended.view.mine) rans
lists_steps n [] = refl
lists_steps n (r ∷ rans) = ap (λ (xs : List Step). r.ended.view.mine ++ xs) (lists_steps (n + 1) rans)

pub lists_numbers : (k n : ℕ) (rans : List Ran) → n < k → k < n + length rans + 1 → IsTrue (has_number (map (λ (own : ℕ × List Step). own.0) (lists_from n rans)) k)
lists_numbers k n [] low high = absurd (omega (arith, low, high))
lists_numbers k n (r ∷ rans) low high = at (nat_eq (n + 1) k) refl (λ later. lists_numbers k (n + 1) rans later (omega (arith, high)))
  where
    at : (t : Bool) → nat_eq (n + 1) k ≡ t → (n + 1 < k → IsTrue (has_number (map (λ (own : ℕ × List Step). own.0) (lists_from (n + 1) rans)) k))
        → IsTrue (t || has_number (map (λ (own : ℕ × List Step). own.0) (lists_from (n + 1) rans)) k)
    at true e rest = refl
    at false e rest = let later : n + 1 < k = grind (arith, nat_tests) in rest later
