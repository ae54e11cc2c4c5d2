-- What the watchdog of a run leaves: all its checks, made from fresh seats, and what those seats have at the end.
use Rattle.std.proofs.Common.{◌≡◌, ℕ, ◌+◌, ℤ, Bool, false, cond, List, [], ◌∷◌, ◌++◌, map, length, Option, Some, None, sym, ap, ◌∙◌, subst}
use Rattle.std.specs.Prelude.{is_some}
use Rattle.std.specs.List.{All}
use Rattle.std.proofs.lemmas.List.{length-map}
use Rattle.std.proofs.lemmas.List.Elements.{All-nil, All-cons, All-head}
use Rattle.clk_base.specs.Walk.{EachFrom}
use Rattle.clk_num.specs.Listed.{Listed}
use Rattle.clk_ticket.specs.Time.{Time, share_of}
use Rattle.clk_machine.specs.Plan.{Plan, cpu_count, threads_of}
use Rattle.clk_machine.specs.Records.{record_zero}
use Rattle.clk_record.specs.declared.step.Step.{Step}
use Rattle.clk_record.specs.declared.stable.StableStamp.{StableStamp}
use Rattle.clk_record.specs.declared.stable.Demotion.{Demotion}
use Rattle.clk_record.specs.Watching.{checks_asked}
use Rattle.clk_words.specs.declared.opening.Start.{Start}
use Rattle.clk_words.specs.declared.view.View.{View}
use Rattle.clk_words.specs.Held.{Held}
use Rattle.clk_words.specs.Views.{own_lists}
use Rattle.clk_lawful.specs.Checks.{Visit, Check, listed}
use Rattle.clk_latch.specs.Epoch.{Epoch}
use Rattle.clk_latch.specs.Epoch.{Place as LatchPlace}
use Rattle.clk_demote.specs.Context.{Site, Known}
use Rattle.clk_worker.specs.declared.shared.Shared.{Shared}
use Rattle.clk_watcher.specs.Checking.{StampsAt, DemotesAt, WatchesVisits, Watches, HasWatched}
use Rattle.clk_watcher.specs.Making.{site_at, has}
use Rattle.clk_watcher.specs.Making.{Hand as WatchHand, SeatsServe as WatchServe, IsGoing as IsWatchGoing, HasRun as HasRunWatch}
use Rattle.clk_watcher.specs.declared.parts.WatchParts.{WatchParts}
use Rattle.clk_watcher.proofs.Ending.{has_watched}
use Rattle.clk_threads.specs.Preparing.{start_of, IsWatchLatch, watch_time, adjusts_of, IsPrepared}
use Rattle.clk_threads.specs.Finishing.{Watched, watch_site, IsGivenWatch}
use Rattle.clk_threads.specs.Parts.{shared_of, runs_stable, WatchCame}
use Rattle.clk_threads.specs.Ending.{part_list, parts_of}
use Rattle.clk_threads.specs.declared.prepared.Prepared.{Prepared}
use Rattle.clk_threads.proofs.WatchBeginning.{IsFreshWatch, fresh_watch, IsWatchSeat, watch_given}

-- ---- what no check changes

-- the number of the seat and what it was joined with, and its share of the tickets
pub record Fixed : Type 0 where
  pub number : ℕ
  pub joined : List (ℕ × List Step)
  pub share : ℕ

abbrev pub fixed : Known → Fixed
fixed k = record { number = k.view.number; joined = k.view.joined; share = share_of k.time }

fixed_by : (v w : Known) → w.view.number ≡ v.view.number → w.view.joined ≡ v.view.joined → share_of w.time ≡ share_of v.time → fixed w ≡ fixed v
fixed_by v w number joined share =
    ap (λ (n : ℕ). record { number = n; joined = w.view.joined; share = share_of w.time }) number
    ∙ ap (λ (js : List (ℕ × List Step)). record { number = v.view.number; joined = js; share = share_of w.time }) joined
    ∙ ap (λ (n : ℕ). record { number = v.view.number; joined = v.view.joined; share = n }) share

fixed_time : (v w : Known) → w ≡ record v { time = w.time } → share_of w.time ≡ share_of v.time → fixed w ≡ fixed v
fixed_time v w rest share = fixed_by v w (ap (λ (k : Known). k.view.number) rest) (ap (λ (k : Known). k.view.joined) rest) share

stamp_fixed : (z : Site) (cpu : ℕ) (v : Known) (stamp : Option StableStamp) (w : Known) → StampsAt z cpu v stamp w → fixed w ≡ fixed v
stamp_fixed z cpu v None w h = ap fixed (sym h)
stamp_fixed z cpu v (Some s) w h =
    fixed_by v w (ap (λ (x : View). x.number) h.view_is) (ap (λ (x : View). x.joined) h.view_is) (h.takes.draws_raw.share ∙ h.takes.draws.share)

demotion_fixed : (z : Site) (cpu check : ℕ) (v : Known) (demotion : Option Demotion) (w : Known) → DemotesAt z cpu check v demotion w → fixed w ≡ fixed v
demotion_fixed z cpu check v None w h = ap fixed (sym h)
demotion_fixed z cpu check v (Some d) w h =
    fixed_by v w (ap (λ (x : View). x.number) h.view_is) (ap (λ (x : View). x.joined) h.view_is) (h.takes.draws_raw.share ∙ h.takes.draws.share)

visits_fixed : (z : Site) (cpu check : ℕ) (v : Known) (visits : List Visit) (w : Known) → WatchesVisits z cpu check v visits w → fixed w ≡ fixed v
visits_fixed z cpu check v [] w h = ap fixed (sym h)
visits_fixed z cpu check v (visit ∷ visits) w h =
    let u : Known = h.0 in
    let one = h.1 in
    visits_fixed z cpu check u visits w h.2
    ∙ demotion_fixed z cpu check one.1 visit.demotion u one.4
    ∙ stamp_fixed z cpu one.0 visit.stamp one.1 one.3
    ∙ fixed_time v one.0 one.2.rest one.2.draws.share

pub checks_fixed : (z : Site) (n : ℕ) (v : Known) (checks : List Check) (w : Known) → Watches z n v checks w → fixed w ≡ fixed v
checks_fixed z n v [] w h = ap fixed (sym h)
checks_fixed z n v (c ∷ checks) w h =
    let one = h.1 in
    checks_fixed z (n + 1) h.0 checks w h.2 ∙ visits_fixed z _ n one.0 c.visits h.0 one.2 ∙ fixed_time v one.0 one.1.rest one.1.draws.share

-- ---- the watchdog

-- it made all its checks
pub record HasWatchLeft (p : Prepared) (booted : Time) (h : WatchHand) : Type 0 where
  pub first : WatchHand
  pub began : WatchParts
  pub fresh : IsFreshWatch p booted began first
  pub ended : WatchParts
  pub ended_is : h.parts ≡ Some ended
  pub serves : WatchServe (shared_of p) ended h.trace
  pub watched : HasWatched (watch_site p.machine p.stamps.items p.up.cpus.items) (runs_stable p) p.up.failed (has began) h.trace (has ended)

some_is : (a b : WatchParts) → Some a ≡ Some b → a ≡ b
some_is a b e = cc

pub has_watch_left : (p : Prepared) (ip : IsPrepared p.machine p) (parts : WatchParts) (h w : WatchHand) → IsFreshWatch p ip.booted parts h
    → IsWatchGoing (shared_of p) h w → w.next ≡ checks_asked p.machine.watchdog → HasWatchLeft p ip.booted w
has_watch_left p ip parts h w f g whole =
    let s : Shared = shared_of p in
    let r : HasRunWatch s h w = record {
      began = g.began;
      began_is = g.began_is;
      ended = g.parts;
      ended_is = g.parts_is;
      watched = has_watched s g.began g.parts h.stable h.trace.watch.tsc_unstable w.stable w.next w.trace g.made whole;
    } in
    let ended : g.parts ≡ r.ended = (let at = g.parts_is in some_is g.parts r.ended (sym at ∙ r.ended_is)) in
    let began : r.began ≡ parts = (let at = r.began_is in let is = ap (λ (x : WatchHand). x.parts) f.hand in some_is r.began parts (sym at ∙ is)) in
    let stable : h.stable ≡ runs_stable p = ap (λ (x : WatchHand). x.stable) f.hand in
    let lost : h.trace.watch.tsc_unstable ≡ p.up.failed = ap (λ (x : WatchHand). x.trace.watch.tsc_unstable) f.hand in
    let site : site_at s parts ≡ watch_site p.machine p.stamps.items p.up.cpus.items =
    ap (λ (xs : List ℤ). record { machine = p.machine; adjusts = xs; sched_offset = parts.sched_offset }) ip.lists.adjusts
    ∙ ap (λ (x : ℤ). record { machine = p.machine; adjusts = adjusts_of p.up.cpus.items; sched_offset = x }) f.sched_offset_is in
    let by_parts = subst (λ (x : WatchParts). HasWatched (site_at s x) h.stable h.trace.watch.tsc_unstable (has x) w.trace (has r.ended)) began r.watched in
    let by_site = subst (λ (z : Site). HasWatched z h.stable h.trace.watch.tsc_unstable (has parts) w.trace (has r.ended)) site by_parts in
    let by_stable = subst (λ (b : Bool). HasWatched (watch_site p.machine p.stamps.items p.up.cpus.items) b h.trace.watch.tsc_unstable (has parts) w.trace (has r.ended)) stable by_site in
    record {
      first = h;
      began = parts;
      fresh = f;
      ended = r.ended;
      ended_is = r.ended_is;
      serves = subst (λ (x : WatchParts). WatchServe s x w.trace) ended g.made.serves;
      watched = subst (λ (b : Bool). HasWatched (watch_site p.machine p.stamps.items p.up.cpus.items) (runs_stable p) b (has parts) w.trace (has r.ended)) lost by_stable;
    }

-- as the watchdog of the run
abbrev pub watched_of : (p : Prepared) (booted : Time) (h : WatchHand) → HasWatchLeft p booted h → Watched
watched_of p booted h l = record { began = has l.began; ended = has l.ended; kept = h.trace }

pub watch_fixed : (p : Prepared) (booted : Time) (h : WatchHand) (l : HasWatchLeft p booted h) → fixed (has l.ended) ≡ fixed (has l.began)
watch_fixed p booted h l =
    checks_fixed (watch_site p.machine p.stamps.items p.up.cpus.items) 0 (has l.began) _ (has l.ended) l.watched.runs

-- its seat as it was given
pub watch_first : (p : Prepared) (ip : IsPrepared p.machine p) (h : WatchHand) (l : HasWatchLeft p ip.booted h)
    → IsWatchSeat p.opened.words.start (length (threads_of p.machine)) l.began.seat.view
watch_first p ip h l =
    let start : Start = p.opened.words.start in
    subst (λ (s : Held). IsWatchSeat start (length (threads_of p.machine)) s.view) (sym l.fresh.seat) (watch_given p.machine start)

held_offset : (m : Plan) (stamps : List StableStamp) (demotion : Option Demotion) (v : View) → IsWatchSeat (start_of m stamps demotion) (length (threads_of m)) v
    → IsGivenWatch (start_of m stamps demotion) (length (threads_of m)) v
held_offset m stamps demotion v g =
    record {
      start_is = g.start_is;
      number_is = g.number_is;
      mine_is = g.mine_is;
      seen_is = g.seen_is;
      found_is = g.found_is;
      watch_is = g.watch_is;
      held_is = g.held_is;
    }

pub watch_is_given : (p : Prepared) (ip : IsPrepared p.machine p) (h : WatchHand) (l : HasWatchLeft p ip.booted h)
    → IsGivenWatch (start_of p.machine p.stamps.items p.boot_demotion) (length (threads_of p.machine)) l.began.seat.view
watch_is_given p ip h l =
    held_offset p.machine p.stamps.items p.boot_demotion l.began.seat.view
    (subst (λ (s : Start). IsWatchSeat s (length (threads_of p.machine)) l.began.seat.view) ip.opened.start (watch_first p ip h l))

-- the own list of its seat: its number is one higher than those of all threads
pub watch_lists : (p : Prepared) (ip : IsPrepared p.machine p) (h : WatchHand) (l : HasWatchLeft p ip.booted h)
    → own_lists l.ended.seat.view ≡ (length (threads_of p.machine) + 1, l.ended.seat.view.mine) ∷ []
watch_lists p ip h l =
    let v : View = l.ended.seat.view in
    let same = watch_fixed p ip.booted h l in
    let g = watch_first p ip h l in
    let number : v.number ≡ length (threads_of p.machine) + 1 = ap (λ (x : Fixed). x.number) same ∙ g.number_is in
    let joined : v.joined ≡ [] = ap (λ (x : Fixed). x.joined) same ∙ g.joined_is in
    ap (λ (n : ℕ). (n, v.mine) ∷ v.joined) number ∙ ap (λ (js : List (ℕ × List Step)). (length (threads_of p.machine) + 1, v.mine) ∷ js) joined

pub watch_share : (p : Prepared) (ip : IsPrepared p.machine p) (h : WatchHand) (l : HasWatchLeft p ip.booted h)
    → share_of l.ended.time ≡ share_of (watch_time p.machine ip.booted)
watch_share p ip h l = ap (λ (x : Fixed). x.share) (watch_fixed p ip.booted h l) ∙ ap share_of l.fresh.time

-- what its seats at the latches were
pub watch_records : (p : Prepared) (ip : IsPrepared p.machine p) (h : WatchHand) (l : HasWatchLeft p ip.booted h)
    → All (λ (e : Epoch). (e.records ≡ record_zero p.machine ∷ []) × (e.owner ≡ false)) (map (λ (s : LatchPlace). s.epoch) l.began.latch_seats.items)
watch_records p ip h l =
    let Zero : Epoch → Type 0 = λ e. (e.records ≡ record_zero p.machine ∷ []) × (e.owner ≡ false) in
    subst (λ (ls : Listed LatchPlace). All Zero (map (λ (s : LatchPlace). s.epoch) ls.items)) (sym l.fresh.latches) (each 0 p.latches.watch.items ip.watch_latches.each)
  where
    each : (n : ℕ) (seats : List LatchPlace) → EachFrom (IsWatchLatch (record_zero p.machine) p.latches) n seats
        → All (λ (e : Epoch). (e.records ≡ record_zero p.machine ∷ []) × (e.owner ≡ false)) (map (λ (s : LatchPlace). s.epoch) seats)
    each n [] h = All-nil (λ (e : Epoch). (e.records ≡ record_zero p.machine ∷ []) × (e.owner ≡ false))
    each n (s ∷ seats) h =
        All-cons (λ (e : Epoch). (e.records ≡ record_zero p.machine ∷ []) × (e.owner ≡ false)) s.epoch (map (λ (x : LatchPlace). x.epoch) seats)
        (ap (λ (e : Epoch). e.records) h.0.epoch, ap (λ (e : Epoch). e.owner) h.0.epoch) (each (n + 1) seats h.1)

pub watch_count : (p : Prepared) (ip : IsPrepared p.machine p) (h : WatchHand) (l : HasWatchLeft p ip.booted h)
    → length (map (λ (s : LatchPlace). s.epoch) l.began.latch_seats.items) ≡ cpu_count p.machine
watch_count p ip h l =
    length-map l.began.latch_seats.items (λ (s : LatchPlace). s.epoch)
    ∙ ap (λ (ls : Listed LatchPlace). length ls.items) l.fresh.latches
    ∙ ip.watch_latches.count ∙ ap (λ (b : Bool). cond b (cpu_count p.machine) 0) l.fresh.there

-- ---- the one that there is

-- its list of parts
pub watch_parts : (p : Prepared) (booted : Time) (h : WatchHand) (l : HasWatchLeft p booted h) → parts_of (Some h) ≡ l.ended ∷ []
watch_parts p booted h l = ap (λ (w : Option WatchParts). part_list w ++ []) l.ended_is

-- what the run's watcher leaves, if there is one
abbrev pub WatchLeft : Prepared → Time → Option WatchHand → Type 0
WatchLeft p booted None = is_some p.machine.watchdog ≡ false
WatchLeft p booted (Some h) = HasWatchLeft p booted h

pub watch_left : (p : Prepared) (ip : IsPrepared p.machine p) (watcher : Option WatchHand) → is_some watcher ≡ is_some p.machine.watchdog
    → All (WatchCame p) (listed watcher) → All (λ (h : WatchHand). h.next ≡ checks_asked p.machine.watchdog) (listed watcher) → WatchLeft p ip.booted watcher
watch_left p ip None there came whole = sym there
watch_left p ip (Some h) there came whole =
    let Whole : WatchHand → Type 0 = λ x. x.next ≡ checks_asked p.machine.watchdog in
    let c : WatchCame p h = All-head (WatchCame p) h [] came in
    has_watch_left p ip c.given.parts c.first h (fresh_watch p ip c.first c.given) c.going (All-head Whole h [] whole)

-- it is there where the machine has one
pub left_there : (p : Prepared) (booted : Time) (watcher : Option WatchHand) → WatchLeft p booted watcher → is_some watcher ≡ is_some p.machine.watchdog
left_there p booted None l = sym l
left_there p booted (Some h) l = sym l.fresh.there

abbrev pub watched_by : (p : Prepared) (booted : Time) (watcher : Option WatchHand) → WatchLeft p booted watcher → Option Watched
watched_by p booted None l = None
watched_by p booted (Some h) l = Some (watched_of p booted h l)
