-- A whole check: its pause, its visits, and its end.
use Rattle.std.proofs.Common.{◌≡◌, ℕ, ◌+◌, ◌*◌, ◌^◌, ◌≤◌, List, [], ◌∷◌, ◌++◌, map, length, sym, ◌∙◌, ap, subst, arith}
use Rattle.std.specs.Prelude.{Bool, true}
use Rattle.std.specs.List.{sum_by}
use Rattle.std.proofs.Math.Nat.{add-mul}
use Rattle.std.proofs.lemmas.List.Sums.{sum_by-cons}
use Rattle.clk_num.specs.Listed.{Listed}
use Rattle.clk_ticket.specs.Time.{Time, Draws}
use Rattle.clk_machine.specs.Plan.{Plan, SourcePlan, cpu_count}
use Rattle.clk_machine.specs.Limits.{IsWithinLimits}
use Rattle.clk_record.specs.Attempts.{retries_of}
use Rattle.clk_record.specs.Fold.{at_first, ratings_of, IsCurrent, AreVisits}
use Rattle.clk_record.specs.Watching.{Watching, kept_of}
use Rattle.clk_lawful.specs.Checks.{Check, listed, pause_of}
use Rattle.clk_lawful.specs.RightReadings.{check_cpu}
use Rattle.clk_lawful.specs.Watchdog.{IsPass}
use Rattle.clk_lawful.specs.declared.trace.WatchTrace.{WatchTrace}
use Rattle.clk_demote.specs.Context.{site_of, Keeps}
use Rattle.clk_worker.specs.declared.shared.Shared.{Shared}
use Rattle.clk_watcher.specs.Checking.{ShowsPause, WatchesVisits, WatchesCheck}
use Rattle.clk_watcher.specs.VisitsKept.{KeepsVisits, KeepsDemotion}
use Rattle.clk_watcher.specs.Calling.{Context, known, HasPartsOf, IsContext, Stands, IsStable, stamps_at, visit_tickets, HasRoomFor, UsesFor, MakesPass, Pauses, EndsCheck}
use Rattle.clk_watcher.specs.Making.{site_at, has, SeatsServe, HasEnough, KeepsCheck, UsesCheck, MakesAt}
use Rattle.clk_watcher.specs.declared.parts.WatchParts.{WatchParts}
use Rattle.clk_watcher.proofs.Contexts.{site_is, known_is, context_kept, serves_back, stable_back}

-- ---- tickets

visit_sum : (m : Plan) (sources : List SourcePlan) → sum_by (visit_tickets m) sources ≡ length sources * ((retries_of m + 1) * 4) + 2 * sum_by stamps_at sources
visit_sum m [] = omega arith
visit_sum m (s ∷ sources) =
    let k = (retries_of m + 1) * 4 in
    let rest = visit_sum m sources in
    let one = sum_by-cons (visit_tickets m) s sources in
    let stamps = sum_by-cons stamps_at s sources in
    let all : (1 + length sources) * k ≡ 1 * k + length sources * k = add-mul 1 (length sources) k in
    let long : length (s ∷ sources) * k ≡ k + length sources * k = ap (λ n. n * k) (let e : length (s ∷ sources) ≡ 1 + length sources = omega arith in e) ∙ all ∙ (let e : 1 * k + length sources * k ≡ k + length sources * k = omega arith in e) in
    omega (arith, rest, one, stamps, long)

-- one source at most is the TSC
pub one_stamp : (m : Plan) → IsWithinLimits m → sum_by stamps_at m.source ≤ 1
one_stamp m l = l.ranges.own_once

pub visits_within : (m : Plan) → IsWithinLimits m → sum_by (visit_tickets m) m.source ≤ length m.source * ((retries_of m + 1) * 4) + 2
visits_within m l = let sum = visit_sum m m.source in let one = one_stamp m l in omega (arith, sum, one)

-- ---- after the pause

drawn_left : (v u : Time) (ticket n : ℕ) → Draws v ticket n u → n ≤ v.left → u.left + n ≡ v.left
drawn_left v u ticket n d low = let left = ap (λ (t : Time). t.left) d.is in omega (arith, left, low)

pub stands_paused : (v w : Context) (a b : WatchTrace) → Stands v a → Pauses v a w b → Stands w b
stands_paused v w a b h p =
    subst (λ (x : Context). Stands x b) (sym p.rest)
    (record {
      limits = h.limits;
      seated = record { of_words = h.seated.of_words; of_latches = h.seated.of_latches; of_tickets = ap (λ (t : Time). t.table) p.draws.is ∙ h.seated.of_tickets };
      of_machine = record { words = h.of_machine.words; latches = h.of_machine.latches; adjusts = h.of_machine.adjusts };
      adjusts = h.adjusts;
      watched = ap (λ (x : WatchTrace). x.watch.machine) p.others ∙ h.watched;
      few = subst (λ (x : WatchTrace). length x.watch.records.items + x.watch.records.room ≤ 2 ^ 16) (sym p.others) h.few;
    })

pub stable_paused : (v w : Context) (a b : WatchTrace) → IsStable v a → Pauses v a w b → IsStable w b
stable_paused v w a b h p =
    let u = h.usable in
    subst (λ (x : Context). IsStable x b) (sym p.rest)
    (record {
      usable = record {
        seated = record { of_words = u.seated.of_words; of_latches = u.seated.of_latches; of_tickets = ap (λ (t : Time). t.table) p.draws.is ∙ u.seated.of_tickets };
        of_machine = record { words = u.of_machine.words; latches = u.of_machine.latches; adjusts = u.of_machine.adjusts };
        adjusts = u.adjusts;
        sched_offset = u.sched_offset;
        held = u.held;
        by_last = u.by_last;
        unlifted = u.unlifted;
        base = u.base;
        opening = u.opening;
      };
      may = h.may;
      room = subst (λ (x : WatchTrace). cpu_count v.machine.now ≤ x.lifts.room) (sym p.others) h.room;
      none_yet = ap (λ (x : WatchTrace). listed x.demotion) p.others ∙ h.none_yet;
    })

pub room_paused : (s : Shared) (p : WatchParts) (v w : Context) (a b : WatchTrace) → IsWithinLimits s.machine → HasEnough s.machine 1 p.time a → IsContext s p v → Pauses v a w b
    → pause_of v.machine.now ≤ v.time.left → HasRoomFor w.machine.now w.machine.now.source w.time b
room_paused s p v w a b l h c d low =
    let m = s.machine in
    let machine : w.machine.now ≡ m = ap (λ (x : Context). x.machine.now) d.rest ∙ c.machine in
    let within = visits_within m l in
    let one = one_stamp m l in
    let time : v.time.left ≡ p.time.left = ap (λ (t : Time). t.left) (sym c.parts.time) in
    let left = drawn_left v.time w.time d.ticket (pause_of v.machine.now) d.draws low in
    let pause : pause_of v.machine.now ≡ pause_of m = ap pause_of c.machine in
    let tickets = h.tickets in
    let attempts = h.attempts in
    let records = h.records in
    let stamps = h.stamps in
    subst (λ (x : Plan). HasRoomFor x x.source w.time b) (sym machine)
    (subst (λ (x : WatchTrace). HasRoomFor m m.source w.time x) (sym d.others)
    (record {
      tickets = omega (arith, within, time, left, pause, tickets);
      attempts = omega (arith, attempts);
      records = omega (arith, records);
      stamps = omega (arith, one, stamps);
    }))

-- ---- the check

module _ (s : Shared) (number cpu : ℕ) (stable after : Bool) (p q : WatchParts) (v u w : Context) (a b d e : WatchTrace)
    (serves : SeatsServe s p a) (context : IsContext s p v) (low : pause_of v.machine.now ≤ v.time.left) (cpu_is : cpu ≡ check_cpu s.machine number)
    (pauses : Pauses v a u b) (pass : MakesPass cpu number stable u b after w d) (ends : EndsCheck d e) (parts : HasPartsOf w q) where
  abbrev the_check : Check
  the_check = record { ticket = pauses.ticket; visits = pass.visits; current = ends.current }

  machine_paused : u.machine.now ≡ s.machine
  machine_paused = ap (λ (x : Context). x.machine.now) pauses.rest ∙ context.machine

  watched_now : d.watch.machine ≡ s.machine
  watched_now = pass.makes.stands.watched ∙ pass.makes.keeps.machine ∙ machine_paused

  kept_all : Keeps v w
  kept_all =
      let k = pass.makes.keeps in
      record {
        words = k.words ∙ ap (λ (x : Context). x.words.now) pauses.rest;
        epochs = k.epochs ∙ ap (λ (x : Context). x.epochs.now) pauses.rest;
        adjusts = k.adjusts ∙ ap (λ (x : Context). x.adjusts.now) pauses.rest;
        tickets = k.tickets ∙ ap (λ (x : Context). x.tickets.now) pauses.rest;
        machine = k.machine ∙ ap (λ (x : Context). x.machine.now) pauses.rest;
        sched_offset = k.sched_offset ∙ ap (λ (x : Context). x.sched_offset) pauses.rest;
      }

  context_now : IsContext s q w
  context_now = context_kept s p q v w context kept_all parts

  visits_kept : KeepsVisits stable a pass.visits after e
  visits_kept =
      let from = subst (λ (x : WatchTrace). KeepsVisits stable x pass.visits after d) pauses.others pass.makes.kept in
      subst (λ (x : WatchTrace). KeepsVisits stable a pass.visits after x) (sym ends.others)
      (record { attempts = from.attempts; records = from.records; named = from.named; stamps = from.stamps; demotion = from.demotion; called = from.called })

  demotes_kept : KeepsDemotion p.seat.view.number p.seat.view.start number (cpu_count s.machine) a pass.visits e
  demotes_kept =
      let from = subst (λ (x : WatchTrace). KeepsDemotion u.seat.view.number u.seat.view.start number (cpu_count u.machine.now) x pass.visits d) pauses.others pass.makes.demotes in
      let over : KeepsDemotion u.seat.view.number u.seat.view.start number (cpu_count u.machine.now) a pass.visits e =
      subst (λ (x : WatchTrace). KeepsDemotion u.seat.view.number u.seat.view.start number (cpu_count u.machine.now) a pass.visits x) (sym ends.others)
      (record { lifts = from.lifts; demoted_in = from.demoted_in }) in
      let seat = ap (λ (x : Context). x.seat) pauses.rest ∙ sym context.parts.seat in
      subst (λ x. KeepsDemotion x.view.number x.view.start number (cpu_count s.machine) a pass.visits e) seat
      (subst (λ (m : Plan). KeepsDemotion u.seat.view.number u.seat.view.start number (cpu_count m) a pass.visits e) machine_paused over)

  watches_all : WatchesCheck (site_at s p) number (has p) the_check (has q)
  watches_all =
      let site : site_of u ≡ site_at s p = ap site_of pauses.rest ∙ site_is s p v context in
      let visits = pass.makes.watches in
      let here : WatchesVisits (site_at s p) (check_cpu s.machine number) number (known u) pass.visits (has q) =
      subst (λ k. WatchesVisits (site_at s p) (check_cpu s.machine number) number (known u) pass.visits k) (known_is q w parts)
      (subst (λ n. WatchesVisits (site_at s p) n number (known u) pass.visits (known w)) cpu_is
      (subst (λ z. WatchesVisits z cpu number (known u) pass.visits (known w)) site visits)) in
      let pause : ShowsPause (has p) pauses.ticket (pause_of s.machine) (known u) =
      subst (λ k. ShowsPause k pauses.ticket (pause_of s.machine) (known u)) (known_is p v context.parts)
      (subst (λ (m : Plan). ShowsPause (known v) pauses.ticket (pause_of m) (known u)) context.machine
      (record { draws = pauses.draws; rest = ap known pauses.rest })) in
      (known u, pause, here)

  check_kept : KeepsCheck s.machine stable a the_check after e
  check_kept =
      let rest = pass.makes.rest in
      record {
        kept = visits_kept;
        pauses = ap (λ (x : WatchTrace). x.pauses.items) ends.others ∙ ap (λ (x : Listed ℕ). x.items) rest.pauses ∙ pauses.pauses;
        ends =
            ends.ends ∙ ap (λ (x : Listed ℕ). x.items ++ length d.watch.records.items ∷ []) rest.ends
            ∙ ap (λ (x : WatchTrace). x.last_record.items ++ length d.watch.records.items ∷ []) pauses.others
            ∙ ap (λ (x : WatchTrace). a.last_record.items ++ length x.watch.records.items ∷ []) (sym ends.others);
        currents =
            ends.currents ∙ ap (λ (x : Listed ℕ). x.items ++ ends.current ∷ []) rest.currents
            ∙ ap (λ (x : WatchTrace). x.currents.items ++ ends.current ∷ []) pauses.others;
        passes = subst (λ (m : Plan). IsPass 0 (length m.source) (map (λ y. y.made) pass.visits)) machine_paused pass.passes;
        current =
            subst (λ (x : WatchTrace). IsCurrent (ratings_of s.machine (kept_of x.watch)) ends.current) (sym ends.others)
            (subst (λ (m : Plan). IsCurrent (ratings_of m (kept_of d.watch)) ends.current) watched_now ends.is);
        visits =
            subst (λ (x : WatchTrace). AreVisits s.machine x.watch.attempts.items (at_first s.machine x.watch.tsc_unstable) x.watch.records.items) (sym ends.others)
            (subst (λ (m : Plan). AreVisits m d.watch.attempts.items (at_first m d.watch.tsc_unstable) d.watch.records.items) watched_now ends.visits);
        lost = ap (λ (x : WatchTrace). x.watch.tsc_unstable) ends.others ∙ rest.lost ∙ ap (λ (x : WatchTrace). x.watch.tsc_unstable) pauses.others;
        thread = ap (λ (x : WatchTrace). x.thread) ends.others ∙ rest.thread ∙ ap (λ (x : WatchTrace). x.thread) pauses.others;
      }

  check_uses : UsesCheck s.machine p.time a q.time e
  check_uses =
      let m = s.machine in
      let uses : UsesFor m m.source u.time b w.time d = subst (λ (x : Plan). UsesFor x x.source u.time b w.time d) machine_paused pass.uses in
      let within = visits_within m serves.limits in
      let one = one_stamp m serves.limits in
      let begin : v.time.left ≡ p.time.left = ap (λ (t : Time). t.left) (sym context.parts.time) in
      let ended : w.time.left ≡ q.time.left = ap (λ (t : Time). t.left) (sym parts.time) in
      let left = drawn_left v.time u.time pauses.ticket (pause_of v.machine.now) pauses.draws low in
      let pause : pause_of v.machine.now ≡ pause_of m = ap pause_of context.machine in
      let tickets = uses.tickets in
      let attempts = uses.attempts in
      let records = uses.records in
      let stamps = uses.stamps in
      let before_attempts : b.watch ≡ a.watch = ap (λ (x : WatchTrace). x.watch) pauses.others in
      let before_stamps : b.stamps.room ≡ a.stamps.room = ap (λ (x : WatchTrace). x.stamps.room) pauses.others in
      let after_watch : e.watch ≡ d.watch = ap (λ (x : WatchTrace). x.watch) ends.others in
      let after_stamps : e.stamps.room ≡ d.stamps.room = ap (λ (x : WatchTrace). x.stamps.room) ends.others in
      let ba : b.watch.attempts.room ≡ a.watch.attempts.room = ap (λ (x : Watching). x.attempts.room) before_attempts in
      let br : b.watch.records.room ≡ a.watch.records.room = ap (λ (x : Watching). x.records.room) before_attempts in
      let ea : e.watch.attempts.room ≡ d.watch.attempts.room = ap (λ (x : Watching). x.attempts.room) after_watch in
      let er : e.watch.records.room ≡ d.watch.records.room = ap (λ (x : Watching). x.records.room) after_watch in
      let pr = pauses.room in
      let pd : e.pauses.room ≡ b.pauses.room = ap (λ (x : WatchTrace). x.pauses.room) ends.others ∙ ap (λ (x : Listed ℕ). x.room) pass.makes.rest.pauses in
      let lr = ends.ends_room in
      let ld : d.last_record.room ≡ a.last_record.room = ap (λ (x : Listed ℕ). x.room) pass.makes.rest.ends ∙ ap (λ (x : WatchTrace). x.last_record.room) pauses.others in
      let cr = ends.currents_room in
      let cd : d.currents.room ≡ a.currents.room = ap (λ (x : Listed ℕ). x.room) pass.makes.rest.currents ∙ ap (λ (x : WatchTrace). x.currents.room) pauses.others in
      record {
        tickets = omega (arith, within, begin, ended, left, pause, tickets);
        attempts = omega (arith, attempts, ba, ea);
        records = omega (arith, records, br, er);
        stamps = omega (arith, one, stamps, before_stamps, after_stamps);
        pauses = omega (arith, pr, pd);
        ends = omega (arith, lr, ld);
        currents = omega (arith, cr, cd);
      }

  stands_ended : Stands w e
  stands_ended =
      let h = pass.makes.stands in
      subst (λ (x : WatchTrace). Stands w x) (sym ends.others)
      (record { limits = h.limits; seated = h.seated; of_machine = h.of_machine; adjusts = h.adjusts; watched = h.watched; few = h.few })

  stable_ended : after ≡ true → IsStable w e
  stable_ended still =
      let h = pass.makes.if_stable still in
      subst (λ (x : WatchTrace). IsStable w x) (sym ends.others) (record { usable = h.usable; may = h.may; room = h.room; none_yet = h.none_yet })

  pub makes_at : MakesAt s number p stable a q after e
  makes_at = record {
    check = the_check;
    watches = watches_all;
    kept = check_kept;
    demotes = demotes_kept;
    sched_offset = parts.sched_offset ∙ kept_all.sched_offset ∙ sym context.parts.sched_offset;
    serves = serves_back s p q a e w serves context_now stands_ended;
    uses = check_uses;
    if_stable = λ still. stable_back s q e w context_now (stable_ended still);
  }
