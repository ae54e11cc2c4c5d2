-- A visit to a source, and the visits of a check.
use Rattle.std.proofs.Common.{◌≡◌, ℕ, ◌+◌, ◌*◌, ◌^◌, ◌≤◌, ◌<◌, ℤ, pos, List, [], ◌∷◌, ◌++◌, map, take, drop, get_or, length, refl, sym, ◌∙◌, ap, subst, arith, append_assoc, append-nil, length-append}
use Rattle.std.specs.Prelude.{Bool, true, false, ◌&&◌, ◌||◌, IsTrue, MatchBool, if◌then◌else◌}
use Rattle.std.specs.List.{All, sum_by}
use Rattle.std.proofs.Math.Nat.{add-mul, mul-le-mul_right}
use Rattle.std.proofs.lemmas.List.{map-append, take-append-drop, take_more, length-take, length-take-le}
use Rattle.std.proofs.lemmas.List.Sums.{sum_by-append, sum_by-take-le, sum_by-drop_more}
use Rattle.clk_num.specs.Listed.{Listed}
use Rattle.clk_num.specs.Range.{IsNear}
use Rattle.clk_ticket.specs.Time.{Time}
use Rattle.clk_machine.specs.Plan.{Plan, SourcePlan, cpu_count}
use Rattle.clk_machine.specs.Limits.{IsWithinLimits}
use Rattle.clk_machine.specs.Time.{source_plan_at}
use Rattle.clk_record.specs.declared.visit.SourceRecord.{SourceRecord}
use Rattle.clk_record.specs.Attempts.{retries_of, IsRightAttempt}
use Rattle.clk_record.specs.Fold.{is_good, is_lost, ends_check}
use Rattle.clk_record.specs.Watching.{Watching}
use Rattle.clk_words.specs.Held.{Place}
use Rattle.clk_watch.specs.Visits.{Checks}
use Rattle.clk_lawful.specs.Checks.{Visit, listed}
use Rattle.clk_lawful.specs.Watchdog.{IsPass}
use Rattle.clk_lawful.specs.declared.trace.WatchTrace.{WatchTrace}
use Rattle.clk_demote.specs.Context.{site_of, IsOfMachine, Keeps}
use Rattle.clk_demote.specs.Shows.{adjust_at}
use Rattle.clk_watcher.specs.Checking.{WatchesVisits}
use Rattle.clk_watcher.specs.VisitsKept.{KeepsVisits, KeepsDemotion, lifts_in}
use Rattle.clk_watcher.specs.Calling.{Context, known, Stands, IsStable, stamps_at, visit_tickets, HasRoomFor, UsesFor, Follows, MakesVisits, MakesVisit, MakesPass}
use Rattle.clk_watcher.proofs.Visits.{one_flat, kept_both, kept_none, demotes_both, demotes_none, rest_both, rest_none, watches_both, same_visits}

-- ---- what a record's flags tell

-- a record that is followed by something is of a TSC source
flagged_tsc : (current demoted good lost tsc : Bool) → (IsTrue current → IsTrue (good && tsc)) → demoted ≡ (lost && tsc)
    → (current || demoted) ≡ true → tsc ≡ true
flagged_tsc current demoted good lost true p q e = refl
flagged_tsc true demoted true lost false p q e = absurd (let x : false ≡ true = p refl in cc)
flagged_tsc true demoted false lost false p q e = absurd (let x : false ≡ true = p refl in cc)
flagged_tsc false demoted good true false p q e = absurd (let a : demoted ≡ true = e in cc)
flagged_tsc false demoted good false false p q e = absurd (let a : demoted ≡ true = e in cc)

few_tickets : (flag tsc : Bool) → (flag ≡ true → tsc ≡ true) → (if flag then 2 else 0) ≤ 2 * (if tsc then 1 else 0)
few_tickets true true h = omega arith
few_tickets true false h = absurd (let e = h refl in cc)
few_tickets false true h = omega arith
few_tickets false false h = omega arith

few_stamps : (flag tsc : Bool) → (flag ≡ true → tsc ≡ true) → (if flag then 1 else 0) ≤ (if tsc then 1 else 0)
few_stamps true true h = omega arith
few_stamps true false h = absurd (let e = h refl in cc)
few_stamps false true h = omega arith
few_stamps false false h = omega arith

-- ---- one visit

-- the context as the visit of `check_source` left it
abbrev pub timed : Context → Time → Context
timed v time = record v { time = time }

abbrev pub watched : WatchTrace → Watching → WatchTrace
watched a watch = record a { watch = watch }

still_machine : (v w : Context) → Keeps v w → IsOfMachine v → IsOfMachine w
still_machine v w k h = record {
  words = ap (λ (x : Place). x.start.cpus) k.words ∙ h.words ∙ ap cpu_count (sym k.machine);
  latches = ap (λ (x : Listed _). length x.items) k.epochs ∙ h.latches ∙ ap cpu_count (sym k.machine);
  adjusts = ap (λ (x : Listed ℤ). length x.items) k.adjusts ∙ h.adjusts ∙ ap cpu_count (sym k.machine);
}

module _ (cpu check source : ℕ) (adjust : ℤ) (stable after : Bool) (v w : Context) (a b : WatchTrace) (r : SourceRecord) (watch : Watching) (time : Time)
    (same : adjust ≡ adjust_at (site_of v) cpu) (checks : Checks cpu adjust source a.watch v.time r watch time)
    (follows : Follows cpu check r stable (timed v time) (watched a watch) after w b) (stands : Stands v a) where
  abbrev the_visit : Visit
  the_visit = record { made = r; attempts = checks.visits.made; stamp = follows.stamp; demotion = follows.demotion }

  right : All (IsRightAttempt v.machine.now cpu (adjust_at (site_of v) cpu) r.source) checks.visits.made
  right =
      subst (λ s. All (IsRightAttempt v.machine.now cpu (adjust_at (site_of v) cpu) s) checks.visits.made) (sym checks.visits.source_is)
      (subst (λ x. All (IsRightAttempt v.machine.now cpu x source) checks.visits.made) same
      (subst (λ m. All (IsRightAttempt m cpu adjust source) checks.visits.made) stands.watched checks.visits.tries.right))

  the_kept : KeepsVisits stable a (the_visit ∷ []) after b
  the_kept = record {
    attempts = ap (λ (x : Watching). x.attempts.items) follows.watch ∙ checks.visits.tries.attempts ∙ ap (λ l. a.watch.attempts.items ++ l) (sym (one_flat (λ (x : Visit). x.attempts) the_visit));
    records = ap (λ (x : Watching). x.records.items) follows.watch ∙ checks.records;
    named = (
      checks.visits.first_is,
      checks.visits.count_is,
      let count = checks.visits.count_is in
          let long : length b.watch.attempts.items ≡ length a.watch.attempts.items + length checks.visits.made =
          ap (λ (x : Watching). length x.attempts.items) follows.watch ∙ ap length checks.visits.tries.attempts ∙ length-append a.watch.attempts.items checks.visits.made in
          omega (arith, count, long),
    );
    stamps = follows.stamps_are ∙ ap (λ l. a.stamps.items ++ l) (sym (one_flat (λ (x : Visit). listed x.stamp) the_visit));
    demotion = follows.demotion_is ∙ ap (λ l. listed a.demotion ++ l) (sym (one_flat (λ (x : Visit). listed x.demotion) the_visit));
    called = (follows.stamp_called, follows.demotion_called, sym follows.after_is);
  }

  the_stands : Stands w b
  the_stands = record {
    limits = subst IsWithinLimits (sym follows.keeps.machine) stands.limits;
    seated = follows.seated;
    of_machine = still_machine v w (record { words = follows.keeps.words; epochs = follows.keeps.epochs; adjusts = follows.keeps.adjusts; tickets = follows.keeps.tickets; machine = follows.keeps.machine; sched_offset = follows.keeps.sched_offset }) stands.of_machine;
    adjusts = subst (λ (x : Listed ℤ). All (IsNear 47) x.items) (sym follows.keeps.adjusts) stands.adjusts;
    watched = ap (λ (x : Watching). x.machine) follows.watch ∙ checks.machine_is ∙ stands.watched ∙ sym follows.keeps.machine;
    few =
        let few = stands.few in
        let room = checks.room in
        let long : length watch.records.items ≡ length a.watch.records.items + 1 = ap length checks.records ∙ length-append a.watch.records.items (r ∷ []) in
        subst (λ (x : Watching). length x.records.items + x.records.room ≤ 2 ^ 16) (sym follows.watch) (omega (arith, few, room, long));
  }

  flag_tsc : (r.tsc_current || r.tsc_demoted) ≡ true → (source_plan_at v.machine.now source).tsc ≡ true
  flag_tsc =
      let seen = checks.visits.visit in
      let by : (r.tsc_current || r.tsc_demoted) ≡ true → (source_plan_at a.watch.machine r.source).tsc ≡ true =
      flagged_tsc r.tsc_current r.tsc_demoted (is_good r.outcome) (is_lost r.outcome) (source_plan_at a.watch.machine r.source).tsc (λ h. (seen.current.0 h).0) seen.lost in
      λ e. subst (λ s. (source_plan_at v.machine.now s).tsc ≡ true) checks.visits.source_is (subst (λ m. (source_plan_at m r.source).tsc ≡ true) stands.watched (by e))

  the_uses : UsesFor v.machine.now (source_plan_at v.machine.now source ∷ []) v.time a w.time b
  the_uses =
      let flag = r.tsc_current || r.tsc_demoted in
      let two = few_tickets flag (source_plan_at v.machine.now source).tsc flag_tsc in
      let one = few_stamps flag (source_plan_at v.machine.now source).tsc flag_tsc in
      let tickets = follows.tickets in
      let left = checks.visits.tries.left in
      let few : length checks.visits.made ≤ retries_of v.machine.now + 1 = subst (λ m. length checks.visits.made ≤ retries_of m + 1) stands.watched checks.visits.few in
      let attempts = checks.visits.tries.room in
      let records = checks.room in
      let stamps = follows.room in
      let same_room : b.watch ≡ watch = follows.watch in
      record {
        tickets = omega (arith, two, tickets, left, few);
        attempts = subst (λ (x : Watching). a.watch.attempts.room ≤ x.attempts.room + 1 * (retries_of v.machine.now + 1)) (sym same_room) (omega (arith, attempts, few));
        records = subst (λ (x : Watching). a.watch.records.room ≤ x.records.room + 1) (sym same_room) (omega (arith, records));
        stamps = omega (arith, one, stamps);
      }

  pub makes_visit : (after ≡ true → IsStable w b) → MakesVisit cpu check source stable v a (ends_check r.outcome) after w b
  makes_visit if_stable = record {
    visit = the_visit;
    makes = record {
      watches = (known w, (known (timed v time), follows.middle, record { right = right; draws = checks.visits.tries.draws; rest = refl }, follows.stamps, follows.demotes), refl);
      kept = the_kept;
      demotes = record {
        lifts =
            follows.lifts_are
            ∙ ap (λ l. a.lifts.items ++ l) (sym (one_flat (λ (x : Visit). lifts_in v.seat.view.number v.seat.view.start check (cpu_count v.machine.now) x.demotion) the_visit));
        demoted_in = follows.check_is;
      };
      rest = record {
        thread = follows.rest.thread;
        machine = follows.rest.machine ∙ checks.machine_is;
        lost = follows.rest.lost ∙ checks.tsc_is;
        pauses = follows.rest.pauses;
        ends = follows.rest.ends;
        currents = follows.rest.currents;
      };
      keeps = record { words = follows.keeps.words; epochs = follows.keeps.epochs; adjusts = follows.keeps.adjusts; tickets = follows.keeps.tickets; machine = follows.keeps.machine; sched_offset = follows.keeps.sched_offset };
      stands = the_stands;
      if_stable = if_stable;
    };
    source_is = checks.visits.source_is;
    ends_is = refl;
    uses = the_uses;
  }

-- ---- one visit after others

pub uses_none : (m : Plan) (t : Time) (a : WatchTrace) → UsesFor m [] t a t a
uses_none m t a = record { tickets = omega arith; attempts = omega arith; records = omega arith; stamps = omega arith }

pub uses_both : (m : Plan) (xs ys : List SourcePlan) (t u w : Time) (a b c : WatchTrace) → UsesFor m xs t a u b → UsesFor m ys u b w c → UsesFor m (xs ++ ys) t a w c
uses_both m xs ys t u w a b c p q =
    let tickets = sum_by-append (visit_tickets m) xs ys in
    let stamps = sum_by-append stamps_at xs ys in
    let long = length-append xs ys in
    let attempts : length (xs ++ ys) * (retries_of m + 1) ≡ length xs * (retries_of m + 1) + length ys * (retries_of m + 1) =
    ap (λ n. n * (retries_of m + 1)) long ∙ add-mul (length xs) (length ys) (retries_of m + 1) in
    let pt = p.tickets in
    let qt = q.tickets in
    let pa = p.attempts in
    let qa = q.attempts in
    let pr = p.records in
    let qr = q.records in
    let ps = p.stamps in
    let qs = q.stamps in
    record {
      tickets = omega (arith, tickets, pt, qt);
      attempts = omega (arith, attempts, pa, qa);
      records = omega (arith, long, pr, qr);
      stamps = omega (arith, stamps, ps, qs);
    }

-- what is left of a list
split_sum : {A : Type 0} (f : A → ℕ) (xs : List A) (s : ℕ) (d : A) → s < length xs → sum_by f xs ≡ sum_by f (take s xs) + (f (get_or xs s d) + sum_by f (drop (s + 1) xs))
split_sum f xs s d low =
    ap (sum_by f) (sym (take-append-drop s xs)) ∙ sum_by-append f (take s xs) (drop s xs) ∙ ap (λ n. sum_by f (take s xs) + n) (sum_by-drop_more f xs s d low)

abbrev no_source : SourcePlan
no_source = record { tsc = false; rating = pos 0; margin = pos 0; khz = pos 0; nominal_khz = pos 0; bits = pos 0; jumps = [] }

pub room_at : (m : Plan) (s : ℕ) (t u : Time) (a b : WatchTrace) → s < length m.source → HasRoomFor m m.source t a → UsesFor m (take s m.source) t a u b
    → HasRoomFor m (source_plan_at m s ∷ []) u b
room_at m s t u a b low h p =
    let tickets = split_sum (visit_tickets m) m.source s no_source low in
    let stamps = split_sum stamps_at m.source s no_source low in
    let long : length (take s m.source) ≡ s = length-take-le s m.source (omega (arith, low)) in
    let more : (s + 1) * (retries_of m + 1) ≤ length m.source * (retries_of m + 1) = mul-le-mul_right (retries_of m + 1) (omega (arith, low)) in
    let one : (s + 1) * (retries_of m + 1) ≡ s * (retries_of m + 1) + 1 * (retries_of m + 1) = add-mul s 1 (retries_of m + 1) in
    let used : length (take s m.source) * (retries_of m + 1) ≡ s * (retries_of m + 1) = ap (λ n. n * (retries_of m + 1)) long in
    let ht = h.tickets in
    let pt = p.tickets in
    let ha = h.attempts in
    let pa = p.attempts in
    let hr = h.records in
    let pr = p.records in
    let hs = h.stamps in
    let ps = p.stamps in
    record {
      tickets = omega (arith, tickets, ht, pt);
      attempts = omega (arith, more, one, used, ha, pa);
      records = omega (arith, long, hr, pr, low);
      stamps = omega (arith, stamps, hs, ps);
    }

-- a check that ended early used no more
uses_whole : (m : Plan) (s : ℕ) (t u : Time) (a b : WatchTrace) → UsesFor m (take s m.source) t a u b → UsesFor m m.source t a u b
uses_whole m s t u a b p =
    let tickets = sum_by-take-le (visit_tickets m) m.source s in
    let stamps = sum_by-take-le stamps_at m.source s in
    let long : length (take s m.source) ≤ length m.source = omega (arith, length-take s m.source) in
    let more : length (take s m.source) * (retries_of m + 1) ≤ length m.source * (retries_of m + 1) = mul-le-mul_right (retries_of m + 1) long in
    let pt = p.tickets in
    let pa = p.attempts in
    let pr = p.records in
    let ps = p.stamps in
    record { tickets = omega (arith, tickets, pt); attempts = omega (arith, more, pa); records = omega (arith, long, pr); stamps = omega (arith, stamps, ps) }

same_site : (v w : Context) → Keeps v w → site_of w ≡ site_of v
same_site v w k =
    ap (λ m. record { machine = m; adjusts = w.adjusts.now.items; sched_offset = w.sched_offset }) k.machine
    ∙ ap (λ (l : Listed ℤ). record { machine = v.machine.now; adjusts = l.items; sched_offset = w.sched_offset }) k.adjusts
    ∙ ap (λ x. record { machine = v.machine.now; adjusts = v.adjusts.now.items; sched_offset = x }) k.sched_offset

keeps_both : (v t w : Context) → Keeps v t → Keeps t w → Keeps v w
keeps_both v t w p q = record {
  words = q.words ∙ p.words;
  epochs = q.epochs ∙ p.epochs;
  adjusts = q.adjusts ∙ p.adjusts;
  tickets = q.tickets ∙ p.tickets;
  machine = q.machine ∙ p.machine;
  sched_offset = q.sched_offset ∙ p.sched_offset;
}

pub visits_both : (cpu check : ℕ) (stable c d : Bool) (v t w : Context) (a x b : WatchTrace) (xs ys : List Visit) → MakesVisits cpu check stable v a xs c t x
    → MakesVisits cpu check c t x ys d w b → MakesVisits cpu check stable v a (xs ++ ys) d w b
visits_both cpu check stable c d v t w a x b xs ys p q =
    let same = same_visits (site_of v) cpu check (known v) (known t) xs p.watches in
    let demotes : KeepsDemotion v.seat.view.number v.seat.view.start check (cpu_count v.machine.now) x ys b =
    subst (λ n. KeepsDemotion n v.seat.view.start check (cpu_count v.machine.now) x ys b) same.number
    (subst (λ s. KeepsDemotion t.seat.view.number s check (cpu_count v.machine.now) x ys b) same.start
    (subst (λ m. KeepsDemotion t.seat.view.number t.seat.view.start check (cpu_count m) x ys b) p.keeps.machine q.demotes)) in
    record {
      watches = watches_both (site_of v) cpu check (known v) (known t) (known w) xs ys p.watches (subst (λ z. WatchesVisits z cpu check (known t) ys (known w)) (same_site v t p.keeps) q.watches);
      kept = kept_both stable c d a x b xs ys p.kept q.kept;
      demotes = demotes_both v.seat.view.number v.seat.view.start check (cpu_count v.machine.now) a x b xs ys p.demotes demotes;
      rest = rest_both a x b p.rest q.rest;
      keeps = keeps_both v t w p.keeps q.keeps;
      stands = q.stands;
      if_stable = q.if_stable;
    }

-- ---- the visits of a check

-- the sources before s were visited, and none ended the check
pub record PassesTo (cpu check s : ℕ) (stable : Bool) (v : Context) (a : WatchTrace) (now : Bool) (w : Context) (b : WatchTrace) : Type 0 where
  pub visits : List Visit
  pub makes : MakesVisits cpu check stable v a visits now w b
  pub reaches : (rest : List SourceRecord) → IsPass s (length v.machine.now.source) rest → IsPass 0 (length v.machine.now.source) (map (λ x. x.made) visits ++ rest)
  pub uses : UsesFor v.machine.now (take s v.machine.now.source) v.time a w.time b

pub passes_none : (cpu check : ℕ) (stable : Bool) (v : Context) (a : WatchTrace) → Stands v a → (stable ≡ true → IsStable v a) → PassesTo cpu check 0 stable v a stable v a
passes_none cpu check stable v a stands if_stable = record {
  visits = [];
  makes = record {
    watches = refl;
    kept = kept_none stable a;
    demotes = demotes_none v.seat.view.number v.seat.view.start check (cpu_count v.machine.now) a;
    rest = rest_none a;
    keeps = record { words = refl; epochs = refl; adjusts = refl; tickets = refl; machine = refl; sched_offset = refl };
    stands = stands;
    if_stable = if_stable;
  };
  reaches = λ rest h. h;
  uses = uses_none v.machine.now v.time a;
}

module _ (cpu check s : ℕ) (stable c d ends : Bool) (v t w : Context) (a x b : WatchTrace) (low : s < length v.machine.now.source) (p : PassesTo cpu check s stable v a c t x)
    (q : MakesVisit cpu check s c t x ends d w b) where
  more_visits : MakesVisits cpu check stable v a (p.visits ++ q.visit ∷ []) d w b
  more_visits = visits_both cpu check stable c d v t w a x b p.visits (q.visit ∷ []) p.makes q.makes

  more_uses : UsesFor v.machine.now (take (s + 1) v.machine.now.source) v.time a w.time b
  more_uses =
      let one : UsesFor v.machine.now (source_plan_at v.machine.now s ∷ []) t.time x w.time b =
      subst (λ m. UsesFor m (source_plan_at m s ∷ []) t.time x w.time b) p.makes.keeps.machine q.uses in
      subst (λ xs. UsesFor v.machine.now xs v.time a w.time b) (sym (take_more v.machine.now.source s no_source low))
      (uses_both v.machine.now (take s v.machine.now.source) (source_plan_at v.machine.now s ∷ []) v.time t.time w.time a x b p.uses one)

  made_more : (rest : List SourceRecord) → map (λ (y : Visit). y.made) (p.visits ++ q.visit ∷ []) ++ rest ≡ map (λ (y : Visit). y.made) p.visits ++ q.visit.made ∷ rest
  made_more rest =
      ap (λ l. l ++ rest) (map-append (λ (y : Visit). y.made) p.visits (q.visit ∷ [])) ∙ append_assoc (map (λ (y : Visit). y.made) p.visits) (q.visit.made ∷ []) rest

  pub passes_more : ends ≡ false → PassesTo cpu check (s + 1) stable v a d w b
  passes_more goes = record {
    visits = p.visits ++ q.visit ∷ [];
    makes = more_visits;
    reaches = λ rest h.
        let next : IsPass s (length v.machine.now.source) (q.visit.made ∷ rest) =
        (q.source_is, subst (λ e. MatchBool e (rest ≡ []) (IsPass (s + 1) (length v.machine.now.source) rest)) (sym goes ∙ q.ends_is) h) in
        subst (IsPass 0 (length v.machine.now.source)) (sym (made_more rest)) (p.reaches (q.visit.made ∷ rest) next);
    uses = more_uses;
  }

  pub pass_ended : ends ≡ true → MakesPass cpu check stable v a d w b
  pass_ended stops = record {
    visits = p.visits ++ q.visit ∷ [];
    makes = more_visits;
    passes =
        let last : IsPass s (length v.machine.now.source) (q.visit.made ∷ []) =
        (q.source_is, subst (λ e. MatchBool e (◌≡◌ {A = List SourceRecord} [] []) (IsPass (s + 1) (length v.machine.now.source) [])) (sym stops ∙ q.ends_is) refl) in
        subst (IsPass 0 (length v.machine.now.source)) (sym (sym (append-nil (map (λ (y : Visit). y.made) (p.visits ++ q.visit ∷ []))) ∙ made_more [])) (p.reaches (q.visit.made ∷ []) last);
    uses = uses_whole v.machine.now (s + 1) v.time w.time a b more_uses;
  }

pub pass_done : (cpu check s : ℕ) (stable c : Bool) (v t : Context) (a x : WatchTrace) → s ≡ length v.machine.now.source → PassesTo cpu check s stable v a c t x
    → MakesPass cpu check stable v a c t x
pass_done cpu check s stable c v t a x all p = record {
  visits = p.visits;
  makes = p.makes;
  passes = subst (IsPass 0 (length v.machine.now.source)) (append-nil (map (λ (y : Visit). y.made) p.visits)) (p.reaches [] all);
  uses = uses_whole v.machine.now s v.time t.time a x p.uses;
}
