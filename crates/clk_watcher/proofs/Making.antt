-- What a watchdog made in its first checks and then in one more it made in all of them.
use Rattle.std.proofs.Common.{◌≡◌, ℕ, zero, suc, ◌+◌, ◌*◌, ◌^◌, ◌≤◌, ◌<◌, Option, Some, None, List, [], ◌∷◌, ◌++◌, map, take, length, refl, sym, ◌∙◌, ap, subst, arith, length-append}
use Rattle.std.specs.Prelude.{Bool, true, false, is_some}
use Rattle.std.specs.List.{All, AllZip, flat_map}
use Rattle.std.proofs.Math.Nat.{add-mul, mul_assoc, mul-le-mul_right, mul-le-mul}
use Rattle.std.proofs.lemmas.List.{append-nil, map-append, length-map, take-append-le, take_all}
use Rattle.std.proofs.lemmas.Grind.{flat_map-append}
use Rattle.std.proofs.lemmas.List.Concat.{flat_map-cons}
use Rattle.std.proofs.lemmas.List.Elements.{All-nil, All-push, AllZip-push}
use Rattle.clk_base.specs.Walk.{EachFrom}
use Rattle.clk_ticket.specs.Time.{Time}
use Rattle.clk_machine.specs.declared.parts.WatchPart.{WatchPart}
use Rattle.clk_machine.specs.Plan.{Plan, cpu_count}
use Rattle.clk_machine.specs.Limits.{IsWithinLimits, IfThere, IsWatch}
use Rattle.clk_machine.specs.Tickets.{watch_tickets}
use Rattle.clk_record.specs.declared.attempt.Attempt.{Attempt}
use Rattle.clk_record.specs.declared.visit.SourceRecord.{SourceRecord}
use Rattle.clk_record.specs.declared.watched.Watched.{Watched}
use Rattle.clk_record.specs.Attempts.{retries_of}
use Rattle.clk_record.specs.Fold.{at_first, after_record, watch_after, ratings_of, IsCurrent, AreVisits}
use Rattle.clk_record.specs.Watching.{checks_asked, Watching, most_visits}
use Rattle.clk_record.specs.declared.stable.Demotion.{Demotion}
use Rattle.clk_words.specs.declared.opening.Start.{Start}
use Rattle.clk_watch.proofs.Growing.{grow_after}
use Rattle.clk_lawful.specs.Checks.{Visit, Check, listed}
use Rattle.clk_lawful.specs.Watchdog.{IsPass}
use Rattle.clk_lawful.specs.declared.trace.WatchTrace.{WatchTrace}
use Rattle.clk_demote.specs.Context.{Site, Known}
use Rattle.clk_demote.specs.Lifts.{lifts_of}
use Rattle.clk_worker.specs.declared.shared.Shared.{Shared}
use Rattle.clk_watcher.specs.Checking.{WatchesCheck, KeepsLifts}
use Rattle.clk_watcher.specs.VisitsKept.{AreCalled, AreNamed, lifts_in, KeepsDemotion, ends_from, visits_in, KeepsChecks}
use Rattle.clk_watcher.specs.Making.{Hand, site_at, has, SeatsServe, IsStable, check_tickets, HasEnough, checks_left, HasMade, IsGoing, Begins, BelongsTo, WentOn, KeepsCheck, UsesCheck, MakesAt, MakesCheck}
use Rattle.clk_watcher.specs.declared.parts.WatchParts.{WatchParts}
use Rattle.clk_watcher.proofs.Visits.{one_flat, called_both, named_both, watches_push, same_watch}
use Rattle.clk_watcher.proofs.Called.{NoneIn, called_never, called_still, demoted_none, demoted_each, none_first, none_second, vacuous}
use Rattle.clk_watcher.proofs.Cutting.{none_listed, lifts_listed, demoted_listed}

-- ---- lists of checks

ends_push : (n : ℕ) (cs : List Check) (c : Check) → ends_from n (cs ++ c ∷ []) ≡ ends_from n cs ++ (n + length (visits_in cs) + length c.visits) ∷ []
ends_push n [] c = ap (λ k. k ∷ []) (let e : n + length c.visits ≡ n + 0 + length c.visits = omega arith in e)
ends_push n (x ∷ cs) c =
    let long : length (visits_in (x ∷ cs)) ≡ length x.visits + length (visits_in cs) = ap length (flat_map-cons (λ (y : Check). y.visits) x cs) ∙ length-append x.visits (visits_in cs) in
    let same : n + length x.visits + length (visits_in cs) + length c.visits ≡ n + length (visits_in (x ∷ cs)) + length c.visits = omega (arith, long) in
    ap (λ l. (n + length x.visits) ∷ l) (ends_push (n + length x.visits) cs c ∙ ap (λ k. ends_from (n + length x.visits) cs ++ k ∷ []) same)

visits_push : (cs : List Check) (c : Check) → visits_in (cs ++ c ∷ []) ≡ visits_in cs ++ c.visits
visits_push cs c = flat_map-append (λ (y : Check). y.visits) cs (c ∷ []) ∙ ap (λ l. visits_in cs ++ l) (one_flat (λ (y : Check). y.visits) c)

-- a list that is told of visits, after those of one check more
told_more : {A : Type 0} (f : Visit → List A) (w v : List A) (cs : List Check) (c : Check) → w ≡ flat_map f (visits_in cs) → v ≡ w ++ flat_map f c.visits
    → v ≡ flat_map f (visits_in (cs ++ c ∷ []))
told_more f w v cs c p q =
    q ∙ ap (λ l. l ++ flat_map f c.visits) p ∙ sym (flat_map-append f (visits_in cs) c.visits) ∙ ap (flat_map f) (sym (visits_push cs c))

each_push : {A : Type 0} (P : ℕ → A → Type 0) (k : ℕ) (cs : List A) (c : A) → EachFrom P k cs → P (k + length cs) c → EachFrom P k (cs ++ c ∷ [])
each_push P k [] c h p = (subst (λ n. P n c) (let e : k + 0 ≡ k = omega arith in e) p, tt)
each_push P k (x ∷ cs) c h p = (h.0, each_push P (k + 1) cs c h.1 (subst (λ n. P n c) (let e : k + length (x ∷ cs) ≡ k + 1 + length cs = omega arith in e) p))

-- ---- the current source after each check so far

visits_take : (m : Plan) (attempts : List Attempt) (ws : List Watched) (rs : List SourceRecord) (n : ℕ) → AreVisits m attempts ws rs → AreVisits m attempts ws (take n rs)
visits_take m attempts ws rs zero h = tt
visits_take m attempts ws [] (suc n) h = tt
visits_take m attempts ws (r ∷ rs) (suc n) h = (h.0, visits_take m attempts (after_record attempts r ws) rs n h.1)

-- the place after n records is right
abbrev pub PlaceAt : Plan → List Attempt → List Watched → List SourceRecord → ℕ → ℕ → Type 0
PlaceAt m attempts ws rs n place = IsCurrent (ratings_of m (watch_after attempts ws (take n rs))) place

place_grows : (m : Plan) (attempts more : List Attempt) (ws : List Watched) (rs later : List SourceRecord) (n place : ℕ) → n ≤ length rs → AreVisits m attempts ws rs
    → PlaceAt m attempts ws rs n place → PlaceAt m (attempts ++ more) ws (rs ++ later) n place
place_grows m attempts more ws rs later n place low visits h =
    let taken = take-append-le n rs later low in
    let same : watch_after (attempts ++ more) ws (take n (rs ++ later)) ≡ watch_after attempts ws (take n rs) =
    ap (watch_after (attempts ++ more) ws) taken ∙ grow_after m attempts more ws (take n rs) (visits_take m attempts ws rs n visits) in
    subst (λ x. IsCurrent (ratings_of m x) place) (sym same) h

places_grow : (m : Plan) (attempts more : List Attempt) (ws : List Watched) (rs later : List SourceRecord) (k : ℕ) (cs : List Check) (places : List ℕ)
    → k + length (visits_in cs) ≤ length rs → AreVisits m attempts ws rs → AllZip (PlaceAt m attempts ws rs) (ends_from k cs) places
    → AllZip (PlaceAt m (attempts ++ more) ws (rs ++ later)) (ends_from k cs) places
places_grow m attempts more ws rs later k [] [] low visits h = h
places_grow m attempts more ws rs later k [] (place ∷ places) low visits h = h
places_grow m attempts more ws rs later k (c ∷ cs) [] low visits h = h
places_grow m attempts more ws rs later k (c ∷ cs) (place ∷ places) low visits h =
    let long : length (visits_in (c ∷ cs)) ≡ length c.visits + length (visits_in cs) = ap length (flat_map-cons (λ (y : Check). y.visits) c cs) ∙ length-append c.visits (visits_in cs) in (
      place_grows m attempts more ws rs later (k + length c.visits) place (omega (arith, low, long)) visits h.0,
      places_grow m attempts more ws rs later (k + length c.visits) cs places (omega (arith, low, long)) visits h.1,
    )

-- ---- the demotion

pub listed_same : (c d : Option Demotion) → listed c ≡ listed d → c ≡ d
listed_same None None e = refl
listed_same None (Some d) e = absurd (cc)
listed_same (Some c) None e = absurd (cc)
listed_same (Some c) (Some d) e = ap Some (let h : c ≡ d = cc in h)

lifts_still : (z : Site) (began : Known) (v w : WatchTrace) (d : Option Demotion) → w.lifts.items ≡ v.lifts.items → w.demoted_in ≡ v.demoted_in → KeepsLifts z began v d
    → KeepsLifts z began w d
lifts_still z began v w None p q h = (p ∙ h.0, q ∙ h.1)
lifts_still z began v w (Some d) p q h =
    p ∙ h ∙ ap (λ n. lifts_of began.view.number began.view.start n d.opening (cpu_count z.machine)) (sym q)

pub none_flat : (xs : List Visit) → NoneIn xs → flat_map (λ v. listed v.demotion) xs ≡ []
none_flat [] h = refl
none_flat (v ∷ xs) h = flat_map-cons (λ (x : Visit). listed x.demotion) v xs ∙ by v.demotion h.0 (none_flat xs h.1)
  where
    by : (o : Option Demotion) → is_some o ≡ false → flat_map (λ x. listed x.demotion) xs ≡ [] → listed o ++ flat_map (λ x. listed x.demotion) xs ≡ []
    by None e rest = rest
    by (Some d) e rest = absurd (cc)

none_lifts : (number : ℕ) (start : Start) (check cpus : ℕ) (xs : List Visit) → NoneIn xs → flat_map (λ v. lifts_in number start check cpus v.demotion) xs ≡ []
none_lifts number start check cpus xs h = lifts_listed number start check cpus None xs (sym (none_flat xs h))

-- a first demotion, or still none
lifts_first : (z : Site) (began : Known) (check : ℕ) (v w : WatchTrace) (xs : List Visit) (d : Option Demotion) → listed v.demotion ≡ [] → KeepsLifts z began v v.demotion
    → KeepsDemotion began.view.number began.view.start check (cpu_count z.machine) v xs w → listed d ≡ flat_map (λ x. listed x.demotion) xs → KeepsLifts z began w d
lifts_first z began check v w xs d none_before before k e =
    let empty : KeepsLifts z began v None = subst (KeepsLifts z began v) (listed_same v.demotion None none_before) before in
    let lifts : w.lifts.items ≡ lifts_in began.view.number began.view.start check (cpu_count z.machine) d =
    k.lifts ∙ ap (λ l. l ++ flat_map (λ (x : Visit). lifts_in began.view.number began.view.start check (cpu_count z.machine) x.demotion) xs) empty.0
    ∙ lifts_listed began.view.number began.view.start check (cpu_count z.machine) d xs e in
    by d e lifts
  where
    by : (o : Option Demotion) → listed o ≡ flat_map (λ x. listed x.demotion) xs → w.lifts.items ≡ lifts_in began.view.number began.view.start check (cpu_count z.machine) o
        → KeepsLifts z began w o
    by None q lifts =
        let empty : KeepsLifts z began v None = subst (KeepsLifts z began v) (listed_same v.demotion None none_before) before in
        (lifts, k.demoted_in ∙ demoted_none check v.demoted_in xs (none_listed xs q) ∙ empty.1)
    by (Some x) q lifts =
        let number : w.demoted_in ≡ check = k.demoted_in ∙ demoted_listed check v.demoted_in x xs q in
        lifts ∙ ap (λ n. lifts_of began.view.number began.view.start n x.opening (cpu_count z.machine)) (sym number)

each_vacuous : (x k : ℕ) (cs : List Check) → NoneIn (visits_in cs) → EachFrom (λ n c. All (λ v. is_some v.demotion ≡ true → x ≡ n) c.visits) k cs
each_vacuous x k [] h = tt
each_vacuous x k (c ∷ cs) h =
    let open_none : NoneIn (c.visits ++ visits_in cs) = subst NoneIn (flat_map-cons (λ (y : Check). y.visits) c cs) h in
    (vacuous x k c.visits (none_first c.visits (visits_in cs) open_none), each_vacuous x (k + 1) cs (none_second c.visits (visits_in cs) open_none))

-- ---- tickets and room

checks_come : (m : Plan) (n : ℕ) → n < checks_asked m.watchdog → checks_left m n ≡ checks_left m (n + 1) + 1
checks_come m n low = omega (arith, low)

one_of : (k x : ℕ) → 1 ≤ k → 1 * x ≤ k * x
one_of k x low = mul-le-mul_right x low

-- there is enough for one check
pub enough_one : (m : Plan) (n : ℕ) (t : Time) (w : WatchTrace) → n < checks_asked m.watchdog → HasEnough m (checks_left m n) t w → HasEnough m 1 t w
enough_one m n t w low h =
    let left = checks_left m n in
    let some : 1 ≤ left = omega (arith, low) in
    let tickets = h.tickets in
    let attempts = h.attempts in
    let records = h.records in
    let stamps = h.stamps in
    let pauses = h.pauses in
    let ends = h.ends in
    let currents = h.currents in
    let a = one_of left (check_tickets m) some in
    let b = one_of left (length m.source * (retries_of m + 1)) some in
    let c = one_of left (length m.source) some in
    record {
      tickets = omega (arith, a, tickets);
      attempts = omega (arith, b, attempts);
      records = omega (arith, c, records);
      stamps = omega (arith, some, stamps);
      pauses = omega (arith, some, pauses);
      ends = omega (arith, some, ends);
      currents = omega (arith, some, currents);
    }

spend : (k x have left : ℕ) → (k + 1) * x ≤ have → have ≤ left + x → k * x ≤ left
spend k x have left p q = let e = add-mul k 1 x in omega (arith, e, p, q)

-- and for those that are left after it
enough_after : (m : Plan) (n : ℕ) (t u : Time) (v w : WatchTrace) → n < checks_asked m.watchdog → HasEnough m (checks_left m n) t v → UsesCheck m t v u w
    → HasEnough m (checks_left m (n + 1)) u w
enough_after m n t u v w low h uses =
    let now : HasEnough m (checks_left m (n + 1) + 1) t v = subst (λ k. HasEnough m k t v) (checks_come m n low) h in
    let left = checks_left m (n + 1) in
    let stamps = now.stamps in
    let pauses = now.pauses in
    let ends = now.ends in
    let currents = now.currents in
    let us = uses.stamps in
    let up = uses.pauses in
    let ue = uses.ends in
    let uc = uses.currents in
    record {
      tickets = spend left (check_tickets m) t.left u.left now.tickets uses.tickets;
      attempts = spend left (length m.source * (retries_of m + 1)) v.watch.attempts.room w.watch.attempts.room now.attempts uses.attempts;
      records = spend left (length m.source) v.watch.records.room w.watch.records.room now.records uses.records;
      stamps = omega (arith, stamps, us);
      pauses = omega (arith, pauses, up);
      ends = omega (arith, ends, ue);
      currents = omega (arith, currents, uc);
    }

-- ---- one check more

module _ (m : Plan) (stable now after : Bool) (n : ℕ) (cs : List Check) (c : Check) (v w : WatchTrace) (h : KeepsChecks m stable cs now v) (k : KeepsCheck m now v c after w) where
  records_long : length v.watch.records.items ≡ length (visits_in cs)
  records_long = ap length h.records ∙ length-map (visits_in cs) (λ (x : Visit). x.made)

  records_now : w.watch.records.items ≡ map (λ x. x.made) (visits_in (cs ++ c ∷ []))
  records_now =
      k.kept.records ∙ ap (λ l. l ++ map (λ (x : Visit). x.made) c.visits) h.records ∙ sym (map-append (λ (x : Visit). x.made) (visits_in cs) c.visits)
      ∙ ap (map (λ (x : Visit). x.made)) (sym (visits_push cs c))

  records_count : length w.watch.records.items ≡ 0 + length (visits_in cs) + length c.visits
  records_count =
      let count = ap length records_now ∙ length-map (visits_in (cs ++ c ∷ [])) (λ (x : Visit). x.made) ∙ ap length (visits_push cs c) ∙ length-append (visits_in cs) c.visits in
      omega (arith, count)

  ends_now : w.last_record.items ≡ ends_from 0 cs ++ length w.watch.records.items ∷ []
  ends_now = k.ends ∙ ap (λ l. l ++ length w.watch.records.items ∷ []) h.ends

  pub places_now : w.watch.machine ≡ m
      → AllZip (PlaceAt m w.watch.attempts.items (at_first m w.watch.tsc_unstable) w.watch.records.items) w.last_record.items w.currents.items
  places_now watched =
      let ws = at_first m v.watch.tsc_unstable in
      let low : 0 + length (visits_in cs) ≤ length v.watch.records.items = omega (arith, records_long) in
      let old : AllZip (PlaceAt m v.watch.attempts.items ws v.watch.records.items) (ends_from 0 cs) v.currents.items =
      subst (λ l. AllZip (PlaceAt m v.watch.attempts.items ws v.watch.records.items) l v.currents.items) h.ends h.places in
      let grown = places_grow m v.watch.attempts.items (flat_map (λ (x : Visit). x.attempts) c.visits) ws v.watch.records.items (map (λ (x : Visit). x.made) c.visits) 0 cs v.currents.items low h.visits old in
      let one : AllZip (PlaceAt m w.watch.attempts.items ws w.watch.records.items) (ends_from 0 cs) v.currents.items =
      subst (λ l. AllZip (PlaceAt m l ws w.watch.records.items) (ends_from 0 cs) v.currents.items) (sym k.kept.attempts)
      (subst (λ l. AllZip (PlaceAt m (v.watch.attempts.items ++ flat_map (λ (x : Visit). x.attempts) c.visits) ws l) (ends_from 0 cs) v.currents.items) (sym k.kept.records) grown) in
      let two : AllZip (PlaceAt m w.watch.attempts.items (at_first m w.watch.tsc_unstable) w.watch.records.items) (ends_from 0 cs) v.currents.items =
      subst (λ b. AllZip (PlaceAt m w.watch.attempts.items (at_first m b) w.watch.records.items) (ends_from 0 cs) v.currents.items) (sym k.lost) one in
      let all : take (length w.watch.records.items) w.watch.records.items ≡ w.watch.records.items = take_all (length w.watch.records.items) w.watch.records.items (omega arith) in
      let kept : IsCurrent (ratings_of m (watch_after w.watch.attempts.items (at_first m w.watch.tsc_unstable) w.watch.records.items)) c.current =
      subst (λ (x : Plan). IsCurrent (ratings_of m (watch_after w.watch.attempts.items (at_first x w.watch.tsc_unstable) w.watch.records.items)) c.current) watched k.current in
      let here : PlaceAt m w.watch.attempts.items (at_first m w.watch.tsc_unstable) w.watch.records.items (length w.watch.records.items) c.current =
      subst (λ l. IsCurrent (ratings_of m (watch_after w.watch.attempts.items (at_first m w.watch.tsc_unstable) l)) c.current) (sym all) kept in
      subst (λ l. AllZip (PlaceAt m w.watch.attempts.items (at_first m w.watch.tsc_unstable) w.watch.records.items) l w.currents.items) (sym ends_now)
      (subst (λ l. AllZip (PlaceAt m w.watch.attempts.items (at_first m w.watch.tsc_unstable) w.watch.records.items) (ends_from 0 cs ++ length w.watch.records.items ∷ []) l) (sym k.currents)
      (AllZip-push (PlaceAt m w.watch.attempts.items (at_first m w.watch.tsc_unstable) w.watch.records.items) (ends_from 0 cs) v.currents.items (length w.watch.records.items) c.current two here))

  pub demoted_now : (number : ℕ) (start : Start) (cpus : ℕ) → length cs ≡ n → KeepsDemotion number start n cpus v c.visits w
      → EachFrom (λ i x. All (λ y. is_some y.demotion ≡ true → w.demoted_in ≡ i) x.visits) 0 (cs ++ c ∷ [])
  demoted_now number start cpus count d =
      let P : ℕ → Check → Type 0 = λ i x. All (λ y. is_some y.demotion ≡ true → w.demoted_in ≡ i) x.visits in
      let here : P n c = subst (λ k. All (λ (y : Visit). is_some y.demotion ≡ true → k ≡ n) c.visits) (sym d.demoted_in) (demoted_each n v.demoted_in c.visits) in
      each_push P 0 cs c (by now h.called k.kept.called) (subst (λ i. P i c) (let e : n ≡ 0 + length cs = omega (arith, count) in e) here)
    where
      by : (b : Bool) → AreCalled stable (visits_in cs) b → AreCalled b c.visits after → EachFrom (λ i x. All (λ y. is_some y.demotion ≡ true → w.demoted_in ≡ i) x.visits) 0 cs
      by true called later = each_vacuous w.demoted_in 0 cs (called_still stable (visits_in cs) called)
      by false called later =
          let same : w.demoted_in ≡ v.demoted_in = d.demoted_in ∙ demoted_none n v.demoted_in c.visits (called_never after c.visits later).1 in
          subst (λ k. EachFrom (λ i (x : Check). All (λ (y : Visit). is_some y.demotion ≡ true → k ≡ i) x.visits) 0 cs) (sym same) h.demoted_in

  pub lifts_now : (z : Site) (began : Known) → KeepsLifts z began v v.demotion
      → KeepsDemotion began.view.number began.view.start n (cpu_count z.machine) v c.visits w → KeepsLifts z began w w.demotion
  lifts_now z began before d = by now h.called k.kept.called
    where
      by : (b : Bool) → AreCalled stable (visits_in cs) b → AreCalled b c.visits after → KeepsLifts z began w w.demotion
      by true called later =
          let none_before : listed v.demotion ≡ [] = h.demotion ∙ none_flat (visits_in cs) (called_still stable (visits_in cs) called) in
          let e : listed w.demotion ≡ flat_map (λ (x : Visit). listed x.demotion) c.visits =
          k.kept.demotion ∙ ap (λ l. l ++ flat_map (λ (x : Visit). listed x.demotion) c.visits) none_before in
          lifts_first z began n v w c.visits w.demotion none_before before d e
      by false called later =
          let none_here = (called_never after c.visits later).1 in
          let same : w.demotion ≡ v.demotion =
          listed_same w.demotion v.demotion (k.kept.demotion ∙ ap (λ l. listed v.demotion ++ l) (none_flat c.visits none_here) ∙ append-nil (listed v.demotion)) in
          let lifts : w.lifts.items ≡ v.lifts.items =
          d.lifts ∙ ap (λ l. v.lifts.items ++ l) (none_lifts began.view.number began.view.start n (cpu_count z.machine) c.visits none_here) ∙ append-nil v.lifts.items in
          let number : w.demoted_in ≡ v.demoted_in = d.demoted_in ∙ demoted_none n v.demoted_in c.visits none_here in
          subst (KeepsLifts z began w) (sym same) (lifts_still z began v w v.demotion lifts number before)

  pub checks_kept : w.watch.machine ≡ m → (number : ℕ) (start : Start) (cpus : ℕ) → length cs ≡ n → KeepsDemotion number start n cpus v c.visits w
      → KeepsChecks m stable (cs ++ c ∷ []) after w
  checks_kept watched number start cpus count d = record {
    attempts = told_more (λ x. x.attempts) v.watch.attempts.items w.watch.attempts.items cs c h.attempts k.kept.attempts;
    records = records_now;
    named =
        subst (λ l. AreNamed 0 l (length w.watch.attempts.items)) (sym (visits_push cs c))
        (named_both 0 (length v.watch.attempts.items) (length w.watch.attempts.items) (visits_in cs) c.visits h.named k.kept.named);
    stamps = told_more (λ x. listed x.stamp) v.stamps.items w.stamps.items cs c h.stamps k.kept.stamps;
    demotion = told_more (λ x. listed x.demotion) (listed v.demotion) (listed w.demotion) cs c h.demotion k.kept.demotion;
    called = subst (λ l. AreCalled stable l after) (sym (visits_push cs c)) (called_both stable now after (visits_in cs) c.visits h.called k.kept.called);
    pauses = k.pauses ∙ ap (λ l. l ++ c.ticket ∷ []) h.pauses ∙ sym (map-append (λ (x : Check). x.ticket) cs (c ∷ []));
    ends = ends_now ∙ ap (λ i. ends_from 0 cs ++ i ∷ []) records_count ∙ sym (ends_push 0 cs c);
    currents = k.currents ∙ ap (λ l. l ++ c.current ∷ []) h.currents ∙ sym (map-append (λ (x : Check). x.current) cs (c ∷ []));
    passes = All-push (λ x. IsPass 0 (length m.source) (map (λ y. y.made) x.visits)) cs c h.passes k.passes;
    visits = k.visits;
    places = places_now watched;
    demoted_in = demoted_now number start cpus count d;
  }

-- ---- the watcher

pub made_more : (s : Shared) (began : WatchParts) (stable lost : Bool) (n : ℕ) (p q : WatchParts) (now after : Bool) (v w : WatchTrace) → n < checks_asked s.machine.watchdog
    → HasMade s began stable lost n p now v → MakesAt s n p now v q after w → HasMade s began stable lost (n + 1) q after w
made_more s began stable lost n p q now after v w low h made =
    let site : site_at s p ≡ site_at s began = ap (λ x. record { machine = s.machine; adjusts = s.adjusts.items; sched_offset = x }) h.sched_offset in
    let same = same_watch (site_at s began) 0 (has began) (has p) h.checks h.watches in
    let demotes : KeepsDemotion began.seat.view.number began.seat.view.start n (cpu_count s.machine) v made.check.visits w =
    subst (λ i. KeepsDemotion i began.seat.view.start n (cpu_count s.machine) v made.check.visits w) same.number
    (subst (λ x. KeepsDemotion p.seat.view.number x n (cpu_count s.machine) v made.check.visits w) same.start made.demotes) in
    let at : WatchesCheck (site_at s began) (0 + length h.checks) (has p) made.check (has q) =
    subst (λ i. WatchesCheck (site_at s began) i (has p) made.check (has q)) (let count = h.count in let e : n ≡ 0 + length h.checks = omega (arith, count) in e)
    (subst (λ z. WatchesCheck z n (has p) made.check (has q)) site made.watches) in
    record {
      within = omega (arith, low);
      checks = h.checks ++ made.check ∷ [];
      count = let count = h.count in omega (arith, count, length-append h.checks (made.check ∷ []));
      kept = checks_kept s.machine stable now after n h.checks made.check v w h.kept made.kept made.serves.watched began.seat.view.number began.seat.view.start (cpu_count s.machine) h.count demotes;
      watches = watches_push (site_at s began) 0 (has began) (has p) (has q) h.checks made.check h.watches at;
      lifts = lifts_now s.machine stable now after n h.checks made.check v w h.kept made.kept (site_at s began) (has began) h.lifts demotes;
      sched_offset = made.sched_offset ∙ h.sched_offset;
      lost_is = made.kept.lost ∙ h.lost_is;
      thread = made.kept.thread ∙ h.thread;
      serves = made.serves;
      enough = enough_after s.machine n p.time q.time v w low h.enough made.uses;
      if_stable = made.if_stable;
    }

pub going_more : (s : Shared) (first v w : Hand) (p q : WatchParts) → v.parts ≡ Some p → w.parts ≡ Some q → w.next ≡ v.next + 1 → v.next < checks_asked s.machine.watchdog
    → MakesAt s v.next p v.stable v.trace q w.stable w.trace → IsGoing s first v → IsGoing s first w
going_more s first v w p q seats now next low made going =
    let same : going.parts ≡ p = (let e : Some going.parts ≡ Some p = sym going.parts_is ∙ seats in cc) in
    let before = subst (λ (x : WatchParts). HasMade s going.began first.stable first.trace.watch.tsc_unstable v.next x v.stable v.trace) same going.made in
    let more = made_more s going.began first.stable first.trace.watch.tsc_unstable v.next p q v.stable w.stable v.trace w.trace low before made in
    record {
      began = going.began;
      began_is = going.began_is;
      parts = q;
      parts_is = now;
      made = subst (λ i. HasMade s going.began first.stable first.trace.watch.tsc_unstable i q w.stable w.trace) (sym next) more;
    }

pub makes_check : (s : Shared) (number : ℕ) (v w : Hand) (p q : WatchParts) → number ≡ v.next → v.parts ≡ Some p → w.parts ≡ Some q → w.next ≡ number + 1
    → number < checks_asked s.machine.watchdog → MakesAt s number p v.stable v.trace q w.stable w.trace → MakesCheck s number v w
makes_check s number v w p q at seats now next low made = record {
  next = next;
  check = made.check;
  kept = made.kept;
  went = λ first going.
      going_more s first v w p q seats now (next ∙ ap (λ i. i + 1) at) (subst (λ i. i < checks_asked s.machine.watchdog) at low)
      (subst (λ i. MakesAt s i p v.stable v.trace q w.stable w.trace) at made) going;
}

-- ---- what a watcher's standing tells

pub belongs_on : (s : Shared) (v w : Hand) → BelongsTo s v → WentOn s v w → BelongsTo s w
belongs_on s v w b went = (b.0, went b.0 b.1)

-- from v to w, whose next check is n
pub record RunsTo (s : Shared) (v : Hand) (n : ℕ) (w : Hand) : Type 0 where
  pub next : w.next ≡ n
  pub went : WentOn s v w

pub runs_on : (s : Shared) (v w u : Hand) (n : ℕ) → RunsTo s v n w → MakesCheck s n w u → RunsTo s v (n + 1) u
runs_on s v w u n r made = record { next = made.next; went = λ first going. made.went first (r.went first going) }

-- what it stands on, by the parts that it has
pub record StandsOn (s : Shared) (h : Hand) (p : WatchParts) : Type 0 where
  pub serves : SeatsServe s p h.trace
  pub enough : HasEnough s.machine (checks_left s.machine h.next) p.time h.trace
  pub if_stable : h.stable ≡ true → IsStable s p h.trace

pub stands_on : (s : Shared) (h : Hand) (p : WatchParts) → h.parts ≡ Some p → BelongsTo s h → StandsOn s h p
stands_on s h p is b =
    let going = b.1 in
    let same : going.parts ≡ p = (let e : Some going.parts ≡ Some p = sym going.parts_is ∙ is in cc) in
    subst (StandsOn s h) same (record { serves = going.made.serves; enough = going.made.enough; if_stable = going.made.if_stable })

-- ---- how it begins

watch_checks : (m : Plan) (w : Option WatchPart) → IfThere IsWatch w → checks_asked w ≤ 4096
watch_checks m None h = omega arith
watch_checks m (Some w) h = h.checks.2

few_visits : (m : Plan) → IsWithinLimits m → most_visits m ≤ 2 ^ 16
few_visits m l =
    let checks = watch_checks m m.watchdog l.ranges.watchdog in
    let sources = l.ranges.sources in
    let most : checks_asked m.watchdog * length m.source ≤ 4096 * 8 = mul-le-mul checks sources in
    omega (arith, most)

all_tickets : (m : Plan) → checks_asked m.watchdog * check_tickets m ≡ watch_tickets m m.watchdog
all_tickets m = by m.watchdog refl
  where
    by : (w : Option WatchPart) → m.watchdog ≡ w → checks_asked m.watchdog * check_tickets m ≡ watch_tickets m m.watchdog
    by None e = rw e (let z : 0 * (0 + length m.source * ((0 + 1) * 4) + 2) ≡ 0 = omega arith in z)
    by (Some w) e = rw e refl

pub begins : (p : WatchParts) (w : WatchTrace) (stable : Bool) → Begins p w stable (record { parts = Some p; next = 0; stable = stable; trace = w })
begins p w stable s may =
    let m = s.machine in
    let empty = may.empty in
    let lost = w.watch.tsc_unstable in
    let attempts : w.watch.attempts.items ≡ [] = ap (λ (x : Watching). x.attempts.items) may.watch in
    let records : w.watch.records.items ≡ [] = ap (λ (x : Watching). x.records.items) may.watch in
    let left : checks_left m 0 ≡ checks_asked m.watchdog = omega arith in
    let attempts_room : w.watch.attempts.room ≡ most_visits m * (retries_of m + 1) = ap (λ (x : Watching). x.attempts.room) may.watch in
    let records_room : w.watch.records.room ≡ most_visits m = ap (λ (x : Watching). x.records.room) may.watch in
    let tickets = may.tickets in
    let stamps = may.stamps in
    let pauses = may.pauses in
    let ends = may.ends in
    let currents = may.currents in
    let few = few_visits m may.limits in
    record {
      began = p;
      began_is = refl;
      parts = p;
      parts_is = refl;
      made = record {
        within = omega arith;
        checks = [];
        count = refl;
        kept = record {
          attempts = attempts;
          records = records;
          named = sym (ap length attempts);
          stamps = empty.stamps;
          demotion = ap listed empty.demotion;
          called = refl;
          pauses = empty.pauses;
          ends = empty.ends;
          currents = empty.currents;
          passes = All-nil _;
          visits = subst (λ l. AreVisits m w.watch.attempts.items (at_first m lost) l) (sym records) tt;
          places =
              subst (λ l. AllZip (PlaceAt m w.watch.attempts.items (at_first m lost) w.watch.records.items) l w.currents.items) (sym empty.ends)
              (subst (λ l. AllZip (PlaceAt m w.watch.attempts.items (at_first m lost) w.watch.records.items) [] l) (sym empty.currents) tt);
          demoted_in = tt;
        };
        watches = refl;
        lifts = subst (KeepsLifts (site_at s p) (has p) w) (sym empty.demotion) (empty.lifts, empty.demoted_in);
        sched_offset = refl;
        lost_is = refl;
        thread = may.thread;
        serves = record {
          limits = may.limits;
          cpus = may.cpus;
          latches = may.latches;
          adjusts = may.adjusts;
          near = may.near;
          of_words = may.of_words;
          of_latches = may.of_latches;
          of_tickets = may.of_tickets;
          watched = ap (λ (x : Watching). x.machine) may.watch;
          few = let none = ap length records in omega (arith, few, none, records_room);
        };
        enough = subst (λ k. HasEnough m k p.time w) (sym left) (record {
          tickets = rw (all_tickets m) tickets;
          attempts = rw attempts_room (let e = mul_assoc (checks_asked m.watchdog) (length m.source) (retries_of m + 1) in omega (arith, e));
          records = rw records_room (omega arith);
          stamps = stamps;
          pauses = pauses;
          ends = ends;
          currents = currents;
        });
        if_stable = may.if_stable;
      };
    }
