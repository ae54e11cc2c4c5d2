-- The demotion among the visits of a watchdog: with none its seat at the words stays as it is, and with one it does
-- before it and after it.
use Rattle.std.proofs.Common.{◌≡◌, ℕ, ◌+◌, true, List, [], ◌∷◌, ◌++◌, ap, ◌∙◌, sym, refl, subst, append_assoc, append-nil, ◌⊎◌, inl, inr, ⊎_elim, Option, Some, None}
use Rattle.std.specs.Prelude.{is_some}
use Rattle.std.specs.List.{All}
use Rattle.std.proofs.lemmas.List.Elements.{All-head, All-tail}
use Rattle.std.proofs.lemmas.Grind.{flat_map-append}
use Rattle.clk_base.specs.Walk.{EachFrom}
use Rattle.clk_record.specs.declared.stable.StableStamp.{StableStamp}
use Rattle.clk_record.specs.declared.stable.Demotion.{Demotion}
use Rattle.clk_lawful.specs.Checks.{Visit, Check, listed}
use Rattle.clk_lawful.specs.RightReadings.{check_cpu}
use Rattle.clk_demote.specs.Context.{Site, Known}
use Rattle.clk_demote.specs.Shows.{ShowsDemotion}
use Rattle.clk_watcher.specs.Checking.{DemotesAt, WatchesVisit, WatchesVisits, WatchesCheck, Watches}
use Rattle.clk_watcher.proofs.LawStamps.{visits_in, stamps_of, demotions_of, GoesBy, goes_none, goes_then, stamped_goes, visit_goes, check_goes, Stays, stays_same, stays_then, stamped_stays, pause_stays}

-- ---- lists of one

one_first : {A : Type 0} (x d : A) (xs : List A) → x ∷ xs ≡ d ∷ [] → (x ≡ d) × (xs ≡ [])
one_first x d xs e = (cc e, cc e)

none_both : {A : Type 0} (xs ys : List A) → xs ++ ys ≡ [] → (xs ≡ []) × (ys ≡ [])
none_both [] ys e = (refl, e)
none_both (x ∷ xs) ys e = absurd (cc e)

-- the one item is in the first list or in the second
pub record InFirst {A : Type 0} (d : A) (xs ys : List A) : Type 0 where
  pub here : xs ≡ d ∷ []
  pub rest : ys ≡ []

pub record InSecond {A : Type 0} (d : A) (xs ys : List A) : Type 0 where
  pub before : xs ≡ []
  pub there : ys ≡ d ∷ []

one_of : {A : Type 0} (d : A) (xs ys : List A) → xs ++ ys ≡ d ∷ [] → InFirst d xs ys ⊎ InSecond d xs ys
one_of d [] ys e = inr (record { before = refl; there = e })
one_of d (x ∷ xs) ys e =
    let split = one_first x d (xs ++ ys) e in
    let none = none_both xs ys split.1 in
    inl (record { here = cc (split.0, none.0); rest = none.1 })

-- ---- none

none_stays : (z : Site) (cpu check : ℕ) (v : Known) (d : Option Demotion) (w : Known) → DemotesAt z cpu check v d w → listed d ≡ [] → Stays v.view w.view
none_stays z cpu check v None w h e = stays_same v.view w.view (ap (λ (k : Known). k.view) (sym h))
none_stays z cpu check v (Some d) w h e = absurd (cc e)

visit_stays : (z : Site) (cpu check : ℕ) (v : Known) (visit : Visit) (w : Known) → WatchesVisit z cpu check v visit w → listed visit.demotion ≡ [] → Stays v.view w.view
visit_stays z cpu check v visit w h e =
    stays_then v.view h.1.view w.view (stamped_stays z cpu check v visit w h) (none_stays z cpu check h.1 visit.demotion w h.4 e)

visits_stay : (z : Site) (cpu check : ℕ) (v : Known) (visits : List Visit) (w : Known) → WatchesVisits z cpu check v visits w → demotions_of visits ≡ [] → Stays v.view w.view
visits_stay z cpu check v [] w h e = stays_same v.view w.view (ap (λ (k : Known). k.view) (sym h))
visits_stay z cpu check v (visit ∷ visits) w h e =
    let none = none_both (listed visit.demotion) (demotions_of visits) e in
    stays_then v.view h.0.view w.view (visit_stays z cpu check v visit h.0 h.1 none.0) (visits_stay z cpu check h.0 visits w h.2 none.1)

check_stays : (z : Site) (number : ℕ) (v : Known) (c : Check) (w : Known) → WatchesCheck z number v c w → demotions_of c.visits ≡ [] → Stays v.view w.view
check_stays z number v c w h e =
    stays_then v.view h.0.view w.view (pause_stays z number v c w h) (visits_stay z (check_cpu z.machine number) number h.0 c.visits w h.2 e)

-- the demotions of a check, and then those of the others
demotions_both : (c : Check) (checks : List Check) → demotions_of (visits_in (c ∷ checks)) ≡ demotions_of c.visits ++ demotions_of (visits_in checks)
demotions_both c checks = flat_map-append (λ (x : Visit). listed x.demotion) c.visits (visits_in checks)

pub watches_stay : (z : Site) (number : ℕ) (v : Known) (checks : List Check) (w : Known) → Watches z number v checks w → demotions_of (visits_in checks) ≡ [] → Stays v.view w.view
watches_stay z number v [] w h e = stays_same v.view w.view (ap (λ (k : Known). k.view) (sym h))
watches_stay z number v (c ∷ checks) w h e =
    let none = none_both (demotions_of c.visits) (demotions_of (visits_in checks)) (sym (demotions_both c checks) ∙ e) in
    stays_then v.view h.0.view w.view (check_stays z number v c h.0 h.1 none.0) (watches_stay z (number + 1) h.0 checks w h.2 none.1)

-- ---- one

-- among these visits one took this demotion, in the check n; the seats were like this before it and after it
pub record Demoted (z : Site) (n : ℕ) (v : Known) (visits : List Visit) (w : Known) (d : Demotion) : Type 0 where
  pub front : List Visit
  pub visit : Visit
  pub back : List Visit
  pub visits_are : visits ≡ front ++ visit ∷ back
  pub is : visit.demotion ≡ Some d
  pub cpu : ℕ
  pub before : Known
  pub after : Known
  pub goes : GoesBy z.sched_offset v (stamps_of front ++ listed visit.stamp) before
  pub stays : Stays v.view before.view
  pub shows : ShowsDemotion z cpu n before d after
  pub stays_after : Stays after.view w.view

-- visits before them, or after them
later : (z : Site) (n : ℕ) (u v w : Known) (first visits : List Visit) (d : Demotion) → GoesBy z.sched_offset u (stamps_of first) v → Stays u.view v.view
    → Demoted z n v visits w d → Demoted z n u (first ++ visits) w d
later z n u v w first visits d goes stays h =
    record {
      front = first ++ h.front;
      visit = h.visit;
      back = h.back;
      visits_are = ap (λ (xs : List Visit). first ++ xs) h.visits_are ∙ sym (append_assoc first h.front (h.visit ∷ h.back));
      is = h.is;
      cpu = h.cpu;
      before = h.before;
      after = h.after;
      goes = subst (λ ss. GoesBy z.sched_offset u ss h.before)
          (sym (append_assoc (stamps_of first) (stamps_of h.front) (listed h.visit.stamp))
          ∙ ap (λ (ss : List StableStamp). ss ++ listed h.visit.stamp) (sym (flat_map-append (λ (x : Visit). listed x.stamp) first h.front)))
          (goes_then z.sched_offset u v h.before (stamps_of first) (stamps_of h.front ++ listed h.visit.stamp) goes h.goes);
      stays = stays_then u.view v.view h.before.view stays h.stays;
      shows = h.shows;
      stays_after = h.stays_after;
    }

earlier : (z : Site) (n : ℕ) (u v w : Known) (visits last : List Visit) (d : Demotion) → Demoted z n u visits v d → Stays v.view w.view → Demoted z n u (visits ++ last) w d
earlier z n u v w visits last d h stays =
    record {
      front = h.front;
      visit = h.visit;
      back = h.back ++ last;
      visits_are = ap (λ (xs : List Visit). xs ++ last) h.visits_are ∙ append_assoc h.front (h.visit ∷ h.back) last;
      is = h.is;
      cpu = h.cpu;
      before = h.before;
      after = h.after;
      goes = h.goes;
      stays = h.stays;
      shows = h.shows;
      stays_after = stays_then h.after.view v.view w.view h.stays_after stays;
    }

shows_one : (z : Site) (cpu check : ℕ) (v : Known) (o : Option Demotion) (w : Known) (d : Demotion) → DemotesAt z cpu check v o w → listed o ≡ d ∷ []
    → (o ≡ Some d) × ShowsDemotion z cpu check v d w
shows_one z cpu check v None w d h e = absurd (cc e)
shows_one z cpu check v (Some o) w d h e =
    let same = (one_first o d [] e).0 in
    (ap (λ (x : Demotion). Some x) same, subst (λ (x : Demotion). ShowsDemotion z cpu check v x w) same h)

-- in the check of this number
visit_demotes : (z : Site) (cpu check n : ℕ) (v : Known) (visit : Visit) (w : Known) (d : Demotion) → WatchesVisit z cpu check v visit w → listed visit.demotion ≡ d ∷ []
    → (is_some visit.demotion ≡ true → n ≡ check) → Demoted z n v (visit ∷ []) w d
visit_demotes z cpu check n v visit w d h e named =
    let one = shows_one z cpu check h.1 visit.demotion w d h.4 e in
    let number : n ≡ check = named (ap is_some one.0) in
    record {
      front = [];
      visit = visit;
      back = [];
      visits_are = refl;
      is = one.0;
      cpu = cpu;
      before = h.1;
      after = w;
      goes = stamped_goes z cpu check v visit w h;
      stays = stamped_stays z cpu check v visit w h;
      shows = subst (λ k. ShowsDemotion z cpu k h.1 d w) (sym number) one.1;
      stays_after = stays_same w.view w.view refl;
    }

abbrev NamedIn : ℕ → ℕ → Visit → Type 0
NamedIn n check v = is_some v.demotion ≡ true → n ≡ check

visits_demote : (z : Site) (cpu check n : ℕ) (v : Known) (visits : List Visit) (w : Known) (d : Demotion) → WatchesVisits z cpu check v visits w → demotions_of visits ≡ d ∷ []
    → All (NamedIn n check) visits → Demoted z n v visits w d
visits_demote z cpu check n v [] w d h e named = absurd (cc e)
visits_demote z cpu check n v (visit ∷ visits) w d h e named =
    ⊎_elim
    (λ (first : InFirst d (listed visit.demotion) (demotions_of visits)).
    earlier z n v h.0 w (visit ∷ []) visits d (visit_demotes z cpu check n v visit h.0 d h.1 first.here (All-head (NamedIn n check) visit visits named))
    (visits_stay z cpu check h.0 visits w h.2 first.rest))
    (λ (second : InSecond d (listed visit.demotion) (demotions_of visits)).
    later z n v h.0 w (visit ∷ []) visits d
    (subst (λ ss. GoesBy z.sched_offset v ss h.0) (sym (append-nil (listed visit.stamp))) (visit_goes z cpu check v visit h.0 h.1))
    (visit_stays z cpu check v visit h.0 h.1 second.before)
    (visits_demote z cpu check n h.0 visits w d h.2 second.there (All-tail (NamedIn n check) visit visits named)))
    (one_of d (listed visit.demotion) (demotions_of visits) e)

check_demotes : (z : Site) (number n : ℕ) (v : Known) (c : Check) (w : Known) (d : Demotion) → WatchesCheck z number v c w → demotions_of c.visits ≡ d ∷ []
    → All (NamedIn n number) c.visits → Demoted z n v c.visits w d
check_demotes z number n v c w d h e named =
    later z n v h.0 w [] c.visits d
    (goes_none z.sched_offset v h.0 (ap (λ (k : Known). k.last) h.1.rest) (ap (λ (k : Known). k.gtod_offset) h.1.rest)) (pause_stays z number v c w h)
    (visits_demote z (check_cpu z.machine number) number n h.0 c.visits w d h.2 e named)

pub watches_demote : (z : Site) (number n : ℕ) (v : Known) (checks : List Check) (w : Known) (d : Demotion) → Watches z number v checks w
    → demotions_of (visits_in checks) ≡ d ∷ [] → EachFrom (λ k c. All (λ v. is_some v.demotion ≡ true → n ≡ k) c.visits) number checks
    → Demoted z n v (visits_in checks) w d
watches_demote z number n v [] w d h e named = absurd (cc e)
watches_demote z number n v (c ∷ checks) w d h e named =
    ⊎_elim
    (λ (first : InFirst d (demotions_of c.visits) (demotions_of (visits_in checks))).
    earlier z n v h.0 w c.visits (visits_in checks) d (check_demotes z number n v c h.0 d h.1 first.here named.0)
    (watches_stay z (number + 1) h.0 checks w h.2 first.rest))
    (λ (second : InSecond d (demotions_of c.visits) (demotions_of (visits_in checks))).
    later z n v h.0 w c.visits (visits_in checks) d (check_goes z number v c h.0 h.1) (check_stays z number v c h.0 h.1 second.before)
    (watches_demote z (number + 1) n h.0 checks w d h.2 second.there named.1))
    (one_of d (demotions_of c.visits) (demotions_of (visits_in checks)) (sym (demotions_both c checks) ∙ e))
