-- The stable stamps of a watchdog: each has its offset, and the watchdog goes by the last one. What its seat at the
-- words knows stays as it is until the demotion.
use Rattle.std.proofs.Common.{◌≡◌, ℕ, ◌+◌, ℤ, List, [], ◌∷◌, ◌++◌, ap, ◌∙◌, sym, refl, subst, Option, Some, None}
use Rattle.std.specs.List.{All, flat_map}
use Rattle.std.proofs.lemmas.List.Elements.{All-nil, All-cons, All-append}
use Rattle.std.proofs.lemmas.Grind.{flat_map-append}
use Rattle.clk_record.specs.declared.stable.StableStamp.{StableStamp}
use Rattle.clk_record.specs.declared.stable.Demotion.{Demotion}
use Rattle.clk_words.specs.declared.view.View.{View}
use Rattle.clk_lawful.specs.Checks.{Visit, Check, listed}
use Rattle.clk_lawful.specs.Demoted.{HasOffset, last_stamp}
use Rattle.clk_demote.specs.Context.{Site, Known}
use Rattle.clk_watcher.specs.Checking.{StampsAt, DemotesAt, WatchesVisit, WatchesVisits, WatchesCheck, Watches}

-- the visits of some checks, and what they took
abbrev pub visits_in : List Check → List Visit
visits_in checks = flat_map (λ c. c.visits) checks

abbrev pub stamps_of : List Visit → List StableStamp
stamps_of visits = flat_map (λ v. listed v.stamp) visits

abbrev pub demotions_of : List Visit → List Demotion
demotions_of visits = flat_map (λ v. listed v.demotion) visits

-- ---- the last stamp

last_both : (s : StableStamp) (xs ys : List StableStamp) → last_stamp s (xs ++ ys) ≡ last_stamp (last_stamp s xs) ys
last_both s [] ys = refl
last_both s (x ∷ xs) ys = last_both x xs ys

-- these stamps were taken, each with its offset, and the last is gone by
pub record GoesBy (sched_offset : ℤ) (v : Known) (stamps : List StableStamp) (w : Known) : Type 0 where
  pub offsets : All (HasOffset sched_offset) stamps
  pub last : w.last ≡ last_stamp v.last stamps
  pub offset : v.gtod_offset ≡ v.last.offset → w.gtod_offset ≡ w.last.offset

pub goes_none : (sched_offset : ℤ) (v w : Known) → w.last ≡ v.last → w.gtod_offset ≡ v.gtod_offset → GoesBy sched_offset v [] w
goes_none sched_offset v w last offset =
    record { offsets = All-nil (HasOffset sched_offset); last = last; offset = λ e. offset ∙ e ∙ ap (λ (s : StableStamp). s.offset) (sym last) }

pub goes_same : (sched_offset : ℤ) (v w : Known) → v ≡ w → GoesBy sched_offset v [] w
goes_same sched_offset v w same = goes_none sched_offset v w (ap (λ (k : Known). k.last) (sym same)) (ap (λ (k : Known). k.gtod_offset) (sym same))

pub goes_then : (sched_offset : ℤ) (u v w : Known) (xs ys : List StableStamp) → GoesBy sched_offset u xs v → GoesBy sched_offset v ys w → GoesBy sched_offset u (xs ++ ys) w
goes_then sched_offset u v w xs ys g h =
    record {
      offsets = All-append (HasOffset sched_offset) xs ys g.offsets h.offsets;
      last = h.last ∙ ap (λ (s : StableStamp). last_stamp s ys) g.last ∙ sym (last_both u.last xs ys);
      offset = λ e. h.offset (g.offset e);
    }

stamp_goes : (z : Site) (cpu : ℕ) (v : Known) (s : Option StableStamp) (w : Known) → StampsAt z cpu v s w → GoesBy z.sched_offset v (listed s) w
stamp_goes z cpu v None w h = goes_same z.sched_offset v w h
stamp_goes z cpu v (Some s) w h =
    record {
      offsets = All-cons (HasOffset z.sched_offset) s [] h.offset_is (All-nil (HasOffset z.sched_offset));
      last = h.last_now;
      offset = λ e. h.offset_now ∙ ap (λ (x : StableStamp). x.offset) (sym h.last_now);
    }

demotion_goes : (z : Site) (cpu check : ℕ) (v : Known) (d : Option Demotion) (w : Known) → DemotesAt z cpu check v d w → GoesBy z.sched_offset v [] w
demotion_goes z cpu check v None w h = goes_same z.sched_offset v w h
demotion_goes z cpu check v (Some d) w h = goes_none z.sched_offset v w h.last_now h.offset_now

-- to where a visit's stamp was taken, if it took one
pub stamped_goes : (z : Site) (cpu check : ℕ) (v : Known) (visit : Visit) (w : Known) (h : WatchesVisit z cpu check v visit w) → GoesBy z.sched_offset v (listed visit.stamp) h.1
stamped_goes z cpu check v visit w h =
    goes_then z.sched_offset v h.0 h.1 [] (listed visit.stamp)
    (goes_none z.sched_offset v h.0 (ap (λ (k : Known). k.last) h.2.rest) (ap (λ (k : Known). k.gtod_offset) h.2.rest)) (stamp_goes z cpu h.0 visit.stamp h.1 h.3)

-- with no stamp after them
goes_on : (sched_offset : ℤ) (u v w : Known) (xs : List StableStamp) → GoesBy sched_offset u xs v → GoesBy sched_offset v [] w → GoesBy sched_offset u xs w
goes_on sched_offset u v w xs g h = record { offsets = g.offsets; last = h.last ∙ g.last; offset = λ e. h.offset (g.offset e) }

pub visit_goes : (z : Site) (cpu check : ℕ) (v : Known) (visit : Visit) (w : Known) → WatchesVisit z cpu check v visit w → GoesBy z.sched_offset v (listed visit.stamp) w
visit_goes z cpu check v visit w h =
    goes_on z.sched_offset v h.1 w (listed visit.stamp) (stamped_goes z cpu check v visit w h) (demotion_goes z cpu check h.1 visit.demotion w h.4)

pub visits_go : (z : Site) (cpu check : ℕ) (v : Known) (visits : List Visit) (w : Known) → WatchesVisits z cpu check v visits w → GoesBy z.sched_offset v (stamps_of visits) w
visits_go z cpu check v [] w h = goes_same z.sched_offset v w h
visits_go z cpu check v (visit ∷ visits) w h =
    goes_then z.sched_offset v h.0 w (listed visit.stamp) (stamps_of visits) (visit_goes z cpu check v visit h.0 h.1) (visits_go z cpu check h.0 visits w h.2)

pub check_goes : (z : Site) (number : ℕ) (v : Known) (c : Check) (w : Known) → WatchesCheck z number v c w → GoesBy z.sched_offset v (stamps_of c.visits) w
check_goes z number v c w h =
    goes_then z.sched_offset v h.0 w [] (stamps_of c.visits)
    (goes_none z.sched_offset v h.0 (ap (λ (k : Known). k.last) h.1.rest) (ap (λ (k : Known). k.gtod_offset) h.1.rest)) (visits_go z _ number h.0 c.visits w h.2)

pub watches_go : (z : Site) (number : ℕ) (v : Known) (checks : List Check) (w : Known) → Watches z number v checks w → GoesBy z.sched_offset v (stamps_of (visits_in checks)) w
watches_go z number v [] w h = goes_same z.sched_offset v w h
watches_go z number v (c ∷ checks) w h =
    subst (λ ss. GoesBy z.sched_offset v ss w) (sym (flat_map-append (λ (x : Visit). listed x.stamp) c.visits (visits_in checks)))
    (goes_then z.sched_offset v h.0 w (stamps_of c.visits) (stamps_of (visits_in checks)) (check_goes z number v c h.0 h.1) (watches_go z (number + 1) h.0 checks w h.2))

-- ---- the seat at the words

-- it is the same seat, which made and saw nothing, found nothing of the mode, and knows the same of the stamp words
pub record Stays (v w : View) : Type 0 where
  pub number : w.number ≡ v.number
  pub start : w.start ≡ v.start
  pub mine : w.mine ≡ v.mine
  pub seen : w.seen ≡ v.seen
  pub found : w.modes.found ≡ v.modes.found
  pub offset : w.modes.offset ≡ v.modes.offset
  pub pairs : w.pairs ≡ v.pairs

pub stays_same : (v w : View) → w ≡ v → Stays v w
stays_same v w same =
    record {
      number = ap (λ (x : View). x.number) same;
      start = ap (λ (x : View). x.start) same;
      mine = ap (λ (x : View). x.mine) same;
      seen = ap (λ (x : View). x.seen) same;
      found = ap (λ (x : View). x.modes.found) same;
      offset = ap (λ (x : View). x.modes.offset) same;
      pairs = ap (λ (x : View). x.pairs) same;
    }

pub stays_then : (u v w : View) → Stays u v → Stays v w → Stays u w
stays_then u v w g h =
    record {
      number = h.number ∙ g.number;
      start = h.start ∙ g.start;
      mine = h.mine ∙ g.mine;
      seen = h.seen ∙ g.seen;
      found = h.found ∙ g.found;
      offset = h.offset ∙ g.offset;
      pairs = h.pairs ∙ g.pairs;
    }

-- a stamp is kept for the demotion alone
stamp_stays : (z : Site) (cpu : ℕ) (v : Known) (s : Option StableStamp) (w : Known) → StampsAt z cpu v s w → Stays v.view w.view
stamp_stays z cpu v None w h = stays_same v.view w.view (ap (λ (k : Known). k.view) (sym h))
stamp_stays z cpu v (Some s) w h =
    record {
      number = ap (λ (x : View). x.number) h.view_is;
      start = ap (λ (x : View). x.start) h.view_is;
      mine = ap (λ (x : View). x.mine) h.view_is;
      seen = ap (λ (x : View). x.seen) h.view_is;
      found = ap (λ (x : View). x.modes.found) h.view_is;
      offset = ap (λ (x : View). x.modes.offset) h.view_is;
      pairs = ap (λ (x : View). x.pairs) h.view_is;
    }

pub stamped_stays : (z : Site) (cpu check : ℕ) (v : Known) (visit : Visit) (w : Known) (h : WatchesVisit z cpu check v visit w) → Stays v.view h.1.view
stamped_stays z cpu check v visit w h =
    stays_then v.view h.0.view h.1.view (stays_same v.view h.0.view (ap (λ (k : Known). k.view) h.2.rest)) (stamp_stays z cpu h.0 visit.stamp h.1 h.3)

pub pause_stays : (z : Site) (number : ℕ) (v : Known) (c : Check) (w : Known) (h : WatchesCheck z number v c w) → Stays v.view h.0.view
pause_stays z number v c w h = stays_same v.view h.0.view (ap (λ (k : Known). k.view) h.1.rest)
