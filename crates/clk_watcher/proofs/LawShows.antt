-- What a lawful trace needs of a watchdog that made all its checks.
use Rattle.std.proofs.Common.{◌≡◌, ℕ, ◌<◌, Bool, List, [], ◌∷◌, ◌++◌, length, arith, ap, ◌∙◌, sym, subst, append-nil, Option, Some, None}
use Rattle.std.specs.Prelude.{is_some}
use Rattle.std.specs.List.{All}
use Rattle.std.proofs.lemmas.Grind.{flat_map-append}
use Rattle.clk_base.specs.Walk.{EachFrom}
use Rattle.clk_machine.specs.Plan.{Plan, cpu_count}
use Rattle.clk_machine.specs.Limits.{IsWithinLimits}
use Rattle.clk_record.specs.declared.step.Step.{Step}
use Rattle.clk_record.specs.declared.stable.StableStamp.{StableStamp}
use Rattle.clk_record.specs.declared.stable.Demotion.{Demotion}
use Rattle.clk_record.specs.Demotions.{IsDemotion}
use Rattle.clk_words.specs.declared.opening.Start.{Start}
use Rattle.clk_words.specs.declared.view.View.{View}
use Rattle.clk_words.specs.declared.view.Part.{Part}
use Rattle.clk_words.specs.Histories.{opens_at}
use Rattle.clk_words.specs.Parts.{gtod_of, raw_of, part_of}
use Rattle.clk_lawful.specs.Checks.{Visit, listed, visits_of, checks_of}
use Rattle.clk_lawful.specs.Demoted.{HasOffset, last_stamp}
use Rattle.clk_lawful.specs.declared.trace.WatchTrace.{WatchTrace}
use Rattle.clk_demote.specs.Context.{Site, Known}
use Rattle.clk_demote.specs.Lifts.{lifts_of}
use Rattle.clk_watcher.specs.Checking.{KeepsLifts, HasWatched}
use Rattle.clk_watcher.specs.Shown.{IsLift, DemotedShows, WatchedIsShown}
use Rattle.clk_watcher.proofs.LawBlocks.{watches_gain, watches_rise}
use Rattle.clk_watcher.proofs.LawReadings.{watches_right, watches_later}
use Rattle.clk_watcher.proofs.LawStamps.{visits_in, stamps_of, demotions_of, watches_go}
use Rattle.clk_watcher.proofs.LawDemotion.{Demoted, watches_stay, watches_demote}
use Rattle.clk_watcher.proofs.LawCalls.{no_stamp_later}
use Rattle.clk_watcher.proofs.LawLifts.{lifts_count, lifts_each, lifts_by}

one_cpu : (m : Plan) → IsWithinLimits m → 0 < cpu_count m
one_cpu m l = let some = rw l.ranges.cpu_each at l.ranges.cpus in omega (arith, some.1)

-- ---- the lists that were kept are those of the visits of all checks

kept_stamps : (z : Site) (stable lost : Bool) (began : Known) (w : WatchTrace) (ended : Known) → HasWatched z stable lost began w ended
    → stamps_of (visits_in (checks_of w)) ≡ w.stamps.items
kept_stamps z stable lost began w ended h = ap stamps_of h.checks.whole ∙ h.called.stamps_shown

kept_demotion : (z : Site) (stable lost : Bool) (began : Known) (w : WatchTrace) (ended : Known) → HasWatched z stable lost began w ended
    → demotions_of (visits_in (checks_of w)) ≡ listed w.demotion
kept_demotion z stable lost began w ended h = ap demotions_of h.checks.whole ∙ h.called.demotion_shown

-- ---- the demotion

-- the last stamp before it is the last of all
last_before : (z : Site) (stable lost : Bool) (began : Known) (w : WatchTrace) (ended : Known) (d : Demotion) → IsWithinLimits z.machine
    → HasWatched z stable lost began w ended → (dem : Demoted z w.demoted_in began (visits_in (checks_of w)) ended d) → dem.before.last ≡ last_stamp began.last w.stamps.items
last_before z stable lost began w ended d limits h dem =
    let split : visits_of w ≡ dem.front ++ dem.visit ∷ dem.back = sym h.checks.whole ∙ dem.visits_are in
    let none = no_stamp_later z.machine lost stable w dem.front dem.visit dem.back limits h.checks h.called split (ap is_some dem.is) in
    let stamps : w.stamps.items ≡ stamps_of dem.front ++ listed dem.visit.stamp =
    sym (kept_stamps z stable lost began w ended h) ∙ ap stamps_of dem.visits_are
    ∙ flat_map-append (λ (v : Visit). listed v.stamp) dem.front (dem.visit ∷ dem.back)
    ∙ ap (λ (ss : List StableStamp). stamps_of dem.front ++ (listed dem.visit.stamp ++ ss)) none
    ∙ ap (λ (ss : List StableStamp). stamps_of dem.front ++ ss) (append-nil (listed dem.visit.stamp)) in
    dem.goes.last ∙ ap (last_stamp began.last) (sym stamps)

-- the lifts that were kept are those that the seat made
kept_lifts : (z : Site) (stable lost : Bool) (began : Known) (w : WatchTrace) (ended : Known) (d : Demotion) → HasWatched z stable lost began w ended → w.demotion ≡ Some d
    → w.lifts.items ≡ lifts_of began.view.number began.view.start w.demoted_in d.opening (cpu_count z.machine)
kept_lifts z stable lost began w ended d h e = subst (λ o. KeepsLifts z began w o) e h.lifts

demoted_shows : (z : Site) (stable lost : Bool) (began : Known) (w : WatchTrace) (ended : Known) (d : Demotion) → IsWithinLimits z.machine → began.gtod_offset ≡ began.last.offset
    → HasWatched z stable lost began w ended → w.demotion ≡ Some d → DemotedShows z began w ended d
demoted_shows z stable lost began w ended d limits goes_by h e =
    let dem = watches_demote z 0 w.demoted_in began (checks_of w) ended d h.runs (kept_demotion z stable lost began w ended h ∙ ap (λ (o : Option Demotion). listed o) e) h.demoted_in in
    let kept = kept_lifts z stable lost began w ended d h e in
    let made : lifts_of dem.before.view.number dem.before.view.start w.demoted_in d.opening (cpu_count z.machine) ≡ w.lifts.items =
    ap (λ (n : ℕ). lifts_of n dem.before.view.start w.demoted_in d.opening (cpu_count z.machine)) dem.stays.number
    ∙ ap (λ (s : Start). lifts_of began.view.number s w.demoted_in d.opening (cpu_count z.machine)) dem.stays.start ∙ sym kept in
    let last = last_before z stable lost began w ended d limits h dem in
    record {
      is = λ stamp same. subst (λ (s : StableStamp). IsDemotion z.sched_offset s.offset s d) (last ∙ sym same)
          (subst (λ x. IsDemotion z.sched_offset x dem.before.last d) (dem.goes.offset goes_by) dem.shows.is);
      lifts = subst (λ ss. EachFrom (IsLift w.demoted_in (opens_at began.view.start) d.opening) 0 ss) (sym kept)
          (lifts_each began.view.number began.view.start w.demoted_in d.opening (cpu_count z.machine));
      count = ap length kept ∙ lifts_count began.view.number began.view.start w.demoted_in d.opening (cpu_count z.machine);
      by = subst (λ ss. All (λ s. s.by ≡ began.view.number) ss) (sym kept) (lifts_by began.view.number began.view.start w.demoted_in d.opening (cpu_count z.machine));
      mine = dem.stays_after.mine ∙ ap (λ (v : View). v.mine) dem.shows.view_is ∙ ap (λ (ss : List Step). dem.before.view.mine ++ ss) made
          ∙ ap (λ (ss : List Step). ss ++ w.lifts.items) dem.stays.mine;
      seen = dem.stays_after.seen ∙ ap (λ (v : View). v.seen) dem.shows.view_is ∙ ap (λ (ss : List Step). dem.before.view.seen ++ ss) made
          ∙ ap (λ (ss : List Step). ss ++ w.lifts.items) dem.stays.seen;
      found = dem.stays_after.found ∙ ap (λ (v : View). v.modes.found) dem.shows.view_is;
      offset = dem.stays_after.offset ∙ dem.shows.offset_stands;
      raws = λ c low. ap (λ p. (part_of p.parts (raw_of c)).zero) dem.stays_after.pairs ∙ ap (λ (p : Part). p.zero) (dem.shows.pairs c low).raw_is;
      gtods = λ c low. ap (λ p. (part_of p.parts (gtod_of c)).zero) dem.stays_after.pairs ∙ ap (λ (p : Part). p.zero) (dem.shows.pairs c low).gtod_is;
    }

-- ---- all of it

pub watch_shows : WatchedIsShown
watch_shows z stable lost began w ended limits latches rose goes_by h =
    let gained = watches_gain z 0 began (checks_of w) ended h.runs in
    let some = one_cpu z.machine limits in
    let none : (w.demotion ≡ None) → demotions_of (visits_in (checks_of w)) ≡ [] =
    λ e. kept_demotion z stable lost began w ended h ∙ ap (λ (o : Option Demotion). listed o) e in
    record {
      blocks = gained.blocks;
      rises = watches_rise z 0 began (checks_of w) ended h.runs rose;
      share = gained.share;
      right = λ records begins. watches_right z 0 began (checks_of w) ended records h.runs some latches begins;
      later = λ c. watches_later z c 0 began (checks_of w) ended h.runs some latches;
      stamps = subst (λ ss. All (HasOffset z.sched_offset) ss) (kept_stamps z stable lost began w ended h) (watches_go z 0 began (checks_of w) ended h.runs).offsets;
      mine = λ e. (watches_stay z 0 began (checks_of w) ended h.runs (none e)).mine;
      seen = λ e. (watches_stay z 0 began (checks_of w) ended h.runs (none e)).seen;
      demoted = λ d e. demoted_shows z stable lost began w ended d limits goes_by h e;
    }
