-- A watchdog that made all its checks has watched.
use Rattle.std.proofs.Common.{◌≡◌, ℕ, ◌+◌, ◌≤◌, None, List, [], ◌∷◌, map, length, sym, ◌∙◌, ap, subst, arith}
use Rattle.std.specs.Prelude.{Bool, true, false, ◌&&◌, is_some}
use Rattle.std.specs.List.{All, AllZip, flat_map}
use Rattle.std.proofs.lemmas.List.{length-map}
use Rattle.std.proofs.lemmas.List.Elements.{All-nil, All-cons}
use Rattle.clk_base.specs.Walk.{EachFrom}
use Rattle.clk_record.specs.Fold.{source_at_first, at_first, AreVisits}
use Rattle.clk_record.specs.Watching.{checks_asked}
use Rattle.clk_lawful.specs.Checks.{Visit, Check, listed, visits_of, checks_of}
use Rattle.clk_lawful.specs.Checks.{checks_from, visits_from}
use Rattle.clk_lawful.specs.RightReadings.{NeverFall}
use Rattle.clk_lawful.specs.WritableWatch.{IsSized}
use Rattle.clk_lawful.specs.Watchdog.{IsPass, NamesAll, AreChecks, AreCalledFor}
use Rattle.clk_lawful.specs.declared.trace.WatchTrace.{WatchTrace}
use Rattle.clk_worker.specs.declared.shared.Shared.{Shared}
use Rattle.clk_watcher.specs.Checking.{Watches, HasWatched}
use Rattle.clk_watcher.specs.VisitsKept.{AreCalled, ends_from, visits_in}
use Rattle.clk_watcher.specs.Making.{Hand, site_at, has, HasMade, WentOn, RanAll}
use Rattle.clk_watcher.specs.declared.parts.WatchParts.{WatchParts}
use Rattle.clk_watcher.proofs.Called.{NoneIn, AllCalled, called_never, called_all}
use Rattle.clk_watcher.proofs.Cutting.{each_of, cut_visits, cut_checks, names_all, ends_long, ends_later, ends_there, named_there}
use Rattle.clk_watcher.proofs.Making.{PlaceAt, none_flat, listed_same}

-- the flags of each visit
all_stamps : (stable : Bool) (xs : List Visit) → AllCalled stable xs → All (λ v. is_some v.stamp ≡ (stable && v.made.tsc_current)) xs
all_stamps stable [] h = All-nil _
all_stamps stable (v ∷ xs) h = All-cons (λ (x : Visit). is_some x.stamp ≡ (stable && x.made.tsc_current)) v xs h.0 (all_stamps stable xs h.2)

all_demotions : (stable : Bool) (xs : List Visit) → AllCalled stable xs → All (λ v. is_some v.demotion ≡ (stable && v.made.tsc_demoted)) xs
all_demotions stable [] h = All-nil _
all_demotions stable (v ∷ xs) h = All-cons (λ (x : Visit). is_some x.demotion ≡ (stable && x.made.tsc_demoted)) v xs h.1 (all_demotions stable xs h.2)

module _ (s : Shared) (began ended : WatchParts) (stable lost now : Bool) (n : ℕ) (w : WatchTrace) (h : HasMade s began stable lost n ended now w) where
  abbrev all : List Visit
  all = visits_in h.checks

  called : AllCalled stable all
  called =
      let first : length (at_first s.machine w.watch.tsc_unstable) ≡ length s.machine.source = length-map s.machine.source (source_at_first w.watch.tsc_unstable) in
      called_all s.machine w.watch.attempts.items (at_first s.machine w.watch.tsc_unstable) stable all now h.serves.limits first
      (subst (AreVisits s.machine w.watch.attempts.items (at_first s.machine w.watch.tsc_unstable)) h.kept.records h.kept.visits) h.kept.called

  never : stable ≡ false → w.demotion ≡ None
  never no_clock =
      let none_here : NoneIn all = (called_never now all (subst (λ b. AreCalled b all now) no_clock h.kept.called)).1 in
      listed_same w.demotion None (h.kept.demotion ∙ none_flat all none_here)

  visits_are : visits_of w ≡ all
  visits_are =
      ap (λ l. visits_from w.watch.attempts.items w.demotion l w.watch.records.items) h.kept.stamps
      ∙ ap (λ l. visits_from w.watch.attempts.items w.demotion (flat_map (λ (v : Visit). listed v.stamp) all) l) h.kept.records
      ∙ cut_visits stable [] w.watch.attempts.items w.demotion all (length w.watch.attempts.items) h.kept.attempts h.kept.named called
      (each_of w.demotion all h.kept.demotion) never

  checks_are : checks_of w ≡ h.checks
  checks_are =
      ap (λ l. checks_from 0 l w.last_record.items w.currents.items (visits_of w)) h.kept.pauses
      ∙ ap (λ l. checks_from 0 (map (λ (c : Check). c.ticket) h.checks) l w.currents.items (visits_of w)) h.kept.ends
      ∙ ap (λ l. checks_from 0 (map (λ (c : Check). c.ticket) h.checks) (ends_from 0 h.checks) l (visits_of w)) h.kept.currents
      ∙ ap (checks_from 0 (map (λ (c : Check). c.ticket) h.checks) (ends_from 0 h.checks) (map (λ (c : Check). c.current) h.checks)) visits_are
      ∙ cut_checks 0 h.checks

  checks_right : n ≡ checks_asked s.machine.watchdog → AreChecks s.machine lost w
  checks_right whole = record {
    thread = h.thread;
    pauses = ap length h.kept.pauses ∙ length-map h.checks (λ (c : Check). c.ticket) ∙ h.count ∙ whole;
    ends = ap length h.kept.ends ∙ ends_long 0 h.checks ∙ h.count ∙ whole;
    passes = subst (All (λ c. IsPass 0 (length s.machine.source) (map (λ v. v.made) c.visits))) (sym checks_are) h.kept.passes;
    whole = ap (flat_map (λ (c : Check). c.visits)) checks_are ∙ sym visits_are;
    named =
        subst (λ l. NamesAll 0 l (length w.watch.attempts.items)) (sym h.kept.records)
        (names_all 0 (length w.watch.attempts.items) all h.kept.named);
    visits = subst (λ b. AreVisits s.machine w.watch.attempts.items (at_first s.machine b) w.watch.records.items) h.lost_is h.kept.visits;
    currents =
        subst (λ b. AllZip (PlaceAt s.machine w.watch.attempts.items (at_first s.machine b) w.watch.records.items) w.last_record.items w.currents.items) h.lost_is h.kept.places;
  }

  called_right : AreCalledFor stable w
  called_right = record {
    stamps = subst (All (λ v. is_some v.stamp ≡ (stable && v.made.tsc_current))) (sym visits_are) (all_stamps stable all called);
    demotions = subst (All (λ v. is_some v.demotion ≡ (stable && v.made.tsc_demoted))) (sym visits_are) (all_demotions stable all called);
    stamps_shown = ap (flat_map (λ (v : Visit). listed v.stamp)) visits_are ∙ sym h.kept.stamps;
    demotion_shown = ap (flat_map (λ (v : Visit). listed v.demotion)) visits_are ∙ sym h.kept.demotion;
  }

  sized : IsSized w
  sized =
      let records = ap length h.kept.records ∙ length-map all (λ (v : Visit). v.made) in
      record {
        pauses = ap length h.kept.pauses ∙ length-map h.checks (λ (c : Check). c.ticket) ∙ sym (ap length h.kept.ends ∙ ends_long 0 h.checks);
        currents = ap length h.kept.currents ∙ length-map h.checks (λ (c : Check). c.current) ∙ sym (ap length h.kept.ends ∙ ends_long 0 h.checks);
        later = subst (NeverFall 0) (sym h.kept.ends) (ends_later 0 0 h.checks (omega arith));
        there =
            subst (All (λ k. k ≤ length w.watch.records.items)) (sym h.kept.ends)
            (ends_there 0 (length w.watch.records.items) h.checks (omega (arith, records)));
        named =
            subst (All (λ r. r.first + r.count ≤ length w.watch.attempts.items)) (sym h.kept.records)
            (named_there 0 (length w.watch.attempts.items) all h.kept.named);
      }

  pub has_watched : n ≡ checks_asked s.machine.watchdog → HasWatched (site_at s began) stable lost (has began) w (has ended)
  has_watched whole = record {
    checks = checks_right whole;
    called = called_right;
    runs = subst (λ l. Watches (site_at s began) 0 (has began) l (has ended)) (sym checks_are) h.watches;
    lifts = h.lifts;
    demoted_in = subst (EachFrom (λ i c. All (λ v. is_some v.demotion ≡ true → w.demoted_in ≡ i) c.visits) 0) (sym checks_are) h.kept.demoted_in;
    sized = sized;
  }

pub ran_all : (s : Shared) (v w : Hand) → w.next ≡ checks_asked s.machine.watchdog → WentOn s v w → RanAll s v w
ran_all s v w whole went first going =
    let now = went first going in
    record {
      began = now.began;
      began_is = now.began_is;
      ended = now.parts;
      ended_is = now.parts_is;
      watched = has_watched s now.began now.parts first.stable first.trace.watch.tsc_unstable w.stable w.next w.trace now.made whole;
    }
