-- After the demotion of a watchdog no stable stamp is called for: the TSC source was lost, so it is never good again.
use Rattle.std.proofs.Common.{◌≡◌, ℕ, Bool, true, false, List, [], ◌∷◌, ◌++◌, map, length, ap, ◌∙◌, sym, refl, subst, Option, Some, None}
use Rattle.std.specs.Prelude.{◌&&◌, is_some}
use Rattle.std.specs.List.{All}
use Rattle.std.proofs.lemmas.List.{map-append, length-map}
use Rattle.std.proofs.lemmas.List.Elements.{All-nil, All-cons, All-head, All-tail}
use Rattle.clk_machine.specs.Plan.{Plan}
use Rattle.clk_machine.specs.Limits.{IsWithinLimits}
use Rattle.clk_machine.specs.Time.{source_plan_at}
use Rattle.clk_record.specs.declared.attempt.Attempt.{Attempt}
use Rattle.clk_record.specs.declared.visit.Outcome.TheVariants.{Passed}
use Rattle.clk_record.specs.declared.visit.SourceRecord.{SourceRecord}
use Rattle.clk_record.specs.declared.watched.Watched.{Watched}
use Rattle.clk_record.specs.Fold.{is_good, is_lost, at_first, source_at_first, attempts_of, after_record, IsVisit, AreVisits}
use Rattle.clk_record.specs.declared.stable.StableStamp.{StableStamp}
use Rattle.clk_record.specs.declared.stable.Demotion.{Demotion}
use Rattle.clk_watch.proofs.Staying.{demoted_stays}
use Rattle.clk_lawful.specs.Checks.{Visit, listed, visits_from, visits_of}
use Rattle.clk_lawful.specs.Watchdog.{AreChecks, AreCalledFor}
use Rattle.clk_lawful.specs.declared.trace.WatchTrace.{WatchTrace}
use Rattle.clk_watcher.proofs.LawStamps.{stamps_of}
use Rattle.clk_watcher.proofs.OneTsc.{both_true, false_by, tsc_once}

all_back : {A : Type 0} (P : A → Type 0) (xs ys : List A) → All P (xs ++ ys) → All P ys
all_back P [] ys h = h
all_back P (x ∷ xs) ys h = all_back P xs ys (All-tail P x (xs ++ ys) h)

-- ---- records after the one by which the TSC source was lost

abbrev IsOut : List Attempt → ℕ → SourceRecord → Type 0
IsOut attempts source r = r.source ≡ source → (r.outcome ≡ Passed) × (attempts_of attempts r ≡ [])

abbrev IsSomeVisit : Plan → List Attempt → SourceRecord → Type 0
IsSomeVisit m attempts r = (ws : List Watched) × IsVisit m attempts ws r

each_visit : (m : Plan) (attempts : List Attempt) (ws : List Watched) (rs : List SourceRecord) → AreVisits m attempts ws rs → All (IsSomeVisit m attempts) rs
each_visit m attempts ws [] h = All-nil (IsSomeVisit m attempts)
each_visit m attempts ws (r ∷ rs) h = All-cons (IsSomeVisit m attempts) r rs (ws, h.0) (each_visit m attempts (after_record attempts r ws) rs h.1)

-- a visit to a source that is out finds no good TSC source
not_current : (m : Plan) (attempts : List Attempt) (source : ℕ) (r : SourceRecord) → IsWithinLimits m → (source_plan_at m source).tsc ≡ true
    → IsSomeVisit m attempts r → IsOut attempts source r → r.tsc_current ≡ false
not_current m attempts source r limits tsc visit out =
    false_by r.tsc_current
    (λ e. let both = both_true (is_good r.outcome) (source_plan_at m r.source).tsc (visit.1.current.0 e).0 in
    let same : r.source ≡ source = tsc_once m.source r.source source limits.ranges.own_once both.1 tsc in
    let bad : is_good r.outcome ≡ false = ap is_good (out same).0 in
    absurd (cc (bad, both.0)))

none_current : (m : Plan) (attempts : List Attempt) (source : ℕ) (rs : List SourceRecord) → IsWithinLimits m → (source_plan_at m source).tsc ≡ true
    → All (IsSomeVisit m attempts) rs → All (IsOut attempts source) rs → All (λ r. r.tsc_current ≡ false) rs
none_current m attempts source [] limits tsc visits out = All-nil (λ (r : SourceRecord). r.tsc_current ≡ false)
none_current m attempts source (r ∷ rs) limits tsc visits out =
    All-cons (λ (x : SourceRecord). x.tsc_current ≡ false) r rs
    (not_current m attempts source r limits tsc (All-head (IsSomeVisit m attempts) r rs visits) (All-head (IsOut attempts source) r rs out))
    (none_current m attempts source rs limits tsc (All-tail (IsSomeVisit m attempts) r rs visits) (All-tail (IsOut attempts source) r rs out))

none_later : (m : Plan) (attempts : List Attempt) (ws : List Watched) (before : List SourceRecord) (r : SourceRecord) (after : List SourceRecord)
    → IsWithinLimits m → length ws ≡ length m.source → AreVisits m attempts ws (before ++ r ∷ after) → r.tsc_demoted ≡ true → All (λ x. x.tsc_current ≡ false) after
none_later m attempts ws before r after limits count visits demoted =
    let each = all_back (IsSomeVisit m attempts) before (r ∷ after) (each_visit m attempts ws (before ++ r ∷ after) visits) in
    let here = All-head (IsSomeVisit m attempts) r after each in
    let both = both_true (is_lost r.outcome) (source_plan_at m r.source).tsc (sym here.1.lost ∙ demoted) in
    none_current m attempts r.source after limits both.1 (All-tail (IsSomeVisit m attempts) r after each)
    (demoted_stays m attempts ws before r after limits count visits both.0).0

-- ---- visits after the one with the demotion

visits_made : (attempts : List Attempt) (demotion : Option Demotion) (stamps : List StableStamp) (rs : List SourceRecord)
    → map (λ v. v.made) (visits_from attempts demotion stamps rs) ≡ rs
visits_made attempts demotion stamps [] = refl
visits_made attempts demotion stamps (r ∷ rs) = ap (λ (xs : List SourceRecord). r ∷ xs) (visits_made attempts demotion _ rs)

abbrev StampIsCalled : Bool → Visit → Type 0
StampIsCalled stable v = is_some v.stamp ≡ (stable && v.made.tsc_current)

abbrev DemotionIsCalled : Bool → Visit → Type 0
DemotionIsCalled stable v = is_some v.demotion ≡ (stable && v.made.tsc_demoted)

never_called : (stable : Bool) → (stable && false) ≡ false
never_called true = refl
never_called false = refl

not_stamped : (s : Option StableStamp) → is_some s ≡ false → listed s ≡ []
not_stamped None e = refl
not_stamped (Some s) e = absurd (cc e)

stamps_none : (stable : Bool) (visits : List Visit) → All (StampIsCalled stable) visits → All (λ r. r.tsc_current ≡ false) (map (λ v. v.made) visits) → stamps_of visits ≡ []
stamps_none stable [] called none = refl
stamps_none stable (v ∷ visits) called none =
    let current = All-head (λ (r : SourceRecord). r.tsc_current ≡ false) v.made (map (λ (x : Visit). x.made) visits) none in
    let here : listed v.stamp ≡ [] =
    not_stamped v.stamp (All-head (StampIsCalled stable) v visits called ∙ ap (λ (b : Bool). stable && b) current ∙ never_called stable) in
    ap (λ (ss : List StableStamp). ss ++ stamps_of visits) here
    ∙ stamps_none stable visits (All-tail (StampIsCalled stable) v visits called)
    (All-tail (λ (r : SourceRecord). r.tsc_current ≡ false) v.made (map (λ (x : Visit). x.made) visits) none)

pub no_stamp_later : (m : Plan) (lost stable : Bool) (w : WatchTrace) (front : List Visit) (visit : Visit) (back : List Visit) → IsWithinLimits m → AreChecks m lost w
    → AreCalledFor stable w → visits_of w ≡ front ++ visit ∷ back → is_some visit.demotion ≡ true → stamps_of back ≡ []
no_stamp_later m lost stable w front visit back limits checks called split demoted =
    let made : w.watch.records.items ≡ map (λ v. v.made) front ++ visit.made ∷ map (λ v. v.made) back =
    sym (visits_made w.watch.attempts.items w.demotion w.stamps.items w.watch.records.items) ∙ ap (λ (xs : List Visit). map (λ v. v.made) xs) split
    ∙ map-append (λ (v : Visit). v.made) front (visit ∷ back) in
    let flags = all_back (DemotionIsCalled stable) front (visit ∷ back) (subst (λ xs. All (DemotionIsCalled stable) xs) split called.demotions) in
    let both = both_true stable visit.made.tsc_demoted (sym (All-head (DemotionIsCalled stable) visit back flags) ∙ demoted) in
    let stamps = all_back (StampIsCalled stable) front (visit ∷ back) (subst (λ xs. All (StampIsCalled stable) xs) split called.stamps) in
    stamps_none stable back (All-tail (StampIsCalled stable) visit back stamps)
    (none_later m w.watch.attempts.items (at_first m lost) (map (λ v. v.made) front) visit.made (map (λ v. v.made) back) limits (length-map m.source (source_at_first lost))
    (subst (λ rs. AreVisits m w.watch.attempts.items (at_first m lost) rs) made checks.visits) both.1)
