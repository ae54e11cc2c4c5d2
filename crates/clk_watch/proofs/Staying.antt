-- Sources that stay in, and sources that stay out.
use Rattle.std.proofs.Common.{rules, ◌≡◌, ◌≢◌, ℕ, ◌<◌, ◌≤◌, pos, List, [], ◌∷◌, ◌++◌, map, set, length, Option, Some, None, refl, sym, ◌∙◌, ap, subst, ⊎_elim, arith, length-append}
use Rattle.std.specs.Prelude.{Bool, true, false, ◌&&◌, IsTrue, slice_index, if◌then◌else◌}
use Rattle.std.specs.Int.{abs_diff}
use Rattle.std.specs.List.{All}
use Rattle.std.proofs.lemmas.Bool.{cases_eq, cases_lt, le-ltb}
use Rattle.std.proofs.lemmas.List.{get_or-map, get_or-set_same, get_or-set_other, get_or_past, get_or_append_left, get_or_at, length-map}
use Rattle.std.proofs.lemmas.List.Elements.{All-nil, All-cons}
use Rattle.clk_machine.specs.Plan.{Plan, SourcePlan, count_of}
use Rattle.clk_machine.specs.Limits.{IsWithinLimits}
use Rattle.clk_machine.specs.Time.{source_plan_at}
use Rattle.clk_record.specs.declared.attempt.Attempt.{Attempt}
use Rattle.clk_record.specs.declared.attempt.Bracket.{Bracket}
use Rattle.clk_record.specs.declared.attempt.Bracket.TheVariants.{Accepted, Skip as SkipBracket, Slow as SlowBracket}
use Rattle.clk_record.specs.declared.visit.Outcome.{Outcome}
use Rattle.clk_record.specs.declared.visit.Outcome.TheVariants.{Passed, Slow, Skip, First, Good, Bad}
use Rattle.clk_record.specs.declared.visit.SourceRecord.{SourceRecord}
use Rattle.clk_record.specs.declared.watched.Pair.{Pair}
use Rattle.clk_record.specs.declared.watched.Watched.{Watched}
use Rattle.clk_record.specs.Attempts.{reference_ns}
use Rattle.clk_record.specs.Fold.{source_ns, margin_of, compared, judged, outcome_of, is_lost, ends_check, source_at_first, at_first, unmarked, left_of, left_by, watched_at, attempts_of, last_of, pair_of, after_record, watch_after, ratings_of, IsCurrent, IsReadBy, IsVisit, AreVisits}
use Rattle.clk_watch.specs.Laws.{IsHealthy, HealthyIsNeverDemoted, DemotedStaysOut, LostAtBootStaysOut}
use Rattle.clk_watch.proofs.Growing.{length_left, length_after}
use Rattle.clk_watch.proofs.Leaving.{accepted_is, slow_is}

abbrev nothing : Watched
nothing = record { kept = None; unstable = false; rating = 0 }

-- ---- a healthy source

-- what differs by no more than the margin is good
within_margin : (margin cs wd : ℕ) → abs_diff cs wd ≤ margin → is_lost (compared margin cs wd) ≡ false
within_margin margin cs wd h =
    subst (λ (far : Bool). is_lost (if far then Bad (pos cs) (pos wd) else Good (pos cs) (pos wd)) ≡ false) (sym (le-ltb margin (abs_diff cs wd) h)) refl

kept_agrees : (m : Plan) (s : ℕ) (kept : Option Pair) (now : Pair)
    → ((last : Pair) → kept ≡ Some last → abs_diff (source_ns m s last.cs now.cs) (reference_ns m last.wd now.wd) ≤ margin_of m s)
    → is_lost (judged m s kept now) ≡ false
kept_agrees m s None now agrees = refl
kept_agrees m s (Some last) now agrees = within_margin (margin_of m s) (source_ns m s last.cs now.cs) (reference_ns m last.wd now.wd) (agrees last refl)

healthy_outcome : (m : Plan) (s : ℕ) (w : Watched) (attempts : List Attempt) (ends : Option Bracket) → IsReadBy m w attempts ends → IsHealthy m s w attempts
    → is_lost (outcome_of m s w ends) ≡ false
healthy_outcome m s w attempts None read h = refl
healthy_outcome m s w attempts (Some SkipBracket) read h = refl
healthy_outcome m s w attempts (Some SlowBracket) read h = absurd (h.decides (slow_is m attempts read.1))
healthy_outcome m s w attempts (Some (Accepted cs wd)) read h =
    kept_agrees m s w.kept (record { cs = cs; wd = wd })
    (λ last kept. h.agrees cs wd last (accepted_is m attempts cs wd read.1) kept)

-- an outcome that loses nothing leaves its source stable
stable_one : (outcome : Outcome) (now : Pair) (w : Watched) → is_lost outcome ≡ false → w.unstable ≡ false → (left_of outcome now w).unstable ≡ false
stable_one Passed now w e h = h
stable_one Slow now w e h = absurd (cc)
stable_one Skip now w e h = h
stable_one First now w e h = h
stable_one (Good cs_ns wd_ns) now w e h = h
stable_one (Bad cs_ns wd_ns) now w e h = absurd (cc)

-- what a record leaves at a place: something that its source or the unmarking keeps
module _ (P : Watched → Type 0) where
  pub kept_at : (outcome : Outcome) (now : Pair) (source s : ℕ) (ws : List Watched) → s < length ws → P (watched_at ws s)
      → (P (watched_at ws s) → P (unmarked (watched_at ws s)))
      → (source ≡ s → P (watched_at ws s) → P (left_of outcome now (watched_at ws s))) → P (watched_at (left_by outcome now source ws) s)
  kept_at outcome now source s ws there h skip one = by (ends_check outcome)
    where
      by : (ends : Bool) → P (watched_at (if ends then map unmarked ws else set ws source (left_of outcome now (watched_at ws source))) s)
      by true = subst P (sym (get_or-map unmarked ws s nothing nothing there)) (skip h)
      by false =
          ⊎_elim
          (λ (same : source ≡ s).
          subst (λ (i : ℕ). P (watched_at (set ws i (left_of outcome now (watched_at ws i))) s)) (sym same)
          (subst P (sym (get_or-set_same ws s (left_of outcome now (watched_at ws s)) nothing there)) (one same h)))
          (λ (apart : source ≡ s → ⊥). subst P (sym (get_or-set_other ws source s (left_of outcome now (watched_at ws source)) nothing (λ (e : s ≡ source). apart (sym e)))) h)
          (cases_eq source s)

abbrev IsStable : Watched → Type 0
IsStable w = w.unstable ≡ false

stable_left : (outcome : Outcome) (now : Pair) (source s : ℕ) (ws : List Watched) → IsStable (watched_at ws s) → (source ≡ s → is_lost outcome ≡ false)
    → IsStable (watched_at (left_by outcome now source ws) s)
stable_left outcome now source s ws h fine =
    ⊎_elim
    (λ (there : s < length ws). kept_at IsStable outcome now source s ws there h (λ e. e) (λ same e. stable_one outcome now (watched_at ws s) (fine same) e))
    (λ (past : length ws ≤ s). ap (λ (w : Watched). w.unstable) (get_or_past (left_by outcome now source ws) s nothing (omega (arith, past, length_left outcome now source ws))))
    (cases_lt s (length ws))

healthy_record : (m : Plan) (s : ℕ) (attempts : List Attempt) (ws : List Watched) (r : SourceRecord) → IsVisit m attempts ws r
    → (r.source ≡ s → IsHealthy m s (watched_at ws s) (attempts_of attempts r)) → r.source ≡ s → is_lost r.outcome ≡ false
healthy_record m s attempts ws r v h same =
    ap is_lost v.outcome_is
    ∙ healthy_outcome m r.source (watched_at ws r.source) (attempts_of attempts r) v.ends v.read
    (subst (λ (i : ℕ). IsHealthy m i (watched_at ws i) (attempts_of attempts r)) (sym same) (h same))

pub healthy_stays : HealthyIsNeverDemoted
healthy_stays m s attempts ws [] v stable h = (All-nil _, stable)
healthy_stays m s attempts ws (r ∷ rs) v stable h =
    let here = healthy_record m s attempts ws r v.0 h.0 in
    let left = stable_left r.outcome (pair_of (last_of (attempts_of attempts r))) r.source s ws stable here in
    let rest = healthy_stays m s attempts (after_record attempts r ws) rs v.1 left h.1 in
    (All-cons (λ (x : SourceRecord). x.source ≡ s → is_lost x.outcome ≡ false) r rs here rest.0, rest.1)

-- ---- a source that was demoted

abbrev IsOut : Watched → Type 0
IsOut w = (w.unstable ≡ true) × (w.rating ≡ 0)

out_one : (outcome : Outcome) (now : Pair) (w : Watched) → IsOut w → IsOut (left_of outcome now w)
out_one Passed now w h = h
out_one Slow now w h = (refl, refl)
out_one Skip now w h = h
out_one First now w h = h
out_one (Good cs_ns wd_ns) now w h = h
out_one (Bad cs_ns wd_ns) now w h = (refl, refl)

out_left : (outcome : Outcome) (now : Pair) (source s : ℕ) (ws : List Watched) → s < length ws → IsOut (watched_at ws s) → IsOut (watched_at (left_by outcome now source ws) s)
out_left outcome now source s ws there h = kept_at IsOut outcome now source s ws there h (λ e. e) (λ same e. out_one outcome now (watched_at ws s) e)

-- an unstable source is passed over
passed_over : (m : Plan) (s : ℕ) (w : Watched) (attempts : List Attempt) (ends : Option Bracket) → IsReadBy m w attempts ends → IsOut w
    → (outcome_of m s w ends ≡ Passed) × (attempts ≡ [])
passed_over m s w attempts None read h = (refl, read.1)
passed_over m s w attempts (Some outcome) read h = absurd (let a = read.0 in let b = h.0 in cc)

out_record : (m : Plan) (s : ℕ) (attempts : List Attempt) (ws : List Watched) (r : SourceRecord) → IsVisit m attempts ws r → IsOut (watched_at ws s)
    → r.source ≡ s → (r.outcome ≡ Passed) × (attempts_of attempts r ≡ [])
out_record m s attempts ws r v h same =
    let over = passed_over m r.source (watched_at ws r.source) (attempts_of attempts r) v.ends v.read (subst (λ (i : ℕ). IsOut (watched_at ws i)) (sym same) h) in
    (v.outcome_is ∙ over.0, over.1)

out_stays : (m : Plan) (s : ℕ) (attempts : List Attempt) (ws : List Watched) (rs : List SourceRecord) → AreVisits m attempts ws rs → s < length ws → IsOut (watched_at ws s)
    → All (λ later. later.source ≡ s → (later.outcome ≡ Passed) × (attempts_of attempts later ≡ [])) rs × IsOut (watched_at (watch_after attempts ws rs) s)
out_stays m s attempts ws [] v there h = (All-nil _, h)
out_stays m s attempts ws (r ∷ rs) v there h =
    let now = pair_of (last_of (attempts_of attempts r)) in
    let rest = out_stays m s attempts (after_record attempts r ws) rs v.1 (omega (arith, there, length_left r.outcome now r.source ws)) (out_left r.outcome now r.source s ws there h) in
    (All-cons (λ (later : SourceRecord). later.source ≡ s → (later.outcome ≡ Passed) × (attempts_of attempts later ≡ [])) r rs (out_record m s attempts ws r v.0 h) rest.0, rest.1)

-- a record that loses its source puts it out
lost_one : (outcome : Outcome) (now : Pair) (w : Watched) → is_lost outcome ≡ true → (ends_check outcome ≡ false) × IsOut (left_of outcome now w)
lost_one Passed now w e = absurd (cc)
lost_one Slow now w e = (refl, (refl, refl))
lost_one Skip now w e = absurd (cc)
lost_one First now w e = absurd (cc)
lost_one (Good cs_ns wd_ns) now w e = absurd (cc)
lost_one (Bad cs_ns wd_ns) now w e = (refl, (refl, refl))

lost_left : (outcome : Outcome) (now : Pair) (s : ℕ) (ws : List Watched) → s < length ws → is_lost outcome ≡ true → IsOut (watched_at (left_by outcome now s ws) s)
lost_left outcome now s ws there e =
    let one = lost_one outcome now (watched_at ws s) e in
    subst (λ (ends : Bool). IsOut (watched_at (if ends then map unmarked ws else set ws s (left_of outcome now (watched_at ws s))) s)) (sym one.0)
    (subst IsOut (sym (get_or-set_same ws s (left_of outcome now (watched_at ws s)) nothing there)) one.1)

-- and with rating 0 it is not current, since the reference has more
never_current : (m : Plan) (ws : List Watched) (s place : ℕ) → IsWithinLimits m → s < length ws → IsOut (watched_at ws s) → IsCurrent (ratings_of m ws) place → place ≢ s
never_current m ws s place l there h c same =
    let ratings = map (λ (w : Watched). w.rating) ws in
    let few : length ratings ≡ length ws = length-map ws (λ (w : Watched). w.rating) in
    let own : slice_index (ratings_of m ws) s ≡ 0 =
    get_or_append_left ratings (count_of m.reference.rating ∷ []) 0 s (omega (arith, few, there)) ∙ get_or-map (λ (w : Watched). w.rating) ws s nothing 0 there ∙ h.1 in
    let last : slice_index (ratings_of m ws) (length ws) ≡ count_of m.reference.rating = get_or_at ratings (count_of m.reference.rating) [] 0 (length ws) few in
    let most = c.greatest (length ws) (omega (arith, few, length-append ratings (count_of m.reference.rating ∷ []))) in
    let at : slice_index (ratings_of m ws) place ≡ 0 = ap (slice_index (ratings_of m ws)) same ∙ own in
    let some = l.ranges.reference.rating.1 in
    absurd (omega (arith, most, at, last, some))

-- the visits before, at and after a record
visits_at : (m : Plan) (attempts : List Attempt) (ws : List Watched) (before : List SourceRecord) (r : SourceRecord) (after : List SourceRecord)
    → AreVisits m attempts ws (before ++ r ∷ after)
    → IsVisit m attempts (watch_after attempts ws before) r × AreVisits m attempts (after_record attempts r (watch_after attempts ws before)) after
visits_at m attempts ws [] r after v = v
visits_at m attempts ws (x ∷ before) r after v = visits_at m attempts (after_record attempts x ws) before r after v.1

after_at : (attempts : List Attempt) (ws : List Watched) (before : List SourceRecord) (r : SourceRecord) (after : List SourceRecord)
    → watch_after attempts ws (before ++ r ∷ after) ≡ watch_after attempts (after_record attempts r (watch_after attempts ws before)) after
after_at attempts ws [] r after = refl
after_at attempts ws (x ∷ before) r after = after_at attempts (after_record attempts x ws) before r after

pub demoted_stays : DemotedStaysOut
demoted_stays m attempts ws before r after l count v lost =
    let w = watch_after attempts ws before in
    let now = pair_of (last_of (attempts_of attempts r)) in
    let at = visits_at m attempts ws before r after v in
    let source = at.0.there in
    let there : r.source < length w = omega (arith, source, count, length_after attempts ws before) in
    let left : r.source < length (after_record attempts r w) = omega (arith, there, length_left r.outcome now r.source w) in
    let out = lost_left r.outcome now r.source w there (search (rules, lost)) in
    let stays = out_stays m r.source attempts (after_record attempts r w) after at.1 left out in
    let all : r.source < length (watch_after attempts (after_record attempts r w) after) = omega (arith, left, length_after attempts (after_record attempts r w) after) in (
      stays.0,
      λ place c. never_current m (watch_after attempts (after_record attempts r w) after) r.source place l all stays.1
          (subst (λ (x : List Watched). IsCurrent (ratings_of m x) place) (after_at attempts ws before r after) c),
    )

-- ---- a source that was lost at boot

abbrev no_source : SourcePlan
no_source = record { tsc = false; rating = pos 0; margin = pos 0; khz = pos 0; nominal_khz = pos 0; bits = pos 0; jumps = [] }

out_first : (tsc : Bool) (rating : ℕ) → IsTrue tsc → IsOut (record { kept = None; unstable = true && tsc; rating = if true && tsc then 0 else rating })
out_first true rating h = (refl, refl)
out_first false rating h = absurd (cc)

pub lost_stays : LostAtBootStaysOut
lost_stays m attempts records s l there tsc v =
    let few : length (at_first m true) ≡ length m.source = length-map m.source (source_at_first true) in
    let at : s < length (at_first m true) = omega (arith, few, there) in
    let own = source_plan_at m s in
    let out : IsOut (watched_at (at_first m true) s) =
    subst IsOut (sym (get_or-map (source_at_first true) m.source s no_source nothing there)) (out_first own.tsc (count_of own.rating) tsc) in
    let stays = out_stays m s attempts (at_first m true) records v at out in
    let all : s < length (watch_after attempts (at_first m true) records) = omega (arith, at, length_after attempts (at_first m true) records) in
    (stays.0, λ place c. never_current m (watch_after attempts (at_first m true) records) s place l all stays.1 c)
