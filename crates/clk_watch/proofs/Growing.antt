-- Records stay right as attempts are appended.
use Rattle.std.proofs.Common.{◌≡◌, ℕ, ◌+◌, ◌≤◌, List, [], ◌∷◌, ◌++◌, map, take, drop, set, length, refl, sym, ◌∙◌, ap, subst, arith, length-append, length-drop}
use Rattle.std.specs.Prelude.{Bool, true, false, if◌then◌else◌}
use Rattle.std.proofs.lemmas.List.{length-map, length-set, take-append-le, drop-append-le, take_all, drop_at}
use Rattle.clk_machine.specs.Plan.{Plan}
use Rattle.clk_record.specs.declared.attempt.Attempt.{Attempt}
use Rattle.clk_record.specs.declared.visit.Outcome.{Outcome}
use Rattle.clk_record.specs.declared.visit.SourceRecord.{SourceRecord}
use Rattle.clk_record.specs.declared.watched.Pair.{Pair}
use Rattle.clk_record.specs.declared.watched.Watched.{Watched}
use Rattle.clk_record.specs.Fold.{ends_check, unmarked, left_of, left_by, watched_at, attempts_of, last_of, pair_of, after_record, watch_after, IsReadBy, IsVisit, AreVisits}

-- ---- the attempts of a record

-- they are the same in a longer list
pub named_still : (attempts more : List Attempt) (r : SourceRecord) → r.first + r.count ≤ length attempts → attempts_of (attempts ++ more) r ≡ attempts_of attempts r
named_still attempts more r named =
    let from : r.first ≤ length attempts = omega (arith, named) in
    let to : r.count ≤ length (drop r.first attempts) = omega (arith, named, length-drop r.first attempts) in
    ap (take r.count) (drop-append-le r.first attempts more from) ∙ take-append-le r.count (drop r.first attempts) more to

-- they are those that were appended for it
pub named_last : (attempts made : List Attempt) (r : SourceRecord) → r.first ≡ length attempts → r.count ≡ length made → attempts_of (attempts ++ made) r ≡ made
named_last attempts made r first count =
    ap (take r.count) (drop_at attempts made r.first (sym first)) ∙ take_all r.count made (omega (arith, count))

-- ---- the fold

pub length_left : (outcome : Outcome) (now : Pair) (s : ℕ) (ws : List Watched) → length (left_by outcome now s ws) ≡ length ws
length_left outcome now s ws = by (ends_check outcome)
  where
    by : (ends : Bool) → length (if ends then map unmarked ws else set ws s (left_of outcome now (watched_at ws s))) ≡ length ws
    by true = length-map ws unmarked
    by false = length-set ws s (left_of outcome now (watched_at ws s))

pub length_after : (attempts : List Attempt) (ws : List Watched) (rs : List SourceRecord) → length (watch_after attempts ws rs) ≡ length ws
length_after attempts ws [] = refl
length_after attempts ws (r ∷ rs) =
    length_after attempts (after_record attempts r ws) rs ∙ length_left r.outcome (pair_of (last_of (attempts_of attempts r))) r.source ws

-- what a record leaves is told by its attempts alone
pub after_still : (attempts more : List Attempt) (r : SourceRecord) (ws : List Watched) → r.first + r.count ≤ length attempts
    → after_record (attempts ++ more) r ws ≡ after_record attempts r ws
after_still attempts more r ws named = ap (λ (xs : List Attempt). left_by r.outcome (pair_of (last_of xs)) r.source ws) (named_still attempts more r named)

pub grow_after : (m : Plan) (attempts more : List Attempt) (ws : List Watched) (rs : List SourceRecord) → AreVisits m attempts ws rs
    → watch_after (attempts ++ more) ws rs ≡ watch_after attempts ws rs
grow_after m attempts more ws [] v = refl
grow_after m attempts more ws (r ∷ rs) v =
    ap (λ w. watch_after (attempts ++ more) w rs) (after_still attempts more r ws v.0.named) ∙ grow_after m attempts more (after_record attempts r ws) rs v.1

grow_visit : (m : Plan) (attempts more : List Attempt) (ws : List Watched) (r : SourceRecord) → IsVisit m attempts ws r → IsVisit m (attempts ++ more) ws r
grow_visit m attempts more ws r v = record {
  there = v.there;
  named = let named = v.named in omega (arith, named, length-append attempts more);
  ends = v.ends;
  read = subst (λ (xs : List Attempt). IsReadBy m (watched_at ws r.source) xs v.ends) (sym (named_still attempts more r v.named)) v.read;
  outcome_is = v.outcome_is;
  current = v.current;
  lost = v.lost;
}

pub grow_visits : (m : Plan) (attempts more : List Attempt) (ws : List Watched) (rs : List SourceRecord) → AreVisits m attempts ws rs
    → AreVisits m (attempts ++ more) ws rs
grow_visits m attempts more ws [] v = v
grow_visits m attempts more ws (r ∷ rs) v = (
  grow_visit m attempts more ws r v.0,
  subst (λ w. AreVisits m (attempts ++ more) w rs) (sym (after_still attempts more r ws v.0.named)) (grow_visits m attempts more (after_record attempts r ws) rs v.1),
)

-- ---- one more record

pub after_push : (attempts : List Attempt) (ws : List Watched) (rs : List SourceRecord) (r : SourceRecord)
    → watch_after attempts ws (rs ++ r ∷ []) ≡ after_record attempts r (watch_after attempts ws rs)
after_push attempts ws [] r = refl
after_push attempts ws (x ∷ rs) r = after_push attempts (after_record attempts x ws) rs r

pub visits_push : (m : Plan) (attempts : List Attempt) (ws : List Watched) (rs : List SourceRecord) (r : SourceRecord) → AreVisits m attempts ws rs
    → IsVisit m attempts (watch_after attempts ws rs) r → AreVisits m attempts ws (rs ++ r ∷ [])
visits_push m attempts ws [] r v visit = (visit, tt)
visits_push m attempts ws (x ∷ rs) r v visit = (v.0, visits_push m attempts (after_record attempts x ws) rs r v.1 visit)
