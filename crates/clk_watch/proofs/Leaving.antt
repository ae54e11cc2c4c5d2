-- What an outcome leaves of the sources, by the pair of its bracket.
use Rattle.std.proofs.Common.{◌≡◌, ℕ, ◌-◌, ◌<◌, List, [], ◌∷◌, ◌++◌, map, set, length, Option, Some, None, refl, sym, ◌∙◌, ap, arith, length-append}
use Rattle.std.specs.Prelude.{Bool, true, false, nat_le, slice_index, unwrap_or, if◌then◌else◌}
use Rattle.std.specs.List.{All}
use Rattle.std.proofs.lemmas.List.{get_or_at}
use Rattle.std.proofs.lemmas.List.Elements.{All-map, All-set, All-get_or}
use Rattle.clk_machine.specs.Plan.{Plan}
use Rattle.clk_record.specs.declared.attempt.Attempt.{Attempt}
use Rattle.clk_record.specs.declared.attempt.Bracket.{Bracket}
use Rattle.clk_record.specs.declared.attempt.Bracket.TheVariants.{Accepted, Skip as SkipBracket, Slow as SlowBracket}
use Rattle.clk_record.specs.declared.visit.Outcome.{Outcome}
use Rattle.clk_record.specs.declared.visit.Outcome.TheVariants.{Passed, Slow, Skip, First, Good, Bad}
use Rattle.clk_record.specs.declared.watched.Pair.{Pair}
use Rattle.clk_record.specs.declared.watched.Watched.{Watched}
use Rattle.clk_record.specs.Attempts.{skew_of, reference_ns, decided, IsBracket}
use Rattle.clk_record.specs.Fold.{outcome_of, ends_check, unmarked, left_of, left_by, watched_at, last_of, pair_of, IsReadBy}
use Rattle.clk_watch.specs.Small.{IsSmallPair, IsSmallWatched, IsSmallBracket}
use Rattle.clk_watch.specs.Visiting.{pair_in}

-- ---- the last attempt of a bracket

pub last_is : (before : List Attempt) (last : Attempt) (attempts : List Attempt) → attempts ≡ before ++ last ∷ [] → last_of attempts ≡ last
last_is before last attempts e =
    ap last_of e ∙ get_or_at before last [] (record { ticket = []; value = [] }) (length (before ++ last ∷ []) - 1) (omega (arith, length-append before (last ∷ [])))

-- which test passed is told by the bracket
accepted_by : (p q : Bool) (cs wd c w : ℕ) → Accepted cs wd ≡ unwrap_or (if p then Some (Accepted c w) else (if q then Some SkipBracket else None)) SlowBracket → (cs ≡ c) × (wd ≡ w)
accepted_by true q cs wd c w e = (cc, cc)
accepted_by false true cs wd c w e = absurd (cc)
accepted_by false false cs wd c w e = absurd (cc)

decided_by : (p q : Bool) (cs wd c w : ℕ) → Accepted cs wd ≡ unwrap_or (if p then Some (Accepted c w) else (if q then Some SkipBracket else None)) SlowBracket
    → (if p then Some (Accepted c w) else (if q then Some SkipBracket else None)) ≡ Some (Accepted cs wd)
decided_by true q cs wd c w e = ap Some (sym e)
decided_by false true cs wd c w e = absurd (cc)
decided_by false false cs wd c w e = absurd (cc)

slow_by : (p q : Bool) (c w : ℕ) → SlowBracket ≡ unwrap_or (if p then Some (Accepted c w) else (if q then Some SkipBracket else None)) SlowBracket
    → (if p then Some (Accepted c w) else (if q then Some SkipBracket else None)) ≡ None
slow_by true q c w e = absurd (cc)
slow_by false true c w e = absurd (cc)
slow_by false false c w e = refl

-- an accepted bracket has the pair of its last attempt
pub pair_is : (m : Plan) (attempts : List Attempt) (cs wd : ℕ) → IsBracket m attempts (Accepted cs wd) → pair_of (last_of attempts) ≡ record { cs = cs; wd = wd }
pair_is m attempts cs wd b =
    let at = λ (i : ℕ). slice_index b.last.value i in
    let both = accepted_by (nat_le (reference_ns m (at 0) (at 2)) (skew_of m)) _ cs wd (at 1) (at 0) b.outcome_is in
    ap pair_of (last_is b.before b.last attempts b.attempts_are)
    ∙ (let a = both.0 in let e : pair_of b.last ≡ record { cs = cs; wd = wd } = ap (λ n. record { cs = n; wd = at 0 }) (sym a) ∙ ap (λ n. record { cs = cs; wd = n }) (sym both.1) in e)

-- which decides so
pub accepted_is : (m : Plan) (attempts : List Attempt) (cs wd : ℕ) → IsBracket m attempts (Accepted cs wd) → decided m (last_of attempts) ≡ Some (Accepted cs wd)
accepted_is m attempts cs wd b =
    let at = λ (i : ℕ). slice_index b.last.value i in
    ap (decided m) (last_is b.before b.last attempts b.attempts_are)
    ∙ decided_by (nat_le (reference_ns m (at 0) (at 2)) (skew_of m)) _ cs wd (at 1) (at 0) b.outcome_is

-- and the last one of a slow bracket decides nothing
pub slow_is : (m : Plan) (attempts : List Attempt) → IsBracket m attempts SlowBracket → decided m (last_of attempts) ≡ None
slow_is m attempts b =
    let at = λ (i : ℕ). slice_index b.last.value i in
    ap (decided m) (last_is b.before b.last attempts b.attempts_are) ∙ slow_by (nat_le (reference_ns m (at 0) (at 2)) (skew_of m)) _ (at 1) (at 0) b.outcome_is

-- so what is left is told by the attempts
pub left_same : (m : Plan) (s : ℕ) (w : Watched) (attempts : List Attempt) (ends : Option Bracket) (ws : List Watched) → IsReadBy m w attempts ends
    → left_by (outcome_of m s w ends) (pair_in ends) s ws ≡ left_by (outcome_of m s w ends) (pair_of (last_of attempts)) s ws
left_same m s w attempts None ws h = refl
left_same m s w attempts (Some SkipBracket) ws h = refl
left_same m s w attempts (Some SlowBracket) ws h = refl
left_same m s w attempts (Some (Accepted cs wd)) ws h =
    ap (λ p. left_by (outcome_of m s w (Some (Accepted cs wd))) p s ws) (sym (pair_is m attempts cs wd h.1))

-- ---- what is kept stays small

pub small_pair : (ends : Option Bracket) → IsSmallBracket ends → IsSmallPair (pair_in ends)
small_pair None h = record { cs = omega arith; wd = omega arith }
small_pair (Some SkipBracket) h = record { cs = omega arith; wd = omega arith }
small_pair (Some SlowBracket) h = record { cs = omega arith; wd = omega arith }
small_pair (Some (Accepted cs wd)) h = h

small_one : (outcome : Outcome) (now : Pair) (w : Watched) → IsSmallPair now → IsSmallWatched w → IsSmallWatched (left_of outcome now w)
small_one Passed now w p h = h
small_one Slow now w p h = h
small_one Skip now w p h = tt
small_one First now w p h = p
small_one (Good cs_ns wd_ns) now w p h = p
small_one (Bad cs_ns wd_ns) now w p h = p

pub small_left : (outcome : Outcome) (now : Pair) (s : ℕ) (ws : List Watched) → s < length ws → IsSmallPair now → All IsSmallWatched ws → All IsSmallWatched (left_by outcome now s ws)
small_left outcome now s ws there p h = by (ends_check outcome)
  where
    by : (ends : Bool) → All IsSmallWatched (if ends then map unmarked ws else set ws s (left_of outcome now (watched_at ws s)))
    by true = All-map IsSmallWatched unmarked ws (λ k d low. tt)
    by false = All-set IsSmallWatched ws s (left_of outcome now (watched_at ws s)) (small_one outcome now (watched_at ws s) p (All-get_or IsSmallWatched ws s _ there h)) h
