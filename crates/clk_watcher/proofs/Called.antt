-- Which visits have a stamp or a demotion, by the records of all of them.
use Rattle.std.proofs.Common.{◌≡◌, ℕ, List, [], ◌∷◌, ◌++◌, map, length, refl, sym, ◌∙◌, ap, subst}
use Rattle.std.specs.Prelude.{Bool, true, false, not, ◌&&◌, is_some, if◌then◌else◌}
use Rattle.std.specs.List.{All}
use Rattle.std.proofs.lemmas.List.Elements.{All-nil, All-cons, All-head, All-tail}
use Rattle.clk_machine.specs.Plan.{Plan}
use Rattle.clk_machine.specs.Limits.{IsWithinLimits}
use Rattle.clk_machine.specs.Time.{source_plan_at}
use Rattle.clk_record.specs.declared.attempt.Attempt.{Attempt}
use Rattle.clk_record.specs.declared.visit.Outcome.TheVariants.{Passed}
use Rattle.clk_record.specs.declared.visit.SourceRecord.{SourceRecord}
use Rattle.clk_record.specs.declared.watched.Watched.{Watched}
use Rattle.clk_record.specs.Fold.{is_good, is_lost, pair_of, last_of, attempts_of, after_record, IsVisit, AreVisits}
use Rattle.clk_watch.proofs.Growing.{length_left}
use Rattle.clk_watch.proofs.Staying.{demoted_stays}
use Rattle.clk_lawful.specs.Checks.{Visit}
use Rattle.clk_watcher.specs.VisitsKept.{AreCalled, demoted_after}
use Rattle.clk_watcher.proofs.OneTsc.{both_true, false_by, tsc_once}

-- ---- none

-- no visit has a demotion
abbrev pub NoneIn : List Visit → Type 0
NoneIn [] = Unit {0}
NoneIn (v ∷ visits) = (is_some v.demotion ≡ false) × NoneIn visits

-- after the stable mode nothing more is called for
pub called_never : (c : Bool) (xs : List Visit) → AreCalled false xs c → (c ≡ false) × NoneIn xs
called_never c [] p = (sym p, tt)
called_never c (v ∷ xs) p = let rest = called_never c xs p.2 in (rest.0, (p.1, rest.1))

-- while the clock is still stable there was none
none_by : (stable dem : Bool) (v : Visit) (xs : List Visit) → is_some v.demotion ≡ (stable && dem) → AreCalled (stable && not dem) xs true
    → (AreCalled (stable && not dem) xs true → NoneIn xs) → NoneIn (v ∷ xs)
none_by true true v xs e p next = absurd (let never = (called_never true xs p).0 in cc)
none_by true false v xs e p next = (e, next p)
none_by false true v xs e p next = (e, next p)
none_by false false v xs e p next = (e, next p)

pub called_still : (stable : Bool) (xs : List Visit) → AreCalled stable xs true → NoneIn xs
called_still stable [] p = tt
called_still stable (v ∷ xs) p = none_by stable v.made.tsc_demoted v xs p.1 p.2 (λ h. called_still (stable && not v.made.tsc_demoted) xs h)

-- ---- the check of a demotion

same_if : (b : Bool) (n : ℕ) → (if b then n else n) ≡ n
same_if true n = refl
same_if false n = refl

pub demoted_here : (check : ℕ) (xs : List Visit) → demoted_after check xs check ≡ check
demoted_here check [] = refl
demoted_here check (v ∷ xs) = ap (demoted_after check xs) (same_if (is_some v.demotion) check) ∙ demoted_here check xs

pub demoted_none : (check n : ℕ) (xs : List Visit) → NoneIn xs → demoted_after check xs n ≡ n
demoted_none check n [] h = refl
demoted_none check n (v ∷ xs) h =
    subst (λ b. demoted_after check xs (if b then check else n) ≡ n) (sym h.0) (demoted_none check n xs h.1)

pub demoted_each : (check n : ℕ) (xs : List Visit) → All (λ v. is_some v.demotion ≡ true → demoted_after check xs n ≡ check) xs
demoted_each check n [] = All-nil _
demoted_each check n (v ∷ xs) =
    All-cons (λ (x : Visit). is_some x.demotion ≡ true → demoted_after check (v ∷ xs) n ≡ check) v xs
    (λ e. subst (λ b. demoted_after check xs (if b then check else n) ≡ check) (sym e) (demoted_here check xs)) (demoted_each check (if is_some v.demotion then check else n) xs)

-- so nothing is said of one
pub vacuous : (x n : ℕ) (xs : List Visit) → NoneIn xs → All (λ v. is_some v.demotion ≡ true → x ≡ n) xs
vacuous x n [] h = All-nil _
vacuous x n (v ∷ xs) h =
    All-cons (λ (y : Visit). is_some y.demotion ≡ true → x ≡ n) v xs (λ e. absurd (let no_one = h.0 in cc)) (vacuous x n xs h.1)

pub none_first : (xs ys : List Visit) → NoneIn (xs ++ ys) → NoneIn xs
none_first [] ys h = tt
none_first (x ∷ xs) ys h = (h.0, none_first xs ys h.1)

pub none_second : (xs ys : List Visit) → NoneIn (xs ++ ys) → NoneIn ys
none_second [] ys h = h
none_second (x ∷ xs) ys h = none_second xs ys h.1

-- ---- all records

-- each visit has what its own record calls for
abbrev pub AllCalled : Bool → List Visit → Type 0
AllCalled stable [] = Unit {0}
AllCalled stable (v ∷ visits) =
    (is_some v.stamp ≡ (stable && v.made.tsc_current)) × (is_some v.demotion ≡ (stable && v.made.tsc_demoted)) × AllCalled stable visits

-- after the demotion no record is of a good or a lost TSC source
module _ (m : Plan) (attempts : List Attempt) (limits : IsWithinLimits m) (source : ℕ) (tsc : (source_plan_at m source).tsc ≡ true) where
  same_source : (r : SourceRecord) → (source_plan_at m r.source).tsc ≡ true → r.source ≡ source
  same_source r e = tsc_once m.source r.source source limits.ranges.own_once e tsc

  out_flags : (ws : List Watched) (r : SourceRecord) → IsVisit m attempts ws r → (r.source ≡ source → (r.outcome ≡ Passed) × (attempts_of attempts r ≡ []))
      → (r.tsc_current ≡ false) × (r.tsc_demoted ≡ false)
  out_flags ws r v out =
      let current : r.tsc_current ≡ true → ⊥ = λ e.
      let both = both_true (is_good r.outcome) (source_plan_at m r.source).tsc (v.current.0 e).0 in
      let passed = (out (same_source r both.1)).0 in
      let good : is_good r.outcome ≡ false = ap is_good passed in
      (let yes_good = both.0 in cc) in
      let lost : r.tsc_demoted ≡ true → ⊥ = λ e.
      let both = both_true (is_lost r.outcome) (source_plan_at m r.source).tsc (sym v.lost ∙ e) in
      let passed = (out (same_source r both.1)).0 in
      let none_lost : is_lost r.outcome ≡ false = ap is_lost passed in
      (let yes_lost = both.0 in cc) in
      (false_by r.tsc_current current, false_by r.tsc_demoted lost)

  out_called : (ws : List Watched) (xs : List Visit) (after : Bool) → AreVisits m attempts ws (map (λ v. v.made) xs)
      → All (λ r. r.source ≡ source → (r.outcome ≡ Passed) × (attempts_of attempts r ≡ [])) (map (λ v. v.made) xs) → AreCalled false xs after → AllCalled true xs
  out_called ws [] after visits out p = tt
  out_called ws (v ∷ xs) after visits out p =
      let P : SourceRecord → Type 0 = λ r. r.source ≡ source → (r.outcome ≡ Passed) × (attempts_of attempts r ≡ []) in
      let rest = map (λ (x : Visit). x.made) xs in
      let flags = out_flags ws v.made visits.0 (All-head P v.made rest out) in (
        p.0 ∙ sym flags.0,
        p.1 ∙ sym flags.1,
        out_called (after_record attempts v.made ws) xs after visits.1 (All-tail P v.made rest out) p.2,
      )

called_false : (xs : List Visit) (after : Bool) → AreCalled false xs after → AllCalled false xs
called_false [] after p = tt
called_false (v ∷ xs) after p = (p.0, p.1, called_false xs after p.2)

pub called_all : (m : Plan) (attempts : List Attempt) (ws : List Watched) (stable : Bool) (xs : List Visit) (after : Bool) → IsWithinLimits m → length ws ≡ length m.source
    → AreVisits m attempts ws (map (λ v. v.made) xs) → AreCalled stable xs after → AllCalled stable xs
called_all m attempts ws false xs after limits count visits p = called_false xs after p
called_all m attempts ws true [] after limits count visits p = tt
called_all m attempts ws true (v ∷ xs) after limits count visits p =
    by v.made.tsc_demoted refl (λ long called. called_all m attempts (after_record attempts v.made ws) true xs after limits long visits.1 called)
  where
    by : (b : Bool) → v.made.tsc_demoted ≡ b → (length (after_record attempts v.made ws) ≡ length m.source → AreCalled true xs after → AllCalled true xs) → AllCalled true (v ∷ xs)
    by false e next =
        let long = length_left v.made.outcome (pair_of (last_of (attempts_of attempts v.made))) v.made.source ws in
        (p.0, p.1, next (long ∙ count) (subst (λ b. AreCalled (true && not b) xs after) e p.2))
    by true e next =
        let both = both_true (is_lost v.made.outcome) (source_plan_at m v.made.source).tsc (sym visits.0.lost ∙ e) in
        let out = (demoted_stays m attempts ws [] v.made (map (λ (x : Visit). x.made) xs) limits count visits both.0).0 in (
          p.0,
          p.1,
          out_called m attempts limits v.made.source both.1 (after_record attempts v.made ws) xs after visits.1 out (subst (λ b. AreCalled (true && not b) xs after) e p.2),
        )
