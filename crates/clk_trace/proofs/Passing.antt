-- How visits, and checks, are written one after another: whatever is written of those to come completes the text of
-- all.
use Rattle.std.proofs.Common.{◌≡◌, ℕ, zero, suc, ◌+◌, ◌-◌, ◌%◌, ◌<◌, ◌≤◌, Bool, true, false, cond, List, [], ◌∷◌, ◌++◌, length, take, drop, get_or, drop-cons, add-one, refl, sym, ◌∙◌, ap, subst, arith}
use Rattle.std.proofs.lemmas.List.{drop_all}
use Rattle.clk_base.specs.Text.{lines_from}
use Rattle.clk_record.specs.declared.visit.SourceRecord.{SourceRecord}
use Rattle.clk_record.specs.declared.stable.StableStamp.{StableStamp}
use Rattle.clk_lawful.specs.Lines.{line_text}
use Rattle.clk_lawful.specs.Lines.Line.{Checking, Current}
use Rattle.clk_lawful.specs.RightReadings.{NeverFall}
use Rattle.clk_lawful.specs.Checks.{Visit, Check, visit_by, visits_from, checks_from, checks_of}
use Rattle.clk_lawful.specs.WritableWatch.{IsSized, visits_after}
use Rattle.clk_lawful.specs.declared.trace.WatchTrace.{WatchTrace}
use Rattle.clk_trace.specs.Taking.{Progress, Takes}
use Rattle.clk_trace.specs.WriterParts.{visit_text, check_text}
use Rattle.clk_trace.proofs.Taking.{takes_none, takes_more}

-- ---- visits

drop_next : {A : Type 0} (n : ℕ) (xs : List A) → drop 1 (drop n xs) ≡ drop (suc n) xs
drop_next zero xs = refl
drop_next (suc n) [] = refl
drop_next (suc n) (x ∷ xs) = drop_next n xs

-- how many stable stamps stand before what follows a record
abbrev pub used_after : Bool → ℕ → ℕ
used_after true used = used + 1
used_after false used = used

stamps_left : (b : Bool) (used : ℕ) (stamps : List StableStamp) → cond b (drop 1 (drop used stamps)) (drop used stamps) ≡ drop (used_after b used) stamps
stamps_left true used stamps = drop_next used stamps ∙ ap (λ n. drop n stamps) (sym (add-one used))
stamps_left false used stamps = refl

-- the visit of a record, after so many stable stamps
abbrev pub visit_at : WatchTrace → ℕ → SourceRecord → Visit
visit_at w used r = visit_by w.watch.attempts.items w.demotion (drop used w.stamps.items) r

-- the next visit, and those after it
visits_next : (w : WatchTrace) (place used : ℕ) (d : SourceRecord) → place < length w.watch.records.items
    → visits_after w place used
    ≡ visit_at w used (get_or w.watch.records.items place d) ∷ visits_after w (place + 1) (used_after (get_or w.watch.records.items place d).tsc_current used)
visits_next w place used d low =
    let r : SourceRecord = get_or w.watch.records.items place d in
    let after : ℕ = used_after r.tsc_current used in
    ap (λ rs. visits_from w.watch.attempts.items w.demotion (drop used w.stamps.items) rs) (drop-cons w.watch.records.items place d low)
    ∙ ap (λ ss. visit_at w used r ∷ visits_from w.watch.attempts.items w.demotion ss (drop (suc place) w.watch.records.items)) (stamps_left r.tsc_current used w.stamps.items)
    ∙ ap (λ n. visit_at w used r ∷ visits_from w.watch.attempts.items w.demotion (drop after w.stamps.items) (drop n w.watch.records.items)) (sym (add-one place))

-- the text of the visits from this place to the end, numbered from n
abbrev pub rest_text : WatchTrace → ℕ → ℕ → ℕ → ℕ → List ℕ
rest_text w n end place used = lines_from (visit_text w.lifts.items) n (take (end - place) (visits_after w place used))

-- the visits from `start` to this place are written
pub record Passing (begin now : Progress) (w : WatchTrace) (start used end place passed : ℕ) : Type 0 where
  pub goes : (after : Progress) → Takes now after (rest_text w (place - start) end place passed) → Takes begin after (rest_text w 0 end start used)
  pub left : drop (end - start) (visits_after w start used) ≡ drop (end - place) (visits_after w place passed)
  pub few : passed ≤ place
  pub behind : start ≤ place
  pub within : place ≤ end

pub passing_start : (begin : Progress) (w : WatchTrace) (start used end : ℕ) → used ≤ start → start ≤ end → Passing begin begin w start used end start used
passing_start begin w start used end few order = record {
  goes = λ after t.
      let e : start - start ≡ 0 = omega arith in
      subst (λ n. Takes begin after (rest_text w n end start used)) e t;
  left = refl;
  few = few;
  behind = omega arith;
  within = order;
}

used_few : (b : Bool) (used place : ℕ) → used ≤ place → used_after b used ≤ place + 1
used_few true used place few = omega (arith, few)
used_few false used place few = omega (arith, few)

pub passing_next : (begin now next : Progress) (w : WatchTrace) (start used end place passed : ℕ) (d : SourceRecord)
    → Passing begin now w start used end place passed → place < end → end ≤ length w.watch.records.items
    → Takes now next (visit_text w.lifts.items 0 (visit_at w passed (get_or w.watch.records.items place d)))
    → Passing begin next w start used end (place + 1) (used_after (get_or w.watch.records.items place d).tsc_current passed)
passing_next begin now next w start used end place passed d p low there taken =
    let r : SourceRecord = get_or w.watch.records.items place d in
    let v : Visit = visit_at w passed r in
    let then : ℕ = used_after r.tsc_current passed in
    let others : List Visit = visits_after w (place + 1) then in
    let split : visits_after w place passed ≡ v ∷ others = visits_next w place passed d (omega (arith, low, there)) in
    let count : end - place ≡ suc (end - (place + 1)) = omega (arith, low) in
    let behind = p.behind in
    let number : place - start + 1 ≡ place + 1 - start = omega (arith, behind) in
    let text : rest_text w (place - start) end place passed ≡ visit_text w.lifts.items 0 v ++ rest_text w (place + 1 - start) end (place + 1) then =
    ap (λ vs. lines_from (visit_text w.lifts.items) (place - start) (take (end - place) vs)) split
    ∙ ap (λ n. lines_from (visit_text w.lifts.items) (place - start) (take n (v ∷ others))) count
    ∙ ap (λ n. visit_text w.lifts.items 0 v ++ lines_from (visit_text w.lifts.items) n (take (end - (place + 1)) others)) number in
    record {
      goes = λ after t.
          p.goes after
          (subst (λ x. Takes now after x) (sym text)
          (takes_more now next after (visit_text w.lifts.items 0 v) (rest_text w (place + 1 - start) end (place + 1) then) taken t));
      left = p.left ∙ ap (λ vs. drop (end - place) vs) split ∙ ap (λ n. drop n (v ∷ others)) count;
      few = used_few r.tsc_current passed place p.few;
      behind = omega (arith, behind);
      within = omega (arith, low);
    }

-- at the end all of them are written
pub passed_all : (begin now : Progress) (w : WatchTrace) (start used end place passed : ℕ) → Passing begin now w start used end place passed → end ≤ place
    → Takes begin now (rest_text w 0 end start used) × (drop (end - start) (visits_after w start used) ≡ visits_after w end passed) × (passed ≤ end)
passed_all begin now w start used end place passed p over =
    let within = p.within in
    let few = p.few in
    let count : end - place ≡ 0 = omega (arith, over) in
    let here : place ≡ end = omega (arith, within, over) in (
      p.goes now (subst (λ n. Takes now now (lines_from (visit_text w.lifts.items) (place - start) (take n (visits_after w place passed)))) (sym count) (takes_none now)),
      p.left ∙ ap (λ n. drop n (visits_after w place passed)) count ∙ ap (λ n. visits_after w n passed) here,
      omega (arith, few, here),
    )

-- ---- checks

-- the checks from this one on
abbrev pub checks_left : WatchTrace → ℕ → ℕ → ℕ → List Check
checks_left w check start used =
    checks_from start (drop check w.pauses.items) (drop check w.last_record.items) (drop check w.currents.items) (visits_after w start used)

-- the checks before this one are written; its visits begin at `start`
pub record Going (cpus : ℕ) (begin now : Progress) (w : WatchTrace) (check start used : ℕ) : Type 0 where
  pub goes : (after : Progress) → Takes now after (lines_from (check_text cpus w.lifts.items) check (checks_left w check start used))
      → Takes begin after (lines_from (check_text cpus w.lifts.items) 0 (checks_of w))
  pub few : used ≤ start
  pub later : NeverFall start (drop check w.last_record.items)

pub going_start : (cpus : ℕ) (begin : Progress) (w : WatchTrace) → IsSized w → Going cpus begin begin w 0 0 0
going_start cpus begin w sized = record { goes = λ after t. t; few = omega arith; later = sized.later }

-- a check's end is not before its start
pub end_later : (start check : ℕ) (ends : List ℕ) (d : ℕ) → check < length ends → NeverFall start (drop check ends)
    → (start ≤ get_or ends check d) × NeverFall (get_or ends check d) (drop (check + 1) ends)
end_later start check ends d low later =
    let both : (start ≤ get_or ends check d) × NeverFall (get_or ends check d) (drop (suc check) ends) = subst (NeverFall start) (drop-cons ends check d low) later in
    (both.0, subst (λ n. NeverFall (get_or ends check d) (drop n ends)) (sym (add-one check)) both.1)

checks_next : (w : WatchTrace) (check start used end then : ℕ) (p e c : ℕ) → IsSized w → check < length w.last_record.items
    → get_or w.last_record.items check e ≡ end → drop (end - start) (visits_after w start used) ≡ visits_after w end then
    → checks_left w check start used
    ≡ record { ticket = get_or w.pauses.items check p; visits = take (end - start) (visits_after w start used); current = get_or w.currents.items check c }
    ∷ checks_left w (check + 1) end then
checks_next w check start used end then p e c sized low is left =
    let pauses = sized.pauses in
    let currents = sized.currents in
    let ticket : ℕ = get_or w.pauses.items check p in
    let place : ℕ = get_or w.currents.items check c in
    let visits : List Visit = visits_after w start used in
    let here : Check = record { ticket = ticket; visits = take (end - start) visits; current = place } in
    ap (λ xs. checks_from start xs (drop check w.last_record.items) (drop check w.currents.items) visits) (drop-cons w.pauses.items check p (omega (arith, pauses, low)))
    ∙ ap (λ xs. checks_from start (ticket ∷ drop (suc check) w.pauses.items) xs (drop check w.currents.items) visits) (drop-cons w.last_record.items check e low)
    ∙ ap (λ n. checks_from start (ticket ∷ drop (suc check) w.pauses.items) (n ∷ drop (suc check) w.last_record.items) (drop check w.currents.items) visits) is
    ∙ ap (λ xs. checks_from start (ticket ∷ drop (suc check) w.pauses.items) (end ∷ drop (suc check) w.last_record.items) xs visits) (drop-cons w.currents.items check c (omega (arith, currents, low)))
    ∙ ap (λ vs. here ∷ checks_from end (drop (suc check) w.pauses.items) (drop (suc check) w.last_record.items) (drop (suc check) w.currents.items) vs) left
    ∙ ap (λ n. here ∷ checks_from end (drop n w.pauses.items) (drop n w.last_record.items) (drop n w.currents.items) (visits_after w end then)) (sym (add-one check))

pub going_next : (cpus : ℕ) (begin now a b next : Progress) (w : WatchTrace) (check start used end then : ℕ) (p e c : ℕ)
    → Going cpus begin now w check start used → IsSized w → check < length w.last_record.items → get_or w.last_record.items check e ≡ end
    → Takes now a (line_text (Checking check (check % cpus) (get_or w.pauses.items check p)))
    → Takes a b (rest_text w 0 end start used) → drop (end - start) (visits_after w start used) ≡ visits_after w end then → then ≤ end
    → Takes b next (line_text (Current (get_or w.currents.items check c)))
    → Going cpus begin next w (check + 1) end then
going_next cpus begin now a b next w check start used end then p e c g sized low is head visits left few current =
    let f : ℕ → Check → List ℕ = check_text cpus w.lifts.items in
    let here : Check = record { ticket = get_or w.pauses.items check p; visits = take (end - start) (visits_after w start used); current = get_or w.currents.items check c } in
    let text : lines_from f check (checks_left w check start used) ≡ f check here ++ lines_from f (check + 1) (checks_left w (check + 1) end then) =
    ap (λ cs. lines_from f check cs) (checks_next w check start used end then p e c sized low is left) in
    let taken : Takes now next (f check here) = takes_more _ _ _ _ _ (takes_more _ _ _ _ _ head visits) current in
    record {
      goes = λ after t.
          g.goes after
          (subst (λ x. Takes now after x) (sym text) (takes_more now next after (f check here) (lines_from f (check + 1) (checks_left w (check + 1) end then)) taken t));
      few = few;
      later = subst (λ n. NeverFall n (drop (check + 1) w.last_record.items)) is (end_later start check w.last_record.items e low g.later).1;
    }

-- at the end all of them are written
pub gone_all : (cpus : ℕ) (begin now : Progress) (w : WatchTrace) (check start used : ℕ) → Going cpus begin now w check start used → IsSized w → length w.last_record.items ≤ check
    → Takes begin now (lines_from (check_text cpus w.lifts.items) 0 (checks_of w))
gone_all cpus begin now w check start used g sized over =
    let pauses = sized.pauses in
    let done : checks_left w check start used ≡ [] =
    ap (λ xs. checks_from start xs (drop check w.last_record.items) (drop check w.currents.items) (visits_after w start used)) (drop_all check w.pauses.items (omega (arith, pauses, over))) in
    g.goes now (subst (λ cs. Takes now now (lines_from (check_text cpus w.lifts.items) check cs)) (sym done) (takes_none now))
