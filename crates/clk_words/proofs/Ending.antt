-- The end: a seat that has every own list has seen the whole history, and the lists are the history.
use Rattle.std.proofs.Common.{◌≡◌, ◌≢◌, ℕ, zero, suc, ◌+◌, ◌<◌, ◌≤◌, ◌^◌, ℤ, true, List, [], ◌∷◌, ◌++◌, length, get_or, nat_eq, All, Contains, sum_by, flat_map, refl, sym, ap, ◌∙◌, subst, arith, append-nil, eq-eqb, ne_eqb, eqb-true, map, ⊎_elim}
use Rattle.std.proofs.lemmas.Int.{ints}
use Rattle.std.proofs.lemmas.List.Sums.{sum_by-cons, sum_by-append}
use Rattle.std.proofs.lemmas.List.Elements.{All-head, All-tail, All-weaker, All-contains}
use Rattle.std.proofs.Math.Seq.{get_or-append_seam}
use Rattle.std.proofs.Common.{length-append}
use mathlib.Core.Option.{some, some-injective, some-ne-none}
use mathlib.Core.Logic.{dite}
use native.Mathlib.Decide.{ℕ_discrete, dec_le}
use lib.ListN.{get_elem?}
use Rattle.atomic_table.specs.Table.{Final, Seen}
use Rattle.clk_num.specs.Wrapping.{IsValue}
use Rattle.clk_num.proofs.Heights.{same_above}
use Rattle.clk_record.specs.declared.step.Step.{Step}
use Rattle.clk_words.specs.declared.opening.Start.{Start}
use Rattle.clk_words.specs.declared.view.View.{View}
use Rattle.clk_words.specs.Histories.{opens_at, value_after, IsGlobalHistory, steps_by}
use Rattle.clk_words.specs.Heights.{IsClockWord}
use Rattle.clk_words.specs.Rights.{has_number}
use Rattle.clk_words.specs.Views.{own_lists}
use Rattle.clk_words.specs.Knowing.{HasAll}
use Rattle.clk_words.specs.Calls.{IsComplete}
use Rattle.clk_words.specs.Held.{Ended}
use Rattle.clk_words.specs.WordSeats.{AreEnded}
use Rattle.clk_words.specs.WordsRule.{IsOwn, Fits, Kept}
use Rattle.clk_words.proofs.Fronts.{begins_none}
use Rattle.clk_words.proofs.Owning.{or_cases}
use Rattle.clk_words.proofs.Replay.{by_append, by_fresh, is_chain}
use Rattle.clk_words.proofs.Places.{times, times_none, times_at, times_off}

abbrev Own : Type 0
Own = ℕ × List Step

-- what the lists are, all of one history
abbrev AreOf : List Step → List Own → Type 0
AreOf history os = All (λ (own : Own). steps_by own.0 history ≡ own.1) os

abbrev pub flat : List Own → List Step
flat os = flat_map (λ own. own.1) os

-- a number that stands there stands before a list
list_of : (n : ℕ) (os : List Own) → has_number (map (λ own. own.0) os) n ≡ true → (steps : List Step) × Contains os (n, steps)
list_of n [] e = absurd (cc)
list_of n (own ∷ os) e = ⊎_elim
    (λ (h : nat_eq own.0 n ≡ true). (own.1, (0, omega arith, ap (λ k. (k, own.1)) (eqb-true own.0 n h))))
    (λ (h : has_number (map (λ own. own.0) os) n ≡ true).
    let rest = list_of n os h in
    let at = rest.1 in
    (rest.0, (suc at.0, (let low = at.1 in omega arith), at.2)))
    (or_cases (nat_eq own.0 n) (has_number (map (λ own. own.0) os) n) e)

-- a number that stands before a list is counted
times_has : (n : ℕ) (steps : List Step) (os : List Own) → Contains os (n, steps) → 1 ≤ times n os
times_has n steps os has = by_count (ℕ_discrete (times n os) 0)
  where
    by_count : Dec (times n os ≡ 0) → 1 ≤ times n os
    by_count (yes e) = absurd (All-contains (λ (own : Own). own.0 ≢ n) os (n, steps) (times_none n os e) has refl)
    by_count (no k) = omega arith

-- the last step of a history is in the list of the seat that made it
nothing_left : (history front rest : List Step) (made j : ℕ) (holder : ℕ → ℕ) (os : List Own) → history ≡ front ++ rest
    → All (λ s. s.by < made) history → ((n : ℕ) → n < made → has_number (map (λ own. own.0) os) n ≡ true)
    → All (λ own. IsOwn history made holder j front own.0 own.1) os → rest ≡ []
nothing_left history front [] made j holder os e made_by each owns = refl
nothing_left history front (t ∷ ts) made j holder os e made_by each owns =
    let all : All (λ (s : Step). s.by < made) (front ++ t ∷ ts) = subst (All (λ (s : Step). s.by < made)) e made_by in
    let low : t.by < made = subst (λ (s : Step). s.by < made) (get_or-append_seam front t ts t) (all (length front) t (omega (arith, length-append front (t ∷ ts)))) in
    let has = list_of t.by os (each t.by low) in
    let is = All-contains (λ (own : Own). IsOwn history made holder j front own.0 own.1) os (t.by, has.0) owns has.1 in
    let whole : steps_by t.by front ++ steps_by t.by (t ∷ ts) ≡ steps_by t.by front = sym (by_append t.by front (t ∷ ts)) ∙ sym (ap (steps_by t.by) e) ∙ is.in_history ∙ sym is.in_front in
    let none = begins_none (steps_by t.by front) (steps_by t.by (t ∷ ts)) whole in
    let yes : nat_eq t.by t.by ≡ true = eq-eqb t.by t.by refl in
    let first : steps_by t.by (t ∷ ts) ≡ t ∷ steps_by t.by ts = rw yes refl in
    absurd (cc)

-- sums over the lists
module _ (f : Step → ℕ) where
  abbrev sum_of : List Step → List Own → ℕ
  sum_of history os = sum_by (λ own. sum_by f (steps_by own.0 history)) os

  sum_flat : (history : List Step) (os : List Own) → AreOf history os → sum_by f (flat os) ≡ sum_of history os
  sum_flat history [] are = refl
  sum_flat history (own ∷ os) are =
      let head = All-head (λ (o : Own). steps_by o.0 history ≡ o.1) own os are in
      let rest = sum_flat history os (All-tail (λ (o : Own). steps_by o.0 history ≡ o.1) own os are) in
      let same = ap (sum_by f) head in
      omega (arith, sum_by-append f own.1 (flat os), sum_by-cons (λ (o : Own). sum_by f (steps_by o.0 history)) own os)

  sum_none : (os : List Own) → sum_of [] os ≡ 0
  sum_none [] = refl
  sum_none (own ∷ os) = omega (arith, sum_by-cons (λ (o : Own). sum_by f (steps_by o.0 [])) own os, sum_none os)

  step_here : (n : ℕ) (t : Step) (history : List Step) → t.by ≡ n → sum_by f (steps_by n (t ∷ history)) ≡ f t + sum_by f (steps_by n history)
  step_here n t history e = let yes = eq-eqb t.by n e in rw yes (sum_by-cons f t (steps_by n history))

  step_else : (n : ℕ) (t : Step) (history : List Step) → t.by ≢ n → sum_by f (steps_by n (t ∷ history)) ≡ sum_by f (steps_by n history)
  step_else n t history k = let no_hit = ne_eqb t.by n k in rw no_hit refl

  sum_off : (t : Step) (history : List Step) (os : List Own) → times t.by os ≡ 0 → sum_of (t ∷ history) os ≡ sum_of history os
  sum_off t history [] e = refl
  sum_off t history (own ∷ os) e =
      dite (ℕ_discrete own.0 t.by)
      (λ h. absurd (omega (arith, times_at t.by own os h)))
      (λ k. omega (
        arith,
        sum_by-cons (λ (o : Own). sum_by f (steps_by o.0 (t ∷ history))) own os,
        sum_by-cons (λ (o : Own). sum_by f (steps_by o.0 history)) own os,
        step_else own.0 t history (λ h. k (sym h)),
        sum_off t history os (omega (arith, times_off t.by own os k)),
      ))

  sum_on : (t : Step) (history : List Step) (os : List Own) → times t.by os ≡ 1 → sum_of (t ∷ history) os ≡ f t + sum_of history os
  sum_on t history [] e = absurd (omega arith)
  sum_on t history (own ∷ os) e =
      dite (ℕ_discrete own.0 t.by)
      (λ h. omega (
        arith,
        sum_by-cons (λ (o : Own). sum_by f (steps_by o.0 (t ∷ history))) own os,
        sum_by-cons (λ (o : Own). sum_by f (steps_by o.0 history)) own os,
        step_here own.0 t history (sym h),
        sum_off t history os (omega (arith, times_at t.by own os h)),
      ))
      (λ k. omega (
        arith,
        sum_by-cons (λ (o : Own). sum_by f (steps_by o.0 (t ∷ history))) own os,
        sum_by-cons (λ (o : Own). sum_by f (steps_by o.0 history)) own os,
        step_else own.0 t history (λ h. k (sym h)),
        sum_on t history os (omega (arith, times_off t.by own os k)),
      ))

  sum_all : (history : List Step) (os : List Own) → All (λ t. times t.by os ≡ 1) history → sum_of history os ≡ sum_by f history
  sum_all [] os once = sum_none os
  sum_all (t ∷ history) os once =
      omega (
        arith,
        sum_on t history os (All-head (λ (s : Step). times s.by os ≡ 1) t history once),
        sum_all history os (All-tail (λ (s : Step). times s.by os ≡ 1) t history once),
        sum_by-cons f t history,
      )

-- the steps of one number in the lists
twice_same : (n : ℕ) (history : List Step) → steps_by n (steps_by n history) ≡ steps_by n history
twice_same n [] = refl
twice_same n (t ∷ history) =
    dite (ℕ_discrete t.by n)
    (λ e. let yes = eq-eqb t.by n e in rw yes (rw yes (ap (λ zs. t ∷ zs) (twice_same n history))))
    (λ k. let no_hit = ne_eqb t.by n k in rw no_hit (twice_same n history))

twice_else : (n m : ℕ) (history : List Step) → n ≢ m → steps_by n (steps_by m history) ≡ []
twice_else n m [] ne = refl
twice_else n m (t ∷ history) ne =
    dite (ℕ_discrete t.by m)
    (λ e. let yes = eq-eqb t.by m e in let no_hit = ne_eqb t.by n (λ h. ne (sym h ∙ e)) in rw yes (rw no_hit (twice_else n m history ne)))
    (λ k. let no_hit = ne_eqb t.by m k in rw no_hit (twice_else n m history ne))

flat_none : (n : ℕ) (history : List Step) (os : List Own) → AreOf history os → times n os ≡ 0 → steps_by n (flat os) ≡ []
flat_none n history [] are e = refl
flat_none n history (own ∷ os) are e =
    dite (ℕ_discrete own.0 n)
    (λ h. absurd (omega (arith, times_at n own os h)))
    (λ k.
    let head = All-head (λ (o : Own). steps_by o.0 history ≡ o.1) own os are in
    let rest = flat_none n history os (All-tail (λ (o : Own). steps_by o.0 history ≡ o.1) own os are) (omega (arith, times_off n own os k)) in
    let one : steps_by n own.1 ≡ [] = ap (steps_by n) (sym head) ∙ twice_else n own.0 history (λ h. k (sym h)) in
    by_append n own.1 (flat os) ∙ rw (one, rest) refl)

flat_one : (n : ℕ) (history : List Step) (os : List Own) → AreOf history os → times n os ≡ 1 → steps_by n (flat os) ≡ steps_by n history
flat_one n history [] are e = absurd (omega arith)
flat_one n history (own ∷ os) are e =
    let head = All-head (λ (o : Own). steps_by o.0 history ≡ o.1) own os are in
    let tail = All-tail (λ (o : Own). steps_by o.0 history ≡ o.1) own os are in
    dite (ℕ_discrete own.0 n)
    (λ h.
    let rest = flat_none n history os tail (omega (arith, times_at n own os h)) in
    let one : steps_by n own.1 ≡ steps_by n history = ap (steps_by n) (sym head) ∙ ap (λ k. steps_by n (steps_by k history)) h ∙ twice_same n history in
    by_append n own.1 (flat os) ∙ rw (one, rest) (append-nil (steps_by n history)))
    (λ k.
    let rest = flat_one n history os tail (omega (arith, times_off n own os k)) in
    let one : steps_by n own.1 ≡ [] = ap (steps_by n) (sym head) ∙ twice_else n own.0 history (λ h. k (sym h)) in
    by_append n own.1 (flat os) ∙ rw (one, rest) refl)

-- the end
pub record Ends (start : Start) (v : View) (words : List ℕ) : Type 0 where
  pub start_is : v.start ≡ start
  pub complete : IsComplete start v v.seen
  pub words_are : AreEnded start v.seen words

complete_of : (start : Start) (history : List Step) (made : ℕ) (holder : ℕ → ℕ) (splitter j : ℕ) (v : View) → IsGlobalHistory start history → All (λ s. s.by < made) history
    → Fits start history made holder splitter j v → HasAll v → history ≡ v.seen → IsComplete start v v.seen
complete_of start history made holder splitter j v legal made_by fits all same =
    let counted = (fits.splits all.first).0 in
    let os = own_lists v in
    let below : All (λ (s : Step). s.by < v.made) v.seen =
    subst (λ n. All (λ (s : Step). s.by < n) v.seen) (sym counted) (subst (All (λ (s : Step). s.by < made)) same made_by) in
    let are : AreOf v.seen os = All-weaker (λ (own : Own). IsOwn history made holder j v.seen own.0 own.1) (λ (own : Own). steps_by own.0 v.seen ≡ own.1) (λ own is. is.in_front) os fits.lists in
    let once : (n : ℕ) → n < v.made → times n os ≡ 1 =
    λ n low. let has = list_of n os (all.each n low) in let some_times = times_has n has.0 os has.1 in omega (arith, fits.single n) in
    let each : All (λ (s : Step). times s.by os ≡ 1) v.seen = All-weaker (λ (s : Step). s.by < v.made) (λ (s : Step). times s.by os ≡ 1) (λ s low. once s.by low) v.seen below in
    let chained : IsGlobalHistory start v.seen = subst (IsGlobalHistory start) same legal in
    record {
      is = refl;
      legal = chained;
      once = λ f. sym (sum_flat f v.seen os are ∙ sum_all f v.seen os each);
      order = λ n. by_size n (dec_le v.made n) os are once below;
      lists = are;
      made_by = below;
      chain = λ w. is_chain start v.seen w chained;
    }
  where
    by_size : (n : ℕ) → Dec (v.made ≤ n) → (os : List Own) → AreOf v.seen os → ((m : ℕ) → m < v.made → times m os ≡ 1) → All (λ (s : Step). s.by < v.made) v.seen
        → steps_by n v.seen ≡ steps_by n (flat os)
    by_size n (yes high) os are once below =
        let none = by_fresh n v.seen (All-weaker (λ (s : Step). s.by < v.made) (λ (s : Step). s.by < n) (λ s low. omega arith) v.seen below) in
        none ∙ sym (flat_fresh n os are none)
      where
        flat_fresh : (n : ℕ) (os : List Own) → AreOf v.seen os → steps_by n v.seen ≡ [] → steps_by n (flat os) ≡ []
        flat_fresh n [] are none = refl
        flat_fresh n (own ∷ os) are none =
            let head = All-head (λ (o : Own). steps_by o.0 v.seen ≡ o.1) own os are in
            let rest = flat_fresh n os (All-tail (λ (o : Own). steps_by o.0 v.seen ≡ o.1) own os are) none in
            let one : steps_by n own.1 ≡ [] = dite (ℕ_discrete n own.0)
            (λ e. ap (steps_by n) (sym head) ∙ ap (λ k. steps_by n (steps_by k v.seen)) (sym e) ∙ twice_same n v.seen ∙ none)
            (λ k. ap (steps_by n) (sym head) ∙ twice_else n own.0 v.seen k) in
            by_append n own.1 (flat os) ∙ rw (one, rest) refl
    by_size n (no low) os are once below = sym (flat_one n v.seen os are (once n (omega arith)))

pub ends : (start : Start) (id : ℕ) (v : View) (ws : List ℕ) (xs : List Step) → Final (Seen (Kept start) id v) ws xs → v.live ≡ true → HasAll v → Ends start v ws
ends start id v ws xs final live all =
    let kept = final.1.0 in
    let part = kept.clocks in
    let fits = part.each id v final.1.1 live in
    let counted = (fits.splits all.first).0 in
    let rest = nothing_left kept.history v.seen fits.front.rest kept.made id kept.holder (own_lists v) fits.front.is part.made_by
    (λ n low. all.each n (omega arith)) fits.lists in
    let same : kept.history ≡ v.seen = fits.front.is ∙ ap (λ zs. v.seen ++ zs) rest ∙ append-nil v.seen in
    record {
      start_is = fits.start_is;
      complete = complete_of start kept.history kept.made kept.holder kept.splitter id v part.legal part.made_by fits all same;
      words_are = subst (λ us. AreEnded start v.seen us) final.2 (subst (λ zs. AreEnded start zs final.0.words) same (record {
        wide = omega (arith, kept.wide);
        clocks = part.clocks;
        range = part.range;
      }));
    }

-- a word at its place
word_at : (ws : List ℕ) (w n : ℕ) → get_elem? ws w ≡ some n → get_or ws w 0 ≡ n
word_at [] w n e = absurd (some-ne-none n (sym e))
word_at (x ∷ ws) zero n e = some-injective x n e
word_at (x ∷ ws) (suc w) n e = word_at ws w n e

pub end_low : (start : Start) (history : List Step) (e : Ended) (w : ℕ) → record { start = start; history = history } ≡ e → w < e.start.cpus → w < start.cpus
end_low start history e w is low = let same = ap (λ (x : Ended). x.start.cpus) is in omega arith

pub end_fits : (start : Start) (history : List Step) (ws : List ℕ) (w n : ℕ) → AreEnded start history ws → w < start.cpus → get_elem? ws w ≡ some n → n < 2 ^ 63
end_fits start history ws w n are low at =
    let word = subst (IsClockWord start (value_after (opens_at start) w history)) (word_at ws w n at) (are.clocks w low) in
    let range = (are.range w).2 in
    omega (arith, ints)

pub end_value : (start : Start) (history : List Step) (ws : List ℕ) (w n : ℕ) → AreEnded start history ws → w < start.cpus → get_elem? ws w ≡ some n
    → (x : ℤ) → IsValue x → IsClockWord start x n → x ≡ value_after (opens_at start) w history
end_value start history ws w n are low at x fits is =
    let last = value_after (opens_at start) w history in
    let word = subst (IsClockWord start last) (word_at ws w n at) (are.clocks w low) in
    same_above (opens_at start) x last fits (are.range w).0 (omega (arith, ints))
