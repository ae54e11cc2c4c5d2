-- The lifts of a demotion, one after another: each finds its word as it was opened.
use Rattle.std.proofs.Common.{◌≡◌, ◌≢◌, ℕ, zero, suc, ◌+◌, ◌<◌, ◌≤◌, ℤ, Bool, true, false, cond, ◌&&◌, ◌||◌, IsTrue, nat_eq, List, [], ◌∷◌, ◌++◌, All, refl, sym, ap, ◌∙◌, subst, arith, append_assoc, add-one, eq-eqb, ne_eqb}
use Rattle.std.proofs.lemmas.List.Elements.{All-head, All-tail}
use mathlib.Core.Logic.{dite}
use native.Mathlib.Decide.{ℕ_discrete}
use Rattle.clk_num.specs.Listed.{Listed}
use Rattle.clk_num.specs.Wrapping.{raise}
use Rattle.clk_record.specs.declared.step.Step.{Step}
use Rattle.clk_record.specs.declared.step.Why.TheVariants.{Lift}
use Rattle.clk_words.specs.declared.opening.Start.{Start}
use Rattle.clk_words.specs.declared.view.View.{View}
use Rattle.clk_words.specs.Calls.{step_of}
use Rattle.clk_words.specs.Histories.{opens_at, value_after, is_lift, has_lift}
use Rattle.clk_words.specs.Knowing.{IsGood, HasLifted}
use Rattle.clk_words.specs.Told.{Lifts}
use Rattle.clk_words.proofs.Replay.{value_append, value_here, value_else}
use Rattle.clk_local.specs.Raising.{shown_on}
use Rattle.clk_demote.specs.Context.{IsUnlifted}
use Rattle.clk_demote.specs.Lifts.{lift_of, lifts_of, lifted}

or_assoc : (a b c : Bool) → (a || (b || c)) ≡ ((a || b) || c)
or_assoc true b c = refl
or_assoc false b c = refl

or_false : (a b : Bool) → a ≡ false → b ≡ false → (a || b) ≡ false
or_false true b e f = absurd (cc)
or_false false b e f = f

or_left : (a b : Bool) → (a || b) ≡ false → a ≡ false
or_left true b e = e
or_left false b e = refl

or_right : (a b : Bool) → (a || b) ≡ false → b ≡ false
or_right true b e = absurd (cc)
or_right false b e = e

or_second : (a b : Bool) → b ≡ true → (a || b) ≡ true
or_second true b e = refl
or_second false b e = e

or_first : (a b : Bool) → a ≡ true → (a || b) ≡ true
or_first true b e = refl
or_first false b e = absurd (cc)

has_append : (xs ys : List Step) (w : ℕ) → has_lift (xs ++ ys) w ≡ (has_lift xs w || has_lift ys w)
has_append [] ys w = refl
has_append (s ∷ xs) ys w =
    ap (λ b. (is_lift s.why && nat_eq s.word w) || b) (has_append xs ys w) ∙ or_assoc (is_lift s.why && nat_eq s.word w) (has_lift xs w) (has_lift ys w)

-- a lift of the word n is of no other
one_other : (by : ℕ) (start : Start) (check : ℕ) (opening : ℤ) (n w : ℕ) → n ≢ w → has_lift (lift_of by start check opening n ∷ []) w ≡ false
one_other by start check opening n w ne = let e = ne_eqb n w ne in rw e refl

one_here : (by : ℕ) (start : Start) (check : ℕ) (opening : ℤ) (n w : ℕ) → n ≡ w → has_lift (lift_of by start check opening n ∷ []) w ≡ true
one_here by start check opening n w same = let e = eq-eqb n w same in rw e refl

-- the first n words were lifted, and no others
pub none_later : (by : ℕ) (start : Start) (check : ℕ) (opening : ℤ) (n w : ℕ) → n ≤ w → has_lift (lifts_of by start check opening n) w ≡ false
none_later by start check opening zero w high = refl
none_later by start check opening (suc n) w high =
    has_append (lifts_of by start check opening n) (lift_of by start check opening n ∷ []) w
    ∙ or_false _ _ (none_later by start check opening n w (omega arith)) (one_other by start check opening n w (λ e. omega arith))

pub each_before : (by : ℕ) (start : Start) (check : ℕ) (opening : ℤ) (n w : ℕ) → w < n → has_lift (lifts_of by start check opening n) w ≡ true
each_before by start check opening zero w low = absurd (omega arith)
each_before by start check opening (suc n) w low =
    has_append (lifts_of by start check opening n) (lift_of by start check opening n ∷ []) w
    ∙ dite (ℕ_discrete n w)
    (λ e. or_second _ _ (one_here by start check opening n w e))
    (λ ne. or_first _ _ (each_before by start check opening n w (omega arith)))

-- lifts of other words leave a word as it was
step_else : (s : Step) (w : ℕ) → is_lift s.why ≡ true → (is_lift s.why && nat_eq s.word w) ≡ false → nat_eq s.word w ≡ false
step_else s w e none = ap (λ b. b && nat_eq s.word w) (sym e) ∙ none

pub untouched : (x : ℤ) (w : ℕ) (steps : List Step) → All (λ s. IsTrue (is_lift s.why)) steps → has_lift steps w ≡ false → value_after x w steps ≡ x
untouched x w [] all none = refl
untouched x w (s ∷ steps) all none =
    let other = step_else s w (All-head (λ (t : Step). IsTrue (is_lift t.why)) s steps all) (or_left (is_lift s.why && nat_eq s.word w) (has_lift steps w) none) in
    ap (λ b. value_after (cond b s.new x) w steps) other
    ∙ untouched x w steps (All-tail (λ (t : Step). IsTrue (is_lift t.why)) s steps all) (or_right (is_lift s.why && nat_eq s.word w) (has_lift steps w) none)

-- the lift of the next word finds it as it was opened
next_lift : (v : View) (check : ℕ) (opening : ℤ) (n : ℕ) (s : Step) (w : View) → n < v.start.cpus → IsUnlifted v
    → s ≡ step_of v check n s.old (raise s.old opening) (Lift opening) → Lifts (lifted (lifts_of v.number v.start check opening n) v) s w → s ≡ lift_of v.number v.start check opening n
next_lift v check opening n s w low unlifted is told =
    is ∙ ap (λ old. step_of v check n old (raise old opening) (Lift opening)) (told.old_is ∙ ap (λ k. value_after (opens_at v.start) k seen) word ∙ still)
  where
    seen : List Step
    seen = v.seen ++ lifts_of v.number v.start check opening n

    word : s.word ≡ n
    word = ap (λ (t : Step). t.word) is

    still : value_after (opens_at v.start) n seen ≡ opens_at v.start
    still =
        untouched (opens_at v.start) n seen told.lifts
        (has_append v.seen (lifts_of v.number v.start check opening n) n ∙ or_false _ _ (unlifted n low) (none_later v.number v.start check opening n n (omega arith)))

-- one lift more
lifted_more : (v : View) (steps : List Step) (s : Step) (w : View) → Lifts (lifted steps v) s w → w ≡ lifted (steps ++ s ∷ []) v
lifted_more v steps s w told =
    told.view_is
    ∙ ap (λ ss. record v { seen = ss; mine = (v.mine ++ steps) ++ s ∷ [] }) (append_assoc v.seen steps (s ∷ []))
    ∙ ap (λ ss. record v { seen = v.seen ++ (steps ++ s ∷ []); mine = ss }) (append_assoc v.mine steps (s ∷ []))

-- ---- the first n words are lifted

pub record LiftedTo (v : View) (check : ℕ) (opening : ℤ) (n : ℕ) (w : View) (before after : Listed Step) : Type 0 where
  pub view : w ≡ lifted (lifts_of v.number v.start check opening n) v
  pub good : 1 ≤ n → IsGood w
  pub items : after.items ≡ before.items ++ lifts_of v.number v.start check opening n
  pub room : after.room + n ≡ before.room

pub lifts_more : (v : View) (check : ℕ) (opening : ℤ) (n : ℕ) (w u : View) (s : Step) (before after more : Listed Step)
    → n < v.start.cpus → IsUnlifted v → LiftedTo v check opening n w before after
    → s ≡ step_of w check n s.old (raise s.old opening) (Lift opening) → Lifts w s u
    → more.items ≡ after.items ++ s ∷ [] → more.room + 1 ≡ after.room
    → LiftedTo v check opening (n + 1) u before more
lifts_more v check opening n w u s before after more low unlifted so step told items room =
    let ls = lifts_of v.number v.start check opening n in
    let here = subst (λ (x : View). s ≡ step_of x check n s.old (raise s.old opening) (Lift opening)) so.view step in
    let lifts = subst (λ (x : View). Lifts x s u) so.view told in
    let is : s ≡ lift_of v.number v.start check opening n = next_lift v check opening n s u low unlifted here lifts in
    let grown : ls ++ s ∷ [] ≡ lifts_of v.number v.start check opening (n + 1) = ap (λ t. ls ++ t ∷ []) is ∙ ap (lifts_of v.number v.start check opening) (sym (add-one n)) in
    let short = so.room in
    record {
      view = lifted_more v ls s u lifts ∙ ap (λ ss. lifted ss v) grown;
      good = λ some. told.good;
      items = items ∙ ap (λ ss. ss ++ s ∷ []) so.items ∙ append_assoc before.items ls (s ∷ []) ∙ ap (λ ss. before.items ++ ss) grown;
      room = omega arith;
    }

-- every word is lifted once all are
pub all_lifted : (v : View) (check : ℕ) (opening : ℤ) (n : ℕ) (w : View) → w ≡ lifted (lifts_of v.number v.start check opening n) v → v.start.cpus ≡ n → HasLifted w
all_lifted v check opening n w is all = subst HasLifted (sym is) (λ k low.
    has_append v.seen (lifts_of v.number v.start check opening n) k
    ∙ or_second _ _ (each_before v.number v.start check opening n k (subst (λ m. k < m) all low)))

-- and holds what it was raised to
raised_at : (x : ℤ) (by : ℕ) (start : Start) (check : ℕ) (opening : ℤ) (n w : ℕ) → w < n → value_after x w (lifts_of by start check opening n) ≡ raise (opens_at start) opening
raised_at x by start check opening zero w low = absurd (omega arith)
raised_at x by start check opening (suc n) w low =
    dite (ℕ_discrete n w)
    (λ e. value_here x w (lifts_of by start check opening n) (lift_of by start check opening n) e)
    (λ ne. value_else x w (lifts_of by start check opening n) (lift_of by start check opening n) ne ∙ raised_at x by start check opening n w (omega arith))

pub words_raised : (v w : View) (check : ℕ) (opening : ℤ) (n c : ℕ) → w.start ≡ v.start → w.seen ≡ v.seen ++ lifts_of v.number v.start check opening n → c < n
    → shown_on c w ≡ raise (opens_at v.start) opening
words_raised v w check opening n c start seen low =
    ap (λ (s : Start). value_after (opens_at s) c w.seen) start
    ∙ ap (value_after (opens_at v.start) c) seen
    ∙ value_append (opens_at v.start) c v.seen (lifts_of v.number v.start check opening n)
    ∙ raised_at _ v.number v.start check opening n c low
