-- A step that is no lift stands behind a lift of its word.
use Rattle.std.proofs.Common.{◌≡◌, ℕ, Bool, true, false, ◌&&◌, List, [], ◌∷◌, ◌++◌, nat_eq, refl, sym, ap, ◌∙◌, subst, ⊎_elim, append_assoc, eqb-true}
use Rattle.clk_num.specs.Wrapping.{IsNotBelow}
use Rattle.clk_record.specs.declared.step.Step.{Step}
use Rattle.clk_record.specs.declared.step.Why.{Why}
use Rattle.clk_record.specs.declared.step.Why.TheVariants.{Raise, Couple, Lift}
use Rattle.clk_words.specs.declared.opening.Start.{Start}
use Rattle.clk_words.specs.Histories.{opens_at, value_after, is_lift, has_lift, AllLifted, IsInOrder, IsGlobalHistory}
use Rattle.clk_words.specs.Laws.{LiftedBefore}
use Rattle.clk_words.proofs.Owning.{or_cases}
use Rattle.clk_words.proofs.Modes.{and_left}
use Rattle.clk_words.proofs.Replay.{value_here, follow_front, words_rise}
use Rattle.clk_words.proofs.Holding.{each_follows}

-- one lift of the word among these steps
record HasLift (steps : List Step) (w : ℕ) : Type 0 where
  front : List Step
  lift : Step
  back : List Step
  steps_are : steps ≡ front ++ lift ∷ back
  lifts : is_lift lift.why ≡ true
  word_is : lift.word ≡ w

and_right : (a b : Bool) → (a && b) ≡ true → b ≡ true
and_right true b e = e
and_right false b e = absurd (cc)

later : (s : Step) (steps : List Step) (w : ℕ) → HasLift steps w → HasLift (s ∷ steps) w
later s steps w l = record {
  front = s ∷ l.front;
  lift = l.lift;
  back = l.back;
  steps_are = ap (λ zs. s ∷ zs) l.steps_are;
  lifts = l.lifts;
  word_is = l.word_is;
}

find_lift : (steps : List Step) (w : ℕ) → has_lift steps w ≡ true → HasLift steps w
find_lift [] w e = absurd (cc)
find_lift (s ∷ steps) w e = ⊎_elim
    (λ (h : (is_lift s.why && nat_eq s.word w) ≡ true). record {
      front = [];
      lift = s;
      back = steps;
      steps_are = refl;
      lifts = and_left (is_lift s.why) (nat_eq s.word w) h;
      word_is = eqb-true s.word w (and_right (is_lift s.why) (nat_eq s.word w) h);
    })
    (λ (h : has_lift steps w ≡ true). later s steps w (find_lift steps w h))
    (or_cases (is_lift s.why && nat_eq s.word w) (has_lift steps w) e)

all_lifted : (start : Start) (before : List Step) (why : Why) → IsInOrder start before why → is_lift why ≡ false → AllLifted start before
all_lifted start before (Raise raw tick_raw tick_gtod offset) p other = p
all_lifted start before (Couple from value) p other = p
all_lifted start before (Lift value) p other = absurd (cc)

pub lifted_before : LiftedBefore
lifted_before start before back s legal stable low other =
    let follows = each_follows start before back s legal in
    let l = find_lift before s.word (all_lifted start before s.why follows.in_order other stable s.word low) in
    let here = l.front ++ l.lift ∷ [] in
    let whole : before ≡ here ++ l.back = l.steps_are ∙ sym (append_assoc l.front (l.lift ∷ []) l.back) in
    let up = words_rise start here l.back s.word (subst (IsGlobalHistory start) whole (follow_front start [] before (s ∷ back) legal)) in
    let old : s.old ≡ value_after (opens_at start) s.word (here ++ l.back) = follows.old_is ∙ ap (λ zs. value_after (opens_at start) s.word zs) whole in
    record {
      front = l.front;
      lift = l.lift;
      back = l.back;
      steps_are = l.steps_are;
      lifts = l.lifts;
      word_is = l.word_is;
      reached = subst (λ y. IsNotBelow s.old y) (value_here (opens_at start) s.word l.front l.lift l.word_is)
          (subst (λ x. IsNotBelow x (value_after (opens_at start) s.word here)) (sym old) up);
    }
