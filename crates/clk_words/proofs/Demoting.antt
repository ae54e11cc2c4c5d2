-- What the watchdog's steps leave to its caller: what it has stored and lifted it has still.
use Rattle.std.proofs.Common.{◌≡◌, ℕ, ℤ, Bool, true, false, IsTrue, is_some, List, [], ◌∷◌, ◌++◌, ◌||◌, ◌&&◌, nat_eq, Some, refl, sym, subst, eq-eqb}
use mathlib.Core.Logic.{dite}
use native.Mathlib.Decide.{ℕ_discrete}
use Rattle.clk_record.specs.declared.step.Step.{Step}
use Rattle.clk_words.specs.declared.view.View.{View}
use Rattle.clk_words.specs.declared.view.Part.{Part}
use Rattle.clk_words.specs.Histories.{is_lift, has_lift}
use Rattle.clk_words.specs.Parts.{part_of}
use Rattle.clk_words.specs.Told.{pair_cloned, Lifts}
use Rattle.clk_words.proofs.Registers.{put_here, put_else}
use Rattle.clk_words.proofs.WordsSteps.{lift_more}

-- the register was stored
abbrev pub HasStored : View → ℕ → Type 0
HasStored v r = IsTrue (is_some (part_of v.modes.cloned r).zero)

pub stored_here : (v : View) (r : ℕ) (x : ℤ) → HasStored (pair_cloned r x v) r
stored_here v r x = let n : Part = record { zero = Some x; after = [] } in rw (put_here v.modes.cloned r n) refl

pub stored_still : (v : View) (r k : ℕ) (x : ℤ) → HasStored v k → HasStored (pair_cloned r x v) k
stored_still v r k x has =
    let n : Part = record { zero = Some x; after = [] } in
    dite (ℕ_discrete k r)
    (λ e. subst (λ i. HasStored (pair_cloned r x v) i) (sym e) (stored_here v r x))
    (λ ne. rw (put_else v.modes.cloned r k n ne) has)

-- the word was lifted
lift_last : (steps : List Step) (s : Step) → is_lift s.why ≡ true → has_lift (steps ++ s ∷ []) s.word ≡ true
lift_last [] s e = let t = eq-eqb s.word s.word refl in rw (e, t) refl
lift_last (u ∷ steps) s e = or_second (is_lift u.why && nat_eq u.word s.word) (has_lift (steps ++ s ∷ []) s.word) (lift_last steps s e)
  where
    or_second : (a b : Bool) → b ≡ true → (a || b) ≡ true
    or_second true b h = refl
    or_second false b h = h

pub lifted_here : (v w : View) (s : Step) → Lifts v s w → is_lift s.why ≡ true → IsTrue (has_lift w.seen s.word)
lifted_here v w s told e = subst (λ (u : View). IsTrue (has_lift u.seen s.word)) (sym told.view_is) (lift_last v.seen s e)

pub lifted_still : (v w : View) (s : Step) (k : ℕ) → Lifts v s w → IsTrue (has_lift v.seen k) → IsTrue (has_lift w.seen k)
lifted_still v w s k told has = subst (λ (u : View). IsTrue (has_lift u.seen k)) (sym told.view_is) (lift_more v.seen (s ∷ []) k has)
