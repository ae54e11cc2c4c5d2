-- What a word has held is its opening or was put there.
use Rattle.std.proofs.Common.{◌≡◌, ℕ, ℤ, ◌⊎◌, Some, None, Bool, cond, List, [], ◌∷◌, ◌++◌, refl, sym, ap, ◌∙◌, subst, inl, inr, ⊎_elim, append_assoc, eq-eqb, ne_eqb}
use mathlib.Core.Logic.{dite}
use native.Mathlib.Decide.{ℕ_discrete}
use Rattle.clk_record.specs.declared.step.Step.{Step}
use Rattle.clk_words.specs.declared.opening.Start.{Start}
use Rattle.clk_words.specs.Histories.{opens_at, value_after, HadValue, Follows, IsGlobalHistory}
use Rattle.clk_words.specs.declared.view.View.{View}
use Rattle.clk_words.specs.Told.{FindsOffset}
use Rattle.clk_words.specs.Calls.{KeepsOffset}
use Rattle.clk_words.specs.Laws.{WasPut}
use Rattle.clk_words.proofs.Replay.{follow_back}

put_later : (s : Step) (steps : List Step) (w : ℕ) (x : ℤ) → WasPut steps w x → WasPut (s ∷ steps) w x
put_later s steps w x p = record { front = s ∷ p.front; step = p.step; back = p.back; history_is = ap (λ zs. s ∷ zs) p.history_is; word_is = p.word_is; new_is = p.new_is }

-- the value that a word begins with, or one that a step put
was_put : (y : ℤ) (w : ℕ) (steps : List Step) → (value_after y w steps ≡ y) ⊎ WasPut steps w (value_after y w steps)
was_put y w [] = inl refl
was_put y w (s ∷ steps) =
    dite (ℕ_discrete s.word w)
    (λ e. let yes = eq-eqb s.word w e in
    subst (λ (b : Bool). (value_after (cond b s.new y) w steps ≡ y) ⊎ WasPut (s ∷ steps) w (value_after (cond b s.new y) w steps)) (sym yes)
    (⊎_elim
    (λ (h : value_after s.new w steps ≡ s.new). inr (record { front = []; step = s; back = steps; history_is = refl; word_is = e; new_is = sym h }))
    (λ (h : WasPut steps w (value_after s.new w steps)). inr (put_later s steps w (value_after s.new w steps) h))
    (was_put s.new w steps)))
    (λ k. let no_hit = ne_eqb s.word w k in
    subst (λ (b : Bool). (value_after (cond b s.new y) w steps ≡ y) ⊎ WasPut (s ∷ steps) w (value_after (cond b s.new y) w steps)) (sym no_hit)
    (⊎_elim
    (λ (h : value_after y w steps ≡ y). inl h)
    (λ (h : WasPut steps w (value_after y w steps)). inr (put_later s steps w (value_after y w steps) h))
    (was_put y w steps)))

more_put : (front back : List Step) (w : ℕ) (x : ℤ) → WasPut front w x → WasPut (front ++ back) w x
more_put front back w x p = record {
  front = p.front;
  step = p.step;
  back = p.back ++ back;
  word_is = p.word_is;
  new_is = p.new_is;
  history_is = ap (λ zs. zs ++ back) p.history_is ∙ append_assoc p.front (p.step ∷ p.back) back;
}

pub held_put : (start : Start) (history : List Step) (w : ℕ) (x : ℤ) → HadValue start history w x → (x ≡ opens_at start) ⊎ WasPut history w x
held_put start history w x h = ⊎_elim
    (λ (e : value_after (opens_at start) w h.front ≡ opens_at start). inl (sym h.value_is ∙ e))
    (λ (p : WasPut h.front w (value_after (opens_at start) w h.front)).
    inr (subst (λ zs. WasPut zs w x) (sym h.history_is) (more_put h.front h.back w x (subst (WasPut h.front w) h.value_is p))))
    (was_put (opens_at start) w h.front)

pub each_follows : (start : Start) (front back : List Step) (s : Step) → IsGlobalHistory start (front ++ s ∷ back) → Follows start front s
each_follows start front back s legal = (follow_back start [] front (s ∷ back) legal).0

-- the offset that was found is found again
pub offset_stays : (v w u t : View) (x y : ℤ) → FindsOffset v x w → KeepsOffset w u → FindsOffset u y t → y ≡ x
offset_stays v w u t x y found kept again =
    let has : w.modes.offset ≡ Some x = ap (λ (o : View). o.modes.offset) found.view_is in
    again.same x (⊎_elim (λ (e : w.modes.offset ≡ None). absurd (cc)) (λ (e : w.modes.offset ≡ u.modes.offset). sym e ∙ has) kept)
