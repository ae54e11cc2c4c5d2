use Rattle.std.proofs.Common.{◌≡◌, ℕ, zero, suc, ◌*◌, ◌<◌, ℤ, sym, ap, ◌∙◌, subst, arith}
use Rattle.clk_words.specs.declared.view.View.{View}
use Rattle.clk_words.specs.Held.{Place}
use Rattle.clk_words.specs.Told.{pair_cloned}
use Rattle.clk_words.proofs.Demoting.{HasStored, stored_here, stored_still}
use Rattle.clk_words.proofs.tests.demotion.copied_both.Goals as goal

-- both halves of two CPUs
four_stored : (v : View) (a b c d : ℤ) (r : ℕ) → r < 4 → HasStored (pair_cloned 3 d (pair_cloned 2 c (pair_cloned 1 b (pair_cloned 0 a v)))) r
four_stored v a b c d zero low =
    let one = pair_cloned 0 a v in
    let two = pair_cloned 1 b one in
    stored_still (pair_cloned 2 c two) 3 0 d (stored_still two 2 0 c (stored_still one 1 0 b (stored_here v 0 a)))
four_stored v a b c d (suc zero) low =
    let one = pair_cloned 0 a v in
    let two = pair_cloned 1 b one in
    stored_still (pair_cloned 2 c two) 3 1 d (stored_still two 2 1 c (stored_here one 1 b))
four_stored v a b c d (suc (suc zero)) low =
    let two = pair_cloned 1 b (pair_cloned 0 a v) in
    stored_still (pair_cloned 2 c two) 3 2 d (stored_here two 2 c)
four_stored v a b c d (suc (suc (suc zero))) low = stored_here (pair_cloned 2 c (pair_cloned 1 b (pair_cloned 0 a v))) 3 d
four_stored v a b c d (suc (suc (suc (suc r)))) low = absurd (omega arith)

both_stored : (v u w : View) (a b c d : ℤ) → u ≡ pair_cloned 1 b (pair_cloned 0 a v) → w ≡ pair_cloned 3 d (pair_cloned 2 c u)
    → (r : ℕ) → r < 4 → HasStored w r
both_stored v u w a b c d first second r low =
    subst (λ (x : View). HasStored x r) (sym (second ∙ ap (λ (x : View). pair_cloned 3 d (pair_cloned 2 c x)) first)) (four_stored v a b c d r low)

pub returns-clause-stored : goal.returns-clause-stored
returns-clause-stored c = λ r low.
    let cpus = ap (λ (p : Place). p.start.cpus) c.copied-2.ensures.own ∙ c.requires.cpus in
    both_stored _ _ _ _ _ _ _ c.copied.ensures.view c.copied-2.ensures.view r (subst (λ n. r < 2 * n) cpus low)
