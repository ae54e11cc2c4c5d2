use Rattle.std.proofs.Common.{◌≡◌, ℕ, zero, suc, ◌<◌, true, IsTrue, ap, ◌∙◌, subst, arith}
use Rattle.clk_record.specs.declared.step.Step.{Step}
use Rattle.clk_words.specs.declared.view.View.{View}
use Rattle.clk_words.specs.Histories.{is_lift, has_lift}
use Rattle.clk_words.specs.Held.{Place}
use Rattle.clk_words.specs.Told.{Lifts}
use Rattle.clk_words.proofs.Demoting.{lifted_here, lifted_still}
use Rattle.clk_words.proofs.tests.demotion.lifted_both.Goals as goal

-- both words of two CPUs
both_lifted : (v u w : View) (s t : Step) → Lifts v s u → Lifts u t w → is_lift s.why ≡ true → is_lift t.why ≡ true → s.word ≡ 0 → t.word ≡ 1
    → (k : ℕ) → k < 2 → IsTrue (has_lift w.seen k)
both_lifted v u w s t one two a b e f zero low = lifted_still u w t 0 two (subst (λ k. IsTrue (has_lift u.seen k)) e (lifted_here v u s one a))
both_lifted v u w s t one two a b e f (suc zero) low = subst (λ k. IsTrue (has_lift w.seen k)) f (lifted_here u w t two b)
both_lifted v u w s t one two a b e f (suc (suc k)) low = absurd (omega arith)

pub returns-clause-lifted : goal.returns-clause-lifted
returns-clause-lifted c = λ k low.
    let cpus = ap (λ (p : Place). p.start.cpus) c.lift-second.ensures.own ∙ c.requires.cpus in
    both_lifted _ _ _ _ _ c.lift-first.ensures.lifts c.lift-second.ensures.lifts
    (ap (λ (s : Step). is_lift s.why) c.lift-first.ensures.step) (ap (λ (s : Step). is_lift s.why) c.lift-second.ensures.step)
    (ap (λ (s : Step). s.word) c.lift-first.ensures.step) (ap (λ (s : Step). s.word) c.lift-second.ensures.step)
    k (subst (λ n. k < n) cpus low)
