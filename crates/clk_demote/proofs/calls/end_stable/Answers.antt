use Rattle.std.proofs.Common.{ap, sym, ◌∙◌, subst, rules, to_z-of_z, FitsSigned, w64}
use Rattle.clk_words.specs.declared.view.View.{View}
use Rattle.clk_words.specs.Knowing.{IsGood}
use Rattle.clk_words.specs.Told.{published}
use Rattle.clk_demote.specs.Lifts.{lifts_of, lifted}
use Rattle.clk_demote.proofs.calls.end_stable.Goals as goal

pub returns-clause-view : goal.returns-clause-view
returns-clause-view c =
    let gtod : FitsSigned w64 c.args.demotion.now.gtod = search rules in
    let raw : FitsSigned w64 c.args.demotion.now.raw.ns = search rules in
    let opening : FitsSigned w64 c.args.demotion.now.opening = search rules in
    let pairs = simp to_z-of_z at c.store_pairs.ensures.view in
    let lifts = simp to_z-of_z at c.lift_words.ensures.view in
    c.publish_mode.ensures.published
    ∙ ap published (lifts ∙ ap (λ (u : View). lifted (lifts_of u.number u.start c.args.check c.args.demotion.now.opening c.args.cpus) u) pairs)

pub returns-clause-items : goal.returns-clause-items
returns-clause-items c =
    let opening : FitsSigned w64 c.args.demotion.now.opening = search rules in
    let items = simp to_z-of_z at c.lift_words.ensures.items in
    let number = ap (λ (u : View). u.number) c.store_pairs.ensures.view in
    let start = ap (λ (u : View). u.start) c.store_pairs.ensures.view in
    rw (number, start) at items

good_published : (v : View) → IsGood v → IsGood (published v)
good_published v good = record { legal = good.legal; lists = good.lists }

pub returns-clause-good : goal.returns-clause-good
returns-clause-good c = subst IsGood (sym c.publish_mode.ensures.published) (good_published _ c.lift_words.ensures.good)
