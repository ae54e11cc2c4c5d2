use Rattle.std.proofs.Common.{◌≡◌, ◌+◌, Some, refl, sym, ap, ◌∙◌, subst}
use Rattle.clk_watcher.specs.Making.{Hand, MakesCheck}
use Rattle.clk_watcher.proofs.Making.{makes_check}
use Rattle.clk_watcher.proofs.watcher.Watcher.make.Goals as goal

pub returns : goal.returns
returns c =
    let s = c.args.shared.now in
    let number = c.args.number in
    let inside = c.self.inside in
    let parts = c.unwrap-parts.result in
    let after = c.make_at-parts.result in
    let old : Hand = record { parts = inside.parts; next = inside.next; stable = inside.stable; trace = inside.trace } in
    let new : Hand = record { parts = Some after; next = number + 1; stable = c.make_at-parts.new.stable; trace = c.make_at-parts.new.trace } in
    let is : old ≡ c.args.self.now = c.self.view_is in
    let at : number ≡ old.next = c.requires.next ∙ ap (λ (h : Hand). h.next) (sym is) in
    let seats : old.parts ≡ Some parts = (let taken = c.take.ensures.value in let there = c.unwrap-parts.ensures in cc) in
    subst (λ (h : Hand). MakesCheck s number h new) is (makes_check s number old new parts after at seats refl refl c.requires.within c.make_at-parts.ensures)
