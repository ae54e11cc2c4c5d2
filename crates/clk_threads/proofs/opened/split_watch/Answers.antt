use Rattle.std.proofs.Common.{length, sym, ap, ◌∙◌, subst, arith}
use Rattle.clk_words.specs.declared.kind.SeatKind.TheVariants.{Watch}
use Rattle.clk_words.specs.declared.opening.Start.{Start}
use Rattle.clk_words.specs.Held.{Held, place_of}
use Rattle.clk_words.specs.Knowing.{MaySplit}
use Rattle.clk_words.specs.Views.{first_view}
use Rattle.clk_machine.specs.Plan.{threads_of}
use Rattle.clk_threads.proofs.Giving.{gave_start, gave_made, may_watch}
use Rattle.clk_threads.proofs.Numbering.{threads_few}
use Rattle.clk_threads.proofs.opened.split_watch.Goals as goal

pub split-requires-clause-own : goal.split-requires-clause-own
split-requires-clause-own c =
    let p = c.args.words.now in
    let m = c.args.machine.now in
    ap place_of c.requires.first ∙ ap (λ (s : Start). record { table = p.table; start = s }) (gave_start m (length (threads_of m)) (first_view p.start))

pub split-requires-clause-right : goal.split-requires-clause-right
split-requires-clause-right c =
    subst (λ (h : Held). MaySplit h.view Watch) (sym c.requires.first) (may_watch c.args.machine.now c.args.words.now.start)

pub split-requires-clause-room : goal.split-requires-clause-room
split-requires-clause-room c =
    let m = c.args.machine.now in
    let made = ap (λ (h : Held). h.view.made) c.requires.first ∙ gave_made m (length (threads_of m)) (first_view c.args.words.now.start) in
    let few = threads_few m c.requires.limits in
    omega (arith, made, few)
