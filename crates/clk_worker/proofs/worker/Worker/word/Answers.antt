use Rattle.std.proofs.Common.{arith}
use Rattle.clk_worker.proofs.Making.{words_few, one_word}
use Rattle.clk_worker.proofs.worker.Worker.word.Goals as goal

pub overflow_add-m : goal.overflow_add-m
overflow_add-m g c =
    let few = words_few c.args.shared.now c.args.self.now c.requires.shared in
    let low = c.requires.within in
    omega (arith, few, low)

pub returns : goal.returns
returns g c = one_word c.args.shared.now c.args.m c.args.self.now c.make_to.new.self c.requires.next c.make_to.ensures.made
