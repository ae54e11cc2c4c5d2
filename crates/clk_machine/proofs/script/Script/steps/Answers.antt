use Rattle.std.proofs.Common.{length}
use Rattle.clk_machine.proofs.Counting.{product_few}
use Rattle.clk_machine.proofs.script.Script.steps.Goals as goal

pub returns-clause-few : goal.returns-clause-few
returns-clause-few c =
    product_few 3 c.count.result c.steps_once.result (length c.args.self.now.words.items) (rw c.items.ensures at c.steps_once.ensures.few)
    (rw c.count.ensures c.requires.few)
