use Rattle.std.proofs.Common.{length}
use Rattle.clk_machine.specs.Limits.{longest_pause}
use Rattle.clk_machine.proofs.Counting.{product_few}
use Rattle.clk_machine.proofs.script.Script.tickets.Goals as goal

pub returns-clause-few : goal.returns-clause-few
returns-clause-few c =
    product_few longest_pause c.count.result c.tickets_once.result (length c.args.self.now.words.items) (rw c.items.ensures at c.tickets_once.ensures.few)
    (rw c.count.ensures c.requires.few)
