use Rattle.std.proofs.Common.{sym, arith}
use Rattle.clk_machine.specs.Plan.{count_of}
use Rattle.clk_machine.proofs.Counting.{length-repeat}
use Rattle.clk_machine.proofs.script.Script.count.Goals as goal

pub overflow_cast-result : goal.overflow_cast-result
overflow_cast-result c =
    let all = length-repeat (count_of c.args.self.now.repeat) c.args.self.now.words.items in
    let few = rw all at c.requires.few in
    rw (c.len.ensures, c.count.ensures) (omega (arith, few))

pub returns : goal.returns
returns c = rw (c.len.ensures, c.count.ensures) (sym (length-repeat (count_of c.args.self.now.repeat) c.args.self.now.words.items))
