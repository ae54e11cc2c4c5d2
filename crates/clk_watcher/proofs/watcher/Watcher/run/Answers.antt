use Rattle.std.proofs.Common.{◌≡◌, rules}
use Rattle.clk_record.specs.Watching.{checks_asked}
use Rattle.clk_watcher.proofs.Making.{belongs_on, runs_on}
use Rattle.clk_watcher.proofs.Ending.{ran_all}
use Rattle.clk_watcher.proofs.watcher.Watcher.run.Goals as goal

pub check-requires-clause-shared : goal.check-requires-clause-shared
check-requires-clause-shared g c = belongs_on c.args.shared.now c.args.self.now c.loop-number.self c.requires.shared c.loop-number.invariant.went

pub loop-number-preserved : goal.loop-number-preserved
loop-number-preserved g c =
    runs_on c.args.shared.now c.args.self.now c.loop-number.self c.check.new.self c.loop-number.number c.loop-number.invariant c.check.ensures

pub returns-clause-watched : goal.returns-clause-watched
returns-clause-watched g c =
    let whole : c.loop-number.self.next ≡ checks_asked c.args.shared.now.machine.watchdog = search rules in
    ran_all c.args.shared.now c.args.self.now c.loop-number.self whole c.loop-number.invariant.went
