use Rattle.clk_watcher.proofs.Following.{follows_stamp, follows_demotion}
use Rattle.clk_watcher.proofs.calls.follow.Goals as goal

pub returns-then-found-clause-follows : goal.returns-then-found-clause-follows
returns-then-found-clause-follows c =
    follows_stamp c.args.cpu c.args.number c.args.found.now c.args.stable.now c.args.ctx.now c.stamp.new.ctx c.args.trace.now c.stamp.new.trace c.if-stable.true c.if-found.true
    (c.requires.apart c.if-found.true) c.stamp.ensures

pub returns-then-found-2-clause-follows : goal.returns-then-found-2-clause-follows
returns-then-found-2-clause-follows c =
    follows_demotion c.args.cpu c.args.number c.args.found.now c.args.stable.now c.args.ctx.now c.end_stable.new.ctx c.args.trace.now c.end_stable.new.trace c.if-stable.true c.if-found.false
    c.if-found-2.true (c.requires.if_stable c.if-stable.true) c.end_stable.ensures
