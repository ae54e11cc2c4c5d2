use Rattle.clk_watch.proofs.Trial.{one_try}
use Rattle.clk_watch.proofs.tries.try_once.Goals as goal

pub returns-clause-tries : goal.returns-clause-tries
returns-clause-tries c = record {
  attempt = c.attempt-attempt.result;
  tries = one_try c.args.counter.machine.now c.args.counter.cpu c.args.counter.adjust c.args.s c.args.attempts.now c.push.new.self c.attempt-attempt.result c.args.time.now c.attempt-attempt.new.time c.attempt-attempt.ensures.right c.attempt-attempt.ensures.draws c.push.ensures.items c.push.ensures.room;
  decides = c.decide.ensures.decided;
}
