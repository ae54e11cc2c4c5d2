use Rattle.std.proofs.Common.{List, rules}
use Rattle.std.proofs.lemmas.Iterator.Consumers.{YieldsList-turn, YieldsList-end}
use Rattle.std.proofs.lemmas.Iterator.Adapters.{YieldsList-from_vec}
use Rattle.clk_worker.specs.Making.{Hand}
use Rattle.clk_threads.proofs.Halfway.{none_back, back_taken, back_came, back_more, back_parts}
use Rattle.clk_threads.proofs.run.back_all.Goals as goal

pub loop-worker-init : goal.loop-worker-init
loop-worker-init c = none_back c.args.parts.now c.args.workers.items c.requires.taken

pub back-requires-clause-taken : goal.back-requires-clause-taken
back-requires-clause-taken c =
    let all : List Hand = c.args.workers.items in
    let worker : Hand = c.in-Some.worker in
    let turn = YieldsList-turn (YieldsList-from_vec {s = c.into_iter-worker-iterator.result} all (search rules) (search rules))
    c.loop-worker.yielded c.loop-worker.worker-iterator c.loop-worker.yielded_by c.next.result c.next.new.self worker c.in-Some.is c.next.ensures.steps in
    back_taken c.args.parts.now c.loop-worker.parts all c.loop-worker.yielded worker c.loop-worker.invariant turn.0 turn.1 c.requires.came

pub back-requires-clause-came : goal.back-requires-clause-came
back-requires-clause-came c =
    let all : List Hand = c.args.workers.items in
    let worker : Hand = c.in-Some.worker in
    let turn = YieldsList-turn (YieldsList-from_vec {s = c.into_iter-worker-iterator.result} all (search rules) (search rules))
    c.loop-worker.yielded c.loop-worker.worker-iterator c.loop-worker.yielded_by c.next.result c.next.new.self worker c.in-Some.is c.next.ensures.steps in
    back_came c.args.parts.now c.loop-worker.parts all c.loop-worker.yielded worker c.loop-worker.invariant turn.0 turn.1 c.requires.came c.requires.count

pub loop-worker-preserved : goal.loop-worker-preserved
loop-worker-preserved c =
    let all : List Hand = c.args.workers.items in
    let worker : Hand = c.in-Some.worker in
    let turn = YieldsList-turn (YieldsList-from_vec {s = c.into_iter-worker-iterator.result} all (search rules) (search rules))
    c.loop-worker.yielded c.loop-worker.worker-iterator c.loop-worker.yielded_by c.next.result c.next.new.self worker c.in-Some.is c.next.ensures.steps in
    back_more c.args.parts.now c.loop-worker.parts c.back.new.self all c.loop-worker.yielded worker c.loop-worker.invariant turn.0 turn.1 c.requires.came c.back.ensures

pub returns : goal.returns
returns c =
    let all : List Hand = c.args.workers.items in
    let end = YieldsList-end (YieldsList-from_vec {s = c.into_iter-worker-iterator.result} all (search rules) (search rules))
    c.loop-worker.yielded c.loop-worker.worker-iterator c.loop-worker.yielded_by c.next.result c.next.new.self c.in-None.is c.next.ensures.steps in
    back_parts c.args.parts.now c.loop-worker.parts all c.loop-worker.yielded c.loop-worker.invariant end.1
