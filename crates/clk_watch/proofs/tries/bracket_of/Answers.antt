use Rattle.std.proofs.Common.{Option, sym, ap, ◌∙◌, arith}
use Rattle.std.specs.Prelude.{unwrap_or}
use Rattle.clk_record.specs.declared.attempt.Bracket.{Bracket}
use Rattle.clk_record.specs.declared.attempt.Bracket.TheVariants.{Slow}
use Rattle.clk_watch.proofs.Trial.{more_undecided, bracket_ends}
use Rattle.clk_watch.proofs.tries.bracket_of.Goals as goal

pub try_once-requires-clause-table : goal.try_once-requires-clause-table
try_once-requires-clause-table c = c.loop-tried.invariant.tries.draws.table_is ∙ c.requires.table

pub try_once-requires-clause-room : goal.try_once-requires-clause-room
try_once-requires-clause-room c = let p = c.loop-tried.invariant in let a = p.tries.room in let n = p.count in omega (arith, a, n, c.requires.room, c.retries-tried-end.ensures.retries)

pub try_once-requires-clause-tickets : goal.try_once-requires-clause-tickets
try_once-requires-clause-tickets c = let p = c.loop-tried.invariant in let a = p.tries.left in let n = p.count in omega (arith, a, n, c.requires.tickets, c.retries-tried-end.ensures.retries)

pub returns-in-Some-clause-brackets : goal.returns-in-Some-clause-brackets
returns-in-Some-clause-brackets c =
    bracket_ends c.args.counter.machine.now c.args.counter.cpu c.args.counter.adjust c.args.s c.args.attempts.now c.loop-tried.attempts c.try_once.new.attempts c.args.time.now c.loop-tried.time c.try_once.new.time c.loop-tried._tried c.try_once.result c.in-Some.outcome
    c.loop-tried.invariant c.try_once.ensures.tries (let few = c.loop-tried-test.true in omega (arith, few, c.retries-tried-end.ensures.retries))
    (λ none. absurd (let is = c.in-Some.is in cc)) (sym (ap (λ (o : Option Bracket). unwrap_or o Slow) c.in-Some.is))

pub try_once-requires-2-clause-table : goal.try_once-requires-2-clause-table
try_once-requires-2-clause-table c = c.loop-tried.invariant.tries.draws.table_is ∙ c.requires.table

pub try_once-requires-2-clause-room : goal.try_once-requires-2-clause-room
try_once-requires-2-clause-room c = let p = c.loop-tried.invariant in let a = p.tries.room in let n = p.count in omega (arith, a, n, c.requires.room, c.retries-tried-end.ensures.retries)

pub try_once-requires-2-clause-tickets : goal.try_once-requires-2-clause-tickets
try_once-requires-2-clause-tickets c = let p = c.loop-tried.invariant in let a = p.tries.left in let n = p.count in omega (arith, a, n, c.requires.tickets, c.retries-tried-end.ensures.retries)

pub returns-clause-brackets : goal.returns-clause-brackets
returns-clause-brackets c =
    bracket_ends c.args.counter.machine.now c.args.counter.cpu c.args.counter.adjust c.args.s c.args.attempts.now c.loop-tried.attempts c.try_once-2.new.attempts c.args.time.now c.loop-tried.time c.try_once-2.new.time c.loop-tried._tried c.try_once-2.result c.unwrap_or.result
    c.loop-tried.invariant c.try_once-2.ensures.tries (let few = c.loop-tried.auto._tried-end in omega (arith, few, c.retries-tried-end.ensures.retries))
    (λ none. let few = c.loop-tried.auto._tried-end in let all = c.loop-tried-test.false in omega (arith, few, all, c.retries-tried-end.ensures.retries)) c.unwrap_or.ensures

pub loop-tried-preserved : goal.loop-tried-preserved
loop-tried-preserved c =
    more_undecided c.args.counter.machine.now c.args.counter.cpu c.args.counter.adjust c.args.s c.args.attempts.now c.loop-tried.attempts c.try_once.new.attempts c.args.time.now c.loop-tried.time c.try_once.new.time c.loop-tried._tried c.try_once.result
    c.loop-tried.invariant c.try_once.ensures.tries c.in_default.is
