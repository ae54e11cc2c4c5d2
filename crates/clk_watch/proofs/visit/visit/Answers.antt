use Rattle.std.proofs.Common.{◌≡◌, ◌-◌, ◌<◌, List, length, false, None, sym, ◌∙◌, ap, subst, arith, length-append}
use Rattle.std.specs.List.{All}
use Rattle.std.proofs.lemmas.List.{get_or_read}
use Rattle.clk_machine.specs.Plan.{SourcePlan}
use Rattle.clk_record.specs.declared.watched.Pair.{Pair}
use Rattle.clk_record.specs.declared.watched.Watched.{Watched}
use Rattle.clk_record.specs.Fold.{left_by, watched_at}
use Rattle.clk_watch.specs.Small.{IsSmallWatched}
use Rattle.clk_watch.specs.Visiting.{HasFlags, pair_in}
use Rattle.clk_watch.proofs.Calling.{visits}
use Rattle.clk_watch.proofs.Leaving.{small_pair, small_left}
use Rattle.clk_watch.proofs.visit.visit.Goals as goal

abbrev nothing : Watched
nothing = record { kept = None; unstable = false; rating = 0 }

pub returns-clause-visits : goal.returns-clause-visits
returns-clause-visits c =
    let there : c.args.s < length c.args.sources.now.items = omega (arith, c.requires.sources, c.requires.source) in
    let at : c.get.result.now ≡ watched_at c.args.sources.now.items c.args.s = get_or_read c.args.sources.now.items c.args.s c.get.result.now there c.get.ensures nothing in
    let longer = ap length c.read-ends.ensures.read.tries.attempts ∙ length-append c.args.attempts.now.items c.read-ends.ensures.read.made in
    let flags = subst (λ (ws : List Watched). HasFlags ws c.args.reference c.args.s c.source.result.now.tsc c.outcome_of-outcome.result c.is_current.result) c.items.ensures c.is_current.ensures in
    let leaves : c.settle.new.sources.items ≡ left_by c.outcome_of-outcome.result (pair_in c.read-ends.result) c.args.s c.args.sources.now.items =
    c.settle.ensures.items ∙ ap (λ (p : Pair). left_by c.outcome_of-outcome.result p c.args.s c.args.sources.now.items) c.pair_of.ensures in
    visits c.args.counter.machine.now c.args.counter.cpu c.args.counter.adjust c.args.s c.len-first.result (c.len.result - c.len-first.result) c.args.reference c.args.sources.now.items c.settle.new.sources.items
    c.args.attempts.now c.read-ends.new.attempts c.args.time.now c.read-ends.new.time c.get.result.now c.read-ends.result c.outcome_of-outcome.result c.source.result.now.tsc c.is_current.result c.loses.result
    c.requires.source at c.read-ends.ensures.read c.len-first.ensures (omega (arith, c.len.ensures, c.len-first.ensures, longer)) c.outcome_of-outcome.ensures c.requires.reference (ap (λ (p : SourcePlan). p.tsc) c.source.ensures.plan) flags c.loses.ensures leaves

pub returns-clause-small : goal.returns-clause-small
returns-clause-small c =
    let there : c.args.s < length c.args.sources.now.items = omega (arith, c.requires.sources, c.requires.source) in
    let leaves : c.settle.new.sources.items ≡ left_by c.outcome_of-outcome.result (pair_in c.read-ends.result) c.args.s c.args.sources.now.items =
    c.settle.ensures.items ∙ ap (λ (p : Pair). left_by c.outcome_of-outcome.result p c.args.s c.args.sources.now.items) c.pair_of.ensures in
    subst (All IsSmallWatched) (sym leaves) (small_left c.outcome_of-outcome.result (pair_in c.read-ends.result) c.args.s c.args.sources.now.items there (small_pair c.read-ends.result c.read-ends.ensures.small) c.requires.small)
