use Rattle.std.proofs.Common.{sym, subst, Some}
use Rattle.clk_threads.specs.Ending.{HasGatheredWatch}
use Rattle.clk_threads.proofs.Gathering.{watch_some, joins_one}
use Rattle.clk_threads.proofs.ended.gather_watch.Goals as goal

pub join_watch-requires : goal.join_watch-requires
join_watch-requires c =
    (joins_one c.args.shared.now c.args.owners.items c.args.watcher c.in-Some.watcher c.into_parts-parts.result.0 c.in-Some.is c.into_parts-parts.ensures.parts c.requires.watch).latches

pub join-first-requires-clause-second : goal.join-first-requires-clause-second
join-first-requires-clause-second c =
    (joins_one c.args.shared.now c.args.owners.items c.args.watcher c.in-Some.watcher c.into_parts-parts.result.0 c.in-Some.is c.into_parts-parts.ensures.parts c.requires.watch).words

pub join-time-requires-clause-second : goal.join-time-requires-clause-second
join-time-requires-clause-second c =
    (joins_one c.args.shared.now c.args.owners.items c.args.watcher c.in-Some.watcher c.into_parts-parts.result.0 c.in-Some.is c.into_parts-parts.ensures.parts c.requires.watch).tickets

pub returns-in-Some : goal.returns-in-Some
returns-in-Some c =
    let s = c.args.shared.now in
    let owners = c.args.owners.items in
    subst (λ o. HasGatheredWatch s o owners c.args.first c.args.time c.join-first.result c.join-time.result (Some c.into_parts-parts.result.1)) (sym c.in-Some.is)
    (watch_some s c.in-Some.watcher c.into_parts-parts.result.0 c.into_parts-parts.result.1 owners c.args.first c.args.time c.join-first.result c.join-time.result
    (record {
      parts = c.into_parts-parts.ensures.parts;
      trace_is = c.into_parts-parts.ensures.trace;
      place = c.join-first.ensures.own;
      joins = c.join-first.ensures.joins;
      table = c.requires.time_own;
      time_is = c.join-time.ensures.seat;
      share = c.join-time.ensures.share;
      follow = c.join_watch.ensures;
    }))
