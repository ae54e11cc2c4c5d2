use Rattle.clk_threads.proofs.ended.end_run.Goals as goal

pub join_latches-owners-requires : goal.join_latches-owners-requires
join_latches-owners-requires c =
    c.requires.latches c.gather-first.result.0 c.gather-first.result.1 c.gather-first.new.threads c.gather-first.new.latches c.gather-first.ensures

pub gather_watch-first-requires : goal.gather_watch-first-requires
gather_watch-first-requires c =
    c.requires.watch c.gather-first.result.0 c.gather-first.result.1 c.gather-first.new.threads c.gather-first.new.latches c.join_latches-owners.result.items
    c.gather-first.ensures c.join_latches-owners.ensures.owners

pub finish-requires-clause-whole : goal.finish-requires-clause-whole
finish-requires-clause-whole c =
    (c.requires.whole c.gather-first.result.0 c.gather-first.result.1 c.gather-first.new.threads c.gather-first.new.latches c.join_latches-owners.result.items
    c.gather_watch-first.result.0 c.gather_watch-first.result.1 c.gather_watch-first.result.2
    (record { threads = c.gather-first.ensures; owners_left = c.join_latches-owners.ensures.owners; watchdog = c.gather_watch-first.ensures })).share

pub histories-requires : goal.histories-requires
histories-requires c =
    (c.requires.whole c.gather-first.result.0 c.gather-first.result.1 c.gather-first.new.threads c.gather-first.new.latches c.join_latches-owners.result.items
    c.gather_watch-first.result.0 c.gather_watch-first.result.1 c.gather_watch-first.result.2
    (record { threads = c.gather-first.ensures; owners_left = c.join_latches-owners.ensures.owners; watchdog = c.gather_watch-first.ensures })).fill c.finish.result

pub finish-requires-2-clause-all : goal.finish-requires-2-clause-all
finish-requires-2-clause-all c =
    (c.requires.whole c.gather-first.result.0 c.gather-first.result.1 c.gather-first.new.threads c.gather-first.new.latches c.join_latches-owners.result.items
    c.gather_watch-first.result.0 c.gather_watch-first.result.1 c.gather_watch-first.result.2
    (record { threads = c.gather-first.ensures; owners_left = c.join_latches-owners.ensures.owners; watchdog = c.gather_watch-first.ensures })).all
