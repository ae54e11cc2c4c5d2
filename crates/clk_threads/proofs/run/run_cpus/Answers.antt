use Rattle.std.proofs.Common.{List, length, Option, sym, ap, ◌∙◌, subst, arith}
use Rattle.std.specs.List.{All}
use Rattle.clk_machine.specs.Plan.{threads_of}
use Rattle.clk_lawful.specs.Checks.{listed}
use Rattle.clk_lawful.specs.LawfulTrace.{IsLawful}
use Rattle.clk_worker.specs.declared.shared.Shared.{Shared}
use Rattle.clk_worker.specs.Making.{Hand, BelongsTo}
use Rattle.clk_watcher.specs.Making.{Hand as WatchHand, BelongsTo as WatchBelongsTo}
use Rattle.clk_threads.specs.Parts.{Parts, shared_of, WatchCame, AreBack}
use Rattle.clk_threads.specs.declared.prepared.Prepared.{Prepared}
use Rattle.clk_threads.proofs.Closing.{belong}
use Rattle.clk_threads.proofs.Halfway.{opened_some, watch_belong, AreAllTaken, are_all_taken, HaveAllRun, have_all_run, slots_back, parts_back}
use Rattle.clk_threads.proofs.Numbering.{cpus_few, threads_cover}
use Rattle.clk_threads.proofs.run.run_cpus.Goals as goal

pub take_all-workers-requires-clause-there : goal.take_all-workers-requires-clause-there
take_all-workers-requires-clause-there g c = opened_some c.args.prepared c.open_with_room-parts.result.0 c.open_with_room-parts.ensures.opened

pub take_all-workers-requires-clause-count : goal.take_all-workers-requires-clause-count
take_all-workers-requires-clause-count g c =
    let opened = c.open_with_room-parts.ensures.opened in
    opened.count ∙ ap (λ (p : Prepared). length (threads_of p.machine)) (sym opened.prepared)

pub take_all-workers-requires-clause-room : goal.take_all-workers-requires-clause-room
take_all-workers-requires-clause-room g c =
    let count = c.open_with_room-parts.ensures.opened.count in
    let room = c.open_with_room-parts.ensures.room in
    omega (arith, count, room)

pub run_all-workers-requires-clause-some : goal.run_all-workers-requires-clause-some
run_all-workers-requires-clause-some g c κs within =
    let p : Prepared = c.args.prepared in
    let hands : List Hand = c.take_all-workers.result.items in
    let watcher : Option WatchHand = c.take_watcher-watcher.result in
    let t : AreAllTaken p c.take_watcher-watcher.new.self hands watcher =
    are_all_taken p c.requires.prepared c.open_with_room-parts.result.0 c.take_all-workers.new.parts c.take_watcher-watcher.new.self hands watcher
    c.open_with_room-parts.ensures.opened c.take_all-workers.ensures.workers c.take_all-workers.ensures.parts c.take_watcher-watcher.ensures.watcher
    c.take_watcher-watcher.ensures.parts in
    let count = t.count in
    let some = (cpus_few p.machine c.requires.prepared.limits).0 in
    let cover = threads_cover p.machine in
    omega (arith, count, some, cover)

pub run_all-workers-requires-clause-belong : goal.run_all-workers-requires-clause-belong
run_all-workers-requires-clause-belong g c κs within =
    let p : Prepared = c.args.prepared in
    let hands : List Hand = c.take_all-workers.result.items in
    let watcher : Option WatchHand = c.take_watcher-watcher.result in
    let t : AreAllTaken p c.take_watcher-watcher.new.self hands watcher =
    are_all_taken p c.requires.prepared c.open_with_room-parts.result.0 c.take_all-workers.new.parts c.take_watcher-watcher.new.self hands watcher
    c.open_with_room-parts.ensures.opened c.take_all-workers.ensures.workers c.take_all-workers.ensures.parts c.take_watcher-watcher.ensures.watcher
    c.take_watcher-watcher.ensures.parts in
    let same = c.shared.ensures ∙ ap (λ (r : Parts). shared_of r.prepared) t.are in
    subst (λ (s : Shared). All (BelongsTo s) hands) (sym same) (belong p c.requires.prepared hands t.given)

pub run_all-workers-requires-clause-watcher : goal.run_all-workers-requires-clause-watcher
run_all-workers-requires-clause-watcher g c κs within =
    let p : Prepared = c.args.prepared in
    let hands : List Hand = c.take_all-workers.result.items in
    let watcher : Option WatchHand = c.take_watcher-watcher.result in
    let t : AreAllTaken p c.take_watcher-watcher.new.self hands watcher =
    are_all_taken p c.requires.prepared c.open_with_room-parts.result.0 c.take_all-workers.new.parts c.take_watcher-watcher.new.self hands watcher
    c.open_with_room-parts.ensures.opened c.take_all-workers.ensures.workers c.take_all-workers.ensures.parts c.take_watcher-watcher.ensures.watcher
    c.take_watcher-watcher.ensures.parts in
    let same = c.shared.ensures ∙ ap (λ (r : Parts). shared_of r.prepared) t.are in
    subst (λ (s : Shared). All (WatchBelongsTo s) (listed watcher)) (sym same) (watch_belong p watcher t.came)

pub back_all-requires-clause-taken : goal.back_all-requires-clause-taken
back_all-requires-clause-taken g c =
    let p : Prepared = c.args.prepared in
    let hands : List Hand = c.take_all-workers.result.items in
    let watcher : Option WatchHand = c.take_watcher-watcher.result in
    let t : AreAllTaken p c.take_watcher-watcher.new.self hands watcher =
    are_all_taken p c.requires.prepared c.open_with_room-parts.result.0 c.take_all-workers.new.parts c.take_watcher-watcher.new.self hands watcher
    c.open_with_room-parts.ensures.opened c.take_all-workers.ensures.workers c.take_all-workers.ensures.parts c.take_watcher-watcher.ensures.watcher
    c.take_watcher-watcher.ensures.parts in
    let after : List Hand = c.run_all-workers.result.0.items in
    let last : Option WatchHand = c.run_all-workers.result.1 in
    let h : HaveAllRun p c.take_watcher-watcher.new.self after last =
    have_all_run p c.requires.prepared c.take_watcher-watcher.new.self c.shared.result.now hands after watcher last t c.shared.ensures c.run_all-workers.ensures.workers
    c.run_all-workers.ensures.watcher in
    h.taken

pub back_all-requires-clause-count : goal.back_all-requires-clause-count
back_all-requires-clause-count g c =
    let p : Prepared = c.args.prepared in
    let hands : List Hand = c.take_all-workers.result.items in
    let watcher : Option WatchHand = c.take_watcher-watcher.result in
    let t : AreAllTaken p c.take_watcher-watcher.new.self hands watcher =
    are_all_taken p c.requires.prepared c.open_with_room-parts.result.0 c.take_all-workers.new.parts c.take_watcher-watcher.new.self hands watcher
    c.open_with_room-parts.ensures.opened c.take_all-workers.ensures.workers c.take_all-workers.ensures.parts c.take_watcher-watcher.ensures.watcher
    c.take_watcher-watcher.ensures.parts in
    let after : List Hand = c.run_all-workers.result.0.items in
    let last : Option WatchHand = c.run_all-workers.result.1 in
    let h : HaveAllRun p c.take_watcher-watcher.new.self after last =
    have_all_run p c.requires.prepared c.take_watcher-watcher.new.self c.shared.result.now hands after watcher last t c.shared.ensures c.run_all-workers.ensures.workers
    c.run_all-workers.ensures.watcher in
    h.count

pub back_all-requires-clause-came : goal.back_all-requires-clause-came
back_all-requires-clause-came g c =
    let p : Prepared = c.args.prepared in
    let hands : List Hand = c.take_all-workers.result.items in
    let watcher : Option WatchHand = c.take_watcher-watcher.result in
    let t : AreAllTaken p c.take_watcher-watcher.new.self hands watcher =
    are_all_taken p c.requires.prepared c.open_with_room-parts.result.0 c.take_all-workers.new.parts c.take_watcher-watcher.new.self hands watcher
    c.open_with_room-parts.ensures.opened c.take_all-workers.ensures.workers c.take_all-workers.ensures.parts c.take_watcher-watcher.ensures.watcher
    c.take_watcher-watcher.ensures.parts in
    let after : List Hand = c.run_all-workers.result.0.items in
    let last : Option WatchHand = c.run_all-workers.result.1 in
    let h : HaveAllRun p c.take_watcher-watcher.new.self after last =
    have_all_run p c.requires.prepared c.take_watcher-watcher.new.self c.shared.result.now hands after watcher last t c.shared.ensures c.run_all-workers.ensures.workers
    c.run_all-workers.ensures.watcher in
    h.came

pub back_watch-requires-clause-taken : goal.back_watch-requires-clause-taken
back_watch-requires-clause-taken g c =
    let p : Prepared = c.args.prepared in
    let hands : List Hand = c.take_all-workers.result.items in
    let watcher : Option WatchHand = c.take_watcher-watcher.result in
    let t : AreAllTaken p c.take_watcher-watcher.new.self hands watcher =
    are_all_taken p c.requires.prepared c.open_with_room-parts.result.0 c.take_all-workers.new.parts c.take_watcher-watcher.new.self hands watcher
    c.open_with_room-parts.ensures.opened c.take_all-workers.ensures.workers c.take_all-workers.ensures.parts c.take_watcher-watcher.ensures.watcher
    c.take_watcher-watcher.ensures.parts in
    let after : List Hand = c.run_all-workers.result.0.items in
    let last : Option WatchHand = c.run_all-workers.result.1 in
    let h : HaveAllRun p c.take_watcher-watcher.new.self after last =
    have_all_run p c.requires.prepared c.take_watcher-watcher.new.self c.shared.result.now hands after watcher last t c.shared.ensures c.run_all-workers.ensures.workers
    c.run_all-workers.ensures.watcher in
    ap (λ (r : Parts). r.watcher) (slots_back p c.take_watcher-watcher.new.self c.back_all.new.parts after last h c.back_all.ensures)

pub back_watch-requires-clause-came : goal.back_watch-requires-clause-came
back_watch-requires-clause-came g c =
    let p : Prepared = c.args.prepared in
    let hands : List Hand = c.take_all-workers.result.items in
    let watcher : Option WatchHand = c.take_watcher-watcher.result in
    let t : AreAllTaken p c.take_watcher-watcher.new.self hands watcher =
    are_all_taken p c.requires.prepared c.open_with_room-parts.result.0 c.take_all-workers.new.parts c.take_watcher-watcher.new.self hands watcher
    c.open_with_room-parts.ensures.opened c.take_all-workers.ensures.workers c.take_all-workers.ensures.parts c.take_watcher-watcher.ensures.watcher
    c.take_watcher-watcher.ensures.parts in
    let after : List Hand = c.run_all-workers.result.0.items in
    let last : Option WatchHand = c.run_all-workers.result.1 in
    let h : HaveAllRun p c.take_watcher-watcher.new.self after last =
    have_all_run p c.requires.prepared c.take_watcher-watcher.new.self c.shared.result.now hands after watcher last t c.shared.ensures c.run_all-workers.ensures.workers
    c.run_all-workers.ensures.watcher in
    subst (λ (r : Parts). All (WatchCame r.prepared) (listed last))
    (sym (slots_back p c.take_watcher-watcher.new.self c.back_all.new.parts after last h c.back_all.ensures)) h.watch_came

pub close_run-requires : goal.close_run-requires
close_run-requires g c =
    let p : Prepared = c.args.prepared in
    let hands : List Hand = c.take_all-workers.result.items in
    let watcher : Option WatchHand = c.take_watcher-watcher.result in
    let t : AreAllTaken p c.take_watcher-watcher.new.self hands watcher =
    are_all_taken p c.requires.prepared c.open_with_room-parts.result.0 c.take_all-workers.new.parts c.take_watcher-watcher.new.self hands watcher
    c.open_with_room-parts.ensures.opened c.take_all-workers.ensures.workers c.take_all-workers.ensures.parts c.take_watcher-watcher.ensures.watcher
    c.take_watcher-watcher.ensures.parts in
    let after : List Hand = c.run_all-workers.result.0.items in
    let last : Option WatchHand = c.run_all-workers.result.1 in
    let h : HaveAllRun p c.take_watcher-watcher.new.self after last =
    have_all_run p c.requires.prepared c.take_watcher-watcher.new.self c.shared.result.now hands after watcher last t c.shared.ensures c.run_all-workers.ensures.workers
    c.run_all-workers.ensures.watcher in
    record {
      back =
          subst AreBack (sym (parts_back p c.take_watcher-watcher.new.self c.back_all.new.parts c.back_watch.new.parts after last h c.back_all.ensures c.back_watch.ensures))
          h.back;
    }

pub returns-clause-lawful : goal.returns-clause-lawful
returns-clause-lawful g c =
    let p : Prepared = c.args.prepared in
    let hands : List Hand = c.take_all-workers.result.items in
    let watcher : Option WatchHand = c.take_watcher-watcher.result in
    let t : AreAllTaken p c.take_watcher-watcher.new.self hands watcher =
    are_all_taken p c.requires.prepared c.open_with_room-parts.result.0 c.take_all-workers.new.parts c.take_watcher-watcher.new.self hands watcher
    c.open_with_room-parts.ensures.opened c.take_all-workers.ensures.workers c.take_all-workers.ensures.parts c.take_watcher-watcher.ensures.watcher
    c.take_watcher-watcher.ensures.parts in
    let after : List Hand = c.run_all-workers.result.0.items in
    let last : Option WatchHand = c.run_all-workers.result.1 in
    let h : HaveAllRun p c.take_watcher-watcher.new.self after last =
    have_all_run p c.requires.prepared c.take_watcher-watcher.new.self c.shared.result.now hands after watcher last t c.shared.ensures c.run_all-workers.ensures.workers
    c.run_all-workers.ensures.watcher in
    subst (λ (r : Parts). IsLawful r.prepared.machine c.close_run.result.trace)
    (parts_back p c.take_watcher-watcher.new.self c.back_all.new.parts c.back_watch.new.parts after last h c.back_all.ensures c.back_watch.ensures)
    c.close_run.ensures.lawful
