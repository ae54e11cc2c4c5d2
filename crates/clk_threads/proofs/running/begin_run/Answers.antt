use Rattle.std.proofs.Common.{◌≡◌, ◌<◌, ◌≤◌, ℤ, Bool, List, [], length, sym, ap, ◌∙◌, subst, rules, FitsSigned, w64, to_z, of_z, to_z-of_z}
use Rattle.std.specs.Prelude.{not, ◌&&◌, is_some}
use Rattle.std.specs.List.{All}
use Rattle.clk_machine.specs.Limits.{IsWithinLimits}
use Rattle.clk_machine.specs.Plan.{cpu_count, threads_of}
use Rattle.clk_record.specs.declared.stable.StableStamp.{StableStamp}
use Rattle.clk_threads.specs.Booting.{AreStamps, gtod_offset_of}
use Rattle.clk_threads.specs.Workers.{HaveSeats, AreInSlots, HaveWatchSeats, IsWatcherOf}
use Rattle.clk_threads.specs.Ending.{begun_by}
use Rattle.clk_threads.specs.declared.running.Sorted.{Sorted}
use Rattle.clk_threads.proofs.Opening.{adjusts_count, seats_count, have_seats, some_stamp, same_offsets, have_watch_seats}
use Rattle.clk_threads.proofs.running.begin_run.Goals as goal

pub make_watcher-watcher-requires-clause-some : goal.make_watcher-watcher-requires-clause-some
make_watcher-watcher-requires-clause-some c =
    subst (λ (xs : List StableStamp). 0 < length xs) (sym (c.items.ensures ∙ ap (λ (s : Sorted). s.begun.stamps.items) c.sort_out-shared.ensures))
    (some_stamp c.args.prepared c.requires)

pub make_watcher-watcher-requires-clause-offsets : goal.make_watcher-watcher-requires-clause-offsets
make_watcher-watcher-requires-clause-offsets c =
    let p = c.args.prepared in
    let sorted : Sorted = c.sort_out-shared.result in
    let gtod : FitsSigned w64 sorted.begun.gtod_offset = search rules in
    let shown : to_z w64 (of_z w64 sorted.begun.gtod_offset) ≡ p.gtod_offset = to_z-of_z gtod ∙ ap (λ (s : Sorted). s.begun.gtod_offset) c.sort_out-shared.ensures in
    subst (λ (xs : List StableStamp). All (λ (s : StableStamp). s.offset ≡ to_z w64 (of_z w64 sorted.begun.gtod_offset)) xs)
    (sym (c.items.ensures ∙ ap (λ (s : Sorted). s.begun.stamps.items) c.sort_out-shared.ensures))
    (subst (λ (o : ℤ). All (λ (s : StableStamp). s.offset ≡ o) p.stamps.items) (sym shown) (same_offsets p c.requires))

pub make_watcher-watcher-requires-clause-seats : goal.make_watcher-watcher-requires-clause-seats
make_watcher-watcher-requires-clause-seats c =
    subst (λ (s : Sorted). HaveWatchSeats s.watch) (sym c.sort_out-shared.ensures) (have_watch_seats c.args.prepared c.requires)

pub make_workers-slots-requires-clause-limits : goal.make_workers-slots-requires-clause-limits
make_workers-slots-requires-clause-limits c = subst (λ (s : Sorted). IsWithinLimits s.shared.machine) (sym c.sort_out-shared.ensures) c.requires.limits

pub make_workers-slots-requires-clause-adjusts : goal.make_workers-slots-requires-clause-adjusts
make_workers-slots-requires-clause-adjusts c =
    subst (λ (s : Sorted). length s.shared.adjusts.items ≡ cpu_count s.shared.machine) (sym c.sort_out-shared.ensures) (adjusts_count c.args.prepared c.requires)

pub make_workers-slots-requires-clause-count : goal.make_workers-slots-requires-clause-count
make_workers-slots-requires-clause-count c =
    subst (λ (s : Sorted). length s.seats.seats.items ≡ length (threads_of s.shared.machine)) (sym c.sort_out-shared.ensures) (seats_count c.args.prepared c.requires)

pub make_workers-slots-requires-clause-seats : goal.make_workers-slots-requires-clause-seats
make_workers-slots-requires-clause-seats c =
    subst (λ (s : Sorted). HaveSeats (length s.seats.seats.items) s.seats) (sym c.sort_out-shared.ensures) (have_seats c.args.prepared c.requires)

pub make_workers-slots-requires-clause-empty : goal.make_workers-slots-requires-clause-empty
make_workers-slots-requires-clause-empty c = subst (λ (s : Sorted). s.slots.items ≡ []) (sym c.sort_out-shared.ensures) c.requires.lists.slots

pub make_workers-slots-requires-clause-room : goal.make_workers-slots-requires-clause-room
make_workers-slots-requires-clause-room c =
    subst (λ (s : Sorted). length (threads_of s.shared.machine) ≤ s.slots.room) (sym c.sort_out-shared.ensures) c.requires.lists.slots_room

pub begin_trace-trace-requires-clause-stamps : goal.begin_trace-trace-requires-clause-stamps
begin_trace-trace-requires-clause-stamps c =
    subst (λ (s : Sorted). AreStamps s.shared.machine s.begun.stamps.items) (sym c.sort_out-shared.ensures) c.requires.stamps

pub begin_trace-trace-requires-clause-offset : goal.begin_trace-trace-requires-clause-offset
begin_trace-trace-requires-clause-offset c =
    subst (λ (s : Sorted). s.begun.gtod_offset ≡ gtod_offset_of s.begun.stamps.items) (sym c.sort_out-shared.ensures) c.requires.gtod_offset

pub returns-clause-opened : goal.returns-clause-opened
returns-clause-opened c =
    let p = c.args.prepared in
    let sorted : Sorted = c.sort_out-shared.result in
    let same = c.sort_out-shared.ensures in
    let slots = c.make_workers-slots.result.items in
    let watcher = c.make_watcher-watcher.result in
    let sched : FitsSigned w64 sorted.begun.sched_offset = search rules in
    let gtod : FitsSigned w64 sorted.begun.gtod_offset = search rules in
    let stable = c.runs_stable-stable.result in
    let stamps = c.items.result.now in
    record {
      shared = ap (λ (s : Sorted). s.shared) same;
      workers =
          subst (λ (s : Sorted). AreInSlots s.shared.machine s.shared.adjusts.items s.begun.sched_offset s.seats slots) same
          (subst (λ (o : ℤ). AreInSlots sorted.shared.machine sorted.shared.adjusts.items o sorted.seats slots) (to_z-of_z sched) c.make_workers-slots.ensures);
      watcher =
          subst (λ (s : Sorted). IsWatcherOf s.begun.stamps.items s.begun.sched_offset s.begun.gtod_offset (s.shared.machine.stable && not (is_some s.begun.boot_demotion)) s.watch watcher) same
          (subst (λ (b : Bool). IsWatcherOf sorted.begun.stamps.items sorted.begun.sched_offset sorted.begun.gtod_offset b sorted.watch watcher) c.runs_stable-stable.ensures
          (subst (λ (o : ℤ). IsWatcherOf sorted.begun.stamps.items sorted.begun.sched_offset o stable sorted.watch watcher) (to_z-of_z gtod)
          (subst (λ (o : ℤ). IsWatcherOf sorted.begun.stamps.items o (to_z w64 (of_z w64 sorted.begun.gtod_offset)) stable sorted.watch watcher) (to_z-of_z sched)
          (subst (λ (xs : List StableStamp). IsWatcherOf xs (to_z w64 (of_z w64 sorted.begun.sched_offset)) (to_z w64 (of_z w64 sorted.begun.gtod_offset)) stable sorted.watch watcher) c.items.ensures
          c.make_watcher-watcher.ensures))));
      first = ap (λ (s : Sorted). s.first) same;
      time = ap (λ (s : Sorted). s.time) same;
      latches = ap (λ (s : Sorted). s.latches) same;
      trace = c.begin_trace-trace.ensures ∙ ap (λ (s : Sorted). begun_by s.shared.machine s.begun) same;
    }

pub returns-clause-empty : goal.returns-clause-empty
returns-clause-empty c = subst (λ (s : Sorted). s.workers.items ≡ []) (sym c.sort_out-shared.ensures) c.requires.lists.workers

pub returns-clause-room : goal.returns-clause-room
returns-clause-room c = subst (λ (s : Sorted). length (threads_of c.args.prepared.machine) ≤ s.workers.room) (sym c.sort_out-shared.ensures) c.requires.lists.workers_room
