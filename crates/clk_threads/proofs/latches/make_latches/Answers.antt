use Rattle.std.proofs.Common.{◌≡◌, ℕ, ◌<◌, List, [], ◌∷◌, ◌++◌, length, get_or, sym, ap, ◌∙◌, subst, arith, rules, length-append}
use Rattle.std.specs.Prelude.{is_some}
use Rattle.clk_base.specs.Walk.{EachFrom}
use Rattle.clk_machine.specs.Plan.{Plan, cpu_count, thread_at, threads_of}
use Rattle.clk_latch.specs.Epoch.{Place, reader_of}
use Rattle.clk_threads.specs.declared.latches.Latches.{Latches}
use Rattle.clk_threads.specs.Preparing.{IsOfLatch, IsLatchSeat, HaveLatches}
use Rattle.clk_threads.proofs.Filling.{each_push}
use Rattle.clk_threads.proofs.Latching.{owners_seats, owner_there, reader_seat, refill_same}
use Rattle.clk_threads.proofs.LawfulLists.{thread_cpu}
use Rattle.clk_threads.proofs.Numbering.{threads_cover}
use Rattle.clk_threads.proofs.SplitLatches.{have_same, owners_are, watch_latches, watched_few}
use Rattle.clk_threads.proofs.latches.make_latches.Goals as goal

pub fill_latches-requires-clause-seats : goal.fill_latches-requires-clause-seats
fill_latches-requires-clause-seats c =
    let m : Plan = c.args.machine.now in
    let cpus = c.cpus-cpus.ensures.count in
    let threads = c.threads.ensures in
    let cover = threads_cover m in
    let room = c.in_ok-seats.ensures.room in
    (c.in_ok-seats.ensures.items, omega (arith, cpus, threads, cover, room))

pub loop-thread-init : goal.loop-thread-init
loop-thread-init c =
    let m : Plan = c.args.machine.now in
    let cpus = c.cpus-cpus.ensures.count in
    let l : Latches = record { epochs = c.fill_latches.new.epochs; seats = c.fill_latches.new.seats; watch = c.in_ok-watch.watch } in
    let told = c.in_ok-fill_latches.ensures in
    let count : length l.epochs.items ≡ cpu_count m = told.count ∙ cpus in
    let threads = c.threads.ensures in
    let room = c.in_ok-seats.ensures.room in
    let left = told.room in
    let watch = c.in_ok-watch.ensures.room in
    record {
      past = omega (arith, cpus);
      seats = subst (λ (n : ℕ). HaveLatches m c.args.zero n l) (sym cpus) (owners_seats m c.args.zero l count told.latches told.owners);
      room = omega (arith, cpus, threads, room, left);
      watch = (c.in_ok-watch.ensures.items, omega (arith, watch));
    }

pub get-requires : goal.get-requires
get-requires c =
    let m : Plan = c.args.machine.now in
    let thread = c.loop-thread.thread in
    let low : thread < length (threads_of m) = search rules in
    let cpu = c.cpu_of-cpu.ensures in
    let below = thread_cpu m thread c.cpus-cpus.ensures.limits low in
    let many = c.loop-thread.invariant.seats.latches in
    omega (arith, cpu, below, many)

pub split_reader-reader-requires-clause-there : goal.split_reader-reader-requires-clause-there
split_reader-reader-requires-clause-there c =
    let m : Plan = c.args.machine.now in
    let thread = c.loop-thread.thread in
    let low : thread < length (threads_of m) = search rules in
    let cpu = c.cpu_of-cpu.ensures in
    let below = thread_cpu m thread c.cpus-cpus.ensures.limits low in
    let past = c.loop-thread.invariant.past in
    let many = c.loop-thread.invariant.seats.count in
    let items = ap length c.items_mut.ensures.value in
    omega (arith, cpu, below, past, many, items)

pub split_reader-reader-requires-clause-own : goal.split_reader-reader-requires-clause-own
split_reader-reader-requires-clause-own c =
    let m : Plan = c.args.machine.now in
    let l : Latches = c.loop-thread.latches in
    let thread = c.loop-thread.thread in
    let low : thread < length (threads_of m) = search rules in
    let cpu = c.cpu_of-cpu.ensures in
    let below = thread_cpu m thread c.cpus-cpus.ensures.limits low in
    let there : c.cpu_of-cpu.result < cpu_count m = omega (arith, cpu, below) in
    λ d.
    ap (λ (xs : List Place). (get_or xs c.cpu_of-cpu.result d).latch) c.items_mut.ensures.value
    ∙ owner_there m c.args.zero l thread c.cpu_of-cpu.result d (record { latch = c.get.result.now; epoch = d.epoch }) c.loop-thread.invariant.seats there c.loop-thread.invariant.past
    ∙ sym c.get.ensures

pub loop-thread-preserved : goal.loop-thread-preserved
loop-thread-preserved c =
    let m : Plan = c.args.machine.now in
    let l : Latches = c.loop-thread.latches in
    let h : HaveLatches m c.args.zero c.loop-thread.thread l = c.loop-thread.invariant.seats in
    let seats : List Place = l.seats.items in
    let thread = c.loop-thread.thread in
    let low : thread < length (threads_of m) = search rules in
    let many = h.count in
    let seat : Place = c.split_reader-reader.result in
    let cpu = c.cpu_of-cpu.ensures in
    let named = c.split_reader-reader.ensures.own ∙ c.get.ensures in
    let latch : IsOfLatch m l thread seat =
    named ∙ ap (λ (d : _). get_or l.epochs.items c.cpu_of-cpu.result d) (sym c.split_reader-reader.ensures.own) ∙ ap (λ (i : ℕ). get_or l.epochs.items i seat.latch) cpu in
    let epoch : seat.epoch ≡ reader_of (get_or seats (thread_at m thread).0 seat).epoch =
    c.split_reader-reader.ensures.reader seat
    ∙ ap (λ (xs : List Place). reader_of (get_or xs c.cpu_of-cpu.result seat).epoch) c.items_mut.ensures.value
    ∙ ap (λ (i : ℕ). reader_of (get_or seats i seat).epoch) cpu in
    let one : IsLatchSeat m c.args.zero l thread seat =
    reader_seat m c.args.zero l thread seat c.cpus-cpus.ensures.limits c.loop-thread.invariant.past low h latch epoch in
    let same = c.split_reader-reader.ensures.same ∙ c.items_mut.ensures.value in
    let left = refill_same seats c.split_reader-reader.new.seats same in
    let items = c.push.ensures.items ∙ ap (λ (xs : List Place). xs ++ seat ∷ []) left in
    let both = length-append seats (seat ∷ []) in
    let longer = ap length items in
    let room = c.push.ensures.room in
    let before = c.loop-thread.invariant.room in
    let past = c.loop-thread.invariant.past in
    record {
      past = omega (arith, past);
      seats = record {
        latches = h.latches;
        count = omega (arith, longer, both, many);
        each =
            subst (EachFrom (IsLatchSeat m c.args.zero l) 0) (sym items)
            (each_push (IsLatchSeat m c.args.zero l) 0 seats seat h.each
            (subst (λ (i : ℕ). IsLatchSeat m c.args.zero l i seat) (omega (arith, many)) one));
      };
      room = omega (arith, room, before);
      watch = c.loop-thread.invariant.watch;
    }

pub split_watch_seats-requires-clause-own : goal.split_watch_seats-requires-clause-own
split_watch_seats-requires-clause-own c =
    let m : Plan = c.args.machine.now in
    let few = watched_few (is_some m.watchdog) (cpu_count m) in
    let watched = c.watched_cpus-watched.ensures in
    owners_are m c.args.zero c.loop-thread.thread c.watched_cpus-watched.result c.loop-thread.latches c.loop-thread.invariant.seats c.loop-thread.invariant.past (omega (arith, few, watched))

pub returns : goal.returns
returns c =
    let m : Plan = c.args.machine.now in
    let l : Latches = c.split_watch_seats.new.latches in
    let told = c.split_watch_seats.ensures in
    let cover = threads_cover m in
    let threads = c.threads-thread-end.ensures in
    let past = c.loop-thread-test.false in
    let watched = c.watched_cpus-watched.ensures in
    let few = watched_few (is_some m.watchdog) (cpu_count m) in
    let count = told.count in
    let before : HaveLatches m c.args.zero c.loop-thread.thread l =
    have_same m c.args.zero c.loop-thread.thread c.loop-thread.latches l (ap (λ es. es.items) told.epochs) told.seats c.loop-thread.invariant.seats in
    let all : HaveLatches m c.args.zero (length (threads_of m)) l = subst (λ (n : ℕ). HaveLatches m c.args.zero n l) (omega (arith, past, threads, cover)) before in
    record {
      latches = all;
      watch = record {
        count = count ∙ watched;
        each = watch_latches m c.args.zero (length (threads_of m)) l all cover (omega (arith, few, watched, count)) told.watch;
      };
    }
