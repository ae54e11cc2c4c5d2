use Rattle.std.proofs.Common.{◌≡◌, ℕ, ◌<◌, List, [], ◌∷◌, length, get_or, refl, sym, ap, ◌∙◌, subst, arith, rules, length-append}
use Rattle.clk_latch.specs.Epoch.{Place, reader_of}
use Rattle.clk_threads.specs.declared.latches.Latches.{Latches}
use Rattle.clk_threads.specs.Preparing.{IsSplitOff}
use Rattle.clk_threads.proofs.Latching.{refill_same}
use Rattle.clk_threads.proofs.SplitLatches.{split_more}
use Rattle.clk_threads.proofs.latches.split_watch_seats.Goals as goal

pub get-requires : goal.get-requires
get-requires c =
    let low : c.loop-cpu.cpu < c.args.cpus = search rules in
    let same = ap (λ x. length x.items) c.loop-cpu.invariant.epochs in
    let there = c.requires.there.0 in
    omega (arith, low, same, there)

pub split_reader-reader-requires-clause-there : goal.split_reader-reader-requires-clause-there
split_reader-reader-requires-clause-there c =
    let low : c.loop-cpu.cpu < c.args.cpus = search rules in
    let same = ap length c.loop-cpu.invariant.seats in
    let there = c.requires.there.1 in
    let items = ap length c.items_mut.ensures.value in
    omega (arith, low, same, there, items)

pub split_reader-reader-requires-clause-own : goal.split_reader-reader-requires-clause-own
split_reader-reader-requires-clause-own c =
    let low : c.loop-cpu.cpu < c.args.cpus = search rules in
    let cpu = c.loop-cpu.cpu in
    λ d.
    ap (λ (xs : List Place). (get_or xs cpu d).latch) (c.items_mut.ensures.value ∙ c.loop-cpu.invariant.seats)
    ∙ c.requires.own cpu d (record { latch = c.get.result.now; epoch = d.epoch }) low
    ∙ ap (λ es. get_or es.items cpu c.get.result.now) (sym c.loop-cpu.invariant.epochs)
    ∙ sym c.get.ensures

pub loop-cpu-preserved : goal.loop-cpu-preserved
loop-cpu-preserved c =
    let l : Latches = c.loop-cpu.latches in
    let seats : List Place = l.seats.items in
    let before = c.loop-cpu.invariant in
    let seat : Place = c.split_reader-reader.result in
    let told = c.split_reader-reader.ensures in
    let left = refill_same seats c.split_reader-reader.new.seats (told.same ∙ c.items_mut.ensures.value) in
    let latch : seat.latch ≡ get_or l.epochs.items c.loop-cpu.cpu seat.latch =
    told.own ∙ c.get.ensures ∙ ap (λ d. get_or l.epochs.items c.loop-cpu.cpu d) (sym told.own) in
    let epoch : seat.epoch ≡ reader_of (get_or seats c.loop-cpu.cpu seat).epoch =
    told.reader seat ∙ ap (λ (xs : List Place). reader_of (get_or xs c.loop-cpu.cpu seat).epoch) c.items_mut.ensures.value in
    let here : IsSplitOff l (length l.watch.items) seat = subst (λ (i : ℕ). IsSplitOff l i seat) (sym before.count) (latch, epoch) in
    let items = c.push.ensures.items in
    let both = length-append l.watch.items (seat ∷ []) in
    let longer = ap length items in
    let count = before.count in
    let room = c.push.ensures.room in
    let was = before.room in
    record {
      epochs = before.epochs;
      seats = left ∙ before.seats;
      count = omega (arith, longer, both, count);
      split = split_more l (record { epochs = l.epochs; seats = record { items = _; room = l.seats.room }; watch = c.push.new.self }) seat before.split refl left items here;
      room = omega (arith, room, was);
    }
