use Rattle.std.proofs.Common.{◌≡◌, ℕ, Bool, true, cond, List, [], ◌∷◌, length, set, sym, ap, ◌∙◌, subst, arith, length-append}
use Rattle.std.specs.List.{insert}
use Rattle.std.specs.Prelude.{is_ok}
use Rattle.std.proofs.lemmas.List.{length-set}
use Rattle.clk_machine.specs.Plan.{Plan}
use Rattle.clk_machine.proofs.Threading.{threads_length}
use Rattle.clk_latch.specs.Epoch.{Place}
use Rattle.clk_threads.specs.Ending.{AreOwnersLeft}
use Rattle.clk_threads.proofs.Latching.{HaveJoined, joined_none, takes_last, owner_fits, reader_fits, put_back, joined_more, joined_all, owners_left}
use Rattle.clk_threads.proofs.Numbering.{threads_few}
use Rattle.clk_threads.proofs.joins.join_latches.Goals as goal

pub loop-init : goal.loop-init
loop-init c =
    let s = c.args.shared.now in
    let all : List Place = c.args.seats.items in
    let count = c.requires.count in
    let same = ap length c.into_vec-seats.ensures in
    record {
      joined = subst (HaveJoined s.machine all) (sym c.into_vec-seats.ensures) (joined_none s all c.requires);
      count = omega (arith, count, same);
    }

pub overflow_cast-len : goal.overflow_cast-len
overflow_cast-len c =
    let m : Plan = c.args.shared.now.machine in
    let few = threads_few m c.requires.limits in
    let count = c.loop.invariant.count in
    let len = c.len.ensures in
    let popped = c.pop.ensures.len in
    omega (arith, few, count, len, popped)

pub remove-owner-requires : goal.remove-owner-requires
remove-owner-requires c =
    let s = c.args.shared.now in
    let m : Plan = s.machine in
    let front : List Place = c.pop.new.self.items in
    let reader : Place = c.unwrap-reader.result in
    let turn =
    takes_last m c.loop.seats.items front c.pop.result reader c.loop.counter c.readers-end.result c.len.result c.cpu_of-cpu.result c.requires.limits
    c.pop.ensures.items c.unwrap-reader.ensures c.loop.invariant.count c.readers-end.ensures c.loop-test.true (omega (arith, c.len.ensures, c.pop.new.self.ok.0))
    c.cpu_of-cpu.ensures in
    let past = turn.past in
    let below = turn.below in
    omega (arith, past, below, c.pop.new.self.ok.0)

pub get-requires : goal.get-requires
get-requires c =
    let s = c.args.shared.now in
    let m : Plan = s.machine in
    let front : List Place = c.pop.new.self.items in
    let reader : Place = c.unwrap-reader.result in
    let turn =
    takes_last m c.loop.seats.items front c.pop.result reader c.loop.counter c.readers-end.result c.len.result c.cpu_of-cpu.result c.requires.limits
    c.pop.ensures.items c.unwrap-reader.ensures c.loop.invariant.count c.readers-end.ensures c.loop-test.true (omega (arith, c.len.ensures, c.pop.new.self.ok.0))
    c.cpu_of-cpu.ensures in
    let below = turn.below in
    let many = c.requires.latches in
    omega (arith, below, many)

pub join-joined-requires-clause-first : goal.join-joined-requires-clause-first
join-joined-requires-clause-first c =
    let s = c.args.shared.now in
    let m : Plan = s.machine in
    let front : List Place = c.pop.new.self.items in
    let reader : Place = c.unwrap-reader.result in
    let turn =
    takes_last m c.loop.seats.items front c.pop.result reader c.loop.counter c.readers-end.result c.len.result c.cpu_of-cpu.result c.requires.limits
    c.pop.ensures.items c.unwrap-reader.ensures c.loop.invariant.count c.readers-end.ensures c.loop-test.true (omega (arith, c.len.ensures, c.pop.new.self.ok.0))
    c.cpu_of-cpu.ensures in
    let owner : Place = c.remove-owner.result in
    let named : Place = record reader { latch = c.get.result.now } in
    owner_fits s c.args.seats.items c.loop.seats.items front reader owner named c.cpu_of-cpu.result c.requires c.loop.invariant.joined turn c.remove-owner.ensures.value
    ∙ sym c.get.ensures

pub join-joined-requires-clause-second : goal.join-joined-requires-clause-second
join-joined-requires-clause-second c =
    let s = c.args.shared.now in
    let m : Plan = s.machine in
    let front : List Place = c.pop.new.self.items in
    let reader : Place = c.unwrap-reader.result in
    let turn =
    takes_last m c.loop.seats.items front c.pop.result reader c.loop.counter c.readers-end.result c.len.result c.cpu_of-cpu.result c.requires.limits
    c.pop.ensures.items c.unwrap-reader.ensures c.loop.invariant.count c.readers-end.ensures c.loop-test.true (omega (arith, c.len.ensures, c.pop.new.self.ok.0))
    c.cpu_of-cpu.ensures in
    let named : Place = record reader { latch = c.get.result.now } in
    reader_fits s c.args.seats.items c.loop.seats.items front reader named c.cpu_of-cpu.result c.requires c.loop.invariant.joined turn ∙ sym c.get.ensures

pub loop-preserved : goal.loop-preserved
loop-preserved c =
    let s = c.args.shared.now in
    let m : Plan = s.machine in
    let front : List Place = c.pop.new.self.items in
    let reader : Place = c.unwrap-reader.result in
    let turn =
    takes_last m c.loop.seats.items front c.pop.result reader c.loop.counter c.readers-end.result c.len.result c.cpu_of-cpu.result c.requires.limits
    c.pop.ensures.items c.unwrap-reader.ensures c.loop.invariant.count c.readers-end.ensures c.loop-test.true (omega (arith, c.len.ensures, c.pop.new.self.ok.0))
    c.cpu_of-cpu.ensures in
    let all : List Place = c.args.seats.items in
    let after : List Place = c.insert.new.self.items in
    let owner : Place = c.remove-owner.result in
    let joint : Place = c.join-joined.result in
    let cpu : ℕ = c.cpu_of-cpu.result in
    let past = turn.past in
    let below = turn.below in
    let named = owner_fits s all c.loop.seats.items front reader owner (record reader { latch = c.get.result.now }) cpu c.requires c.loop.invariant.joined turn
    c.remove-owner.ensures.value in
    let done : is_ok c.insert.result ≡ true = ap is_ok c.unwrap.ensures in
    let put : after ≡ set front cpu joint =
    c.insert.ensures.items ∙ ap (λ (b : Bool). cond b (insert c.remove-owner.new.self.items cpu joint) c.remove-owner.new.self.items) done
    ∙ ap (λ (xs : List Place). insert xs cpu joint) c.remove-owner.ensures.items ∙ put_back front cpu joint (omega (arith, below, past)) in
    let length_is = ap length put ∙ length-set front cpu joint in
    let popped = ap length turn.last in
    let count = c.loop.invariant.count in
    let both = length-append front (reader ∷ []) in
    record {
      joined =
          joined_more m all c.loop.seats.items front after reader owner joint cpu c.loop.invariant.joined turn
          (record {
            taken = c.remove-owner.ensures.value;
            latch = c.join-joined.ensures.own ∙ sym (named ∙ sym c.get.ensures);
            joins = c.join-joined.ensures.joins;
            put = put;
          });
      count = omega (arith, length_is, popped, both, count);
    }

pub returns-clause-readers : goal.returns-clause-readers
returns-clause-readers c =
    let m : Plan = c.args.shared.now.machine in
    let count = c.loop.invariant.count in
    let readers = c.readers-end.ensures in
    let past = c.loop-test.false in
    let some = c.loop.invariant.joined.some in
    let all = threads_length m in
    joined_all m c.args.seats.items c.loop.seats.items c.loop.invariant.joined (omega (arith, count, readers, past, some, all))

pub returns-clause-owners : goal.returns-clause-owners
returns-clause-owners c =
    let s = c.args.shared.now in
    let m : Plan = s.machine in
    let count = c.loop.invariant.count in
    let readers = c.readers-end.ensures in
    let past = c.loop-test.false in
    let some = c.loop.invariant.joined.some in
    let all = threads_length m in
    subst (AreOwnersLeft s c.args.seats.items) (sym c.from_vec.ensures.items)
    (owners_left s c.args.seats.items c.loop.seats.items c.requires c.loop.invariant.joined (omega (arith, count, readers, past, some, all)))
