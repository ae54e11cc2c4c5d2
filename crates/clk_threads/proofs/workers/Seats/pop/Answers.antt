use Rattle.std.proofs.Common.{◌≡◌, ℕ, ◌<◌, ◌≤◌, ℤ, pos, ◌-◌, ◌∙◌, ap, List, length, get_or, arith, rules, refl, FitsSigned, w64, to_z, of_z, to_z-of_z}
use Rattle.std.proofs.lemmas.List.{get_or_default}
use Rattle.clk_num.specs.Listed.{Listed}
use Rattle.clk_machine.specs.Plan.{Plan, cpu_count, thread_at, threads_of}
use Rattle.clk_machine.specs.Limits.{IsWithinLimits}
use Rattle.clk_lawful.specs.declared.event.Event.{Event}
use Rattle.clk_worker.specs.declared.own.Own.{Own}
use Rattle.clk_threads.specs.Workers.{post_of, fresh_hand}
use Rattle.clk_threads.proofs.LawfulLists.{thread_cpu}
use Rattle.clk_threads.proofs.Numbering.{threads_few}
use Rattle.clk_threads.proofs.Seating.{cut_length}
use Rattle.clk_threads.proofs.workers.Seats.pop.Goals as goal

pub overflow_cast-thread : goal.overflow_cast-thread
overflow_cast-thread c =
    let count = c.len.ensures in
    let few = c.requires.few in
    let all = threads_few c.args.machine.now c.requires.limits in
    omega (arith, count, few, all)

-- there is an adjustment of the last thread's CPU
has_adjust : (m : Plan) (adjusts : List ℤ) (n cpu : ℕ) → IsWithinLimits m → length adjusts ≡ cpu_count m → 0 < n → n ≤ length (threads_of m)
    → cpu ≡ (thread_at m (n - 1)).0 → cpu < length adjusts
has_adjust m adjusts n cpu limits all some few is =
    let below = thread_cpu m (n - 1) limits (omega (arith, some, few)) in omega (arith, below, is, all)

pub get-requires : goal.get-requires
get-requires c =
    let count = c.len.ensures in
    let some = c.requires.there in
    let few = c.requires.few in
    has_adjust c.args.machine.now c.args.adjusts.now.items c.len.result c.cpu_of-cpu.result c.requires.limits c.requires.adjusts (omega (arith, count, some))
    (omega (arith, count, few)) c.cpu_of-cpu.ensures

pub returns : goal.returns
returns c =
    let m : Plan = c.args.machine.now in
    let adjusts : List ℤ = c.args.adjusts.now.items in
    let off = c.args.sched_offset in
    let fits : FitsSigned w64 off = search rules in
    let own : Own = record { seat = c.pop.result; latch_seat = c.pop-2.result; time = c.pop-3.result } in
    let list : Listed Event = c.pop-4.result in
    let last : ℕ = c.len.result - 1 in
    let count = c.len.ensures in
    let cut = cut_length c.args.self.now.seats.items c.pop.new.self.items c.pop.result (length c.args.self.now.seats.items) c.pop.ensures.items refl in
    let thread : last ≡ length c.pop.new.self.items = omega (arith, count, cut) in
    let cpu : ℕ = c.cpu_of-cpu.result in
    let sched : ℤ = to_z w64 (of_z w64 off) in
    let some = c.requires.there in
    let few = c.requires.few in
    let low = has_adjust m adjusts c.len.result cpu c.requires.limits c.requires.adjusts (omega (arith, count, some)) (omega (arith, count, few)) c.cpu_of-cpu.ensures in
    let shown : FitsSigned w64 c.get.result.now = search rules in
    let adjust = to_z-of_z shown ∙ c.get.ensures ∙ get_or_default adjusts cpu c.get.result.now (pos 0) low in
    record {
      own = own;
      list = list;
      seats = c.pop.ensures.items;
      latches = c.pop-2.ensures.items;
      times = c.pop-3.ensures.items;
      events = c.pop-4.ensures.items;
      hand =
          c.new.ensures.hand
          ∙ ap (λ (x : ℤ). fresh_hand (record { thread = last; cpu = cpu; adjust = x; sched_offset = sched }) own list) adjust
          ∙ ap (λ (n : ℕ). fresh_hand (record { thread = last; cpu = n; adjust = get_or adjusts n (pos 0); sched_offset = sched }) own list) c.cpu_of-cpu.ensures
          ∙ ap (λ (x : ℤ). fresh_hand (post_of m adjusts x last) own list) (to_z-of_z fits)
          ∙ ap (λ (n : ℕ). fresh_hand (post_of m adjusts off n) own list) thread;
    }
