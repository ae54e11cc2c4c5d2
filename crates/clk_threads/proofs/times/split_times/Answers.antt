use Rattle.std.proofs.Common.{◌≡◌, ℕ, ◌<◌, List, [], ◌∷◌, ◌++◌, length, map, take, sym, ap, ◌∙◌, arith, rules}
use Rattle.std.proofs.lemmas.List.Sums.{sum_by_more_le}
use Rattle.clk_ticket.specs.Time.{Time, fresh, without}
use Rattle.clk_machine.specs.Plan.{threads_of, thread_at}
use Rattle.clk_threads.specs.Preparing.{thread_tickets, time_seat}
use Rattle.clk_threads.proofs.Sharing.{map_more, without_next}
use Rattle.clk_threads.proofs.times.split_times.Goals as goal

pub split-requires-clause-within : goal.split-requires-clause-within
split-requires-clause-within c =
    let m = c.args.machine.now in
    let low : c.loop-thread.thread < length (threads_of m) = search rules in
    let more = sum_by_more_le thread_tickets (threads_of m) c.loop-thread.thread (0, []) low in
    let count = c.tickets.ensures.count in
    let left = ap (λ (t : Time). t.left) c.loop-thread.invariant.time in
    let all = c.requires.left in
    omega (arith, more, count, left, all)

pub loop-thread-preserved : goal.loop-thread-preserved
loop-thread-preserved c =
    let m = c.args.machine.now in
    let thread = c.loop-thread.thread in
    let began = c.args.time.now in
    let low : thread < length (threads_of m) = search rules in
    let count = c.tickets.ensures.count in
    let time = c.loop-thread.invariant.time in
    let room = c.push.ensures.room in
    let before = c.loop-thread.invariant.room in
    let seat : c.split.result ≡ time_seat began (thread_at m thread) =
    c.split.ensures.new ∙ ap (λ (n : ℕ). fresh c.loop-thread.time.table n c.loop-thread.time.seen) count
    ∙ ap (λ (t : Time). fresh t.table (thread_tickets (thread_at m thread)) t.seen) time in
    record {
      seats =
          c.push.ensures.items ∙ ap (λ (xs : List Time). xs ++ c.split.result ∷ []) c.loop-thread.invariant.seats
          ∙ ap (λ (s : Time). map (time_seat began) (take thread (threads_of m)) ++ s ∷ []) seat
          ∙ sym (map_more (time_seat began) (threads_of m) thread (0, []) low);
      time =
          c.split.ensures.seat ∙ ap (λ (n : ℕ). without n c.loop-thread.time) count
          ∙ ap (without (thread_tickets (thread_at m thread))) time
          ∙ without_next (threads_of m) thread (0, []) began low;
      room = omega (arith, room, before);
    }
