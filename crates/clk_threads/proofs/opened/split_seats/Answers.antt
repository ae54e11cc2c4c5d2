use Rattle.std.proofs.Common.{◌≡◌, ◌<◌, List, [], ◌∷◌, ◌++◌, length, sym, ap, ◌∙◌, subst, arith, rules}
use Rattle.clk_words.specs.declared.kind.SeatKind.{SeatKind}
use Rattle.clk_words.specs.declared.opening.Start.{Start}
use Rattle.clk_words.specs.Held.{Held, place_of}
use Rattle.clk_words.specs.Kinds.{cpu_of}
use Rattle.clk_words.specs.Views.{first_view, giver_view, given_view}
use Rattle.clk_words.specs.declared.view.View.{View}
use Rattle.clk_words.specs.Knowing.{MaySplit}
use Rattle.clk_machine.specs.Plan.{threads_of}
use Rattle.clk_threads.specs.Preparing.{kind_on, thread_seats}
use Rattle.clk_threads.proofs.Giving.{gave_start, gave_made, gave_next, seats_next, may_split}
use Rattle.clk_threads.proofs.LawfulLists.{thread_cpu}
use Rattle.clk_threads.proofs.Numbering.{kind_cpu, threads_few}
use Rattle.clk_threads.proofs.opened.split_seats.Goals as goal

pub split-requires-clause-own : goal.split-requires-clause-own
split-requires-clause-own c =
    let p = c.args.words.now in
    let m = c.args.machine.now in
    ap place_of c.loop-thread.invariant.first ∙ ap (λ (s : Start). record { table = p.table; start = s }) (gave_start m c.loop-thread.thread (first_view p.start))

pub split-requires-clause-right : goal.split-requires-clause-right
split-requires-clause-right c =
    let thread = c.loop-thread.thread in
    let kind = c.kind_of.result in
    subst (λ (h : Held). MaySplit h.view kind) (sym c.loop-thread.invariant.first)
    (subst (MaySplit _) (sym c.kind_of.ensures) (may_split c.args.machine.now c.args.words.now.start thread c.requires.cpus))

pub split-requires-clause-cpu : goal.split-requires-clause-cpu
split-requires-clause-cpu c =
    let m = c.args.machine.now in
    let thread = c.loop-thread.thread in
    let low : thread < length (threads_of m) = search rules in
    let is : cpu_of c.kind_of.result ≡ cpu_of (kind_on m thread) = ap cpu_of c.kind_of.ensures in
    let cpu = kind_cpu m thread in
    let below = thread_cpu m thread c.requires.limits low in
    let cpus = c.requires.cpus in
    omega (arith, is, cpu, below, cpus)

pub split-requires-clause-room : goal.split-requires-clause-room
split-requires-clause-room c =
    let m = c.args.machine.now in
    let made = ap (λ (h : Held). h.view.made) c.loop-thread.invariant.first ∙ gave_made m c.loop-thread.thread (first_view c.args.words.now.start) in
    let low = c.loop-thread-test.true in
    let few = threads_few m c.requires.limits in
    let many = c.threads-thread-end.ensures in
    omega (arith, made, low, few, many)

pub loop-thread-preserved : goal.loop-thread-preserved
loop-thread-preserved c =
    let m = c.args.machine.now in
    let p = c.args.words.now in
    let thread = c.loop-thread.thread in
    let v = first_view p.start in
    let room = c.push.ensures.room in
    let before = c.loop-thread.invariant.room in
    let kind : c.kind_of.result ≡ kind_on m thread = c.kind_of.ensures in
    let seat = c.split.ensures.new ∙ ap (λ (k : SeatKind). record { table = p.table; view = given_view k c.loop-thread.first.view }) kind
    ∙ ap (λ (h : Held). record { table = p.table; view = given_view (kind_on m thread) h.view }) c.loop-thread.invariant.first in
    record {
      first =
          c.split.ensures.old ∙ ap (λ (k : SeatKind). record { table = p.table; view = giver_view k c.loop-thread.first.view }) kind
          ∙ ap (λ (h : Held). record { table = p.table; view = giver_view (kind_on m thread) h.view }) c.loop-thread.invariant.first
          ∙ ap (λ (w : View). record { table = p.table; view = w }) (sym (gave_next m thread v));
      seats =
          c.push.ensures.items ∙ ap (λ (xs : List Held). xs ++ c.split.result ∷ []) c.loop-thread.invariant.seats
          ∙ ap (λ (h : Held). thread_seats m p thread ++ h ∷ []) seat
          ∙ sym (seats_next m p thread);
      room = omega (arith, room, before);
    }
