use Rattle.std.proofs.Common.{◌≡◌, ◌<◌, true, false, not, Option, List, rules, sym, ap, ◌∙◌, subst, arith}
use Rattle.std.specs.Prelude.{IsSomeAnd}
use Rattle.atomic_table.specs.Seated.{TableId}
use Rattle.clk_ticket.specs.Time.{Time}
use Rattle.clk_machine.specs.Time.{counter_at}
use Rattle.clk_record.specs.declared.warp.WarpReading.{WarpReading}
use Rattle.clk_record.specs.WarpLimits.{cpu_of, side_adjust}
use Rattle.clk_warp.specs.declared.section.Section.TheVariants.{Read}
use Rattle.clk_warp.specs.Run.{Run, limits_at, both_here, side_ended, change, IsReading}
use Rattle.clk_warp.specs.Stated.{run_of, IsKept}
use Rattle.clk_warp.proofs.Stating.{few_readings, kept_read, kept_behind, ticket_left, reading_is}
use Rattle.clk_warp.proofs.state.WarpState.read.Goals as goal

pub draw_one-ticket-requires : goal.draw_one-ticket-requires
draw_one-ticket-requires c =
    let i = c.deref_mut-inner.result.now in
    let s = run_of i in
    let same = c.deref_mut-inner.ensures.value in
    let kept = kept_behind i c.self.inside.inner.value same c.self.invariant in
    let view : s ≡ c.args.self.now = ap run_of same ∙ c.self.view_is in
    let here = subst (λ (t : Run). both_here t ≡ true) (sym view) c.requires.here in
    let going = subst (λ (t : Run). side_ended c.args.side t ≡ false) (sym view) c.requires.going in
    let own : c.args.tickets.now.table ≡ s.tickets = c.requires.own ∙ sym (ap (λ (t : Run). t.tickets) view) in
    let few = few_readings c.args.side s _ _ kept going in
    subst (λ (id : TableId). IsSomeAnd s.time (λ t. (t.table ≡ id) × (0 < t.left))) (sym own)
    (ticket_left s s.time s.target _ here kept.tickets_left few)

pub push-requires : goal.push-requires
push-requires c =
    let i = c.deref_mut-inner.result.now in
    let same = c.deref_mut-inner.ensures.value in
    let kept = kept_behind i c.self.inside.inner.value same c.self.invariant in
    let view : run_of i ≡ c.args.self.now = ap run_of same ∙ c.self.view_is in
    let going = subst (λ (t : Run). side_ended c.args.side t ≡ false) (sym view) c.requires.going in
    let few = few_readings c.args.side (run_of i) _ _ kept going in
    omega (arith, few, kept.room_left)

pub invariant_of-self : goal.invariant_of-self
invariant_of-self c =
    let i = c.deref_mut-inner.result.now in
    let s = run_of i in
    let same = c.deref_mut-inner.ensures.value in
    let kept = kept_behind i c.self.inside.inner.value same c.self.invariant in
    let view : s ≡ c.args.self.now = ap run_of same ∙ c.self.view_is in
    let r : WarpReading = record { side = c.args.side; start = not c.progress-start.result.started; ticket = c.draw_one-ticket.result; tsc = c.cycles_of-tsc.result } in
    let value : c.cycles_of-tsc.result ≡ counter_at c.args.machine.now (cpu_of c.args.side i.cpu) (side_adjust c.args.side i.adjust) c.draw_one-ticket.result = search rules in
    let reads = reading_is c.args.side s c.args.self.now i.readings.room i.counts c.progress-start.result c.draw_one-ticket.result c.cycles_of-tsc.result
    c.args.machine.now view kept c.requires.here c.requires.going c.progress-start.ensures.progress c.draw_one-ticket.ensures.drew c.requires.machine value in
    let counts = c.add.ensures.counts (limits_at s) s.readings c.draw_one-ticket.result kept.counted in
    let more = kept_read s i.readings.room c.push.new.self.room i.counts c.add.new.self r kept reads c.push.ensures.room counts in
    let listed = subst
    (λ (rs : List WarpReading). IsKept (record (change s (Read r)) { readings = rs }) c.push.new.self.room c.add.new.self)
    (sym c.push.ensures.items) more in
    subst
    (λ (t : Option Time). IsKept (record (change s (Read r)) { readings = c.push.new.self.items; time = t }) c.push.new.self.room c.add.new.self)
    (sym c.draw_one-ticket.ensures.seat) listed

pub returns-clause-reading : goal.returns-clause-reading
returns-clause-reading c =
    let i = c.deref_mut-inner.result.now in
    let s = run_of i in
    let same = c.deref_mut-inner.ensures.value in
    let kept = kept_behind i c.self.inside.inner.value same c.self.invariant in
    let view : s ≡ c.args.self.now = ap run_of same ∙ c.self.view_is in
    let value : c.cycles_of-tsc.result ≡ counter_at c.args.machine.now (cpu_of c.args.side i.cpu) (side_adjust c.args.side i.adjust) c.draw_one-ticket.result = search rules in
    let r : WarpReading = record { side = c.args.side; start = not c.progress-start.result.started; ticket = c.draw_one-ticket.result; tsc = c.cycles_of-tsc.result } in
    subst (λ (t : Run). IsReading t r) view
    (reading_is c.args.side s c.args.self.now i.readings.room i.counts c.progress-start.result c.draw_one-ticket.result c.cycles_of-tsc.result
    c.args.machine.now view kept c.requires.here c.requires.going c.progress-start.ensures.progress c.draw_one-ticket.ensures.drew c.requires.machine value)
