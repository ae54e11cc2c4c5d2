use Rattle.std.proofs.Common.{◌*◌, ◌^◌, rules, refl, sym, ap, ◌∙◌, subst}
use mir.Syntax.{w64}
use mir.Val.{to_z, of_z}
use Rattle.atomic_table.specs.Table.{Me}
use Rattle.clk_num.specs.Range.{IsFrom0To}
use Rattle.clk_num.specs.Wrapping.{above}
use Rattle.clk_machine.specs.declared.reading.RawReading.{RawReading}
use Rattle.clk_latch.specs.declared.rule.Knows.{Knows}
use Rattle.clk_latch.specs.Epoch.{Place}
use Rattle.clk_latch.specs.Calls.{Reads}
use Rattle.clk_latch.specs.LatchSeats.{epoch_of}
use Rattle.clk_latch.proofs.Converting.{sum_stays}
use Rattle.clk_latch.proofs.Reading.{reads, owner_stays, reader_stays}
use Rattle.clk_latch.proofs.latch.LatchEpochs.read.Goals as goal

pub invariant_of-seat : goal.invariant_of-seat
invariant_of-seat c =
    let went = c.current-epoch.ensures.went in
    record {
      empty = ap (λ (me : Me (Unit {0}) Knows). me.1) went.is ∙ c.seat.invariant.empty;
      reader = reader_stays _ _ _ _ went c.seat.invariant.reader;
      owner = owner_stays _ _ _ _ went c.seat.invariant.owner;
    }

pub returns-clause-reads : goal.returns-clause-reads
returns-clause-reads c =
    let same = sum_stays _ _ c.ns_since.ensures.value in
    let told = c.current-epoch.ensures in
    let of = c.args.counter in
    let reading : RawReading = record { ticket = c.draw-ticket.result; cyc = c.cycles_at-cyc.result; rec = c.current-epoch.result.rec; ns = to_z w64 (of_z w64 c.ns_since.result) } in
    let right = reads of.machine.now of.cpu of.adjust c.seat.inside.seat.me c.current-epoch.new.seat.me c.current-epoch.result reading told.went told.begun told.current refl (search rules) (same ∙ c.ns_since.ensures.value)
    (subst (λ n. IsFrom0To (41 * 2 ^ 52) (above n c.current-epoch.result.ns)) (sym same) c.ns_since.ensures.bound) in
    subst (λ (s : Place). Reads of.machine.now of.cpu of.adjust s.epoch (epoch_of c.current-epoch.new.seat.me.0) reading) c.seat.view_is right
