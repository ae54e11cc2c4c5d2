use Rattle.std.proofs.Common.{◌*◌, ◌^◌, [], rules, refl, sym, ◌∙◌, subst}
use mir.Syntax.{w64}
use mir.Val.{to_z, of_z}
use Rattle.crossbeam_utils.specs.Seq.{cell_view}
use Rattle.clk_num.specs.Range.{IsFrom0To}
use Rattle.clk_num.specs.Wrapping.{above}
use Rattle.clk_machine.specs.declared.reading.RawReading.{RawReading}
use Rattle.clk_latch.specs.Epoch.{Place}
use Rattle.clk_latch.specs.Calls.{Reads}
use Rattle.clk_latch.specs.LatchSeats.{epoch_of}
use Rattle.clk_latch.proofs.Converting.{sum_stays}
use Rattle.clk_latch.proofs.Reading.{reads}
use Rattle.clk_latch.proofs.CellReading.{still_seated}
use Rattle.clk_latch.proofs.cell.CellLatchEpochs.read.Goals as goal

pub invariant_of-seat : goal.invariant_of-seat
invariant_of-seat g c = still_seated _ _ _ _ c.current-epoch.ensures.went c.seat.invariant

pub returns-clause-reads : goal.returns-clause-reads
returns-clause-reads g c =
    let same = sum_stays _ _ c.ns_since.ensures.value in
    let told = c.current-epoch.ensures in
    let of = c.args.counter in
    let reading : RawReading = record { ticket = c.draw-ticket.result; cyc = c.cycles_at-cyc.result; rec = c.current-epoch.result.rec; ns = to_z w64 (of_z w64 c.ns_since.result) } in
    let right = reads of.machine.now of.cpu of.adjust (cell_view c.seat.inside.pass, []) (cell_view c.current-epoch.new.pass, []) c.current-epoch.result reading told.went told.begun told.current refl (search rules) (same ∙ c.ns_since.ensures.value)
    (subst (λ n. IsFrom0To (41 * 2 ^ 52) (above n c.current-epoch.result.ns)) (sym same) c.ns_since.ensures.bound) in
    subst (λ (s : Place). Reads of.machine.now of.cpu of.adjust s.epoch (epoch_of (cell_view c.current-epoch.new.pass)) reading) c.seat.view_is right
