use Rattle.std.proofs.Common.{◌≡◌, List, [], ◌∷◌, length, pos, refl, arith, rules, FitsSigned, w64, to_z-of_z, subst, ap, ◌∙◌}
use Rattle.std.proofs.lemmas.Int.{ints}
use Rattle.clk_num.proofs.Heights.{difference_is}
use Rattle.clk_machine.specs.Records.{record_zero, AreRecords, IsRightReading}
use Rattle.clk_machine.specs.declared.reading.Published.{Published}
use Rattle.clk_machine.proofs.Readings.{first_readings_are_small}
use Rattle.clk_threads.proofs.booted.stamp.Goals as goal

pub returns-clause-stamped : goal.returns-clause-stamped
returns-clause-stamped c =
    let m = c.args.machine.now in
    let may = c.requires.may in
    let read = c.read-raw.ensures in
    let (from, upto) = c.gtod-gtod.ensures.small in
    let ns : FitsSigned w64 c.read-raw.result.ns = search rules in
    let gtod : FitsSigned w64 c.gtod-gtod.result = search rules in
    let records : c.read-raw.new.seat.epoch.records ≡ record_zero m ∷ [] = read.reads.owner may.owner ∙ may.records in
    let all : AreRecords m 0 (pos 0) c.read-raw.new.seat.epoch.records = record { updates = []; all = records; next = tt } in
    let last = read.reads.last in
    let count = ap length records in
    let first_record : c.read-raw.result.rec ≡ 0 = omega (arith, last, count) in
    let ticket = read.draws.bound in
    let small = first_readings_are_small m c.read-raw.new.seat.epoch.records c.read-raw.result c.requires.limits all first_record (omega (arith, ticket)) read.reads.right in
    simp (difference_is, to_z-of_z) (record {
      right = (c.gtod-gtod.ensures.time, subst (λ (ps : List Published). IsRightReading m 0 (pos 0) ps c.read-raw.result) records read.reads.right);
      gtod_small = (omega (arith, ints, from, upto), omega (arith, ints, from, upto));
      raw_small = small;
      offset = refl;
      middle = c.draw-gtod_ticket.new.seat;
      first = c.draw-gtod_ticket.ensures;
      second = read.draws;
      owner = read.reads.kept.0 ∙ may.owner;
      records = records;
    })
