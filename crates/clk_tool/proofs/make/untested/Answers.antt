use Rattle.std.proofs.Common.{◌≡◌, ◌+◌, length, refl, ◌∙◌, arith}
use Rattle.std.proofs.lemmas.List.{length_push}
use Rattle.std.proofs.lemmas.List.Elements.{All-push}
use Rattle.clk_record.specs.declared.up.UpOutcome.TheVariants.{Untested}
use Rattle.clk_record.specs.BroughtUp.{IsLeft}
use Rattle.clk_tool.proofs.Making.{each_push, no_readings, untested_up}
use Rattle.clk_tool.proofs.make.untested.Goals as goal

pub loop-cpu-preserved : goal.loop-cpu-preserved
loop-cpu-preserved c =
    let inv = c.loop-cpu.invariant in
    let count = inv.count in
    let before = inv.room in
    let up = c.in_ok-up.up in
    let entries = c.loop-cpu.entries.items in
    let pushed = length_push entries up in
    let items = c.push.ensures.items in
    let room = c.push.ensures.room in
    let number : up.cpu ≡ 1 + length entries = c.in_ok-up.ensures.number ∙ (omega (arith, count)) in
    record {
      count = rw items (omega (arith, pushed, count));
      few = (let low = c.loop-cpu-test.true in let cpus = c.cpus-cpus.ensures.count in omega (arith, low, cpus));
      room = omega (arith, room, before);
      numbers = rw items (each_push (λ n x. x.cpu ≡ n) 1 entries up inv.numbers number);
      left = rw items (All-push (IsLeft Untested) entries up inv.left c.in_ok-up.ensures.left);
    }

pub returns-clause-up : goal.returns-clause-up
returns-clause-up c =
    let inv = c.loop-cpu.invariant in
    let count = inv.count in
    let few = inv.few in
    let high = c.loop-cpu-test.false in
    let cpus = c.cpus-cpus.ensures.count in
    untested_up _ _ c.requires.none (omega (arith, count, few, high, cpus)) inv.numbers inv.left refl

pub returns-clause-readings : goal.returns-clause-readings
returns-clause-readings c = no_readings _ c.loop-cpu.invariant.left
