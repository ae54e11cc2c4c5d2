use Rattle.std.proofs.Common.{◌≡◌, pos, ◌+ℤ◌, sym, ◌∙◌, ap, FitsSigned, w64, to_z-of_z, arith}
use Rattle.std.proofs.lemmas.Int.{ints}
use Rattle.clk_machine.proofs.machine.Machine.counter.Goals as goal

pub returns : goal.returns
returns c =
    let range = c.cpu-part.ensures.range in
    let near = range.offset in
    let low = near.0 in
    let high = near.1 in
    let down = c.requires.adjust.0 in
    let up = c.requires.adjust.1 in
    let offset : FitsSigned w64 c.cpu-part.result.now.offset = omega (arith, ints) in
    let adjust : FitsSigned w64 c.args.adjust = omega (arith, ints) in
    let start : FitsSigned w64 (c.cpu-part.result.now.offset +ℤ c.args.adjust) = omega (arith, ints) in
    let khz : pos c.count.result ≡ c.cpu-part.result.now.khz = ap pos c.count.ensures ∙ sym range.khz.0 in
    let shown = simp to_z-of_z at c.shown_at.ensures in
    rw (← c.cpu-part.ensures.plan, ← c.bits.ensures.bits, ← c.time-time.ensures.time, ← khz, ← c.items.ensures) shown
