use Rattle.std.proofs.Common.{◌≡◌, length, ◌∙◌, ap, Some, rules, arith, FitsSigned, w64, to_z-of_z}
use Rattle.clk_machine.specs.Plan.{jump_plan}
use Rattle.clk_file.proofs.Pairs.{jump_plan_of, jump_of-pair, jump_of-no_array, jump_of-other, jump_of-no_time, jump_of-no_cycles}
use Rattle.clk_file.proofs.items.jump_of.Goals as goal

pub returns-in_err-pair : goal.returns-in_err-pair
returns-in_err-pair c = rw c.from_residual.ensures (jump_of-no_array _ c.in_err-pair.ensures)

pub returns-then-len-ne2 : goal.returns-then-len-ne2
returns-then-len-ne2 c = jump_of-other _ _ c.in_ok-pair.ensures (λ two. c.if-len-ne2.true (omega arith))

pub returns-in_err-at : goal.returns-in_err-at
returns-in_err-at c =
    let two : length c.in_ok-pair.pair.now.items ≡ 2 = omega arith in
    rw c.from_residual-in_err-at.ensures (jump_of-no_time _ _ _ c.in_ok-pair.ensures two c.index.ensures c.in_err-at.ensures)

pub returns-in_err-cycles : goal.returns-in_err-cycles
returns-in_err-cycles c =
    let two : length c.in_ok-pair.pair.now.items ≡ 2 = omega arith in
    rw c.from_residual-in_err-cycles.ensures (jump_of-no_cycles _ _ _ c.in_ok-pair.ensures two c.index-2.ensures c.in_err-cycles.ensures)

pub returns : goal.returns
returns c =
    let two : length c.in_ok-pair.pair.now.items ≡ 2 = omega arith in
    let at : FitsSigned w64 c.in_ok-at.at = search rules in
    let cycles : FitsSigned w64 c.in_ok-cycles.cycles = search rules in
    let made : jump_plan c.new.result ≡ jump_plan_of c.in_ok-at.at c.in_ok-cycles.cycles =
    c.new.ensures ∙ rw (to_z-of_z at, to_z-of_z cycles) in
    ap (λ p. Some p) made ∙ jump_of-pair _ _ _ _ _ _ c.in_ok-pair.ensures two c.index.ensures c.index-2.ensures c.in_ok-at.ensures c.in_ok-cycles.ensures
