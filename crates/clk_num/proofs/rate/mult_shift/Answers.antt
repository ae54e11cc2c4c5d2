use Rattle.std.proofs.Common.{◌≡◌, ◌-◌, ◌/◌, ◌%◌, ◌^◌, ◌<◌, Some, None, refl, sym, subst, rules, arith}
use Rattle.clk_num.specs.declared.rate.Rate.{Rate}
use Rattle.clk_num.specs.Rates.{quotient, greatest_shift, mult_shift}
use Rattle.clk_num.proofs.Rating.{shift_found, shift_missing, some_mult}
use Rattle.clk_num.proofs.rate.mult_shift.Goals as goal

pub returns-then-mult-bits-eq0 : goal.returns-then-mult-bits-eq0
returns-then-mult-bits-eq0 c =
    let small : quotient c.args.from c.args.to (c.loop-shift.shift - 1) / 2 ^ c.bits_of_mult-bits.result ≡ 0 =
    rw (← c.mult_at-mult.ensures) c.if-mult-bits-eq0.true in
    let found : greatest_shift c.args.from c.args.to c.args.maxsec ≡ Some (c.loop-shift.shift - 1) =
    shift_found c.args.from c.args.to c.args.maxsec c.bits_of_mult-bits.result (c.loop-shift.shift - 1)
    c.bits_of_mult-bits.ensures.bits (omega arith) (omega arith) small (λ k l h. c.loop-shift.invariant k (omega arith) h) in
    let rate : record { mult = c.mult_at-mult.result; shift = c.loop-shift.shift - 1 } ≡ mult_shift c.args.from c.args.to c.args.maxsec =
    rw (found, c.mult_at-mult.ensures) refl in
    let from : c.args.from < 2 ^ 32 = search rules in
    record {
      rate = rate;
      shift = omega arith;
      mult = λ some few product. subst (λ (r : Rate). 0 < r.mult) (sym rate)
          (some_mult c.args.from c.args.to c.args.maxsec c.requires from some few product);
    }

pub returns : goal.returns
returns c =
    let missing : greatest_shift c.args.from c.args.to c.args.maxsec ≡ None =
    shift_missing c.args.from c.args.to c.args.maxsec c.bits_of_mult-bits.result c.bits_of_mult-bits.ensures.bits
    (λ k l h. c.loop-shift.invariant k (omega arith) h) in
    let rate : record { mult = c.mult_at.result % 2 ^ 32; shift = 0 } ≡ mult_shift c.args.from c.args.to c.args.maxsec =
    rw (missing, c.mult_at.ensures) refl in
    let from : c.args.from < 2 ^ 32 = search rules in
    record {
      rate = rate;
      shift = omega arith;
      mult = λ some few product. subst (λ (r : Rate). 0 < r.mult) (sym rate)
          (some_mult c.args.from c.args.to c.args.maxsec c.requires from some few product);
    }
