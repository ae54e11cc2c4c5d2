use Rattle.std.proofs.Common.{◌≡◌, ◌+◌, ◌-◌, ◌%◌, ◌^◌, bit_and, ap, ◌∙◌, rules}
use Rattle.clk_num.specs.Masked.{turned}
use Rattle.clk_num.proofs.Turning.{wrapped_turn, too_far, near}
use Rattle.clk_num.proofs.masked.masked_delta.Goals as goal

pub returns-then-delta-half : goal.returns-then-delta-half
returns-then-delta-half c =
    let delta : bit_and ((c.args.now + (2 ^ 64 - c.args.last)) % 2 ^ 64) c.mask_of-mask.result ≡ turned c.args.now c.args.last c.args.bits =
    ap (λ m. bit_and ((c.args.now + (2 ^ 64 - c.args.last)) % 2 ^ 64) m) c.mask_of-mask.ensures
    ∙ wrapped_turn c.args.now c.args.last c.args.bits (search rules) c.requires.high in
    too_far c.args.now c.args.last c.args.bits _ _ delta c.mask_of-mask.ensures c.if-delta-half.true

pub returns-else-delta-half : goal.returns-else-delta-half
returns-else-delta-half c =
    let delta : bit_and ((c.args.now + (2 ^ 64 - c.args.last)) % 2 ^ 64) c.mask_of-mask.result ≡ turned c.args.now c.args.last c.args.bits =
    ap (λ m. bit_and ((c.args.now + (2 ^ 64 - c.args.last)) % 2 ^ 64) m) c.mask_of-mask.ensures
    ∙ wrapped_turn c.args.now c.args.last c.args.bits (search rules) c.requires.high in
    near c.args.now c.args.last c.args.bits _ _ delta c.mask_of-mask.ensures c.if-delta-half.false
