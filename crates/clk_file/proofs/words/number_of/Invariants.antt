use Rattle.std.proofs.Common.{◌≡◌, ◌<◌, ◌^◌, take}
use Rattle.std.specs.List.{fold}
use Rattle.clk_file.specs.Words.{with_digit}
use Rattle.clk_file.proofs.words.number_of.Given as goal

abbrev pub invariant-loop-digit : goal.invariant-loop-digit
invariant-loop-digit l = record {
  value : l.number ≡ fold with_digit 0 (take l.digit-index l.text);
  small : l.number < 10 ^ l.digit-index;
}
