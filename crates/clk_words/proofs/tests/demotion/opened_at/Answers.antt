use Rattle.std.proofs.Common.{rules, FitsSigned, w64}
use Rattle.clk_num.proofs.Heights.{sum_is}
use Rattle.clk_words.proofs.tests.demotion.opened_at.Goals as goal

pub returns : goal.returns
returns c =
    let gtod : FitsSigned w64 c.args.gtod = search rules in
    let offset : FitsSigned w64 c.args.start.now.offset = search rules in
    record {
      gtod = c.args.gtod;
      offset = c.args.start.now.offset;
      value_is = sum_is c.args.gtod c.args.start.now.offset gtod offset;
      gtod_range = c.requires.gtod;
      offset_range = c.requires.offset;
    }
