use Rattle.std.proofs.Common.{refl, ◌∙◌}
use Rattle.clk_trace.proofs.Keeping.{filled}
use Rattle.clk_trace.proofs.gather.histories.Goals as goal

pub returns : goal.returns
returns c =
    let before = c.args.trace.now in
    record {
      histories =
          filled before.start_word before before.histories.items c.fill_lifts.new.lists.items c.fill.new.lists.items c.sort.new.lists.items c.requires.empty
          c.fill_lifts.ensures c.fill.ensures c.sort.ensures;
      count = c.sort.ensures.count ∙ c.fill.ensures.gained.count ∙ c.fill_lifts.ensures.count;
      rest = refl;
    }
