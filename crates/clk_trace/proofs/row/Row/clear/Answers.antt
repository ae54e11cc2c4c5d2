use Rattle.std.proofs.Common.{rules}
use Rattle.std.proofs.lemmas.List.{drop_all}
use Rattle.clk_trace.proofs.row.Row.clear.Goals as goal

pub returns : goal.returns
returns c = drop_all 256 c.self.inside.bytes (search rules)
