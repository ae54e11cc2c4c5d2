use Rattle.std.proofs.Common.{sym}
use Rattle.std.proofs.lemmas.Slice.Zip.{AllZip-long}
use Rattle.clk_tool.proofs.run.write_run.Goals as goal

pub write_trace-requires : goal.write_trace-requires
write_trace-requires g c = record { cpus = sym (AllZip-long _ _ _ c.in-Ok.ensures.lawful.seen); watch = c.in-Ok.ensures.writable }
