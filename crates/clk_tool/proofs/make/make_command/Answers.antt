use Rattle.std.proofs.Common.{subst}
use Rattle.clk_base.specs.Causes.{Grew}
use Rattle.clk_tool.specs.declared.make.Sizes.{Sizes}
use Rattle.clk_tool.specs.Make.{sizes_text, make_text}
use Rattle.clk_tool.proofs.make.make_command.Goals as goal

pub returns-in-Ok-write_sizes-clause-fixed : goal.returns-in-Ok-write_sizes-clause-fixed
unfolding make_text
returns-in-Ok-write_sizes-clause-fixed g c = λ done.
    subst (λ (s : Sizes). Grew (g.K.Sink.written c.args.sink.now) (g.K.Sink.written c.write_sizes.new.sink) (sizes_text c.args.n s))
    c.in-Ok.ensures.fixed c.in-Ok-write_sizes.ensures.ok
