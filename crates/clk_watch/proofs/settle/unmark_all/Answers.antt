use Rattle.std.proofs.Common.{◌<◌, length, get_or, refl, false, None, arith}
use Rattle.std.proofs.lemmas.List.{get_or_default}
use Rattle.clk_machine.proofs.Summing.{map_more}
use Rattle.clk_record.specs.declared.watched.Watched.{Watched}
use Rattle.clk_record.specs.Fold.{unmarked}
use Rattle.clk_watch.proofs.settle.unmark_all.Goals as goal

abbrev nothing : Watched
nothing = record { kept = None; unstable = false; rating = 0 }

pub loop-watched-preserved : goal.loop-watched-preserved
loop-watched-preserved c =
    map_more unmarked c.args.sources.now c.loop-watched.sources c.loop-watched.watched-index (get_or c.loop-watched.sources c.loop-watched.watched-index nothing) _ c.loop-watched.invariant c.loop-watched-test.true
    (let low : c.loop-watched.watched-index < length c.loop-watched.sources = omega (arith, c.loop-watched.auto.sources, c.loop-watched-test.true) in
    get_or_default c.loop-watched.sources c.loop-watched.watched-index nothing _ low) refl
