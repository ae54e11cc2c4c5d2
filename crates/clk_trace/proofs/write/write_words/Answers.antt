use Rattle.std.proofs.Common.{[], refl, arith}
use Rattle.clk_trace.specs.WriterParts.{word_text}
use Rattle.clk_trace.proofs.Lining.{takes_item}
use Rattle.clk_trace.proofs.write.write_words.Goals as goal

pub loop-word-preserved : goal.loop-word-preserved
loop-word-preserved g c =
    takes_item _ _ _ [] (word_text c.args.trace.now.start_word) c.args.trace.now.histories.items c.loop-word.word _ record { items = []; room = 0 } c.loop-word.invariant c.write_word.ensures (omega arith) refl
