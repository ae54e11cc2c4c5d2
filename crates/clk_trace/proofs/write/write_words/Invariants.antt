use Rattle.std.proofs.Common.{take}
use Rattle.clk_base.specs.Text.{lines_from}
use Rattle.clk_trace.specs.Taking.{Takes, progress_of}
use Rattle.clk_trace.specs.WriterParts.{word_text}
use Rattle.clk_trace.proofs.write.write_words.Given as goal

abbrev pub invariant-loop-word : goal.invariant-loop-word
invariant-loop-word g l =
    Takes
    (progress_of g.K.Sink.written g.K.Sink.faults l.fn.sink l.fn.out)
    (progress_of g.K.Sink.written g.K.Sink.faults l.sink l.out)
    (lines_from (word_text l.trace.start_word) 0 (take l.word l.trace.histories.items))
