use Rattle.std.proofs.Common.{◌≡◌, ◌+◌, map}
use Rattle.std.specs.List.{range_with_len}
use Rattle.clk_make.specs.Made.{reader_word}
use Rattle.clk_make.proofs.word.reader_words.Given as goal

-- the words so far
abbrev pub invariant-loop-j : goal.invariant-loop-j
invariant-loop-j l = record {
  items : l.words.items ≡ map (reader_word l.cpus l.cpu) (range_with_len 0 l.j);
  room : l.words.room + l.j ≡ 8;
}
