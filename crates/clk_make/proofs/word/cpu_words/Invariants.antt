use Rattle.std.proofs.Common.{◌≡◌, ◌+◌, map}
use Rattle.std.specs.List.{range_with_len}
use Rattle.clk_make.specs.Made.{cpu_word}
use Rattle.clk_make.proofs.word.cpu_words.Given as goal

-- the words so far
abbrev pub invariant-loop-j : goal.invariant-loop-j
invariant-loop-j l = record {
  items : l.words.items ≡ map (cpu_word l.n l.cpu) (range_with_len 0 l.j);
  room : l.words.room + l.j ≡ 64;
}
