-- The numbers of the machine that is made from a number, and of its run.
use Rattle.std.specs.Prelude.{ℕ, ◌+◌, ◌*◌, ◌%◌}
use Rattle.std.specs.List.{sum_by, range_with_len}
use Rattle.clk_make.specs.Made.{made_cpus, made_readers}

-- script words after repeats, over all threads: 64 * 64 of a CPU, and 256 * 8 of a reader
abbrev pub made_words : ℕ → ℕ
made_words n = 4096 * made_cpus n + 2048 * made_readers n

-- the tickets of a pause of a CPU: its pauses stand eight words apart, so they are all as long
abbrev pub pause_of : ℕ → ℕ → ℕ
pause_of n cpu = 1 + (5 + 5 * n + cpu) % 8

-- a CPU's 64 words have each kind 8 times: 8 * (1 + 1 + 1 + 1 + 1 + 3 + 4) tickets besides the pauses
abbrev pub cpu_tickets : ℕ → ℕ → ℕ
cpu_tickets n cpu = 64 * (96 + 8 * pause_of n cpu)

-- tickets: 3 at boot, and then those of the CPUs and one for each word of a reader
abbrev pub made_tickets : ℕ → ℕ
made_tickets n = 3 + sum_by (cpu_tickets n) (range_with_len 0 (made_cpus n)) + 2048 * made_readers n

-- steps on clock words: 64 * 8 * (1 + 1 + 2 + 2 + 1 + 2) of a CPU, and 256 * 4 * (1 + 2) of a reader
abbrev pub made_steps : ℕ → ℕ
made_steps n = 4608 * made_cpus n + 3072 * made_readers n
