-- The range tests of a machine's numbers, in the order of the rows of the machine file. Entries and items are numbered
-- as in a `Place`.
use Rattle.std.specs.Prelude.{ℕ, ◌+◌, ◌-◌, ◌*◌, ◌^◌, nat_le, nat_lt, ◌==◌, Bool, false, not, ◌&&◌, ◌||◌, ℤ, pos, negsuc, nat_abs, List, [], ◌∷◌, ◌++◌, length, Option, Some, None, if◌then◌else◌}
use Rattle.std.specs.List.{sum_by, count_by}
use Rattle.clk_base.specs.First.{unless, first, each, each_told}
use Rattle.clk_machine.specs.declared.rows.Row.{Row}
use Rattle.clk_machine.specs.declared.rows.Row.TheVariants as rows
use Rattle.clk_machine.specs.declared.script.Word.{Word}
use Rattle.clk_machine.specs.declared.script.Word.TheVariants.{Local, Remote, Tick, Idle, Update, Pause}
use Rattle.clk_machine.specs.declared.parts.ReferencePart.{ReferencePart}
use Rattle.clk_machine.specs.declared.parts.BringUpPart.{BringUpPart}
use Rattle.clk_machine.specs.declared.parts.WatchPart.{WatchPart}
use Rattle.clk_machine.specs.declared.error.MachineError.{MachineError}
use Rattle.clk_machine.specs.declared.error.MachineError.TheVariants.{Value, Cpu, Tickets}
use Rattle.clk_machine.specs.Plan.{Plan, ScriptPlan, JumpPlan, DelayPlan, CpuPlan, ReaderPlan, SourcePlan, count_of, cpu_count}
use Rattle.clk_machine.specs.Rows.{row_number}
use Rattle.clk_machine.specs.Limits.{most_cpus, ticket_limit, longest_pause, is_update}
use Rattle.clk_machine.specs.Tickets.{tickets_needed}

abbrev pub Test : Type 0
Test = Option MachineError

-- the value, or the CPU, at this place is out of range
abbrev pub value_at : Row → ℕ → ℕ → MachineError
value_at row entry item = Value (record { row = row_number row; entry = entry; item = item })

abbrev pub cpu_fault : Row → ℕ → ℕ → MachineError
cpu_fault row entry item = Cpu (record { row = row_number row; entry = entry; item = item })

abbrev pub is_between : ℕ → ℕ → ℤ → Bool
is_between low high (pos n) = nat_le low n && nat_le n high
is_between low high (negsuc n) = false

-- a number from low to high; a width of 32, 56 or 64 bits; a CPU's number; a list of at most so many
abbrev pub ranges : Row → ℕ → ℕ → ℕ → ℤ → Test
ranges row entry low high z = unless (is_between low high z) (value_at row entry 0)

abbrev pub is_width : ℤ → Bool
is_width (pos n) = (n == 32) || ((n == 56) || (n == 64))
is_width (negsuc n) = false

abbrev pub is_cpu : ℕ → ℤ → Bool
is_cpu cpus (pos n) = nat_lt n cpus
is_cpu cpus (negsuc n) = false

abbrev pub at_most : {A : Type 0} → Row → ℕ → ℕ → List A → Test
at_most row entry most xs = unless (nat_le (length xs) most) (value_at row entry 0)

-- a jump is told the time of the one before it, and the size of all before
abbrev pub jump_test : Row → ℕ → ℕ × ℕ → ℕ → JumpPlan → Test
jump_test row entry (before, size) i j =
    unless (is_between before (2 ^ 41) j.at && nat_le (size + nat_abs j.cycles) (2 ^ 44)) (value_at row entry i)

abbrev pub after_jump : ℕ × ℕ → JumpPlan → ℕ × ℕ
after_jump (before, size) j = (count_of j.at, size + nat_abs j.cycles)

abbrev pub jumps_test : Row → ℕ → List JumpPlan → Test
jumps_test row entry jumps =
    first (at_most row entry 64 jumps ∷ each_told (jump_test row entry) after_jump (0, 0) 1 jumps ∷ [])

-- a script stands for its words, repeated
abbrev pub script_length : ScriptPlan → ℕ
script_length s = length s.words * count_of s.repeat

abbrev pub script_updates : ScriptPlan → ℕ
script_updates s = count_by is_update s.words * count_of s.repeat

abbrev pub word_test : ℕ → Row → ℕ → ℕ → Word → Test
word_test cpus row entry i Local = None
word_test cpus row entry i (Remote d) = unless (is_cpu cpus d) (cpu_fault row entry i)
word_test cpus row entry i Tick = None
word_test cpus row entry i Idle = None
word_test cpus row entry i Update = None
word_test cpus row entry i (Pause n) = unless (is_between 1 longest_pause n) (value_at row entry i)

-- a script, by the rows of its repeat and of its words, after scripts of so many words
abbrev pub script_tests : ℕ → Row → Row → ℕ → ℕ → ScriptPlan → List Test
script_tests cpus repeat row entry before s =
    ranges repeat entry 0 65536 s.repeat
    ∷ each (word_test cpus row entry) 1 s.words
    ∷ unless (nat_le (script_length s) 65536) (value_at row entry 0)
    ∷ unless (nat_le (before + script_length s) 524288) (value_at row entry 0)
    ∷ unless (nat_le (script_updates s) 1024) (value_at row entry 0)
    ∷ []

abbrev pub cpu_tests : ℕ → ℕ → ℕ → CpuPlan → List Test
cpu_tests cpus entry before c =
    ranges rows.CpuKhz entry 1000 4000000 c.khz
    ∷ unless (nat_le (nat_abs c.offset) (2 ^ 44)) (value_at rows.CpuOffset entry 0)
    ∷ ranges rows.CpuSocket entry 0 63 c.socket
    ∷ jumps_test rows.CpuJumps entry c.jumps
    ∷ script_tests cpus rows.CpuRepeat rows.CpuScript entry before c.script

abbrev pub reader_tests : ℕ → ℕ → ℕ → ReaderPlan → List Test
reader_tests cpus entry before r =
    unless (is_cpu cpus r.cpu) (cpu_fault rows.ReaderCpu entry 0) ∷ script_tests cpus rows.ReaderRepeat rows.ReaderScript entry before r.script

-- each CPU and each reader is told how many script words came before it
abbrev pub each_cpu : ℕ → List CpuPlan → Test
each_cpu cpus cs =
    each_told (λ words entry c. first (cpu_tests cpus entry words c)) (λ words c. words + script_length c.script) 0 1 cs

abbrev pub each_reader : ℕ → ℕ → List ReaderPlan → Test
each_reader cpus words rs =
    each_told (λ before entry r. first (reader_tests cpus entry before r)) (λ before r. before + script_length r.script) words 1 rs

abbrev pub words_of_cpus : List CpuPlan → ℕ
words_of_cpus cs = sum_by (λ c. script_length c.script) cs

-- a delay is told how many tickets there are, the ticket after that of the one before it, and the ns of all before
abbrev pub delay_tests : ℕ → ℕ × ℕ → ℕ → DelayPlan → List Test
delay_tests limit (from, sum) entry d =
    unless (is_between from (limit - 1) d.ticket) (value_at rows.DelayTicket entry 0)
    ∷ unless (is_between 0 (2 ^ 39) d.ns && nat_le (sum + count_of d.ns) (2 ^ 39)) (value_at rows.DelayNs entry 0)
    ∷ []

abbrev pub after_delay : ℕ × ℕ → DelayPlan → ℕ × ℕ
after_delay (from, sum) d = (count_of d.ticket + 1, sum + count_of d.ns)

abbrev pub each_delay : ℕ → List DelayPlan → Test
each_delay limit delays = each_told (λ told entry d. first (delay_tests limit told entry d)) after_delay (0, 0) 1 delays

abbrev pub bring_up_tests : Option BringUpPart → List Test
bring_up_tests None = []
bring_up_tests (Some b) =
    ranges rows.BringUpTimeout 0 0 1000000 b.timeout_us ∷ ranges rows.BringUpFirst 0 0 1000000 b.first_us ∷ ranges rows.BringUpTurns 0 0 4096 b.turns ∷ []

abbrev pub watch_tests : Option WatchPart → List Test
watch_tests None = []
watch_tests (Some w) =
    ranges rows.WatchdogChecks 0 0 4096 w.checks
    ∷ ranges rows.WatchdogPause 0 1 65536 w.pause
    ∷ ranges rows.WatchdogSkew 0 0 (2 ^ 30) w.skew
    ∷ ranges rows.WatchdogRetries 0 0 10 w.retries
    ∷ []

-- a source that is not the CPUs' own has four keys more
abbrev pub other_tests : ℕ → SourcePlan → List Test
other_tests entry s =
    ranges rows.SourceNominalKhz entry 1000 4000000 s.nominal_khz
    ∷ ranges rows.SourceKhz entry 1000 4000000 s.khz
    ∷ unless (is_width s.bits) (value_at rows.SourceBits entry 0)
    ∷ jumps_test rows.SourceJumps entry s.jumps
    ∷ []

abbrev pub source_tests : ℕ → Bool → SourcePlan → List Test
source_tests entry own_before s =
    unless (not (own_before && s.tsc)) (value_at rows.SourceTsc entry 0)
    ∷ ranges rows.SourceRating entry 1 1000 s.rating
    ∷ ranges rows.SourceMargin entry 0 (2 ^ 30) s.margin
    ∷ (if s.tsc then None else first (other_tests entry s))
    ∷ []

-- each source is told whether the CPUs' own came before it
abbrev pub each_source : List SourcePlan → Test
each_source sources =
    each_told (λ own_before entry s. first (source_tests entry own_before s)) (λ own_before s. own_before || s.tsc) false 1 sources

abbrev pub number_tests : Plan → List Test
number_tests p =
    ranges rows.Version 0 1 2 p.version
    ∷ ranges rows.Cpus 0 1 (most_cpus p.version) p.cpus
    ∷ ranges rows.Step 0 1 (2 ^ 14) p.step
    ∷ ranges rows.Tick 0 1 (2 ^ 30) p.tick
    ∷ unless (is_width p.bits) (value_at rows.Bits 0 0)
    ∷ ranges rows.NominalKhz 0 1000 4000000 p.nominal_khz
    ∷ []

abbrev pub reference_tests : ReferencePart → List Test
reference_tests r =
    ranges rows.ReferenceKhz 0 1000 4000000 r.khz
    ∷ unless (is_width r.bits) (value_at rows.ReferenceBits 0 0)
    ∷ ranges rows.ReferenceRating 0 1 1000 r.rating
    ∷ ranges rows.ReferenceMargin 0 0 (2 ^ 30) r.margin
    ∷ []

abbrev pub thread_tests : Plan → List Test
thread_tests p =
    unless (is_between (cpu_count p) (cpu_count p) p.cpus) (value_at rows.Cpu 0 0)
    ∷ each_cpu (cpu_count p) p.cpu
    ∷ at_most rows.Reader 0 16 p.reader
    ∷ each_reader (cpu_count p) (words_of_cpus p.cpu) p.reader
    ∷ []

abbrev pub other_part_tests : Plan → List Test
other_part_tests p =
    at_most rows.Delay 0 1024 p.delay
    ∷ each_delay (ticket_limit p.version) p.delay
    ∷ first (bring_up_tests p.bringup)
    ∷ first (watch_tests p.watchdog)
    ∷ at_most rows.Source 0 8 p.source
    ∷ each_source p.source
    ∷ []

-- the ranges of all rows, and then the tickets
abbrev pub part_tests : Plan → List Test
part_tests p =
    first (number_tests p) ∷ first (reference_tests p.reference) ∷ first (thread_tests p) ∷ first (other_part_tests p) ∷ []

abbrev pub tickets_test : Plan → Test
tickets_test p = unless (nat_le (tickets_needed p) (ticket_limit p.version)) (Tickets (tickets_needed p))

abbrev pub range_tests : Plan → List Test
range_tests p = part_tests p ++ tickets_test p ∷ []
