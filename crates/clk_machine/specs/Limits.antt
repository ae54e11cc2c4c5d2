-- The limits that every machine meets.
use Rattle.std.specs.Prelude.{◌≡◌, ℕ, ◌-◌, ◌^◌, ◌<◌, ◌≤◌, ◌⊎◌, Bool, true, false, ℤ, pos, negsuc, nat_abs, ◌≤ℤ◌, ◌<ℤ◌, List, [], ◌∷◌, length, Option, Some, None, if◌then◌else◌}
use Rattle.std.specs.Ordering.{int_eq}
use Rattle.std.specs.List.{All, sum_by, count_by}
use Rattle.clk_num.specs.Range.{IsNear}
use Rattle.clk_machine.specs.declared.script.Word.{Word}
use Rattle.clk_machine.specs.declared.script.Word.TheVariants.{Local, Remote, Tick, Idle, Update, Pause}
use Rattle.clk_machine.specs.declared.parts.ReferencePart.{ReferencePart}
use Rattle.clk_machine.specs.declared.parts.BringUpPart.{BringUpPart}
use Rattle.clk_machine.specs.declared.parts.WatchPart.{WatchPart}
use Rattle.clk_machine.specs.Plan.{Plan, ScriptPlan, JumpPlan, DelayPlan, CpuPlan, ReaderPlan, SourcePlan, count_of, all_words, cpu_count, threads_of}
use Rattle.clk_machine.specs.Tickets.{tickets_needed}

-- a count from low to high
abbrev pub IsWithin : ℕ → ℕ → ℤ → Type 0
IsWithin low high z = (z ≡ pos (count_of z)) × (low ≤ count_of z) × (count_of z ≤ high)

-- a file of version 2 may have more CPUs and more tickets
abbrev pub is_second : ℤ → Bool
is_second version = int_eq version (pos 2)

abbrev pub most_cpus : ℤ → ℕ
most_cpus version = if is_second version then 64 else 16

-- the tickets that a run may draw: by the version, and at most
abbrev pub ticket_limit : ℤ → ℕ
ticket_limit version = if is_second version then 2 ^ 26 else 2 ^ 24

abbrev pub most_tickets : ℕ
most_tickets = 2 ^ 26

-- the tickets of a pause
abbrev pub longest_pause : ℕ
longest_pause = 2 ^ 24

-- a counter has 32, 56 or 64 bits, and runs at 1 MHz to 4 GHz
abbrev pub IsWidth : ℤ → Type 0
IsWidth bits = (bits ≡ pos 32) ⊎ ((bits ≡ pos 56) ⊎ (bits ≡ pos 64))

abbrev pub IsRateInKhz : ℤ → Type 0
IsRateInKhz khz = IsWithin 1000 4000000 khz

-- a remote reading names a CPU, and a pause has its limit
abbrev pub IsNumberOfCpu : ℕ → ℤ → Type 0
IsNumberOfCpu cpus z = (z ≡ pos (count_of z)) × (count_of z < cpus)

abbrev pub IsInRange : ℕ → Word → Type 0
IsInRange cpus Local = Unit {0}
IsInRange cpus (Remote d) = IsNumberOfCpu cpus d
IsInRange cpus Tick = Unit {0}
IsInRange cpus Idle = Unit {0}
IsInRange cpus Update = Unit {0}
IsInRange cpus (Pause n) = IsWithin 1 longest_pause n

-- a reader makes readings and pauses alone
abbrev pub IsOfReader : Word → Type 0
IsOfReader Local = Unit {0}
IsOfReader (Remote d) = Unit {0}
IsOfReader Tick = ⊥
IsOfReader Idle = ⊥
IsOfReader Update = ⊥
IsOfReader (Pause n) = Unit {0}

abbrev pub is_update : Word → Bool
is_update Local = false
is_update (Remote d) = false
is_update Tick = false
is_update Idle = false
is_update Update = true
is_update (Pause n) = false

pub record IsScript (cpus : ℕ) (s : ScriptPlan) : Type 0 where
  pub repeat : IsWithin 0 65536 s.repeat
  pub range : All (IsInRange cpus) s.words
  pub few : length (all_words s) ≤ 65536
  pub updates : count_by is_update (all_words s) ≤ 1024

-- the times of jumps do not fall, and their sizes are few cycles in all
abbrev pub jump_sizes : List JumpPlan → ℕ
jump_sizes jumps = sum_by (λ j. nat_abs j.cycles) jumps

abbrev pub TimesRise : ℤ → List JumpPlan → Type 0
TimesRise from [] = Unit {0}
TimesRise from (j ∷ jumps) = (from ≤ℤ j.at) × TimesRise j.at jumps

pub record AreJumps (jumps : List JumpPlan) : Type 0 where
  pub few : length jumps ≤ 64
  pub times : All (λ j. IsWithin 0 (2 ^ 41) j.at) jumps
  pub rise : TimesRise (pos 0) jumps
  pub sizes : jump_sizes jumps ≤ 2 ^ 44

-- the tickets of delays rise, and their ns are few in all
abbrev pub TicketsRise : ℤ → List DelayPlan → Type 0
TicketsRise before [] = Unit {0}
TicketsRise before (d ∷ delays) = (before <ℤ d.ticket) × TicketsRise d.ticket delays

pub record AreDelays (limit : ℕ) (delays : List DelayPlan) : Type 0 where
  pub few : length delays ≤ 1024
  pub tickets : All (λ d. IsWithin 0 (limit - 1) d.ticket) delays
  pub rise : TicketsRise (negsuc 0) delays
  pub ns : All (λ d. IsWithin 0 (2 ^ 39) d.ns) delays
  pub sum : sum_by (λ d. count_of d.ns) delays ≤ 2 ^ 39

pub record IsReference (r : ReferencePart) : Type 0 where
  pub khz : IsRateInKhz r.khz
  pub bits : IsWidth r.bits
  pub rating : IsWithin 1 1000 r.rating
  pub margin : IsWithin 0 (2 ^ 30) r.margin

pub record IsCpu (cpus : ℕ) (c : CpuPlan) : Type 0 where
  pub khz : IsRateInKhz c.khz
  pub offset : IsNear 44 c.offset
  pub socket : IsWithin 0 63 c.socket
  pub jumps : AreJumps c.jumps
  pub script : IsScript cpus c.script

pub record IsReader (cpus : ℕ) (r : ReaderPlan) : Type 0 where
  pub cpu : IsNumberOfCpu cpus r.cpu
  pub script : IsScript cpus r.script
  pub words : All IsOfReader r.script.words

pub record IsBringUp (b : BringUpPart) : Type 0 where
  pub timeout : IsWithin 0 1000000 b.timeout_us
  pub first : IsWithin 0 1000000 b.first_us
  pub turns : IsWithin 0 4096 b.turns

pub record IsWatch (w : WatchPart) : Type 0 where
  pub checks : IsWithin 0 4096 w.checks
  pub pause : IsWithin 1 65536 w.pause
  pub skew : IsWithin 0 (2 ^ 30) w.skew
  pub retries : IsWithin 0 10 w.retries

pub record IsSource (s : SourcePlan) : Type 0 where
  pub rating : IsWithin 1 1000 s.rating
  pub margin : IsWithin 0 (2 ^ 30) s.margin
  pub khz : IsRateInKhz s.khz
  pub nominal : IsRateInKhz s.nominal_khz
  pub bits : IsWidth s.bits
  pub jumps : AreJumps s.jumps

-- a TSC source is converted as the CPUs' counters are
abbrev pub IsOwn : ℤ → ℤ → SourcePlan → Type 0
IsOwn nominal_khz bits s =
    s.tsc ≡ true → (s.khz ≡ nominal_khz) × (s.nominal_khz ≡ nominal_khz) × (s.bits ≡ bits) × (s.jumps ≡ [])

abbrev pub IfThere : {A : Type 0} → (A → Type 0) → Option A → Type 0
IfThere P None = Unit {0}
IfThere P (Some part) = P part

-- all numbers of the machine are in range
pub record AreInRange (m : Plan) : Type 0 where
  pub version : IsWithin 1 2 m.version
  pub cpus : IsWithin 1 (most_cpus m.version) m.cpus
  pub cpu_each : m.cpus ≡ pos (cpu_count m)
  pub step : IsWithin 1 (2 ^ 14) m.step
  pub tick : IsWithin 1 (2 ^ 30) m.tick
  pub bits : IsWidth m.bits
  pub nominal : IsRateInKhz m.nominal_khz
  pub reference : IsReference m.reference
  pub cpu : All (IsCpu (cpu_count m)) m.cpu
  pub readers : length m.reader ≤ 16
  pub reader : All (IsReader (cpu_count m)) m.reader
  pub words_few : sum_by (λ t. length t.1) (threads_of m) ≤ 524288
  pub delay : AreDelays (ticket_limit m.version) m.delay
  pub bringup : IfThere IsBringUp m.bringup
  pub watchdog : IfThere IsWatch m.watchdog
  pub sources : length m.source ≤ 8
  pub source : All IsSource m.source
  pub own : All (IsOwn m.nominal_khz m.bits) m.source
  pub own_once : count_by (λ s. s.tsc) m.source ≤ 1

pub record IsWithinLimits (m : Plan) : Type 0 where
  pub ranges : AreInRange m
  pub tickets : tickets_needed m ≤ ticket_limit m.version
