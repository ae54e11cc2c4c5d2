-- The rows of the machine file, by which a refusal names a key.
use Rattle.std.specs.Prelude.{ℕ}
use Rattle.clk_machine.specs.declared.rows.Row.{Row}
use Rattle.clk_machine.specs.declared.rows.Row.TheVariants.{Version, Cpus, Step, Tick, Bits, NominalKhz, Stable, Reference, ReferenceKhz, ReferenceBits, ReferenceRating, ReferenceMargin, Cpu, CpuKhz, CpuOffset, CpuJumps, CpuRepeat, CpuScript, Reader, ReaderCpu, ReaderRepeat, ReaderScript, Delay, DelayTicket, DelayNs, BringUp, BringUpAdjust, BringUpTimeout, BringUpTurns, Watchdog, WatchdogChecks, WatchdogPause, WatchdogSkew, WatchdogRetries, Source, SourceName, SourceTsc, SourceRating, SourceMargin, SourceNominalKhz, SourceKhz, SourceBits, SourceJumps, Base, CpuSocket, BringUpFirst}

-- the number of a row
abbrev pub row_number : Row → ℕ
row_number Version = 1
row_number Cpus = 2
row_number Step = 3
row_number Tick = 4
row_number Bits = 5
row_number NominalKhz = 6
row_number Stable = 7
row_number Reference = 8
row_number ReferenceKhz = 9
row_number ReferenceBits = 10
row_number ReferenceRating = 11
row_number ReferenceMargin = 12
row_number Cpu = 13
row_number CpuKhz = 14
row_number CpuOffset = 15
row_number CpuJumps = 16
row_number CpuRepeat = 17
row_number CpuScript = 18
row_number Reader = 19
row_number ReaderCpu = 20
row_number ReaderRepeat = 21
row_number ReaderScript = 22
row_number Delay = 23
row_number DelayTicket = 24
row_number DelayNs = 25
row_number BringUp = 26
row_number BringUpAdjust = 27
row_number BringUpTimeout = 28
row_number BringUpTurns = 29
row_number Watchdog = 30
row_number WatchdogChecks = 31
row_number WatchdogPause = 32
row_number WatchdogSkew = 33
row_number WatchdogRetries = 34
row_number Source = 35
row_number SourceName = 36
row_number SourceTsc = 37
row_number SourceRating = 38
row_number SourceMargin = 39
row_number SourceNominalKhz = 40
row_number SourceKhz = 41
row_number SourceBits = 42
row_number SourceJumps = 43
row_number Base = 44
row_number CpuSocket = 45
row_number BringUpFirst = 46
