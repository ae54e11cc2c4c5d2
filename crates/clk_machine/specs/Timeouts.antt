-- How long the tests of a bring-up may take.
use Rattle.std.specs.Prelude.{ℕ, Bool, not, if◌then◌else◌, take}
use Rattle.std.specs.Ordering.{int_eq}
use Rattle.std.specs.List.{list_any}
use Rattle.clk_machine.specs.declared.parts.BringUpPart.{BringUpPart}
use Rattle.clk_machine.specs.Plan.{Plan, count_of}
use Rattle.clk_machine.specs.Time.{cpu_at}

-- no CPU of a lower number has the CPU's socket
abbrev pub is_first_of_socket : Plan → ℕ → Bool
is_first_of_socket m cpu = not (list_any (λ c. int_eq c.socket (cpu_at m cpu).socket) (take cpu m.cpu))

-- the timeout of a CPU's tests in us: the first of a socket has a time of its own
abbrev pub timeout_of : Plan → BringUpPart → ℕ → ℕ
timeout_of m b cpu = count_of (if is_first_of_socket m cpu then b.first_us else b.timeout_us)
