-- Kinds of seats.
use Rattle.std.specs.Prelude.{ℕ, Bool, true, false, nat_eq}
use Rattle.clk_words.specs.declared.kind.SeatKind.{SeatKind}
use Rattle.clk_words.specs.declared.kind.SeatKind.TheVariants.{Owner, Reader, Watch}

-- the CPU that a seat is on; the watchdog counts as on CPU 0
abbrev pub cpu_of : SeatKind → ℕ
cpu_of (Owner cpu) = cpu
cpu_of (Reader cpu) = cpu
cpu_of Watch = 0

abbrev pub is_watch : SeatKind → Bool
is_watch (Owner cpu) = false
is_watch (Reader cpu) = false
is_watch Watch = true

abbrev pub same_kind : SeatKind → SeatKind → Bool
same_kind (Owner cpu) (Owner other) = nat_eq cpu other
same_kind (Owner cpu) (Reader other) = false
same_kind (Owner cpu) Watch = false
same_kind (Reader cpu) (Owner other) = false
same_kind (Reader cpu) (Reader other) = nat_eq cpu other
same_kind (Reader cpu) Watch = false
same_kind Watch (Owner other) = false
same_kind Watch (Reader other) = false
same_kind Watch Watch = true
