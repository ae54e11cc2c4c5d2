-- The sums that a machine keeps beside its delays and jumps. No public contract cites these.
use Rattle.std.specs.Prelude.{◌≡◌, ℕ, ◌+◌, ◌<◌, ◌≤◌, Bool, true, false, ℤ, pos, ◌+ℤ◌, List, [], ◌∷◌, map, length, slice_index_or}
use Rattle.clk_num.specs.Listed.{Listed}
use Rattle.clk_machine.specs.declared.parts.Parts.{Parts}
use Rattle.clk_machine.specs.declared.parts.CpuPart.{CpuPart}
use Rattle.clk_machine.specs.declared.parts.SourcePart.{SourcePart}
use Rattle.clk_machine.specs.declared.parts.Delay.{Delay}
use Rattle.clk_machine.specs.declared.parts.Jump.{Jump}
use Rattle.clk_machine.specs.Plan.{count_of}

-- each delay with the ns of those up to it, after so many
abbrev pub delays_summed : ℕ → List Delay → List Delay
delays_summed before [] = []
delays_summed before (d ∷ delays) = record d { sum = before + count_of d.ns } ∷ delays_summed (before + count_of d.ns) delays

-- each jump with the cycles of those up to it, after so many
abbrev pub jumps_summed : ℤ → List Jump → List Jump
jumps_summed before [] = []
jumps_summed before (j ∷ jumps) = record j { sum = before +ℤ j.cycles } ∷ jumps_summed (before +ℤ j.cycles) jumps

-- the lists of the parts, with all sums in their places
abbrev pub HasDelaySums : List Delay → Type 0
HasDelaySums delays = delays ≡ delays_summed 0 delays

abbrev pub HasJumpSums : List Jump → Type 0
HasJumpSums jumps = jumps ≡ jumps_summed (pos 0) jumps

abbrev pub jump_list_summed : Listed Jump → Listed Jump
jump_list_summed l = record l { items = jumps_summed (pos 0) l.items }

abbrev pub cpu_summed : CpuPart → CpuPart
cpu_summed c = record c { jumps = jump_list_summed c.jumps }

abbrev pub source_summed : SourcePart → SourcePart
source_summed s = record s { jumps = jump_list_summed s.jumps }

-- the same numbers, with all sums in their places
abbrev pub summed : Parts → Parts
summed p = record p {
  cpu = record p.cpu { items = map cpu_summed p.cpu.items };
  delay = record p.delay { items = delays_summed 0 p.delay.items };
  source = record p.source { items = map source_summed p.source.items };
}

-- the first n items pass, and no others do
pub record PassesUpTo {A : Type 0} (passes : A → Bool) (xs : List A) (n : ℕ) : Type 0 where
  pub bound : n ≤ length xs
  pub below : (k : ℕ) (d : A) → k < n → passes (slice_index_or xs k d) ≡ true
  pub above : (k : ℕ) (d : A) → n ≤ k → k < length xs → passes (slice_index_or xs k d) ≡ false
