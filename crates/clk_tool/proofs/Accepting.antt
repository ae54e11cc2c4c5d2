-- A source that holds a machine is not refused, and one whose bytes are refused is refused so.
use Rattle.std.proofs.Common.{◌≡◌, ◌⊎◌, ℕ, ◌+◌, ◌<◌, ◌≤◌, nat_le, true, false, List, length, Option, Some, None, refl, sym, ◌∙◌, ap, inl, inr, arith, length-append, append-nil}
use Rattle.std.proofs.lemmas.Bool.Decides.{nat_tests}
use Rattle.std.specs.Io.KnownBytes.{Consumes, IsAtEnd}
use Rattle.clk_machine.specs.Plan.{Plan}
use Rattle.clk_file.specs.Acceptance.{accepted}
use Rattle.clk_tool.specs.Whole.{Came}
use Rattle.clk_tool.specs.Answers.{CameMachine, CameRefused, IsCause, HoldsMachine, refusal_of, refusal_in, HoldsRefused, IsOfFile, IsOfRun}
use Rattle.clk_tool.specs.declared.status.Status.{Status}
use Rattle.clk_tool.specs.declared.status.Status.TheVariants.{Done, Usage, ReadFault, Refused, WriteFault, Memory}
use Rattle.clk_tool.specs.declared.status.Refusal.{Refusal}
use Rattle.clk_tool.specs.declared.status.Refusal.TheVariants.{TooLong, NotToml, Key, Value, Word, Cpu, Tickets}

-- all bytes that a source told came
all_came : (held xs : List ℕ) (after : Option (List ℕ)) → Consumes (Some held) after xs → IsAtEnd after → held ≡ xs
all_came held xs (Some left) came end = rw (end, append-nil) at came
all_came held xs None came end = absurd came

no_more : (limit : ℕ) (held xs : List ℕ) (after : Option (List ℕ)) → length held ≤ limit → Consumes (Some held) after xs → ¬ (length xs ≡ limit + 1)
no_more limit held xs (Some left) short came = λ long.
    let whole : length held ≡ length xs + length left = rw came (length-append xs left) in
    omega (arith, whole, long, short)
no_more limit held xs None short came = λ long. absurd came

came_refused : (limit : ℕ) (before after : Option (List ℕ)) (r : Refusal) → HoldsMachine limit before → ¬ CameRefused limit before after r
came_refused limit before after r h = λ c.
    let came = rw h.told at c.came.consumed in
    let same = all_came h.bytes c.bytes after came c.came.end in
    let refused = rw (← same, h.machine) at c.refused in
    absurd (cc refused)

pub holds_no_cause : (limit : ℕ) (before after : Option (List ℕ)) (r : Refusal) → HoldsMachine limit before → ¬ IsCause limit before after r
holds_no_cause limit before after TooLong h = λ c. no_more limit h.bytes c.0 after h.short (rw h.told at c.1) c.2
holds_no_cause limit before after NotToml h = came_refused limit before after NotToml h
holds_no_cause limit before after (Key place) h = came_refused limit before after (Key place) h
holds_no_cause limit before after (Value place) h = came_refused limit before after (Value place) h
holds_no_cause limit before after (Word place) h = came_refused limit before after (Word place) h
holds_no_cause limit before after (Cpu place) h = came_refused limit before after (Cpu place) h
holds_no_cause limit before after (Tickets needed) h = came_refused limit before after (Tickets needed) h

pub done_or_memory : (s : Status) → IsOfRun s → ¬ (s ≡ WriteFault) → (s ≡ Done) ⊎ (s ≡ Memory)
done_or_memory Done is no_fault = inl refl
done_or_memory Usage is no_fault = absurd is
done_or_memory ReadFault is no_fault = absurd is
done_or_memory (Refused r) is no_fault = absurd is
done_or_memory WriteFault is no_fault = absurd (no_fault refl)
done_or_memory Memory is no_fault = inr refl

pub memory_alone : (s : Status) → IsOfFile s → ¬ (s ≡ ReadFault) → ((r : Refusal) → ¬ (s ≡ Refused r)) → s ≡ Memory
memory_alone Done is no_fault no_refusal = absurd is
memory_alone Usage is no_fault no_refusal = absurd is
memory_alone ReadFault is no_fault no_refusal = absurd (no_fault refl)
memory_alone (Refused r) is no_fault no_refusal = absurd (no_refusal r refl)
memory_alone WriteFault is no_fault no_refusal = absurd is
memory_alone Memory is no_fault no_refusal = refl

-- ---- refused so

le_test : (m n : ℕ) → m ≤ n → nat_le m n ≡ true
le_test m n h = grind (arith, nat_tests)

gt_test : (m n : ℕ) → n < m → nat_le m n ≡ false
gt_test m n h = grind (arith, nat_tests)

few : (limit : ℕ) (bytes : List ℕ) → length bytes ≤ limit → refusal_in limit bytes ≡ refusal_of (accepted bytes)
few limit bytes short = rw (le_test (length bytes) limit short) refl

many : (limit : ℕ) (bytes : List ℕ) → limit < length bytes → refusal_in limit bytes ≡ Some TooLong
many limit bytes long = rw (gt_test (length bytes) limit long) refl

taken : (held xs : List ℕ) (after : Option (List ℕ)) → Consumes (Some held) after xs → length xs ≤ length held
taken held xs (Some left) came =
    let whole : length held ≡ length xs + length left = rw came (length-append xs left) in
    omega (arith, whole)
taken held xs None came = absurd came

module _ (limit : ℕ) (before after : Option (List ℕ)) (r : Refusal) (h : HoldsRefused limit before r) where
  came_few : (bytes : List ℕ) → Came limit before after bytes → refusal_of (accepted bytes) ≡ Some r
  came_few bytes came =
      let same = all_came h.bytes bytes after (rw h.told at came.consumed) came.end in
      sym (few limit bytes came.short) ∙ (rw same at h.refused)

  pub holds_no_machine : (m : Plan) → ¬ CameMachine limit before after m
  holds_no_machine m = λ c.
      let refused = rw c.machine at (came_few c.bytes c.came) in
      absurd (cc refused)

  came_so : (q : Refusal) → CameRefused limit before after q → q ≡ r
  came_so q c = let same = sym c.refused ∙ came_few c.bytes c.came in cc same

  pub refused_so : (q : Refusal) → IsCause limit before after q → q ≡ r
  refused_so TooLong c =
      let more = taken h.bytes c.0 after (rw h.told at c.1) in
      let same = sym (many limit h.bytes (omega (arith, more, c.2))) ∙ h.refused in
      cc same
  refused_so NotToml c = came_so NotToml c
  refused_so (Key place) c = came_so (Key place) c
  refused_so (Value place) c = came_so (Value place) c
  refused_so (Word place) c = came_so (Word place) c
  refused_so (Cpu place) c = came_so (Cpu place) c
  refused_so (Tickets needed) c = came_so (Tickets needed) c

pub refused_or_memory : (r : Refusal) (s : Status) → IsOfFile s → ¬ (s ≡ ReadFault) → ((q : Refusal) → s ≡ Refused q → q ≡ r) → (s ≡ Refused r) ⊎ (s ≡ Memory)
refused_or_memory r Done is no_fault so = absurd is
refused_or_memory r Usage is no_fault so = absurd is
refused_or_memory r ReadFault is no_fault so = absurd (no_fault refl)
refused_or_memory r (Refused q) is no_fault so = inl (ap Refused (so q refl))
refused_or_memory r WriteFault is no_fault so = absurd is
refused_or_memory r Memory is no_fault so = inr refl
