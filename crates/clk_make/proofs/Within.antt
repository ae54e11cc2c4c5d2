-- A made machine is within the limits, so no range test fails.
use Rattle.std.proofs.Common.{◌≡◌, ℕ, ◌+◌, ◌-◌, ◌*◌, ◌%◌, ◌^◌, ◌<◌, ◌≤◌, ◌==◌, Bool, true, false, cond, inl, inr, pos, [], length, map, Option, Some, None, Result, IfErr, refl, sym, ◌∙◌, ap, subst, arith}
use Rattle.std.specs.Prelude.{Ok, Err}
use Rattle.std.specs.Result.{IsOk}
use Rattle.std.specs.List.{All, range_with_len}
use Rattle.std.proofs.lemmas.Int.{ints}
use Rattle.std.proofs.lemmas.Nat.{mod_below}
use Rattle.std.proofs.lemmas.List.Elements.{All-nil}
use Rattle.std.proofs.lemmas.List.Sums.{sum_by-le}
use Rattle.std.proofs.lemmas.List.FromFn.{length-range_with_len, length-map-range_with_len}
use Rattle.clk_base.specs.First.{first}
use Rattle.clk_machine.specs.declared.script.Word.{Word}
use Rattle.clk_machine.specs.declared.script.Word.TheVariants.{Local}
use Rattle.clk_machine.specs.declared.error.MachineError.{MachineError}
use Rattle.clk_machine.specs.Plan.{Plan, JumpPlan, DelayPlan, cpu_count}
use Rattle.clk_machine.specs.Limits.{IsWithin, IsInRange, IsOfReader, IsScript, AreJumps, AreDelays, IsReference, IsCpu, IsReader, IsSource, IsOwn, AreInRange, IsWithinLimits, is_update}
use Rattle.clk_machine.specs.Short.{IsShortCpu, IsShortReader, IsShortSource, IsWellFormed}
use Rattle.clk_machine.specs.Ranges.{range_tests}
use Rattle.clk_machine.proofs.Counting.{length-repeat, sum_by-repeat}
use Rattle.clk_machine.proofs.Testing.{limits_are_tested}
use Rattle.clk_make.specs.Made.{made_cpus, made_readers, remote, kinds, cpu_word, reader_word, cpu_script, reader_script, made_cpu, made_reader, made_reference, made}
use Rattle.clk_make.specs.Numbers.{cpu_tickets}
use Rattle.clk_make.proofs.Lists.{all_made, picked}
use Rattle.clk_make.proofs.ByKind.{other_below, cpu_words_updates, reader_words_updates}
use Rattle.clk_make.proofs.Threading.{words_are, tickets_are}

-- ---- the words of scripts

other_there : (cpus cpu j : ℕ) → 2 ≤ cpus → IsInRange cpus (remote cpus cpu j)
other_there cpus cpu j some = (refl, other_below cpus cpu j some)

cpu_word_in_range : (n cpu j : ℕ) → IsInRange (made_cpus n) (cpu_word n cpu j)
cpu_word_in_range n cpu j =
    let there = other_there (made_cpus n) cpu j (omega arith) in
    let pause : IsWithin 1 (2 ^ 24) (pos (1 + j % 8)) = (refl, omega arith, omega arith) in
    picked (IsInRange (made_cpus n)) (kinds (made_cpus n) cpu j) ((n + 5 * cpu + 3 * j) % 8) Local
    (tt, (tt, (tt, (there, (there, (tt, (tt, (pause, tt)))))))) tt

either : (P : Word → Type 0) (b : Bool) (v w : Word) → P v → P w → P (cond b v w)
either P true v w p q = p
either P false v w p q = q

reader_word_in_range : (cpus cpu j : ℕ) → 2 ≤ cpus → IsInRange cpus (reader_word cpus cpu j)
reader_word_in_range cpus cpu j some = either (IsInRange cpus) (j % 2 == 0) Local (remote cpus cpu j) tt (other_there cpus cpu j some)

reader_word_of_reader : (cpus cpu j : ℕ) → IsOfReader (reader_word cpus cpu j)
reader_word_of_reader cpus cpu j = either IsOfReader (j % 2 == 0) Local (remote cpus cpu j) tt tt

cpu_script_in_range : (n cpu : ℕ) → IsScript (made_cpus n) (cpu_script n cpu)
cpu_script_in_range n cpu =
    let words = map (cpu_word n cpu) (range_with_len 0 64) in
    let long = length-map-range_with_len (cpu_word n cpu) 0 64 in
    let all = length-repeat 64 words in
    let once = cpu_words_updates n cpu in
    let updates = sum_by-repeat (λ w. cond (is_update w) 1 0) 64 words in
    record {
      repeat = (refl, omega arith, omega arith);
      range = all_made (IsInRange (made_cpus n)) (cpu_word n cpu) 64 (λ j low. cpu_word_in_range n cpu j);
      few = omega (arith, all, long);
      updates = omega (arith, updates, once);
    }

reader_script_in_range : (cpus cpu : ℕ) → 2 ≤ cpus → IsScript cpus (reader_script cpus cpu)
reader_script_in_range cpus cpu some =
    let words = map (reader_word cpus cpu) (range_with_len 0 8) in
    let long = length-map-range_with_len (reader_word cpus cpu) 0 8 in
    let all = length-repeat 256 words in
    let once = reader_words_updates cpus cpu in
    let updates = sum_by-repeat (λ w. cond (is_update w) 1 0) 256 words in
    record {
      repeat = (refl, omega arith, omega arith);
      range = all_made (IsInRange cpus) (reader_word cpus cpu) 8 (λ j low. reader_word_in_range cpus cpu j some);
      few = omega (arith, all, long);
      updates = omega (arith, updates, once);
    }

-- ---- the CPUs and the readers

no_jumps : AreJumps []
no_jumps = record { few = omega arith; times = All-nil (λ (j : JumpPlan). IsWithin 0 (2 ^ 41) j.at); rise = tt; sizes = omega arith }

cpu_in_range : (n cpu : ℕ) → cpu < made_cpus n → IsCpu (made_cpus n) (made_cpu n cpu)
cpu_in_range n cpu low =
    let faster = mod_below (n * (cpu + 1)) 1000 (omega arith) in
    let few : cpu < 17 = omega (arith, low) in
    record {
      khz = (refl, omega arith, omega (arith, faster));
      offset = (omega (arith, ints, few), omega (arith, ints, few));
      socket = (refl, omega arith, omega arith);
      jumps = no_jumps;
      script = cpu_script_in_range n cpu;
    }

reader_in_range : (n r : ℕ) → IsReader (made_cpus n) (made_reader n r)
reader_in_range n r = record {
  cpu = (refl, mod_below r (made_cpus n) (omega arith));
  script = reader_script_in_range (made_cpus n) (r % made_cpus n) (omega arith);
  words = all_made IsOfReader (reader_word (made_cpus n) (r % made_cpus n)) 8 (λ j low. reader_word_of_reader (made_cpus n) (r % made_cpus n) j);
}

-- ---- the machine

pub cpus_are : (n : ℕ) → cpu_count (made n) ≡ made_cpus n
cpus_are n = length-map-range_with_len (made_cpu n) 0 (made_cpus n)

pub readers_are : (n : ℕ) → length (made n).reader ≡ made_readers n
readers_are n = length-map-range_with_len (made_reader n) 0 (made_readers n)

no_delays : AreDelays (2 ^ 24) []
no_delays = record {
  few = omega arith;
  tickets = All-nil (λ (d : DelayPlan). IsWithin 0 (2 ^ 24 - 1) d.ticket);
  rise = tt;
  ns = All-nil (λ (d : DelayPlan). IsWithin 0 (2 ^ 39) d.ns);
  sum = omega arith;
}

reference_in_range : IsReference made_reference
reference_in_range = record {
  khz = (refl, omega arith, omega arith);
  bits = inl refl;
  rating = (refl, omega arith, omega arith);
  margin = (refl, omega arith, omega arith);
}

in_range : (n : ℕ) → AreInRange (made n)
in_range n = record {
  version = (refl, omega arith, omega arith);
  cpus = (refl, omega arith, omega arith);
  cpu_each = ap pos (sym (cpus_are n));
  step = (refl, omega arith, omega arith);
  tick = (refl, omega arith, omega arith);
  bits = inr (inr refl);
  nominal = (refl, omega arith, omega arith);
  reference = reference_in_range;
  cpu = subst (λ k. All (IsCpu k) (made n).cpu) (sym (cpus_are n)) (all_made (IsCpu (made_cpus n)) (made_cpu n) (made_cpus n) (cpu_in_range n));
  readers = omega (arith, readers_are n);
  reader = subst (λ k. All (IsReader k) (made n).reader) (sym (cpus_are n)) (all_made (IsReader (made_cpus n)) (made_reader n) (made_readers n) (λ r low. reader_in_range n r));
  words_few = omega (arith, words_are n);
  delay = no_delays;
  bringup = tt;
  watchdog = tt;
  sources = omega arith;
  source = All-nil IsSource;
  own = All-nil (IsOwn (pos 2400000) (pos 64));
  own_once = omega arith;
}

pub within_limits : (n : ℕ) → IsWithinLimits (made n)
within_limits n =
    let each : All (λ c. cpu_tickets n c ≤ 10240) (range_with_len 0 (made_cpus n)) = λ k d low. omega arith in
    let most = sum_by-le (cpu_tickets n) 10240 (range_with_len 0 (made_cpus n)) each in
    let long = length-range_with_len 0 (made_cpus n) in
    record { ranges = in_range n; tickets = omega (arith, tickets_are n, most, long) }

pub well_formed : (n : ℕ) → IsWellFormed (made n)
well_formed n = record {
  cpu = omega (arith, cpus_are n);
  cpus = all_made IsShortCpu (made_cpu n) (made_cpus n) (λ c low. record { jumps = omega arith; words = omega (arith, length-map-range_with_len (cpu_word n c) 0 64) });
  reader = omega (arith, readers_are n);
  readers = all_made IsShortReader (made_reader n) (made_readers n) (λ r low. record {
    words = omega (arith, length-map-range_with_len (reader_word (made_cpus n) (r % made_cpus n)) 0 8);
    kinds = (reader_in_range n r).words;
  });
  delay = omega arith;
  source = omega arith;
  sources = All-nil (IsShortSource (pos 2400000) (pos 64));
}

-- no range test fails, and so no error is answered
no_test_fails : (n : ℕ) → first (range_tests (made n)) ≡ None
no_test_fails n = (limits_are_tested (made n) (well_formed n)).1 (within_limits n)

none_is_some : {A : Type 0} (x : A) (o : Option A) → o ≡ None → o ≡ Some x → ⊥
none_is_some x o e h = absurd (cc)

pub is_machine : {A : Type 0} (n : ℕ) (m : Plan) (r : Result A MachineError) → m ≡ made n → IfErr r (λ e. first (range_tests m) ≡ Some e) → IsOk r
is_machine n m (Ok x) e h = refl
is_machine n m (Err x) e h = absurd (none_is_some x (first (range_tests m)) (ap (λ p. first (range_tests p)) e ∙ no_test_fails n) h)
