-- Numbers whose range tests all pass are in range.
use Rattle.std.proofs.Common.{◌≡◌, ℕ, ◌+◌, ◌-◌, ◌^◌, ◌≤◌, nat_le, ◌==◌, Bool, true, false, cond, not, ◌&&◌, ◌||◌, ◌⊎◌, inl, inr, ℤ, pos, negsuc, nat_abs, ◌-ℤ◌, ◌≤ℤ◌, ◌<ℤ◌, List, [], ◌∷◌, length, Option, Some, None, refl, ◌∙◌, ap, arith}
use Rattle.std.specs.List.{All, sum_by, count_by}
use Rattle.std.proofs.lemmas.Int.{ints}
use Rattle.std.proofs.lemmas.Bool.{cases_Bool, and_parts}
use Rattle.std.proofs.lemmas.Bool.Decides.{nat_tests}
use Rattle.std.proofs.lemmas.List.Elements.{All-nil, All-cons, All-head, All-tail}
use Rattle.std.proofs.lemmas.List.Sums.{sum_by-cons}
use Rattle.clk_num.specs.Range.{IsNear}
use Rattle.clk_base.specs.First.{unless, first, each, each_told}
use Rattle.clk_base.proofs.Firsts.{first-passed, each_passes, each_from-passed, each_told-passed, unless-passed}
use Rattle.clk_machine.specs.declared.rows.Row.{Row}
use Rattle.clk_machine.specs.declared.rows.Row.TheVariants as rows
use Rattle.clk_machine.specs.declared.script.Word.{Word}
use Rattle.clk_machine.specs.declared.script.Word.TheVariants.{Local, Remote, Tick, Idle, Update, Pause}
use Rattle.clk_machine.specs.declared.parts.BringUpPart.{BringUpPart}
use Rattle.clk_machine.specs.declared.parts.WatchPart.{WatchPart}
use Rattle.clk_machine.specs.Plan.{Plan, ScriptPlan, JumpPlan, DelayPlan, CpuPlan, ReaderPlan, SourcePlan, count_of, cpu_count}
use Rattle.clk_machine.specs.Limits.{most_cpus, ticket_limit, longest_pause, IsWithin, IsWidth, IsNumberOfCpu, IsInRange, is_update, IsScript, jump_sizes, TimesRise, AreJumps, TicketsRise, AreDelays, IsCpu, IsReader, IsBringUp, IsWatch, IsSource, IsOwn, IfThere, AreInRange}
use Rattle.clk_machine.specs.Short.{IsShortReader, IsShortSource, IsWellFormed}
use Rattle.clk_machine.specs.Ranges.{Test, value_at, cpu_fault, is_between, ranges, is_width, is_cpu, at_most, jump_test, after_jump, jumps_test, script_length, script_updates, word_test, script_tests, cpu_tests, reader_tests, words_of_cpus, delay_tests, after_delay, each_delay, bring_up_tests, watch_tests, other_tests, source_tests, number_tests, reference_tests, thread_tests, other_part_tests, part_tests}
use Rattle.clk_machine.proofs.Passing.{within-between}
use Rattle.clk_machine.proofs.Counting.{length-repeat, sum_by-repeat, threads_length}

-- ---- single numbers

below : (m n : ℕ) → nat_le m n ≡ true → m ≤ n
below m n h = grind (arith, nat_tests)

ranged : (row : Row) (entry low high : ℕ) (z : ℤ) → ranges row entry low high z ≡ None → IsWithin low high z
ranged row entry low high z h = within-between low high z (unless-passed (is_between low high z) (value_at row entry 0) h)

width_is : (z : ℤ) → is_width z ≡ true → IsWidth z
width_is (negsuc n) h = absurd (cc)
width_is (pos n) h =
    elim (cases_Bool (n == 32)) [
      | inl e ↦ inl (ap pos (grind (arith, nat_tests)))
      | inr other ↦ elim (cases_Bool (n == 56)) [
        | inl e ↦ inr (inl (ap pos (grind (arith, nat_tests))))
        | inr more ↦ inr (inr (ap pos (grind (arith, nat_tests))))
      ]
    ]

wide : (row : Row) (entry : ℕ) (z : ℤ) → unless (is_width z) (value_at row entry 0) ≡ None → IsWidth z
wide row entry z h = width_is z (unless-passed (is_width z) (value_at row entry 0) h)

cpu_is : (cpus : ℕ) (z : ℤ) → is_cpu cpus z ≡ true → IsNumberOfCpu cpus z
cpu_is cpus (pos n) h = (refl, grind (arith, nat_tests))
cpu_is cpus (negsuc n) h = absurd (cc)

few_items : {A : Type 0} (row : Row) (entry most : ℕ) (xs : List A) → at_most row entry most xs ≡ None → length xs ≤ most
few_items row entry most xs h = below (length xs) most (unless-passed (nat_le (length xs) most) (value_at row entry 0) h)

near_zero : (z : ℤ) (bits : ℕ) → nat_abs z ≤ 2 ^ bits → IsNear bits z
near_zero z bits h = (omega (arith, ints), omega (arith, ints))

-- ---- jumps

jumps_pass : (row : Row) (entry before size n : ℕ) (js : List JumpPlan) → size ≤ 2 ^ 44 → each_told (jump_test row entry) after_jump (before, size) n js ≡ None
    → All (λ j. IsWithin 0 (2 ^ 41) j.at) js × TimesRise (pos before) js × (size + jump_sizes js ≤ 2 ^ 44)
jumps_pass row entry before size n [] small h = (All-nil (λ (j : JumpPlan). IsWithin 0 (2 ^ 41) j.at), tt, omega arith)
jumps_pass row entry before size n (j ∷ js) small h =
    let passed = each_told-passed (jump_test row entry) after_jump (before, size) n j js h in
    let test = unless-passed (is_between before (2 ^ 41) j.at && nat_le (size + nat_abs j.cycles) (2 ^ 44)) (value_at row entry n) passed.0 in
    let (time, sizes) = and_parts (is_between before (2 ^ 41) j.at) (nat_le (size + nat_abs j.cycles) (2 ^ 44)) test in
    let at = within-between before (2 ^ 41) j.at time in
    let few = below (size + nat_abs j.cycles) (2 ^ 44) sizes in
    let (all, rise, sum) = jumps_pass row entry (count_of j.at) (size + nat_abs j.cycles) (n + 1) js few passed.1 in
    let whole = sum_by-cons (λ (i : JumpPlan). nat_abs i.cycles) j js in
    let is = at.0 in
    let low = at.1 in (
      All-cons (λ (i : JumpPlan). IsWithin 0 (2 ^ 41) i.at) j js (at.0, omega arith, at.2) all,
      ((let up : pos before ≤ℤ pos (count_of j.at) = omega (arith, ints) in rw is up), rw is rise),
      omega (arith, whole, sum),
    )

jumps_in_range : (row : Row) (entry : ℕ) (js : List JumpPlan) → jumps_test row entry js ≡ None → AreJumps js
jumps_in_range row entry js h =
    let parts = first-passed (at_most row entry 64 js) (each_told (jump_test row entry) after_jump (0, 0) 1 js ∷ []) h in
    let (times, rise, sizes) = jumps_pass row entry 0 0 1 js (omega arith) parts.1 in
    record { few = few_items row entry 64 js parts.0; times = times; rise = rise; sizes = omega (arith, sizes) }

-- ---- scripts

words_pass : (cpus : ℕ) (row : Row) (entry n : ℕ) (ws : List Word) → each (word_test cpus row entry) n ws ≡ None → All (IsInRange cpus) ws
words_pass cpus row entry n [] h = All-nil (IsInRange cpus)
words_pass cpus row entry n (w ∷ ws) h =
    let passed = each_from-passed (word_test cpus row entry) n w ws h in
    All-cons (IsInRange cpus) w ws (word_passes w passed.0) (words_pass cpus row entry (n + 1) ws passed.1)
  where
    word_passes : (v : Word) → word_test cpus row entry n v ≡ None → IsInRange cpus v
    word_passes Local e = tt
    word_passes (Remote d) e = cpu_is cpus d (unless-passed (is_cpu cpus d) (cpu_fault row entry n) e)
    word_passes Tick e = tt
    word_passes Idle e = tt
    word_passes Update e = tt
    word_passes (Pause c) e = within-between 1 longest_pause c (unless-passed (is_between 1 longest_pause c) (value_at row entry n) e)

script_passes : (cpus : ℕ) (repeat row : Row) (entry before : ℕ) (s : ScriptPlan) → first (script_tests cpus repeat row entry before s) ≡ None
    → IsScript cpus s × (before + script_length s ≤ 524288)
script_passes cpus repeat row entry before s h =
    let p = each_passes (script_tests cpus repeat row entry before s) h in
    let few = below (script_length s) 65536 (unless-passed (nat_le (script_length s) 65536) (value_at row entry 0) p.1.1.0) in
    let all = below (before + script_length s) 524288 (unless-passed (nat_le (before + script_length s) 524288) (value_at row entry 0) p.1.1.1.0) in
    let updates = below (script_updates s) 1024 (unless-passed (nat_le (script_updates s) 1024) (value_at row entry 0) p.1.1.1.1.0) in (
      record {
        repeat = ranged repeat entry 0 65536 s.repeat p.0;
        range = words_pass cpus row entry 1 s.words p.1.0;
        few = (let e = length-repeat (count_of s.repeat) s.words in omega (arith, e, few));
        updates = (let e = sum_by-repeat (λ w. cond (is_update w) 1 0) (count_of s.repeat) s.words in omega (arith, e, updates));
      },
      all,
    )

cpus_pass : (cpus before n : ℕ) (cs : List CpuPlan) → before ≤ 524288
    → each_told (λ words entry c. first (cpu_tests cpus entry words c)) (λ words c. words + script_length c.script) before n cs ≡ None
    → All (IsCpu cpus) cs × (before + words_of_cpus cs ≤ 524288)
cpus_pass cpus before n [] small h = (All-nil (IsCpu cpus), omega arith)
cpus_pass cpus before n (c ∷ cs) small h =
    let passed = each_told-passed (λ words entry (d : CpuPlan). first (cpu_tests cpus entry words d)) (λ words d. words + script_length d.script) before n c cs h in
    let khz = first-passed (ranges rows.CpuKhz n 1000 4000000 c.khz) (tests_from_offset c) passed.0 in
    let offset = first-passed (unless (nat_le (nat_abs c.offset) (2 ^ 44)) (value_at rows.CpuOffset n 0)) (tests_from_socket c) khz.1 in
    let socket = first-passed (ranges rows.CpuSocket n 0 63 c.socket) (tests_from_jumps c) offset.1 in
    let jumps = first-passed (jumps_test rows.CpuJumps n c.jumps) (script_tests cpus rows.CpuRepeat rows.CpuScript n before c.script) socket.1 in
    let script = script_passes cpus rows.CpuRepeat rows.CpuScript n before c.script jumps.1 in
    let (all, sum) = cpus_pass cpus (before + script_length c.script) (n + 1) cs script.1 passed.1 in
    let whole = sum_by-cons (λ (d : CpuPlan). script_length d.script) c cs in (
      All-cons (IsCpu cpus) c cs (record {
        khz = ranged rows.CpuKhz n 1000 4000000 c.khz khz.0;
        offset = near_zero c.offset 44 (below (nat_abs c.offset) (2 ^ 44) (unless-passed (nat_le (nat_abs c.offset) (2 ^ 44)) (value_at rows.CpuOffset n 0) offset.0));
        socket = ranged rows.CpuSocket n 0 63 c.socket socket.0;
        jumps = jumps_in_range rows.CpuJumps n c.jumps jumps.0;
        script = script.0;
      }) all,
      omega (arith, whole, sum),
    )
  where
    tests_from_jumps : CpuPlan → List Test
    tests_from_jumps d = jumps_test rows.CpuJumps n d.jumps ∷ script_tests cpus rows.CpuRepeat rows.CpuScript n before d.script

    tests_from_socket : CpuPlan → List Test
    tests_from_socket d = ranges rows.CpuSocket n 0 63 d.socket ∷ tests_from_jumps d

    tests_from_offset : CpuPlan → List Test
    tests_from_offset d = unless (nat_le (nat_abs d.offset) (2 ^ 44)) (value_at rows.CpuOffset n 0) ∷ tests_from_socket d

readers_pass : (cpus before n : ℕ) (rs : List ReaderPlan) → before ≤ 524288 → All IsShortReader rs
    → each_told (λ words entry r. first (reader_tests cpus entry words r)) (λ words r. words + script_length r.script) before n rs ≡ None
    → All (IsReader cpus) rs × (before + sum_by (λ r. script_length r.script) rs ≤ 524288)
readers_pass cpus before n [] small formed h = (All-nil (IsReader cpus), omega arith)
readers_pass cpus before n (r ∷ rs) small formed h =
    let passed = each_told-passed (λ words entry (d : ReaderPlan). first (reader_tests cpus entry words d)) (λ words d. words + script_length d.script) before n r rs h in
    let cpu = first-passed (unless (is_cpu cpus r.cpu) (cpu_fault rows.ReaderCpu n 0)) (script_tests cpus rows.ReaderRepeat rows.ReaderScript n before r.script) passed.0 in
    let script = script_passes cpus rows.ReaderRepeat rows.ReaderScript n before r.script cpu.1 in
    let (all, sum) = readers_pass cpus (before + script_length r.script) (n + 1) rs script.1 (All-tail IsShortReader r rs formed) passed.1 in
    let whole = sum_by-cons (λ (d : ReaderPlan). script_length d.script) r rs in (
      All-cons (IsReader cpus) r rs (record {
        cpu = cpu_is cpus r.cpu (unless-passed (is_cpu cpus r.cpu) (cpu_fault rows.ReaderCpu n 0) cpu.0);
        script = script.0;
        words = (All-head IsShortReader r rs formed).kinds;
      }) all,
      omega (arith, whole, sum),
    )

-- ---- delays

delays_pass : (limit from sum n : ℕ) (ds : List DelayPlan) → sum ≤ 2 ^ 39 → each_told (λ told entry d. first (delay_tests limit told entry d)) after_delay (from, sum) n ds ≡ None
    → All (λ d. IsWithin 0 (limit - 1) d.ticket) ds × TicketsRise (pos from -ℤ pos 1) ds × All (λ d. IsWithin 0 (2 ^ 39) d.ns) ds
    × (sum + sum_by (λ d. count_of d.ns) ds ≤ 2 ^ 39)
delays_pass limit from sum n [] small h =
    (All-nil (λ (d : DelayPlan). IsWithin 0 (limit - 1) d.ticket), tt, All-nil (λ (d : DelayPlan). IsWithin 0 (2 ^ 39) d.ns), omega arith)
delays_pass limit from sum n (d ∷ ds) small h =
    let passed = each_told-passed (λ told entry (e : DelayPlan). first (delay_tests limit told entry e)) after_delay (from, sum) n d ds h in
    let p = each_passes (delay_tests limit (from, sum) n d) passed.0 in
    let ticket = within-between from (limit - 1) d.ticket (unless-passed (is_between from (limit - 1) d.ticket) (value_at rows.DelayTicket n 0) p.0) in
    let (time, sizes) = and_parts (is_between 0 (2 ^ 39) d.ns) (nat_le (sum + count_of d.ns) (2 ^ 39)) (unless-passed (is_between 0 (2 ^ 39) d.ns && nat_le (sum + count_of d.ns) (2 ^ 39)) (value_at rows.DelayNs n 0) p.1.0) in
    let few = below (sum + count_of d.ns) (2 ^ 39) sizes in
    let (all, rise, ns, total) = delays_pass limit (count_of d.ticket + 1) (sum + count_of d.ns) (n + 1) ds few passed.1 in
    let whole = sum_by-cons (λ (e : DelayPlan). count_of e.ns) d ds in
    let is = ticket.0 in
    let low = ticket.1 in
    let up : (pos from -ℤ pos 1) <ℤ pos (count_of d.ticket) = omega (arith, ints) in
    let back : pos (count_of d.ticket + 1) -ℤ pos 1 ≡ pos (count_of d.ticket) = omega (arith, ints) in (
      All-cons (λ (e : DelayPlan). IsWithin 0 (limit - 1) e.ticket) d ds (ticket.0, omega arith, ticket.2) all,
      (rw is up, rw is (rw back at rise)),
      All-cons (λ (e : DelayPlan). IsWithin 0 (2 ^ 39) e.ns) d ds (within-between 0 (2 ^ 39) d.ns time) ns,
      omega (arith, whole, total),
    )

delays_in_range : (limit : ℕ) (ds : List DelayPlan) → length ds ≤ 1024 → each_delay limit ds ≡ None → AreDelays limit ds
delays_in_range limit ds few h =
    let (tickets, rise, ns, sum) = delays_pass limit 0 0 1 ds (omega arith) h in
    record { few = few; tickets = tickets; rise = rise; ns = ns; sum = omega (arith, sum) }

-- ---- sources

no_jumps : AreJumps []
no_jumps = record { few = omega arith; times = All-nil (λ (j : JumpPlan). IsWithin 0 (2 ^ 41) j.at); rise = tt; sizes = omega arith }

source_passes : (nominal bits : ℤ) (entry : ℕ) (own_before : Bool) (s : SourcePlan) → IsWithin 1000 4000000 nominal → IsWidth bits → IsOwn nominal bits s
    → first (source_tests entry own_before s) ≡ None → IsSource s × (own_before && s.tsc ≡ false)
source_passes nominal bits entry own_before s rate width own h =
    let p = each_passes (source_tests entry own_before s) h in
    let once = unless-passed (not (own_before && s.tsc)) (value_at rows.SourceTsc entry 0) p.0 in (
      with_rest s (ranged rows.SourceRating entry 1 1000 s.rating p.1.0) (ranged rows.SourceMargin entry 0 (2 ^ 30) s.margin p.1.1.0) (rest_of (cases_Bool s.tsc) p.1.1.1.0),
      is_not (own_before && s.tsc) once,
    )
  where
    is_not : (b : Bool) → not b ≡ true → b ≡ false
    is_not true e = absurd (cc)
    is_not false e = refl

    rest_of : (s.tsc ≡ true) ⊎ (s.tsc ≡ false) → cond s.tsc None (first (other_tests entry s)) ≡ None
        → IsWithin 1000 4000000 s.khz × IsWithin 1000 4000000 s.nominal_khz × IsWidth s.bits × AreJumps s.jumps
    rest_of (inl same) e =
        let (khz, nominal_khz, wide', none') = own same in
        (rw khz rate, rw nominal_khz rate, rw wide' width, rw none' no_jumps)
    rest_of (inr other) e =
        let tests : first (other_tests entry s) ≡ None = rw other at e in
        let q = each_passes (other_tests entry s) tests in
        (ranged rows.SourceKhz entry 1000 4000000 s.khz q.1.0, ranged rows.SourceNominalKhz entry 1000 4000000 s.nominal_khz q.0, wide rows.SourceBits entry s.bits q.1.1.0, jumps_in_range rows.SourceJumps entry s.jumps q.1.1.1.0)

    with_rest : (t : SourcePlan) → IsWithin 1 1000 t.rating → IsWithin 0 (2 ^ 30) t.margin
        → IsWithin 1000 4000000 t.khz × IsWithin 1000 4000000 t.nominal_khz × IsWidth t.bits × AreJumps t.jumps → IsSource t
    with_rest t rating margin rest = record { rating = rating; margin = margin; khz = rest.0; nominal = rest.1; bits = rest.2; jumps = rest.3 }

one_own : (own_before : Bool) (s : SourcePlan) (n : ℕ) → own_before && s.tsc ≡ false → cond (own_before || s.tsc) 1 0 + n ≤ 1 → cond own_before 1 0 + (cond s.tsc 1 0 + n) ≤ 1
one_own own_before s n once h = grind (arith, nat_tests)

sources_pass : (nominal bits : ℤ) (own_before : Bool) (n : ℕ) (ss : List SourcePlan) → IsWithin 1000 4000000 nominal → IsWidth bits → All (IsShortSource nominal bits) ss
    → each_told (λ own entry s. first (source_tests entry own s)) (λ own s. own || s.tsc) own_before n ss ≡ None
    → All IsSource ss × (cond own_before 1 0 + count_by (λ s. s.tsc) ss ≤ 1)
sources_pass nominal bits own_before n [] rate width formed h = (All-nil IsSource, grind (arith, nat_tests))
sources_pass nominal bits own_before n (s ∷ ss) rate width formed h =
    let passed = each_told-passed (λ own entry (t : SourcePlan). first (source_tests entry own t)) (λ own t. own || t.tsc) own_before n s ss h in
    let (here, once) = source_passes nominal bits n own_before s rate width (All-head (IsShortSource nominal bits) s ss formed).own passed.0 in
    let (all, count) = sources_pass nominal bits (own_before || s.tsc) (n + 1) ss rate width (All-tail (IsShortSource nominal bits) s ss formed) passed.1 in (
      All-cons IsSource s ss here all,
      rw (sum_by-cons (λ (t : SourcePlan). cond t.tsc 1 0) s ss) (one_own own_before s (count_by (λ t. t.tsc) ss) once count),
    )

-- ---- the whole

bring_up_passes : (b : Option BringUpPart) → first (bring_up_tests b) ≡ None → IfThere IsBringUp b
bring_up_passes None h = tt
bring_up_passes (Some b) h =
    let p = each_passes (bring_up_tests (Some b)) h in
    record { timeout = ranged rows.BringUpTimeout 0 0 1000000 b.timeout_us p.0; first = ranged rows.BringUpFirst 0 0 1000000 b.first_us p.1.0; turns = ranged rows.BringUpTurns 0 0 4096 b.turns p.1.1.0 }

watchdog_passes : (w : Option WatchPart) → first (watch_tests w) ≡ None → IfThere IsWatch w
watchdog_passes None h = tt
watchdog_passes (Some w) h =
    let p = each_passes (watch_tests (Some w)) h in
    record {
      checks = ranged rows.WatchdogChecks 0 0 4096 w.checks p.0;
      pause = ranged rows.WatchdogPause 0 1 65536 w.pause p.1.0;
      skew = ranged rows.WatchdogSkew 0 0 (2 ^ 30) w.skew p.1.1.0;
      retries = ranged rows.WatchdogRetries 0 0 10 w.retries p.1.1.1.0;
    }

exactly : (n : ℕ) (z : ℤ) → is_between n n z ≡ true → z ≡ pos n
exactly n z h = let w = within-between n n z h in let is = w.0 in let low = w.1 in let high = w.2 in is ∙ ap pos (omega arith)

pub in_range : (m : Plan) → IsWellFormed m → first (part_tests m) ≡ None → AreInRange m
in_range m formed h =
    let parts = each_passes (part_tests m) h in
    let numbers = each_passes (number_tests m) parts.0 in
    let reference = each_passes (reference_tests m.reference) parts.1.0 in
    let threads = each_passes (thread_tests m) parts.1.1.0 in
    let others = each_passes (other_part_tests m) parts.1.1.1.0 in
    let nominal = ranged rows.NominalKhz 0 1000 4000000 m.nominal_khz numbers.1.1.1.1.1.0 in
    let width = wide rows.Bits 0 m.bits numbers.1.1.1.1.0 in
    let (cpus, words) = cpus_pass (cpu_count m) 0 1 m.cpu (omega arith) threads.1.0 in
    let (readers, all) = readers_pass (cpu_count m) (words_of_cpus m.cpu) 1 m.reader (omega (arith, words)) formed.readers threads.1.1.1.0 in
    let (sources, once) = sources_pass m.nominal_khz m.bits false 1 m.source nominal width formed.sources others.1.1.1.1.1.0 in
    record {
      version = ranged rows.Version 0 1 2 m.version numbers.0;
      cpus = ranged rows.Cpus 0 1 (most_cpus m.version) m.cpus numbers.1.0;
      cpu_each = exactly (cpu_count m) m.cpus (unless-passed (is_between (cpu_count m) (cpu_count m) m.cpus) (value_at rows.Cpu 0 0) threads.0);
      step = ranged rows.Step 0 1 (2 ^ 14) m.step numbers.1.1.0;
      tick = ranged rows.Tick 0 1 (2 ^ 30) m.tick numbers.1.1.1.0;
      bits = width;
      nominal = nominal;
      reference = record {
        khz = ranged rows.ReferenceKhz 0 1000 4000000 m.reference.khz reference.0;
        bits = wide rows.ReferenceBits 0 m.reference.bits reference.1.0;
        rating = ranged rows.ReferenceRating 0 1 1000 m.reference.rating reference.1.1.0;
        margin = ranged rows.ReferenceMargin 0 0 (2 ^ 30) m.reference.margin reference.1.1.1.0;
      };
      cpu = cpus;
      readers = few_items rows.Reader 0 16 m.reader threads.1.1.0;
      reader = readers;
      words_few = omega (arith, threads_length m, all);
      delay = delays_in_range (ticket_limit m.version) m.delay (few_items rows.Delay 0 1024 m.delay others.0) others.1.0;
      bringup = bring_up_passes m.bringup others.1.1.0;
      watchdog = watchdog_passes m.watchdog others.1.1.1.0;
      sources = few_items rows.Source 0 8 m.source others.1.1.1.1.0;
      source = sources;
      own = λ k d low. (formed.sources k d low).own;
      own_once = omega (arith, once);
    }
