-- Numbers in range pass all range tests.
use Rattle.std.proofs.Common.{◌≡◌, ℕ, ◌+◌, ◌-◌, ◌^◌, ◌<◌, ◌≤◌, nat_le, Bool, true, false, cond, not, ◌&&◌, ◌||◌, inl, inr, ℤ, pos, negsuc, nat_abs, ◌-ℤ◌, ◌≤ℤ◌, ◌<ℤ◌, List, [], ◌∷◌, length, Option, Some, None, refl, ◌∙◌, subst, arith}
use Rattle.std.specs.List.{All, sum_by, count_by}
use Rattle.std.specs.Option.{option_or}
use Rattle.std.proofs.lemmas.Int.{ints}
use Rattle.std.proofs.lemmas.Bool.{and_from}
use Rattle.std.proofs.lemmas.Bool.Decides.{nat_tests}
use Rattle.std.proofs.lemmas.List.Elements.{All-head, All-tail}
use Rattle.std.proofs.lemmas.List.Sums.{sum_by-cons}
use Rattle.clk_num.specs.Range.{IsNear}
use Rattle.clk_base.specs.First.{unless, first, each, each_told}
use Rattle.clk_base.proofs.Firsts.{EachPasses, first_from-is, first-append, first_append-passed, unless-passed, each_from-is, each_told_from-is}
use Rattle.clk_machine.specs.declared.rows.Row.{Row}
use Rattle.clk_machine.specs.declared.rows.Row.TheVariants as rows
use Rattle.clk_machine.specs.declared.script.Word.{Word}
use Rattle.clk_machine.specs.declared.script.Word.TheVariants.{Local, Remote, Tick, Idle, Update, Pause}
use Rattle.clk_machine.specs.declared.parts.ReferencePart.{ReferencePart}
use Rattle.clk_machine.specs.declared.parts.BringUpPart.{BringUpPart}
use Rattle.clk_machine.specs.declared.parts.WatchPart.{WatchPart}
use Rattle.clk_machine.specs.declared.error.MachineError.TheVariants.{Tickets}
use Rattle.clk_machine.specs.Plan.{Plan, ScriptPlan, JumpPlan, DelayPlan, CpuPlan, ReaderPlan, SourcePlan, count_of, cpu_count}
use Rattle.clk_machine.specs.Limits.{most_cpus, ticket_limit, longest_pause, IsWithin, IsWidth, IsNumberOfCpu, IsInRange, is_update, IsScript, jump_sizes, TimesRise, AreJumps, TicketsRise, IsReference, IsCpu, IsReader, IsBringUp, IsWatch, IsSource, IfThere, AreInRange}
use Rattle.clk_machine.specs.Tickets.{tickets_needed}
use Rattle.clk_machine.specs.Ranges.{Test, value_at, cpu_fault, is_between, ranges, is_width, is_cpu, at_most, jump_test, after_jump, jumps_test, script_length, script_updates, word_test, script_tests, cpu_tests, reader_tests, words_of_cpus, delay_tests, after_delay, bring_up_tests, watch_tests, other_tests, source_tests, number_tests, reference_tests, thread_tests, other_part_tests, part_tests, range_tests, tickets_test}
use Rattle.clk_machine.proofs.Counting.{length-repeat, sum_by-repeat, threads_length}

-- ---- tests that pass

pass : {R : Type 0} (b : Bool) (r : R) → b ≡ true → unless b r ≡ None
pass true r h = refl
pass false r h = absurd (cc)

both_pass : (t u : Test) → t ≡ None → u ≡ None → option_or t u ≡ None
both_pass None u h more = more
both_pass (Some r) u h more = absurd (cc)

all_pass : (ts : List Test) → EachPasses ts → first ts ≡ None
all_pass [] h = refl
all_pass (t ∷ ts) (here, more) = first_from-is t ts ∙ both_pass t (first ts) here (all_pass ts more)

each_pass : {A : Type 0} (f : ℕ → A → Test) (n : ℕ) (x : A) (xs : List A) → f n x ≡ None → each f (n + 1) xs ≡ None → each f n (x ∷ xs) ≡ None
each_pass f n x xs here more = each_from-is (f n x) f (n + 1) xs ∙ both_pass (f n x) (each f (n + 1) xs) here more

told_pass : {A S : Type 0} (f : S → ℕ → A → Test) (g : S → A → S) (s : S) (n : ℕ) (x : A) (xs : List A)
    → f s n x ≡ None → each_told f g (g s x) (n + 1) xs ≡ None → each_told f g s n (x ∷ xs) ≡ None
told_pass f g s n x xs here more = each_told_from-is (f s n x) f g (g s x) (n + 1) xs ∙ both_pass (f s n x) (each_told f g (g s x) (n + 1) xs) here more

-- ---- single numbers

le_test : (m n : ℕ) → m ≤ n → nat_le m n ≡ true
le_test m n h = grind (arith, nat_tests)

between-within : (low high : ℕ) (z : ℤ) → IsWithin low high z → is_between low high z ≡ true
between-within low high (pos n) (is, above, below) = and_from (nat_le low n) (nat_le n high) (le_test low n above) (le_test n high below)
between-within low high (negsuc n) (is, above, below) = absurd (cc)

in_ranges : (row : Row) (entry low high : ℕ) (z : ℤ) → IsWithin low high z → ranges row entry low high z ≡ None
in_ranges row entry low high z h = pass (is_between low high z) (value_at row entry 0) (between-within low high z h)

is_wide : (z : ℤ) → IsWidth z → is_width z ≡ true
is_wide z (inl e) = rw e refl
is_wide z (inr (inl e)) = rw e refl
is_wide z (inr (inr e)) = rw e refl

in_width : (row : Row) (entry : ℕ) (z : ℤ) → IsWidth z → unless (is_width z) (value_at row entry 0) ≡ None
in_width row entry z h = pass (is_width z) (value_at row entry 0) (is_wide z h)

cpu_test : (cpus : ℕ) (z : ℤ) → IsNumberOfCpu cpus z → is_cpu cpus z ≡ true
cpu_test cpus (pos n) (is, low) = grind (arith, nat_tests)
cpu_test cpus (negsuc n) (is, low) = absurd (cc)

is_few : {A : Type 0} (row : Row) (entry most : ℕ) (xs : List A) → length xs ≤ most → at_most row entry most xs ≡ None
is_few row entry most xs h = pass (nat_le (length xs) most) (value_at row entry 0) (le_test (length xs) most h)

size_near : (z : ℤ) → IsNear 44 z → nat_abs z ≤ 2 ^ 44
size_near z (low, high) = omega (arith, ints)

-- ---- jumps

each_jump : (row : Row) (entry before size n : ℕ) (js : List JumpPlan) → All (λ j. IsWithin 0 (2 ^ 41) j.at) js → TimesRise (pos before) js
    → size + jump_sizes js ≤ 2 ^ 44 → each_told (jump_test row entry) after_jump (before, size) n js ≡ None
each_jump row entry before size n [] times rise few = refl
each_jump row entry before size n (j ∷ js) times (up, rise) few =
    let at = All-head (λ (i : JumpPlan). IsWithin 0 (2 ^ 41) i.at) j js times in
    let is = at.0 in
    let here : pos before ≤ℤ pos (count_of j.at) = subst (λ z. pos before ≤ℤ z) is up in
    let low : before ≤ count_of j.at = omega (arith, ints, here) in
    let whole = sum_by-cons (λ (i : JumpPlan). nat_abs i.cycles) j js in
    let small : size + nat_abs j.cycles ≤ 2 ^ 44 = omega (arith, whole, few) in
    told_pass (jump_test row entry) after_jump (before, size) n j js
    (pass (is_between before (2 ^ 41) j.at && nat_le (size + nat_abs j.cycles) (2 ^ 44)) (value_at row entry n)
    (and_from (is_between before (2 ^ 41) j.at) (nat_le (size + nat_abs j.cycles) (2 ^ 44)) (between-within before (2 ^ 41) j.at (is, low, at.2)) (le_test (size + nat_abs j.cycles) (2 ^ 44) small)))
    (each_jump row entry (count_of j.at) (size + nat_abs j.cycles) (n + 1) js (All-tail (λ (i : JumpPlan). IsWithin 0 (2 ^ 41) i.at) j js times)
    (subst (λ z. TimesRise z js) is rise) (omega (arith, whole, few)))

jumps_pass_test : (row : Row) (entry : ℕ) (js : List JumpPlan) → AreJumps js → jumps_test row entry js ≡ None
jumps_pass_test row entry js a =
    all_pass (at_most row entry 64 js ∷ each_told (jump_test row entry) after_jump (0, 0) 1 js ∷ [])
    (is_few row entry 64 js a.few, (each_jump row entry 0 0 1 js a.times a.rise (let few = a.sizes in omega (arith, few)), tt))

-- ---- scripts

each_word : (cpus : ℕ) (row : Row) (entry n : ℕ) (ws : List Word) → All (IsInRange cpus) ws → each (word_test cpus row entry) n ws ≡ None
each_word cpus row entry n [] h = refl
each_word cpus row entry n (w ∷ ws) h =
    each_pass (word_test cpus row entry) n w ws (one_word w (All-head (IsInRange cpus) w ws h)) (each_word cpus row entry (n + 1) ws (All-tail (IsInRange cpus) w ws h))
  where
    one_word : (v : Word) → IsInRange cpus v → word_test cpus row entry n v ≡ None
    one_word Local e = refl
    one_word (Remote d) e = pass (is_cpu cpus d) (cpu_fault row entry n) (cpu_test cpus d e)
    one_word Tick e = refl
    one_word Idle e = refl
    one_word Update e = refl
    one_word (Pause c) e = pass (is_between 1 longest_pause c) (value_at row entry n) (between-within 1 longest_pause c e)

script_pass : (cpus : ℕ) (repeat row : Row) (entry before : ℕ) (s : ScriptPlan) → IsScript cpus s → before + script_length s ≤ 524288
    → EachPasses (script_tests cpus repeat row entry before s)
script_pass cpus repeat row entry before s h all =
    let few : script_length s ≤ 65536 = (let e = length-repeat (count_of s.repeat) s.words in let most = h.few in omega (arith, e, most)) in
    let updates : script_updates s ≤ 1024 = (let e = sum_by-repeat (λ w. cond (is_update w) 1 0) (count_of s.repeat) s.words in let most = h.updates in omega (arith, e, most)) in (
      in_ranges repeat entry 0 65536 s.repeat h.repeat,
      (
        each_word cpus row entry 1 s.words h.range,
        (
          pass (nat_le (script_length s) 65536) (value_at row entry 0) (le_test (script_length s) 65536 few),
          (
            pass (nat_le (before + script_length s) 524288) (value_at row entry 0) (le_test (before + script_length s) 524288 all),
            (
              pass (nat_le (script_updates s) 1024) (value_at row entry 0) (le_test (script_updates s) 1024 updates),
              (
                  tt
                  ),
            ),
          ),
        ),
      ),
    )

each_cpu_passes : (cpus before n : ℕ) (cs : List CpuPlan) → All (IsCpu cpus) cs → before + words_of_cpus cs ≤ 524288
    → each_told (λ words entry c. first (cpu_tests cpus entry words c)) (λ words c. words + script_length c.script) before n cs ≡ None
each_cpu_passes cpus before n [] h few = refl
each_cpu_passes cpus before n (c ∷ cs) h few =
    let here = All-head (IsCpu cpus) c cs h in
    let whole = sum_by-cons (λ (d : CpuPlan). script_length d.script) c cs in
    let words : before + script_length c.script ≤ 524288 = omega (arith, whole, few) in
    told_pass (λ words entry (d : CpuPlan). first (cpu_tests cpus entry words d)) (λ words d. words + script_length d.script) before n c cs
    (all_pass (cpu_tests cpus n before c) (
      in_ranges rows.CpuKhz n 1000 4000000 c.khz here.khz,
      (
        pass (nat_le (nat_abs c.offset) (2 ^ 44)) (value_at rows.CpuOffset n 0) (le_test (nat_abs c.offset) (2 ^ 44) (size_near c.offset here.offset)),
        (
          in_ranges rows.CpuSocket n 0 63 c.socket here.socket,
          (
            jumps_pass_test rows.CpuJumps n c.jumps here.jumps,
            (
                script_pass cpus rows.CpuRepeat rows.CpuScript n before c.script here.script words
                ),
          ),
        ),
      ),
    ))
    (each_cpu_passes cpus (before + script_length c.script) (n + 1) cs (All-tail (IsCpu cpus) c cs h) (omega (arith, whole, few)))

each_reader_passes : (cpus before n : ℕ) (rs : List ReaderPlan) → All (IsReader cpus) rs → before + sum_by (λ r. script_length r.script) rs ≤ 524288
    → each_told (λ words entry r. first (reader_tests cpus entry words r)) (λ words r. words + script_length r.script) before n rs ≡ None
each_reader_passes cpus before n [] h few = refl
each_reader_passes cpus before n (r ∷ rs) h few =
    let here = All-head (IsReader cpus) r rs h in
    let whole = sum_by-cons (λ (d : ReaderPlan). script_length d.script) r rs in
    let words : before + script_length r.script ≤ 524288 = omega (arith, whole, few) in
    told_pass (λ words entry (d : ReaderPlan). first (reader_tests cpus entry words d)) (λ words d. words + script_length d.script) before n r rs
    (all_pass (reader_tests cpus n before r) (
      pass (is_cpu cpus r.cpu) (cpu_fault rows.ReaderCpu n 0) (cpu_test cpus r.cpu here.cpu),
      (
          script_pass cpus rows.ReaderRepeat rows.ReaderScript n before r.script here.script words
          ),
    ))
    (each_reader_passes cpus (before + script_length r.script) (n + 1) rs (All-tail (IsReader cpus) r rs h) (omega (arith, whole, few)))

-- ---- delays

each_delay_passes : (limit from sum n : ℕ) (ds : List DelayPlan) → All (λ d. IsWithin 0 (limit - 1) d.ticket) ds → TicketsRise (pos from -ℤ pos 1) ds
    → All (λ d. IsWithin 0 (2 ^ 39) d.ns) ds → sum + sum_by (λ d. count_of d.ns) ds ≤ 2 ^ 39
    → each_told (λ told entry d. first (delay_tests limit told entry d)) after_delay (from, sum) n ds ≡ None
each_delay_passes limit from sum n [] tickets rise ns few = refl
each_delay_passes limit from sum n (d ∷ ds) tickets (up, rise) ns few =
    let ticket = All-head (λ (e : DelayPlan). IsWithin 0 (limit - 1) e.ticket) d ds tickets in
    let time = All-head (λ (e : DelayPlan). IsWithin 0 (2 ^ 39) e.ns) d ds ns in
    let is = ticket.0 in
    let here : (pos from -ℤ pos 1) <ℤ pos (count_of d.ticket) = subst (λ z. (pos from -ℤ pos 1) <ℤ z) is up in
    let low : from ≤ count_of d.ticket = omega (arith, ints, here) in
    let back : pos (count_of d.ticket) ≡ pos (count_of d.ticket + 1) -ℤ pos 1 = omega (arith, ints) in
    let whole = sum_by-cons (λ (e : DelayPlan). count_of e.ns) d ds in
    let small : sum + count_of d.ns ≤ 2 ^ 39 = omega (arith, whole, few) in
    told_pass (λ told entry (e : DelayPlan). first (delay_tests limit told entry e)) after_delay (from, sum) n d ds
    (all_pass (delay_tests limit (from, sum) n d) (
      pass (is_between from (limit - 1) d.ticket) (value_at rows.DelayTicket n 0) (between-within from (limit - 1) d.ticket (is, low, ticket.2)),
      (
        pass (is_between 0 (2 ^ 39) d.ns && nat_le (sum + count_of d.ns) (2 ^ 39)) (value_at rows.DelayNs n 0)
            (and_from (is_between 0 (2 ^ 39) d.ns) (nat_le (sum + count_of d.ns) (2 ^ 39)) (between-within 0 (2 ^ 39) d.ns time) (le_test (sum + count_of d.ns) (2 ^ 39) small)),
        (
            tt
            ),
      ),
    ))
    (each_delay_passes limit (count_of d.ticket + 1) (sum + count_of d.ns) (n + 1) ds
    (All-tail (λ (e : DelayPlan). IsWithin 0 (limit - 1) e.ticket) d ds tickets)
    (subst (λ z. TicketsRise z ds) (is ∙ back) rise)
    (All-tail (λ (e : DelayPlan). IsWithin 0 (2 ^ 39) e.ns) d ds ns)
    (omega (arith, whole, few)))

-- ---- sources

not_both : (own_before own : Bool) (n : ℕ) → cond own_before 1 0 + (cond own 1 0 + n) ≤ 1 → not (own_before && own) ≡ true
not_both true true n h = absurd (omega arith)
not_both true false n h = refl
not_both false own n h = refl

own_more : (own_before own : Bool) (n : ℕ) → cond own_before 1 0 + (cond own 1 0 + n) ≤ 1 → cond (own_before || own) 1 0 + n ≤ 1
own_more true true n h = omega arith
own_more true false n h = omega arith
own_more false true n h = omega arith
own_more false false n h = omega arith

source_pass : (entry : ℕ) (own_before : Bool) (s : SourcePlan) → IsSource s → not (own_before && s.tsc) ≡ true → first (source_tests entry own_before s) ≡ None
source_pass entry own_before s h once =
    all_pass (source_tests entry own_before s) (
      pass (not (own_before && s.tsc)) (value_at rows.SourceTsc entry 0) once,
      (
        in_ranges rows.SourceRating entry 1 1000 s.rating h.rating,
        (
          in_ranges rows.SourceMargin entry 0 (2 ^ 30) s.margin h.margin,
          (
            others s.tsc,
            (
                tt
                ),
          ),
        ),
      ),
    )
  where
    others : (own : Bool) → cond own None (first (other_tests entry s)) ≡ None
    others true = refl
    others false =
        all_pass (other_tests entry s) (
          in_ranges rows.SourceNominalKhz entry 1000 4000000 s.nominal_khz h.nominal,
          (
            in_ranges rows.SourceKhz entry 1000 4000000 s.khz h.khz,
            (
              in_width rows.SourceBits entry s.bits h.bits,
              (
                jumps_pass_test rows.SourceJumps entry s.jumps h.jumps,
                (
                    tt
                    ),
              ),
            ),
          ),
        )

each_source_passes : (own_before : Bool) (n : ℕ) (ss : List SourcePlan) → All IsSource ss → cond own_before 1 0 + count_by (λ s. s.tsc) ss ≤ 1
    → each_told (λ own entry s. first (source_tests entry own s)) (λ own s. own || s.tsc) own_before n ss ≡ None
each_source_passes own_before n [] h once = refl
each_source_passes own_before n (s ∷ ss) h once =
    let whole = sum_by-cons (λ (t : SourcePlan). cond t.tsc 1 0) s ss in
    let few : cond own_before 1 0 + (cond s.tsc 1 0 + count_by (λ t. t.tsc) ss) ≤ 1 = rw whole at once in
    told_pass (λ own entry (t : SourcePlan). first (source_tests entry own t)) (λ own t. own || t.tsc) own_before n s ss
    (source_pass n own_before s (All-head IsSource s ss h) (not_both own_before s.tsc (count_by (λ t. t.tsc) ss) few))
    (each_source_passes (own_before || s.tsc) (n + 1) ss (All-tail IsSource s ss h) (own_more own_before s.tsc (count_by (λ t. t.tsc) ss) few))

-- ---- the whole

bring_up_pass : (b : Option BringUpPart) → IfThere IsBringUp b → first (bring_up_tests b) ≡ None
bring_up_pass None h = refl
bring_up_pass (Some b) h =
    all_pass (bring_up_tests (Some b)) (
      in_ranges rows.BringUpTimeout 0 0 1000000 b.timeout_us h.timeout,
      (
        in_ranges rows.BringUpFirst 0 0 1000000 b.first_us h.first,
        (
          in_ranges rows.BringUpTurns 0 0 4096 b.turns h.turns,
          (
              tt
              ),
        ),
      ),
    )

watchdog_pass : (w : Option WatchPart) → IfThere IsWatch w → first (watch_tests w) ≡ None
watchdog_pass None h = refl
watchdog_pass (Some w) h =
    all_pass (watch_tests (Some w)) (
      in_ranges rows.WatchdogChecks 0 0 4096 w.checks h.checks,
      (
        in_ranges rows.WatchdogPause 0 1 65536 w.pause h.pause,
        (
          in_ranges rows.WatchdogSkew 0 0 (2 ^ 30) w.skew h.skew,
          (
            in_ranges rows.WatchdogRetries 0 0 10 w.retries h.retries,
            (
                tt
                ),
          ),
        ),
      ),
    )

reference_pass : (r : ReferencePart) → IsReference r → first (reference_tests r) ≡ None
reference_pass r h =
    all_pass (reference_tests r) (
      in_ranges rows.ReferenceKhz 0 1000 4000000 r.khz h.khz,
      (
        in_width rows.ReferenceBits 0 r.bits h.bits,
        (
          in_ranges rows.ReferenceRating 0 1 1000 r.rating h.rating,
          (
            in_ranges rows.ReferenceMargin 0 0 (2 ^ 30) r.margin h.margin,
            (
                tt
                ),
          ),
        ),
      ),
    )

numbers_pass : (m : Plan) → AreInRange m → first (number_tests m) ≡ None
numbers_pass m h =
    all_pass (number_tests m) (
      in_ranges rows.Version 0 1 2 m.version h.version,
      (
        in_ranges rows.Cpus 0 1 (most_cpus m.version) m.cpus h.cpus,
        (
          in_ranges rows.Step 0 1 (2 ^ 14) m.step h.step,
          (
            in_ranges rows.Tick 0 1 (2 ^ 30) m.tick h.tick,
            (
              in_width rows.Bits 0 m.bits h.bits,
              (
                in_ranges rows.NominalKhz 0 1000 4000000 m.nominal_khz h.nominal,
                (
                    tt
                    ),
              ),
            ),
          ),
        ),
      ),
    )

as_many : (n : ℕ) (z : ℤ) → z ≡ pos n → IsWithin n n z
as_many n z e = rw e (refl, omega arith, omega arith)

threads_pass : (m : Plan) → AreInRange m → first (thread_tests m) ≡ None
threads_pass m h =
    let all = threads_length m in
    let few = h.words_few in
    all_pass (thread_tests m) (
      pass (is_between (cpu_count m) (cpu_count m) m.cpus) (value_at rows.Cpu 0 0) (between-within (cpu_count m) (cpu_count m) m.cpus (as_many (cpu_count m) m.cpus h.cpu_each)),
      (
        each_cpu_passes (cpu_count m) 0 1 m.cpu h.cpu (omega (arith, all, few)),
        (
          is_few rows.Reader 0 16 m.reader h.readers,
          (
            each_reader_passes (cpu_count m) (words_of_cpus m.cpu) 1 m.reader h.reader (omega (arith, all, few)),
            (
                tt
                ),
          ),
        ),
      ),
    )

others_pass : (m : Plan) → AreInRange m → first (other_part_tests m) ≡ None
others_pass m h =
    all_pass (other_part_tests m) (
      is_few rows.Delay 0 1024 m.delay h.delay.few,
      (
        each_delay_passes (ticket_limit m.version) 0 0 1 m.delay h.delay.tickets h.delay.rise h.delay.ns (let few = h.delay.sum in omega (arith, few)),
        (
          bring_up_pass m.bringup h.bringup,
          (
            watchdog_pass m.watchdog h.watchdog,
            (
              is_few rows.Source 0 8 m.source h.sources,
              (
                each_source_passes false 1 m.source h.source (let once = h.own_once in omega (arith, once)),
                (
                    tt
                    ),
              ),
            ),
          ),
        ),
      ),
    )

pub parts_pass : (m : Plan) → AreInRange m → first (part_tests m) ≡ None
parts_pass m h = all_pass (part_tests m) (numbers_pass m h, (reference_pass m.reference h.reference, (threads_pass m h, (others_pass m h, tt))))

-- ---- and the tickets

pub tickets_pass : (m : Plan) → first (part_tests m) ≡ None → tickets_needed m ≤ ticket_limit m.version → first (range_tests m) ≡ None
tickets_pass m parts few =
    first-append (part_tests m) (tickets_test m ∷ [])
    ∙ both_pass (first (part_tests m)) (first (tickets_test m ∷ [])) parts
    (pass (nat_le (tickets_needed m) (ticket_limit m.version)) (Tickets (tickets_needed m)) (le_test (tickets_needed m) (ticket_limit m.version) few))

too_many : (n limit : ℕ) → limit < n → nat_le n limit ≡ false
too_many n limit h = grind (arith, nat_tests)

pub tickets_refused : (m : Plan) → first (part_tests m) ≡ None → ticket_limit m.version < tickets_needed m → first (range_tests m) ≡ Some (Tickets (tickets_needed m))
tickets_refused m parts many =
    first-append (part_tests m) (tickets_test m ∷ [])
    ∙ rw (parts, too_many (tickets_needed m) (ticket_limit m.version) many) refl

pub tickets_few : (m : Plan) → first (range_tests m) ≡ None → tickets_needed m ≤ ticket_limit m.version
tickets_few m h =
    let both = first_append-passed (part_tests m) (tickets_test m ∷ []) h in
    le_of (tickets_needed m) (ticket_limit m.version) (unless-passed (nat_le (tickets_needed m) (ticket_limit m.version)) (Tickets (tickets_needed m)) both.1)
  where
    le_of : (a b : ℕ) → nat_le a b ≡ true → a ≤ b
    le_of a b e = grind (arith, nat_tests)
