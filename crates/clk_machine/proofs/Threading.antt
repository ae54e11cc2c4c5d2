-- The threads of a machine, by its parts, and the words of a script, by its repeats.
use Rattle.std.proofs.Common.{◌≡◌, ℕ, zero, suc, ◌+◌, ◌-◌, ◌*◌, ◌%◌, ◌<◌, ◌≤◌, List, [], length, get_or, map, refl, sym, ◌∙◌, ap, inl, inr, arith, length-append}
use Rattle.std.specs.List.{repeat, enumerate_from}
use Rattle.std.proofs.lemmas.Bool.{cases_lt}
use Rattle.std.proofs.Math.Nat.{mod-eq_of_lt, add-mul-mod_self_right}
use Rattle.std.proofs.lemmas.List.{length-map, get_or-map, get_or_append_left, get_or-append_right}
use Rattle.std.proofs.lemmas.List.FromFn.{length-enumerate_from, get_or-enumerate_from}
use Rattle.clk_machine.specs.declared.script.Word.{Word}
use Rattle.clk_machine.specs.declared.parts.Parts.{Parts}
use Rattle.clk_machine.specs.declared.parts.CpuPart.{CpuPart}
use Rattle.clk_machine.specs.declared.parts.ReaderPart.{ReaderPart}
use Rattle.clk_machine.specs.Plan.{Plan, CpuPlan, ReaderPlan, plan_of, cpu_plan, reader_plan, script_plan, count_of, all_words, threads_of, thread_at}

abbrev of_cpu : ℕ × CpuPlan → ℕ × List Word
of_cpu c = (c.0, all_words c.1.script)

abbrev of_reader : ReaderPlan → ℕ × List Word
of_reader r = (count_of r.cpu, all_words r.script)

cpus_length : (m : Plan) → length (map of_cpu (enumerate_from 0 m.cpu)) ≡ length m.cpu
cpus_length m = length-map (enumerate_from 0 m.cpu) of_cpu ∙ length-enumerate_from 0 m.cpu

pub threads_length : (m : Plan) → length (threads_of m) ≡ length m.cpu + length m.reader
threads_length m =
    let a = cpus_length m in
    let b = length-map m.reader of_reader in
    length-append (map of_cpu (enumerate_from 0 m.cpu)) (map of_reader m.reader) ∙ omega (arith, a, b)

-- the thread of a CPU
pub cpu_thread : (p : Parts) (t : ℕ) (x : CpuPart) → t < length p.cpu.items → x ≡ get_or p.cpu.items t x → thread_at (plan_of p) t ≡ (t, all_words (script_plan x.script))
cpu_thread p t x h at =
    let m : Plan = plan_of p in
    let low : t < length m.cpu = rw (length-map p.cpu.items cpu_plan) h in
    let e : get_or m.cpu t (cpu_plan x) ≡ cpu_plan x = get_or-map cpu_plan p.cpu.items t x (cpu_plan x) h ∙ ap cpu_plan (sym at) in
    let many : t < length (enumerate_from 0 m.cpu) = rw (length-enumerate_from 0 m.cpu) low in
    let all : t < length (map of_cpu (enumerate_from 0 m.cpu)) = rw (cpus_length m) low in
    let zero_on : 0 + t ≡ t = omega arith in
    let pair : ◌≡◌ {A = ℕ × CpuPlan} (0 + t, get_or m.cpu t (cpu_plan x)) (t, cpu_plan x) = rw (zero_on, e) refl in
    get_or_append_left (map of_cpu (enumerate_from 0 m.cpu)) (map of_reader m.reader) (0, []) t all
    ∙ get_or-map of_cpu (enumerate_from 0 m.cpu) t (0, cpu_plan x) (0, []) many
    ∙ ap of_cpu (get_or-enumerate_from 0 m.cpu t (0, cpu_plan x) low ∙ pair)

-- the thread of a reader
pub reader_thread : (p : Parts) (t : ℕ) (x : ReaderPart) → length p.cpu.items ≤ t → t - length p.cpu.items < length p.reader.items
    → x ≡ get_or p.reader.items (t - length p.cpu.items) x → thread_at (plan_of p) t ≡ (count_of x.cpu, all_words (script_plan x.script))
reader_thread p t x past h at =
    let m : Plan = plan_of p in
    let n : length (map of_cpu (enumerate_from 0 m.cpu)) ≡ length p.cpu.items = cpus_length m ∙ length-map p.cpu.items cpu_plan in
    let low : t - length p.cpu.items < length m.reader = rw (length-map p.reader.items reader_plan) h in
    let e : get_or m.reader (t - length p.cpu.items) (reader_plan x) ≡ reader_plan x =
    get_or-map reader_plan p.reader.items (t - length p.cpu.items) x (reader_plan x) h ∙ ap reader_plan (sym at) in
    get_or-append_right (map of_cpu (enumerate_from 0 m.cpu)) (map of_reader m.reader) (length p.cpu.items) t (0, []) n past
    ∙ get_or-map of_reader m.reader (t - length p.cpu.items) (reader_plan x) (0, []) low
    ∙ ap of_reader e

-- a word after the repeats is a word of the script
pub get_or-repeat : {A : Type 0} (n : ℕ) (xs : List A) (i : ℕ) (d : A) → 0 < length xs → i < length xs * n → get_or (repeat n xs) i d ≡ get_or xs (i % length xs) d
get_or-repeat zero xs i d some h = absurd (omega arith)
get_or-repeat (suc n) xs i d some h =
    elim (cases_lt i (length xs)) [
      | inl here ↦ rw (mod-eq_of_lt here) (get_or_append_left xs (repeat n xs) d i here)
      | inr past ↦
          let less : i - length xs < length xs * n = omega arith in
          let back : i - length xs + 1 * length xs ≡ i = omega arith in
          let same : (i - length xs) % length xs ≡ i % length xs = sym (add-mul-mod_self_right (i - length xs) 1 (length xs)) ∙ ap (λ k. k % length xs) back in
          get_or-append_right xs (repeat n xs) (length xs) i d refl past
          ∙ get_or-repeat n xs (i - length xs) d some less
          ∙ ap (λ k. get_or xs k d) same
    ]

-- where there is a word after the repeats, the script has some
pub some_words : (n repeats m : ℕ) → m < n * repeats → 0 < n
some_words zero repeats m h = absurd (omega arith)
some_words (suc n) repeats m h = omega arith

-- there are no more words before the repeats than after them, where there is one at all
pub no_more : (n repeats m : ℕ) → m < n * repeats → n ≤ n * repeats
no_more n zero m h = absurd (omega (arith, h))
no_more n (suc repeats) m h = omega arith

-- a thread that is none of the CPUs' is a reader's
pub reader_below : (p : Parts) (t cpus : ℕ) → cpus ≡ length (plan_of p).cpu → t < length (threads_of (plan_of p)) → cpus ≤ t → t - cpus < length p.reader.items
reader_below p t cpus e h past =
    let all = threads_length (plan_of p) in
    let b = length-map p.reader.items reader_plan in
    omega (arith, all, b, e)
