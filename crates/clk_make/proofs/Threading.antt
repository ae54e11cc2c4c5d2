-- The threads of a made machine, and what their words add up to.
use Rattle.std.proofs.Common.{◌≡◌, ℕ, ◌+◌, ◌*◌, ◌%◌, ◌<◌, List, ◌++◌, length, map, ◌∙◌, ap, ap₂, arith, length-append}
use Rattle.std.specs.List.{sum_by, range_with_len}
use Rattle.std.proofs.lemmas.Nat.{mod_below}
use Rattle.std.proofs.lemmas.List.Sums.{sum_by-append}
use Rattle.std.proofs.lemmas.List.FromFn.{length-map-range_with_len}
use mathlib.Core.List.{map-map}
use Rattle.clk_machine.specs.declared.script.Word.{Word}
use Rattle.clk_machine.specs.Plan.{CpuPlan, ReaderPlan, count_of, all_words, threads_of}
use Rattle.clk_machine.specs.Tickets.{tickets_of, boot_tickets, word_tickets, tickets_needed}
use Rattle.clk_machine.proofs.Counting.{length-repeat, script_sum}
use Rattle.clk_lawful.specs.Counting.{steps_of_word, word_steps}
use Rattle.clk_make.specs.Made.{made_cpus, made_readers, cpu_word, reader_word, cpu_script, reader_script, made_cpu, made_reader, made}
use Rattle.clk_make.specs.Numbers.{made_words, cpu_tickets, made_tickets, made_steps}
use Rattle.clk_make.proofs.Lists.{sum_by-map, sum_by-same, sum_range-same, sum_range-all, enumerated}
use Rattle.clk_make.proofs.ByKind.{cpu_words_tickets, cpu_words_steps, reader_words_tickets, reader_words_steps}

-- the threads of the CPUs and of the readers
abbrev pub cpu_thread : ℕ → ℕ → ℕ × List Word
cpu_thread n cpu = (cpu, all_words (cpu_script n cpu))

abbrev pub reader_thread : ℕ → ℕ → ℕ × List Word
reader_thread n r = (r % made_cpus n, all_words (reader_script (made_cpus n) (r % made_cpus n)))

pub threads_are : (n : ℕ)
    → threads_of (made n) ≡ map (cpu_thread n) (range_with_len 0 (made_cpus n)) ++ map (reader_thread n) (range_with_len 0 (made_readers n))
threads_are n =
    ap₂ (λ (a b : List (ℕ × List Word)). a ++ b)
    (ap (map (λ (c : ℕ × CpuPlan). (c.0, all_words c.1.script))) (enumerated (made_cpu n) 0 (made_cpus n))
    ∙ map-map (λ (c : ℕ × CpuPlan). (c.0, all_words c.1.script)) (λ x. (x, made_cpu n x)) (range_with_len 0 (made_cpus n)))
    (map-map (λ (r : ReaderPlan). (count_of r.cpu, all_words r.script)) (made_reader n) (range_with_len 0 (made_readers n)))

pub threads_count : (n : ℕ) → length (threads_of (made n)) ≡ made_cpus n + made_readers n
threads_count n =
    ap length (threads_are n)
    ∙ length-append (map (cpu_thread n) (range_with_len 0 (made_cpus n))) (map (reader_thread n) (range_with_len 0 (made_readers n)))
    ∙ (let a = length-map-range_with_len (cpu_thread n) 0 (made_cpus n) in
    let b = length-map-range_with_len (reader_thread n) 0 (made_readers n) in
    omega (arith, a, b))

-- where each CPU has its number, and each reader the same one
threads_sum : (f : ℕ × List Word → ℕ) (g : ℕ → ℕ) (each n : ℕ) → ((c : ℕ) → c < made_cpus n → f (cpu_thread n c) ≡ g c) → ((r : ℕ) → f (reader_thread n r) ≡ each)
    → sum_by f (threads_of (made n)) ≡ sum_by g (range_with_len 0 (made_cpus n)) + made_readers n * each
threads_sum f g each n cpus readers =
    let cs = range_with_len 0 (made_cpus n) in
    let rs = range_with_len 0 (made_readers n) in
    let a : sum_by f (map (cpu_thread n) cs) ≡ sum_by g cs = sum_by-map f (cpu_thread n) cs ∙ sum_range-same (λ c. f (cpu_thread n c)) g 0 (made_cpus n) (λ c low. cpus c (omega (arith, low))) in
    let b : sum_by f (map (reader_thread n) rs) ≡ made_readers n * each = sum_by-map f (reader_thread n) rs ∙ sum_by-same (λ r. f (reader_thread n r)) (λ r. each) rs readers ∙ sum_range-all each 0 (made_readers n) in
    ap (sum_by f) (threads_are n) ∙ sum_by-append f (map (cpu_thread n) cs) (map (reader_thread n) rs) ∙ ap₂ (λ x y. x + y) a b

-- ---- words

pub words_are : (n : ℕ) → sum_by (λ (t : ℕ × List Word). length t.1) (threads_of (made n)) ≡ made_words n
words_are n =
    threads_sum (λ (t : ℕ × List Word). length t.1) (λ c. 4096) 2048 n
    (λ c low. length-repeat 64 (cpu_script n c).words ∙ ap (λ x. x * 64) (length-map-range_with_len (cpu_word n c) 0 64))
    (λ r. length-repeat 256 (reader_script (made_cpus n) (r % made_cpus n)).words ∙ ap (λ x. x * 256) (length-map-range_with_len (reader_word (made_cpus n) (r % made_cpus n)) 0 8))
    ∙ (let all = sum_range-all 4096 0 (made_cpus n) in omega (arith, all))

-- ---- tickets

pub word_tickets_are : (n : ℕ) → word_tickets (made n) ≡ sum_by (cpu_tickets n) (range_with_len 0 (made_cpus n)) + made_readers n * 2048
word_tickets_are n =
    threads_sum (λ (t : ℕ × List Word). sum_by tickets_of t.1) (cpu_tickets n) 2048 n
    (λ c low. script_sum tickets_of (cpu_script n c) ∙ ap (λ x. 64 * x) (cpu_words_tickets n c))
    (λ r. script_sum tickets_of (reader_script (made_cpus n) (r % made_cpus n)) ∙ ap (λ x. 256 * x) (reader_words_tickets (made_cpus n) (r % made_cpus n)))

pub tickets_are : (n : ℕ) → tickets_needed (made n) ≡ made_tickets n
tickets_are n = let words = word_tickets_are n in omega (arith, words)

-- a lawful run draws those of the boot and of the words
pub drawn_are : (n : ℕ) → boot_tickets (made n) + word_tickets (made n) ≡ made_tickets n
drawn_are n = let words = word_tickets_are n in omega (arith, words)

-- ---- steps

pub steps_are : (n : ℕ) → word_steps (made n) ≡ made_steps n
steps_are n =
    threads_sum (λ (t : ℕ × List Word). sum_by (steps_of_word t.0) t.1) (λ c. 4608) 3072 n
    (λ c low. script_sum (steps_of_word c) (cpu_script n c) ∙ ap (λ x. 64 * x) (cpu_words_steps n c low))
    (λ r.
    let cpu = r % made_cpus n in
    let low : cpu < made_cpus n = mod_below r (made_cpus n) (omega arith) in
    script_sum (steps_of_word cpu) (reader_script (made_cpus n) cpu) ∙ ap (λ x. 256 * x) (reader_words_steps (made_cpus n) cpu (omega arith) low))
    ∙ (let all = sum_range-all 4608 0 (made_cpus n) in omega (arith, all))
