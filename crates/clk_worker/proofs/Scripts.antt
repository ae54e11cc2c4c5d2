-- The scripts of a machine are within its limits.
use Rattle.std.proofs.Common.{◌≡◌, ℕ, zero, suc, ◌+◌, ◌-◌, ◌<◌, ◌≤◌, List, [], ◌∷◌, length, get_or, map, ◌∙◌, sym, subst, arith, length-append}
use Rattle.std.specs.List.{All, repeat, enumerate_from}
use Rattle.std.proofs.lemmas.List.{length-map, get_or-append_right}
use Rattle.std.proofs.lemmas.List.FromFn.{length-enumerate_from}
use Rattle.std.proofs.lemmas.List.Elements.{All-nil, All-cons, All-head, All-tail, All-append, All-map, All-weaker, All-get_or}
use Rattle.clk_machine.specs.Plan.{Plan, ScriptPlan, CpuPlan, ReaderPlan, count_of, cpu_count, all_words, threads_of, thread_at}
use Rattle.clk_machine.specs.Limits.{IsInRange, IsOfReader, IsScript, IsCpu, IsReader, IsWithinLimits}
use Rattle.clk_machine.specs.declared.script.Word.{Word}

All-repeat : {A : Type 0} (P : A → Type 0) (n : ℕ) (xs : List A) → All P xs → All P (repeat n xs)
All-repeat P zero xs all = All-nil P
All-repeat P (suc n) xs all = All-append P xs (repeat n xs) all (All-repeat P n xs all)

All-enumerate : {A : Type 0} (P : A → Type 0) (n : ℕ) (xs : List A) → All P xs → All (λ (c : ℕ × A). P c.1) (enumerate_from n xs)
All-enumerate {A} P n [] all = All-nil (λ (c : ℕ × A). P c.1)
All-enumerate {A} P n (x ∷ xs) all =
    All-cons (λ (c : ℕ × A). P c.1) (n, x) (enumerate_from (n + 1) xs) (All-head P x xs all) (All-enumerate P (n + 1) xs (All-tail P x xs all))

-- the words of a thread on one of so many CPUs
pub record AreWords (cpus : ℕ) (ws : List Word) : Type 0 where
  pub range : All (IsInRange cpus) ws
  pub few : length ws ≤ 65536

of_script : (cpus : ℕ) (s : ScriptPlan) → IsScript cpus s → AreWords cpus (all_words s)
of_script cpus s h = record { range = All-repeat (IsInRange cpus) (count_of s.repeat) s.words h.range; few = h.few }

of_cpu : (cpus : ℕ) (c : CpuPlan) → IsCpu cpus c → AreWords cpus (all_words c.script)
of_cpu cpus c h = of_script cpus c.script h.script

of_reader : (cpus : ℕ) (r : ReaderPlan) → IsReader cpus r → AreWords cpus (all_words r.script)
of_reader cpus r h = of_script cpus r.script h.script

-- those of each thread
all_threads : (m : Plan) → IsWithinLimits m → All (λ (t : ℕ × List Word). AreWords (cpu_count m) t.1) (threads_of m)
all_threads m h =
    let P : ℕ × List Word → Type 0 = λ t. AreWords (cpu_count m) t.1 in
    let cpu : ℕ × CpuPlan → ℕ × List Word = λ c. (c.0, all_words c.1.script) in
    let reader : ReaderPlan → ℕ × List Word = λ r. (count_of r.cpu, all_words r.script) in
    All-append P (map cpu (enumerate_from 0 m.cpu)) (map reader m.reader)
    (All-map P cpu (enumerate_from 0 m.cpu)
    (All-enumerate (λ (c : CpuPlan). AreWords (cpu_count m) (all_words c.script)) 0 m.cpu
    (All-weaker (IsCpu (cpu_count m)) (λ (c : CpuPlan). AreWords (cpu_count m) (all_words c.script)) (of_cpu (cpu_count m)) m.cpu h.ranges.cpu)))
    (All-map P reader m.reader
    (All-weaker (IsReader (cpu_count m)) (λ (r : ReaderPlan). AreWords (cpu_count m) (all_words r.script)) (of_reader (cpu_count m)) m.reader h.ranges.reader))

pub thread_words : (m : Plan) (thread : ℕ) → IsWithinLimits m → thread < length (threads_of m) → AreWords (cpu_count m) (thread_at m thread).1
thread_words m thread h low = All-get_or (λ (t : ℕ × List Word). AreWords (cpu_count m) t.1) (threads_of m) thread (0, []) low (all_threads m h)

-- ---- a reader's

of_readers : (cpus : ℕ) (rs : List ReaderPlan) → All (IsReader cpus) rs → All (λ (t : ℕ × List Word). All IsOfReader t.1) (map (λ (r : ReaderPlan). (count_of r.cpu, all_words r.script)) rs)
of_readers cpus rs all =
    All-map (λ (t : ℕ × List Word). All IsOfReader t.1) (λ (r : ReaderPlan). (count_of r.cpu, all_words r.script)) rs
    (All-weaker (IsReader cpus) (λ (r : ReaderPlan). All IsOfReader (all_words r.script))
    (λ r h. All-repeat IsOfReader (count_of r.script.repeat) r.script.words h.words) rs all)

-- a thread that is none of the CPUs' makes readings and pauses alone
pub reader_words : (m : Plan) (thread : ℕ) → IsWithinLimits m → cpu_count m ≤ thread → thread < length (threads_of m) → All IsOfReader (thread_at m thread).1
reader_words m thread h past low =
    let cpus : List (ℕ × List Word) = map (λ (c : ℕ × CpuPlan). (c.0, all_words c.1.script)) (enumerate_from 0 m.cpu) in
    let readers : List (ℕ × List Word) = map (λ (r : ReaderPlan). (count_of r.cpu, all_words r.script)) m.reader in
    let count : length cpus ≡ cpu_count m = length-map (enumerate_from 0 m.cpu) (λ (c : ℕ × CpuPlan). (c.0, all_words c.1.script)) ∙ length-enumerate_from 0 m.cpu in
    let both = length-append cpus readers in
    let is : thread_at m thread ≡ get_or readers (thread - cpu_count m) (0, []) = get_or-append_right cpus readers (cpu_count m) thread (0, []) count past in
    subst (λ (t : ℕ × List Word). All IsOfReader t.1) (sym is)
    (All-get_or (λ (t : ℕ × List Word). All IsOfReader t.1) readers (thread - cpu_count m) (0, []) (omega (arith, low, both, count, past))
    (of_readers (cpu_count m) m.reader h.ranges.reader))
