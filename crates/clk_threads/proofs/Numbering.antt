-- The threads of a machine by number: first each CPU's own thread, then the readers.
use Rattle.std.proofs.Common.{◌≡◌, ℕ, ◌+◌, ◌<◌, ◌≤◌, nat_lt, Bool, true, false, cond, List, [], ◌∷◌, map, length, get_or, refl, sym, ap, ◌∙◌, subst, inl, inr, arith}
use Rattle.std.specs.List.{All, enumerate_from, count_by}
use Rattle.std.proofs.lemmas.Bool.{cases_lt, lt-ltb, le-ltb}
use Rattle.std.proofs.lemmas.List.Elements.{All-nil, All-cons, All-head, All-tail, All-append, All-map, All-weaker, All-get_or}
use Rattle.clk_base.specs.Walk.{EachFrom}
use Rattle.clk_base.proofs.Walks.{each_at}
use Rattle.clk_machine.specs.declared.script.Word.{Word}
use Rattle.clk_machine.specs.declared.script.Word.TheVariants as word
use Rattle.clk_machine.specs.Plan.{Plan, CpuPlan, ReaderPlan, count_of, cpu_count, all_words, thread_at, threads_of}
use Rattle.clk_machine.specs.Limits.{IsOfReader, is_second, is_update, IsCpu, IsReader, IsWithinLimits}
use Rattle.clk_machine.proofs.Threading.{threads_length}
use Rattle.clk_words.specs.declared.kind.SeatKind.TheVariants.{Owner, Reader}
use Rattle.clk_words.specs.Kinds.{cpu_of}
use Rattle.clk_words.specs.Knowing.{IsReadingKind}
use Rattle.clk_worker.proofs.Scripts.{reader_words}
use Rattle.clk_threads.specs.Preparing.{kind_on}
use Rattle.clk_threads.proofs.LawfulLists.{owner_cpu}

-- what holds of each item and its number holds of item k
pub each_of : {A : Type 0} (P : ℕ → A → Type 0) (xs : List A) (k : ℕ) (d : A) → k < length xs → EachFrom P 0 xs → P k (get_or xs k d)
each_of P xs k d low each =
    let e : 0 + k ≡ k = omega arith in subst (λ (i : ℕ). P i (get_or xs k d)) e (each_at P 0 xs k d low each)

pub threads_cover : (m : Plan) → cpu_count m ≤ length (threads_of m)
threads_cover m = let count = threads_length m in omega (arith, count)

-- the number of a CPU is that of a thread
pub cpu_low : (m : Plan) (cpu : ℕ) → cpu < cpu_count m → cpu < length (threads_of m)
cpu_low m cpu low = let count = threads_length m in omega (arith, low, count)

-- ---- how many there are

most_few : (b : Bool) → cond b 64 16 ≤ 64
most_few true = omega arith
most_few false = omega arith

pub cpus_few : (m : Plan) → IsWithinLimits m → (1 ≤ cpu_count m) × (cpu_count m ≤ 64)
cpus_few m l =
    let range = l.ranges.cpus in
    let low = range.1 in
    let high = range.2 in
    let same = ap count_of l.ranges.cpu_each in
    let most = most_few (is_second m.version) in
    (omega (arith, low, same), omega (arith, high, same, most))

pub threads_few : (m : Plan) → IsWithinLimits m → length (threads_of m) ≤ 80
threads_few m l =
    let cpus = (cpus_few m l).1 in
    let readers = l.ranges.readers in
    let all = threads_length m in
    omega (arith, cpus, readers, all)

-- ---- the kinds of seats

pub own_thread : (m : Plan) (thread : ℕ) → thread < cpu_count m → nat_lt thread (cpu_count m) ≡ true
own_thread m thread low = lt-ltb thread (cpu_count m) low

pub other_thread : (m : Plan) (thread : ℕ) → cpu_count m ≤ thread → nat_lt thread (cpu_count m) ≡ false
other_thread m thread past = le-ltb thread (cpu_count m) past

pub kind_owner : (m : Plan) (thread : ℕ) → thread < cpu_count m → kind_on m thread ≡ Owner thread
kind_owner m thread low = ap (λ (b : Bool). cond b (Owner thread) (Reader (thread_at m thread).0)) (own_thread m thread low)

pub kind_reader : (m : Plan) (thread : ℕ) → cpu_count m ≤ thread → kind_on m thread ≡ Reader (thread_at m thread).0
kind_reader m thread past = ap (λ (b : Bool). cond b (Owner thread) (Reader (thread_at m thread).0)) (other_thread m thread past)

pub kind_cpu : (m : Plan) (thread : ℕ) → cpu_of (kind_on m thread) ≡ (thread_at m thread).0
kind_cpu m thread =
    elim (cases_lt thread (cpu_count m)) [
      | inl low ↦ ap cpu_of (kind_owner m thread low) ∙ sym (owner_cpu m thread low)
      | inr past ↦ ap cpu_of (kind_reader m thread past)
    ]

pub kind_reads : (m : Plan) (thread : ℕ) → IsReadingKind (kind_on m thread)
kind_reads m thread =
    elim (cases_lt thread (cpu_count m)) [
      | inl low ↦ subst IsReadingKind (sym (kind_owner m thread low)) tt
      | inr past ↦ subst IsReadingKind (sym (kind_reader m thread past)) tt
    ]

-- ---- the updates of a script

abbrev of_cpu : ℕ × CpuPlan → ℕ × List Word
of_cpu c = (c.0, all_words c.1.script)

abbrev of_reader : ReaderPlan → ℕ × List Word
of_reader r = (count_of r.cpu, all_words r.script)

-- a script has few
abbrev HasFew : ℕ × List Word → Type 0
HasFew t = count_by is_update t.1 ≤ 1024

few_each : (c n : ℕ) (cs : List CpuPlan) → All (IsCpu c) cs → All HasFew (map of_cpu (enumerate_from n cs))
few_each c n [] all = All-nil HasFew
few_each c n (x ∷ cs) all =
    All-cons HasFew (of_cpu (n, x)) (map of_cpu (enumerate_from (n + 1) cs)) (All-head (IsCpu c) x cs all).script.updates
    (few_each c (n + 1) cs (All-tail (IsCpu c) x cs all))

few_updates : (m : Plan) (thread : ℕ) → IsWithinLimits m → thread < length (threads_of m) → count_by is_update (thread_at m thread).1 ≤ 1024
few_updates m thread limits low =
    All-get_or HasFew (threads_of m) thread (0, []) low
    (All-append HasFew (map of_cpu (enumerate_from 0 m.cpu)) (map of_reader m.reader) (few_each (cpu_count m) 0 m.cpu limits.ranges.cpu)
    (All-map HasFew of_reader m.reader
    (All-weaker (IsReader (cpu_count m)) (λ (r : ReaderPlan). HasFew (of_reader r)) (λ r h. h.script.updates) m.reader limits.ranges.reader)))

-- a reader's has none
no_update : (ws : List Word) → All IsOfReader ws → count_by is_update ws ≡ 0
no_update [] all = refl
no_update (word.Local ∷ ws) all = no_update ws (All-tail IsOfReader word.Local ws all)
no_update (word.Remote d ∷ ws) all = no_update ws (All-tail IsOfReader (word.Remote d) ws all)
no_update (word.Tick ∷ ws) all = absurd (All-head IsOfReader word.Tick ws all)
no_update (word.Idle ∷ ws) all = absurd (All-head IsOfReader word.Idle ws all)
no_update (word.Update ∷ ws) all = absurd (All-head IsOfReader word.Update ws all)
no_update (word.Pause n ∷ ws) all = no_update ws (All-tail IsOfReader (word.Pause n) ws all)

-- a thread's script has no more updates than its latch seat
pub updates_left : (m : Plan) (thread : ℕ) → IsWithinLimits m → thread < length (threads_of m)
    → count_by is_update (thread_at m thread).1 ≤ cond (nat_lt thread (cpu_count m)) 1024 0
updates_left m thread limits low =
    elim (cases_lt thread (cpu_count m)) [
      | inl own ↦ subst (λ (b : Bool). count_by is_update (thread_at m thread).1 ≤ cond b 1024 0) (sym (own_thread m thread own)) (few_updates m thread limits low)
      | inr past ↦
          let none = no_update (thread_at m thread).1 (reader_words m thread limits past low) in
          subst (λ (b : Bool). count_by is_update (thread_at m thread).1 ≤ cond b 1024 0) (sym (other_thread m thread past)) (omega (arith, none))
    ]
