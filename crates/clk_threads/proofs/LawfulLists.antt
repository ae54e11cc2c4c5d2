-- The threads of a run and the lists of its trace, side by side: the CPUs, the scripts, the events and the steps, each
-- numbered from 0.
use Rattle.std.proofs.Common.{◌≡◌, ℕ, zero, suc, ◌+◌, ◌<◌, ◌≤◌, List, [], ◌∷◌, ◌++◌, map, length, take, drop, get_or, drop-cons, refl, ap, ◌∙◌, sym, subst, arith, append-nil}
use Rattle.std.proofs.lemmas.List.{map-append, length-map, get_or_default, get_or_append_left}
use Rattle.std.proofs.lemmas.List.Elements.{All-nil, All-cons, All-append, All-map, All-weaker, All-get_or}
use Rattle.std.proofs.lemmas.List.FromFn.{length-enumerate_from}
use Rattle.std.specs.List.{All, AllZip, flat_map, enumerate_from}
use Rattle.clk_base.specs.Walk.{EachFrom}
use Rattle.clk_base.proofs.Walks.{each_from, each_at}
use Rattle.clk_num.specs.Listed.{Listed}
use Rattle.clk_machine.specs.Plan.{Plan, CpuPlan, ReaderPlan, count_of, cpu_count, all_words, thread_at, threads_of}
use Rattle.clk_machine.specs.Limits.{IsReader, IsWithinLimits}
use Rattle.clk_machine.specs.declared.script.Word.{Word}
use Rattle.clk_record.specs.declared.step.Step.{Step}
use Rattle.clk_lawful.specs.Threads.{own_events}
use Rattle.clk_lawful.specs.WordHistory.{Placed, steps_from, all_steps}
use Rattle.clk_lawful.specs.declared.event.Event.{Event}
use Rattle.clk_lawful.specs.declared.trace.Trace.{Trace}
use Rattle.clk_worker.proofs.RunSteps.{numbered}
use Rattle.clk_threads.specs.Finishing.{Ran, events_of}

-- ---- what holds of each item and its number

-- what holds of the items numbered below `top` holds of so many of the first
pub each_first : {A : Type 0} (P : ℕ → A → Type 0) (top n count : ℕ) (xs : List A) → n + count ≤ top → EachFrom (λ k x. k < top → P k x) n xs
    → EachFrom P n (take count xs)
each_first P top n zero xs low each = tt
each_first P top n (suc count) [] low each = tt
each_first P top n (suc count) (x ∷ xs) low each =
    (each.0 (omega (arith, low)), each_first P top (n + 1) count xs (omega (arith, low)) each.1)

pub all_each : {A : Type 0} (P : A → Type 0) (n : ℕ) (xs : List A) → EachFrom (λ k x. P x) n xs → All P xs
all_each P n [] each = All-nil P
all_each P n (x ∷ xs) each = All-cons P x xs each.0 (all_each P (n + 1) xs each.1)

-- what holds of two lists holds of what is left of them
pub zip_rest : {A B : Type 0} (R : A → B → Type 0) (n : ℕ) (xs : List A) (ys : List B) → AllZip R xs ys → AllZip R (drop n xs) (drop n ys)
zip_rest R zero xs ys all = all
zip_rest R (suc n) [] [] all = tt
zip_rest R (suc n) [] (y ∷ ys) all = absurd all
zip_rest R (suc n) (x ∷ xs) [] all = absurd all
zip_rest R (suc n) (x ∷ xs) (y ∷ ys) all = zip_rest R n xs ys all.1

-- ---- what holds of each thread holds of its events

pub each_all : (P : ℕ → Ran → Type 0) (Q : Listed Event → Type 0) → ((k : ℕ) (r : Ran) → P k r → Q r.events) → (n : ℕ) (rans : List Ran) → EachFrom P n rans → All Q (events_of rans)
each_all P Q f n [] h = All-nil Q
each_all P Q f n (r ∷ rans) h = All-cons Q r.events (events_of rans) (f n r h.0) (each_all P Q f (n + 1) rans h.1)

pub each_map : (P : ℕ → Ran → Type 0) (Q : ℕ → Listed Event → Type 0) → ((k : ℕ) (r : Ran) → P k r → Q k r.events) → (n : ℕ) (rans : List Ran) → EachFrom P n rans
    → EachFrom Q n (events_of rans)
each_map P Q f n [] h = tt
each_map P Q f n (r ∷ rans) h = (f n r h.0, each_map P Q f (n + 1) rans h.1)

pub each_back : (Q : ℕ → Listed Event → Type 0) (n : ℕ) (rans : List Ran) → EachFrom Q n (events_of rans) → EachFrom (λ k r. Q k r.events) n rans
each_back Q n [] h = tt
each_back Q n (r ∷ rans) h = (h.0, each_back Q (n + 1) rans h.1)

-- beside another list that is numbered so
pub each_zip : {A : Type 0} (I : ℕ → A → Type 0) (P : ℕ → Ran → Type 0) (Q : A → Listed Event → Type 0) → ((k : ℕ) (x : A) (r : Ran) → I k x → P k r → Q x r.events)
    → (n : ℕ) (xs : List A) (rans : List Ran) → length rans ≡ length xs → EachFrom I n xs → EachFrom P n rans → AllZip Q xs (events_of rans)
each_zip I P Q f n [] [] e here there = tt
each_zip I P Q f n [] (r ∷ rans) e here there = absurd (omega (arith, e))
each_zip I P Q f n (x ∷ xs) [] e here there = absurd (omega (arith, e))
each_zip I P Q f n (x ∷ xs) (r ∷ rans) e here there = (f n x r here.0 there.0, each_zip I P Q f (n + 1) xs rans (omega (arith, e)) here.1 there.1)

-- ---- the threads of the machine

abbrev script_of : ℕ × CpuPlan → ℕ × List Word
script_of c = (c.0, all_words c.1.script)

abbrev reader_script : ReaderPlan → ℕ × List Word
reader_script r = (count_of r.cpu, all_words r.script)

abbrev pub cpu_of_thread : Plan → ℕ → ℕ
cpu_of_thread m thread = (thread_at m thread).0

pub threads_at : (m : Plan) → EachFrom (λ k s. thread_at m k ≡ s) 0 (threads_of m)
threads_at m =
    each_from (λ k s. thread_at m k ≡ s) 0 (threads_of m) (λ k d low.
    let e : 0 + k ≡ k = omega arith in
    ap (thread_at m) e ∙ get_or_default (threads_of m) k (0, []) d low)

firsts : (m : Plan) (n : ℕ) (ss : List (ℕ × List Word)) → EachFrom (λ k s. thread_at m k ≡ s) n ss → EachFrom (λ k x. x ≡ cpu_of_thread m k) n (map (λ s. s.0) ss)
firsts m n [] h = tt
firsts m n (s ∷ ss) h = (sym (ap (λ (x : ℕ × List Word). x.0) h.0), firsts m (n + 1) ss h.1)

-- the CPU of each
pub cpus_at : (m : Plan) → EachFrom (λ k x. x ≡ cpu_of_thread m k) 0 (map (λ s. s.0) (threads_of m))
cpus_at m = firsts m 0 (threads_of m) (threads_at m)

pub cpus_count : (m : Plan) → length (map (λ (s : ℕ × List Word). s.0) (threads_of m)) ≡ length (threads_of m)
cpus_count m = length-map (threads_of m) (λ (s : ℕ × List Word). s.0)

script_numbers : (n : ℕ) (cs : List CpuPlan) → EachFrom (λ k s. s.0 ≡ k) n (map script_of (enumerate_from n cs))
script_numbers n [] = tt
script_numbers n (c ∷ cs) = (refl, script_numbers (n + 1) cs)

-- a CPU's own thread has its number
pub owner_cpu : (m : Plan) (cpu : ℕ) → cpu < cpu_count m → cpu_of_thread m cpu ≡ cpu
owner_cpu m cpu low =
    let scripts : List (ℕ × List Word) = map script_of (enumerate_from 0 m.cpu) in
    let count : length scripts ≡ cpu_count m = length-map (enumerate_from 0 m.cpu) script_of ∙ length-enumerate_from 0 m.cpu in
    let within : cpu < length scripts = omega (arith, low, count) in
    let number : 0 + cpu ≡ cpu = omega arith in
    ap (λ (s : ℕ × List Word). s.0) (get_or_append_left scripts (map reader_script m.reader) (0, []) cpu within)
    ∙ each_at (λ k (s : ℕ × List Word). s.0 ≡ k) 0 scripts cpu (0, []) within (script_numbers 0 m.cpu) ∙ number

scripts_below : (top n : ℕ) (cs : List CpuPlan) → n + length cs ≤ top → All (λ s. s.0 < top) (map script_of (enumerate_from n cs))
scripts_below top n [] low = All-nil (λ (s : ℕ × List Word). s.0 < top)
scripts_below top n (c ∷ cs) low =
    All-cons (λ (s : ℕ × List Word). s.0 < top) (script_of (n, c)) (map script_of (enumerate_from (n + 1) cs)) (omega (arith, low))
    (scripts_below top (n + 1) cs (omega (arith, low)))

-- each thread is on a CPU of the machine
pub thread_cpu : (m : Plan) (thread : ℕ) → IsWithinLimits m → thread < length (threads_of m) → cpu_of_thread m thread < cpu_count m
thread_cpu m thread limits low =
    let Below : ℕ × List Word → Type 0 = λ s. s.0 < cpu_count m in
    let readers : All Below (map reader_script m.reader) =
    All-map Below reader_script m.reader (All-weaker (IsReader (cpu_count m)) (λ (r : ReaderPlan). count_of r.cpu < cpu_count m) (λ r h. h.cpu.1) m.reader limits.ranges.reader) in
    All-get_or Below (threads_of m) thread (0, []) low
    (All-append Below (map script_of (enumerate_from 0 m.cpu)) (map reader_script m.reader) (scripts_below (cpu_count m) 0 m.cpu (omega arith)) readers)

-- ---- a CPU's own events are those of the thread with its number

own_at : (xs : List (Listed Event)) (k : ℕ) (d : Listed Event) → k < length xs → flat_map (λ es. es.items) (take 1 (drop k xs)) ≡ (get_or xs k d).items
own_at xs k d low =
    ap (λ (ys : List (Listed Event)). flat_map (λ es. es.items) (take 1 ys)) (drop-cons xs k d low) ∙ append-nil (get_or xs k d).items

pub own_each : (t : Trace) (rans : List Ran) → t.threads.items ≡ events_of rans → EachFrom (λ k r. own_events k t ≡ r.events.items) 0 rans
own_each t rans e =
    let Own : ℕ → Listed Event → Type 0 = λ k es. own_events k t ≡ es.items in
    let all : EachFrom Own 0 t.threads.items = each_from Own 0 t.threads.items (λ k d low.
    let z : k ≡ 0 + k = omega arith in
    subst (λ i. own_events i t ≡ (get_or t.threads.items k d).items) z (own_at t.threads.items k d low)) in
    each_back Own 0 rans (subst (EachFrom Own 0) e all)

-- ---- the steps of all threads

abbrev pub placed_from : Plan → ℕ → List Ran → List Placed
placed_from m n [] = []
placed_from m n (r ∷ rans) = steps_from n (cpu_of_thread m n) 0 r.events.items ++ placed_from m (n + 1) rans

pub placed_are : (m : Plan) (n : ℕ) (cpus : List ℕ) (rans : List Ran) → length rans ≡ length cpus → EachFrom (λ k x. x ≡ cpu_of_thread m k) n cpus
    → all_steps n cpus (events_of rans) ≡ placed_from m n rans
placed_are m n [] [] e h = refl
placed_are m n [] (r ∷ rans) e h = absurd (omega (arith, e))
placed_are m n (c ∷ cpus) [] e h = absurd (omega (arith, e))
placed_are m n (c ∷ cpus) (r ∷ rans) e h =
    ap (λ k. steps_from n k 0 r.events.items ++ all_steps (n + 1) cpus (events_of rans)) h.0
    ∙ ap (λ (ps : List Placed). steps_from n (cpu_of_thread m n) 0 r.events.items ++ ps) (placed_are m (n + 1) cpus rans (omega (arith, e)) h.1)

-- what holds of each thread's steps holds of all
pub placed_all : (m : Plan) (P : Placed → Type 0) (F : ℕ → Ran → Type 0) → ((k : ℕ) (r : Ran) → F k r → All P (steps_from k (cpu_of_thread m k) 0 r.events.items))
    → (n : ℕ) (rans : List Ran) → EachFrom F n rans → All P (placed_from m n rans)
placed_all m P F f n [] h = All-nil P
placed_all m P F f n (r ∷ rans) h =
    All-append P (steps_from n (cpu_of_thread m n) 0 r.events.items) (placed_from m (n + 1) rans) (f n r h.0) (placed_all m P F f (n + 1) rans h.1)

-- the words have them of the seats
pub placed_mine : (m : Plan) (F : ℕ → Ran → Type 0)
    → ((k : ℕ) (r : Ran) → F k r → r.ended.view.mine ≡ map numbered (steps_from k (cpu_of_thread m k) 0 r.events.items))
    → (n : ℕ) (rans : List Ran) → EachFrom F n rans → flat_map (λ (r : Ran). r.ended.view.mine) rans ≡ map numbered (placed_from m n rans)
placed_mine m F f n [] h = refl
placed_mine m F f n (r ∷ rans) h =
    let here : List Placed = steps_from n (cpu_of_thread m n) 0 r.events.items in
    ap (λ (xs : List Step). xs ++ flat_map (λ (x : Ran). x.ended.view.mine) rans) (f n r h.0)
    ∙ ap (λ (xs : List Step). map numbered here ++ xs) (placed_mine m F f (n + 1) rans h.1)
    ∙ sym (map-append numbered here (placed_from m (n + 1) rans))
