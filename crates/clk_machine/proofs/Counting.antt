-- Words and tickets of scripts, after their repeats.
use Rattle.std.proofs.Common.{◌≡◌, ℕ, zero, suc, ◌+◌, ◌*◌, ◌<◌, ◌≤◌, List, [], ◌∷◌, length, get_or, take, map, refl, sym, ◌∙◌, ap, arith, length-append}
use Rattle.std.specs.List.{sum_by, repeat, enumerate_from}
use Rattle.std.proofs.Math.Nat.{mul-le-mul_left, mul-le-mul_right}
use Rattle.std.proofs.lemmas.List.{get_or-map, length-map, take_more}
use Rattle.std.proofs.lemmas.List.Sums.{sum_by-cons, sum_by-append, sum_by_push, get_or-le-sum_by}
use Rattle.clk_machine.specs.declared.script.Word.{Word}
use Rattle.clk_machine.specs.declared.script.Word.TheVariants.{Local, Remote, Tick, Idle, Update, Pause}
use Rattle.clk_machine.specs.Plan.{Plan, ScriptPlan, CpuPlan, ReaderPlan, count_of, all_words, threads_of, thread_at}
use Rattle.clk_machine.specs.Limits.{IsInRange, IsScript}
use Rattle.clk_machine.specs.Ranges.{script_length}
use Rattle.clk_machine.specs.Tickets.{tickets_of, word_tickets, tickets_needed}
use Rattle.clk_machine.specs.Tested.{HasCount, IsRunnable, script_tickets}

-- a loop's sum over the plans of its items goes on by that of the item where it stands
pub sum_at : {A B : Type 0} (view : A → B) (f : B → ℕ) (xs : List A) (i : ℕ) (x : A) → i < length xs → x ≡ get_or xs i x
    → sum_by f (take (i + 1) (map view xs)) ≡ sum_by f (take i (map view xs)) + f (view x)
sum_at view f xs i x h at =
    let low : i < length (map view xs) = rw (length-map xs view) h in
    let e : get_or (map view xs) i (view x) ≡ view x = get_or-map view xs i x (view x) h ∙ ap view (sym at) in
    rw (take_more (map view xs) i (view x) low, e) (sum_by_push f (take i (map view xs)) (view x))

-- many repeats of few words, or few repeats of many, where each word has so much at most
pub product_few : (most repeats total words : ℕ) → total ≤ words * most → words * repeats ≤ 65536 → repeats * total ≤ 65536 * most
product_few most repeats total words t w =
    let each = mul-le-mul_left repeats t in
    let all = mul-le-mul_right most w in
    omega (arith, each, all)

-- ---- repeats

pub length-repeat : {A : Type 0} (n : ℕ) (xs : List A) → length (repeat n xs) ≡ length xs * n
length-repeat zero xs = omega arith
length-repeat (suc n) xs = let e = length-repeat n xs in simp (length-append, e) (omega arith)

pub sum_by-repeat : {A : Type 0} (f : A → ℕ) (n : ℕ) (xs : List A) → sum_by f (repeat n xs) ≡ sum_by f xs * n
sum_by-repeat f zero xs = omega arith
sum_by-repeat f (suc n) xs = let e = sum_by-repeat f n xs in let more = sum_by-append f xs (repeat n xs) in omega (arith, more, e)

-- ---- what a script that is in range draws

has_count : (cpus : ℕ) (w : Word) → IsInRange cpus w → HasCount w
has_count cpus Local h = tt
has_count cpus (Remote d) h = h.0
has_count cpus Tick h = tt
has_count cpus Idle h = tt
has_count cpus Update h = tt
has_count cpus (Pause n) h = h

pub runnable : (cpus : ℕ) (s : ScriptPlan) → IsScript cpus s → IsRunnable s
runnable cpus s h = record {
  repeat = h.repeat;
  few = (let few = h.few in omega (arith, length-repeat (count_of s.repeat) s.words, few));
  counts = λ k d low. has_count cpus (get_or s.words k d) (h.range k d low);
}

-- what the words of a script add up to after the repeats
pub script_sum : (f : Word → ℕ) (s : ScriptPlan) → sum_by f (all_words s) ≡ count_of s.repeat * sum_by f s.words
script_sum f s = let e = sum_by-repeat f (count_of s.repeat) s.words in omega (arith, e)

-- ---- all threads

-- what the words of the threads add up to is what the scripts do
cpus_sum : (f : List Word → ℕ) (g : ScriptPlan → ℕ) → ((s : ScriptPlan) → f (all_words s) ≡ g s) → (n : ℕ) (cs : List CpuPlan)
    → sum_by (λ (t : ℕ × List Word). f t.1) (map (λ c. (c.0, all_words c.1.script)) (enumerate_from n cs)) ≡ sum_by (λ c. g c.script) cs
cpus_sum f g same n [] = refl
cpus_sum f g same n (c ∷ cs) =
    sum_by-cons (λ (t : ℕ × List Word). f t.1) (n, all_words c.script) (map (λ d. (d.0, all_words d.1.script)) (enumerate_from (n + 1) cs))
    ∙ (let here = same c.script in
    let more = cpus_sum f g same (n + 1) cs in
    omega (arith, here, more, sum_by-cons (λ (d : CpuPlan). g d.script) c cs))

readers_sum : (f : List Word → ℕ) (g : ScriptPlan → ℕ) → ((s : ScriptPlan) → f (all_words s) ≡ g s) → (rs : List ReaderPlan)
    → sum_by (λ (t : ℕ × List Word). f t.1) (map (λ r. (count_of r.cpu, all_words r.script)) rs) ≡ sum_by (λ r. g r.script) rs
readers_sum f g same [] = refl
readers_sum f g same (r ∷ rs) =
    sum_by-cons (λ (t : ℕ × List Word). f t.1) (count_of r.cpu, all_words r.script) (map (λ q. (count_of q.cpu, all_words q.script)) rs)
    ∙ (let here = same r.script in
    let more = readers_sum f g same rs in
    omega (arith, here, more, sum_by-cons (λ (q : ReaderPlan). g q.script) r rs))

pub threads_sum : (f : List Word → ℕ) (g : ScriptPlan → ℕ) → ((s : ScriptPlan) → f (all_words s) ≡ g s) → (m : Plan)
    → sum_by (λ (t : ℕ × List Word). f t.1) (threads_of m) ≡ sum_by (λ c. g c.script) m.cpu + sum_by (λ r. g r.script) m.reader
threads_sum f g same m =
    sum_by-append (λ (t : ℕ × List Word). f t.1) (map (λ c. (c.0, all_words c.1.script)) (enumerate_from 0 m.cpu)) (map (λ r. (count_of r.cpu, all_words r.script)) m.reader)
    ∙ (let a = cpus_sum f g same 0 m.cpu in let b = readers_sum f g same m.reader in omega (arith, a, b))

pub threads_draw : (m : Plan) → word_tickets m ≡ sum_by (λ c. script_tickets c.script) m.cpu + sum_by (λ r. script_tickets r.script) m.reader
threads_draw m = threads_sum (sum_by tickets_of) script_tickets (script_sum tickets_of) m

-- what one thread draws is within what all threads draw
pub thread_draws : (m : Plan) (t : ℕ) → t < length (threads_of m) → sum_by tickets_of (thread_at m t).1 ≤ tickets_needed m
thread_draws m t h = let one = get_or-le-sum_by (λ (u : ℕ × List Word). sum_by tickets_of u.1) (threads_of m) t (0, []) h in omega (arith, one)

pub threads_length : (m : Plan) → sum_by (λ (t : ℕ × List Word). length t.1) (threads_of m) ≡ sum_by (λ c. script_length c.script) m.cpu + sum_by (λ r. script_length r.script) m.reader
threads_length m = threads_sum length script_length (λ s. length-repeat (count_of s.repeat) s.words) m
