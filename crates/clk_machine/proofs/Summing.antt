-- Sums beside the items of a list, as a loop puts them there.
use Rattle.std.proofs.Common.{◌≡◌, ℕ, zero, suc, ◌+◌, ◌<◌, ◌≤◌, ◌^◌, ℤ, pos, ◌+ℤ◌, ◌-ℤ◌, ◌≤ℤ◌, nat_abs, List, [], ◌∷◌, ◌++◌, length, get_or, take, drop, set, map, FitsSigned, w64, refl, ◌∙◌, ap, add-one, arith}
use Rattle.std.specs.List.{All, sum_by}
use Rattle.std.proofs.lemmas.List.Elements.{All-nil, All-cons, All-head, All-tail}
use Rattle.std.proofs.lemmas.Int.{ints}
use Rattle.std.proofs.lemmas.List.Sums.{sum_by-cons, sum_by_push, sum_by_more_le}
use Rattle.std.proofs.lemmas.List.{take_more}
use Rattle.clk_machine.specs.declared.parts.Delay.{Delay}
use Rattle.clk_machine.specs.declared.parts.Jump.{Jump}
use Rattle.clk_machine.specs.declared.parts.CpuPart.{CpuPart}
use Rattle.clk_machine.specs.declared.parts.SourcePart.{SourcePart}
use Rattle.clk_machine.specs.declared.parts.Parts.{Parts}
use Rattle.clk_machine.specs.Plan.{JumpPlan, DelayPlan, CpuPlan, SourcePlan, jump_plan, delay_plan, cpu_plan, source_plan, plan_of, count_of}
use Rattle.clk_machine.specs.Limits.{IsWithin, jump_sizes}
use Rattle.clk_machine.specs.Sums.{delays_summed, jumps_summed, cpu_summed, source_summed, summed, HasJumpSums}

-- the cycles of jumps, and their size
abbrev pub cycles_of : List Jump → ℤ
cycles_of [] = pos 0
cycles_of (j ∷ js) = j.cycles +ℤ cycles_of js

abbrev pub size_of : List Jump → ℕ
size_of js = sum_by (λ j. nat_abs j.cycles) js

pub cycles_within : (js : List Jump) → ((pos 0 -ℤ pos (size_of js)) ≤ℤ cycles_of js) × (cycles_of js ≤ℤ pos (size_of js))
cycles_within [] = (omega (arith, ints), omega (arith, ints))
cycles_within (j ∷ js) =
    let rest = cycles_within js in
    let low = rest.0 in
    let high = rest.1 in
    let whole = sum_by-cons (λ (i : Jump). nat_abs i.cycles) j js in
    rw whole (omega (arith, ints), omega (arith, ints))

-- no jump and no sum leaves its type
pub one_fits : (js : List Jump) (i : ℕ) (d : Jump) → i < length js → size_of js ≤ 2 ^ 44 → FitsSigned w64 (get_or js i d).cycles
one_fits js i d h few = let more = sum_by_more_le (λ (j : Jump). nat_abs j.cycles) js i d h in omega (arith, ints)

pub fits_sum : (js : List Jump) (i : ℕ) (d : Jump) → i < length js → size_of js ≤ 2 ^ 44 → FitsSigned w64 (cycles_of (take i js) +ℤ (get_or js i d).cycles)
fits_sum js i d h few =
    let more = sum_by_more_le (λ (j : Jump). nat_abs j.cycles) js i d h in
    let so_far = cycles_within (take i js) in
    let low = so_far.0 in
    let high = so_far.1 in
    omega (arith, ints)

-- the item where a loop stands is still as it was
pub jump_at : (b : ℤ) (js : List Jump) (i : ℕ) (d : Jump) → i < length js → get_or (jumps_summed b (take i js) ++ drop i js) i d ≡ get_or js i d
jump_at b [] i d h = absurd (omega arith)
jump_at b (j ∷ js) zero d h = refl
jump_at b (j ∷ js) (suc i) d h = jump_at (b +ℤ j.cycles) js i d (omega arith)

pub delay_at : (b : ℕ) (ds : List Delay) (i : ℕ) (d : Delay) → i < length ds → get_or (delays_summed b (take i ds) ++ drop i ds) i d ≡ get_or ds i d
delay_at b [] i d h = absurd (omega arith)
delay_at b (e ∷ ds) zero d h = refl
delay_at b (e ∷ ds) (suc i) d h = delay_at (b + count_of e.ns) ds i d (omega arith)

-- one more sum in its place
pub jump_summed : (b : ℤ) (js : List Jump) (i : ℕ) (d : Jump) → i < length js
    → set (jumps_summed b (take i js) ++ drop i js) i (record (get_or js i d) { sum = (b +ℤ cycles_of (take i js)) +ℤ (get_or js i d).cycles })
    ≡ jumps_summed b (take (suc i) js) ++ drop (suc i) js
jump_summed b [] i d h = absurd (omega arith)
jump_summed b (j ∷ js) zero d h =
    let e : (b +ℤ pos 0) +ℤ j.cycles ≡ b +ℤ j.cycles = omega (arith, ints) in
    rw e refl
jump_summed b (j ∷ js) (suc i) d h =
    let e : (b +ℤ (j.cycles +ℤ cycles_of (take i js))) +ℤ (get_or js i d).cycles ≡ ((b +ℤ j.cycles) +ℤ cycles_of (take i js)) +ℤ (get_or js i d).cycles = omega (arith, ints) in
    rw e (ap (λ l. record j { sum = b +ℤ j.cycles } ∷ l) (jump_summed (b +ℤ j.cycles) js i d (omega arith)))

pub delay_summed : (b : ℕ) (ds : List Delay) (i : ℕ) (d : Delay) → i < length ds
    → set (delays_summed b (take i ds) ++ drop i ds) i (record (get_or ds i d) { sum = (b + sum_by (λ e. count_of e.ns) (take i ds)) + count_of (get_or ds i d).ns })
    ≡ delays_summed b (take (suc i) ds) ++ drop (suc i) ds
delay_summed b [] i d h = absurd (omega arith)
delay_summed b (e ∷ ds) zero d h =
    let s : (b + 0) + count_of e.ns ≡ b + count_of e.ns = omega arith in
    rw s refl
delay_summed b (e ∷ ds) (suc i) d h =
    let whole = sum_by-cons (λ (f : Delay). count_of f.ns) e (take i ds) in
    let s : (b + sum_by (λ f. count_of f.ns) (e ∷ take i ds)) + count_of (get_or ds i d).ns
    ≡ ((b + count_of e.ns) + sum_by (λ f. count_of f.ns) (take i ds)) + count_of (get_or ds i d).ns = omega (arith, whole) in
    rw s (ap (λ l. record e { sum = b + count_of e.ns } ∷ l) (delay_summed (b + count_of e.ns) ds i d (omega arith)))

-- the cycles of one jump more
pub cycles_more : (js : List Jump) (i : ℕ) (d : Jump) → i < length js → cycles_of (take (suc i) js) ≡ cycles_of (take i js) +ℤ (get_or js i d).cycles
cycles_more [] i d h = absurd (omega arith)
cycles_more (j ∷ js) zero d h = omega (arith, ints)
cycles_more (j ∷ js) (suc i) d h = let more = cycles_more js i d (omega arith) in omega (arith, ints)

-- the same of all jumps from the first on
pub jump_put : (js : List Jump) (i : ℕ) (d : Jump) → i < length js
    → set (jumps_summed (pos 0) (take i js) ++ drop i js) i (record (get_or js i d) { sum = cycles_of (take i js) +ℤ (get_or js i d).cycles })
    ≡ jumps_summed (pos 0) (take (suc i) js) ++ drop (suc i) js
jump_put js i d h =
    let e : pos 0 +ℤ cycles_of (take i js) ≡ cycles_of (take i js) = omega (arith, ints) in
    rw e at (jump_summed (pos 0) js i d h)

pub delay_put : (ds : List Delay) (i : ℕ) (d : Delay) → i < length ds
    → set (delays_summed 0 (take i ds) ++ drop i ds) i (record (get_or ds i d) { sum = sum_by (λ e. count_of e.ns) (take i ds) + count_of (get_or ds i d).ns })
    ≡ delays_summed 0 (take (suc i) ds) ++ drop (suc i) ds
delay_put ds i d h =
    let e : 0 + sum_by (λ e. count_of e.ns) (take i ds) ≡ sum_by (λ e. count_of e.ns) (take i ds) = omega arith in
    rw e at (delay_summed 0 ds i d h)

-- the ns of one delay more
pub ns_more : (ds : List Delay) (i : ℕ) (d : Delay) → i < length ds
    → sum_by (λ e. count_of e.ns) (take (suc i) ds) ≡ sum_by (λ e. count_of e.ns) (take i ds) + count_of (get_or ds i d).ns
ns_more ds i d h = rw (← add-one i, take_more ds i d h) (sum_by_push (λ (e : Delay). count_of e.ns) (take i ds) (get_or ds i d))

-- ---- a map in place, as a loop makes it

pub map_at : {A : Type 0} (f : A → A) (xs : List A) (i : ℕ) (d : A) → i < length xs → get_or (map f (take i xs) ++ drop i xs) i d ≡ get_or xs i d
map_at f [] i d h = absurd (omega arith)
map_at f (x ∷ xs) zero d h = refl
map_at f (x ∷ xs) (suc i) d h = map_at f xs i d (omega arith)

map_set : {A : Type 0} (f : A → A) (xs : List A) (i : ℕ) (d : A) → i < length xs → set (map f (take i xs) ++ drop i xs) i (f (get_or xs i d)) ≡ map f (take (suc i) xs) ++ drop (suc i) xs
map_set f [] i d h = absurd (omega arith)
map_set f (x ∷ xs) zero d h = refl
map_set f (x ∷ xs) (suc i) d h = ap (λ l. f x ∷ l) (map_set f xs i d (omega arith))

-- the item x of the list ys that a loop has come to stands in the list xs that it began with, and becomes y
pub map_more : {A : Type 0} (f : A → A) (xs ys : List A) (i : ℕ) (x y : A) → ys ≡ map f (take i xs) ++ drop i xs → i < length xs → x ≡ get_or ys i x → y ≡ f x
    → set ys i y ≡ map f (take (i + 1) xs) ++ drop (i + 1) xs
map_more f xs ys i x y same h at e =
    let here : x ≡ get_or xs i x = at ∙ ap (λ zs. get_or zs i x) same ∙ map_at f xs i x h in
    ap (λ zs. set zs i y) same ∙ ap (set (map f (take i xs) ++ drop i xs) i) (e ∙ ap f here) ∙ rw (add-one i) (map_set f xs i x h)

pub map_stands : {A : Type 0} (f : A → A) (xs ys : List A) (i : ℕ) (x : A) → ys ≡ map f (take i xs) ++ drop i xs → i < length xs → x ≡ get_or ys i x → x ≡ get_or xs i x
map_stands f xs ys i x same h at = at ∙ ap (λ zs. get_or zs i x) same ∙ map_at f xs i x h

-- the size of jumps is that of their plans
pub sizes_of_plan : (js : List Jump) → jump_sizes (map jump_plan js) ≡ size_of js
sizes_of_plan [] = refl
sizes_of_plan (j ∷ js) =
    let rest = sizes_of_plan js in
    let a = sum_by-cons (λ (i : JumpPlan). nat_abs i.cycles) (jump_plan j) (map jump_plan js) in
    let b = sum_by-cons (λ (i : Jump). nat_abs i.cycles) j js in
    omega (arith, rest, a, b)

-- ---- what sums leave as it is

jumps_kept : (b : ℤ) (js : List Jump) → map jump_plan (jumps_summed b js) ≡ map jump_plan js
jumps_kept b [] = refl
jumps_kept b (j ∷ js) = ap (λ l. jump_plan j ∷ l) (jumps_kept (b +ℤ j.cycles) js)

delays_kept : (b : ℕ) (ds : List Delay) → map delay_plan (delays_summed b ds) ≡ map delay_plan ds
delays_kept b [] = refl
delays_kept b (d ∷ ds) = ap (λ l. delay_plan d ∷ l) (delays_kept (b + count_of d.ns) ds)

cpus_kept : (cs : List CpuPart) → map cpu_plan (map cpu_summed cs) ≡ map cpu_plan cs
cpus_kept [] = refl
cpus_kept (c ∷ cs) =
    ap (λ (l : List JumpPlan). record (cpu_plan c) { jumps = l } ∷ map cpu_plan (map cpu_summed cs)) (jumps_kept (pos 0) c.jumps.items)
    ∙ ap (λ l. cpu_plan c ∷ l) (cpus_kept cs)

sources_kept : (ss : List SourcePart) → map source_plan (map source_summed ss) ≡ map source_plan ss
sources_kept [] = refl
sources_kept (s ∷ ss) =
    ap (λ (l : List JumpPlan). record (source_plan s) { jumps = l } ∷ map source_plan (map source_summed ss)) (jumps_kept (pos 0) s.jumps.items)
    ∙ ap (λ l. source_plan s ∷ l) (sources_kept ss)

-- the plan of the same numbers is the same
pub plan_of-summed : (p : Parts) → plan_of (summed p) ≡ plan_of p
plan_of-summed p =
    ap (λ (l : List CpuPlan). record (plan_of (summed p)) { cpu = l }) (cpus_kept p.cpu.items)
    ∙ ap (λ (l : List DelayPlan). record (plan_of p) { delay = l; source = map source_plan (map source_summed p.source.items) }) (delays_kept 0 p.delay.items)
    ∙ ap (λ (l : List SourcePlan). record (plan_of p) { source = l }) (sources_kept p.source.items)

-- sums that are in their places stay there
jumps_again : (b : ℤ) (js : List Jump) → jumps_summed b js ≡ jumps_summed b (jumps_summed b js)
jumps_again b [] = refl
jumps_again b (j ∷ js) = ap (λ l. record j { sum = b +ℤ j.cycles } ∷ l) (jumps_again (b +ℤ j.cycles) js)

pub delays_again : (b : ℕ) (ds : List Delay) → delays_summed b ds ≡ delays_summed b (delays_summed b ds)
delays_again b [] = refl
delays_again b (d ∷ ds) = ap (λ l. record d { sum = b + count_of d.ns } ∷ l) (delays_again (b + count_of d.ns) ds)

pub cpus_have_sums : (cs : List CpuPart) → All (λ c. HasJumpSums c.jumps.items) (map cpu_summed cs)
cpus_have_sums [] = All-nil (λ (c : CpuPart). HasJumpSums c.jumps.items)
cpus_have_sums (c ∷ cs) =
    All-cons (λ (d : CpuPart). HasJumpSums d.jumps.items) (cpu_summed c) (map cpu_summed cs) (jumps_again (pos 0) c.jumps.items) (cpus_have_sums cs)

pub sources_have_sums : (ss : List SourcePart) → All (λ s. HasJumpSums s.jumps.items) (map source_summed ss)
sources_have_sums [] = All-nil (λ (s : SourcePart). HasJumpSums s.jumps.items)
sources_have_sums (s ∷ ss) =
    All-cons (λ (t : SourcePart). HasJumpSums t.jumps.items) (source_summed s) (map source_summed ss) (jumps_again (pos 0) s.jumps.items) (sources_have_sums ss)

-- ---- what the ranges tell of delays

pub delay_counts : (ds : List Delay) → All (λ d. IsWithin 0 (2 ^ 39) d.ns) (map delay_plan ds) → All (λ d. IsWithin 0 (2 ^ 39) d.ns) ds
delay_counts [] h = All-nil (λ (d : Delay). IsWithin 0 (2 ^ 39) d.ns)
delay_counts (d ∷ ds) h =
    All-cons (λ (e : Delay). IsWithin 0 (2 ^ 39) e.ns) d ds (All-head (λ (e : DelayPlan). IsWithin 0 (2 ^ 39) e.ns) (delay_plan d) (map delay_plan ds) h)
    (delay_counts ds (All-tail (λ (e : DelayPlan). IsWithin 0 (2 ^ 39) e.ns) (delay_plan d) (map delay_plan ds) h))

pub ns_of_plan : (ds : List Delay) → sum_by (λ d. count_of d.ns) (map delay_plan ds) ≡ sum_by (λ d. count_of d.ns) ds
ns_of_plan [] = refl
ns_of_plan (d ∷ ds) =
    let rest = ns_of_plan ds in
    let a = sum_by-cons (λ (e : DelayPlan). count_of e.ns) (delay_plan d) (map delay_plan ds) in
    let b = sum_by-cons (λ (e : Delay). count_of e.ns) d ds in
    omega (arith, rest, a, b)
