-- Delays and jumps stand in order, and the sum beside the last that passed is that of all that passed.
use Rattle.std.proofs.Common.{◌≡◌, ℕ, zero, suc, ◌+◌, ◌-◌, ◌<◌, ◌≤◌, Bool, true, false, cond, ◌==◌, ℤ, pos, negsuc, nat_abs, ◌+ℤ◌, ◌-ℤ◌, ◌≤ℤ◌, ◌<ℤ◌, ◌≢◌, int_le, List, [], ◌∷◌, length, get_or, map, refl, sym, ◌∙◌, arith}
use Rattle.std.specs.List.{sum_by}
use Rattle.std.proofs.lemmas.Int.{ints}
use Rattle.std.proofs.lemmas.Bool.Decides.{nat_tests}
use Rattle.std.proofs.lemmas.List.Sums.{sum_by-cons}
use Rattle.clk_machine.specs.declared.parts.Delay.{Delay}
use Rattle.clk_machine.specs.declared.parts.Jump.{Jump}
use Rattle.clk_num.specs.Range.{IsNear}
use Rattle.clk_machine.specs.Plan.{DelayPlan, JumpPlan, delay_plan, jump_plan, count_of}
use Rattle.clk_machine.specs.Limits.{TicketsRise, TimesRise, jump_sizes, AreJumps}
use Rattle.clk_machine.specs.Sums.{PassesUpTo, delays_summed, jumps_summed}
use Rattle.clk_machine.specs.Time.{delayed, jumped}

-- ---- order

tickets_above : (before : ℤ) (ds : List Delay) (i : ℕ) (d : Delay) → TicketsRise before (map delay_plan ds) → i < length ds → before <ℤ (get_or ds i d).ticket
tickets_above before [] i d h low = absurd (omega arith)
tickets_above before (e ∷ ds) zero d h low = h.0
tickets_above before (e ∷ ds) (suc i) d h low =
    let more = tickets_above e.ticket ds i d h.1 (omega arith) in
    let here = h.0 in
    omega (arith, ints)

pub tickets_ordered : (before : ℤ) (ds : List Delay) (i j : ℕ) (d : Delay) → TicketsRise before (map delay_plan ds) → i ≤ j → j < length ds
    → (get_or ds i d).ticket ≤ℤ (get_or ds j d).ticket
tickets_ordered before [] i j d h le low = absurd (omega arith)
tickets_ordered before (e ∷ ds) zero zero d h le low = omega (arith, ints)
tickets_ordered before (e ∷ ds) zero (suc j) d h le low = let more = tickets_above e.ticket ds j d h.1 (omega arith) in omega (arith, ints)
tickets_ordered before (e ∷ ds) (suc i) zero d h le low = absurd (omega arith)
tickets_ordered before (e ∷ ds) (suc i) (suc j) d h le low = tickets_ordered e.ticket ds i j d h.1 (omega arith) (omega arith)

times_above : (from : ℤ) (js : List Jump) (i : ℕ) (d : Jump) → TimesRise from (map jump_plan js) → i < length js → from ≤ℤ (get_or js i d).at
times_above from [] i d h low = absurd (omega arith)
times_above from (j ∷ js) zero d h low = h.0
times_above from (j ∷ js) (suc i) d h low =
    let more = times_above j.at js i d h.1 (omega arith) in
    let here = h.0 in
    omega (arith, ints)

pub times_ordered : (from : ℤ) (js : List Jump) (i k : ℕ) (d : Jump) → TimesRise from (map jump_plan js) → i ≤ k → k < length js
    → (get_or js i d).at ≤ℤ (get_or js k d).at
times_ordered from [] i k d h le low = absurd (omega arith)
times_ordered from (j ∷ js) zero zero d h le low = omega (arith, ints)
times_ordered from (j ∷ js) zero (suc k) d h le low = let more = times_above j.at js k d h.1 (omega arith) in omega (arith, ints)
times_ordered from (j ∷ js) (suc i) zero d h le low = absurd (omega arith)
times_ordered from (j ∷ js) (suc i) (suc k) d h le low = times_ordered j.at js i k d h.1 (omega arith) (omega arith)

-- what is not above something that is not above z is not above z
pub not_above : (a b z : ℤ) → a ≤ℤ b → int_le b z ≡ true → int_le a z ≡ true
not_above (pos a) (pos b) (pos z) le h = let l : a ≤ b = omega (arith, ints) in grind (arith, nat_tests)
not_above (pos a) (pos b) (negsuc z) le h = absurd (cc)
not_above (pos a) (negsuc b) z le h = absurd (omega (arith, ints))
not_above (negsuc a) (pos b) (pos z) le h = refl
not_above (negsuc a) (pos b) (negsuc z) le h = absurd (cc)
not_above (negsuc a) (negsuc b) (pos z) le h = refl
not_above (negsuc a) (negsuc b) (negsuc z) le h = let l : b ≤ a = omega (arith, ints) in grind (arith, nat_tests)

-- a number that is not 0, and what is before it
not_zero : (m : ℕ) → (suc m == 0) ≡ false
not_zero m = grind (arith, nat_tests)

one_less : (m : ℕ) → suc m - 1 ≡ m
one_less m = omega arith

-- ---- sums

-- no delay that does not pass counts
none_delayed : (k : ℕ) (ds : List Delay) → ((i : ℕ) (d : Delay) → i < length ds → int_le (get_or ds i d).ticket (pos k) ≡ false) → delayed k (map delay_plan ds) ≡ 0
none_delayed k [] h = refl
none_delayed k (e ∷ ds) h =
    let rest = none_delayed k ds (λ i d low. h (suc i) d (omega arith)) in
    let here = h 0 e (omega arith) in
    sum_by-cons (λ (d : DelayPlan). cond (int_le d.ticket (pos k)) (count_of d.ns) 0) (delay_plan e) (map delay_plan ds) ∙ (rw here (omega (arith, rest)))

-- the sum of all that passed, after so many
pub delayed_is : (k b : ℕ) (ds : List Delay) (n : ℕ) (d : Delay) → PassesUpTo (λ e. int_le e.ticket (pos k)) ds n
    → b + delayed k (map delay_plan ds) ≡ cond (n == 0) b (get_or (delays_summed b ds) (n - 1) d).sum
delayed_is k b [] zero d p = omega arith
delayed_is k b [] (suc n) d p = (let bound = p.bound in absurd (omega arith))
delayed_is k b (e ∷ ds) zero d p = (let none = none_delayed k (e ∷ ds) (λ i f low. p.above i f (omega arith) low) in omega (arith, none))
delayed_is k b (e ∷ ds) (suc n) d p =
    let here : int_le e.ticket (pos k) ≡ true = p.below 0 e (omega arith) in
    let bound = p.bound in
    let rest = delayed_is k (b + count_of e.ns) ds n d
    (record { bound = omega arith; below = λ i f low. p.below (suc i) f (omega arith); above = λ i f le low. p.above (suc i) f (omega arith) (omega arith) }) in
    let whole = sum_by-cons (λ (f : DelayPlan). cond (int_le f.ticket (pos k)) (count_of f.ns) 0) (delay_plan e) (map delay_plan ds) in
    let sum : b + delayed k (map delay_plan (e ∷ ds)) ≡ (b + count_of e.ns) + delayed k (map delay_plan ds) = (rw (whole, here) (omega arith)) in
    sum ∙ rest ∙ rw (not_zero n) (last_of n)
  where
    last_of : (m : ℕ) → cond (m == 0) (b + count_of e.ns) (get_or (delays_summed (b + count_of e.ns) ds) (m - 1) d).sum
        ≡ (get_or (delays_summed b (e ∷ ds)) (suc m - 1) d).sum
    last_of zero = refl
    last_of (suc m) = rw (not_zero m, one_less (suc m), one_less m) refl

-- no jump that does not pass counts
none_jumped : (t : ℕ) (js : List Jump) → ((i : ℕ) (d : Jump) → i < length js → int_le (get_or js i d).at (pos t) ≡ false) → jumped t (map jump_plan js) ≡ pos 0
none_jumped t [] h = refl
none_jumped t (j ∷ js) h =
    let rest = none_jumped t js (λ i d low. h (suc i) d (omega arith)) in
    let here = h 0 j (omega arith) in
    rw (here, rest)

pub jumped_is : (t : ℕ) (b : ℤ) (js : List Jump) (n : ℕ) (d : Jump) → PassesUpTo (λ j. int_le j.at (pos t)) js n
    → b +ℤ jumped t (map jump_plan js) ≡ cond (n == 0) b (get_or (jumps_summed b js) (n - 1) d).sum
jumped_is t b [] zero d p = omega (arith, ints)
jumped_is t b [] (suc n) d p = (let bound = p.bound in absurd (omega arith))
jumped_is t b (j ∷ js) zero d p = (let none = none_jumped t (j ∷ js) (λ i f low. p.above i f (omega arith) low) in rw none (omega (arith, ints)))
jumped_is t b (j ∷ js) (suc n) d p =
    let here : int_le j.at (pos t) ≡ true = p.below 0 j (omega arith) in
    let bound = p.bound in
    let rest = jumped_is t (b +ℤ j.cycles) js n d
    (record { bound = omega arith; below = λ i f low. p.below (suc i) f (omega arith); above = λ i f le low. p.above (suc i) f (omega arith) (omega arith) }) in
    let sum : b +ℤ jumped t (map jump_plan (j ∷ js)) ≡ (b +ℤ j.cycles) +ℤ jumped t (map jump_plan js) = (rw here (omega (arith, ints))) in
    sum ∙ rest ∙ rw (not_zero n) (last_of n)
  where
    last_of : (m : ℕ) → cond (m == 0) (b +ℤ j.cycles) (get_or (jumps_summed (b +ℤ j.cycles) js) (m - 1) d).sum
        ≡ (get_or (jumps_summed b (j ∷ js)) (suc m - 1) d).sum
    last_of zero = refl
    last_of (suc m) = rw (not_zero m, one_less (suc m), one_less m) refl

-- ---- what the sums of a machine's lists tell

pub none_passed : (k : ℕ) (ds : List Delay) → PassesUpTo (λ e. int_le e.ticket (pos k)) ds 0 → delayed k (map delay_plan ds) ≡ 0
none_passed k ds p = none_delayed k ds (λ i d low. p.above i d (omega arith) low)

pub sum_is_delayed : (k : ℕ) (ds : List Delay) (n : ℕ) (d : Delay) → ds ≡ delays_summed 0 ds → PassesUpTo (λ e. int_le e.ticket (pos k)) ds n → n ≢ 0
    → (get_or ds (n - 1) d).sum ≡ delayed k (map delay_plan ds)
sum_is_delayed k ds zero d sums p some = absurd (some refl)
sum_is_delayed k ds (suc n) d sums p some =
    let all = rw (not_zero n, ← sums) at (delayed_is k 0 ds (suc n) d p) in
    sym all ∙ omega arith

pub no_jump_passed : (t : ℕ) (js : List Jump) → PassesUpTo (λ j. int_le j.at (pos t)) js 0 → jumped t (map jump_plan js) ≡ pos 0
no_jump_passed t js p = none_jumped t js (λ i d low. p.above i d (omega arith) low)

pub sum_is_jumped : (t : ℕ) (js : List Jump) (n : ℕ) (d : Jump) → js ≡ jumps_summed (pos 0) js → PassesUpTo (λ j. int_le j.at (pos t)) js n → n ≢ 0
    → (get_or js (n - 1) d).sum ≡ jumped t (map jump_plan js)
sum_is_jumped t js zero d sums p some = absurd (some refl)
sum_is_jumped t js (suc n) d sums p some =
    let all = rw (not_zero n, ← sums) at (jumped_is t (pos 0) js (suc n) d p) in
    sym all ∙ omega (arith, ints)

-- ---- and how much they come to at most

pub delayed_few : (k : ℕ) (ds : List DelayPlan) → delayed k ds ≤ sum_by (λ d. count_of d.ns) ds
delayed_few k [] = omega arith
delayed_few k (d ∷ ds) =
    let rest = delayed_few k ds in
    let a = sum_by-cons (λ (e : DelayPlan). cond (int_le e.ticket (pos k)) (count_of e.ns) 0) d ds in
    let b = sum_by-cons (λ (e : DelayPlan). count_of e.ns) d ds in
    let here = at_most_all (int_le d.ticket (pos k)) (count_of d.ns) in
    omega (arith, rest, a, b, here)
  where
    at_most_all : (b : Bool) (n : ℕ) → cond b n 0 ≤ n
    at_most_all true n = omega arith
    at_most_all false n = omega arith

within_more : (b : Bool) (z rest : ℤ) (n : ℕ) → (pos 0 -ℤ pos n) ≤ℤ rest → rest ≤ℤ pos n
    → ((pos 0 -ℤ pos (nat_abs z + n)) ≤ℤ (cond b z (pos 0) +ℤ rest)) × ((cond b z (pos 0) +ℤ rest) ≤ℤ pos (nat_abs z + n))
within_more true z rest n low high = (omega (arith, ints), omega (arith, ints))
within_more false z rest n low high = (omega (arith, ints), omega (arith, ints))

jumped_within : (t : ℕ) (js : List JumpPlan) → ((pos 0 -ℤ pos (jump_sizes js)) ≤ℤ jumped t js) × (jumped t js ≤ℤ pos (jump_sizes js))
jumped_within t [] = (omega (arith, ints), omega (arith, ints))
jumped_within t (j ∷ js) =
    let rest = jumped_within t js in
    let low = rest.0 in
    let high = rest.1 in
    let whole = sum_by-cons (λ (i : JumpPlan). nat_abs i.cycles) j js in
    rw whole (within_more (int_le j.at (pos t)) j.cycles (jumped t js) (jump_sizes js) low high)

pub jumped_near : (t : ℕ) (js : List JumpPlan) → AreJumps js → IsNear 44 (jumped t js)
jumped_near t js a =
    let (low, high) = jumped_within t js in
    let few = a.sizes in
    (omega (arith, ints), omega (arith, ints))
