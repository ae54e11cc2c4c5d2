-- How much a record adds for a counter value, whatever machine they are of.
use Rattle.std.proofs.Common.{◌≡◌, ℕ, ◌+◌, ◌-◌, ◌*◌, ◌/◌, ◌%◌, ◌^◌, ◌<◌, ◌≤◌, ℤ, pos, ◌+ℤ◌, ⊎_elim, sym, ap, ◌∙◌, subst, arith}
use Rattle.std.specs.Prelude.{nat_lt, if◌then◌else◌}
use Rattle.std.proofs.Math.Nat.{mul-le-mul_right, mod-lt}
use Rattle.std.proofs.lemmas.Nat.{div-add-mod', pow-add, pow_pos}
use Rattle.std.proofs.lemmas.Bool.{cases_lt}
use Rattle.std.proofs.lemmas.Bool.Decides.{nat_tests}
use Rattle.std.proofs.lemmas.Int.{ints}
use mir.Syntax.{w64}
use mir.Val.{to_z, of_z}
use Rattle.clk_num.specs.declared.rate.Rate.{Rate}
use Rattle.clk_num.specs.Conversion.{convert}
use Rattle.clk_num.specs.Masked.{mask_of, turned, masked_delta}
use Rattle.clk_num.specs.Range.{IsFrom0To}
use Rattle.clk_num.specs.Wrapping.{IsValue, above, wrap}
use Rattle.clk_num.proofs.Wraps.{wrapped}
use Rattle.clk_num.proofs.Heights.{sum_is}
use Rattle.clk_machine.specs.Plan.{Plan, count_of}
use Rattle.clk_machine.specs.Limits.{IsWithinLimits}
use Rattle.clk_machine.specs.Time.{sched_rate}
use Rattle.clk_machine.proofs.Bounds.{convert_small, width_few}

-- a remainder by m, where x lies d above or below a multiple of m
remainder_above : (x q r m t d : ℕ) → q * m + r ≡ x → r < m → x ≡ t * m + d → r ≤ d
remainder_above x q r m t d e small above =
    ⊎_elim
    (λ (less : q < t). let up : (q + 1) * m ≤ t * m = mul-le-mul_right m (omega arith) in absurd (omega (arith, e, small, above, up)))
    (λ (more : t ≤ q). let up : t * m ≤ q * m = mul-le-mul_right m more in omega (arith, e, above, up))
    (cases_lt q t)

remainder_below : (x q r m t d : ℕ) → q * m + r ≡ x → x + d ≡ t * m → 0 < d → m ≤ r + d
remainder_below x q r m t d e below some =
    ⊎_elim
    (λ (less : q < t). let up : (q + 1) * m ≤ t * m = mul-le-mul_right m (omega arith) in omega (arith, e, below, up))
    (λ (more : t ≤ q). let up : t * m ≤ q * m = mul-le-mul_right m more in absurd (omega (arith, e, below, up, some)))
    (cases_lt q t)

-- a difference counts where it is at most half the mask
chosen : (half r n : ℕ) → (r ≤ half → r ≤ n) → (if nat_lt half r then 0 else r) ≤ n
chosen half r n few =
    ⊎_elim
    (λ (far : half < r). grind (arith, nat_tests))
    (λ (near : r ≤ half). let most = few near in grind (arith, nat_tests))
    (cases_lt half r)

-- a turn of the counter goes a whole number of times into 2^64
turns : (bits : ℕ) → bits ≤ 64 → 2 ^ (64 - bits) * 2 ^ bits ≡ 2 ^ 64
turns bits width = sym (pow-add 2 (64 - bits) bits) ∙ (let e : 64 - bits + bits ≡ 64 = omega (arith, width) in ap (λ k. 2 ^ k) e)

-- a masked difference is at most the greater of the two
pub delta_few : (bits now last n : ℕ) → bits ≤ 64 → now ≤ n → last ≤ n → n < 2 ^ 64 → masked_delta now last bits ≤ n
delta_few bits now last n width a b fits =
    let x : ℕ = now + 2 ^ 64 - last in
    let whole = turns bits width in
    let some = pow_pos bits in
    let small : turned now last bits < 2 ^ bits = mod-lt (now + 2 ^ 64 - last) some in
    let parts : (now + 2 ^ 64 - last) / 2 ^ bits * 2 ^ bits + turned now last bits ≡ now + 2 ^ 64 - last = div-add-mod' (now + 2 ^ 64 - last) (2 ^ bits) in
    chosen (mask_of bits / 2) (turned now last bits) n (λ near.
    ⊎_elim
    (λ (back : now < last).
    let gone = remainder_below (now + 2 ^ 64 - last) ((now + 2 ^ 64 - last) / 2 ^ bits) (turned now last bits) (2 ^ bits) (2 ^ (64 - bits)) (last - now) parts (omega (arith, whole, back, fits, b)) (omega (arith, back)) in
    omega (arith, gone, near, b, some))
    (λ (on : last ≤ now).
    let gone = remainder_above (now + 2 ^ 64 - last) ((now + 2 ^ 64 - last) / 2 ^ bits) (turned now last bits) (2 ^ bits) (2 ^ (64 - bits)) (now - last) parts small (omega (arith, whole, on)) in
    omega (arith, gone, a))
    (cases_lt now last))

-- so the cycles since a record are few, and their ns
pub added_few : (m : Plan) (now last : ℕ) → IsWithinLimits m → now ≤ 83 * 2 ^ 41 → last ≤ 83 * 2 ^ 41
    → convert (masked_delta now last (count_of m.bits)) (sched_rate m) ≤ 41 * 2 ^ 52
added_few m now last l a b =
    let width = width_few m.bits l.ranges.bits in
    let few = delta_few (count_of m.bits) now last (83 * 2 ^ 41) width.1 a b (omega arith) in
    omega (arith, convert_small m (masked_delta now last (count_of m.bits)) l.ranges, few)

-- the conversion of the cycles since a record, as the code finds it
pub is_added : (m : Plan) (now last bits cycles : ℕ) (rate : Rate) → IsWithinLimits m → now ≤ 83 * 2 ^ 41 → last ≤ 83 * 2 ^ 41
    → pos bits ≡ m.bits → cycles ≡ masked_delta now last bits → rate ≡ sched_rate m
    → (convert cycles rate ≡ convert (masked_delta now last (count_of m.bits)) (sched_rate m)) × (convert cycles rate ≤ 41 * 2 ^ 52)
is_added m now last bits cycles rate l a b width delta same =
    let bits_are : bits ≡ count_of m.bits = ap count_of width in
    let cycles_are : cycles ≡ masked_delta now last (count_of m.bits) = delta ∙ ap (masked_delta now last) bits_are in
    let ns_are : convert cycles rate ≡ convert (masked_delta now last (count_of m.bits)) (sched_rate m) =
    ap (λ n. convert n rate) cycles_are ∙ ap (convert (masked_delta now last (count_of m.bits))) same in
    (ns_are, subst (λ n. n ≤ 41 * 2 ^ 52) (sym ns_are) (added_few m now last l a b))

-- the sum of a record's ns and those, as the code adds them
pub ns_is : (ns : ℤ) (more : ℕ) → IsValue ns → more ≤ 41 * 2 ^ 52 → to_z w64 ((of_z w64 ns + more) % 2 ^ 64) ≡ wrap (ns +ℤ pos more)
ns_is ns more fits few = sum_is ns (pos more) fits (omega (arith, ints, few))

-- it is as far above the record's ns as those are many
pub sum_above : (ns : ℤ) (more : ℕ) → more ≤ 41 * 2 ^ 52 → IsFrom0To (41 * 2 ^ 52) (above (wrap (ns +ℤ pos more)) ns)
sum_above ns more few = (omega (arith, ints, wrapped, few), omega (arith, ints, wrapped, few))

-- a signed word holds a sum that wraps
pub sum_stays : (ns n : ℤ) → ns ≡ wrap n → to_z w64 (of_z w64 ns) ≡ ns
sum_stays ns n is = omega (arith, ints, wrapped, is)
