-- Masks, and how far a counter of so many bits went.
use Rattle.std.proofs.Common.{◌≡◌, ℕ, ◌+◌, ◌-◌, ◌*◌, ◌/◌, ◌%◌, ◌^◌, ◌<◌, ◌≤◌, bit_and, arith, ap, sym, subst, ◌∙◌, refl, inl, inr}
use Rattle.std.proofs.lemmas.Nat.{and_mask, pow_pos, pow-add, div-add-mod', mod_below, mul-le, le-div}
use Rattle.std.proofs.lemmas.Nat.Bits.{ones_shr}
use Rattle.std.proofs.lemmas.Bool.{cases_lt}
use Rattle.std.proofs.lemmas.Bool.Decides.{nat_tests}
use Rattle.std.specs.Int.{abs_diff}
use Rattle.std.proofs.Math.Nat.{add-mul-mod_self_right, mod-eq_of_lt, le_refl}
use Rattle.std.proofs.Math.Pow.{mod-mod-pow}
use Rattle.clk_num.specs.Masked.{mask_of, low_bits, turned, masked_delta}

-- the mask, as the code shifts it out of all ones
pub mask_shifted : (bits : ℕ) → bits ≤ 64 → (2 ^ 64 - 1) / 2 ^ (64 - bits) ≡ mask_of bits
mask_shifted bits h =
    let back : 64 - (64 - bits) ≡ bits = omega arith in
    ones_shr 64 (64 - bits) (omega arith) ∙ ap (λ b. 2 ^ b - 1) back

-- a shorter mask after a longer one
pub mod_shorter : (n w k : ℕ) → k ≤ w → n % 2 ^ w % 2 ^ k ≡ n % 2 ^ k
mod_shorter n w k h =
    let whole : w - k + k ≡ w = omega arith in
    let P : ℕ → Type 0 = λ v. n % 2 ^ v % 2 ^ k ≡ n % 2 ^ k in
    subst P whole (mod-mod-pow n (w - k) k)

-- the difference as the code takes it: it wraps at 64 bits, and then it is masked
pub wrapped_turn : (now last bits : ℕ) → last < 2 ^ 64 → bits ≤ 64
    → bit_and ((now + (2 ^ 64 - last)) % 2 ^ 64) (mask_of bits) ≡ turned now last bits
wrapped_turn now last bits p q =
    let order : now + (2 ^ 64 - last) ≡ now + 2 ^ 64 - last = omega arith in
    and_mask ((now + (2 ^ 64 - last)) % 2 ^ 64) bits ∙ mod_shorter (now + (2 ^ 64 - last)) 64 bits q ∙ ap (λ n. n % 2 ^ bits) order

-- a difference above half the mask counts as 0
pub too_far : (now last bits delta mask : ℕ) → delta ≡ turned now last bits → mask ≡ mask_of bits → mask / 2 < delta → 0 ≡ masked_delta now last bits
too_far now last bits delta mask d m h = grind (arith, nat_tests)

-- one up to half the mask is taken as it is
pub near : (now last bits delta mask : ℕ) → delta ≡ turned now last bits → mask ≡ mask_of bits → delta ≤ mask / 2 → delta ≡ masked_delta now last bits
near now last bits delta mask d m h = grind (arith, nat_tests)

-- two counts as turns and what is left: the turns between them come out
counts_apart : (m t turns before more a b now last : ℕ) → turns * m + a ≡ now → before * m + b ≡ last → turns ≡ before + more → b ≤ t * m → last ≤ now
    → a + t * m - b + more * m ≡ now - last + t * m
counts_apart m t turns before more a b now last e f g small h =
    let product : turns * m ≡ before * m + more * m = ap (λ n. n * m) g ∙ omega arith in
    omega arith

-- a quotient rises with its number
quotient_rises : (x y m : ℕ) → 0 < m → x ≤ y → x / m ≤ y / m
quotient_rises x y m h le = le-div (x / m) y m h (let e = div-add-mod' x m in omega arith)

-- a whole number of turns t of m counts each comes out of a difference
pub turned_between : (m t now last : ℕ) → 0 < m → 0 < t → last ≤ now → now < last + m → (now % m + t * m - last % m) % m ≡ now - last
turned_between m t now last mp tp h near =
    let more : ℕ = now / m - last / m in
    let apart : now % m + t * m - last % m + more * m ≡ now - last + t * m =
    counts_apart m t (now / m) (last / m) more (now % m) (last % m) now last (div-add-mod' now m) (div-add-mod' last m)
    (let up = quotient_rises last now m mp h in omega arith)
    (let below = mod_below last m mp in let one = mul-le 1 m t m tp (le_refl m) in omega arith) h in
    sym (add-mul-mod_self_right (now % m + t * m - last % m) more m) ∙ ap (λ n. n % m) apart
    ∙ add-mul-mod_self_right (now - last) t m ∙ mod-eq_of_lt (omega arith)

-- what the counter shows of two counts less than a turn apart gives their difference
pub turned_is : (bits last now : ℕ) → bits ≤ 64 → last ≤ now → now < last + 2 ^ bits → turned (low_bits bits now) (low_bits bits last) bits ≡ now - last
turned_is bits last now few h near =
    let turns : 2 ^ (64 - bits) * 2 ^ bits ≡ 2 ^ 64 = sym (pow-add 2 (64 - bits) bits) ∙ (let e : 64 - bits + bits ≡ 64 = omega arith in ap (λ n. 2 ^ n) e) in
    let P : ℕ → Type 0 = λ n. (now % 2 ^ bits + n - last % 2 ^ bits) % 2 ^ bits ≡ now - last in
    subst P turns (turned_between (2 ^ bits) (2 ^ (64 - bits)) now last (pow_pos bits) (pow_pos (64 - bits)) h near)

-- a turn is twice half a turn
half_turn : (bits : ℕ) → 1 ≤ bits → 2 ^ bits ≡ 2 * 2 ^ (bits - 1)
half_turn bits h = let s : bits ≡ 1 + (bits - 1) = omega arith in ap (λ n. 2 ^ n) s ∙ pow-add 2 1 (bits - 1)

-- half the mask is one below half a turn
half_mask : (bits : ℕ) → 1 ≤ bits → mask_of bits / 2 + 1 ≡ 2 ^ (bits - 1)
half_mask bits h =
    let whole = half_turn bits h in
    let p = pow_pos (bits - 1) in
    omega arith

-- less than half a turn apart
pub near_is_true : (bits last now : ℕ) → 1 ≤ bits → bits ≤ 64 → last ≤ now → now < last + 2 ^ (bits - 1)
    → masked_delta (low_bits bits now) (low_bits bits last) bits ≡ now - last
near_is_true bits last now low few h close =
    let half = half_mask bits low in
    let whole = half_turn bits low in
    sym (near (low_bits bits now) (low_bits bits last) bits (now - last) (mask_of bits) (sym (turned_is bits last now few h (omega arith))) refl (omega arith))

-- from half a turn to below a whole one
pub far_is_none : (bits last now : ℕ) → 1 ≤ bits → bits ≤ 64 → last + 2 ^ (bits - 1) ≤ now → now < last + 2 ^ bits
    → masked_delta (low_bits bits now) (low_bits bits last) bits ≡ 0
far_is_none bits last now low few far below =
    let half = half_mask bits low in
    sym (too_far (low_bits bits now) (low_bits bits last) bits (now - last) (mask_of bits) (sym (turned_is bits last now few (omega arith) below)) refl (omega arith))

-- counts that went back less than half a turn seem to have gone further than that
back_is_none : (bits last now : ℕ) → 1 ≤ bits → bits ≤ 64 → now < last → last < now + 2 ^ (bits - 1)
    → masked_delta (low_bits bits now) (low_bits bits last) bits ≡ 0
back_is_none bits last now low few h near =
    let whole = half_turn bits low in
    let turn : (now + 1 * 2 ^ bits) % 2 ^ bits ≡ now % 2 ^ bits = add-mul-mod_self_right now 1 (2 ^ bits) in
    let P : ℕ → Type 0 = λ n. masked_delta n (low_bits bits last) bits ≡ 0 in
    subst P turn (far_is_none bits last (now + 1 * 2 ^ bits) low few (omega arith) (omega arith))

-- what counts as a difference is at most half the mask
never_half : (bits last now : ℕ) → masked_delta now last bits ≤ mask_of bits / 2
never_half bits last now = grind (arith, nat_tests)

-- a masked difference is at most how far the counts are apart
pub never_longer : (bits last now : ℕ) → 1 ≤ bits → bits ≤ 64
    → masked_delta (low_bits bits now) (low_bits bits last) bits ≤ abs_diff now last
never_longer bits last now low few =
    let half = half_mask bits low in
    let most = never_half bits (low_bits bits last) (low_bits bits now) in
    elim (cases_lt now last) [
      | inl back ↦ elim (cases_lt last (now + 2 ^ (bits - 1))) [
        | inl close ↦ (let e = back_is_none bits last now low few back close in omega arith)
        | inr far ↦ omega arith
      ]
      | inr on ↦ elim (cases_lt now (last + 2 ^ (bits - 1))) [
        | inl close ↦ (let e = near_is_true bits last now low few on close in omega arith)
        | inr far ↦ omega arith
      ]
    ]
