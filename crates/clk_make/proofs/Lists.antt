-- Lists that are made item by item, and sums over them.
use Rattle.std.proofs.Common.{◌≡◌, ℕ, zero, suc, ◌+◌, ◌*◌, ◌<◌, List, [], ◌∷◌, length, map, get_or, refl, sym, ap, subst, arith}
use Rattle.std.specs.List.{All, AllZip, AllByRecursion, sum_by, range_with_len, enumerate_from}
use Rattle.std.proofs.lemmas.List.Sums.{sum_by-cons}
use Rattle.std.proofs.lemmas.List.FromFn.{length-map-range_with_len, get_or-map-range_with_len}

-- each item is made of its place
pub all_made : {A : Type 0} (P : A → Type 0) (f : ℕ → A) (n : ℕ) → ((x : ℕ) → x < n → P (f x)) → All P (map f (range_with_len 0 n))
all_made P f n h k d low =
    let here : k < n = omega (arith, low, length-map-range_with_len f 0 n) in
    subst P (sym (get_or-map-range_with_len f 0 n k k d here (omega arith))) (h k here)

-- an item of a short list, or the default
pub picked : {A : Type 0} (P : A → Type 0) (xs : List A) (k : ℕ) (d : A) → AllByRecursion P xs → P d → P (get_or xs k d)
picked P [] k d all p = p
picked P (x ∷ xs) zero d all p = all.0
picked P (x ∷ xs) (suc k) d all p = picked P xs k d all.1 p

pub picked_map : {A B : Type 0} (f : A → B) (xs : List A) (k : ℕ) (d : A) → f (get_or xs k d) ≡ get_or (map f xs) k (f d)
picked_map f [] k d = refl
picked_map f (x ∷ xs) zero d = refl
picked_map f (x ∷ xs) (suc k) d = picked_map f xs k d

-- ---- sums

pub sum_by-map : {A B : Type 0} (f : B → ℕ) (g : A → B) (xs : List A) → sum_by f (map g xs) ≡ sum_by (λ x. f (g x)) xs
sum_by-map f g [] = refl
sum_by-map f g (x ∷ xs) =
    let rest = sum_by-map f g xs in
    let a = sum_by-cons f (g x) (map g xs) in
    let b = sum_by-cons (λ y. f (g y)) x xs in
    omega (arith, rest, a, b)

pub sum_by-same : {A : Type 0} (f g : A → ℕ) (xs : List A) → ((x : A) → f x ≡ g x) → sum_by f xs ≡ sum_by g xs
sum_by-same f g [] h = refl
sum_by-same f g (x ∷ xs) h =
    let rest = sum_by-same f g xs h in
    let here = h x in
    let a = sum_by-cons f x xs in
    let b = sum_by-cons g x xs in
    omega (arith, rest, here, a, b)

-- numbers that have the same value each, below a bound
pub sum_range-same : (f g : ℕ → ℕ) (a n : ℕ) → ((x : ℕ) → x < a + n → f x ≡ g x) → sum_by f (range_with_len a n) ≡ sum_by g (range_with_len a n)
sum_range-same f g a zero h = refl
sum_range-same f g a (suc n) h =
    let rest = sum_range-same f g (a + 1) n (λ x low. h x (omega (arith, low))) in
    let here = h a (omega arith) in
    let b = sum_by-cons f a (range_with_len (a + 1) n) in
    let c = sum_by-cons g a (range_with_len (a + 1) n) in
    omega (arith, rest, here, b, c)

pub sum_range-all : (m a n : ℕ) → sum_by (λ (x : ℕ). m) (range_with_len a n) ≡ n * m
sum_range-all m a zero = omega arith
sum_range-all m a (suc n) =
    let rest = sum_range-all m (a + 1) n in
    let b = sum_by-cons (λ (x : ℕ). m) a (range_with_len (a + 1) n) in
    omega (arith, rest, b)

-- ---- places

pub enumerated : {A : Type 0} (f : ℕ → A) (a n : ℕ) → enumerate_from a (map f (range_with_len a n)) ≡ map (λ x. (x, f x)) (range_with_len a n)
enumerated f a zero = refl
enumerated f a (suc n) = ap (λ xs. (a, f a) ∷ xs) (enumerated f (a + 1) n)

pub zip_length : {A B : Type 0} (R : A → B → Type 0) (xs : List A) (ys : List B) → AllZip R xs ys → length xs ≡ length ys
zip_length R [] [] h = refl
zip_length R [] (y ∷ ys) h = absurd h
zip_length R (x ∷ xs) [] h = absurd h
zip_length R (x ∷ xs) (y ∷ ys) h = ap suc (zip_length R xs ys h.1)
