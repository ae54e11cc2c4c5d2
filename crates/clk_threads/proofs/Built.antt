-- Lists that are built item by item: item k is what was added last to a list of k.
use Rattle.std.proofs.Common.{◌≡◌, ℕ, zero, suc, ◌<◌, Bool, true, false, nat_eq, List, [], ◌∷◌, ◌++◌, length, get_or, refl, sym, ap, ◌∙◌, arith, eqb-true, length-append}
use Rattle.std.proofs.Math.Seq.{get_or-append_seam}
use Rattle.std.proofs.lemmas.Bool.Decides.{nat_tests}
use Rattle.std.proofs.lemmas.List.{get_or_append_left}

pub record IsBuilt {A : Type 0} (lists : ℕ → List A) (item : ℕ → A) : Type 0 where
  pub none : lists 0 ≡ []
  pub more : (n : ℕ) → lists (suc n) ≡ lists n ++ item n ∷ []

pub built_count : {A : Type 0} (lists : ℕ → List A) (item : ℕ → A) → IsBuilt lists item → (n : ℕ) → length (lists n) ≡ n
built_count lists item b zero = ap length b.none
built_count lists item b (suc n) =
    let before = built_count lists item b n in
    let all = ap length (b.more n) in
    let both = length-append (lists n) (item n ∷ []) in
    omega (arith, before, all, both)

pub built_at : {A : Type 0} (lists : ℕ → List A) (item : ℕ → A) → IsBuilt lists item → (n k : ℕ) (d : A) → k < n → get_or (lists n) k d ≡ item k
built_at lists item b zero k d low = absurd (omega (arith, low))
built_at {A} lists item b (suc n) k d low = ap (λ (xs : List A). get_or xs k d) (b.more n) ∙ at (nat_eq k n) refl (λ lower. built_at lists item b n k d lower)
  where
    at : (t : Bool) → nat_eq k n ≡ t → (k < n → get_or (lists n) k d ≡ item k) → get_or (lists n ++ item n ∷ []) k d ≡ item k
    at true e rest =
        let same : k ≡ n = eqb-true k n e in
        let count : k ≡ length (lists n) = same ∙ sym (built_count lists item b n) in
        ap (λ (i : ℕ). get_or (lists n ++ item n ∷ []) i d) count ∙ get_or-append_seam (lists n) (item n) [] d ∙ ap item (sym same)
    at false e rest =
        let lower : k < n = grind (arith, nat_tests) in
        let count = built_count lists item b n in
        get_or_append_left (lists n) (item n ∷ []) d k (omega (arith, lower, count)) ∙ rest lower
