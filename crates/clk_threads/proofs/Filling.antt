-- Lists that are filled: empty ones with room, and one item more.
use Rattle.std.proofs.Common.{◌≡◌, ℕ, suc, ◌+◌, List, [], ◌∷◌, ◌++◌, length, subst, ap, ap₂, arith}
use Rattle.clk_base.specs.Walk.{EachFrom}
use Rattle.clk_num.specs.Listed.{Listed}
use Rattle.clk_machine.specs.Plan.{Plan}
use Rattle.clk_threads.specs.Preparing.{no_steps, histories_below}

pub is_empty : {T : Type 0} (l : Listed T) (n : ℕ) → l.items ≡ [] → l.room ≡ n → l ≡ record { items = []; room = n }
is_empty {T} l n items room = ap₂ (λ (xs : List T) (k : ℕ). record { items = xs; room = k }) items room

pub histories_next : (m : Plan) (n : ℕ) → histories_below m (n + 1) ≡ histories_below m n ++ no_steps m n ∷ []
histories_next m n = let on : n + 1 ≡ suc n = omega arith in ap (λ k. histories_below m k) on

-- one item more, with its number
pub each_push : {A : Type 0} (P : ℕ → A → Type 0) (n : ℕ) (xs : List A) (x : A) → EachFrom P n xs → P (n + length xs) x → EachFrom P n (xs ++ x ∷ [])
each_push P n [] x each here = let e : n + 0 ≡ n = omega arith in (subst (λ (i : ℕ). P i x) e here, tt)
each_push P n (y ∷ xs) x each here =
    let e : n + length (y ∷ xs) ≡ n + 1 + length xs = omega arith in
    (each.0, each_push P (n + 1) xs x each.1 (subst (λ (i : ℕ). P i x) e here))
