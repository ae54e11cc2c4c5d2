-- Lists place by place, where one place is written.
use Rattle.std.proofs.Common.{◌≡◌, ℕ, zero, suc, ◌<◌, ℤ, List, [], ◌∷◌, ◌++◌, length, map, get_or, set, take, drop, ap, sym, ◌∙◌, subst, arith}
use Rattle.std.specs.List.{AllZip, refill}
use Rattle.std.proofs.Math.Seq.{take-append_seam}
use Rattle.std.proofs.lemmas.List.{get_or-map, map-set}
use Rattle.clk_machine.specs.Plan.{Plan}
use Rattle.clk_machine.specs.declared.reading.RawReading.{RawReading}
use Rattle.clk_latch.specs.Epoch.{Epoch}
use Rattle.clk_latch.specs.Calls.{Reads}
use Rattle.clk_demote.specs.Stamping.{ReadsAt}

-- what is lent whole is given back whole
pub refill_same : {X : Type 0} (xs ws : List X) → length ws ≡ length xs → refill (length xs) xs ws ≡ ws
refill_same xs ws e = ap (λ (n : ℕ). take n (ws ++ drop (length ws) xs)) (sym e) ∙ take-append_seam ws (drop (length ws) xs)

pub zip_at : {A B : Type 0} (R : A → B → Type 0) (xs : List A) (ys : List B) (i : ℕ) (d : A) (e : B) → AllZip R xs ys → i < length xs → R (get_or xs i d) (get_or ys i e)
zip_at R [] [] i d e all low = absurd (omega arith)
zip_at R [] (y ∷ ys) i d e all low = absurd all
zip_at R (x ∷ xs) [] i d e all low = absurd all
zip_at R (x ∷ xs) (y ∷ ys) zero d e all low = all.0
zip_at R (x ∷ xs) (y ∷ ys) (suc i) d e all low = zip_at R xs ys i d e all.1 (omega arith)

pub zip_set : {A B : Type 0} (R : A → B → Type 0) (xs : List A) (ys : List B) (i : ℕ) (d : A) (y : B) → AllZip R xs ys → i < length xs → R (get_or xs i d) y → AllZip R xs (set ys i y)
zip_set R [] [] i d y all low here = absurd (omega arith)
zip_set R [] (b ∷ ys) i d y all low here = absurd all
zip_set R (x ∷ xs) [] i d y all low here = absurd all
zip_set R (x ∷ xs) (b ∷ ys) zero d y all low here = (here, all.1)
zip_set R (x ∷ xs) (b ∷ ys) (suc i) d y all low here = (all.0, zip_set R xs ys i d y all.1 (omega arith) here)

-- a reading by the seat of one place
pub reads_at : {S : Type 0} (epoch : S → Epoch) (seats : List S) (cpu : ℕ) (d now : S) (m : Plan) (adjust : ℤ) (r : RawReading) → cpu < length seats
    → Reads m cpu adjust (epoch (get_or seats cpu d)) (epoch now) r → ReadsAt m cpu adjust (map epoch seats) (map epoch (set seats cpu now)) r
reads_at epoch seats cpu d now m adjust r low reads = record {
  epoch = epoch now;
  reads = subst (λ e. Reads m cpu adjust e (epoch now) r) (sym (get_or-map epoch seats cpu d _ low)) reads;
  after_is = map-set epoch seats cpu now;
}
