-- What tests that pass tell, and what loops over parts know of their items.
use Rattle.std.proofs.Common.{◌≡◌, ℕ, suc, ◌+◌, ◌<◌, true, ℤ, pos, negsuc, List, length, get_or, drop, map, refl, sym, ◌∙◌, ap, subst, arith, add-one, drop-cons}
use Rattle.std.specs.List.{All}
use Rattle.std.proofs.lemmas.Bool.Decides.{nat_tests}
use Rattle.std.proofs.lemmas.List.{get_or-map, length-map}
use Rattle.std.proofs.lemmas.List.Elements.{All-get_or}
use Rattle.std.proofs.lemmas.List.Sums.{sum_by-cons}
use Rattle.clk_machine.specs.Plan.{cpu_plan}
use Rattle.clk_machine.specs.Limits.{IsWithin}
use Rattle.clk_machine.specs.Ranges.{is_between, script_length, words_of_cpus}
use Rattle.clk_machine.specs.declared.parts.CpuPart.{CpuPart}

pub within-between : (low high : ℕ) (z : ℤ) → is_between low high z ≡ true → IsWithin low high z
within-between low high (pos n) h = (refl, grind (arith, nat_tests), grind (arith, nat_tests))
within-between low high (negsuc n) h = absurd (cc)

-- what holds of each plan holds of that of the item that a loop stands at
pub plan_at : {A B : Type 0} (view : A → B) (P : B → Type 0) (xs : List A) (i : ℕ) (x : A) → i < length xs → x ≡ get_or xs i x → All P (map view xs) → P (view x)
plan_at view P xs i x h at all =
    let low : i < length (map view xs) = rw (length-map xs view) h in
    let e : get_or (map view xs) i (view x) ≡ view x = get_or-map view xs i x (view x) h ∙ ap view (sym at) in
    subst P e (All-get_or P (map view xs) i (view x) low all)

-- the words of the CPUs that are left are those of the next one and of the others
pub words_left : (xs : List CpuPart) (i : ℕ) (x : CpuPart) → i < length xs → x ≡ get_or xs i x
    → words_of_cpus (drop i (map cpu_plan xs)) ≡ script_length (cpu_plan x).script + words_of_cpus (drop (i + 1) (map cpu_plan xs))
words_left xs i x h at =
    let low : i < length (map cpu_plan xs) = rw (length-map xs cpu_plan) h in
    let e : get_or (map cpu_plan xs) i (cpu_plan x) ≡ cpu_plan x = get_or-map cpu_plan xs i x (cpu_plan x) h ∙ ap cpu_plan (sym at) in
    rw (drop-cons (map cpu_plan xs) i (cpu_plan x) low, e, add-one i) (sum_by-cons (λ c. script_length c.script) (cpu_plan x) (drop (suc i) (map cpu_plan xs)))
