-- Which CPU is the first of its socket, by the parts of a machine.
use Rattle.std.proofs.Common.{◌≡◌, ℕ, zero, suc, Bool, not, ◌||◌, ℤ, List, [], ◌∷◌, take, map, refl, ◌∙◌, ap}
use Rattle.std.specs.Ordering.{int_eq}
use Rattle.std.specs.List.{list_any}
use Rattle.clk_machine.specs.declared.parts.Parts.{Parts}
use Rattle.clk_machine.specs.declared.parts.CpuPart.{CpuPart}
use Rattle.clk_machine.specs.Plan.{Plan, CpuPlan, plan_of, cpu_plan}
use Rattle.clk_machine.specs.Time.{cpu_at}
use Rattle.clk_machine.specs.Timeouts.{is_first_of_socket}

same_sockets : (xs : List CpuPart) (n : ℕ) (s : ℤ)
    → list_any (λ (c : CpuPart). int_eq c.socket s) (take n xs) ≡ list_any (λ (c : CpuPlan). int_eq c.socket s) (take n (map cpu_plan xs))
same_sockets [] zero s = refl
same_sockets [] (suc n) s = refl
same_sockets (x ∷ xs) zero s = refl
same_sockets (x ∷ xs) (suc n) s = ap (λ b. int_eq x.socket s || b) (same_sockets xs n s)

pub first_of_socket : (p : Parts) (m : Plan) (cpu : ℕ) (x : CpuPart) (b : Bool) → plan_of p ≡ m → cpu_plan x ≡ cpu_at m cpu
    → b ≡ list_any (λ c. int_eq c.socket x.socket) (take cpu p.cpu.items) → not b ≡ is_first_of_socket m cpu
first_of_socket p m cpu x b view at h =
    ap not (h ∙ same_sockets p.cpu.items cpu x.socket)
    ∙ ap (λ (q : CpuPlan). not (list_any (λ (c : CpuPlan). int_eq c.socket q.socket) (take cpu (map cpu_plan p.cpu.items)))) at
    ∙ ap (λ (n : Plan). not (list_any (λ (c : CpuPlan). int_eq c.socket (cpu_at m cpu).socket) (take cpu n.cpu))) view
