-- A bring-up that tests no CPU, and the sizes of a run that the number of its machine tells.
use Rattle.std.proofs.Common.{◌≡◌, ℕ, ◌+◌, Bool, false, List, [], ◌∷◌, ◌++◌, length, Option, None, refl, sym, ap, ◌∙◌, subst, arith, append-nil}
use Rattle.std.specs.List.{All, list_any, sum_by}
use Rattle.std.proofs.lemmas.List.Elements.{All-nil, All-head, All-tail}
use Rattle.clk_base.specs.Walk.{Along, EachFrom}
use Rattle.clk_ticket.specs.Time.{Time}
use Rattle.clk_machine.specs.declared.parts.BringUpPart.{BringUpPart}
use Rattle.clk_machine.specs.Plan.{Plan, cpu_count, threads_of}
use Rattle.clk_record.specs.declared.warp.WarpReading.{WarpReading}
use Rattle.clk_record.specs.declared.up.CpuUp.{CpuUp}
use Rattle.clk_record.specs.declared.up.BroughtUp.{BroughtUp}
use Rattle.clk_record.specs.declared.up.UpOutcome.TheVariants.{Untested}
use Rattle.clk_record.specs.BroughtUp.{IsLeft, test_of, IsUp, is_failure, failed_after, IsBroughtUp}
use Rattle.clk_record.specs.WarpReadings.{all_readings}
use Rattle.clk_warp.specs.Pairs.{DrawsFor}
use Rattle.clk_lawful.specs.declared.trace.Trace.{Trace}
use Rattle.clk_lawful.specs.LawfulTrace.{IsLawful}
use Rattle.clk_make.specs.Made.{made, made_cpus, made_readers}
use Rattle.clk_make.specs.Numbers.{made_words, made_tickets, made_steps}
use Rattle.clk_make.specs.Fixed.{IsRunSized, MachinesAreSized, RunsAreSized}
use Rattle.clk_threads.specs.declared.booted.Booted.{Booted}
use Rattle.clk_threads.specs.Booting.{IsBooted, IsBootedFor}
use Rattle.clk_tool.specs.declared.make.Sizes.{Sizes}
use Rattle.clk_tool.specs.Make.{steps_of, AreSizesOf, made_sizes}
use Rattle.clk_tool.proofs.Bringing.{booted_for}

-- ---- CPUs that are left as they were

pub each_push : {A : Type 0} (P : ℕ → A → Type 0) (n : ℕ) (xs : List A) (x : A) → EachFrom P n xs → P (n + length xs) x → EachFrom P n (xs ++ x ∷ [])
each_push P n [] x each here = let e : n + 0 ≡ n = omega arith in (subst (λ (i : ℕ). P i x) e here, tt)
each_push P n (y ∷ xs) x each here =
    let e : n + length (y ∷ xs) ≡ n + 1 + length xs = omega arith in
    (each.0, each_push P (n + 1) xs x each.1 (subst (λ (i : ℕ). P i x) e here))

up_left : (m : Plan) (o : Option BringUpPart) (failed : Bool) (up : CpuUp) → o ≡ None → IsLeft Untested up → IsUp m o failed up
up_left m o failed up none left = subst (λ (p : Option BringUpPart). IsUp m p failed up) (sym none) left

ups_left : (m : Plan) (failed : Bool) (ups : List CpuUp) → m.bringup ≡ None → All (IsLeft Untested) ups
    → Along (λ failed up. IsUp m (test_of m None up.cpu) failed up) failed_after failed ups
ups_left m failed [] none left = tt
ups_left m failed (up ∷ ups) none left = (
  up_left m m.bringup failed up none (All-head (IsLeft Untested) up ups left),
  ups_left m (failed_after failed up) ups none (All-tail (IsLeft Untested) up ups left),
)

none_failed : (ups : List CpuUp) → All (IsLeft Untested) ups → list_any (λ up. is_failure up.outcome) ups ≡ false
none_failed [] left = refl
none_failed (up ∷ ups) left =
    let here = All-head (IsLeft Untested) up ups left in
    rw (here.outcome_is) (none_failed ups (All-tail (IsLeft Untested) up ups left))

pub no_readings : (ups : List CpuUp) → All (IsLeft Untested) ups → all_readings ups ≡ []
no_readings [] left = refl
no_readings (up ∷ ups) left =
    let here = All-head (IsLeft Untested) up ups left in
    rw (here.runs) (no_readings ups (All-tail (IsLeft Untested) up ups left))

pub untested_up : (m : Plan) (up : BroughtUp) → m.bringup ≡ None → length up.cpus.items + 1 ≡ cpu_count m → EachFrom (λ n cpu. cpu.cpu ≡ n) 1 up.cpus.items
    → All (IsLeft Untested) up.cpus.items → up.failed ≡ false → IsBroughtUp m None up
untested_up m up none count numbers left failed = record {
  count = count;
  numbers = numbers;
  cpus = ups_left m false up.cpus.items none left;
  failed = failed ∙ sym (none_failed up.cpus.items left);
}

-- they drew no ticket
pub draws_none : (t : Time) (rs : List WarpReading) → rs ≡ [] → DrawsFor t rs t
draws_none t rs none =
    subst (λ (xs : List WarpReading). DrawsFor t xs t) (sym none) (record {
      is = refl;
      within = All-nil _;
      table = refl;
      left = omega arith;
      blocks = sym (append-nil t.blocks);
      rises = λ rises. rises;
      share = refl;
    })

-- after a boot that belongs to the machine
pub booted_is : (m : Plan) (b : Booted) → IsBooted m b → IsBooted b.machine b
booted_is m b is = subst (λ (p : Plan). IsBooted p b) (sym is.boot.machine) is

pub booted_untested : (b : Booted) (up : BroughtUp) → IsBooted b.machine b → IsBroughtUp b.machine None up → all_readings up.cpus.items ≡ [] → IsBootedFor b.machine up b
booted_untested b up is brought none = booted_for b.machine b up b.time is brought (draws_none b.time _ none) (omega arith)

-- ---- the sizes

-- a lawful run of the machine that was made is as large as its number tells
pub run_sized : (n : ℕ) (m : Plan) (t : Trace) → RunsAreSized → m ≡ made n → IsLawful m t → IsRunSized n t
run_sized n m t runs is lawful = runs n t (subst (λ (p : Plan). IsLawful p t) is lawful)

pub are_sizes : (n : ℕ) (m : Plan) (t : Trace) (s : Sizes) → m ≡ made n → IsLawful m t → s.cpus ≡ length t.histories.items → s.cpus + s.readers ≡ length t.threads.items
    → s.words ≡ sum_by (λ t. length t.1) (threads_of m) → s.tickets ≡ t.tickets → s.steps ≡ steps_of t.histories.items → AreSizesOf n s
are_sizes n m t s is lawful cpus readers words tickets steps = record {
  trace = t;
  lawful = subst (λ (p : Plan). IsLawful p t) is lawful;
  cpus = cpus;
  readers = readers;
  words = words ∙ ap (λ (p : Plan). sum_by (λ t. length t.1) (threads_of p)) is;
  tickets = tickets;
  steps = steps;
}

same_sizes : (n cpus readers words tickets steps : ℕ) → cpus ≡ made_cpus n → readers ≡ made_readers n → words ≡ made_words n → tickets ≡ made_tickets n
    → steps ≡ made_steps n → (let s : Sizes = record { cpus = cpus; readers = readers; words = words; tickets = tickets; steps = steps } in s ≡ made_sizes n)
same_sizes n cpus readers words tickets steps e f g h i = rw (e, f, g, h, i) refl

pub sizes_fixed : (n : ℕ) (s : Sizes) → MachinesAreSized → RunsAreSized → AreSizesOf n s → s ≡ made_sizes n
sizes_fixed n s machines runs are =
    let machine = machines n in
    let run = runs n are.trace are.lawful in
    let cpus : s.cpus ≡ made_cpus n = are.cpus ∙ run.histories in
    let both = are.readers ∙ run.threads in
    same_sizes n s.cpus s.readers s.words s.tickets s.steps cpus (omega (arith, cpus, both)) (are.words ∙ machine.words) (are.tickets ∙ run.tickets) (are.steps ∙ run.steps)
