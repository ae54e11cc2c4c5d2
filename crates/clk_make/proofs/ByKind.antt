-- The words of a script by their kinds: 64 words of a CPU have each kind eight times, wherever they begin.
use Rattle.std.proofs.Common.{◌≡◌, ◌≢◌, ℕ, zero, suc, ◌+◌, ◌-◌, ◌*◌, ◌%◌, ◌<◌, ◌≤◌, ◌==◌, Bool, true, false, cond, List, [], ◌∷◌, map, get_or, refl, sym, ◌∙◌, ap, inl, inr, mod-eq_of_lt, arith}
use Rattle.std.specs.List.{sum_by, range_with_len}
use Rattle.std.proofs.lemmas.Bool.{cases_lt, ne_eqb}
use Rattle.std.proofs.lemmas.Nat.{mod_below}
use Rattle.std.proofs.Math.Nat.{add-mul-mod_self_right}
use Rattle.clk_machine.specs.declared.script.Word.{Word}
use Rattle.clk_machine.specs.declared.script.Word.TheVariants.{Local}
use Rattle.clk_machine.specs.Tickets.{tickets_of}
use Rattle.clk_machine.specs.Limits.{is_update}
use Rattle.clk_lawful.specs.Counting.{steps_of_word}
use Rattle.clk_make.specs.Made.{made_cpus, other_cpu, remote, kinds, cpu_word, reader_word}
use Rattle.clk_make.proofs.Lists.{picked_map, sum_by-map, sum_by-same}

-- ---- the other CPU

pub other_below : (cpus cpu j : ℕ) → 2 ≤ cpus → other_cpu cpus cpu j < cpus
other_below cpus cpu j some = mod_below (cpu + 1 + j % (cpus - 1)) cpus (omega arith)

-- it is another one
not_self : (cpus cpu x : ℕ) → cpu < cpus → x < cpus - 1 → (cpu + 1 + x) % cpus ≢ cpu
not_self cpus cpu x low few =
    elim (cases_lt (cpu + 1 + x) cpus) [
      | inl here ↦ λ e. omega (arith, e, mod-eq_of_lt here)
      | inr past ↦
          let less : cpu + 1 + x - cpus < cpus = omega arith in
          let back : cpu + 1 + x - cpus + 1 * cpus ≡ cpu + 1 + x = omega arith in
          let same : (cpu + 1 + x - cpus) % cpus ≡ (cpu + 1 + x) % cpus = sym (add-mul-mod_self_right (cpu + 1 + x - cpus) 1 cpus) ∙ ap (λ k. k % cpus) back in
          λ e. omega (arith, e, same, mod-eq_of_lt less)
    ]

pub other_is_other : (cpus cpu j : ℕ) → 2 ≤ cpus → cpu < cpus → other_cpu cpus cpu j ≢ cpu
other_is_other cpus cpu j some low = not_self cpus cpu (j % (cpus - 1)) low (mod_below j (cpus - 1) (omega arith))

-- ---- sums over the 64 words of a CPU

-- word j has the kind that is three times j after the first one's
same_kind : (n cpu j : ℕ) → (n + 5 * cpu + 3 * j) % 8 ≡ ((n + 5 * cpu) % 8 + 3 * j) % 8
same_kind n cpu j = omega arith

-- the first one's kind tells the pauses
pub same_pause : (n cpu : ℕ) → (5 + 5 * ((n + 5 * cpu) % 8)) % 8 ≡ (5 + 5 * n + cpu) % 8
same_pause n cpu = omega arith

-- where f tells of a word what stands for its kind at its place
cpu_sum : (f : Word → ℕ) (at : ℕ → List ℕ) (n cpu : ℕ) → ((j : ℕ) → map f (kinds (made_cpus n) cpu j) ≡ at j)
    → sum_by f (map (cpu_word n cpu) (range_with_len 0 64)) ≡ sum_by (λ j. get_or (at j) (((n + 5 * cpu) % 8 + 3 * j) % 8) (f Local)) (range_with_len 0 64)
cpu_sum f at n cpu same =
    sum_by-map f (cpu_word n cpu) (range_with_len 0 64)
    ∙ sum_by-same (λ j. f (cpu_word n cpu j)) (λ j. get_or (at j) (((n + 5 * cpu) % 8 + 3 * j) % 8) (f Local)) (range_with_len 0 64)
    (λ j.
    picked_map f (kinds (made_cpus n) cpu j) ((n + 5 * cpu + 3 * j) % 8) Local
    ∙ ap (λ (xs : List ℕ). get_or xs ((n + 5 * cpu + 3 * j) % 8) (f Local)) (same j)
    ∙ ap (λ k. get_or (at j) k (f Local)) (same_kind n cpu j))

-- tickets
abbrev tickets_at : ℕ → List ℕ
tickets_at j = 1 ∷ 1 ∷ 1 ∷ 1 ∷ 1 ∷ 3 ∷ 4 ∷ (1 + j % 8) ∷ []

tickets_from : (k : ℕ) → k < 8 → sum_by (λ j. get_or (tickets_at j) ((k + 3 * j) % 8) 1) (range_with_len 0 64) ≡ 96 + 8 * (1 + (5 + 5 * k) % 8)
tickets_from zero h = refl
tickets_from (suc zero) h = refl
tickets_from (suc (suc zero)) h = refl
tickets_from (suc (suc (suc zero))) h = refl
tickets_from (suc (suc (suc (suc zero)))) h = refl
tickets_from (suc (suc (suc (suc (suc zero))))) h = refl
tickets_from (suc (suc (suc (suc (suc (suc zero)))))) h = refl
tickets_from (suc (suc (suc (suc (suc (suc (suc zero))))))) h = refl
tickets_from (suc (suc (suc (suc (suc (suc (suc (suc k)))))))) h = absurd (omega (arith, h))

pub cpu_words_tickets : (n cpu : ℕ) → sum_by tickets_of (map (cpu_word n cpu) (range_with_len 0 64)) ≡ 96 + 8 * (1 + (5 + 5 * n + cpu) % 8)
cpu_words_tickets n cpu =
    cpu_sum tickets_of tickets_at n cpu (λ j. refl)
    ∙ tickets_from ((n + 5 * cpu) % 8) (mod_below (n + 5 * cpu) 8 (omega arith))
    ∙ ap (λ x. 96 + 8 * (1 + x)) (same_pause n cpu)

-- updates
abbrev updates_at : ℕ → List ℕ
updates_at j = 0 ∷ 0 ∷ 1 ∷ 0 ∷ 0 ∷ 0 ∷ 0 ∷ 0 ∷ []

updates_from : (k : ℕ) → k < 8 → sum_by (λ j. get_or (updates_at j) ((k + 3 * j) % 8) 0) (range_with_len 0 64) ≡ 8
updates_from zero h = refl
updates_from (suc zero) h = refl
updates_from (suc (suc zero)) h = refl
updates_from (suc (suc (suc zero))) h = refl
updates_from (suc (suc (suc (suc zero)))) h = refl
updates_from (suc (suc (suc (suc (suc zero))))) h = refl
updates_from (suc (suc (suc (suc (suc (suc zero)))))) h = refl
updates_from (suc (suc (suc (suc (suc (suc (suc zero))))))) h = refl
updates_from (suc (suc (suc (suc (suc (suc (suc (suc k)))))))) h = absurd (omega (arith, h))

pub cpu_words_updates : (n cpu : ℕ) → sum_by (λ w. cond (is_update w) 1 0) (map (cpu_word n cpu) (range_with_len 0 64)) ≡ 8
cpu_words_updates n cpu =
    cpu_sum (λ w. cond (is_update w) 1 0) updates_at n cpu (λ j. refl) ∙ updates_from ((n + 5 * cpu) % 8) (mod_below (n + 5 * cpu) 8 (omega arith))

-- steps
abbrev steps_at : ℕ → List ℕ
steps_at j = 1 ∷ 1 ∷ 0 ∷ 2 ∷ 2 ∷ 1 ∷ 2 ∷ 0 ∷ []

steps_from : (k : ℕ) → k < 8 → sum_by (λ j. get_or (steps_at j) ((k + 3 * j) % 8) 1) (range_with_len 0 64) ≡ 72
steps_from zero h = refl
steps_from (suc zero) h = refl
steps_from (suc (suc zero)) h = refl
steps_from (suc (suc (suc zero))) h = refl
steps_from (suc (suc (suc (suc zero)))) h = refl
steps_from (suc (suc (suc (suc (suc zero))))) h = refl
steps_from (suc (suc (suc (suc (suc (suc zero)))))) h = refl
steps_from (suc (suc (suc (suc (suc (suc (suc zero))))))) h = refl
steps_from (suc (suc (suc (suc (suc (suc (suc (suc k)))))))) h = absurd (omega (arith, h))

-- a reading of another CPU makes two steps
pub remote_steps : (cpus cpu j : ℕ) → 2 ≤ cpus → cpu < cpus → steps_of_word cpu (remote cpus cpu j) ≡ 2
remote_steps cpus cpu j some low = rw (ne_eqb (other_cpu cpus cpu j) cpu (other_is_other cpus cpu j some low)) refl

pub cpu_words_steps : (n cpu : ℕ) → cpu < made_cpus n → sum_by (steps_of_word cpu) (map (cpu_word n cpu) (range_with_len 0 64)) ≡ 72
cpu_words_steps n cpu low =
    cpu_sum (steps_of_word cpu) steps_at n cpu
    (λ j. ap (λ x. 1 ∷ 1 ∷ 0 ∷ x ∷ x ∷ 1 ∷ 2 ∷ 0 ∷ []) (remote_steps (made_cpus n) cpu j (omega arith) low))
    ∙ steps_from ((n + 5 * cpu) % 8) (mod_below (n + 5 * cpu) 8 (omega arith))

-- ---- sums over the 8 words of a reader

pub reader_words_tickets : (cpus cpu : ℕ) → sum_by tickets_of (map (reader_word cpus cpu) (range_with_len 0 8)) ≡ 8
reader_words_tickets cpus cpu = refl

pub reader_words_updates : (cpus cpu : ℕ) → sum_by (λ w. cond (is_update w) 1 0) (map (reader_word cpus cpu) (range_with_len 0 8)) ≡ 0
reader_words_updates cpus cpu = refl

reader_word_steps : (cpus cpu j : ℕ) → 2 ≤ cpus → cpu < cpus → (b : Bool) → steps_of_word cpu (cond b Local (remote cpus cpu j)) ≡ cond b 1 2
reader_word_steps cpus cpu j some low true = refl
reader_word_steps cpus cpu j some low false = remote_steps cpus cpu j some low

pub reader_words_steps : (cpus cpu : ℕ) → 2 ≤ cpus → cpu < cpus → sum_by (steps_of_word cpu) (map (reader_word cpus cpu) (range_with_len 0 8)) ≡ 12
reader_words_steps cpus cpu some low =
    sum_by-map (steps_of_word cpu) (reader_word cpus cpu) (range_with_len 0 8)
    ∙ sum_by-same (λ j. steps_of_word cpu (reader_word cpus cpu j)) (λ j. cond (j % 2 == 0) 1 2) (range_with_len 0 8)
    (λ j. reader_word_steps cpus cpu j some low (j % 2 == 0))
