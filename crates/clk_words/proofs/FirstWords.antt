-- The words of a new table, place by place.
use Rattle.std.proofs.Common.{◌≡◌, ℕ, zero, suc, ◌+◌, ◌*◌, ◌<◌, List, [], ◌∷◌, ◌++◌, length, get_or, replicate, cond, refl, ap, ◌∙◌, subst, arith, length-append}
use Rattle.std.proofs.lemmas.List.{get_or_append_left}
use Rattle.std.proofs.Math.Seq.{get_or-append_seam, get_or-append-add}
use mathlib.Core.Logic.{dite}
use native.Mathlib.Decide.{ℕ_discrete}
use Rattle.clk_num.specs.Wrapping.{IsBitsOf}
use Rattle.clk_words.specs.declared.opening.Start.{Start}
use Rattle.clk_words.specs.Histories.{opens_at}
use Rattle.clk_words.specs.Heights.{IsClockWord}
use Rattle.clk_words.specs.Parts.{gtod_of, raw_of}
use Rattle.clk_words.specs.Views.{is_percpu}
use Rattle.clk_words.specs.FirstWords.{pair_words, AreFirst}

pairs_length : (n gtod raw : ℕ) → length (pair_words n gtod raw) ≡ 2 * n
pairs_length zero gtod raw = refl
pairs_length (suc n) gtod raw = omega (arith, pairs_length n gtod raw, length-append (pair_words n gtod raw) (gtod ∷ raw ∷ []))

clocks_length : (n x : ℕ) → length (replicate n x) ≡ n
clocks_length zero x = refl
clocks_length (suc n) x = ap suc (clocks_length n x)

clocks_at : (n x w : ℕ) → w < n → get_or (replicate n x) w 0 ≡ x
clocks_at zero x w low = absurd (omega arith)
clocks_at (suc n) x zero low = refl
clocks_at (suc n) x (suc w) low = clocks_at n x w (omega arith)

-- the two places of a CPU
pairs_at : (n gtod raw c : ℕ) → c < n → (get_or (pair_words n gtod raw) (2 * c) 0 ≡ gtod) × (get_or (pair_words n gtod raw) (2 * c + 1) 0 ≡ raw)
pairs_at zero gtod raw c low = absurd (omega arith)
pairs_at (suc n) gtod raw c low =
    let long = pairs_length n gtod raw in
    let rest : List ℕ = gtod ∷ raw ∷ [] in
    dite (ℕ_discrete c n)
    (λ e.
    let one : 2 * c ≡ length (pair_words n gtod raw) + 0 = omega arith in
    let two : 2 * c + 1 ≡ length (pair_words n gtod raw) + 1 = omega arith in (
      ap (λ k. get_or (pair_words n gtod raw ++ rest) k 0) one ∙ get_or-append-add (pair_words n gtod raw) rest 0 0,
      ap (λ k. get_or (pair_words n gtod raw ++ rest) k 0) two ∙ get_or-append-add (pair_words n gtod raw) rest 1 0,
    ))
    (λ ne.
    let before = pairs_at n gtod raw c (omega arith) in (
      get_or_append_left (pair_words n gtod raw) rest 0 (2 * c) (omega arith) ∙ before.0,
      get_or_append_left (pair_words n gtod raw) rest 0 (2 * c + 1) (omega arith) ∙ before.1,
    ))

-- the words as they were pushed
abbrev pub laid : ℕ → ℕ → ℕ → ℕ → ℕ → ℕ → List ℕ
laid cpus clock gtod raw mode offset = ((replicate cpus clock ++ pair_words cpus gtod raw) ++ mode ∷ []) ++ offset ∷ []

module _ (cpus clock gtod raw mode offset : ℕ) where
  abbrev front : List ℕ
  front = replicate cpus clock ++ pair_words cpus gtod raw

  front_length : length front ≡ 3 * cpus
  front_length = omega (arith, length-append (replicate cpus clock) (pair_words cpus gtod raw), clocks_length cpus clock, pairs_length cpus gtod raw)

  in_front : (k : ℕ) → k < 3 * cpus → get_or (laid cpus clock gtod raw mode offset) k 0 ≡ get_or front k 0
  in_front k low =
      let long = front_length in
      get_or_append_left (front ++ mode ∷ []) (offset ∷ []) 0 k (omega (arith, length-append front (mode ∷ []))) ∙ get_or_append_left front (mode ∷ []) 0 k (omega arith)

  laid_length : length (laid cpus clock gtod raw mode offset) ≡ 3 * cpus + 2
  laid_length = omega (arith, front_length, length-append front (mode ∷ []), length-append (front ++ mode ∷ []) (offset ∷ []))

  laid_clock : (w : ℕ) → w < cpus → get_or (laid cpus clock gtod raw mode offset) w 0 ≡ clock
  laid_clock w low =
      let long = clocks_length cpus clock in
      in_front w (omega arith) ∙ get_or_append_left (replicate cpus clock) (pair_words cpus gtod raw) 0 w (omega arith) ∙ clocks_at cpus clock w low

  behind : (k : ℕ) → get_or front (cpus + k) 0 ≡ get_or (pair_words cpus gtod raw) k 0
  behind k =
      let e : cpus + k ≡ length (replicate cpus clock) + k = omega (arith, clocks_length cpus clock) in
      ap (λ i. get_or front i 0) e ∙ get_or-append-add (replicate cpus clock) (pair_words cpus gtod raw) k 0

  laid_gtod : (c : ℕ) → c < cpus → get_or (laid cpus clock gtod raw mode offset) (cpus + gtod_of c) 0 ≡ gtod
  laid_gtod c low = in_front (cpus + gtod_of c) (omega arith) ∙ behind (gtod_of c) ∙ (pairs_at cpus gtod raw c low).0

  laid_raw : (c : ℕ) → c < cpus → get_or (laid cpus clock gtod raw mode offset) (cpus + raw_of c) 0 ≡ raw
  laid_raw c low = in_front (cpus + raw_of c) (omega arith) ∙ behind (raw_of c) ∙ (pairs_at cpus gtod raw c low).1

  laid_mode : get_or (laid cpus clock gtod raw mode offset) (3 * cpus) 0 ≡ mode
  laid_mode =
      let long = front_length in
      get_or_append_left (front ++ mode ∷ []) (offset ∷ []) 0 (3 * cpus) (omega (arith, length-append front (mode ∷ [])))
      ∙ subst (λ k. get_or (front ++ mode ∷ []) k 0 ≡ mode) long (get_or-append_seam front mode [] 0)

  laid_offset : get_or (laid cpus clock gtod raw mode offset) (3 * cpus + 1) 0 ≡ offset
  laid_offset =
      let long : length (front ++ mode ∷ []) ≡ 3 * cpus + 1 = omega (arith, front_length, length-append front (mode ∷ [])) in
      subst (λ k. get_or (laid cpus clock gtod raw mode offset) k 0 ≡ offset) long (get_or-append_seam (front ++ mode ∷ []) offset [] 0)

-- they are the words of the start
pub are_first : (start : Start) (clock gtod raw mode offset : ℕ) → IsClockWord start (opens_at start) clock → IsBitsOf start.opening.tick_gtod gtod → IsBitsOf start.opening.tick_raw raw
    → mode ≡ cond (is_percpu start.opening.mode) 1 0 → IsBitsOf start.opening.offset offset → AreFirst start (laid start.cpus clock gtod raw mode offset)
are_first start clock gtod raw mode offset p q r m o = record {
  wide = laid_length start.cpus clock gtod raw mode offset;
  clocks = λ w low. rw (laid_clock start.cpus clock gtod raw mode offset w low) p;
  gtods = λ c low. rw (laid_gtod start.cpus clock gtod raw mode offset c low) q;
  raws = λ c low. rw (laid_raw start.cpus clock gtod raw mode offset c low) r;
  mode = laid_mode start.cpus clock gtod raw mode offset ∙ m;
  offset = rw (laid_offset start.cpus clock gtod raw mode offset) o;
}
