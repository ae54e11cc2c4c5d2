-- A pair that was stored at every CPU.
use Rattle.std.proofs.Common.{◌≡◌, ◌≢◌, ℕ, zero, suc, ◌*◌, ◌<◌, ℤ, List, refl, sym, ap, ◌∙◌, subst, arith}
use mathlib.Core.Logic.{dite}
use native.Mathlib.Decide.{ℕ_discrete}
use Rattle.clk_words.specs.declared.view.View.{View}
use Rattle.clk_words.specs.declared.view.ModeView.{ModeView}
use Rattle.clk_words.specs.declared.view.Part.{Part}
use Rattle.clk_words.specs.Parts.{gtod_of, raw_of, part_of, put_part}
use Rattle.clk_words.specs.Told.{pair_cloned}
use Rattle.clk_words.proofs.Registers.{put_here, put_else}
use Rattle.clk_words.proofs.Demoting.{HasStored, stored_here, stored_still}
use Rattle.clk_demote.specs.Stamping.{stamp_zero, HasPair, with_pairs, pairs_stored}

pub pairs_are : (n : ℕ) (gtod raw : ℤ) (v : View) (r : ℕ) → r < 2 * n → HasStored (pairs_stored n gtod raw v) r
pairs_are zero gtod raw v r low = absurd (omega arith)
pairs_are (suc n) gtod raw v r low =
    let u = pairs_stored n gtod raw v in
    let half = pair_cloned (gtod_of n) gtod u in
    dite (ℕ_discrete r (raw_of n))
    (λ e. subst (HasStored (pair_cloned (raw_of n) raw half)) (sym e) (stored_here half (raw_of n) raw))
    (λ other. stored_still half (raw_of n) r raw
    (dite (ℕ_discrete r (gtod_of n))
    (λ e. subst (HasStored half) (sym e) (stored_here u (gtod_of n) gtod))
    (λ another. stored_still u (gtod_of n) r gtod (pairs_are n gtod raw v r (omega arith)))))

-- what the watchdog may do, and the offset that it holds, are as they were
pub pairs_keep : (n : ℕ) (gtod raw : ℤ) (m : ModeView)
    → ((with_pairs n gtod raw m).watch ≡ m.watch) × ((with_pairs n gtod raw m).found ≡ m.found) × ((with_pairs n gtod raw m).held ≡ m.held)
pairs_keep zero gtod raw m = (refl, refl, refl)
pairs_keep (suc n) gtod raw m = pairs_keep n gtod raw m

-- what is stored of a register, once
put_else_put : (ps : List Part) (r k j : ℕ) (p q : Part) → j ≢ r → j ≢ k → part_of (put_part (put_part ps k q) r p) j ≡ part_of ps j
put_else_put ps r k j p q other another = put_else (put_part ps k q) r j p other ∙ put_else ps k j q another

pub gtod_at : (n : ℕ) (gtod raw : ℤ) (m : ModeView) (c : ℕ) → c < n → part_of (with_pairs n gtod raw m).cloned (gtod_of c) ≡ stamp_zero gtod
gtod_at zero gtod raw m c low = absurd (omega arith)
gtod_at (suc n) gtod raw m c low =
    let u = with_pairs n gtod raw m in
    let half = put_part u.cloned (gtod_of n) (stamp_zero gtod) in
    dite (ℕ_discrete c n)
    (λ e. put_else half (raw_of n) (gtod_of c) (stamp_zero raw) (λ h. omega arith)
    ∙ ap (λ k. part_of half (gtod_of k)) e ∙ put_here u.cloned (gtod_of n) (stamp_zero gtod))
    (λ ne. put_else_put u.cloned (raw_of n) (gtod_of n) (gtod_of c) (stamp_zero raw) (stamp_zero gtod) (λ h. omega arith) (λ h. ne (omega arith))
    ∙ gtod_at n gtod raw m c (omega arith))

pub raw_at : (n : ℕ) (gtod raw : ℤ) (m : ModeView) (c : ℕ) → c < n → part_of (with_pairs n gtod raw m).cloned (raw_of c) ≡ stamp_zero raw
raw_at zero gtod raw m c low = absurd (omega arith)
raw_at (suc n) gtod raw m c low =
    let u = with_pairs n gtod raw m in
    let half = put_part u.cloned (gtod_of n) (stamp_zero gtod) in
    dite (ℕ_discrete c n)
    (λ e. ap (λ k. part_of (put_part half (raw_of n) (stamp_zero raw)) (raw_of k)) e ∙ put_here half (raw_of n) (stamp_zero raw))
    (λ ne. put_else_put u.cloned (raw_of n) (gtod_of n) (raw_of c) (stamp_zero raw) (stamp_zero gtod) (λ h. ne (omega arith)) (λ h. omega arith)
    ∙ raw_at n gtod raw m c (omega arith))

-- a CPU below n has the pair once the mode is published
pub has_pair : (n : ℕ) (gtod raw : ℤ) (m : ModeView) (w : View) (c : ℕ) → w.pairs.parts ≡ (with_pairs n gtod raw m).cloned → c < n → HasPair c gtod raw w
has_pair n gtod raw m w c is low = record {
  gtod_is = ap (λ ps. part_of ps (gtod_of c)) is ∙ gtod_at n gtod raw m c low;
  raw_is = ap (λ ps. part_of ps (raw_of c)) is ∙ raw_at n gtod raw m c low;
}
