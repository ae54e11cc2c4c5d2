-- A demotion raises each clock word to its opening.
use Rattle.std.proofs.Common.{◌≡◌, ℕ, ◌+◌, ℤ, pos, ◌≤ℤ◌, ◌<ℤ◌, List, [], ◌∷◌, inl, inr, sym, ◌∙◌, subst, arith}
use Rattle.std.proofs.lemmas.Int.{ints}
use Rattle.clk_base.specs.Walk.{EachFrom}
use Rattle.clk_num.specs.Wrapping.{above, IsAbove, raise}
use Rattle.clk_num.proofs.Heights.{raise_is}
use Rattle.clk_record.specs.declared.step.Step.{Step}
use Rattle.clk_record.specs.declared.stable.Demotion.{Demotion}
use Rattle.clk_lawful.specs.Demoted.{IsLiftOf}
use Rattle.clk_lawful.specs.declared.trace.Trace.{Trace}
use Rattle.clk_laws.specs.Demoting.{KeepsHigher, HigherWordsStay}

raised_to : (old value : ℤ) → IsAbove value old → raise old value ≡ value
raised_to old value up =
    elim (raise_is old value) [ inl raised ↦ raised.1 | inr same ↦ absurd (let low : above value old ≤ℤ pos 0 = same.0 in omega (arith, ints)) ]

stays_at : (old value : ℤ) → above value old ≤ℤ pos 0 → raise old value ≡ old
stays_at old value low =
    elim (raise_is old value) [ inl raised ↦ absurd (let up : pos 0 <ℤ above value old = raised.0 in omega (arith, ints)) | inr same ↦ same.1 ]

keeps_higher : (t : Trace) (check : ℕ) (d : Demotion) (w : ℕ) (s : Step) → IsLiftOf t check d w s → KeepsHigher t d w s
keeps_higher t check d w s lift = record {
  word = lift.word;
  stood = lift.old;
  lifted = λ up. lift.new ∙ raised_to t.start_word d.opening (subst (IsAbove d.opening) lift.old up);
  stays = λ low. lift.new ∙ stays_at t.start_word d.opening (subst (λ x. above d.opening x ≤ℤ pos 0) lift.old low) ∙ sym lift.old;
}

each_higher : (t : Trace) (check : ℕ) (d : Demotion) (n : ℕ) (lifts : List Step) → EachFrom (IsLiftOf t check d) n lifts → EachFrom (KeepsHigher t d) n lifts
each_higher t check d n [] h = tt
each_higher t check d n (s ∷ lifts) h = (keeps_higher t check d n s h.0, each_higher t check d (n + 1) lifts h.1)

pub higher_stay : HigherWordsStay
higher_stay m t w d h e f =
    let by = (h.demotion.watch w e).demoted d f in
    record { all = by.all; each = each_higher t w.demoted_in d 0 w.lifts.items by.each }
