use Rattle.std.proofs.Common.{◌≡◌, IsTrue, None, inl, inr, ⊎_elim, ap, ◌∙◌, subst}
use Rattle.clk_words.specs.declared.view.View.{View}
use Rattle.clk_words.specs.declared.view.ModeView.{ModeView}
use Rattle.clk_words.specs.Knowing.{IsOwner}
use Rattle.clk_words.specs.Calls.{with_offset, KeepsOffset, KeepsSeat}
use Rattle.clk_words.proofs.tests.threads.run.Goals as goal

kept_offset : (v u w : View) → KeepsOffset v u → KeepsOffset u w → KeepsOffset v w
kept_offset v u w a b = ⊎_elim
    (λ (e : v.modes.offset ≡ None). inl e)
    (λ (e : v.modes.offset ≡ u.modes.offset). ⊎_elim (λ (n : u.modes.offset ≡ None). inl (e ∙ n)) (λ (f : u.modes.offset ≡ w.modes.offset). inr (e ∙ f)) b)
    a

-- what each of two calls keeps
kept_on : (v u w : View) → KeepsSeat v u → KeepsSeat u w → KeepsSeat v w
kept_on v u w a b = record {
  start_is = b.start_is ∙ a.start_is;
  number_is = b.number_is ∙ a.number_is;
  kind_is = b.kind_is ∙ a.kind_is;
  made_is = b.made_is ∙ a.made_is;
  joined_is = b.joined_is ∙ a.joined_is;
  owns_is = b.owns_is ∙ a.owns_is;
  gives_is = b.gives_is ∙ a.gives_is;
  modes_is = b.modes_is ∙ ap (λ (m : ModeView). with_offset w.modes.offset m) a.modes_is;
  offset_is = kept_offset v u w a.offset_is b.offset_is;
}

owns_on : (v w : View) → KeepsSeat v w → IsOwner v → IsOwner w
owns_on v w k own = rw (k.owns_is, k.kind_is) own

pub loop-call-preserved : goal.loop-call-preserved
loop-call-preserved c =
    let stamped = kept_on _ _ _ c.loop-call.invariant.kept c.stamp_if.ensures.kept in
    let read = kept_on _ _ _ stamped c.local-step.ensures.kept in
    let same = c.loop-call.invariant.same in
    record {
      own = c.couple-step.ensures.own;
      kept = kept_on _ _ _ read c.couple-step.ensures.kept;
      same = same;
      turn = λ stamps.
          c.couple-step.ensures.turn
          (c.local-step.ensures.turn (owns_on _ _ stamped (c.requires.turn (subst IsTrue same stamps)).0) (c.stamp_if.ensures.turn stamps));
    }
