use Rattle.std.proofs.Common.{◌≡◌, ◌^◌, ℤ, pos, negsuc, ◌+ℤ◌, [], ◌∷◌, length, All, Some, sym, ap, ◌∙◌, subst, arith}
use Rattle.std.proofs.lemmas.Int.{ints}
use Rattle.std.proofs.lemmas.List.Elements.{All-cons}
use Rattle.clk_num.specs.Range.{IsNear, IsFrom0To}
use Rattle.clk_num.specs.Wrapping.{wrap}
use Rattle.clk_num.proofs.Wraps.{wrapped}
use Rattle.clk_machine.specs.Plan.{Plan}
use Rattle.clk_machine.specs.Records.{base_of, above_base}
use Rattle.clk_record.specs.Demotions.{offset_by}
use Rattle.clk_words.specs.declared.opening.Start.{Start}
use Rattle.clk_words.specs.Held.{Held, place_of}
use Rattle.clk_words.specs.Histories.{opens_at, has_lift}
use Rattle.clk_demote.proofs.tests.context.Goals as goal

-- the words open 42 ns above the base
opens_above : (m : Plan) → m.base ≡ pos 0 → IsFrom0To (2 ^ 57) (above_base m (wrap (pos 30 +ℤ pos 12)))
unfolding base_of
opens_above m zero = (omega (arith, ints, wrapped), omega (arith, ints, wrapped))

sched_near : IsNear 57 (negsuc 1)
sched_near = (omega (arith, ints), omega (arith, ints))

adjust_near : IsNear 47 (pos 0)
adjust_near = (omega (arith, ints), omega (arith, ints))

adjusts_near : All (IsNear 47) (pos 0 ∷ [])
adjusts_near = All-cons (IsNear 47) (pos 0) [] adjust_near (λ k d low. absurd (omega arith))

by_boot : (gtod raw : ℤ) → gtod ≡ pos 30 → raw ≡ pos 44 → pos 12 ≡ offset_by (negsuc 1) gtod raw
by_boot gtod raw e f = omega (arith, ints, wrapped)

pub returns-clause-usable : goal.returns-clause-usable
returns-clause-usable c =
    let start = ap (λ (h : Held). h.view.start) c.requires.seat in
    record {
      seated = record { of_words = ap place_of c.requires.seat; of_latches = c.requires.latches; of_tickets = c.requires.table };
      of_machine = record {
        words = ap (λ (s : Start). s.cpus) c.requires.words ∙ sym c.requires.cpus;
        latches = c.requires.count ∙ sym c.requires.cpus;
        adjusts = ap length c.requires.adjusts ∙ sym c.requires.cpus;
      };
      adjusts = subst (All (IsNear 47)) (sym c.requires.adjusts) adjusts_near;
      sched_offset = sched_near;
      held = ap (λ (h : Held). h.view.modes.held) c.requires.seat ∙ ap (λ (s : Start). Some s.opening.offset) c.requires.words;
      by_last = by_boot c.boot_stamp.result.gtod c.boot_stamp.result.raw.ns c.boot_stamp.ensures.0 c.boot_stamp.ensures.1;
      unlifted = λ w low. ap (λ (h : Held). has_lift h.view.seen w) c.requires.seat;
      base = c.requires.base;
      opening = subst (λ (s : Start). IsFrom0To (2 ^ 57) (above_base c.args.shared.now.machine (opens_at s))) (sym (start ∙ c.requires.words))
          (opens_above c.args.shared.now.machine c.requires.zero);
    }
