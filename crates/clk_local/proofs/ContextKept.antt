-- What calls keep: a seat's role, and a context that may be used again.
use Rattle.std.proofs.Common.{◌≡◌, ◌^◌, IsTrue, inr, refl, ap, sym, ◌∙◌, subst}
use Rattle.clk_num.specs.Range.{IsFrom0To}
use Rattle.clk_ticket.specs.Time.{Time}
use Rattle.clk_words.specs.declared.opening.Start.{Start}
use Rattle.clk_words.specs.declared.view.ModeView.{ModeView}
use Rattle.clk_words.specs.declared.view.View.{View}
use Rattle.clk_words.specs.Calls.{with_offset, KeepsSeat}
use Rattle.clk_words.specs.Held.{Held, place_of}
use Rattle.clk_words.specs.Histories.{opens_at}
use Rattle.clk_words.specs.Kinds.{cpu_of}
use Rattle.clk_words.specs.Knowing.{HasFoundPerCpu, IsReadingKind}
use Rattle.clk_words.proofs.Loading.{kept_both}
use Rattle.clk_machine.specs.Records.{above_base}
use Rattle.clk_latch.specs.Epoch.{Epoch}
use Rattle.clk_local.specs.declared.context.Ctx.{Ctx}
use Rattle.clk_local.specs.Context.{BeginsAtBase, IsUsable, Keeps, KeepsRole, looked_as}

-- ---- a seat's role

-- what makes no look keeps it
pub found_still : (v w : View) → KeepsSeat v w → HasFoundPerCpu v → HasFoundPerCpu w
found_still v w kept found = subst (λ (m : ModeView). IsTrue m.found) (sym kept.modes_is) found

pub role_kept : (v w : View) → KeepsSeat v w → KeepsRole v w
role_kept v w kept =
    let relooked : ModeView → ModeView = λ (m : ModeView). with_offset m.offset (record v.modes { looks = m.looks; found = m.found }) in
    record {
      seat = record {
        start_is = kept.start_is;
        number_is = kept.number_is;
        kind_is = kept.kind_is;
        made_is = kept.made_is;
        joined_is = kept.joined_is;
        owns_is = kept.owns_is;
        gives_is = kept.gives_is;
        modes_is = kept.modes_is ∙ ap relooked (sym kept.modes_is);
        offset_is = kept.offset_is;
      };
      found = found_still v w kept;
    }

pub role_same : (v : View) → KeepsRole v v
role_same v =
    role_kept v v (record { start_is = refl; number_is = refl; kind_is = refl; made_is = refl; joined_is = refl; owns_is = refl; gives_is = refl; modes_is = refl; offset_is = inr refl })

-- one after the other
pub role_both : (u v w : View) → KeepsRole u v → KeepsRole v w → KeepsRole u w
role_both u v w p q =
    let first : KeepsSeat (looked_as w u) (looked_as w v) =
    record {
      start_is = p.seat.start_is;
      number_is = p.seat.number_is;
      kind_is = p.seat.kind_is;
      made_is = p.seat.made_is;
      joined_is = p.seat.joined_is;
      owns_is = p.seat.owns_is;
      gives_is = p.seat.gives_is;
      modes_is = ap (λ (m : ModeView). record m { looks = w.modes.looks; found = w.modes.found }) p.seat.modes_is;
      offset_is = p.seat.offset_is;
    } in
    record { seat = kept_both (looked_as w u) (looked_as w v) w first q.seat; found = λ found. q.found (p.found found) }

-- ---- a context

-- seats that went on may be used again
pub still_usable : {E S : Type 0} (fits : E → S → Type 0) (epoch : S → Epoch) (ctx : Ctx E S) (seat : Held) (latch_seat : S) (time : Time) → IsUsable fits epoch ctx
    → place_of seat ≡ ctx.words.now → KeepsRole ctx.seat.view seat.view → fits ctx.epochs.now latch_seat → time.table ≡ ctx.time.table
    → BeginsAtBase ctx.counter.machine.now (epoch latch_seat) → IsUsable fits epoch (record ctx { seat = seat; latch_seat = latch_seat; time = time })
still_usable fits epoch ctx seat latch_seat time usable place role latch table base =
    let kept = role.seat in
    record {
      of_words = place;
      of_latch = latch;
      of_tickets = table ∙ usable.of_tickets;
      reading = subst IsReadingKind (sym kept.kind_is) usable.reading;
      cpu_is = usable.cpu_is ∙ ap cpu_of (sym kept.kind_is);
      machine_cpu = usable.machine_cpu;
      near = usable.near;
      tick_is = usable.tick_is;
      offset = usable.offset;
      base = base;
      opening = subst (λ (s : Start). IsFrom0To (2 ^ 57) (above_base ctx.counter.machine.now (opens_at s))) (sym kept.start_is) usable.opening;
    }

-- one call after the other
pub keeps_both : {E S : Type 0} (fits : E → S → Type 0) (epoch : S → Epoch) (a b c : Ctx E S) → Keeps fits epoch a b → Keeps fits epoch b c → Keeps fits epoch a c
keeps_both fits epoch a b c p q = record {
  words = q.words ∙ p.words;
  epochs = q.epochs ∙ p.epochs;
  tickets = q.tickets ∙ p.tickets;
  site = q.site ∙ p.site;
  role = role_both a.seat.view b.seat.view c.seat.view p.role q.role;
  usable = q.usable;
  may_stamp = λ may. q.may_stamp (p.may_stamp may);
}
