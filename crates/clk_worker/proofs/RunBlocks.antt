-- The tickets of a run: its time seat gains the blocks of its events; a coupling and a tick of the stable clock draw
-- none.
use Rattle.std.proofs.Common.{◌≡◌, List, [], ◌∷◌, ◌++◌, ap, ◌∙◌, sym, append_assoc, append-nil}
use Rattle.std.specs.List.{flat_map}
use Rattle.clk_base.specs.declared.block.Block.{Block}
use Rattle.clk_ticket.specs.Time.{Time}
use Rattle.clk_lawful.specs.Checks.{one}
use Rattle.clk_lawful.specs.TicketOrder.{blocks_of, blocks_of_kind}
use Rattle.clk_lawful.specs.declared.event.Event.{Event}
use Rattle.clk_lawful.specs.declared.event.EventKind.{EventKind}
use Rattle.clk_lawful.specs.declared.event.EventKind.TheVariants.{Stable, Local, Couple, Stamp, Nothing, Update, Pause}
use Rattle.clk_local.specs.Context.{Site, Known}
use Rattle.clk_worker.specs.Running.{Shows, Runs, at_call}

-- one event
shows_blocks : (z : Site) (v : Known) (k : EventKind) (w : Known) → Shows z v k w → w.time.blocks ≡ v.time.blocks ++ blocks_of_kind k
shows_blocks z v (Stable raw value) w h = ap (λ (t : Time). t.blocks) h.stable.reads.draws.is
shows_blocks z v (Local raw tick_raw tick_gtod offset old new) w h = ap (λ (t : Time). t.blocks) h.raised.reads.draws.is
shows_blocks z v (Couple asked own other word old new) w h = ap (λ (t : Time). t.blocks) h.coupled.time_is ∙ sym (append-nil v.time.blocks)
shows_blocks z v (Stamp gtod_ticket gtod raw) w h =
    ap (λ (t : Time). t.blocks) h.stamps.reads.draws.is ∙ ap (λ (t : Time). t.blocks ++ one raw.ticket ∷ []) h.stamps.draws.is
    ∙ append_assoc v.time.blocks (one gtod_ticket ∷ []) (one raw.ticket ∷ [])
shows_blocks z v Nothing w h = ap (λ (x : Known). x.time.blocks) h.same ∙ sym (append-nil v.time.blocks)
shows_blocks z v (Update p) w h = ap (λ (t : Time). t.blocks) h.draws.is
shows_blocks z v (Pause ticket count) w h = ap (λ (t : Time). t.blocks) h.draws.is

-- all events of a run
pub runs_blocks : (z : Site) (v : Known) (es : List Event) (w : Known) → Runs z v es w → w.time.blocks ≡ v.time.blocks ++ flat_map blocks_of es
runs_blocks z v [] w r = rw (← r) (sym (append-nil v.time.blocks))
runs_blocks z v (e ∷ es) w r =
    runs_blocks z r.1 es w r.4 ∙ ap (λ (bs : List Block). bs ++ flat_map blocks_of es) (shows_blocks (at_call z e.call) r.0 e.kind r.1 r.3)
    ∙ ap (λ (t : Time). (t.blocks ++ blocks_of e) ++ flat_map blocks_of es) r.2.time_is ∙ append_assoc v.time.blocks (blocks_of e) (flat_map blocks_of es)
