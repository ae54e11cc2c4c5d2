use Rattle.std.proofs.Common.{◌≡◌, true, false, ◌∙◌, ap, rules, sym, subst}
use Rattle.clk_warp.specs.Sections.{after}
use Rattle.clk_warp.specs.Turns.{Lock, Turn, IsChanged, Leaves}
use Rattle.clk_warp.specs.TurnSeats.{turn_of}
use Rattle.clk_warp.proofs.Seating.{give_ready, raise_ready, left_of, leaves_by}
use Rattle.clk_warp.proofs.lock.TurnLock.leave.Goals as goal

pub load-requires : goal.load-requires
load-requires c =
    let i = c.seat.inside in
    let within : i.inside ≡ true = ap (λ (t : Turn). t.inside) c.seat.view_is ∙ c.requires.inside in
    let changed : IsChanged i.side (after i.first.value i.seat.me.0.known) c.args.state =
    subst (λ (t : Turn). IsChanged t.side (after t.lock.first t.known) c.args.state) (sym c.seat.view_is) c.requires.changed in
    let same : i.first.value ≡ c.self.inside.table.shared.key.value =
    ap (λ (t : Turn). t.lock.first) c.seat.view_is ∙ ap (λ (l : Lock). l.first) c.requires.own ∙ sym (ap (λ (l : Lock). l.first) c.self.view_is) in
    let put = c.exchange.ensures in
    (search rules, search rules, give_ready i c.exchange.new.seat _ c.exchange.result c.args.state _ _ c.seat.invariant within same put.2 put.3 changed)

pub fetch_add-requires : goal.fetch_add-requires
fetch_add-requires c =
    let i = c.seat.inside in
    (search rules, search rules, raise_ready _ i c.exchange.new.seat c.load.new.seat c.args.state _ _ _ _ c.seat.invariant c.exchange.ensures.3 c.load.ensures.2)

pub returns : goal.returns
returns c =
    let i = c.seat.inside in
    let within : i.inside ≡ true = ap (λ (t : Turn). t.inside) c.seat.view_is ∙ c.requires.inside in
    let put = c.exchange.ensures in
    let left = left_of _ _ i c.exchange.new.seat c.load.new.seat c.fetch_add.new.seat _ _ c.exchange.result c.args.state c.seat.invariant within put.2 put.3 c.load.ensures.2 c.fetch_add.ensures.2 in
    subst (λ (t : Turn). Leaves t c.args.state (turn_of (record i { seat = c.fetch_add.new.seat; inside = false }))) c.seat.view_is
    (leaves_by i c.args.state c.fetch_add.new.seat left (search rules))
