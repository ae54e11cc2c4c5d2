use Rattle.std.proofs.Common.{◌≡◌, ℕ, ◌<◌, length, Some, sym, subst, rules}
use Rattle.clk_worker.specs.Making.{Hand}
use Rattle.clk_worker.proofs.Making.{latch_there, HasCome, come_within, sets_out, comes_on, ready, comes_back}
use Rattle.clk_worker.proofs.worker.Worker.make_to.Goals as goal

pub context-ctx-requires : goal.context-ctx-requires
context-ctx-requires g c =
    let s = c.args.shared.now in
    record { cpu = subst (λ (h : Hand). h.post.cpu < length s.epochs.items) (sym c.self.view_is) (latch_there s c.args.self.now c.requires.shared) }

pub loop-m-init : goal.loop-m-init
loop-m-init g c =
    let s = c.args.shared.now in
    let inside = c.self.inside in
    let own = c.unwrap-own.result in
    let ctx = c.context-ctx.result in
    let v : Hand = record { post = inside.post; next = inside.next; own = inside.own; events = inside.events } in
    let seats : v.own ≡ Some own = (let taken = c.take.ensures.value in let there = c.unwrap-own.ensures in cc) in
    subst (λ (h : Hand). HasCome s h v.next v.post v.events ctx) c.self.view_is (sets_out s v own ctx seats c.context-ctx.ensures)

pub make_at-requires-clause-within : goal.make_at-requires-clause-within
make_at-requires-clause-within g c =
    let low : c.loop-m.m < c.args.end = search rules in
    come_within c.args.shared.now c.args.self.now c.loop-m.m c.args.end _ _ c.loop-m.ctx c.loop-m.invariant low c.requires.within

pub make_at-requires-clause-serves : goal.make_at-requires-clause-serves
make_at-requires-clause-serves g c = (ready c.args.shared.now c.args.self.now c.loop-m.m _ _ c.loop-m.ctx c.requires.shared c.loop-m.invariant).serves

pub make_at-requires-clause-enough : goal.make_at-requires-clause-enough
make_at-requires-clause-enough g c = (ready c.args.shared.now c.args.self.now c.loop-m.m _ _ c.loop-m.ctx c.requires.shared c.loop-m.invariant).enough

pub loop-m-preserved : goal.loop-m-preserved
loop-m-preserved g c =
    let s = c.args.shared.now in
    let v = c.args.self.now in
    let m = c.loop-m.m in
    let inside = c.loop-m.self-inside in
    let low : m < c.args.end = search rules in
    let within = come_within s v m c.args.end inside.post inside.events c.loop-m.ctx c.loop-m.invariant low c.requires.within in
    comes_on s v m inside.post inside.events c.make_at.new.events c.loop-m.ctx c.make_at.new.ctx within c.loop-m.invariant c.make_at.ensures.context c.make_at.ensures.made

pub returns-clause-made : goal.returns-clause-made
returns-clause-made g c =
    let s = c.args.shared.now in
    let v = c.args.self.now in
    let inside = c.loop-m.self-inside in
    let ctx = c.loop-m.ctx in
    let done : c.loop-m.m ≡ c.args.end = search rules in
    let come = subst (λ (n : ℕ). HasCome s v n inside.post inside.events ctx) done c.loop-m.invariant in
    comes_back s v c.args.end inside.post inside.events ctx c.own_of.result come c.own_of.ensures
