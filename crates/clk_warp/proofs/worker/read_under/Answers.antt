use Rattle.std.proofs.Common.{◌≡◌, ◌+◌, List, length, ◌∙◌, ap, sym, arith}
use Rattle.std.proofs.lemmas.List.{length_push}
use Rattle.clk_record.specs.Sides.{of_side}
use Rattle.clk_warp.specs.declared.section.Section.{Section}
use Rattle.clk_warp.specs.declared.section.Section.TheVariants.{Read}
use Rattle.clk_warp.specs.Run.{Run, side_ended}
use Rattle.clk_warp.specs.Working.{readings_of}
use Rattle.clk_warp.proofs.Working.{finds, changed_by, leaves, own_readings, own_ended, one_more}
use Rattle.clk_warp.proofs.worker.read_under.Goals as goal

pub read-reading-requires : goal.read-reading-requires
read-reading-requires g c =
    let f = finds c.args.lock.now c.args.side c.args.seat.now c.enter_by-state.new.seat c.enter_by-state.result c.requires.ready c.enter_by-state.ensures c.requires.going in
    record {
      own = c.requires.tickets ∙ sym f.tickets;
      machine = c.requires.machine ∙ sym f.machine;
      here = f.here;
      going = f.going;
      room = f.room;
    }

pub leave-requires : goal.leave-requires
leave-requires g c = record {
  own = c.enter_by-state.ensures.lock_is ∙ c.requires.ready.lock_is;
  inside = c.enter_by-state.ensures.inside;
  changed = changed_by c.args.lock.now c.args.side c.args.seat.now c.enter_by-state.new.seat c.enter_by-state.result c.read-reading.new.self c.read-reading.result
      c.requires.ready c.enter_by-state.ensures c.read-reading.ensures.reading c.read-reading.ensures.side c.read-reading.ensures.state;
}

pub returns : goal.returns
returns g c =
    let lock = c.args.lock.now in
    let side = c.args.side in
    let before = c.args.seat.now in
    let final = c.leave.new.seat in
    let r = c.read-reading.result in
    let left = leaves lock side before c.enter_by-state.new.seat final c.enter_by-state.result c.read-reading.new.self r
    c.requires.ready c.enter_by-state.ensures c.read-reading.ensures.side c.read-reading.ensures.state c.leave.ensures in
    let readings : c.made.result ≡ length (of_side side (readings_of final.own)) =
    c.made.ensures.count ∙ ap (λ (s : Run). length (of_side side s.readings)) left.state_is
    ∙ ap length (own_readings side lock.first final.known final.own c.requires.ready.first_readings left.ready.mine) in
    let more : length (of_side side (readings_of final.own)) ≡ length (of_side side (readings_of before.own)) + 1 =
    ap (λ (es : List Section). length (of_side side (readings_of es))) left.own ∙ one_more side before.own r c.read-reading.ensures.side in
    record {
      ready = left.ready;
      grown = left.grown;
      own = ap length left.own ∙ length_push before.own (Read r);
      more = more;
      readings = readings;
      some = (omega arith, omega (arith, c.made.ensures.few));
      ended = c.ended.ensures ∙ ap (side_ended side) left.state_is ∙ own_ended side lock.first final.known final.own c.requires.ready.first_readings left.ready.mine;
      small = c.read-reading.ensures.small;
    }
