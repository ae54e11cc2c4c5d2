use Rattle.std.proofs.Common.{get_or, replicate, refl, sym}
use Rattle.clk_lawful.specs.Filling.{lines_on, steps_left}
use Rattle.clk_lawful.specs.WordHistory.{all_steps}
use Rattle.clk_trace.proofs.Gaining.{room_same}
use Rattle.clk_trace.proofs.Keeping.{keeps_same, keeps_more, keeps_room, none_kept, lines_start}
use Rattle.clk_trace.proofs.gather.fill_threads.Goals as goal

pub fill_rounds-requires-clause-room : goal.fill_rounds-requires-clause-room
fill_rounds-requires-clause-room c =
    room_same _ _ _ (λ w. sym (lines_start (λ n. get_or (replicate 80 0) n 0) c.args.cpu_of.now c.args.threads.now (none_kept 80) w)) c.requires.room

pub fill_rest-requires-clause-room : goal.fill_rest-requires-clause-room
fill_rest-requires-clause-room c =
    keeps_room _ _ _ _
    (room_same c.args.lists.now (λ w. lines_on w (all_steps 0 c.args.cpu_of.now c.args.threads.now))
    (λ w. lines_on w (steps_left (λ n. get_or (replicate 80 0) n 0) 0 c.args.cpu_of.now c.args.threads.now))
    (λ w. sym (lines_start (λ n. get_or (replicate 80 0) n 0) c.args.cpu_of.now c.args.threads.now (none_kept 80) w)) c.requires.room)
    c.fill_rounds.ensures

pub returns : goal.returns
returns c =
    keeps_same _ _ (λ w. lines_on w (steps_left (λ n. get_or (replicate 80 0) n 0) 0 c.args.cpu_of.now c.args.threads.now)) _ _ _
    (λ w. lines_start (λ n. get_or (replicate 80 0) n 0) c.args.cpu_of.now c.args.threads.now (none_kept 80) w) (λ w. refl)
    (keeps_more _ _ _ _ _ _ c.fill_rounds.ensures c.fill_rest.ensures)
