use Rattle.std.proofs.Common.{sym, subst, refl}
use Rattle.clk_ticket.specs.Time.{share_of}
use Rattle.clk_words.specs.Held.{Place}
use Rattle.clk_machine.specs.Limits.{IsInRange}
use Rattle.clk_worker.specs.Calling.{seats_in}
use Rattle.clk_worker.proofs.Making.{word_in_range, may_make, at_call, over_after}
use Rattle.clk_worker.proofs.calls.make_at.Goals as goal

pub make-requires-clause-range : goal.make-requires-clause-range
make-requires-clause-range c =
    let s = c.args.shared.now in
    let p = c.args.post.now in
    let range = word_in_range s p c.args.m c.word-word.result c.requires.serves.shared c.requires.serves.thread c.requires.within c.word-word.ensures in
    subst (λ (x : Place). IsInRange x.start.cpus c.word-word.result) (sym c.requires.context.words) range

pub make-requires-clause-allowed : goal.make-requires-clause-allowed
make-requires-clause-allowed c =
    let s = c.args.shared.now in
    let p = c.args.post.now in
    let v = c.args.ctx.now in
    may_make s p c.args.m (share_of v.time) c.word-word.result (seats_in v) _ c.requires.serves (at_call s p v c.args.m c.requires.context) c.requires.within c.word-word.ensures

pub returns-clause-context : goal.returns-clause-context
returns-clause-context c =
    let s = c.args.shared.now in
    let p = c.args.post.now in
    let v = c.args.ctx.now in
    over_after s p c.args.m (seats_in v) _ c.make.new.ctx (at_call s p v c.args.m c.requires.context) c.make.ensures.stands

pub returns-clause-made : goal.returns-clause-made
returns-clause-made c =
    let s = c.args.shared.now in
    let p = c.args.post.now in
    let v = c.args.ctx.now in
    record {
      word = c.word-word.result;
      word_is = c.word-word.ensures;
      before = record v { call = c.args.m };
      context = at_call s p v c.args.m c.requires.context;
      later = c.make.new.ctx;
      makes = c.make.ensures;
      seats = record { seat = refl; latch_seat = refl; time = refl };
    }
