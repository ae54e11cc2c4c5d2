use Rattle.std.proofs.Common.{length, sym, ◌∙◌, arith}
use Rattle.std.proofs.lemmas.Nat.{mod_below}
use Rattle.clk_machine.specs.Plan.{count_of}
use Rattle.clk_machine.proofs.Counting.{length-repeat}
use Rattle.clk_machine.proofs.Threading.{get_or-repeat, some_words, no_more}
use Rattle.clk_machine.proofs.script.Script.word.Goals as goal

pub overflow_cast-len : goal.overflow_cast-len
overflow_cast-len c =
    let all = length-repeat (count_of c.args.self.now.repeat) c.args.self.now.words.items in
    let few = rw all at c.requires.few in
    let less = no_more (length c.args.self.now.words.items) (count_of c.args.self.now.repeat) c.args.m (rw all at c.requires.word) in
    rw c.len.ensures (omega (arith, few, less))

pub nonzero_rem-m : goal.nonzero_rem-m
nonzero_rem-m c =
    let all = length-repeat (count_of c.args.self.now.repeat) c.args.self.now.words.items in
    rw c.len.ensures (some_words (length c.args.self.now.words.items) (count_of c.args.self.now.repeat) c.args.m (rw all at c.requires.word))

pub get-requires : goal.get-requires
get-requires c =
    let all = length-repeat (count_of c.args.self.now.repeat) c.args.self.now.words.items in
    rw c.len.ensures (mod_below c.args.m (length c.args.self.now.words.items) (some_words (length c.args.self.now.words.items) (count_of c.args.self.now.repeat) c.args.m (rw all at c.requires.word)))

pub returns : goal.returns
returns c =
    let all = length-repeat (count_of c.args.self.now.repeat) c.args.self.now.words.items in
    let h = rw all at c.requires.word in
    let some = some_words (length c.args.self.now.words.items) (count_of c.args.self.now.repeat) c.args.m h in
    let at = rw c.len.ensures at c.get.ensures in
    at ∙ sym (get_or-repeat (count_of c.args.self.now.repeat) c.args.self.now.words.items c.args.m c.get.result.now some h)
