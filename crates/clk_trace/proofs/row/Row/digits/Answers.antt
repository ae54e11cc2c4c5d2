use Rattle.std.proofs.Common.{◌≡◌, ◌≤◌, length, drop, decimal, ap, arith, rules, length-append}
use Rattle.std.proofs.lemmas.Fmt.{length-decimal-le}
use Rattle.std.proofs.lemmas.List.{length-drop}
use Rattle.clk_trace.proofs.row.Row.digits.Goals as goal

pub write_digits-self-inside-requires : goal.write_digits-self-inside-requires
write_digits-self-inside-requires c =
    let short : length (decimal c.args.n) ≤ 20 = search (rules, length-decimal-le 20) in
    let bytes : length c.self.inside.bytes ≡ 256 = search rules in
    let view = ap length c.self.view_is in
    let left = length-drop c.self.inside.start c.self.inside.bytes in
    (omega (arith, short, bytes, view, left, c.requires), omega (arith, bytes, c.self.invariant))

pub returns-clause-room : goal.returns-clause-room
returns-clause-room c =
    let short : length (decimal c.args.n) ≤ 20 = search (rules, length-decimal-le 20) in
    let bytes : length c.self.inside.bytes ≡ 256 = search rules in
    let view = ap length c.self.view_is in
    let left = length-drop c.self.inside.start c.self.inside.bytes in
    let written = ap length c.write_digits-self-inside.ensures.written in
    let both = length-append (decimal c.args.n) (drop c.self.inside.start c.self.inside.bytes) in
    omega (arith, short, bytes, view, left, written, both, c.requires)
