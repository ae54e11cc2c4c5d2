use Rattle.std.proofs.Common.{◌≡◌, true, rules, tests, arith, ◌∙◌, sym}
use Rattle.std.specs.List.{list_all}
use Rattle.std.proofs.lemmas.Iterator.{YieldsList-from_slice}
use Rattle.std.proofs.lemmas.Iterator.Search.{all_from_yields_List}
use Rattle.clk_file.specs.Words.{is_digit, is_number}
use Rattle.clk_file.proofs.Digits.{long_number}
use Rattle.clk_file.proofs.words.is_number.Goals as goal
use Rattle.clk_file.proofs.words.is_number.Goals.{then-text-ge1, else-text-ge1}

pub returns-else-text-eq1 : goal.returns-else-text-eq1
unfolding is_number
returns-else-text-eq1 c =
    let each = all_from_yields_List is_digit _ _ c.all.result c.all.ensures.ran (YieldsList-from_slice c.args.text.now cc) (λ x b q k. search (rules, tests)) in
    let all : list_all is_digit c.args.text.now ≡ true = sym each ∙ c.if-all.true in
    elim c.if-text-ge1.branch [
      | then-text-ge1 w ↦ sym (long_number c.args.text.now (omega arith) (omega arith) all c.if-text-eq1.false)
      | else-text-ge1 w ↦ absurd (omega arith)
    ]
