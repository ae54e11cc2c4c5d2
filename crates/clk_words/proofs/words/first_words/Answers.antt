use Rattle.std.proofs.Common.{ℕ, List, ◌++◌, ◌∷◌, [], sym, ap, ◌∙◌, subst, rules, arith, to_z-of_z, FitsSigned, w64}
use Rattle.std.proofs.lemmas.Int.{ints}
use Rattle.clk_num.proofs.Heights.{above_same}
use Rattle.clk_words.specs.FirstWords.{AreFirst}
use Rattle.clk_words.specs.Histories.{opens_at}
use Rattle.clk_words.specs.Heights.{IsClockWord}
use Rattle.clk_words.proofs.Calling.{bits_here}
use Rattle.clk_words.proofs.FirstWords.{are_first}
use Rattle.clk_words.proofs.words.first_words.Goals as goal

pub returns : goal.returns
returns c =
    let start = c.args.start.now in
    let gtod_fits : FitsSigned w64 start.opening.tick_gtod = search rules in
    let raw_fits : FitsSigned w64 start.opening.tick_raw = search rules in
    let offset_fits : FitsSigned w64 start.opening.offset = search rules in
    let none = above_same (opens_at start) in
    let clock : IsClockWord start (opens_at start) c.word_of-clock.result = omega (arith, ints, c.word_of-clock.ensures) in
    let gtod = bits_here start.opening.tick_gtod c.bits_of-gtod.result gtod_fits (simp to_z-of_z at c.bits_of-gtod.ensures) in
    let raw = bits_here start.opening.tick_raw c.bits_of-raw.result raw_fits (simp to_z-of_z at c.bits_of-raw.ensures) in
    let offset = bits_here start.opening.offset c.bits_of.result offset_fits (simp to_z-of_z at c.bits_of.ensures) in
    let whole = c.in_ok-push-2.ensures.items ∙ ap (λ (xs : List ℕ). xs ++ c.bits_of.result ∷ [])
    (c.in_ok-push.ensures.items ∙ ap (λ (xs : List ℕ). xs ++ c.mode_word.result ∷ []) c.in_ok-words.ensures) in
    subst (AreFirst c.args.start.now) (sym whole) (are_first start _ _ _ _ _ clock gtod raw c.mode_word.ensures offset)
