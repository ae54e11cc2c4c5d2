-- The words of a reader's script.
use Rattle.std.proofs.Common.{ℕ, List, [], ◌∷◌, Option, Some, None, option_and_then}
use Rattle.std.specs.List.{All, filter_map, cons_option}
use Rattle.std.proofs.lemmas.List.Elements.{All-nil, All-cons}
use Rattle.toml.specs.Data.{Data, Members, as_str}
use Rattle.clk_machine.specs.declared.script.Word.{Word}
use Rattle.clk_machine.specs.declared.script.Word.TheVariants.{Local, Remote, Tick, Idle, Update, Pause}
use Rattle.clk_machine.specs.Limits.{IsOfReader}
use Rattle.clk_file.specs.declared.words.Thread.TheVariants.{Reader}
use Rattle.clk_file.specs.Keys.{items_at}
use Rattle.clk_file.specs.Words.{word_of, word_in, reader_word}
use Rattle.clk_file.specs.Described.{words_in}

with_word : (o : Option Word) (ws : List Word) → All IsOfReader ws → All IsOfReader (cons_option (option_and_then reader_word o) ws)
with_word None ws all = all
with_word (Some Local) ws all = All-cons IsOfReader Local ws tt all
with_word (Some (Remote d)) ws all = All-cons IsOfReader (Remote d) ws tt all
with_word (Some Tick) ws all = all
with_word (Some Idle) ws all = all
with_word (Some Update) ws all = all
with_word (Some (Pause n)) ws all = All-cons IsOfReader (Pause n) ws tt all

with_text : (o : Option (List ℕ)) (ws : List Word) → All IsOfReader ws → All IsOfReader (cons_option (option_and_then (word_in Reader) o) ws)
with_text None ws all = all
with_text (Some text) ws all = with_word (word_of text) ws all

of_reader : (ds : List Data) → All IsOfReader (filter_map (λ d. option_and_then (word_in Reader) (as_str d)) ds)
of_reader [] = All-nil IsOfReader
of_reader (d ∷ ds) = with_text (as_str d) (filter_map (λ d. option_and_then (word_in Reader) (as_str d)) ds) (of_reader ds)

pub words_of_reader : (t : Members) → All IsOfReader (words_in Reader t)
words_of_reader t = of_reader (items_at _ t)
