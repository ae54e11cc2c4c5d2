use Rattle.std.proofs.Common.{◌∙◌, sym, rules, tests, string_bytes}
use Rattle.std.specs.List.{list_any}
use Rattle.std.specs.Str.{bytes_eq}
use Rattle.std.specs.BTreeMap.{keys}
use Rattle.std.proofs.lemmas.Iterator.Consumers.{YieldsList-from_rest}
use Rattle.std.proofs.lemmas.Iterator.Search.{all_from_yields_List}
use Rattle.clk_file.proofs.Lookup.{has_only-keys}
use Rattle.clk_file.proofs.keys.has_only.Goals as goal

pub returns : goal.returns
returns c =
    let each = all_from_yields_List (λ k. list_any (λ n. bytes_eq n.now (string_bytes k)) c.args.names.now) _ _ c.all.result c.all.ensures.ran
    (YieldsList-from_rest (keys c.args.table.now) c.keys.ensures.rest) (λ x b q k. search (rules, tests)) in
    each ∙ sym (has_only-keys c.args.names.now c.args.table.now.entries)
