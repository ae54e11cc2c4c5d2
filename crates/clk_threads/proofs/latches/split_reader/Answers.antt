use Rattle.std.proofs.Common.{◌≡◌, ℕ, List, get_or, set, sym, ap, ap₂, ◌∙◌}
use Rattle.std.proofs.lemmas.List.{set-get_or}
use Rattle.clk_latch.specs.Epoch.{Place}
use Rattle.clk_threads.proofs.latches.split_reader.Goals as goal

pub returns-clause-same : goal.returns-clause-same
returns-clause-same c =
    let seats : List Place = c.args.seats.now in
    let owner : ℕ = c.args.owner in
    let found : Place = get_or seats owner c.index-seats-owner.result in
    let new : Place = c.split.new.seat in
    let latch = c.split.ensures.own ∙ sym (c.requires.own c.index-seats-owner.result) in
    let same : new ≡ found = ap₂ (λ l e. record { latch = l; epoch = e }) latch c.split.ensures.seat in
    ap (set seats owner) same ∙ set-get_or seats owner c.index-seats-owner.result
