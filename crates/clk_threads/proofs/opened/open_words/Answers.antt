use Rattle.std.proofs.Common.{◌≡◌, ℕ, ℤ, sym, ap, ◌∙◌, subst, rules, FitsSigned, w64, to_z-of_z}
use Rattle.clk_words.specs.declared.opening.Opening.{Opening}
use Rattle.clk_words.specs.Bounds.{IsOpening}
use Rattle.clk_machine.specs.Plan.{cpu_count}
use Rattle.clk_threads.specs.Preparing.{start_of}
use Rattle.clk_threads.proofs.BootDemoting.{opens}
use Rattle.clk_threads.proofs.opened.open_words.Goals as goal

pub new-requires-clause-opening : goal.new-requires-clause-opening
new-requires-clause-opening c = subst IsOpening (sym c.opening_by-opening.ensures) (opens c.args.machine.now c.args.stamps.now c.args.demotion c.requires.stamps c.requires.demotion)

pub returns : goal.returns
returns c =
    let m = c.args.machine.now in
    let words = c.in_ok-words.words in
    let told = c.in_ok-words.ensures in
    let cpus = c.cpus-cpus.ensures.count in
    let opening = c.opening_by-opening.result in
    let tick : FitsSigned w64 c.tick.result = search rules in
    let begins : words.start ≡ record { cpus = c.cpus-cpus.result; tick = c.tick.result; opening = opening } =
    told.start ∙ ap (λ (t : ℤ). record { cpus = c.cpus-cpus.result; tick = t; opening = opening }) (to_z-of_z tick) in
    let start : words.start ≡ start_of m c.args.stamps.now c.args.demotion =
    begins ∙ ap (λ (n : ℕ). record { cpus = n; tick = c.tick.result; opening = opening }) cpus
    ∙ ap (λ (t : ℤ). record { cpus = cpu_count m; tick = t; opening = opening }) c.tick.ensures.tick
    ∙ ap (λ (o : Opening). record { cpus = cpu_count m; tick = m.tick; opening = o }) c.opening_by-opening.ensures in
    record {
      start = start;
      seats = c.split_seats-seats.ensures.seats;
      watch = c.split_watch-watch.ensures.seat;
      first = c.split_watch-watch.ensures.first;
    }
