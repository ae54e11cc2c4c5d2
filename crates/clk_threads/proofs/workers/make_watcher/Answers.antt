use Rattle.std.proofs.Common.{[], refl, sym, ap, rules, FitsSigned, w64, to_z-of_z}
use Rattle.std.specs.Prelude.{is_some}
use Rattle.std.proofs.lemmas.List.Elements.{All-nil, All-cons}
use Rattle.clk_watcher.specs.Making.{Hand}
use Rattle.clk_threads.specs.Workers.{IsOfWatch}
use Rattle.clk_threads.proofs.BootDemoting.{last_boot}
use Rattle.clk_threads.proofs.workers.make_watcher.Goals as goal

pub returns-in-Some : goal.returns-in-Some
returns-in-Some c =
    let sched : FitsSigned w64 c.args.sched_offset = search rules in
    let gtod : FitsSigned w64 c.args.gtod_offset = search rules in
    let told = simp to_z-of_z at c.new.ensures in
    let Of : Hand → Type 0 = IsOfWatch c.args.stamps.now c.args.sched_offset c.args.gtod_offset c.args.stable c.args.seats in
    record {
      there = sym (ap is_some c.in-Some.is);
      each = All-cons Of c.new.result []
          (record {
            parts = _;
            trace = c.unwrap-in-Some.result;
            seat = c.in-Some.is;
            latches = refl;
            time = c.unwrap.ensures;
            sched_offset_is = refl;
            gtod_offset_is = refl;
            last = λ s. last_boot c.args.gtod_offset s _ c.args.stamps.now c.requires.some c.requires.offsets;
            trace_is = c.unwrap-in-Some.ensures;
            hand = told.hand;
            begins = told.begins;
          })
          (All-nil Of);
    }
