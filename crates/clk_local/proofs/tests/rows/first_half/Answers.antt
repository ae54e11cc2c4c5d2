use Rattle.std.proofs.Common.{ap, sym, subst, rules, to_z-of_z, FitsSigned, w64}
use Rattle.clk_words.specs.declared.opening.Start.{Start}
use Rattle.clk_words.specs.declared.view.Name.TheVariants.{Raw}
use Rattle.clk_words.specs.Bounds.{IsRaw}
use Rattle.clk_words.specs.Histories.{opens_at}
use Rattle.clk_words.specs.Kinds.{cpu_of}
use Rattle.clk_words.specs.Knowing.{HasLoaded}
use Rattle.clk_words.proofs.Loading.{kept_stamp, loaded_stamp}
use Rattle.clk_local.proofs.Raising.{raw_near, still_base}
use Rattle.clk_local.proofs.ContextKept.{found_still, still_usable, role_kept}
use Rattle.clk_local.proofs.Spending.{one_ticket}
use Rattle.clk_local.proofs.tests.rows.first_half.Goals as goal

pub returns-clause-usable : goal.returns-clause-usable
returns-clause-usable g c =
    let role = role_kept _ _ (kept_stamp _ _ _ _ _ c.load_raw-tick_raw.ensures.finds.finds) in
    still_usable _ _ _ _ _ _ c.requires.usable c.load_raw-tick_raw.ensures.own role c.read-raw.ensures.own
    (one_ticket _ _ _ c.requires.ticket c.read-raw.ensures.draws).table_is (still_base _ _ _ _ _ _ c.read-raw.ensures.reads c.requires.usable.base)

pub returns-clause-found : goal.returns-clause-found
returns-clause-found g c = found_still _ _ (kept_stamp _ _ _ _ _ c.load_raw-tick_raw.ensures.finds.finds) c.requires.found

pub returns-clause-raw : goal.returns-clause-raw
returns-clause-raw g c =
    let kept = kept_stamp _ _ _ _ _ c.load_raw-tick_raw.ensures.finds.finds in
    let near = raw_near _ _ _ _ _ _ _ c.read-raw.ensures.reads c.requires.usable.base c.requires.usable.opening in
    subst (λ (s : Start). IsRaw (opens_at s) c.read-raw.result.ns) (sym kept.start_is) near

pub returns-clause-loaded : goal.returns-clause-loaded
returns-clause-loaded g c =
    let fits : FitsSigned w64 c.load_raw-tick_raw.result = search rules in
    let finds = c.load_raw-tick_raw.ensures.finds.finds in
    let kept = kept_stamp _ _ _ _ _ finds in
    rw (to_z-of_z fits)
    (subst (λ k. HasLoaded c.load_raw-tick_raw.new.seat.view (Raw k) c.load_raw-tick_raw.result) (sym (ap cpu_of kept.kind_is)) (loaded_stamp _ _ _ _ _ finds))
