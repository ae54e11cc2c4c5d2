-- Splits and joins keep the rule, and the load after a join tells how what was kept stands to what each side had.
use Rattle.std.proofs.Common.{◌≡◌, ℕ, ◌+◌, ◌<◌, true, List, set, refl, sym, subst}
use Rattle.std.proofs.lemmas.List.Elements.{All-nil}
use mathlib.Core.Option.{none}
use Rattle.atomic_table.specs.Table.{Me, keeps, step, Allows, Splits}
use Rattle.atomic_table.specs.Table.{Joins as MayJoin}
use Rattle.clk_record.specs.declared.step.Step.{Step}
use Rattle.clk_words.specs.declared.opening.Start.{Start}
use Rattle.clk_words.specs.declared.view.View.{View}
use Rattle.clk_words.specs.declared.kind.SeatKind.{SeatKind}
use Rattle.clk_words.specs.Fronts.{Begins}
use Rattle.clk_words.specs.Kinds.{is_watch}
use Rattle.clk_words.specs.Histories.{opens_at}
use Rattle.clk_words.specs.Views.{giver_view, given_view, joint_view, spent_view, settled}
use Rattle.clk_words.specs.WordsRule.{Fits, Kept}
use Rattle.clk_words.specs.Told.{Met}
use Rattle.clk_words.proofs.Changing.{changed}
use Rattle.clk_words.proofs.Places.{set_same, at_other}
use Rattle.clk_words.proofs.Clocks.{fits_good, clocks_view, clocks_split, clocks_join}
use Rattle.clk_words.proofs.Pairs.{HasGift, pairs_split, pairs_join, pairs_told}
use Rattle.clk_words.proofs.Modes.{modes_fit, fits_settled, HasWatch, modes_split, modes_join}
use Rattle.clk_words.proofs.Quiet.{whole_view, quiet_view, whole_split, quiet_split, whole_join, quiet_join}

pub gives : (start : Start) (id : ℕ) (v : View) (kind : SeatKind) → v.live ≡ true → 0 < v.made → HasGift kind v.pairs → HasWatch (is_watch kind) v.modes
    → Splits (Kept start) id v (giver_view kind v) (given_view kind v)
gives start id v kind live may gift watch s kept at =
    let clocks = clocks_split start kept.history kept.made kept.holder kept.splitter s.words s.views id v kind kept.clocks at live may in
    let pairs = pairs_split start.cpus (opens_at start) kept.chain kept.writer s.words s.views id v kind kept.pairs at gift in
    let modes = modes_split start kept.percpu kept.offset kept.watcher s.words s.views id v kind kept.modes at watch in
    record {
      history = kept.history;
      made = kept.made + 1;
      holder = _;
      splitter = kept.splitter;
      chain = kept.chain;
      writer = _;
      percpu = kept.percpu;
      offset = kept.offset;
      watcher = _;
      wide = kept.wide;
      lifts_first = kept.lifts_first;
      lifted = kept.lifted;
      whole = λ stable. whole_split kept.history s.views id v kind (kept.whole stable) at watch;
      quiet = λ stable. quiet_split kept.chain s.views id v kind (kept.quiet stable) at watch;
      clocks = clocks;
      pairs = pairs;
      modes = modes;
    }

pub glues : (start : Start) (id other : ℕ) (v w : View) → v.live ≡ true → w.live ≡ true → MayJoin (Kept start) id v other w (joint_view v w) spent_view
glues start id other v w live alive s kept at apart there =
    let theirs = at_other s.views id other (joint_view v w) w apart there in
    let clocks = clocks_join start kept.history kept.made kept.holder kept.splitter s.words s.views id other v w kept.clocks at theirs apart live alive in
    let pairs = pairs_join start.cpus (opens_at start) kept.chain kept.writer s.words s.views id other v w kept.pairs at theirs apart in
    let modes = modes_join start kept.percpu kept.offset kept.watcher s.words s.views id other v w kept.modes at theirs apart in
    record {
      history = kept.history;
      made = kept.made;
      holder = _;
      splitter = _;
      chain = kept.chain;
      writer = _;
      percpu = kept.percpu;
      offset = kept.offset;
      watcher = _;
      wide = kept.wide;
      lifts_first = kept.lifts_first;
      lifted = kept.lifted;
      whole = λ stable. whole_join kept.history s.views id other v w (kept.whole stable) at theirs (kept.clocks.each id v at live).front (kept.clocks.each other w theirs alive).front;
      quiet = λ stable. quiet_join kept.chain s.views id other v w (kept.quiet stable) at theirs;
      clocks = clocks;
      pairs = pairs;
      modes = modes;
    }

pub meets : (start : Start) (slots id i : ℕ) (me : Me Step View) → me.0.live ≡ true
    → Allows (Kept start) slots id me i (λ n. n) (Met (step slots i 0 0 none) me)
meets start slots id i me live s kept homes at small =
    let v = me.0 in
    let w = settled v in
    let fits = kept.clocks.each id v at live in
    let now : Fits start kept.history kept.made kept.holder kept.splitter id w = record {
      start_is = fits.start_is;
      front = fits.front;
      lists = fits.lists;
      single = fits.single;
      splits = fits.splits;
      told_is = All-nil (λ (front : List Step). Begins front v.seen);
    } in (
      w,
      keeps,
      tt,
      subst (λ ws. Kept start (record { words = ws; homes = s.homes; views = set s.views id w })) (sym (set_same s.words i))
          (changed start s _ kept.chain kept.offset kept refl
          (λ stable. whole_view kept.history s.views id w (kept.whole stable) (kept.whole stable id v at))
          (λ stable. let rest = kept.quiet stable in quiet_view kept.chain s.views id w rest (rest.unknown id v at) (rest.cloned id v at))
          (clocks_view start kept.history kept.made kept.holder kept.splitter s.words s.views id w kept.clocks (λ alive. now))
          (pairs_told start.cpus (opens_at start) kept.chain kept.writer s.words s.views id v w kept.pairs at refl)
          (modes_fit start kept.percpu kept.offset kept.watcher s.words s.views id w kept.modes (fits_settled kept.percpu kept.offset kept.watcher id v.modes (kept.modes.each id v at)))),
      record {
        slots_kept = refl;
        settles = record {
          view_is = refl;
          good = fits_good start kept.history kept.made kept.holder kept.splitter id w kept.clocks.legal now;
          fronts = fits.told_is;
          parts = (kept.pairs.each id v at).told_is;
          offsets = (kept.modes.each id v at).told_is;
        };
      },
    )
