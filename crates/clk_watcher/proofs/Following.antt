-- What follows a record: a stamp, the demotion, or neither.
use Rattle.std.proofs.Common.{◌≡◌, ℕ, Some, None, [], ◌∷◌, ◌++◌, refl, sym, ◌∙◌, ap, arith, append-nil}
use Rattle.std.specs.Prelude.{Bool, true, false}
use Rattle.clk_record.specs.declared.visit.SourceRecord.{SourceRecord}
use Rattle.clk_lawful.specs.Checks.{listed}
use Rattle.clk_lawful.specs.declared.trace.WatchTrace.{WatchTrace}
use Rattle.clk_watcher.specs.Calling.{Context, known, IsStable, Follows, Stamps, Demotes}

pub follows_stamp : (cpu check : ℕ) (r : SourceRecord) (stable : Bool) (v w : Context) (a b : WatchTrace) → stable ≡ true → r.tsc_current ≡ true → r.tsc_demoted ≡ false
    → Stamps cpu v a w b → Follows cpu check r stable v a stable w b
follows_stamp cpu check r stable v w a b is_so current demoted s =
    let spends = s.spends in
    let room = s.room in
    record {
      stamp = Some s.stamp;
      demotion = None;
      middle = known w;
      stamps = s.shows;
      demotes = refl;
      stamp_called = rw (is_so, current) refl;
      demotion_called = rw (is_so, demoted) refl;
      after_is = rw (is_so, demoted) refl;
      stamps_are = s.stamps;
      demotion_is = ap (λ (x : WatchTrace). listed x.demotion) s.rest ∙ sym (append-nil (listed a.demotion));
      lifts_are = ap (λ (x : WatchTrace). x.lifts.items) s.rest ∙ sym (append-nil a.lifts.items);
      check_is = ap (λ (x : WatchTrace). x.demoted_in) s.rest;
      tickets = rw current (omega (arith, spends));
      room = rw current (omega (arith, room));
      watch = ap (λ (x : WatchTrace). x.watch) s.rest;
      rest = record {
        thread = ap (λ (x : WatchTrace). x.thread) s.rest;
        machine = ap (λ (x : WatchTrace). x.watch.machine) s.rest;
        lost = ap (λ (x : WatchTrace). x.watch.tsc_unstable) s.rest;
        pauses = ap (λ (x : WatchTrace). x.pauses) s.rest;
        ends = ap (λ (x : WatchTrace). x.last_record) s.rest;
        currents = ap (λ (x : WatchTrace). x.currents) s.rest;
      };
      keeps = s.keeps;
      seated = s.stable.usable.seated;
    }

pub follows_demotion : (cpu check : ℕ) (r : SourceRecord) (stable : Bool) (v w : Context) (a b : WatchTrace) → stable ≡ true → r.tsc_current ≡ false → r.tsc_demoted ≡ true
    → IsStable v a → Demotes cpu check v a w b → Follows cpu check r stable v a false w b
follows_demotion cpu check r stable v w a b is_so current demoted before d =
    let spends = d.spends in
    let room : a.stamps.room ≡ b.stamps.room = sym (ap (λ (x : WatchTrace). x.stamps.room) d.rest) in
    record {
      stamp = None;
      demotion = Some d.demotion;
      middle = known v;
      stamps = refl;
      demotes = d.shows;
      stamp_called = rw (is_so, current) refl;
      demotion_called = rw (is_so, demoted) refl;
      after_is = rw (is_so, demoted) refl;
      stamps_are = ap (λ (x : WatchTrace). x.stamps.items) d.rest ∙ sym (append-nil a.stamps.items);
      demotion_is = ap (λ (x : WatchTrace). listed x.demotion) d.rest ∙ ap (λ l. l ++ d.demotion ∷ []) (sym before.none_yet);
      lifts_are = d.lifts;
      check_is = ap (λ (x : WatchTrace). x.demoted_in) d.rest;
      tickets = rw (current, demoted) (omega (arith, spends));
      room = rw (current, demoted) (omega (arith, room));
      watch = ap (λ (x : WatchTrace). x.watch) d.rest;
      rest = record {
        thread = ap (λ (x : WatchTrace). x.thread) d.rest;
        machine = ap (λ (x : WatchTrace). x.watch.machine) d.rest;
        lost = ap (λ (x : WatchTrace). x.watch.tsc_unstable) d.rest;
        pauses = ap (λ (x : WatchTrace). x.pauses) d.rest;
        ends = ap (λ (x : WatchTrace). x.last_record) d.rest;
        currents = ap (λ (x : WatchTrace). x.currents) d.rest;
      };
      keeps = d.keeps;
      seated = d.seated;
    }
