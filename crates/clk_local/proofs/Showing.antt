-- Lemmas on what calls show: the parts of a raised reading, of a stamp and of a tick, put together.
use Rattle.std.proofs.Common.{◌≡◌, ℕ, ℤ, ◌⊎◌, inl, inr, IsTrue, true, List, [], ◌∷◌, ◌++◌, sym, ap, ◌∙◌, subst, Some, arith, append_assoc, append-nil}
use Rattle.clk_num.specs.Wrapping.{IsNotBelow, raise}
use Rattle.clk_num.proofs.Heights.{raise_rises}
use Rattle.clk_machine.specs.declared.reading.RawReading.{RawReading}
use Rattle.clk_record.specs.declared.mode.Mode.{Mode}
use Rattle.clk_record.specs.declared.mode.Mode.TheVariants.{PerCpu as PerCpuMode}
use Rattle.clk_record.specs.declared.step.Step.{Step}
use Rattle.clk_record.specs.declared.step.Why.{Why}
use Rattle.clk_record.specs.declared.step.Why.TheVariants.{Raise}
use Rattle.clk_record.specs.Targets.{target}
use Rattle.clk_words.specs.declared.opening.Start.{Start}
use Rattle.clk_words.specs.declared.view.View.{View}
use Rattle.clk_words.specs.declared.view.Load.{Load}
use Rattle.clk_words.specs.declared.view.Name.{Name}
use Rattle.clk_words.specs.declared.view.Name.TheVariants.{Raw, Gtod, Offset}
use Rattle.clk_words.specs.declared.view.Part.{Part}
use Rattle.clk_words.specs.Histories.{opens_at, value_after}
use Rattle.clk_words.specs.Kinds.{cpu_of}
use Rattle.clk_words.specs.Calls.{KeepsSeat}
use Rattle.clk_words.specs.Knowing.{IsOwner, StampsAreWhole}
use Rattle.clk_words.specs.Parts.{gtod_of, raw_of, part_of, last_from}
use Rattle.clk_words.specs.Rights.{has_number}
use Rattle.clk_words.specs.Told.{Raises, Finds, FindsRaw, FindsGtod, FindsOffset, stamped}
use Rattle.clk_words.proofs.Loading.{whole_offset}
use Rattle.clk_words.proofs.Registers.{put_here, put_else, last_more}
use Rattle.clk_words.proofs.Turns.{whole_gtod, whole_raw, owner_gtod, owner_raw}
use Rattle.clk_latch.specs.Calls.{DrawsTicket, Reads}
use Rattle.clk_local.specs.declared.events.Reading.{Reading}
use Rattle.clk_local.specs.declared.events.Reading.TheVariants.{Stable, PerCpu}
use Rattle.clk_local.specs.declared.events.TickEvent.{TickEvent}
use Rattle.clk_local.specs.declared.events.TickEvent.TheVariants.{Nothing, Ticked}
use Rattle.clk_local.specs.declared.events.IdleEvent.{IdleEvent}
use Rattle.clk_local.specs.Context.{Site, Known, MayStamp}
use Rattle.clk_local.specs.Raising.{FindsPair, FindsWhy, own_step, shown_on}
use Rattle.clk_local.specs.Shows.{ShowsLook, ShowsRaised, ShowsStamp, ShowsTicked, OnReading, OnTick, ShowsReading, ShowsTick, ShowsIdle, IsPerCpu, HasTicked, mode_read, mode_ticked}
use Rattle.clk_local.proofs.Raising.{found_not_below}

-- the loads of the pair and of the offset, and no others
why_loads : (cpu : ℕ) (v both loaded w : View) (tick_raw tick_gtod offset : ℤ) (s : Step) → cpu ≡ cpu_of v.kind → FindsPair v tick_raw tick_gtod both → FindsOffset both offset loaded → Raises loaded s w
    → w.loads ≡ v.loads ++ (record { of = Raw cpu; value = tick_raw }) ∷ (record { of = Gtod cpu; value = tick_gtod }) ∷ (record { of = Offset; value = offset }) ∷ []
why_loads cpu v both loaded w tick_raw tick_gtod offset s here f o r =
    let raw : Load = record { of = Raw cpu; value = tick_raw } in
    let gtod : Load = record { of = Gtod cpu; value = tick_gtod } in
    let last : Load = record { of = Offset; value = offset } in
    let one : f.half.loads ≡ v.loads ++ raw ∷ [] =
    ap (λ (u : View). u.loads) f.first.finds.view_is ∙ ap (λ k. v.loads ++ (record { of = Raw k; value = tick_raw }) ∷ []) (sym here) in
    let two : both.loads ≡ f.half.loads ++ gtod ∷ [] =
    ap (λ (u : View). u.loads) f.second.finds.view_is ∙ ap (λ k. f.half.loads ++ (record { of = Gtod k; value = tick_gtod }) ∷ []) (sym here) in
    let three : loaded.loads ≡ both.loads ++ last ∷ [] = ap (λ (u : View). u.loads) o.view_is in
    ap (λ (u : View). u.loads) r.makes.view_is
    ∙ three
    ∙ ap (λ ls. ls ++ last ∷ []) (two ∙ ap (λ ls. ls ++ gtod ∷ []) one ∙ append_assoc v.loads (raw ∷ []) (gtod ∷ []))
    ∙ append_assoc v.loads (raw ∷ gtod ∷ []) (last ∷ [])

-- what those loads leave as it was
why_seen : (v both w : View) (tick_raw tick_gtod offset : ℤ) → FindsPair v tick_raw tick_gtod both → FindsOffset both offset w → w.seen ≡ v.seen
why_seen v both w tick_raw tick_gtod offset f o = ap (λ (u : View). u.seen) o.view_is ∙ ap (λ (u : View). u.seen) f.second.finds.view_is ∙ ap (λ (u : View). u.seen) f.first.finds.view_is

why_mine : (v both w : View) (tick_raw tick_gtod offset : ℤ) → FindsPair v tick_raw tick_gtod both → FindsOffset both offset w → w.mine ≡ v.mine
why_mine v both w tick_raw tick_gtod offset f o = ap (λ (u : View). u.mine) o.view_is ∙ ap (λ (u : View). u.mine) f.second.finds.view_is ∙ ap (λ (u : View). u.mine) f.first.finds.view_is

-- in a per-CPU start the offset is the one of the opening
why_start : (v both w : View) (tick_raw tick_gtod offset : ℤ) → FindsPair v tick_raw tick_gtod both → FindsOffset both offset w → v.start.opening.mode ≡ PerCpuMode → offset ≡ v.start.opening.offset
why_start v both w tick_raw tick_gtod offset f o percpu =
    let same : both.start ≡ v.start = ap (λ (u : View). u.start) f.second.finds.view_is ∙ ap (λ (u : View). u.start) f.first.finds.view_is in
    o.from_start (ap (λ (s : Start). s.opening.mode) same ∙ percpu) ∙ ap (λ (s : Start). s.opening.offset) same

-- a seat that was kept makes the same step
same_step : (v pair : View) (call : ℕ) (why : Why) (old : ℤ) → KeepsSeat v pair → own_step pair call why old ≡ own_step v call why old
same_step v pair call why old kept =
    ap (λ n. record (own_step pair call why old) { by = n }) kept.number_is
    ∙ ap (λ k. record (own_step pair call why old) { by = v.number; word = cpu_of k }) kept.kind_is
    ∙ ap (λ (o : Start). record (own_step v call why old) { new = raise old (target o.tick why) }) kept.start_is

step_rises : (v : View) (call : ℕ) (why : Why) (s : Step) → s ≡ own_step v call why s.old → IsNotBelow s.new s.old
step_rises v call why s is = subst (λ x. IsNotBelow x s.old) (sym (ap (λ (t : Step). t.new) is)) (raise_rises s.old (target v.start.tick why))

pub shows_raised : (z : Site) (v w : Known) (loaded : View) (raw : RawReading) (why : Why) (step : Step)
    → z.cpu ≡ cpu_of v.view.kind → DrawsTicket v.time raw.ticket w.time → Reads z.machine z.cpu z.adjust v.epoch w.epoch raw
    → FindsWhy v.view raw.ns why loaded → KeepsSeat v.view loaded
    → step ≡ own_step loaded z.call why step.old → Raises loaded step w.view → ShowsRaised z v raw step w
shows_raised z v w loaded raw why step here draws reads finds kept step_is raises = record {
  tick_raw = finds.tick_raw;
  tick_gtod = finds.tick_gtod;
  offset = finds.offset;
  pair = finds.both;
  loaded = loaded;
  reads = record { draws = draws; reads = reads };
  finds = finds.pair;
  finds_offset = finds.last;
  raises = raises;
  step_is = same ∙ ap (λ y. own_step v.view z.call y step.old) finds.why_is;
  mine_is = ap (λ (u : View). u.mine) raises.makes.view_is ∙ ap (λ ss. ss ++ step ∷ []) (why_mine _ _ _ _ _ _ finds.pair finds.last);
  seen_is = ap (λ (u : View). u.seen) raises.makes.view_is ∙ ap (λ ss. (ss ++ raises.makes.between) ++ step ∷ []) (why_seen _ _ _ _ _ _ finds.pair finds.last);
  loads_is = why_loads z.cpu v.view finds.both loaded w.view finds.tick_raw finds.tick_gtod finds.offset step here finds.pair finds.last raises;
  pairs_is = ap (λ (u : View). u.pairs) raises.makes.view_is ∙ ap (λ (u : View). u.pairs) finds.last.view_is;
  from_start = why_start _ _ _ _ _ _ finds.pair finds.last;
  not_below = subst (IsNotBelow step.old) shown (found_not_below loaded w.view step raises);
  rises = step_rises v.view z.call why step same;
}
  where
    same : step ≡ own_step v.view z.call why step.old
    same = step_is ∙ same_step v.view loaded z.call why step.old kept

    word : step.word ≡ z.cpu
    word = ap (λ (t : Step). t.word) same ∙ sym here

    shown : shown_on step.word loaded ≡ shown_on z.cpu v.view
    shown =
        ap (λ (o : Start). value_after (opens_at o) step.word loaded.seen) kept.start_is
        ∙ ap (λ ss. value_after (opens_at v.view.start) step.word ss) (why_seen _ _ _ _ _ _ finds.pair finds.last)
        ∙ ap (λ k. shown_on k v.view) word

-- ---- stamps

-- a load that adds nothing finds the last value that was known
known_last : (v w : View) (r : ℕ) (name : Name) (x y : ℤ) (ys : List ℤ) (f : Finds v r name x w) → f.more ≡ [] → (part_of v.pairs.parts r).after ≡ ys ++ y ∷ [] → x ≡ y
known_last v w r name x y ys f none is =
    sym f.last_is ∙ ap (last_from f.stamp) (ap (λ zs. (part_of v.pairs.parts r).after ++ zs) none ∙ append-nil (part_of v.pairs.parts r).after ∙ is) ∙ last_more f.stamp y ys

-- the last values of both registers after a stamp
raw_last : (v w : View) (cpu : ℕ) (gtod raw : ℤ) → w ≡ stamped (raw_of cpu) raw (stamped (gtod_of cpu) gtod v)
    → (part_of w.pairs.parts (raw_of cpu)).after ≡ (part_of (stamped (gtod_of cpu) gtod v).pairs.parts (raw_of cpu)).after ++ raw ∷ []
raw_last v w cpu gtod raw is =
    let u = stamped (gtod_of cpu) gtod v in
    ap (λ (x : View). (part_of x.pairs.parts (raw_of cpu)).after) is
    ∙ ap (λ (p : Part). p.after) (put_here u.pairs.parts (raw_of cpu) (record { zero = (part_of u.pairs.parts (raw_of cpu)).zero; after = (part_of u.pairs.parts (raw_of cpu)).after ++ raw ∷ [] }))

gtod_last : (v w : View) (cpu : ℕ) (gtod raw : ℤ) → w ≡ stamped (raw_of cpu) raw (stamped (gtod_of cpu) gtod v)
    → (part_of w.pairs.parts (gtod_of cpu)).after ≡ (part_of v.pairs.parts (gtod_of cpu)).after ++ gtod ∷ []
gtod_last v w cpu gtod raw is =
    let u = stamped (gtod_of cpu) gtod v in
    ap (λ (x : View). (part_of x.pairs.parts (gtod_of cpu)).after) is
    ∙ ap (λ (p : Part). p.after)
    (put_else u.pairs.parts (raw_of cpu) (gtod_of cpu) (record { zero = (part_of u.pairs.parts (raw_of cpu)).zero; after = (part_of u.pairs.parts (raw_of cpu)).after ++ raw ∷ [] }) (λ e. omega arith)
    ∙ put_here v.pairs.parts (gtod_of cpu) (record { zero = (part_of v.pairs.parts (gtod_of cpu)).zero; after = (part_of v.pairs.parts (gtod_of cpu)).after ++ gtod ∷ [] }))

-- the load of a raw value leaves what is known of the GTODs
gtod_left : (v w : View) (cpu : ℕ) (name : Name) (x : ℤ) → Finds v (raw_of cpu) name x w → (part_of w.pairs.parts (gtod_of cpu)).after ≡ (part_of v.pairs.parts (gtod_of cpu)).after
gtod_left v w cpu name x f =
    let p = part_of v.pairs.parts (raw_of cpu) in
    ap (λ (u : View). (part_of u.pairs.parts (gtod_of cpu)).after) f.view_is
    ∙ ap (λ (q : Part). q.after) (put_else v.pairs.parts (raw_of cpu) (gtod_of cpu) (record { zero = Some f.stamp; after = p.after ++ f.more }) (λ e. omega arith))

-- an owner that stamped loads the pair of that stamp
pub own_pair : (v u pair : View) (tick_raw tick_gtod gtod raw : ℤ) → u ≡ stamped (raw_of (cpu_of v.kind)) raw (stamped (gtod_of (cpu_of v.kind)) gtod v) → IsOwner v
    → FindsPair u tick_raw tick_gtod pair → (tick_raw ≡ raw) × (tick_gtod ≡ gtod)
own_pair v u pair tick_raw tick_gtod gtod raw is owner f =
    let cpu = cpu_of v.kind in
    let kind : cpu_of u.kind ≡ cpu = ap (λ (x : View). cpu_of x.kind) is in
    let first : FindsRaw u cpu tick_raw f.half = subst (λ k. FindsRaw u k tick_raw f.half) kind f.first in
    let second : FindsGtod f.half cpu tick_gtod pair = subst (λ k. FindsGtod f.half k tick_gtod pair) kind f.second in
    let owns : has_number u.pairs.owns cpu ≡ true = ap (λ (x : View). has_number x.pairs.owns cpu) is ∙ owner in
    let owns_half : has_number f.half.pairs.owns cpu ≡ true = ap (λ (x : View). has_number x.pairs.owns cpu) first.finds.view_is ∙ owns in (
      known_last u f.half (raw_of cpu) _ tick_raw raw _ first.finds (first.whole owns) (raw_last v u cpu gtod raw is),
      known_last f.half pair (gtod_of cpu) _ tick_gtod gtod _ second.finds (second.whole owns_half) (gtod_left u f.half cpu _ tick_raw first.finds ∙ gtod_last v u cpu gtod raw is),
    )

-- a raised reading leaves to an owner the right to stamp
pub owner_raised : (z : Site) (v w : Known) (raw : RawReading) (step : Step) → ShowsRaised z v raw step w → MayStamp v.view → MayStamp w.view
owner_raised z v w raw step shows may =
    let f = shows.finds in
    let cpu = cpu_of v.view.kind in
    let half_kind : cpu_of f.half.kind ≡ cpu = ap (λ (x : View). cpu_of x.kind) f.first.finds.view_is in
    let second : FindsGtod f.half (cpu_of f.half.kind) shows.tick_gtod shows.pair = subst (λ k. FindsGtod f.half k shows.tick_gtod shows.pair) (sym half_kind) f.second in
    let owner_half = owner_raw v.view f.half shows.tick_raw f.first may.owner in
    let whole_half = whole_raw v.view f.half shows.tick_raw f.first may.owner may.whole in
    record {
      owner = subst IsOwner (sym shows.raises.makes.view_is) (subst IsOwner (sym shows.finds_offset.view_is) (owner_gtod f.half shows.pair shows.tick_gtod second owner_half));
      whole = subst StampsAreWhole (sym shows.raises.makes.view_is)
          (whole_offset shows.pair shows.loaded shows.offset shows.finds_offset (whole_gtod f.half shows.pair shows.tick_gtod second owner_half whole_half));
    }

-- a tick, whose reading was made at the same site
pub shows_ticked : (y z : Site) (v u w : Known) (gtod_ticket : ℕ) (gtod : ℤ) (stamp raw : RawReading) (step : Step) → z.cpu ≡ cpu_of v.view.kind → IsOwner v.view
    → y ≡ z → ShowsStamp z v gtod_ticket gtod stamp u → ShowsRaised y u raw step w
    → ShowsTicked z v gtod_ticket gtod stamp raw step w
shows_ticked y z v u w gtod_ticket gtod stamp raw step here owner same stamps raised = record {
  between = u;
  stamps = stamps;
  raises = raises;
  pair_is =
      ap (λ (s : Step). s.why) raises.step_is
      ∙ ap (λ x. Raise raw.ns x raises.tick_gtod raises.offset) pair.0
      ∙ ap (λ x. Raise raw.ns stamp.ns x raises.offset) pair.1;
}
  where
    raises : ShowsRaised z u raw step w
    raises = subst (λ x. ShowsRaised x u raw step w) same raised

    pair : (raises.tick_raw ≡ stamp.ns) × (raises.tick_gtod ≡ gtod)
    pair = own_pair v.view u.view raises.pair raises.tick_raw raises.tick_gtod gtod stamp.ns (subst (λ k. u.view ≡ stamped (raw_of k) stamp.ns (stamped (gtod_of k) gtod v.view)) here stamps.view_is) owner raises.finds

-- a look and then a reading, at the same site
pub shows_reading : (y z : Site) (v u w : Known) (e : Reading) → y ≡ z → ShowsLook v (mode_read e) u → OnReading y u e w → ShowsReading z v e w
shows_reading y z v u w e same looks shows = record { between = u; looks = looks; shows = subst (λ x. OnReading x u e w) same shows }

-- a look and then a tick
pub shows_tick : (y z : Site) (v u w : Known) (e : TickEvent) → y ≡ z → ShowsLook v (mode_ticked e) u → OnTick y u e w → ShowsTick z v e w
shows_tick y z v u w e same looks shows = record { between = u; looks = looks; shows = subst (λ x. OnTick x u e w) same shows }

-- a reading and then a tick
pub shows_idle : (y z : Site) (v u w : Known) (e : IdleEvent) → y ≡ z → ShowsReading z v e.read u → ShowsTick y u e.tick w → ShowsIdle z v e w
shows_idle y z v u w e same reads ticks = record { between = u; reads = reads; ticks = subst (λ x. ShowsTick x u e.tick w) same ticks }

-- ---- what a look finds where the mode is known

-- a seat that has found the mode per-CPU, or whose words began so, finds it so again
found_percpu : (v w : Known) (mode : Mode) → ShowsLook v mode w → IsTrue v.view.modes.found ⊎ (v.view.start.opening.mode ≡ PerCpuMode) → mode ≡ PerCpuMode
found_percpu v w mode looks (inl found) = looks.finds.stays found
found_percpu v w mode looks (inr percpu) = looks.finds.from_start percpu

read_percpu : (e : Reading) → mode_read e ≡ PerCpuMode → IsPerCpu e
read_percpu (Stable raw value) e = absurd (cc)
read_percpu (PerCpu raw step) e = tt

tick_percpu : (e : TickEvent) → mode_ticked e ≡ PerCpuMode → HasTicked e
tick_percpu Nothing e = absurd (cc)
tick_percpu (Ticked gtod_ticket gtod stamp raw step) e = tt

-- so its reading raises a word, and its tick stamps
pub reads_percpu : (z : Site) (v w : Known) (e : Reading) → ShowsReading z v e w → IsTrue v.view.modes.found ⊎ (v.view.start.opening.mode ≡ PerCpuMode) → IsPerCpu e
reads_percpu z v w e shows known = read_percpu e (found_percpu v shows.between (mode_read e) shows.looks known)

pub ticks_percpu : (z : Site) (v w : Known) (e : TickEvent) → ShowsTick z v e w → IsTrue v.view.modes.found ⊎ (v.view.start.opening.mode ≡ PerCpuMode) → HasTicked e
ticks_percpu z v w e shows known = tick_percpu e (found_percpu v shows.between (mode_ticked e) shows.looks known)
