-- All that the events of a thread show, run from fresh seats: the parts of a lawful trace that are the thread's own;
-- and what those of a CPU's own thread show besides. The clock may begin stable or per-CPU.
use Rattle.std.proofs.Common.{◌≡◌, ℕ, ◌+◌, ◌<◌, ℤ, true, false, cond, List, [], ◌∷◌, ◌++◌, map, length, Some, None, refl, ap, ◌∙◌, arith}
use Rattle.std.specs.List.{All, flat_map}
use Rattle.clk_base.specs.Walk.{Along}
use Rattle.clk_machine.specs.Records.{record_zero}
use Rattle.clk_machine.specs.declared.reading.Published.{Published}
use Rattle.clk_record.specs.declared.mode.Mode.{Mode}
use Rattle.clk_record.specs.declared.mode.Mode.TheVariants.{Stable, PerCpu}
use Rattle.clk_record.specs.declared.step.Step.{Step}
use Rattle.clk_words.specs.declared.opening.Start.{Start}
use Rattle.clk_words.specs.declared.kind.SeatKind.TheVariants.{Owner}
use Rattle.clk_words.specs.declared.view.Part.{Part}
use Rattle.clk_words.specs.Fronts.{Begins}
use Rattle.clk_words.specs.Histories.{opens_at, IsGlobalHistory}
use Rattle.clk_words.specs.Parts.{gtod_of, raw_of, part_of}
use Rattle.clk_words.specs.Rights.{has_number, owned_by}
use Rattle.clk_words.specs.Views.{is_percpu, pairs_known, first_view}
use Rattle.clk_lawful.specs.Couples.{CouplesLower}
use Rattle.clk_lawful.specs.Filling.{NamesWordsBelow}
use Rattle.clk_lawful.specs.LegalHistory.{ReachesTarget}
use Rattle.clk_lawful.specs.Modes.{Modes}
use Rattle.clk_lawful.specs.RightReadings.{IsRightKind}
use Rattle.clk_lawful.specs.SeenBefore.{NeverFalls}
use Rattle.clk_lawful.specs.Stamps.{Pair, stamp_of_kind, NamesPair, pair_after, first_numbers, NamesStamps, numbers_after}
use Rattle.clk_lawful.specs.TicketOrder.{blocks_of}
use Rattle.clk_lawful.specs.Updates.{updates_of, OwnsRecords, record_after, NamesLater, named_after}
use Rattle.clk_lawful.specs.WordHistory.{steps_from}
use Rattle.clk_lawful.specs.declared.event.Event.{Event}
use Rattle.clk_latch.specs.Calls.{last_of}
use Rattle.clk_local.specs.Context.{Site, Known}
use Rattle.clk_worker.specs.Running.{Runs}
use Rattle.clk_worker.proofs.RunBlocks.{runs_blocks}
use Rattle.clk_worker.proofs.RunKeeping.{IsHome, fixed, runs_fixed}
use Rattle.clk_worker.proofs.RunLifted.{StoodAt}
use Rattle.clk_worker.proofs.RunModes.{AgreesOnModes, AreOfMode, runs_mode, found_from, runs_lower}
use Rattle.clk_worker.proofs.RunNamed.{NamesIn, runs_named, runs_below}
use Rattle.clk_worker.proofs.RunPairs.{known_at, owns_self, MayStand, pair_first, runs_name}
use Rattle.clk_worker.proofs.RunParts.{MayHave, Lasts, runs_last, zero_stays}
use Rattle.clk_worker.proofs.RunReadings.{records_in, EndsBy, runs_records, runs_right, runs_later, runs_owned}
use Rattle.clk_worker.proofs.RunSeen.{never_falls}
use Rattle.clk_worker.proofs.RunStamps.{KnowsStamps, HasStamps, runs_stamps, runs_whole}
use Rattle.clk_worker.proofs.RunSteps.{numbered, runs_mine, runs_reach}

-- the seats of a thread with this number, before its first event: of the pairs and of the mode it knows what the words'
-- first seat knew, nothing in a stable start and the opening in a per-CPU one
pub record IsFresh (z : Site) (start : Start) (thread : ℕ) (v : Known) : Type 0 where
  pub home : IsHome z.cpu start (thread + 1) v.view
  pub within : z.cpu < start.cpus
  pub mine : v.view.mine ≡ []
  pub legal : IsGlobalHistory start v.view.seen
  pub records : records_in v ≡ record_zero z.machine ∷ []
  pub parts : v.view.pairs.parts ≡ (first_view start).pairs.parts
  pub found : v.view.modes.found ≡ (first_view start).modes.found
  pub offset : v.view.modes.offset ≡ (first_view start).modes.offset

-- ---- stamp 0

-- a per-CPU start knows it
percpu_parts : (start : Start) → start.opening.mode ≡ PerCpu → (first_view start).pairs.parts ≡ pairs_known start.cpus start.opening
percpu_parts start percpu = ap (λ (m : Mode). cond (is_percpu m) (pairs_known start.cpus start.opening) []) percpu

percpu_offset : (start : Start) → start.opening.mode ≡ PerCpu → (first_view start).modes.offset ≡ Some start.opening.offset
percpu_offset start percpu = ap (λ (m : Mode). cond (is_percpu m) (Some start.opening.offset) None) percpu

fresh_raw : (z : Site) (start : Start) (thread : ℕ) (v : Known) → IsFresh z start thread v → start.opening.mode ≡ PerCpu
    → part_of v.view.pairs.parts (raw_of z.cpu) ≡ record { zero = Some start.opening.tick_raw; after = [] }
fresh_raw z start thread v f percpu =
    ap (λ (ps : List Part). part_of ps (raw_of z.cpu)) (f.parts ∙ percpu_parts start percpu) ∙ (known_at start.cpus z.cpu start.opening f.within).1

fresh_gtod : (z : Site) (start : Start) (thread : ℕ) (v : Known) → IsFresh z start thread v → start.opening.mode ≡ PerCpu
    → part_of v.view.pairs.parts (gtod_of z.cpu) ≡ record { zero = Some start.opening.tick_gtod; after = [] }
fresh_gtod z start thread v f percpu =
    ap (λ (ps : List Part). part_of ps (gtod_of z.cpu)) (f.parts ∙ percpu_parts start percpu) ∙ (known_at start.cpus z.cpu start.opening f.within).0

-- none knows a stamp after it
parts_after : (start : Start) (cpu : ℕ) (mode : Mode) → cpu < start.cpus
    → ((part_of (cond (is_percpu mode) (pairs_known start.cpus start.opening) []) (raw_of cpu)).after ≡ [])
    × ((part_of (cond (is_percpu mode) (pairs_known start.cpus start.opening) []) (gtod_of cpu)).after ≡ [])
parts_after start cpu Stable low = (refl, refl)
parts_after start cpu PerCpu low =
    let at = known_at start.cpus cpu start.opening low in
    (ap (λ (p : Part). p.after) at.1, ap (λ (p : Part). p.after) at.0)

fresh_after : (z : Site) (start : Start) (thread : ℕ) (v : Known) → IsFresh z start thread v
    → ((part_of v.view.pairs.parts (raw_of z.cpu)).after ≡ []) × ((part_of v.view.pairs.parts (gtod_of z.cpu)).after ≡ [])
fresh_after z start thread v f =
    let both = parts_after start z.cpu start.opening.mode f.within in
    (ap (λ (ps : List Part). (part_of ps (raw_of z.cpu)).after) f.parts ∙ both.0, ap (λ (ps : List Part). (part_of ps (gtod_of z.cpu)).after) f.parts ∙ both.1)

-- ---- any thread

-- what they have at the end, and what the events are
pub record HasRun (z : Site) (start : Start) (thread : ℕ) (v : Known) (es : List Event) (w : Known) : Type 0 where
  pub fixed_is : fixed w.view ≡ fixed v.view
  pub blocks : w.time.blocks ≡ v.time.blocks ++ flat_map blocks_of es
  pub mine : w.view.mine ≡ map numbered (steps_from thread z.cpu 0 es)
  pub right : All (λ e. IsRightKind z.machine z.cpu z.adjust (records_in w) e.kind) es
  pub modes : (m : Modes) (offset : ℤ) → AgreesOnModes z start w m offset → AreOfMode m offset false es
  pub lower : All (λ e. CouplesLower z.cpu e.kind) es
  pub below : All (λ e. NamesWordsBelow start.cpus e.kind) es
  pub targets : All (ReachesTarget start.tick) (steps_from thread z.cpu 0 es)
  -- by any history that goes on from what it saw, wherever the words stood at first in that
  pub seen : (history : List Step) (base : ℕ → ℤ) → Begins w.view.seen history → IsGlobalHistory start history → StoodAt start history base
      → NeverFalls (opens_at start) base z.cpu [] es
  pub names : (history : List Step) → Begins w.view.seen history → All (NamesIn start history) (steps_from thread z.cpu 0 es)
  -- the records that its readings name do not go back
  pub later : Along (λ n e. NamesLater n e.kind) (λ n e. named_after n e.kind) 0 es
  -- in a per-CPU start it has found the clock so, and knows stamp 0 and the offset
  pub found_is : start.opening.mode ≡ PerCpu → w.view.modes.found ≡ true
  pub raw_zero : start.opening.mode ≡ PerCpu → (part_of w.view.pairs.parts (raw_of z.cpu)).zero ≡ Some start.opening.tick_raw
  pub gtod_zero : start.opening.mode ≡ PerCpu → (part_of w.view.pairs.parts (gtod_of z.cpu)).zero ≡ Some start.opening.tick_gtod
  pub offset_is : start.opening.mode ≡ PerCpu → w.view.modes.offset ≡ Some start.opening.offset
  -- its readings name stamps in order, in whatever list of stamps begins with what it knew at the end, and the offset
  pub stamps : (ss : List Pair) (offset : ℤ) → KnowsStamps z.cpu w.view.pairs ss → MayHave w.view.modes.offset offset
      → Along (λ n e. NamesStamps ss offset n e.kind) (λ n e. numbers_after ss n e.kind) first_numbers es

pub has_run : (z : Site) (start : Start) (thread : ℕ) (v : Known) (es : List Event) (w : Known) → IsFresh z start thread v → Runs z v es w
    → HasRun z start thread v es w
has_run z start thread v es w f r =
    record {
      fixed_is = runs_fixed z v es w r;
      blocks = runs_blocks z v es w r;
      mine = runs_mine z start thread 0 v es w f.home r ∙ ap (λ (ss : List Step). ss ++ map numbered (steps_from thread z.cpu 0 es)) f.mine;
      right = runs_right z v es w r;
      modes = λ m offset agrees. runs_mode z start v es w m offset f.found r agrees;
      lower = runs_lower z v es w r;
      below = runs_below z start (thread + 1) v es w f.home f.within r;
      targets = runs_reach z start (thread + 1) thread 0 v es w f.home r;
      seen = λ history base begins legal stood. never_falls z start (thread + 1) history base v es w f.home r begins legal stood;
      names = λ history begins. runs_named z start (thread + 1) thread 0 v es w history f.home r begins;
      later = runs_later z v es w 0 r (omega (arith, count));
      found_is = λ percpu. found_from z start v es w f.found r percpu;
      raw_zero = λ percpu. zero_at (raw_of z.cpu) start.opening.tick_raw (ap (λ (p : Part). p.zero) (fresh_raw z start thread v f percpu));
      gtod_zero = λ percpu. zero_at (gtod_of z.cpu) start.opening.tick_gtod (ap (λ (p : Part). p.zero) (fresh_gtod z start thread v f percpu));
      offset_is = λ percpu. last.offset start.opening.offset (f.offset ∙ percpu_offset start percpu);
      stamps = λ ss offset knows may.
          runs_stamps z start (thread + 1) v es w ss offset first_numbers f.home r (record { knows = knows; offset_is = may })
          (record { raw = omega arith; gtod = omega arith });
    }
  where
    count : length (records_in v) ≡ 1
    count = ap length f.records

    last : Lasts v.view w.view
    last = runs_last z v es w r

    zero_at : (k : ℕ) (x : ℤ) → (part_of v.view.pairs.parts k).zero ≡ Some x → (part_of w.view.pairs.parts k).zero ≡ Some x
    zero_at k x known = zero_stays (part_of v.view.pairs.parts k) (part_of w.view.pairs.parts k) x (last.parts k) known

-- ---- a CPU's own thread

-- it has all records and all stamps of its CPU, and goes by the last of them; by the pair that may be stamp 0's before
-- any
pub record OwnerHasRun (z : Site) (start : Start) (es : List Event) (w : Known) : Type 0 where
  pub records : records_in w ≡ record_zero z.machine ∷ updates_of es
  pub owned : Along (λ r e. OwnsRecords z.machine z.cpu z.adjust r e.kind) (λ r e. record_after r e.kind) (record_zero z.machine) es
  pub pairs : (p : Pair) (offset : ℤ) → MayStand z.cpu w.view p offset → Along (λ q e. NamesPair offset q e.kind) (λ q e. pair_after q e.kind) p es
  pub raws : (part_of w.view.pairs.parts (raw_of z.cpu)).after ≡ map (λ (s : Pair). s.raw) (flat_map (λ e. stamp_of_kind e.kind) es)
  pub gtods : (part_of w.view.pairs.parts (gtod_of z.cpu)).after ≡ map (λ (s : Pair). s.gtod) (flat_map (λ e. stamp_of_kind e.kind) es)

pub owner_has_run : (z : Site) (start : Start) (thread : ℕ) (v : Known) (es : List Event) (w : Known) → IsFresh z start thread v
    → v.epoch.owner ≡ true → v.view.pairs.owns ≡ owned_by (Owner z.cpu) → Runs z v es w → OwnerHasRun z start es w
owner_has_run z start thread v es w f owner owns r =
    record {
      records = runs_records z v es w r owner ∙ ap (λ (ps : List Published). ps ++ updates_of es) f.records;
      owned = runs_owned z v es w (record_zero z.machine) r owner first;
      pairs = λ p offset may.
          runs_name z start (thread + 1) v es w p p offset f.home r may (pair_first z.cpu v.view.pairs p bare.0 bare.1 owns);
      raws = whole.raws;
      gtods = whole.gtods;
    }
  where
    first : EndsBy (record_zero z.machine) (record_zero z.machine) v
    first = record { is = ap (last_of (record_zero z.machine)) f.records; count = ap length f.records }

    bare : ((part_of v.view.pairs.parts (raw_of z.cpu)).after ≡ []) × ((part_of v.view.pairs.parts (gtod_of z.cpu)).after ≡ [])
    bare = fresh_after z start thread v f

    fresh : HasStamps z.cpu v.view.pairs []
    fresh = record { raws = bare.0; gtods = bare.1; owner = ap (λ (cs : List ℕ). has_number cs z.cpu) owns ∙ owns_self z.cpu }

    whole : HasStamps z.cpu w.view.pairs (flat_map (λ e. stamp_of_kind e.kind) es)
    whole = runs_whole z start (thread + 1) v es w [] f.home r fresh
