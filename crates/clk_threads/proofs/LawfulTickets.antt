-- The tickets of a run of several threads: those of the boot, the bring-up and a demotion at boot first, then each
-- thread's, which rise by themselves.
use Rattle.std.proofs.Common.{◌≡◌, ℕ, ◌+◌, ◌≤◌, List, [], ◌∷◌, ◌++◌, map, refl, ap, ◌∙◌, sym, subst, arith}
use Rattle.std.specs.List.{All, flat_map}
use Rattle.std.proofs.lemmas.List.Elements.{All-nil, All-cons, All-head, All-tail}
use Rattle.clk_base.specs.declared.block.Block.{Block}
use Rattle.clk_base.specs.Blocks.{end_of, AllEndBy, RisesFrom, top_of}
use Rattle.clk_base.specs.Walk.{EachFrom}
use Rattle.clk_ticket.specs.Time.{Time, Draws}
use Rattle.clk_machine.specs.Plan.{Plan}
use Rattle.clk_record.specs.declared.step.Step.{Step}
use Rattle.clk_lawful.specs.Checks.{listed, demotion_blocks}
use Rattle.clk_lawful.specs.TicketOrder.{blocks_of, blocks_of_kind, boot_blocks, up_blocks, first_blocks, thread_blocks}
use Rattle.clk_lawful.specs.declared.trace.Trace.{Trace}
use Rattle.clk_lawful.specs.declared.event.Event.{Event}
use Rattle.clk_lawful.specs.declared.event.EventKind.{EventKind}
use Rattle.clk_lawful.specs.declared.event.EventKind.TheVariants.{Stable, Local, Couple, Stamp, Nothing, Update, Pause}
use Rattle.clk_local.specs.Context.{Site, Known}
use Rattle.clk_worker.specs.Running.{Shows, Runs, at_call}
use Rattle.clk_threads.specs.Finishing.{Ran, events_of, IsRunOf}

-- ---- a thread's blocks rise from what its seat had seen

-- after a draw the seat has seen the end of its block
drawn_seen : (before : Time) (first n : ℕ) (after : Time) → Draws before first n after → first + n ≤ after.seen
drawn_seen before first n after d = let e = ap (λ (t : Time). t.seen) d.is in omega (arith, e)

low_seen : (n : ℕ) (before : Time) (first count : ℕ) (after : Time) → n ≤ before.seen → Draws before first count after → n ≤ first
low_seen n before first count after low d = let later = d.later in omega (arith, low, later)

same_seen : (n : ℕ) (before after : Time) → after ≡ before → n ≤ before.seen → n ≤ after.seen
same_seen n before after same low = subst (λ (t : Time). n ≤ t.seen) (sym same) low

-- such blocks follow a number that this seat has seen
abbrev FollowSeen : Known → List Block → Type 0
FollowSeen w rest = (k : ℕ) → k ≤ w.time.seen → RisesFrom k rest

shows_rise : (z : Site) (v : Known) (k : EventKind) (w : Known) (n : ℕ) (rest : List Block) → Shows z v k w → n ≤ v.time.seen → FollowSeen w rest
    → RisesFrom n (blocks_of_kind k ++ rest)
shows_rise z v (Stable raw value) w n rest h low later =
    let d = h.stable.reads.draws in (low_seen n v.time raw.ticket 1 w.time low d, later (raw.ticket + 1) (drawn_seen v.time raw.ticket 1 w.time d))
shows_rise z v (Local raw tick_raw tick_gtod offset old new) w n rest h low later =
    let d = h.raised.reads.draws in (low_seen n v.time raw.ticket 1 w.time low d, later (raw.ticket + 1) (drawn_seen v.time raw.ticket 1 w.time d))
shows_rise z v (Couple asked own other word old new) w n rest h low later = later n (same_seen n v.time w.time h.coupled.time_is low)
shows_rise z v (Stamp gtod_ticket gtod raw) w n rest h low later =
    let middle : Time = h.stamps.middle in
    let d = h.stamps.draws in
    let e = h.stamps.reads.draws in (
      low_seen n v.time gtod_ticket 1 middle low d,
      (
        low_seen (gtod_ticket + 1) middle raw.ticket 1 w.time (drawn_seen v.time gtod_ticket 1 middle d) e,
        later (raw.ticket + 1) (drawn_seen middle raw.ticket 1 w.time e),
      ),
    )
shows_rise z v Nothing w n rest h low later = later n (same_seen n v.time w.time (ap (λ (x : Known). x.time) h.same) low)
shows_rise z v (Update p) w n rest h low later =
    (low_seen n v.time p.ticket 1 w.time low h.draws, later (p.ticket + 1) (drawn_seen v.time p.ticket 1 w.time h.draws))
shows_rise z v (Pause ticket count) w n rest h low later =
    (low_seen n v.time ticket count w.time low h.draws, later (ticket + count) (drawn_seen v.time ticket count w.time h.draws))

pub runs_rise : (z : Site) (v : Known) (es : List Event) (w : Known) (n : ℕ) → Runs z v es w → n ≤ v.time.seen → RisesFrom n (flat_map blocks_of es)
runs_rise z v [] w n r low = tt
runs_rise z v (e ∷ es) w n r low =
    shows_rise (at_call z e.call) r.0 e.kind r.1 n (flat_map blocks_of es) r.3 (same_seen n v.time r.0.time r.2.time_is low)
    (λ k high. runs_rise z r.1 es w k r.4 high)

-- ---- what was drawn before the scripts

-- blocks that end by n have their top there
pub top_low : (k n : ℕ) (bs : List Block) → k ≤ n → AllEndBy n bs → top_of k bs ≤ n
top_low k n [] low ends = low
top_low k n (b ∷ bs) low ends = top_low (end_of b) n bs (All-head (λ (c : Block). end_of c ≤ n) b bs ends) (All-tail (λ (c : Block). end_of c ≤ n) b bs ends)

-- it is what the trace shows of that
pub first_is : (m : Plan) (t : Trace) (closed : List Step) (run : IsRunOf m t closed) → run.booted.blocks ≡ first_blocks t
first_is m t closed run =
    run.drawn.blocks
    ∙ ap (λ (k : ℕ). boot_blocks k t.boots.items ++ up_blocks t.ups.cpus.items ++ flat_map demotion_blocks (listed t.boot_demotion)) (sym run.epoch_ticket)

-- and ended by what the seat had seen then
pub first_low : (m : Plan) (t : Trace) (closed : List Step) (run : IsRunOf m t closed) → top_of 0 (first_blocks t) ≤ run.booted.seen
first_low m t closed run =
    top_low 0 run.booted.seen (first_blocks t) (omega arith) (subst (AllEndBy run.booted.seen) (first_is m t closed run) run.drawn.ends)

-- blocks that rise from one number rise from a lower one
pub rises_lower : (k n : ℕ) (bs : List Block) → k ≤ n → RisesFrom n bs → RisesFrom k bs
rises_lower k n [] low h = tt
rises_lower k n (b ∷ bs) low h = let from = h.0 in (omega (arith, low, from), h.1)

-- ---- all threads

pub rise_all : (top : ℕ) (F : ℕ → Ran → Type 0) → ((k : ℕ) (r : Ran) → F k r → RisesFrom top (thread_blocks r.events)) → (n : ℕ) (rans : List Ran) → EachFrom F n rans
    → All (RisesFrom top) (map thread_blocks (events_of rans))
rise_all top F f n [] h = All-nil (RisesFrom top)
rise_all top F f n (r ∷ rans) h =
    All-cons (RisesFrom top) (thread_blocks r.events) (map thread_blocks (events_of rans)) (f n r h.0) (rise_all top F f (n + 1) rans h.1)

pub blocks_all : (F : ℕ → Ran → Type 0) → ((k : ℕ) (r : Ran) → F k r → r.ended.time.blocks ≡ thread_blocks r.events) → (n : ℕ) (rans : List Ran) → EachFrom F n rans
    → flat_map (λ (r : Ran). r.ended.time.blocks) rans ≡ flat_map (λ (bs : List Block). bs) (map thread_blocks (events_of rans))
blocks_all F f n [] h = refl
blocks_all F f n (r ∷ rans) h =
    ap (λ (bs : List Block). bs ++ flat_map (λ (x : Ran). x.ended.time.blocks) rans) (f n r h.0)
    ∙ ap (λ (bs : List Block). thread_blocks r.events ++ bs) (blocks_all F f (n + 1) rans h.1)
