-- What one word of a script asks of a thread and makes of it: the context of its calls, and the events that are kept.
use Rattle.std.specs.Prelude.{◌≡◌, ℕ, ◌+◌, ◌≤◌, List, [], ◌∷◌, ◌++◌, length, slice_index_or, ◌⊎◌, if◌then◌else◌}
use Rattle.clk_num.specs.Listed.{Listed}
use Rattle.clk_ticket.specs.Time.{share_of}
use Rattle.clk_machine.specs.Limits.{IsOfReader, is_update}
use Rattle.clk_machine.specs.Tickets.{tickets_of}
use Rattle.clk_machine.specs.declared.script.Word.{Word}
use Rattle.clk_lawful.specs.ScriptEvents.{Calls, events_at}
use Rattle.clk_lawful.specs.declared.event.Event.{Event}
use Rattle.clk_lawful.specs.declared.event.EventKind.{EventKind}
use Rattle.clk_lawful.specs.declared.event.EventKind.TheVariants.{Couple}
use Rattle.clk_lawful.specs.declared.event.EventKind.TheVariants as kind
use Rattle.clk_latch.specs.Epoch.{Place}
use Rattle.clk_local.specs.Context.{Site, Known, site_of, known_of, IsUsable}
use Rattle.clk_local.specs.declared.context.Ctx.{Ctx}
use Rattle.clk_remote.specs.declared.event.RemoteEvent.{RemoteEvent}
use Rattle.clk_remote.specs.declared.event.RemoteEvent.TheVariants.{Stable, Coupled}
use Rattle.clk_worker.specs.Running.{kinds_of_step, IsSound, OwnsClock, Runs}
use Rattle.clk_worker.specs.declared.shared.Shared.{Shared}
use Rattle.clk_worker.specs.declared.own.Post.{Post}
use Rattle.clk_worker.specs.declared.own.Own.{Own}

-- ---- a context

-- a context over latches as a seat at one names them
abbrev pub ContextOver : {E : Type 0} → (Place → E) → Type 0
ContextOver {E} latch = Ctx E Place

abbrev pub Context : Type 0
Context = ContextOver (λ s. s.latch)

-- where a thread makes a call
abbrev pub site_at : Shared → Post → ℕ → Site
site_at s p call = record { machine = s.machine; cpu = p.cpu; adjust = p.adjust; sched_offset = p.sched_offset; call = call }

-- what its seats have
abbrev pub has : Own → Known
has o = record { view = o.seat.view; epoch = o.latch_seat.epoch; time = o.time }

abbrev pub known : Context → Known
known ctx = known_of (λ s. s.epoch) ctx

-- the context has these seats
pub record HasSeatsOf (ctx : Context) (o : Own) : Type 0 where
  pub seat : o.seat ≡ ctx.seat
  pub latch_seat : o.latch_seat ≡ ctx.latch_seat
  pub time : o.time ≡ ctx.time

-- the context of this call of a thread over the shared things
pub record IsContext (s : Shared) (p : Post) (call : ℕ) (o : Own) (ctx : Context) : Type 0 where
  pub seats : HasSeatsOf ctx o
  pub site : site_of ctx ≡ site_at s p call
  pub words : ctx.words.now ≡ s.words
  pub epochs : ctx.epochs.now ≡ slice_index_or s.epochs.items p.cpu ctx.epochs.now
  pub tickets : ctx.tickets.now ≡ s.tickets

-- the seats that it has
abbrev pub seats_in : Context → Own
seats_in ctx = record { seat = ctx.seat; latch_seat = ctx.latch_seat; time = ctx.time }

-- it is the context of a thread over the shared things, at whichever call
abbrev pub IsOver : Shared → Post → Context → Type 0
IsOver s p ctx = IsContext s p ctx.call (seats_in ctx) ctx

-- a context of a thread, with so many of the run's tickets
pub record Serves (share : ℕ) (ctx : Context) : Type 0 where
  pub usable : IsUsable (λ l s. s.latch ≡ l) (λ s. s.epoch) ctx
  pub sound : IsSound (site_of ctx) share (known ctx)

-- its thread is its CPU's own
abbrev pub IsOfOwner : Context → Type 0
IsOfOwner ctx = OwnsClock (site_of ctx) (known ctx)

-- it may make this word: any thread may make those of a reader
abbrev pub MayMake : Word → Context → Type 0
MayMake word ctx = IsOfReader word ⊎ IsOfOwner ctx

-- the same objects, at the same site
pub record StandsOn (v w : Context) : Type 0 where
  pub words : w.words.now ≡ v.words.now
  pub epochs : w.epochs.now ≡ v.epochs.now
  pub tickets : w.tickets.now ≡ v.tickets.now
  pub site : site_of w ≡ site_of v

-- ---- events

-- those of a reading of the clock of another CPU
abbrev pub kinds_of_remote : ℕ → RemoteEvent → List EventKind
kinds_of_remote asked (Stable raw value) = kind.Stable raw value ∷ []
kinds_of_remote asked (Coupled raw local own other step) = kinds_of_step raw local ++ Couple asked own other step.word step.old step.new ∷ []

-- events of these kinds were kept
pub record KeepsEvents (call : ℕ) (kinds : List EventKind) (v w : Listed Event) : Type 0 where
  pub items : w.items ≡ v.items ++ events_at call kinds
  pub room : w.room + length kinds ≡ v.room

-- ---- one word

-- of tickets and of updates so many of each were spent at most
pub record SpendsAtMost (tickets updates : ℕ) (v w : Known) : Type 0 where
  pub tickets_left : v.time.left ≤ w.time.left + tickets
  pub updates_left : v.epoch.left ≤ w.epoch.left + updates

-- the updates of a word
abbrev pub updates_in : Word → ℕ
updates_in word = if is_update word then 1 else 0

-- a context and the events that were kept make this word: the events that it calls for, three at most, which took the
-- seats on, within the word's tickets and updates; what owned its CPU's clock owns it after
pub record Makes (word : Word) (v : Context) (a : Listed Event) (w : Context) (b : Listed Event) : Type 0 where
  pub kinds : List EventKind
  pub calls : Calls v.counter.cpu word kinds
  pub few : length kinds ≤ 3
  pub keeps : KeepsEvents v.call kinds a b
  pub runs : Runs (site_of v) (known v) (events_at v.call kinds) (known w)
  pub spends : SpendsAtMost (tickets_of word) (updates_in word) (known v) (known w)
  pub stands : StandsOn v w
  pub serves : Serves (share_of v.time) w
  pub owner : IsOfOwner v → IsOfOwner w
