-- What a thread made in its first words and then in one more it made in all of them.
use Rattle.std.proofs.Common.{◌≡◌, ◌≢◌, ℕ, zero, suc, ◌+◌, ◌-◌, ◌*◌, ◌≤◌, ◌<◌, ◌==◌, false, ◌∙◌, ap, pos, List, [], ◌∷◌, ◌++◌, length, take, drop, get_or, Option, Some, inl, inr, refl, sym, subst, arith, append_assoc, append-nil, add-one, zero-add, length-append, drop-cons}
use mathlib.Core.Logic.{dite}
use native.Mathlib.Decide.{dec_lt}
use Rattle.std.proofs.lemmas.Bool.Decides.{nat_tests}
use Rattle.std.proofs.lemmas.List.{map-append, length-map, length-take-le, take_more}
use Rattle.std.proofs.lemmas.List.Elements.{All-get_or}
use Rattle.std.proofs.lemmas.List.Sums.{sum_by-cons}
use Rattle.clk_num.specs.Listed.{Listed}
use Rattle.clk_ticket.specs.Time.{Tickets, Time, share_of}
use Rattle.clk_machine.specs.Plan.{cpu_count, threads_of}
use Rattle.clk_machine.specs.Limits.{IsInRange, IsOfReader}
use Rattle.clk_machine.specs.Tickets.{tickets_of}
use Rattle.clk_machine.specs.declared.script.Word.{Word}
use Rattle.clk_machine.specs.declared.script.Word.TheVariants as word
use Rattle.clk_words.specs.Held.{Held, place_of}
use Rattle.clk_words.specs.Kinds.{cpu_of}
use Rattle.clk_words.specs.Knowing.{IsReadingKind}
use Rattle.clk_lawful.specs.ScriptEvents.{Calls, IsRemoteReading, events_at, AreEventsOf}
use Rattle.clk_lawful.specs.declared.event.Event.{Event}
use Rattle.clk_lawful.specs.declared.event.EventKind.{EventKind}
use Rattle.clk_latch.specs.Epoch.{Place}
use Rattle.clk_local.specs.Context.{Site, Known, site_of, Keeps}
use Rattle.clk_worker.specs.Running.{IsSound, OwnsClock, Runs}
use Rattle.clk_worker.specs.Calling.{Context, site_at, has, known, HasSeatsOf, IsContext, seats_in, IsOver, Serves, IsOfOwner, MayMake, StandsOn, KeepsEvents, SpendsAtMost, updates_in}
use Rattle.clk_worker.specs.Making.{Hand, script_of, FitTogether, SeatsServe, HasEnough, HasMade, IsGoing, Begins, BelongsTo, WentOn, MakesAt, MakesWord, MakesWords}
use Rattle.clk_worker.specs.declared.shared.Shared.{Shared}
use Rattle.clk_worker.specs.declared.own.Post.{Post}
use Rattle.clk_worker.specs.declared.own.Own.{Own}
use Rattle.clk_worker.proofs.Scripts.{thread_words, reader_words}
use Rattle.clk_worker.proofs.Showing.{runs-append}
use Rattle.clk_worker.proofs.Sounding.{OwnsLatch}

-- ---- one word in its context

-- a call of clk_local keeps what a context serves for, where its seats stay sound
pub serves_after : (share : ℕ) (v u : Context) → Serves share v → Keeps (λ l s. s.latch ≡ l) (λ s. s.epoch) v u → IsSound (site_of v) share (known u) → Serves share u
serves_after share v u r k sound =
    record {
      usable = k.usable;
      sound = subst (λ (z : Site). IsSound z share (known u)) (sym k.site) sound;
    }

-- and an owner's owns its clock after it
pub owns_after : (v u : Context) → Keeps (λ l s. s.latch ≡ l) (λ s. s.epoch) v u → (OwnsLatch (site_of v) (known v) → OwnsLatch (site_of v) (known u))
    → IsOfOwner v → IsOfOwner u
owns_after v u k keeps own =
    let latch = keeps (record { owner = own.owner; records = own.records; drawn = own.drawn }) in
    subst (λ (z : Site). OwnsClock z (known u)) (sym k.site)
    (record { may_stamp = k.may_stamp own.may_stamp; owner = latch.owner; records = latch.records; drawn = latch.drawn })

pub stands_after : (v u : Context) → Keeps (λ l s. s.latch ≡ l) (λ s. s.epoch) v u → StandsOn v u
stands_after v u k = record { words = k.words; epochs = k.epochs; tickets = k.tickets; site = k.site }

-- what was kept in two stretches of one call
pub keeps_both : (call : ℕ) (ks ls : List EventKind) (u x w : Listed Event) → KeepsEvents call ks u x → KeepsEvents call ls x w → KeepsEvents call (ks ++ ls) u w
keeps_both call ks ls u x w p q =
    let first : EventKind → Event = λ k. record { call = call; kind = k } in
    let all : events_at call (ks ++ ls) ≡ events_at call ks ++ events_at call ls = map-append first ks ls in
    let p_room = p.room in
    let q_room = q.room in
    let count : length (ks ++ ls) ≡ length ks + length ls = length-append ks ls in
    record { items = rw (q.items, p.items, all, append_assoc); room = omega (arith, p_room, q_room, count) }

-- what a remote reading calls for
pub calls_other : (cpu asked : ℕ) (ks : List EventKind) → asked ≢ cpu → IsRemoteReading asked ks → Calls cpu (word.Remote (pos asked)) ks
calls_other cpu asked ks other is = let e : (asked == cpu) ≡ false = grind (arith, nat_tests) in rw e is

-- ---- the seats and the context

pub has_is : (ctx : Context) (o : Own) → HasSeatsOf ctx o → known ctx ≡ has o
has_is ctx o h =
    ap (λ (x : Held). record { view = x.view; epoch = ctx.latch_seat.epoch; time = ctx.time }) (sym h.seat)
    ∙ ap (λ (x : Place). record { view = o.seat.view; epoch = x.epoch; time = ctx.time }) (sym h.latch_seat)
    ∙ ap (λ (x : Time). record { view = o.seat.view; epoch = o.latch_seat.epoch; time = x }) (sym h.time)

-- what is sound at one call is so at each
sound_at : (s : Shared) (p : Post) (m n share : ℕ) (v : Known) → IsSound (site_at s p m) share v → IsSound (site_at s p n) share v
sound_at s p m n share v h = record { base = h.base; share_is = h.share_is; rises = h.rises }

owns_at : (s : Shared) (p : Post) (m n : ℕ) (v : Known) → OwnsClock (site_at s p m) v → OwnsClock (site_at s p n) v
owns_at s p m n v h = record { may_stamp = h.may_stamp; owner = h.owner; records = h.records; drawn = h.drawn }

-- the seats of an owner's context own the clock, and a context of such seats is an owner's
seats_own : (s : Shared) (p : Post) (m : ℕ) (ctx : Context) (o : Own) → HasSeatsOf ctx o → site_of ctx ≡ site_at s p m → IsOfOwner ctx → OwnsClock (site_at s p 0) (has o)
seats_own s p m ctx o seats site own =
    owns_at s p m 0 (has o) (subst (λ (x : Known). OwnsClock (site_at s p m) x) (has_is ctx o seats) (subst (λ (z : Site). OwnsClock z (known ctx)) site own))

context_owns : (s : Shared) (p : Post) (m : ℕ) (ctx : Context) (o : Own) → HasSeatsOf ctx o → site_of ctx ≡ site_at s p m → OwnsClock (site_at s p 0) (has o) → IsOfOwner ctx
context_owns s p m ctx o seats site own =
    subst (λ (z : Site). OwnsClock z (known ctx)) (sym site) (subst (λ (x : Known). OwnsClock (site_at s p m) x) (sym (has_is ctx o seats)) (owns_at s p 0 m (has o) own))

runs_at : (s : Shared) (p : Post) (m n : ℕ) (v : Known) (es : List Event) (w : Known) → Runs (site_at s p m) v es w → Runs (site_at s p n) v es w
runs_at s p m n v [] w r = r
runs_at s p m n v (e ∷ es) w r = (r.0, r.1, r.2, r.3, runs_at s p m n r.1 es w r.4)

-- after a word the seats serve again
pub serve_after : (s : Shared) (p : Post) (share m : ℕ) (o after : Own) (a b : Listed Event) → SeatsServe s p share o → MakesAt s p m o a after b → SeatsServe s p share after
serve_after s p share m o after a b h made =
    let v = made.before in
    let w = made.later in
    let r = made.makes.serves in
    let c = made.context in
    let site : site_of w ≡ site_at s p m = made.makes.stands.site ∙ c.site in
    let words : w.words.now ≡ s.words = made.makes.stands.words ∙ c.words in
    let same : share_of v.time ≡ share = ap (λ (x : Time). share_of x) (sym c.seats.time) ∙ h.sound.share_is in
    let sound : IsSound (site_of w) share (known w) = subst (λ (n : ℕ). IsSound (site_of w) n (known w)) same r.sound in
    let seat = made.seats.seat in
    let latch = ap (λ (x : Place). x.latch) made.seats.latch_seat ∙ r.usable.of_latch ∙ made.makes.stands.epochs in
    record {
      shared = h.shared;
      thread = h.thread;
      stands = h.stands;
      cpu = h.cpu;
      near = h.near;
      offset = h.offset;
      of_words = ap place_of seat ∙ r.usable.of_words ∙ words;
      of_latch = subst (λ x. x ≡ get_or s.epochs.items p.cpu x) (sym latch) c.epochs;
      of_tickets = ap (λ (x : Time). x.table) made.seats.time ∙ r.usable.of_tickets ∙ ap (λ (x : Tickets). x.table) (made.makes.stands.tickets ∙ c.tickets);
      reading = subst (λ (x : Held). IsReadingKind x.view.kind) (sym seat) r.usable.reading;
      cpu_is = ap (λ (z : Site). z.cpu) (sym site) ∙ r.usable.cpu_is ∙ ap (λ (x : Held). cpu_of x.view.kind) (sym seat);
      sound =
          sound_at s p m 0 share (has after)
          (subst (λ (x : Known). IsSound (site_at s p m) share x) (has_is w after made.seats) (subst (λ (z : Site). IsSound z share (known w)) site sound));
      owner = λ low. seats_own s p m w after made.seats site (made.makes.owner (context_owns s p m v o c.seats c.site (h.owner low)));
    }

-- ---- one word more

-- the words from one on are that one and those after it
come : (ws : List Word) (m : ℕ) (w : Word) → m < length ws → w ≡ get_or ws m w → drop m ws ≡ w ∷ drop (m + 1) ws
come ws m w low is = rw add-one (drop-cons ws m w low ∙ ap (λ (x : Word). x ∷ drop (suc m) ws) (sym is))

pub enough_after : (s : Shared) (p : Post) (m : ℕ) (o after : Own) (a b : Listed Event) → m < length (script_of s p) → HasEnough s p m o a → MakesAt s p m o a after b
    → HasEnough s p (m + 1) after b
enough_after s p m o after a b low h made =
    let ws : List Word = script_of s p in
    let is : drop m ws ≡ made.word ∷ drop (m + 1) ws = come ws m made.word low made.word_is in
    let tickets = rw (is, sum_by-cons tickets_of made.word (drop (m + 1) ws)) at h.tickets in
    let updates = rw (is, sum_by-cons updates_in made.word (drop (m + 1) ws)) at h.updates in
    let room = rw is at h.room in
    let spends : SpendsAtMost (tickets_of made.word) (updates_in made.word) (has o) (has after) =
    subst (λ (x : Known). SpendsAtMost (tickets_of made.word) (updates_in made.word) x (has after)) (has_is made.before o made.context.seats)
    (subst (λ (x : Known). SpendsAtMost (tickets_of made.word) (updates_in made.word) (known made.before) x) (has_is made.later after made.seats) made.makes.spends) in
    let drawn = spends.tickets_left in
    let updated = spends.updates_left in
    let kept = made.makes.keeps.room in
    let few = made.makes.few in
    record { tickets = omega (arith, tickets, drawn); updates = omega (arith, updates, updated); room = omega (arith, room, kept, few) }

-- the events of one word more
AreEventsOf-push : (cpu m : ℕ) (ws : List Word) (es : List Event) (w : Word) (ks : List EventKind) → AreEventsOf cpu m ws es → Calls cpu w ks
    → AreEventsOf cpu m (ws ++ w ∷ []) (es ++ events_at (m + length ws) ks)
AreEventsOf-push cpu m [] es w ks a calls =
    let e : m + 0 ≡ m = omega arith in
    rw (a, e) (ks, [], sym (append-nil (events_at m ks)), calls, refl)
AreEventsOf-push cpu m (u ∷ ws) es w ks a calls =
    let e : m + length (u ∷ ws) ≡ m + 1 + length ws = omega arith in
    rw (e, a.2)
    (a.0, a.1 ++ events_at (m + 1 + length ws) ks, append_assoc (events_at m a.0) a.1 (events_at (m + 1 + length ws) ks), a.3, AreEventsOf-push cpu (m + 1) ws a.1 w ks a.4 calls)

-- what the word shows, at the thread's post
pub record MadeWord (s : Shared) (p : Post) (m : ℕ) (o : Own) (a : Listed Event) (after : Own) (b : Listed Event) : Type 0 where
  pub word : Word
  pub is : word ≡ get_or (script_of s p) m word
  pub kinds : List EventKind
  pub calls : Calls p.cpu word kinds
  pub few : length kinds ≤ 3
  pub events : b.items ≡ a.items ++ events_at m kinds
  pub runs : Runs (site_at s p 0) (has o) (events_at m kinds) (has after)

pub made_word : (s : Shared) (p : Post) (m : ℕ) (o after : Own) (a b : Listed Event) → MakesAt s p m o a after b → MadeWord s p m o a after b
made_word s p m o after a b made =
    let v = made.before in
    let w = made.later in
    let site = made.context.site in
    let call : v.call ≡ m = ap (λ (z : Site). z.call) site in
    let cpu : v.counter.cpu ≡ p.cpu = ap (λ (z : Site). z.cpu) site in
    let kinds = made.makes.kinds in
    let runs : Runs (site_at s p m) (known v) (events_at m kinds) (known w) =
    subst (λ (z : Site). Runs z (known v) (events_at z.call kinds) (known w)) site made.makes.runs in
    let from : Runs (site_at s p m) (has o) (events_at m kinds) (known w) =
    subst (λ (x : Known). Runs (site_at s p m) x (events_at m kinds) (known w)) (has_is v o made.context.seats) runs in
    let both : Runs (site_at s p m) (has o) (events_at m kinds) (has after) =
    subst (λ (x : Known). Runs (site_at s p m) (has o) (events_at m kinds) x) (has_is w after made.seats) from in
    record {
      word = made.word;
      is = made.word_is;
      kinds = kinds;
      calls = subst (λ (n : ℕ). Calls n made.word kinds) cpu made.makes.calls;
      few = made.makes.few;
      events = subst (λ (n : ℕ). b.items ≡ a.items ++ events_at n kinds) call made.makes.keeps.items;
      runs = runs_at s p m 0 (has o) (events_at m kinds) (has after) both;
    }

pub made_more : (s : Shared) (p : Post) (began : Own) (m : ℕ) (o after : Own) (a b : Listed Event) → m < length (script_of s p) → HasMade s p began m o a
    → MakesAt s p m o a after b → HasMade s p began (m + 1) after b
made_more s p began m o after a b low h made =
    let ws : List Word = script_of s p in
    let one = made_word s p m o after a b made in
    let events = one.events in
    let grown : take (m + 1) ws ≡ take m ws ++ one.word ∷ [] = (let more = take_more ws m one.word low in rw (← one.is) at more) in
    let len : length (take m ws) ≡ m = length-take-le m ws (omega arith) in
    let count : length (events_at m one.kinds) ≡ length one.kinds = length-map one.kinds (λ k. record { call = m; kind = k }) in
    let few = one.few in
    record {
      within = omega (arith, low);
      script =
          subst (λ (es : List Event). AreEventsOf p.cpu 0 (take (m + 1) ws) es) (sym events)
          (rw grown (let x = AreEventsOf-push p.cpu 0 (take m ws) a.items one.word one.kinds h.script one.calls in rw (zero-add, len) at x));
      runs =
          subst (λ (es : List Event). Runs (site_at s p 0) (has began) es (has after)) (sym events)
          (runs-append (site_at s p 0) (has began) a.items (has o) (events_at m one.kinds) (has after) h.runs one.runs);
      few = subst (λ (es : List Event). length es ≤ 3 * (m + 1)) (sym events) (rw (length-append, count) (let x = h.few in omega (arith, x, few)));
      serves = serve_after s p (share_of began.time) m o after a b h.serves made;
      enough = enough_after s p m o after a b low h.enough made;
    }

-- ---- the worker

-- the worker after its next word
abbrev after_word : Hand → Own → Listed Event → Hand
after_word v after b = record v { next = v.next + 1; own = Some after; events = b }

-- however it was made, the word takes it on
going_more : (s : Shared) (first v : Hand) (o after : Own) (b : Listed Event) → v.own ≡ Some o → v.next < length (script_of s v.post)
    → MakesAt s v.post v.next o v.events after b → IsGoing s first v → IsGoing s first (after_word v after b)
going_more s first v o after b seats low made going =
    let same : going.own ≡ o = (let e : Some going.own ≡ Some o = sym going.own_is ∙ seats in cc) in
    let now = subst (λ (x : Own). HasMade s v.post going.began v.next x v.events) same going.made in
    let more = made_more s v.post going.began v.next o after v.events b low now made in
    record { began = going.began; began_is = going.began_is; own = after; own_is = refl; post = going.post; made = more }

makes_word : (s : Shared) (v : Hand) (o after : Own) (b : Listed Event) → v.own ≡ Some o → v.next < length (script_of s v.post)
    → MakesAt s v.post v.next o v.events after b → MakesWord s v.next v (after_word v after b)
makes_word s v o after b seats low made =
    let one = made_word s v.post v.next o after v.events b made in
    record {
      next = refl;
      word = one.word;
      word_is = one.is;
      kinds = one.kinds;
      calls = one.calls;
      events = one.events;
      went = λ first going. going_more s first v o after b seats low made going;
    }

-- it begins with no word made
pub begins : (p : Post) (o : Own) (events : Listed Event) → Begins p o events (record { post = p; next = 0; own = Some o; events = events })
begins p o events s may =
    let empty = may.empty in
    record {
      began = o;
      began_is = refl;
      own = o;
      own_is = refl;
      post = refl;
      made = record {
        within = omega arith;
        script = empty;
        runs = rw empty refl;
        few = rw empty (omega arith);
        serves = may.serves;
        enough = may.enough;
      };
    }

-- ---- what a worker's standing tells

-- its thread is one of the machine's
pub thread_there : (s : Shared) (h : Hand) → BelongsTo s h → h.post.thread < length (threads_of s.machine)
thread_there s h b = b.1.made.serves.thread

-- its CPU has a latch
pub latch_there : (s : Shared) (h : Hand) → BelongsTo s h → h.post.cpu < length s.epochs.items
latch_there s h b = let serves = b.1.made.serves in subst (λ (n : ℕ). h.post.cpu < n) (sym serves.shared.latches) serves.cpu

-- its script has few words
pub words_few : (s : Shared) (h : Hand) → BelongsTo s h → length (script_of s h.post) ≤ 65536
words_few s h b = (thread_words s.machine h.post.thread b.1.made.serves.shared.limits (thread_there s h b)).few

-- ---- a run of words

-- the seats of a context are those that it was made on
seats_are : (ctx : Context) (o : Own) → HasSeatsOf ctx o → seats_in ctx ≡ o
seats_are ctx o h =
    ap (λ (x : Held). record { seat = x; latch_seat = ctx.latch_seat; time = ctx.time }) (sym h.seat)
    ∙ ap (λ (x : Place). record { seat = o.seat; latch_seat = x; time = ctx.time }) (sym h.latch_seat)
    ∙ ap (λ (x : Time). record { seat = o.seat; latch_seat = o.latch_seat; time = x }) (sym h.time)

-- a thread's context at one call is its context at each
pub at_call : (s : Shared) (p : Post) (ctx : Context) (m : ℕ) → IsOver s p ctx → IsContext s p m (seats_in ctx) (record ctx { call = m })
at_call s p ctx m h =
    record {
      seats = record { seat = refl; latch_seat = refl; time = refl };
      site = ap (λ (z : Site). record z { call = m }) h.site;
      words = h.words;
      epochs = h.epochs;
      tickets = h.tickets;
    }

-- and its context at a call is one at any call
over_of : (s : Shared) (p : Post) (m : ℕ) (o : Own) (ctx : Context) → IsContext s p m o ctx → IsOver s p ctx
over_of s p m o ctx h =
    let call : ctx.call ≡ m = ap (λ (z : Site). z.call) h.site in
    record {
      seats = record { seat = refl; latch_seat = refl; time = refl };
      site = subst (λ (n : ℕ). site_of ctx ≡ site_at s p n) (sym call) h.site;
      words = h.words;
      epochs = h.epochs;
      tickets = h.tickets;
    }

-- a word leaves it the thread's
pub over_after : (s : Shared) (p : Post) (m : ℕ) (o : Own) (v w : Context) → IsContext s p m o v → StandsOn v w → IsOver s p w
over_after s p m o v w h on =
    over_of s p m (seats_in w) w
    (record {
      seats = record { seat = refl; latch_seat = refl; time = refl };
      site = on.site ∙ h.site;
      words = on.words ∙ h.words;
      epochs = subst (λ x. x ≡ get_or s.epochs.items p.cpu x) (sym on.epochs) h.epochs;
      tickets = on.tickets ∙ h.tickets;
    })

-- the worker of this post whose seats a context has
abbrev pub hand_in : Post → ℕ → Listed Event → Context → Hand
hand_in p m events ctx = record { post = p; next = m; own = Some (seats_in ctx); events = events }

-- the words from v's next one to before m were made, and the worker's seats are in a context of its thread
pub record HasCome (s : Shared) (v : Hand) (m : ℕ) (p : Post) (events : Listed Event) (ctx : Context) : Type 0 where
  pub post : p ≡ v.post
  pub over : IsOver s p ctx
  pub from : v.next ≤ m
  pub made : MakesWords (m - v.next) s v (hand_in p m events ctx)

-- before the first word
pub sets_out : (s : Shared) (v : Hand) (o : Own) (ctx : Context) → v.own ≡ Some o → IsContext s v.post v.next o ctx → HasCome s v v.next v.post v.events ctx
sets_out s v o ctx seats c =
    let none : 0 ≡ v.next - v.next = omega arith in
    let own : Some (seats_in ctx) ≡ v.own = ap (λ (x : Own). Some x) (seats_are ctx o c.seats) ∙ sym seats in
    record {
      post = refl;
      over = over_of s v.post v.next o ctx c;
      from = omega arith;
      made = subst (λ (n : ℕ). MakesWords n s v (hand_in v.post v.next v.events ctx)) none (ap (λ (x : Option Own). record v { own = x }) own);
    }

-- a word more
pub comes_on : (s : Shared) (v : Hand) (m : ℕ) (p : Post) (a b : Listed Event) (ctx after : Context) → m < length (script_of s p) → HasCome s v m p a ctx
    → IsOver s p after → MakesAt s p m (seats_in ctx) a (seats_in after) b → HasCome s v (m + 1) p b after
comes_on s v m p a b ctx after low h over made =
    let from = h.from in
    let more : suc (m - v.next) ≡ m + 1 - v.next = omega (arith, from) in
    let u : Hand = hand_in p m a ctx in
    let w : Hand = hand_in p (m + 1) b after in
    record {
      post = h.post;
      over = over;
      from = omega (arith, from);
      made = subst (λ (n : ℕ). MakesWords n s v w) more (u, h.made, makes_word s u (seats_in ctx) (seats_in after) b refl low made);
    }

-- what each word took on they all did
pub went_all : (n : ℕ) (s : Shared) (v w : Hand) → MakesWords n s v w → WentOn s v w
went_all zero s v w is first going = subst (λ (h : Hand). IsGoing s first h) (sym is) going
went_all (suc n) s v w made first going = made.2.went first (went_all n s v made.0 made.1 first going)

-- the seats in the context serve the next word
pub record IsReady (s : Shared) (p : Post) (m : ℕ) (events : Listed Event) (o : Own) : Type 0 where
  pub serves : SeatsServe s p (share_of o.time) o
  pub enough : HasEnough s p m o events

pub ready : (s : Shared) (v : Hand) (m : ℕ) (p : Post) (events : Listed Event) (ctx : Context) → BelongsTo s v → HasCome s v m p events ctx
    → IsReady s p m events (seats_in ctx)
ready s v m p events ctx b h =
    let going = went_all (m - v.next) s v (hand_in p m events ctx) h.made b.0 b.1 in
    let same : going.own ≡ seats_in ctx = (let e : Some going.own ≡ Some (seats_in ctx) = sym going.own_is in cc) in
    let now = subst (λ (x : Own). HasMade s p going.began m x events) same going.made in
    record {
      serves = subst (λ (n : ℕ). SeatsServe s p n (seats_in ctx)) (sym now.serves.sound.share_is) now.serves;
      enough = now.enough;
    }

-- which stands in the script
pub come_within : (s : Shared) (v : Hand) (m end : ℕ) (p : Post) (events : Listed Event) (ctx : Context) → HasCome s v m p events ctx → m < end
    → end ≤ length (script_of s v.post) → m < length (script_of s p)
come_within s v m end p events ctx h low within = subst (λ (q : Post). m < length (script_of s q)) (sym h.post) (omega (arith, low, within))

-- after the last word: the worker with its seats back
pub comes_back : (s : Shared) (v : Hand) (end : ℕ) (p : Post) (events : Listed Event) (ctx : Context) (o : Own) → HasCome s v end p events ctx → HasSeatsOf ctx o
    → MakesWords (end - v.next) s v (record { post = p; next = end; own = Some o; events = events })
comes_back s v end p events ctx o h seats =
    subst (λ (x : Own). MakesWords (end - v.next) s v (record { post = p; next = end; own = Some x; events = events })) (seats_are ctx o seats) h.made

-- a run of one word
pub one_word : (s : Shared) (m : ℕ) (v w : Hand) → m ≡ v.next → MakesWords (m + 1 - v.next) s v w → MakesWord s m v w
one_word s m v w at made =
    let one : m + 1 - v.next ≡ suc zero = omega (arith, at) in
    let only = subst (λ (n : ℕ). MakesWords n s v w) one made in
    subst (λ (n : ℕ). MakesWord s n v w) (sym at) (subst (λ (u : Hand). MakesWord s u.next u w) only.1 only.2)

-- ---- a word of a script

pub word_in_range : (s : Shared) (p : Post) (m : ℕ) (w : Word) → FitTogether s → p.thread < length (threads_of s.machine) → m < length (script_of s p) → w ≡ get_or (script_of s p) m w
    → IsInRange s.words.start.cpus w
word_in_range s p m w fit there low is =
    let all = (thread_words s.machine p.thread fit.limits there).range in
    let one : IsInRange (cpu_count s.machine) (get_or (script_of s p) m w) = All-get_or (IsInRange (cpu_count s.machine)) (script_of s p) m w low all in
    subst (λ (n : ℕ). IsInRange n w) (sym fit.cpus) (subst (IsInRange (cpu_count s.machine)) (sym is) one)

-- its thread may make it: a CPU's own thread owns the clock, and another has the words of a reader
pub may_make : (s : Shared) (p : Post) (m share : ℕ) (w : Word) (o : Own) (ctx : Context) → SeatsServe s p share o → IsContext s p m o ctx → m < length (script_of s p)
    → w ≡ get_or (script_of s p) m w → MayMake w ctx
may_make s p m share w o ctx serves c low is =
    dite (dec_lt p.thread (cpu_count s.machine))
    (λ own. inr (context_owns s p m ctx o c.seats c.site (serves.owner own)))
    (λ other.
    let all = reader_words s.machine p.thread serves.shared.limits (omega (arith, other)) serves.thread in
    inl (subst IsOfReader (sym is) (All-get_or IsOfReader (script_of s p) m w low all)))
