-- The seats that were prepared are those of all threads, and there is an adjustment of each CPU.
use Rattle.std.proofs.Common.{◌≡◌, ◌<◌, ◌∙◌, sym, ap, subst, refl, length, arith, ℤ, Bool, true, false, cond, Some, None}
use Rattle.std.specs.Prelude.{is_some}
use Rattle.std.specs.List.{All}
use Rattle.std.proofs.lemmas.List.{length-map}
use Rattle.clk_machine.specs.Plan.{cpu_count, threads_of}
use Rattle.clk_record.specs.declared.up.CpuUp.{CpuUp}
use Rattle.clk_record.specs.declared.stable.StableStamp.{StableStamp}
use Rattle.clk_threads.specs.Preparing.{thread_seat, thread_seats, watch_seat, watch_time, time_seat, no_events, empty_watch, IsPrepared}
use Rattle.clk_threads.specs.Workers.{HaveSeats, HaveWatchSeats}
use Rattle.clk_threads.specs.Parts.{seats_of, watch_seats_of}
use Rattle.clk_threads.specs.declared.prepared.Prepared.{Prepared}
use Rattle.clk_threads.proofs.Built.{built_count}
use Rattle.clk_threads.proofs.Lasts.{some_stamps}

pub adjusts_count : (p : Prepared) → IsPrepared p.machine p → length p.lists.adjusts.items ≡ cpu_count p.machine
adjusts_count p ip =
    let all = ap length ip.lists.adjusts in
    let each = length-map p.up.cpus.items (λ (up : CpuUp). up.adjust) in
    let count = ip.up.count in
    omega (arith, all, each, count)

pub seats_count : (p : Prepared) → (ip : IsPrepared p.machine p) → length p.opened.seats.items ≡ length (threads_of p.machine)
seats_count p ip =
    ap length ip.opened.seats
    ∙ built_count (thread_seats p.machine p.opened.words) (thread_seat p.machine p.opened.words) (record { none = refl; more = λ n. refl }) (length (threads_of p.machine))

pub have_seats : (p : Prepared) → IsPrepared p.machine p → HaveSeats (length p.opened.seats.items) (seats_of p)
have_seats p ip =
    let m = p.machine in
    let seats = seats_count p ip in
    record {
      seats = refl;
      latches = ip.latches.count ∙ sym seats;
      times = ap length ip.times ∙ length-map (threads_of m) (time_seat ip.booted) ∙ sym seats;
      events = ap length ip.lists.events ∙ length-map (threads_of m) no_events ∙ sym seats;
    }

-- there is a stamp, and all have the offset of the boot
pub some_stamp : (p : Prepared) → IsPrepared p.machine p → 0 < length p.stamps.items
some_stamp p ip = some_stamps p.machine.stable (length p.stamps.items) ip.stamps.count

pub same_offsets : (p : Prepared) → IsPrepared p.machine p → All (λ (s : StableStamp). s.offset ≡ p.gtod_offset) p.stamps.items
same_offsets p ip = subst (λ (o : ℤ). All (λ (s : StableStamp). s.offset ≡ o) p.stamps.items) (sym ip.gtod_offset) ip.stamps.offsets

-- the watchdog has all of its seats and lists, or none
pub is_some_by : {A : Type 0} (b : Bool) (x : A) → is_some (cond b (Some x) None) ≡ b
is_some_by true x = refl
is_some_by false x = refl

pub have_watch_seats : (p : Prepared) → IsPrepared p.machine p → HaveWatchSeats (watch_seats_of p)
have_watch_seats p ip =
    let b : Bool = is_some p.machine.watchdog in
    let seat = ap is_some ip.opened.watch ∙ is_some_by b (watch_seat p.machine p.opened.words) in
    record {
      time = ap is_some ip.watch_time ∙ is_some_by b (watch_time p.machine ip.booted) ∙ sym seat;
      trace = ap is_some ip.lists.watch ∙ is_some_by b (empty_watch p.machine p.up.failed) ∙ sym seat;
    }
