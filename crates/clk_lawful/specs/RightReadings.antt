-- Which readings of a trace are right.
use Rattle.std.specs.Prelude.{◌≡◌, ℕ, ◌==◌, ◌%◌, ◌≤◌, ℤ, pos, List, [], ◌∷◌, ◌++◌, map, flat_map, All, if◌then◌else◌}
use Rattle.std.specs.List.{AllZip}
use Rattle.clk_base.specs.Walk.{Along, EachFrom, flat_from}
use Rattle.clk_machine.specs.Plan.{Plan, cpu_count}
use Rattle.clk_machine.specs.Time.{gtod_at}
use Rattle.clk_machine.specs.Records.{record_zero, IsRightReading}
use Rattle.clk_machine.specs.declared.reading.Published.{Published}
use Rattle.clk_record.specs.Attempts.{IsRightAttempt}
use Rattle.clk_record.specs.declared.up.CpuUp.{CpuUp}
use Rattle.clk_record.specs.declared.stable.StableStamp.{StableStamp}
use Rattle.clk_record.specs.declared.stable.Demotion.{Demotion}
use Rattle.clk_lawful.specs.Threads.{owners, readers}
use Rattle.clk_lawful.specs.Checks.{Visit, Check, listed, pause_of, watch_blocks, checks_in}
use Rattle.clk_lawful.specs.TicketOrder.{first_blocks, thread_blocks, IsTicketOrder}
use Rattle.clk_lawful.specs.Updates.{records_of, OwnsRecords, record_after, NamesLater, named_after}
use Rattle.clk_lawful.specs.declared.event.EventKind.{EventKind}
use Rattle.clk_lawful.specs.declared.event.EventKind.TheVariants.{Stable, Local, Couple, Stamp, Nothing, Update, Pause}
use Rattle.clk_lawful.specs.declared.trace.Trace.{Trace}

-- what the bring-up adjusted a CPU's counter by, in cycles; CPU 0 has no entry
abbrev pub adjust_in : ℕ → List CpuUp → ℤ
adjust_in cpu [] = pos 0
adjust_in cpu (up ∷ ups) = if up.cpu == cpu then up.adjust else adjust_in cpu ups

abbrev pub adjust_of : Trace → ℕ → ℤ
adjust_of t cpu = adjust_in cpu t.ups.cpus.items

-- what an event of this CPU read is right by these records; an update is right by the record before it
abbrev pub IsRightKind : Plan → ℕ → ℤ → List Published → EventKind → Type 0
IsRightKind m cpu adjust records (Stable raw value) = IsRightReading m cpu adjust records raw
IsRightKind m cpu adjust records (Local raw tick_raw tick_gtod offset old new) = IsRightReading m cpu adjust records raw
IsRightKind m cpu adjust records (Couple asked own other word old new) = Unit {0}
IsRightKind m cpu adjust records (Stamp gtod_ticket gtod raw) = (gtod ≡ gtod_at m gtod_ticket) × IsRightReading m cpu adjust records raw
IsRightKind m cpu adjust records Nothing = Unit {0}
IsRightKind m cpu adjust records (Update p) = Unit {0}
IsRightKind m cpu adjust records (Pause ticket count) = Unit {0}

-- a stamp of the boot is CPU 0's, before any update: its raw clock counts from record 0, and so from the machine's base
abbrev pub IsRightStamp : Plan → StableStamp → Type 0
IsRightStamp m s = (s.gtod ≡ gtod_at m s.gtod_ticket) × IsRightReading m 0 (pos 0) (record_zero m ∷ []) s.raw

-- ---- the watchdog's

-- the stamp that a demotion takes
abbrev pub taken_stamp : Demotion → StableStamp
taken_stamp d = record { gtod_ticket = d.gtod_ticket; gtod = d.gtod; raw = d.raw; offset = d.gtod_offset }

-- the stamps that a visit took
abbrev pub stamps_in : Visit → List StableStamp
stamps_in v = listed v.stamp ++ map taken_stamp (listed v.demotion)

-- a visit on this CPU: its attempts show the counters at their tickets, and its stamps are right by these records
pub record IsRightVisit (m : Plan) (cpu : ℕ) (adjust : ℤ) (records : List Published) (v : Visit) : Type 0 where
  pub attempts : All (IsRightAttempt m cpu adjust v.made.source) v.attempts
  pub stamps : All (λ s. (s.gtod ≡ gtod_at m s.gtod_ticket) × IsRightReading m cpu adjust records s.raw) (stamps_in v)

-- the CPU of a check
abbrev pub check_cpu : Plan → ℕ → ℕ
check_cpu m number = number % cpu_count m

-- the records that the stamps of a CPU name, check by check
abbrev pub named_in : Plan → ℕ → ℕ → Check → List ℕ
named_in m cpu number c = if check_cpu m number == cpu then map (λ s. s.raw.rec) (flat_map stamps_in c.visits) else []

-- no number is below one before it
abbrev pub NeverFall : ℕ → List ℕ → Type 0
NeverFall low [] = Unit {0}
NeverFall low (n ∷ ns) = (low ≤ n) × NeverFall n ns

-- ---- all of them

-- all readings are right, and their tickets are in order
pub record HasRightReadings (m : Plan) (t : Trace) : Type 0 where
  pub boots : All (IsRightStamp m) t.boots.items
  pub threads : AllZip (λ cpu es. All (λ e. IsRightKind m cpu (adjust_of t cpu) (records_of m t cpu) e.kind) es.items) t.cpu_of.items t.threads.items
  -- a CPU's own thread goes from record to record, and in any other thread the records do not go back
  pub owners :
      EachFrom (λ cpu es. Along (λ last e. OwnsRecords m cpu (adjust_of t cpu) last e.kind) (λ last e. record_after last e.kind) (record_zero m) es.items) 0 (owners m t)
  pub readers : All (λ es. Along (λ named e. NamesLater named e.kind) (λ named e. named_after named e.kind) 0 es.items) (readers m t)
  -- a demotion at boot takes its stamp as the boot does
  pub boot_demotion : All (λ d. IsRightStamp m (taken_stamp d)) (listed t.boot_demotion)
  -- the watchdog reads on the CPU of the check, and of each CPU its records do not go back
  pub checks :
      EachFrom (λ n c. All (IsRightVisit m (check_cpu m n) (adjust_of t (check_cpu m n)) (records_of m t (check_cpu m n))) c.visits) 0 (checks_in t.watch)
  pub checks_later : (cpu : ℕ) → NeverFall 0 (flat_from (named_in m cpu) 0 (checks_in t.watch))
  pub tickets :
      IsTicketOrder (first_blocks t) (map thread_blocks t.threads.items ++ watch_blocks (pause_of m) (checks_in t.watch) ∷ []) t.tickets
