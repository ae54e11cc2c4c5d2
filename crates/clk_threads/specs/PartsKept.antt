-- What a `RunParts` keeps true of its fields. A runner's own: no public contract cites it.
use Rattle.std.specs.Prelude.{◌≡◌, ℕ, length, Option}
use Rattle.std.specs.List.{All}
use Rattle.clk_base.specs.Walk.{EachFrom}
use Rattle.clk_machine.specs.Plan.{threads_of}
use Rattle.clk_lawful.specs.Checks.{listed}
use Rattle.clk_worker.specs.Making.{Hand}
use Rattle.clk_threads.specs.Preparing.{IsPrepared}
use Rattle.clk_threads.specs.Parts.{shared_of, CameAt, WatchCame}
use Rattle.clk_threads.specs.Ending.{begun_trace}
use Rattle.clk_threads.specs.declared.prepared.Prepared.{Prepared}
use Rattle.clk_threads.specs.declared.running.Running.{Running}
use Rattle.clk_threads.specs.declared.parts.RunParts.TheInside.{Inside}

-- the worker of this thread, if it is there, is the run's own
abbrev pub StandsAt : Prepared → ℕ → Option Hand → Type 0
StandsAt p thread slot = All (CameAt p thread) (listed slot)

-- it is the run of what was prepared, and what is there is its own
pub record IsRunFrom (p : Prepared) (r : Running) : Type 0 where
  pub prepared : IsPrepared p.machine p
  pub shared : r.shared ≡ shared_of p
  pub count : length r.slots.items ≡ length (threads_of p.machine)
  pub slots : EachFrom (StandsAt p) 0 r.slots.items
  pub watcher : All (WatchCame p) (listed r.watcher)
  pub first : r.first ≡ p.opened.first
  pub time : r.time ≡ p.time
  pub latches : r.latches ≡ p.lists.latches
  pub trace : r.trace ≡ begun_trace p

pub record IsOnItsWay (r : Inside) : Type 0 where
  pub run : IsRunFrom r.prepared.value r.running
