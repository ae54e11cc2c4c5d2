use Rattle.std.proofs.Common.{◌≡◌, ◌+◌, ◌||◌, inl, refl, sym, ap, ◌∙◌, subst}
use Rattle.clk_ticket.specs.Time.{Time}
use Rattle.clk_words.specs.declared.view.View.{View}
use Rattle.clk_words.specs.Knowing.{HasFoundPerCpu}
use Rattle.clk_words.specs.Views.{is_percpu}
use Rattle.clk_local.specs.declared.events.Reading.{Reading}
use Rattle.clk_local.specs.declared.events.Reading.TheVariants.{Stable, PerCpu}
use Rattle.clk_local.specs.declared.events.TickEvent.{TickEvent}
use Rattle.clk_local.specs.declared.events.TickEvent.TheVariants.{Nothing, Ticked}
use Rattle.clk_local.specs.declared.events.IdleEvent.{IdleEvent}
use Rattle.clk_local.specs.Context.{Site, Known, Spends}
use Rattle.clk_local.specs.Shows.{ShowsIdle, ShowsReading, OnReading, HasTicked, mode_read, tickets_of}
use Rattle.clk_local.proofs.Showing.{ticks_percpu}
use Rattle.clk_local.proofs.tests.threads.wake.Goals as goal

-- a reading leaves it found
found_raised : (z : Site) (v w : Known) (e : Reading) → OnReading z v e w → HasFoundPerCpu v.view → HasFoundPerCpu w.view
found_raised z v w (Stable raw value) shows found = subst (λ (u : View). HasFoundPerCpu u) (sym shows.view_is) found
found_raised z v w (PerCpu raw step) shows found =
    let half = ap (λ (u : View). u.modes.found) shows.finds.first.finds.view_is in
    let pair = ap (λ (u : View). u.modes.found) shows.finds.second.finds.view_is in
    let loaded = ap (λ (u : View). u.modes.found) shows.finds_offset.view_is in
    ap (λ (u : View). u.modes.found) shows.raises.makes.view_is ∙ (loaded ∙ (pair ∙ (half ∙ found)))

found_read : (z : Site) (v w : Known) (e : Reading) → ShowsReading z v e w → HasFoundPerCpu v.view → HasFoundPerCpu w.view
found_read z v w e shows found =
    found_raised z shows.between w e shows.shows
    (subst (λ (u : View). HasFoundPerCpu u) (sym shows.looks.finds.view_is) (ap (λ b. b || is_percpu (mode_read e)) found))

three : (e : TickEvent) → HasTicked e → tickets_of e ≡ 3
three Nothing ticked = absurd ticked
three (Ticked gtod_ticket gtod stamp raw step) ticked = refl

-- so an idle event draws all four
four : (z : Site) (v w : Known) (e : IdleEvent) (t u : Time) → ShowsIdle z v e w → HasFoundPerCpu v.view → Spends (1 + tickets_of e.tick) t u → Spends 4 t u
four z v w e t u shows found spends =
    subst (λ n. Spends (1 + n) t u) (three e.tick (ticks_percpu z shows.between w e.tick shows.ticks (inl (found_read z v shows.between e.read shows.reads found)))) spends

pub returns-clause-spends : goal.returns-clause-spends
returns-clause-spends c = four _ _ _ _ _ _ c.idle.ensures.shows c.requires.found c.idle.ensures.spends
