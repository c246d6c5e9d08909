-- A step's system keeps the cells that it began with.
use Rattle.std.proofs.Common.{◌≡◌, ℕ, Bool, true, false, cond, List, [], ◌∷◌, refl, ◌∙◌}
use Rattle.rh_model.specs.declared.node.App.{App}
use Rattle.rh_model.specs.declared.node.Node.{Node}
use Rattle.rh_rules.specs.declared.event.Event.{Event}
use Rattle.rh_rules.specs.declared.event.Event.TheVariants as event
use Rattle.rh_otp_system.specs.declared.calls.Ask.{Ask}
use Rattle.rh_otp_system.specs.declared.calls.Ask.TheVariants as ask
use Rattle.rh_otp_system.specs.State.{SystemView, system_of}
use Rattle.rh_otp_system.specs.Views.{NetView}
use Rattle.rh_otp_net.specs.declared.order.Order.{Order}
use Rattle.rh_otp_system.proofs.Kept.{kept_settled, kept_booted, kept_called, kept_ticked, kept_crashed}
use Rattle.rh_otp_system.specs.Resting.{forgotten, rested}
use Rattle.rh_otp_sim.specs.Acting.{most_moves, waits_for_end, booted_if, called_if, called_at, time_passed, done_first, acted_at_once, acted}
use Rattle.rh_otp_sim.specs.Refusing.{hosts}
use Rattle.rh_otp_sim.specs.Sim.{LiveSimView}
use Rattle.rh_otp_sim.specs.Stepping.{begun, run}

abbrev Kept : SystemView → SystemView → Type 0
Kept s t = t.nodes.base ≡ s.nodes.base

either : (b : Bool) (x y s : SystemView) → Kept s x → Kept s y → Kept s (cond b x y)
either true x y s p q = p
either false x y s p q = q

kept_boot : (n : Node) (s : SystemView) → Kept s (booted_if n s)
kept_boot n s = either _ _ _ s (kept_booted n s) refl

kept_call : (a : Ask) (n : Node) (app : App) (s : SystemView) → Kept s (called_if a n app s)
kept_call a n app s = either _ _ _ s (kept_called a n app s) refl

kept_calls : (a : Ask) (nodes : List Node) (app : App) (s : SystemView) → Kept s (called_at a nodes app s)
kept_calls a [] app s = refl
kept_calls a (n ∷ nodes) app s = kept_calls a nodes app _ ∙ kept_call a n app s

kept_time : (ms : ℕ) (o : Order) (s : SystemView) → Kept s (time_passed ms o s)
kept_time ms o s = either _ _ _ s (kept_ticked _ _ o s) refl

kept_first : (e : Event) (sim : LiveSimView) (s : SystemView) → Kept s (done_first e sim s)
kept_first (event.Boot n) sim s = kept_boot n s
kept_first (event.Crash n) sim s = kept_crashed n s
kept_first (event.Tick ms) sim s = refl
kept_first (event.Start n a restart) sim s = kept_call _ n a s
kept_first (event.Stop n a) sim s = kept_call _ n a s
kept_first (event.Permit n a allow) sim s = kept_call _ n a s
kept_first (event.Takeover n a restart) sim s = kept_call _ n a s
kept_first (event.Exit n a normal) sim s = kept_call _ n a s
kept_first (event.StartAll a restart) sim s = kept_calls _ (hosts sim a) a s
kept_first (event.StopAll a) sim s = kept_calls _ (hosts sim a) a s

kept_done : (most : ℕ) (e : Event) (sim : LiveSimView) (s : SystemView) → Kept s (acted_at_once most e sim s)
unfolding acted_at_once
kept_done most e sim s = kept_settled most sim.order (done_first e sim s) ∙ kept_first e sim s

kept_acted : (e : Event) (sim : LiveSimView) (s : SystemView) → Kept s (acted e sim s)
unfolding acted
kept_acted (event.Boot n) sim s = kept_done most_moves (event.Boot n) sim s
kept_acted (event.Crash n) sim s = kept_done most_moves (event.Crash n) sim s
kept_acted (event.Tick ms) sim s = kept_time ms sim.order s
kept_acted (event.Start n a restart) sim s = kept_done most_moves (event.Start n a restart) sim s
kept_acted (event.Stop n a) sim s = kept_done most_moves (event.Stop n a) sim s
kept_acted (event.Permit n a allow) sim s = kept_done most_moves (event.Permit n a allow) sim s
kept_acted (event.Takeover n a restart) sim s = kept_done most_moves (event.Takeover n a restart) sim s
kept_acted (event.Exit n a normal) sim s = kept_done most_moves (event.Exit n a normal) sim s
kept_acted (event.StartAll a restart) sim s = kept_done most_moves (event.StartAll a restart) sim s
kept_acted (event.StopAll a) sim s = kept_done most_moves (event.StopAll a) sim s

rested_base : (s : SystemView) → (rested s).nodes.base ≡ s.nodes.base
unfolding rested
rested_base s = refl

forgotten_base : (s : SystemView) → (forgotten s).nodes.base ≡ s.nodes.base
unfolding forgotten
forgotten_base s = refl

-- behind a command the system has the cells of the simulation to begin with
pub run_base : (net : NetView) (e : Event) (sim : LiveSimView) → (run e sim (begun net e sim)).nodes.base ≡ sim.history.now
run_base net e sim =
    rested_base (acted e sim (begun net e sim)) ∙ kept_acted e sim (begun net e sim)
    ∙ forgotten_base (system_of sim.cluster sim.files sim.history.now net (waits_for_end e))
