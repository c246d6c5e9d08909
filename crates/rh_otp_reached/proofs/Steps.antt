-- A step leads from cells that live nodes reach to cells that they reach.
use Rattle.std.proofs.Common.{◌≡◌, ◌<◌, ◌≤◌, ◌+◌, ◌^◌, nat_lt, ℕ, Bool, true, false, cond, List, [], ◌∷◌, None, refl, ◌∙◌, arith}
use Rattle.rh_model.specs.ClusterView.{ClusterView, node_count}
use Rattle.rh_model.specs.declared.node.App.{App}
use Rattle.rh_model.specs.declared.node.Node.{Node}
use Rattle.rh_rules.specs.declared.event.Event.{Event}
use Rattle.rh_rules.specs.declared.event.Event.TheVariants as event
use Rattle.rh_otp_model.specs.declared.wait.OwnFile.{OwnFile}
use Rattle.rh_otp_net.specs.declared.order.Order.{Order}
use Rattle.rh_otp_node.specs.Live.{is_alive}
use Rattle.rh_otp_system.specs.declared.calls.Ask.{Ask}
use Rattle.rh_otp_system.specs.declared.calls.Ask.TheVariants as ask
use Rattle.rh_otp_system.specs.Doing.{booted, called, ticked, is_ticked}
use Rattle.rh_otp_system.specs.Moves.{IsQuiet}
use Rattle.rh_otp_system.specs.Resting.{rested, forgotten}
use Rattle.rh_otp_system.specs.State.{SystemView, system_of, is_alive_at}
use Rattle.rh_otp_laws.proofs.Commands.{settled_keeps, ticked_keeps}
use Rattle.rh_otp_laws.proofs.Reached.{forgotten_noted}
use Rattle.rh_otp_sim.specs.Acting.{most_moves, waits_for_end, booted_if, called_if, called_at, time_passed, is_passed, done_first, acted_at_once, is_quiet_at_once, acted, is_acted}
use Rattle.rh_otp_sim.specs.Refusing.{hosts, node_in, refusal_of, refused}
use Rattle.rh_otp_sim.specs.Sim.{LiveSimView, net_in}
use Rattle.rh_otp_sim.specs.Stepping.{begun, cells_behind, waiting_of, system_with, ends_with}
use Rattle.rh_otp_reached.proofs.Accepted.{accepted, boots_down}
use Rattle.rh_otp_reached.proofs.Held.{AreHeld, IsOver, taken_stands, written_held}
use Rattle.rh_otp_reached.proofs.Quiet.{quiet_settled, quiet_ticked}
use Rattle.rh_otp_reached.proofs.Standing.{Stands, stands_on, crashed_stands, called_stands, booted_stands, rested_stands, forgotten_stands}

pub begun_stands : (e : Event) (sim : LiveSimView) → AreHeld sim.cluster sim.files sim.history.now
    → Stands sim.cluster sim.files (begun (net_in sim) e sim)
begun_stands e sim is =
    let now : SystemView = system_of sim.cluster sim.files sim.history.now (net_in sim) (waits_for_end e) in
    forgotten_stands sim.cluster sim.files now (taken_stands sim.cluster sim.files sim.history.now (waits_for_end e) is)

-- ---- what it does at first

either : (c : ClusterView) (files : List OwnFile) (b : Bool) (s t : SystemView) → Stands c files s → Stands c files t
    → Stands c files (cond b s t)
either c files true s t p q = p
either c files false s t p q = q

boots_if : (c : ClusterView) (files : List OwnFile) (n : Node) (s : SystemView) → n.0 < node_count c → is_alive_at s n ≡ false
    → Stands c files s → Stands c files (booted_if n s)
boots_if c files n s within down p = either c files _ (booted n s) s (booted_stands c files n s within down p) p

calls_if : (c : ClusterView) (files : List OwnFile) (a : Ask) (n : Node) (app : App) (s : SystemView) → Stands c files s
    → Stands c files (called_if a n app s)
calls_if c files a n app s p = either c files _ (called a n app s) s (called_stands c files a n app s p) p

calls_at : (c : ClusterView) (files : List OwnFile) (a : Ask) (nodes : List Node) (app : App) (s : SystemView) → Stands c files s
    → Stands c files (called_at a nodes app s)
calls_at c files a [] app s p = p
calls_at c files a (n ∷ nodes) app s p = calls_at c files a nodes app _ (calls_if c files a n app s p)

-- the nodes of the system are those of the simulation
abbrev IsAliveAs : LiveSimView → SystemView → Type 0
IsAliveAs sim s = (n : Node) → is_alive_at s n ≡ is_alive (node_in sim n)

pub first_stands : (clock : ℕ) (e : Event) (sim : LiveSimView) (s : SystemView) → refusal_of clock e sim ≡ None → IsAliveAs sim s
    → Stands sim.cluster sim.files s → Stands sim.cluster sim.files (done_first e sim s)
first_stands clock (event.Boot n) sim s none alive p =
    let both : (n.0 < node_count sim.cluster) × (is_alive (node_in sim n) ≡ false) = boots_down clock n sim none in
    boots_if sim.cluster sim.files n s both.0 (alive n ∙ both.1) p
first_stands clock (event.Crash n) sim s none alive p = crashed_stands sim.cluster sim.files n s p
first_stands clock (event.Tick ms) sim s none alive p = p
first_stands clock (event.Start n a restart) sim s none alive p = calls_if sim.cluster sim.files (ask.Start restart) n a s p
first_stands clock (event.Stop n a) sim s none alive p = calls_if sim.cluster sim.files ask.Stop n a s p
first_stands clock (event.Permit n a allow) sim s none alive p = calls_if sim.cluster sim.files (ask.Permit allow) n a s p
first_stands clock (event.Takeover n a restart) sim s none alive p = calls_if sim.cluster sim.files (ask.Takeover restart) n a s p
first_stands clock (event.Exit n a normal) sim s none alive p = calls_if sim.cluster sim.files (ask.Exit normal) n a s p
first_stands clock (event.StartAll a restart) sim s none alive p =
    calls_at sim.cluster sim.files (ask.Start restart) (hosts sim a) a s p
first_stands clock (event.StopAll a) sim s none alive p = calls_at sim.cluster sim.files ask.Stop (hosts sim a) a s p

-- ---- until nothing moves

done_over : (most : ℕ) (e : Event) (sim : LiveSimView) (s : SystemView) → is_quiet_at_once most e sim s ≡ true
    → Stands sim.cluster sim.files (done_first e sim s) → IsOver sim.cluster sim.files (acted_at_once most e sim s)
unfolding acted_at_once is_quiet_at_once
done_over most e sim s quiet p = (
  settled_keeps (Stands sim.cluster sim.files) (stands_on sim.cluster sim.files) most sim.order (done_first e sim s) p,
  quiet_settled most sim.order (done_first e sim s) quiet,
)

ticks_by : (c : ClusterView) (files : List OwnFile) (end most : ℕ) (order : Order) (s : SystemView) (b : Bool) → s.clock ≤ end
    → cond b (is_ticked end most order s) true ≡ true → IsOver c files s → IsOver c files (cond b (ticked end most order s) s)
ticks_by c files end most order s true on past p =
    (ticked_keeps (Stands c files) (stands_on c files) end most order s on past p.0, quiet_ticked end most order s past)
ticks_by c files end most order s false on past p = p

passes_over : (c : ClusterView) (files : List OwnFile) (ms : ℕ) (order : Order) (s : SystemView) → is_passed ms order s ≡ true
    → IsOver c files s → IsOver c files (time_passed ms order s)
passes_over c files ms order s past p =
    ticks_by c files (s.clock + ms) most_moves order s (nat_lt (s.clock + ms) (2 ^ 64)) (omega arith) past p

acts_over : (clock : ℕ) (e : Event) (sim : LiveSimView) (s : SystemView) → refusal_of clock e sim ≡ None → IsAliveAs sim s
    → is_acted e sim s ≡ true → IsOver sim.cluster sim.files s → IsOver sim.cluster sim.files (acted e sim s)
unfolding acted is_acted
acts_over clock (event.Tick ms) sim s none alive quiet p = passes_over sim.cluster sim.files ms sim.order s quiet p
acts_over clock (event.Boot n) sim s none alive quiet p =
    done_over most_moves (event.Boot n) sim s quiet (first_stands clock (event.Boot n) sim s none alive p.0)
acts_over clock (event.Crash n) sim s none alive quiet p =
    done_over most_moves (event.Crash n) sim s quiet (first_stands clock (event.Crash n) sim s none alive p.0)
acts_over clock (event.Start n a restart) sim s none alive quiet p =
    done_over most_moves (event.Start n a restart) sim s quiet (first_stands clock (event.Start n a restart) sim s none alive p.0)
acts_over clock (event.Stop n a) sim s none alive quiet p =
    done_over most_moves (event.Stop n a) sim s quiet (first_stands clock (event.Stop n a) sim s none alive p.0)
acts_over clock (event.Permit n a allow) sim s none alive quiet p =
    done_over most_moves (event.Permit n a allow) sim s quiet (first_stands clock (event.Permit n a allow) sim s none alive p.0)
acts_over clock (event.Takeover n a restart) sim s none alive quiet p =
    done_over most_moves (event.Takeover n a restart) sim s quiet (first_stands clock (event.Takeover n a restart) sim s none alive p.0)
acts_over clock (event.Exit n a normal) sim s none alive quiet p =
    done_over most_moves (event.Exit n a normal) sim s quiet (first_stands clock (event.Exit n a normal) sim s none alive p.0)
acts_over clock (event.StartAll a restart) sim s none alive quiet p =
    done_over most_moves (event.StartAll a restart) sim s quiet (first_stands clock (event.StartAll a restart) sim s none alive p.0)
acts_over clock (event.StopAll a) sim s none alive quiet p =
    done_over most_moves (event.StopAll a) sim s quiet (first_stands clock (event.StopAll a) sim s none alive p.0)

-- ---- it is over

rested_quiet : (s : SystemView) → IsQuiet s → IsQuiet (rested s)
unfolding rested
rested_quiet s quiet = quiet

begun_quiet : (e : Event) (sim : LiveSimView) → IsQuiet (begun (net_in sim) e sim)
unfolding forgotten
begun_quiet e sim = (refl, refl)

pub begun_alive : (e : Event) (sim : LiveSimView) → IsAliveAs sim (begun (net_in sim) e sim)
begun_alive e sim n =
    (forgotten_noted (system_of sim.cluster sim.files sim.history.now (net_in sim) (waits_for_end e))).nodes n

pub runs_over : (e : Event) (sim : LiveSimView) → refused (net_in sim).clock (net_in sim).last_call e sim ≡ None
    → ends_with (net_in sim) e sim ≡ true → AreHeld sim.cluster sim.files sim.history.now
    → IsOver sim.cluster sim.files (system_with (net_in sim) e sim)
runs_over e sim none quiet is =
    let s : SystemView = begun (net_in sim) e sim in
    let p : IsOver sim.cluster sim.files (acted e sim s) =
    acts_over (net_in sim).clock e sim s (accepted (net_in sim).clock (net_in sim).last_call e sim none) (begun_alive e sim) quiet
    (begun_stands e sim is, begun_quiet e sim) in
    (rested_stands sim.cluster sim.files (acted e sim s) p.0, rested_quiet (acted e sim s) p.1)

-- a step that isn't refused, and comes to an end
pub step_held : (e : Event) (sim : LiveSimView) → refused (net_in sim).clock (net_in sim).last_call e sim ≡ None
    → ends_with (net_in sim) e sim ≡ true → AreHeld sim.cluster sim.files sim.history.now
    → AreHeld sim.cluster sim.files (cells_behind (net_in sim) (node_count sim.cluster) (system_with (net_in sim) e sim))
step_held e sim none quiet is =
    let s : SystemView = system_with (net_in sim) e sim in
    written_held sim.cluster sim.files (waiting_of (net_in sim) s).told s (runs_over e sim none quiet is)
