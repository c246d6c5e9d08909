-- An event does the same in two simulations, and comes to an end in both or in neither.
use Rattle.std.proofs.Common.{◌≡◌, ◌+◌, ◌-◌, ◌^◌, ◌&&◌, nat_lt, ℕ, Bool, true, false, cond, List, [], ◌∷◌, slice_get, Option, None, unwrap_or, refl, sym, ap, subst, ◌∙◌}
use Rattle.rh_history.specs.Draft.{DraftView}
use Rattle.rh_history.specs.HistoryView.{HistoryView}
use Rattle.rh_model.specs.ClusterView.{node_count}
use Rattle.rh_model.specs.declared.node.App.{App}
use Rattle.rh_model.specs.declared.node.Node.{Node}
use Rattle.rh_rules.specs.declared.event.Event.{Event}
use Rattle.rh_rules.specs.declared.event.Event.TheVariants as event
use Rattle.rh_otp_net.specs.declared.order.Order.{Order}
use Rattle.rh_otp_node.specs.Live.{LiveView, never_begun}
use Rattle.rh_otp_system.specs.declared.calls.Ask.{Ask}
use Rattle.rh_otp_system.specs.declared.calls.Ask.TheVariants as ask
use Rattle.rh_otp_system.specs.declared.cell.Cell.{Cell}
use Rattle.rh_otp_system.specs.Doing.{ticked, is_ticked}
use Rattle.rh_otp_system.specs.State.{SystemView, live_at, node_at}
use Rattle.rh_otp_laws.specs.Acting.{IsThere, IsReached}
use Rattle.rh_otp_orders.proofs.Changing.{live_of}
use Rattle.rh_otp_sim.specs.Acting.{most_moves, booted_if, called_if, called_at, time_passed, is_passed, done_first, acted_at_once, is_quiet_at_once, acted, is_acted}
use Rattle.rh_otp_sim.specs.Refusing.{hosts, refusal_of}
use Rattle.rh_otp_sim.specs.Sim.{LiveSimView}
use Rattle.rh_otp_reached.proofs.Accepted.{boots_down}
use Rattle.rh_otp_reached.proofs.Standing.{Stands}
use Rattle.rh_otp_commands.specs.Commands.{SettlesAlike, TickEndsAlike}
use Rattle.rh_otp_commands.proofs.Settling.{Both}
use Rattle.rh_otp_commands.proofs.Ticking.{both_tick}
use Rattle.rh_otp_rehearsals.specs.Rehearsals.{EventEndsAlike}
use Rattle.rh_otp_rehearsals.proofs.Refusing.{another, SameNodes, same_hosts}
use Rattle.rh_otp_rehearsals.proofs.Resembling.{Resembles, resembles_boots, resembles_crashes, resembles_calls, settle_both, resembles_goes_on}
use Rattle.rh_otp_rehearsals.proofs.Twins.{Between, between_of, twin_between, twin_live}

-- ---- what is read

pub read_live : (s t : SystemView) (n : Node) → Resembles s t → live_at s n ≡ live_at t n
read_live s t n g = ap (λ (nodes : DraftView Cell). live_of (slice_get nodes.cells n.0)) g.1.nodes ∙ twin_live g.0 t n g.2

read_node : (s t : SystemView) (n : Node) → Resembles s t → node_at s n ≡ node_at t n
read_node s t n g = ap (λ (o : Option LiveView). unwrap_or o never_begun) (read_live s t n g)

pub read_cluster : (s t : SystemView) → Resembles s t → s.cluster ≡ t.cluster
read_cluster s t g = g.1.cluster ∙ sym (ap (λ (u : SystemView). u.cluster) g.2.is)

pub read_between : {A : Type 0} (f : Between → A) (s t : SystemView) (g : Resembles s t) → (a : A) → a ≡ f (between_of g.0)
    → a ≡ f (between_of t)
read_between f s t g a same = same ∙ ap f (twin_between g.0 t g.2)

read_last : (s t : SystemView) → Resembles s t → s.last_call ≡ t.last_call
read_last s t g = read_between (λ (x : Between). x.last_call) s t g s.last_call g.1.last_call

read_clock : (s t : SystemView) → Resembles s t → s.clock ≡ t.clock
read_clock s t g = read_between (λ (x : Between). x.clock) s t g s.clock g.1.clock

-- ---- what it does at first

resembles_if : (p q : Bool) (s t u v : SystemView) → p ≡ q → Resembles s t → Resembles u v → Resembles (cond p s u) (cond q t v)
resembles_if p q s t u v same g h = subst (λ (r : Bool). Resembles (cond p s u) (cond r t v)) same (by p)
  where
    by : (r : Bool) → Resembles (cond r s u) (cond r t v)
    by true = g
    by false = h

boots_if : (n : Node) (s t : SystemView) → IsThere n s → Resembles s t → Resembles (booted_if n s) (booted_if n t)
boots_if n s t there g =
    resembles_if _ _ _ _ _ _
    (λ i. nat_lt n.0 (node_count (read_cluster s t g i)) && nat_lt (read_node s t n g i).life (2 ^ 32 - 1))
    (resembles_boots n s t there g) g

calls_if : (asked : Ask) (n : Node) (a : App) (s t : SystemView) → Resembles s t → Resembles (called_if asked n a s) (called_if asked n a t)
calls_if asked n a s t g =
    resembles_if _ _ _ _ _ _ (ap (λ (k : ℕ). nat_lt k (2 ^ 32 - 1)) (read_last s t g)) (resembles_calls asked n a s t g) g

calls_at : (asked : Ask) (nodes : List Node) (a : App) (s t : SystemView) → Resembles s t
    → Resembles (called_at asked nodes a s) (called_at asked nodes a t)
calls_at asked [] a s t g = g
calls_at asked (n ∷ nodes) a s t g = calls_at asked nodes a _ _ (calls_if asked n a s t g)

all_calls : (asked : Ask) (a : App) (sim : LiveSimView) (order : Order) (history : HistoryView Cell) (s t : SystemView)
    → SameNodes sim (another sim order history) → Resembles s t
    → Resembles (called_at asked (hosts sim a) a s) (called_at asked (hosts (another sim order history) a) a t)
all_calls asked a sim order history s t same g =
    subst (λ (nodes : List Node). Resembles (called_at asked (hosts sim a) a s) (called_at asked nodes a t))
    (same_hosts sim order history a same)
    (calls_at asked (hosts sim a) a s t g)

pub first_both : (clock : ℕ) (e : Event) (sim : LiveSimView) (order : Order) (history : HistoryView Cell) (s t : SystemView)
    → refusal_of clock e sim ≡ None → Stands sim.cluster sim.files s → SameNodes sim (another sim order history) → Resembles s t
    → Resembles (done_first e sim s) (done_first e (another sim order history) t)
first_both clock (event.Boot n) sim order history s t none p same g =
    boots_if n s t (p.whole.2.nodes n (boots_down clock n sim none).0) g
first_both clock (event.Crash n) sim order history s t none p same g = resembles_crashes n s t g
first_both clock (event.Tick ms) sim order history s t none p same g = g
first_both clock (event.Start n a restart) sim order history s t none p same g = calls_if (ask.Start restart) n a s t g
first_both clock (event.Stop n a) sim order history s t none p same g = calls_if ask.Stop n a s t g
first_both clock (event.Permit n a allow) sim order history s t none p same g = calls_if (ask.Permit allow) n a s t g
first_both clock (event.Takeover n a restart) sim order history s t none p same g = calls_if (ask.Takeover restart) n a s t g
first_both clock (event.Exit n a normal) sim order history s t none p same g = calls_if (ask.Exit normal) n a s t g
first_both clock (event.StartAll a restart) sim order history s t none p same g =
    all_calls (ask.Start restart) a sim order history s t same g
first_both clock (event.StopAll a) sim order history s t none p same g = all_calls ask.Stop a sim order history s t same g

-- ---- until nothing moves

at_once : (e : Event) (one other : LiveSimView) (s t : SystemView) → IsReached (done_first e one s)
    → Resembles (done_first e one s) (done_first e other t) → SettlesAlike (done_first e one s)
    → Both Resembles (is_quiet_at_once most_moves e one s) (is_quiet_at_once most_moves e other t) (acted_at_once most_moves e one s)
    (acted_at_once most_moves e other t)
unfolding acted_at_once is_quiet_at_once
at_once e one other s t reached g every =
    settle_both (done_first e one s) (done_first e other t) most_moves one.order other.order reached g every

passes_if : (b : Bool) (end most : ℕ) (one other : Order) (s t : SystemView) → IsReached s → Resembles s t → TickEndsAlike end most one s
    → Both Resembles (cond b (is_ticked end most one s) true) (cond b (is_ticked end most other t) true) (cond b (ticked end most one s) s)
    (cond b (ticked end most other t) t)
passes_if true end most one other s t reached g every = both_tick Resembles resembles_goes_on s t end most one other reached g every
passes_if false end most one other s t reached g every = (refl, λ ends. g)

passes : (ms : ℕ) (one other : Order) (s t : SystemView) → IsReached s → Resembles s t → TickEndsAlike (s.clock + ms) most_moves one s
    → Both Resembles (is_passed ms one s) (is_passed ms other t) (time_passed ms one s) (time_passed ms other t)
passes ms one other s t reached g every =
    subst (λ (clock : ℕ). Both Resembles (is_passed ms one s)
    (cond (nat_lt (clock + ms) (2 ^ 64)) (is_ticked (clock + ms) most_moves other t) true) (time_passed ms one s)
    (cond (nat_lt (clock + ms) (2 ^ 64)) (ticked (clock + ms) most_moves other t) t)) (read_clock s t g)
    (passes_if (nat_lt (s.clock + ms) (2 ^ 64)) (s.clock + ms) most_moves one other s t reached g every)

pub acts_both : (e : Event) (one other : LiveSimView) (s t : SystemView) → IsReached (done_first e one s)
    → Resembles (done_first e one s) (done_first e other t) → EventEndsAlike e one s
    → Both Resembles (is_acted e one s) (is_acted e other t) (acted e one s) (acted e other t)
unfolding acted is_acted
acts_both (event.Tick ms) one other s t reached g every = passes ms one.order other.order s t reached g every
acts_both (event.Boot n) one other s t reached g every = at_once (event.Boot n) one other s t reached g every
acts_both (event.Crash n) one other s t reached g every = at_once (event.Crash n) one other s t reached g every
acts_both (event.Start n a restart) one other s t reached g every = at_once (event.Start n a restart) one other s t reached g every
acts_both (event.Stop n a) one other s t reached g every = at_once (event.Stop n a) one other s t reached g every
acts_both (event.Permit n a allow) one other s t reached g every = at_once (event.Permit n a allow) one other s t reached g every
acts_both (event.Takeover n a restart) one other s t reached g every = at_once (event.Takeover n a restart) one other s t reached g every
acts_both (event.Exit n a normal) one other s t reached g every = at_once (event.Exit n a normal) one other s t reached g every
acts_both (event.StartAll a restart) one other s t reached g every = at_once (event.StartAll a restart) one other s t reached g every
acts_both (event.StopAll a) one other s t reached g every = at_once (event.StopAll a) one other s t reached g every
