-- Whole cold starts, with premises on the files alone, but for one, that the last boot isn't taken for a step without end: the nodes of a
-- cluster all wait for one another, begin one after the other, and come up with the last one (ours).
use Rattle.std.specs.Prelude.{◌≡◌, ◌≢◌, ◌<◌, ◌+◌, ◌*◌, ◌++◌, List, [], ◌∷◌, All, map, nat_lt, not, true, false}
use Rattle.rh_model.specs.ClusterView.{ClusterView, IsWithin, node_count, sync_wait_of}
use Rattle.rh_model.specs.declared.node.App.{App}
use Rattle.rh_model.specs.declared.node.Node.{Node}
use Rattle.rh_model.specs.declared.settings.SyncWait.TheVariants.{Unset}
use Rattle.rh_rules.specs.Course.{is_local}
use Rattle.rh_rules.specs.declared.event.Event.TheVariants as event
use Rattle.rh_rules.specs.declared.pick.Pick.{Pick}
use Rattle.rh_calls.specs.declared.call.Call.{Call}
use Rattle.rh_calls.specs.declared.call.Call.TheVariants as call
use Rattle.rh_calls.specs.declared.call.Reply.{Reply}
use Rattle.rh_calls.specs.declared.call.Reply.TheVariants as reply
use Rattle.rh_step_laws.specs.Laws.{boots}
use Rattle.rh_start_laws.specs.Starts.{StartsInOrder}
use Rattle.rh_trail.specs.Lone.{opened, replies, sim_after}
use Rattle.rh_trail.specs.SimView.{SimView}
use Rattle.rh_otp_model.specs.declared.wait.OwnFile.{OwnFile}
use Rattle.rh_otp_model.specs.Own.{controls}
use Rattle.rh_otp_net.specs.declared.order.Order.{Order}
use Rattle.rh_otp_sim.specs.Acting.{most_moves}
use Rattle.rh_otp_sim.specs.Calls.{made_by}
use Rattle.rh_otp_sim.specs.Sim.{LiveSimView, net_in}
use Rattle.rh_otp_sim.specs.Sim.{opened as live_opened}
use Rattle.rh_otp_sim.specs.Stepping.{ends_with}
use Rattle.rh_otp_system.specs.State.{SystemView, own_at}
use Rattle.rh_otp_crashes.specs.Crashes.{FailOverLater}
use Rattle.rh_otp_gathers.specs.Gathers.{times, one_if}
use Rattle.rh_otp_colds.specs.Colds.{NameEachOther}
use Rattle.rh_otp_colds.specs.Wholes.{CanStartTogether}
use Rattle.rh_agreement.specs.Telling.{GoTogether}
use Rattle.rh_agreement.specs.Resting.{AreAlwaysAtRest, AreAnsweredAlike, held}
use Rattle.rh_agreement_boots.specs.Waiting.{entry_count}
use Rattle.rh_agreement_colds.specs.Colds.{IsAnsweredInSomeOrder}
use Rattle.rh_agreement_rehearsals.specs.ColdStarts.{AreAgreedOrCold, AreAnsweredUpToOrder}

-- ---- what the files say

-- Nodes start together, by the manual's rules and on live nodes. Each node waits for others: by the cluster, and by its own file. Its
-- lists name each other node, in one of the two alone, and neither itself nor anybody else. On live nodes each has a dist_ac, the
-- distributed applications that they boot stand in one order, and those of them that a node doesn't boot are all left to the same node
-- (`CanStartTogether`). Boot lists are in order, nothing in them needs a distributed application, what isn't distributed is permitted
-- there, and the first group with a node that may start such an application has one alone (`StartsInOrder`). Both sides are told the
-- same: of what a node boots its own `distributed` has exactly what is distributed by the cluster, and by both the same node is the first
-- one that may run it. And the lists are so short that no boot of a node that waits on is taken for a step without end: for each entry of
-- the node's lists three messages, and connections between all that see this node and all that see the named one, come to less than a
-- million moves.
pub record StartTogether (c : ClusterView) (s : SystemView) : Type 0 where
  pub names : NameEachOther s
  pub can : CanStartTogether s
  pub order : StartsInOrder c
  pub waits : (m : Node) → m.0 < node_count c → sync_wait_of c m ≢ Unset
  pub own : (m : Node) (a : App) → m.0 < node_count c → boots c m a ≡ true → controls (own_at s m) a ≡ not (is_local c a)
  pub at : (m : Node) (a : App) → boots c m a ≡ true → is_local c a ≡ false → (order.at a).0 ≡ (can.at a).0
  pub few : (m : Node) → 3 * entry_count c m + entry_count c m * ((entry_count c m + 1) * (node_count c + 1)) < most_moves

-- ---- who begins

-- these nodes begin, one after the other
abbrev pub boots_of : List Node → List Call
boots_of nodes = map (λ (n : Node). call.Step (event.Boot n)) nodes

-- what the calls lead to on live nodes
abbrev pub live_behind : LiveSimView → List Call → LiveSimView
live_behind live [] = live
live_behind live (c ∷ calls) = live_behind (made_by c live) calls

-- Each node of the cluster begins once, and no other; these first, some node at least, and then the last one. A file says the cluster; its
-- nodes start together, and no node's own `distributed` has a timeout of 0. And the last boot isn't taken for a step without end.
pub record IsWholeStart (c : ClusterView) (files : List OwnFile) (order : Order) (first : List Node) (last : Node) : Type 0 where
  pub within : IsWithin c
  pub later : FailOverLater (held (live_opened c files order))
  pub together : StartTogether c (held (live_opened c files order))
  pub some : first ≢ []
  pub once : (m : Node) → times m (first ++ last ∷ []) ≡ one_if (nat_lt m.0 (node_count c))
  pub ends : ends_with (net_in (live_behind (live_opened c files order) (boots_of first))) (event.Boot last)
      (live_behind (live_opened c files order) (boots_of first)) ≡ true

-- ---- what follows

-- Each of the first boots is answered by the same text, by `ok` alone, and the last one by the same lines, in some order. Behind it both go
-- together, and are at rest, now and behind each number of steps.
pub record IsStartedAlike (first : List Node) (last : Node) (sim : SimView) (live : LiveSimView) : Type 0 where
  pub waiting : AreAnsweredAlike (boots_of first) sim live
  pub alone : All (λ (r : Reply). r ≡ reply.Done []) (replies sim (boots_of first))
  pub coming : IsAnsweredInSomeOrder (call.Step (event.Boot last)) (sim_after sim (boots_of first)) (live_behind live (boots_of first))
  pub together : GoTogether (sim_after sim (boots_of (first ++ last ∷ []))) (live_behind live (boots_of (first ++ last ∷ [])))
  pub rest : AreAlwaysAtRest (sim_after sim (boots_of (first ++ last ∷ []))) (live_behind live (boots_of (first ++ last ∷ [])))

-- So it is from where no node has begun, whatever breaks a tie by the manual's rules and in whichever order live nodes take messages
-- (Starting and Stopping Distributed Applications; kernel(6)).
abbrev pub WholeStartsAreAnsweredAlike : Type 0
WholeStartsAreAnsweredAlike = (c : ClusterView) (pick : Pick) (files : List OwnFile) (order : Order) (first : List Node) (last : Node)
    → IsWholeStart c files order first last → IsStartedAlike first last (opened c pick) (live_opened c files order)

-- And each call of a whole rehearsal that begins with that, and goes on with calls each of which meets at its turn what its own law asks,
-- is answered by the same text, or, if it is a boot, by the same lines, in some order.
abbrev pub RehearsalsBehindAColdStart : Type 0
RehearsalsBehindAColdStart = (c : ClusterView) (pick : Pick) (files : List OwnFile) (order : Order) (first : List Node) (last : Node)
    (calls : List Call) → IsWholeStart c files order first last
    → AreAgreedOrCold calls (sim_after (opened c pick) (boots_of (first ++ last ∷ [])))
    (live_behind (live_opened c files order) (boots_of (first ++ last ∷ [])))
    → AreAnsweredUpToOrder (boots_of (first ++ last ∷ []) ++ calls) (opened c pick) (live_opened c files order)
