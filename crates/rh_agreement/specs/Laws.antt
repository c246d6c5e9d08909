-- For which commands `run` and `run --rules otp25` give the same answer (ours).
use Rattle.std.specs.Prelude.{◌≡◌, ◌<◌, ◌+◌, ℕ, List, [], Bool, true, false, Some, None}
use Rattle.rh_model.specs.ClusterView.{ClusterView}
use Rattle.rh_model.specs.declared.node.Node.{Node}
use Rattle.rh_rules.specs.declared.event.Event.{Event}
use Rattle.rh_rules.specs.declared.event.Event.TheVariants as event
use Rattle.rh_rules.specs.declared.pick.Pick.{Pick}
use Rattle.rh_rules.specs.declared.refusal.Refusal.{Refusal}
use Rattle.rh_rules.specs.Refusals.{refused}
use Rattle.rh_rules.specs.Time.{due_by}
use Rattle.rh_calls.specs.declared.call.Call.{Call}
use Rattle.rh_calls.specs.declared.call.Call.TheVariants as call
use Rattle.rh_script.specs.Answers.{answer_text}
use Rattle.rh_state.specs.StateView.{earliest}
use Rattle.rh_trail.specs.Lone.{opened, served, trail_limit}
use Rattle.rh_trail.specs.SimView.{SimView, state_of}
use Rattle.rh_otp_model.specs.declared.wait.OwnFile.{OwnFile}
use Rattle.rh_otp_net.specs.declared.order.Order.{Order}
use Rattle.rh_otp_sim.specs.Calls.{made_by, reply_to}
use Rattle.rh_otp_sim.specs.Refusing.{refusal_of}
use Rattle.rh_otp_sim.specs.Sim.{LiveSimView, net_in}
use Rattle.rh_otp_sim.specs.Sim.{opened as live_opened}
use Rattle.rh_otp_sim.specs.Stepping.{begun}
use Rattle.rh_otp_system.specs.Doing.{next_until}
use Rattle.rh_otp_system.specs.Moves.{IsAmong, can_go_on_at, is_to_end}
use Rattle.rh_otp_system.specs.State.{SystemView}
use Rattle.rh_otp_text.specs.Replies.{reply_text}
use Rattle.rh_agreement.specs.Telling.{GoTogether}

-- both answer the call by the same text
abbrev pub IsAnsweredAlike : Call → SimView → LiveSimView → Type 0
IsAnsweredAlike call sim live = answer_text sim.cluster (served sim call).reply ≡ reply_text (made_by call live) (reply_to call live)

-- one step more can be made, by the manual's rules and on live nodes
pub record HasRoom (sim : SimView) (live : LiveSimView) : Type 0 where
  pub steps : sim.cursor < trail_limit
  pub calls : (net_in live).last_call < 4000000000

-- ---- where a rehearsal begins

-- Two simulations of one cluster in which no node has begun go together, whatever breaks a tie, whatever the nodes' own files say and in
-- whichever order messages are taken.
abbrev pub RehearsalsBeginTogether : Type 0
RehearsalsBeginTogether = (c : ClusterView) (pick : Pick) (files : List OwnFile) (order : Order) → GoTogether (opened c pick) (live_opened c files order)

-- ---- refusals

-- boots, crashes and ticks
abbrev pub is_of_nodes : Event → Bool
is_of_nodes (event.Boot n) = true
is_of_nodes (event.Crash n) = true
is_of_nodes (event.Tick ms) = true
is_of_nodes e = false

-- what is asked at one node
abbrev pub is_at_a_node : Event → Bool
is_at_a_node (event.StartAll a restart) = false
is_at_a_node (event.StopAll a) = false
is_at_a_node e = true

-- What can't be given to a live node at all the manual's rules refuse as well, for the same reason and in the same words, and nothing
-- changes. (`start_all` and `stop_all` aren't part of this law.)
abbrev pub WhatNoNodeTakesIsRefusedByBoth : Type 0
WhatNoNodeTakesIsRefusedByBoth = (sim : SimView) (live : LiveSimView) (e : Event) (why : Refusal) → GoTogether sim live
    → is_at_a_node e ≡ true → refusal_of (net_in live).clock e live ≡ Some why
    → IsAnsweredAlike (call.Step e) sim live × ((served sim (call.Step e)).sim ≡ sim) × (made_by (call.Step e) live ≡ live)

-- And boots, crashes and ticks are refused by neither where they aren't refused by both.
abbrev pub NodesEventsAreRefusedAlike : Type 0
NodesEventsAreRefusedAlike = (sim : SimView) (live : LiveSimView) (e : Event) → GoTogether sim live → is_of_nodes e ≡ true
    → refusal_of (net_in live).clock e live ≡ refused (state_of sim) e

-- ---- undo and redo

abbrev pub is_reversal : Call → Bool
is_reversal call.Undo = true
is_reversal call.Redo = true
is_reversal call.UndoAll = true
is_reversal call.RedoAll = true
is_reversal c = false

-- `undo`, `redo`, `undo_all` and `redo_all` are answered alike, and lead to what is told alike.
abbrev pub ReversalsAreAnsweredAlike : Type 0
ReversalsAreAnsweredAlike = (sim : SimView) (live : LiveSimView) (c : Call) → GoTogether sim live → is_reversal c ≡ true
    → IsAnsweredAlike c sim live × GoTogether (served sim c).sim (made_by c live)

-- ---- time that passes

-- the live nodes, where time begins to pass
abbrev pub ticking : ℕ → LiveSimView → SystemView
ticking ms live = record (begun (net_in live) (event.Tick ms) live) { is_ticking = true }

-- Nothing is to come by itself: by the manual's rules no timer is due by then; on live nodes none either, no call is open, no dist_ac of a
-- node that is alive can go on with a lock, also where it asks once more, and no such node has to end.
pub record IsStill (ms : ℕ) (sim : SimView) (live : LiveSimView) : Type 0 where
  pub timers : due_by ((state_of sim).time + ms) (earliest (state_of sim)) ≡ None
  pub live_timers : next_until ((net_in live).clock + ms) (ticking ms live) ≡ None
  pub calls : (ticking ms live).calls ≡ []
  pub locks : (n : Node) → IsAmong n (ticking ms live).alive → can_go_on_at n (ticking ms live) ≡ false
  pub ends : (n : Node) → IsAmong n (ticking ms live).alive → is_to_end n (ticking ms live) ≡ false

-- Where nothing is to come by itself a tick is answered by both alike, refused or not, and leads to what is told alike.
abbrev pub QuietTicksAreAnsweredAlike : Type 0
QuietTicksAreAnsweredAlike = (sim : SimView) (live : LiveSimView) (ms : ℕ) → GoTogether sim live → HasRoom sim live → IsStill ms sim live
    → IsAnsweredAlike (call.Step (event.Tick ms)) sim live
    × GoTogether (served sim (call.Step (event.Tick ms))).sim (made_by (call.Step (event.Tick ms)) live)
