-- Both tell the same of nodes behind the last boot of a cold start, and are at rest again.
use Rattle.std.proofs.Common.{◌≡◌, ◌<◌, ◌≤◌, ◌+◌, ℕ, List, Option, None, slice_get, unwrap_or, refl, sym, ap, subst, ◌∙◌, inl, inr, arith}
use Rattle.std.specs.Option.{option_and_then}
use Rattle.std.proofs.lemmas.Bool.{cases_eq}
use Rattle.std.proofs.lemmas.List.{length-set}
use Rattle.rh_model.specs.ClusterView.{ClusterView, node_count}
use Rattle.rh_model.specs.declared.node.Node.{Node}
use Rattle.rh_rules.specs.declared.event.Event.{Event}
use Rattle.rh_rules.specs.declared.event.Event.TheVariants as event
use Rattle.rh_rules.specs.Refusals.{refused}
use Rattle.rh_rules.specs.Steps.{next}
use Rattle.rh_calls.specs.declared.call.Call.TheVariants as call
use Rattle.rh_calls.specs.declared.call.Reply.TheVariants as reply
use Rattle.rh_start_laws.specs.Starts.{LastBootsStartAll, HasStarted, start_told}
use Rattle.rh_state.specs.Limits.{incarnation_limit}
use Rattle.rh_state.specs.StateView.{StateView, mode_of, incarnation_of}
use Rattle.rh_step.specs.Runs.{step}
use Rattle.rh_trail.specs.Lone.{Served, served}
use Rattle.rh_trail.specs.SimView.{SimView, state_of}
use Rattle.rh_otp_node.specs.Live.{LiveView, never_begun}
use Rattle.rh_otp_sim.specs.declared.calls.LiveReply.TheVariants as live_reply
use Rattle.rh_otp_sim.specs.declared.stepping.Outcome.TheVariants as outcome
use Rattle.rh_otp_sim.specs.Calls.{made_by, reply_to}
use Rattle.rh_otp_sim.specs.Refusing.{refusal_of, phase_in, life_in}
use Rattle.rh_otp_sim.specs.Sim.{LiveSimView, net_in}
use Rattle.rh_otp_sim.specs.Sim.{live_in as live_at_node}
use Rattle.rh_otp_sim.specs.Stepping.{happened, net_behind, with_step}
use Rattle.rh_otp_system.specs.declared.cell.Cell.{Cell}
use Rattle.rh_otp_system.specs.declared.cell.Cell.TheVariants as cell
use Rattle.rh_otp_system.specs.State.{SystemView, live_in, node_at}
use Rattle.rh_otp_system.specs.Views.{NetView}
use Rattle.rh_otp_colds.specs.Starts.{LastBootsComeUp}
use Rattle.rh_agreement.specs.Telling.{TellTheSame, GoTogether, mode_of_phase}
use Rattle.rh_agreement.specs.Laws.{HasRoom}
use Rattle.rh_agreement.specs.Resting.{AreBothAtRest}
use Rattle.rh_agreement.proofs.Peace.{both_rest}
use Rattle.rh_agreement.proofs.Refusing.{nodes_events_alike}
use Rattle.rh_agreement.proofs.Rest.{IsOver}
use Rattle.rh_agreement.proofs.Stepping.{written, net_so, node_so, manual, live_made, live_told, one_more}
use Rattle.rh_agreement_colds.specs.Colds.{StartsCold}
use Rattle.rh_agreement_colds.proofs.Live as lives
use Rattle.rh_agreement_colds.proofs.Manual as rules

module _ (by_rules : LastBootsStartAll) (by_nodes : LastBootsComeUp) (sim : SimView) (l : LiveSimView) (n : Node)
    (together : GoTogether sim l) (room : HasRoom sim l) (at_rest : AreBothAtRest sim l) (starts : StartsCold n sim l) where
  abbrev this : Event
  this = event.Boot n

  abbrev s : StateView
  s = state_of sim

  pub fine : refused s this ≡ None
  fine = rules.fine sim l n together at_rest starts

  live_fine : refusal_of (net_in l).clock this l ≡ None
  live_fine = nodes_events_alike sim l this together refl ∙ fine

  -- ---- by the manual's rules

  abbrev then : StateView
  then = (next s this sim.pick).state

  started : HasStarted s n starts.order.at then
  started = (rules.started sim l n together at_rest starts by_rules).0

  within : n.0 < node_count s.cluster
  within = rules.within sim l n together at_rest starts

  new_so : incarnation_of s n ≡ 0
  new_so = rules.new_so sim l n together at_rest starts

  -- ---- on live nodes

  -- the system behind it
  abbrev pub last : SystemView
  last = lives.behind by_nodes sim l n together at_rest starts

  pub over : IsOver l last
  over = lives.is_over by_nodes sim l n together at_rest starts

  abbrev pub cells : List Cell
  cells = written l last.nodes.cells (net_behind (net_in l) last) over.inside

  -- ---- both tell the same behind it

  clock_so : (net_in (with_step cells l)).clock ≡ (net_in l).clock
  clock_so =
      ap (λ (v : NetView). v.clock) (net_so l last.nodes.cells (net_behind (net_in l) last) over.inside)
      ∙ lives.same_clock by_nodes sim l n together at_rest starts

  module _ (k : Node) (known : k.0 < node_count s.cluster) where
    live_known : k.0 < node_count l.cluster
    live_known = subst (λ (c : ClusterView). k.0 < node_count c) (sym together.now.cluster) known

    node_then : live_at_node (with_step cells l) k ≡ option_and_then live_in (slice_get last.nodes.cells k.0)
    node_then = node_so l last.nodes.cells (net_behind (net_in l) last) over.inside k live_known

    mode_then : mode_of_phase (phase_in (with_step cells l) k) ≡ mode_of then k
    mode_then =
        ap (λ (o : Option LiveView). mode_of_phase (unwrap_or o never_begun).phase) node_then
        ∙ ap mode_of_phase (lives.is_up by_nodes sim l n together at_rest starts k live_known)
        ∙ sym (started.up k known)

    life_then : life_in (with_step cells l) k ≡ (node_at last k).life
    life_then = ap (λ (o : Option LiveView). (unwrap_or o never_begun).life) node_then

    begun_then : life_in (with_step cells l) k ≡ incarnation_of then k
    begun_then = life_then ∙ elim (cases_eq k.0 n.0) [
      | inl here ↦ lives.one_life_more by_nodes sim l n together at_rest starts k live_known here
          ∙ ap (λ (count : ℕ). count + 1) (together.now.begun n within)
          ∙ sym (ap (λ (j : ℕ). incarnation_of then (record { 0 = j })) here ∙ started.begun)
      | inr other ↦ lives.same_life by_nodes sim l n together at_rest starts k live_known other
          ∙ together.now.begun k known
          ∙ sym (started.others k other)
    ]

    limited_then : incarnation_of then k ≤ incarnation_limit
    limited_then = elim (cases_eq k.0 n.0) [
      | inl here ↦ subst (λ (count : ℕ). count ≤ incarnation_limit)
          (sym (ap (λ (j : ℕ). incarnation_of then (record { 0 = j })) here ∙ started.begun ∙ ap (λ (count : ℕ). count + 1) new_so))
          (omega arith)
      | inr other ↦ subst (λ (count : ℕ). count ≤ incarnation_limit) (sym (started.others k other)) (together.now.limited k known)
    ]

  known_then : (k : Node) → k.0 < node_count then.cluster → k.0 < node_count s.cluster
  known_then k known = subst (λ (c : ClusterView). k.0 < node_count c) started.cluster known

  tells : TellTheSame then (with_step cells l)
  tells = record {
    cluster = together.now.cluster ∙ sym started.cluster;
    clock = clock_so ∙ together.now.clock ∙ sym started.time;
    modes = λ k known. mode_then k (known_then k known);
    begun = λ k known. begun_then k (known_then k known);
    limited = λ k known. limited_then k (known_then k known);
    cells = subst (λ (count : ℕ). node_count l.cluster < count)
        (sym (length-set last.nodes.cells (node_count l.cluster) (cell.Net (net_behind (net_in l) last)))) over.inside;
  }

  told : TellTheSame (step sim.pick s this) (with_step cells l)
  unfolding step
  told = tells

  pub made : made_by (call.Step this) l ≡ with_step cells l
  made = live_made sim l this together room live_fine ∙ lives.steps_so by_nodes sim l n together at_rest starts

  pub go_together : GoTogether (served sim (call.Step this)).sim (made_by (call.Step this) l)
  go_together = rw (manual sim this fine room.steps, made) (one_more sim l this cells together told)

  pub rest_again : AreBothAtRest (served sim (call.Step this)).sim (made_by (call.Step this) l)
  rest_again =
      both_rest sim l this last together room at_rest fine live_fine (lives.steps_so by_nodes sim l n together at_rest starts) over

  -- ---- what both answer

  pub manual_told : (served sim (call.Step this)).reply ≡ reply.Done (start_told sim.cluster starts.order.at)
  manual_told =
      ap (λ (v : Served). v.reply) (manual sim this fine room.steps)
      ∙ ap reply.Done (rules.started sim l n together at_rest starts by_rules).1

  pub live_told_so : reply_to (call.Step this) l ≡ live_reply.Step (outcome.Done (happened (net_in l) last))
  live_told_so =
      live_told sim l this together room live_fine ∙ ap live_reply.Step (lives.comes_to by_nodes sim l n together at_rest starts)
