-- A tick that is over on live nodes is answered alike, where the manual's rules tell the same of it, and nodes are as far on both sides;
-- and both are at rest again. (As `Alike` of rh_agreement_failovers, but that nodes may have ended.)
use Rattle.std.proofs.Common.{◌≡◌, ◌<◌, ◌≤◌, ◌+◌, ℕ, Bool, true, cond, List, slice_get, slice_index, unwrap_or, Option, None, sym, ap, subst, ◌∙◌}
use Rattle.std.specs.Option.{option_and_then}
use Rattle.std.proofs.lemmas.List.{length-set}
use Rattle.rh_model.specs.ClusterView.{ClusterView, node_count}
use Rattle.rh_model.specs.declared.node.Node.{Node}
use Rattle.rh_rules.specs.declared.event.Event.{Event}
use Rattle.rh_rules.specs.declared.event.Event.TheVariants as event
use Rattle.rh_rules.specs.declared.notice.Notice.{Notice}
use Rattle.rh_rules.specs.Refusals.{refused}
use Rattle.rh_rules.specs.Steps.{Outcome, outcome, next}
use Rattle.rh_calls.specs.declared.call.Call.TheVariants as call
use Rattle.rh_calls.specs.declared.call.Reply.TheVariants as reply
use Rattle.rh_script.specs.Answers.{answer_text}
use Rattle.rh_state.specs.Limits.{incarnation_limit}
use Rattle.rh_state.specs.StateView.{StateView, mode_of, incarnation_of}
use Rattle.rh_step.specs.Runs.{step}
use Rattle.rh_trail.specs.Lone.{Served, served}
use Rattle.rh_trail.specs.SimView.{SimView, state_of}
use Rattle.rh_otp_node.specs.Live.{LiveView, never_begun}
use Rattle.rh_otp_sim.specs.declared.calls.LiveReply.TheVariants as live_reply
use Rattle.rh_otp_sim.specs.declared.lines.Line.{Line}
use Rattle.rh_otp_sim.specs.declared.stepping.Outcome.TheVariants as live
use Rattle.rh_otp_sim.specs.Calls.{made_by}
use Rattle.rh_otp_sim.specs.Refusing.{refusal_of, phase_in, life_in}
use Rattle.rh_otp_sim.specs.Sim.{LiveSimView, net_in}
use Rattle.rh_otp_sim.specs.Sim.{live_in as live_at_node}
use Rattle.rh_otp_sim.specs.Stepping.{happened, net_behind, cells_behind, system_with, ends_with, outcome_with, with_step, stepped_with}
use Rattle.rh_otp_sim.specs.Views.{HappenedView}
use Rattle.rh_otp_system.specs.declared.cell.Cell.{Cell}
use Rattle.rh_otp_system.specs.declared.cell.Cell.TheVariants as cell
use Rattle.rh_otp_system.specs.State.{SystemView, live_in, node_at}
use Rattle.rh_otp_system.specs.Views.{NetView}
use Rattle.rh_otp_text.specs.Replies.{reply_text}
use Rattle.rh_agreement.specs.Telling.{TellTheSame, GoTogether, mode_of_phase}
use Rattle.rh_agreement.specs.Laws.{IsAnsweredAlike, HasRoom}
use Rattle.rh_agreement.specs.Resting.{AreBothAtRest, AreAlwaysAtRest}
use Rattle.rh_agreement.proofs.Always.{accepted_rest}
use Rattle.rh_agreement.proofs.Peace.{both_rest}
use Rattle.rh_agreement.proofs.Rest.{IsOver}
use Rattle.rh_agreement.proofs.Stepping.{written, net_so, node_so, manual, live_made, made_alike}
use Rattle.rh_agreement_spread.proofs.Alike.{well}

-- Neither refuses the tick. By the manual's rules this is told of it and no more; on live nodes it is over, and what is told of it has the
-- same text. On both sides nodes are as far, and in the life in which they were, the cluster is the same, and so much time has passed.
pub record Passes (sim : SimView) (l : LiveSimView) (ms : ℕ) (notes : List Notice) (lines : List Line) : Type 0 where
  pub fine : refused (state_of sim) (event.Tick ms) ≡ None
  pub live_fine : refusal_of (net_in l).clock (event.Tick ms) l ≡ None
  pub then : StateView
  pub comes : next (state_of sim) (event.Tick ms) sim.pick ≡ outcome then notes
  pub cluster : then.cluster ≡ (state_of sim).cluster
  pub time : then.time ≡ (state_of sim).time + ms
  pub begun : then.incarnations ≡ (state_of sim).incarnations
  pub last : SystemView
  pub runs : system_with (net_in l) (event.Tick ms) l ≡ last
  pub ends : ends_with (net_in l) (event.Tick ms) l ≡ true
  pub over : IsOver l last
  pub clock : last.clock ≡ (net_in l).clock + ms
  pub far : (k : Node) → k.0 < node_count (state_of sim).cluster → mode_of_phase (node_at last k).phase ≡ mode_of then k
  pub lives : (k : Node) → (node_at last k).life ≡ life_in l k
  pub happens : happened (net_in l) last ≡ well lines
  pub same_text : answer_text l.cluster (reply.Done notes) ≡ reply_text l (live_reply.Step (live.Done (well lines)))

module _ (sim : SimView) (l : LiveSimView) (ms : ℕ) (notes : List Notice) (lines : List Line) (together : GoTogether sim l)
    (room : HasRoom sim l) (how : Passes sim l ms notes lines) where
  abbrev tick : Event
  tick = event.Tick ms

  abbrev last : SystemView
  last = how.last

  steps_so : stepped_with (net_in l) tick l ≡ with_step (cells_behind (net_in l) (node_count l.cluster) last) l
  steps_so =
      ap (λ (b : Bool). cond b (with_step (cells_behind (net_in l) (node_count l.cluster) (system_with (net_in l) tick l)) l) l) how.ends
      ∙ ap (λ (t : SystemView). with_step (cells_behind (net_in l) (node_count l.cluster) t) l) how.runs

  comes_to : outcome_with (net_in l) tick l ≡ live.Done (happened (net_in l) last)
  comes_to =
      ap (λ (b : Bool). cond b (live.Done (happened (net_in l) (system_with (net_in l) tick l))) live.Endless) how.ends
      ∙ ap (λ (t : SystemView). live.Done (happened (net_in l) t)) how.runs

  -- ---- both tell the same behind it

  abbrev cells : List Cell
  cells = written l last.nodes.cells (net_behind (net_in l) last) how.over.inside

  clock_so : (net_in (with_step cells l)).clock ≡ (net_in l).clock + ms
  clock_so = ap (λ (v : NetView). v.clock) (net_so l last.nodes.cells (net_behind (net_in l) last) how.over.inside) ∙ how.clock

  module _ (k : Node) (known : k.0 < node_count (state_of sim).cluster) where
    node_then : live_at_node (with_step cells l) k ≡ option_and_then live_in (slice_get last.nodes.cells k.0)
    node_then =
        node_so l last.nodes.cells (net_behind (net_in l) last) how.over.inside k
        (subst (λ (d : ClusterView). k.0 < node_count d) (sym together.now.cluster) known)

    mode_then : mode_of_phase (phase_in (with_step cells l) k) ≡ mode_of how.then k
    mode_then =
        ap (λ (o : Option LiveView). mode_of_phase (unwrap_or o never_begun).phase) node_then ∙ how.far k known

    begun_then : life_in (with_step cells l) k ≡ incarnation_of how.then k
    begun_then =
        ap (λ (o : Option LiveView). (unwrap_or o never_begun).life) node_then
        ∙ how.lives k
        ∙ together.now.begun k known
        ∙ sym (ap (λ (counts : List ℕ). slice_index counts k.0) how.begun)

  known_then : (k : Node) → k.0 < node_count how.then.cluster → k.0 < node_count (state_of sim).cluster
  known_then k known = subst (λ (d : ClusterView). k.0 < node_count d) how.cluster known

  tells : TellTheSame how.then (with_step cells l)
  tells = record {
    cluster = together.now.cluster ∙ sym how.cluster;
    clock = clock_so ∙ ap (λ (time : ℕ). time + ms) together.now.clock ∙ sym how.time;
    modes = λ k known. mode_then k (known_then k known);
    begun = λ k known. begun_then k (known_then k known);
    limited = λ k known.
        subst (λ (count : ℕ). count ≤ incarnation_limit) (sym (ap (λ (counts : List ℕ). slice_index counts k.0) how.begun))
        (together.now.limited k (known_then k known));
    cells = subst (λ (count : ℕ). node_count l.cluster < count)
        (sym (length-set last.nodes.cells (node_count l.cluster) (cell.Net (net_behind (net_in l) last)))) how.over.inside;
  }

  -- ---- and answer it alike

  outcome_so : (p : Outcome) → next (state_of sim) tick sim.pick ≡ p
      → (step sim.pick (state_of sim) tick ≡ p.state) × ((next (state_of sim) tick sim.pick).notices ≡ p.notices)
  unfolding step
  outcome_so p is = (ap (λ (o : Outcome). o.state) is, ap (λ (o : Outcome). o.notices) is)

  comes_so : (step sim.pick (state_of sim) tick ≡ how.then) × ((next (state_of sim) tick sim.pick).notices ≡ notes)
  comes_so = outcome_so _ how.comes

  text : answer_text sim.cluster (reply.Done (next (state_of sim) tick sim.pick).notices)
      ≡ reply_text (with_step cells l) (live_reply.Step (live.Done (happened (net_in l) last)))
  unfolding reply_text
  text =
      ap (λ (told : List Notice). answer_text sim.cluster (reply.Done told)) comes_so.1
      ∙ ap (λ (d : ClusterView). answer_text d (reply.Done notes)) (sym together.cluster)
      ∙ how.same_text
      ∙ ap (λ (h : HappenedView). reply_text (with_step cells l) (live_reply.Step (live.Done h))) (sym how.happens)

  told : TellTheSame (step sim.pick (state_of sim) tick) (with_step cells l)
  told = subst (λ (t : StateView). TellTheSame t (with_step cells l)) (sym comes_so.0) tells

  pub alike : IsAnsweredAlike (call.Step tick) sim l × GoTogether (served sim (call.Step tick)).sim (made_by (call.Step tick) l)
  alike = made_alike sim l tick cells (happened (net_in l) last) together room how.fine how.live_fine steps_so comes_to told text

  pub rests : AreBothAtRest sim l → AreBothAtRest (served sim (call.Step tick)).sim (made_by (call.Step tick) l)
  rests at_rest = both_rest sim l tick last together room at_rest how.fine how.live_fine steps_so how.over

  pub says : (served sim (call.Step tick)).reply ≡ reply.Done notes
  says = ap (λ (v : Served). v.reply) (manual sim tick how.fine room.steps) ∙ ap reply.Done comes_so.1

  -- and so on
  pub always_rests : AreAlwaysAtRest sim l → AreAlwaysAtRest (served sim (call.Step tick)).sim (made_by (call.Step tick) l)
  always_rests rest =
      accepted_rest sim l tick cells together room rest how.fine (live_made sim l tick together room how.live_fine ∙ steps_so)
      (rests rest.now)
