-- A crash is answered alike.
use Rattle.std.proofs.Common.{◌≡◌, ◌<◌, ◌≤◌, ℕ, Bool, true, false, cond, List, [], ◌∷◌, length, slice_get, slice_index, unwrap_or, Option, None, refl, sym, ap, subst, ◌∙◌, inl, inr}
use Rattle.std.specs.Option.{option_and_then}
use Rattle.std.proofs.lemmas.Bool.{cases_eq, true≢false}
use Rattle.std.proofs.lemmas.List.{length-set}
use Rattle.rh_model.specs.ClusterView.{ClusterView, node_count}
use Rattle.rh_model.specs.declared.node.Node.{Node}
use Rattle.rh_rules.specs.declared.event.Event.{Event}
use Rattle.rh_rules.specs.declared.event.Event.TheVariants as event
use Rattle.rh_rules.specs.declared.notice.Notice.{Notice}
use Rattle.rh_rules.specs.declared.notice.Notice.TheVariants as notice
use Rattle.rh_rules.specs.Refusals.{refused}
use Rattle.rh_rules.specs.Steps.{Outcome, next}
use Rattle.rh_refusals.proofs.Accepted.{CanCrash, accepted_crash}
use Rattle.rh_events.proofs.Fields.{ended_cluster, ended_time, ended_incarnations}
use Rattle.rh_calls.specs.declared.call.Call.TheVariants as call
use Rattle.rh_calls.specs.declared.call.Reply.TheVariants as reply
use Rattle.rh_script.specs.Answers.{answer_text, notice_line}
use Rattle.rh_state.specs.declared.status.Mode.TheVariants as mode
use Rattle.rh_state.specs.Limits.{incarnation_limit}
use Rattle.rh_state.specs.StateView.{StateView, mode_of, incarnation_of}
use Rattle.rh_step.specs.Runs.{step}
use Rattle.rh_trail.specs.Lone.{Served, served}
use Rattle.rh_trail.specs.SimView.{SimView, state_of}
use Rattle.rh_otp_model.specs.declared.output.Event.TheVariants as seen
use Rattle.rh_otp_model.specs.declared.wait.OwnFile.{OwnFile}
use Rattle.rh_otp_node.specs.declared.node.Phase.{Phase}
use Rattle.rh_otp_node.specs.declared.node.Phase.TheVariants as phase
use Rattle.rh_otp_node.specs.Live.{LiveView, never_begun, is_down}
use Rattle.rh_otp_sim.specs.declared.calls.LiveReply.TheVariants as live_reply
use Rattle.rh_otp_sim.specs.declared.lines.Answer.TheVariants.{Told}
use Rattle.rh_otp_sim.specs.declared.lines.Line.TheVariants as line
use Rattle.rh_otp_sim.specs.declared.stepping.Outcome.TheVariants as live
use Rattle.rh_otp_sim.specs.declared.verdict.Verdict.TheVariants as verdict
use Rattle.rh_otp_sim.specs.Acting.{acted, acted_at_once, is_acted, is_quiet_at_once, most_moves}
use Rattle.rh_otp_sim.specs.Calls.{made_by}
use Rattle.rh_otp_sim.specs.Refusing.{refusal_of, phase_in, life_in}
use Rattle.rh_otp_sim.specs.Sim.{LiveSimView, net_in}
use Rattle.rh_otp_sim.specs.Sim.{live_in as live_at_node}
use Rattle.rh_otp_sim.specs.Stepping.{happened, net_behind, cells_behind, system_with, ends_with, outcome_with, with_step, stepped_with}
use Rattle.rh_otp_sim.specs.Telling.{answer_of, lines_of}
use Rattle.rh_otp_sim.specs.Views.{HappenedView}
use Rattle.rh_otp_sim.specs.Waiting.{still_told, events_asked, calls_asked}
use Rattle.rh_otp_system.specs.declared.cell.Cell.{Cell}
use Rattle.rh_otp_system.specs.declared.cell.Cell.TheVariants as cell
use Rattle.rh_otp_system.specs.Moves.{settled, is_settled_by}
use Rattle.rh_otp_system.specs.Resting.{crashed, rested, forgotten}
use Rattle.rh_otp_system.specs.State.{SystemView, live_in, node_at}
use Rattle.rh_otp_system.specs.Views.{NetView}
use Rattle.rh_otp_laws.specs.Acting.{IsReached}
use Rattle.rh_otp_laws.proofs.Nodes.{same_number}
use Rattle.rh_otp_crashes.specs.Crashes.{AreAtRest, FailOverLater}
use Rattle.rh_otp_crashes.proofs.Turning.{own_in}
use Rattle.rh_otp_text.specs.Lines.{verdict_words, line_text}
use Rattle.rh_otp_text.specs.Replies.{reply_text}
use Rattle.rh_agreement.specs.Telling.{TellTheSame, GoTogether, mode_of_phase}
use Rattle.rh_agreement.specs.Laws.{IsAnsweredAlike, HasRoom}
use Rattle.rh_agreement.specs.Resting.{AreBothAtRest, StartsNothingAtOnce, CrashesComeToAnEnd, held}
use Rattle.rh_agreement.proofs.Bounded.{crash_is_over}
use Rattle.rh_agreement.proofs.Crashing.{Ends, crash_ends, settled_ends}
use Rattle.rh_agreement.proofs.Ending.{course, over, down_so, mode_so, only_ends}
use Rattle.rh_agreement.proofs.Refusing.{nodes_events_alike}
use Rattle.rh_agreement.proofs.Stepping.{written, net_so, node_so, manual, made_alike, refused_or_made}

down_is : (p : Phase) → cond (is_down p) false true ≡ false → mode_of_phase p ≡ mode.Down
down_is phase.Down is = refl
down_is phase.Waiting is = absurd (true≢false is)
down_is phase.Up is = absurd (true≢false is)

-- what is told where an observer has seen the end alone, and no call is open
happened_so : (net : NetView) (s : SystemView) (n : Node) → s.events ≡ seen.Ended n ∷ [] → s.calls ≡ []
    → happened net s ≡ record { answer = Told verdict.Done; lines = line.Ended n ∷ [] }
happened_so net s n events calls = λ i. record {
  answer = answer_of net.last_call (calls i);
  lines = (calls_asked s (events i) net.last_call (calls i) (events_asked s (events i) (events i) (record {
    told = still_told (events i) net.told;
    asked = [];
    lines = lines_of (events i) (calls i) net.last_call;
  }))).lines;
}

-- ---- the live nodes behind it

module _ (l : LiveSimView) (n : Node) (over : ends_with (net_in l) (event.Crash n) l ≡ true) where
  abbrev pub behind_it : SystemView
  behind_it = rested (settled most_moves l.order (crashed n (held l)))

  runs : system_with (net_in l) (event.Crash n) l ≡ behind_it
  unfolding acted acted_at_once
  runs = refl

  pub steps_so : stepped_with (net_in l) (event.Crash n) l ≡ with_step (cells_behind (net_in l) (node_count l.cluster) behind_it) l
  steps_so =
      ap (λ (b : Bool). cond b (with_step (cells_behind (net_in l) (node_count l.cluster) (system_with (net_in l) (event.Crash n) l)) l) l) over
      ∙ ap (λ (t : SystemView). with_step (cells_behind (net_in l) (node_count l.cluster) t) l) runs

  comes_to : outcome_with (net_in l) (event.Crash n) l ≡ live.Done (happened (net_in l) behind_it)
  comes_to =
      ap (λ (b : Bool). cond b (live.Done (happened (net_in l) (system_with (net_in l) (event.Crash n) l))) live.Endless) over
      ∙ ap (λ (t : SystemView). live.Done (happened (net_in l) t)) runs

  pub quiet_it : is_settled_by most_moves l.order (crashed n (held l)) ≡ true
  unfolding is_acted is_quiet_at_once
  quiet_it = over

  module _ (reached : IsReached (held l)) (rest : AreAtRest (held l)) (timed : FailOverLater (held l)) where
    pub node_ends : Ends n (held l) behind_it
    unfolding rested
    node_ends =
        let all : Ends n (held l) (settled most_moves l.order (crashed n (held l))) = settled_ends n most_moves l.order (held l) reached rest timed in
        record {
          cluster = all.cluster;
          files = all.files;
          soon = all.soon;
          clock = all.clock;
          events = all.events;
          calls = all.calls;
          count = all.count;
          itself = all.itself;
          others = all.others;
          lives = all.lives;
        }

    pub inside_it : node_count l.cluster < length l.history.now → node_count l.cluster < length behind_it.nodes.cells
    unfolding forgotten
    inside_it within = subst (λ (k : ℕ). node_count l.cluster < k) (sym node_ends.count) within

module _ (sim : SimView) (l : LiveSimView) (n : Node) (together : GoTogether sim l) (room : HasRoom sim l) (at_rest : AreBothAtRest sim l) (peace : StartsNothingAtOnce n sim l)
    (fine : refused (state_of sim) (event.Crash n) ≡ None) (live_fine : refusal_of (net_in l).clock (event.Crash n) l ≡ None) where
  abbrev this : Event
  this = event.Crash n

  abbrev s : StateView
  s = state_of sim

  -- ---- by the manual's rules

  can : CanCrash s n
  can = accepted_crash s n fine

  abbrev behind : StateView
  behind = over s n

  outcome_so : (p : Outcome) → next s this sim.pick ≡ p → (step sim.pick s this ≡ p.state) × ((next s this sim.pick).notices ≡ p.notices)
  unfolding step
  outcome_so p is = (ap (λ (o : Outcome). o.state) is, ap (λ (o : Outcome). o.notices) is)

  comes_so : (step sim.pick s this ≡ behind) × ((next s this sim.pick).notices ≡ notice.Ended n ∷ [])
  comes_so = outcome_so _ (only_ends s n at_rest.valid can.node peace.timeouts sim.pick)

  -- ---- on live nodes

  abbrev last : SystemView
  last = behind_it l n peace.ends

  ends : Ends n (held l) last
  ends = node_ends l n peace.ends at_rest.reached at_rest.rest at_rest.later

  inside : node_count l.cluster < length last.nodes.cells
  inside = inside_it l n peace.ends at_rest.reached at_rest.rest at_rest.later together.now.cells

  abbrev cells : List Cell
  cells = written l last.nodes.cells (net_behind (net_in l) last) inside

  -- ---- both tell the same behind it

  clock_so : (net_in (with_step cells l)).clock ≡ (net_in l).clock
  unfolding forgotten rested
  clock_so = ap (λ (v : NetView). v.clock) (net_so l last.nodes.cells (net_behind (net_in l) last) inside) ∙ ends.clock

  module _ (k : Node) (within : k.0 < node_count s.cluster) where
    node_then : live_at_node (with_step cells l) k ≡ option_and_then live_in (slice_get last.nodes.cells k.0)
    node_then = node_so l last.nodes.cells (net_behind (net_in l) last) inside k (subst (λ (c : ClusterView). k.0 < node_count c) (sym together.now.cluster) within)

    phase_so : phase_in (with_step cells l) k ≡ (node_at last k).phase
    phase_so = ap (λ (o : Option LiveView). (unwrap_or o never_begun).phase) node_then

    life_so : life_in (with_step cells l) k ≡ life_in l k
    unfolding forgotten
    life_so = ap (λ (o : Option LiveView). (unwrap_or o never_begun).life) node_then ∙ ends.lives k

    mode_then : mode_of_phase (phase_in (with_step cells l) k) ≡ mode_of behind k
    unfolding forgotten
    mode_then = ap mode_of_phase phase_so ∙ elim (cases_eq k.0 n.0) [
      | inl here ↦ down_is (node_at last k).phase (ap (λ (v : LiveView). cond (is_down v.phase) false true) (same_number last k n here) ∙ ends.itself)
          ∙ sym (down_so s n at_rest.valid can.node peace.timeouts k here)
      | inr other ↦ ap mode_of_phase (ends.others k other) ∙ together.now.modes k within
          ∙ sym (mode_so s n at_rest.valid can.node peace.timeouts k other)
    ]

  cluster_then : behind.cluster ≡ s.cluster
  cluster_then = ended_cluster (course s) n

  begun_then : (k : Node) → incarnation_of behind k ≡ incarnation_of s k
  begun_then k = ap (λ (counts : List ℕ). slice_index counts k.0) (ended_incarnations (course s) n)

  tells : TellTheSame behind (with_step cells l)
  tells = record {
    cluster = together.now.cluster ∙ sym cluster_then;
    clock = clock_so ∙ together.now.clock ∙ sym (ended_time (course s) n);
    modes = λ k within. mode_then k (subst (λ (c : ClusterView). k.0 < node_count c) cluster_then within);
    begun = λ k within.
        let here : k.0 < node_count s.cluster = subst (λ (c : ClusterView). k.0 < node_count c) cluster_then within in
        life_so k here ∙ together.now.begun k here ∙ sym (begun_then k);
    limited = λ k within.
        subst (λ (count : ℕ). count ≤ incarnation_limit) (sym (begun_then k))
        (together.now.limited k (subst (λ (c : ClusterView). k.0 < node_count c) cluster_then within));
    cells = subst (λ (count : ℕ). node_count l.cluster < count)
        (sym (length-set last.nodes.cells (node_count l.cluster) (cell.Net (net_behind (net_in l) last)))) inside;
  }

  -- ---- and answer it alike

  happens : happened (net_in l) last ≡ record { answer = Told verdict.Done; lines = line.Ended n ∷ [] }
  unfolding forgotten
  happens = happened_so (net_in l) last n ends.events (ends.calls ∙ at_rest.rest.calls)

  same_text : (c : ClusterView) → answer_text c (reply.Done (notice.Ended n ∷ []))
      ≡ reply_text (record (with_step cells l) { cluster = c })
      (live_reply.Step (live.Done (record { answer = Told verdict.Done; lines = line.Ended n ∷ [] })))
  unfolding answer_text notice_line reply_text verdict_words line_text
  same_text c = refl

  text : answer_text sim.cluster (reply.Done (next s this sim.pick).notices)
      ≡ reply_text (with_step cells l) (live_reply.Step (live.Done (happened (net_in l) last)))
  text =
      ap (λ (notices : List Notice). answer_text sim.cluster (reply.Done notices)) comes_so.1
      ∙ ap (λ (c : ClusterView). answer_text c (reply.Done (notice.Ended n ∷ []))) (sym together.cluster)
      ∙ same_text l.cluster
      ∙ ap (λ (h : HappenedView). reply_text (with_step cells l) (live_reply.Step (live.Done h))) (sym happens)

  told : TellTheSame (step sim.pick s this) (with_step cells l)
  told = subst (λ (t : StateView). TellTheSame t (with_step cells l)) (sym comes_so.0) tells

  alike : IsAnsweredAlike (call.Step this) sim l × GoTogether (served sim (call.Step this)).sim (made_by (call.Step this) l)
  alike = made_alike sim l this cells (happened (net_in l) last) together room fine live_fine (steps_so l n peace.ends) (comes_to l n peace.ends) told text

-- refused or not
pub answered_alike : (sim : SimView) (l : LiveSimView) (n : Node) → GoTogether sim l → HasRoom sim l → AreBothAtRest sim l → StartsNothingAtOnce n sim l
    → IsAnsweredAlike (call.Step (event.Crash n)) sim l × GoTogether (served sim (call.Step (event.Crash n))).sim (made_by (call.Step (event.Crash n)) l)
answered_alike sim l n together room at_rest peace =
    refused_or_made sim l (event.Crash n) refl refl together (λ fine live_fine. alike sim l n together room at_rest peace fine live_fine)

pub tells_the_end : (sim : SimView) (l : LiveSimView) (n : Node) → GoTogether sim l → HasRoom sim l → AreBothAtRest sim l → StartsNothingAtOnce n sim l
    → refused (state_of sim) (event.Crash n) ≡ None → (served sim (call.Step (event.Crash n))).reply ≡ reply.Done (notice.Ended n ∷ [])
tells_the_end sim l n together room at_rest peace fine =
    ap (λ (s : Served). s.reply) (manual sim (event.Crash n) fine room.steps)
    ∙ ap reply.Done (comes_so sim l n together room at_rest peace fine (nodes_events_alike sim l (event.Crash n) together refl ∙ fine)).1

-- ---- it comes to an end

pub come_to_an_end : CrashesComeToAnEnd
unfolding is_acted is_quiet_at_once
come_to_an_end live n entries reached rest timed few within =
    crash_is_over n entries most_moves live.order (held live) reached rest timed
    (λ m. subst (λ (files : List OwnFile). length (own_in files m).entries ≤ entries) (sym (crash_ends n (held live)).files) (few m)) within
