-- A tick in which the time of one lost application is over is answered alike, refused or not, and both are at rest again.
use Rattle.std.proofs.Common.{◌≡◌, ◌<◌, ◌≤◌, ◌+◌, ◌&&◌, ◌==◌, ℕ, Bool, true, false, not, cond, List, [], ◌∷◌, None, Some, refl, sym, ap, subst, ◌∙◌}
use Rattle.std.proofs.lemmas.Bool.{ltb-false, ne_eqb}
use Rattle.rh_model.specs.ClusterView.{node_count, has_phases}
use Rattle.rh_model.specs.declared.node.App.{App}
use Rattle.rh_model.specs.declared.node.Node.{Node}
use Rattle.rh_rules.specs.declared.event.Event.{Event}
use Rattle.rh_rules.specs.declared.event.Event.TheVariants as event
use Rattle.rh_rules.specs.declared.notice.Notice.{Notice}
use Rattle.rh_rules.specs.declared.notice.Notice.TheVariants as notice
use Rattle.rh_rules.specs.Placing.{is_operational, start_kind}
use Rattle.rh_rules.specs.Refusals.{refused}
use Rattle.rh_calls.specs.declared.call.Call.TheVariants as call
use Rattle.rh_calls.specs.declared.call.Reply.TheVariants as reply
use Rattle.rh_script.specs.Answers.{answer_text, notice_line}
use Rattle.rh_state.specs.declared.status.Kind.TheVariants as kind
use Rattle.rh_state.specs.StateView.{StateView, is_up, mode_of}
use Rattle.rh_trace.proofs.NextMoves.{left_true, up_within}
use Rattle.rh_trail.specs.Lone.{served}
use Rattle.rh_trail.specs.SimView.{SimView, state_of}
use Rattle.rh_otp_model.specs.declared.process.StartType.TheVariants.{Failover, Normal}
use Rattle.rh_otp_sim.specs.declared.calls.LiveReply.TheVariants as live_reply
use Rattle.rh_otp_sim.specs.declared.lines.Line.{Line}
use Rattle.rh_otp_sim.specs.declared.lines.Line.TheVariants as line
use Rattle.rh_otp_sim.specs.declared.stepping.Outcome.TheVariants as live
use Rattle.rh_otp_sim.specs.Calls.{made_by}
use Rattle.rh_otp_sim.specs.Refusing.{refusal_of, phase_in}
use Rattle.rh_otp_sim.specs.Sim.{LiveSimView, net_in}
use Rattle.rh_otp_system.specs.Resting.{forgotten}
use Rattle.rh_otp_system.specs.State.{is_alive_at}
use Rattle.rh_otp_text.specs.Lines.{verdict_words, line_text}
use Rattle.rh_otp_text.specs.Replies.{reply_text}
use Rattle.rh_agreement.specs.Telling.{GoTogether}
use Rattle.rh_agreement.specs.Laws.{IsAnsweredAlike, HasRoom}
use Rattle.rh_agreement.specs.Resting.{AreBothAtRest, AreAlwaysAtRest, held}
use Rattle.rh_agreement.proofs.Always.{GoesOn}
use Rattle.rh_agreement.proofs.Quiet.{in_limit}
use Rattle.rh_agreement.proofs.Refusing.{nodes_events_alike}
use Rattle.rh_agreement.proofs.Stepping.{refused_or_made, unchanged_or_made}
use Rattle.rh_agreement_calls.proofs.CallAlike.{up_is_alive}
use Rattle.rh_agreement_spread.proofs.Alike.{well}
use Rattle.rh_agreement_failovers.specs.Failovers.{CanFailOver, CanFailOverLive, FailoversAreAnsweredAlike, IsAFailover}
use Rattle.rh_agreement_failovers.proofs.Alike.{Passes, alike, rests, says, always_rests}
use Rattle.rh_agreement_failovers.proofs.Placed as placed
use Rattle.rh_agreement_failovers.proofs.Ticked as ticked
use Rattle.rh_agreement_failovers.proofs.Turns.{kind_of}

-- both sides say it in the same words
failover_text : (l : LiveSimView) (n from : Node) (a : App) (b same : Bool) → same ≡ false
    → answer_text l.cluster (reply.Done (notice.Started a n (cond (b && not same) (kind.Failover from) kind.Normal) (Some from) ∷ []))
    ≡ reply_text l (live_reply.Step (live.Done (well (line.Started a n (cond b (Failover from) Normal) ∷ []))))
unfolding answer_text notice_line reply_text verdict_words line_text
failover_text l n from a true same other =
    ap (λ (b : Bool). answer_text l.cluster
    (reply.Done (notice.Started a n (cond (not b) (kind.Failover from) kind.Normal) (Some from) ∷ []))) other
failover_text l n from a false same other = refl

module _ (sim : SimView) (l : LiveSimView) (ms : ℕ) (n from : Node) (a : App) (together : GoTogether sim l) (room : HasRoom sim l)
    (at_rest : AreBothAtRest sim l) (can : CanFailOver ms (state_of sim) n from a) (live_can : CanFailOverLive ms l n from a) where
  abbrev s : StateView
  s = state_of sim

  is_up_there : is_up (mode_of s n) ≡ true
  unfolding is_operational
  is_up_there = left_true _ _ can.can

  within : n.0 < node_count s.cluster
  within = up_within s n at_rest.valid.sound.shaped.modes is_up_there

  alive : is_alive_at (held l) n ≡ true
  unfolding forgotten
  alive = up_is_alive (phase_in l n) (mode_of s n) (together.now.modes n within) is_up_there

  abbrev notes : List Notice
  notes = notice.Started a n (start_kind s a (Some from) n) (Some from) ∷ []

  abbrev lines : List Line
  lines = line.Started a n (kind_of l.cluster a live_can.failover.first.gone) ∷ []

  module _ (fine : refused s (event.Tick ms) ≡ None) (live_fine : refusal_of (net_in l).clock (event.Tick ms) l ≡ None) where
    clock_within : (net_in l).clock + ms ≤ 1000000000000
    clock_within = ltb-false 1000000000000 ((net_in l).clock + ms) (in_limit _ _ _ _ live_fine)

    time_within : s.time + ms ≤ 1000000000000
    time_within = subst (λ (time : ℕ). time + ms ≤ 1000000000000) together.now.clock clock_within

    it_passes : Passes sim l ms notes lines
    unfolding forgotten
    it_passes = record {
      fine = fine;
      live_fine = live_fine;
      then = placed.then s ms n from a at_rest.valid time_within can;
      comes = placed.only_starts s ms n from a at_rest.valid time_within can sim.pick;
      cluster = refl;
      time = refl;
      modes = refl;
      begun = refl;
      last = ticked.last l ms n from a at_rest.reached at_rest.rest alive live_can clock_within together.now.cells;
      runs = ticked.runs l ms n from a at_rest.reached at_rest.rest alive live_can clock_within together.now.cells;
      ends = ticked.ends l ms n from a at_rest.reached at_rest.rest alive live_can clock_within together.now.cells;
      over = ticked.is_over l ms n from a at_rest.reached at_rest.rest alive live_can clock_within together.now.cells;
      clock = ticked.clock_then l ms n from a at_rest.reached at_rest.rest alive live_can clock_within together.now.cells;
      phases = ticked.phases_so l ms n from a at_rest.reached at_rest.rest alive live_can clock_within together.now.cells;
      lives = ticked.lives_so l ms n from a at_rest.reached at_rest.rest alive live_can clock_within together.now.cells;
      happens = ticked.happens l ms n from a at_rest.reached at_rest.rest alive live_can clock_within together.now.cells;
      same_text =
          (λ i. answer_text l.cluster (reply.Done (notice.Started a n (start_kind (record s { cluster = sym together.now.cluster i }) a
          (Some from) n) (Some from) ∷ [])))
          ∙ failover_text l n from a (has_phases l.cluster a) (from.0 == n.0) (ne_eqb from.0 n.0 can.elsewhere)
          ∙ ap (λ (gone : Node). reply_text l (live_reply.Step (live.Done (well (line.Started a n (kind_of l.cluster a gone) ∷ [])))))
          (sym live_can.with_it);
    }

  -- refused or not
  both_alike : IsAnsweredAlike (call.Step (event.Tick ms)) sim l
      × GoTogether (served sim (call.Step (event.Tick ms))).sim (made_by (call.Step (event.Tick ms)) l)
  both_alike =
      refused_or_made sim l (event.Tick ms) refl refl together
      (λ fine live_fine. alike sim l ms notes lines together room (it_passes fine live_fine))

  both_rest : AreBothAtRest (served sim (call.Step (event.Tick ms))).sim (made_by (call.Step (event.Tick ms)) l)
  both_rest =
      unchanged_or_made AreBothAtRest sim l (event.Tick ms) refl refl together at_rest
      (λ fine live_fine. rests sim l ms notes lines together room (it_passes fine live_fine) at_rest)

  told_alone : refused s (event.Tick ms) ≡ None → (served sim (call.Step (event.Tick ms))).reply ≡ reply.Done notes
  told_alone fine =
      says sim l ms notes lines together room (it_passes fine (nodes_events_alike sim l (event.Tick ms) together refl ∙ fine))

  -- and so on
  fail_on : AreAlwaysAtRest sim l → GoesOn (call.Step (event.Tick ms)) sim l
  fail_on rest = record {
    alike = both_alike.0;
    together = both_alike.1;
    rest = unchanged_or_made AreAlwaysAtRest sim l (event.Tick ms) refl refl together rest
        (λ fine live_fine. always_rests sim l ms notes lines together room (it_passes fine live_fine) rest);
  }

pub failovers_alike : FailoversAreAnsweredAlike
failovers_alike sim l ms n from a together room at_rest can live_can = (
  (both_alike sim l ms n from a together room at_rest can live_can).0,
  (both_alike sim l ms n from a together room at_rest can live_can).1,
  both_rest sim l ms n from a together room at_rest can live_can,
  told_alone sim l ms n from a together room at_rest can live_can,
)

-- and so on, whichever event it is
pub fails_on : (e : Event) (sim : SimView) (l : LiveSimView) → GoTogether sim l → HasRoom sim l → AreAlwaysAtRest sim l → IsAFailover e sim l
    → GoesOn (call.Step e) sim l
fails_on (event.Tick ms) sim l together room rest is = fail_on sim l ms is.0 is.1 is.2 together room rest.now is.3 is.4 rest
fails_on e sim l together room rest is = absurd is
