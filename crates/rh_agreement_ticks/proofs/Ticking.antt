-- A tick through several moments is answered alike, refused or not, and both are at rest again.
use Rattle.std.proofs.Common.{◌≡◌, ◌<◌, ◌≤◌, ◌+◌, ◌^◌, ◌++◌, ℕ, Bool, true, false, cond, nat_lt, List, [], None, refl, sym, ap, subst, ◌∙◌, arith}
use Rattle.std.proofs.lemmas.Bool.{lt-ltb, ltb-false}
use Rattle.rh_model.specs.ClusterView.{ClusterView, node_count}
use Rattle.rh_model.specs.declared.node.Node.{Node}
use Rattle.rh_rules.specs.declared.event.Event.{Event}
use Rattle.rh_rules.specs.declared.event.Event.TheVariants as event
use Rattle.rh_rules.specs.declared.notice.Notice.{Notice}
use Rattle.rh_rules.specs.Refusals.{refused}
use Rattle.rh_calls.specs.declared.call.Call.TheVariants as call
use Rattle.rh_calls.specs.declared.call.Reply.TheVariants as reply
use Rattle.rh_state.specs.declared.status.Mode.{Mode}
use Rattle.rh_state.specs.StateView.{StateView, mode_of}
use Rattle.rh_trace.proofs.NextMoves.{up_within}
use Rattle.rh_trail.specs.Lone.{served}
use Rattle.rh_trail.specs.SimView.{SimView, state_of}
use Rattle.rh_otp_model.specs.declared.output.Event.{Event as Seen}
use Rattle.rh_otp_net.specs.declared.order.Order.{Order}
use Rattle.rh_otp_sim.specs.Acting.{acted, is_acted, most_moves}
use Rattle.rh_otp_sim.specs.Calls.{made_by}
use Rattle.rh_otp_sim.specs.Refusing.{refusal_of, phase_in}
use Rattle.rh_otp_sim.specs.Sim.{LiveSimView, net_in}
use Rattle.rh_otp_sim.specs.Stepping.{begun, ends_with}
use Rattle.rh_otp_system.specs.Doing.{passed, is_past, ticking as began_ticking, ticked_behind, ticked, is_ticked}
use Rattle.rh_otp_system.specs.Moves.{next_move, settled, is_settled_by}
use Rattle.rh_otp_system.specs.Resting.{rested, forgotten}
use Rattle.rh_otp_system.specs.State.{SystemView}
use Rattle.rh_otp_crashes.proofs.Deeds.{AreLater}
use Rattle.rh_otp_crashes.proofs.Turning.{own_in}
use Rattle.rh_agreement.specs.Telling.{GoTogether}
use Rattle.rh_agreement.specs.Laws.{IsAnsweredAlike, HasRoom, ticking}
use Rattle.rh_agreement.specs.Resting.{AreBothAtRest, AreAlwaysAtRest}
use Rattle.rh_agreement.proofs.Always.{GoesOn}
use Rattle.rh_agreement.proofs.Quiet.{in_limit}
use Rattle.rh_agreement.proofs.Refusing.{nodes_events_alike}
use Rattle.rh_agreement.proofs.Resting.{moved_not, quiet_so}
use Rattle.rh_agreement.proofs.Stepping.{refused_or_made, unchanged_or_made}
use Rattle.rh_agreement_calls.proofs.CallAlike.{up_is_alive}
use Rattle.rh_agreement_ticks.specs.Passing.{PassAlike, PassesAlike, TicksThroughMomentsAreAnsweredAlike, IsATickThroughMoments}
use Rattle.rh_agreement_ticks.proofs.Answered.{Passes, alike, rests, says, always_rests}
use Rattle.rh_agreement_ticks.proofs.ByRules.{ComesTo, by_rules}
use Rattle.rh_agreement_ticks.proofs.LeftOver.{none_next}
use Rattle.rh_agreement_ticks.proofs.Modes.{mode_in}
use Rattle.rh_agreement_ticks.proofs.OnWay.{OnWay, first_way, is_over}
use Rattle.rh_agreement_ticks.proofs.Telling.{same_text, happens_so}
use Rattle.rh_agreement_ticks.proofs.Through.{Comes, AreAlive, AreAsFar, through}

-- ---- a tick of live nodes

abbrev ended_at : ℕ → SystemView → SystemView
ended_at end s = record s { clock = end; is_ticking = false }

module _ (end most : ℕ) (o : Order) (s over : SystemView) (settles : is_settled_by most o (record s { is_ticking = true }) ≡ true)
    (stays : settled most o (record s { is_ticking = true }) ≡ record s { is_ticking = true })
    (goes : passed most end most o (record s { is_ticking = true }) ≡ over)
    (past : is_past most end most o (record s { is_ticking = true }) ≡ true) where
  ticks_so : ticked end most o s ≡ ended_at end over
  unfolding ticked
  ticks_so =
      ap (λ (b : Bool). ticked_behind end most o b (began_ticking most o s)) settles
      ∙ ap (λ (t : SystemView). ended_at end (passed most end most o t)) stays
      ∙ ap (ended_at end) goes

  is_ticked_so : is_ticked end most o s ≡ true
  unfolding is_ticked
  is_ticked_so =
      ap (λ (b : Bool). cond b (is_past most end most o (began_ticking most o s)) false) settles
      ∙ ap (is_past most end most o) stays
      ∙ past

module _ (sim : SimView) (l : LiveSimView) (ms : ℕ) (notes : List Notice) (together : GoTogether sim l) (room : HasRoom sim l)
    (at_rest : AreBothAtRest sim l) (how : PassesAlike ms sim l notes) where
  abbrev s : StateView
  s = state_of sim

  abbrev tick : Event
  tick = event.Tick ms

  abbrev first : SystemView
  first = begun (net_in l) tick l

  abbrev awake : SystemView
  awake = ticking ms l

  abbrev end : ℕ
  end = (net_in l).clock + ms

  -- nodes that are up by the manual's rules are alive
  alive : AreAlive s awake
  unfolding forgotten
  alive k is_up_there =
      up_is_alive (phase_in l k) (mode_of s k)
      (together.now.modes k (up_within s k at_rest.valid.sound.shaped.modes is_up_there)) is_up_there

  way : OnWay l end awake
  way = first_way l ms at_rest.reached at_rest.rest

  same_end : s.time + ms ≡ end
  same_end = ap (λ (time : ℕ). time + ms) (sym together.now.clock)

  passes_live : PassAlike end l.order s awake notes
  passes_live = subst (λ (e : ℕ). PassAlike e l.order s awake notes) same_end how.passes

  silent : awake.events ≡ []
  unfolding forgotten
  silent = refl

  timed : (m : Node) → AreLater (own_in l.files m)
  unfolding forgotten
  timed = at_rest.later

  comes : Comes l end most_moves awake notes
  comes = through l end timed most_moves s awake notes passes_live how.few how.few way alive together.now.cluster

  -- nodes are as far where it begins
  far_first : AreAsFar l s.modes awake
  unfolding forgotten
  far_first k within = together.now.modes k (subst (λ (c : ClusterView). k.0 < node_count c) together.now.cluster within)

  none_first : next_move l.order awake ≡ None
  none_first = none_next l.order awake way.rest.settled

  settles : is_settled_by most_moves l.order awake ≡ true
  unfolding forgotten
  settles = quiet_so 999999 l.order awake none_first

  stays : settled most_moves l.order awake ≡ awake
  unfolding forgotten
  stays = moved_not 999999 l.order awake none_first

  module _ (fine : refused s tick ≡ None) (live_fine : refusal_of (net_in l).clock tick l ≡ None) where
    clock_within : (net_in l).clock + ms ≤ 1000000000000
    clock_within = ltb-false 1000000000000 ((net_in l).clock + ms) (in_limit _ _ _ _ live_fine)

    time_within : s.time + ms ≤ 1000000000000
    time_within = subst (λ (time : ℕ). time + ms ≤ 1000000000000) together.now.clock clock_within

    in_time : nat_lt end (2 ^ 64) ≡ true
    in_time = lt-ltb end (2 ^ 64) (omega (arith, clock_within))

    acts : acted tick l first ≡ ended_at end comes.then
    unfolding acted forgotten
    acts =
        ap (λ (b : Bool). cond b (ticked end most_moves l.order first) first) in_time
        ∙ ticks_so end most_moves l.order first comes.then settles stays comes.goes comes.past

    ends : ends_with (net_in l) tick l ≡ true
    unfolding is_acted forgotten
    ends =
        ap (λ (b : Bool). cond b (is_ticked end most_moves l.order first) true) in_time
        ∙ is_ticked_so end most_moves l.order first comes.then settles stays comes.goes comes.past

    abbrev last : SystemView
    last = rested (ended_at end comes.then)

    last_events : last.events ≡ comes.seen
    unfolding rested
    last_events = comes.events ∙ ap (λ (es : List Seen). es ++ comes.seen) silent

    last_calls : last.calls ≡ []
    unfolding rested
    last_calls = comes.way.rest.calls

    by_manual : ComesTo s ms sim.pick notes
    by_manual = by_rules ms sim.pick l.order s awake notes how.passes at_rest.valid time_within

    it_passes : Passes sim l ms notes comes.lines
    unfolding rested forgotten
    it_passes = record {
      fine = fine;
      live_fine = live_fine;
      then = by_manual.then;
      comes = by_manual.comes;
      cluster = by_manual.cluster;
      time = by_manual.time;
      begun = by_manual.begun;
      last = last;
      runs = ap rested acts;
      ends = ends;
      over = is_over l end at_rest.reached together.now.cells comes.then comes.way comes.none;
      clock = refl;
      far = λ k known.
          comes.far s.modes far_first k (subst (λ (c : ClusterView). k.0 < node_count c) (sym together.now.cluster) known)
          ∙ sym (ap (λ (modes : List Mode). mode_in modes k.0) by_manual.modes);
      lives = comes.way.lives;
      happens = happens_so l last notes comes.seen comes.lines comes.tells last_events last_calls;
      same_text = same_text l notes comes.seen comes.lines comes.tells;
    }

  -- refused or not
  both_alike : IsAnsweredAlike (call.Step tick) sim l × GoTogether (served sim (call.Step tick)).sim (made_by (call.Step tick) l)
  both_alike =
      refused_or_made sim l tick refl refl together
      (λ fine live_fine. alike sim l ms notes comes.lines together room (it_passes fine live_fine))

  both_rest : AreBothAtRest (served sim (call.Step tick)).sim (made_by (call.Step tick) l)
  both_rest =
      unchanged_or_made AreBothAtRest sim l tick refl refl together at_rest
      (λ fine live_fine. rests sim l ms notes comes.lines together room (it_passes fine live_fine) at_rest)

  told_alone : refused s tick ≡ None → (served sim (call.Step tick)).reply ≡ reply.Done notes
  told_alone fine =
      says sim l ms notes comes.lines together room (it_passes fine (nodes_events_alike sim l tick together refl ∙ fine))

  -- and so on
  pass_on : AreAlwaysAtRest sim l → GoesOn (call.Step tick) sim l
  pass_on rest = record {
    alike = both_alike.0;
    together = both_alike.1;
    rest = unchanged_or_made AreAlwaysAtRest sim l tick refl refl together rest
        (λ fine live_fine. always_rests sim l ms notes comes.lines together room (it_passes fine live_fine) rest);
  }

pub ticks_alike : TicksThroughMomentsAreAnsweredAlike
ticks_alike sim l ms notes together room at_rest how = (
  (both_alike sim l ms notes together room at_rest how).0,
  (both_alike sim l ms notes together room at_rest how).1,
  both_rest sim l ms notes together room at_rest how,
  told_alone sim l ms notes together room at_rest how,
)

-- and so on, whichever event it is
pub passes_on : (e : Event) (sim : SimView) (l : LiveSimView) → GoTogether sim l → HasRoom sim l → AreAlwaysAtRest sim l
    → IsATickThroughMoments e sim l → GoesOn (call.Step e) sim l
passes_on (event.Tick ms) sim l together room rest is = pass_on sim l ms is.0 together room rest.now is.1 rest
passes_on e sim l together room rest is = absurd is
