-- The boot of a node that waits on is answered alike, whoever else is alive.
use Rattle.std.proofs.Common.{◌≡◌, ◌<◌, ◌≤◌, ◌+◌, ◌-◌, ◌^◌, ℕ, true, List, [], slice_get, unwrap_or, Option, None, refl, sym, ap, subst, ◌∙◌, inl, inr, arith}
use Rattle.std.specs.Option.{option_and_then}
use Rattle.std.proofs.lemmas.Bool.{cases_eq, false≢true}
use Rattle.std.proofs.lemmas.List.{length-set}
use Rattle.rh_model.specs.ClusterView.{ClusterView, node_count}
use Rattle.rh_model.specs.declared.node.Node.{Node}
use Rattle.rh_rules.specs.declared.event.Event.{Event}
use Rattle.rh_rules.specs.declared.event.Event.TheVariants as event
use Rattle.rh_rules.specs.declared.notice.Notice.{Notice}
use Rattle.rh_rules.specs.NodesStart.{booted}
use Rattle.rh_rules.specs.Refusals.{refused}
use Rattle.rh_rules.specs.Steps.{Outcome, next}
use Rattle.rh_refusals.proofs.Accepted.{CanBoot, accepted_boot}
use Rattle.rh_calls.specs.declared.call.Call.TheVariants as call
use Rattle.rh_calls.specs.declared.call.Reply.TheVariants as reply
use Rattle.rh_script.specs.Answers.{answer_text}
use Rattle.rh_state.specs.Limits.{incarnation_limit}
use Rattle.rh_state.specs.StateView.{StateView, mode_of, incarnation_of}
use Rattle.rh_step.specs.Runs.{step}
use Rattle.rh_trail.specs.Lone.{Served, served}
use Rattle.rh_trail.specs.SimView.{SimView, state_of}
use Rattle.rh_otp_net.specs.Links.{are_linked}
use Rattle.rh_otp_node.specs.Live.{LiveView, never_begun, is_ending}
use Rattle.rh_otp_sim.specs.declared.calls.LiveReply.TheVariants as live_reply
use Rattle.rh_otp_sim.specs.declared.lines.Answer.TheVariants.{Told}
use Rattle.rh_otp_sim.specs.declared.stepping.Outcome.TheVariants as live
use Rattle.rh_otp_sim.specs.declared.verdict.Verdict.TheVariants as verdict
use Rattle.rh_otp_sim.specs.Calls.{made_by}
use Rattle.rh_otp_sim.specs.Refusing.{refusal_of, phase_in, life_in}
use Rattle.rh_otp_sim.specs.Sim.{LiveSimView, net_in}
use Rattle.rh_otp_sim.specs.Sim.{live_in as live_at_node}
use Rattle.rh_otp_sim.specs.Stepping.{happened, net_behind, with_step}
use Rattle.rh_otp_sim.specs.Telling.{answer_of, lines_of}
use Rattle.rh_otp_sim.specs.Views.{HappenedView}
use Rattle.rh_otp_sim.specs.Waiting.{still_told, events_asked, calls_asked}
use Rattle.rh_otp_system.specs.declared.cell.Cell.{Cell}
use Rattle.rh_otp_system.specs.declared.cell.Cell.TheVariants as cell
use Rattle.rh_otp_system.specs.Moves.{IsAmong}
use Rattle.rh_otp_system.specs.Resting.{forgotten}
use Rattle.rh_otp_system.specs.State.{SystemView, live_in, node_at, is_alive_at}
use Rattle.rh_otp_system.specs.Views.{NetView}
use Rattle.rh_otp_laws.proofs.Listing.{alive_listed}
use Rattle.rh_otp_laws.proofs.Nodes.{written_elsewhere}
use Rattle.rh_otp_text.specs.Lines.{verdict_words}
use Rattle.rh_otp_text.specs.Replies.{reply_text}
use Rattle.rh_agreement.specs.Telling.{TellTheSame, GoTogether, mode_of_phase}
use Rattle.rh_agreement.specs.Laws.{IsAnsweredAlike, HasRoom}
use Rattle.rh_agreement.specs.Resting.{AreBothAtRest, AreAlwaysAtRest, held}
use Rattle.rh_agreement.proofs.Always.{GoesOn, accepted_rest}
use Rattle.rh_agreement.proofs.Peace.{made, both_rest}
use Rattle.rh_agreement.proofs.Refusing.{nodes_events_alike}
use Rattle.rh_agreement.proofs.Rest.{IsOver, reached_again}
use Rattle.rh_agreement.proofs.Stepping.{written, net_so, node_so, manual, made_alike, refused_or_made, unchanged_or_made}
use Rattle.rh_agreement_boots.specs.Boots.{StayInTouch, IsBootedAlike}
use Rattle.rh_agreement_boots.specs.Waiting.{BeginsAndWaitsOn, WaitingBootsAreAnsweredAlike}
use Rattle.rh_agreement_boots.proofs.Ready as ready
use Rattle.rh_agreement_boots.proofs.Waiting.{IsBooted}
use Rattle.rh_agreement_boots.proofs.Waiting as waiting

-- a life can be counted on live nodes where it can by the manual's rules
few_lives : (life count : ℕ) → life ≡ count → count ≤ incarnation_limit → life < 2 ^ 32 - 1
few_lives life count same most = omega (arith, same, most)

-- what is told where an observer has seen nothing, and no call is open
nothing_happened : (net : NetView) (s : SystemView) → s.events ≡ [] → s.calls ≡ []
    → happened net s ≡ record { answer = Told verdict.Done; lines = [] }
nothing_happened net s events calls = λ i. record {
  answer = answer_of net.last_call (calls i);
  lines = (calls_asked s (events i) net.last_call (calls i) (events_asked s (events i) (events i) (record {
    told = still_told (events i) net.told;
    asked = [];
    lines = lines_of (events i) (calls i) net.last_call;
  }))).lines;
}

-- it is `ok` on both sides
same_text : (c : ClusterView) (l : LiveSimView)
    → answer_text c (reply.Done []) ≡ reply_text l (live_reply.Step (live.Done (record { answer = Told verdict.Done; lines = [] })))
unfolding answer_text reply_text verdict_words
same_text c l = refl

module _ (sim : SimView) (l : LiveSimView) (n : Node) (together : GoTogether sim l) (room : HasRoom sim l) (at_rest : AreBothAtRest sim l)
    (begins : BeginsAndWaitsOn n sim l) (fine : refused (state_of sim) (event.Boot n) ≡ None)
    (live_fine : refusal_of (net_in l).clock (event.Boot n) l ≡ None) where
  abbrev this : Event
  this = event.Boot n

  abbrev s : StateView
  s = state_of sim

  -- ---- by the manual's rules

  can : CanBoot s n
  can = accepted_boot s n fine

  abbrev behind : StateView
  behind = booted s n

  outcome_so : (p : Outcome) → next s this sim.pick ≡ p → (step sim.pick s this ≡ p.state) × ((next s this sim.pick).notices ≡ p.notices)
  unfolding step
  outcome_so p is = (ap (λ (o : Outcome). o.state) is, ap (λ (o : Outcome). o.notices) is)

  comes_so : (step sim.pick s this ≡ behind) × ((next s this sim.pick).notices ≡ [])
  comes_so = outcome_so _ (ready.only_waits s n at_rest.valid can begins.unready sim.pick)

  -- ---- on live nodes

  within : n.0 < node_count l.cluster
  within = subst (λ (c : ClusterView). n.0 < node_count c) (sym together.now.cluster) can.node

  boots : IsBooted l n
  boots = record {
    reached = at_rest.reached;
    rest = at_rest.rest;
    waits = begins.waits;
    touch = begins.touch;
    there = begins.there within;
    within = within;
    lives = few_lives (life_in l n) (incarnation_of s n) (together.now.begun n can.node) (together.now.limited n can.node);
    few = begins.few;
  }

  -- the system behind it
  abbrev last : SystemView
  last = waiting.behind l n boots

  over : IsOver l last
  over = waiting.over l n boots together.now.cells

  abbrev cells : List Cell
  cells = written l last.nodes.cells (net_behind (net_in l) last) over.inside

  -- ---- both tell the same behind it

  clock_so : (net_in (with_step cells l)).clock ≡ (net_in l).clock
  unfolding forgotten
  clock_so =
      ap (λ (v : NetView). v.clock) (net_so l last.nodes.cells (net_behind (net_in l) last) over.inside) ∙ waiting.same_clock l n boots

  module _ (k : Node) (inside : k.0 < node_count s.cluster) where
    node_then : live_at_node (with_step cells l) k ≡ option_and_then live_in (slice_get last.nodes.cells k.0)
    node_then =
        node_so l last.nodes.cells (net_behind (net_in l) last) over.inside k
        (subst (λ (c : ClusterView). k.0 < node_count c) (sym together.now.cluster) inside)

    phase_so : phase_in (with_step cells l) k ≡ (node_at last k).phase
    phase_so = ap (λ (o : Option LiveView). (unwrap_or o never_begun).phase) node_then

    life_so : life_in (with_step cells l) k ≡ (node_at last k).life
    life_so = ap (λ (o : Option LiveView). (unwrap_or o never_begun).life) node_then

    mode_then : mode_of_phase (phase_in (with_step cells l) k) ≡ mode_of behind k
    unfolding forgotten
    mode_then = ap mode_of_phase phase_so ∙ elim (cases_eq k.0 n.0) [
      | inl here ↦ ap (λ (v : LiveView). mode_of_phase v.phase) (waiting.node_first l n boots k here)
          ∙ sym (ready.mode_here s n at_rest.valid can k here)
      | inr other ↦ ap (λ (v : LiveView). mode_of_phase v.phase) (waiting.node_other l n boots k other) ∙ together.now.modes k inside
          ∙ sym (ready.mode_there s n at_rest.valid can k other)
    ]

    begun_then : life_in (with_step cells l) k ≡ incarnation_of behind k
    unfolding forgotten
    begun_then = life_so ∙ elim (cases_eq k.0 n.0) [
      | inl here ↦ ap (λ (v : LiveView). v.life) (waiting.node_first l n boots k here)
          ∙ ap (λ (count : ℕ). count + 1) (together.now.begun n can.node)
          ∙ sym (ready.begun_here s n at_rest.valid can k here)
      | inr other ↦ ap (λ (v : LiveView). v.life) (waiting.node_other l n boots k other) ∙ together.now.begun k inside
          ∙ sym (ready.begun_there s n at_rest.valid can k other)
    ]

  cluster_then : behind.cluster ≡ s.cluster
  cluster_then = ready.cluster_so s n at_rest.valid can

  inside_then : (k : Node) → k.0 < node_count behind.cluster → k.0 < node_count s.cluster
  inside_then k inside = subst (λ (c : ClusterView). k.0 < node_count c) cluster_then inside

  tells : TellTheSame behind (with_step cells l)
  tells = record {
    cluster = together.now.cluster ∙ sym cluster_then;
    clock = clock_so ∙ together.now.clock ∙ sym (ready.time_so s n at_rest.valid can);
    modes = λ k inside. mode_then k (inside_then k inside);
    begun = λ k inside. begun_then k (inside_then k inside);
    limited = λ k inside. ready.begun_within s n at_rest.valid can k inside;
    cells = subst (λ (count : ℕ). node_count l.cluster < count)
        (sym (length-set last.nodes.cells (node_count l.cluster) (cell.Net (net_behind (net_in l) last)))) over.inside;
  }

  -- ---- and answer it alike

  happens : happened (net_in l) last ≡ record { answer = Told verdict.Done; lines = [] }
  happens = nothing_happened (net_in l) last (waiting.no_events l n boots) (waiting.no_calls l n boots)

  text : answer_text sim.cluster (reply.Done (next s this sim.pick).notices)
      ≡ reply_text (with_step cells l) (live_reply.Step (live.Done (happened (net_in l) last)))
  text =
      ap (λ (notices : List Notice). answer_text sim.cluster (reply.Done notices)) comes_so.1
      ∙ same_text sim.cluster (with_step cells l)
      ∙ ap (λ (h : HappenedView). reply_text (with_step cells l) (live_reply.Step (live.Done h))) (sym happens)

  told : TellTheSame (step sim.pick s this) (with_step cells l)
  told = subst (λ (t : StateView). TellTheSame t (with_step cells l)) (sym comes_so.0) tells

  alike : IsAnsweredAlike (call.Step this) sim l × GoTogether (served sim (call.Step this)).sim (made_by (call.Step this) l)
  alike =
      made_alike sim l this cells (happened (net_in l) last) together room fine live_fine (waiting.steps_so l n boots)
      (waiting.comes_to l n boots) told text

  rests : AreBothAtRest (served sim (call.Step this)).sim (made_by (call.Step this) l)
  rests = both_rest sim l this last together room at_rest fine live_fine (waiting.steps_so l n boots) over

  made_so : made_by (call.Step this) l ≡ with_step cells l
  made_so = made sim l this last together room at_rest fine live_fine (waiting.steps_so l n boots) over

  -- and so they are wherever undo and redo lead
  rests_always : AreAlwaysAtRest sim l → AreAlwaysAtRest (served sim (call.Step this)).sim (made_by (call.Step this) l)
  rests_always always = accepted_rest sim l this cells together room always fine made_so rests

  -- ---- the live nodes stay in touch

  abbrev then : LiveSimView
  then = with_step cells l

  net_then : net_in then ≡ net_behind (net_in l) last
  net_then = net_so l last.nodes.cells (net_behind (net_in l) last) over.inside

  alive_then : (k : Node) → is_alive_at (held then) k ≡ true → is_alive_at last k ≡ true
  unfolding forgotten
  alive_then k alive =
      over.idle.listed k
      (subst (λ (v : NetView). IsAmong k v.alive) net_then (((alive_listed (held then) (reached_again l last over)).exactly k).1 alive))

  touch_then : StayInTouch then
  unfolding forgotten
  touch_then = record {
    see = λ j k one other apart.
        subst (λ (v : NetView). are_linked j k v.links ≡ true) (sym net_then)
        (waiting.all_see_all l n boots j k (alive_then j one) (alive_then k other) apart);
    stay = λ k alive. elim (cases_eq k.0 (node_count l.cluster)) [
      | inl none ↦ absurd (false≢true (sym (over.nobody k none) ∙ alive_then k alive))
      | inr node ↦ ap (λ (o : Option Cell). is_ending (unwrap_or (option_and_then live_in o) never_begun))
          (written_elsewhere last.nodes.cells (node_count l.cluster) k.0 (cell.Net (net_behind (net_in l) last)) node)
          ∙ waiting.all_stay l n boots k (alive_then k alive)
    ];
  }

  touch : StayInTouch (made_by (call.Step this) l)
  touch = subst StayInTouch (sym made_so) touch_then

  answer : (served sim (call.Step this)).reply ≡ reply.Done []
  answer = ap (λ (v : Served). v.reply) (manual sim this fine room.steps) ∙ ap reply.Done comes_so.1

-- ---- refused or not

-- what it asks is so at least where the boot isn't refused
pub boots_if : (sim : SimView) (l : LiveSimView) (n : Node) → GoTogether sim l → HasRoom sim l → AreBothAtRest sim l → StayInTouch l
    → (refused (state_of sim) (event.Boot n) ≡ None → BeginsAndWaitsOn n sim l) → IsBootedAlike n sim l
boots_if sim l n together room at_rest in_touch begins =
    let both : IsAnsweredAlike (call.Step (event.Boot n)) sim l
    × GoTogether (served sim (call.Step (event.Boot n))).sim (made_by (call.Step (event.Boot n)) l) =
    refused_or_made sim l (event.Boot n) refl refl together
    (λ fine live_fine. alike sim l n together room at_rest (begins fine) fine live_fine) in (
      both.0,
      both.1,
      unchanged_or_made AreBothAtRest sim l (event.Boot n) refl refl together at_rest
          (λ fine live_fine. rests sim l n together room at_rest (begins fine) fine live_fine),
      λ fine. answer sim l n together room at_rest (begins fine) fine (nodes_events_alike sim l (event.Boot n) together refl ∙ fine),
      unchanged_or_made (λ (_ : SimView). StayInTouch) sim l (event.Boot n) refl refl together in_touch
          (λ fine live_fine. touch sim l n together room at_rest (begins fine) fine live_fine),
    )

-- and so it goes on, wherever undo and redo lead
pub goes_on_if : (sim : SimView) (l : LiveSimView) (n : Node) → GoTogether sim l → HasRoom sim l → AreAlwaysAtRest sim l
    → IsBootedAlike n sim l → (refused (state_of sim) (event.Boot n) ≡ None → BeginsAndWaitsOn n sim l)
    → GoesOn (call.Step (event.Boot n)) sim l
goes_on_if sim l n together room always all begins = record {
  alike = all.0;
  together = all.1;
  rest = unchanged_or_made AreAlwaysAtRest sim l (event.Boot n) refl refl together always
      (λ fine live_fine. rests_always sim l n together room always.now (begins fine) fine live_fine always);
}

pub waiting_alike : WaitingBootsAreAnsweredAlike
waiting_alike sim l n together room at_rest begins = boots_if sim l n together room at_rest begins.touch (λ fine. begins)
