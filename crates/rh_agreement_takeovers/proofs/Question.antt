-- Where a takeover by a call begins: it asks its node's dist_ac for the nodes of the application, takes the lock there, which nobody has,
-- and asks for the takeover.
use Rattle.std.proofs.lemmas.Bool.{lt-ltb}
use Rattle.rh_otp_sim.specs.Acting.{most_moves, called_if}
use Rattle.rh_otp_sim.specs.Sim.{net_in}
use Rattle.rh_otp_system.specs.Moves.{settled}
use Rattle.rh_otp_system.specs.Resting.{rested}
use Rattle.rh_otp_laws.specs.Acting.{IsReached, later, acts, calls, rests, takes_up}
use Rattle.rh_otp_laws.proofs.Commands.{commands_reached}
use Rattle.rh_agreement_spread.proofs.StartAlike.{few_calls}
use Rattle.std.proofs.lemmas.Bool.{false≢true}
use Rattle.std.proofs.lemmas.Option.{none-some}
use Rattle.rh_rules.specs.declared.refusal.Refusal.TheVariants.{UnknownNode, UnknownApp, NodeNotUp}
use Rattle.rh_otp_node.specs.declared.node.Phase.{Phase}
use Rattle.rh_otp_node.specs.declared.node.Phase.TheVariants as phase
use Rattle.rh_otp_node.specs.Live.{is_down, is_phase_up}
use Rattle.rh_otp_sim.specs.Refusing.{refuse_call, is_up_in, phase_in, node_in}
use Rattle.std.proofs.Common.{◌≡◌, ◌<◌, ◌==◌, ◌&&◌, ◌-◌, ◌^◌, ℕ, Bool, true, false, not, cond, nat_lt, List, [], ◌∷◌, Some, None, refl, sym, ap, subst, ◌∙◌, inl}
use Rattle.std.proofs.lemmas.Bool.{eq-eqb}
use Rattle.rh_model.specs.declared.node.App.{App}
use Rattle.rh_model.specs.declared.node.Node.{Node}
use Rattle.rh_model.specs.declared.settings.Restart.{Restart}
use Rattle.rh_otp_model.specs.declared.output.Envelope.{Envelope}
use Rattle.rh_otp_model.specs.declared.output.Event.{Event as Seen}
use Rattle.rh_otp_model.specs.declared.output.Requester.TheVariants.{Alone}
use Rattle.rh_otp_model.specs.declared.process.Process.{Process}
use Rattle.rh_otp_dist.specs.declared.state.Stand.TheVariants as stand
use Rattle.rh_otp_dist.specs.Calls.{get_nodes, known_nodes}
use Rattle.rh_otp_dist.specs.State.{DistView, TurnView}
use Rattle.rh_otp_net.specs.declared.locks.Held.{Held}
use Rattle.rh_otp_net.specs.Locks.{is_free}
use Rattle.rh_otp_net.specs.Locks as net
use Rattle.rh_otp_node.specs.Live.{LiveView, is_alive}
use Rattle.rh_otp_sim.specs.Sim.{LiveSimView}
use Rattle.rh_otp_system.specs.declared.calls.Ask.TheVariants as ask
use Rattle.rh_otp_system.specs.declared.calls.Call.{Call}
use Rattle.rh_otp_system.specs.declared.calls.Stage.TheVariants as stage
use Rattle.rh_otp_system.specs.Calling.{is_synchronised_in, go_on_call, behind_sync}
use Rattle.rh_otp_system.specs.Calls.{process_of}
use Rattle.rh_otp_system.specs.Doing.{called, call_of}
use Rattle.rh_otp_system.specs.Resting.{forgotten}
use Rattle.rh_otp_system.specs.State.{SystemView, live_at, node_at, with_node, is_alive_at}
use Rattle.rh_otp_system.specs.Working.{alive_of}
use Rattle.rh_otp_laws.proofs.Nodes.{node_written, there_written}
use Rattle.rh_otp_crashes.specs.Crashes.{IsUnoccupied}
use Rattle.rh_otp_crashes.proofs.Crash.{lives_of}
use Rattle.rh_otp_crashes.proofs.Peace.{arrives_alive}
use Rattle.rh_otp_crashes.proofs.Turning.{own_in, turn, idle, idle_comes, is_idle, written_twice}
use Rattle.rh_otp_stops.proofs.Answering.{at_stage}
use Rattle.rh_otp_stops.proofs.Stopping.{there_is}
use Rattle.rh_otp_takeovers.proofs.Asking.{its_question, its_nodes, its_takeover, waiting_for, takes_lock}
use Rattle.rh_agreement.specs.Resting.{held}
use Rattle.rh_agreement_calls.proofs.Moving.{at_first, with_one, taken}

-- ---- a node that takes calls is alive

is_up : (x y z : Bool) → cond x (Some UnknownNode) (cond y (Some UnknownApp) (cond (not z) (Some NodeNotUp) None)) ≡ None → z ≡ true
is_up true y z is = absurd (none-some UnknownNode (sym is))
is_up false true z is = absurd (none-some UnknownApp (sym is))
is_up false false true is = refl
is_up false false false is = absurd (none-some NodeNotUp (sym is))

up_lives : (p : Phase) → is_phase_up p ≡ true → cond (is_down p) false true ≡ true
up_lives phase.Down is = absurd (false≢true is)
up_lives phase.Waiting is = refl
up_lives phase.Up is = refl

pub takes_lives : (l : LiveSimView) (n : Node) (a : App) → refuse_call n a l ≡ None → is_alive (node_in l n) ≡ true
takes_lives l n a takes = up_lives (phase_in l n) (is_up _ _ (is_up_in l n) takes)

module _ (l : LiveSimView) (n : Node) (a : App) (restart : Restart) (alive : is_alive_at (held l) n ≡ true) (d : DistView)
    (has : (node_at (held l) n).dist ≡ Some d) (takes_all : d.stand ≡ stand.Idle) (synchronised : d.is_synchronised ≡ true)
    (free : IsUnoccupied d) (nobody_locks : (held l).locks ≡ []) where
  abbrev pub base : SystemView
  base = record (held l) { ends_soon = false }

  abbrev pub lives : Node → ℕ
  lives = lives_of base

  abbrev pub v : LiveView
  v = node_at (held l) n

  abbrev pub c : Call
  c = call_of (ask.Takeover restart) n a base

  abbrev pub caller : Process
  caller = process_of c

  pub there : live_at base n ≡ Some v
  there = there_is base n alive

  -- ---- the call asks for the nodes of the application

  abbrev pub first : SystemView
  first = record (at_first base) { calls = at_stage c stage.Nodes ∷ []; last_call = c.number }

  abbrev pub question : Envelope
  question = its_question c

  asks : cond (is_alive_at base n && v.life == v.life) (is_synchronised_in v.dist) false ≡ true
  unfolding forgotten
  asks =
      ap (λ (b : Bool). cond (b && v.life == v.life) (is_synchronised_in v.dist) false) alive
      ∙ ap (λ (b : Bool). cond b (is_synchronised_in v.dist) false) (eq-eqb v.life v.life refl)
      ∙ ap is_synchronised_in has
      ∙ synchronised

  begins_so : called (ask.Takeover restart) n a (at_first base) ≡ with_one question first
  unfolding called go_on_call behind_sync forgotten
  begins_so =
      ap (λ (b : Bool). cond b (with_one question first) (record (at_first base) { calls = c ∷ []; last_call = c.number })) asks

  first_so : (held l).calls ≡ [] → base ≡ at_first base
  unfolding forgotten
  first_so none = λ i. record base { calls = none i }

  few : (last_call : ℕ) → last_call < 4000000000 → nat_lt last_call (2 ^ 32 - 1) ≡ true
  few last_call room = lt-ltb last_call (2 ^ 32 - 1) (few_calls last_call room)

  -- so it does where nobody has called
  pub calls_so : (held l).calls ≡ [] → (net_in l).last_call < 4000000000
      → called_if (ask.Takeover restart) n a base ≡ with_one question first
  unfolding forgotten
  calls_so none room =
      ap (λ (b : Bool). cond b (called (ask.Takeover restart) n a base) base) (few base.last_call room)
      ∙ ap (called (ask.Takeover restart) n a) (first_so none)
      ∙ begins_so

  -- what comes of it is reached, where the nodes at rest are
  base_reached : IsReached (held l) → IsReached base
  unfolding forgotten
  base_reached reached = later (held l) base reached (takes_up (held l) l.history.now (net_in l).told false (refl, refl) (λ m. inl refl))

  called_reached : IsReached (held l) → (b : Bool) → IsReached (cond b (called (ask.Takeover restart) n a base) base)
  called_reached reached true =
      later base (called (ask.Takeover restart) n a base) (base_reached reached) (acts base _ (calls base (ask.Takeover restart) n a))
  called_reached reached false = base_reached reached

  pub reached_so : IsReached (held l) → (t : SystemView) → settled most_moves l.order (called_if (ask.Takeover restart) n a base) ≡ t
      → IsReached (rested t)
  reached_so reached t is =
      let start : SystemView = called_if (ask.Takeover restart) n a base in
      later t (rested t)
      (subst IsReached is
      (commands_reached.settles_there most_moves l.order start (called_reached reached (nat_lt base.last_call (2 ^ 32 - 1)))))
      (rests t)

  -- ---- its dist_ac names them

  abbrev pub d_turn : TurnView
  d_turn = turn l.cluster (own_in l.files n) n v.life d

  abbrev nodes : List Node
  nodes = known_nodes a d_turn

  abbrev pub idle_node : LiveView
  idle_node = record v { dist = Some (idle d) }

  abbrev pub named : Envelope
  named = its_nodes lives c nodes

  abbrev pub naming : SystemView
  naming = with_node n idle_node first

  pub names_so : taken question first ≡ with_one named naming
  unfolding forgotten get_nodes
  names_so =
      arrives_alive question.to question.message (record first { messages = [] }) alive refl
      ∙ idle_comes l.cluster l.files n v.life question.message d (get_nodes a caller d_turn) free takes_all refl (λ w. refl)
      (record first { messages = [] }) v there has refl refl refl

  -- ---- the call takes the lock there, and asks for the takeover

  abbrev pub locks : List Held
  locks = net.taken (Alone caller) caller (alive_of naming nodes) base.locks

  -- so all is from then on, but for the node and what was seen
  abbrev pub here_with : LiveView → List Seen → SystemView
  here_with w events = record (with_node n w first) { calls = at_stage c stage.DistAc ∷ []; locks = locks; events = events }

  pub node_with : (w : LiveView) (events : List Seen) → node_at (here_with w events) n ≡ w
  node_with w events = node_written first n v w there

  pub there_with : (w : LiveView) (events : List Seen) → live_at (here_with w events) n ≡ Some w
  there_with w events = there_written first n v w there

  pub twice : (w x : LiveView) (events : List Seen) → with_node n x (here_with w events) ≡ here_with x events
  twice w x events = λ i. record (written_twice first n w x i) {
    calls = at_stage c stage.DistAc ∷ [];
    locks = locks;
    events = events;
  }

  abbrev pub request : Envelope
  request = its_takeover c restart

  abbrev pub locked : SystemView
  locked = here_with idle_node []

  node_naming : node_at naming n ≡ idle_node
  node_naming = node_written first n v idle_node there

  pub locks_so : taken named naming ≡ with_one request locked
  unfolding forgotten
  locks_so =
      takes_lock c restart nodes (record naming { messages = [] }) refl refl refl (ap is_alive node_naming ∙ alive)
      (ap (λ (w : LiveView). w.life) node_naming)
      ∙ ap (λ (b : Bool). cond b (with_one request locked) (waiting_for c nodes (record naming { messages = [] })))
      (ap (is_free (Alone caller) (alive_of naming nodes)) nobody_locks)

  pub free_idle : IsUnoccupied (idle d)
  free_idle = subst IsUnoccupied (is_idle d free takes_all) free
