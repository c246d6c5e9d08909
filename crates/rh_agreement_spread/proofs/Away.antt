-- Where a start begins at a node that knows the application to run elsewhere: the call, the request and the reply come one after the
-- other, and then the answer, behind which nothing moves.
use Rattle.std.proofs.Common.{◌≡◌, ◌+◌, ◌==◌, ◌&&◌, ◌||◌, ℕ, suc, Bool, true, false, not, cond, find, is_some, slice_set, List, [], ◌∷◌, Some, None, refl, sym, ap, ◌∙◌, arith}
use Rattle.std.proofs.lemmas.Bool.{false≢true, true≢false}
use Rattle.rh_model.specs.declared.node.App.{App}
use Rattle.rh_model.specs.declared.node.Node.{Node}
use Rattle.rh_model.specs.declared.settings.Restart.{Restart}
use Rattle.rh_otp_controller.specs.Calls.{is_here}
use Rattle.rh_otp_controller.specs.Starting.{lacks_started}
use Rattle.rh_otp_controller.specs.State.{ControllerView}
use Rattle.rh_otp_model.specs.declared.message.Message.TheVariants as message
use Rattle.rh_otp_model.specs.declared.message.Reply.TheVariants as reply_of
use Rattle.rh_otp_model.specs.declared.output.Envelope.{Envelope}
use Rattle.rh_otp_model.specs.declared.output.Requester.TheVariants.{Alone}
use Rattle.rh_otp_model.specs.declared.process.Process.{Process}
use Rattle.rh_otp_model.specs.declared.process.Role.TheVariants as role
use Rattle.rh_otp_model.specs.Own.{OwnView}
use Rattle.rh_otp_model.specs.Processes.{process_at}
use Rattle.rh_otp_model.specs.Rows.{is_of, keyfind, keyreplace, keystore, has_row}
use Rattle.rh_otp_dist.specs.declared.state.Standing.{Standing}
use Rattle.rh_otp_dist.specs.declared.state.Standing.TheVariants as standing
use Rattle.rh_otp_dist.specs.Choosing.{start_distributed, start_unless_local, start_appl}
use Rattle.rh_otp_dist.specs.Received as mail
use Rattle.rh_otp_dist.specs.State.{DistView, TurnView, standing_of}
use Rattle.rh_otp_net.specs.Locks.{freed}
use Rattle.rh_otp_node.specs.Live.{LiveView, here_of, is_alive}
use Rattle.rh_otp_node.specs.Turns.{controller_turn, controlled_by}
use Rattle.rh_otp_sim.specs.Sim.{LiveSimView}
use Rattle.rh_otp_system.specs.declared.calls.Ask.TheVariants as ask
use Rattle.rh_otp_system.specs.declared.calls.Call.{Call}
use Rattle.rh_otp_system.specs.Calls.{process_of}
use Rattle.rh_otp_system.specs.Resting.{forgotten}
use Rattle.rh_otp_system.specs.State.{SystemView, live_at, node_at, own_at, with_node, is_alive_at}
use Rattle.rh_otp_system.specs.Working.{behind}
use Rattle.rh_otp_laws.proofs.Nodes.{node_written, there_written}
use Rattle.rh_otp_crashes.specs.Crashes.{IsUnoccupied}
use Rattle.rh_otp_crashes.proofs.Peace.{arrives_alive}
use Rattle.rh_otp_crashes.proofs.Turning.{own_in, turn, written_twice}
use Rattle.rh_otp_stops.proofs.Stopping.{there_is}
use Rattle.rh_otp_starts.specs.Elsewhere.{asked_attempt}
use Rattle.rh_otp_starts.proofs.Requests.{its_reply, its_lock, told_so, freed_own, request_comes}
use Rattle.rh_otp_starts.proofs.Requests as requests
use Rattle.rh_agreement.specs.Resting.{held}
use Rattle.rh_agreement_calls.proofs.Controlling.{well_answered}
use Rattle.rh_agreement_calls.proofs.Moving.{call_at, request_of, calling, with_one, taken}
use Rattle.rh_agreement_spread.specs.Waits.{CanWaitLive}
use Rattle.std.specs.List.{list_any, position_or_len}
use Rattle.std.specs.Option.{option_map}
use Rattle.rh_otp_controller.specs.declared.state.Place.TheVariants.{At}
use Rattle.rh_otp_dist.specs.Told.{is_local}
use Rattle.rh_otp_sim.specs.Waiting.{is_started}
use Rattle.rh_otp_starts.proofs.Elsewhere.{starts_there}
use Rattle.rh_agreement_calls.proofs.Starting.{found_first}
use Rattle.rh_agreement_spread.proofs.StartTurns as controller

-- what is put in stands there
replace_has : {T : Type 0} (a : App) (x : T) (rows : List (App × T)) → has_row a rows ≡ true → has_row a (keyreplace a x rows) ≡ true
replace_has a x [] is = absurd (false≢true is)
replace_has {T} a x (r ∷ rows) is = by (is_of a r) refl is (replace_has a x rows)
  where
    at : ℕ → Bool
    at k = has_row a (slice_set (r ∷ rows) k (a, x))

    next : ℕ
    next = position_or_len (is_of a) rows

    one_more : 1 + next ≡ suc next
    one_more = omega arith

    found_by : Bool → List (App × T) → Bool
    found_by b others = is_some (option_map (λ (row : App × T). row.1) (cond b (Some r) (find (is_of a) others)))

    by : (b : Bool) → is_of a r ≡ b → has_row a (r ∷ rows) ≡ true → (has_row a rows ≡ true → has_row a (keyreplace a x rows) ≡ true)
        → has_row a (keyreplace a x (r ∷ rows)) ≡ true
    by true so has rest = ap (λ (b : Bool). at (cond (not b) (1 + next) 0)) so ∙ ap is_some (found_first a x rows)
    by false so has rest =
        ap (λ (b : Bool). at (cond (not b) (1 + next) 0)) so ∙ ap at one_more
        ∙ ap (λ (b : Bool). found_by b (keyreplace a x rows)) so
        ∙ rest (sym (ap (λ (b : Bool). found_by b rows) so) ∙ has)

store_has : {T : Type 0} (a : App) (x : T) (rows : List (App × T)) → has_row a (keystore a x rows) ≡ true
store_has {T} a x rows = by (has_row a rows) refl
  where
    by : (b : Bool) → has_row a rows ≡ b → has_row a (cond b (keyreplace a x rows) ((a, x) ∷ rows)) ≡ true
    by true is = replace_has a x rows is
    by false is = ap is_some (found_first a x rows)

module _ (l : LiveSimView) (n : Node) (a : App) (restart : Restart) (alive : is_alive_at (held l) n ≡ true) (can : CanWaitLive l n a)
    (free_at : (d : DistView) → (node_at (held l) n).dist ≡ Some d → IsUnoccupied d) (nobody_locks : (held l).locks ≡ []) where
  abbrev pub base : SystemView
  base = record (held l) { ends_soon = false }

  abbrev pub own : OwnView
  own = own_at (held l) n

  abbrev pub v : LiveView
  v = node_at (held l) n

  abbrev pub c : Call
  c = call_at base (ask.Start restart) n a

  abbrev pub caller : Process
  caller = process_of c

  abbrev pub first : SystemView
  first = calling base c

  pub stays : v.controller.is_ending ≡ false
  unfolding forgotten
  stays = can.stays

  pub off : has_row a v.controller.running ≡ false
  unfolding forgotten
  off = can.off

  pub unasked : has_row a v.controller.start_req ≡ false
  unfolding forgotten
  unasked = can.unasked

  pub started : lacks_started (controller_turn l.cluster own n v) a ≡ None
  unfolding forgotten
  started = can.started

  abbrev pub d : DistView
  d = can.dist

  has : v.dist ≡ Some d
  unfolding forgotten
  has = can.has

  pub free : IsUnoccupied d
  free = free_at d has

  pub there : live_at base n ≡ Some v
  there = there_is base n alive

  -- ---- the controller asks its dist_ac

  abbrev asked_node : LiveView
  asked_node = record v { controller = controller.asking l.cluster own n a restart caller v can.own stays off unasked started }

  abbrev pub asked_message : Envelope
  asked_message = controller.asked l.cluster own n a restart caller v can.own stays off unasked started

  abbrev pub requested : SystemView
  requested = with_node n asked_node first

  pub asks_so : taken (request_of c) first ≡ with_one asked_message requested
  unfolding forgotten
  asks_so =
      arrives_alive (request_of c).to (request_of c).message (record first { messages = [] }) alive refl
      ∙ ap (λ done. behind n done (record first { messages = [] }))
      (controller.asks l.cluster own n a restart caller v can.own stays off unasked started)

  -- ---- its dist_ac replies

  abbrev d_turn : TurnView
  d_turn = turn l.cluster (own_in l.files n) n v.life d

  abbrev decided : TurnView
  decided = told_so a (reply_of.Started can.elsewhere.at) (standing.Distributed can.elsewhere.at) d_turn

  abbrev pub next : DistView
  next = decided.state

  -- its list decides
  not_local : (st : Standing) (t : TurnView) → is_local st ≡ false → start_unless_local (asked_attempt d a) st t
      ≡ start_distributed (asked_attempt d a) t
  not_local standing.Local t is = absurd (true≢false is)
  not_local standing.Undefined t is = refl
  not_local standing.RunWaiting t is = refl
  not_local standing.Takeover t is = refl
  not_local (standing.Failover m) t is = refl
  not_local (standing.Distributed m) t is = refl

  decides : (w : ℕ) → mail.handled (message.StartRequest a) (requests.asking w d_turn) ≡ requests.asking w decided
  unfolding start_appl forgotten
  decides w =
      not_local (standing_of d a) (requests.asking w d_turn) can.not_here
      ∙ starts_there a (requests.asking w d_turn) (record { at = can.elsewhere.at; found = can.elsewhere.found })

  abbrev replied_node : LiveView
  replied_node = controller.node_then l.cluster own n a restart caller v can.own stays off unasked started (Some next)

  abbrev pub replied : SystemView
  replied = with_node n replied_node first

  abbrev pub reply_message : Envelope
  reply_message = its_reply (here_of n v) a (reply_of.Started can.elsewhere.at)

  node_requested : node_at requested n ≡ asked_node
  node_requested = node_written first n v asked_node there

  there_requested : live_at requested n ≡ Some asked_node
  there_requested = there_written first n v asked_node there

  unlocked : freed (Alone (process_at (here_of n v) role.DistAc)) (process_at (here_of n v) role.DistAc) (its_lock n v.life) ≡ base.locks
  unlocked = freed_own n v.life ∙ sym nobody_locks

  pub replies_so : taken asked_message requested ≡ with_one reply_message replied
  unfolding forgotten
  replies_so =
      arrives_alive asked_message.to asked_message.message (record requested { messages = [] }) (ap is_alive node_requested ∙ alive)
      (ap (λ (w : LiveView). w.life) node_requested)
      ∙ request_comes n a (record requested { messages = [] }) asked_node d decided there_requested has free can.takes_all nobody_locks
      decides
      ∙ (λ i. record (with_node n replied_node requested) { messages = reply_message ∷ []; locks = unlocked i })
      ∙ ap (with_one reply_message) (written_twice first n asked_node replied_node)

  -- ---- its controller answers

  abbrev pub kept : ControllerView
  kept = controller.away l.cluster own n a restart caller v can.own stays off unasked started (Some next) can.elsewhere.at

  abbrev pub new : LiveView
  new = record replied_node { controller = kept }

  abbrev pub answer : Envelope
  answer = well_answered n v caller

  abbrev pub silent : SystemView
  silent = with_node n new first

  node_replied : node_at replied n ≡ replied_node
  node_replied = node_written first n v replied_node there

  pub answers_so : taken reply_message replied ≡ with_one answer silent
  unfolding forgotten
  answers_so =
      arrives_alive reply_message.to reply_message.message (record replied { messages = [] }) (ap is_alive node_replied ∙ alive)
      (ap (λ (w : LiveView). w.life) node_replied)
      ∙ ap (λ (w : LiveView). behind n (controlled_by l.cluster own n reply_message.message w)
      (record replied { messages = [] })) node_replied
      ∙ ap (λ done. behind n done (record replied { messages = [] }))
      (controller.goes_away l.cluster own n a restart caller v can.own stays off unasked started (Some next) can.elsewhere.at)
      ∙ ap (with_one answer) (written_twice first n replied_node new)

  -- ---- it is started there, and doesn't run

  pub runs_not : is_here (keyfind a kept.running) ≡ false
  runs_not =
      ap (λ (b : Bool). is_here (keyfind a (cond b (keyreplace a (At can.elsewhere.at) v.controller.running)
      ((a, At can.elsewhere.at) ∷ v.controller.running)))) off
      ∙ ap is_here (found_first a (At can.elsewhere.at) v.controller.running)

  has_place : has_row a kept.running ≡ true
  has_place =
      ap (λ (b : Bool). has_row a (cond b (keyreplace a (At can.elsewhere.at) v.controller.running)
      ((a, At can.elsewhere.at) ∷ v.controller.running))) off
      ∙ ap is_some (found_first a (At can.elsewhere.at) v.controller.running)

  has_restart : has_row a kept.started ≡ true
  has_restart = store_has a (Some restart) v.controller.started

  pub is_started_there : is_started a kept ≡ true
  is_started_there =
      (λ i. not ((has_restart i && not (has_place i)) && list_any (λ (b : App). b.0 == a.0) kept.ended) &&
      (has_restart i || has_row a kept.start_p_false))
