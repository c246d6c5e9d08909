-- What a controller does where its dist_ac has it take an application over: it starts it, and at the starter's report it tells dist_ac.
use Rattle.std.proofs.Common.{◌≡◌, ◌==◌, Bool, true, false, cond, List, [], ◌∷◌, Option, Some, None, is_some, refl, sym, ap, ◌∙◌}
use Rattle.std.proofs.lemmas.Bool.{false≢true}
use Rattle.rh_model.specs.ClusterView.{ClusterView}
use Rattle.rh_model.specs.declared.node.App.{App}
use Rattle.rh_model.specs.declared.node.Node.{Node}
use Rattle.rh_model.specs.declared.settings.Restart.{Restart}
use Rattle.rh_otp_controller.specs.declared.state.Place.{Place}
use Rattle.rh_otp_controller.specs.declared.state.Place.TheVariants.{Here, At, Nowhere}
use Rattle.rh_otp_controller.specs.declared.state.Starting.{Starting}
use Rattle.rh_otp_controller.specs.Calls.{is_here}
use Rattle.rh_otp_controller.specs.Changes.{do_start, kept_restart, change, changed, change_running, change_idle, handled, received}
use Rattle.rh_otp_controller.specs.Sending.{send}
use Rattle.rh_otp_controller.specs.Starting.{lacks_running, spawned, spawn_starter, add_starting, add_request, reply_each, with_requests, reply_to_requester, end_starting, set_running, started_by, has_started}
use Rattle.rh_otp_controller.specs.State.{ControllerView, TurnView}
use Rattle.rh_otp_model.specs.declared.fault.Outcome.TheVariants as outcome
use Rattle.rh_otp_model.specs.declared.message.Change.{Change}
use Rattle.rh_otp_model.specs.declared.message.Change.TheVariants as change_of
use Rattle.rh_otp_model.specs.declared.message.Message.TheVariants as message
use Rattle.rh_otp_model.specs.declared.output.Envelope.{Envelope}
use Rattle.rh_otp_model.specs.declared.output.Event.TheVariants as event
use Rattle.rh_otp_model.specs.declared.output.Output.{Output}
use Rattle.rh_otp_model.specs.declared.output.Output.TheVariants as output
use Rattle.rh_otp_model.specs.declared.process.Process.{Process}
use Rattle.rh_otp_model.specs.declared.process.Role.TheVariants as role
use Rattle.rh_otp_model.specs.declared.process.StartType.{StartType}
use Rattle.rh_otp_model.specs.declared.process.StartType.TheVariants.{Takeover}
use Rattle.rh_otp_model.specs.Own.{OwnView, controls}
use Rattle.rh_otp_model.specs.Processes.{process_at}
use Rattle.rh_otp_model.specs.Rows.{keyfind, keydelete, keystore, has_row, without, without_rows}
use Rattle.rh_otp_dist.specs.State.{DistView}
use Rattle.rh_otp_node.specs.Live.{LiveView, here_of, with_kind}
use Rattle.rh_otp_node.specs.Turns.{controller_turn, controlled_by}
use Rattle.rh_agreement_calls.proofs.Starting.{found_first, none_asked}

-- there is a row, and what it says
row_there : {T : Type 0} (o : Option T) → is_some o ≡ true → (x : T) × (o ≡ Some x)
row_there None is = absurd (false≢true is)
row_there (Some x) is = (x, refl)

-- both ways come to the same
either : {A : Type 0} (b : Bool) (x : A) → cond b x x ≡ x
either true x = refl
either false x = refl

module _ (c : ClusterView) (own : OwnView) (n at : Node) (a : App) (restart : Restart) (v : LiveView) (o : Option DistView)
    (controlled : controls own a ≡ true) (stays : v.controller.is_ending ≡ false)
    (started : has_row a v.controller.started ≡ true) (listed : has_row a v.controller.running ≡ true)
    (off : is_here (keyfind a v.controller.running) ≡ false) (unasked : has_row a v.controller.start_req ≡ false)
    (runs : lacks_running (controller_turn c own n v) a ≡ None) where
  abbrev kind : StartType
  kind = Takeover at

  -- its dist_ac has noted the takeover
  abbrev pub asked_node : LiveView
  asked_node = record v { dist = o }

  abbrev turn : TurnView
  turn = controller_turn c own n asked_node

  -- ---- it starts it

  -- the restart type and the kind, unless it was being started
  abbrev row : Starting
  row = record { restart = kept_restart (Some restart) (keyfind a v.controller.started); kind = kind }

  abbrev rows : List (App × Starting)
  rows = cond (has_row a v.controller.starting) v.controller.starting ((a, row) ∷ v.controller.starting)

  abbrev pub beginning : ControllerView
  beginning = record v.controller {
    ended = without a v.controller.ended;
    starting = rows;
    start_req = (a, None) ∷ v.controller.start_req;
  }

  -- what its starter says
  abbrev pub begun : Envelope
  begun = record {
    from = process_at (here_of n v) (role.Starter a);
    to = process_at (here_of n v) role.Controller;
    message = message.ApplicationStarted a None;
  }

  abbrev pub begin_out : List Output
  begin_out = output.Tell (event.Started a n kind) ∷ output.Send begun ∷ []

  abbrev what : Change
  what = change_of.Takeover at (Some restart)

  spawned_so : spawn_starter a kind turn ≡ spawned a kind None turn
  unfolding spawn_starter
  spawned_so = ap (λ x. spawned a kind x turn) runs

  as_starting : (b : Bool) → has_row a v.controller.starting ≡ b
      → cond b (spawned a kind None turn) (add_starting a row.restart kind (spawned a kind None turn))
      ≡ record (spawned a kind None turn) {
        state = record (spawned a kind None turn).state { starting = cond b v.controller.starting ((a, row) ∷ v.controller.starting) };
      }
  as_starting true is = refl
  as_starting false is = refl

  start_so : do_start a (Some restart) kind turn ≡ record turn { state = beginning; out = begin_out }
  unfolding do_start
  start_so =
      (λ i. cond (unasked i) turn (add_request a None
      (cond (has_row a (spawned_so i).state.starting) (spawned_so i)
      (add_starting a (kept_restart (Some restart) (keyfind a v.controller.started)) kind (spawned_so i)))))
      ∙ ap (add_request a None) (as_starting (has_row a v.controller.starting) refl)

  at_place : (place : Place) → is_here (Some place) ≡ false → change_running a what place turn ≡ do_start a (Some restart) kind turn
  at_place Here is = absurd (false≢true (sym is))
  at_place (At k) is = refl
  at_place Nowhere is = refl

  change_so : change a what turn ≡ record turn { state = beginning; out = begin_out }
  unfolding change
  change_so =
      let at_row = row_there (keyfind a v.controller.running) listed in
      ap (λ (x : Option Place). changed a what x turn) at_row.1
      ∙ ap (λ (b : Bool). cond b (change_running a what at_row.0 turn) (change_idle a what turn)) started
      ∙ at_place at_row.0 (sym (ap is_here at_row.1) ∙ off)
      ∙ start_so

  pub begins : controlled_by c own n (message.Change a what) asked_node ≡ (record asked_node { controller = beginning }, begin_out)
  unfolding controlled_by received
  begins =
      (λ i.
      let t : TurnView = cond (stays i) turn (handled (message.Change a what) turn) in
      (record asked_node { controller = t.state }, t.out))
      ∙ ap (λ (t : TurnView). (record asked_node { controller = t.state }, t.out)) change_so

  -- ---- and tells its dist_ac

  -- the node, where its start was seen
  abbrev pub seen_node : LiveView
  seen_node = with_kind a kind (record asked_node { controller = beginning })

  abbrev then : TurnView
  then = controller_turn c own n seen_node

  pub found : (x : Starting) × (keyfind a rows ≡ Some x)
  found = by (has_row a v.controller.starting) refl
    where
      by : (b : Bool) → has_row a v.controller.starting ≡ b
          → (x : Starting) × (keyfind a (cond b v.controller.starting ((a, row) ∷ v.controller.starting)) ≡ Some x)
      by true is = row_there (keyfind a v.controller.starting) is
      by false is = (row, found_first a row v.controller.starting)

  abbrev pub kept : ControllerView
  kept = record beginning {
    running = keystore a Here beginning.running;
    started = keystore a found.0.restart beginning.started;
    starting = keydelete a beginning.starting;
    start_req = without_rows a beginning.start_req;
  }

  abbrev pub runs_now : Envelope
  runs_now = record {
    from = process_at (here_of n v) role.Controller;
    to = process_at (here_of n v) role.DistAc;
    message = message.Run a None;
  }

  abbrev pub end_out : List Output
  end_out = output.Send runs_now ∷ []

  abbrev left : List (App × Option Process)
  left = without_rows a beginning.start_req

  replies_so : reply_each a outcome.Done beginning.start_req then ≡ then
  replies_so =
      ap (reply_each a outcome.Done v.controller.start_req) (either (a.0 == a.0) then)
      ∙ none_asked a outcome.Done v.controller.start_req then unasked

  abbrev started_over : TurnView → TurnView
  started_over t = let told : TurnView = with_requests left t in started_by a Here None (keyfind a told.state.starting) told

  end_so : has_started a Here None then ≡ record then { state = kept; out = end_out }
  unfolding has_started reply_to_requester
  end_so =
      ap started_over replies_so
      ∙ ap (λ (x : Option Starting). started_by a Here None x (with_requests left then)) found.1
      ∙ ap (λ (b : Bool). set_running a Here found.0.restart
      (cond b (send (process_at then.here role.DistAc) (message.Run a None) (end_starting a (with_requests left then)))
      (end_starting a (with_requests left then)))) controlled

  pub ends : controlled_by c own n (message.ApplicationStarted a None) seen_node ≡ (record seen_node { controller = kept }, end_out)
  unfolding controlled_by received
  ends =
      (λ i.
      let t : TurnView = cond (stays i) then (handled (message.ApplicationStarted a None) then) in
      (record seen_node { controller = t.state }, t.out))
      ∙ ap (λ (t : TurnView). (record seen_node { controller = t.state }, t.out)) end_so
