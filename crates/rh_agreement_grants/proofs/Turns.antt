-- What a controller does where its dist_ac has it start an application, or take it over, that is started there, and doesn't run there: it
-- starts it, and at the starter's report it tells dist_ac.
use Rattle.std.proofs.Common.{◌≡◌, ◌+◌, ◌==◌, ℕ, suc, Bool, true, false, not, cond, find, List, [], ◌∷◌, Option, Some, None, is_some, slice_set, unwrap_or, refl, sym, ap, ◌∙◌, arith}
use Rattle.std.specs.List.{position_or_len}
use Rattle.std.specs.Option.{option_map}
use Rattle.std.proofs.lemmas.Bool.{false≢true}
use Rattle.rh_model.specs.ClusterView.{ClusterView}
use Rattle.rh_model.specs.declared.node.App.{App}
use Rattle.rh_model.specs.declared.node.Node.{Node}
use Rattle.rh_model.specs.declared.settings.Restart.{Restart}
use Rattle.rh_otp_controller.specs.declared.state.Place.{Place}
use Rattle.rh_otp_controller.specs.declared.state.Place.TheVariants.{Here, At, Nowhere}
use Rattle.rh_otp_controller.specs.declared.state.Starting.{Starting}
use Rattle.rh_otp_controller.specs.Calls.{is_here}
use Rattle.rh_otp_controller.specs.Changes.{do_start, kept_restart, change, changed, change_running, change_idle, handled, received}
use Rattle.rh_otp_controller.specs.Sending.{send}
use Rattle.rh_otp_controller.specs.Starting.{lacks_running, spawned, spawn_starter, add_starting, add_request, reply_each, with_requests, reply_to_requester, end_starting, set_running, started_by, has_started}
use Rattle.rh_otp_controller.specs.State.{ControllerView, TurnView}
use Rattle.rh_otp_model.specs.declared.fault.Outcome.TheVariants as outcome
use Rattle.rh_otp_model.specs.declared.message.Change.{Change}
use Rattle.rh_otp_model.specs.declared.message.Change.TheVariants as change_of
use Rattle.rh_otp_model.specs.declared.message.Message.TheVariants as message
use Rattle.rh_otp_model.specs.declared.output.Envelope.{Envelope}
use Rattle.rh_otp_model.specs.declared.output.Event.TheVariants as event
use Rattle.rh_otp_model.specs.declared.output.Output.{Output}
use Rattle.rh_otp_model.specs.declared.output.Output.TheVariants as output
use Rattle.rh_otp_model.specs.declared.process.Process.{Process}
use Rattle.rh_otp_model.specs.declared.process.Role.TheVariants as role
use Rattle.rh_otp_model.specs.declared.process.StartType.{StartType}
use Rattle.rh_otp_model.specs.declared.process.StartType.TheVariants.{Normal, Takeover}
use Rattle.rh_otp_model.specs.Own.{OwnView, controls}
use Rattle.rh_otp_model.specs.Processes.{process_at}
use Rattle.rh_otp_model.specs.Rows.{is_of, keyfind, keydelete, keyreplace, keystore, has_row, without, without_rows}
use Rattle.rh_otp_node.specs.Live.{LiveView, here_of, with_kind}
use Rattle.rh_otp_node.specs.Turns.{controller_turn, controlled_by}
use Rattle.rh_agreement_calls.proofs.Starting.{found_first, none_asked}

-- ---- rows

-- the row that is replaced is found
found_replaced : {T : Type 0} (a : App) (x : T) (rows : List (App × T)) → is_some (keyfind a rows) ≡ true
    → keyfind a (keyreplace a x rows) ≡ Some x
found_replaced a x [] has = absurd (false≢true has)
found_replaced {T} a x (r ∷ rows) has = by (is_of a r) refl has (found_replaced a x rows)
  where
    at : ℕ → Option T
    at k = keyfind a (slice_set (r ∷ rows) k (a, x))

    next : ℕ
    next = position_or_len (is_of a) rows

    one_more : 1 + next ≡ suc next
    one_more = omega arith

    found_by : Bool → List (App × T) → Option T
    found_by b others = option_map (λ (row : App × T). row.1) (cond b (Some r) (find (is_of a) others))

    by : (b : Bool) → is_of a r ≡ b → is_some (keyfind a (r ∷ rows)) ≡ true
        → (is_some (keyfind a rows) ≡ true → keyfind a (keyreplace a x rows) ≡ Some x) → keyfind a (keyreplace a x (r ∷ rows)) ≡ Some x
    by true so has rest = ap (λ (b : Bool). at (cond (not b) (1 + next) 0)) so ∙ found_first a x rows
    by false so has rest =
        ap (λ (b : Bool). at (cond (not b) (1 + next) 0)) so ∙ ap at one_more
        ∙ ap (λ (b : Bool). found_by b (keyreplace a x rows)) so
        ∙ rest (sym (ap (λ (b : Bool). is_some (found_by b rows)) so) ∙ has)

-- and so is the one that is stored
pub found_stored : {T : Type 0} (a : App) (x : T) (rows : List (App × T)) → keyfind a (keystore a x rows) ≡ Some x
found_stored {T} a x rows = by (is_some (keyfind a rows)) refl
  where
    by : (b : Bool) → is_some (keyfind a rows) ≡ b → keyfind a (cond b (keyreplace a x rows) ((a, x) ∷ rows)) ≡ Some x
    by true is = found_replaced a x rows is
    by false is = found_first a x rows

-- ---- what it is told to do

-- to start it, or to take it over from a node, if it has it as one that runs, there or elsewhere
pub data IsOrder (listed : Bool) : Change → StartType → Type 0 where
  starts_it : IsOrder listed change_of.StartIt Normal
  takes_over : (m : Node) → listed ≡ true → IsOrder listed (change_of.Takeover m None) (Takeover m)

-- where it stands in the list of what runs, and not here
at_place : {listed : Bool} (what : Change) (kind : StartType) (a : App) (place : Place) (t : TurnView) → IsOrder listed what kind
    → is_here (Some place) ≡ false → change_running a what place t ≡ do_start a None kind t
at_place _ _ a Here t order away = absurd (false≢true (sym away))
at_place _ _ a (At m) t starts_it away = refl
at_place _ _ a (At m) t (takes_over k is) away = refl
at_place _ _ a Nowhere t starts_it away = refl
at_place _ _ a Nowhere t (takes_over k is) away = refl

-- and where it stands nowhere in it
abbrev started_idle : App → StartType → TurnView → TurnView
started_idle a kind t =
    let told : TurnView = do_start a None kind t in record told { state = record told.state { started = keydelete a told.state.started } }

in_no_list : {listed : Bool} (what : Change) (kind : StartType) (a : App) (t : TurnView) → IsOrder listed what kind → listed ≡ false
    → change_idle a what t
    ≡ cond (has_row a t.state.running) t
    (cond (has_row a t.state.started) (started_idle a kind t) (cond (has_row a t.state.starting) (do_start a None kind t) t))
in_no_list _ _ a t starts_it none = refl
in_no_list _ _ a t (takes_over k is) none = absurd (false≢true (sym none ∙ is))

-- both ways come to the same
either : {A : Type 0} (b : Bool) (x : A) → cond b x x ≡ x
either true x = refl
either false x = refl

module _ (c : ClusterView) (own : OwnView) (n : Node) (a : App) (v : LiveView) (controlled : controls own a ≡ true)
    (stays : v.controller.is_ending ≡ false) (started : has_row a v.controller.started ≡ true)
    (off : is_here (keyfind a v.controller.running) ≡ false) (unasked : has_row a v.controller.start_req ≡ false)
    (runs : lacks_running (controller_turn c own n v) a ≡ None) (what : Change) (kind : StartType)
    (order : IsOrder (has_row a v.controller.running) what kind) where
  abbrev turn : TurnView
  turn = controller_turn c own n v

  -- ---- it starts it

  -- the restart type and the kind, unless it was being started
  abbrev new_row : Starting
  new_row = record { restart = kept_restart None (keyfind a v.controller.started); kind = kind }

  abbrev row_of : Option Starting → Starting
  row_of o = unwrap_or o new_row

  abbrev rows_of : Option Starting → List (App × Starting)
  rows_of o = cond (is_some o) v.controller.starting ((a, new_row) ∷ v.controller.starting)

  -- what is started, where it stands in no list of what runs
  abbrev left_of : Option Place → List (App × Option Restart)
  left_of None = keydelete a v.controller.started
  left_of (Some place) = v.controller.started

  abbrev being_started : List (App × Option Restart) → ControllerView
  being_started rows = record v.controller {
    started = rows;
    ended = without a v.controller.ended;
    starting = rows_of (keyfind a v.controller.starting);
    start_req = (a, None) ∷ v.controller.start_req;
  }

  abbrev pub beginning : ControllerView
  beginning = being_started (left_of (keyfind a v.controller.running))

  -- what its starter says
  abbrev pub begun : Envelope
  begun = record {
    from = process_at (here_of n v) (role.Starter a);
    to = process_at (here_of n v) role.Controller;
    message = message.ApplicationStarted a None;
  }

  abbrev pub begin_out : List Output
  begin_out = output.Tell (event.Started a n kind) ∷ output.Send begun ∷ []

  abbrev begun_turn : List (App × Option Restart) → TurnView
  begun_turn rows = record turn { state = being_started rows; out = begin_out }

  spawned_so : spawn_starter a kind turn ≡ spawned a kind None turn
  unfolding spawn_starter
  spawned_so = ap (λ x. spawned a kind x turn) runs

  as_starting : (o : Option Starting) → add_request a None
      (cond (is_some o) (spawned a kind None turn) (add_starting a new_row.restart kind (spawned a kind None turn)))
      ≡ record (begun_turn v.controller.started) {
        state = record (being_started v.controller.started) { starting = rows_of o };
      }
  as_starting (Some x) = refl
  as_starting None = refl

  start_so : do_start a None kind turn ≡ begun_turn v.controller.started
  unfolding do_start
  start_so =
      (λ i. cond (unasked i) turn (add_request a None
      (cond (has_row a (spawned_so i).state.starting) (spawned_so i)
      (add_starting a (kept_restart None (keyfind a v.controller.started)) kind (spawned_so i)))))
      ∙ as_starting (keyfind a v.controller.starting)

  change_so : change a what turn ≡ begun_turn (left_of (keyfind a v.controller.running))
  unfolding change
  change_so = by (keyfind a v.controller.running) refl off
    where
      by : (o : Option Place) → keyfind a v.controller.running ≡ o → is_here o ≡ false → changed a what o turn ≡ begun_turn (left_of o)
      by (Some place) is away =
          ap (λ (b : Bool). cond b (change_running a what place turn) (change_idle a what turn)) started
          ∙ at_place what kind a place turn order away ∙ start_so
      by None is away =
          let deleted : TurnView → TurnView =
          λ (t : TurnView). record t { state = record t.state { started = keydelete a t.state.started } } in
          let otherwise : TurnView = cond (has_row a v.controller.starting) (do_start a None kind turn) turn in
          in_no_list what kind a turn order (ap is_some is)
          ∙ (λ i. cond (is_some (is i)) turn (cond (started i) (deleted (do_start a None kind turn)) otherwise)) ∙ ap deleted start_so

  pub begins : controlled_by c own n (message.Change a what) v ≡ (record v { controller = beginning }, begin_out)
  unfolding controlled_by received
  begins =
      (λ i.
      let t : TurnView = cond (stays i) turn (handled (message.Change a what) turn) in
      (record v { controller = t.state }, t.out))
      ∙ ap (λ (t : TurnView). (record v { controller = t.state }, t.out)) change_so

  -- ---- and tells its dist_ac

  -- the node, where its start was seen
  abbrev pub seen_node : LiveView
  seen_node = with_kind a kind (record v { controller = beginning })

  abbrev then : TurnView
  then = controller_turn c own n seen_node

  abbrev kept_row : Starting
  kept_row = row_of (keyfind a v.controller.starting)

  found : keyfind a beginning.starting ≡ Some kept_row
  found = by (keyfind a v.controller.starting) refl
    where
      by : (o : Option Starting) → keyfind a v.controller.starting ≡ o → keyfind a (rows_of o) ≡ Some (row_of o)
      by (Some x) is = is
      by None is = found_first a new_row v.controller.starting

  abbrev pub kept : ControllerView
  kept = record beginning {
    running = keystore a Here beginning.running;
    started = keystore a kept_row.restart beginning.started;
    starting = keydelete a beginning.starting;
    start_req = without_rows a beginning.start_req;
  }

  abbrev pub runs_now : Envelope
  runs_now = record {
    from = process_at (here_of n v) role.Controller;
    to = process_at (here_of n v) role.DistAc;
    message = message.Run a None;
  }

  abbrev pub end_out : List Output
  end_out = output.Send runs_now ∷ []

  abbrev left : List (App × Option Process)
  left = without_rows a beginning.start_req

  replies_so : reply_each a outcome.Done beginning.start_req then ≡ then
  replies_so =
      ap (reply_each a outcome.Done v.controller.start_req) (either (a.0 == a.0) then)
      ∙ none_asked a outcome.Done v.controller.start_req then unasked

  abbrev started_over : TurnView → TurnView
  started_over t = let told : TurnView = with_requests left t in started_by a Here None (keyfind a told.state.starting) told

  end_so : has_started a Here None then ≡ record then { state = kept; out = end_out }
  unfolding has_started reply_to_requester
  end_so =
      ap started_over replies_so
      ∙ ap (λ (x : Option Starting). started_by a Here None x (with_requests left then)) found
      ∙ ap (λ (b : Bool). set_running a Here kept_row.restart
      (cond b (send (process_at then.here role.DistAc) (message.Run a None) (end_starting a (with_requests left then)))
      (end_starting a (with_requests left then)))) controlled

  pub ends : controlled_by c own n (message.ApplicationStarted a None) seen_node ≡ (record seen_node { controller = kept }, end_out)
  unfolding controlled_by received
  ends =
      (λ i.
      let t : TurnView = cond (stays i) then (handled (message.ApplicationStarted a None) then) in
      (record seen_node { controller = t.state }, t.out))
      ∙ ap (λ (t : TurnView). (record seen_node { controller = t.state }, t.out)) end_so

  -- it runs there then
  pub is_running : is_here (keyfind a kept.running) ≡ true
  is_running = ap is_here (found_stored a Here v.controller.running)
