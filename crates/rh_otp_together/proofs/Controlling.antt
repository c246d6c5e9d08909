-- What a controller does of a start in a boot script where nothing fails: of one that is its own, and of one that dist_ac controls.
use Rattle.std.proofs.Common.{◌≡◌, ◌&&◌, Bool, true, false, not, cond, List, [], ◌∷◌, Option, Some, None, refl, ap, ◌∙◌}
use Rattle.std.specs.Option.{option_map}
use Rattle.std.proofs.lemmas.Bool.{eq-eqb}
use Rattle.rh_model.specs.ClusterView.{ClusterView}
use Rattle.rh_model.specs.declared.node.App.{App}
use Rattle.rh_model.specs.declared.node.Node.{Node}
use Rattle.rh_model.specs.declared.settings.Dep.{Dep}
use Rattle.rh_model.specs.declared.settings.Restart.{Restart}
use Rattle.rh_otp_model.specs.declared.fault.Fault.TheVariants.{AlreadyStarted}
use Rattle.rh_otp_model.specs.declared.fault.Outcome.TheVariants.{Done, Failed}
use Rattle.rh_otp_model.specs.declared.message.Message.TheVariants as message
use Rattle.rh_otp_model.specs.declared.message.Reply.TheVariants as reply_of
use Rattle.rh_otp_model.specs.declared.output.Event.TheVariants as event
use Rattle.rh_otp_model.specs.declared.output.Output.TheVariants as output
use Rattle.rh_otp_model.specs.declared.process.Here.{Here}
use Rattle.rh_otp_model.specs.declared.process.Process.{Process}
use Rattle.rh_otp_model.specs.declared.process.Role.TheVariants as role
use Rattle.rh_otp_model.specs.declared.process.StartType.TheVariants.{Normal}
use Rattle.rh_otp_model.specs.Own.{OwnView, controls}
use Rattle.rh_otp_model.specs.Processes.{process_at}
use Rattle.rh_otp_model.specs.Rows.{keyfind, keydelete, keyreplace, keystore, has_row}
use Rattle.rh_otp_controller.specs.declared.state.Place.{Place}
use Rattle.rh_otp_controller.specs.declared.state.Place.TheVariants as place_of
use Rattle.rh_otp_controller.specs.declared.state.Starting.{Starting}
use Rattle.rh_otp_controller.specs.Calls.{is_forbidden, start, start_unless}
use Rattle.rh_otp_controller.specs.Changes.{received}
use Rattle.rh_otp_controller.specs.Sending.{reply, send}
use Rattle.rh_otp_controller.specs.Starting.{lacks_running, lacks_started, spawned, spawn_starter, add_request, add_starting, set_running, started_by, has_started, replied, start_reply}
use Rattle.rh_otp_controller.specs.State.{ControllerView, TurnView}
use Rattle.rh_otp_scripts.proofs.Controlling.{turn_with, answers_it, answered_so}
use Rattle.rh_otp_together.proofs.Apps.{deleted}
use Rattle.rh_otp_scripts.proofs.Words.{its_request, its_report, its_answer, own_news}

-- ---- how it stands

-- a controller at which nobody waits, and nothing has ended
abbrev pub calm_with : List (App × Bool) → List (App × Place) → List (App × Option Restart) → ControllerView
calm_with permissions running started = record {
  running = running;
  starting = [];
  started = started;
  start_p_false = [];
  start_req = [];
  permissions = permissions;
  ended = [];
  is_ending = false;
}

-- the boot script waits for the start of this application
abbrev pub awaiting : Process → App → Restart → ControllerView → ControllerView
awaiting p a restart x =
    record x { starting = (a, record { restart = Some restart; kind = Normal }) ∷ []; start_req = (a, Some p) ∷ [] }

-- the start is over
abbrev pub with_started : App → Place → Restart → ControllerView → ControllerView
with_started a place restart x = record x { running = (a, place) ∷ x.running; started = (a, Some restart) ∷ x.started }

module _ (c : ClusterView) (own : OwnView) (h : Here) (permissions : List (App × Bool)) (running : List (App × Place))
    (started : List (App × Option Restart)) (a : App) (restart : Restart) where
  abbrev pub x : ControllerView
  x = calm_with permissions running started

  abbrev pub t : TurnView
  t = turn_with c own h x

  abbrev pub waiting : TurnView
  waiting = turn_with c own h (awaiting (process_at h role.Boot) a restart x)

  -- ---- the script asks for a start

  -- it asks dist_ac
  pub asks_dist : has_row a running ≡ false → lacks_started t a ≡ None → controls own a ≡ true
      → received (message.Start a restart (process_at h role.Boot)) t ≡ record waiting { out = output.Send (its_request h a) ∷ [] }
  unfolding received start
  asks_dist not_yet lacks controlled =
      ap (λ (b : Bool). cond b (reply (process_at h role.Boot) (Failed (AlreadyStarted a)) t)
      (start_unless a restart (process_at h role.Boot) (lacks_started t a) t)) not_yet
      ∙ ap (λ (o : Option Dep). start_unless a restart (process_at h role.Boot) o t) lacks
      ∙ ap (λ (b : Bool). cond (not b && is_forbidden (keyfind a permissions))
      (reply (process_at h role.Boot) Done (record t { state = record t.state { start_p_false = (a, restart) ∷ t.state.start_p_false } }))
      (add_request a (Some (process_at h role.Boot)) (add_starting a (Some restart) Normal
      (cond b (cond b (send (process_at h role.DistAc) (message.StartRequest a) t) t) (spawn_starter a Normal t))))) controlled

  -- or starts it itself
  pub starts_own : has_row a running ≡ false → lacks_started t a ≡ None → controls own a ≡ false
      → is_forbidden (keyfind a permissions) ≡ false → lacks_running t a ≡ None
      → received (message.Start a restart (process_at h role.Boot)) t
      ≡ record waiting { out = output.Tell (event.Started a h.node Normal) ∷ output.Send (its_report h a None) ∷ [] }
  unfolding received start spawn_starter
  starts_own not_yet lacks local allowed there =
      ap (λ (b : Bool). cond b (reply (process_at h role.Boot) (Failed (AlreadyStarted a)) t)
      (start_unless a restart (process_at h role.Boot) (lacks_started t a) t)) not_yet
      ∙ ap (λ (o : Option Dep). start_unless a restart (process_at h role.Boot) o t) lacks
      ∙ ap (λ (b : Bool). cond (not b && is_forbidden (keyfind a permissions))
      (reply (process_at h role.Boot) Done (record t { state = record t.state { start_p_false = (a, restart) ∷ t.state.start_p_false } }))
      (add_request a (Some (process_at h role.Boot)) (add_starting a (Some restart) Normal
      (cond b (cond b (send (process_at h role.DistAc) (message.StartRequest a) t) t) (spawned a Normal (lacks_running t a) t))))) local
      ∙ ap (λ (b : Bool). cond b
      (reply (process_at h role.Boot) Done (record t { state = record t.state { start_p_false = (a, restart) ∷ t.state.start_p_false } }))
      (add_request a (Some (process_at h role.Boot)) (add_starting a (Some restart) Normal (spawned a Normal (lacks_running t a) t))))
      allowed
      ∙ ap (λ (o : Option Dep). add_request a (Some (process_at h role.Boot))
      (add_starting a (Some restart) Normal (spawned a Normal o t))) there

  -- ---- dist_ac answers

  abbrev row : Starting
  row = record { restart = Some restart; kind = Normal }

  found : keyfind a ((a, row) ∷ []) ≡ Some row
  found =
      ap (λ (b : Bool). option_map (λ (r : App × Starting). r.1) (cond b (Some (a, row)) None)) (eq-eqb a.0 a.0 refl)

  none_starting : keydelete a ((a, row) ∷ []) ≡ []
  none_starting = deleted a (a, row) [] ∙ ap (λ (b : Bool). cond b [] ((a, row) ∷ [])) (eq-eqb a.0 a.0 refl)

  -- it is to start here
  pub starts_here : lacks_running waiting a ≡ None
      → received (message.Reply a reply_of.StartIt) waiting
      ≡ record waiting { out = output.Tell (event.Started a h.node Normal) ∷ output.Send (its_report h a None) ∷ [] }
  unfolding received start_reply spawn_starter
  starts_here there =
      ap (λ (o : Option Starting). replied a reply_of.StartIt o waiting) found
      ∙ ap (λ (o : Option Dep). spawned a Normal o waiting) there

  -- it has started at another node, and the script has its answer
  pub starts_there : (n : Node) → has_row a running ≡ false → has_row a started ≡ false
      → received (message.Reply a (reply_of.Started n)) waiting
      ≡ record t { state = with_started a (place_of.At n) restart x; out = output.Send (its_answer h Done) ∷ [] }
  unfolding received start_reply has_started
  starts_there n not_yet not_started =
      ap (λ (o : Option Starting). replied a (reply_of.Started n) o waiting) found
      ∙ ap (λ (u : TurnView). started_by a (place_of.At n) None (keyfind a u.state.starting) u)
      (answers_it a Done c own h (record x { starting = (a, row) ∷ [] }))
      ∙ ap (λ (o : Option Starting). started_by a (place_of.At n) None o (answered_so Done waiting)) found
      ∙ ap (λ (l : List (App × Starting)). set_running a (place_of.At n) (Some restart)
      (record (answered_so Done waiting) { state = record (answered_so Done waiting).state { starting = l } })) none_starting
      ∙ ap (λ (b : Bool). record t {
        state = record x {
          running = cond b (keyreplace a (place_of.At n) running) ((a, place_of.At n) ∷ running);
          started =
              keystore a (Some restart) started;
        };
        out = output.Send (its_answer h Done) ∷ [];
      }) not_yet
      ∙ ap (λ (b : Bool). record t {
        state = record x {
          running = (a, place_of.At n) ∷ running;
          started = cond b (keyreplace a (Some restart) started) ((a, Some restart) ∷ started);
        };
        out = output.Send (its_answer h Done) ∷ [];
      }) not_started

  -- ---- the starter reports

  reported : (b : Bool) → has_row a running ≡ false → has_row a started ≡ false → controls own a ≡ b
      → received (message.ApplicationStarted a None) waiting
      ≡ record t {
        state = with_started a place_of.Here restart x;
        out = output.Send (its_answer h Done) ∷ cond b (output.Send (own_news h a None) ∷ []) [];
      }
  unfolding received has_started
  reported b not_yet not_started controlled =
      ap (λ (u : TurnView). started_by a place_of.Here None (keyfind a u.state.starting) u)
      (answers_it a Done c own h (record x { starting = (a, row) ∷ [] }))
      ∙ ap (λ (o : Option Starting). started_by a place_of.Here None o (answered_so Done waiting)) found
      ∙ ap (λ (l : List (App × Starting)). ran_with (controls own a)
      (record (answered_so Done waiting) { state = record (answered_so Done waiting).state { starting = l } })) none_starting
      ∙ ap (λ (d : Bool). ran_with d
      (record (answered_so Done waiting) { state = record (answered_so Done waiting).state { starting = [] } })) controlled
      ∙ told_by b
      ∙ ap (λ (d : Bool). record t {
        state = record x {
          running = cond d (keyreplace a place_of.Here running) ((a, place_of.Here) ∷ running);
          started =
              keystore a (Some restart) started;
        };
        out = output.Send (its_answer h Done) ∷ cond b (output.Send (own_news h a None) ∷ []) [];
      }) not_yet
      ∙ ap (λ (d : Bool). record t {
        state = record x {
          running = (a, place_of.Here) ∷ running;
          started = cond d (keyreplace a (Some restart) started) ((a, Some restart) ∷ started);
        };
        out = output.Send (its_answer h Done) ∷ cond b (output.Send (own_news h a None) ∷ []) [];
      }) not_started
    where
      ran_with : Bool → TurnView → TurnView
      ran_with d u = set_running a place_of.Here (Some restart) (cond d (send (process_at h role.DistAc) (message.Run a None) u) u)

      told_by : (d : Bool)
          → ran_with d (record (answered_so Done waiting) { state = record (answered_so Done waiting).state { starting = [] } })
          ≡ record t {
            state = record x {
              running = cond (has_row a running) (keyreplace a place_of.Here running) ((a, place_of.Here) ∷ running);
              started = keystore a (Some restart) started;
            };
            out = output.Send (its_answer h Done) ∷ cond d (output.Send (own_news h a None) ∷ []) [];
          }
      told_by true = refl
      told_by false = refl

  -- of one that dist_ac controls, dist_ac is told, too
  pub reports_dist : has_row a running ≡ false → has_row a started ≡ false → controls own a ≡ true
      → received (message.ApplicationStarted a None) waiting
      ≡ record t {
        state = with_started a place_of.Here restart x;
        out = output.Send (its_answer h Done) ∷ output.Send (own_news h a None) ∷ [];
      }
  reports_dist not_yet not_started controlled = reported true not_yet not_started controlled

  pub reports_own : has_row a running ≡ false → has_row a started ≡ false → controls own a ≡ false
      → received (message.ApplicationStarted a None) waiting
      ≡ record t { state = with_started a place_of.Here restart x; out = output.Send (its_answer h Done) ∷ [] }
  reports_own not_yet not_started local = reported false not_yet not_started local
