-- What a controller does in single cases, as live nodes of OTP 25.2.3 have shown it, computed from the definitions. Its node has no
-- dist_ac, and runs db and web; web needs db.
use Rattle.std.proofs.Common.{◌≡◌, ◌∷◌, [], List, true, false, None, Some, codes, refl}
use Rattle.rh_model.specs.ClusterView.{ClusterView, AppView, app_numbered, numbered}
use Rattle.rh_model.specs.declared.node.App.{App}
use Rattle.rh_model.specs.declared.settings.Dep.TheVariants.{Listed}
use Rattle.rh_model.specs.declared.settings.Restart.TheVariants.{Permanent, Temporary}
use Rattle.rh_model.proofs.PlainNode.{plain_node}
use Rattle.rh_otp_model.specs.declared.fault.Fault.TheVariants.{NeedsStarted, NeedsRunning, NotStarted}
use Rattle.rh_otp_model.specs.declared.fault.Outcome.{Outcome}
use Rattle.rh_otp_model.specs.declared.fault.Outcome.TheVariants.{Done, Failed}
use Rattle.rh_otp_model.specs.declared.message.Message.{Message}
use Rattle.rh_otp_model.specs.declared.message.Message.TheVariants as message
use Rattle.rh_otp_model.specs.declared.output.Event.TheVariants as event
use Rattle.rh_otp_model.specs.declared.output.Output.{Output}
use Rattle.rh_otp_model.specs.declared.output.Output.TheVariants.{Send, Tell}
use Rattle.rh_otp_model.specs.declared.process.Process.{Process}
use Rattle.rh_otp_model.specs.declared.process.Role.TheVariants as role
use Rattle.rh_otp_model.specs.declared.process.StartType.TheVariants.{Normal}
use Rattle.rh_otp_controller.specs.declared.state.Place.TheVariants.{Here}
use Rattle.rh_otp_controller.specs.State.{TurnView, ControllerView}
use Rattle.rh_otp_controller.specs.First.{first}
use Rattle.rh_otp_controller.specs.Starting.{spawn_starter, reply_to_requester, has_started}
use Rattle.rh_otp_controller.specs.Calls.{start, stop, permit, top_ends}
use Rattle.rh_otp_controller.specs.Changes.{received}

abbrev db : App
db = app_numbered 0

abbrev web : App
web = app_numbered 1

abbrev cluster : ClusterView
cluster = record {
  profile = 2;
  node_names = codes "n1" ∷ [];
  app_names = codes "db" ∷ codes "web" ∷ [];
  platform_names = [];
  nodes = record plain_node { permissions = true ∷ true ∷ [] } ∷ [];
  apps = record { deps = []; start_arg = None; phases = false; spread = None }
      ∷ record { deps = Listed db ∷ []; start_arg = None; phases = false; spread = None }
      ∷ [];
}

-- the controller in this state, which has done nothing yet
abbrev in_state : ControllerView → TurnView
in_state c = record {
  cluster = cluster;
  own = record { has_dist = false; entries = [] };
  here = record { node = numbered 0; life = 1 };
  state = c;
  out = [];
}

-- behind these messages
abbrev behind : List Message → TurnView → TurnView
behind [] t = t
behind (m ∷ ms) t = behind ms (received m t)

-- the process of a call, and the controller
abbrev caller : Process
caller = record { role = role.Call 1; node = numbered 0; life = 1 }

abbrev answers : Outcome → Output
answers outcome = Send (record { from = record { role = role.Controller; node = numbered 0; life = 1 }; to = caller; message = message.Answer outcome })

-- the answer of the process that starts an application
abbrev starter_says : App → Message → Output
starter_says a m = Send (record { from = record { role = role.Starter a; node = numbered 0; life = 1 }; to = record { role = role.Controller; node = numbered 0; life = 1 }; message = m })

-- An application that is started while forbidden waits. A second "no" forgets the start, so "yes" starts nothing.
second_no_row : behind (message.Start db Permanent caller ∷ message.Permit db false caller ∷ message.Permit db true caller ∷ []) (in_state (first ((db, false) ∷ [])))
    ≡ record (in_state (first ((db, true) ∷ []))) { out = answers Done ∷ answers Done ∷ answers Done ∷ [] }
unfolding received start permit spawn_starter
second_no_row = refl

-- One that runs stops where it is forbidden, and the permission isn't kept: so a later start starts it.
forbidden_while_it_runs_row : (behind (message.Permit db false caller ∷ message.Start db Temporary caller ∷ [])
    (in_state (record (first []) { running = (db, Here) ∷ []; started = (db, Some Permanent) ∷ [] }))).out
    ≡ Tell (event.Stopped db (numbered 0)) ∷ answers Done ∷ Tell (event.Started db (numbered 0) Normal) ∷ starter_says db (message.ApplicationStarted db None) ∷ []
unfolding received start permit spawn_starter
forbidden_while_it_runs_row = refl

-- What it needs was never started: an error, and nothing changes.
before_its_need_row : behind (message.Start web Permanent caller ∷ []) (in_state (first []))
    ≡ record (in_state (first [])) { out = answers (Failed (NeedsStarted (Listed db))) ∷ [] }
unfolding received start
before_its_need_row = refl

-- what db leaves that has ended by itself: it counts as started, and doesn't run
abbrev db_ended : ControllerView
db_ended = record (first []) { started = (db, Some Temporary) ∷ []; ended = db ∷ [] }

-- What it needs has ended by itself: the start fails, and ends the node, unless the application is temporary.
need_has_ended_row : ((behind (message.Start web Permanent caller ∷ message.ApplicationStarted web (Some (Listed db)) ∷ []) (in_state db_ended)).out
    ≡ starter_says web (message.ApplicationStarted web (Some (Listed db))) ∷ answers (Failed (NeedsRunning (Listed db))) ∷ [])
    × ((behind (message.Start web Permanent caller ∷ message.ApplicationStarted web (Some (Listed db)) ∷ []) (in_state db_ended)).state.is_ending ≡ true)
    × ((behind (message.Start web Temporary caller ∷ message.ApplicationStarted web (Some (Listed db)) ∷ []) (in_state db_ended)).state.is_ending ≡ false)
unfolding received start spawn_starter has_started reply_to_requester
need_has_ended_row = (refl, refl, refl)

-- Who stops one that ended by itself is answered ok, and who stops one that was started while forbidden an error.
stops_row : ((behind (message.Stop db caller ∷ []) (in_state db_ended)).out ≡ answers Done ∷ [])
    × ((behind (message.Stop db caller ∷ []) (in_state (record (first []) { start_p_false = (db, Permanent) ∷ [] }))).out ≡ answers (Failed (NotStarted db)) ∷ [])
unfolding received stop
stops_row = (refl, refl)

-- A permanent application that ends takes its node with it, a temporary one doesn't; it is told as stopped first.
ends_row : ((behind (message.TopEnds db true caller ∷ []) (in_state (record (first []) { running = (db, Here) ∷ []; started = (db, Some Permanent) ∷ [] }))).state.is_ending ≡ true)
    × ((behind (message.TopEnds db false caller ∷ []) (in_state (record (first []) { running = (db, Here) ∷ []; started = (db, Some Temporary) ∷ [] }))).state
    ≡ db_ended)
unfolding received top_ends
ends_row = (refl, refl)
