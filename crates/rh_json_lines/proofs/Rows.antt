-- Worked rows: the lines of a cluster, of commands and of a report, computed from the definitions.
use Rattle.std.proofs.Common.{◌≡◌, ◌++◌, [], ◌∷◌, codes, true, false, Some, None, refl}
use Rattle.std.specs.Fmt.{digits}
use Rattle.rh_model.specs.ClusterView.{ClusterView, numbered, app_numbered}
use Rattle.rh_model.specs.declared.node.App.{App}
use Rattle.rh_model.specs.declared.settings.Restart.TheVariants.{Permanent, Transient, Temporary}
use Rattle.rh_state.specs.Numbers.{nodes_of, apps_of}
use Rattle.rh_state.specs.First.{first, configured}
use Rattle.rh_state.specs.StateView.{StateView}
use Rattle.rh_state.specs.declared.status.Kind.TheVariants as kind
use Rattle.rh_state.specs.declared.status.Mode.TheVariants as mode
use Rattle.rh_state.specs.declared.status.Standing.TheVariants as standing
use Rattle.rh_state.specs.declared.status.Timer.TheVariants.{Sync, Failover}
use Rattle.rh_rules.specs.declared.notice.Notice.TheVariants.{Up, Ended, Started, Stopped, Waits}
use Rattle.rh_rules.specs.declared.refusal.Refusal.TheVariants.{NotAlive}
use Rattle.rh_step.specs.Firings.{firing}
use Rattle.rh_calls.specs.declared.call.Reply.TheVariants as reply
use Rattle.rh_script.specs.Answers.{notice_line, answer_text}
use Rattle.rh_json_text.specs.Json.{escaped, json_string, json_array}
use Rattle.rh_json_lines.specs.ClusterLines.{node_json, app_json, group_json, settings_json, cluster_line, refused_json, refused_line}
use Rattle.rh_json_lines.specs.Starts.{start_json}
use Rattle.rh_json_lines.specs.Notices.{pair_json, notice_json}
use Rattle.rh_json_lines.specs.Reports.{started_json, running_json, waiting_json, mode_json, running_list, waiting_list, forbidden_list, lists_json, state_json, standing_json, timer_json, place_json, parts_json, report_json, bare_report}
use Rattle.rh_json_lines.specs.AnswerLines.{head_json, reply_line, bad_json}

-- ---- a cluster: web runs at n1, else at n2 or n3, which rank alike; db is local
abbrev db : App
db = app_numbered 0

abbrev web : App
web = app_numbered 1

abbrev cluster : ClusterView
cluster = record {
  profile = 2;
  node_names = codes "n1" ∷ codes "n2" ∷ codes "n\"3" ∷ [];
  app_names = codes "db" ∷ codes "web" ∷ [];
  platform_names = [];
  nodes = [];
  apps = record { deps = []; start_arg = None; phases = false; spread = None }
      ∷ record { deps = []; start_arg = None; phases = false; spread = Some (record { timeout = 5000; groups = (numbered 0 ∷ []) ∷ (numbered 1 ∷ numbered 2 ∷ []) ∷ [] }) }
      ∷ [];
}

cluster_row : cluster_line cluster
    ≡ codes "{\"profile\":2,\"nodes\":[\"n1\",\"n2\",\"n\\\"3\"],\"applications\":[{\"name\":\"db\",\"distributed\":false},{\"name\":\"web\",\"distributed\":true,\"nodes\":[[\"n1\"],[\"n2\",\"n\\\"3\"]]}]}\n"
unfolding cluster_line settings_json group_json node_json app_json json_array json_string escaped nodes_of apps_of digits
cluster_row = refl

-- the first word of a fault is its code
refused_row : (refused_line (codes "C10 bad_value") ≡ codes "{\"refused\":\"C10\",\"reason\":\"bad_value\"}\n")
    × (refused_line (codes "C1 T1 syntax line 3") ≡ codes "{\"refused\":\"C1\",\"reason\":\"T1 syntax line 3\"}\n")
unfolding refused_line refused_json json_string escaped
refused_row = (refl, refl)

-- ---- commands
-- of an answer the first line is told; a step that was accepted has its notices, which have no time outside a tick
abbrev here : StateView
here = first cluster

step_row : reply_line cluster 3 (codes " boot n1") None (reply.Done (Up (numbered 0) ∷ Started web (numbered 0) (kind.Takeover (numbered 1)) None ∷ Stopped web (numbered 1) ∷ Waits web (numbered 2) ∷ [])) here
    ≡ codes "{\"line\":3,\"command\":\" boot n1\",\"answer\":\"ok\",\"notices\":[{\"kind\":\"up\",\"node\":\"n1\"},{\"kind\":\"started\",\"application\":\"web\",\"node\":\"n1\",\"start\":\"takeover\",\"from\":\"n2\"},{\"kind\":\"stopped\",\"application\":\"web\",\"node\":\"n2\"},{\"kind\":\"waits\",\"application\":\"web\",\"node\":\"n\\\"3\"}]}\n"
unfolding reply_line head_json notice_json pair_json start_json node_json app_json json_array json_string escaped answer_text notice_line digits
step_row = refl

-- within a tick each has the time at which its timer was due; a timer that tells nothing has none
tick_row : reply_line cluster 12 (codes "tick 9000")
    (Some (firing 1000 (Ended (numbered 1) ∷ []) ∷ firing 1500 [] ∷ firing 6000 (Started web (numbered 1) (kind.Failover (numbered 0)) (Some (numbered 0)) ∷ []) ∷ []))
    (reply.Done (Ended (numbered 1) ∷ Started web (numbered 1) (kind.Failover (numbered 0)) (Some (numbered 0)) ∷ [])) here
    ≡ codes "{\"line\":12,\"command\":\"tick 9000\",\"answer\":\"ok\",\"notices\":[{\"time\":1000,\"kind\":\"ended\",\"node\":\"n2\"},{\"time\":6000,\"kind\":\"started\",\"application\":\"web\",\"node\":\"n2\",\"start\":\"failover\",\"from\":\"n1\"}]}\n"
unfolding reply_line head_json notice_json pair_json start_json node_json app_json json_array json_string escaped answer_text notice_line digits
tick_row = refl

-- other commands have none
others_row : (reply_line cluster 1 (codes "crash n1") None (reply.Refused NotAlive) here ≡ codes "{\"line\":1,\"command\":\"crash n1\",\"answer\":\"refused S5 not_alive\"}\n")
    × (reply_line cluster 2 (codes "undo_all") None (reply.Moved 10) here ≡ codes "{\"line\":2,\"command\":\"undo_all\",\"answer\":\"ok 10\"}\n")
    × (reply_line cluster 2 (codes "undo") None reply.Undone here ≡ codes "{\"line\":2,\"command\":\"undo\",\"answer\":\"ok\"}\n")
    × (bad_json 7 ≡ codes "{\"line\":7,\"bad\":true}\n")
unfolding reply_line head_json bad_json json_string escaped answer_text digits
others_row = (refl, refl, refl, refl)

-- ---- a report: n1 was lost, n2 is up and n3 waits
abbrev lost : StateView
lost = record here {
  time = 700;
  modes = mode.Down ∷ mode.Up ∷ mode.Waiting ∷ [];
  incarnations = 1 ∷ 2 ∷ 1 ∷ [];
  running = [] ∷ (db ∷ []) ∷ [] ∷ [];
  waiting = [] ∷ (web ∷ []) ∷ [] ∷ [];
  restarts = (Temporary ∷ Temporary ∷ []) ∷ (Transient ∷ Permanent ∷ []) ∷ (Temporary ∷ Temporary ∷ []) ∷ [];
  allowed = (true ∷ true ∷ []) ∷ (true ∷ false ∷ []) ∷ (true ∷ true ∷ []) ∷ [];
  standings = standing.Quiet ∷ standing.Lost (numbered 0) ∷ [];
  timers = (900, Sync (numbered 2)) ∷ (5700, Failover web) ∷ [];
}

report_row : report_json 4 6 lost
    ≡ codes "{\"time\":700,\"steps\":4,\"trail\":6,\"nodes\":[{\"name\":\"n1\",\"mode\":\"down\",\"starts\":1,\"running\":[],\"waiting\":[],\"forbidden\":[]},"
    ++ codes "{\"name\":\"n2\",\"mode\":\"up\",\"starts\":2,\"running\":[{\"application\":\"db\",\"restart\":\"transient\",\"start\":\"normal\"}],\"waiting\":[{\"application\":\"web\",\"restart\":\"permanent\"}],\"forbidden\":[\"web\"]},"
    ++ codes "{\"name\":\"n\\\"3\",\"mode\":\"waiting\",\"starts\":1,\"running\":[],\"waiting\":[],\"forbidden\":[]}],"
    ++ codes "\"applications\":[{\"name\":\"web\",\"standing\":\"lost\",\"node\":\"n1\"}],"
    ++ codes "\"timers\":[{\"timer\":\"sync\",\"node\":\"n\\\"3\",\"due\":900},{\"timer\":\"failover\",\"application\":\"web\",\"due\":5700}]}"
unfolding report_json place_json parts_json state_json mode_json lists_json running_list waiting_list forbidden_list started_json running_json waiting_json start_json
    standing_json timer_json node_json app_json json_array json_string escaped nodes_of apps_of configured digits
report_row = refl

-- the same state where no trail is told
bare_row : bare_report lost
    ≡ codes "{\"time\":700,\"nodes\":[{\"name\":\"n1\",\"mode\":\"down\",\"starts\":1,\"running\":[],\"waiting\":[],\"forbidden\":[]},"
    ++ codes "{\"name\":\"n2\",\"mode\":\"up\",\"starts\":2,\"running\":[{\"application\":\"db\",\"restart\":\"transient\",\"start\":\"normal\"}],\"waiting\":[{\"application\":\"web\",\"restart\":\"permanent\"}],\"forbidden\":[\"web\"]},"
    ++ codes "{\"name\":\"n\\\"3\",\"mode\":\"waiting\",\"starts\":1,\"running\":[],\"waiting\":[],\"forbidden\":[]}],"
    ++ codes "\"applications\":[{\"name\":\"web\",\"standing\":\"lost\",\"node\":\"n1\"}],"
    ++ codes "\"timers\":[{\"timer\":\"sync\",\"node\":\"n\\\"3\",\"due\":900},{\"timer\":\"failover\",\"application\":\"web\",\"due\":5700}]}"
unfolding bare_report parts_json state_json mode_json lists_json running_list waiting_list forbidden_list started_json running_json waiting_json start_json
    standing_json timer_json node_json app_json json_array json_string escaped nodes_of apps_of configured digits
bare_row = refl

-- an application that was never started is quiet, one that is wanted may have the node that it came from, and one that runs has its node
standings_row : (standing_json cluster web standing.Quiet ≡ codes "{\"name\":\"web\",\"standing\":\"quiet\"}")
    × (standing_json cluster web (standing.Wanted None) ≡ codes "{\"name\":\"web\",\"standing\":\"wanted\"}")
    × (standing_json cluster web (standing.Wanted (Some (numbered 0))) ≡ codes "{\"name\":\"web\",\"standing\":\"wanted\",\"node\":\"n1\"}")
    × (standing_json cluster web (standing.Running (numbered 1)) ≡ codes "{\"name\":\"web\",\"standing\":\"running\",\"node\":\"n2\"}")
unfolding standing_json app_json node_json json_string escaped
standings_row = (refl, refl, refl, refl)
