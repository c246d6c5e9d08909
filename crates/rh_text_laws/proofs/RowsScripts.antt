-- Worked rows: the definitions of the texts compute to what an operator sees.
use Rattle.std.proofs.Common.{◌≡◌, true, false, [], ◌∷◌, Some, None, codes, refl}
use Rattle.std.specs.Fmt.{digits}
use Rattle.std.specs.Str.{is_utf8, chars}
use lib.Utf8.{encode}
use Rattle.rh_model.specs.ClusterView.{ClusterView, numbered}
use Rattle.rh_model.proofs.PlainNode.{plain_node}
use Rattle.rh_state.specs.Limits.{time_limit, incarnation_limit}
use Rattle.rh_state.specs.Numbers.{nodes_of, apps_of}
use Rattle.rh_state.specs.First.{configured}
use Rattle.rh_rules.specs.Placing.{missing_dep, deps_run, is_operational, best, candidates}
use Rattle.rh_rules.specs.declared.pick.Pick.TheVariants.{First}
use Rattle.rh_rules.specs.Moves.{can_start, local_moves, placements, calls_away, takeovers}
use Rattle.rh_rules.specs.Settling.{next_moves, moved_by, all_moved}
use Rattle.rh_rules.specs.NodesStart.{all_alive, is_ready, come_up, come_up_if_ready, ready_come_up, booted}
use Rattle.rh_rules.specs.Marking.{with_mark, mark_all}
use Rattle.rh_rules.specs.ByHand.{is_started_anywhere}
use Rattle.rh_rules.specs.Everywhere.{targets, has_host, has_target, missing_at_targets, start_all, left_everywhere, stop_all}
use Rattle.rh_rules.specs.NodesEnd.{cleared, lost_if_ran, all_lost, ended}
use Rattle.rh_rules.specs.Refusals.{refused}
use Rattle.rh_rules.specs.Steps.{followed, next}
use Rattle.rh_step.specs.Runs.{step}
use Rattle.rh_calls.specs.Report.{standing_line}
use Rattle.rh_outcomes.specs.Outcomes.{standing_in}
use Rattle.rh_script.specs.Lines.{content, script_lines}
use Rattle.rh_script.specs.Forms.{verb_named}
use Rattle.rh_script.specs.Commands.{line_of}
use Rattle.rh_script.specs.Answers.{notice_line, answer_text, bad_text}
use Rattle.rh_run.specs.RunText.{script_text, bad_line, lines_asked}
use Rattle.rh_script.specs.SweepLines.{sweep_line_of, sweep_lines_asked, bad_sweep_line}
use Rattle.rh_script.specs.SweepAnswers.{plan_line, refused_line, outcome_text}
use Rattle.rh_run.specs.CheckText.{count_text}
use Rattle.rh_run.specs.SweepText.{lines_text}
use Rattle.rh_trail.specs.Lone.{opened}
use Rattle.rh_trail.specs.Lone.{trail_limit}
use Rattle.rh_room.specs.Legal.{session_limit, log_limit}
use Rattle.rh_devices.specs.Devices.{input_limit}

abbrev one_node : ClusterView
one_node = record { profile = 1; node_names = codes "a" ∷ []; app_names = []; platform_names = []; nodes = []; apps = [] }

-- the limits of a run: milliseconds, incarnations of a node, events of a trail, sessions, entries of a log, bytes of the input
limits_row : (time_limit ≡ 1000000000000) × (incarnation_limit ≡ 9999) × (trail_limit ≡ 65535)
    × (session_limit ≡ 8) × (log_limit ≡ 65535) × (input_limit ≡ 16777216)
limits_row = (refl, refl, refl, refl, refl, refl)

script_row : script_text one_node (opened one_node First) 1 (lines_asked one_node (script_lines (codes "===\nboot a\nundo\nflip a\nshow\n")))
    ≡ codes "ok\nup a\nok\nbad line 3\n"
unfolding content line_of verb_named answer_text notice_line bad_text nodes_of apps_of configured moved_by all_moved all_alive is_ready mark_all come_up come_up_if_ready
    ready_come_up booted followed refused next step digits is_utf8 chars encode
script_row = refl

-- an application that may run at the one node
abbrev one_spread : ClusterView
one_spread = record one_node {
  app_names = codes "w" ∷ [];
  nodes = record plain_node { permissions = true ∷ [] } ∷ [];
  apps = record { deps = []; start_arg = None; phases = false; spread = Some (record { timeout = 0; groups = (numbered 0 ∷ []) ∷ [] }) } ∷ [];
}

all_nodes_row : script_text one_spread (opened one_spread First) 1
    (lines_asked one_spread (script_lines (codes "===\nboot a\nstart_all w permanent\nstart_all w temporary\nstop_all w\nstop_all w\nstop_all a\n")))
    ≡ codes "ok\nup a\nok\nstarted w a normal\nrefused S11 already_started\nok\nstopped w a\nrefused S12 never_started\nrefused S2 unknown_app\n"
unfolding content line_of verb_named answer_text notice_line nodes_of apps_of configured moved_by all_moved all_alive is_ready with_mark mark_all come_up come_up_if_ready
    ready_come_up booted start_all targets stop_all left_everywhere missing_dep deps_run is_operational best candidates can_start local_moves placements
    calls_away takeovers next_moves followed refused has_host has_target missing_at_targets is_started_anywhere next step is_utf8 chars encode
all_nodes_row = refl

bad_line_row : bad_line 1 (lines_asked one_node (script_lines (codes "===\nboot a\nundo\nflip a\nshow\n"))) ≡ Some 3
unfolding content line_of verb_named is_utf8 chars encode
bad_line_row = refl

count_row : count_text one_node ≡ codes "ok 1 nodes 0 applications\n"
unfolding count_text digits
count_row = refl

sweep_row : lines_text one_node First (sweep_lines_asked one_node (script_lines (codes "===\nboot a\nplan p\ncrash a\ncrash a\n"))) None
    ≡ codes "ok\nup a\nplan p accepted 1 failovers 0 takeovers 0\nrefused 2 S5 not_alive\n"
unfolding content sweep_line_of verb_named answer_text notice_line outcome_text plan_line refused_line standing_line standing_in nodes_of apps_of configured moved_by
    all_moved all_alive is_ready mark_all come_up come_up_if_ready ready_come_up booted cleared lost_if_ran all_lost ended followed refused next step digits
    is_utf8 chars encode
sweep_row = refl

sweep_bad_line_row : bad_sweep_line (sweep_lines_asked one_node (script_lines (codes "===\nundo\nplan p\ncrash a\nundo\n"))) ≡ Some 4
unfolding content sweep_line_of verb_named is_utf8 chars encode
sweep_bad_line_row = refl
