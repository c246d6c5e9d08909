-- Worked rows: what each program writes for all the bytes that it reads, and the fault that its text tells at the end.
use Rattle.std.proofs.Common.{◌≡◌, ℕ, List, [], ◌∷◌, length, Some, None, codes, refl}
use Rattle.std.specs.Fmt.{digits}
use Rattle.std.specs.Str.{is_utf8, chars}
use lib.Utf8.{encode}
use Rattle.rh_terms.specs.Bytes.{past}
use Rattle.rh_terms.specs.Tokens.{name_at}
use Rattle.rh_terms.specs.Grammar.{terms_of, dotted, dot_at, inside, terms_up_to, some_terms, next_at, term_by, word_at}
use Rattle.rh_model.specs.ClusterView.{ClusterView, numbered, app_numbered}
use Rattle.rh_model.specs.declared.settings.Restart.TheVariants.{Permanent}
use Rattle.rh_cluster.specs.NameRule.{is_name}
use Rattle.rh_cluster.specs.Shapes.{as_entry, as_pair, as_profile, as_atom, as_list, as_tuple, as_triple, as_headed}
use Rattle.rh_cluster.specs.Faults.{list_faults}
use Rattle.rh_cluster.specs.Sections.{section_faults, parts_faults, parts_stage}
use Rattle.rh_cluster.specs.declared.fault.ClusterFault.TheVariants.{BadValue}
use Rattle.rh_cluster.specs.Headers.{node_names, app_names, new_name_faults, header_faults, headers_stage}
use Rattle.rh_cluster.specs.Values.{elements, value_if, elements_under, platform_in_term, with_name, with_first_name, with_platforms, platforms_in}
use Rattle.rh_cluster.specs.Values.{permissions_in, platforms_of, node_view, shares_in}
use Rattle.rh_cluster.specs.Agreement.{is_involved, first_involved, mismatches, boot_list_faults, agreement_stage}
use Rattle.rh_cluster.specs.ClusterOf.{names_of, node_views, all_shares, app_views, faults_behind_headers, faults_in, cluster_view, cluster_of_terms, cluster_of}
use Rattle.rh_cluster.specs.Profile.{profile_of, behind_profile}
use Rattle.rh_state.specs.Numbers.{nodes_of, apps_of}
use Rattle.rh_state.specs.First.{configured}
use Rattle.rh_rules.specs.declared.pick.Pick.TheVariants.{First}
use Rattle.rh_rules.specs.Settling.{moved_by, all_moved}
use Rattle.rh_rules.specs.NodesStart.{all_alive, is_ready, come_up, come_up_if_ready, ready_come_up, booted}
use Rattle.rh_rules.specs.declared.notice.Notice.TheVariants.{Up}
use Rattle.rh_rules.specs.Marking.{mark_all}
use Rattle.rh_rules.specs.Refusals.{refused}
use Rattle.rh_rules.specs.declared.event.Event.TheVariants.{Boot, StartAll, StopAll}
use Rattle.rh_rules.specs.declared.refusal.Refusal.TheVariants.{UnknownApp}
use Rattle.rh_rules.specs.Steps.{followed, next}
use Rattle.rh_calls.specs.declared.call.Call.TheVariants.{Step, Undo}
use Rattle.rh_calls.specs.declared.call.Reply.TheVariants.{Done, Refused, Undone, AtStart}
use Rattle.rh_step.specs.Runs.{step}
use Rattle.rh_trail.specs.Lone.{opened}
use Rattle.rh_calls.specs.Report.{node_line, line_if_forbidden, standing_line, app_line, timer_line, node_lines}
use Rattle.rh_room.specs.declared.pass.Entry.{Entry}
use Rattle.rh_room.specs.Legal.{entry}
use Rattle.rh_plans.specs.declared.fault.SweepFault.TheVariants.{BaseNotAtEnd, TrailRoom}
use Rattle.rh_script.specs.Lines.{content, script_lines}
use Rattle.rh_script.specs.Forms.{verb_named}
use Rattle.rh_script.specs.Commands.{line_of}
use Rattle.rh_script.specs.SessionLines.{command, session_line_of}
use Rattle.rh_script.specs.declared.session_lines.Command.{Command}
use Rattle.rh_script.specs.declared.session_lines.SessionLine.TheVariants as session
use Rattle.rh_script.specs.Answers.{notice_line, answer_text, fault_text, bad_text}
use Rattle.rh_script.specs.CommandWords.{command_words}
use Rattle.rh_script.specs.SweepLines.{PlanText, sweep_line_of}
use Rattle.rh_script.specs.SweepAnswers.{sweep_fault_text}
use Rattle.rh_run.specs.declared.fault.Told.TheVariants as told
use Rattle.rh_run.specs.RunText.{run_text, run_end}
use Rattle.rh_run.specs.CheckText.{count_text, check_text, check_end}
use Rattle.rh_run.specs.SweepText.{sweep_text, sweep_end, why_not_swept}
use Rattle.rh_app.specs.Histories.{session_count, bad_session_line, session_lines_asked, commands_of, entry_text, history_text, last_state}
use Rattle.rh_app.specs.Sessions.{MayGive, AskHistory}

-- ---- the file comes before the script

-- a term that describes nothing, and a line that is no command of any program
abbrev refused_file : List ℕ
refused_file = codes "x.\n===\nflip\n"

-- each program tells the file's fault, and no line; and no threads make anything of it
refused_file_row : (run_text refused_file First ≡ codes "cluster refused C10 bad_value\n") × (run_end refused_file ≡ Some (told.Cluster BadValue))
    × (sweep_text refused_file First ≡ codes "cluster refused C10 bad_value\n") × (sweep_end refused_file First ≡ Some (told.Cluster BadValue))
    × (check_text refused_file ≡ codes "cluster refused C10 bad_value\n") × (check_end refused_file ≡ Some (told.Cluster BadValue))
    × MayGive First refused_file (codes "cluster refused C10 bad_value\n") (Some (told.Cluster BadValue)) × (AskHistory refused_file → ⊥)
unfolding run_text run_end sweep_text sweep_end check_text check_end MayGive AskHistory content fault_text is_utf8 chars encode terms_of dotted dot_at
    inside terms_up_to some_terms next_at term_by word_at name_at past cluster_of cluster_of_terms profile_of behind_profile
    as_profile as_pair as_entry faults_in headers_stage header_faults new_name_faults node_names app_names
    as_headed as_triple as_tuple as_atom is_name
refused_file_row = (refl, refl, refl, refl, refl, refl, (refl, refl), λ asks. asks)

-- of a file that is accepted, `run` answers the lines before a bad one, and `sweep` and `sessions` tell that alone
abbrev accepted_file : List ℕ
accepted_file = codes "{node, a, []}.\n===\nboot a\nflip\nboot a\n"

accepted_file_row : (run_text accepted_file First ≡ codes "ok\nup a\nbad line 2\n") × (run_end accepted_file ≡ Some (told.BadLine 2))
    × (sweep_text accepted_file First ≡ codes "bad line 2\n") × (sweep_end accepted_file First ≡ Some (told.BadLine 2))
    × (check_text accepted_file ≡ codes "ok 1 nodes 0 applications\n") × (check_end accepted_file ≡ None)
    × MayGive First accepted_file (codes "bad line 1\n") (Some (told.BadLine 1))
unfolding run_text run_end sweep_text sweep_end check_text check_end count_text MayGive content bad_text line_of sweep_line_of session_line_of verb_named answer_text
    notice_line is_utf8 chars encode digits terms_of dotted dot_at inside terms_up_to some_terms next_at term_by word_at name_at past cluster_of cluster_of_terms profile_of behind_profile
    as_profile as_pair as_entry faults_in
    headers_stage header_faults new_name_faults node_names app_names as_headed as_triple as_tuple as_atom as_list is_name faults_behind_headers names_of
    parts_stage parts_faults list_faults section_faults node_views all_shares node_view shares_in elements value_if elements_under permissions_in
    platforms_of platforms_in platform_in_term with_platforms with_first_name with_name agreement_stage mismatches is_involved first_involved
    boot_list_faults cluster_view app_views nodes_of apps_of configured moved_by all_moved all_alive is_ready mark_all come_up come_up_if_ready
    ready_come_up booted followed refused next step
accepted_file_row = (refl, refl, refl, refl, refl, refl, (refl, refl))

-- ---- why there is no sweep

-- the answers to the base, and then the fault in place of all plans
no_sweep_row : (sweep_text (codes "{node, a, []}.\n===\nboot a\nundo\nplan p\ncrash a\n") First ≡ codes "ok\nup a\nok\nsweep refused V2 base_not_at_end\n")
    × (sweep_end (codes "{node, a, []}.\n===\nboot a\nundo\nplan p\ncrash a\n") First ≡ Some (told.Sweep BaseNotAtEnd))
unfolding sweep_text sweep_end content sweep_line_of verb_named sweep_fault_text answer_text notice_line is_utf8 chars encode terms_of dotted dot_at inside terms_up_to
    some_terms next_at term_by word_at name_at past cluster_of cluster_of_terms profile_of behind_profile
    as_profile as_pair as_entry faults_in headers_stage header_faults new_name_faults node_names app_names as_headed
    as_triple as_tuple as_atom as_list is_name faults_behind_headers names_of parts_stage parts_faults list_faults section_faults node_views all_shares
    node_view shares_in elements value_if elements_under permissions_in platforms_of platforms_in platform_in_term with_platforms with_first_name with_name
    agreement_stage mismatches is_involved first_involved boot_list_faults cluster_view app_views nodes_of apps_of configured moved_by all_moved all_alive
    is_ready mark_all come_up come_up_if_ready ready_come_up booted followed refused next step
no_sweep_row = (refl, refl)

abbrev one_node : ClusterView
one_node = record { profile = 1; node_names = codes "a" ∷ []; app_names = []; platform_names = []; nodes = []; apps = [] }

abbrev short : PlanText
short = record { name = codes "p"; events = Boot (numbered 0) ∷ [] }

-- that the base isn't at its end comes before that there is no room in its trail
at_end_first_row : why_not_swept (record (opened one_node First) { cursor = 65535 }) (short ∷ []) ≡ Some BaseNotAtEnd
at_end_first_row = refl

-- the steps of the base and the events of each plan are 65,535 together, at most
trail_room_row : (plan : PlanText)
    → (length plan.events ≡ 65535 → why_not_swept (opened one_node First) (short ∷ plan ∷ []) ≡ None)
    × (length plan.events ≡ 65536 → why_not_swept (opened one_node First) (short ∷ plan ∷ []) ≡ Some TrailRoom)
trail_room_row plan = (λ many. rw many refl, λ more. rw more refl)

-- ---- sessions

-- the commands of a script of sessions
abbrev commands : List ℕ → List Command
commands script = commands_of (session_lines_asked one_node (script_lines script))

-- there are as many sessions as the greatest number says, and one without a command
session_count_row : (session_count (commands (codes "===\n2 undo\n5 show\n3 boot a\n")) ≡ 5) × (session_count (commands (codes "===\n# 4 undo\n")) ≡ 1)
unfolding content session_line_of verb_named is_utf8 chars encode
session_count_row = (refl, refl)

-- the first line that is no command, or one more command than a log can hold
surplus_command_row : (bad_session_line 1 0 (session.Nothing ∷ session.Asks (command 1 Undo) ∷ session.Bad ∷ session.Bad ∷ []) ≡ Some 3)
    × (bad_session_line 7 65534 (session.Asks (command 1 Undo) ∷ session.Nothing ∷ []) ≡ None)
    × (bad_session_line 7 65534 (session.Asks (command 1 Undo) ∷ session.Nothing ∷ session.Asks (command 1 Undo) ∷ []) ≡ Some 9)
surplus_command_row = (refl, refl, refl)

abbrev told_of : List Entry → List ℕ
told_of log = history_text one_node log (last_state one_node First log)

-- each entry with its session, its command and its answer, in the order of the log, and at last the report of the last state
history_row : told_of (entry 2 Undo AtStart ∷ entry 1 (Step (Boot (numbered 0))) (Done (Up (numbered 0) ∷ [])) ∷ [])
    ≡ codes "entry 2 undo\nrefused at_start\nentry 1 boot a\nok\nup a\nfinal\nnow 0\nnode a up 1\n"
unfolding entry_text command_words answer_text notice_line nodes_of apps_of configured moved_by all_moved all_alive is_ready mark_all come_up
    come_up_if_ready ready_come_up booted followed refused next step node_line line_if_forbidden standing_line app_line timer_line node_lines digits
history_row = refl

-- a command names the application, or what is shown for a name that nothing has
all_nodes_row : told_of (entry 3 (Step (StartAll (app_numbered 255) Permanent)) (Refused UnknownApp) ∷ entry 1 (Step (StopAll (app_numbered 255))) (Refused UnknownApp) ∷ [])
    ≡ codes "entry 3 start_all ? permanent\nrefused S2 unknown_app\nentry 1 stop_all ?\nrefused S2 unknown_app\nfinal\nnow 0\nnode a down 0\n"
unfolding entry_text command_words answer_text nodes_of apps_of configured refused next step node_line line_if_forbidden standing_line app_line
    timer_line node_lines digits
all_nodes_row = refl

-- of one session the log is its commands in their order
lone_session_row : MayGive First (codes "{node, a, []}.\n===\n1 boot a\n1 undo\n")
    (codes "entry 1 boot a\nok\nup a\nentry 1 undo\nok\nfinal\nnow 0\nnode a down 0\n") None
unfolding MayGive content session_line_of verb_named entry_text command_words answer_text notice_line digits is_utf8 chars encode terms_of dotted dot_at
    inside terms_up_to some_terms next_at term_by word_at name_at past cluster_of cluster_of_terms profile_of behind_profile
    as_profile as_pair as_entry faults_in headers_stage header_faults new_name_faults node_names app_names
    as_headed as_triple as_tuple as_atom as_list is_name faults_behind_headers names_of parts_stage parts_faults list_faults section_faults node_views
    all_shares node_view shares_in elements value_if elements_under permissions_in platforms_of platforms_in platform_in_term with_platforms with_first_name
    with_name agreement_stage mismatches is_involved first_involved boot_list_faults cluster_view app_views nodes_of apps_of configured moved_by all_moved
    all_alive is_ready mark_all come_up come_up_if_ready ready_come_up booted followed refused next step node_line line_if_forbidden standing_line app_line
    timer_line node_lines
lone_session_row = (
  entry 1 (Step (Boot (numbered 0))) (Done (Up (numbered 0) ∷ [])) ∷ entry 1 Undo Undone ∷ [],
  record { legal = refl; interleaved = λ s. refl },
  refl,
  refl,
)
