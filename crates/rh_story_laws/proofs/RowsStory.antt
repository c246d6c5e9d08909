-- Worked rows of stories: small scripts, and what a story makes of them, computed from the definitions.
use Rattle.std.proofs.Common.{◌≡◌, ℕ, List, [], ◌∷◌, codes, true, false, Some, None, Ok, refl}
use Rattle.std.specs.Fmt.{digits}
use Rattle.std.specs.Str.{is_utf8, chars}
use lib.Utf8.{encode}
use Rattle.rh_model.specs.ClusterView.{ClusterView, NodeView, numbered, app_numbered}
use Rattle.rh_model.proofs.PlainNode.{plain_node}
use Rattle.rh_model.specs.declared.settings.Restart.TheVariants.{Permanent}
use Rattle.rh_model.specs.declared.settings.SyncWait.TheVariants.{Unset, After}
use Rattle.rh_state.specs.Numbers.{nodes_of, apps_of}
use Rattle.rh_state.specs.First.{configured}
use Rattle.rh_rules.specs.Placing.{missing_dep, deps_run, is_operational, best, candidates}
use Rattle.rh_rules.specs.declared.pick.Pick.TheVariants.{First}
use Rattle.rh_rules.specs.Moves.{can_start, local_moves, placements, calls_away, takeovers}
use Rattle.rh_rules.specs.Settling.{next_moves, moved_by, all_moved}
use Rattle.rh_rules.specs.NodesStart.{all_alive, is_ready, come_up, come_up_if_ready, ready_come_up, booted}
use Rattle.rh_rules.specs.Marking.{with_mark, mark_all}
use Rattle.rh_rules.specs.NodesEnd.{cleared, lost_if_ran, all_lost, ended}
use Rattle.rh_rules.specs.Refusals.{refused}
use Rattle.rh_rules.specs.Steps.{followed, next}
use Rattle.rh_rules.specs.Time.{fired, fired_by, all_fired, ticked}
use Rattle.rh_step.specs.Firings.{firings_by, firings}
use Rattle.rh_step.specs.Runs.{step}
use Rattle.rh_trail.specs.Lone.{opened}
use Rattle.rh_why.specs.Reasons.{reasons, awaited}
use Rattle.rh_why.specs.Texts.{reason_text, awaited_text}
use Rattle.rh_courses.specs.Moments.{behind_timers, behind_firings, passed}
use Rattle.rh_courses.specs.Courses.{changes_from, stays_of, away}
use Rattle.rh_courses.specs.Texts.{run_words, runs_words, away_words, pieces_words}
use Rattle.rh_script.specs.Lines.{raw_lines, content}
use Rattle.rh_script.specs.Forms.{verb_named}
use Rattle.rh_script.specs.Commands.{milliseconds, line_of}
use Rattle.rh_script.specs.Answers.{notice_line, answer_text, bad_text}
use Rattle.rh_story.specs.HeadText.{closed, head_text}
use Rattle.rh_story.specs.TableText.{table_text, is_left_out}
use Rattle.rh_story.specs.StoryText.{lines_text, story_over}

-- one node, a
abbrev alone : ClusterView
alone = record { profile = 1; node_names = codes "a" ∷ []; app_names = []; platform_names = []; nodes = []; apps = [] }

abbrev story : ClusterView → List ℕ → List ℕ
story c script = lines_text (opened c First) 1 [] (raw_lines script)

-- ---- lines
-- comments and blank lines stay as they are; answers, times, reasons and tables of an earlier story go, before the first command too;
-- what is wanted of a report is the author's, and a sign without the blank behind it is any comment
old_lines_row : story alone (codes "#= old\n# kept\n\nboot a\n#= no\n#@ 5\n#- why\n#| row\n#? now 0\n#=kept\n#|\nundo\n")
    ≡ codes "# kept\n\nboot a\n#= ok\n#= up a\n#? now 0\n#=kept\n#|\nundo\n#= ok\n"
unfolding content line_of verb_named answer_text notice_line table_text is_left_out nodes_of apps_of configured moved_by all_moved all_alive is_ready mark_all
    come_up come_up_if_ready ready_come_up booted followed refused next step awaited is_utf8 chars encode
old_lines_row = refl

-- behind a line that is no command the rest stands as it is, old lines too
bad_line_row : story alone (codes "# one\nboot a\nboot\n#= old\nshow") ≡ codes "# one\nboot a\n#= ok\n#= up a\nboot\n#= bad line 3\n#= old\nshow"
unfolding content line_of verb_named answer_text notice_line bad_text table_text is_left_out nodes_of apps_of configured moved_by all_moved all_alive is_ready
    mark_all come_up come_up_if_ready ready_come_up booted followed refused next step digits awaited is_utf8 chars encode
bad_line_row = refl

-- a last line without its end gets one, if it is a command, and stays so, if it is a comment
last_line_row : (story alone (codes "undo") ≡ codes "undo\n#= refused at_start\n") × (story alone (codes "# end") ≡ codes "# end")
unfolding content line_of verb_named answer_text table_text is_left_out nodes_of apps_of configured step is_utf8 chars encode
last_line_row = (refl, refl)

-- the CR of a line that ends in CR LF is no part of the command, and stays; a CR without LF is part of it, and gets both
returns_row : (story alone (codes "undo\r\n") ≡ codes "undo\r\n#= refused at_start\n") × (closed (codes "undo\r") ≡ codes "undo\r\r\n")
unfolding content line_of verb_named answer_text table_text is_left_out nodes_of apps_of configured step is_utf8 chars encode
returns_row = (refl, refl)

-- ---- the head
head_row : (head_text (raw_lines (codes "x.")) ≡ codes "x.\n===\n") × (head_text (raw_lines (codes "x.\n===\nundo\n")) ≡ codes "x.\n===\n")
    × (head_text (raw_lines (codes "x.\n===")) ≡ codes "x.\n===") × (head_text (raw_lines []) ≡ codes "===\n")
unfolding content
head_row = (refl, refl, refl, refl)

-- with it and without
whole_row : (story_over First true (raw_lines (codes "{node, a, []}.\n===\nundo\n")) (Ok alone) ≡ codes "{node, a, []}.\n===\nundo\n#= refused at_start\n")
    × (story_over First false (raw_lines (codes "{node, a, []}.\n===\nundo\n")) (Ok alone) ≡ codes "undo\n#= refused at_start\n")
unfolding content line_of verb_named answer_text table_text is_left_out nodes_of apps_of configured step is_utf8 chars encode
whole_row = (refl, refl)

-- ---- an application w, which runs at a, and a second after a's end at b
abbrev boots : NodeView
boots = record plain_node { boot = (app_numbered 0, Permanent) ∷ []; permissions = true ∷ [] }

abbrev two : ClusterView
two = record alone {
  node_names = codes "a" ∷ codes "b" ∷ [];
  app_names = codes "w" ∷ [];
  nodes = boots ∷ boots ∷ [];
  apps = record { deps = []; start_arg = None; phases = false; spread = Some (record { timeout = 1000; groups = (numbered 0 ∷ []) ∷ (numbered 1 ∷ []) ∷ [] }) } ∷ [];
}

-- what waits has its reason; what a tick tells stands below the time at which it was told; and at the end stands where w ran
times_row : story two (codes "boot a\nboot b\ncrash a\ntick 1500\n")
    ≡ codes "boot a\n#= ok\n#= up a\n#= started w a normal\nboot b\n#= ok\n#= up b\n#= waits w b\n#- runs at a\ncrash a\n#= ok\n#= ended a\ntick 1500\n#= ok\n#@ 1000\n#= started w b normal\n\n#| w ran at a 0 to 0, at b 1000 to now; nowhere for 1000 ms in 1 piece\n"
unfolding content line_of verb_named milliseconds answer_text notice_line table_text is_left_out with_mark mark_all nodes_of apps_of configured moved_by all_moved
    all_alive is_ready come_up come_up_if_ready ready_come_up booted cleared lost_if_ran all_lost ended missing_dep deps_run is_operational best candidates
    can_start local_moves placements calls_away takeovers next_moves followed refused next step fired fired_by all_fired ticked firings_by firings reasons
    reason_text behind_timers behind_firings passed changes_from stays_of away run_words runs_words away_words pieces_words digits awaited is_utf8 chars encode
times_row = refl

-- the table of an earlier story goes with the blank line before it, and the new one stands at the end behind one
table_row : (story two (codes "# one\n\n#| w ran at a 0 to now\n") ≡ codes "# one\n\n#| w never ran\n")
    × (story two (codes "# one\n\n\n#| old\n#| old\nundo") ≡ codes "# one\n\nundo\n#= refused at_start\n\n#| w never ran\n")
    × (story two (codes "# one") ≡ codes "# one\n\n#| w never ran\n")
unfolding content line_of verb_named answer_text table_text is_left_out nodes_of apps_of configured step behind_timers behind_firings passed changes_from stays_of
    away run_words runs_words away_words pieces_words is_utf8 chars encode
table_row = (refl, refl, refl)

-- ---- a node that waits for another one
abbrev waits : NodeView
waits = record plain_node { mandatory = numbered 1 ∷ []; sync_wait = After 500 }

abbrev pair : ClusterView
pair = record alone { node_names = codes "a" ∷ codes "b" ∷ []; nodes = waits ∷ record waits { mandatory = []; sync_wait = Unset } ∷ [] }

waits_row : story pair (codes "boot a\n") ≡ codes "boot a\n#= ok\n#- waits for b until 500\n"
unfolding content line_of verb_named answer_text notice_line table_text is_left_out nodes_of apps_of configured moved_by all_moved all_alive is_ready mark_all
    come_up come_up_if_ready ready_come_up booted followed refused next step awaited awaited_text digits is_utf8 chars encode
waits_row = refl
