-- Worked rows of verifications: small scripts with what they expect, and what is told of them, computed from the definitions.
use Rattle.std.proofs.Common.{◌≡◌, ℕ, List, [], ◌∷◌, codes, true, false, Some, None, refl}
use Rattle.std.specs.Fmt.{digits}
use Rattle.std.specs.Str.{is_utf8, chars}
use lib.Utf8.{encode}
use Rattle.rh_model.specs.ClusterView.{ClusterView, numbered, app_numbered}
use Rattle.rh_model.proofs.PlainNode.{plain_node}
use Rattle.rh_model.specs.declared.settings.Restart.TheVariants.{Permanent}
use Rattle.rh_state.specs.Numbers.{nodes_of, apps_of}
use Rattle.rh_state.specs.First.{configured}
use Rattle.rh_rules.specs.Placing.{missing_dep, deps_run, is_operational, best, candidates}
use Rattle.rh_rules.specs.declared.pick.Pick.TheVariants.{First}
use Rattle.rh_rules.specs.Moves.{can_start, local_moves, placements, calls_away, takeovers}
use Rattle.rh_rules.specs.Settling.{next_moves, moved_by, all_moved}
use Rattle.rh_rules.specs.NodesStart.{all_alive, is_ready, come_up, come_up_if_ready, ready_come_up, booted}
use Rattle.rh_rules.specs.Marking.{with_mark, mark_all}
use Rattle.rh_rules.specs.Refusals.{refused}
use Rattle.rh_rules.specs.Steps.{followed, next}
use Rattle.rh_step.specs.Runs.{step}
use Rattle.rh_trail.specs.Lone.{opened}
use Rattle.rh_calls.specs.Report.{node_line, running_line, waiting_line, forbidden_line, line_if_forbidden, standing_line, app_line, timer_line, node_lines}
use Rattle.rh_script.specs.Lines.{raw_lines, content}
use Rattle.rh_script.specs.Forms.{verb_named}
use Rattle.rh_script.specs.Commands.{line_of}
use Rattle.rh_script.specs.Answers.{notice_line, answer_text, bad_text}
use Rattle.rh_run.specs.declared.fault.Told.TheVariants as told
use Rattle.rh_story.specs.TableText.{table_text, is_left_out}
use Rattle.rh_story.specs.StoryText.{lines_text}
use Rattle.rh_verify.specs.Spaces.{lines_of, without_front, without_spaces}
use Rattle.rh_verify.specs.Manual.{manual}
use Rattle.rh_verify.specs.Blocks.{is_answered, has_line, block_text, stray_text}
use Rattle.rh_verify.specs.Counts.{tally_text}
use Rattle.rh_verify.specs.VerifyText.{first_line, script_text, script_end}

-- one node, a
abbrev alone : ClusterView
alone = record { profile = 1; node_names = codes "a" ∷ []; app_names = []; platform_names = []; nodes = []; apps = [] }

-- what is told of a script whose first line is the fourth of its file
abbrev told_of : List ℕ → List ℕ
told_of script = script_text manual (opened alone First) 4 (lines_of script)

-- ---- lines
-- the lines of the cluster's text and the line `===` count
first_line_row : (first_line (codes "x.\n\n===\nboot a\n") ≡ 4) × (first_line (codes "===\nboot a\n") ≡ 2)
unfolding content
first_line_row = (refl, refl)

spaces_row : (without_front (codes "  a  b ") ≡ codes "a  b ") × (without_spaces (codes "  a  b ") ≡ codes "a  b") × (without_spaces (codes "  ") ≡ [])
spaces_row = (refl, refl, refl)

-- ---- answers: all lines and no other, in their order; without a line any
wholes_row : (is_answered (codes "ok" ∷ codes "up a" ∷ []) (codes "ok\nup a\n") ≡ true) × (is_answered (codes "ok" ∷ []) (codes "ok\nup a\n") ≡ false)
    × (is_answered (codes "ok" ∷ codes "up a" ∷ codes "up b" ∷ []) (codes "ok\nup a\n") ≡ false)
    × (is_answered (codes "up a" ∷ codes "ok" ∷ []) (codes "ok\nup a\n") ≡ false) × (is_answered (codes "ok " ∷ []) (codes "ok\n") ≡ false)
    × (is_answered [] (codes "ok\nup a\n") ≡ true)
wholes_row = (refl, refl, refl, refl, refl, refl)

-- a line of a report has to be there whole, but for the blanks at its front
report_line_row : (has_line (codes "now 5" ∷ codes "  running w permanent normal" ∷ []) (codes "running w permanent normal") ≡ true)
    × (has_line (codes "now 5" ∷ []) (codes "   now 5") ≡ true) × (has_line (codes "now 50" ∷ []) (codes "now 5") ≡ false)
    × (has_line (codes "now 5" ∷ []) (codes "now 5 ") ≡ false)
report_line_row = (refl, refl, refl, refl)

-- ---- scripts
-- comments, times and reasons may stand among the lines of an answer; a command without lines is free
holds_row : (told_of (codes "# first\nboot a\n# a comment\n#= ok\n\n#@ 5\n#- why\n#= up a\ncrash b\n#= refused S1 unknown_node\nundo\n") ≡ codes "ok 2 of 3 commands checked\n")
    × (script_end manual (opened alone First) 4 (lines_of (codes "boot a\n#= ok\n#= up a\nundo\n")) ≡ None)
unfolding content line_of verb_named answer_text notice_line block_text tally_text nodes_of apps_of configured moved_by all_moved all_alive is_ready mark_all
    come_up come_up_if_ready ready_come_up booted followed refused next step digits is_utf8 chars encode
holds_row = (refl, refl)

-- one that lacks a line, behind which another one holds
differs_row : (told_of (codes "# one\n boot  a \n#= ok\nundo\n#= ok\n") ≡ codes "line 5: boot  a\n  wanted ok\n  came ok\n  came up a\ndiffers 1 of 2\n")
    × (script_end manual (opened alone First) 4 (lines_of (codes "boot a\n#= ok\n")) ≡ Some told.Differs)
unfolding content line_of verb_named answer_text notice_line block_text tally_text nodes_of apps_of configured moved_by all_moved all_alive is_ready mark_all
    come_up come_up_if_ready ready_come_up booted followed refused next step digits is_utf8 chars encode
differs_row = (refl, refl)

-- expectations before the first command differ by themselves
stray_row : told_of (codes "#= ok\n# one\n#? now 0\nundo\n") ≡ codes "line 4: #= ok\n  no command stands before it\nline 6: #? now 0\n  no command stands before it\ndiffers 2 of 2\n"
unfolding content line_of verb_named answer_text block_text stray_text tally_text nodes_of apps_of configured step digits is_utf8 chars encode
stray_row = refl

-- a line that is no command is told in place of the counts, behind what differs before it
bad_line_row : (told_of (codes "undo\n#= ok\nflip\n#= no\nundo\n#= no\n") ≡ codes "line 4: undo\n  wanted ok\n  came refused at_start\nbad line 3\n")
    × (script_end manual (opened alone First) 4 (lines_of (codes "undo\n#= ok\nflip\n")) ≡ Some (told.BadLine 3))
unfolding content line_of verb_named answer_text bad_text block_text tally_text nodes_of apps_of configured step digits is_utf8 chars encode
bad_line_row = (refl, refl)

-- ---- reports: an application w at a
abbrev one : ClusterView
one = record alone {
  app_names = codes "w" ∷ [];
  nodes = record plain_node { boot = (app_numbered 0, Permanent) ∷ []; permissions = true ∷ [] } ∷ [];
  apps = record { deps = []; start_arg = None; phases = false; spread = Some (record { timeout = 0; groups = (numbered 0 ∷ []) ∷ [] }) } ∷ [];
}

-- the report is that behind the command, and not the one before it; a front of a line isn't the line
reports_row : script_text manual (opened one First) 1 (lines_of (codes "boot a\n#? running w permanent normal\n#?   app w running a\nundo\n#? node a down 0\n#? node a up 1\n#? app w\n"))
    ≡ codes "line 4: undo\n  wanted in the report node a up 1\n  wanted in the report app w\ndiffers 1 of 2\n"
unfolding content line_of verb_named answer_text notice_line block_text tally_text node_line running_line waiting_line forbidden_line line_if_forbidden
    standing_line app_line timer_line node_lines with_mark mark_all nodes_of apps_of configured moved_by all_moved all_alive is_ready come_up come_up_if_ready
    ready_come_up booted missing_dep deps_run is_operational best candidates can_start local_moves placements calls_away takeovers next_moves followed refused
    next step digits is_utf8 chars encode
reports_row = refl

-- ---- stories: without the conditions of the law something differs in them
abbrev told_of_story : List ℕ → List ℕ
told_of_story script = told_of (lines_text (opened alone First) 1 [] (raw_lines script))

-- an answer of an earlier story is no such condition: it is told anew
whole_story_row : told_of_story (codes "undo\n#= no\nundo\n") ≡ codes "ok 2 of 2 commands checked\n"
unfolding content line_of verb_named answer_text block_text tally_text table_text is_left_out nodes_of apps_of configured step digits is_utf8 chars encode
whole_story_row = refl

-- a line `#? ` is kept, behind a command and before the first
wanted_row : (told_of_story (codes "undo\n#? no\n") ≡ codes "line 4: undo\n  wanted in the report no\ndiffers 1 of 1\n")
    × (told_of_story (codes "#? now 0\nundo\n") ≡ codes "line 4: #? now 0\n  no command stands before it\ndiffers 1 of 2\n")
unfolding content line_of verb_named answer_text block_text stray_text tally_text table_text is_left_out node_line running_line waiting_line forbidden_line
    line_if_forbidden standing_line app_line timer_line node_lines nodes_of apps_of configured step digits is_utf8 chars encode
wanted_row = (refl, refl)

-- a line that is no command ends both
bad_story_row : told_of_story (codes "undo\nflip\nundo\n") ≡ codes "bad line 3\n"
unfolding content line_of verb_named answer_text bad_text block_text tally_text table_text is_left_out nodes_of apps_of configured step digits is_utf8 chars encode
bad_story_row = refl
