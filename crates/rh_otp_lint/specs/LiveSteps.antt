-- What comes of the commands of a script on live nodes (ours).
use Rattle.std.specs.Prelude.{ℕ, ◌+◌, List, [], ◌∷◌, ◌++◌, Bool, true, false, if◌then◌else◌}
use Rattle.rh_model.specs.ClusterView.{ClusterView}
use Rattle.rh_calls.specs.declared.call.Call.{Call}
use Rattle.rh_calls.specs.declared.call.Call.TheVariants.{Step}
use Rattle.rh_findings.specs.declared.finding.Finding.{Finding}
use Rattle.rh_script.specs.declared.script.Line.{Line}
use Rattle.rh_script.specs.declared.script.Line.TheVariants.{Asks, Bad}
use Rattle.rh_script.specs.Commands.{line_of}
use Rattle.rh_otp_report.specs.Report.{report_of}
use Rattle.rh_otp_report.specs.Views.{ReportView}
use Rattle.rh_otp_sim.specs.Calls.{made_by, reply_to}
use Rattle.rh_otp_sim.specs.Sim.{LiveSimView}
use Rattle.rh_otp_lint.specs.Answers.{of_reply}
use Rattle.rh_otp_lint.specs.Hanging.{new_hangs}
use Rattle.rh_otp_lint.specs.Twice.{all_new_twice}

-- ---- a command on line k

-- what newly hangs, and what newly runs at several nodes
abbrev pub of_reports : ClusterView → ℕ → ReportView → ReportView → List Finding
of_reports c k before after = new_hangs c k before.nodes after.nodes ++ all_new_twice c k before.apps after.apps

-- it is a step, so the state behind it is new: undo and redo lead where the script has been
abbrev pub is_step : Call → Bool
is_step (Step e) = true
is_step other = false

-- the simulation before a call, and behind it
abbrev pub of_call_behind : LiveSimView → LiveSimView → ℕ → Call → List Finding
of_call_behind before after k x =
    of_reply after.cluster k x (reply_to x before)
    ++ (if is_step x then of_reports after.cluster k (report_of before) (report_of after) else [])

-- what is found of a call: the answer to it, and if it is a step what is new behind it
abbrev pub of_call : LiveSimView → ℕ → Call → List Finding
of_call sim k x = of_call_behind sim (made_by x sim) k x

-- ---- line by line

abbrev pub of_line : LiveSimView → ℕ → Line → List Finding
of_line sim k (Asks x) = of_call sim k x
of_line sim k other = []

-- commands end at a line that is none
abbrev pub ends_at : Line → Bool
ends_at Bad = true
ends_at other = false

-- the simulation behind a line
abbrev pub sim_behind : LiveSimView → Line → LiveSimView
sim_behind sim (Asks x) = made_by x sim
sim_behind sim other = sim

-- the lines of a script, of which the first has number k
abbrev pub of_live_steps : LiveSimView → ℕ → List (List ℕ) → List Finding
of_live_steps sim k [] = []
of_live_steps sim k (l ∷ lines) =
    of_line sim k (line_of sim.cluster l)
    ++ (if ends_at (line_of sim.cluster l) then [] else of_live_steps (sim_behind sim (line_of sim.cluster l)) (k + 1) lines)

-- what is left of them, if it is told
abbrev pub of_rest : Bool → LiveSimView → ℕ → List (List ℕ) → List Finding
of_rest ends sim k lines = if ends then [] else of_live_steps sim k lines
