-- Worked rows: what both sets of rules tell is told in the same fields, computed from the definitions.
use Rattle.std.proofs.Common.{◌≡◌, Option, Some, None, refl}
use Rattle.rh_json_lines.specs.Notices as manual
use Rattle.rh_json_text.specs.Json.{escaped, json_string}
use Rattle.rh_model.specs.ClusterView.{ClusterView}
use Rattle.rh_model.specs.declared.node.App.{App}
use Rattle.rh_model.specs.declared.node.Node.{Node}
use Rattle.rh_otp_model.specs.declared.process.StartType.TheVariants as start
use Rattle.rh_otp_sim.specs.declared.lines.Line.TheVariants as line
use Rattle.rh_rules.specs.declared.notice.Notice.TheVariants as notice
use Rattle.rh_script.specs.Answers.{notice_line}
use Rattle.rh_state.specs.declared.status.Kind.TheVariants as kind
use Rattle.rh_otp_json_lines.specs.Notices.{notice_json}

-- what has happened to a node, or to an application that stops or waits
plain_rows : (c : ClusterView) (a : App) (n : Node)
    → (notice_json c (line.Up n) ≡ manual.notice_json c (None, notice.Up n)) × (notice_json c (line.Ended n) ≡ manual.notice_json c (None, notice.Ended n))
    × (notice_json c (line.Stopped a n) ≡ manual.notice_json c (None, notice.Stopped a n))
    × (notice_json c (line.Waits a n) ≡ manual.notice_json c (None, notice.Waits a n))
unfolding notice_json manual.notice_json notice_line json_string escaped
plain_rows c a n = (refl, refl, refl, refl)

-- a start, with whom the application was lost, if with one, left out by both
start_rows : (c : ClusterView) (a : App) (n m : Node) (lost : Option Node)
    → (notice_json c (line.Started a n start.Normal) ≡ manual.notice_json c (None, notice.Started a n kind.Normal lost))
    × (notice_json c (line.Started a n (start.Failover m)) ≡ manual.notice_json c (None, notice.Started a n (kind.Failover m) lost))
    × (notice_json c (line.Started a n (start.Takeover m)) ≡ manual.notice_json c (None, notice.Started a n (kind.Takeover m) lost))
unfolding notice_json manual.notice_json notice_line json_string escaped
start_rows c a n m lost = (refl, refl, refl)
