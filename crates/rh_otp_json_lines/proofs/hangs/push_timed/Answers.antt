use Rattle.std.proofs.Common.{◌++◌, codes}
use Rattle.std.specs.Fmt.{decimal}
use Rattle.rh_json_lines.specs.ClusterLines.{app_json}
use Rattle.rh_json_text.proofs.Arrays.{rest_behind_front}
use Rattle.rh_otp_json_lines.proofs.hangs.push_timed.Goals as goal

pub returns-in_ok-push_app_at-in-Failover : goal.returns-in_ok-push_app_at-in-Failover
returns-in_ok-push_app_at-in-Failover c =
    rw c.in-Failover.is
    (rest_behind_front c.push_due-in-Failover.result c.args.out.now.items
    (codes "{\"timer\":\"failover\",\"application\":" ++ app_json c.args.cluster.now c.in-Failover.app)
    (codes ",\"due\":" ++ decimal c.in-Failover.due)
    c.push_app_at.new.out.items c.push_due-in-Failover.new.out.items
    c.in_ok-push_app_at-in-Failover.ensures c.push_due-in-Failover.ensures)
