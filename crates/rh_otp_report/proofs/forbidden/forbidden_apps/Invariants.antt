use Rattle.std.proofs.Common.{◌≡◌, filter, map}
use Rattle.std.specs.List.{range_with_len}
use Rattle.std.specs.Option.{option_map}
use Rattle.rh_model.specs.ClusterView.{app_numbered}
use Rattle.rh_otp_report.specs.Forbidden.{is_forbidden_at}
use Rattle.rh_otp_report.proofs.forbidden.forbidden_apps.Given as goal

abbrev pub invariant-loop-number : goal.invariant-loop-number
invariant-loop-number l =
    l.apps.items ≡ filter (is_forbidden_at (option_map (λ f. f.now) l.file) l.node l.live) (map app_numbered (range_with_len 0 l.number))
