use Rattle.std.proofs.Common.{List, ◌∷◌, [], ◌++◌, sym, ◌∙◌, ap}
use Rattle.std.specs.Global.{Vec}
use Rattle.std.specs.Option.{option_map}
use Rattle.rh_model.specs.ClusterView.{app_numbered}
use Rattle.rh_model.specs.declared.node.App.{App}
use Rattle.rh_otp_dist.proofs.Permitted.{one_more, none_more}
use Rattle.rh_otp_report.specs.Forbidden.{is_forbidden_at}
use Rattle.rh_otp_report.proofs.forbidden.forbidden_apps.Goals.{then-is_forbidden_at+in_ok-push, else-is_forbidden_at}
use Rattle.rh_otp_report.proofs.forbidden.forbidden_apps.Goals as goal

pub loop-number-preserved : goal.loop-number-preserved
loop-number-preserved c =
    let test = is_forbidden_at (option_map (λ f. f.now) c.args.file) c.args.node c.args.live.now in
    elim c.if-is_forbidden_at.branch [
      | then-is_forbidden_at+in_ok-push w ↦
          ap (λ (v : Vec App). v.items) w.apps-is ∙ w.in_ok-push.ensures.items
          ∙ ap (λ (apps : List App). apps ++ app_numbered c.loop-number.number ∷ []) c.loop-number.invariant
          ∙ sym (one_more app_numbered test c.loop-number.number (sym c.is_forbidden_at.ensures ∙ w.if-is_forbidden_at.true))
      | else-is_forbidden_at w ↦
          ap (λ (v : Vec App). v.items) w.apps-is ∙ c.loop-number.invariant
          ∙ sym (none_more app_numbered test c.loop-number.number (sym c.is_forbidden_at.ensures ∙ w.if-is_forbidden_at.false))
    ]
