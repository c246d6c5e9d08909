use Rattle.std.proofs.Common.{Bool, List, ap, ◌∙◌}
use Rattle.std.specs.Prelude.{Vec}
use Rattle.std.specs.declared.alloc.Global.{Global}
use Rattle.std.specs.List.{list_any, list_all}
use Rattle.rh_explore.specs.declared.asking.Condition.{Condition}
use Rattle.rh_otp_explore.specs.Asking.{is_so}
use Rattle.rh_otp_explore.proofs.Ways.{any_of_ways}
use Rattle.rh_otp_explore.proofs.asking.is_met.Goals as goal

pub returns : goal.returns
returns c =
    let all_so = λ (way : List Condition). list_all (is_so c.args.report.now) way in
    c.one_is_so.ensures
    ∙ ap (λ (ways : List (Vec Condition Global)). list_any (λ way. all_so way.items) ways) c.as_slice.ensures.value
    ∙ any_of_ways all_so c.args.ask.now.any_of.items
