-- What is reached, and one step further.
use Rattle.std.proofs.Common.{[], refl, sym, ap, ◌∙◌, subst, arith}
use Rattle.std.proofs.lemmas.List.{length_push}
use Rattle.std.proofs.Common.{◌++◌, ◌∷◌}
use Rattle.rh_step.specs.Runs.{step}
use Rattle.rh_explore.specs.Laws.{ReachesGoOn}
use Rattle.rh_explore.specs.Reaching.{MayCome}
use Rattle.rh_explore.proofs.Searched.{may_push, behind_push}

pub reaches_go_on : ReachesGoOn
reaches_go_on = record {
  base = λ w. record { events = []; may_come = tt; few = omega arith; leads = refl };
  more = λ w n m s l r. let few = r.few in record { events = r.events; may_come = r.may_come; few = omega (arith, few, l); leads = r.leads };
  further = λ w n s e r may.
      let few = r.few in
      let long = length_push r.events e in
      record {
        events = r.events ++ e ∷ [];
        may_come = may_push w w.base r.events e r.may_come (subst (λ t. MayCome w t e) (sym r.leads) may);
        few = omega (arith, few, long);
        leads = behind_push w w.base r.events e ∙ ap (λ t. step w.pick t e) r.leads;
      };
}
