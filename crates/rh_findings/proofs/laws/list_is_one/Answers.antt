use Rattle.std.proofs.Common.{◌∙◌, sym}
use Rattle.rh_findings.proofs.OneList.{one_list}
use Rattle.rh_findings.proofs.laws.list_is_one.Goals as goal

pub returns : goal.returns
returns c found first second one other = one_list first second one.order other.order (λ f. one.beside f ∙ sym (other.beside f))
