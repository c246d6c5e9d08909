-- Events that may come are refused by none of the rules, and so are those of a verdict.
use Rattle.std.proofs.Common.{ℕ, List, [], ◌∷◌, All}
use Rattle.std.specs.List.{AllZip}
use Rattle.std.proofs.lemmas.List.Elements.{All-nil, All-cons}
use Rattle.rh_state.specs.StateView.{StateView}
use Rattle.rh_rules.specs.declared.event.Event.{Event}
use Rattle.rh_explore.specs.declared.answers.Verdict.{Verdict}
use Rattle.rh_explore.specs.declared.answers.Verdict.TheVariants.{Holds, Fails}
use Rattle.rh_explore.specs.declared.asking.Ask.{Ask}
use Rattle.rh_explore.specs.declared.bounds.Covered.{Covered}
use Rattle.rh_explore.specs.Reaching.{Scope, MayAllCome}
use Rattle.rh_explore.specs.Exploring.{IsVerdict}
use Rattle.rh_step.specs.Runs.{step}
use Rattle.rh_explore_text.specs.FoundText.{AllAccepted, CanCome}

accepted : (w : Scope) (s : StateView) (es : List Event) → MayAllCome w s es → AllAccepted w.pick s es
accepted w s [] may = tt
accepted w s (e ∷ es) may = (may.0.accepted, accepted w (step w.pick s e) es may.1)

can_come : (w : Scope) (steps : ℕ) (covered : Covered) (found : List StateView) (ask : Ask) (verdict : Verdict) → IsVerdict w steps covered found ask verdict
    → CanCome w.pick w.base verdict
can_come w steps covered found ask Holds is = tt
can_come w steps covered found ask (Fails es) is = accepted w w.base es.items is.0.may_come

pub all_can_come : (w : Scope) (steps : ℕ) (covered : Covered) (found : List StateView) (asks : List Ask) (verdicts : List Verdict)
    → AllZip (IsVerdict w steps covered found) asks verdicts → All (CanCome w.pick w.base) verdicts
all_can_come w steps covered found [] [] all = All-nil (CanCome w.pick w.base)
all_can_come w steps covered found [] (v ∷ verdicts) all = absurd all
all_can_come w steps covered found (a ∷ asks) [] all = absurd all
all_can_come w steps covered found (a ∷ asks) (v ∷ verdicts) all =
    All-cons (CanCome w.pick w.base) v verdicts (can_come w steps covered found a v all.0) (all_can_come w steps covered found asks verdicts all.1)
