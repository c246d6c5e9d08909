use Rattle.std.proofs.Common.{◌≡◌, take, fold, [], ℕ, List}
use denote.Shadow.{shadow}
use denote.Text.{Utf8}
use Rattle.rh_cluster_lint.specs.declared.blame.Step.{Step}
use Rattle.rh_cluster_lint.specs.Telling.{expected_in, or_before}
use Rattle.rh_cluster_lint.proofs.telling.expected_on.Given as goal

abbrev pub invariant-loop-step : goal.invariant-loop-step
invariant-loop-step l = record {
  told : l.told ≡ fold (λ (told : List ℕ) (s : Step). or_before told (expected_in l.text s)) [] (take l.step-index l.steps);
  utf8 : shadow (Utf8 l.told);
}
