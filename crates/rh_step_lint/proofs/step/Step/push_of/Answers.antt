use Rattle.std.proofs.Common.{arith, ◌≡◌, ◌++◌, ◌∙◌, ap}
use Rattle.std.proofs.lemmas.Grind.{common_steps}
use Rattle.std.specs.List.{flat_map}
use Rattle.rh_step_findings.specs.Touched.{found_in}
use Rattle.rh_step_lint.proofs.Unlikely.{told_in}
use Rattle.rh_step_lint.proofs.Untouched.{found_in_touched}
use Rattle.rh_step_lint.proofs.step.Step.push_of.Goals as goal

-- what is touched is as it is told
pub push_in-requires : goal.push_in-requires
push_in-requires c =
    told_in c.args.self.now.state c.args.self.now.event c.args.touched.now c.requires c.loop-touch.touch-index _ c.loop-touch-test.true

pub returns : goal.returns
returns c =
    let all : c.loop-touch.found.items ≡ c.args.found.now.items ++ flat_map (found_in c.args.self.now.state c.args.self.now.event c.args.code) c.args.touched.now
    = grind (arith, common_steps) in
    all ∙ ap (λ t. c.args.found.now.items ++ t)
    (found_in_touched c.args.self.now.state c.args.self.now.event c.args.code c.args.touched.now c.requires)
