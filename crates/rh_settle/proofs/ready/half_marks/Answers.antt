use Rattle.std.proofs.Common.{◌-◌, ◌+◌, ◌<◌, ◌≤◌, arith, ◌∙◌}
use Rattle.rh_state.specs.StateView.{standing_of}
use Rattle.rh_state.specs.Stored.{read}
use Rattle.rh_model.specs.Marks.{marks_of}
use Rattle.rh_settle.specs.Boards.{is_wanted}
use Rattle.rh_settle.proofs.Starts.{pushed}
use Rattle.rh_settle.proofs.ready.half_marks.Goals as goal

pub apps-preserved : goal.apps-preserved
apps-preserved c =
    let s = read c.args.state.now in
    let i = c.apps.number in
    let some : c.args.from < i = (let t = c.apps-test.true in omega (arith, t)) in
    let few = c.apps.invariant.few in
    let limit : c.args.end ≤ (i - 1) + 64 = (let r = c.requires.few in omega (arith, some, r)) in
    let least : 0 < i = omega (arith, some) in
    record {
      few = omega (arith, few);
      above = omega (arith, some);
      wanted = pushed (λ a. is_wanted (standing_of s a)) (marks_of c.apps.wanted) (marks_of c.with_mark_in_front-wanted.result) c.args.end i least few limit
          (λ a first. c.with_mark_in_front-wanted.ensures.first a first ∙ c.is_wanted.ensures)
          c.with_mark_in_front-wanted.ensures.others c.apps.invariant.wanted;
    }
