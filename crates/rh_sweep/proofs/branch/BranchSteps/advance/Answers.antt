use Rattle.std.proofs.Common.{◌≡◌, ◌++◌, List, false, Result, Ok, Err, OnOk, None, refl, sym, ap, ◌∙◌}
use Rattle.std.specs.Result.{is_err}
use Rattle.rh_rules.specs.Refusals.{refused}
use Rattle.rh_rules.specs.declared.notice.Notice.{Notice}
use Rattle.rh_state.specs.Stored.{read}
use Rattle.rh_rules.specs.Steps.{next}
use Rattle.rh_sweep.specs.declared.branch.Branch.{Branch}
use Rattle.rh_sweep.proofs.Branching.{done-there, branch-further, led-further}
use Rattle.rh_sweep.proofs.branch.BranchSteps.advance.Goals as goal

on-ok : {X E : Type 0} (r : Result X E) (P : Type 0) → is_err r ≡ false → OnOk r P → P
on-ok (Ok x) P ok is = is
on-ok (Err e) P ok is = absurd (cc ok)

-- too many edits were dropped
pub returns-then-self-clause-done : goal.returns-then-self-clause-done
returns-then-self-clause-done c = λ base s at room.
    let b : Branch = c.args.self.now in
    let e = c.args.event in
    let made = c.perform-made.result in
    let new = c.perform-made.new in
    let is = c.perform-made.ensures in
    let fine : refused (read b.state) e ≡ None = sym c.refusal_of.ensures ∙ c.in_default.is in
    let ok : is_err made ≡ false = sym c.is_err.ensures.value ∙ c.if-is_err.false in
    let state = on-ok made _ ok is.state in
    let told = on-ok made _ ok is.notices ∙ ap (λ (ns : List Notice). ns ++ (next (read b.state) e b.pick).notices) c.clear.ensures.items in
    let valid = on-ok made _ ok is.valid in (
      done-there b base s at e fine new.notices.items room told,
      branch-further b base s at e fine _ refl state valid (λ kept. absurd (cc kept)),
    )

-- they are kept
pub returns-else-len-gt-EDIT_LIMIT-clause-done : goal.returns-else-len-gt-EDIT_LIMIT-clause-done
returns-else-len-gt-EDIT_LIMIT-clause-done c = λ base s at room.
    let b : Branch = c.args.self.now in
    let e = c.args.event in
    let made = c.perform-made.result in
    let new = c.perform-made.new in
    let is = c.perform-made.ensures in
    let fine : refused (read b.state) e ≡ None = sym c.refusal_of.ensures ∙ c.in_default.is in
    let ok : is_err made ≡ false = sym c.is_err.ensures.value ∙ c.if-is_err.false in
    let state = on-ok made _ ok is.state in
    let told = on-ok made _ ok is.notices ∙ ap (λ (ns : List Notice). ns ++ (next (read b.state) e b.pick).notices) c.clear.ensures.items in
    let valid = on-ok made _ ok is.valid in
    let grows = on-ok made _ ok is.edits in (
      done-there b base s at e fine new.notices.items room told,
      branch-further b base s at e fine _ refl state valid
          (λ kept. led-further base.words b.state new.state b.edits.items new.edits.items (at.led kept) grows),
    )
