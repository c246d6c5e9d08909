use Rattle.std.proofs.Common.{◌≡◌, ◌∙◌, ℕ, zero, suc, Option, Some, None, List, [], ◌∷◌, get_or, slice_get, refl, sym, ap, arith}
use Rattle.std.specs.Option.{option_flatten}
use Rattle.std.proofs.lemmas.Option.{gets}
use Rattle.std.proofs.lemmas.Grind.{common_steps}
use Rattle.rh_wheel.specs.Firing.{due_in}
use Rattle.rh_wheel.specs.Stored.{listed}
use Rattle.rh_wheel.proofs.Finding.{Contains-from_armed, armed_from_Contains, Contains-due_in, numbered_from_armed}
use Rattle.rh_wheel.proofs.Slots.{due_in-listed, IsFiringOrder-listed}
use Rattle.rh_wheel.proofs.wheel.Wheel.due_of.Goals as goal

flatten-slice_get : (xs : List (Option ℕ)) (i : ℕ) → option_flatten (slice_get xs i) ≡ get_or xs i None
flatten-slice_get [] i = refl
flatten-slice_get (None ∷ xs) zero = refl
flatten-slice_get (Some d ∷ xs) zero = refl
flatten-slice_get (x ∷ xs) (suc i) = flatten-slice_get xs i

read : (c : goal.After-flatten) → c.flatten.result ≡ get_or c.self.inside.dues.items c.args.timer None
read c =
    let found : c.copied.result ≡ slice_get c.self.inside.dues.items c.args.timer = grind (arith, common_steps, gets) in
    c.flatten.ensures ∙ ap option_flatten found ∙ flatten-slice_get c.self.inside.dues.items c.args.timer

due : (c : goal.After-flatten) → c.flatten.result ≡ due_in c.args.timer (listed c.args.self.now)
due c = rw (← c.self.view_is) (read c ∙ sym (due_in-listed _ c.self.invariant.formed c.args.timer))

pub returns-clause-due : goal.returns-clause-due
returns-clause-due c = due c

pub returns-clause-armed : goal.returns-clause-armed
returns-clause-armed c = rw (due c) (Contains-from_armed _ _, armed_from_Contains _ _)

pub returns-clause-entry : goal.returns-clause-entry
returns-clause-entry c = rw (due c) (Contains-due_in c.args.timer (listed c.args.self.now))

pub returns-clause-numbered : goal.returns-clause-numbered
returns-clause-numbered c h = rw (← c.self.view_is)
    (numbered_from_armed _ c.args.timer _ (IsFiringOrder-listed _ c.self.invariant.formed).numbered (rw (due c, ← c.self.view_is) at h))
