use Rattle.std.proofs.Common.{◌≡◌, ◌<◌, ℕ, Option, Some, None, IfSome, sym, ap, subst, ◌∙◌}
use Rattle.rh_arena.specs.Words.{Words, owner_of, list_count}
use Rattle.rh_arena.specs.WellFormed.{IsWellFormed}
use Rattle.rh_arena.proofs.Reading.{owner_inside}
use Rattle.rh_arena.proofs.lists.Lists.list_of.Goals as goal

formed : (c : goal.After-wide) → IsWellFormed c.args.self.now
formed c = subst IsWellFormed c.self.view_is c.self.invariant.formed

inside : (w : Words) (i : ℕ) (o : Option ℕ) → IsWellFormed w → o ≡ owner_of w i → IfSome o (λ l. l < list_count w)
inside w i None f e = tt
inside w i (Some l) f e = owner_inside w l i f (sym e)

owner_is : (c : goal.After-wide) → c.entry.result.owner ≡ owner_of c.args.self.now c.args.entry
owner_is c = c.entry.ensures.owner ∙ ap (λ w. owner_of w c.args.entry) c.self.view_is

pub returns-clause-member : goal.returns-clause-member
returns-clause-member c = (formed c).owners c.args.entry

pub returns-clause-list : goal.returns-clause-list
returns-clause-list c = inside c.args.self.now c.args.entry c.wide.result (formed c) (c.wide.ensures ∙ owner_is c)
