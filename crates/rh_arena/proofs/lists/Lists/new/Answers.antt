use Rattle.std.proofs.Common.{ℕ, Option, None, ap, sym, subst, arith}
use Rattle.std.proofs.lemmas.List.{length-replicate}
use Rattle.rh_arena.specs.Words.{entry_count, list_count}
use Rattle.rh_arena.specs.WellFormed.{IsWellFormed}
use Rattle.rh_arena.proofs.Unlinked.{unlinked_formed}
use Rattle.rh_arena.proofs.lists.Lists.new.Goals as goal

pub invariant_of-result : goal.invariant_of-result
invariant_of-result c = record {
  formed = subst IsWellFormed (sym c.in_ok-new.ensures) (unlinked_formed c.args.entries c.args.lists);
  entries = omega (arith, c.ranges.entries.fits, ap entry_count c.in_ok-new.ensures, length-replicate {A = Option ℕ} c.args.entries None);
  lists = omega (arith, c.ranges.lists.fits, ap list_count c.in_ok-new.ensures, length-replicate {A = Option ℕ} c.args.lists None);
}
