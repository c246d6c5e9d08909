-- the applications so far are those among what is needed so far
use Rattle.std.proofs.Common.{◌≡◌, filter_map, take}
use Rattle.rh_model.specs.Needs.{listed}
use Rattle.rh_model.proofs.needs.listed_in.Given as goal

abbrev pub invariant-deps : goal.invariant-deps
invariant-deps l = l.apps.items ≡ filter_map listed (take l.dep-index l.deps)
