-- what is known so far is that of the applications so far
use Rattle.std.proofs.Common.{◌≡◌, map, take}
use Rattle.rh_model.specs.Needs.{needs_of}
use Rattle.rh_model.proofs.needs.needs_in.Given as goal

abbrev pub invariant-apps : goal.invariant-apps
invariant-apps l = l.needs.items ≡ map (needs_of l.nodes) (take l.app-index l.apps)
