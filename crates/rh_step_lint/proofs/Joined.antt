-- Tests of two lists behind one another.
use Rattle.std.proofs.Common.{◌≡◌, ◌&&◌, ◌++◌, ◌∷◌, [], List, Bool, true, false, refl}
use Rattle.std.specs.List.{list_all}
use Rattle.rh_model.specs.declared.node.Node.{Node}

pub all_joined : (p : Node → Bool) (ms ns : List Node) → list_all p (ms ++ ns) ≡ (list_all p ms && list_all p ns)
all_joined p [] ns = refl
all_joined p (m ∷ ms) ns = by (p m) (all_joined p ms ns)
  where
    by : (b : Bool) → list_all p (ms ++ ns) ≡ (list_all p ms && list_all p ns) → (b && list_all p (ms ++ ns)) ≡ ((b && list_all p ms) && list_all p ns)
    by true later = later
    by false later = refl
