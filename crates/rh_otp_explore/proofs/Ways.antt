-- Lists of conditions, of which one is met.
use Rattle.std.proofs.Common.{◌≡◌, Bool, List, [], ◌∷◌, ◌||◌, map, refl}
use Rattle.std.specs.Prelude.{Vec}
use Rattle.std.specs.declared.alloc.Global.{Global}
use Rattle.std.specs.List.{list_any}
use Rattle.rh_explore.specs.declared.asking.Condition.{Condition}

pub any_of_ways : (p : List Condition → Bool) (ways : List (Vec Condition Global))
    → list_any (λ way. p way.items) ways ≡ list_any p (map (λ (way : Vec Condition Global). way.items) ways)
any_of_ways p [] = refl
any_of_ways p (way ∷ ways) = λ i. p way.items || any_of_ways p ways i
