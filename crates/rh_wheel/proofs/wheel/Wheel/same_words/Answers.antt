use Rattle.std.proofs.Common.{◌≡◌, refl, ap}
use Rattle.std.specs.Bool.{Decides}
use Rattle.std.proofs.lemmas.Slice.Eq.{slice_eq-Decides}
use Rattle.rh_arena.proofs.Exchanges.{option_decides}
use Rattle.rh_wheel.specs.Stored.{Stored}
use Rattle.rh_wheel.proofs.Exchanging.{Stored-same}
use Rattle.rh_wheel.proofs.wheel.Wheel.same_words.Goals as goal

pub returns-then-same_words : goal.returns-then-same_words
returns-then-same_words c =
    let dues : Decides c.eq.result (c.self.inside.dues.items ≡ c.other.inside.dues.items) =
    rw (c.as_slice.ensures.value, c.as_slice-then-same_words.ensures.value)
    at (slice_eq-Decides option_decides c.as_slice.result.now c.as_slice-then-same_words.result.now c.eq.result c.eq.ensures) in
    rw (← c.self.view_is, ← c.other.view_is)
    (λ e. Stored-same _ _ (c.if-same_words.ensures.0 refl) (dues.0 e), λ e. dues.1 (ap (λ (w : Stored). w.dues) e))
