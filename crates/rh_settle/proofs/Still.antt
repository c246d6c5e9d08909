-- Behind a settling nothing moves, and a sound state stays sound.
use Rattle.std.proofs.Common.{false, List, [], ◌∷◌, fold, refl, sym, ap, ◌∙◌, subst}
use Rattle.rh_state.specs.Shape.{IsShaped}
use Rattle.rh_state.specs.StateView.{StateView}
use Rattle.rh_rules.specs.declared.pick.Pick.{Pick}
use Rattle.rh_rules.specs.declared.notice.Move.{Move}
use Rattle.rh_rules.specs.declared.notice.Move.TheVariants.{Local, Placement, Takeover}
use Rattle.rh_rules.specs.declared.notice.Pair.{Pair}
use Rattle.rh_rules.specs.Course.{Course, fresh_of}
use Rattle.rh_rules.specs.Moves.{moved}
use Rattle.rh_rules.specs.Settling.{IsEnabled, NoneEnabled, AreFirst, settled, Settles}
use Rattle.rh_trace.specs.Validity.{IsSound}
use Rattle.rh_base.proofs.Truths.{both}
use Rattle.rh_trace.proofs.NextMoves.{all_called, enabled_progresses}
use Rattle.rh_settle.proofs.Fuel.{state_moved}
use Rattle.rh_settle.proofs.SettlingLaws.{settles_by_pick}
use Rattle.rh_settle.proofs.Unchanged.{waits_told_state, moves_fresh}
use Rattle.rh_settle.proofs.Soundly.{sound_moved}

-- ---- sound
sound_next : (o : Course) (ms : List Move) → IsSound o.state → AreFirst o ms → IsSound (fold moved o ms).state
sound_next o [] sound h = sound
sound_next o (m ∷ ms) sound h =
    let p = enabled_progresses o.state (fresh_of o) sound.shaped m h.0.enabled in
    sound_next (moved o m) ms (subst IsSound (sym (state_moved o m)) (sound_moved o.state m p sound)) h.1

pub settles_sound : (o p : Course) → IsSound o.state → Settles o p → IsSound p.state
settles_sound o p sound run =
    subst IsSound (sym (ap (λ (q : Course). q.state) run.outcome ∙ waits_told_state (fold moved o run.moves)))
    (sound_next o run.moves sound run.are_first)

pub settled_sound : (pick : Pick) (o : Course) → IsSound o.state → IsSound (settled pick o).state
settled_sound pick o sound = settles_sound o (settled pick o) sound (settles_by_pick pick o sound.shaped)

-- ---- nothing moves
ends_still : (o : Course) (ms : List Move) → AreFirst o ms → NoneEnabled (fold moved o ms).state (fresh_of (fold moved o ms))
ends_still o [] h = h
ends_still o (m ∷ ms) h = ends_still (moved o m) ms h.1

pub settles_still : (o p : Course) → Settles o p → NoneEnabled p.state (fresh_of o)
settles_still o p run =
    let q : Course = fold moved o run.moves in
    subst (λ s. NoneEnabled s (fresh_of o)) (sym (ap (λ (r : Course). r.state) run.outcome ∙ waits_told_state q))
    (subst (NoneEnabled q.state) (moves_fresh o run.moves) (ends_still o run.moves run.are_first))

pub settled_still : (pick : Pick) (o : Course) → IsShaped o.state → NoneEnabled (settled pick o).state (fresh_of o)
settled_still pick o shape = settles_still o (settled pick o) (settles_by_pick pick o shape)

-- ---- where no pair is fresh nothing calls away
-- what is enabled where no pair is fresh is so where some are
enabled_fresh : (s : StateView) (fresh : List Pair) (m : Move) → IsEnabled s [] m → IsEnabled s fresh m
enabled_fresh s fresh (Local n a) e = e
enabled_fresh s fresh (Placement a from n) e = e
enabled_fresh s fresh (Takeover a m n) e = both false (all_called s [] a m n e.2.passes).1 refl

-- so what doesn't move where some are doesn't move where none is
pub still_afterwards : (s : StateView) (fresh : List Pair) → NoneEnabled s fresh → NoneEnabled s []
still_afterwards s fresh h = λ m e. h m (enabled_fresh s fresh m e)
