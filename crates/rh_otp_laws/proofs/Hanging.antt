-- Where nothing can move nothing does.
use Rattle.std.proofs.Common.{◌≡◌, ◌<◌, ◌&&◌, ◌||◌, false, cond, List, [], ◌∷◌, length, Option, Some, None, refl, sym, ◌∙◌, arith}
use Rattle.rh_otp_system.specs.declared.moves.Move.TheVariants as move
use Rattle.rh_otp_system.specs.State.{SystemView, node_at, lives}
use Rattle.rh_otp_system.specs.Calling.{can_go_on_from}
use Rattle.rh_otp_system.specs.Calls.{process_of}
use Rattle.rh_otp_system.specs.Working.{lock_nodes}
use Rattle.rh_otp_system.specs.declared.calls.Call.{Call}
use Rattle.rh_otp_system.specs.declared.calls.Stage.{Stage}
use Rattle.rh_otp_system.specs.declared.calls.Stage.TheVariants as stage
use Rattle.rh_otp_dist.specs.State.{DistView}
use Rattle.rh_model.specs.declared.node.Node.{Node}
use Rattle.rh_otp_system.specs.Moves.{is_awake, is_sync_free, can_unpark_in, can_go_on_at, can_call, IsQuiet, IsSettled, Reaches, here, behind_one}
use Rattle.rh_otp_laws.specs.Hanging.{SettledStays, SettlingAgainChangesNothing}
use Rattle.rh_otp_system.proofs.Moving.{settles}

none_there : {A : Type 0} (xs : List A) → (0 < length xs → ⊥) → xs ≡ []
none_there [] none = refl
none_there (x ∷ xs) none = absurd (none (omega arith))

nothing_on_its_way : (s : SystemView) → IsSettled s → IsQuiet s
nothing_on_its_way s settled =
    let none : s.messages ≡ [] = none_there s.messages (λ some. settled (move.Deliver 0) some) in
    (none, none_there s.slow (λ some. settled (move.Slow 0) (none, some)))

stays : (s t : SystemView) → IsSettled s → Reaches s t → t ≡ s
stays _ _ settled (here s) = refl
stays _ _ settled (behind_one s t u moves rest) = absurd (settled moves.0 moves.1)

pub settled_stays_so : SettledStays
settled_stays_so s t settled reaches = (nothing_on_its_way s settled, stays s t settled reaches)

-- ---- what can move doesn't depend on who has answered whom

abbrev forgetting : SystemView → SystemView
forgetting s = record s { answers = [] }

sync_so : (n : Node) (nodes : Option (List Node)) (s : SystemView) → is_sync_free n nodes (forgetting s) ≡ is_sync_free n nodes s
sync_so n None s = refl
sync_so n (Some nodes) s = refl

unpark_so : (n : Node) (d : Option DistView) (s : SystemView) → can_unpark_in n d (forgetting s) ≡ can_unpark_in n d s
unpark_so n None s = refl
unpark_so n (Some d) s = refl

lock_so : (n : Node) (s : SystemView) → can_go_on_at n (forgetting s) ≡ can_go_on_at n s
lock_so n s = λ i. sync_so n (lock_nodes n s) s i || unpark_so n (node_at s n).dist s i

goes_on_so : (w : Stage) (call : Call) (s : SystemView) → can_go_on_from w call (forgetting s) ≡ can_go_on_from w call s
goes_on_so stage.Synchronised call s = refl
goes_on_so (stage.Lock nodes) call s = refl
goes_on_so w call s = refl

call_so : (call : Call) (s : SystemView) → can_call call (forgetting s) ≡ can_call call s
call_so call s = λ i. is_awake (process_of call) s && cond (lives s (process_of call)) (goes_on_so call.stage call s i) false

settled_so : (s : SystemView) → IsSettled s → IsSettled (forgetting s)
settled_so s settled (move.Deliver place) possible = settled (move.Deliver place) possible
settled_so s settled (move.Slow place) possible = settled (move.Slow place) possible
settled_so s settled (move.Lock n) possible = settled (move.Lock n) (possible.0, possible.1, sym (lock_so n s) ∙ possible.2)
settled_so s settled (move.Call place) possible =
    settled (move.Call place) (possible.0, (possible.1.0, possible.1.1, sym (call_so possible.1.0 s) ∙ possible.1.2))
settled_so s settled (move.End n) possible = settled (move.End n) possible

pub settles_no_more : SettlingAgainChangesNothing
settles_no_more most order s settled =
    stays (forgetting s) _ (settled_so s settled) (settles most order s).0
