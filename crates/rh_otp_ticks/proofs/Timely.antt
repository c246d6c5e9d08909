-- What can move doesn't depend on the clock, on timers, or on who has answered whom.
use Rattle.std.proofs.Common.{◌≡◌, ◌&&◌, ◌||◌, ℕ, false, cond, List, Option, Some, None, refl, sym, ◌∙◌}
use Rattle.rh_model.specs.declared.node.Node.{Node}
use Rattle.rh_otp_dist.specs.State.{DistView}
use Rattle.rh_otp_net.specs.declared.timers.Timer.{Timer}
use Rattle.rh_otp_system.specs.declared.calls.Call.{Call}
use Rattle.rh_otp_system.specs.declared.calls.Stage.{Stage}
use Rattle.rh_otp_system.specs.declared.calls.Stage.TheVariants as stage
use Rattle.rh_otp_system.specs.declared.moves.Move.TheVariants as move
use Rattle.rh_otp_system.specs.declared.slow.Answered.{Answered}
use Rattle.rh_otp_system.specs.Calling.{can_go_on_from}
use Rattle.rh_otp_system.specs.Calls.{process_of}
use Rattle.rh_otp_system.specs.Moves.{is_awake, is_sync_free, can_unpark_in, can_go_on_at, can_call, IsSettled}
use Rattle.rh_otp_system.specs.State.{SystemView, node_at, lives}
use Rattle.rh_otp_system.specs.Working.{lock_nodes}

-- the same at another time, with other timers, and with other answers counted
abbrev pub at_time : ℕ → List Timer → List Answered → SystemView → SystemView
at_time time timers answers s = record s { clock = time; timers = timers; answers = answers }

sync_so : (time : ℕ) (timers : List Timer) (answers : List Answered) (n : Node) (nodes : Option (List Node)) (s : SystemView)
    → is_sync_free n nodes (at_time time timers answers s) ≡ is_sync_free n nodes s
sync_so time timers answers n None s = refl
sync_so time timers answers n (Some nodes) s = refl

unpark_so : (time : ℕ) (timers : List Timer) (answers : List Answered) (n : Node) (d : Option DistView) (s : SystemView)
    → can_unpark_in n d (at_time time timers answers s) ≡ can_unpark_in n d s
unpark_so time timers answers n None s = refl
unpark_so time timers answers n (Some d) s = refl

lock_so : (time : ℕ) (timers : List Timer) (answers : List Answered) (n : Node) (s : SystemView)
    → can_go_on_at n (at_time time timers answers s) ≡ can_go_on_at n s
lock_so time timers answers n s =
    λ i. sync_so time timers answers n (lock_nodes n s) s i || unpark_so time timers answers n (node_at s n).dist s i

goes_on_so : (time : ℕ) (timers : List Timer) (answers : List Answered) (w : Stage) (call : Call) (s : SystemView)
    → can_go_on_from w call (at_time time timers answers s) ≡ can_go_on_from w call s
goes_on_so time timers answers stage.Synchronised call s = refl
goes_on_so time timers answers (stage.Lock nodes) call s = refl
goes_on_so time timers answers w call s = refl

call_so : (time : ℕ) (timers : List Timer) (answers : List Answered) (call : Call) (s : SystemView)
    → can_call call (at_time time timers answers s) ≡ can_call call s
call_so time timers answers call s =
    λ i. is_awake (process_of call) s && cond (lives s (process_of call)) (goes_on_so time timers answers call.stage call s i) false

pub settled_in_time : (time : ℕ) (timers : List Timer) (answers : List Answered) (s : SystemView) → IsSettled s
    → IsSettled (at_time time timers answers s)
settled_in_time time timers answers s at (move.Deliver place) possible = at (move.Deliver place) possible
settled_in_time time timers answers s at (move.Slow place) possible = at (move.Slow place) possible
settled_in_time time timers answers s at (move.Lock n) possible =
    at (move.Lock n) (possible.0, possible.1, sym (lock_so time timers answers n s) ∙ possible.2)
settled_in_time time timers answers s at (move.Call place) possible =
    at (move.Call place)
    (possible.0, (possible.1.0, possible.1.1, sym (call_so time timers answers possible.1.0 s) ∙ possible.1.2))
settled_in_time time timers answers s at (move.End n) possible = at (move.End n) possible
