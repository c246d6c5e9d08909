-- Worked rows: what a caller is told by calls that go back and forth, and by steps at the end of a trail's room.
use Rattle.std.proofs.Common.{◌≡◌, ℕ, List, [], ◌∷◌, codes, map, refl}
use Rattle.rh_model.specs.ClusterView.{ClusterView, numbered}
use Rattle.rh_rules.specs.declared.event.Event.{Event}
use Rattle.rh_rules.specs.declared.event.Event.TheVariants.{Boot, Crash, Tick}
use Rattle.rh_rules.specs.declared.notice.Notice.TheVariants.{Up}
use Rattle.rh_rules.specs.declared.pick.Pick.TheVariants.{First}
use Rattle.rh_rules.specs.declared.refusal.Refusal.TheVariants.{UnknownNode, NotAlive, ZeroTick, TimeLimit, TrailFull}
use Rattle.rh_calls.specs.declared.call.Call.TheVariants.{Step, Undo, Redo, UndoAll, RedoAll}
use Rattle.rh_calls.specs.declared.call.Reply.{Reply}
use Rattle.rh_calls.specs.declared.call.Reply.TheVariants.{Done, Refused, Undone, Redone, AtStart, AtEnd, Moved}
use Rattle.rh_state.specs.Numbers.{nodes_of, apps_of}
use Rattle.rh_state.specs.First.{configured}
use Rattle.rh_rules.specs.Settling.{moved_by, all_moved}
use Rattle.rh_rules.specs.NodesStart.{all_alive, is_ready, come_up, come_up_if_ready, ready_come_up, booted}
use Rattle.rh_rules.specs.Refusals.{refused}
use Rattle.rh_rules.specs.Marking.{mark_all}
use Rattle.rh_rules.specs.NodesEnd.{cleared, lost_if_ran, all_lost, ended}
use Rattle.rh_rules.specs.Steps.{followed, next}
use Rattle.rh_step.specs.Runs.{step}
use Rattle.rh_trail.specs.SimView.{SimView}
use Rattle.rh_trail.specs.Lone.{opened, cut, replies, served, trail_limit}

abbrev one_node : ClusterView
one_node = record { profile = 1; node_names = codes "a" ∷ []; app_names = []; platform_names = []; nodes = []; apps = [] }

-- nothing stands and nothing can be made again
nothing_row : (pick : _) → replies (opened one_node pick) (Undo ∷ Redo ∷ UndoAll ∷ RedoAll ∷ []) ≡ AtStart ∷ AtEnd ∷ Moved 0 ∷ Moved 0 ∷ []
nothing_row pick = refl

-- a simulation with three events, of which two stand
abbrev two_of_three : SimView
two_of_three = record { cluster = one_node; pick = First; trail = Boot (numbered 0) ∷ Crash (numbered 0) ∷ Boot (numbered 0) ∷ []; cursor = 2 }

-- undo all tells how many events stood, redo all how many could be made again
moved_row : replies two_of_three (UndoAll ∷ RedoAll ∷ RedoAll ∷ Undo ∷ RedoAll ∷ UndoAll ∷ Undo ∷ UndoAll ∷ Redo ∷ UndoAll ∷ [])
    ≡ Moved 2 ∷ Moved 3 ∷ Moved 0 ∷ Undone ∷ Moved 1 ∷ Moved 3 ∷ AtStart ∷ Moved 0 ∷ Redone ∷ Moved 1 ∷ []
moved_row = refl

-- an accepted step drops what could be made again, a refused one doesn't
dropped_row : replies two_of_three (Step (Crash (numbered 0)) ∷ Redo ∷ Undo ∷ Step (Boot (numbered 0)) ∷ UndoAll ∷ Step (Crash (numbered 0)) ∷ RedoAll ∷ [])
    ≡ Refused NotAlive ∷ Redone ∷ Undone ∷ Done (Up (numbered 0) ∷ []) ∷ Moved 3 ∷ Refused NotAlive ∷ Moved 3 ∷ []
unfolding nodes_of apps_of configured moved_by all_moved all_alive is_ready mark_all come_up come_up_if_ready ready_come_up booted cleared lost_if_ran all_lost
    ended followed refused next step
dropped_row = refl

dropped_behind_row : replies two_of_three (Undo ∷ Undo ∷ Step (Boot (numbered 0)) ∷ Redo ∷ RedoAll ∷ UndoAll ∷ [])
    ≡ Undone ∷ Undone ∷ Done (Up (numbered 0) ∷ []) ∷ AtEnd ∷ Moved 0 ∷ Moved 1 ∷ []
unfolding nodes_of apps_of configured moved_by all_moved all_alive is_ready mark_all come_up come_up_if_ready ready_come_up booted cleared lost_if_ran all_lost
    ended followed refused next step
dropped_behind_row = refl

cut_row : cut two_of_three ≡ record two_of_three { trail = Boot (numbered 0) ∷ Crash (numbered 0) ∷ [] }
cut_row = refl

-- ---- the limit of a trail

-- behind so many events; they are no part of what is refused
abbrev behind : ℕ → SimView
behind cursor = record { cluster = one_node; pick = First; trail = []; cursor = cursor }

abbrev told : SimView → List Event → List Reply
told s events = map (λ e. (served s (Step e)).reply) events

last_step_row : (trail_limit ≡ 65535) × (told (behind 65534) (Boot (numbered 0) ∷ []) ≡ Done (Up (numbered 0) ∷ []) ∷ [])
unfolding nodes_of apps_of configured moved_by all_moved all_alive is_ready mark_all come_up come_up_if_ready ready_come_up booted followed refused next step
last_step_row = (refl, refl)

-- that the trail is full comes behind all other reasons
full_last_row : told (behind 65535) (Boot (numbered 0) ∷ Tick 1 ∷ Boot (numbered 1) ∷ Crash (numbered 0) ∷ Tick 0 ∷ Tick 1000000000001 ∷ [])
    ≡ Refused TrailFull ∷ Refused TrailFull ∷ Refused UnknownNode ∷ Refused NotAlive ∷ Refused ZeroTick ∷ Refused TimeLimit ∷ []
unfolding refused nodes_of configured
full_last_row = refl

-- what stands can be taken back there
full_goes_back_row : replies (behind 65535) (Undo ∷ UndoAll ∷ []) ≡ Undone ∷ Moved 65534 ∷ []
full_goes_back_row = refl
