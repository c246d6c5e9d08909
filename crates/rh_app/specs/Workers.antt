-- What the sessions' threads give back (ours).
use Rattle.std.specs.Prelude.{◌≡◌, ◌⊎◌, ℕ, List, ◌++◌, map, All, Bool, true, false, is_some, Option, Some, None}
use Rattle.std.specs.List.{AllZip, list_any}
use Rattle.rh_model.specs.ClusterView.{ClusterView}
use Rattle.rh_rules.specs.declared.pick.Pick.{Pick}
use Rattle.rh_room.specs.declared.closing.CloseReason.{CloseReason}
use Rattle.rh_room.specs.Closing.{AreAll, Agrees, IsOn, WhyOpen}
use Rattle.rh_room.specs.Legal.{PassView, RoomView}
use Rattle.rh_room.specs.declared.pass.RoomFault.{RoomFault}
use Rattle.rh_room.specs.declared.pass.RoomFault.TheVariants.{SessionCount, WrongRoom, LogFull, OutOfMemory}
use Rattle.rh_script.specs.declared.session_lines.Command.{Command}
use Rattle.rh_app.specs.declared.fault.HistoryFault.{HistoryFault}
use Rattle.rh_app.specs.declared.fault.HistoryFault.TheVariants as history
use Rattle.rh_app.specs.declared.sessions.threads.Ended.{Ended}
use Rattle.rh_app.specs.Histories.{answered, asked, by_session, calls_by}

-- a pass came back as it was given, and was answered its own session's commands, all and in order
pub record WasServed (commands : List Command) (given pass : PassView) : Type 0 where
  pub session : pass.session ≡ given.session
  pub answered : answered pass ≡ answered given ++ calls_by given.session commands

-- so each of them was, in the order of the passes
abbrev pub WereServed : List Command → List PassView → List PassView → Type 0
WereServed commands given passes = AllZip (WasServed commands) given passes

-- ---- the threads when they have ended

abbrev pub pass_of : Ended → PassView
pass_of e = e.pass

abbrev pub had_fault : Ended → Bool
had_fault e = is_some e.fault

abbrev pub is_want_of_memory : Option RoomFault → Bool
is_want_of_memory None = false
is_want_of_memory (Some SessionCount) = false
is_want_of_memory (Some (WrongRoom place)) = false
is_want_of_memory (Some LogFull) = false
is_want_of_memory (Some OutOfMemory) = true

abbrev pub lacked_memory : Ended → Bool
lacked_memory e = is_want_of_memory e.fault

-- why their passes are not given: a fault of a thread, want of memory before any other; without one, the list found no memory
abbrev pub WhyNoPasses : List Ended → HistoryFault → Type 0
WhyNoPasses ended history.Room = (list_any had_fault ended ≡ true) × (list_any lacked_memory ended ≡ false)
WhyNoPasses ended history.OutOfMemory = (list_any lacked_memory ended ≡ true) ⊎ (list_any had_fault ended ≡ false)

-- ---- the room behind them

-- a room closes with these passes on the cluster and the pick
pub record IsClosing (c : ClusterView) (pick : Pick) (room : RoomView) (passes : List PassView) : Type 0 where
  pub all : AreAll room.sessions passes
  pub agree : All (Agrees room.log) passes
  pub base : IsOn room c pick

-- why a room that the threads have left makes no history of the commands: it doesn't close, or its log isn't made of them; memory
-- is wanted only where it closes
abbrev pub WhyNoHistory : ClusterView → Pick → List Command → RoomView → List PassView → HistoryFault → Type 0
WhyNoHistory c pick commands room passes history.Room =
    ((reason : CloseReason) × WhyOpen room passes c pick reason)
    ⊎ (((session : ℕ) → by_session session (map asked room.log) ≡ by_session session commands) → ⊥)
WhyNoHistory c pick commands room passes history.OutOfMemory = IsClosing c pick room passes
