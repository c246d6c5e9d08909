-- Which replies are shared (ours).
use Rattle.rh_calls.specs.declared.call.Reply.{Reply}
use Rattle.rh_calls.specs.declared.call.Reply.TheVariants as reply

-- the replies whose notices or report lie in memory once for all who keep them
abbrev pub IsShared : Reply → Type 0
IsShared (reply.Done _) = Unit {0}
IsShared (reply.Seen _ _ _) = Unit {0}
IsShared (reply.Refused _) = ⊥
IsShared reply.Undone = ⊥
IsShared reply.Redone = ⊥
IsShared reply.AtStart = ⊥
IsShared reply.AtEnd = ⊥
IsShared (reply.Moved _) = ⊥
