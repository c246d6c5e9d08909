-- What the system around a dist_ac reads of it and does to it: the emulator, `global`, and net_kernel.
use Rattle.std.specs.Prelude.{ℕ, List, [], ◌∷◌, ◌++◌, ◌==◌, Bool, false, not, Option, Some, None, length, replicate, count_by, slice_get, if◌then◌else◌}
use Rattle.rh_model.specs.declared.node.App.{App}
use Rattle.rh_model.specs.declared.node.Node.{Node}
use Rattle.rh_otp_model.specs.declared.message.Message.{Message}
use Rattle.rh_otp_model.specs.declared.message.Message.TheVariants as message
use Rattle.rh_otp_model.specs.Flags.{has_any}
use Rattle.rh_otp_dist.specs.declared.outside.Need.{Need}
use Rattle.rh_otp_dist.specs.declared.outside.Need.TheVariants as need
use Rattle.rh_otp_dist.specs.declared.state.Stand.{Stand}
use Rattle.rh_otp_dist.specs.declared.state.Stand.TheVariants as stand
use Rattle.rh_otp_dist.specs.State.{TurnView, DistView, standing_of, without_node}
use Rattle.rh_otp_dist.specs.Waiting.{introduce, wait_dacs}
use Rattle.rh_otp_dist.specs.Told.{goes_on, local_flags, own_flags}

-- a message is put at the end of its mailbox (ours)
abbrev pub with_message : Message → DistView → DistView
with_message m d = record d { mail = d.mail ++ m ∷ [] }

-- sync_dacs/1: it waits for the lock of all these nodes
abbrev pub at_lock : List Node → DistView → DistView
at_lock nodes d = record d { stand = stand.ForLock nodes }

-- monitor_node(Node, true), of a node that is connected
abbrev pub with_monitor : Node → DistView → DistView
with_monitor n d = record d { monitored = d.monitored ++ n ∷ [] }

-- it is told of the node's end, once for each monitor (ours)
abbrev pub without_monitors : Node → DistView → DistView
without_monitors n d = record d { monitored = without_node n d.monitored }

-- how often it is told of the node's end, beside what it is told as of any that is connected (ours)
abbrev pub monitors : Node → DistView → ℕ
monitors n d = count_by (λ (m : Node). m.0 == n.0) d.monitored

-- The first start request that found the lock of this node held is sent again, where there is one (ours: in OTP a process of its own asks
-- for the lock again and again, and sends it then).
abbrev pub sent_again : List App → DistView → DistView
sent_again [] d = d
sent_again (a ∷ apps) d = with_message (message.StartRequest a) (record d { parked = apps })

abbrev pub unparked : DistView → DistView
unparked d = sent_again d.parked d

-- does it answer a weight of the application, which it doesn't wait for; or, of none, an introduction without end?
abbrev pub answers : Option App → DistView → Bool
answers (Some a) d = goes_on (standing_of d a)
answers None d = not (has_any (local_flags d))

-- who is answered, if it answers
abbrev pub answer_to : Node → Option App → DistView → Need
answer_to n a d = if answers a d then need.Answer n a else need.Nothing

-- of an introduction, unless it is an answer itself, which names what runs
abbrev pub introduced_back : Node → Bool → DistView → Need
introduced_back n is_answer d = if is_answer then need.Nothing else answer_to n None d

-- what a message asks of the system where it waits for any
abbrev pub idle_need : Message → DistView → Need
idle_need (message.StartRequest a) d = need.OwnLock
idle_need (message.Weight a w n) d = answer_to n (Some a) d
idle_need (message.NewNode n allowed started) d = introduced_back n (has_any started) d
idle_need m d = need.Nothing

-- what it asks of it where it waits until kernel has seen the other nodes
abbrev pub go_need : Message → Need
go_need message.Go = need.Lock
go_need m = need.Nothing

-- what it asks of it where it stands
abbrev pub need_at : Stand → Message → DistView → Need
need_at stand.Idle m d = idle_need m d
need_at stand.ForGo m d = go_need m
need_at s m d = need.Nothing

-- of a message, if there is one
abbrev pub need_if : Option Message → DistView → Need
need_if None d = need.Nothing
need_if (Some m) d = need_at d.stand m d

-- what the message at this place of its mailbox asks of the system before it is handled (ours)
abbrev pub need_of : ℕ → DistView → Need
need_of place d = need_if (slice_get d.mail place) d

-- what it tells of itself: which applications it may run, and that none is started
abbrev pub introduction : TurnView → Message
introduction t = message.NewNode t.here.node (own_flags t) (replicate (length t.state.appls) false)

-- introduce_me/2: it tells these nodes of itself, and waits for each
unfoldable pub introduced_to : List Node → TurnView → TurnView
introduced_to nodes t = wait_dacs nodes (t.here.node ∷ []) [] (introduce nodes (introduction t) t)
