-- What the system asks and makes of a node's dist_ac.
use Rattle.std.specs.Prelude.{ℕ, List, Bool, false, length, is_some, Option, Some, None}
use Rattle.rh_model.specs.declared.node.Node.{Node}
use Rattle.rh_otp_model.specs.declared.message.Message.{Message}
use Rattle.rh_otp_dist.specs.declared.outside.Need.{Need}
use Rattle.rh_otp_dist.specs.declared.outside.Need.TheVariants as need
use Rattle.rh_otp_dist.specs.Outside as outside
use Rattle.rh_otp_dist.specs.Received as mail
use Rattle.rh_otp_dist.specs.State.{DistView}
use Rattle.rh_otp_node.specs.Live.{LiveView}

-- is there a message in its mailbox that it takes where it stands?
abbrev pub takes_next : Option DistView → Bool
takes_next None = false
takes_next (Some d) = is_some (mail.next_mail d)

abbrev pub has_next : LiveView → Bool
has_next v = takes_next v.dist

-- how many messages its dist_ac hasn't handled yet
abbrev pub mail_in : Option DistView → ℕ
mail_in None = 0
mail_in (Some d) = length d.mail

abbrev pub mail_count : LiveView → ℕ
mail_count v = mail_in v.dist

-- what the message that it takes next asks of the system before it is handled
abbrev pub need_if : Option ℕ → DistView → Need
need_if None d = need.Nothing
need_if (Some place) d = outside.need_of place d

abbrev pub need_next : DistView → Need
need_next d = need_if (mail.next_mail d) d

abbrev pub need_in : Option DistView → Need
need_in None = need.Nothing
need_in (Some d) = need_next d

abbrev pub need_of : LiveView → Need
need_of v = need_in v.dist

-- with a change of its dist_ac, where it has one
abbrev pub with_change : (DistView → DistView) → Option DistView → LiveView → LiveView
with_change f None v = v
with_change f (Some d) v = record v { dist = Some (f d) }

-- its dist_ac has a message more in its mailbox
abbrev pub mailed : Message → LiveView → LiveView
mailed m v = with_change (outside.with_message m) v.dist v

-- sync_dacs/1: it waits for the lock at these nodes
abbrev pub waiting_for_lock : List Node → LiveView → LiveView
waiting_for_lock nodes v = with_change (outside.at_lock nodes) v.dist v

-- monitor_node/2: it is told once more of the end of this node
abbrev pub monitored : Node → LiveView → LiveView
monitored n v = with_change (outside.with_monitor n) v.dist v

-- how often it is told of the end of this node, beside that of all that it sees
abbrev pub monitors_in : Node → Option DistView → ℕ
monitors_in n None = 0
monitors_in n (Some d) = outside.monitors n d

abbrev pub monitor_count : Node → LiveView → ℕ
monitor_count n v = monitors_in n v.dist

-- it was told of the end of this node
abbrev pub without_monitors : Node → LiveView → LiveView
without_monitors n v = with_change (outside.without_monitors n) v.dist v

-- the first start request that found the lock of its node held is sent again
abbrev pub unparked : LiveView → LiveView
unparked v = with_change outside.unparked v.dist v
