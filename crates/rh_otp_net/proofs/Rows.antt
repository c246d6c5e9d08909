-- Single rules at work. What is expected is what the model in companions/rehearse_tools/otp25 does, which was measured against real
-- nodes.
use Rattle.std.proofs.Common.{◌≡◌, ℕ, [], ◌∷◌, Some, refl}
use Rattle.rh_model.specs.ClusterView.{numbered}
use Rattle.rh_model.specs.declared.node.Node.{Node}
use Rattle.rh_otp_model.specs.declared.message.Message.TheVariants.{Go}
use Rattle.rh_otp_model.specs.declared.output.Envelope.{Envelope}
use Rattle.rh_otp_model.specs.declared.output.Requester.{Requester}
use Rattle.rh_otp_model.specs.declared.output.Requester.TheVariants.{Sync, Alone}
use Rattle.rh_otp_model.specs.declared.process.Process.{Process}
use Rattle.rh_otp_model.specs.declared.process.Role.TheVariants as role
use Rattle.rh_otp_model.specs.Processes.{process_at}
use Rattle.rh_otp_net.specs.declared.locks.Held.{Held}
use Rattle.rh_otp_net.specs.declared.order.Order.TheVariants.{FirstComes, LastComes, Drawn}
use Rattle.rh_otp_net.specs.declared.timers.Timer.{Timer}
use Rattle.rh_otp_net.specs.Links.{link, linked_with, to_connect, without_node}
use Rattle.rh_otp_net.specs.Locks.{taken, freed}
use Rattle.rh_otp_net.specs.Locks as locks
use Rattle.rh_otp_net.specs.Order.{drawn, place_in, next_order}
use Rattle.rh_otp_net.specs.Queue.{first_of_pair}
use Rattle.rh_otp_net.specs.Timers.{next_due, fired, left}

abbrev n : ℕ → Node
n = numbered

-- the dist_ac of a node in its first life
abbrev dist : ℕ → Process
dist k = process_at (record { node = n k; life = 1 }) role.DistAc

-- ---- connections

-- A third node connects with one of two that see one another: global connects it with the other.
third_node : to_connect (n 1) (n 2) (link (n 0) (n 1) ∷ []) ≡ link (n 0) (n 2) ∷ []
unfolding to_connect
third_node = refl

-- two pairs become one net
two_pairs : to_connect (n 1) (n 2) (link (n 0) (n 1) ∷ link (n 2) (n 3) ∷ [])
    ≡ link (n 1) (n 3) ∷ link (n 0) (n 2) ∷ link (n 0) (n 3) ∷ []
unfolding to_connect
two_pairs = refl

-- what both see already, in whatever order they were connected, isn't connected again
both_see_it : to_connect (n 1) (n 2) (link (n 0) (n 1) ∷ link (n 2) (n 0) ∷ []) ≡ []
unfolding to_connect
both_see_it = refl

-- that with which a node was connected first stands in front
first_in_front : linked_with (n 1) (link (n 2) (n 1) ∷ link (n 2) (n 0) ∷ link (n 1) (n 0) ∷ []) ≡ n 2 ∷ n 0 ∷ []
first_in_front = refl

last_link_ends : without_node (n 2) (link (n 2) (n 1) ∷ link (n 1) (n 0) ∷ link (n 0) (n 2) ∷ []) ≡ link (n 1) (n 0) ∷ []
last_link_ends = refl

-- ---- locks

abbrev held : ℕ → Requester → ℕ → Held
held k r owner = record { node = n k; requester = r; owner = dist owner }

takes_all : taken Sync (dist 0) (n 0 ∷ n 1 ∷ []) [] ≡ held 0 Sync 0 ∷ held 1 Sync 0 ∷ []
takes_all = refl

-- those that synchronise have it together
takes_it_too : taken Sync (dist 1) (n 1 ∷ []) (held 1 Sync 0 ∷ []) ≡ held 1 Sync 0 ∷ held 1 Sync 1 ∷ []
takes_it_too = refl

-- held at one of its nodes by another name: it is taken at none
takes_none : taken Sync (dist 0) (n 0 ∷ n 1 ∷ []) (held 1 (Alone (dist 1)) 1 ∷ []) ≡ held 1 (Alone (dist 1)) 1 ∷ []
takes_none = refl

-- two processes don't have the same name
not_his_name : taken (Alone (dist 0)) (dist 0) (n 1 ∷ []) (held 1 (Alone (dist 1)) 1 ∷ []) ≡ held 1 (Alone (dist 1)) 1 ∷ []
not_his_name = refl

-- who frees it frees no lock of another process
frees_his_own : freed Sync (dist 1) (held 0 Sync 0 ∷ held 0 Sync 1 ∷ held 1 Sync 1 ∷ []) ≡ held 0 Sync 0 ∷ []
frees_his_own = refl

-- the locks of a node that has ended are free, at other nodes, too
ends_with_its_locks : locks.without_node (n 0) (held 0 Sync 1 ∷ held 1 Sync 0 ∷ held 1 Sync 1 ∷ []) ≡ held 1 Sync 1 ∷ []
ends_with_its_locks = refl

-- ---- messages

abbrev sent : ℕ → ℕ → Envelope
sent from to = record { from = dist from; to = dist to; message = Go }

-- the second message of a pair waits for the first
keeps_order : first_of_pair (sent 0 1 ∷ sent 1 0 ∷ sent 0 2 ∷ sent 1 0 ∷ []) 3 ≡ 1
keeps_order = refl

no_other : first_of_pair (sent 0 1 ∷ sent 1 0 ∷ sent 0 2 ∷ []) 2 ≡ 2
no_other = refl

-- ---- timers

abbrev timer : ℕ → ℕ → ℕ → Timer
timer due step to = record { due = due; step = step; to = dist to; message = Go }

-- of those that are due at once that of an earlier step fires first
earlier_step : next_due (timer 20 1 0 ∷ timer 10 3 0 ∷ timer 10 2 1 ∷ []) ≡ Some (10, 2)
earlier_step = refl

fires_in_order : fired (timer 10 2 0 ∷ timer 20 1 0 ∷ timer 10 2 1 ∷ []) ≡ timer 10 2 0 ∷ timer 10 2 1 ∷ []
fires_in_order = refl

others_stay : left (timer 10 2 0 ∷ timer 20 1 0 ∷ timer 10 2 1 ∷ []) ≡ timer 20 1 0 ∷ []
others_stay = refl

-- ---- in which order

-- the first numbers of the minimal standard generator, and the places that they give
draws_first : drawn 1 ≡ 48271
draws_first = refl

draws_next : drawn 48271 ≡ 182605794
draws_next = refl

takes_drawn : (place_in (Drawn 1) 10 ≡ 1) × (next_order (Drawn 1) ≡ Drawn 48271)
takes_drawn = (refl, refl)

takes_first : (place_in FirstComes 10 ≡ 0) × (next_order FirstComes ≡ FirstComes)
takes_first = (refl, refl)

takes_last : (place_in LastComes 10 ≡ 9) × (next_order LastComes ≡ LastComes)
takes_last = (refl, refl)
