-- global's locks of the one resource `dist_ac`.
use Rattle.std.specs.Prelude.{◌==◌, ◌&&◌, ◌++◌, not, Bool, List, map, filter, if◌then◌else◌}
use Rattle.std.specs.List.{list_any}
use Rattle.rh_model.specs.ClusterView.{is_in}
use Rattle.rh_model.specs.declared.node.Node.{Node}
use Rattle.rh_otp_model.specs.declared.output.Requester.{Requester}
use Rattle.rh_otp_model.specs.declared.process.Process.{Process}
use Rattle.rh_otp_net.specs.declared.locks.Held.{Held}
use Rattle.rh_otp_net.specs.Alike.{is_process, is_requester}

-- is it held at one of these nodes by another name?
abbrev pub is_others : Requester → List Node → Held → Bool
is_others r nodes h = is_in h.node nodes && not (is_requester h.requester r)

-- does nobody have it at these nodes by another name?
abbrev pub is_free : Requester → List Node → List Held → Bool
is_free r nodes rows = not (list_any (is_others r nodes) rows)

-- a row a node
abbrev pub held_at : Requester → Process → List Node → List Held
held_at r p nodes = map (λ n. record { node = n; requester = r; owner = p }) nodes

-- global:set_lock/3: at all of these nodes, or at none
abbrev pub taken : Requester → Process → List Node → List Held → List Held
taken r p nodes rows = if is_free r nodes rows then rows ++ held_at r p nodes else rows

-- global:del_lock/2: the process has it by this name at no node
abbrev pub freed : Requester → Process → List Held → List Held
freed r p rows = filter (λ (h : Held). not (is_requester h.requester r && is_process h.owner p)) rows

-- a node has ended, with its own lock and with those that its processes have at others
abbrev pub without_node : Node → List Held → List Held
without_node n rows = filter (λ (h : Held). not (h.node.0 == n.0) && not (h.owner.node.0 == n.0)) rows
