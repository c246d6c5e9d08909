-- What an event does to the system (ours: which call is made, and at which nodes).
use Rattle.std.specs.Prelude.{ℕ, ◌+◌, ◌-◌, ◌^◌, nat_lt, List, [], ◌∷◌, ◌&&◌, Bool, true, false, if◌then◌else◌}
use Rattle.rh_model.specs.ClusterView.{node_count}
use Rattle.rh_model.specs.declared.node.App.{App}
use Rattle.rh_model.specs.declared.node.Node.{Node}
use Rattle.rh_rules.specs.declared.event.Event.{Event}
use Rattle.rh_rules.specs.declared.event.Event.TheVariants as event
use Rattle.rh_otp_net.specs.declared.order.Order.{Order}
use Rattle.rh_otp_system.specs.declared.calls.Ask.{Ask}
use Rattle.rh_otp_system.specs.declared.calls.Ask.TheVariants as ask
use Rattle.rh_otp_system.specs.Doing.{booted, called, ticked, is_ticked}
use Rattle.rh_otp_system.specs.Moves.{settled, is_settled_by}
use Rattle.rh_otp_system.specs.Resting.{crashed}
use Rattle.rh_otp_system.specs.State.{SystemView, node_at}
use Rattle.rh_otp_sim.specs.Refusing.{hosts}
use Rattle.rh_otp_sim.specs.Sim.{LiveSimView}

-- so often at most something moves before a step is taken for one without end
abbrev pub most_moves : ℕ
most_moves = 1000000

-- does the command wait for a node that ends by itself? Other commands are over before such a node ends, 1.5 s later.
abbrev pub waits_for_end : Event → Bool
waits_for_end (event.Boot n) = true
waits_for_end (event.Exit n a normal) = true
waits_for_end e = false

-- a node begins, if there is such a node, and its lives can be counted
abbrev pub booted_if : Node → SystemView → SystemView
booted_if n s = if nat_lt n.0 (node_count s.cluster) && nat_lt (node_at s n).life (2 ^ 32 - 1) then booted n s else s

-- an operator calls, if calls can be counted still
abbrev pub called_if : Ask → Node → App → SystemView → SystemView
called_if asked n a s = if nat_lt s.last_call (2 ^ 32 - 1) then called asked n a s else s

-- at all of these nodes
abbrev pub called_at : Ask → List Node → App → SystemView → SystemView
called_at asked [] a s = s
called_at asked (n ∷ nodes) a s = called_at asked nodes a (called_if asked n a s)

-- time passes, if the clock reaches so far
abbrev pub time_passed : ℕ → Order → SystemView → SystemView
time_passed ms order s = if nat_lt (s.clock + ms) (2 ^ 64) then ticked (s.clock + ms) most_moves order s else s

abbrev pub is_passed : ℕ → Order → SystemView → Bool
is_passed ms order s = if nat_lt (s.clock + ms) (2 ^ 64) then is_ticked (s.clock + ms) most_moves order s else true

-- what an event does at first, but for time that passes
abbrev pub done_first : Event → LiveSimView → SystemView → SystemView
done_first (event.Boot n) sim s = booted_if n s
done_first (event.Crash n) sim s = crashed n s
done_first (event.Tick ms) sim s = s
done_first (event.Start n a restart) sim s = called_if (ask.Start restart) n a s
done_first (event.Stop n a) sim s = called_if ask.Stop n a s
done_first (event.Permit n a allow) sim s = called_if (ask.Permit allow) n a s
done_first (event.Takeover n a restart) sim s = called_if (ask.Takeover restart) n a s
done_first (event.Exit n a normal) sim s = called_if (ask.Exit normal) n a s
done_first (event.StartAll a restart) sim s = called_at (ask.Start restart) (hosts sim a) a s
done_first (event.StopAll a) sim s = called_at ask.Stop (hosts sim a) a s

-- what an event does at once, until nothing moves, so often at most
unfoldable pub acted_at_once : ℕ → Event → LiveSimView → SystemView → SystemView
acted_at_once most e sim s = settled most sim.order (done_first e sim s)

unfoldable pub is_quiet_at_once : ℕ → Event → LiveSimView → SystemView → Bool
is_quiet_at_once most e sim s = is_settled_by most sim.order (done_first e sim s)

-- what an event does, until nothing moves
unfoldable pub acted : Event → LiveSimView → SystemView → SystemView
acted (event.Tick ms) sim s = time_passed ms sim.order s
acted e sim s = acted_at_once most_moves e sim s

-- is all quiet behind it?
unfoldable pub is_acted : Event → LiveSimView → SystemView → Bool
is_acted (event.Tick ms) sim s = is_passed ms sim.order s
is_acted e sim s = is_quiet_at_once most_moves e sim s
