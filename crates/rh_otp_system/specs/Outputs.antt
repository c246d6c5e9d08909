-- What a process has done in a turn, carried out.
use Rattle.std.specs.Prelude.{List, [], ◌∷◌}
use Rattle.rh_model.specs.declared.node.Node.{Node}
use Rattle.rh_otp_model.specs.declared.output.Output.{Output}
use Rattle.rh_otp_model.specs.declared.output.Output.TheVariants as output
use Rattle.rh_otp_model.specs.declared.output.Requester.{Requester}
use Rattle.rh_otp_model.specs.declared.process.Process.{Process}
use Rattle.rh_otp_model.specs.declared.process.Role.TheVariants as role
use Rattle.rh_otp_net.specs.Locks.{freed}
use Rattle.rh_otp_system.specs.State.{SystemView, process_in}
use Rattle.rh_otp_system.specs.Sending.{sent, told, after}
use Rattle.rh_otp_system.specs.Connecting.{send_to_dist, monitor}

-- global:del_lock/2
abbrev pub free : Requester → Process → SystemView → SystemView
free requester owner s = record s { locks = freed requester owner s.locks }

-- what a process of the node has done; only its dist_ac sets timers
abbrev pub carried_out : Node → Output → SystemView → SystemView
carried_out n (output.Send e) s = sent e.from e.to e.message s
carried_out n (output.Tell e) s = told e s
carried_out n (output.ToDist to m) s = send_to_dist n to m s
carried_out n (output.Monitor other) s = monitor n other s
carried_out n (output.Free requester owner) s = free requester owner s
carried_out n (output.After time m) s = after time (process_in s n role.DistAc) m s

-- all of it, in order
abbrev pub all_carried_out : Node → List Output → SystemView → SystemView
all_carried_out n [] s = s
all_carried_out n (o ∷ outputs) s = all_carried_out n outputs (carried_out n o s)
