-- Which processes and names are the same (ours).
use Rattle.std.specs.Prelude.{◌==◌, ◌&&◌, Bool, true, false}
use Rattle.rh_otp_model.specs.declared.output.Requester.{Requester}
use Rattle.rh_otp_model.specs.declared.output.Requester.TheVariants.{Sync, Alone}
use Rattle.rh_otp_model.specs.declared.process.Process.{Process}
use Rattle.rh_otp_model.specs.declared.process.Role.{Role}
use Rattle.rh_otp_model.specs.declared.process.Role.TheVariants as role

-- is it the same role?
abbrev pub is_role : Role → Role → Bool
is_role role.Controller role.Controller = true
is_role role.DistAc role.DistAc = true
is_role role.KernelConfig role.KernelConfig = true
is_role role.NetKernel role.NetKernel = true
is_role role.Boot role.Boot = true
is_role (role.Starter a) (role.Starter b) = a.0 == b.0
is_role role.Timer role.Timer = true
is_role role.System role.System = true
is_role (role.Call m) (role.Call n) = m == n
is_role r s = false

-- is it the same process?
abbrev pub is_process : Process → Process → Bool
is_process p q = is_role p.role q.role && p.node.0 == q.node.0 && p.life == q.life

-- is a lock asked for by the same name?
abbrev pub is_requester : Requester → Requester → Bool
is_requester Sync Sync = true
is_requester (Alone p) (Alone q) = is_process p q
is_requester r s = false
