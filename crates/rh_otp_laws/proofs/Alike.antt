-- Processes and names that are told to be the same are.
use Rattle.std.proofs.Common.{◌≡◌, ◌==◌, ◌&&◌, ℕ, true, refl, ap}
use Rattle.std.proofs.lemmas.Bool.{false≢true, eqb-true, eq-eqb, and_parts, and_from}
use Rattle.rh_otp_model.specs.declared.output.Requester.{Requester}
use Rattle.rh_otp_model.specs.declared.output.Requester.TheVariants.{Sync, Alone}
use Rattle.rh_otp_model.specs.declared.process.Process.{Process}
use Rattle.rh_otp_model.specs.declared.process.Role.{Role}
use Rattle.rh_otp_model.specs.declared.process.Role.TheVariants as role
use Rattle.rh_otp_net.specs.Alike.{is_role, is_process, is_requester}

same_role : (r s : Role) → is_role r s ≡ true → r ≡ s
same_role role.Controller role.Controller is = refl
same_role role.DistAc role.DistAc is = refl
same_role role.KernelConfig role.KernelConfig is = refl
same_role role.NetKernel role.NetKernel is = refl
same_role role.Boot role.Boot is = refl
same_role (role.Starter a) (role.Starter b) is = ap (λ (k : ℕ). role.Starter (record { 0 = k })) (eqb-true a.0 b.0 is)
same_role role.Timer role.Timer is = refl
same_role role.System role.System is = refl
same_role (role.Call m) (role.Call n) is = ap role.Call (eqb-true m n is)
same_role r s is = absurd (false≢true is)

role_itself : (r : Role) → is_role r r ≡ true
role_itself role.Controller = refl
role_itself role.DistAc = refl
role_itself role.KernelConfig = refl
role_itself role.NetKernel = refl
role_itself role.Boot = refl
role_itself (role.Starter a) = eq-eqb a.0 a.0 refl
role_itself role.Timer = refl
role_itself role.System = refl
role_itself (role.Call m) = eq-eqb m m refl

pub same_process : (p q : Process) → is_process p q ≡ true → p ≡ q
same_process p q is =
    let both : ((is_role p.role q.role && p.node.0 == q.node.0) ≡ true) × ((p.life == q.life) ≡ true) = and_parts _ _ is in
    let parts : (is_role p.role q.role ≡ true) × ((p.node.0 == q.node.0) ≡ true) = and_parts _ _ both.0 in
    λ i. record {
      role = same_role p.role q.role parts.0 i;
      node = record { 0 = eqb-true p.node.0 q.node.0 parts.1 i };
      life = eqb-true p.life q.life both.1 i;
    }

pub process_itself : (p : Process) → is_process p p ≡ true
process_itself p =
    and_from (is_role p.role p.role && p.node.0 == p.node.0) (p.life == p.life)
    (and_from (is_role p.role p.role) (p.node.0 == p.node.0) (role_itself p.role) (eq-eqb p.node.0 p.node.0 refl)) (eq-eqb p.life p.life refl)

pub same_requester : (r s : Requester) → is_requester r s ≡ true → r ≡ s
same_requester Sync Sync is = refl
same_requester (Alone p) (Alone q) is = ap Alone (same_process p q is)
same_requester r s is = absurd (false≢true is)
