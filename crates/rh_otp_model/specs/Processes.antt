-- The processes of a live node (ours: how they are named).
use Rattle.rh_otp_model.specs.declared.process.Here.{Here}
use Rattle.rh_otp_model.specs.declared.process.Process.{Process}
use Rattle.rh_otp_model.specs.declared.process.Role.{Role}

-- a node's process of this role
abbrev pub process_at : Here → Role → Process
process_at here role = record { role = role; node = here.node; life = here.life }
