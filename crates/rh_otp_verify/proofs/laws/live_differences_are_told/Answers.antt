use Rattle.std.proofs.Common.{refl}
use Rattle.rh_script.specs.Lines.{cluster_text}
use Rattle.rh_verify.proofs.Agreeing.{agrees_by, quiet_by}
use Rattle.rh_otp_verify.specs.LiveVerify.{live, live_nodes, live_verify_end}
use Rattle.rh_otp_verify.proofs.laws.live_differences_are_told.Goals as goal

pub returns-clause-told : goal.returns-clause-told
unfolding live_verify_end
returns-clause-told _ = λ order bytes c is. agrees_by live (live_nodes order (cluster_text bytes)) bytes c is refl

pub returns-clause-nothing : goal.returns-clause-nothing
unfolding live_verify_end
returns-clause-nothing _ = λ order bytes c is none. quiet_by live (live_nodes order (cluster_text bytes)) bytes c is refl none
