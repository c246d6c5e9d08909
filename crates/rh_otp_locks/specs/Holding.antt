-- What global's locks of the one resource `dist_ac` are held for.
use Rattle.std.specs.Prelude.{◌≡◌, ◌⊎◌, ℕ, [], Bool, true, false, All, Option, Some, slice_get}
use Rattle.std.specs.Option.{option_map}
use Rattle.rh_model.specs.declared.node.Node.{Node}
use Rattle.rh_otp_model.specs.declared.output.Requester.{Requester}
use Rattle.rh_otp_model.specs.declared.output.Requester.TheVariants.{Sync, Alone}
use Rattle.rh_otp_model.specs.declared.process.Process.{Process}
use Rattle.rh_otp_model.specs.declared.process.Role.TheVariants as role
use Rattle.rh_otp_dist.specs.declared.attempt.AskedBy.{AskedBy}
use Rattle.rh_otp_dist.specs.declared.attempt.AskedBy.TheVariants as asked
use Rattle.rh_otp_dist.specs.declared.state.Stand.{Stand}
use Rattle.rh_otp_dist.specs.declared.state.Stand.TheVariants as stand
use Rattle.rh_otp_dist.specs.State.{DistView}
use Rattle.rh_otp_net.specs.declared.locks.Held.{Held}
use Rattle.rh_otp_system.specs.declared.calls.Call.{Call}
use Rattle.rh_otp_system.specs.declared.calls.Stage.TheVariants as stage
use Rattle.rh_otp_system.specs.Calls.{process_of}
use Rattle.rh_otp_system.specs.State.{SystemView, node_at, lives}
use Rattle.rh_otp_laws.specs.Acting.{IsReached}
use Rattle.rh_otp_crashes.specs.Crashes.{AreAtRest}

-- where a node's dist_ac stands, if it has one
abbrev pub stand_at : SystemView → Node → Option Stand
stand_at s n = option_map (λ (d : DistView). d.stand) (node_at s n).dist

-- did a controller ask for the start?
abbrev pub is_asked : AskedBy → Bool
is_asked asked.Controller = true
is_asked asked.Nobody = false

-- does a dist_ac that stands so wait for what others tell of themselves (dist_ac, wait_dacs/4)?
abbrev pub is_introducing : Stand → Bool
is_introducing (stand.ForIntroduction w) = true
is_introducing w = false

-- does it stand in the middle of a start for which its controller asked (dist_ac, handle_info({ac_start_application_req, ..}))?
abbrev pub is_starting : Stand → Bool
is_starting (stand.ForWeight w) = is_asked w.attempt.asked_by
is_starting (stand.ForStart attempt n) = is_asked attempt.asked_by
is_starting (stand.ForAnyStart attempt) = is_asked attempt.asked_by
is_starting w = false

-- A dist_ac, this process, has the lock by this name for something, where it stands so: by the name of all that synchronise while it waits
-- for what others tell of themselves, and by a name of its own in the middle of a start for which its controller asked.
abbrev pub IsNeeded : Requester → Process → Stand → Type 0
IsNeeded r p w = ((r ≡ Sync) × (is_introducing w ≡ true)) ⊎ ((r ≡ Alone p) × (is_starting w ≡ true))

-- the process of a call has it, by a name of its own: the call has asked its dist_ac, and waits for the answer (global:trans/3)
pub record IsForCall (s : SystemView) (h : Held) : Type 0 where
  pub place : ℕ
  pub call : Call
  pub is_there : slice_get s.calls place ≡ Some call
  pub waits : call.stage ≡ stage.DistAc
  pub owner : h.owner ≡ process_of call
  pub name : h.requester ≡ Alone h.owner

-- the dist_ac of the owner's node has it, and needs it where it stands
pub record IsForDist (s : SystemView) (h : Held) : Type 0 where
  pub role : h.owner.role ≡ role.DistAc
  pub at : Stand
  pub stands : stand_at s h.owner.node ≡ Some at
  pub needs : IsNeeded h.requester h.owner at

-- its owner is there still, and has it for a call or for what its dist_ac stands in the middle of
pub record IsHeldFor (s : SystemView) (h : Held) : Type 0 where
  pub there : lives s h.owner ≡ true
  pub what : IsForCall s h ⊎ IsForDist s h

-- In any state that live nodes reach no lock is held for nothing.
abbrev pub LocksAreHeldForSomething : Type 0
LocksAreHeldForSomething = (s : SystemView) → IsReached s → All (IsHeldFor s) s.locks

-- So where they are at rest nobody has a lock.
abbrev pub NobodyHasALockAtRest : Type 0
NobodyHasALockAtRest = (s : SystemView) → IsReached s → AreAtRest s → s.locks ≡ []
