-- What the profile of a cluster changes: nothing, until a permission is given back (ours).
use Rattle.std.specs.Prelude.{◌≡◌, ℕ, List, [], ◌∷◌, ◌&&◌, not, Bool, false, All}
use Rattle.rh_model.specs.ClusterView.{ClusterView}
use Rattle.rh_state.specs.StateView.{StateView, is_started, is_allowed}
use Rattle.rh_rules.specs.declared.pick.Pick.{Pick}
use Rattle.rh_rules.specs.declared.event.Event.{Event}
use Rattle.rh_rules.specs.declared.event.Event.TheVariants.{Permit}
use Rattle.rh_rules.specs.Refusals.{refused}
use Rattle.rh_rules.specs.Steps.{next, outcome}
use Rattle.rh_calls.specs.declared.call.Call.{Call}
use Rattle.rh_calls.specs.declared.call.Call.TheVariants as call
use Rattle.rh_trail.specs.SimView.{SimView, state_of}
use Rattle.rh_trail.specs.Lone.{opened, replies}
use Rattle.rh_trail.specs.Laws.{next_sim}

-- the same cluster, simulated by the rules of this profile
abbrev pub in_profile : ℕ → ClusterView → ClusterView
in_profile profile c = record c { profile = profile }

-- the same state of it
abbrev pub state_in : ℕ → StateView → StateView
state_in profile s = record s { cluster = in_profile profile s.cluster }

-- an event gives back the permission of an application at a node at which it is started
-- (application(3), permit/2)
abbrev pub gives_back : StateView → Event → Bool
gives_back s (Permit n a allow) = allow && (not (is_allowed s n a) && is_started s n a)
gives_back s _ = false

-- in each profile an event is refused alike; and where it gives no such permission back, the same is
-- told, and the same state follows
abbrev pub SameUnderProfiles : Type 0
SameUnderProfiles =
    (profile : ℕ) (s : StateView) (e : Event) (pick : Pick)
    → (refused (state_in profile s) e ≡ refused s e)
    × (gives_back s e ≡ false
    → next (state_in profile s) e pick
    ≡ outcome (state_in profile (next s e pick).state) (next s e pick).notices)

-- ---- over calls

-- a call gives such a permission back, in the state in which it is made
abbrev pub call_gives_back : SimView → Call → Bool
call_gives_back s (call.Step e) = gives_back (state_of s) e
call_gives_back s _ = false

-- none of the calls that are made one after the other does
abbrev pub NoneGivesBack : SimView → List Call → Type 0
NoneGivesBack s [] = Unit {0}
NoneGivesBack s (asked ∷ calls) =
    (call_gives_back s asked ≡ false) × NoneGivesBack (next_sim s asked) calls

-- then one caller has the same replies in each profile, the reports among them
abbrev pub RepliesSameUnderProfiles : Type 0
RepliesSameUnderProfiles =
    (profile : ℕ) (c : ClusterView) (pick : Pick) (calls : List Call)
    → NoneGivesBack (opened c pick) calls
    → replies (opened (in_profile profile c) pick) calls ≡ replies (opened c pick) calls

-- a call permits an application to run at a node (application(3), permit/2)
abbrev pub permits : Call → Bool
permits (call.Step (Permit n a allow)) = allow
permits _ = false

-- calls of which none does give no permission back
abbrev pub NonePermitsNoneGivesBack : Type 0
NonePermitsNoneGivesBack =
    (s : SimView) (calls : List Call) → All (λ asked. permits asked ≡ false) calls
    → NoneGivesBack s calls
