-- What the answer to a call says (ours: in the words of a rehearsal).
use Rattle.std.specs.Prelude.{Bool, true, false, Option, Some, None, not, ◌&&◌, if◌then◌else◌}
use Rattle.rh_rules.specs.declared.refusal.Refusal.{Refusal}
use Rattle.rh_rules.specs.declared.refusal.Refusal.TheVariants as refusal
use Rattle.rh_otp_model.specs.declared.fault.Fault.{Fault}
use Rattle.rh_otp_model.specs.declared.fault.Fault.TheVariants as fault
use Rattle.rh_otp_model.specs.declared.fault.Outcome.{Outcome}
use Rattle.rh_otp_model.specs.declared.fault.Outcome.TheVariants as outcome
use Rattle.rh_otp_system.specs.declared.calls.Ask.{Ask}
use Rattle.rh_otp_system.specs.declared.calls.Ask.TheVariants as ask
use Rattle.rh_otp_system.specs.Calls.{is_takeover}
use Rattle.rh_otp_sim.specs.declared.verdict.Verdict.{Verdict}
use Rattle.rh_otp_sim.specs.declared.verdict.Verdict.TheVariants.{Done, Refused, Failed}

abbrev pub is_start : Ask → Bool
is_start (ask.Start restart) = true
is_start asked = false

abbrev pub is_stop : Ask → Bool
is_stop ask.Stop = true
is_stop asked = false

abbrev pub is_exit : Ask → Bool
is_exit (ask.Exit is_normal) = true
is_exit asked = false

abbrev pub refusal_if : Bool → Refusal → Option Refusal
refusal_if true why = Some why
refusal_if false why = None

-- the refusal of the first rules that says the same as an error, by what was asked, if there is one
abbrev pub refusal_for : Ask → Fault → Option Refusal
refusal_for asked (fault.AlreadyStarted a) = refusal_if (is_start asked) refusal.AlreadyStarted
refusal_for asked (fault.NotStarted a) = refusal_if (is_stop asked) refusal.NeverStarted
refusal_for asked (fault.RunsNowhere a) = refusal_if (is_takeover asked) refusal.NotRunning
refusal_for asked (fault.RunsLocally a) = refusal_if (is_takeover asked) refusal.RunsHere
refusal_for asked fault.NotRunning = refusal_if (is_exit asked) refusal.NotRunningHere
refusal_for asked (fault.NeedsStarted dep) = Some (refusal.DependencyNotStarted dep)
refusal_for asked (fault.NeedsRunning dep) = Some (refusal.DependencyNotStarted dep)
refusal_for asked fault.Stopped = None
refusal_for asked (fault.FailedAt n dep) = None

abbrev pub verdict_by : Option Refusal → Fault → Verdict
verdict_by (Some why) error = Refused why
verdict_by None error = Failed error

-- what an error says, by what was asked
abbrev pub verdict_of_fault : Ask → Fault → Verdict
verdict_of_fault asked error = verdict_by (refusal_for asked error) error

-- what the answer to a call says
abbrev pub verdict_of : Ask → Outcome → Verdict
verdict_of asked (outcome.Failed why) = verdict_of_fault asked why
verdict_of asked o = Done

-- was there nothing to do at this node, where others of the same command may have found something?
abbrev pub is_idle : Verdict → Bool
is_idle (Refused refusal.AlreadyStarted) = true
is_idle (Refused refusal.NeverStarted) = true
is_idle verdict = false

abbrev pub is_done : Verdict → Bool
is_done Done = true
is_done verdict = false

-- Which of two verdicts is told, the first of which came first: an error before ok, and ok before that there was nothing to do.
abbrev pub weightier : Verdict → Verdict → Verdict
weightier one two =
    if is_idle one then (if is_idle two then one else two)
    else if is_done one && not (is_idle two) then two
    else one
