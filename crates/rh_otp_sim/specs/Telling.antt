-- What is told of a command (ours: in the words of a rehearsal on real nodes).
use Rattle.std.specs.Prelude.{ℕ, nat_lt, nat_le, List, [], ◌∷◌, ◌==◌, not, Bool, false, find, Option, Some, None, if◌then◌else◌}
use Rattle.std.specs.List.{list_any, filter_map}
use Rattle.std.specs.Option.{option_map, option_and_then}
use Rattle.rh_model.specs.declared.node.Node.{Node}
use Rattle.rh_otp_model.specs.declared.output.Event.{Event}
use Rattle.rh_otp_model.specs.declared.output.Event.TheVariants as event
use Rattle.rh_otp_system.specs.declared.calls.Call.{Call}
use Rattle.rh_otp_system.specs.declared.calls.Stage.{Stage}
use Rattle.rh_otp_system.specs.declared.calls.Stage.TheVariants as stage
use Rattle.rh_otp_system.specs.declared.calls.Ask.{Ask}
use Rattle.rh_otp_sim.specs.declared.lines.Answer.{Answer}
use Rattle.rh_otp_sim.specs.declared.lines.Answer.TheVariants.{Told, NoAnswer}
use Rattle.rh_otp_sim.specs.declared.lines.Line.{Line}
use Rattle.rh_otp_sim.specs.declared.lines.Line.TheVariants as line
use Rattle.rh_otp_sim.specs.declared.verdict.Verdict.{Verdict}
use Rattle.rh_otp_sim.specs.declared.verdict.Verdict.TheVariants.{Done}
use Rattle.rh_otp_sim.specs.Verdicts.{verdict_of, weightier}

abbrev pub verdict_by : Ask → Stage → Option Verdict
verdict_by asked (stage.Done outcome) = Some (verdict_of asked outcome)
verdict_by asked w = None

-- what a call was answered, if it was
abbrev pub verdict_in : Call → Option Verdict
verdict_in call = verdict_by call.ask call.stage

-- is it the end of the node?
abbrev pub is_end_of : Node → Event → Bool
is_end_of n (event.Ended m) = m.0 == n.0
is_end_of n e = false

-- has the node ended?
abbrev pub has_ended : Node → List Event → Bool
has_ended n events = list_any (is_end_of n) events

abbrev pub told_with : Option Verdict → Verdict → Verdict
told_with None verdict = verdict
told_with (Some one) verdict = weightier one verdict

abbrev pub answer_told : Option Verdict → Answer
answer_told None = Told Done
answer_told (Some verdict) = Told verdict

abbrev pub answer_by : (Option Verdict → Answer) → Option Verdict → Option Verdict → Answer
answer_by go_on told None = NoAnswer
answer_by go_on told (Some verdict) = go_on (Some (told_with told verdict))

-- the answer of these calls and of what was told before them, where those of a command come behind the call of a number
abbrev pub answer_from : ℕ → Option Verdict → List Call → Answer
answer_from before told [] = answer_told told
answer_from before told (call ∷ calls) =
    if nat_lt before call.number then answer_by (λ now. answer_from before now calls) told (verdict_in call)
    else answer_from before told calls

-- The answer to a command: of several calls the weightiest verdict, and none where one is still open.
abbrev pub answer_of : ℕ → List Call → Answer
answer_of before calls = answer_from before None calls

abbrev pub answered_by : Call → Option Line
answered_by call = option_map (λ verdict. line.Answered call.ask call.node call.app verdict) (verdict_in call)

-- the line of the call of this number, if it was answered
abbrev pub answered_line : ℕ → List Call → Option Line
answered_line number calls = option_and_then answered_by (find (λ (call : Call). call.number == number) calls)

-- The line of an event, if it has one. What stops because its node ends isn't told, nor the answer to a call of the command itself.
abbrev pub line_of : List Event → List Call → ℕ → Event → Option Line
line_of events calls before (event.Up n) = Some (line.Up n)
line_of events calls before (event.Ended n) = Some (line.Ended n)
line_of events calls before (event.Started a n kind) = Some (line.Started a n kind)
line_of events calls before (event.Stopped a n) = if not (has_ended n events) then Some (line.Stopped a n) else None
line_of events calls before (event.Failed a n fault) = Some (line.Failed a n fault)
line_of events calls before (event.Answered number) = if nat_le number before then answered_line number calls else None
line_of events calls before e = None

-- the lines of what has happened, in its order
abbrev pub lines_of : List Event → List Call → ℕ → List Line
lines_of events calls before = filter_map (line_of events calls before) events
