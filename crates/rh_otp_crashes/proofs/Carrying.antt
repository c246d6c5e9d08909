-- What comes of a turn that only sends, and sets timers that aren't over at once.
use Rattle.std.proofs.Common.{◌≡◌, ◌<◌, ◌+◌, ◌++◌, ◌^◌, ℕ, Bool, true, false, cond, nat_lt, List, [], ◌∷◌, refl, sym, ap, ◌∙◌, arith}
use Rattle.std.specs.Prelude.{All}
use Rattle.std.proofs.lemmas.Bool.{ne_eqb}
use Rattle.std.proofs.lemmas.List.{append_assoc, append-nil}
use Rattle.std.proofs.lemmas.List.Elements.{All-head, All-tail}
use Rattle.rh_model.specs.declared.node.Node.{Node}
use Rattle.rh_otp_model.specs.declared.message.Message.{Message}
use Rattle.rh_otp_model.specs.declared.output.Envelope.{Envelope}
use Rattle.rh_otp_model.specs.declared.output.Output.{Output}
use Rattle.rh_otp_model.specs.declared.output.Output.TheVariants as output
use Rattle.rh_otp_model.specs.declared.process.Process.{Process}
use Rattle.rh_otp_model.specs.declared.process.Role.TheVariants as role
use Rattle.rh_otp_net.specs.declared.timers.Timer.{Timer}
use Rattle.rh_otp_system.specs.Outputs.{carried_out, all_carried_out}
use Rattle.rh_otp_system.specs.Sending.{after, sent, with_timer}
use Rattle.rh_otp_system.specs.State.{SystemView, process_in}

-- it sends, or sets such a timer
abbrev pub IsPlain : Output → Type 0
IsPlain (output.Send e) = Unit {0}
IsPlain (output.After time m) = 0 < time
IsPlain o = ⊥

-- the messages
abbrev pub letters : List Output → List Envelope
letters [] = []
letters (output.Send e ∷ outs) = e ∷ letters outs
letters (o ∷ outs) = letters outs

-- the timer of one that is set at this time, by a command of this number, if it can fire
abbrev alarm : ℕ → ℕ → Process → ℕ → Message → List Timer
alarm clock step to time m =
    cond (nat_lt 4294967295 time) []
    (cond (nat_lt (clock + time) (2 ^ 64)) (record { due = clock + time; step = step; to = to; message = m } ∷ []) [])

-- and the timers
abbrev pub alarms : ℕ → ℕ → Process → List Output → List Timer
alarms clock step to [] = []
alarms clock step to (output.After time m ∷ outs) = alarm clock step to time m ++ alarms clock step to outs
alarms clock step to (o ∷ outs) = alarms clock step to outs

-- all of it, of this process
abbrev pub done : Process → List Output → SystemView → SystemView
done to outs s = record s { messages = s.messages ++ letters outs; timers = s.timers ++ alarms s.clock s.step to outs }

abbrev timed : List Timer → SystemView → SystemView
timed more s = record s { timers = s.timers ++ more }

is_set : (time : ℕ) (to : Process) (m : Message) (s : SystemView) → 0 < time → after time to m s ≡ timed (alarm s.clock s.step to time m) s
unfolding after
is_set time to m s later =
    ap (λ (b : Bool). cond b (sent (record to { role = role.Timer }) to m s)
    (cond (nat_lt 4294967295 time) s (cond (nat_lt (s.clock + time) (2 ^ 64)) (with_timer (s.clock + time) to m s) s)))
    (ne_eqb time 0 (λ none. omega (arith, none, later)))
    ∙ by (nat_lt 4294967295 time) (nat_lt (s.clock + time) (2 ^ 64))
  where
    none : s ≡ timed [] s
    none = λ i. record s { timers = sym (append-nil s.timers) i }

    by : (b c : Bool) → cond b s (cond c (with_timer (s.clock + time) to m s) s)
        ≡ timed (cond b [] (cond c (record { due = s.clock + time; step = s.step; to = to; message = m } ∷ []) [])) s
    by true c = none
    by false true = refl
    by false false = none

pub carries : (n : Node) (to : Process) (outs : List Output) (s : SystemView) → process_in s n role.DistAc ≡ to
    → All IsPlain outs → all_carried_out n outs s ≡ done to outs s
carries n to [] s is losses =
    λ i. record s { messages = sym (append-nil s.messages) i; timers = sym (append-nil s.timers) i }
carries n to (output.Send e ∷ outs) s is losses =
    let next : SystemView = carried_out n (output.Send e) s in
    carries n to outs next is (All-tail IsPlain (output.Send e) outs losses)
    ∙ (λ i. record s { messages = append_assoc s.messages (e ∷ []) (letters outs) i; timers = s.timers ++ alarms s.clock s.step to outs })
carries n to (output.After time m ∷ outs) s is losses =
    let set : List Timer = alarm s.clock s.step to time m in
    ap (λ (p : Process). all_carried_out n outs (after time p m s)) is
    ∙ ap (all_carried_out n outs) (is_set time to m s (All-head IsPlain (output.After time m) outs losses))
    ∙ carries n to outs (timed set s) is (All-tail IsPlain (output.After time m) outs losses)
    ∙ (λ i. record s { messages = s.messages ++ letters outs; timers = append_assoc s.timers set (alarms s.clock s.step to outs) i })
carries n to (output.Tell e ∷ outs) s is losses = absurd (All-head IsPlain (output.Tell e) outs losses)
carries n to (output.ToDist m x ∷ outs) s is losses = absurd (All-head IsPlain (output.ToDist m x) outs losses)
carries n to (output.Monitor m ∷ outs) s is losses = absurd (All-head IsPlain (output.Monitor m) outs losses)
carries n to (output.Free r p ∷ outs) s is losses = absurd (All-head IsPlain (output.Free r p) outs losses)
