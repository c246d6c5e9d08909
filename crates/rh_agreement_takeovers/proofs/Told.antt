-- What is told where a takeover was answered that all is well, and an observer has seen the start at one node and the stop at the other
-- one, before the answer or behind it.
use Rattle.std.proofs.Common.{◌≡◌, ◌⊎◌, ◌+◌, ◌&&◌, Bool, true, false, cond, nat_le, nat_lt, List, [], ◌∷◌, None, sym, ap, ◌∙◌, inl, inr, arith}
use Rattle.std.specs.List.{cons_option}
use Rattle.std.proofs.lemmas.Bool.{lt-ltb}
use Rattle.std.proofs.lemmas.Bool.Decides.{nat_tests}
use Rattle.rh_model.specs.ClusterView.{ClusterView}
use Rattle.rh_model.specs.declared.node.App.{App}
use Rattle.rh_model.specs.declared.node.Node.{Node}
use Rattle.rh_rules.specs.declared.notice.Notice.TheVariants as notice
use Rattle.rh_calls.specs.declared.call.Reply.TheVariants as reply
use Rattle.rh_script.specs.Answers.{answer_text, notice_line}
use Rattle.rh_state.specs.declared.status.Kind.TheVariants as kind
use Rattle.rh_otp_model.specs.declared.output.Event.{Event as Seen}
use Rattle.rh_otp_model.specs.declared.output.Event.TheVariants as seen
use Rattle.rh_otp_model.specs.declared.process.StartType.TheVariants.{Takeover}
use Rattle.rh_otp_sim.specs.declared.calls.LiveReply.TheVariants as live_reply
use Rattle.rh_otp_sim.specs.declared.lines.Answer.TheVariants.{Told}
use Rattle.rh_otp_sim.specs.declared.lines.Line.{Line}
use Rattle.rh_otp_sim.specs.declared.lines.Line.TheVariants as line
use Rattle.rh_otp_sim.specs.declared.stepping.Outcome.TheVariants as live
use Rattle.rh_otp_sim.specs.declared.verdict.Verdict.TheVariants as verdict
use Rattle.rh_otp_sim.specs.Sim.{LiveSimView}
use Rattle.rh_otp_sim.specs.Stepping.{happened}
use Rattle.rh_otp_sim.specs.Telling.{answer_of, answered_line, lines_of}
use Rattle.rh_otp_sim.specs.Verdicts.{is_start}
use Rattle.rh_otp_sim.specs.Waiting.{WaitingView, still_told, asked, events_asked, calls_asked}
use Rattle.rh_otp_system.specs.declared.calls.Call.{Call}
use Rattle.rh_otp_system.specs.State.{SystemView}
use Rattle.rh_otp_system.specs.Views.{NetView}
use Rattle.rh_otp_text.specs.Lines.{verdict_words, line_text}
use Rattle.rh_otp_text.specs.Replies.{reply_text}
use Rattle.rh_agreement_calls.proofs.Moving.{done}
use Rattle.rh_agreement_spread.proofs.Alike.{well}

-- its start at the one node, and its stop at the other one
abbrev pub moved_lines : App → Node → Node → List Line
moved_lines a n at = line.Started a n (Takeover at) ∷ line.Stopped a at ∷ []

module _ (net : NetView) (s : SystemView) (n at : Node) (a : App) (c : Call) (number : c.number ≡ net.last_call + 1)
    (no_start : is_start c.ask ≡ false) where
  behind_all : nat_lt net.last_call c.number ≡ true
  behind_all = lt-ltb net.last_call c.number (omega (arith, number))

  not_before : nat_le c.number net.last_call ≡ false
  not_before = grind (arith, nat_tests, number)

  answer_so : answer_of net.last_call (done c ∷ []) ≡ Told verdict.Done
  answer_so = ap (λ (b : Bool). cond b (Told verdict.Done) (Told verdict.Done)) behind_all

  -- the stop was seen before the answer, or behind it
  abbrev answer_last : List Seen
  answer_last = seen.Started a n (Takeover at) ∷ seen.Stopped a at ∷ seen.Answered c.number ∷ []

  abbrev stop_last : List Seen
  stop_last = seen.Started a n (Takeover at) ∷ seen.Answered c.number ∷ seen.Stopped a at ∷ []

  abbrev answer_too : Bool → List Line → List Line
  answer_too too lines = cons_option (cond too (answered_line c.number (done c ∷ [])) None) lines

  -- what is told, where the answer to the call is told too or not
  abbrev shown : List Seen → List Line → WaitingView
  shown events lines = record { told = still_told events net.told; asked = []; lines = lines }

  abbrev told_of : List Seen → List Line
  told_of events = (calls_asked s events net.last_call (done c ∷ []) (events_asked s events events (record {
    told = still_told events net.told;
    asked = [];
    lines = lines_of events (done c ∷ []) net.last_call;
  }))).lines

  answer_last_so : told_of answer_last ≡ moved_lines a n at
  answer_last_so = λ i.
      let w : WaitingView = shown answer_last (line.Started a n (Takeover at) ∷ line.Stopped a at ∷ answer_too (not_before i) []) in
      (cond (behind_all i) (cond (no_start i && true) (asked s answer_last c.app c.node w) w) w).lines

  stop_last_so : told_of stop_last ≡ moved_lines a n at
  stop_last_so = λ i.
      let w : WaitingView = shown stop_last (line.Started a n (Takeover at) ∷ answer_too (not_before i) (line.Stopped a at ∷ [])) in
      (cond (behind_all i) (cond (no_start i && true) (asked s stop_last c.app c.node w) w) w).lines

  by_events : (events : List Seen) → told_of events ≡ moved_lines a n at → s.calls ≡ done c ∷ [] → s.events ≡ events
      → happened net s ≡ well (moved_lines a n at)
  by_events events so calls is =
      (λ i. record {
        answer = answer_of net.last_call (calls i);
        lines = (calls_asked s (is i) net.last_call (calls i) (events_asked s (is i) (is i) (record {
          told = still_told (is i) net.told;
          asked = [];
          lines = lines_of (is i) (calls i) net.last_call;
        }))).lines;
      })
      ∙ (λ i. record { answer = answer_so i; lines = so i })

  pub happened_so : s.calls ≡ done c ∷ [] → (s.events ≡ answer_last) ⊎ (s.events ≡ stop_last) → happened net s ≡ well (moved_lines a n at)
  happened_so calls (inl is) = by_events answer_last answer_last_so calls is
  happened_so calls (inr is) = by_events stop_last stop_last_so calls is

-- both sides say it in the same words
pub moved_text : (c : ClusterView) (l : LiveSimView) (n at : Node) (a : App) → l.cluster ≡ c
    → answer_text c (reply.Done (notice.Started a n (kind.Takeover at) None ∷ notice.Stopped a at ∷ []))
    ≡ reply_text l (live_reply.Step (live.Done (well (moved_lines a n at))))
unfolding answer_text notice_line reply_text verdict_words line_text
moved_text c l n at a same =
    ap (λ (d : ClusterView). answer_text d (reply.Done (notice.Started a n (kind.Takeover at) None ∷ notice.Stopped a at ∷ []))) (sym same)
