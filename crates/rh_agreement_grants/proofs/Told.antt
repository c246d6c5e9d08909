-- What is told where a call, that isn't a start, was answered that all is well, and an observer has seen the start of an application.
use Rattle.std.proofs.Common.{◌≡◌, ◌+◌, ◌&&◌, Bool, true, false, cond, nat_le, nat_lt, List, [], ◌∷◌, Option, None, sym, ap, ◌∙◌, arith}
use Rattle.std.specs.List.{cons_option}
use Rattle.std.proofs.lemmas.Bool.{lt-ltb}
use Rattle.std.proofs.lemmas.Bool.Decides.{nat_tests}
use Rattle.rh_model.specs.ClusterView.{ClusterView}
use Rattle.rh_model.specs.declared.node.App.{App}
use Rattle.rh_model.specs.declared.node.Node.{Node}
use Rattle.rh_rules.specs.declared.notice.Notice.TheVariants as notice
use Rattle.rh_calls.specs.declared.call.Reply.TheVariants as reply
use Rattle.rh_script.specs.Answers.{answer_text, notice_line}
use Rattle.rh_state.specs.declared.status.Kind.TheVariants as kind
use Rattle.rh_otp_model.specs.declared.output.Event.{Event as Seen}
use Rattle.rh_otp_model.specs.declared.output.Event.TheVariants as seen
use Rattle.rh_otp_model.specs.declared.process.StartType.TheVariants.{Normal}
use Rattle.rh_otp_sim.specs.declared.calls.LiveReply.TheVariants as live_reply
use Rattle.rh_otp_sim.specs.declared.lines.Answer.TheVariants.{Told}
use Rattle.rh_otp_sim.specs.declared.lines.Line.TheVariants as line
use Rattle.rh_otp_sim.specs.declared.stepping.Outcome.TheVariants as live
use Rattle.rh_otp_sim.specs.declared.verdict.Verdict.TheVariants as verdict
use Rattle.rh_otp_sim.specs.Sim.{LiveSimView}
use Rattle.rh_otp_sim.specs.Stepping.{happened}
use Rattle.rh_otp_sim.specs.Telling.{answer_of, answered_line, lines_of}
use Rattle.rh_otp_sim.specs.Verdicts.{is_start}
use Rattle.rh_otp_sim.specs.Waiting.{WaitingView, still_told, asked, events_asked, calls_asked}
use Rattle.rh_otp_system.specs.declared.calls.Call.{Call}
use Rattle.rh_otp_system.specs.State.{SystemView}
use Rattle.rh_otp_system.specs.Views.{NetView}
use Rattle.rh_otp_text.specs.Lines.{verdict_words, line_text}
use Rattle.rh_otp_text.specs.Replies.{reply_text}
use Rattle.rh_agreement_calls.proofs.Moving.{done}
use Rattle.rh_agreement_spread.proofs.Alike.{well}

module _ (net : NetView) (s : SystemView) (n : Node) (a : App) (c : Call) (number : c.number ≡ net.last_call + 1)
    (no_start : is_start c.ask ≡ false) where
  behind_all : nat_lt net.last_call c.number ≡ true
  behind_all = lt-ltb net.last_call c.number (omega (arith, number))

  not_before : nat_le c.number net.last_call ≡ false
  not_before = grind (arith, nat_tests, number)

  abbrev start_events : List Seen
  start_events = seen.Started a n Normal ∷ seen.Answered c.number ∷ []

  answer_so : answer_of net.last_call (done c ∷ []) ≡ Told verdict.Done
  answer_so = ap (λ (b : Bool). cond b (Told verdict.Done) (Told verdict.Done)) behind_all

  -- what is told, where the answer to the call is told too or not
  abbrev shown : Bool → WaitingView
  shown too = record {
    told = still_told start_events net.told;
    asked = [];
    lines = line.Started a n Normal ∷ cons_option (cond too (answered_line c.number (done c ∷ [])) None) [];
  }

  lines_so : (calls_asked s start_events net.last_call (done c ∷ []) (events_asked s start_events start_events (record {
    told = still_told start_events net.told;
    asked = [];
    lines = lines_of start_events (done c ∷ []) net.last_call;
  }))).lines ≡ line.Started a n Normal ∷ []
  lines_so = λ i.
      (cond (behind_all i) (cond (no_start i && true) (asked s start_events c.app c.node (shown (not_before i))) (shown (not_before i)))
      (shown (not_before i))).lines

  pub happened_so : s.calls ≡ done c ∷ [] → s.events ≡ start_events → happened net s ≡ well (line.Started a n Normal ∷ [])
  happened_so calls events =
      (λ i. record {
        answer = answer_of net.last_call (calls i);
        lines = (calls_asked s (events i) net.last_call (calls i) (events_asked s (events i) (events i) (record {
          told = still_told (events i) net.told;
          asked = [];
          lines = lines_of (events i) (calls i) net.last_call;
        }))).lines;
      })
      ∙ (λ i. record { answer = answer_so i; lines = lines_so i })

-- both sides say it in the same words, whichever node it was lost with
pub start_text : (c : ClusterView) (l : LiveSimView) (n : Node) (a : App) (lost : Option Node) → l.cluster ≡ c
    → answer_text c (reply.Done (notice.Started a n kind.Normal lost ∷ []))
    ≡ reply_text l (live_reply.Step (live.Done (well (line.Started a n Normal ∷ []))))
unfolding answer_text notice_line reply_text verdict_words line_text
start_text c l n a lost same = ap (λ (d : ClusterView). answer_text d (reply.Done (notice.Started a n kind.Normal lost ∷ []))) (sym same)
