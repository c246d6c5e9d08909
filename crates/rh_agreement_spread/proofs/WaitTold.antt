-- What is told where a start was answered that all is well, an observer has seen nothing else, and the application is started but doesn't
-- run.
use Rattle.std.proofs.Common.{◌≡◌, ◌&&◌, ◌||◌, ◌++◌, not, Bool, true, false, cond, nat_le, nat_lt, List, [], ◌∷◌, Option, Some, None, refl, sym, ap, ◌∙◌, arith}
use Rattle.std.specs.List.{cons_option}
use Rattle.std.proofs.lemmas.Bool.{lt-ltb}
use Rattle.std.proofs.lemmas.Bool.Decides.{nat_tests}
use Rattle.rh_model.specs.ClusterView.{ClusterView}
use Rattle.rh_model.specs.declared.node.App.{App}
use Rattle.rh_model.specs.declared.node.Node.{Node}
use Rattle.rh_model.specs.declared.settings.Restart.{Restart}
use Rattle.rh_rules.specs.declared.notice.Notice.TheVariants as notice
use Rattle.rh_calls.specs.declared.call.Reply.TheVariants as reply
use Rattle.rh_script.specs.Answers.{answer_text, notice_line}
use Rattle.rh_otp_controller.specs.Calls.{is_here}
use Rattle.rh_otp_model.specs.declared.output.Event.{Event as Seen}
use Rattle.rh_otp_model.specs.declared.output.Event.TheVariants as seen
use Rattle.rh_otp_model.specs.Rows.{keyfind, has_row}
use Rattle.rh_otp_node.specs.Live.{LiveView, is_alive}
use Rattle.rh_otp_sim.specs.declared.calls.LiveReply.TheVariants as live_reply
use Rattle.rh_otp_sim.specs.declared.lines.Answer.TheVariants.{Told}
use Rattle.rh_otp_sim.specs.declared.lines.Line.{Line}
use Rattle.rh_otp_sim.specs.declared.lines.Line.TheVariants as line
use Rattle.rh_otp_sim.specs.declared.stepping.Outcome.TheVariants as live
use Rattle.rh_otp_sim.specs.declared.verdict.Verdict.TheVariants as verdict
use Rattle.rh_otp_sim.specs.Sim.{LiveSimView}
use Rattle.rh_otp_sim.specs.Stepping.{happened}
use Rattle.rh_otp_sim.specs.Telling.{answer_of, answered_line, lines_of}
use Rattle.rh_otp_sim.specs.Waiting.{WaitingView, is_started, is_up_now, still_told, asked_if, with_line, is_there, events_asked, calls_asked}
use Rattle.rh_otp_system.specs.declared.calls.Ask.TheVariants as ask
use Rattle.rh_otp_system.specs.declared.calls.Call.{Call}
use Rattle.rh_otp_system.specs.State.{SystemView, live_at}
use Rattle.rh_otp_system.specs.Views.{NetView}
use Rattle.rh_otp_text.specs.Lines.{verdict_words, line_text}
use Rattle.rh_otp_text.specs.Replies.{reply_text}
use Rattle.rh_agreement_calls.proofs.Moving.{call_at, done}

module _ (net : NetView) (base s : SystemView) (n : Node) (a : App) (restart : Restart) (new : LiveView)
    (counted : net.last_call ≡ base.last_call) (there : live_at s n ≡ Some new) (alive : is_alive new ≡ true)
    (runs_not : is_here (keyfind a new.controller.running) ≡ false) (started : is_started a new.controller ≡ true) where
  abbrev c : Call
  c = call_at base (ask.Start restart) n a

  behind_all : nat_lt net.last_call c.number ≡ true
  behind_all = lt-ltb net.last_call c.number (omega (arith, counted))

  not_before : nat_le c.number net.last_call ≡ false
  not_before = grind (arith, nat_tests, counted)

  abbrev start_events : List Seen
  start_events = seen.Answered c.number ∷ []

  answer_so : answer_of net.last_call (done c ∷ []) ≡ Told verdict.Done
  answer_so = ap (λ (b : Bool). cond b (Told verdict.Done) (Told verdict.Done)) behind_all

  abbrev shown : Bool → WaitingView
  shown too = record {
    told = still_told start_events net.told;
    asked = [];
    lines = cons_option (cond too (answered_line c.number (done c ∷ [])) None) [];
  }

  -- what is told of one that isn't started
  abbrev other : Option Line
  other = cond (has_row a new.controller.starting && is_up_now n start_events) (Some (line.Pending a n)) None

  asked_once : WaitingView
  asked_once = record (shown false) { asked = (a, n) ∷ [] }

  -- an observer may have been told before
  told_so : (b : Bool) (w : WaitingView) → (cond b (record w { told = w.told ++ (a, n) ∷ [] }) w).lines ≡ w.lines
  told_so true w = refl
  told_so false w = refl

  lines_so : (calls_asked s start_events net.last_call (done c ∷ []) (events_asked s start_events start_events (record {
    told = still_told start_events net.told;
    asked = [];
    lines = lines_of start_events (done c ∷ []) net.last_call;
  }))).lines ≡ line.Waits a n ∷ []
  unfolding asked_once
  lines_so =
      (λ i. (cond (behind_all i) (asked_if (there i) start_events a n (shown (not_before i))) (shown (not_before i))).lines)
      ∙ (λ i. (cond (not (alive i) || false) (shown false)
      (with_line (cond (runs_not i) None (cond (started i) (Some (line.Waits a n)) other)) asked_once)).lines)
      ∙ told_so (not (is_there a n asked_once.told)) (record asked_once { lines = line.Waits a n ∷ [] })

  pub happened_wait : s.calls ≡ done c ∷ [] → s.events ≡ start_events
      → happened net s ≡ record { answer = Told verdict.Done; lines = line.Waits a n ∷ [] }
  happened_wait calls events =
      (λ i. record {
        answer = answer_of net.last_call (calls i);
        lines = (calls_asked s (events i) net.last_call (calls i) (events_asked s (events i) (events i) (record {
          told = still_told (events i) net.told;
          asked = [];
          lines = lines_of (events i) (calls i) net.last_call;
        }))).lines;
      })
      ∙ (λ i. record { answer = answer_so i; lines = lines_so i })

-- both sides say it in the same words
pub wait_text : (c : ClusterView) (l : LiveSimView) (n : Node) (a : App) → l.cluster ≡ c
    → answer_text c (reply.Done (notice.Waits a n ∷ []))
    ≡ reply_text l (live_reply.Step (live.Done (record { answer = Told verdict.Done; lines = line.Waits a n ∷ [] })))
unfolding answer_text notice_line reply_text verdict_words line_text
wait_text c l n a same = ap (λ (d : ClusterView). answer_text d (reply.Done (notice.Waits a n ∷ []))) (sym same)
