-- What is told where a call was answered that all is well, and an observer has seen nothing else.
use Rattle.std.proofs.Common.{◌≡◌, ◌+◌, ◌&&◌, Bool, true, false, cond, nat_le, nat_lt, List, [], ◌∷◌, None, sym, ap, ◌∙◌, arith}
use Rattle.std.specs.List.{cons_option}
use Rattle.std.proofs.lemmas.Bool.{lt-ltb}
use Rattle.std.proofs.lemmas.Bool.Decides.{nat_tests}
use Rattle.rh_model.specs.ClusterView.{ClusterView}
use Rattle.rh_calls.specs.declared.call.Reply.TheVariants as reply
use Rattle.rh_script.specs.Answers.{answer_text, notice_line}
use Rattle.rh_otp_model.specs.declared.output.Event.{Event as Seen}
use Rattle.rh_otp_model.specs.declared.output.Event.TheVariants as seen
use Rattle.rh_otp_sim.specs.declared.calls.LiveReply.TheVariants as live_reply
use Rattle.rh_otp_sim.specs.declared.lines.Answer.TheVariants.{Told}
use Rattle.rh_otp_sim.specs.declared.stepping.Outcome.TheVariants as live
use Rattle.rh_otp_sim.specs.declared.verdict.Verdict.TheVariants as verdict
use Rattle.rh_otp_sim.specs.Sim.{LiveSimView}
use Rattle.rh_otp_sim.specs.Stepping.{happened}
use Rattle.rh_otp_sim.specs.Telling.{answer_of, answered_line, lines_of}
use Rattle.rh_otp_sim.specs.Verdicts.{is_start}
use Rattle.rh_otp_sim.specs.Waiting.{WaitingView, still_told, asked, events_asked, calls_asked}
use Rattle.rh_otp_system.specs.declared.calls.Call.{Call}
use Rattle.rh_otp_system.specs.State.{SystemView}
use Rattle.rh_otp_system.specs.Views.{NetView}
use Rattle.rh_otp_text.specs.Lines.{verdict_words, line_text}
use Rattle.rh_otp_text.specs.Replies.{reply_text}
use Rattle.rh_agreement_calls.proofs.Moving.{done}
use Rattle.rh_agreement_spread.proofs.Alike.{well}

module _ (net : NetView) (s : SystemView) (c : Call) (number : c.number ≡ net.last_call + 1) where
  behind_all : nat_lt net.last_call c.number ≡ true
  behind_all = lt-ltb net.last_call c.number (omega (arith, number))

  not_before : nat_le c.number net.last_call ≡ false
  not_before = grind (arith, nat_tests, number)

  abbrev answer_alone : List Seen
  answer_alone = seen.Answered c.number ∷ []

  answer_so : answer_of net.last_call (done c ∷ []) ≡ Told verdict.Done
  answer_so = ap (λ (b : Bool). cond b (Told verdict.Done) (Told verdict.Done)) behind_all

  -- what is told, where the answer to the call is told too or not
  abbrev shown : Bool → WaitingView
  shown too = record {
    told = still_told answer_alone net.told;
    asked = [];
    lines = cons_option (cond too (answered_line c.number (done c ∷ [])) None) [];
  }

  lines_so : is_start c.ask ≡ false
      → (calls_asked s answer_alone net.last_call (done c ∷ []) (events_asked s answer_alone answer_alone (record {
        told = still_told answer_alone net.told;
        asked = [];
        lines = lines_of answer_alone (done c ∷ []) net.last_call;
      }))).lines ≡ []
  lines_so no_start = λ i.
      (cond (behind_all i) (cond (no_start i && true) (asked s answer_alone c.app c.node (shown (not_before i))) (shown (not_before i)))
      (shown (not_before i))).lines

  pub happened_alone : is_start c.ask ≡ false → s.calls ≡ done c ∷ [] → s.events ≡ answer_alone → happened net s ≡ well []
  happened_alone no_start calls events =
      (λ i. record {
        answer = answer_of net.last_call (calls i);
        lines = (calls_asked s (events i) net.last_call (calls i) (events_asked s (events i) (events i) (record {
          told = still_told (events i) net.told;
          asked = [];
          lines = lines_of (events i) (calls i) net.last_call;
        }))).lines;
      })
      ∙ (λ i. record { answer = answer_so i; lines = lines_so no_start i })

-- both sides say it in the same words
pub ok_text : (c : ClusterView) (l : LiveSimView) → l.cluster ≡ c
    → answer_text c (reply.Done []) ≡ reply_text l (live_reply.Step (live.Done (well [])))
unfolding answer_text notice_line reply_text verdict_words line_text
ok_text c l same = ap (λ (d : ClusterView). answer_text d (reply.Done [])) (sym same)
