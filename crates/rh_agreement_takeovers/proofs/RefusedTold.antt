-- Both sides refuse a takeover in the same words, where the dist_ac has the application as one that runs here, or nowhere.
use Rattle.std.proofs.Common.{◌≡◌, [], Some, refl, subst}
use Rattle.std.proofs.lemmas.Option.{none-some, same_Some}
use Rattle.rh_model.specs.ClusterView.{ClusterView}
use Rattle.rh_rules.specs.declared.refusal.Refusal.{Refusal}
use Rattle.rh_rules.specs.declared.refusal.Refusal.TheVariants.{RunsHere, NotRunning}
use Rattle.rh_calls.specs.declared.call.Reply.TheVariants as reply
use Rattle.rh_script.specs.Answers.{answer_text}
use Rattle.rh_otp_dist.specs.declared.state.Standing.{Standing}
use Rattle.rh_otp_dist.specs.declared.state.Standing.TheVariants as standing
use Rattle.rh_otp_sim.specs.declared.calls.LiveReply.TheVariants as live_reply
use Rattle.rh_otp_sim.specs.declared.lines.Answer.TheVariants.{Told}
use Rattle.rh_otp_sim.specs.declared.stepping.Outcome.TheVariants as live
use Rattle.rh_otp_sim.specs.declared.verdict.Verdict.TheVariants as verdict
use Rattle.rh_otp_sim.specs.Sim.{LiveSimView}
use Rattle.rh_otp_sim.specs.Views.{HappenedView}
use Rattle.rh_otp_text.specs.Lines.{verdict_words}
use Rattle.rh_otp_text.specs.Replies.{reply_text}
use Rattle.rh_agreement_takeovers.specs.Refused.{refusal_at}

-- a refusal alone
abbrev pub refusing : Refusal → HappenedView
refusing why = record { answer = Told (verdict.Refused why); lines = [] }

-- both sides say it in the same words
abbrev pub HasOneText : ClusterView → LiveSimView → Refusal → Type 0
HasOneText c l why = answer_text c (reply.Refused why) ≡ reply_text l (live_reply.Step (live.Done (refusing why)))

here_text : (l : LiveSimView) → HasOneText l.cluster l RunsHere
unfolding answer_text reply_text verdict_words
here_text l = refl

nowhere_text : (l : LiveSimView) → HasOneText l.cluster l NotRunning
unfolding answer_text reply_text verdict_words
nowhere_text l = refl

pub refused_text : (l : LiveSimView) (why : Refusal) (st : Standing) → refusal_at st ≡ Some why → HasOneText l.cluster l why
refused_text l why standing.Local is = subst (HasOneText l.cluster l) (same_Some RunsHere why is) (here_text l)
refused_text l why (standing.Distributed m) is = absurd (none-some why is)
refused_text l why standing.Undefined is = subst (HasOneText l.cluster l) (same_Some NotRunning why is) (nowhere_text l)
refused_text l why standing.RunWaiting is = subst (HasOneText l.cluster l) (same_Some NotRunning why is) (nowhere_text l)
refused_text l why standing.Takeover is = subst (HasOneText l.cluster l) (same_Some NotRunning why is) (nowhere_text l)
refused_text l why (standing.Failover m) is = subst (HasOneText l.cluster l) (same_Some NotRunning why is) (nowhere_text l)
