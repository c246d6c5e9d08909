-- What a dialogue with live nodes says (ours).
use Rattle.std.specs.Prelude.{ℕ, List}
use Rattle.rh_calls.specs.declared.call.Call.{Call}
use Rattle.rh_manner.specs.declared.voice.Form.{Form}
use Rattle.rh_manner.specs.declared.voice.Form.TheVariants.{Plain, Json}
use Rattle.rh_manner.specs.Laws.{plain}
use Rattle.rh_manner.specs.Speech.{Speech}
use Rattle.rh_otp_file.specs.Files.{own_files}
use Rattle.rh_otp_json.specs.LiveJson.{answer_line, live_json}
use Rattle.rh_otp_net.specs.declared.order.Order.{Order}
use Rattle.rh_otp_run.specs.LiveText.{live_text}
use Rattle.rh_otp_sim.specs.Calls.{made_by, reply_to}
use Rattle.rh_otp_sim.specs.Sim.{LiveSimView, opened}
use Rattle.rh_otp_text.specs.Replies.{reply_text}
use Rattle.rh_otp_dialogue.specs.declared.voice.LiveVoice.{LiveVoice}

-- ---- the whole text

-- what is written for an input in a form: what a run on live nodes writes for it, in the plain manner or as JSON
abbrev pub live_text_in : Form → Order → List ℕ → List ℕ
live_text_in Plain order bytes = live_text order plain bytes
live_text_in Json order bytes = live_json order bytes

-- what a voice says of an input
abbrev pub live_voiced : LiveVoice → List ℕ → List ℕ
live_voiced v bytes = live_text_in v.form v.order bytes

-- ---- how it is spoken

-- the answer of live nodes to the line of this number, which asks this
abbrev pub answer_in : Form → LiveSimView → ℕ → List ℕ → Call → List ℕ
answer_in Plain sim k line call = reply_text (made_by call sim) (reply_to call sim)
answer_in Json sim k line call = answer_line sim k line call

-- by a simulation of live nodes, whose own files the text of the cluster file has
abbrev pub live : LiveVoice → Speech LiveSimView
live voice = record {
  form = voice.form;
  begun = λ c text. opened c (own_files c text) voice.order;
  cluster = λ sim. sim.cluster;
  answer = λ sim k line call. answer_in voice.form sim k line call;
  behind = λ sim call. made_by call sim;
}
