-- Calls of an operator, as the commands that make them (ours).
use Rattle.std.specs.Prelude.{ℕ, List, [], ◌++◌, codes, Bool, if◌then◌else◌}
use Rattle.rh_calls.specs.Report.{node_word, app_word, restart_words}
use Rattle.rh_model.specs.ClusterView.{ClusterView}
use Rattle.rh_model.specs.declared.node.App.{App}
use Rattle.rh_model.specs.declared.node.Node.{Node}
use Rattle.rh_otp_system.specs.declared.calls.Ask.{Ask}
use Rattle.rh_otp_system.specs.declared.calls.Ask.TheVariants as ask

-- the first word of the command
abbrev pub verb_words : Ask → List ℕ
verb_words (ask.Start restart) = codes "start"
verb_words ask.Stop = codes "stop"
verb_words (ask.Permit allow) = codes "permit"
verb_words (ask.Takeover restart) = codes "takeover"
verb_words (ask.Exit is_normal) = codes "exit"

abbrev pub flag_words : Bool → List ℕ
flag_words allow = if allow then codes "true" else codes "false"

abbrev pub end_words : Bool → List ℕ
end_words is_normal = if is_normal then codes "normal" else codes "abnormal"

-- its last word, with the space before it
abbrev pub last_words : Ask → List ℕ
last_words (ask.Start restart) = codes " " ++ restart_words restart
last_words ask.Stop = []
last_words (ask.Permit allow) = codes " " ++ flag_words allow
last_words (ask.Takeover restart) = codes " " ++ restart_words restart
last_words (ask.Exit is_normal) = codes " " ++ end_words is_normal

-- a call, as the command that makes it
unfoldable pub ask_words : ClusterView → Ask → Node → App → List ℕ
ask_words c asked n a = verb_words asked ++ codes " " ++ node_word c n ++ codes " " ++ app_word c a ++ last_words asked
