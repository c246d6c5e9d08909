-- That the words of a call ask for that call again (ours).
use Rattle.std.specs.Prelude.{◌≡◌, ◌≢◌, ◌⊎◌, ◌<◌, ◌≤◌, ◌^◌, ◌++◌, ℕ, List, length, map, All, IsTrue, IfSome, codes, None, Ok}
use Rattle.std.specs.List.{flat_map}
use Rattle.std.specs.Fmt.{decimal}
use Rattle.std.specs.Str.{is_utf8}
use Rattle.rh_model.specs.ClusterView.{ClusterView, IsWithin, node_count, app_count, node_of, app_of}
use Rattle.rh_model.specs.declared.node.Node.{Node}
use Rattle.rh_model.specs.declared.node.App.{App}
use Rattle.rh_cluster.specs.ClusterOf.{cluster_of}
use Rattle.rh_calls.specs.declared.call.Call.{Call}
use Rattle.rh_calls.specs.Report.{no_name}
use Rattle.rh_script.specs.declared.script.TheConstants.{NO_NODE, NO_APP}
use Rattle.rh_script.specs.declared.script.Line.TheVariants.{Asks}
use Rattle.rh_script.specs.declared.forms.Given.{Given}
use Rattle.rh_script.specs.declared.session_lines.Command.{Command}
use Rattle.rh_script.specs.declared.session_lines.SessionLine.TheVariants as line
use Rattle.rh_calls.specs.declared.call.TheConstants.{LAST_SESSION}
use Rattle.rh_script.specs.Lines.{raw_lines, content}
use Rattle.rh_script.specs.Forms.{said}
use Rattle.rh_script.specs.Commands.{line_of}
use Rattle.rh_script.specs.CommandWords.{command_words}
use Rattle.rh_script.specs.SessionLines.{session_line_of}

-- a word that can stand in a line: a text of one byte or more, none of which is a space
pub record IsWord (word : List ℕ) : Type 0 where
  pub text : IsTrue (is_utf8 word)
  pub some : 0 < length word
  pub unparted : All (λ b. b ≢ 32) word

-- the names of nodes and applications are such words
pub record HasWords (c : ClusterView) : Type 0 where
  pub nodes : All IsWord c.node_names
  pub apps : All IsWord c.app_names

-- no line ends in it: it has no LF and no CR
abbrev pub IsUnbroken : List ℕ → Type 0
IsUnbroken bytes = All (λ b. (b ≢ 10) × (b ≢ 13)) bytes

-- no line ends in the name of a node or of an application
pub record HasUnbroken (c : ClusterView) : Type 0 where
  pub nodes : All IsUnbroken c.node_names
  pub apps : All IsUnbroken c.app_names

-- a node of the cluster; or what stands for a name that none has, where `?`, which is shown for it, is no name either
abbrev pub IsNodeTold : ClusterView → Node → Type 0
IsNodeTold c n = (n.0 < node_count c) ⊎ ((n ≡ NO_NODE) × (node_of c no_name ≡ None))

-- an application likewise
abbrev pub IsAppTold : ClusterView → App → Type 0
IsAppTold c a = (a.0 < app_count c) ⊎ ((a ≡ NO_APP) × (app_of c no_name ≡ None))

-- such a node, such an application and a number within 64 bits, where they are given
abbrev pub IsGivenTold : ClusterView → Given → Type 0
IsGivenTold c g = IfSome g.node (IsNodeTold c) × IfSome g.app (IsAppTold c) × IfSome g.ms (λ ms. ms < 2 ^ 64)

-- a call whose command is given such
abbrev pub IsTold : ClusterView → Call → Type 0
IsTold c asked = IsGivenTold c (said asked).1

-- the words of such a call are a line that asks it
abbrev pub WordsAskAgain : Type 0
WordsAskAgain = (c : ClusterView) (asked : Call) → IsWithin c → HasWords c → IsTold c asked → line_of c (command_words c asked) ≡ Asks asked

-- the number of a session, and the words of its call, as in an entry of a log
abbrev pub session_words : ClusterView → Command → List ℕ
session_words c asked = decimal asked.session ++ codes " " ++ command_words c asked.call

-- a command of a session that a line can name, which makes such a call
abbrev pub IsCommandTold : ClusterView → Command → Type 0
IsCommandTold c asked = (1 ≤ asked.session) × (asked.session ≤ LAST_SESSION) × IsTold c asked.call

-- they are a line that asks the call of that session
abbrev pub EntriesAskAgain : Type 0
EntriesAskAgain =
    (c : ClusterView) (asked : Command) → IsWithin c → HasWords c → IsCommandTold c asked → session_line_of c (session_words c asked) ≡ line.Asks asked

-- the words of calls, each with the end of a line, are the lines of a script that asks these calls
abbrev pub ScriptsAskAgain : Type 0
ScriptsAskAgain =
    (c : ClusterView) (calls : List Call) → IsWithin c → HasWords c → HasUnbroken c → All (IsTold c) calls
    → map (line_of c) (map content (raw_lines (flat_map (λ asked. command_words c asked ++ codes "\n") calls))) ≡ map (λ asked. Asks asked) calls

-- the same of commands of sessions
abbrev pub SessionsAskAgain : Type 0
SessionsAskAgain =
    (c : ClusterView) (commands : List Command) → IsWithin c → HasWords c → HasUnbroken c → All (IsCommandTold c) commands
    → map (session_line_of c) (map content (raw_lines (flat_map (λ (k : Command). session_words c k ++ codes "\n") commands))) ≡ map (λ k. line.Asks k) commands

-- where nothing is named `?`, each call that a line asks is such a call
abbrev pub AskedAreTold : Type 0
AskedAreTold =
    (c : ClusterView) (bytes : List ℕ) (asked : Call) → node_of c no_name ≡ None → app_of c no_name ≡ None → line_of c bytes ≡ Asks asked → IsTold c asked

-- and each command that a line of a session asks is such a command
abbrev pub CommandsAreTold : Type 0
CommandsAreTold =
    (c : ClusterView) (bytes : List ℕ) (asked : Command) → node_of c no_name ≡ None → app_of c no_name ≡ None → session_line_of c bytes ≡ line.Asks asked
    → IsCommandTold c asked

-- the names of the cluster of any text are such words, and no line ends in them
abbrev pub ClustersHaveWords : Type 0
ClustersHaveWords = (bytes : List ℕ) (c : ClusterView) → cluster_of bytes ≡ Ok c → HasWords c × HasUnbroken c
