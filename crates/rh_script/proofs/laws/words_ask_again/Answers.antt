use Rattle.rh_script.proofs.Telling.{call_asks, line_asks, entry_asks}
use Rattle.rh_script.proofs.Asked.{line_told, session_line_told}
use Rattle.rh_script.proofs.Scripts.{scripts_ask, sessions_ask}
use Rattle.rh_script.proofs.NameWords.{clusters_have_words}
use Rattle.rh_script.specs.CommandWords.{command_words}
use Rattle.rh_script.proofs.laws.words_ask_again.Goals as goal

pub returns-clause-words : goal.returns-clause-words
returns-clause-words _ = λ c asked within words told. line_asks c (command_words c asked) asked (call_asks c within words asked told)

pub returns-clause-entries : goal.returns-clause-entries
returns-clause-entries _ = λ c asked within words told.
    entry_asks c asked.session (command_words c asked.call) asked.call told.0 told.1 (call_asks c within words asked.call told.2)

pub returns-clause-scripts : goal.returns-clause-scripts
returns-clause-scripts _ = scripts_ask

pub returns-clause-sessions : goal.returns-clause-sessions
returns-clause-sessions _ = sessions_ask

pub returns-clause-asked : goal.returns-clause-asked
returns-clause-asked _ = λ c bytes asked node_free app_free read. line_told c node_free app_free bytes asked read

pub returns-clause-commands : goal.returns-clause-commands
returns-clause-commands _ = λ c bytes asked node_free app_free read. session_line_told c node_free app_free bytes asked read

pub returns-clause-names : goal.returns-clause-names
returns-clause-names _ = clusters_have_words
