-- The table of commands (ours).
use Rattle.std.specs.Prelude.{ℕ, List, [], ◌∷◌, codes, Bool, Option, Some, None, position, slice_get}
use Rattle.std.specs.Prelude.{option_map, option_and_then}
use Rattle.std.specs.Str.{bytes_eq}
use Rattle.rh_model.specs.declared.node.Node.{Node}
use Rattle.rh_model.specs.declared.node.App.{App}
use Rattle.rh_model.specs.declared.settings.Restart.{Restart}
use Rattle.rh_rules.specs.declared.event.Event.{Event}
use Rattle.rh_rules.specs.declared.event.Event.TheVariants as event
use Rattle.rh_calls.specs.declared.call.Call.{Call}
use Rattle.rh_calls.specs.declared.call.Call.TheVariants as call
use Rattle.rh_script.specs.declared.forms.Argument.{Argument}
use Rattle.rh_script.specs.declared.forms.Argument.TheVariants as argument
use Rattle.rh_script.specs.declared.forms.Verb.{Verb}
use Rattle.rh_script.specs.declared.forms.Verb.TheVariants as verb
use Rattle.rh_script.specs.declared.forms.Given.{Given}

-- ---- how a command is written: its word, and what stands behind it

abbrev pub form_of : Verb → List ℕ × List Argument
form_of verb.Boot = (codes "boot", argument.Node ∷ [])
form_of verb.Crash = (codes "crash", argument.Node ∷ [])
form_of verb.Tick = (codes "tick", argument.Milliseconds ∷ [])
form_of verb.Start = (codes "start", argument.Node ∷ argument.App ∷ argument.Restart ∷ [])
form_of verb.Stop = (codes "stop", argument.Node ∷ argument.App ∷ [])
form_of verb.Permit = (codes "permit", argument.Node ∷ argument.App ∷ argument.Truth ∷ [])
form_of verb.Takeover = (codes "takeover", argument.Node ∷ argument.App ∷ argument.Restart ∷ [])
form_of verb.Exit = (codes "exit", argument.Node ∷ argument.App ∷ argument.Ending ∷ [])
form_of verb.StartAll = (codes "start_all", argument.App ∷ argument.Restart ∷ [])
form_of verb.StopAll = (codes "stop_all", argument.App ∷ [])
form_of verb.Undo = (codes "undo", [])
form_of verb.Redo = (codes "redo", [])
form_of verb.UndoAll = (codes "undo_all", [])
form_of verb.RedoAll = (codes "redo_all", [])
form_of verb.Show = (codes "show", [])

abbrev pub word_of : Verb → List ℕ
word_of v = (form_of v).0

abbrev pub arguments_of : Verb → List Argument
arguments_of v = (form_of v).1

-- all commands
abbrev pub verbs : List Verb
verbs = verb.Boot ∷ verb.Crash ∷ verb.Tick ∷ verb.Start ∷ verb.Stop ∷ verb.Permit ∷ verb.Takeover ∷ verb.Exit ∷ verb.StartAll ∷ verb.StopAll
    ∷ verb.Undo ∷ verb.Redo ∷ verb.UndoAll ∷ verb.RedoAll ∷ verb.Show ∷ []

-- the command with this word
unfoldable pub verb_named : List ℕ → Option Verb
verb_named word = option_and_then (slice_get verbs) (position (λ v. bytes_eq word (word_of v)) verbs)

-- ---- what it asks

-- nothing is given
abbrev pub nothing : Given
nothing = record { node = None; app = None; restart = None; truth = None; ending = None; ms = None }

-- the same with one more
abbrev pub with_node : Given → Node → Given
with_node g n = record g { node = Some n }

abbrev pub with_app : Given → App → Given
with_app g a = record g { app = Some a }

abbrev pub with_restart : Given → Restart → Given
with_restart g restart = record g { restart = Some restart }

abbrev pub with_truth : Given → Bool → Given
with_truth g allow = record g { truth = Some allow }

abbrev pub with_ending : Given → Bool → Given
with_ending g normal = record g { ending = Some normal }

abbrev pub with_ms : Given → ℕ → Given
with_ms g ms = record g { ms = Some ms }

-- what is given for an application at a node
abbrev pub at_place : Node → App → Given
at_place n a = with_app (with_node nothing n) a

-- what is made of two that are given, or of three
abbrev pub two : {A B C : Type 0} → (A → B → C) → Option A → Option B → Option C
two make None y = None
two make (Some x) y = option_map (make x) y

abbrev pub three : {A B C D : Type 0} → (A → B → C → D) → Option A → Option B → Option C → Option D
three make None y z = None
three make (Some x) y z = two (make x) y z

-- the event that a command is with what is given to it
abbrev pub event_of : Verb → Given → Option Event
event_of verb.Boot g = option_map (λ n. event.Boot n) g.node
event_of verb.Crash g = option_map (λ n. event.Crash n) g.node
event_of verb.Tick g = option_map (λ ms. event.Tick ms) g.ms
event_of verb.Start g = three (λ n a restart. event.Start n a restart) g.node g.app g.restart
event_of verb.Stop g = two (λ n a. event.Stop n a) g.node g.app
event_of verb.Permit g = three (λ n a allow. event.Permit n a allow) g.node g.app g.truth
event_of verb.Takeover g = three (λ n a restart. event.Takeover n a restart) g.node g.app g.restart
event_of verb.Exit g = three (λ n a normal. event.Exit n a normal) g.node g.app g.ending
event_of verb.StartAll g = two (λ a restart. event.StartAll a restart) g.app g.restart
event_of verb.StopAll g = option_map (λ a. event.StopAll a) g.app
event_of verb.Undo g = None
event_of verb.Redo g = None
event_of verb.UndoAll g = None
event_of verb.RedoAll g = None
event_of verb.Show g = None

-- the call that it asks
abbrev pub call_of : Verb → Given → Option Call
call_of verb.Undo g = Some call.Undo
call_of verb.Redo g = Some call.Redo
call_of verb.UndoAll g = Some call.UndoAll
call_of verb.RedoAll g = Some call.RedoAll
call_of verb.Show g = Some call.Look
call_of v g = option_map (λ e. call.Step e) (event_of v g)

-- ---- and what asks it: the command, and what is given to it

abbrev pub said_event : Event → Verb × Given
said_event (event.Boot n) = (verb.Boot, with_node nothing n)
said_event (event.Crash n) = (verb.Crash, with_node nothing n)
said_event (event.Tick ms) = (verb.Tick, with_ms nothing ms)
said_event (event.Start n a restart) = (verb.Start, with_restart (at_place n a) restart)
said_event (event.Stop n a) = (verb.Stop, at_place n a)
said_event (event.Permit n a allow) = (verb.Permit, with_truth (at_place n a) allow)
said_event (event.Takeover n a restart) = (verb.Takeover, with_restart (at_place n a) restart)
said_event (event.Exit n a normal) = (verb.Exit, with_ending (at_place n a) normal)
said_event (event.StartAll a restart) = (verb.StartAll, with_restart (with_app nothing a) restart)
said_event (event.StopAll a) = (verb.StopAll, with_app nothing a)

abbrev pub said : Call → Verb × Given
said (call.Step e) = said_event e
said call.Undo = (verb.Undo, nothing)
said call.Redo = (verb.Redo, nothing)
said call.UndoAll = (verb.UndoAll, nothing)
said call.RedoAll = (verb.RedoAll, nothing)
said call.Look = (verb.Show, nothing)
