-- The names that are read, and what a skipped name was meant to be.
use Rattle.std.specs.Prelude.{ℕ, List, [], ◌∷◌, codes, Bool, Option, None, if◌then◌else◌}
use Rattle.std.specs.List.{list_any, find}
use Rattle.std.specs.Str.{bytes_eq}
use Rattle.rh_term_lint.specs.declared.names.ReadName.{ReadName}
use Rattle.rh_term_lint.specs.declared.names.ReadName.TheVariants.{Kernel, Rehearse, Distributed, SyncNodesMandatory, SyncNodesOptional, SyncNodesTimeout, Permissions, Applications, Mod, StartPhases}
use Rattle.rh_term_lint.specs.Near.{is_near}

-- the sections of a node (config(4); `rehearse` is ours)
abbrev pub sections : List ReadName
sections = Kernel ∷ Rehearse ∷ []

-- the parameters of `kernel` (kernel(6))
abbrev pub parameters : List ReadName
parameters = Distributed ∷ SyncNodesMandatory ∷ SyncNodesOptional ∷ SyncNodesTimeout ∷ Permissions ∷ []

-- the keys of an application (app(4))
abbrev pub keys : List ReadName
keys = Applications ∷ Mod ∷ StartPhases ∷ []

-- a name as a file has it
abbrev pub word_of : ReadName → List ℕ
word_of Kernel = codes "kernel"
word_of Rehearse = codes "rehearse"
word_of Distributed = codes "distributed"
word_of SyncNodesMandatory = codes "sync_nodes_mandatory"
word_of SyncNodesOptional = codes "sync_nodes_optional"
word_of SyncNodesTimeout = codes "sync_nodes_timeout"
word_of Permissions = codes "permissions"
word_of Applications = codes "applications"
word_of Mod = codes "mod"
word_of StartPhases = codes "start_phases"

-- is the word one of these names?
abbrev pub is_read : List ReadName → List ℕ → Bool
is_read names word = list_any (λ name. bytes_eq word (word_of name)) names

-- A word that isn't read was meant to be the first of these names that it is near (ours).
unfoldable pub meant : List ReadName → List ℕ → Option ReadName
meant names word = if is_read names word then None else find (λ name. is_near word (word_of name)) names
