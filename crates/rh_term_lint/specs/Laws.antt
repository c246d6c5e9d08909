-- Laws of what is found in terms (ours).
use Rattle.std.specs.Prelude.{◌≡◌, ℕ, List, codes, true, false, is_some, Contains, Some}
use Rattle.std.specs.List.{slice_get}
use Rattle.rh_base.specs.Tree.{Tree}
use Rattle.rh_cluster.specs.Shapes.{as_node, as_app}
use Rattle.rh_cluster.specs.Sections.{section_key, kernel_key, app_key}
use Rattle.rh_term_lint.specs.declared.names.ReadName.{ReadName}
use Rattle.rh_term_lint.specs.declared.finding.TermFinding.{TermFinding}
use Rattle.rh_term_lint.specs.declared.finding.TermFinding.TheVariants.{NoProfile, NearSection, NearParameter, UndefinedWritten, NearKey}
use Rattle.rh_term_lint.specs.Near.{is_near}
use Rattle.rh_term_lint.specs.Meant.{sections, parameters, keys, word_of, is_read}
use Rattle.rh_term_lint.specs.Findings.{entries, is_undefined, has_profile, findings}

-- what counts as read is what the reader of cluster files reads
abbrev pub NamesAreRead : Type 0
NamesAreRead =
    (word : List ℕ)
    → (is_read sections word ≡ is_some (section_key word))
    × (is_read parameters word ≡ is_some (kernel_key word))
    × (is_read keys word ≡ is_some (app_key word))

-- the word isn't read, and is near this name, which is read
abbrev pub IsMistaken : List ReadName → List ℕ → ReadName → Type 0
IsMistaken names word name = (is_read names word ≡ false) × Contains names name × (is_near word (word_of name) ≡ true)

-- the term at this place is a node, and this its configuration
abbrev pub HasConfig : List Tree → ℕ → Tree → Type 0
HasConfig ts place config = (t : Tree) × (name : List ℕ) × (slice_get ts place ≡ Some t) × (as_node t ≡ Some (name, config))

-- the term at this place is an application, and these its keys
abbrev pub HasKeys : List Tree → ℕ → Tree → Type 0
HasKeys ts place ks = (t : Tree) × (name : List ℕ) × (slice_get ts place ≡ Some t) × (as_app t ≡ Some (name, ks))

-- the node at this place has a section of this name
abbrev pub HasSection : List Tree → ℕ → List ℕ → Tree → Type 0
HasSection ts place word value = (config : Tree) × HasConfig ts place config × Contains (entries config) (word, value)

-- its `kernel` has a parameter of this name
abbrev pub HasParameter : List Tree → ℕ → List ℕ → Tree → Type 0
HasParameter ts place word value = (kernel : Tree) × HasSection ts place (codes "kernel") kernel × Contains (entries kernel) (word, value)

-- the application at this place has a key of this name
abbrev pub HasKey : List Tree → ℕ → List ℕ → Tree → Type 0
HasKey ts place word value = (ks : Tree) × HasKeys ts place ks × Contains (entries ks) (word, value)

-- what a finding says of the terms
abbrev pub IsSo : List Tree → TermFinding → Type 0
IsSo ts NoProfile = has_profile ts ≡ false
IsSo ts (NearSection place word name) = IsMistaken sections word name × ((value : Tree) × HasSection ts place word value)
IsSo ts (NearParameter place word name) = IsMistaken parameters word name × ((value : Tree) × HasParameter ts place word value)
IsSo ts (UndefinedWritten place) = (value : Tree) × HasParameter ts place (codes "sync_nodes_timeout") value × (is_undefined value ≡ true)
IsSo ts (NearKey place word name) = IsMistaken keys word name × ((value : Tree) × HasKey ts place word value)

-- each finding is so
abbrev pub FindingsAreSo : Type 0
FindingsAreSo = (ts : List Tree) (f : TermFinding) → Contains (findings ts) f → IsSo ts f
