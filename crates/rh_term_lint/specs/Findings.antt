-- What is found in the terms of a cluster file.
use Rattle.std.specs.Prelude.{ℕ, List, [], ◌∷◌, ◌++◌, codes, Bool, ◌&&◌, Option, if◌then◌else◌}
use Rattle.std.specs.List.{list_any, flat_map, filter_map, enumerate_from}
use Rattle.std.specs.Option.{option_map, option_or, option_to_list}
use Rattle.std.specs.Str.{bytes_eq}
use Rattle.rh_base.specs.Tree.{Tree}
use Rattle.rh_cluster.specs.Shapes.{as_atom, as_entry, as_node, as_app}
use Rattle.rh_cluster.specs.Sections.{atom_is, has_key}
use Rattle.rh_cluster.specs.Values.{elements}
use Rattle.rh_term_lint.specs.declared.names.ReadName.{ReadName}
use Rattle.rh_term_lint.specs.declared.finding.TermFinding.{TermFinding}
use Rattle.rh_term_lint.specs.declared.finding.TermFinding.TheVariants.{NoProfile, NearSection, NearParameter, UndefinedWritten, NearKey}
use Rattle.rh_term_lint.specs.Meant.{sections, parameters, keys, meant}

-- the entries {Atom, Value} of a list; what has another shape is passed over
abbrev pub entries : Tree → List (List ℕ × Tree)
entries t = filter_map as_entry (elements t)

-- a name that isn't read, with what was meant
abbrev pub near : (List ℕ → ReadName → TermFinding) → List ReadName → List ℕ → List TermFinding
near finding names word = option_to_list (option_map (finding word) (meant names word))

-- the atom `undefined`
unfoldable pub is_undefined : Tree → Bool
is_undefined t = atom_is (λ name. bytes_eq name (codes "undefined")) (as_atom t)

-- a parameter of `kernel`: its name, and a timeout that is written out as `undefined`, where a live node takes a number or
-- `infinity` alone (kernel(6), sync_nodes_timeout)
unfoldable pub of_parameter : ℕ → List ℕ × Tree → List TermFinding
of_parameter term e =
    near (NearParameter term) parameters e.0
    ++ (if bytes_eq e.0 (codes "sync_nodes_timeout") && is_undefined e.1 then UndefinedWritten term ∷ [] else [])

-- a section of a node: its name, and of `kernel` each parameter (config(4))
unfoldable pub of_section : ℕ → List ℕ × Tree → List TermFinding
of_section term e =
    near (NearSection term) sections e.0
    ++ (if bytes_eq e.0 (codes "kernel") then flat_map (of_parameter term) (entries e.1) else [])

-- a key of an application (app(4))
unfoldable pub of_key : ℕ → List ℕ × Tree → List TermFinding
of_key term e = near (NearKey term) keys e.0

-- a term at this place: each section of a node, each key of an application
unfoldable pub of_term : ℕ → Tree → List TermFinding
of_term term t =
    flat_map (λ node. flat_map (of_section term) (entries node.1)) (option_to_list (as_node t))
    ++ flat_map (λ app. flat_map (of_key term) (entries app.1)) (option_to_list (as_app t))

-- is there a term {profile, _}? (ours)
abbrev pub has_profile : List Tree → Bool
has_profile ts = list_any (has_key (codes "profile")) ts

-- all that is found, in the order of the text
unfoldable pub findings : List Tree → List TermFinding
findings ts = (if has_profile ts then [] else NoProfile ∷ []) ++ flat_map (λ at. of_term at.0 at.1) (enumerate_from 0 ts)

-- the name of a node or of an application
unfoldable pub term_name : Tree → Option (List ℕ)
term_name t = option_or (option_map (λ node. node.0) (as_node t)) (option_map (λ app. app.0) (as_app t))
