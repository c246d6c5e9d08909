-- Worked rows: what is found in the terms of a file. For each finding terms that have it, and terms that just don't.
use Rattle.std.proofs.Common.{◌≡◌, List, [], ◌∷◌, ℕ, pos, codes, refl}
use Rattle.std.specs.Str.{chars}
use Rattle.strsim.specs.Edits.{next_row, cost_at}
use Rattle.rh_base.specs.Tree.{Tree, atom, int, text, list, tuple, trees_from}
use Rattle.rh_cluster.specs.Shapes.{as_atom, as_list, as_tuple, as_pair, as_triple, as_entry, as_headed}
use Rattle.rh_cluster.specs.Sections.{has_key}
use Rattle.rh_cluster.specs.Values.{elements}
use Rattle.rh_term_lint.specs.declared.names.ReadName.TheVariants.{Kernel, Rehearse, Distributed, SyncNodesOptional, SyncNodesTimeout, Applications, StartPhases}
use Rattle.rh_term_lint.specs.declared.finding.TermFinding.TheVariants.{NoProfile, NearSection, NearParameter, UndefinedWritten, NearKey}
use Rattle.rh_term_lint.specs.Findings.{findings, of_term, of_section, of_parameter, of_key, is_undefined}
use Rattle.rh_term_lint.proofs.Table.{meant_is}

-- ---- terms
abbrev tuple_of : List Tree → Tree
tuple_of ts = tuple (trees_from ts)

abbrev list_of : List Tree → Tree
list_of ts = list (trees_from ts)

-- {Name, Value}
abbrev entry : List ℕ → Tree → Tree
entry name value = tuple_of (atom name ∷ value ∷ [])

abbrev profile : Tree
profile = entry (codes "profile") (int (pos 2))

-- {node, n1@lab, Sections}
abbrev node : List Tree → Tree
node sections = tuple_of (atom (codes "node") ∷ atom (codes "n1@lab") ∷ list_of sections ∷ [])

-- a node with these parameters of `kernel`
abbrev kernel_of : List Tree → Tree
kernel_of parameters = node (entry (codes "kernel") (list_of parameters) ∷ [])

-- {application, web, Keys}
abbrev app : List Tree → Tree
app keys = tuple_of (atom (codes "application") ∷ atom (codes "web") ∷ list_of keys ∷ [])

abbrev none : Tree
none = list_of []

-- ---- no profile
-- no term names one
no_profile_row : findings (node [] ∷ [])
    ≡ NoProfile ∷ []
unfolding findings of_term of_section of_parameter of_key is_undefined has_key elements as_headed as_triple as_entry as_pair as_tuple as_list as_atom
    chars next_row cost_at
no_profile_row = refl

empty_row : findings ([])
    ≡ NoProfile ∷ []
unfolding findings of_term of_section of_parameter of_key is_undefined has_key elements as_headed as_triple as_entry as_pair as_tuple as_list as_atom
    chars next_row cost_at
empty_row = refl

profile_alone_row : findings (tuple_of (atom (codes "profile") ∷ []) ∷ node [] ∷ [])
    ≡ NoProfile ∷ []
unfolding findings of_term of_section of_parameter of_key is_undefined has_key elements as_headed as_triple as_entry as_pair as_tuple as_list as_atom
    chars next_row cost_at
profile_alone_row = refl

-- whatever it names, and wherever: that is a fault of the file, and no finding
profile_row : findings (profile ∷ node [] ∷ [])
    ≡ []
unfolding findings of_term of_section of_parameter of_key is_undefined has_key elements as_headed as_triple as_entry as_pair as_tuple as_list as_atom
    chars next_row cost_at
profile_row = refl

odd_profile_row : findings (node [] ∷ entry (codes "profile") (text (codes "2")) ∷ [])
    ≡ []
unfolding findings of_term of_section of_parameter of_key is_undefined has_key elements as_headed as_triple as_entry as_pair as_tuple as_list as_atom
    chars next_row cost_at
odd_profile_row = refl

-- ---- sections
-- what stands in a skipped section isn't looked at
kernal_row : findings (profile ∷ node (entry (codes "kernal") (list_of (entry (codes "distribted") none ∷ [])) ∷ []) ∷ [])
    ≡ NearSection 1 (codes "kernal") Kernel ∷ []
unfolding findings of_term of_section of_parameter of_key is_undefined has_key elements as_headed as_triple as_entry as_pair as_tuple as_list as_atom
    chars next_row cost_at
kernal_row = simp meant_is

rehearsal_row : findings (profile ∷ node (entry (codes "sasl") none ∷ entry (codes "rehearsal") none ∷ []) ∷ [])
    ≡ NearSection 1 (codes "rehearsal") Rehearse ∷ []
unfolding findings of_term of_section of_parameter of_key is_undefined has_key elements as_headed as_triple as_entry as_pair as_tuple as_list as_atom
    chars next_row cost_at
rehearsal_row = simp meant_is

-- the two that are read, a section of another application, and what is no entry
sections_row : findings (profile ∷ node (entry (codes "kernel") none ∷ entry (codes "rehearse") none ∷ entry (codes "sasl") none
    ∷ atom (codes "kernal") ∷ []) ∷ [])
    ≡ []
unfolding findings of_term of_section of_parameter of_key is_undefined has_key elements as_headed as_triple as_entry as_pair as_tuple as_list as_atom
    chars next_row cost_at
sections_row = simp meant_is

-- ---- parameters of `kernel`
sync_node_timeout_row : findings (profile ∷ kernel_of (entry (codes "sync_node_timeout") (int (pos 5000)) ∷ []) ∷ [])
    ≡ NearParameter 1 (codes "sync_node_timeout") SyncNodesTimeout ∷ []
unfolding findings of_term of_section of_parameter of_key is_undefined has_key elements as_headed as_triple as_entry as_pair as_tuple as_list as_atom
    chars next_row cost_at
sync_node_timeout_row = simp meant_is

distribted_row : findings (profile ∷ kernel_of (entry (codes "distribted") none ∷ []) ∷ [])
    ≡ NearParameter 1 (codes "distribted") Distributed ∷ []
unfolding findings of_term of_section of_parameter of_key is_undefined has_key elements as_headed as_triple as_entry as_pair as_tuple as_list as_atom
    chars next_row cost_at
distribted_row = simp meant_is

-- a section's name isn't a parameter's, nor is this one in another section
parameters_row : findings (profile ∷ kernel_of (entry (codes "distributed") none ∷ entry (codes "sync_nodes_timeout") (int (pos 5000))
    ∷ entry (codes "kernal") none ∷ []) ∷ [])
    ≡ []
unfolding findings of_term of_section of_parameter of_key is_undefined has_key elements as_headed as_triple as_entry as_pair as_tuple as_list as_atom
    chars next_row cost_at
parameters_row = simp meant_is

other_section_row : findings (profile ∷ node (entry (codes "sasl") (list_of (entry (codes "distribted") none ∷ [])) ∷ []) ∷ [])
    ≡ []
unfolding findings of_term of_section of_parameter of_key is_undefined has_key elements as_headed as_triple as_entry as_pair as_tuple as_list as_atom
    chars next_row cost_at
other_section_row = simp meant_is

-- ---- a timeout that is `undefined`
undefined_row : findings (profile ∷ kernel_of (entry (codes "sync_nodes_timeout") (atom (codes "undefined")) ∷ []) ∷ [])
    ≡ UndefinedWritten 1 ∷ []
unfolding findings of_term of_section of_parameter of_key is_undefined has_key elements as_headed as_triple as_entry as_pair as_tuple as_list as_atom
    chars next_row cost_at
undefined_row = simp meant_is

-- another atom, the text of that name, and another parameter
infinity_row : findings (profile ∷ kernel_of (entry (codes "sync_nodes_timeout") (atom (codes "infinity")) ∷ []) ∷ [])
    ≡ []
unfolding findings of_term of_section of_parameter of_key is_undefined has_key elements as_headed as_triple as_entry as_pair as_tuple as_list as_atom
    chars next_row cost_at
infinity_row = simp meant_is

text_row : findings (profile ∷ kernel_of (entry (codes "sync_nodes_timeout") (text (codes "undefined")) ∷ []) ∷ [])
    ≡ []
unfolding findings of_term of_section of_parameter of_key is_undefined has_key elements as_headed as_triple as_entry as_pair as_tuple as_list as_atom
    chars next_row cost_at
text_row = simp meant_is

other_undefined_row : findings (profile ∷ kernel_of (entry (codes "sync_nodes_optional") (atom (codes "undefined")) ∷ []) ∷ [])
    ≡ []
unfolding findings of_term of_section of_parameter of_key is_undefined has_key elements as_headed as_triple as_entry as_pair as_tuple as_list as_atom
    chars next_row cost_at
other_undefined_row = simp meant_is

-- ---- keys of an application
aplications_row : findings (profile ∷ app (entry (codes "aplications") none ∷ []) ∷ [])
    ≡ NearKey 1 (codes "aplications") Applications ∷ []
unfolding findings of_term of_section of_parameter of_key is_undefined has_key elements as_headed as_triple as_entry as_pair as_tuple as_list as_atom
    chars next_row cost_at
aplications_row = simp meant_is

-- those that are read, and another that app(4) has; a node has no such key
keys_row : findings (profile ∷ app (entry (codes "applications") none ∷ entry (codes "mod") none ∷ entry (codes "start_phases") none
    ∷ entry (codes "id") none ∷ []) ∷ [])
    ≡ []
unfolding findings of_term of_section of_parameter of_key is_undefined has_key elements as_headed as_triple as_entry as_pair as_tuple as_list as_atom
    chars next_row cost_at
keys_row = simp meant_is

node_key_row : findings (profile ∷ node (entry (codes "aplications") none ∷ []) ∷ [])
    ≡ []
unfolding findings of_term of_section of_parameter of_key is_undefined has_key elements as_headed as_triple as_entry as_pair as_tuple as_list as_atom
    chars next_row cost_at
node_key_row = simp meant_is

-- ---- all in the order of the text, each with its place; a term of another shape has its place too
whole_row : findings (app (entry (codes "start_phase") none ∷ []) ∷ atom (codes "node")
    ∷ node (entry (codes "kernel") (list_of (entry (codes "sync_nodes_timeout") (atom (codes "undefined"))
    ∷ entry (codes "sync_node_optional") none ∷ [])) ∷ entry (codes "kernels") none ∷ []) ∷ [])
    ≡ NoProfile ∷ NearKey 0 (codes "start_phase") StartPhases ∷ UndefinedWritten 2 ∷ NearParameter 2 (codes "sync_node_optional") SyncNodesOptional
    ∷ NearSection 2 (codes "kernels") Kernel ∷ []
unfolding findings of_term of_section of_parameter of_key is_undefined has_key elements as_headed as_triple as_entry as_pair as_tuple as_list as_atom
    chars next_row cost_at
whole_row = simp meant_is
