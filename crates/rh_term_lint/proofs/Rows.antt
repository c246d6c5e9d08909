-- Worked rows: how near words are, what a skipped name was meant to be, and the nearest of several.
use Rattle.std.proofs.Common.{◌≡◌, true, false, [], ◌∷◌, map, Some, None, codes}
use Rattle.std.specs.Str.{chars}
use Rattle.strsim.specs.Edits.{next_row, cost_at}
use Rattle.rh_term_lint.specs.declared.names.ReadName.TheVariants.{Kernel, Rehearse, Distributed, SyncNodesMandatory, SyncNodesTimeout, Permissions, Applications, StartPhases}
use Rattle.rh_term_lint.specs.Near.{edits, is_near, nearest}
use Rattle.rh_term_lint.specs.Meant.{sections, parameters, keys, meant}
use Rattle.rh_term_lint.proofs.Table.{edits_is, near_is, meant_is, nearest_is}

-- ---- edits: insertions, deletions, replacements; two letters the other way round are two
none_row : edits (codes "web") (codes "web") ≡ 0
unfolding chars next_row cost_at
none_row = edits_is (codes "web") (codes "web")

swapped_row : edits (codes "kernle") (codes "kernel") ≡ 2
unfolding chars next_row cost_at
swapped_row = edits_is (codes "kernle") (codes "kernel")

usual_row : edits (codes "kitten") (codes "sitting") ≡ 3
unfolding chars next_row cost_at
usual_row = edits_is (codes "kitten") (codes "sitting")

-- ---- near: two edits at most
two_edits_row : is_near (codes "dstribted") (codes "distributed") ≡ true
unfolding chars next_row cost_at
two_edits_row = near_is (codes "dstribted") (codes "distributed")

three_edits_row : is_near (codes "disbuted") (codes "distributed") ≡ false
unfolding chars next_row cost_at
three_edits_row = near_is (codes "disbuted") (codes "distributed")

three_replaced_row : is_near (codes "distribxxx") (codes "distributed") ≡ false
unfolding chars next_row cost_at
three_replaced_row = near_is (codes "distribxxx") (codes "distributed")

-- and half as many as the name has bytes: of three one
one_of_three_row : is_near (codes "md") (codes "mod") ≡ true
unfolding chars next_row cost_at
one_of_three_row = near_is (codes "md") (codes "mod")

two_of_three_row : is_near (codes "id") (codes "mod") ≡ false
unfolding chars next_row cost_at
two_of_three_row = near_is (codes "id") (codes "mod")

-- ---- sections of a node
kernal_row : meant sections (codes "kernal") ≡ Some Kernel
unfolding chars next_row cost_at
kernal_row = meant_is sections (codes "kernal")

rehearsal_row : meant sections (codes "rehearsal") ≡ Some Rehearse
unfolding chars next_row cost_at
rehearsal_row = meant_is sections (codes "rehearsal")

-- one that is read is meant as it stands, and another application has its own section
kernel_row : meant sections (codes "kernel") ≡ None
unfolding chars next_row cost_at
kernel_row = meant_is sections (codes "kernel")

sasl_row : meant sections (codes "sasl") ≡ None
unfolding chars next_row cost_at
sasl_row = meant_is sections (codes "sasl")

-- ---- parameters of `kernel`
distribted_row : meant parameters (codes "distribted") ≡ Some Distributed
unfolding chars next_row cost_at
distribted_row = meant_is parameters (codes "distribted")

sync_node_timeout_row : meant parameters (codes "sync_node_timeout") ≡ Some SyncNodesTimeout
unfolding chars next_row cost_at
sync_node_timeout_row = meant_is parameters (codes "sync_node_timeout")

mandatroy_row : meant parameters (codes "sync_nodes_mandatroy") ≡ Some SyncNodesMandatory
unfolding chars next_row cost_at
mandatroy_row = meant_is parameters (codes "sync_nodes_mandatroy")

permission_row : meant parameters (codes "permission") ≡ Some Permissions
unfolding chars next_row cost_at
permission_row = meant_is parameters (codes "permission")

-- other parameters that `kernel` has
net_ticktime_row : meant parameters (codes "net_ticktime") ≡ None
unfolding chars next_row cost_at
net_ticktime_row = meant_is parameters (codes "net_ticktime")

start_distribution_row : meant parameters (codes "start_distribution") ≡ None
unfolding chars next_row cost_at
start_distribution_row = meant_is parameters (codes "start_distribution")

-- ---- keys of an application
aplications_row : meant keys (codes "aplications") ≡ Some Applications
unfolding chars next_row cost_at
aplications_row = meant_is keys (codes "aplications")

start_phase_row : meant keys (codes "start_phase") ≡ Some StartPhases
unfolding chars next_row cost_at
start_phase_row = meant_is keys (codes "start_phase")

-- keys that app(4) has, too
other_keys_row : map (meant keys) (codes "id" ∷ codes "vsn" ∷ codes "modules" ∷ codes "env" ∷ codes "included_applications" ∷ [])
    ≡ None ∷ None ∷ None ∷ None ∷ None ∷ []
unfolding chars next_row cost_at
other_keys_row = simp meant_is

-- ---- the nearest of several: the fewest edits, and of equals the first
fewest_row : nearest (codes "crah") (codes "crush" ∷ codes "crash" ∷ codes "boot" ∷ []) ≡ Some (codes "crash")
unfolding chars next_row cost_at
fewest_row = nearest_is (codes "crah") (codes "crush" ∷ codes "crash" ∷ codes "boot" ∷ [])

first_row : nearest (codes "n4@lab") (codes "n1@lab" ∷ codes "n2@lab" ∷ []) ≡ Some (codes "n1@lab")
unfolding chars next_row cost_at
first_row = nearest_is (codes "n4@lab") (codes "n1@lab" ∷ codes "n2@lab" ∷ [])

itself_row : nearest (codes "n2@lab") (codes "n1@lab" ∷ codes "n2@lab" ∷ []) ≡ Some (codes "n2@lab")
unfolding chars next_row cost_at
itself_row = nearest_is (codes "n2@lab") (codes "n1@lab" ∷ codes "n2@lab" ∷ [])

none_near_row : nearest (codes "billing") (codes "web" ∷ codes "pool" ∷ []) ≡ None
unfolding chars next_row cost_at
none_near_row = nearest_is (codes "billing") (codes "web" ∷ codes "pool" ∷ [])
