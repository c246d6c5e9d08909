-- What of a file's terms is looked at where something is to be found in them; the rest is skipped (ours).
use Rattle.std.specs.Prelude.{ℕ, List, Option, Some, None, codes, if◌then◌else◌}
use Rattle.std.specs.Str.{bytes_eq}
use Rattle.rh_cluster_lint.specs.declared.looked.Looked.{Looked}
use Rattle.rh_cluster_lint.specs.declared.looked.Looked.TheVariants as part

-- what is looked at behind a key, where such a part is
abbrev pub looked_behind : Looked → List ℕ → Option Looked
looked_behind part.File word =
    if bytes_eq word (codes "node") then Some part.Node
    else if bytes_eq word (codes "application") then Some part.Keys
    else None
looked_behind part.Node key = if bytes_eq key (codes "kernel") then Some part.Kernel else None
looked_behind part.Kernel key = if bytes_eq key (codes "sync_nodes_timeout") then Some part.Keys else None
looked_behind part.Keys key = None
