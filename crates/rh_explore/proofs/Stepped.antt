-- A step leaves the cluster as it is.
use Rattle.std.proofs.Common.{◌≡◌, List, sym, ap, ◌∙◌}
use Rattle.rh_state.specs.declared.edit.Edit.{Edit}
use Rattle.rh_state.specs.Records.{Grows}
use Rattle.rh_state.specs.Stored.{Stored, read}
use Rattle.rh_trace.proofs.Ways.{back_cluster}

pub cluster_kept : (v w : Stored) (old new : List Edit) → Grows v old w new → (read w).cluster ≡ (read v).cluster
unfolding read
cluster_kept v w old new g = sym (back_cluster w g.added) ∙ ap (λ (x : Stored). x.cluster) g.led.back
