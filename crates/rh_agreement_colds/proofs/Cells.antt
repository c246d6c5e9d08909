-- There are as many cells behind moves, and behind the boot of a node, as before.
use Rattle.std.proofs.Common.{◌≡◌, length, refl, ap, ◌∙◌}
use Rattle.std.proofs.lemmas.List.{length-set}
use Rattle.rh_model.specs.ClusterView.{numbered}
use Rattle.rh_model.specs.declared.node.Node.{Node}
use Rattle.rh_otp_node.specs.Live.{begun, with_kind}
use Rattle.rh_otp_node.specs.declared.node.Phase.TheVariants as phase
use Rattle.rh_otp_node.specs.Remote.{without_monitors}
use Rattle.rh_otp_system.specs.declared.cell.Cell.TheVariants as cell
use Rattle.rh_otp_system.specs.Doing.{begun_at, booted}
use Rattle.rh_otp_system.specs.Ending.{taken_down}
use Rattle.rh_otp_system.specs.Moves.{Reaches, here, behind_one}
use Rattle.rh_otp_system.specs.Sending.{told}
use Rattle.rh_otp_system.specs.State.{SystemView, node_at, own_at}
use Rattle.rh_otp_laws.specs.Acting.{IsThere}
use Rattle.rh_otp_laws.proofs.Beginning.{boots}
use Rattle.rh_otp_laws.proofs.Moving.{made_by_turn}
use Rattle.rh_otp_laws.proofs.Turn.{Turn, nothing, both, wrote, noted, seen, put, set, linked, slowed, took, freed, called, answered, fell, unmonitored}

abbrev SameLength : SystemView → SystemView → Type 0
SameLength s t = length t.nodes.cells ≡ length s.nodes.cells

of_fallen : (n : Node) (s : SystemView) → SameLength s (taken_down n s)
unfolding taken_down told
of_fallen n s = length-set s.nodes.cells n.0 (cell.Node (record (node_at s n) { phase = phase.Down }))

of_turn : (n : Node) (s t : SystemView) → Turn n s t → SameLength s t
of_turn n _ _ (nothing s) = refl
of_turn n _ _ (both s t u p q) = of_turn n t u q ∙ of_turn n s t p
of_turn n _ _ (wrote s v on) = length-set s.nodes.cells n.0 (cell.Node v)
of_turn n _ _ (noted s m a kind) = length-set s.nodes.cells m.0 (cell.Node (with_kind a kind (node_at s m)))
of_turn n _ _ (seen s e) = refl
of_turn n _ _ (put s more) = refl
of_turn n _ _ (set s due to m later) = refl
of_turn n _ _ (linked s links) = refl
of_turn n _ _ (slowed s slow) = refl
of_turn n _ _ (took s r p nodes) = refl
of_turn n _ _ (freed s r p) = refl
of_turn n _ _ (called s calls last) = refl
of_turn n _ _ (answered s answers) = refl
of_turn n _ _ (fell s) = of_fallen n s
of_turn n _ _ (unmonitored s m) = length-set s.nodes.cells m.0 (cell.Node (without_monitors n (node_at s m)))

pub of_moves : (s t : SystemView) → Reaches s t → SameLength s t
of_moves _ _ (here s) = refl
of_moves _ _ (behind_one s t u one rest) =
    of_moves t u rest
    ∙ ap (λ (v : SystemView). length v.nodes.cells) one.2
    ∙ of_turn _ _ _ (made_by_turn (numbered 0) one.0 s)

pub of_boot : (n : Node) (s : SystemView) → IsThere n s → SameLength s (booted n s)
of_boot n s there =
    of_turn n (begun_at n s) (booted n s) (boots s n there.0 there.1)
    ∙ length-set s.nodes.cells n.0 (cell.Node (begun s.cluster (own_at s n) n (node_at s n)))
