-- At other nodes than that of a turn the processes know what they knew.
use Rattle.std.proofs.Common.{◌≡◌, ◌≢◌, ◌+◌, [], Option, Some, None, unwrap_or, refl, sym, ap, ◌∙◌, arith}
use Rattle.std.specs.Option.{option_map}
use Rattle.rh_model.specs.ClusterView.{numbered}
use Rattle.rh_model.specs.declared.node.Node.{Node}
use Rattle.rh_otp_dist.specs.State.{DistView}
use Rattle.rh_otp_node.specs.Live.{LiveView, with_kind}
use Rattle.rh_otp_node.specs.Remote.{with_change, without_monitors}
use Rattle.rh_otp_dist.specs.Outside as outside
use Rattle.rh_otp_system.specs.State.{SystemView, node_at}
use Rattle.rh_otp_laws.specs.Knowing.{knowledge, IsAnother, MovesStayAtTheirNode}
use Rattle.rh_otp_laws.specs.Turns.{node_of}
use Rattle.rh_otp_laws.proofs.Lives.{others_stand}
use Rattle.rh_otp_laws.proofs.Moving.{made_by_turn}
use Rattle.rh_otp_laws.proofs.Nodes.{others_same, same_of_all}
use Rattle.rh_otp_laws.proofs.Turn.{Turn, nothing, both, wrote, noted, seen, put, set, linked, slowed, took, freed, called, answered, fell, unmonitored}

-- whom its dist_ac monitors is no knowledge of it
abbrev unmonitoring : DistView → DistView
unmonitoring d = record d { monitored = [] }

known_by : (n : Node) (v : LiveView) (o : Option DistView) → v.dist ≡ o
    → knowledge (with_change (outside.without_monitors n) o v) ≡ knowledge v
known_by n v None is = refl
known_by n v (Some d) is = λ i. record v { kinds = []; dist = option_map unmonitoring (sym is i) }

known_without : (n : Node) (v : LiveView) → knowledge (without_monitors n v) ≡ knowledge v
known_without n v = known_by n v v.dist refl

pub knows_as_before : (n m : Node) (s t : SystemView) → m.0 ≢ n.0 → Turn n s t → knowledge (node_at t m) ≡ knowledge (node_at s m)
knows_as_before n m _ _ other (nothing s) = refl
knows_as_before n m _ _ other (both s t u p q) = knows_as_before n m t u other q ∙ knows_as_before n m s t other p
knows_as_before n m _ _ other (wrote s v on) = ap knowledge (others_same s n m v other)
knows_as_before n m _ _ other (noted s k a kind) = same_of_all knowledge s k m (with_kind a kind (node_at s k)) refl
knows_as_before n m _ _ other (seen s e) = refl
knows_as_before n m _ _ other (put s more) = refl
knows_as_before n m _ _ other (set s due to message later) = refl
knows_as_before n m _ _ other (linked s links) = refl
knows_as_before n m _ _ other (slowed s slow) = refl
knows_as_before n m _ _ other (took s r p nodes) = refl
knows_as_before n m _ _ other (freed s r p) = refl
knows_as_before n m _ _ other (called s calls last) = refl
knows_as_before n m _ _ other (answered s answers) = refl
knows_as_before n m _ _ other (fell s) = ap knowledge (others_stand n m s other)
knows_as_before n m _ _ other (unmonitored s k) =
    same_of_all knowledge s k m (without_monitors n (node_at s k)) (known_without n (node_at s k))

-- some node that isn't this one
abbrev another : Node → Node
another m = numbered (m.0 + 1)

is_other : (m : Node) (o : Option Node) → IsAnother m o → m.0 ≢ (unwrap_or o (another m)).0
is_other m None is = λ same. absurd (omega (arith, same))
is_other m (Some n) is = is

pub stay_at_their_node : MovesStayAtTheirNode
stay_at_their_node s next m other = knows_as_before _ m _ _ (is_other m (node_of next s) other) (made_by_turn (another m) next s)
