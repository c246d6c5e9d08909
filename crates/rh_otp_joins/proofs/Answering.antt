-- A dist_ac that takes whatever comes answers the introduction of another node, and knows that one from then on.
use Rattle.std.proofs.Common.{◌≡◌, ◌≢◌, ◌++◌, ◌==◌, ◌||◌, ℕ, Bool, true, false, not, cond, List, [], ◌∷◌, slice_get, slice_set, unwrap_or, Option, Some, None, refl, ap, ◌∙◌}
use Rattle.std.proofs.lemmas.Bool.{or_right}
use Rattle.std.proofs.Math.Bool.{or-true}
use Rattle.rh_model.specs.ClusterView.{ClusterView}
use Rattle.rh_model.specs.declared.node.Node.{Node}
use Rattle.rh_otp_model.specs.declared.message.Message.{Message}
use Rattle.rh_otp_model.specs.declared.message.Message.TheVariants as message
use Rattle.rh_otp_model.specs.declared.output.Envelope.{Envelope}
use Rattle.rh_otp_model.specs.declared.output.Output.{Output}
use Rattle.rh_otp_model.specs.declared.output.Output.TheVariants as output
use Rattle.rh_otp_model.specs.declared.process.Role.TheVariants as role
use Rattle.rh_otp_model.specs.Flags.{has_any}
use Rattle.rh_otp_model.specs.Own.{OwnView}
use Rattle.rh_otp_model.specs.Processes.{process_at}
use Rattle.rh_otp_dist.specs.declared.outside.Need.{Need}
use Rattle.rh_otp_dist.specs.declared.outside.Need.TheVariants as need
use Rattle.rh_otp_dist.specs.declared.state.Stand.TheVariants as stand
use Rattle.rh_otp_dist.specs.Outside.{with_message, answer_to}
use Rattle.rh_otp_dist.specs.Received.{handle_next}
use Rattle.rh_otp_dist.specs.State.{DistView, TurnView, with_state}
use Rattle.rh_otp_dist.specs.Sending.{send_to}
use Rattle.rh_otp_dist.specs.Told.{local_flags, own_flags, new_node}
use Rattle.rh_otp_dist.specs.Waiting.{merge}
use Rattle.rh_otp_net.specs.Links.{are_linked}
use Rattle.rh_otp_node.specs.Live.{LiveView, here_of, is_alive}
use Rattle.rh_otp_node.specs.Remote as remote
use Rattle.rh_otp_node.specs.Turns.{handled_by, behind_turn, dist_turn, weight_of}
use Rattle.rh_otp_system.specs.declared.slow.Answered.{Answered}
use Rattle.rh_otp_system.specs.Connecting.{reach, send_reached, send_to_dist}
use Rattle.rh_otp_system.specs.Sending.{sent}
use Rattle.rh_otp_system.specs.State.{SystemView, live_at, node_at, with_node, own_at, is_alive_at, has_dist_at, process_in}
use Rattle.rh_otp_system.specs.Working as working
use Rattle.rh_otp_laws.proofs.Nodes.{node_written, others_same}
use Rattle.rh_otp_crashes.proofs.Turning.{written_twice, works_on, idle}
use Rattle.rh_otp_crashes.proofs.Waiting.{stays}

-- ---- a message to another dist_ac

-- it is on its way, where the other node is alive and has one, and both are connected
pub sends_to : (n m : Node) (x : Message) (s : SystemView) → is_alive_at s m ≡ true → has_dist_at s m ≡ true → are_linked n m s.links ≡ true
    → send_to_dist n m x s ≡ sent (process_in s n role.DistAc) (process_in s m role.DistAc) x s
sends_to n m x s alive has seen =
    ap (λ (b : Bool). cond b (send_reached n m x (reach n m s)) s) alive
    ∙ ap (send_reached n m x) (stays n m s (or_right (n.0 == m.0) (are_linked n m s.links) seen))
    ∙ ap (λ (b : Bool). cond b (sent (process_in s n role.DistAc) (process_in s m role.DistAc) x s) s) has

-- ---- the answer

-- the dist_ac knows the node, and what that may run
abbrev pub met : Node → List Bool → DistView → DistView
met n allowed d = record d { stand = stand.Idle; mail = []; may = slice_set d.may n.0 allowed; known = n ∷ d.known }

-- what it tells of itself
abbrev pub told_by : Node → DistView → Message
told_by m d = message.NewNode m (unwrap_or (slice_get d.may m.0) []) (local_flags d)

-- an answer is counted where nothing runs at the node
abbrev pub counted_by : Node → Node → DistView → List Answered
counted_by m n d = cond (not (has_any (local_flags d))) (working.pair_of m n None ∷ []) []

abbrev mailed_idle : Node → List Bool → List Bool → DistView → LiveView → LiveView
mailed_idle n allowed started d v = record v { dist = Some (with_message (message.NewNode n allowed started) (idle d)) }

turns : (c : ClusterView) (own : OwnView) (n m : Node) (allowed started : List Bool) (w : ℕ) (v : LiveView) (d : DistView)
    → has_any started ≡ false
    → handled_by c own m (record { weight = w; has_lock = false; burns = false }) (mailed_idle n allowed started d v)
    ≡ (record v { dist = Some (met n allowed d) }, output.ToDist n (told_by m d) ∷ [])
unfolding handled_by handle_next new_node
turns c own n m allowed started w v d none =
    let u : LiveView = mailed_idle n allowed started d v in
    let t : TurnView = dist_turn c own m (record { weight = w; has_lock = false; burns = false }) u (idle d) in
    let knows : TurnView → TurnView =
    λ r. (let told : TurnView = merge n allowed r in with_state (record told.state { known = n ∷ told.state.known }) told) in
    let says : TurnView = send_to n (message.NewNode m (own_flags t) (local_flags d)) t in
    ap (λ (b : Bool). behind_turn u (cond b t (knows (cond (has_any (local_flags d) || true) says t)))) none
    ∙ ap (λ (b : Bool). behind_turn u (knows (cond b says t))) (or-true (has_any (local_flags d)))

needs : (n m : Node) (b : Bool) (s : SystemView) → working.burns (working.pair_of m n None) s ≡ false
    → working.handled_for m (cond b (need.Answer n None) need.Nothing) (working.asked_for m (cond b (need.Answer n None) need.Nothing) s) s
    ≡ working.behind_turn m false false (record s { answers = cond b (working.pair_of m n None ∷ []) [] ++ s.answers })
needs n m true s seldom =
    ap (λ (burning : Bool). working.behind_turn m false burning (record s { answers = working.pair_of m n None ∷ s.answers })) seldom
needs n m false s seldom = refl

works_there : (n m : Node) (allowed started : List Bool) (s : SystemView) (v : LiveView) (d : DistView) → live_at s m ≡ Some v
    → has_any started ≡ false → working.burns (working.pair_of m n None) s ≡ false
    → working.work m (with_node m (mailed_idle n allowed started d v) s)
    ≡ send_to_dist m n (told_by m d)
    (with_node m (record v { dist = Some (met n allowed d) }) (record s { answers = counted_by m n d ++ s.answers }))
unfolding working.work working.handled
works_there n m allowed started s v d there none seldom =
    let x : LiveView = mailed_idle n allowed started d v in
    let q : SystemView = with_node m x s in
    let here : node_at q m ≡ x = node_written s m v x there in
    let over : SystemView = record q { answers = counted_by m n d ++ s.answers } in
    ap (λ (y : LiveView). working.work_for (remote.mail_count y) m q) here
    ∙ ap (λ (y : LiveView). cond (remote.has_next y) (working.handled_for m (working.need_at q m) (working.asked_for m (working.need_at q m) q) q) q) here
    ∙ ap (λ (y : LiveView). working.handled_for m (remote.need_of y) (working.asked_for m (remote.need_of y) q) q) here
    ∙ ap (λ (b : Bool). (let w : Need = cond b need.Nothing (answer_to n None (idle d)) in working.handled_for m w (working.asked_for m w q) q)) none
    ∙ needs n m (not (has_any (local_flags d))) q seldom
    ∙ ap (λ (y : LiveView). working.behind m
    (handled_by s.cluster (own_at s m) m (record { weight = weight_of s.cluster m y; has_lock = false; burns = false }) y) over) here
    ∙ ap (λ (pair : LiveView × List Output). working.behind m pair over)
    (turns s.cluster (own_at s m) n m allowed started (weight_of s.cluster m x) v d none)
    ∙ ap (λ (z : SystemView). send_to_dist m n (told_by m d) (record z { answers = counted_by m n d ++ s.answers }))
    (written_twice s m x (record v { dist = Some (met n allowed d) }))

-- the answer on its way
abbrev pub answer_of : Node → Node → LiveView → DistView → SystemView → Envelope
answer_of m n v d s = record {
  from = process_at (here_of m v) role.DistAc;
  to = process_in s n role.DistAc;
  message = told_by m d;
}

pub answers_so : (n m : Node) (allowed started : List Bool) (s : SystemView) (v : LiveView) (d : DistView) → live_at s m ≡ Some v
    → v.dist ≡ Some d → d.stand ≡ stand.Idle → d.mail ≡ [] → has_any started ≡ false → working.burns (working.pair_of m n None) s ≡ false
    → n.0 ≢ m.0 → is_alive_at s n ≡ true → has_dist_at s n ≡ true → are_linked m n s.links ≡ true
    → working.mailed m (message.NewNode n allowed started) s
    ≡ record (with_node m (record v { dist = Some (met n allowed d) }) s) {
      messages = s.messages ++ answer_of m n v d s ∷ [];
      answers = counted_by m n d ++ s.answers;
    }
answers_so n m allowed started s v d there has stands empty none seldom other alive has_dist seen =
    let x : Message = message.NewNode n allowed started in
    let is_idle : d ≡ idle d = (λ i. record d { stand = stands i; mail = empty i }) in
    let after : LiveView = record v { dist = Some (met n allowed d) } in
    let q : SystemView = with_node m after (record s { answers = counted_by m n d ++ s.answers }) in
    let here : node_at q m ≡ after = node_written s m v after there in
    let there_too : node_at q n ≡ node_at s n = others_same s m n after other in
    works_on m x s v there
    ∙ ap (λ (o : Option DistView). working.work m (with_node m (remote.with_change (with_message x) o v) s)) (has ∙ ap Some is_idle)
    ∙ works_there n m allowed started s v d there none seldom
    ∙ sends_to m n (told_by m d) q (ap is_alive there_too ∙ alive) has_dist seen
    ∙ (λ i. record q {
      messages = s.messages ++ record {
        from = process_at (here_of m (here i)) role.DistAc;
        to = process_at (here_of n (there_too i)) role.DistAc;
        message = told_by m d;
      } ∷ [];
    })
