-- A dist_ac takes what the others tell of themselves while others have the lock of all that synchronise, too: it frees its own share alone.
use Rattle.std.proofs.Common.{◌≡◌, ◌==◌, ℕ, false, List, [], ◌∷◌, slice_get, Option, Some, refl, sym, ap, ◌∙◌}
use Rattle.std.specs.List.{remove}
use Rattle.std.proofs.lemmas.Bool.{or_right}
use Rattle.rh_model.specs.declared.node.Node.{Node}
use Rattle.rh_otp_model.specs.declared.message.Message.{Message}
use Rattle.rh_otp_model.specs.declared.output.Output.TheVariants as output
use Rattle.rh_otp_model.specs.declared.output.Requester.TheVariants.{Sync}
use Rattle.rh_otp_model.specs.declared.process.Process.{Process}
use Rattle.rh_otp_model.specs.declared.process.Role.TheVariants as role
use Rattle.rh_otp_model.specs.Processes.{process_at}
use Rattle.rh_otp_dist.specs.declared.outside.Need.{Need}
use Rattle.rh_otp_dist.specs.declared.outside.Need.TheVariants as need
use Rattle.rh_otp_dist.specs.declared.turn.Asked.{Asked}
use Rattle.rh_otp_dist.specs.Outside as outside
use Rattle.rh_otp_dist.specs.Received.{next_mail}
use Rattle.rh_otp_dist.specs.State.{DistView, TurnView}
use Rattle.rh_otp_net.specs.declared.locks.Held.{Held}
use Rattle.rh_otp_net.specs.Links.{are_linked}
use Rattle.rh_otp_net.specs.Locks.{freed}
use Rattle.rh_otp_node.specs.Live.{LiveView, here_of, is_alive}
use Rattle.rh_otp_node.specs.Remote as remote
use Rattle.rh_otp_node.specs.Turns.{handled_by, handled_if, behind_turn, dist_turn, weight_of}
use Rattle.rh_otp_system.specs.Outputs.{all_carried_out}
use Rattle.rh_otp_system.specs.State.{SystemView, live_at, node_at, with_node, own_at}
use Rattle.rh_otp_system.specs.Working as working
use Rattle.rh_otp_laws.proofs.Nodes.{node_written, there_written, others_same}
use Rattle.rh_otp_crashes.proofs.Turning.{written_twice}
use Rattle.rh_otp_crashes.proofs.Waiting.{monitors_it}
use Rattle.rh_otp_joins.proofs.Introducing.{Told, word, Learnt, learn, unwatched, waiting, live_waiting, then_asks, turns, near_next}

-- all locks, while it waits; and then without its own
abbrev pub locks_then : Process → List Held → List Node → List Held
locks_then p held [] = freed Sync p held
locks_then p held (x ∷ xs) = held

-- the system around it
abbrev pub sharing : Node → LiveView → DistView → List Held → Learnt → List Node → List Message → SystemView → SystemView
sharing n v d held l rest mail s = with_node n (live_waiting v d l rest mail) (record s { locks = locks_then (process_at (here_of n v) role.DistAc) held rest })

pub carries : (n : Node) (v : LiveView) (d : DistView) (held : List Held) (l : Learnt) (xs : List Node) (mail : List Message) (s : SystemView)
    (w : LiveView) → live_at s n ≡ Some w → near_next n s xs
    → all_carried_out n (then_asks (here_of n v) xs) (with_node n (record v { dist = Some (unwatched d l xs mail) }) (record s { locks = held }))
    ≡ sharing n v d held l xs mail s
carries n v d held l [] mail s w there near = refl
carries n v d held l (y ∷ ys) mail s w there near =
    monitors_so (w) (unwatched d l (y ∷ ys) mail) there
  where
    q : SystemView
    q = record s { locks = held }

    monitors_so : (u : LiveView) (e : DistView) → live_at s n ≡ Some u
        → all_carried_out n (output.Monitor y ∷ []) (with_node n (record v { dist = Some e }) q)
        ≡ with_node n (record v { dist = Some (outside.with_monitor y e) }) q
    monitors_so u e there_u =
        ap (all_carried_out n (output.Monitor y ∷ [])) (sym (written_twice q n v (record v { dist = Some e })))
        ∙ monitors_it n y (with_node n v q) v e (there_written q n u v there_u) (λ same. near.0 (sym same))
        (ap is_alive (others_same q n y v near.0) ∙ near.1)
        (or_right (n.0 == y.0) (are_linked n y s.links) near.2)
        ∙ written_twice q n v (record v { dist = Some (outside.with_monitor y e) })

pub takes_word : (o : Told) (n : Node) (v : LiveView) (d : DistView) (held : List Held) (l : Learnt) (x : Node) (xs : List Node) (mail : List Message) (p : ℕ)
    (s : SystemView) (w : LiveView) → live_at s n ≡ Some w → near_next n s xs
    → next_mail (waiting d l (x ∷ xs) mail) ≡ Some p → slice_get mail p ≡ Some (word o x)
    → working.handled n (sharing n v d held l (x ∷ xs) mail s) ≡ sharing n v d held (learn o x l) xs (remove mail p) s
unfolding working.handled handled_by
takes_word o n v d held l x xs mail p s w there near next is =
    let q : SystemView = record s { locks = held } in
    let e : DistView = waiting d l (x ∷ xs) mail in
    let u : LiveView = record v { dist = Some e } in
    let b : SystemView = with_node n u q in
    let here : node_at b n ≡ u = node_written q n w u there in
    let none_asked : remote.need_of u ≡ need.Nothing =
    ap (λ (o : Option ℕ). remote.need_if o e) next ∙ ap (λ (m : Option Message). outside.need_if m e) is in
    let told : ℕ → Asked = λ weight. record { weight = weight; has_lock = false; burns = false } in
    ap (λ (y : LiveView). working.handled_for n (remote.need_of y) (working.asked_for n (remote.need_of y) b) b) here
    ∙ ap (λ (y : Need). working.handled_for n y (working.asked_for n y b) b) none_asked
    ∙ ap (λ (y : LiveView). working.behind n (handled_by s.cluster (own_at s n) n (told (weight_of s.cluster n y)) y) b) here
    ∙ ap (λ (o : Option ℕ). working.behind n (behind_turn u (handled_if o (dist_turn s.cluster (own_at s n) n (told (weight_of s.cluster n u)) u e))) b) next
    ∙ ap (λ (t : TurnView). working.behind n (behind_turn u t) b)
    (turns o s.cluster (own_at s n) n (told (weight_of s.cluster n u)) u d l x xs mail p is)
    ∙ ap (all_carried_out n (then_asks (here_of n v) xs)) (written_twice q n u (record v { dist = Some (unwatched d (learn o x l) xs (remove mail p)) }))
    ∙ carries n v d held (learn o x l) xs (remove mail p) s w there near
