-- A node's wait is over: it joins, and its dist_ac is to be told so, if it has one.
use Rattle.std.proofs.Common.{◌≡◌, ◌++◌, Bool, true, false, cond, List, [], ◌∷◌, Some, refl, sym, ap, ◌∙◌}
use Rattle.std.specs.Prelude.{if◌then◌else◌}
use Rattle.std.proofs.lemmas.List.{append-nil}
use Rattle.rh_model.specs.declared.node.Node.{Node}
use Rattle.rh_otp_model.specs.declared.message.Message.{Message}
use Rattle.rh_otp_model.specs.declared.message.Message.TheVariants as message
use Rattle.rh_otp_model.specs.declared.output.Envelope.{Envelope}
use Rattle.rh_otp_model.specs.declared.output.Event.TheVariants as event
use Rattle.rh_otp_model.specs.declared.process.Role.TheVariants as role
use Rattle.rh_otp_model.specs.Processes.{process_at}
use Rattle.rh_otp_node.specs.Kernel as kernel
use Rattle.rh_otp_node.specs.Live.{LiveView, here_of}
use Rattle.rh_otp_system.specs.declared.slow.Slow.TheVariants as slow
use Rattle.rh_otp_system.specs.Joining.{join, with_go, with_boot}
use Rattle.rh_otp_system.specs.Sending.{told, sent}
use Rattle.rh_otp_system.specs.State.{SystemView, live_at, node_at, with_node, has_dist_at}
use Rattle.rh_otp_laws.proofs.Nodes.{node_written}
use Rattle.rh_otp_crashes.proofs.Turning.{written_twice}
use Rattle.rh_otp_joins.proofs.Opened.{go_letter}
use Rattle.rh_otp_joins.proofs.Waiting.{waiter}
use Rattle.rh_otp_gathers.proofs.Stages.{with_early, joined}

abbrev pub go_if : Bool → Node → SystemView → List Envelope
go_if c m b = if c then go_letter m b ∷ [] else []

-- the system behind it
abbrev pub joined_so : Node → SystemView → List Message → SystemView → SystemView
joined_so m b mail s = record (with_node m (with_early (joined (node_at b m)) mail) s) {
  messages = s.messages ++ go_if (has_dist_at s m) m b;
  slow = s.slow ++ slow.Boot m ∷ [];
  events = s.events ++ event.Up m ∷ [];
}

pub joins_so : (m : Node) (b s : SystemView) (mail : List Message) (old : LiveView) → live_at s m ≡ Some old
    → join m (with_node m (with_early (waiter (node_at b m) [] []) mail) s) ≡ joined_so m b mail s
unfolding join told
joins_so m b s mail old there =
    let w : LiveView = with_early (waiter (node_at b m) [] []) mail in
    let over : LiveView = with_early (joined (node_at b m)) mail in
    let q : SystemView = with_node m w s in
    let z : SystemView = record (with_node m over s) { events = s.events ++ event.Up m ∷ [] } in
    ap (λ (y : LiveView). with_boot m (with_go m (told (event.Up m) (with_node m (kernel.joined y) q)))) (node_written s m old w there)
    ∙ ap (λ (x : SystemView). with_boot m (with_go m (told (event.Up m) x))) (written_twice s m w over)
    ∙ ap (λ (y : LiveView). with_boot m (cond (has_dist_at s m)
    (sent (process_at (here_of m y) role.KernelConfig) (process_at (here_of m y) role.DistAc) message.Go z) z)) (node_written s m old over there)
    ∙ by (has_dist_at s m)
  where
    by : (c : Bool) → with_boot m (cond c
        (record (record (with_node m (with_early (joined (node_at b m)) mail) s) { events = s.events ++ event.Up m ∷ [] }) { messages = s.messages ++ go_letter m b ∷ [] })
        (record (with_node m (with_early (joined (node_at b m)) mail) s) { events = s.events ++ event.Up m ∷ [] }))
        ≡ record (with_node m (with_early (joined (node_at b m)) mail) s) {
          messages = s.messages ++ go_if c m b;
          slow = s.slow ++ slow.Boot m ∷ [];
          events = s.events ++ event.Up m ∷ [];
        }
    by true = refl
    by false = λ i. record (with_node m (with_early (joined (node_at b m)) mail) s) {
      messages = sym (append-nil s.messages) i;
      slow = s.slow ++ slow.Boot m ∷ [];
      events = s.events ++ event.Up m ∷ [];
    }
