-- What a node does as it joins, and what comes behind that, whether it has a dist_ac or not.
use Rattle.std.proofs.Common.{◌≡◌, ◌++◌, ℕ, suc, Bool, true, false, cond, List, [], ◌∷◌, map, length, Some, refl, sym, ap, subst, ◌∙◌, arith}
use Rattle.std.proofs.lemmas.List.{append-nil}
use Rattle.rh_model.specs.declared.node.Node.{Node}
use Rattle.rh_otp_model.specs.declared.message.Message.TheVariants as message
use Rattle.rh_otp_model.specs.declared.output.Envelope.{Envelope}
use Rattle.rh_otp_model.specs.declared.output.Event.TheVariants as event
use Rattle.rh_otp_model.specs.declared.process.Role.TheVariants as role
use Rattle.rh_otp_model.specs.Processes.{process_at}
use Rattle.rh_otp_node.specs.declared.node.Phase.TheVariants as phase
use Rattle.rh_otp_node.specs.Kernel as kernel
use Rattle.rh_otp_node.specs.Live.{LiveView, is_alive, is_up}
use Rattle.rh_otp_system.specs.declared.slow.Slow.TheVariants.{Boot}
use Rattle.rh_otp_system.specs.Delivering.{arrived}
use Rattle.rh_otp_system.specs.Joining.{join, with_boot, with_go}
use Rattle.rh_otp_system.specs.Sending.{sent, told}
use Rattle.rh_otp_system.specs.State.{SystemView, live_at, node_at, with_node, has_dist_at, process_in}
use Rattle.rh_otp_laws.proofs.Nodes.{node_written}
use Rattle.rh_otp_orders.specs.Orders.{AreAlike}
use Rattle.rh_otp_orders.proofs.Confluence.{alike_itself}
use Rattle.rh_otp_orders.proofs.Taking.{Taken}
use Rattle.rh_otp_crashes.proofs.Peace.{without}
use Rattle.rh_otp_crashes.proofs.Turning.{node_is, written_twice}
use Rattle.rh_otp_joins.proofs.Arriving.{IsSteady}
use Rattle.rh_otp_joins.proofs.Opened.{up_letter, go_letter, up_does_nothing}
use Rattle.rh_otp_joins.proofs.Stages.{up_alive}
use Rattle.rh_otp_joins.proofs.Waiting.{waiter, waiting_as, TakenOf, taken_of}

-- the node, which waits for nobody any more
abbrev pub joined_live : LiveView → LiveView
joined_live v = record v { mandatory = []; optional = []; phase = phase.Up }

-- the system around it, but for the messages
abbrev pub joined_base : Node → LiveView → SystemView → SystemView
joined_base n v q = record (with_node n (joined_live v) q) {
  slow = q.slow ++ Boot n ∷ [];
  events = q.events ++ event.Up n ∷ [];
  messages = [];
}

-- what is told its dist_ac, where it has one
abbrev pub go_if : Bool → Node → SystemView → List Envelope
go_if c n b = cond c (go_letter n b ∷ []) []

pub join_so : (n : Node) (v : LiveView) (q : SystemView) (ups : List Node) → live_at q n ≡ Some v
    → join n (waiting_as n v q [] [] ups)
    ≡ record (joined_base n v q) {
      messages = map (up_letter n (joined_base n v q)) ups ++ go_if (has_dist_at q n) n (joined_base n v q);
    }
unfolding join told
join_so n v q ups there =
    ap (λ (w : LiveView). behind (with_node n (kernel.joined w) x)) (node_written (record q { messages = letters }) n v (waiter v [] []) there)
    ∙ ap behind (written_twice (record q { messages = letters }) n (waiter v [] []) (joined_live v))
    ∙ by (has_dist_at q n)
    ∙ (λ i. record b { messages = map (letter_so i) ups ++ go_if (has_dist_at q n) n b })
  where
    b : SystemView
    b = joined_base n v q

    letters : List Envelope
    letters = map (up_letter n q) ups

    x : SystemView
    x = waiting_as n v q [] [] ups

    behind : SystemView → SystemView
    behind y = with_boot n (with_go n (told (event.Up n) y))

    z : SystemView
    z = record b { messages = letters; slow = q.slow }

    by : (c : Bool) → with_boot n (cond c (sent (process_in b n role.KernelConfig) (process_in b n role.DistAc) message.Go z) z)
        ≡ record b { messages = letters ++ go_if c n b }
    by true = refl
    by false = λ i. record b { messages = sym (append-nil letters) i }

    life_so : (node_at q n).life ≡ (node_at b n).life
    life_so =
        ap (λ (w : LiveView). w.life) (node_is q n v there)
        ∙ sym (ap (λ (w : LiveView). w.life) (node_written q n v (joined_live v) there))

    letter_so : up_letter n q ≡ up_letter n b
    letter_so = λ i y. record {
      from = process_at (record { node = n; life = life_so i }) role.NetKernel;
      to = process_at (record { node = n; life = life_so i }) role.KernelConfig;
      message = message.NodeUp y;
    }

-- ---- without a dist_ac

-- net_kernel tells of these still, which does nothing
pub record Idles (n : Node) (b : SystemView) (weight : ℕ) (u : SystemView) : Type 0 where
  pub ups : List Node
  pub weighs : weight ≡ length ups
  pub is : u ≡ record b { messages = map (up_letter n b) ups }

no_more : (ups : List Node) → 0 ≡ length ups → ups ≡ []
no_more [] none = refl
no_more (x ∷ ups) none = absurd (omega (arith, none))

pub idle_end : {n : Node} {b : SystemView} (u : SystemView) → Idles n b 0 u → u ≡ record b { messages = [] }
idle_end {n} {b} u f = f.is ∙ (λ i. record b { messages = map (up_letter n b) (no_more f.ups f.weighs i) })

pub idles_steadily : (n : Node) (b : SystemView) (v : LiveView) → live_at b n ≡ Some v → is_up v ≡ true → IsSteady (Idles n b)
idles_steadily n b v there is_up_there = record {
  some = λ k u f none.
      (let no : suc k ≡ 0 = no_messages f.ups (suc k) f.weighs (sym (ap (λ (x : SystemView). x.messages) f.is) ∙ none) in omega (arith, no));
  on = on;
  same = λ u t f h. subst (λ (x : SystemView). AreAlike x t) (sym (idle_end u f))
      (subst (λ (x : SystemView). AreAlike (record b { messages = [] }) x) (sym (idle_end t h)) (alike_itself (record b { messages = [] })));
}
  where
    no_messages : (ups : List Node) (k : ℕ) → k ≡ length ups → map (up_letter n b) ups ≡ [] → k ≡ 0
    no_messages [] k weighs none = weighs
    no_messages (x ∷ ups) k weighs none =
        absurd (let long : suc (length (map (up_letter n b) ups)) ≡ 0 = ap length none in omega (arith, long))

    here : node_at b n ≡ v
    here = node_is b n v there

    on : (k : ℕ) (u : SystemView) (e : Envelope) (left : List Envelope) → Idles n b (suc k) u → Taken e u.messages left
        → Idles n b k (arrived e.to e.message (without u left))
    on k u e left f taken =
        let at : TakenOf (up_letter n b) e f.ups left =
        taken_of (up_letter n b) e f.ups left (subst (λ (x : SystemView). Taken e x.messages left) f.is taken) in
        let all : suc k ≡ length f.ups = f.weighs in
        let long : length f.ups ≡ suc (length at.rest) = at.long in
        record {
          ups = at.rest;
          weighs = omega (arith, all, long);
          is = (λ i. arrived (at.is i).to (at.is i).message (record (f.is i) { messages = left }))
              ∙ up_does_nothing n at.node (without b left) (ap is_alive here ∙ up_alive v is_up_there) (ap is_up here ∙ is_up_there)
              ∙ ap (without b) at.left_so;
        }
