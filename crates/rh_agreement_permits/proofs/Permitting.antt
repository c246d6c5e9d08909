-- A call that permits or forbids a distributed application, from where both are at rest: up to where its dist_ac is asked, and from where
-- it has answered and nothing moves any more.
use Rattle.std.proofs.Common.{◌≡◌, ◌<◌, ◌+◌, ◌-◌, ◌^◌, ◌&&◌, ◌||◌, ℕ, Bool, true, false, not, cond, nat_lt, List, [], ◌∷◌, length, Some, None, refl, sym, ap, subst, ◌∙◌, inl, arith}
use Rattle.std.proofs.lemmas.Bool.{lt-ltb}
use Rattle.std.proofs.lemmas.List.{length-set}
use Rattle.rh_model.specs.ClusterView.{node_count}
use Rattle.rh_model.specs.declared.node.App.{App}
use Rattle.rh_model.specs.declared.node.Node.{Node}
use Rattle.rh_rules.specs.declared.event.Event.TheVariants as event
use Rattle.rh_rules.specs.declared.notice.Notice.{Notice}
use Rattle.rh_rules.specs.Refusals.{refused}
use Rattle.rh_rules.specs.Steps.{outcome, next}
use Rattle.rh_state.specs.Shape.{IsAppOf}
use Rattle.rh_state.specs.StateView.{StateView, mode_of, is_up}
use Rattle.rh_trace.proofs.NextMoves.{up_within}
use Rattle.rh_calls.specs.declared.call.Reply.TheVariants as reply
use Rattle.rh_script.specs.Answers.{answer_text}
use Rattle.rh_trail.specs.SimView.{SimView, state_of}
use Rattle.rh_otp_model.specs.declared.output.Envelope.{Envelope}
use Rattle.rh_otp_model.specs.Own.{controls}
use Rattle.rh_otp_dist.specs.State.{DistView}
use Rattle.rh_otp_net.specs.declared.order.Order.{Order}
use Rattle.rh_otp_net.specs.Order.{next_order}
use Rattle.rh_otp_node.specs.Live.{LiveView, is_alive, is_ending}
use Rattle.rh_otp_sim.specs.declared.calls.LiveReply.TheVariants as live_reply
use Rattle.rh_otp_sim.specs.declared.lines.Line.{Line}
use Rattle.rh_otp_sim.specs.declared.stepping.Outcome.TheVariants as live
use Rattle.rh_otp_sim.specs.Acting.{acted, acted_at_once, is_acted, is_quiet_at_once, most_moves, called_if}
use Rattle.rh_otp_sim.specs.Refusing.{phase_in, node_in}
use Rattle.rh_otp_sim.specs.Sim.{LiveSimView, net_in}
use Rattle.rh_otp_sim.specs.Stepping.{happened}
use Rattle.rh_otp_system.specs.declared.calls.Ask.TheVariants as ask
use Rattle.rh_otp_system.specs.declared.calls.Call.{Call}
use Rattle.rh_otp_system.specs.declared.calls.Stage.TheVariants as stage
use Rattle.rh_otp_system.specs.declared.cell.Cell.TheVariants as cell
use Rattle.rh_otp_system.specs.Calling.{is_synchronised_at}
use Rattle.rh_otp_system.specs.Doing.{called}
use Rattle.rh_otp_system.specs.Moves.{IsQuiet, here, moved, settled, is_quiet_behind, is_settled_by}
use Rattle.rh_otp_system.specs.Resting.{forgotten, rested, open_of}
use Rattle.rh_otp_system.specs.State.{SystemView, live_at, node_at, own_at, is_alive_at}
use Rattle.rh_otp_system.proofs.Moving.{settles}
use Rattle.rh_otp_text.specs.Replies.{reply_text}
use Rattle.rh_otp_laws.specs.Acting.{IsReached, later, acts, calls, rests, takes_up}
use Rattle.rh_otp_laws.proofs.Commands.{commands_reached}
use Rattle.rh_otp_laws.proofs.Hanging.{settled_stays_so}
use Rattle.rh_otp_laws.proofs.Nodes.{same_of_all}
use Rattle.rh_otp_crashes.specs.Crashes.{IsUnoccupied}
use Rattle.rh_otp_locks.proofs.Locks.{none_at_rest}
use Rattle.rh_agreement.specs.Telling.{GoTogether}
use Rattle.rh_agreement.specs.Laws.{HasRoom}
use Rattle.rh_agreement.specs.Resting.{AreBothAtRest, held}
use Rattle.rh_agreement.proofs.Rest.{AreIdle, IsOver, idle_at_rest, nobody_there}
use Rattle.rh_agreement_calls.proofs.ByHand.{by_hand, not_refused}
use Rattle.rh_agreement_calls.proofs.CallAlike.{up_is_alive}
use Rattle.rh_agreement_calls.proofs.Moving.{at_first, done, request_of, with_one, taken, called_so, one_moves, one_is_quiet}
use Rattle.rh_agreement_spread.proofs.Alike.{Comes, well}
use Rattle.rh_agreement_spread.proofs.Speaking.{lives_in}
use Rattle.rh_agreement_permits.proofs.Asking as asking
use Rattle.rh_agreement_permits.proofs.Coming.{Keeps, still_alive}

few_calls : (last : ℕ) → last < 4000000000 → last < 2 ^ 32 - 1
few_calls last few = omega (arith, few)

-- both are at rest, the node is up, and its dist_ac controls the application
pub record Begins (sim : SimView) (l : LiveSimView) (n : Node) (a : App) : Type 0 where
  pub together : GoTogether sim l
  pub room : HasRoom sim l
  pub at_rest : AreBothAtRest sim l
  pub app : IsAppOf (state_of sim).cluster a
  pub up : is_up (mode_of (state_of sim) n) ≡ true
  pub own : controls (own_at (held l) n) a ≡ true
  pub stays : is_ending (node_in l n) ≡ false
  pub synchronised : is_synchronised_at n (held l) ≡ true

module _ {sim : SimView} {l : LiveSimView} {n : Node} {a : App} (allow : Bool) (begins : Begins sim l n a) where
  abbrev s : StateView
  s = state_of sim

  -- ---- by the manual's rules

  pub within : n.0 < node_count s.cluster
  within = up_within s n begins.at_rest.valid.sound.shaped.modes begins.up

  permit_fine : refused s (event.Permit n a allow) ≡ None
  unfolding refused
  permit_fine = by_hand s n a within begins.app begins.up None

  -- ---- where live nodes begin

  pub idle : AreIdle (held l)
  idle = idle_at_rest l begins.at_rest.reached begins.at_rest.rest

  pub alive : is_alive_at (held l) n ≡ true
  unfolding forgotten
  alive = up_is_alive (phase_in l n) (mode_of s n) (begins.together.now.modes n within) begins.up

  pub nobody_locks : (held l).locks ≡ []
  nobody_locks = none_at_rest (held l) begins.at_rest.reached begins.at_rest.rest

  pub stays : (node_at (held l) n).controller.is_ending ≡ false
  unfolding forgotten
  stays = begins.stays

  abbrev pub base : SystemView
  base = asking.base l n a allow alive begins.own stays begins.synchronised nobody_locks

  abbrev c : Call
  c = asking.c l n a allow alive begins.own stays begins.synchronised nobody_locks

  abbrev pub first : SystemView
  first = asking.first l n a allow alive begins.own stays begins.synchronised nobody_locks

  abbrev answer : Envelope
  answer = asking.answer l n a allow alive begins.own stays begins.synchronised nobody_locks

  abbrev spoken : SystemView
  spoken = asking.spoken l n a allow alive begins.own stays begins.synchronised nobody_locks

  -- is the application only loaded there?
  abbrev pub only : Bool
  only = asking.only l n a allow alive begins.own stays begins.synchronised nobody_locks

  abbrev pub told : Call
  told = asking.told l n a allow alive begins.own stays begins.synchronised nobody_locks

  abbrev pub permit_message : Envelope
  permit_message = asking.permit_message l n a allow alive begins.own stays begins.synchronised nobody_locks

  abbrev pub asked : SystemView
  asked = asking.asked l n a allow alive begins.own stays begins.synchronised nobody_locks

  abbrev pub asked_node : LiveView
  asked_node = asking.asked_node l n a allow alive begins.own stays begins.synchronised nobody_locks

  pub there : live_at asked n ≡ Some asked_node
  there = asking.there_asked l n a allow alive begins.own stays begins.synchronised nobody_locks

  pub node_asked : node_at asked n ≡ asked_node
  node_asked = asking.node_asked l n a allow alive begins.own stays begins.synchronised nobody_locks

  abbrev pub lives : Node → ℕ
  lives = lives_in base

  -- all nodes are as they were, but for what its controller noted
  pub same_then : {A : Type 0} (f : LiveView → A) → f asked_node ≡ f (node_at base n) → (m : Node)
      → f (node_at asked m) ≡ f (node_at base m)
  same_then f same m = same_of_all f first n m asked_node same

  pub alive_then : (m : Node) → is_alive_at asked m ≡ is_alive_at base m
  alive_then m = same_then is_alive refl m

  dists_then : (m : Node) (e : DistView) → is_alive_at asked m ≡ true → (node_at asked m).dist ≡ Some e → IsUnoccupied e
  dists_then m e awake has = idle.dists m e (sym (alive_then m) ∙ awake) (sym (same_then (λ (w : LiveView). w.dist) refl m) ∙ has)

  pub keeps_asked : Keeps lives told base (record asked { messages = [] })
  unfolding forgotten
  keeps_asked = record {
    slow = refl;
    dists = dists_then;
    ends = λ m awake.
        same_then (λ (w : LiveView). is_ending w && not w.is_stopped) refl m ∙ idle.ends m (sym (alive_then m) ∙ awake);
    listed = λ m among. alive_then m ∙ idle.listed m among;
    same_lives = same_then (λ (w : LiveView). w.life) refl;
    stage = stage.DistAc;
    calls = refl;
    waits = λ call q. refl;
    cluster = refl;
    files = refl;
    links = refl;
    soon = refl;
    clock = refl;
    count = length-set base.nodes.cells n.0 (cell.Node asked_node);
    phases = same_then (λ (w : LiveView). w.phase) refl;
  }

  -- ---- up to its dist_ac's turn

  first_so : base ≡ at_first base
  unfolding forgotten
  first_so = λ i. record base { calls = begins.at_rest.rest.calls i }

  begins_so : called_if (ask.Permit allow) n a base ≡ with_one (request_of c) first
  unfolding forgotten
  begins_so =
      ap (λ (b : Bool). cond b (called (ask.Permit allow) n a base) base)
      (lt-ltb base.last_call (2 ^ 32 - 1) (few_calls base.last_call begins.room.calls))
      ∙ ap (called (ask.Permit allow) n a) first_so
      ∙ called_so base (ask.Permit allow) n a refl

  abbrev o1 : Order
  o1 = next_order l.order

  abbrev o2 : Order
  o2 = next_order o1

  abbrev pub o3 : Order
  o3 = next_order o2

  -- ---- and from there

  module _ (noting : SystemView) (turned : taken permit_message asked ≡ record noting { answers = [] })
      (quiet_so : is_settled_by 999997 o3 noting ≡ true) where
    abbrev pub over : SystemView
    over = settled 999997 o3 noting

    moves_so : settled most_moves l.order (called_if (ask.Permit allow) n a base) ≡ over
    moves_so =
        ap (λ (t : SystemView). moved most_moves l.order (record t { answers = [] })) begins_so
        ∙ one_moves (request_of c) first 999999 l.order
        ∙ ap (moved 999999 o1) (asking.asks_so l n a allow alive begins.own stays begins.synchronised nobody_locks)
        ∙ one_moves answer spoken 999998 o1
        ∙ ap (moved 999998 o2) (asking.goes_so l n a allow alive begins.own stays begins.synchronised nobody_locks)
        ∙ one_moves permit_message asked 999997 o2
        ∙ ap (moved 999997 o3) turned

    quiet : is_settled_by most_moves l.order (called_if (ask.Permit allow) n a base) ≡ true
    quiet =
        ap (λ (t : SystemView). is_quiet_behind most_moves l.order (record t { answers = [] })) begins_so
        ∙ one_is_quiet (request_of c) first 999999 l.order
        ∙ ap (is_quiet_behind 999999 o1) (asking.asks_so l n a allow alive begins.own stays begins.synchronised nobody_locks)
        ∙ one_is_quiet answer spoken 999998 o1
        ∙ ap (is_quiet_behind 999998 o2) (asking.goes_so l n a allow alive begins.own stays begins.synchronised nobody_locks)
        ∙ one_is_quiet permit_message asked 999997 o2
        ∙ ap (is_quiet_behind 999997 o3) turned
        ∙ quiet_so

    pub is_quiet : IsQuiet over
    is_quiet = (settled_stays_so over over ((settles 999997 o3 noting).1 quiet_so) (here over)).0

    -- ---- live nodes are at rest again

    base_reached : IsReached base
    unfolding forgotten
    base_reached =
        later (held l) base begins.at_rest.reached (takes_up (held l) l.history.now (net_in l).told false (refl, refl) (λ m. inl refl))

    called_reached : (b : Bool) → IsReached (cond b (called (ask.Permit allow) n a base) base)
    called_reached true = later base (called (ask.Permit allow) n a base) base_reached (acts base _ (calls base (ask.Permit allow) n a))
    called_reached false = base_reached

    reached : IsReached (rested over)
    reached =
        let start : SystemView = called_if (ask.Permit allow) n a base in
        later over (rested over)
        (subst IsReached moves_so
        (commands_reached.settles_there most_moves l.order start (called_reached (nat_lt base.last_call (2 ^ 32 - 1)))))
        (rests over)

    inside : node_count l.cluster < length base.nodes.cells
    unfolding forgotten
    inside = begins.together.now.cells

    module _ (keeps : Keeps lives told base over) (calls_so : over.calls ≡ done told ∷ []) where
      is_over : IsOver l (rested over)
      unfolding rested forgotten
      is_over = record {
        inside = subst (λ (count : ℕ). node_count l.cluster < count) (sym keeps.count) inside;
        idle = record {
          calls = ap open_of calls_so;
          listed = keeps.listed;
          dists = keeps.dists;
          ends = λ m awake.
              sym (ap (λ (soon : Bool). is_ending (node_at over m) && (soon || not (node_at over m).is_stopped)) keeps.soon)
              ∙ keeps.ends m awake;
        };
        reached = reached;
        is_quiet = is_quiet;
        cluster = keeps.cluster;
        files = keeps.files;
        nobody = λ m none. still_alive lives told base over m keeps ∙ nobody_there l begins.at_rest.reached m none;
      }

      pub number_so : told.number ≡ (net_in l).last_call + 1
      unfolding forgotten
      number_so = refl

      pub it_comes : (then : StateView) (notes : List Notice) (lines : List Line)
          → next s (event.Permit n a allow) sim.pick ≡ outcome then notes → then.cluster ≡ s.cluster → then.time ≡ s.time
          → then.modes ≡ s.modes → then.incarnations ≡ s.incarnations
          → happened (net_in l) (rested over) ≡ well lines
          → answer_text l.cluster (reply.Done notes) ≡ reply_text l (live_reply.Step (live.Done (well lines)))
          → Comes sim l (event.Permit n a allow) notes lines
      unfolding acted acted_at_once is_acted is_quiet_at_once forgotten rested
      it_comes then notes lines comes cluster time modes begun happens same_text = record {
        fine = permit_fine;
        live_fine = not_refused sim l (event.Permit n a allow) begins.together refl permit_fine;
        then = then;
        comes = comes;
        cluster = cluster;
        time = time;
        modes = modes;
        begun = begun;
        last = rested over;
        runs = ap rested moves_so;
        ends = quiet;
        over = is_over;
        clock = keeps.clock;
        phases = λ k. keeps.phases k;
        lives = λ k. keeps.same_lives k;
        happens = happens;
        same_text = same_text;
      }
