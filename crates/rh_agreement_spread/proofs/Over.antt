-- A call whose controller answers at once, and tells dist_ac, comes to an end: it was answered, all nodes are as far as they were, and live
-- nodes are at rest again.
use Rattle.std.proofs.Common.{◌≡◌, ◌<◌, ◌≤◌, ◌+◌, ◌-◌, ◌^◌, ◌++◌, ◌&&◌, ◌||◌, ℕ, Bool, true, false, not, cond, nat_lt, List, [], ◌∷◌, length, Some, refl, sym, ap, subst, ◌∙◌, inl, inr, arith}
use Rattle.std.proofs.lemmas.List.Elements.{All-weaker}
use Rattle.std.proofs.lemmas.Bool.{lt-ltb, true≢false}
use Rattle.std.proofs.lemmas.List.{length-set}
use Rattle.rh_model.specs.ClusterView.{node_count}
use Rattle.rh_model.specs.declared.node.App.{App}
use Rattle.rh_model.specs.declared.node.Node.{Node}
use Rattle.rh_otp_model.specs.declared.output.Event.{Event as Seen}
use Rattle.rh_otp_model.specs.declared.output.Event.TheVariants as seen
use Rattle.rh_otp_dist.specs.State.{DistView}
use Rattle.rh_otp_model.specs.Own.{controls}
use Rattle.rh_otp_net.specs.declared.order.Order.{Order}
use Rattle.rh_otp_net.specs.Order.{next_order}
use Rattle.rh_otp_node.specs.declared.node.Phase.{Phase}
use Rattle.rh_otp_node.specs.Live.{LiveView, is_down, is_ending}
use Rattle.rh_otp_sim.specs.Acting.{most_moves, called_if}
use Rattle.rh_otp_sim.specs.Sim.{LiveSimView, net_in}
use Rattle.rh_otp_system.specs.declared.calls.Ask.{Ask}
use Rattle.rh_otp_system.specs.declared.calls.Call.{Call}
use Rattle.rh_otp_system.specs.declared.calls.Stage.TheVariants as stage
use Rattle.rh_otp_system.specs.declared.cell.Cell.TheVariants as cell
use Rattle.rh_otp_system.specs.Calls.{first_by, is_takeover}
use Rattle.rh_otp_system.specs.Doing.{called}
use Rattle.rh_otp_system.specs.Moves.{IsQuiet, here, is_to_end, moved, settled, is_quiet_behind, is_settled_by}
use Rattle.rh_otp_system.specs.Resting.{forgotten, rested, open_of}
use Rattle.rh_otp_system.specs.State.{SystemView, node_at, own_at, with_node, is_alive_at}
use Rattle.rh_otp_system.specs.Working.{behind}
use Rattle.rh_otp_system.proofs.Moving.{settles}
use Rattle.rh_otp_laws.specs.Acting.{IsReached, later, acts, calls, rests, takes_up}
use Rattle.rh_otp_laws.proofs.Commands.{commands_reached}
use Rattle.rh_otp_laws.proofs.Hanging.{settled_stays_so}
use Rattle.rh_otp_laws.proofs.Nodes.{same_of_all}
use Rattle.rh_otp_crashes.proofs.Carrying.{letters}
use Rattle.rh_otp_crashes.proofs.Peace.{at_ease, here_in, arrives_alive}
use Rattle.rh_otp_stops.specs.Stops.{CanEnd}
use Rattle.rh_otp_stops.proofs.Saying.{carries_words, sights}
use Rattle.rh_otp_stops.proofs.Stopping.{Stopping}
use Rattle.rh_otp_stops.proofs.Words.{IsNews}
use Rattle.rh_otp_locks.proofs.Locks.{none_of_calls}
use Rattle.rh_agreement.specs.Laws.{HasRoom}
use Rattle.rh_agreement.specs.Resting.{AreBothAtRest, held}
use Rattle.rh_agreement.proofs.Rest.{AreIdle, IsOver, idle_at_rest, nobody_there}
use Rattle.rh_agreement_calls.proofs.Moving.{CanAnswer, done, at_first, call_at, request_of, calling, with_one, taken, called_so, one_moves, one_is_quiet, ends_on, dists_so, alive_so}
use Rattle.rh_agreement_spread.proofs.Following.{IsSaid, Follows, cost, owed, is_news, follow_on, quiet_soon}
use Rattle.rh_agreement_spread.proofs.Speaking.{Speaks, lives_in}
use Rattle.rh_agreement_spread.proofs.Summing.{sum_of}
use Rattle.rh_trail.specs.SimView.{SimView}

few_calls : (last : ℕ) → last < 4000000000 → last < 2 ^ 32 - 1
few_calls last few = omega (arith, few)

-- no node has to end, whether the command waits for that or not
neither_ends : (p q x : Bool) → (p && (q || x)) ≡ false → (p && x) ≡ false
neither_ends true true x is = absurd (true≢false is)
neither_ends true false x is = is
neither_ends false q x is = refl

none_owed : (k : ℕ) → k ≡ 0 → k ≡ 1 → ⊥
none_owed k none one = omega (arith, none, one)

module _ (sim : SimView) (l : LiveSimView) (asked : Ask) (soon : Bool) (n : Node) (a : App) (apart : is_takeover asked ≡ false)
    (room : HasRoom sim l) (at_rest : AreBothAtRest sim l) (alive : is_alive_at (held l) n ≡ true)
    (none_ends : (m : Node) → is_alive_at (held l) m ≡ true → is_to_end m (record (held l) { ends_soon = soon }) ≡ false)
    (inside : node_count l.cluster < length (held l).nodes.cells) where
  -- ---- where it begins

  abbrev pub base : SystemView
  base = record (held l) { ends_soon = soon }

  abbrev pub c : Call
  c = call_at base asked n a

  idle : AreIdle (held l)
  idle = idle_at_rest l at_rest.reached at_rest.rest

  first_so : base ≡ at_first base
  unfolding forgotten
  first_so = λ i. record base { calls = at_rest.rest.calls i }

  begins_so : called_if asked n a base ≡ with_one (request_of c) (calling base c)
  unfolding forgotten
  begins_so =
      ap (λ (b : Bool). cond b (called asked n a base) base) (lt-ltb base.last_call (2 ^ 32 - 1) (few_calls base.last_call room.calls))
      ∙ ap (called asked n a) first_so
      ∙ called_so base asked n a apart

  -- ---- its controller's turn

  module _ (told : Bool) (controlled : controls (own_at base n) a ≡ told) (can : CanEnd n a (held l)) (seen_then : List Seen)
      (speaks : Speaks base c told (first_by asked c) seen_then) (most : ℕ) (bound : most + 3 < most_moves)
      (few : told ≡ true → (d : DistView) → (node_at base n).dist ≡ Some d → length d.known ≤ most) where
    abbrev new : LiveView
    new = record (node_at base n) { controller = speaks.next }

    -- it has answered, and told dist_ac
    abbrev spoken : SystemView
    spoken = record (with_node n new (calling base c)) { messages = letters speaks.out; events = sights speaks.out }

    can_answer : CanAnswer base n new
    can_answer = record {
      alive = alive;
      phase = refl;
      life = refl;
      dist = refl;
      stays = speaks.stays;
      listed = idle.listed;
      dists = idle.dists;
      ends = none_ends;
    }

    turned : taken (request_of c) (calling base c) ≡ spoken
    unfolding forgotten
    turned =
        arrives_alive (request_of c).to (request_of c).message (record (calling base c) { messages = [] }) alive refl
        ∙ ap (λ done. behind n done (record (calling base c) { messages = [] })) speaks.comes
        ∙ carries_words (here_in (lives_in base) n) c told speaks.out (with_node n new (record
        (calling base c) { messages = [] })) speaks.words

    alive_then : (m : Node) → is_alive_at spoken m ≡ is_alive_at base m
    alive_then m = alive_so base asked n a new [] can_answer m

    first_still : Stopping (lives_in base) c told spoken
    unfolding forgotten
    first_still = record {
      peace = record {
        messages = All-weaker (IsSaid (lives_in base) c told) (IsNews (lives_in base) c told) (λ e is. is_news e is) (letters speaks.out)
            speaks.said;
        slow = refl;
        calls = refl;
        calm = at_ease;
        dists = dists_so base asked n a new [] can_answer;
        ends = λ m up. ends_on base asked n a new [] can_answer soon m (none_ends m (sym (alive_then m) ∙ up));
        listed = λ m among. alive_then m ∙ idle.listed m among;
        same_lives = λ m. same_of_all (λ (v : LiveView). v.life) (calling base c) n m new refl;
      };
      stage = stage.Controller;
      calls = refl;
      waits = λ call q. refl;
      life = refl;
      locks = none_of_calls (held l) at_rest.reached at_rest.rest;
      knows = λ is d has.
          let had : (node_at base n).dist ≡ Some d = sym (dist_then n) ∙ has in
          record {
            takeovers = (can.tells (controlled ∙ is)).sees_all.takeovers d had;
            ends = (can.tells (controlled ∙ is)).ends d had;
            before = d;
            had = has;
            known = refl;
          };
      sees = λ is d has m among up.
          (can.tells (controlled ∙ is)).sees_all.sees d (sym (dist_then n) ∙ has) m among (sym (alive_then m) ∙ up);
    }
      where
        dist_then : (m : Node) → (node_at spoken m).dist ≡ (node_at base m).dist
        dist_then m = same_of_all (λ (v : LiveView). v.dist) (calling base c) n m new refl

    abbrev FollowsHere : SystemView → Type 0
    FollowsHere = Follows (lives_in base) c told most base seen_then alive

    first_follows : FollowsHere spoken
    first_follows = record {
      still = first_still;
      said = speaks.said;
      few = λ is d has. few is d (sym (same_of_all (λ (v : LiveView). v.dist) (calling base c) n n new refl) ∙ has);
      cluster = refl;
      files = refl;
      soon = refl;
      clock = refl;
      count = length-set base.nodes.cells n.0 (cell.Node new);
      phases = λ k. same_of_all (λ (v : LiveView). v.phase) (calling base c) n k new refl;
      awaits = inl (refl, speaks.sees, speaks.one);
    }

    -- ---- what comes of it

    abbrev next : Order
    next = next_order l.order

    abbrev pub over : SystemView
    over = settled 999999 next spoken

    pub moves_so : settled most_moves l.order (called_if asked n a base) ≡ over
    moves_so =
        ap (λ (t : SystemView). moved most_moves l.order (record t { answers = [] })) begins_so
        ∙ one_moves (request_of c) (calling base c) 999999 l.order
        ∙ ap (moved 999999 next) turned

    quiet_so : is_quiet_behind 999999 next spoken ≡ true
    quiet_so =
        quiet_soon (lives_in base) c told most base seen_then alive 999999 next spoken first_follows
        (let cheap : sum_of (cost most) (letters speaks.out) ≤ most + 2 = speaks.few most in omega (arith, cheap, bound))

    pub quiet : is_settled_by most_moves l.order (called_if asked n a base) ≡ true
    quiet =
        ap (λ (t : SystemView). is_quiet_behind most_moves l.order (record t { answers = [] })) begins_so
        ∙ one_is_quiet (request_of c) (calling base c) 999999 l.order
        ∙ ap (is_quiet_behind 999999 next) turned
        ∙ quiet_so

    follows : FollowsHere over
    follows = follow_on (lives_in base) c told most base seen_then alive spoken over (settles 999999 next spoken).0 first_follows

    is_quiet : IsQuiet over
    is_quiet = (settled_stays_so over over ((settles 999999 next spoken).1 quiet_so) (here over)).0

    none_left : sum_of owed over.messages ≡ 0
    none_left = ap (sum_of owed) is_quiet.0

    over_so : (over.calls ≡ done c ∷ []) × (over.events ≡ seen_then ++ seen.Answered c.number ∷ [])
    over_so = elim follows.awaits [
      | inl on ↦ absurd (none_owed (sum_of owed over.messages) none_left on.2)
      | inr is ↦ (is.0, is.1)
    ]

    -- ---- live nodes are at rest again

    base_reached : IsReached base
    unfolding forgotten
    base_reached =
        later (held l) base at_rest.reached (takes_up (held l) l.history.now (net_in l).told soon (refl, refl) (λ m. inl refl))

    called_reached : (b : Bool) → IsReached (cond b (called asked n a base) base)
    called_reached true = later base (called asked n a base) base_reached (acts base _ (calls base asked n a))
    called_reached false = base_reached

    reached : IsReached (rested over)
    reached =
        let start : SystemView = called_if asked n a base in
        later over (rested over)
        (subst IsReached moves_so
        (commands_reached.settles_there most_moves l.order start (called_reached (nat_lt base.last_call (2 ^ 32 - 1)))))
        (rests over)

    alive_over : (m : Node) → is_alive_at over m ≡ is_alive_at base m
    alive_over m = ap (λ (p : Phase). cond (is_down p) false true) (follows.phases m)

    pub is_over : IsOver l (rested over)
    unfolding rested forgotten
    is_over = record {
      inside = subst (λ (count : ℕ). node_count l.cluster < count) (sym follows.count) inside;
      idle = record {
        calls = ap open_of over_so.0;
        listed = follows.still.peace.listed;
        dists = follows.still.peace.dists;
        ends = λ m up. neither_ends (is_ending (node_at over m)) over.ends_soon (not (node_at over m).is_stopped)
            (follows.still.peace.ends m up);
      };
      reached = reached;
      is_quiet = is_quiet;
      cluster = follows.cluster;
      files = follows.files;
      nobody = λ m there. alive_over m ∙ nobody_there l at_rest.reached m there;
    }

    pub clock_so : (rested over).clock ≡ (net_in l).clock
    unfolding rested forgotten
    clock_so = follows.clock

    pub phases_so : (k : Node) → (node_at (rested over) k).phase ≡ (node_at (held l) k).phase
    unfolding rested
    phases_so k = follows.phases k

    pub lives_so : (k : Node) → (node_at (rested over) k).life ≡ (node_at (held l) k).life
    unfolding rested
    lives_so k = follows.still.peace.same_lives k

    pub calls_so : (rested over).calls ≡ done c ∷ []
    unfolding rested
    calls_so = over_so.0

    pub events_so : (rested over).events ≡ seen_then ++ seen.Answered c.number ∷ []
    unfolding rested
    events_so = over_so.1
