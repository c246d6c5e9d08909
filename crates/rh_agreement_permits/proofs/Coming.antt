-- Live nodes where a call waits that can't go on by itself, and each message that arrives uses up some of what is on its way: they come to
-- rest, whichever arrives first.
use Rattle.std.proofs.Common.{◌≡◌, ◌<◌, ◌&&◌, ◌||◌, ℕ, zero, suc, Bool, true, false, not, cond, List, [], ◌∷◌, length, slice_get, Option, Some, None, refl, sym, ap, subst, ◌∙◌, inl, inr, arith}
use Rattle.std.specs.Option.{option_map}
use Rattle.std.specs.Prelude.{All}
use Rattle.std.proofs.lemmas.Bool.{false_from_ne_true}
use Rattle.std.proofs.lemmas.List.{length-set}
use Rattle.std.proofs.lemmas.List.Elements.{All-nil, All-cons}
use Rattle.rh_model.specs.declared.node.Node.{Node}
use Rattle.rh_otp_model.specs.declared.fault.Outcome.{Outcome}
use Rattle.rh_otp_model.specs.declared.output.Envelope.{Envelope}
use Rattle.rh_otp_model.specs.declared.output.Event.{Event}
use Rattle.rh_otp_dist.specs.State.{DistView}
use Rattle.rh_otp_net.specs.declared.locks.Held.{Held}
use Rattle.rh_otp_net.specs.declared.order.Order.{Order}
use Rattle.rh_otp_net.specs.Order.{place_in, next_order}
use Rattle.rh_otp_node.specs.declared.node.Phase.{Phase}
use Rattle.rh_otp_node.specs.Live.{LiveView, is_alive, is_down, is_ending}
use Rattle.rh_otp_system.specs.declared.calls.Call.{Call}
use Rattle.rh_otp_system.specs.declared.calls.Stage.{Stage}
use Rattle.rh_otp_system.specs.declared.calls.Stage.TheVariants as stage
use Rattle.rh_otp_system.specs.declared.cell.Cell.TheVariants as cell
use Rattle.rh_otp_system.specs.declared.moves.Move.{Move}
use Rattle.rh_otp_system.specs.declared.moves.Move.TheVariants as move
use Rattle.rh_otp_system.specs.declared.slow.Slow.{Slow}
use Rattle.rh_otp_system.specs.Delivering.{arrived}
use Rattle.rh_otp_system.specs.Moves.{Delivers, Reaches, IsAmong, IsQuiet, here, behind_one, can_go_on_at, is_to_end, first_call_from, call_or_end, lock_or_more, slow_or_more, message_or_more, quiet_move, made, is_quiet_by, is_quiet_behind}
use Rattle.rh_otp_system.specs.State.{SystemView, node_at, with_node, is_alive_at}
use Rattle.rh_otp_laws.proofs.Nodes.{as_it_was_or_written, same_of_all}
use Rattle.rh_otp_orders.proofs.Taking.{Taken}
use Rattle.rh_otp_crashes.specs.Crashes.{IsUnoccupied}
use Rattle.rh_otp_crashes.proofs.Peace.{AtPeace, AtEase, at_ease, without}
use Rattle.rh_otp_stops.proofs.Answering.{at_stage, CannotGoOn, cannot_call}
use Rattle.rh_otp_stops.proofs.Still.{Come, uncalled, only_come}
use Rattle.rh_agreement.proofs.Resting.{none_found}
use Rattle.rh_agreement.proofs.Bounded.{place_within}
use Rattle.rh_agreement_spread.proofs.Summing.{sum_of}

-- it has come, and something was used up
pub record ComesOn (F : SystemView → Type 0) (cost : Envelope → ℕ) (s t : SystemView) : Type 0 where
  pub then : F t
  pub less : sum_of cost t.messages < sum_of cost s.messages

all_any : (l : List Envelope) → All (λ (e : Envelope). Unit {0}) l
all_any [] = All-nil (λ (e : Envelope). Unit {0})
all_any (e ∷ l) = All-cons (λ (e : Envelope). Unit {0}) e l tt (all_any l)

module _ (lives : Node → ℕ) (c : Call) (base : SystemView) where
  -- nodes are as far as they were, and the one call can't go on by itself
  pub record Keeps (s : SystemView) : Type 0 where
    pub slow : s.slow ≡ []
    pub dists : (n : Node) (d : DistView) → is_alive_at s n ≡ true → (node_at s n).dist ≡ Some d → IsUnoccupied d
    pub ends : (n : Node) → is_alive_at s n ≡ true → is_to_end n s ≡ false
    pub listed : (n : Node) → IsAmong n s.alive → is_alive_at s n ≡ true
    pub same_lives : (n : Node) → (node_at s n).life ≡ lives n
    pub stage : Stage
    pub calls : s.calls ≡ at_stage c stage ∷ []
    pub waits : CannotGoOn stage
    pub cluster : s.cluster ≡ base.cluster
    pub files : s.files ≡ base.files
    pub links : s.links ≡ base.links
    pub soon : s.ends_soon ≡ base.ends_soon
    pub clock : s.clock ≡ base.clock
    pub count : length s.nodes.cells ≡ length base.nodes.cells
    pub phases : (k : Node) → (node_at s k).phase ≡ (node_at base k).phase

  pub still_alive : (s : SystemView) (k : Node) → Keeps s → is_alive_at s k ≡ is_alive_at base k
  still_alive s k f = ap (λ (p : Phase). cond (is_down p) false true) (f.phases k)

  pub keeps_with : (s : SystemView) (messages : List Envelope) → Keeps s → Keeps (without s messages)
  keeps_with s messages f = record {
    slow = f.slow;
    dists = f.dists;
    ends = f.ends;
    listed = f.listed;
    same_lives = f.same_lives;
    stage = f.stage;
    calls = f.calls;
    waits = f.waits;
    cluster = f.cluster;
    files = f.files;
    links = f.links;
    soon = f.soon;
    clock = f.clock;
    count = f.count;
    phases = f.phases;
  }

  -- the call is answered
  pub keeps_answered : (s : SystemView) (o : Outcome) (locks : List Held) (events : List Event) → Keeps s
      → Keeps (record s { calls = at_stage c (stage.Done o) ∷ []; locks = locks; events = events })
  keeps_answered s o locks events f = record {
    slow = f.slow;
    dists = f.dists;
    ends = f.ends;
    listed = f.listed;
    same_lives = f.same_lives;
    stage = stage.Done o;
    calls = refl;
    waits = λ call q. refl;
    cluster = f.cluster;
    files = f.files;
    links = f.links;
    soon = f.soon;
    clock = f.clock;
    count = f.count;
    phases = f.phases;
  }

  -- a node is written as one that is as far as it was
  pub record Writes (m : Node) (new : LiveView) (s : SystemView) : Type 0 where
    pub phase : new.phase ≡ (node_at s m).phase
    pub life : new.life ≡ (node_at s m).life
    pub ending : is_ending new ≡ is_ending (node_at s m)
    pub stopped : new.is_stopped ≡ (node_at s m).is_stopped
    pub rest : (d : DistView) → new.dist ≡ Some d → IsUnoccupied d

  pub keeps_on : (s : SystemView) (m : Node) (new : LiveView) (messages : List Envelope) (events : List Event) → Keeps s → Writes m new s
      → Keeps (record (with_node m new s) { messages = messages; events = events })
  keeps_on s m new messages events f w = record {
    slow = f.slow;
    dists = λ k d up has. elim (as_it_was_or_written s m k new) [
      | inl was ↦ f.dists k d (sym (awake k) ∙ up) (sym (ap (λ (v : LiveView). v.dist) was) ∙ has)
      | inr is ↦ w.rest d (sym (ap (λ (v : LiveView). v.dist) is.1) ∙ has)
    ];
    ends = λ k up.
        same_of_all (λ (v : LiveView). is_ending v && (s.ends_soon || not v.is_stopped)) s m k new
        (λ i. w.ending i && (s.ends_soon || not (w.stopped i)))
        ∙ f.ends k (sym (awake k) ∙ up);
    listed = λ k among. awake k ∙ f.listed k among;
    same_lives = λ k. same_of_all (λ (v : LiveView). v.life) s m k new w.life ∙ f.same_lives k;
    stage = f.stage;
    calls = f.calls;
    waits = f.waits;
    cluster = f.cluster;
    files = f.files;
    links = f.links;
    soon = f.soon;
    clock = f.clock;
    count = length-set s.nodes.cells m.0 (cell.Node new) ∙ f.count;
    phases = λ k. same_of_all (λ (v : LiveView). v.phase) s m k new w.phase ∙ f.phases k;
  }
    where
      awake : (k : Node) → is_alive_at (with_node m new s) k ≡ is_alive_at s k
      awake k = same_of_all is_alive s m k new (ap (λ (p : Phase). cond (is_down p) false true) w.phase)

  -- ---- where each message that arrives keeps it so

  module _ (F : SystemView → Type 0) (cost : Envelope → ℕ) (keeps : (s : SystemView) → F s → Keeps s)
      (step : (s : SystemView) (e : Envelope) (left : List Envelope) → F s → Taken e s.messages left
      → ComesOn F cost s (arrived e.to e.message (without s left))) where
    peace : (s : SystemView) → Keeps s → AtPeace AtEase (λ (e : Envelope). Unit {0}) lives (uncalled s)
    peace s f = record {
      messages = all_any s.messages;
      slow = f.slow;
      calls = refl;
      calm = at_ease;
      dists = f.dists;
      ends = f.ends;
      listed = f.listed;
      same_lives = f.same_lives;
    }

    come_of : (s t : SystemView) → Keeps s → Delivers s t → Come s t
    come_of s t f one = only_come s t (peace s f) (cannot_call c f.stage s f.waits f.calls) one

    come : (s t : SystemView) → F s → Delivers s t → ComesOn F cost s t
    come s t f one =
        let x : Come s t = come_of s t (keeps s f) one in
        subst (ComesOn F cost s) (sym x.is) (step s x.message x.left f x.taken)

    pub follow_on : (s t : SystemView) → Reaches s t → F s → F t
    follow_on _ _ (here s) f = f
    follow_on _ _ (behind_one s t u one rest) f = follow_on t u rest (come s t f one).then

    -- where no message is on its way nothing can move
    none_can : (s t : SystemView) → Keeps s → s.messages ≡ [] → Delivers s t → ⊥
    none_can s t f none one =
        let x : Come s t = come_of s t f one in
        subst (λ (l : List Envelope). Taken x.message l x.left) none x.taken

    nothing_next : (s : SystemView) → Keeps s → s.messages ≡ [] → quiet_move s ≡ None
    nothing_next s f none =
        let quiet : IsQuiet s = (none, f.slow) in
        ap (λ (found : Option Node). lock_or_more found s)
        (none_found (λ n. can_go_on_at n s) s.alive
        (λ n among. false_from_ne_true (can_go_on_at n s) (λ can. none_can s _ f none (move.Lock n, (quiet, among, can), refl))))
        ∙ ap (λ (waiting : List Call). call_or_end (first_call_from 0 waiting s) s) f.calls
        ∙ ap (λ (b : Bool). call_or_end (cond b (Some 0) None) s)
        (cannot_call c f.stage s f.waits f.calls 0 (at_stage c f.stage) (ap (λ (waiting : List Call). slice_get waiting 0) f.calls))
        ∙ ap (option_map move.End)
        (none_found (λ n. is_to_end n s) s.alive
        (λ n among. false_from_ne_true (is_to_end n s) (λ can. none_can s _ f none (move.End n, (quiet, among, can), refl))))

    pub quiet_soon : (k : ℕ) (order : Order) (s : SystemView) → F s → sum_of cost s.messages < k → is_quiet_behind k order s ≡ true
    quiet_soon zero order s f within = absurd (omega (arith, within))
    quiet_soon (suc k) order s f within = by s.messages refl (λ t. quiet_soon k (next_order order) t)
      where
        go_on : SystemView → Bool
        go_on = is_quiet_behind k (next_order order)

        by : (messages : List Envelope) → s.messages ≡ messages
            → ((t : SystemView) → F t → sum_of cost t.messages < k → go_on t ≡ true)
            → is_quiet_by go_on (message_or_more order messages s) s ≡ true
        by [] none rest =
            ap (λ (slow : List Slow). is_quiet_by go_on (slow_or_more order slow s) s) (keeps s f).slow
            ∙ ap (λ (next : Option Move). is_quiet_by go_on next s) (nothing_next s (keeps s f) none)
        by (e ∷ messages) is rest =
            let place : ℕ = place_in order (length (e ∷ messages)) in
            let there : place < length s.messages =
            subst (λ (l : List Envelope). place < length l) (sym is) (place_within order (length (e ∷ messages)) (omega arith)) in
            let t : SystemView = made (move.Deliver place) s in
            let x : ComesOn F cost s t = come s t f (move.Deliver place, there, refl) in
            let less : sum_of cost t.messages < sum_of cost s.messages = x.less in
            rest t x.then (omega (arith, less, within))
