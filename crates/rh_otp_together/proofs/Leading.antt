-- Each move leads one further, until nothing moves.
use Rattle.std.proofs.Common.{◌≡◌, ◌≤◌, ◌<◌, ◌+◌, ◌&&◌, ◌||◌, ◌==◌, ℕ, zero, suc, Bool, true, false, not, cond, List, [], ◌∷◌, map, length, slice_get, Some, None, refl, sym, ap, subst, ◌∙◌, arith}
use Rattle.std.proofs.lemmas.Bool.{eq-eqb, false≢true}
use Rattle.std.proofs.lemmas.Option.{none-some, same_Some}
use Rattle.rh_model.specs.declared.node.App.{App}
use Rattle.rh_model.specs.declared.node.Node.{Node}
use Rattle.rh_model.specs.declared.settings.Restart.{Restart}
use Rattle.rh_otp_model.specs.declared.output.Envelope.{Envelope}
use Rattle.rh_otp_dist.specs.declared.state.Stand.TheVariants as stand
use Rattle.rh_otp_dist.specs.State.{DistView}
use Rattle.rh_otp_node.specs.Live.{LiveView, is_ending}
use Rattle.rh_otp_system.specs.declared.calls.Call.{Call}
use Rattle.rh_otp_system.specs.declared.moves.Move.TheVariants as move
use Rattle.rh_otp_system.specs.declared.slow.Slow.{Slow}
use Rattle.rh_otp_system.specs.declared.slow.Slow.TheVariants as slow
use Rattle.rh_otp_system.specs.Delivering.{arrived}
use Rattle.rh_otp_system.specs.Moves.{Delivers, Reaches, here, behind_one, IsAmong, IsSettled, is_to_end, can_go_on_at, made}
use Rattle.rh_otp_system.specs.State.{SystemView, node_at}
use Rattle.rh_otp_system.specs.Working.{lock_of}
use Rattle.rh_otp_laws.specs.Messages.{ArrivesInOrder}
use Rattle.rh_otp_laws.proofs.Order.{keeps_order}
use Rattle.rh_otp_orders.specs.Confluence.{Moves, none, one_more}
use Rattle.rh_otp_orders.specs.Orders.{Arrives}
use Rattle.rh_otp_orders.proofs.Taking.{Taken, arrives_so}
use Rattle.rh_otp_crashes.proofs.Peace.{without, IsFree, no_lock_at, no_place}
use Rattle.rh_otp_starts.specs.Elsewhere.{asked_attempt}
use Rattle.rh_otp_joins.proofs.Lists.{more_if, count_of}
use Rattle.rh_otp_together.specs.Together.{BootTogether}
use Rattle.rh_otp_together.proofs.Forms.{How, unbegun, asks, requests, stands, starts, learns, reports, answered, over, Token, letter, controller_by, d0, stand_by, may_itself, dist_of}
use Rattle.rh_otp_together.proofs.Going.{begins}
use Rattle.rh_otp_together.proofs.Lives.{node_so}
use Rattle.rh_otp_together.proofs.Stages.{Stage}
use Rattle.rh_otp_together.proofs.Stuck.{no_tokens, none_waiting, none_left}
use Rattle.rh_otp_together.proofs.Taking.{taken_on}

-- ---- what doesn't move

-- no dist_ac waits for a lock
no_lock : (b : SystemView) (at : App → Node) (m : Node) (how : How) → lock_of (stand_by b at m how) ≡ None
no_lock b at m unbegun = refl
no_lock b at m (asks a r) = refl
no_lock b at m (requests a r) = refl
no_lock b at m (stands a r) = by (may_itself b at m a)
  where
    by : (c : Bool) → lock_of
        (cond c (stand.ForStart (asked_attempt (d0 b at m) a) (at a)) (stand.ForAnyStart (asked_attempt (d0 b at m) a))) ≡ None
    by true = refl
    by false = refl
no_lock b at m (starts a r) = refl
no_lock b at m (learns a r) = refl
no_lock b at m (reports a r) = refl
no_lock b at m answered = refl
no_lock b at m over = refl

-- no node ends
never_ends : (b : SystemView) (at : App → Node) (m : Node) (how : How) (done : List (App × Restart))
    → (controller_by b at m how done).is_ending ≡ false
never_ends b at m unbegun done = refl
never_ends b at m (asks a r) done = refl
never_ends b at m (requests a r) done = refl
never_ends b at m (stands a r) done = refl
never_ends b at m (starts a r) done = refl
never_ends b at m (learns a r) done = refl
never_ends b at m (reports a r) done = refl
never_ends b at m answered done = refl
never_ends b at m over done = refl

among_alive : (nodes : List Node) (place : ℕ) (m : Node) → slice_get nodes place ≡ Some m → 1 ≤ count_of m nodes
among_alive [] place m is = absurd (none-some m is)
among_alive (x ∷ nodes) zero m is =
    subst (λ (c : Bool). 1 ≤ more_if c (count_of m nodes)) (sym (eq-eqb x.0 m.0 (ap (λ (y : Node). y.0) (same_Some x m is)))) (omega arith)
among_alive (x ∷ nodes) (suc place) m is = more (x.0 == m.0) (count_of m nodes) (among_alive nodes place m is)
  where
    more : (c : Bool) (j : ℕ) → 1 ≤ j → 1 ≤ more_if c j
    more true j some = omega (arith, some)
    more false j some = some

-- what one move comes to
pub record Further (b : SystemView) (at : App → Node) (left : ℕ) (v : SystemView) : Type 0 where
  pub rest : ℕ
  pub is : left ≡ suc rest
  pub stage : Stage b at rest v

module _ {b : SystemView} (g : BootTogether b) where
  alive_there : {left : ℕ} {u : SystemView} (f : Stage b g.at left u) (n : Node) → IsAmong n u.alive → 1 ≤ count_of n b.alive
  alive_there f n among =
      among_alive b.alive among.0 n (sym (ap (λ (x : SystemView). slice_get x.alive among.0) f.same) ∙ among.1)

  no_lock_there : {left : ℕ} {u : SystemView} (f : Stage b g.at left u) (n : Node) → IsAmong n u.alive → can_go_on_at n u ≡ false
  no_lock_there {left} {u} f n among = no_lock_at n u (node_at u n).dist
      (λ d has. free d (sym (ap (λ (v : LiveView). v.dist) (node_so g f n (alive_there f n among))) ∙ has))
    where
      free : (d : DistView) → Some (dist_of b g.at n (f.far n)) ≡ Some d → IsFree d
      free d is = subst IsFree (same_Some (dist_of b g.at n (f.far n)) d is)
          (record { lock = no_lock b g.at n (f.far n).how; parked = refl })

  no_end_there : {left : ℕ} {u : SystemView} (f : Stage b g.at left u) (n : Node) → IsAmong n u.alive → is_to_end n u ≡ false
  no_end_there {left} {u} f n among =
      ap (λ (c : Bool). c && (u.ends_soon || not (node_at u n).is_stopped))
      (ap is_ending (node_so g f n (alive_there f n among)) ∙ never_ends b g.at n (f.far n).how (f.far n).done)

  pub slow_so : {left : ℕ} {u : SystemView} (f : Stage b g.at left u) → u.slow ≡ map slow.Boot f.waiting
  slow_so f = ap (λ (x : SystemView). x.slow) f.same

  pub messages_so : {left : ℕ} {u : SystemView} (f : Stage b g.at left u) → u.messages ≡ map (letter b g.at) f.tokens
  messages_so f = ap (λ (x : SystemView). x.messages) f.same

  pub moves_on : (left : ℕ) (u v : SystemView) → Stage b g.at left u → Delivers u v → Further b g.at left v
  unfolding made
  moves_on zero u v f (move.Deliver place, possible, is) =
      absurd (no_place u.messages place (messages_so f ∙ ap (map (letter b g.at)) (no_tokens f)) possible)
  moves_on zero u v f (move.Slow place, possible, is) =
      absurd (no_place u.slow place (slow_so f ∙ ap (map slow.Boot) (none_waiting f)) possible.1)
  moves_on (suc left) u v f (move.Deliver place, possible, is) =
      let come : ArrivesInOrder place u (made (move.Deliver place) u) = keeps_order u place possible in
      let arrives : Arrives come.message u v = (place, come.is_there, is) in
      let so : (rest : List Envelope) × Taken come.message u.messages rest
      × (v ≡ arrived come.message.to come.message.message (without u rest)) =
      arrives_so u v come.message arrives in
      record { rest = left; is = refl; stage = subst (Stage b g.at left) (sym so.2) (taken_on g f so.0 come.message so.1) }
  moves_on (suc left) u v f (move.Slow place, possible, is) =
      record {
        rest = left;
        is = refl;
        stage = subst (Stage b g.at left) (sym is) (begins g f place (subst (λ (l : List Slow). place < length l) (slow_so f) possible.1));
      }
  moves_on left u v f (move.Lock n, possible, is) = absurd (false≢true (sym (no_lock_there f n possible.1) ∙ possible.2))
  moves_on left u v f (move.Call place, possible, is) =
      absurd (none-some possible.1.0 (sym (ap (λ (l : List Call). slice_get l place) (ap (λ (x : SystemView). x.calls) f.same ∙ g.calls))
      ∙ possible.1.1))
  moves_on left u v f (move.End n, possible, is) = absurd (false≢true (sym (no_end_there f n possible.1) ∙ possible.2))

  -- ---- however many moves

  pub record Behind (left n : ℕ) (v : SystemView) : Type 0 where
    pub rest : ℕ
    pub is : left ≡ n + rest
    pub stage : Stage b g.at rest v

  pub by_moves : (n left : ℕ) (u v : SystemView) → Moves n u v → Stage b g.at left u → Behind left n v
  by_moves _ left u _ (none _) f = record { rest = left; is = omega arith; stage = f }
  by_moves _ left u _ (one_more n _ t v one more) f =
      let first : Further b g.at left t = moves_on left u t f one in
      let later : Behind first.rest n v = by_moves n first.rest t v more first.stage in
      let one_less : left ≡ suc first.rest = first.is in
      let many : first.rest ≡ n + later.rest = later.is in
      record { rest = later.rest; is = omega (arith, one_less, many); stage = later.stage }

  pub by_reach : (left : ℕ) (u v : SystemView) → Reaches u v → Stage b g.at left u → (rest : ℕ) × Stage b g.at rest v
  by_reach left u _ (here _) f = (left, f)
  by_reach left u _ (behind_one _ t v one more) f =
      let first : Further b g.at left t = moves_on left u t f one in
      by_reach first.rest t v more first.stage

  -- where nothing moves nothing is left
  pub rests : (left : ℕ) (u : SystemView) → Stage b g.at left u → IsSettled u → left ≡ 0
  rests left u f settled = none_left g f (tokens_none f.tokens refl) (waiting_none f.waiting refl)
    where
      tokens_none : (l : List Token) → f.tokens ≡ l → f.tokens ≡ []
      tokens_none [] is = is
      tokens_none (t ∷ l) is =
          absurd (settled (move.Deliver 0)
          (subst (λ (x : List Envelope). 0 < length x) (sym (messages_so f ∙ ap (map (letter b g.at)) is)) (omega arith)))

      silent : u.messages ≡ []
      silent = messages_so f ∙ ap (map (letter b g.at)) (tokens_none f.tokens refl)

      waiting_none : (l : List Node) → f.waiting ≡ l → f.waiting ≡ []
      waiting_none [] is = is
      waiting_none (m ∷ l) is =
          absurd (settled (move.Slow 0)
          (silent, subst (λ (x : List Slow). 0 < length x) (sym (slow_so f ∙ ap (map slow.Boot) is)) (omega arith)))
