-- A dist_ac takes a message out of its mailbox, and goes on with what is left in it.
use Rattle.std.proofs.Common.{◌≡◌, ◌<◌, ◌+◌, ◌++◌, ◌&&◌, ℕ, suc, Bool, true, false, not, cond, nat_lt, is_some, List, [], ◌∷◌, map, length, slice_get, position, Option, Some, None, refl, ap, ◌∙◌, arith}
use Rattle.std.specs.List.{remove, position_or_len}
use Rattle.std.specs.Prelude.{All}
use Rattle.std.proofs.Math.Bool.{and-false}
use Rattle.std.proofs.lemmas.Bool.{lt-ltb}
use Rattle.std.proofs.lemmas.List.Elements.{All-head, All-tail}
use Rattle.rh_model.specs.ClusterView.{ClusterView}
use Rattle.rh_model.specs.declared.node.App.{App}
use Rattle.rh_model.specs.declared.node.Node.{Node}
use Rattle.rh_otp_model.specs.declared.message.Message.{Message}
use Rattle.rh_otp_model.specs.declared.message.Message.TheVariants as message
use Rattle.rh_otp_model.specs.Own.{OwnView, controls}
use Rattle.rh_otp_dist.specs.declared.outside.Need.{Need}
use Rattle.rh_otp_dist.specs.declared.outside.Need.TheVariants as need
use Rattle.rh_otp_dist.specs.declared.state.Appl.{Appl}
use Rattle.rh_otp_dist.specs.declared.state.Stand.{Stand}
use Rattle.rh_otp_dist.specs.declared.state.Stand.TheVariants as stand
use Rattle.rh_otp_dist.specs.Attempts.{has_app}
use Rattle.rh_otp_dist.specs.Outside as outside
use Rattle.rh_otp_dist.specs.Received as mail
use Rattle.rh_otp_dist.specs.Received.{handle_next, resumed_if, taken_out}
use Rattle.rh_otp_dist.specs.State.{DistView, TurnView}
use Rattle.rh_otp_dist.specs.Told.{app_started, started_elsewhere, add_remote}
use Rattle.rh_otp_dist.specs.Waiting.{takes}
use Rattle.rh_otp_node.specs.Live.{LiveView}
use Rattle.rh_otp_node.specs.Remote as remotely
use Rattle.rh_otp_node.specs.Turns.{handled_by, handled_if, behind_turn, weight_of}
use Rattle.rh_otp_system.specs.Outputs.{all_carried_out}
use Rattle.rh_otp_system.specs.State.{SystemView, live_at, node_at, with_node, own_at}
use Rattle.rh_otp_system.specs.Working as working
use Rattle.rh_otp_laws.proofs.Nodes.{node_written}
use Rattle.rh_otp_crashes.proofs.Turning.{weighing, written_twice}

-- a dist_ac with this in it, where all that was kept of starts is gone
abbrev pub dist_with : DistView → Stand → List Message → List (App × Node) → List App → List Node → List Appl → DistView
dist_with d w letters rows asked monitored appls = record d {
  stand = w;
  mail = letters;
  remote_started = rows;
  started = asked;
  tmp_locals = [];
  tmp_weights = [];
  t_reqs = [];
  monitored = monitored;
  parked = [];
  appls = appls;
}

-- its turn, with a message taken out
abbrev pub turn_from : ClusterView → OwnView → Node → ℕ → DistView → TurnView
turn_from c own n life d = record {
  cluster = c;
  own = own;
  here = record { node = n; life = life };
  weight = 0;
  has_lock = false;
  burns = false;
  state = d;
  out = [];
}

-- ---- one message

pub handles_at : (n : Node) (s : SystemView) (old v : LiveView) (e : DistView) (place : ℕ) (m : Message) (over : TurnView)
    → live_at s n ≡ Some old → mail.next_mail e ≡ Some place → slice_get e.mail place ≡ Some m
    → outside.need_at e.stand m e ≡ need.Nothing
    → ((w : ℕ) → mail.resumed e.stand m (taken_out place (weighing w (turn_from s.cluster (own_at s n) n v.life e))) ≡ weighing w over)
    → working.handled n (with_node n (record v { dist = Some e }) s)
    ≡ all_carried_out n over.out (with_node n (record v { dist = Some over.state }) s)
unfolding working.handled handled_by handle_next
handles_at n s old v e place m over there next found no_need closed =
    let w : LiveView = record v { dist = Some e } in
    let q : SystemView = with_node n w s in
    let own : OwnView = own_at s n in
    let here : node_at q n ≡ w = node_written s n old w there in
    let weight : ℕ = weight_of s.cluster n w in
    let t : TurnView = weighing weight (turn_from s.cluster own n v.life e) in
    ap (λ (x : LiveView). working.handled_for n (remotely.need_of x) (working.asked_for n (remotely.need_of x) q) q) here
    ∙ ap (λ (o : Option ℕ). working.handled_for n (remotely.need_if o e) (working.asked_for n (remotely.need_if o e) q) q) next
    ∙ ap (λ (o : Option Message). working.handled_for n (outside.need_if o e) (working.asked_for n (outside.need_if o e) q) q) found
    ∙ ap (λ (x : Need). working.handled_for n x (working.asked_for n x q) q) no_need
    ∙ ap (λ (x : LiveView). working.behind n
    (handled_by s.cluster own n (record { weight = weight_of s.cluster n x; has_lock = false; burns = false }) x) q) here
    ∙ ap (λ (o : Option ℕ). working.behind n (behind_turn w (handled_if o t)) q) next
    ∙ ap (λ (o : Option Message). working.behind n (behind_turn w (resumed_if e.stand o (taken_out place t))) q) found
    ∙ ap (λ (u : TurnView). working.behind n (record w { dist = Some u.state }, u.out) q) (closed weight)
    ∙ ap (all_carried_out n over.out) (written_twice s n w (record v { dist = Some over.state }))

pub has_next_so : (n : Node) (s : SystemView) (old v : LiveView) (e : DistView) (place : ℕ) → live_at s n ≡ Some old
    → mail.next_mail e ≡ Some place → working.has_next_at (with_node n (record v { dist = Some e }) s) n ≡ true
has_next_so n s old v e place there next =
    ap remotely.has_next (node_written s n old (record v { dist = Some e }) there) ∙ ap is_some next

-- ---- the first that it takes

first_passes : {A : Type 0} (p : A → Bool) (x : A) (xs : List A) → p x ≡ true → position p (x ∷ xs) ≡ Some 0
first_passes {A} p x xs is =
    ap (λ (b : Bool). by (cond (not b) (1 + position_or_len p xs) 0)) is
    ∙ ap (λ (b : Bool). cond b (Some 0) None) (lt-ltb 0 (length (x ∷ xs)) (omega arith))
  where
    by : ℕ → Option ℕ
    by k = cond (nat_lt k (length (x ∷ xs))) (Some k) None

-- it is the last one, behind others that it doesn't take
pub record IsLastOf {A : Type 0} (p : A → Bool) (xs : List A) (x : A) : Type 0 where
  pub found : position p (xs ++ x ∷ []) ≡ Some (length xs)
  pub there : slice_get (xs ++ x ∷ []) (length xs) ≡ Some x
  pub left : remove (xs ++ x ∷ []) (length xs) ≡ xs

pub last_of_all : {A : Type 0} (p : A → Bool) (xs : List A) (x : A) → All (λ (y : A). p y ≡ false) xs → p x ≡ true → IsLastOf p xs x
last_of_all {A} p xs x none is = record {
  found =
      ap (λ (k : ℕ). cond (nat_lt k (length (xs ++ x ∷ []))) (Some k) None) (at xs none)
      ∙ ap (λ (b : Bool). cond b (Some (length xs)) None) (lt-ltb (length xs) (length (xs ++ x ∷ [])) (longer xs));
  there = there xs;
  left = left xs;
}
  where
    at : (ys : List A) → All (λ (y : A). p y ≡ false) ys → position_or_len p (ys ++ x ∷ []) ≡ length ys
    at [] all = ap (λ (b : Bool). cond (not b) (1 + 0) 0) is
    at (y ∷ ys) all =
        let rest : position_or_len p (ys ++ x ∷ []) ≡ length ys = at ys (All-tail (λ (z : A). p z ≡ false) y ys all) in
        ap (λ (b : Bool). cond (not b) (1 + position_or_len p (ys ++ x ∷ [])) 0) (All-head (λ (z : A). p z ≡ false) y ys all)
        ∙ (let more : 1 + position_or_len p (ys ++ x ∷ []) ≡ suc (length ys) = omega (arith, rest) in more)

    longer : (ys : List A) → length ys < length (ys ++ x ∷ [])
    longer [] = omega arith
    longer (y ∷ ys) = let rest : length ys < length (ys ++ x ∷ []) = longer ys in omega (arith, rest)

    there : (ys : List A) → slice_get (ys ++ x ∷ []) (length ys) ≡ Some x
    there [] = refl
    there (y ∷ ys) = there ys

    left : (ys : List A) → remove (ys ++ x ∷ []) (length ys) ≡ ys
    left [] = refl
    left (y ∷ ys) = ap (λ (l : List A). y ∷ l) (left ys)

-- ---- the news

-- another node tells that it has started the application
abbrev pub note : (App → Node) → App → Message
note at a = message.AppStarted (at a) a None

-- what was told of each of these is kept, what came last in front
abbrev pub noted : (App → Node) → List App → List (App × Node) → List (App × Node)
noted at [] rows = rows
noted at (a ∷ apps) rows = noted at apps ((a, at a) ∷ rows)

-- it notes the news of one that it wasn't asked for yet
pub notes : (at : App → Node) (a : App) (t : TurnView) → has_app a t.state.started ≡ false
    → app_started (at a) a None t ≡ add_remote a (at a) t
unfolding app_started
notes at a t not_yet =
    ap (λ (b : Bool). cond (controls t.own a && b) (started_elsewhere (at a) a None t) (add_remote a (at a) t)) not_yet
    ∙ ap (λ (b : Bool). cond b (started_elsewhere (at a) a None t) (add_remote a (at a) t)) (and-false (controls t.own a))

module _ (at : App → Node) (n : Node) (s : SystemView) (old v : LiveView) (there : live_at s n ≡ Some old) (d : DistView) (asked : List App)
    (appls : List Appl) where
  abbrev form : List App → List (App × Node) → DistView
  form apps rows = dist_with d stand.Idle (map (note at) apps) rows asked [] appls

  -- it takes all that is left in its mailbox
  pub absorbs : (apps : List App) (rows : List (App × Node)) → All (λ (a : App). has_app a asked ≡ false) apps
      → working.work_for (length apps) n (with_node n (record v { dist = Some (form apps rows) }) s)
      ≡ with_node n (record v { dist = Some (form [] (noted at apps rows)) }) s
  absorbs [] rows new = refl
  absorbs (a ∷ apps) rows new =
      let e : DistView = form (a ∷ apps) rows in
      let next : mail.next_mail e ≡ Some 0 = first_passes (takes stand.Idle) (note at a) (map (note at) apps) refl in
      let q : SystemView = with_node n (record v { dist = Some e }) s in
      ap (λ (b : Bool). cond b (working.work_for (length apps) n (working.handled n q)) q) (has_next_so n s old v e 0 there next)
      ∙ ap (working.work_for (length apps) n)
      (handles_at n s old v e 0 (note at a) (add_remote a (at a) (turn_from s.cluster (own_at s n) n v.life (form apps rows))) there next
      refl refl
      (λ w. notes at a (weighing w (turn_from s.cluster (own_at s n) n v.life (form apps rows)))
      (All-head (λ (b : App). has_app b asked ≡ false) a apps new)))
      ∙ absorbs apps ((a, at a) ∷ rows) (All-tail (λ (b : App). has_app b asked ≡ false) a apps new)
