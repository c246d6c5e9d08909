-- The dist_ac's turn at a permission: the others of the list are told, and either the caller is answered at once, or a message for the
-- node's own controller is on its way.
use Rattle.std.proofs.Common.{◌≡◌, ◌≢◌, ◌++◌, ◌==◌, ◌||◌, ℕ, Bool, true, false, not, cond, List, [], ◌∷◌, Some, refl, sym, ap, subst, ◌∙◌, inl}
use Rattle.std.specs.Prelude.{All}
use Rattle.std.proofs.lemmas.Bool.{false≢true}
use Rattle.std.proofs.lemmas.List.Elements.{All-nil, All-cons, All-append, All-weaker}
use Rattle.rh_model.specs.declared.node.App.{App}
use Rattle.rh_model.specs.declared.node.Node.{Node}
use Rattle.rh_otp_model.specs.declared.fault.Outcome.TheVariants.{Done}
use Rattle.rh_otp_model.specs.declared.message.Message.{Message}
use Rattle.rh_otp_model.specs.declared.message.Message.TheVariants as message
use Rattle.rh_otp_model.specs.declared.output.Envelope.{Envelope}
use Rattle.rh_otp_model.specs.declared.output.Output.TheVariants as output
use Rattle.rh_otp_model.specs.declared.process.Process.{Process}
use Rattle.rh_otp_model.specs.declared.wait.OwnFile.{OwnFile}
use Rattle.rh_otp_model.specs.Own.{controls}
use Rattle.rh_otp_controller.specs.State.{ControllerView}
use Rattle.rh_otp_dist.specs.declared.state.Stand.TheVariants as stand
use Rattle.rh_otp_dist.specs.declared.state.Standing.TheVariants as standing
use Rattle.rh_otp_dist.specs.Choosing.{backwards}
use Rattle.rh_otp_dist.specs.State.{DistView, TurnView, standing_of, is_among}
use Rattle.rh_otp_dist.specs.Told.{is_local}
use Rattle.rh_otp_dist.specs.Waiting.{takes as takes_it}
use Rattle.rh_otp_net.specs.declared.links.Link.{Link}
use Rattle.rh_otp_net.specs.declared.locks.Held.{Held}
use Rattle.rh_otp_net.specs.Links.{are_linked}
use Rattle.rh_otp_net.specs.Queue.{is_of_pair}
use Rattle.rh_otp_node.specs.Live.{LiveView, is_alive}
use Rattle.rh_otp_system.specs.declared.calls.Call.{Call}
use Rattle.rh_otp_system.specs.Calls.{process_of}
use Rattle.rh_otp_system.specs.Delivering.{arrived}
use Rattle.rh_otp_system.specs.Outputs.{all_carried_out, carried_out}
use Rattle.rh_otp_system.specs.State.{SystemView, node_at, with_node, is_alive_at}
use Rattle.rh_otp_laws.proofs.Nodes.{same_of_all}
use Rattle.rh_otp_orders.specs.Confluence.{IsOrderly}
use Rattle.rh_otp_orders.proofs.Taking.{Taken, of_different_pairs}
use Rattle.rh_otp_crashes.specs.Crashes.{IsUnoccupied}
use Rattle.rh_otp_crashes.proofs.Peace.{without}
use Rattle.rh_otp_crashes.proofs.Posting.{posts, mails, all_posted}
use Rattle.rh_otp_crashes.proofs.Turning.{own_in, turn, weighing}
use Rattle.rh_otp_permits.proofs.Asking.{IsQuiet, its_permit, permitted_over, permits_so}
use Rattle.rh_otp_moves.proofs.Still.{Course}
use Rattle.rh_otp_moves.proofs.Telling.{IsAbroad, TameIn, hears, notes}
use Rattle.rh_otp_moves.proofs.Abroad.{abroad_other}
use Rattle.rh_otp_moves.proofs.Late.{IsLate, answers, abroad, its_answer}
use Rattle.rh_otp_moves.proofs.Chain.{IsLink, chained, at_end, link_home, taken_last}
use Rattle.rh_otp_moves.proofs.Beginning.{one_more}
use Rattle.rh_otp_moves.proofs.Moving.{moving_orderly}
use Rattle.rh_otp_moves.proofs.Calling.{Asked}
use Rattle.rh_otp_moves.proofs.Taking.{Took, course_of, takes, listed_mailed}

-- what is so before the call: the node sees the list, and at a forbid nobody else starts the application
pub record Before (lives : Node → ℕ) (c : Call) (allow : Bool) (b : SystemView) : Type 0 where
  pub listed : controls (own_in b.files c.node) c.app ≡ true
  pub sees : (m : Node) → is_among m (backwards (own_in b.files c.node) c.app) ≡ true → is_alive_at b m ≡ true
      → (c.node.0 == m.0 || are_linked c.node m b.links) ≡ true
  pub tame : (m : Node) → m.0 ≢ c.node.0 → is_alive_at b m ≡ true
      → TameIn (course_of lives c allow false false b) (own_in b.files m) m (node_at b m).dist

-- ---- what the others are told

-- whether it runs at the node, as it is told
abbrev pub news_of : Call → Bool → Message
news_of c allow = message.NewPermission c.node c.app allow (not allow)

abbrev pub behind_it : Call → SystemView → DistView → SystemView
behind_it c s next = with_node c.node (record (node_at s c.node) { dist = Some next }) (without s [])

-- where this is how its dist_ac stands behind it
abbrev pub told_all : (Node → ℕ) → Call → Bool → SystemView → DistView → List Envelope
told_all lives c allow s next = mails lives (behind_it c s next) c.node (news_of c allow) (backwards (own_in s.files c.node) c.app)

pub tells_all : {lives : Node → ℕ} {c : Call} {allow only : Bool} {b : SystemView} (s : SystemView) (next : DistView)
    → Asked lives c allow only b s → Before lives c allow b
    → all_carried_out c.node (posts c.node (news_of c allow) (backwards (own_in s.files c.node) c.app)) (behind_it c s next)
    ≡ record (behind_it c s next) { messages = told_all lives c allow s next }
tells_all {lives} {c} {allow} {only} {b} s next f g =
    let n : Node = c.node in
    let new : LiveView = record (node_at s n) { dist = Some next } in
    all_posted {lives = lives} n (news_of c allow) (backwards (own_in s.files n) c.app) (behind_it c s next)
    (λ j. same_of_all (λ (v : LiveView). v.life) s n j new refl ∙ f.same_lives j)
    (λ m among up.
    ap (λ (linked : Bool). n.0 == m.0 || linked) (f.same_links n m)
    ∙ g.sees m (ap (λ (files : List OwnFile). is_among m (backwards (own_in files n) c.app)) (sym f.files) ∙ among)
    (sym (same_of_all is_alive s n m new refl ∙ f.awake m) ∙ up))

pub all_told : {lives : Node → ℕ} {c : Call} {allow only : Bool} {b : SystemView} (starts : Bool) (s : SystemView) (next : DistView)
    → Asked lives c allow only b s → All (IsAbroad (course_of lives c allow only starts b)) (told_all lives c allow s next)
all_told {lives} {c} {allow} {only} {b} starts s next f =
    let k : Course = course_of lives c allow only starts b in
    listed_mailed lives (IsAbroad k) (behind_it c s next) c.node (news_of c allow) (backwards (own_in s.files c.node) c.app)
    (λ m other among. hears m (news_of c allow) other
    (notes (ap (λ (files : List OwnFile). is_among m (backwards (own_in files c.node) c.app)) (sym f.files) ∙ among)))

-- ---- one message more

-- the caller is answered
pub answered_orderly : {lives : Node → ℕ} {c : Call} {allow only starts : Bool} {b : SystemView} (s t : SystemView) (over : DistView)
    (l : List Held)
    → Asked lives c allow only b s
    → Took (course_of lives c allow only starts b) s t over
    (told_all lives c allow s over ++ its_answer (course_of lives c allow only starts b) Done ∷ []) l
    → IsOrderly t
answered_orderly {lives} {c} {allow} {only} {starts} {b} s t over l f took =
    let k : Course = course_of lives c allow only starts b in
    let e : Envelope = its_answer k Done in
    moving_orderly k t (at_end (record {
      going = took.going;
      kinds = subst (All (IsLate k)) (sym took.messages)
          (All-append (IsLate k) (told_all lives c allow s over) (e ∷ [])
          (All-weaker (IsAbroad k) (IsLate k) abroad (told_all lives c allow s over) (all_told starts s over f))
          (All-cons (IsLate k) e [] (answers Done refl) (All-nil (IsLate k))));
    }))

-- who waits behind it, as the node sees all that its dist_ac knows
pub record Waits (lives : Node → ℕ) (c : Call) (allow : Bool) (b : SystemView) (over : DistView) : Type 0 where
  pub idle : over.stand ≡ stand.Idle
  pub takeovers : over.t_reqs ≡ cond allow ((c.app, process_of c) ∷ []) []
  pub ends : allow ≡ false → (over.s_reqs ≡ (c.app, process_of c) ∷ []) × (standing_of over c.app ≡ standing.Local)
  pub sees : (m : Node) → is_among m over.known ≡ true → is_alive_at b m ≡ true → (c.node.0 == m.0 || are_linked c.node m b.links) ≡ true

-- and the node's own processes go on
pub chained_orderly : {lives : Node → ℕ} {c : Call} {allow only starts : Bool} {b : SystemView} (s t : SystemView) (over : DistView)
    (l : List Held) (e : Envelope)
    → Asked lives c allow only b s → Before lives c allow b → Waits lives c allow b over
    → Took (course_of lives c allow only starts b) s t over (told_all lives c allow s over ++ e ∷ []) l
    → IsLink (course_of lives c allow only starts b) (node_at s c.node).controller e → IsOrderly t
chained_orderly {lives} {c} {allow} {only} {starts} {b} s t over l e f g waits took link =
    let k : Course = course_of lives c allow only starts b in
    let n : Node = c.node in
    let rest : List Envelope = told_all lives c allow s over in
    let told : All (IsAbroad k) rest = all_told starts s over f in
    moving_orderly k t (chained (record {
      going = took.going;
      waiting = record {
        dist = over;
        has = took.dist;
        idle = waits.idle;
        takeovers = waits.takeovers;
        ends = waits.ends;
        listed = ap (λ (files : List OwnFile). controls (own_in files n) c.app) (took.files ∙ f.files) ∙ g.listed;
        sees = λ m among up.
            ap (λ (links : List Link). n.0 == m.0 || are_linked n m links) took.links
            ∙ ap (λ (linked : Bool). n.0 == m.0 || linked) (f.same_links n m)
            ∙ waits.sees m among (sym (took.awake m ∙ f.awake m) ∙ up);
      };
      message = e;
      rest = rest;
      taken = subst (λ (messages : List Envelope). Taken e messages rest) (sym took.messages)
          (taken_last e rest (All-weaker (IsAbroad k) (λ (m : Envelope). is_of_pair e m ≡ false)
          (λ m kind. of_different_pairs e m
          (λ one. abroad_other k m kind (sym one ∙ ap (λ (j : Node). j.0) (link_home k (node_at s n).controller e link)))) rest told));
      kinds = told;
      link = subst (λ (x : ControllerView). IsLink k x e) (sym took.controller) link;
    }))

-- ---- where nothing else changes

pub quiet_orderly : {lives : Node → ℕ} {c : Call} {allow only : Bool} {b : SystemView} (s : SystemView) (d : DistView)
    → Asked lives c allow only b s → Before lives c allow b → is_alive_at s c.node ≡ true → (node_at s c.node).dist ≡ Some d
    → d.stand ≡ stand.Idle → IsQuiet allow only (standing_of d c.app) → is_local (standing_of d c.app) ≡ not allow
    → IsOrderly (arrived (its_permit allow only c).to (its_permit allow only c).message (without s []))
quiet_orderly {lives} {c} {allow} {only} {b} s d f g alive has is quiet his =
    answered_orderly s next over.state s.locks f
    (takes false s d over (told_all lives c allow s over.state ++ its_answer k Done ∷ []) s.locks f alive has is
    (λ w. permits_so a allow only p (weighing w t) quiet
    ∙ (λ i. weighing w (answered (his i)))) posted unoccupied (λ no. absurd (false≢true no)) g.tame)
  where
    n : Node
    n = c.node

    a : App
    a = c.app

    p : Process
    p = process_of c

    k : Course
    k = course_of lives c allow only false b

    next : SystemView
    next = arrived (its_permit allow only c).to (its_permit allow only c).message (without s [])

    t : TurnView
    t = turn s.cluster (own_in s.files n) n (lives n) d

    answered : Bool → TurnView
    answered x = record (permitted_over a allow p t) {
      out = posts n (message.NewPermission n a allow x) (backwards (own_in s.files n) a) ++ output.Send (its_answer k Done) ∷ [];
    }

    over : TurnView
    over = answered (not allow)

    posted : all_carried_out n over.out (behind_it c s over.state)
        ≡ record (with_node n (record (node_at s n) { dist = Some over.state }) s) {
          messages = told_all lives c allow s over.state ++ its_answer k Done ∷ [];
          locks = s.locks;
        }
    posted =
        one_more n (posts n (news_of c allow) (backwards (own_in s.files n) a)) (output.Send (its_answer k Done)) (behind_it c s over.state)
        ∙ ap (carried_out n (output.Send (its_answer k Done))) (tells_all s over.state f g)

    unoccupied : IsUnoccupied over.state
    unoccupied = record {
      stand = inl refl;
      mail = All-nil (λ (x : Message). takes_it stand.Idle x ≡ false);
      permits = (f.dists n d alive has).permits;
      parked = (f.dists n d alive has).parked;
    }
