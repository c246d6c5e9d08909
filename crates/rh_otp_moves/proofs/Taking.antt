-- The dist_ac is asked for a permission: nothing else can come before its turn, and what that comes to.
use Rattle.std.proofs.Common.{◌≡◌, ◌≢◌, ◌⊎◌, ◌&&◌, ◌==◌, ◌||◌, ℕ, Bool, true, false, not, cond, List, [], ◌∷◌, Option, Some, None, refl, sym, ap, subst, ◌∙◌, inl, inr}
use Rattle.std.specs.Prelude.{All, filter, map}
use Rattle.std.proofs.lemmas.Bool.{cases_Bool, eq-eqb, false≢true}
use Rattle.std.proofs.lemmas.List.{append-nil}
use Rattle.std.proofs.lemmas.List.Elements.{All-nil, All-cons}
use Rattle.std.proofs.lemmas.Option.{none-some, same_Some}
use Rattle.rh_model.specs.declared.node.Node.{Node}
use Rattle.rh_otp_model.specs.declared.message.Message.{Message}
use Rattle.rh_otp_model.specs.declared.output.Envelope.{Envelope}
use Rattle.rh_otp_model.specs.declared.output.Requester.TheVariants.{Alone}
use Rattle.rh_otp_model.specs.declared.process.Process.{Process}
use Rattle.rh_otp_model.specs.declared.wait.OwnFile.{OwnFile}
use Rattle.rh_otp_dist.specs.declared.state.Stand.TheVariants as stand
use Rattle.rh_otp_dist.specs.Choosing.{backwards}
use Rattle.rh_otp_dist.specs.Outside.{with_message}
use Rattle.rh_otp_dist.specs.Received as mail
use Rattle.rh_otp_dist.specs.State.{DistView, TurnView, is_among}
use Rattle.rh_otp_net.specs.Alike.{is_process, is_requester}
use Rattle.rh_otp_net.specs.declared.locks.Held.{Held}
use Rattle.rh_otp_net.specs.Locks.{freed, taken}
use Rattle.rh_otp_node.specs.Live.{LiveView, is_alive}
use Rattle.rh_otp_system.specs.declared.calls.Call.{Call}
use Rattle.rh_otp_system.specs.declared.calls.Stage.TheVariants as stage
use Rattle.rh_otp_system.specs.Delivering.{arrived}
use Rattle.rh_otp_system.specs.Moves.{Delivers}
use Rattle.rh_otp_system.specs.Outputs.{all_carried_out}
use Rattle.rh_otp_system.specs.State.{SystemView, has_dist_at, node_at, with_node, is_alive_at}
use Rattle.rh_otp_system.specs.Working.{mailed}
use Rattle.rh_otp_laws.proofs.Alike.{process_itself}
use Rattle.rh_otp_laws.proofs.Nodes.{same_of_all}
use Rattle.rh_otp_orders.specs.Confluence.{IsOrderly}
use Rattle.rh_otp_orders.proofs.Taking.{Taken}
use Rattle.rh_otp_crashes.specs.Crashes.{IsUnoccupied}
use Rattle.rh_otp_crashes.proofs.Peace.{AtPeace, AtEase, at_ease, without, arrives_alive, arrives_dead}
use Rattle.rh_otp_crashes.proofs.Posting.{posted_to, mails}
use Rattle.rh_otp_crashes.proofs.Turning.{own_in, turn, weighing, none_on, idle_comes, waits_on, still_waits}
use Rattle.rh_otp_stops.proofs.Answering.{NoneOfCalls, cannot_call}
use Rattle.rh_otp_stops.proofs.Still.{Come, uncalled, only_come}
use Rattle.rh_otp_stops.proofs.Stop.{from_first, only_first}
use Rattle.rh_otp_stops.proofs.Stopping.{there_is}
use Rattle.rh_otp_permits.proofs.Asking.{told_call, its_permit}
use Rattle.rh_otp_moves.proofs.Still.{Course, Still, Did, is_new, still_on, none_orderly}
use Rattle.rh_otp_moves.proofs.Telling.{TameIn}
use Rattle.rh_otp_moves.proofs.Abroad.{Going, going_on}
use Rattle.rh_otp_moves.proofs.Calling.{Asked}

-- how such a call goes
abbrev pub course_of : (Node → ℕ) → Call → Bool → Bool → Bool → SystemView → Course
course_of lives c allow only starts b = record {
  lives = lives;
  call = told_call allow only c;
  allow = allow;
  starts = starts;
  listed = backwards (own_in b.files c.node) c.app;
}

-- its message is taken, and these locks are held
abbrev pub taken_up : List Held → SystemView → SystemView
taken_up l s = record s { messages = []; locks = l }

pub still_at : {lives : Node → ℕ} {c : Call} {allow only : Bool} {b : SystemView} (starts : Bool) (l : List Held) (s : SystemView)
    → Asked lives c allow only b s → (starts ≡ true → NoneOfCalls l) → Still (course_of lives c allow only starts b) (taken_up l s)
still_at starts l s f locks = record {
  slow = f.slow;
  dists = f.dists;
  ends = λ n alive other. f.ends n alive;
  later = f.later;
  among = f.among;
  same_lives = f.same_lives;
  stage = stage.DistAc;
  calls = f.calls;
  waits = λ call q. refl;
  life = f.life;
  locks = locks;
}

-- ---- nothing else comes first

-- where it comes to nothing all is over
quietly : {lives : Node → ℕ} {c : Call} {allow only : Bool} {b : SystemView} (s t : SystemView) (o : Option DistView)
    → Asked lives c allow only b s → is_alive_at s c.node ≡ true → ((d : DistView) → o ≡ Some d → IsUnoccupied d)
    → t ≡ with_node c.node (record (node_at s c.node) { dist = o }) (without s []) → IsOrderly t
quietly {lives} {c} {allow} {only} {b} s t o f alive rest is =
    let k : Course = course_of lives c allow only false b in
    let q : SystemView = taken_up s.locks s in
    let new : LiveView = record (node_at s c.node) { dist = o } in
    let did : Did k c.node q t = record {
      new = new;
      there = there_is s c.node alive;
      more = [];
      set = [];
      seen = [];
      is = is ∙ (λ i. record (with_node c.node new q) {
        messages = [];
        timers = sym (append-nil s.timers) i;
        events = sym (append-nil s.events) i;
      });
      life = refl;
      phase = refl;
      ending = inr (refl, refl);
      rest = rest;
    } in
    none_orderly k t (still_on k c.node q t (still_at false s.locks s f (λ is. absurd (false≢true is))) did)
    (ap (λ (x : SystemView). x.messages) is)

pub asked_orderly : {lives : Node → ℕ} {c : Call} {allow only : Bool} {b : SystemView} (s : SystemView) → Asked lives c allow only b s
    → ((d : DistView) → is_alive_at s c.node ≡ true → (node_at s c.node).dist ≡ Some d → d.stand ≡ stand.Idle
    → IsOrderly (arrived (its_permit allow only c).to (its_permit allow only c).message (without s [])))
    → IsOrderly s
asked_orderly {lives} {c} {allow} {only} {b} s f idly p t u reaches to_t to_u =
    from_first s p reaches next comes (by (cases_Bool (is_alive_at s n))) t u to_t to_u
  where
    n : Node
    n = c.node

    e : Envelope
    e = its_permit allow only c

    q : SystemView
    q = without s []

    next : SystemView
    next = arrived e.to e.message q

    peace : AtPeace AtEase (λ (x : Envelope). x ≡ e) lives (uncalled s)
    peace = record {
      messages = subst (All (λ (x : Envelope). x ≡ e)) (sym f.messages)
          (All-cons (λ (x : Envelope). x ≡ e) e [] refl (All-nil (λ (x : Envelope). x ≡ e)));
      slow = f.slow;
      calls = refl;
      calm = at_ease;
      dists = f.dists;
      ends = f.ends;
      listed = f.among;
      same_lives = f.same_lives;
    }

    comes : (x : SystemView) → Delivers s x → x ≡ next
    comes x one =
        let come : Come s x = only_come s x peace (cannot_call (told_call allow only c) stage.DistAc s (λ call y. refl) f.calls) one in
        let so : (e ≡ come.message) × (come.left ≡ []) =
        only_first e come.message come.left (subst (λ (l : List Envelope). Taken come.message l come.left) f.messages come.taken) in
        come.is ∙ (λ i. arrived (sym so.0 i).to (sym so.0 i).message (without s (so.1 i)))

    mails_so : is_alive_at s n ≡ true → next ≡ mailed n e.message q
    mails_so alive = arrives_alive e.to e.message q alive (f.same_lives n ∙ sym f.life)

    stands : (d : DistView) → is_alive_at s n ≡ true → (node_at s n).dist ≡ Some d → (d.stand ≡ stand.Idle) ⊎ (d.stand ≡ stand.ForGo)
        → IsOrderly next
    stands d alive has (inl is) = idly d alive has is
    stands d alive has (inr is) =
        let waiting : DistView = with_message e.message d in
        quietly s next (Some waiting) f alive
        (λ k same. subst IsUnoccupied (same_Some waiting k same) (still_waits e.message d (f.dists n d alive has) is refl))
        (mails_so alive ∙ waits_on n e.message q (node_at s n) d (there_is s n alive) has (f.dists n d alive has) is refl)

    at : (o : Option DistView) → is_alive_at s n ≡ true → (node_at s n).dist ≡ o → IsOrderly next
    at None alive has =
        quietly s next None f alive (λ d is. absurd (none-some d is))
        (mails_so alive ∙ none_on n e.message q (node_at s n) (there_is s n alive) has)
    at (Some d) alive has = stands d alive has (f.dists n d alive has).stand

    by : (is_alive_at s n ≡ true) ⊎ (is_alive_at s n ≡ false) → IsOrderly next
    by (inl alive) = at (node_at s n).dist alive refl
    by (inr dead) =
        subst IsOrderly (sym (arrives_dead e.to e.message q dead))
        (none_orderly (course_of lives c allow only false b) q (still_at false s.locks s f (λ is. absurd (false≢true is))) refl)

-- ---- its turn, carried out

-- so much is on its way behind it, the dist_ac stands so, and these locks are held
pub record Took (k : Course) (s t : SystemView) (over : DistView) (more : List Envelope) (l : List Held) : Type 0 where
  pub going : Going k t
  pub messages : t.messages ≡ more
  pub dist : (node_at t k.call.node).dist ≡ Some over
  pub controller : (node_at t k.call.node).controller ≡ (node_at s k.call.node).controller
  pub files : t.files ≡ s.files
  pub links : t.links ≡ s.links
  pub awake : (m : Node) → is_alive_at t m ≡ is_alive_at s m

pub takes : {lives : Node → ℕ} {c : Call} {allow only : Bool} {b : SystemView} (starts : Bool) (s : SystemView) (d : DistView)
    (over : TurnView) (more : List Envelope) (l : List Held) → Asked lives c allow only b s → is_alive_at s c.node ≡ true
    → (node_at s c.node).dist ≡ Some d → d.stand ≡ stand.Idle
    → ((w : ℕ)
    → mail.handled (its_permit allow only c).message (weighing w (turn s.cluster (own_in s.files c.node) c.node (lives c.node) d))
    ≡ weighing w over)
    → (all_carried_out c.node over.out (with_node c.node (record (node_at s c.node) { dist = Some over.state }) (without s []))
    ≡ record (with_node c.node (record (node_at s c.node) { dist = Some over.state }) s) { messages = more; locks = l })
    → IsUnoccupied over.state → (starts ≡ true → NoneOfCalls l)
    → ((m : Node) → m.0 ≢ c.node.0 → is_alive_at b m ≡ true
    → TameIn (course_of lives c allow only starts b) (own_in b.files m) m (node_at b m).dist)
    → Took (course_of lives c allow only starts b) s
    (arrived (its_permit allow only c).to (its_permit allow only c).message (without s []))
    over.state more l
takes {lives} {c} {allow} {only} {b} starts s d over more l f alive has is closed posted unoccupied locks tame = record {
  going = going_on k n q t (record { still = still_at starts l s f locks; tame = tame_at }) did (λ other. absurd (other refl));
  messages = ap (λ (x : SystemView). x.messages) did.is;
  dist = ap (λ (v : LiveView). v.dist) new_is;
  controller = ap (λ (v : LiveView). v.controller) new_is;
  files = ap (λ (x : SystemView). x.files) did.is;
  links = ap (λ (x : SystemView). x.links) did.is;
  awake = λ m. ap (λ (x : SystemView). is_alive_at x m) did.is ∙ same_of_all is_alive s n m new refl;
}
  where
    n : Node
    n = c.node

    k : Course
    k = course_of lives c allow only starts b

    e : Envelope
    e = its_permit allow only c

    q : SystemView
    q = taken_up l s

    t : SystemView
    t = arrived e.to e.message (without s [])

    new : LiveView
    new = record (node_at s n) { dist = Some over.state }

    comes : t ≡ record (with_node n new s) { messages = more; locks = l }
    comes =
        arrives_alive e.to e.message (without s []) alive (f.same_lives n ∙ sym f.life)
        ∙ idle_comes s.cluster s.files n (lives n) e.message d over (f.dists n d alive has) is refl closed (without s []) (node_at s n)
        (there_is s n alive) has (f.same_lives n) refl refl
        ∙ posted

    did : Did k n q t
    did = record {
      new = new;
      there = there_is s n alive;
      more = more;
      set = [];
      seen = [];
      is = comes ∙ (λ i. record (with_node n new q) {
        messages = more;
        timers = sym (append-nil s.timers) i;
        events = sym (append-nil s.events) i;
      });
      life = refl;
      phase = refl;
      ending = inr (refl, refl);
      rest = λ x is_next. subst IsUnoccupied (same_Some over.state x is_next) unoccupied;
    }

    new_is : node_at t n ≡ new
    new_is = is_new k n q t did

    tame_at : (m : Node) → m.0 ≢ n.0 → is_alive_at s m ≡ true → TameIn k (own_in s.files m) m (node_at s m).dist
    tame_at m other up =
        subst (λ (files : List OwnFile). TameIn k (own_in files m) m (node_at s m).dist) (sym f.files)
        (subst (TameIn k (own_in b.files m) m) (sym (f.dist m)) (tame m other (sym (f.awake m) ∙ up)))

-- ---- what others are told of the permission

pub either_way : (p : Bool) → (p || true) ≡ true
either_way true = refl
either_way false = refl

mailed_by : (lives : Node → ℕ) (P : Envelope → Type 0) (s : SystemView) (n m : Node) (x : Message) (nodes : List Node) (g : Bool)
    → ((m.0 == n.0) ≡ false → P (posted_to lives n x m)) → (m.0 == n.0) ≡ g → (h : Bool) → All P (mails lives s n x nodes)
    → All P (cond g (mails lives s n x nodes) (cond h (posted_to lives n x m ∷ mails lives s n x nodes) (mails lives s n x nodes)))
mailed_by lives P s n m x nodes true so is h rest = rest
mailed_by lives P s n m x nodes false so is true rest = All-cons P (posted_to lives n x m) (mails lives s n x nodes) (so is) rest
mailed_by lives P s n m x nodes false so is false rest = rest

-- what is so of the message to each other node of these is so of all that is sent
pub listed_mailed : (lives : Node → ℕ) (P : Envelope → Type 0) (s : SystemView) (n : Node) (x : Message) (nodes : List Node)
    → ((m : Node) → m.0 ≢ n.0 → is_among m nodes ≡ true → P (posted_to lives n x m)) → All P (mails lives s n x nodes)
listed_mailed lives P s n x [] so = All-nil P
listed_mailed lives P s n x (m ∷ nodes) so =
    mailed_by lives P s n m x nodes (m.0 == n.0)
    (λ is. so m (λ same. false≢true (sym is ∙ eq-eqb m.0 n.0 same)) (ap (λ (b : Bool). b || is_among m nodes) (eq-eqb m.0 m.0 refl)))
    refl (is_alive_at s m && has_dist_at s m)
    (listed_mailed lives P s n x nodes (λ j other among.
    so j other (ap (λ (c : Bool). j.0 == m.0 || c) among ∙ either_way (j.0 == m.0))))

-- ---- its lock

freed_all : (p : Process) (nodes : List Node)
    → filter (λ (h : Held). not (is_requester h.requester (Alone p) && is_process h.owner p))
    (map (λ (n : Node). record { node = n; requester = Alone p; owner = p }) nodes)
    ≡ []
freed_all p [] = refl
freed_all p (n ∷ nodes) =
    let left : List Held = filter (λ (h : Held). not (is_requester h.requester (Alone p) && is_process h.owner p))
    (map (λ (m : Node). record { node = m; requester = Alone p; owner = p }) nodes) in
    ap (λ (b : Bool). cond (not (b && b)) (record { node = n; requester = Alone p; owner = p } ∷ left) left) (process_itself p)
    ∙ freed_all p nodes

-- what it had taken is free again
pub freed_taken : (p : Process) (nodes : List Node) → freed (Alone p) p (taken (Alone p) p nodes []) ≡ []
freed_taken p nodes = freed_all p nodes
