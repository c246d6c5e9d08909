-- A call that changes the permission of a distributed application and nothing else, where nodes were at rest.
use Rattle.std.proofs.Common.{◌≡◌, ◌≢◌, ◌⊎◌, ◌++◌, ◌&&◌, ◌||◌, ◌==◌, ℕ, Bool, true, false, not, List, [], ◌∷◌, Option, Some, None, refl, sym, ap, subst, ◌∙◌, inl, inr}
use Rattle.std.specs.Prelude.{All}
use Rattle.std.proofs.lemmas.Bool.{cases_Bool, cases_eq, false≢true}
use Rattle.std.proofs.lemmas.List.{append-nil}
use Rattle.std.proofs.lemmas.List.Elements.{All-nil, All-cons, All-append}
use Rattle.std.proofs.lemmas.Option.{none-some, same_Some}
use Rattle.rh_model.specs.declared.node.App.{App}
use Rattle.rh_model.specs.declared.node.Node.{Node}
use Rattle.rh_otp_model.specs.declared.fault.Outcome.TheVariants.{Done}
use Rattle.rh_otp_model.specs.declared.message.Message.{Message}
use Rattle.rh_otp_model.specs.declared.message.Message.TheVariants as message
use Rattle.rh_otp_model.specs.declared.output.Envelope.{Envelope}
use Rattle.rh_otp_model.specs.declared.output.Output.{Output}
use Rattle.rh_otp_model.specs.declared.output.Output.TheVariants as output
use Rattle.rh_otp_model.specs.declared.process.Process.{Process}
use Rattle.rh_otp_model.specs.Own.{controls}
use Rattle.rh_otp_controller.specs.Changes.{received}
use Rattle.rh_otp_controller.specs.State.{TurnView as ControllerTurn}
use Rattle.rh_otp_dist.specs.declared.state.Stand.TheVariants as stand
use Rattle.rh_otp_dist.specs.Choosing.{backwards}
use Rattle.rh_otp_dist.specs.Outside.{with_message}
use Rattle.rh_otp_dist.specs.State.{DistView, TurnView, standing_of, is_among}
use Rattle.rh_otp_dist.specs.Told.{is_local}
use Rattle.rh_otp_dist.specs.Waiting.{takes}
use Rattle.rh_otp_net.specs.Links.{are_linked}
use Rattle.rh_otp_node.specs.Live.{LiveView, is_alive}
use Rattle.rh_otp_system.specs.declared.calls.Ask.TheVariants as ask
use Rattle.rh_otp_system.specs.declared.calls.Call.{Call}
use Rattle.rh_otp_system.specs.declared.calls.Stage.TheVariants as stage
use Rattle.rh_otp_system.specs.Calling.{is_known, is_only_loaded, is_synchronised_in}
use Rattle.rh_otp_system.specs.Calls.{process_of}
use Rattle.rh_otp_system.specs.Delivering.{arrived}
use Rattle.rh_otp_system.specs.Doing.{call_of}
use Rattle.rh_otp_system.specs.Moves.{Delivers, IsAmong, is_to_end}
use Rattle.rh_otp_system.specs.Outputs.{carried_out, all_carried_out}
use Rattle.rh_otp_system.specs.State.{SystemView, live_at, node_at, with_node, is_alive_at}
use Rattle.rh_otp_system.specs.Working.{mailed}
use Rattle.rh_otp_laws.proofs.Nodes.{same_of_all}
use Rattle.rh_otp_orders.specs.Confluence.{IsOrderly}
use Rattle.rh_otp_orders.proofs.Taking.{Taken}
use Rattle.rh_otp_crashes.specs.Crashes.{IsUnoccupied}
use Rattle.rh_otp_crashes.proofs.Crossing.{same_node}
use Rattle.rh_otp_crashes.proofs.Peace.{AtPeace, AtEase, at_ease, here_in, without, arrives_alive, arrives_dead}
use Rattle.rh_otp_crashes.proofs.Posting.{posts, mails, all_posted, all_mailed}
use Rattle.rh_otp_crashes.proofs.Turning.{own_in, turn, weighing, none_on, idle_comes, waits_on, still_waits}
use Rattle.rh_otp_locks.proofs.Locks.{none_at_rest}
use Rattle.rh_otp_stops.proofs.Answering.{cannot_call}
use Rattle.rh_otp_stops.proofs.Saying.{its_answer}
use Rattle.rh_otp_stops.proofs.Still.{Come, uncalled, only_come}
use Rattle.rh_otp_stops.proofs.Stop.{its_call, turn_at, from_first, only_first}
use Rattle.rh_otp_stops.proofs.Stopping.{there_is}
use Rattle.rh_otp_starts.proofs.Alone.{Waits, first_orderly, lost}
use Rattle.rh_otp_starts.proofs.Start.{over_before, asked_so, command_alike}
use Rattle.rh_otp_starts.proofs.Turns.{Turn, Behind, quiet_orderly, takes_turn}
use Rattle.rh_otp_permits.specs.Permits.{ChangesNothing, PermitsAloneEndAlike, is_begun}
use Rattle.rh_otp_permits.proofs.Asking.{IsQuiet, Says, nothing, says, first_answer, permit_says, waiting_call, told_call, its_permit, asked_second, goes_on, permitted_over, permits_so}
use Rattle.rh_otp_permits.proofs.Noting.{IsNote, answers, tells, answer_of, Noting, noting_on}
use Rattle.rh_otp_permits.proofs.Crossing.{orderly}

-- ---- the dist_ac's turn

one_more : (n : Node) (outs : List Output) (o : Output) (s : SystemView)
    → all_carried_out n (outs ++ o ∷ []) s ≡ carried_out n o (all_carried_out n outs s)
one_more n [] o s = refl
one_more n (x ∷ outs) o s = one_more n outs o (carried_out n x s)

-- it is asked, and nothing else is on its way
record Asked (lives : Node → ℕ) (c : Call) (allow only : Bool) (s : SystemView) : Type 0 where
  messages : s.messages ≡ its_permit allow only c ∷ []
  slow : s.slow ≡ []
  dists : (n : Node) (d : DistView) → is_alive_at s n ≡ true → (node_at s n).dist ≡ Some d → IsUnoccupied d
  ends : (n : Node) → is_alive_at s n ≡ true → is_to_end n s ≡ false
  listed : (n : Node) → IsAmong n s.alive → is_alive_at s n ≡ true
  same_lives : (n : Node) → (node_at s n).life ≡ lives n
  calls : s.calls ≡ record (told_call allow only c) { stage = stage.DistAc } ∷ []
  life : c.life ≡ lives c.node
  alone : (d : DistView) → (node_at s c.node).dist ≡ Some d → d.stand ≡ stand.Idle
      → IsQuiet allow only (standing_of d c.app) × ((not allow && is_local (standing_of d c.app)) ≡ false)
  sees : (m : Node) → is_among m (backwards (own_in s.files c.node) c.app) ≡ true → is_alive_at s m ≡ true
      → (c.node.0 == m.0 || are_linked c.node m s.links) ≡ true

noting_at : {lives : Node → ℕ} {c : Call} {allow only : Bool} (his : Bool) (s : SystemView) → Asked lives c allow only s
    → (not allow && his) ≡ false → Noting lives (told_call allow only c) allow his (without s [])
noting_at {lives} {c} {allow} {only} his s f quiet = record {
  peace = record {
    messages = All-nil (IsNote lives (told_call allow only c) allow his);
    slow = f.slow;
    calls = refl;
    calm = at_ease;
    dists = f.dists;
    ends = f.ends;
    listed = f.listed;
    same_lives = f.same_lives;
  };
  quiet = quiet;
  stage = stage.DistAc;
  calls = f.calls;
  waits = λ call q. refl;
  life = f.life;
}

not_his : (allow : Bool) → (not allow && false) ≡ false
not_his true = refl
not_his false = refl

turn_orderly : {lives : Node → ℕ} {c : Call} {allow only : Bool} (s : SystemView) → Asked lives c allow only s → is_alive_at s c.node ≡ true
    → IsOrderly (arrived (its_permit allow only c).to (its_permit allow only c).message (without s []))
turn_orderly {lives} {c} {allow} {only} s f alive = by (node_at s n).dist refl
  where
    n : Node
    n = c.node

    a : App
    a = c.app

    p : Process
    p = process_of c

    told : Call
    told = told_call allow only c

    x : Message
    x = message.PermitDistributed a allow only p

    q : SystemView
    q = without s []

    v : LiveView
    v = node_at s n

    there : live_at q n ≡ Some v
    there = there_is s n alive

    next : SystemView
    next = arrived (its_permit allow only c).to x q

    comes : next ≡ mailed n x q
    comes = arrives_alive (its_permit allow only c).to x q alive (f.same_lives n ∙ sym f.life)

    free : (d : DistView) → v.dist ≡ Some d → IsUnoccupied d
    free d has = f.dists n d alive has

    quietly : (o : Option DistView) → ((d : DistView) → o ≡ Some d → IsUnoccupied d)
        → mailed n x q ≡ with_node n (record v { dist = o }) q → IsOrderly next
    quietly o rest is =
        let new : LiveView = record v { dist = o } in
        orderly next (noting_on n q next (noting_at false s f (not_his allow)) (record {
          old = v;
          new = new;
          there = there;
          more = [];
          set = [];
          seen = [];
          is = comes ∙ is ∙ (λ i. record (with_node n new q) {
            messages = [];
            timers = sym (append-nil s.timers) i;
            events = sym (append-nil s.events) i;
          });
          life = refl;
          phase = refl;
          stopped = refl;
          ending = refl;
          rest = rest;
          kinds = All-nil (IsNote lives told allow false);
        }))

    idly : (d : DistView) → v.dist ≡ Some d → d.stand ≡ stand.Idle → IsOrderly next
    idly d has is =
        let his : Bool = is_local (standing_of d a) in
        let so = f.alone d has is in
        let t : TurnView = turn s.cluster (own_in s.files n) n (lives n) d in
        let over : TurnView = permitted_over a allow p t in
        let y : Message = message.NewPermission n a allow his in
        let nodes : List Node = backwards (own_in s.files n) a in
        let e : Envelope = answer_of lives told Done in
        let new : LiveView = record v { dist = Some over.state } in
        let written : SystemView = with_node n new q in
        let sent : List Envelope = mails lives written n y nodes in
        let K : Envelope → Type 0 = IsNote lives told allow his in
        orderly next (noting_on n q next (noting_at his s f so.1) (record {
          old = v;
          new = new;
          there = there;
          more = sent ++ e ∷ [];
          set = [];
          seen = [];
          is = comes
              ∙ idle_comes s.cluster s.files n (lives n) x d over (free d has) is refl
              (λ w. permits_so a allow only p (weighing w t) so.0) q v there
              has (f.same_lives n) refl refl
              ∙ one_more n (posts n y nodes) (output.Send e) written
              ∙ ap (carried_out n (output.Send e)) (all_posted n y nodes written
              (λ k. same_of_all (λ (z : LiveView). z.life) s n k new refl ∙ f.same_lives k)
              (λ m among up. f.sees m among (sym (same_of_all is_alive s n m new refl) ∙ up)))
              ∙ (λ i. record written {
                messages = sent ++ e ∷ [];
                timers = sym (append-nil s.timers) i;
                events = sym (append-nil s.events) i;
              });
          life = refl;
          phase = refl;
          stopped = refl;
          ending = refl;
          rest = λ k same. subst IsUnoccupied (same_Some over.state k same) (record {
            stand = inl refl;
            mail = All-nil (λ (z : Message). takes stand.Idle z ≡ false);
            permits = (free d has).permits;
            parked = (free d has).parked;
          });
          kinds = All-append K sent (e ∷ []) (all_mailed lives K written n y nodes tells)
              (All-cons K e [] (answers Done refl) (All-nil K));
        }))

    at : (d : DistView) → v.dist ≡ Some d → (d.stand ≡ stand.Idle) ⊎ (d.stand ≡ stand.ForGo) → IsOrderly next
    at d has (inl is) = idly d has is
    at d has (inr is) =
        let waiting : DistView = with_message x d in
        quietly (Some waiting) (λ k same. subst IsUnoccupied (same_Some waiting k same) (still_waits x d (free d has) is refl))
        (waits_on n x q v d there has (free d has) is refl)

    by : (o : Option DistView) → v.dist ≡ o → IsOrderly next
    by None has = quietly None (λ d is. absurd (none-some d is)) (none_on n x q v there has)
    by (Some d) has = at d has (free d has).stand

second_orderly : {lives : Node → ℕ} {c : Call} {allow only : Bool} (s : SystemView) → Asked lives c allow only s → IsOrderly s
second_orderly {lives} {c} {allow} {only} s f p t u reaches to_t to_u =
    from_first s p reaches next comes (by (cases_Bool (is_alive_at s c.node))) t u to_t to_u
  where
    e : Envelope
    e = its_permit allow only c

    next : SystemView
    next = arrived e.to e.message (without s [])

    peace : AtPeace AtEase (λ (x : Envelope). x ≡ e) lives (uncalled s)
    peace = record {
      messages = subst (All (λ (x : Envelope). x ≡ e)) (sym f.messages)
          (All-cons (λ (x : Envelope). x ≡ e) e [] refl (All-nil (λ (x : Envelope). x ≡ e)));
      slow = f.slow;
      calls = refl;
      calm = at_ease;
      dists = f.dists;
      ends = f.ends;
      listed = f.listed;
      same_lives = f.same_lives;
    }

    comes : (q : SystemView) → Delivers s q → q ≡ next
    comes q one =
        let come : Come s q = only_come s q peace (cannot_call (told_call allow only c) stage.DistAc s (λ call x. refl) f.calls) one in
        let so : (e ≡ come.message) × (come.left ≡ []) =
        only_first e come.message come.left (subst (λ (l : List Envelope). Taken come.message l come.left) f.messages come.taken) in
        come.is ∙ (λ i. arrived (sym so.0 i).to (sym so.0 i).message (without s (so.1 i)))

    by : (is_alive_at s c.node ≡ true) ⊎ (is_alive_at s c.node ≡ false) → IsOrderly next
    by (inl alive) = turn_orderly s f alive
    by (inr dead) =
        subst IsOrderly (sym (arrives_dead e.to e.message (without s []) dead))
        (orderly (without s []) (noting_at false s f (not_his allow)))

-- ---- the law

-- what is so of the node before the call
record CanNote (c : Call) (allow : Bool) (s : SystemView) : Type 0 where
  listed : controls (own_in s.files c.node) c.app ≡ true
  synchronised : is_synchronised_in (node_at s c.node).dist ≡ true
  notes : (d : DistView) → (node_at s c.node).dist ≡ Some d → d.stand ≡ stand.Idle
      → ChangesNothing allow c.app (node_at s c.node).controller d
  sees : (m : Node) → is_among m (backwards (own_in s.files c.node) c.app) ≡ true → is_alive_at s m ≡ true
      → (c.node.0 == m.0 || are_linked c.node m s.links) ≡ true

only_so : (begun : Bool) → begun ≡ false → is_only_loaded (first_answer begun) ≡ true
only_so false is = refl
only_so true is = absurd (false≢true (sym is))

known_so : (begun : Bool) → is_known (first_answer begun) ≡ true
known_so true = refl
known_so false = refl

permit_orderly : {lives : Node → ℕ} {c : Call} {allow : Bool} (s : SystemView)
    → Waits lives (waiting_call allow c) true (its_call (waiting_call allow c) ∷ []) s → s.calls ≡ waiting_call allow c ∷ [] → s.locks ≡ []
    → CanNote c allow s → IsOrderly s
permit_orderly {lives} {c} {allow} s f calls none can =
    first_orderly e s f (by (cases_Bool (is_alive_at s n)) (permit_says (waiting_call allow c) allow t can.listed))
  where
    n : Node
    n = c.node

    e : Envelope
    e = its_call (waiting_call allow c)

    t : ControllerTurn
    t = turn_at s n

    u : ControllerTurn
    u = received e.message t

    q : SystemView
    q = arrived e.to e.message (without s [])

    behind : {more : List Envelope} → is_alive_at s n ≡ true → Turn n u more → Behind lives (waiting_call allow c) u more q s
    behind alive turned = takes_turn c.life e.message s f (sym f.life) alive turned

    begun : Bool
    begun = is_begun c.app t.state

    only : Bool
    only = is_only_loaded (first_answer begun)

    answered : Behind lives (waiting_call allow c) u (its_answer t.here c (first_answer begun) ∷ []) q s → u.state.is_ending ≡ false
        → IsOrderly q
    answered on not_ending =
        first_orderly (its_answer (here_in lives n) c (first_answer begun)) q g
        (subst IsOrderly
        (sym (goes_on c allow (first_answer begun) (without q []) (known_so begun) (on.calls ∙ calls) (on.locks ∙ none) refl on.alive
        (on.still.same_lives n ∙ sym on.still.life) (ap is_synchronised_in on.dist ∙ can.synchronised)))
        (second_orderly (asked_second allow only c (without q [])) so))
      where
        g : Waits lives (waiting_call allow c) true (its_answer (here_in lives n) c (first_answer begun) ∷ []) q
        g = subst (λ (k : ℕ). Waits lives (waiting_call allow c) true (its_answer (record { node = n; life = k }) c (first_answer begun)
            ∷ []) q)
            (f.same_lives n) on.still

        keeps : (node_at q n).controller.is_ending ≡ false
        keeps = ap (λ (z : ControllerTurn). z.state.is_ending) on.turn ∙ not_ending

        ends : (m : Node) → is_alive_at q m ≡ true → (m.0 ≡ n.0) ⊎ (m.0 ≢ n.0) → is_to_end m q ≡ false
        ends m alive (inl same) =
            ap (λ (k : Node). is_to_end k q) (same_node m n same)
            ∙ ap (λ (b : Bool). b && (q.ends_soon || not (node_at q n).is_stopped)) keeps
        ends m alive (inr other) = on.still.ends m alive (λ may. other)

        quiet : (d : DistView) → (node_at s n).dist ≡ Some d → d.stand ≡ stand.Idle → IsQuiet allow only (standing_of d c.app)
        quiet d has is =
            elim (can.notes d has is).quiet [
              | inl unbegun ↦ inl (only_so begun unbegun)
              | inr either ↦ inr either
            ]

        so : Asked lives c allow only (asked_second allow only c (without q []))
        so = record {
          messages = refl;
          slow = on.still.slow;
          dists = on.still.dists;
          ends = λ m alive. ends m alive (cases_eq m.0 n.0);
          listed = on.still.listed;
          same_lives = on.still.same_lives;
          calls = refl;
          life = on.still.life;
          alone = λ d has is. (quiet d (sym on.dist ∙ has) is, (can.notes d (sym on.dist ∙ has) is).not_here);
          sees = λ m among up.
              ap (λ links. n.0 == m.0 || are_linked n m links) on.links
              ∙ can.sees m (ap (λ files. is_among m (backwards (own_in files n) c.app)) (sym on.files) ∙ among) (sym (on.awake m) ∙ up);
        }

    by : (is_alive_at s n ≡ true) ⊎ (is_alive_at s n ≡ false) → Says (waiting_call allow c) t u → IsOrderly q
    by (inl alive) (nothing turned) = quiet_orderly q (behind alive turned).still
    by (inl alive) (says turned not_ending) = answered (behind alive turned) not_ending
    by (inr dead) other = quiet_orderly q (lost e.to e.message s f dead)

pub permits_alone : PermitsAloneEndAlike
permits_alone s n a allow reached rest soon listed can =
    command_alike (ask.Permit allow) s n a refl reached rest
    (over_before s soon)
    (λ before f. permit_orderly {c = c} (asked_so before c s) f refl none
    (record { listed = listed; synchronised = can.synchronised; notes = can.notes; sees = can.sees }))
  where
    -- nobody has a lock where all are at rest
    none : s.locks ≡ []
    none = none_at_rest s reached rest

    c : Call
    c = call_of (ask.Permit allow) n a s
