-- Behind a takeover: the caller is answered, the other nodes are told, and these tell their controllers.
use Rattle.std.proofs.Common.{◌≡◌, ◌≢◌, ◌⊎◌, ℕ, true, false, List, [], Option, Some, refl, sym, ap, subst, ◌∙◌, inl, inr}
use Rattle.std.specs.Prelude.{All}
use Rattle.std.proofs.lemmas.Bool.{cases_Bool}
use Rattle.std.proofs.lemmas.List.Elements.{All-append}
use Rattle.rh_model.specs.declared.node.Node.{Node}
use Rattle.rh_model.specs.declared.settings.Dep.{Dep}
use Rattle.rh_otp_model.specs.declared.fault.Outcome.{Outcome}
use Rattle.rh_otp_model.specs.declared.output.Envelope.{Envelope}
use Rattle.rh_otp_model.specs.declared.process.Process.{Process}
use Rattle.rh_otp_model.specs.declared.process.Role.TheVariants as role
use Rattle.rh_otp_model.specs.Processes.{process_at}
use Rattle.rh_otp_node.specs.Live.{LiveView}
use Rattle.rh_otp_system.specs.declared.calls.Call.{Call}
use Rattle.rh_otp_system.specs.Calling.{is_known}
use Rattle.rh_otp_system.specs.Delivering.{arrived}
use Rattle.rh_otp_system.specs.Moves.{Delivers}
use Rattle.rh_otp_system.specs.State.{SystemView, live_at, node_at, with_node, is_alive_at}
use Rattle.rh_otp_orders.proofs.Taking.{Taken}
use Rattle.rh_otp_crashes.proofs.Carrying.{done}
use Rattle.rh_otp_crashes.proofs.Peace.{AtEase, Acted, Came, here_in, without, alive_on, arrives_alive, arrives_dead, turned_so, taken_all}
use Rattle.rh_otp_crashes.proofs.Starting.{moves_elsewhere}
use Rattle.rh_otp_crashes.proofs.Turning.{Turned, Changed}
use Rattle.rh_otp_stops.proofs.Answering.{answered_free}
use Rattle.rh_otp_stops.proofs.Still.{Come}
use Rattle.rh_otp_stops.proofs.Stopping.{there_is, told_acts}
use Rattle.rh_otp_starts.proofs.Parting.{waits_left, waits_acted, message_comes}
use Rattle.rh_otp_permits.proofs.Noting.{answer_of, answered_then}
use Rattle.rh_otp_begins.proofs.Hearing.{hears_any}
use Rattle.rh_otp_begins.proofs.Running.{news, learned, changed_acts}
use Rattle.rh_otp_takeovers.proofs.Holding.{unlocked, Holds}
use Rattle.rh_otp_takeovers.proofs.Taking.{holds_answered}

-- ---- the messages

-- another node's dist_ac is told, or its controller by that
pub data IsAbroad (lives : Node → ℕ) (c : Call) (error : Option Dep) : Envelope → Type 0 where
  tells : (m : Node) → m.0 ≢ c.node.0 → IsAbroad lives c error (news lives c error m)
  moves : (m : Node) → m.0 ≢ c.node.0 → IsAbroad lives c error (learned lives c m)

-- all messages are such
pub data IsLast (lives : Node → ℕ) (c : Call) (error : Option Dep) : Envelope → Type 0 where
  answers : (o : Outcome) → is_known o ≡ false → IsLast lives c error (answer_of lives c o)
  abroad : (e : Envelope) → IsAbroad lives c error e → IsLast lives c error e

-- it is for another node
pub to_another : {lives : Node → ℕ} {c : Call} {error : Option Dep} (e : Envelope) → IsAbroad lives c error e → e.to.node.0 ≢ c.node.0
to_another _ (tells m other) = other
to_another _ (moves m other) = other

-- All messages are such, and all else is at rest, but that the node, which is alive, may have to go on to its end.
pub record Telling (lives : Node → ℕ) (c : Call) (error : Option Dep) (s : SystemView) : Type 0 where
  pub still : Holds lives c true s.messages s
  pub kinds : All (IsLast lives c error) s.messages
  pub alive : is_alive_at s c.node ≡ true

-- where one message has been taken
telling_left : {lives : Node → ℕ} {c : Call} {error : Option Dep} (s : SystemView) (e : Envelope) (left : List Envelope)
    → Telling lives c error s → Taken e s.messages left → Telling lives c error (without s left)
telling_left {lives} {c} {error} s e left f taken = record {
  still = record { waits = waits_left (unlocked s) left f.still.waits; soon = f.still.soon };
  kinds = (taken_all (IsLast lives c error) e s.messages left taken f.kinds).1;
  alive = f.alive;
}

-- ---- at another node

-- what its dist_ac does
pub heard : {lives : Node → ℕ} {c : Call} {error : Option Dep} (m : Node) (s : SystemView) → Telling lives c error s → m.0 ≢ c.node.0
    → is_alive_at s m ≡ true
    → Turned (IsLast lives c error) s.cluster s.files m (lives m) (news lives c error m).message (node_at s m).dist
heard {lives} {c} {error} m s f other alive =
    hears_any (IsLast lives c error) s.cluster s.files m (lives m) c.app c.node error (node_at s m).dist
    (abroad (learned lives c m) (moves m other)) (λ d has. f.still.waits.dists m d alive has)

-- it acts for itself, or what comes to it is lost
pub comes_abroad : {lives : Node → ℕ} {c : Call} {error : Option Dep} (s : SystemView) (e : Envelope) (left : List Envelope)
    → Telling lives c error s → IsAbroad lives c error e
    → Came AtEase (IsLast lives c error) e.to.node (without s left) (arrived e.to e.message (without s left))
comes_abroad {lives} {c} {error} s _ left f (tells m other) = by (cases_Bool (is_alive_at s m))
  where
    e : Envelope
    e = news lives c error m

    q : SystemView
    q = without s left

    by : (is_alive_at s m ≡ true) ⊎ (is_alive_at s m ≡ false) → Came AtEase (IsLast lives c error) m q (arrived e.to e.message q)
    by (inl alive) =
        inl (subst (Acted AtEase (IsLast lives c error) m q) (sym (arrives_alive e.to e.message q alive (f.still.waits.same_lives m)))
        (told_acts m e.message q f.still.waits.same_lives alive (heard m s f other alive)))
    by (inr dead) = inr (arrives_dead e.to e.message q dead)
comes_abroad {lives} {c} {error} s _ left f (moves m other) = by (cases_Bool (is_alive_at s m))
  where
    e : Envelope
    e = learned lives c m

    q : SystemView
    q = without s left

    by : (is_alive_at s m ≡ true) ⊎ (is_alive_at s m ≡ false) → Came AtEase (IsLast lives c error) m q (arrived e.to e.message q)
    by (inl alive) =
        inl (subst (Acted AtEase (IsLast lives c error) m q) (sym (arrives_alive e.to e.message q alive (f.still.waits.same_lives m)))
        (changed_acts m e.message q alive (λ d has. f.still.waits.dists m d alive has) (moves_elsewhere s.cluster s.files m c.app c.node)))
    by (inr dead) = inr (arrives_dead e.to e.message q dead)

-- and reads no lock
pub unlocked_abroad : {lives : Node → ℕ} {c : Call} {error : Option Dep} (s : SystemView) (e : Envelope) (left : List Envelope)
    → Telling lives c error s → IsAbroad lives c error e
    → (arrived e.to e.message (without (unlocked s) left) ≡ unlocked (arrived e.to e.message (without s left)))
    × ((arrived e.to e.message (without s left)).locks ≡ s.locks)
unlocked_abroad {lives} {c} {error} s _ left f (tells m other) = by (cases_Bool (is_alive_at s m))
  where
    e : Envelope
    e = news lives c error m

    q : SystemView
    q = without s left

    by : (is_alive_at s m ≡ true) ⊎ (is_alive_at s m ≡ false)
        → (arrived e.to e.message (unlocked q) ≡ unlocked (arrived e.to e.message q)) × ((arrived e.to e.message q).locks ≡ s.locks)
    by (inl alive) =
        let d = heard m s f other alive in
        let to : Process = process_at (here_in lives m) role.DistAc in
        let old : LiveView = node_at s m in
        let there : live_at s m ≡ Some old = there_is s m alive in
        let is : arrived e.to e.message q ≡ done to d.outs (with_node m (record old { dist = d.next }) q) =
        arrives_alive e.to e.message q alive (f.still.waits.same_lives m)
        ∙ turned_so m e.message s q old old.dist d there refl (f.still.waits.same_lives m) refl refl in (
          arrives_alive e.to e.message (unlocked q) alive (f.still.waits.same_lives m)
              ∙ turned_so m e.message s (unlocked q) old old.dist d there refl (f.still.waits.same_lives m) refl refl
              ∙ ap unlocked (sym is),
          ap (λ (x : SystemView). x.locks) is,
        )
    by (inr dead) = (
      arrives_dead e.to e.message (unlocked q) dead ∙ ap unlocked (sym (arrives_dead e.to e.message q dead)),
      ap (λ (x : SystemView). x.locks) (arrives_dead e.to e.message q dead),
    )
unlocked_abroad {lives} {c} {error} s _ left f (moves m other) = by (cases_Bool (is_alive_at s m))
  where
    e : Envelope
    e = learned lives c m

    q : SystemView
    q = without s left

    by : (is_alive_at s m ≡ true) ⊎ (is_alive_at s m ≡ false)
        → (arrived e.to e.message (unlocked q) ≡ unlocked (arrived e.to e.message q)) × ((arrived e.to e.message q).locks ≡ s.locks)
    by (inl alive) =
        let ch : Changed s.cluster s.files m e.message = moves_elsewhere s.cluster s.files m c.app c.node in
        let there : live_at s m ≡ Some (node_at s m) = there_is s m alive in
        let is = arrives_alive e.to e.message q alive (f.still.waits.same_lives m) ∙ ch.comes q (node_at s m) there refl refl in (
          arrives_alive e.to e.message (unlocked q) alive (f.still.waits.same_lives m)
              ∙ ch.comes (unlocked q) (node_at s m) there refl refl ∙ ap unlocked (sym is),
          ap (λ (x : SystemView). x.locks) is,
        )
    by (inr dead) = (
      arrives_dead e.to e.message (unlocked q) dead ∙ ap unlocked (sym (arrives_dead e.to e.message q dead)),
      ap (λ (x : SystemView). x.locks) (arrives_dead e.to e.message q dead),
    )

-- ---- what each message comes to

-- a node has acted
telling_on : {lives : Node → ℕ} {c : Call} {error : Option Dep} (m : Node) (s t : SystemView) → Telling lives c error s
    → Acted AtEase (IsLast lives c error) m s t → Telling lives c error t
telling_on {lives} {c} {error} m s t f acted =
    subst (Telling lives c error) (sym acted.is) (record {
      still = record {
        waits = waits_acted {K = IsLast lives c error} m (unlocked s) (unlocked t) f.still.waits (record {
          old = acted.old;
          new = acted.new;
          there = acted.there;
          more = acted.more;
          set = acted.set;
          seen = acted.seen;
          is = ap unlocked acted.is;
          life = acted.life;
          phase = acted.phase;
          stopped = acted.stopped;
          ending = acted.ending;
          rest = acted.rest;
          kinds = acted.kinds;
        });
        soon = f.still.soon;
      };
      kinds = All-append (IsLast lives c error) s.messages acted.more f.kinds acted.kinds;
      alive = alive_on m c.node s t acted ∙ f.alive;
    })

-- the call is answered, and its lock is free
pub answer_comes : {lives : Node → ℕ} {c : Call} {error : Option Dep} (o : Outcome) (s : SystemView) (left : List Envelope)
    → Telling lives c error s → is_known o ≡ false
    → arrived (answer_of lives c o).to (answer_of lives c o).message (without s left) ≡ answered_then c o (without s left)
answer_comes {lives} {c} o s left f known =
    answered_free c f.still.waits.stage o (without s left) f.still.waits.calls known f.alive
    (f.still.waits.same_lives c.node ∙ sym f.still.waits.life)

-- whatever comes
pub came_on : {lives : Node → ℕ} {c : Call} {error : Option Dep} (s : SystemView) (e : Envelope) (left : List Envelope)
    → Telling lives c error s → Taken e s.messages left → IsLast lives c error e
    → Telling lives c error (arrived e.to e.message (without s left))
came_on {lives} {c} {error} s _ left f taken (answers o known) =
    let g : Telling lives c error (without s left) = telling_left s (answer_of lives c o) left f taken in
    subst (Telling lives c error) (sym (answer_comes o s left f known))
    (record { still = holds_answered o (without s left) g.still; kinds = g.kinds; alive = g.alive })
came_on {lives} {c} {error} s e left f taken (abroad _ kind) = by (comes_abroad s e left f kind)
  where
    q : SystemView
    q = without s left

    by : Came AtEase (IsLast lives c error) e.to.node q (arrived e.to e.message q) → Telling lives c error (arrived e.to e.message q)
    by (inl acted) = telling_on e.to.node q (arrived e.to e.message q) (telling_left s e left f taken) acted
    by (inr same) = subst (Telling lives c error) (sym same) (telling_left s e left f taken)

-- whichever message comes first
pub goes_on : {lives : Node → ℕ} {c : Call} {error : Option Dep} (s t : SystemView) → Telling lives c error s → (s.messages ≡ [] → ⊥)
    → Delivers s t → Telling lives c error t
goes_on {lives} {c} {error} s t f some one =
    let come : Come s t = message_comes s t some one in
    let kind : IsLast lives c error come.message =
    (taken_all (IsLast lives c error) come.message s.messages come.left come.taken f.kinds).0 in
    subst (Telling lives c error) (sym come.is) (came_on s come.message come.left f come.taken kind)
