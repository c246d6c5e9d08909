-- Behind a permission that its dist_ac has set, whichever message arrives first: nodes are as far as they were, each other dist_ac notes it
-- and sends nothing, one answer is owed and then comes.
use Rattle.std.proofs.Common.{◌≡◌, ◌≢◌, ◌⊎◌, ◌<◌, ◌+◌, ◌++◌, ◌&&◌, ℕ, Bool, true, false, not, cond, List, [], ◌∷◌, Option, Some, None, refl, sym, ap, subst, ◌∙◌, inl, inr, arith}
use Rattle.std.specs.Prelude.{All}
use Rattle.std.proofs.lemmas.Bool.{cases_Bool}
use Rattle.std.proofs.lemmas.List.Elements.{All-nil}
use Rattle.std.proofs.lemmas.List.{append-nil}
use Rattle.std.proofs.lemmas.Option.{none-some, same_Some}
use Rattle.rh_model.specs.declared.node.App.{App}
use Rattle.rh_model.specs.declared.node.Node.{Node}
use Rattle.rh_otp_model.specs.declared.fault.Outcome.TheVariants as outcome
use Rattle.rh_otp_model.specs.declared.message.Message.{Message}
use Rattle.rh_otp_model.specs.declared.message.Message.TheVariants as message
use Rattle.rh_otp_model.specs.declared.output.Envelope.{Envelope}
use Rattle.rh_otp_model.specs.declared.output.Event.TheVariants as event
use Rattle.rh_otp_model.specs.Own.{controls}
use Rattle.rh_otp_dist.specs.declared.state.Stand.TheVariants as stand
use Rattle.rh_otp_dist.specs.Outside.{with_message}
use Rattle.rh_otp_dist.specs.State.{DistView, TurnView, with_state, with_permission}
use Rattle.rh_otp_dist.specs.Waiting.{takes}
use Rattle.rh_otp_net.specs.declared.order.Order.{Order}
use Rattle.rh_otp_node.specs.Live.{LiveView}
use Rattle.rh_otp_controller.specs.Calls.{is_here}
use Rattle.rh_otp_controller.specs.State.{ControllerView}
use Rattle.rh_otp_model.specs.declared.message.Change.TheVariants as change_of
use Rattle.rh_otp_model.specs.declared.process.Role.TheVariants as role
use Rattle.rh_otp_model.specs.Processes.{process_at}
use Rattle.rh_otp_model.specs.Rows.{keyfind}
use Rattle.rh_otp_laws.proofs.Nodes.{node_written, others_same}
use Rattle.rh_otp_system.specs.declared.calls.Call.{Call}
use Rattle.rh_otp_system.specs.declared.calls.Stage.TheVariants as stage
use Rattle.rh_otp_system.specs.Delivering.{arrived}
use Rattle.rh_otp_system.specs.Moves.{Reaches, is_quiet_behind}
use Rattle.rh_otp_system.specs.Outputs.{all_carried_out}
use Rattle.rh_otp_system.specs.State.{SystemView, live_at, node_at, with_node, is_alive_at}
use Rattle.rh_otp_system.specs.Working.{mailed}
use Rattle.rh_otp_orders.proofs.Taking.{Taken}
use Rattle.rh_otp_crashes.specs.Crashes.{IsUnoccupied}
use Rattle.rh_otp_crashes.proofs.Peace.{here_in, without, arrives_alive, arrives_dead, taken_all}
use Rattle.rh_otp_crashes.proofs.Turning.{own_in, turn, weighing, none_on, idle_comes, waits_on, still_waits}
use Rattle.rh_otp_stops.proofs.Answering.{at_stage, answered_free}
use Rattle.rh_otp_stops.proofs.Stopping.{there_is}
use Rattle.rh_otp_crashes.proofs.Starting.{moves_so, moved, moved_by}
use Rattle.rh_otp_permits.proofs.Noting.{answer_of, note, noted, notes_so, notes_whatever, answered_then}
use Rattle.rh_agreement_calls.proofs.Moving.{done}
use Rattle.rh_agreement_spread.proofs.Running.{seen_none, not_here_then}
use Rattle.rh_agreement_spread.proofs.Following.{owed}
use Rattle.rh_agreement_spread.proofs.Summing.{sum_of, sum_taken}
use Rattle.rh_agreement_permits.proofs.Coming.{ComesOn, Keeps, still_alive, keeps_with, keeps_on, keeps_answered}
use Rattle.rh_agreement_permits.proofs.Coming as coming

-- ---- at another node

-- what its dist_ac does, and that it stays unoccupied
pub record Hears (m : Node) (x : Message) (q : SystemView) : Type 0 where
  pub next : Option DistView
  pub comes : mailed m x q ≡ with_node m (record (node_at q m) { dist = next }) q
  pub free : (d : DistView) → next ≡ Some d → IsUnoccupied d

pub hears : (m n : Node) (a : App) (allow his : Bool) (q : SystemView) → is_alive_at q m ≡ true → (not allow && his) ≡ false
    → ((d : DistView) → (node_at q m).dist ≡ Some d → IsUnoccupied d) → Hears m (message.NewPermission n a allow his) q
hears m n a allow his q alive quiet free = by (node_at q m).dist refl
  where
    x : Message
    x = message.NewPermission n a allow his

    there : live_at q m ≡ Some (node_at q m)
    there = there_is q m alive

    silent : (b : Bool) (t over : TurnView) → t.out ≡ [] → over.out ≡ [] → (cond b t over).out ≡ []
    silent true t over none none_too = none
    silent false t over none none_too = none_too

    stays_free : (b : Bool) (t over : TurnView) → IsUnoccupied t.state → IsUnoccupied over.state → IsUnoccupied (cond b t over).state
    stays_free true t over is is_too = is
    stays_free false t over is is_too = is_too

    at : (d : DistView) → (node_at q m).dist ≡ Some d → (d.stand ≡ stand.Idle) ⊎ (d.stand ≡ stand.ForGo) → Hears m x q
    at d has (inl is) =
        let t : TurnView = turn q.cluster (own_in q.files m) m (node_at q m).life d in
        let over : TurnView = with_state (with_permission n a allow t.state) t in
        let idle_free : IsUnoccupied t.state = record {
          stand = inl refl;
          mail = All-nil (λ (y : Message). takes stand.Idle y ≡ false);
          permits = (free d has).permits;
          parked = (free d has).parked;
        } in
        let noted_free : IsUnoccupied over.state = record {
          stand = inl refl;
          mail = All-nil (λ (y : Message). takes stand.Idle y ≡ false);
          permits = (free d has).permits;
          parked = (free d has).parked;
        } in
        record {
          next = Some (noted n a allow t).state;
          comes =
              idle_comes q.cluster q.files m (node_at q m).life x d (noted n a allow t) (free d has) is refl
              (λ w. notes_so n a allow his (weighing w t) quiet ∙ notes_whatever n a allow w t) q (node_at q m) there has refl refl refl
              ∙ ap (λ outs. all_carried_out m outs (with_node m (record (node_at q m) { dist = Some (noted n a allow t).state }) q))
              (silent (not (controls t.own a)) t over refl refl);
          free = λ e same.
              subst IsUnoccupied (same_Some (noted n a allow t).state e same)
              (stays_free (not (controls t.own a)) t over idle_free noted_free);
        }
    at d has (inr is) = record {
      next = Some (with_message x d);
      comes = waits_on m x q (node_at q m) d there has (free d has) is refl;
      free = λ e same. subst IsUnoccupied (same_Some (with_message x d) e same) (still_waits x d (free d has) is refl);
    }

    by : (o : Option DistView) → (node_at q m).dist ≡ o → Hears m x q
    by None none = record {
      next = None;
      comes = none_on m x q (node_at q m) there none;
      free = λ d is. absurd (none-some d is);
    }
    by (Some d) has = at d has (free d has).stand

-- ---- what is on its way

-- where the application runs, as dist_ac tells its own controller
abbrev pub learned : (Node → ℕ) → Call → Node → Envelope
learned lives c j = record {
  from = process_at (here_in lives c.node) role.DistAc;
  to = process_at (here_in lives c.node) role.Controller;
  message = message.Change c.app (change_of.Started j);
}

-- the caller is answered that all is well, and dist_acs are told; and the controller may learn where the application runs
pub data IsSaid (lives : Node → ℕ) (c : Call) (allow his may : Bool) : Envelope → Type 0 where
  answers : IsSaid lives c allow his may (answer_of lives c outcome.Done)
  tells : (m : Node) → m.0 ≢ c.node.0 → IsSaid lives c allow his may (note lives c allow his m)
  learns : may ≡ true → (j : Node) → IsSaid lives c allow his may (learned lives c j)

-- a controller that learns it goes on to its end or not, as before
ending_kept : (a : App) (j : Node) (x : ControllerView) → (moved_by a j x).is_ending ≡ x.is_ending
ending_kept a j x = by x.is_ending
  where
    by : (b : Bool) → (cond b x (moved a j x)).is_ending ≡ x.is_ending
    by true = refl
    by false = refl

abbrev pub one : Envelope → ℕ
one e = 1

-- ---- what stays as it was

module _ (lives : Node → ℕ) (c : Call) (allow his may : Bool) (base : SystemView) (alive_there : is_alive_at base c.node ≡ true)
    (life : c.life ≡ lives c.node) (quiet : (not allow && his) ≡ false) where
  -- the answer is on its way, or has come
  abbrev pub Awaits : SystemView → Type 0
  Awaits s =
      ((s.calls ≡ at_stage c stage.DistAc ∷ []) × (s.events ≡ []) × (sum_of owed s.messages ≡ 1))
      ⊎ ((s.calls ≡ done c ∷ []) × (s.events ≡ event.Answered c.number ∷ []) × (sum_of owed s.messages ≡ 0))

  -- the application doesn't run at the node, as its controller knows
  abbrev pub RunsNot : SystemView → Type 0
  RunsNot s = is_here (keyfind c.app (node_at s c.node).controller.running) ≡ false

  pub record Follows (s : SystemView) : Type 0 where
    pub keeps : Keeps lives c base s
    pub said : All (IsSaid lives c allow his may) s.messages
    pub awaits : Awaits s
    pub runs_not : may ≡ true → RunsNot s

  abbrev ComesOnHere : SystemView → SystemView → Type 0
  ComesOnHere s t = ComesOn Follows one s t

  module _ (s : SystemView) (e : Envelope) (left : List Envelope) (f : Follows s) (taken : Taken e s.messages left)
      (kind : IsSaid lives c allow his may e) where
    abbrev q : SystemView
    q = without s left

    abbrev then : SystemView
    then = arrived e.to e.message q

    kinds : IsSaid lives c allow his may e × All (IsSaid lives c allow his may) left
    kinds = taken_all (IsSaid lives c allow his may) e s.messages left taken f.said

    costs : sum_of one s.messages ≡ 1 + sum_of one left
    costs = sum_taken one e s.messages left taken

    owes : sum_of owed s.messages ≡ owed e + sum_of owed left
    owes = sum_taken owed e s.messages left taken

    awake : is_alive_at s c.node ≡ true
    awake = still_alive lives c base s c.node f.keeps ∙ alive_there

    -- where it owes nothing the answer is still owed, or not
    awaits_on : (t : SystemView) → owed e ≡ 0 → t.calls ≡ s.calls → t.events ≡ s.events → t.messages ≡ left → Awaits t
    awaits_on t none calls events messages =
        let is : sum_of owed t.messages ≡ sum_of owed left = ap (sum_of owed) messages in
        elim f.awaits [
          | inl on ↦ inl (calls ∙ on.0, events ∙ on.1, omega (arith, is, owes, none, on.2))
          | inr over ↦ inr (calls ∙ over.0, events ∙ over.1, omega (arith, is, owes, none, over.2))
        ]

    -- this is what comes of it, and no message more
    comes_to : (t : SystemView) → then ≡ t → t.messages ≡ left → Keeps lives c base t → Awaits t → (may ≡ true → RunsNot t)
        → ComesOnHere s then
    comes_to t same messages keeps awaits runs_not =
        subst (ComesOnHere s) (sym same) (record {
          then = record {
            keeps = keeps;
            said = subst (All (IsSaid lives c allow his may)) (sym messages) kinds.1;
            awaits = awaits;
            runs_not = runs_not;
          };
          less = let is : sum_of one t.messages ≡ sum_of one left = ap (sum_of one) messages in omega (arith, is, costs);
        })

  comes_on : (s : SystemView) (e : Envelope) (left : List Envelope) → Follows s → Taken e s.messages left → IsSaid lives c allow his may e
      → ComesOnHere s (arrived e.to e.message (without s left))
  comes_on s _ left f taken answers =
      let e : Envelope = answer_of lives c outcome.Done in
      let q : SystemView = without s left in
      let owes_one : sum_of owed s.messages ≡ 1 + sum_of owed left = owes s e left f taken answers in
      comes_to s e left f taken answers (answered_then c outcome.Done q)
      (answered_free c f.keeps.stage outcome.Done q f.keeps.calls refl (awake s e left f taken answers)
      (f.keeps.same_lives c.node ∙ sym life)) refl
      (keeps_answered lives c base q outcome.Done _ _ (keeps_with lives c base s left f.keeps))
      (elim f.awaits [
        | inl on ↦ inr (
          refl,
          ap (λ events. events ++ event.Answered c.number ∷ []) on.1,
          omega (arith, owes_one, on.2),
        )
        | inr over ↦ absurd (omega (arith, owes_one, over.2))
      ])
      f.runs_not
  comes_on s _ left f taken (tells m other) = by (cases_Bool (is_alive_at s m))
    where
      e : Envelope
      e = note lives c allow his m

      q : SystemView
      q = without s left

      kind : IsSaid lives c allow his may e
      kind = tells m other

      by : (is_alive_at s m ≡ true) ⊎ (is_alive_at s m ≡ false) → ComesOnHere s (arrived e.to e.message q)
      by (inl up) =
          let h : Hears m (message.NewPermission c.node c.app allow his) q =
          hears m c.node c.app allow his q up quiet (λ d has. f.keeps.dists m d up has) in
          let new : LiveView = record (node_at q m) { dist = h.next } in
          comes_to s e left f taken kind (with_node m new q)
          (arrives_alive e.to e.message q up (f.keeps.same_lives m) ∙ h.comes) refl
          (keeps_on lives c base q m new left s.events (keeps_with lives c base s left f.keeps)
          (record { phase = refl; life = refl; ending = refl; stopped = refl; rest = h.free }))
          (awaits_on s e left f taken kind (with_node m new q) refl refl refl refl)
          (λ is. ap (λ (v : LiveView). is_here (keyfind c.app v.controller.running)) (others_same q m c.node new (λ one. other (sym one)))
          ∙ f.runs_not is)
      by (inr dead) =
          comes_to s e left f taken kind q (arrives_dead e.to e.message q dead) refl (keeps_with lives c base s left f.keeps)
          (awaits_on s e left f taken kind q refl refl refl refl) f.runs_not
  comes_on s _ left f taken (learns is j) =
      let n : Node = c.node in
      let e : Envelope = learned lives c j in
      let q : SystemView = without s left in
      let kind : IsSaid lives c allow his may e = learns is j in
      let up : is_alive_at s n ≡ true = awake s e left f taken kind in
      let x : ControllerView = (node_at q n).controller in
      let new : LiveView = record (node_at q n) { controller = moved_by c.app j x } in
      comes_to s e left f taken kind (with_node n new q)
      (arrives_alive e.to e.message q up (f.keeps.same_lives n)
      ∙ moves_so n c.app j q (node_at q n) (there_is q n up)
      ∙ (λ i. record (with_node n new q) { events = s.events ++ seen_none n c.app x (f.runs_not is) i })
      ∙ (λ i. record (with_node n new q) { events = append-nil s.events i })) refl
      (keeps_on lives c base q n new left s.events (keeps_with lives c base s left f.keeps) (record {
        phase = refl;
        life = refl;
        ending = ending_kept c.app j x;
        stopped = refl;
        rest = λ d has. f.keeps.dists n d up has;
      }))
      (awaits_on s e left f taken kind (with_node n new q) refl refl refl refl)
      (λ may_learn.
      ap (λ (v : LiveView). is_here (keyfind c.app v.controller.running)) (node_written q n (node_at q n) new (there_is q n up))
      ∙ not_here_then c.app j x (f.runs_not may_learn))

  -- ---- until nothing moves

  step : (s : SystemView) (e : Envelope) (left : List Envelope) → Follows s → Taken e s.messages left
      → ComesOnHere s (arrived e.to e.message (without s left))
  step s e left f taken =
      comes_on s e left f taken (taken_all (IsSaid lives c allow his may) e s.messages left taken f.said).0

  pub follow_on : (s t : SystemView) → Reaches s t → Follows s → Follows t
  follow_on s t reaches f = coming.follow_on lives c base Follows one (λ u g. g.keeps) step s t reaches f

  pub quiet_soon : (k : ℕ) (order : Order) (s : SystemView) → Follows s → sum_of one s.messages < k → is_quiet_behind k order s ≡ true
  quiet_soon k order s f within = coming.quiet_soon lives c base Follows one (λ u g. g.keeps) step k order s f within
