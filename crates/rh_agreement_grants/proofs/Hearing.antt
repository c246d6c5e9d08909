-- What another node's dist_ac does where it hears that an application runs: it tells its controller, if the application is started there,
-- and stays unoccupied. And what that of a node does at which it runs, where it hears of a permission, and that it runs elsewhere.
use Rattle.std.proofs.Common.{◌≡◌, ◌⊎◌, ◌&&◌, ℕ, Bool, true, false, not, cond, List, [], ◌∷◌, Option, Some, None, refl, sym, ap, subst, ◌∙◌, inl, inr}
use Rattle.std.specs.Prelude.{All}
use Rattle.std.proofs.lemmas.List.Elements.{All-nil}
use Rattle.std.proofs.lemmas.Option.{none-some, same_Some}
use Rattle.rh_model.specs.declared.node.App.{App}
use Rattle.rh_model.specs.declared.node.Node.{Node}
use Rattle.rh_otp_model.specs.declared.message.Message.{Message}
use Rattle.rh_otp_model.specs.declared.message.Message.TheVariants as message
use Rattle.rh_otp_model.specs.declared.output.Envelope.{Envelope}
use Rattle.rh_otp_model.specs.Own.{controls}
use Rattle.rh_otp_dist.specs.declared.state.Stand.TheVariants as stand
use Rattle.rh_otp_dist.specs.Attempts.{has_app}
use Rattle.rh_otp_dist.specs.Outside.{with_message}
use Rattle.rh_otp_dist.specs.State.{DistView, TurnView, with_state, with_permission}
use Rattle.rh_otp_dist.specs.Told.{add_remote}
use Rattle.rh_otp_dist.specs.Waiting.{takes}
use Rattle.rh_otp_system.specs.Outputs.{all_carried_out}
use Rattle.rh_otp_system.specs.State.{SystemView, live_at, node_at, with_node, is_alive_at}
use Rattle.rh_otp_system.specs.Working.{mailed}
use Rattle.rh_otp_crashes.specs.Crashes.{IsUnoccupied}
use Rattle.rh_otp_crashes.proofs.Starting.{heard, hears_so, hears_whatever, hears_at_rest}
use Rattle.rh_otp_crashes.proofs.Starting as starting
use Rattle.rh_otp_crashes.proofs.Turning.{own_in, turn, weighing, turned_by, none_on, idle_comes, waits_on, still_waits}
use Rattle.rh_otp_stops.proofs.Stopping.{there_is}
use Rattle.rh_otp_permits.proofs.Noting.{noted, notes_so, notes_whatever}
use Rattle.rh_agreement_spread.proofs.Hearing.{acted, sends_none}
use Rattle.rh_agreement_spread.proofs.HearingStarts.{learned_at}

-- it has told its controller, or nobody
pub record Hears (lives : Node → ℕ) (n : Node) (a : App) (m : Node) (q : SystemView) : Type 0 where
  pub next : Option DistView
  pub more : List Envelope
  pub kinds : (more ≡ []) ⊎ (more ≡ learned_at lives n a m ∷ [])
  pub comes : mailed m (message.AppStarted n a None) q ≡ acted m next more q
  pub free : (d : DistView) → next ≡ Some d → IsUnoccupied d

pub hears : (lives : Node → ℕ) (n m : Node) (a : App) (q : SystemView) → (node_at q m).life ≡ lives m → is_alive_at q m ≡ true
    → ((d : DistView) → (node_at q m).dist ≡ Some d → IsUnoccupied d) → Hears lives n a m q
hears lives n m a q same alive free = by (node_at q m).dist refl
  where
    x : Message
    x = message.AppStarted n a None

    there : live_at q m ≡ Some (node_at q m)
    there = there_is q m alive

    turn_of : DistView → TurnView
    turn_of d = turn q.cluster (own_in q.files m) m (lives m) d

    over_by : DistView → Bool → TurnView
    over_by d b = cond b (heard a n (turn_of d)) (add_remote a n (turn_of d))

    carried : (d : DistView) (b : Bool)
        → (more : List Envelope) × ((more ≡ []) ⊎ (more ≡ learned_at lives n a m ∷ []))
        × (turned_by m (node_at q m) (over_by d b) q ≡ acted m (Some (over_by d b).state) more q)
    carried d true = (learned_at lives n a m ∷ [], inr refl, refl)
    carried d false = ([], inl refl, sends_none m (Some (add_remote a n (turn_of d)).state) q)

    at : (d : DistView) → (node_at q m).dist ≡ Some d → (d.stand ≡ stand.Idle) ⊎ (d.stand ≡ stand.ForGo) → Hears lives n a m q
    at d has (inl is) =
        let t : TurnView = turn_of d in
        let over : TurnView = starting.hears a n t in
        let done = carried d (controls t.own a && has_app a t.state.started) in
        record {
          next = Some over.state;
          more = done.0;
          kinds = done.1;
          comes =
              idle_comes q.cluster q.files m (lives m) x d over (free d has) is refl
              (λ w. hears_so a n (weighing w t) (free d has).permits ∙ hears_whatever a n w t) q (node_at q m) there has same refl refl
              ∙ done.2;
          free = λ e same_state.
              subst IsUnoccupied (same_Some over.state e same_state)
              (hears_at_rest a n t refl refl (free d has).permits (free d has).parked);
        }
    at d has (inr is) = record {
      next = Some (with_message x d);
      more = [];
      kinds = inl refl;
      comes = waits_on m x q (node_at q m) d there has (free d has) is refl ∙ sends_none m (Some (with_message x d)) q;
      free = λ e same_state. subst IsUnoccupied (same_Some (with_message x d) e same_state) (still_waits x d (free d has) is refl);
    }

    by : (o : Option DistView) → (node_at q m).dist ≡ o → Hears lives n a m q
    by None none = record {
      next = None;
      more = [];
      kinds = inl refl;
      comes = none_on m x q (node_at q m) there none ∙ sends_none m None q;
      free = λ d is. absurd (none-some d is);
    }
    by (Some d) has = at d has (free d has).stand

-- ---- where it runs, and gives it up

-- it takes whatever comes, and has the application as started
pub record Heard (a : App) (before : DistView) : Type 0 where
  pub next : DistView
  pub free : IsUnoccupied next
  pub takes_all : next.stand ≡ stand.Idle
  pub started : has_app a next.started ≡ has_app a before.started

module _ (n m : Node) (a : App) (q : SystemView) (d : DistView) (has : (node_at q m).dist ≡ Some d) (alive : is_alive_at q m ≡ true)
    (free : IsUnoccupied d) (is : d.stand ≡ stand.Idle) where
  idle_free : (e : DistView) → e.stand ≡ stand.Idle → e.mail ≡ [] → e.p_reqs ≡ [] → e.parked ≡ [] → IsUnoccupied e
  idle_free e stands none permits parked = record {
    stand = inl stands;
    mail = subst (λ (l : List Message). All (λ (y : Message). takes e.stand y ≡ false) l) (sym none)
        (All-nil (λ (y : Message). takes e.stand y ≡ false));
    permits = permits;
    parked = parked;
  }

  abbrev t : TurnView
  t = turn q.cluster (own_in q.files m) m (node_at q m).life d

  -- it notes the permission
  abbrev over : TurnView
  over = with_state (with_permission n a true t.state) t

  notes_by : (b : Bool) → Heard a d × ((cond b t over).out ≡ [])
  notes_by true = (
    record { next = t.state; free = idle_free t.state refl refl free.permits free.parked; takes_all = refl; started = refl },
    refl,
  )
  notes_by false = (
    record { next = over.state; free = idle_free over.state refl refl free.permits free.parked; takes_all = refl; started = refl },
    refl,
  )

  noted_so : (b : Bool) → (notes_by b).0.next ≡ (cond b t over).state
  unfolding notes_by
  noted_so true = refl
  noted_so false = refl

  pub notes_there : (h : Heard a d)
      × (mailed m (message.NewPermission n a true false) q ≡ with_node m (record (node_at q m) { dist = Some h.next }) q)
  notes_there =
      let b : Bool = not (controls (own_in q.files m) a) in (
        (notes_by b).0,
        idle_comes q.cluster q.files m (node_at q m).life (message.NewPermission n a true false) d (noted n a true t) free is refl
            (λ w. notes_so n a true false (weighing w t) refl ∙ notes_whatever n a true w t) q (node_at q m) (there_is q m alive) has
            refl refl refl
            ∙ ap (λ outs. all_carried_out m outs (with_node m (record (node_at q m) { dist = Some (cond b t over).state }) q))
            (notes_by b).1
            ∙ (λ i. with_node m (record (node_at q m) { dist = Some (sym (noted_so b) i) }) q),
      )

  -- and tells its controller where it runs
  module _ (lives : Node → ℕ) (same : (node_at q m).life ≡ lives m) (controlled : controls (own_in q.files m) a ≡ true)
      (started : has_app a d.started ≡ true) where
    abbrev u : TurnView
    u = turn q.cluster (own_in q.files m) m (lives m) d

    pub tells_there : (h : Heard a d) × (mailed m (message.AppStarted n a None) q ≡ acted m (Some h.next) (learned_at lives n a m ∷ []) q)
    tells_there = (
      record {
        next = (heard a n u).state;
        free = idle_free (heard a n u).state refl refl refl free.parked;
        takes_all = refl;
        started = refl;
      },
      idle_comes q.cluster q.files m (lives m) (message.AppStarted n a None) d (heard a n u) free is refl
          (λ w. hears_so a n (weighing w u) free.permits
          ∙ (λ i. cond (controlled i && started i) (heard a n (weighing w u)) (add_remote a n (weighing w u))))
          q (node_at q m) (there_is q m alive) has same refl refl,
    )
