-- What another node's dist_ac does behind a forbid by which an application stops: it notes what it is told, and sends nothing.
use Rattle.std.proofs.Common.{◌≡◌, ◌≢◌, Bool, true, false, not, cond, List, [], Option, Some, None, refl, sym, ap, subst, ◌∙◌, inl, inr}
use Rattle.std.specs.Prelude.{All}
use Rattle.std.proofs.lemmas.List.Elements.{All-nil}
use Rattle.std.proofs.lemmas.Option.{none-some, same_Some}
use Rattle.rh_model.specs.declared.node.App.{App}
use Rattle.rh_model.specs.declared.node.Node.{Node}
use Rattle.rh_otp_model.specs.declared.message.Message.{Message}
use Rattle.rh_otp_model.specs.declared.message.Message.TheVariants as message
use Rattle.rh_otp_model.specs.Own.{OwnView, controls}
use Rattle.rh_otp_dist.specs.declared.state.Stand.TheVariants as stand
use Rattle.rh_otp_dist.specs.Outside.{with_message}
use Rattle.rh_otp_dist.specs.State.{DistView, TurnView, with_state, with_permission, may_run}
use Rattle.rh_otp_dist.specs.Told.{app_stopped}
use Rattle.rh_otp_dist.specs.Waiting.{takes, is_go}
use Rattle.rh_otp_system.specs.Outputs.{all_carried_out}
use Rattle.rh_otp_system.specs.State.{SystemView, live_at, node_at, with_node, is_alive_at}
use Rattle.rh_otp_system.specs.Working.{mailed}
use Rattle.rh_otp_crashes.specs.Crashes.{IsUnoccupied}
use Rattle.rh_otp_crashes.proofs.Turning.{own_in, turn, weighing, none_on, idle_comes, waits_on, still_waits}
use Rattle.rh_otp_stops.proofs.Ending.{forgot}
use Rattle.rh_otp_stops.proofs.Stopping.{there_is}
use Rattle.rh_otp_permits.proofs.Noting.{noted, notes_whatever}
use Rattle.rh_otp_moves.proofs.Telling.{may_still, notes_so}

-- ---- at another node

-- one that takes whatever comes, and has the application in its node's own `distributed`, may not run it
abbrev pub IsTame : App → OwnView → Node → DistView → Type 0
IsTame a own m d = d.stand ≡ stand.Idle → controls own a ≡ true → may_run d m a ≡ false

-- what its dist_ac does, which stays unoccupied and may run no more than before
pub record Hears (a : App) (m : Node) (x : Message) (q : SystemView) : Type 0 where
  pub next : Option DistView
  pub comes : mailed m x q ≡ with_node m (record (node_at q m) { dist = next }) q
  pub free : (d : DistView) → next ≡ Some d → IsUnoccupied d
  pub tame : (d : DistView) → next ≡ Some d → (before : DistView) × ((node_at q m).dist ≡ Some before)
      × (IsTame a (own_in q.files m) m before → IsTame a (own_in q.files m) m d)

module _ (a : App) (m : Node) (q : SystemView) (alive : is_alive_at q m ≡ true)
    (free : (d : DistView) → (node_at q m).dist ≡ Some d → IsUnoccupied d) where
  there : live_at q m ≡ Some (node_at q m)
  there = there_is q m alive

  -- it takes whatever comes
  idle_free : (d e : DistView) → IsUnoccupied d → e.stand ≡ stand.Idle → e.mail ≡ [] → e.p_reqs ≡ d.p_reqs → e.parked ≡ d.parked
      → IsUnoccupied e
  idle_free d e was is none permits parked = record {
    stand = inl is;
    mail = subst (λ (l : List Message). All (λ (y : Message). takes e.stand y ≡ false) l) (sym none)
        (All-nil (λ (y : Message). takes e.stand y ≡ false));
    permits = permits ∙ was.permits;
    parked = parked ∙ was.parked;
  }

  none_hears : (x : Message) → (node_at q m).dist ≡ None → Hears a m x q
  none_hears x none = record {
    next = None;
    comes = none_on m x q (node_at q m) there none;
    free = λ d is. absurd (none-some d is);
    tame = λ d is. absurd (none-some d is);
  }

  waits_hears : (x : Message) (d : DistView) → (node_at q m).dist ≡ Some d → d.stand ≡ stand.ForGo → is_go x ≡ false → Hears a m x q
  waits_hears x d has is no_go = record {
    next = Some (with_message x d);
    comes = waits_on m x q (node_at q m) d there has (free d has) is no_go;
    free = λ e same. subst IsUnoccupied (same_Some (with_message x d) e same) (still_waits x d (free d has) is no_go);
    tame = λ e same. (d, has, λ tame. subst (IsTame a (own_in q.files m) m) (same_Some (with_message x d) e same) tame);
  }

  abbrev t : DistView → TurnView
  t d = turn q.cluster (own_in q.files m) m (node_at q m).life d

  -- that it has stopped
  stop_heard : (d : DistView) → (node_at q m).dist ≡ Some d → d.stand ≡ stand.Idle → Hears a m (message.AppStopped a) q
  unfolding app_stopped
  stop_heard d has is = record {
    next = Some (forgot a (t d)).state;
    comes = idle_comes q.cluster q.files m (node_at q m).life (message.AppStopped a) d (forgot a (t d)) (free d has) is refl
        (λ w. refl) q (node_at q m) there has refl refl refl;
    free = λ e same.
        subst IsUnoccupied (same_Some (forgot a (t d)).state e same)
        (idle_free d (forgot a (t d)).state (free d has) refl refl refl refl);
    tame = λ e same. (
      d,
      has,
      λ tame. subst (IsTame a (own_in q.files m) m) (same_Some (forgot a (t d)).state e same) (λ idle listed. tame is listed),
    );
  }

  -- the permission of another node, at which it ran
  note_heard : (n : Node) → m.0 ≢ n.0 → (d : DistView) → (node_at q m).dist ≡ Some d → d.stand ≡ stand.Idle
      → IsTame a (own_in q.files m) m d → Hears a m (message.NewPermission n a false true) q
  note_heard n other d has is tame = record {
    next = Some (noted n a false (t d)).state;
    comes =
        idle_comes q.cluster q.files m (node_at q m).life (message.NewPermission n a false true) d (noted n a false (t d)) (free d has) is
        refl
        (λ w. notes_so n a false (weighing w (t d)) other (λ no listed. tame is listed) ∙ notes_whatever n a false w (t d)) q (node_at q m)
        there has refl refl refl
        ∙ ap (λ outs. all_carried_out m outs (with_node m (record (node_at q m) { dist = Some (noted n a false (t d)).state }) q))
        (silent (not (controls (own_in q.files m) a)));
    free = λ e same. subst IsUnoccupied (same_Some (noted n a false (t d)).state e same) (stays_free (not (controls (own_in q.files m) a)));
    tame = λ e same. (
      d,
      has,
      λ was. subst (IsTame a (own_in q.files m) m) (same_Some (noted n a false (t d)).state e same)
          (stays_tame (not (controls (own_in q.files m) a))),
    );
  }
    where
      over : TurnView
      over = with_state (with_permission n a false (t d).state) (t d)

      silent : (b : Bool) → (cond b (t d) over).out ≡ []
      silent true = refl
      silent false = refl

      stays_free : (b : Bool) → IsUnoccupied (cond b (t d) over).state
      stays_free true = idle_free d (t d).state (free d has) refl refl refl refl
      stays_free false = idle_free d over.state (free d has) refl refl refl refl

      stays_tame : (b : Bool) → IsTame a (own_in q.files m) m (cond b (t d) over).state
      stays_tame true idle listed = tame is listed
      stays_tame false idle listed = may_still (t d).state n m a false other ∙ tame is listed

  -- whatever comes
  pub hears_stop : Hears a m (message.AppStopped a) q
  hears_stop = by (node_at q m).dist refl
    where
      by : (o : Option DistView) → (node_at q m).dist ≡ o → Hears a m (message.AppStopped a) q
      by None none = none_hears (message.AppStopped a) none
      by (Some d) has = elim (free d has).stand [
        | inl is ↦ stop_heard d has is
        | inr is ↦ waits_hears (message.AppStopped a) d has is refl
      ]

  pub hears_note : (n : Node) → m.0 ≢ n.0 → ((d : DistView) → (node_at q m).dist ≡ Some d → IsTame a (own_in q.files m) m d)
      → Hears a m (message.NewPermission n a false true) q
  hears_note n other tame = by (node_at q m).dist refl
    where
      by : (o : Option DistView) → (node_at q m).dist ≡ o → Hears a m (message.NewPermission n a false true) q
      by None none = none_hears (message.NewPermission n a false true) none
      by (Some d) has = elim (free d has).stand [
        | inl is ↦ note_heard n other d has is (tame d has)
        | inr is ↦ waits_hears (message.NewPermission n a false true) d has is refl
      ]
