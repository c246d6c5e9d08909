-- What a dist_ac does where another node tells that an application runs there, or couldn't be started there.
use Rattle.std.proofs.Common.{◌≡◌, ◌⊎◌, ◌++◌, ◌&&◌, ℕ, Bool, true, false, cond, List, [], ◌∷◌, Option, Some, None, refl, sym, ap, subst, ◌∙◌, inl, inr}
use Rattle.std.specs.Prelude.{All}
use Rattle.std.proofs.lemmas.List.Elements.{All-nil, All-cons}
use Rattle.rh_model.specs.ClusterView.{ClusterView}
use Rattle.rh_model.specs.declared.node.App.{App}
use Rattle.rh_model.specs.declared.node.Node.{Node}
use Rattle.rh_model.specs.declared.settings.Dep.{Dep}
use Rattle.rh_otp_model.specs.declared.message.Change.TheVariants as change_of
use Rattle.rh_otp_model.specs.declared.message.Message.{Message}
use Rattle.rh_otp_model.specs.declared.message.Message.TheVariants as message
use Rattle.rh_otp_model.specs.declared.output.Envelope.{Envelope}
use Rattle.rh_otp_model.specs.declared.output.Output.TheVariants as output
use Rattle.rh_otp_model.specs.declared.process.Role.TheVariants as role
use Rattle.rh_otp_model.specs.declared.wait.OwnFile.{OwnFile}
use Rattle.rh_otp_model.specs.Own.{controls}
use Rattle.rh_otp_model.specs.Rows.{keydelete, without_rows}
use Rattle.rh_otp_dist.specs.declared.state.Stand.TheVariants as stand
use Rattle.rh_otp_dist.specs.declared.state.Standing.TheVariants as standing
use Rattle.rh_otp_dist.specs.Attempts.{has_app}
use Rattle.rh_otp_dist.specs.State.{DistView, TurnView, with_standing}
use Rattle.rh_otp_dist.specs.Told.{app_started, add_remote, answer_permits, answer_waits, with_waits}
use Rattle.rh_otp_dist.specs.Waiting.{takes}
use Rattle.rh_otp_crashes.specs.Crashes.{IsUnoccupied}
use Rattle.rh_otp_crashes.proofs.Carrying.{IsPlain, letters}
use Rattle.rh_otp_crashes.proofs.Starting.{hears_of, runs_there_now}
use Rattle.rh_otp_crashes.proofs.Turning.{Turned, own_in, turn, weighing, has_none, has_waiting, has_idle}

-- its controller is told all the same
abbrev failed : App → Node → TurnView → TurnView
failed a m t = record t {
  state = record (with_standing a standing.Undefined t.state) { tmp_weights = keydelete a t.state.tmp_weights; p_reqs = [] };
  out = t.out ++ output.Send (runs_there_now a m t) ∷ [];
}

abbrev fails : App → Node → TurnView → TurnView
fails a m t = cond (controls t.own a && has_app a t.state.started) (failed a m t) (add_remote a m t)

fails_so : (a : App) (m : Node) (d : Dep) (t : TurnView) → t.state.p_reqs ≡ [] → app_started m a (Some d) t ≡ fails a m t
unfolding app_started answer_permits
fails_so a m d t none =
    ap (λ (x : TurnView). cond (controls t.own a && has_app a t.state.started) x (add_remote a m t))
    (ap (λ rows. with_waits (without_rows a rows) (answer_waits a rows (record t {
      state = record (with_standing a standing.Undefined t.state) { tmp_weights = keydelete a t.state.tmp_weights };
      out = t.out ++ output.Send (runs_there_now a m t) ∷ [];
    }))) none)

fails_whatever : (a : App) (m : Node) (w : ℕ) (t : TurnView) → fails a m (weighing w t) ≡ weighing w (fails a m t)
fails_whatever a m w t = by (controls t.own a && has_app a t.state.started)
  where
    by : (b : Bool)
        → cond b (weighing w (failed a m t)) (weighing w (add_remote a m t)) ≡ weighing w (cond b (failed a m t) (add_remote a m t))
    by true = refl
    by false = refl

hears_failed : (K : Envelope → Type 0) (c : ClusterView) (files : List OwnFile) (n : Node) (life : ℕ) (a : App) (m : Node) (lack : Dep)
    (d : DistView)
    → K (record {
      from = record { role = role.DistAc; node = n; life = life };
      to = record { role = role.Controller; node = n; life = life };
      message = message.Change a (change_of.Started m);
    })
    → IsUnoccupied d → d.stand ≡ stand.Idle → Turned K c files n life (message.AppStarted m a (Some lack)) (Some d)
hears_failed K c files n life a m lack d kind free is =
    has_idle K c files n life (message.AppStarted m a (Some lack)) d (fails a m t) free is refl
    (λ w. fails_so a m lack (weighing w t) free.permits ∙ fails_whatever a m w t) (plain b) (kinds b) (rest b)
  where
    t : TurnView
    t = turn c (own_in files n) n life d

    b : Bool
    b = controls t.own a && has_app a t.state.started

    so : (e : DistView) → e.stand ≡ stand.Idle → e.mail ≡ [] → e.p_reqs ≡ [] → e.parked ≡ [] → IsUnoccupied e
    so e idle none permits parked = record {
      stand = inl idle;
      mail = subst (λ (l : List Message). All (λ (x : Message). takes e.stand x ≡ false) l) (sym none)
          (All-nil (λ (x : Message). takes e.stand x ≡ false));
      permits = permits;
      parked = parked;
    }

    plain : (b : Bool) → All IsPlain (cond b (failed a m t) (add_remote a m t)).out
    plain true = All-cons IsPlain (output.Send (runs_there_now a m t)) [] tt (All-nil IsPlain)
    plain false = All-nil IsPlain

    kinds : (b : Bool) → All K (letters (cond b (failed a m t) (add_remote a m t)).out)
    kinds true = All-cons K (runs_there_now a m t) [] kind (All-nil K)
    kinds false = All-nil K

    rest : (b : Bool) → IsUnoccupied (cond b (failed a m t) (add_remote a m t)).state
    rest true = so (failed a m t).state refl refl refl free.parked
    rest false = so (add_remote a m t).state refl refl free.permits free.parked

-- whatever it is told of the start
pub hears_any : (K : Envelope → Type 0) (c : ClusterView) (files : List OwnFile) (n : Node) (life : ℕ) (a : App) (m : Node)
    (error : Option Dep) (o : Option DistView)
    → K (record {
      from = record { role = role.DistAc; node = n; life = life };
      to = record { role = role.Controller; node = n; life = life };
      message = message.Change a (change_of.Started m);
    })
    → ((d : DistView) → o ≡ Some d → IsUnoccupied d) → Turned K c files n life (message.AppStarted m a error) o
hears_any K c files n life a m None o kind free = hears_of K c files n life a m o kind free
hears_any K c files n life a m (Some lack) None kind free = has_none K c files n life (message.AppStarted m a (Some lack))
hears_any K c files n life a m (Some lack) (Some d) kind free = by (free d refl).stand
  where
    by : (d.stand ≡ stand.Idle) ⊎ (d.stand ≡ stand.ForGo) → Turned K c files n life (message.AppStarted m a (Some lack)) (Some d)
    by (inl is) = hears_failed K c files n life a m lack d kind (free d refl) is
    by (inr is) = has_waiting K c files n life (message.AppStarted m a (Some lack)) d (free d refl) is refl
