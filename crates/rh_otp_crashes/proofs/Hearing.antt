-- What the dist_acs of other nodes do at the news and at timers, and how the application stands then.
use Rattle.std.proofs.Common.{◌≡◌, ◌&&◌, ℕ, Bool, true, false, cond, List, [], Option, Some, None, refl, sym, ap, subst, ◌∙◌, inl, inr}
use Rattle.std.specs.Prelude.{All}
use Rattle.std.proofs.lemmas.List.Elements.{All-nil, All-cons}
use Rattle.std.proofs.lemmas.Option.{none-some, same_Some}
use Rattle.rh_model.specs.ClusterView.{ClusterView}
use Rattle.rh_model.specs.declared.node.App.{App}
use Rattle.rh_model.specs.declared.node.Node.{Node}
use Rattle.rh_otp_model.specs.declared.message.Change.TheVariants as change_of
use Rattle.rh_otp_model.specs.declared.message.Message.{Message}
use Rattle.rh_otp_model.specs.declared.message.Message.TheVariants as message
use Rattle.rh_otp_model.specs.declared.output.Envelope.{Envelope}
use Rattle.rh_otp_model.specs.declared.output.Output.{Output}
use Rattle.rh_otp_model.specs.declared.process.Role.TheVariants as role
use Rattle.rh_otp_model.specs.declared.wait.OwnFile.{OwnFile}
use Rattle.rh_otp_model.specs.Own.{controls}
use Rattle.rh_otp_dist.specs.declared.state.Stand.TheVariants as stand
use Rattle.rh_otp_dist.specs.Attempts.{has_app}
use Rattle.rh_otp_dist.specs.State.{DistView, TurnView, standing_of}
use Rattle.rh_otp_dist.specs.Told.{add_remote}
use Rattle.rh_otp_dist.specs.Waiting.{takes}
use Rattle.rh_otp_node.specs.Live.{LiveView}
use Rattle.rh_otp_system.specs.Outputs.{all_carried_out}
use Rattle.rh_otp_system.specs.State.{SystemView, live_at, with_node}
use Rattle.rh_otp_system.specs.Working.{mailed}
use Rattle.rh_otp_crashes.specs.Crashes.{IsUnoccupied}
use Rattle.rh_otp_crashes.specs.Failovers.{is_failover}
use Rattle.rh_otp_crashes.proofs.Carrying.{IsPlain, letters}
use Rattle.rh_otp_crashes.proofs.Standing.{not_lost_now, stale_restarts}
use Rattle.rh_otp_crashes.proofs.Starting.{heard, hears, hears_so, hears_whatever, hears_plainly, hears_at_rest, hears_of}
use Rattle.rh_otp_crashes.proofs.Turning.{Turned, own_in, is_idle, turn, weighing, none_on, idle_comes}
use Rattle.rh_otp_crashes.proofs.Waiting.{Waits, Behaves, hears_waiting}

-- what its controller is told
abbrev told_there : Node → ℕ → App → Node → Envelope
told_there k life a n = record {
  from = record { role = role.DistAc; node = k; life = life };
  to = record { role = role.Controller; node = k; life = life };
  message = message.Change a (change_of.Started n);
}

-- what a dist_ac comes to at a message where it is so
abbrev pub Comes : ClusterView → List OwnFile → Node → ℕ → Message → Option DistView → List Output → Option DistView → Type 0
Comes c files k life m o outs next = (s : SystemView) (v : LiveView) → live_at s k ≡ Some v → v.dist ≡ o → v.life ≡ life → s.cluster ≡ c
    → s.files ≡ files → mailed k m s ≡ all_carried_out k outs (with_node k (record v { dist = next }) s)

-- ---- it isn't lost any more

-- It takes whatever comes, if there is one, and the application isn't lost.
pub record IsTold (a : App) (o : Option DistView) : Type 0 where
  pub free : (d : DistView) → o ≡ Some d → IsUnoccupied d
  pub takes_all : (d : DistView) → o ≡ Some d → d.stand ≡ stand.Idle
  pub over : (d : DistView) → o ≡ Some d → is_failover (standing_of d a) ≡ false

told_so : (a : App) (d : DistView) → IsUnoccupied d → d.stand ≡ stand.Idle → is_failover (standing_of d a) ≡ false → IsTold a (Some d)
told_so a d free is over = record {
  free = λ e same. subst IsUnoccupied (same_Some d e same) free;
  takes_all = λ e same. subst (λ (x : DistView). x.stand ≡ stand.Idle) (same_Some d e same) is;
  over = λ e same. subst (λ (x : DistView). is_failover (standing_of x a) ≡ false) (same_Some d e same) over;
}

none_told : (a : App) → IsTold a None
none_told a = record {
  free = λ d is. absurd (none-some d is);
  takes_all = λ d is. absurd (none-some d is);
  over = λ d is. absurd (none-some d is);
}

-- a timer that is left over changes nothing
pub stale_comes : (c : ClusterView) (files : List OwnFile) (k : Node) (life : ℕ) (a : App) (loss : ℕ) (o : Option DistView) → IsTold a o
    → Comes c files k life (message.RestartAppl a loss) o [] o
stale_comes c files k life a loss None told s v there has same in_cluster in_files = none_on k (message.RestartAppl a loss) s v there has
stale_comes c files k life a loss (Some d) told s v there has same in_cluster in_files =
    let is : d.stand ≡ stand.Idle = told.takes_all d refl in
    let free : IsUnoccupied d = told.free d refl in
    idle_comes c files k life (message.RestartAppl a loss) d (turn c (own_in files k) k life d) free is refl
    (λ w. stale_restarts a (weighing w (turn c (own_in files k) k life d)) (told.over d refl)) s v there has same in_cluster in_files
    ∙ (λ i. with_node k (record v { dist = Some (sym (is_idle d free is) i) }) s)

abbrev pub stale_turned : (K : Envelope → Type 0) (c : ClusterView) (files : List OwnFile) (k : Node) (life : ℕ) (a : App) (loss : ℕ)
    (o : Option DistView) → IsTold a o → Turned K c files k life (message.RestartAppl a loss) o
stale_turned K c files k life a loss o told = record {
  next = o;
  outs = [];
  comes = stale_comes c files k life a loss o told;
  plain = All-nil IsPlain;
  kinds = All-nil K;
  rest = told.free;
}

-- ---- the news

abbrev NewsTurned : (Envelope → Type 0) → ClusterView → List OwnFile → Node → ℕ → Node → App → Option DistView → Type 0
NewsTurned K c files k life n a o = Turned K c files k life (message.AppStarted n a None) o

-- where it waits
waits_heard : (K : Envelope → Type 0) (c : ClusterView) (files : List OwnFile) (k : Node) (life : ℕ) (n : Node) (a : App) (d : DistView)
    → K (told_there k life a n) → Waits n a d → NewsTurned K c files k life n a (Some d)
waits_heard K c files k life n a d kind waits =
    let over : TurnView = heard a n (turn c (own_in files k) k life waits.before) in
    record {
      next = Some over.state;
      outs = over.out;
      comes = λ q v there has same in_cluster in_files.
          hears_waiting c files k life a n waits.before waits.stands q v there (has ∙ ap Some waits.is) same in_cluster in_files;
      plain = All-cons IsPlain _ [] tt (All-nil IsPlain);
      kinds = All-cons K (told_there k life a n) [] kind (All-nil K);
      rest = λ e is. subst IsUnoccupied (same_Some over.state e is) (record {
        stand = inl refl;
        mail = All-nil (λ (x : Message). takes over.state.stand x ≡ false);
        permits = refl;
        parked = waits.stands.parked;
      });
    }

-- however it is
pub hears_anyhow : (K : Envelope → Type 0) (c : ClusterView) (files : List OwnFile) (k : Node) (life : ℕ) (n : Node) (a : App)
    (o : Option DistView) → K (told_there k life a n) → ((d : DistView) → o ≡ Some d → Behaves n a k d) → NewsTurned K c files k life n a o
hears_anyhow K c files k life n a None kind behaves = hears_of K c files k life a n None kind (λ d is. absurd (none-some d is))
hears_anyhow K c files k life n a (Some d) kind behaves = by (behaves d refl)
  where
    by : Behaves n a k d → NewsTurned K c files k life n a (Some d)
    by (inl free) = hears_of K c files k life a n (Some d) kind (λ e same. subst IsUnoccupied (same_Some d e same) free)
    by (inr (other, waits)) = waits_heard K c files k life n a d kind waits

-- behind it the application isn't lost any more
pub record Hears (K : Envelope → Type 0) (c : ClusterView) (files : List OwnFile) (k : Node) (life : ℕ) (n : Node) (a : App)
    (o : Option DistView) : Type 0 where
  pub turned : Turned K c files k life (message.AppStarted n a None) o
  pub told : IsTold a turned.next

-- such a turn
abbrev hearing : (K : Envelope → Type 0) (c : ClusterView) (files : List OwnFile) (k : Node) (life : ℕ) (n : Node) (a : App) (d : DistView)
    (over : TurnView) → IsUnoccupied d → d.stand ≡ stand.Idle
    → ((w : ℕ) → hears a n (weighing w (turn c (own_in files k) k life d)) ≡ weighing w over) → All IsPlain over.out → All K (letters over.out)
    → IsUnoccupied over.state → NewsTurned K c files k life n a (Some d)
hearing K c files k life n a d over free is closed plain kinds rest = record {
  next = Some over.state;
  outs = over.out;
  comes = idle_comes c files k life (message.AppStarted n a None) d over free is refl
      (λ w. hears_so a n (weighing w (turn c (own_in files k) k life d)) free.permits ∙ closed w);
  plain = plain;
  kinds = kinds;
  rest = λ e same. subst IsUnoccupied (same_Some over.state e same) rest;
}

still_takes : (a : App) (n : Node) (t : TurnView) → t.state.stand ≡ stand.Idle → (hears a n t).state.stand ≡ stand.Idle
still_takes a n t is = by (controls t.own a && has_app a t.state.started)
  where
    by : (b : Bool) → (cond b (heard a n t) (add_remote a n t)).state.stand ≡ stand.Idle
    by true = is
    by false = is

still_over : (a : App) (n : Node) (t : TurnView) → is_failover (standing_of t.state a) ≡ false
    → is_failover (standing_of (hears a n t).state a) ≡ false
still_over a n t over = by (controls t.own a && has_app a t.state.started)
  where
    by : (b : Bool) → is_failover (standing_of (cond b (heard a n t) (add_remote a n t)).state a) ≡ false
    by true = not_lost_now a n t
    by false = over

-- where it wasn't lost before
pub told_hears : (K : Envelope → Type 0) (c : ClusterView) (files : List OwnFile) (k : Node) (life : ℕ) (n : Node) (a : App)
    (o : Option DistView) → K (told_there k life a n) → IsTold a o → Hears K c files k life n a o
told_hears K c files k life n a None kind told = record {
  turned = record {
    next = None;
    outs = [];
    comes = λ s v there none same in_cluster in_files. none_on k (message.AppStarted n a None) s v there none;
    plain = All-nil IsPlain;
    kinds = All-nil K;
    rest = λ d is. absurd (none-some d is);
  };
  told = none_told a;
}
told_hears K c files k life n a (Some d) kind told =
    let t : TurnView = turn c (own_in files k) k life d in
    let free : IsUnoccupied d = told.free d refl in
    let plainly = hears_plainly K a n t refl kind in
    let rest : IsUnoccupied (hears a n t).state = hears_at_rest a n t refl refl free.permits free.parked in
    record {
      turned = hearing K c files k life n a d (hears a n t) free (told.takes_all d refl) (λ w. hears_whatever a n w t) plainly.0 plainly.1 rest;
      told = told_so a (hears a n t).state rest (still_takes a n t refl) (still_over a n t (told.over d refl));
    }

-- where it is to wait: it is told, and what it comes to
pub record HearsFirst (K : Envelope → Type 0) (c : ClusterView) (files : List OwnFile) (k : Node) (life : ℕ) (n : Node) (a : App)
    (d : DistView) : Type 0 where
  pub turned : Turned K c files k life (message.AppStarted n a None) (Some d)
  pub told : IsTold a turned.next
  pub next : turned.next ≡ Some (heard a n (turn c (own_in files k) k life d)).state
  pub outs : turned.outs ≡ (heard a n (turn c (own_in files k) k life d)).out

pub ready_hears : (K : Envelope → Type 0) (c : ClusterView) (files : List OwnFile) (k : Node) (life : ℕ) (n : Node) (a : App) (d : DistView)
    → K (told_there k life a n) → IsUnoccupied d → d.stand ≡ stand.Idle → (controls (own_in files k) a && has_app a d.started) ≡ true
    → HearsFirst K c files k life n a d
ready_hears K c files k life n a d kind free is started =
    let t : TurnView = turn c (own_in files k) k life d in
    let over : TurnView = heard a n t in
    let rest : IsUnoccupied over.state = record {
      stand = inl refl;
      mail = All-nil (λ (x : Message). takes over.state.stand x ≡ false);
      permits = refl;
      parked = free.parked;
    } in
    record {
      turned = hearing K c files k life n a d over free is
          (λ w. ap (λ (b : Bool). cond b (heard a n (weighing w t)) (add_remote a n (weighing w t))) started)
          (All-cons IsPlain _ [] tt (All-nil IsPlain)) (All-cons K (told_there k life a n) [] kind (All-nil K)) rest;
      told = told_so a over.state rest refl (not_lost_now a n t);
      next = refl;
      outs = refl;
    }
