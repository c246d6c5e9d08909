-- What the dist_ac of the node does that starts an application: at the loss, and when it runs.
use Rattle.std.proofs.Common.{◌≡◌, ◌⊎◌, ◌++◌, ◌==◌, ◌||◌, ℕ, Bool, true, false, cond, length, filter, List, [], ◌∷◌, Option, Some, None, refl, sym, ap, subst, ◌∙◌, inl, inr}
use Rattle.std.specs.Prelude.{All}
use Rattle.std.proofs.lemmas.Bool.{eq-eqb}
use Rattle.std.proofs.lemmas.List.{append-nil}
use Rattle.std.proofs.lemmas.List.Elements.{All-nil, All-cons, All-weaker}
use Rattle.std.proofs.lemmas.Option.{none-some, same_Some}
use Rattle.rh_model.specs.declared.node.App.{App}
use Rattle.rh_model.specs.declared.node.Node.{Node}
use Rattle.rh_model.specs.declared.settings.Dep.{Dep}
use Rattle.rh_otp_model.specs.declared.message.Message.{Message}
use Rattle.rh_otp_model.specs.declared.message.Message.TheVariants as message
use Rattle.rh_otp_model.specs.declared.output.Envelope.{Envelope}
use Rattle.rh_otp_model.specs.Rows.{without_rows}
use Rattle.rh_otp_dist.specs.declared.state.Stand.TheVariants as stand
use Rattle.rh_otp_dist.specs.Outside.{with_message}
use Rattle.rh_otp_dist.specs.Sending.{del_t_reqs, answer_each, outcome_of, with_takeovers}
use Rattle.rh_otp_dist.specs.State.{DistView, TurnView, with_standing, is_among}
use Rattle.rh_otp_dist.specs.Told.{run, set_standing, standing_behind}
use Rattle.rh_otp_dist.specs.Waiting.{takes}
use Rattle.rh_otp_net.specs.Links.{are_linked}
use Rattle.rh_otp_node.specs.Live.{LiveView, is_alive}
use Rattle.rh_otp_system.specs.State.{SystemView, live_at, node_at, with_node, is_alive_at}
use Rattle.rh_otp_system.specs.Working.{mailed}
use Rattle.rh_otp_laws.proofs.Nodes.{alive_is_there, same_of_all}
use Rattle.rh_otp_crashes.specs.Crashes.{IsUnoccupied}
use Rattle.rh_otp_crashes.specs.Failovers.{IsFirst}
use Rattle.rh_otp_crashes.proofs.Carrying.{IsPlain}
use Rattle.rh_otp_crashes.proofs.News.{IsNews, IsAbroad, IsFresh, starts, tells, moves, wakes, hears, learns, wakens, it_fails_over, is_to}
use Rattle.rh_otp_crashes.proofs.Peace.{AtPeace, Acted, ActedAs, acts_dist_as}
use Rattle.rh_otp_crashes.proofs.Posting.{posts, sends, mails, all_posted, all_mailed}
use Rattle.rh_otp_crashes.proofs.Starting.{restarts, started_over}
use Rattle.rh_otp_crashes.proofs.Turning.{Turned, own_in, node_is, turn, weighing, none_on, idle_comes, waits_on, still_waits}
use Rattle.rh_otp_crashes.proofs.Waiting.{Behaves, first_is_free}

-- What becomes of it: nobody waits for a takeover, and it knows the same nodes as before.
pub record Knows (o : Option DistView) (d : DistView) : Type 0 where
  pub takeovers : d.t_reqs ≡ []
  pub before : DistView
  pub had : o ≡ Some before
  pub known : d.known ≡ before.known

-- ---- the loss

pub record Lost (lives : Node → ℕ) (n : Node) (a : App) (s t : SystemView) : Type 0 where
  pub acted : Acted (Behaves n a) (IsNews lives n a) n s t
  pub fresh : All IsFresh acted.more
  pub few : length (filter (is_to n) acted.more) ≡ 1
  pub controller : acted.new.controller ≡ acted.old.controller
  pub knows : (d : DistView) → acted.new.dist ≡ Some d → Knows (node_at s n).dist d

pub loses : {lives : Node → ℕ} {n : Node} {a : App} (loss : ℕ) (s : SystemView) → AtPeace (Behaves n a) (IsNews lives n a) lives s → is_alive_at s n ≡ true
    → IsFirst (own_in s.files n) n a (node_at s n) → ((d : DistView) → (node_at s n).dist ≡ Some d → d.t_reqs ≡ [])
    → Lost lives n a s (mailed n (message.RestartAppl a loss) s)
loses {lives} {n} {a} loss s f alive first none =
    let d : DistView = first.dist in
    let free : IsUnoccupied d = first_is_free n a d (f.dists n d alive first.has) in
    let t : TurnView = turn s.cluster (own_in s.files n) n (lives n) d in
    let over : TurnView = started_over a first.gone t in
    let turned : Turned (IsNews lives n a) s.cluster s.files n (lives n) (message.RestartAppl a loss) (node_at s n).dist = record {
      next = Some over.state;
      outs = over.out;
      comes = λ q v there has same in_cluster in_files.
          idle_comes s.cluster s.files n (lives n) (message.RestartAppl a loss) d over free first.takes_all refl
          (λ w. restarts a first.gone (weighing w t) first.lost first.first first.unknown) q v there (has ∙ first.has) same in_cluster in_files;
      plain = All-cons IsPlain _ [] tt (All-nil IsPlain);
      kinds = All-cons (IsNews lives n a) (it_fails_over lives n a first.gone) [] (starts first.gone) (All-nil (IsNews lives n a));
      rest = λ e is. subst IsUnoccupied (same_Some over.state e is) (record {
        stand = inl refl;
        mail = All-nil (λ (x : Message). takes over.state.stand x ≡ false);
        permits = free.permits;
        parked = free.parked;
      });
    } in
    let as_so = acts_dist_as n (message.RestartAppl a loss) s f alive turned in
    record {
      acted = as_so.acted;
      fresh = subst (All IsFresh) (sym as_so.sent)
          (All-cons IsFresh (it_fails_over lives n a first.gone) [] (record { fired = refl; moved = refl }) (All-nil IsFresh));
      few = ap (λ (l : List Envelope). length (filter (is_to n) l)) as_so.sent
          ∙ ap (λ (b : Bool). length (cond b (it_fails_over lives n a first.gone ∷ []) [])) (eq-eqb n.0 n.0 refl);
      controller = as_so.controller;
      knows = λ e is. subst (Knows (node_at s n).dist) (same_Some over.state e (sym as_so.dist ∙ is))
          (record { takeovers = none d first.has; before = d; had = first.has; known = refl });
    }

-- ---- it runs

-- what the others that it knows are told
abbrev pub it_is_here : Node → App → Option Dep → Message
it_is_here n a error = message.AppStarted n a error

abbrev pub run_over : App → Option Dep → TurnView → TurnView
run_over a error t = record t {
  state = record (with_standing a (standing_behind error) t.state) { t_reqs = [] };
  out = t.out ++ posts t.here.node (it_is_here t.here.node a error) t.state.known;
}

pub runs_so : (a : App) (error : Option Dep) (t : TurnView) → t.state.t_reqs ≡ [] → run a error t ≡ run_over a error t
unfolding run del_t_reqs
runs_so a error t none =
    ap (λ (u : TurnView). set_standing a (standing_behind error)
    (with_takeovers (without_rows a u.state.t_reqs) (answer_each a (outcome_of error) u.state.t_reqs u)))
    (sends (it_is_here t.here.node a error) t.state.known t)
    ∙ ap (λ rows. set_standing a (standing_behind error) (with_takeovers (without_rows a rows)
    (answer_each a (outcome_of error) rows (record t { out = t.out ++ posts t.here.node (it_is_here t.here.node a error) t.state.known })))) none

pub is_news : {lives : Node → ℕ} {n : Node} {a : App} (e : Envelope) → IsAbroad lives n a e → IsNews lives n a e
is_news _ (hears m other) = tells m other
is_news _ (learns m other) = moves m other
is_news _ (wakens m other loss) = wakes m other loss

pub record Ran (lives : Node → ℕ) (n : Node) (a : App) (s t : SystemView) : Type 0 where
  pub acted : Acted (Behaves n a) (IsNews lives n a) n s t
  pub away : All (IsAbroad lives n a) acted.more
  pub fresh : All IsFresh acted.more
  pub controller : acted.new.controller ≡ (node_at s n).controller
  pub knows : (d : DistView) → acted.new.dist ≡ Some d → Knows (node_at s n).dist d

old_is : {P : Node → DistView → Type 0} {K : Envelope → Type 0} {n : Node} {s t : SystemView} (a : Acted P K n s t) → a.old ≡ node_at s n
old_is {n = n} {s = s} a = sym (node_is s n a.old a.there)

-- it has none, or takes nothing yet
ran_plainly : {lives : Node → ℕ} {n : Node} {a : App} (s : SystemView) (next : Option DistView)
    → ActedAs (Behaves n a) (IsNews lives n a) n s (mailed n (message.Run a None) s) next []
    → ((d : DistView) → next ≡ Some d → Knows (node_at s n).dist d) → Ran lives n a s (mailed n (message.Run a None) s)
ran_plainly {lives} {n} {a} s next as_so knows = record {
  acted = as_so.acted;
  away = subst (All (IsAbroad lives n a)) (sym as_so.sent) (All-nil (IsAbroad lives n a));
  fresh = subst (All IsFresh) (sym as_so.sent) (All-nil IsFresh);
  controller = as_so.controller ∙ ap (λ (v : LiveView). v.controller) (old_is as_so.acted);
  knows = λ d is. knows d (sym as_so.dist ∙ is);
}

ran_idle : {lives : Node → ℕ} {n : Node} {a : App} (s : SystemView) (d : DistView) → AtPeace (Behaves n a) (IsNews lives n a) lives s
    → is_alive_at s n ≡ true → (node_at s n).dist ≡ Some d → IsUnoccupied d → d.stand ≡ stand.Idle → d.t_reqs ≡ []
    → ((m : Node) → is_among m d.known ≡ true → is_alive_at s m ≡ true → (n.0 == m.0 || are_linked n m s.links) ≡ true)
    → Ran lives n a s (mailed n (message.Run a None) s)
ran_idle {lives} {n} {a} s d f alive has free is none seen =
    let at : (v : LiveView) × (live_at s n ≡ Some v) = alive_is_there s n alive in
    let old : LiveView = node_at s n in
    let there : live_at s n ≡ Some old = at.1 ∙ ap Some (sym (node_is s n at.0 at.1)) in
    let t : TurnView = turn s.cluster (own_in s.files n) n (lives n) d in
    let over : TurnView = run_over a None t in
    let new : LiveView = record old { dist = Some over.state } in
    let next : SystemView = with_node n new s in
    let msg : Message = it_is_here n a None in
    let more : List Envelope = mails lives next n msg d.known in
    let away : All (IsAbroad lives n a) more = all_mailed lives (IsAbroad lives n a) next n msg d.known hears in
    let lives_on : (k : Node) → (node_at next k).life ≡ lives k =
    λ k. same_of_all (λ (v : LiveView). v.life) s n k new refl ∙ f.same_lives k in
    let awake : (k : Node) → is_alive_at next k ≡ is_alive_at s k = λ k. same_of_all is_alive s n k new refl in
    record {
      acted = record {
        old = old;
        new = new;
        there = there;
        more = more;
        set = [];
        seen = [];
        is = idle_comes s.cluster s.files n (lives n) (message.Run a None) d over free is refl
            (λ w. runs_so a None (weighing w t) none) s old there has (f.same_lives n) refl refl
            ∙ all_posted n msg d.known next lives_on (λ m among up. seen m among (sym (awake m) ∙ up))
            ∙ (λ i. record next {
              messages = s.messages ++ more;
              timers = sym (append-nil s.timers) i;
              events = sym (append-nil s.events) i;
            });
        life = refl;
        phase = refl;
        stopped = refl;
        ending = refl;
        rest = λ e is_next. inl (subst IsUnoccupied (same_Some over.state e is_next) (record {
          stand = inl refl;
          mail = All-nil (λ (x : Message). takes over.state.stand x ≡ false);
          permits = free.permits;
          parked = free.parked;
        }));
        kinds = All-weaker (IsAbroad lives n a) (IsNews lives n a) is_news more away;
      };
      away = away;
      fresh = all_mailed lives IsFresh next n msg d.known (λ k other. record { fired = refl; moved = refl });
      controller = refl;
      knows = λ e is_next. subst (Knows (node_at s n).dist) (same_Some over.state e is_next)
          (record { takeovers = refl; before = d; had = has; known = refl });
    }

pub ran : {lives : Node → ℕ} {n : Node} {a : App} (s : SystemView) → AtPeace (Behaves n a) (IsNews lives n a) lives s → is_alive_at s n ≡ true
    → ((d : DistView) → (node_at s n).dist ≡ Some d → d.t_reqs ≡ [])
    → ((d : DistView) → (node_at s n).dist ≡ Some d → (m : Node) → is_among m d.known ≡ true → is_alive_at s m ≡ true
    → (n.0 == m.0 || are_linked n m s.links) ≡ true)
    → Ran lives n a s (mailed n (message.Run a None) s)
ran {lives} {n} {a} s f alive none seen = by (node_at s n).dist refl
  where
    msg : Message
    msg = message.Run a None

    free : (d : DistView) → (node_at s n).dist ≡ Some d → IsUnoccupied d
    free d has = first_is_free n a d (f.dists n d alive has)

    waits : (d : DistView) → (node_at s n).dist ≡ Some d → d.stand ≡ stand.ForGo
        → ActedAs (Behaves n a) (IsNews lives n a) n s (mailed n msg s) (Some (with_message msg d)) []
    waits d has is = acts_dist_as n msg s f alive (record {
      next = Some (with_message msg d);
      outs = [];
      comes = λ q v there had same in_cluster in_files. waits_on n msg q v d there (had ∙ has) (free d has) is refl;
      plain = All-nil IsPlain;
      kinds = All-nil (IsNews lives n a);
      rest = λ e is_next. subst IsUnoccupied (same_Some (with_message msg d) e is_next) (still_waits msg d (free d has) is refl);
    })

    at : (d : DistView) → (node_at s n).dist ≡ Some d → (d.stand ≡ stand.Idle) ⊎ (d.stand ≡ stand.ForGo) → Ran lives n a s (mailed n msg s)
    at d has (inl is) = ran_idle s d f alive has (free d has) is (none d has) (seen d has)
    at d has (inr is) =
        ran_plainly s (Some (with_message msg d)) (waits d has is)
        (λ e is_next. subst (Knows (node_at s n).dist) (same_Some (with_message msg d) e is_next)
        (record { takeovers = none d has; before = d; had = has; known = refl }))

    by : (o : Option DistView) → (node_at s n).dist ≡ o → Ran lives n a s (mailed n msg s)
    by None has =
        ran_plainly s None
        (acts_dist_as n msg s f alive (record {
          next = None;
          outs = [];
          comes = λ q v there had same in_cluster in_files. none_on n msg q v there (had ∙ has);
          plain = All-nil IsPlain;
          kinds = All-nil (IsNews lives n a);
          rest = λ d is. absurd (none-some d is);
        }))
        (λ d is. absurd (none-some d is))
    by (Some d) has = at d has (free d has).stand
