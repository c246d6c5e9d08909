-- What dist_acs do where an application runs: that of its node tells the others that it knows, and each of these tells its controller, if
-- the application is started there.
use Rattle.std.proofs.Common.{◌≡◌, ◌≢◌, ◌⊎◌, ◌≤◌, ◌==◌, ◌&&◌, ◌||◌, ℕ, Bool, true, false, cond, List, [], ◌∷◌, length, Option, Some, None, refl, sym, ap, ◌∙◌, inl, inr, arith}
use Rattle.std.proofs.lemmas.List.Elements.{All-nil}
use Rattle.std.proofs.lemmas.Option.{none-some, same_Some}
use Rattle.rh_model.specs.declared.node.App.{App}
use Rattle.rh_model.specs.declared.node.Node.{Node}
use Rattle.rh_otp_model.specs.declared.message.Change.TheVariants as change
use Rattle.rh_otp_model.specs.declared.message.Message.TheVariants as message
use Rattle.rh_otp_model.specs.declared.output.Envelope.{Envelope}
use Rattle.rh_otp_model.specs.declared.process.Role.TheVariants as role
use Rattle.rh_otp_model.specs.Own.{controls}
use Rattle.rh_otp_model.specs.Processes.{process_at}
use Rattle.rh_otp_dist.specs.declared.state.Stand.TheVariants as stand
use Rattle.rh_otp_dist.specs.Attempts.{has_app}
use Rattle.rh_otp_dist.specs.Outside.{with_message}
use Rattle.rh_otp_dist.specs.State.{DistView, TurnView, is_among}
use Rattle.rh_otp_dist.specs.Told.{add_remote}
use Rattle.rh_otp_net.specs.Links.{are_linked}
use Rattle.rh_otp_node.specs.Live.{LiveView, is_alive}
use Rattle.rh_otp_system.specs.State.{SystemView, live_at, node_at, with_node, is_alive_at}
use Rattle.rh_otp_system.specs.Working.{mailed}
use Rattle.rh_otp_laws.proofs.Nodes.{same_of_all}
use Rattle.rh_otp_crashes.specs.Crashes.{IsUnoccupied}
use Rattle.rh_otp_crashes.proofs.Crossing.{for_controller}
use Rattle.rh_otp_crashes.proofs.Peace.{here_in}
use Rattle.rh_otp_crashes.proofs.Posting.{posted_to, mails, all_posted, all_mailed}
use Rattle.rh_otp_crashes.proofs.Starting.{heard, hears_so, hears_whatever}
use Rattle.rh_otp_crashes.proofs.Starting as starting
use Rattle.rh_otp_crashes.proofs.Telling.{run_over, runs_so}
use Rattle.rh_otp_crashes.proofs.Turning.{own_in, turn, weighing, turned_by, none_on, idle_comes, waits_on}
use Rattle.rh_otp_stops.proofs.Stopping.{there_is}
use Rattle.rh_agreement_spread.proofs.Hearing.{Tells, acted, sends_none, few_told}

-- ---- at another node

-- its controller is told where it runs
abbrev pub learned_at : (Node → ℕ) → Node → App → Node → Envelope
learned_at lives n a m = for_controller lives m (process_at (here_in lives m) role.DistAc) (message.Change a (change.Started n))

-- it has told its controller, or nobody
abbrev pub HearsSo : (Node → ℕ) → Node → App → Node → SystemView → Type 0
HearsSo lives n a m q = (next : Option DistView)
    × (more : List Envelope) × ((more ≡ []) ⊎ (more ≡ learned_at lives n a m ∷ []))
    × (mailed m (message.AppStarted n a None) q ≡ acted m next more q)

pub hears : (lives : Node → ℕ) (n m : Node) (a : App) (q : SystemView) → (node_at q m).life ≡ lives m → is_alive_at q m ≡ true
    → ((d : DistView) → (node_at q m).dist ≡ Some d → IsUnoccupied d) → HearsSo lives n a m q
hears lives n m a q same alive free = by (node_at q m).dist refl
  where
    there : live_at q m ≡ Some (node_at q m)
    there = there_is q m alive

    turn_of : DistView → TurnView
    turn_of d = turn q.cluster (own_in q.files m) m (lives m) d

    carried : (d : DistView) (b : Bool)
        → (more : List Envelope) × ((more ≡ []) ⊎ (more ≡ learned_at lives n a m ∷ []))
        × (turned_by m (node_at q m) (cond b (heard a n (turn_of d)) (add_remote a n (turn_of d))) q
        ≡ acted m (Some (cond b (heard a n (turn_of d)) (add_remote a n (turn_of d))).state) more q)
    carried d true = (learned_at lives n a m ∷ [], inr refl, refl)
    carried d false = ([], inl refl, sends_none m (Some (add_remote a n (turn_of d)).state) q)

    at : (d : DistView) → (node_at q m).dist ≡ Some d → (d.stand ≡ stand.Idle) ⊎ (d.stand ≡ stand.ForGo) → HearsSo lives n a m q
    at d has (inl is) =
        let t : TurnView = turn_of d in
        let over : TurnView = starting.hears a n t in
        let done = carried d (controls t.own a && has_app a t.state.started) in (
          Some over.state,
          done.0,
          done.1,
          idle_comes q.cluster q.files m (lives m) (message.AppStarted n a None) d over (free d has) is refl
              (λ w. hears_so a n (weighing w t) (free d has).permits ∙ hears_whatever a n w t) q (node_at q m) there has same refl refl
              ∙ done.2,
        )
    at d has (inr is) = (
      Some (with_message (message.AppStarted n a None) d),
      [],
      inl refl,
      waits_on m (message.AppStarted n a None) q (node_at q m) d there has (free d has) is refl
          ∙ sends_none m (Some (with_message (message.AppStarted n a None) d)) q,
    )

    by : (o : Option DistView) → (node_at q m).dist ≡ o → HearsSo lives n a m q
    by None none = (
      None,
      [],
      inl refl,
      none_on m (message.AppStarted n a None) q (node_at q m) there none ∙ sends_none m None q,
    )
    by (Some d) has = at d has (free d has).stand

-- ---- at its own node

module _ (P : Envelope → Type 0) (lives : Node → ℕ) (n : Node) (a : App) (q : SystemView) (alive : is_alive_at q n ≡ true)
    (same_lives : (k : Node) → (node_at q k).life ≡ lives k)
    (kind : (m : Node) → m.0 ≢ n.0 → P (posted_to lives n (message.AppStarted n a None) m)) where
  there : live_at q n ≡ Some (node_at q n)
  there = there_is q n alive

  module _ (d : DistView) (has : (node_at q n).dist ≡ Some d) (free : IsUnoccupied d) where
    knows_by : (e : DistView) → e.known ≡ d.known → (x : DistView) → Some e ≡ Some x
        → (before : DistView) × ((node_at q n).dist ≡ Some before) × (x.known ≡ before.known)
    knows_by e same x is = (d, has, ap (λ (y : DistView). y.known) (sym (same_Some e x is)) ∙ same)

    module _ (is : d.stand ≡ stand.Idle) (none : d.t_reqs ≡ [])
        (sees : (m : Node) → is_among m d.known ≡ true → is_alive_at q m ≡ true → (n.0 == m.0 || are_linked n m q.links) ≡ true) where
      abbrev t : TurnView
      t = turn q.cluster (own_in q.files n) n (node_at q n).life d

      abbrev over : TurnView
      over = run_over a None t

      abbrev next : SystemView
      next = with_node n (record (node_at q n) { dist = Some over.state }) q

      lives_on : (k : Node) → (node_at next k).life ≡ lives k
      lives_on k = same_of_all (λ (v : LiveView). v.life) q n k (record (node_at q n) { dist = Some over.state }) refl ∙ same_lives k

      awake : (k : Node) → is_alive_at next k ≡ is_alive_at q k
      awake k = same_of_all is_alive q n k (record (node_at q n) { dist = Some over.state }) refl

      tells_idle : Tells P n (message.Run a None) q
      tells_idle = record {
        next = Some over.state;
        more = mails lives next n (message.AppStarted n a None) d.known;
        comes =
            idle_comes q.cluster q.files n (node_at q n).life (message.Run a None) d over free is refl
            (λ w. runs_so a None (weighing w t) none) q (node_at q n) there has refl refl refl
            ∙ all_posted n (message.AppStarted n a None) d.known next lives_on (λ m among up. sees m among (sym (awake m) ∙ up));
        kinds = all_mailed lives P next n (message.AppStarted n a None) d.known kind;
        few = λ most within.
            let told : length (mails lives next n (message.AppStarted n a None) d.known) ≤ length d.known =
            few_told lives next n (message.AppStarted n a None) d.known in
            omega (arith, told, within d has);
        knows = knows_by over.state refl;
      }

    tells_waiting : d.stand ≡ stand.ForGo → Tells P n (message.Run a None) q
    tells_waiting is = record {
      next = Some (with_message (message.Run a None) d);
      more = [];
      comes = waits_on n (message.Run a None) q (node_at q n) d there has free is refl
          ∙ sends_none n (Some (with_message (message.Run a None) d)) q;
      kinds = All-nil P;
      few = λ most within. omega arith;
      knows = knows_by (with_message (message.Run a None) d) refl;
    }

  pub tells_run : ((d : DistView) → (node_at q n).dist ≡ Some d → IsUnoccupied d)
      → ((d : DistView) → (node_at q n).dist ≡ Some d → d.t_reqs ≡ [])
      → ((d : DistView) → (node_at q n).dist ≡ Some d → (m : Node) → is_among m d.known ≡ true → is_alive_at q m ≡ true
      → (n.0 == m.0 || are_linked n m q.links) ≡ true)
      → Tells P n (message.Run a None) q
  tells_run free none sees = by (node_at q n).dist refl
    where
      at : (d : DistView) → (node_at q n).dist ≡ Some d → (d.stand ≡ stand.Idle) ⊎ (d.stand ≡ stand.ForGo)
          → Tells P n (message.Run a None) q
      at d has (inl is) = tells_idle d has (free d has) is (none d has) (sees d has)
      at d has (inr is) = tells_waiting d has (free d has) is

      by : (o : Option DistView) → (node_at q n).dist ≡ o → Tells P n (message.Run a None) q
      by None nothing = record {
        next = None;
        more = [];
        comes = none_on n (message.Run a None) q (node_at q n) there nothing ∙ sends_none n None q;
        kinds = All-nil P;
        few = λ most within. omega arith;
        knows = λ d is. absurd (none-some d is);
      }
      by (Some d) has = at d has (free d has).stand
