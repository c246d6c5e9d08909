-- What dist_acs do where an application is stopped or ends: that of its node tells the others that it knows, and these send nothing.
use Rattle.std.proofs.Common.{◌≡◌, ◌≢◌, ◌⊎◌, ◌≤◌, ◌++◌, ◌==◌, ◌&&◌, ◌||◌, ℕ, Bool, true, false, cond, List, [], ◌∷◌, length, Option, Some, None, refl, sym, ap, ◌∙◌, inl, inr, arith}
use Rattle.std.specs.Prelude.{All}
use Rattle.std.proofs.lemmas.List.{append-nil}
use Rattle.std.proofs.lemmas.List.Elements.{All-nil}
use Rattle.std.proofs.lemmas.Option.{none-some, same_Some}
use Rattle.rh_model.specs.declared.node.App.{App}
use Rattle.rh_model.specs.declared.node.Node.{Node}
use Rattle.rh_otp_model.specs.declared.message.Message.{Message}
use Rattle.rh_otp_model.specs.declared.message.Message.TheVariants as message
use Rattle.rh_otp_model.specs.declared.output.Envelope.{Envelope}
use Rattle.rh_otp_model.specs.declared.output.Output.{Output}
use Rattle.rh_otp_dist.specs.declared.state.Stand.TheVariants as stand
use Rattle.rh_otp_dist.specs.Outside.{with_message}
use Rattle.rh_otp_dist.specs.State.{DistView, TurnView, standing_of, is_among}
use Rattle.rh_otp_dist.specs.Told.{app_stopped, is_local}
use Rattle.rh_otp_net.specs.Links.{are_linked}
use Rattle.rh_otp_node.specs.Live.{LiveView, is_alive}
use Rattle.rh_otp_system.specs.Outputs.{all_carried_out}
use Rattle.rh_otp_system.specs.State.{SystemView, live_at, node_at, with_node, has_dist_at, is_alive_at}
use Rattle.rh_otp_system.specs.Working.{mailed}
use Rattle.rh_otp_laws.proofs.Nodes.{same_of_all}
use Rattle.rh_otp_crashes.specs.Crashes.{IsUnoccupied}
use Rattle.rh_otp_crashes.proofs.Posting.{posts, posted_to, mails, all_posted, all_mailed}
use Rattle.rh_otp_crashes.proofs.Turning.{own_in, turn, weighing, none_on, idle_comes, waits_on}
use Rattle.rh_otp_stops.proofs.Ending.{forgot, ended_over, ends_so}
use Rattle.rh_otp_stops.proofs.Stopping.{there_is}

-- a node with another dist_ac, and these messages behind all others
abbrev pub acted : Node → Option DistView → List Envelope → SystemView → SystemView
acted m next more q = record (with_node m (record (node_at q m) { dist = next }) q) { messages = q.messages ++ more }

-- nothing is sent
pub sends_none : (m : Node) (next : Option DistView) (q : SystemView)
    → with_node m (record (node_at q m) { dist = next }) q ≡ acted m next [] q
sends_none m next q = λ i. record (with_node m (record (node_at q m) { dist = next }) q) { messages = sym (append-nil q.messages) i }

-- ---- at another node

forgets : (a : App) (t : TurnView) → app_stopped a t ≡ forgot a t
unfolding app_stopped
forgets a t = refl

pub hears : (m : Node) (a : App) (q : SystemView) → is_alive_at q m ≡ true
    → ((d : DistView) → (node_at q m).dist ≡ Some d → IsUnoccupied d)
    → (next : Option DistView) × (mailed m (message.AppStopped a) q ≡ acted m next [] q)
hears m a q alive free = by (node_at q m).dist refl
  where
    there : live_at q m ≡ Some (node_at q m)
    there = there_is q m alive

    at : (d : DistView) → (node_at q m).dist ≡ Some d → (d.stand ≡ stand.Idle) ⊎ (d.stand ≡ stand.ForGo)
        → (next : Option DistView) × (mailed m (message.AppStopped a) q ≡ acted m next [] q)
    at d has (inl is) =
        let t : TurnView = turn q.cluster (own_in q.files m) m (node_at q m).life d in (
          Some (forgot a t).state,
          idle_comes q.cluster q.files m (node_at q m).life (message.AppStopped a) d (forgot a t) (free d has) is refl
              (λ w. forgets a (weighing w t)) q (node_at q m) there has refl refl refl
              ∙ sends_none m (Some (forgot a t).state) q,
        )
    at d has (inr is) = (
      Some (with_message (message.AppStopped a) d),
      waits_on m (message.AppStopped a) q (node_at q m) d there has (free d has) is refl
          ∙ sends_none m (Some (with_message (message.AppStopped a) d)) q,
    )

    by : (o : Option DistView) → (node_at q m).dist ≡ o
        → (next : Option DistView) × (mailed m (message.AppStopped a) q ≡ acted m next [] q)
    by None none = (None, none_on m (message.AppStopped a) q (node_at q m) there none ∙ sends_none m None q)
    by (Some d) has = at d has (free d has).stand

-- ---- at its own node

-- no more are told than it knows
pub few_told : (lives : Node → ℕ) (s : SystemView) (n : Node) (x : Message) (nodes : List Node)
    → length (mails lives s n x nodes) ≤ length nodes
few_told lives s n x [] = omega arith
few_told lives s n x (m ∷ nodes) = by (m.0 == n.0) (is_alive_at s m && has_dist_at s m) (few_told lives s n x nodes)
  where
    by : (b c : Bool) → length (mails lives s n x nodes) ≤ length nodes
        → length (cond b (mails lives s n x nodes) (cond c (posted_to lives n x m ∷ mails lives s n x nodes) (mails lives s n x nodes)))
        ≤ length (m ∷ nodes)
    by true c rest = omega (arith, rest)
    by false true rest = omega (arith, rest)
    by false false rest = omega (arith, rest)

-- what its dist_ac has sent, and that it knows the same nodes as before
pub record Tells (P : Envelope → Type 0) (n : Node) (x : Message) (q : SystemView) : Type 0 where
  pub next : Option DistView
  pub more : List Envelope
  pub comes : mailed n x q ≡ acted n next more q
  pub kinds : All P more
  pub few : (most : ℕ) → ((d : DistView) → (node_at q n).dist ≡ Some d → length d.known ≤ most) → length more ≤ most
  pub knows : (d : DistView) → next ≡ Some d → (before : DistView) × ((node_at q n).dist ≡ Some before) × (d.known ≡ before.known)

module _ (P : Envelope → Type 0) (lives : Node → ℕ) (n : Node) (a : App) (q : SystemView) (alive : is_alive_at q n ≡ true)
    (same_lives : (k : Node) → (node_at q k).life ≡ lives k)
    (kind : (m : Node) → m.0 ≢ n.0 → P (posted_to lives n (message.AppStopped a) m)) where
  there : live_at q n ≡ Some (node_at q n)
  there = there_is q n alive

  module _ (d : DistView) (has : (node_at q n).dist ≡ Some d) (free : IsUnoccupied d) where
    knows_by : (e : DistView) → e.known ≡ d.known → (x : DistView) → Some e ≡ Some x
        → (before : DistView) × ((node_at q n).dist ≡ Some before) × (x.known ≡ before.known)
    knows_by e same x is = (d, has, ap (λ (y : DistView). y.known) (sym (same_Some e x is)) ∙ same)

    module _ (is : d.stand ≡ stand.Idle) (none : d.t_reqs ≡ []) (none_too : d.s_reqs ≡ [])
        (sees : (m : Node) → is_among m d.known ≡ true → is_alive_at q m ≡ true → (n.0 == m.0 || are_linked n m q.links) ≡ true) where
      abbrev t : TurnView
      t = turn q.cluster (own_in q.files n) n (node_at q n).life d

      abbrev over : TurnView
      over = ended_over a t

      abbrev next : SystemView
      next = with_node n (record (node_at q n) { dist = Some over.state }) q

      turns : mailed n (message.Stopped a) q ≡ all_carried_out n over.out next
      turns =
          idle_comes q.cluster q.files n (node_at q n).life (message.Stopped a) d over free is refl
          (λ w. ends_so a (weighing w t) none none_too) q (node_at q n) there has refl refl refl

      lives_on : (k : Node) → (node_at next k).life ≡ lives k
      lives_on k = same_of_all (λ (v : LiveView). v.life) q n k (record (node_at q n) { dist = Some over.state }) refl ∙ same_lives k

      awake : (k : Node) → is_alive_at next k ≡ is_alive_at q k
      awake k = same_of_all is_alive q n k (record (node_at q n) { dist = Some over.state }) refl

      abbrev posted : Bool → List Output
      posted b = cond b (posts n (message.AppStopped a) d.known) []

      tells_by : (b : Bool) → is_local (standing_of d a) ≡ b → Tells P n (message.Stopped a) q
      tells_by true so = record {
        next = Some over.state;
        more = mails lives next n (message.AppStopped a) d.known;
        comes = turns ∙ ap (λ (x : Bool). all_carried_out n (posted x) next) so
            ∙ all_posted n (message.AppStopped a) d.known next lives_on (λ m among up. sees m among (sym (awake m) ∙ up));
        kinds = all_mailed lives P next n (message.AppStopped a) d.known kind;
        few = λ most within.
            let told : length (mails lives next n (message.AppStopped a) d.known) ≤ length d.known =
            few_told lives next n (message.AppStopped a) d.known in
            omega (arith, told, within d has);
        knows = knows_by over.state refl;
      }
      tells_by false so = record {
        next = Some over.state;
        more = [];
        comes = turns ∙ ap (λ (x : Bool). all_carried_out n (posted x) next) so ∙ sends_none n (Some over.state) q;
        kinds = All-nil P;
        few = λ most within. omega arith;
        knows = knows_by over.state refl;
      }

      tells_idle : Tells P n (message.Stopped a) q
      tells_idle = tells_by (is_local (standing_of d a)) refl

    tells_waiting : d.stand ≡ stand.ForGo → Tells P n (message.Stopped a) q
    tells_waiting is = record {
      next = Some (with_message (message.Stopped a) d);
      more = [];
      comes = waits_on n (message.Stopped a) q (node_at q n) d there has free is refl
          ∙ sends_none n (Some (with_message (message.Stopped a) d)) q;
      kinds = All-nil P;
      few = λ most within. omega arith;
      knows = knows_by (with_message (message.Stopped a) d) refl;
    }

  pub tells_end : ((d : DistView) → (node_at q n).dist ≡ Some d → IsUnoccupied d)
      → ((d : DistView) → (node_at q n).dist ≡ Some d → (d.t_reqs ≡ []) × (d.s_reqs ≡ []))
      → ((d : DistView) → (node_at q n).dist ≡ Some d → (m : Node) → is_among m d.known ≡ true → is_alive_at q m ≡ true
      → (n.0 == m.0 || are_linked n m q.links) ≡ true)
      → Tells P n (message.Stopped a) q
  tells_end free none sees = by (node_at q n).dist refl
    where
      at : (d : DistView) → (node_at q n).dist ≡ Some d → (d.stand ≡ stand.Idle) ⊎ (d.stand ≡ stand.ForGo) → Tells P n (message.Stopped a) q
      at d has (inl is) = tells_idle d has (free d has) is (none d has).0 (none d has).1 (sees d has)
      at d has (inr is) = tells_waiting d has (free d has) is

      by : (o : Option DistView) → (node_at q n).dist ≡ o → Tells P n (message.Stopped a) q
      by None nothing = record {
        next = None;
        more = [];
        comes = none_on n (message.Stopped a) q (node_at q n) there nothing ∙ sends_none n None q;
        kinds = All-nil P;
        few = λ most within. omega arith;
        knows = λ d is. absurd (none-some d is);
      }
      by (Some d) has = at d has (free d has).stand
