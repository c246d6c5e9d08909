-- How far the nodes are that aren't the first, while an application is started there.
use Rattle.std.proofs.Common.{◌≡◌, ◌≢◌, ◌⊎◌, ◌++◌, ◌==◌, ◌&&◌, ◌||◌, ℕ, Bool, true, false, List, [], Some, None, refl, sym, ap, subst, ◌∙◌, inl, inr}
use Rattle.std.specs.Prelude.{All}
use Rattle.std.proofs.lemmas.Bool.{false≢true}
use Rattle.std.proofs.lemmas.List.{append-nil}
use Rattle.std.proofs.lemmas.List.Elements.{All-nil, All-append}
use Rattle.std.proofs.lemmas.Option.{same_Some}
use Rattle.rh_model.specs.declared.node.App.{App}
use Rattle.rh_model.specs.declared.node.Node.{Node}
use Rattle.rh_otp_model.specs.declared.message.Message.TheVariants as message
use Rattle.rh_otp_model.specs.declared.output.Envelope.{Envelope}
use Rattle.rh_otp_model.specs.declared.output.Event.{Event}
use Rattle.rh_otp_model.specs.Own.{OwnView, controls}
use Rattle.rh_otp_dist.specs.Attempts.{has_app}
use Rattle.rh_otp_dist.specs.State.{DistView}
use Rattle.rh_otp_net.specs.declared.timers.Timer.{Timer}
use Rattle.rh_otp_net.specs.Links.{are_linked}
use Rattle.rh_otp_node.specs.Live.{LiveView}
use Rattle.rh_otp_system.specs.Outputs.{all_carried_out}
use Rattle.rh_otp_system.specs.State.{SystemView, live_at, node_at, with_node, is_alive_at}
use Rattle.rh_otp_system.specs.Working.{mailed}
use Rattle.rh_otp_laws.proofs.Nodes.{alive_is_there}
use Rattle.rh_otp_crashes.specs.Crashes.{IsUnoccupied}
use Rattle.rh_otp_crashes.specs.Failovers.{IsStandby}
use Rattle.rh_otp_crashes.proofs.Hearing.{IsTold, HearsFirst, hears_anyhow, told_hears, ready_hears, stale_comes, stale_turned}
use Rattle.rh_otp_crashes.proofs.News.{IsNews, IsLater, IsUnmoved, IsHis}
use Rattle.rh_otp_crashes.proofs.Peace.{AtPeace, Acted, without, acts_dist_as}
use Rattle.rh_otp_crashes.proofs.Racing.{Race}
use Rattle.rh_otp_crashes.proofs.Standing.{Stands, waits_for}
use Rattle.rh_otp_crashes.proofs.Turning.{Turned, own_in, node_is}
use Rattle.rh_otp_crashes.proofs.Waiting.{Behaves, waits_on_first, hears_waiting}

-- Its timer is over, or has none; or the application isn't lost there any more; or it stands by, and has heard nothing yet.
pub data Phase (n : Node) (a : App) (m : Node) (s : SystemView) : Type 0 where
  over : All (IsLater m) s.messages → Phase n a m s
  told : IsTold a (node_at s m).dist → Phase n a m s
  ready : (standby : IsStandby (own_in s.files m) m n a (node_at s m)) → IsUnoccupied standby.dist → is_alive_at s n ≡ true
      → (m.0 == n.0 || are_linked m n s.links) ≡ true → All (IsUnmoved m) s.messages → Phase n a m s

-- a standby is one by its dist_ac
abbrev standby_still : (own : OwnView) (m n : Node) (a : App) (v w : LiveView) → w.dist ≡ v.dist → (standby : IsStandby own m n a v) → IsStandby own m n a w
standby_still own m n a v w same standby = record {
  dist = standby.dist;
  has = same ∙ standby.has;
  takes_all = standby.takes_all;
  gone = standby.gone;
  lost = standby.lost;
  among = standby.among;
  waits = standby.waits;
  started = standby.started;
  unknown = standby.unknown;
  untold = standby.untold;
  unmonitored = standby.unmonitored;
}

-- where its dist_ac is as it was, and what is sent more concerns others
pub phase_on : {n : Node} {a : App} (m k : Node) (s : SystemView) (v : LiveView) (more : List Envelope) (set : List Timer) (seen : List Event)
    → (node_at (with_node k v s) m).dist ≡ (node_at s m).dist → is_alive_at (with_node k v s) n ≡ is_alive_at s n → All (IsLater m) more
    → All (IsUnmoved m) more → Phase n a m s
    → Phase n a m (record (with_node k v s) { messages = s.messages ++ more; timers = s.timers ++ set; events = s.events ++ seen })
phase_on m k s v more set seen same awake later unmoved (over all) = over (All-append (IsLater m) s.messages more all later)
phase_on {a = a} m k s v more set seen same awake later unmoved (told so) = told (subst (IsTold a) (sym same) so)
phase_on {n} {a} m k s v more set seen same awake later unmoved (ready standby free alive sees none) =
    ready (standby_still (own_in s.files m) m n a (node_at s m) (node_at (with_node k v s) m) same standby) free (awake ∙ alive) sees
    (All-append (IsUnmoved m) s.messages more none unmoved)

-- ---- the news

-- what its dist_ac does at the news, and how far it is behind it
pub record HearsThere (lives : Node → ℕ) (n : Node) (a : App) (m : Node) (s : SystemView) : Type 0 where
  pub turned : Turned (IsHis lives n a m) s.cluster s.files m (lives m) (message.AppStarted n a None) (node_at s m).dist
  pub after : All (IsLater m) s.messages ⊎ IsTold a turned.next

-- of a node that stands by
first_heard : (lives : Node → ℕ) {n : Node} {a : App} (m : Node) (s : SystemView)
    → (standby : IsStandby (own_in s.files m) m n a (node_at s m)) → IsUnoccupied standby.dist
    → HearsFirst (IsHis lives n a m) s.cluster s.files m (lives m) n a standby.dist
first_heard lives {n} {a} m s standby free =
    ready_hears (IsHis lives n a m) s.cluster s.files m (lives m) n a standby.dist refl free standby.takes_all standby.started

-- so of its node
abbrev by_standby : (lives : Node → ℕ) {n : Node} {a : App} (m : Node) (s : SystemView)
    → (standby : IsStandby (own_in s.files m) m n a (node_at s m))
    → Turned (IsHis lives n a m) s.cluster s.files m (lives m) (message.AppStarted n a None) (Some standby.dist)
    → Turned (IsHis lives n a m) s.cluster s.files m (lives m) (message.AppStarted n a None) (node_at s m).dist
by_standby lives m s standby heard = record {
  next = heard.next;
  outs = heard.outs;
  comes = λ q v there has same in_cluster in_files. heard.comes q v there (has ∙ standby.has) same in_cluster in_files;
  plain = heard.plain;
  kinds = heard.kinds;
  rest = heard.rest;
}

pub hears_there : {lives : Node → ℕ} {n : Node} {a : App} (m : Node) (s : SystemView)
    → ((d : DistView) → (node_at s m).dist ≡ Some d → Behaves n a m d) → Phase n a m s → HearsThere lives n a m s
hears_there {lives} {n} {a} m s behaves (over all) = record {
  turned = hears_anyhow (IsHis lives n a m) s.cluster s.files m (lives m) n a (node_at s m).dist refl behaves;
  after = inl all;
}
hears_there {lives} {n} {a} m s behaves (told so) =
    let heard = told_hears (IsHis lives n a m) s.cluster s.files m (lives m) n a (node_at s m).dist refl so in
    record { turned = heard.turned; after = inr heard.told }
hears_there {lives} {n} {a} m s behaves (ready standby free alive sees none) =
    let heard = first_heard lives m s standby free in
    record { turned = by_standby lives m s standby heard.turned; after = inr heard.told }

-- ---- the timer

-- The timer's message is on its way: the application isn't lost any more, or the node stands by.
pub data Due (n : Node) (a : App) (m : Node) (s : SystemView) : Type 0 where
  stale : IsTold a (node_at s m).dist → Due n a m s
  stands_by : (standby : IsStandby (own_in s.files m) m n a (node_at s m)) → IsUnoccupied standby.dist → is_alive_at s n ≡ true
      → (m.0 == n.0 || are_linked m n s.links) ≡ true → Due n a m s

pub due : {n : Node} {a : App} (m : Node) (s : SystemView) (left : List Envelope) → (All (IsLater m) s.messages → ⊥) → Phase n a m s
    → Due n a m (without s left)
due m s left is_not (over all) = absurd (is_not all)
due m s left is_not (told so) = stale so
due m s left is_not (ready standby free alive sees none) = stands_by standby free alive sees

-- At its timer a standby waits from now on.
pub waits_there : (lives : Node → ℕ) {n : Node} {a : App} (m : Node) (loss : ℕ) (s : SystemView) → m.0 ≢ n.0
    → (standby : IsStandby (own_in s.files m) m n a (node_at s m)) → IsUnoccupied standby.dist → is_alive_at s n ≡ true
    → (m.0 == n.0 || are_linked m n s.links) ≡ true → (l : List Envelope) (v : LiveView) → live_at s m ≡ Some v
    → v.dist ≡ (node_at s m).dist → v.life ≡ lives m
    → mailed m (message.RestartAppl a loss) (without s l)
    ≡ with_node m (record v { dist = Some (waits_for n a standby.dist) }) (without s l)
waits_there lives {n} {a} m loss s other standby free alive sees l v there has same =
    waits_on_first s.cluster s.files m (lives m) a n standby.gone loss standby.dist free standby.takes_all standby.lost standby.among
    standby.waits standby.unknown other (without s l) v there (has ∙ standby.has) same refl refl alive sees

started_here : (b c : Bool) → (b && c) ≡ true → c ≡ true
started_here true c is = is
started_here false c is = absurd (false≢true is)

pub stands : (own : OwnView) (m n : Node) (a : App) (v : LiveView) → (standby : IsStandby own m n a v) → IsUnoccupied standby.dist
    → Stands n a standby.dist
stands own m n a v standby free = record {
  started = started_here (controls own a) (has_app a standby.dist.started) standby.started;
  unknown = standby.unknown;
  untold = standby.untold;
  unmonitored = standby.unmonitored;
  permits = free.permits;
  parked = free.parked;
}

-- what its dist_ac does
pub wakes_there : {lives : Node → ℕ} {n : Node} {a : App} (m : Node) (loss : ℕ) (s : SystemView) → m.0 ≢ n.0
    → AtPeace (Behaves n a) (IsNews lives n a) lives s → is_alive_at s m ≡ true → Due n a m s
    → (acted : Acted (Behaves n a) (IsNews lives n a) m s (mailed m (message.RestartAppl a loss) s)) × (acted.more ≡ [])
wakes_there {lives} {n} {a} m loss s other f alive (stale so) =
    let as_so = acts_dist_as m (message.RestartAppl a loss) s f alive
    (stale_turned (IsNews lives n a) s.cluster s.files m (lives m) a loss (node_at s m).dist so) in
    (as_so.acted, as_so.sent)
wakes_there {lives} {n} {a} m loss s other f alive (stands_by standby free up sees) =
    let at : (v : LiveView) × (live_at s m ≡ Some v) = alive_is_there s m alive in
    let here : node_at s m ≡ at.0 = node_is s m at.0 at.1 in
    let next : DistView = waits_for n a standby.dist in
    let new : LiveView = record at.0 { dist = Some next } in (
      record {
        old = at.0;
        new = new;
        there = at.1;
        more = [];
        set = [];
        seen = [];
        is = waits_there lives m loss s other standby free up sees s.messages at.0 at.1 (sym (ap (λ (v : LiveView). v.dist) here))
            (sym (ap (λ (v : LiveView). v.life) here) ∙ f.same_lives m)
            ∙ (λ i. record (with_node m new s) {
              messages = sym (append-nil s.messages) i;
              timers = sym (append-nil s.timers) i;
              events = sym (append-nil s.events) i;
            });
        life = refl;
        phase = refl;
        stopped = refl;
        ending = refl;
        rest = λ d is. subst (Behaves n a m) (same_Some next d is)
            (inr (other, record { before = standby.dist; stands = stands (own_in s.files m) m n a (node_at s m) standby free; is = refl }));
        kinds = All-nil (IsNews lives n a);
      },
      refl,
    )

-- ---- both

-- The timer's message and the news race for it.
pub races_there : {lives : Node → ℕ} {n : Node} {a : App} (m : Node) (loss : ℕ) (s : SystemView) → m.0 ≢ n.0
    → Due n a m s → Race (IsHis lives n a m) lives m (message.RestartAppl a loss) (message.AppStarted n a None) s
races_there {lives} {n} {a} m loss s other (stale so) =
    let heard = told_hears (IsHis lives n a m) s.cluster s.files m (lives m) n a (node_at s m).dist refl so in
    record {
      turned = heard.turned;
      waits = (node_at s m).dist;
      fires = λ l v there has same.
          stale_comes s.cluster s.files m (lives m) a loss (node_at s m).dist so (without s l) v there has same refl refl;
      behind = heard.turned.comes;
      stale = stale_comes s.cluster s.files m (lives m) a loss heard.turned.next heard.told;
    }
races_there {lives} {n} {a} m loss s other (stands_by standby free alive sees) =
    let heard = first_heard lives m s standby free in
    record {
      turned = by_standby lives m s standby heard.turned;
      waits = Some (waits_for n a standby.dist);
      fires = waits_there lives m loss s other standby free alive sees;
      behind = λ q v there has same in_cluster in_files.
          hears_waiting s.cluster s.files m (lives m) a n standby.dist (stands (own_in s.files m) m n a (node_at s m) standby free) q v there
          has same in_cluster in_files
          ∙ (λ i. all_carried_out m (sym heard.outs i) (with_node m (record v { dist = sym heard.next i }) q));
      stale = stale_comes s.cluster s.files m (lives m) a loss heard.turned.next heard.told;
    }
