-- Live nodes while a boot script runs: what is on its way, how the node stands, and what each message comes to.
use Rattle.std.proofs.Common.{◌≡◌, ◌≢◌, ◌⊎◌, ◌++◌, ◌==◌, ◌||◌, ◌&&◌, ℕ, true, false, not, cond, List, [], ◌∷◌, Option, Some, refl, sym, ap, subst, ◌∙◌, inl, inr}
use Rattle.std.specs.Prelude.{All}
use Rattle.std.proofs.lemmas.Bool.{cases_eq}
use Rattle.std.proofs.lemmas.List.{append-nil}
use Rattle.std.proofs.lemmas.List.Elements.{All-nil, All-cons, All-append, All-weaker}
use Rattle.std.proofs.lemmas.Option.{same_Some}
use Rattle.rh_model.specs.ClusterView.{ClusterView, boot_of}
use Rattle.rh_model.specs.declared.node.App.{App}
use Rattle.rh_model.specs.declared.node.Node.{Node}
use Rattle.rh_model.specs.declared.settings.Restart.{Restart}
use Rattle.rh_otp_model.specs.declared.output.Envelope.{Envelope}
use Rattle.rh_otp_model.specs.declared.output.Event.{Event}
use Rattle.rh_otp_model.specs.Own.{OwnView}
use Rattle.rh_otp_controller.specs.State.{ControllerView}
use Rattle.rh_otp_dist.specs.State.{DistView, is_among}
use Rattle.rh_otp_net.specs.declared.locks.Held.{Held}
use Rattle.rh_otp_net.specs.declared.timers.Timer.{Timer}
use Rattle.rh_otp_net.specs.Links.{are_linked}
use Rattle.rh_otp_node.specs.declared.node.Phase.{Phase}
use Rattle.rh_otp_node.specs.Live.{LiveView, is_alive, is_down, is_ending}
use Rattle.rh_otp_system.specs.Moves.{IsAmong, is_to_end}
use Rattle.rh_otp_system.specs.State.{SystemView, live_at, node_at, with_node, is_alive_at}
use Rattle.rh_otp_laws.proofs.Nodes.{node_written, others_same, same_number, same_of_all}
use Rattle.rh_otp_orders.specs.Orders.{LeavesAlone}
use Rattle.rh_otp_crashes.specs.Crashes.{IsUnoccupied}
use Rattle.rh_otp_crashes.proofs.Deeds.{AreLater}
use Rattle.rh_otp_crashes.proofs.Peace.{here_in, without}
use Rattle.rh_otp_crashes.proofs.Turning.{own_in}
use Rattle.rh_otp_starts.specs.Elsewhere.{candidates_at}
use Rattle.rh_otp_starts.proofs.Parting.{ends_by}
use Rattle.rh_otp_starts.proofs.Requests.{its_reply}
use Rattle.rh_otp_scripts.specs.Scripts.{HasNoTuple, SeesRunners}
use Rattle.rh_otp_scripts.proofs.Requesting.{IsHung, Keeps, Onward, replied, quiet, hangs}
use Rattle.rh_otp_scripts.proofs.Running.{Stands, StandsOn}
use Rattle.rh_otp_scripts.proofs.Words.{IsBooted, its_answer, own_news, HasAsked, Fits, replies, answers, IsSide, runs, Next, over, goes, goes_telling, HasMain, main_last, main_more}

-- ---- a node has written

-- A node has done something for itself, and these locks are held.
pub record Wrote (k : Node) (locks : List Held) (s t : SystemView) : Type 0 where
  pub new : LiveView
  pub there : live_at s k ≡ Some (node_at s k)
  pub more : List Envelope
  pub set : List Timer
  pub seen : List Event
  pub is : t ≡ record (with_node k new s) {
    messages = s.messages ++ more;
    timers = s.timers ++ set;
    events = s.events ++ seen;
    locks = locks;
  }
  pub life : new.life ≡ (node_at s k).life
  pub phase : new.phase ≡ (node_at s k).phase

alive_on : {k : Node} {locks : List Held} {s t : SystemView} (w : Wrote k locks s t) (m : Node) → is_alive_at t m ≡ is_alive_at s m
alive_on {k} {locks} {s} {t} w m =
    ap (λ (x : SystemView). is_alive_at x m) w.is
    ∙ same_of_all is_alive s k m w.new (ap (λ (p : Phase). cond (is_down p) false true) w.phase)

life_on : {k : Node} {locks : List Held} {s t : SystemView} (w : Wrote k locks s t) (m : Node) → (node_at t m).life ≡ (node_at s m).life
life_on {k} {locks} {s} {t} w m =
    ap (λ (x : SystemView). (node_at x m).life) w.is ∙ same_of_all (λ (v : LiveView). v.life) s k m w.new w.life

pub node_on : {k : Node} {locks : List Held} {s t : SystemView} (w : Wrote k locks s t) → node_at t k ≡ w.new
node_on {k} {locks} {s} {t} w =
    ap (λ (x : SystemView). node_at x k) w.is ∙ node_written s k (node_at s k) w.new w.there

other_on : {k : Node} {locks : List Held} {s t : SystemView} (w : Wrote k locks s t) (m : Node) → m.0 ≢ k.0 → node_at t m ≡ node_at s m
other_on {k} {locks} {s} {t} w m other = ap (λ (x : SystemView). node_at x m) w.is ∙ others_same s k m w.new other

-- it leaves alone what nodes share, where the locks are the same
pub leaves : {k : Node} (s t : SystemView) (left : List Envelope) → Wrote k s.locks (without s left) t → (n : Node) → LeavesAlone n s t
leaves {k} s t left w n = subst (LeavesAlone n s) (sym w.is) (record {
  links = refl;
  locks = refl;
  alive = λ m. sym (ap (λ (x : SystemView). is_alive_at x m) w.is) ∙ alive_on w m;
  answers = λ m app. inl refl;
})

-- ---- what is at rest

-- The node is alive, and all others are at rest; its dist_ac sees what it knows, and nobody waits at it for a takeover.
pub record Calm (lives : Node → ℕ) (n : Node) (s : SystemView) : Type 0 where
  pub alive : is_alive_at s n ≡ true
  pub slow : s.slow ≡ []
  pub calls : s.calls ≡ []
  pub others : (m : Node) (d : DistView) → m.0 ≢ n.0 → is_alive_at s m ≡ true → (node_at s m).dist ≡ Some d → IsUnoccupied d
  pub ends : (m : Node) → m.0 ≢ n.0 → is_alive_at s m ≡ true → is_to_end m s ≡ false
  pub listed : (m : Node) → IsAmong m s.alive → is_alive_at s m ≡ true
  pub same_lives : (m : Node) → (node_at s m).life ≡ lives m
  pub later : s.ends_soon ≡ true → (m : Node) → AreLater (own_in s.files m)
  pub takeovers : (d : DistView) → (node_at s n).dist ≡ Some d → d.t_reqs ≡ []
  pub sees : (d : DistView) → (node_at s n).dist ≡ Some d → (m : Node) → is_among m d.known ≡ true → is_alive_at s m ≡ true
      → (n.0 == m.0 || are_linked n m s.links) ≡ true
  pub runners : (d : DistView) → (node_at s n).dist ≡ Some d
      → All (λ (row : App × Restart). SeesRunners n row.0 d s) (boot_of s.cluster n)
  pub lists : All (λ (row : App × Restart). HasNoTuple (own_in s.files n) row.0) (boot_of s.cluster n)

-- where a message was taken
pub calm_left : {lives : Node → ℕ} {n : Node} (s : SystemView) (left : List Envelope) → Calm lives n s → Calm lives n (without s left)
calm_left s left f = record {
  alive = f.alive;
  slow = f.slow;
  calls = f.calls;
  others = f.others;
  ends = f.ends;
  listed = f.listed;
  same_lives = f.same_lives;
  later = f.later;
  takeovers = f.takeovers;
  sees = f.sees;
  runners = f.runners;
  lists = f.lists;
}

-- all that is common to both
calm_on : {lives : Node → ℕ} {n k : Node} {locks : List Held} (s t : SystemView) (w : Wrote k locks s t) → Calm lives n s
    → ((m : Node) (d : DistView) → m.0 ≢ n.0 → is_alive_at s m ≡ true → (node_at t m).dist ≡ Some d → IsUnoccupied d)
    → ((m : Node) → m.0 ≢ n.0 → is_alive_at s m ≡ true → is_to_end m t ≡ false)
    → ((d : DistView) → (node_at t n).dist ≡ Some d → Keeps (node_at s n).dist d) → Calm lives n t
calm_on {lives} {n} {k} {locks} s t w f others ends keeps = record {
  alive = alive_on w n ∙ f.alive;
  slow = ap (λ (x : SystemView). x.slow) w.is ∙ f.slow;
  calls = ap (λ (x : SystemView). x.calls) w.is ∙ f.calls;
  others = λ m d other up has. others m d other (sym (alive_on w m) ∙ up) has;
  ends = λ m other up. ends m other (sym (alive_on w m) ∙ up);
  listed = λ m among. alive_on w m ∙ f.listed m (subst (IsAmong m) (ap (λ (x : SystemView). x.alive) w.is) among);
  same_lives = λ m. life_on w m ∙ f.same_lives m;
  later = λ soon m.
      subst (λ files. AreLater (own_in files m)) (sym files) (f.later (sym (ap (λ (x : SystemView). x.ends_soon) w.is) ∙ soon) m);
  takeovers = λ d has. (keeps d has).takeovers ∙ f.takeovers (keeps d has).before (keeps d has).had;
  sees = λ d has m among up.
      let so : Keeps (node_at s n).dist d = keeps d has in
      ap (λ l. n.0 == m.0 || are_linked n m l) links
      ∙ f.sees so.before so.had m (ap (is_among m) (sym so.known) ∙ among) (sym (alive_on w m) ∙ up);
  runners = λ d has.
      let so : Keeps (node_at s n).dist d = keeps d has in
      subst (λ c. All (λ (row : App × Restart). SeesRunners n row.0 d t) (boot_of c n)) (sym cluster)
      (All-weaker (λ (row : App × Restart). SeesRunners n row.0 so.before s) (λ (row : App × Restart). SeesRunners n row.0 d t)
      (λ row sees. seen_on row.0 so sees) (boot_of s.cluster n) (f.runners so.before so.had));
  lists = subst (λ (own : OwnView). All (λ (row : App × Restart). HasNoTuple own row.0) (boot_of t.cluster n))
      (ap (λ fs. own_in fs n) (sym files))
      (subst (λ c. All (λ (row : App × Restart). HasNoTuple (own_in s.files n) row.0) (boot_of c n))
      (sym cluster) f.lists);
}
  where
    files : t.files ≡ s.files
    files = ap (λ (x : SystemView). x.files) w.is

    links : t.links ≡ s.links
    links = ap (λ (x : SystemView). x.links) w.is

    cluster : t.cluster ≡ s.cluster
    cluster = ap (λ (x : SystemView). x.cluster) w.is

    seen_on : (a : App) {d : DistView} (so : Keeps (node_at s n).dist d) → SeesRunners n a so.before s → SeesRunners n a d t
    seen_on a {d} so sees m other among =
        let seen : (is_alive_at s m ≡ true) × ((n.0 == m.0 || are_linked n m s.links) ≡ true) =
        sees m other
        ((λ i. is_among m (candidates_at (own_in (sym files i) n) a (record d { may = sym so.may i }))) ∙ among) in
        (alive_on w m ∙ seen.0, ap (λ l. n.0 == m.0 || are_linked n m l) links ∙ seen.1)

-- the node has written
pub calm_own : {lives : Node → ℕ} {n : Node} {locks : List Held} (s t : SystemView) (w : Wrote n locks s t) → Calm lives n s
    → ((d : DistView) → w.new.dist ≡ Some d → Keeps (node_at s n).dist d) → Calm lives n t
calm_own {lives} {n} {locks} s t w f keeps =
    calm_on s t w f
    (λ m d other up has. f.others m d other up (sym (ap (λ (v : LiveView). v.dist) (other_on w m other)) ∙ has))
    (λ m other up. (λ i. ends_by (soon i) (other_on w m other i)) ∙ f.ends m other up)
    (λ d has. keeps d (sym (ap (λ (v : LiveView). v.dist) (node_on w)) ∙ has))
  where
    soon : t.ends_soon ≡ s.ends_soon
    soon = ap (λ (x : SystemView). x.ends_soon) w.is

-- its own dist_ac is as it was
pub itself : {o : Option DistView} (d : DistView) → o ≡ Some d → Keeps o d
itself d had = record { before = d; had = had; takeovers = refl; known = refl; may = refl }

-- another node has written
calm_other : {lives : Node → ℕ} {n k : Node} {locks : List Held} (s t : SystemView) (w : Wrote k locks s t) → Calm lives n s
    → k.0 ≢ n.0 → ((d : DistView) → w.new.dist ≡ Some d → IsUnoccupied d) → w.new.is_stopped ≡ (node_at s k).is_stopped
    → is_ending w.new ≡ is_ending (node_at s k) → Calm lives n t
calm_other {lives} {n} {k} {locks} s t w f apart rest stopped ending =
    calm_on s t w f
    (λ m d other up has. rests m d other up has (cases_eq m.0 k.0))
    (λ m other up. end_at m other up (cases_eq m.0 k.0))
    (λ d has. itself d (sym (ap (λ (v : LiveView). v.dist) (other_on w n (λ same. apart (sym same)))) ∙ has))
  where
    soon : t.ends_soon ≡ s.ends_soon
    soon = ap (λ (x : SystemView). x.ends_soon) w.is

    rests : (m : Node) (d : DistView) → m.0 ≢ n.0 → is_alive_at s m ≡ true → (node_at t m).dist ≡ Some d → (m.0 ≡ k.0) ⊎ (m.0 ≢ k.0)
        → IsUnoccupied d
    rests m d other up has (inl same) =
        rest d (sym (ap (λ (v : LiveView). v.dist) (same_number t m k same ∙ node_on w)) ∙ has)
    rests m d other up has (inr not_it) =
        f.others m d other up (sym (ap (λ (v : LiveView). v.dist) (other_on w m not_it)) ∙ has)

    end_at : (m : Node) → m.0 ≢ n.0 → is_alive_at s m ≡ true → (m.0 ≡ k.0) ⊎ (m.0 ≢ k.0) → is_to_end m t ≡ false
    end_at m other up (inl same) =
        (λ i. ends_by (soon i) ((same_number t m k same ∙ node_on w) i))
        ∙ (λ i. ending i && (s.ends_soon || not (stopped i)))
        ∙ sym (ap (ends_by s.ends_soon) (same_number s m k same)) ∙ f.ends m other up
    end_at m other up (inr not_it) = (λ i. ends_by (soon i) (other_on w m not_it i)) ∙ f.ends m other up

-- ---- how the script stands

-- It goes on by this message; or it is over, or waits for what doesn't come.
pub data Thread (lives : Node → ℕ) (n : Node) (s : SystemView) : Type 0 where
  busy : (g : Envelope) → Fits (here_in lives n) (IsBooted s.cluster n) (node_at s n).controller g → HasMain (IsSide lives n) g s.messages
      → s.locks ≡ [] → ((d : DistView) → (node_at s n).dist ≡ Some d → IsUnoccupied d) → Thread lives n s
  done : All (IsSide lives n) s.messages → ((d : DistView) → (node_at s n).dist ≡ Some d → IsUnoccupied d) → Thread lives n s
  hung : All (IsSide lives n) s.messages → ((d : DistView) → (node_at s n).dist ≡ Some d → IsHung d) → Thread lives n s

pub record Underway (lives : Node → ℕ) (n : Node) (s : SystemView) : Type 0 where
  pub calm : Calm lives n s
  pub thread : Thread lives n s

-- its dist_ac does nothing, or waits for another node
pub stands_so : {lives : Node → ℕ} {n : Node} (s : SystemView) → Thread lives n s → (d : DistView) → (node_at s n).dist ≡ Some d → Stands d
stands_so s (busy g fits has none free) d is = inl (free d is)
stands_so s (done sides free) d is = inl (free d is)
stands_so s (hung sides waits) d is = inr (waits d is)

-- ---- beside the script

-- Such a message is lost, or the node's own dist_ac has taken it, or another node's dist_ac or controller.
pub data SideCame (lives : Node → ℕ) (n : Node) (s : SystemView) : SystemView → Type 0 where
  lost : SideCame lives n s s
  own : (t : SystemView) (w : Wrote n s.locks s t) → All (IsSide lives n) w.more → w.new.controller ≡ (node_at s n).controller
      → ((d : DistView) → w.new.dist ≡ Some d → StandsOn (node_at s n).dist d) → SideCame lives n s t
  elsewhere : (m : Node) (t : SystemView) (w : Wrote m s.locks s t) → m.0 ≢ n.0 → All (IsSide lives n) w.more
      → ((d : DistView) → w.new.dist ≡ Some d → IsUnoccupied d) → w.new.is_stopped ≡ (node_at s m).is_stopped
      → is_ending w.new ≡ is_ending (node_at s m) → SideCame lives n s t

-- the script stands as before
thread_on : {lives : Node → ℕ} {n : Node} (s t : SystemView) (more : List Envelope) → Thread lives n s → All (IsSide lives n) more
    → t.messages ≡ s.messages ++ more → t.cluster ≡ s.cluster → t.locks ≡ s.locks → (node_at t n).controller ≡ (node_at s n).controller
    → ((d : DistView) → (node_at t n).dist ≡ Some d → StandsOn (node_at s n).dist d) → Thread lives n t
thread_on {lives} {n} s t more (busy g fits has none free) kinds sent cluster locks controller stands =
    busy g
    (subst (λ (c : ClusterView). Fits (here_in lives n) (IsBooted c n) (node_at t n).controller g) (sym cluster)
    (subst (λ (x : ControllerView). Fits (here_in lives n) (IsBooted s.cluster n) x g) (sym controller) fits))
    (subst (HasMain (IsSide lives n) g) (sym sent) (main_more (IsSide lives n) g s.messages more has kinds)) (locks ∙ none)
    (λ d is. (stands d is).free (free (stands d is).keeps.before (stands d is).keeps.had))
thread_on {lives} {n} s t more (done sides free) kinds sent cluster locks controller stands =
    done (subst (All (IsSide lives n)) (sym sent) (All-append (IsSide lives n) s.messages more sides kinds))
    (λ d is. (stands d is).free (free (stands d is).keeps.before (stands d is).keeps.had))
thread_on {lives} {n} s t more (hung sides waits) kinds sent cluster locks controller stands =
    hung (subst (All (IsSide lives n)) (sym sent) (All-append (IsSide lives n) s.messages more sides kinds))
    (λ d is. (stands d is).hung (waits (stands d is).keeps.before (stands d is).keeps.had))

pub side_on : {lives : Node → ℕ} {n : Node} (s t : SystemView) → Underway lives n s → SideCame lives n s t → Underway lives n t
unfolding itself
side_on s _ f lost = f
side_on {lives} {n} s _ f (own t w kinds controller stands) = record {
  calm = calm_own s t w f.calm (λ d is. (stands d is).keeps);
  thread = thread_on s t w.more f.thread kinds (ap (λ (x : SystemView). x.messages) w.is) (ap (λ (x : SystemView). x.cluster) w.is)
      (ap (λ (x : SystemView). x.locks) w.is) (ap (λ (v : LiveView). v.controller) (node_on w) ∙ controller)
      (λ d is. stands d (sym (ap (λ (v : LiveView). v.dist) (node_on w)) ∙ is));
}
side_on {lives} {n} s _ f (elsewhere m t w apart kinds rest stopped ending) = record {
  calm = calm_other s t w f.calm apart rest stopped ending;
  thread = thread_on s t w.more f.thread kinds (ap (λ (x : SystemView). x.messages) w.is) (ap (λ (x : SystemView). x.cluster) w.is)
      (ap (λ (x : SystemView). x.locks) w.is) (ap (λ (v : LiveView). v.controller) same)
      (λ d is. record {
        keeps = itself d (sym (ap (λ (v : LiveView). v.dist) same) ∙ is);
        free = λ free. free;
        hung = λ waits. waits;
      });
}
  where
    same : node_at t n ≡ node_at s n
    same = other_on w n (λ one. apart (sym one))

-- ---- the script goes on

-- The controller or the boot script has taken its message, or the dist_ac its request.
pub data MainCame (lives : Node → ℕ) (n : Node) (s : SystemView) : SystemView → Type 0 where
  spoke : (t : SystemView) (w : Wrote n s.locks s t) → w.new.dist ≡ (node_at s n).dist
      → Next (here_in lives n) (IsBooted s.cluster n) w.new.controller w.more → MainCame lives n s t
  turned : (t : SystemView) (a : App) (locks : List Held) (w : Wrote n locks s t) → w.new.controller ≡ (node_at s n).controller
      → HasAsked (here_in lives n) a (node_at s n).controller
      → Onward (here_in lives n) a w.new.dist w.more locks
      → ((d : DistView) → w.new.dist ≡ Some d → Keeps (node_at s n).dist d) → MainCame lives n s t

pub main_on : {lives : Node → ℕ} {n : Node} (s t : SystemView) → Calm lives n s → All (IsSide lives n) s.messages → s.locks ≡ []
    → ((d : DistView) → (node_at s n).dist ≡ Some d → IsUnoccupied d) → MainCame lives n s t → Underway lives n t
main_on {lives} {n} s _ f sides none free (spoke t w dist next) = record {
  calm = calm_own s t w f (λ d is. itself d (sym dist ∙ is));
  thread = by w.more w.new.controller refl (ap (λ (v : LiveView). v.controller) (node_on w)) next;
}
  where
    K : Envelope → Type 0
    K = IsSide lives n

    in_cluster : s.cluster ≡ t.cluster
    in_cluster = sym (ap (λ (x : SystemView). x.cluster) w.is)

    locks : t.locks ≡ []
    locks = ap (λ (x : SystemView). x.locks) w.is ∙ none

    sent : t.messages ≡ s.messages ++ w.more
    sent = ap (λ (x : SystemView). x.messages) w.is

    free_on : (d : DistView) → (node_at t n).dist ≡ Some d → IsUnoccupied d
    free_on d is = free d (sym (ap (λ (v : LiveView). v.dist) (node_on w) ∙ dist) ∙ is)

    fits_on : (x : ControllerView) (g : Envelope) → (node_at t n).controller ≡ x → Fits (here_in lives n) (IsBooted s.cluster n) x g
        → Fits (here_in lives n) (IsBooted t.cluster n) (node_at t n).controller g
    fits_on x g is fits =
        subst (λ (c : ClusterView). Fits (here_in lives n) (IsBooted c n) (node_at t n).controller g) in_cluster
        (subst (λ (y : ControllerView). Fits (here_in lives n) (IsBooted s.cluster n) y g) (sym is) fits)

    by : (more : List Envelope) (x : ControllerView) → w.more ≡ more → (node_at t n).controller ≡ x
        → Next (here_in lives n) (IsBooted s.cluster n) x more → Thread lives n t
    by _ x is at over =
        done (subst (All K) (sym (sent ∙ ap (λ l. s.messages ++ l) is ∙ append-nil s.messages)) sides) free_on
    by _ x is at (goes g fits) =
        busy g (fits_on x g at fits)
        (subst (HasMain K g) (sym (sent ∙ ap (λ l. s.messages ++ l) is))
        (main_last K g s.messages (g ∷ []) sides (inl (refl, All-nil K)))) locks free_on
    by _ x is at (goes_telling o a error nobody) =
        let g : Envelope = its_answer (here_in lives n) o in
        let e : Envelope = own_news (here_in lives n) a error in
        busy g (fits_on x g at (answers o nobody))
        (subst (HasMain K g) (sym (sent ∙ ap (λ l. s.messages ++ l) is))
        (main_last K g s.messages (g ∷ e ∷ []) sides (inl (refl, All-cons K e [] (runs a error) (All-nil K))))) locks free_on
main_on {lives} {n} s _ f sides none free (turned t a locks w controller asked onward keeps) = record {
  calm = calm_own s t w f keeps;
  thread = by w.new.dist w.more locks (ap (λ (v : LiveView). v.dist) (node_on w)) (ap (λ (x : SystemView). x.messages) w.is)
      (ap (λ (x : SystemView). x.locks) w.is) onward;
}
  where
    K : Envelope → Type 0
    K = IsSide lives n

    same : (node_at t n).controller ≡ (node_at s n).controller
    same = ap (λ (v : LiveView). v.controller) (node_on w) ∙ controller

    by : (o : Option DistView) (more : List Envelope) (rows : List Held) → (node_at t n).dist ≡ o → t.messages ≡ s.messages ++ more
        → t.locks ≡ rows → Onward (here_in lives n) a o more rows → Thread lives n t
    by _ _ _ dist sent held (replied r o free) =
        let g : Envelope = its_reply (here_in lives n) a r in
        busy g (replies a r (ap (λ (x : ControllerView). x.start_req) same ∙ asked))
        (subst (HasMain K g) (sym sent) (main_last K g s.messages (g ∷ []) sides (inl (refl, All-nil K)))) held
        (λ d is. free d (sym dist ∙ is))
    by _ _ _ dist sent held (quiet o free) =
        done (subst (All K) (sym (sent ∙ append-nil s.messages)) sides) (λ d is. free d (sym dist ∙ is))
    by _ _ _ dist sent held (hangs d waits) =
        hung (subst (All K) (sym (sent ∙ append-nil s.messages)) sides)
        (λ e is. subst IsHung (same_Some d e (sym dist ∙ is)) waits)
