-- What each message comes to while a boot script runs.
use Rattle.std.proofs.Common.{◌≡◌, ◌≢◌, ◌⊎◌, ◌++◌, ℕ, zero, suc, true, false, List, [], ◌∷◌, slice_get, Option, Some, refl, sym, ap, subst, ◌∙◌, inl, inr}
use Rattle.std.specs.Prelude.{All}
use Rattle.std.proofs.lemmas.Bool.{cases_Bool}
use Rattle.std.proofs.lemmas.List.{append-nil}
use Rattle.std.proofs.lemmas.List.Elements.{All-head, All-tail}
use Rattle.std.proofs.lemmas.Option.{none-some, same_Some}
use Rattle.rh_model.specs.ClusterView.{boot_of}
use Rattle.rh_model.specs.declared.node.App.{App}
use Rattle.rh_model.specs.declared.node.Node.{Node}
use Rattle.rh_model.specs.declared.settings.Dep.{Dep}
use Rattle.rh_model.specs.declared.settings.Restart.{Restart}
use Rattle.rh_otp_model.specs.declared.message.Message.TheVariants as message
use Rattle.rh_otp_model.specs.declared.output.Envelope.{Envelope}
use Rattle.rh_otp_model.specs.declared.process.Here.{Here}
use Rattle.rh_otp_model.specs.Own.{OwnView}
use Rattle.rh_otp_controller.specs.State.{ControllerView}
use Rattle.rh_otp_dist.specs.State.{DistView}
use Rattle.rh_otp_node.specs.Live.{LiveView, is_ending}
use Rattle.rh_otp_system.specs.Delivering.{arrived, received}
use Rattle.rh_otp_system.specs.Joining.{fault_in}
use Rattle.rh_otp_system.specs.State.{SystemView, live_at, node_at, with_node, is_alive_at}
use Rattle.rh_otp_crashes.specs.Crashes.{IsUnoccupied}
use Rattle.rh_otp_crashes.proofs.Peace.{AtEase, Acted, here_in, arrives_alive, arrives_dead}
use Rattle.rh_otp_crashes.proofs.Starting.{moves_elsewhere}
use Rattle.rh_otp_crashes.proofs.Turning.{Turned, own_in, node_is}
use Rattle.rh_otp_stops.proofs.Stopping.{there_is, told_acts}
use Rattle.rh_otp_begins.proofs.Hearing.{hears_any}
use Rattle.rh_otp_begins.proofs.Running.{changed_acts}
use Rattle.rh_otp_scripts.specs.Scripts.{HasNoTuple, SeesRunners}
use Rattle.rh_otp_scripts.proofs.Controlling.{hears_start, hears_reply, hears_report}
use Rattle.rh_otp_scripts.proofs.Requesting.{Requested, requests}
use Rattle.rh_otp_scripts.proofs.Running.{Stands, Ran, ran}
use Rattle.rh_otp_scripts.proofs.Speaking.{Spoken, speaks, goes_on}
use Rattle.rh_otp_scripts.proofs.Underway.{Wrote, Calm, SideCame, lost, own, elsewhere, MainCame, spoke, turned}
use Rattle.rh_otp_scripts.proofs.Words.{IsBooted, its_request, own_news, news, learned, HasAsked, Fits, starts, asks, replies, reports, answers, IsSide, runs, tells, moves}

-- ---- beside the script

-- the node's own dist_ac is told that an application runs
pub own_ran : {lives : Node → ℕ} {n : Node} (a : App) (error : Option Dep) (q : SystemView) → Calm lives n q
    → ((d : DistView) → (node_at q n).dist ≡ Some d → Stands d) → Ran lives n a error q
own_ran {lives} {n} a error q f stands = ran lives n a error q stands f.takeovers f.sees

-- another node's hears of it
pub heard_at : {lives : Node → ℕ} {n : Node} {K : Envelope → Type 0} (a : App) (error : Option Dep) (m : Node) (q : SystemView)
    → Calm lives n q → m.0 ≢ n.0 → K (learned lives n a m) → is_alive_at q m ≡ true
    → Turned K q.cluster q.files m (lives m) (message.AppStarted n a error) (node_at q m).dist
heard_at {lives} {n} {K} a error m q f apart kind alive =
    hears_any K q.cluster q.files m (lives m) a n error (node_at q m).dist kind (λ d has. f.others m d apart alive has)

-- another node has acted for itself
acted_other : {lives : Node → ℕ} {n : Node} (m : Node) (q t : SystemView) → m.0 ≢ n.0 → is_alive_at q m ≡ true
    → Acted AtEase (IsSide lives n) m q t → SideCame lives n q t
acted_other m q t apart alive a =
    let old : a.old ≡ node_at q m = sym (node_is q m a.old a.there) in
    elsewhere m t
    (record {
      new = a.new;
      there = there_is q m alive;
      more = a.more;
      set = a.set;
      seen = a.seen;
      is = a.is;
      life = a.life ∙ ap (λ (v : LiveView). v.life) old;
      phase = a.phase ∙ ap (λ (v : LiveView). v.phase) old;
    })
    apart a.kinds a.rest (a.stopped ∙ ap (λ (v : LiveView). v.is_stopped) old) (a.ending ∙ ap is_ending old)

pub side_came : {lives : Node → ℕ} {n : Node} (q : SystemView) (e : Envelope) → Calm lives n q
    → ((d : DistView) → (node_at q n).dist ≡ Some d → Stands d) → IsSide lives n e → SideCame lives n q (arrived e.to e.message q)
side_came {lives} {n} q _ f stands (runs a error) =
    let e : Envelope = own_news (here_in lives n) a error in
    let r : Ran lives n a error q = own_ran a error q f stands in
    let there : live_at q n ≡ Some (node_at q n) = there_is q n f.alive in
    own (arrived e.to e.message q)
    (record {
      new = record (node_at q n) { dist = r.next };
      there = there;
      more = r.more;
      set = [];
      seen = [];
      is = arrives_alive e.to e.message q f.alive (f.same_lives n)
          ∙ r.comes q (node_at q n) there refl f.same_lives refl refl refl (λ k. refl)
          ∙ (λ i. record (with_node n (record (node_at q n) { dist = r.next }) q) {
            messages = q.messages ++ r.more;
            timers = sym (append-nil q.timers) i;
            events = sym (append-nil q.events) i;
          });
      life = refl;
      phase = refl;
    })
    r.kinds refl r.stands
side_came {lives} {n} q _ f stands (tells a error m apart) = by (cases_Bool (is_alive_at q m))
  where
    e : Envelope
    e = news lives n a error m

    by : (is_alive_at q m ≡ true) ⊎ (is_alive_at q m ≡ false) → SideCame lives n q (arrived e.to e.message q)
    by (inl alive) =
        subst (SideCame lives n q) (sym (arrives_alive e.to e.message q alive (f.same_lives m)))
        (acted_other m q _ apart alive
        (told_acts m e.message q f.same_lives alive (heard_at a error m q f apart (moves a m apart) alive)))
    by (inr dead) = subst (SideCame lives n q) (sym (arrives_dead e.to e.message q dead)) lost
side_came {lives} {n} q _ f stands (moves a m apart) = by (cases_Bool (is_alive_at q m))
  where
    e : Envelope
    e = learned lives n a m

    by : (is_alive_at q m ≡ true) ⊎ (is_alive_at q m ≡ false) → SideCame lives n q (arrived e.to e.message q)
    by (inl alive) =
        subst (SideCame lives n q) (sym (arrives_alive e.to e.message q alive (f.same_lives m)))
        (acted_other m q _ apart alive
        (changed_acts m e.message q alive (λ d has. f.others m d apart alive has) (moves_elsewhere q.cluster q.files m a n)))
    by (inr dead) = subst (SideCame lives n q) (sym (arrives_dead e.to e.message q dead)) lost

-- ---- the script goes on

-- the controller or the boot script takes it, or the dist_ac, whose request it is
pub data Takes (lives : Node → ℕ) (n : Node) (q : SystemView) : Envelope → Type 0 where
  voice : (g : Envelope) → Spoken lives n q (λ (p : SystemView). received g.to g.message p) → Takes lives n q g
  request : (a : App) → HasAsked (here_in lives n) a (node_at q n).controller → Requested lives n a q
      → Takes lives n q (its_request (here_in lives n) a)

-- what is so of all is so of each
all_at : {A : Type 0} (P : A → Type 0) (xs : List A) (place : ℕ) (x : A) → All P xs → slice_get xs place ≡ Some x → P x
all_at P [] place x all there = absurd (none-some x there)
all_at P (y ∷ xs) zero x all there = subst P (same_Some y x there) (All-head P y xs all)
all_at P (y ∷ xs) (suc place) x all there = all_at P xs place x (All-tail P y xs all) there

pub takes_so : {lives : Node → ℕ} {n : Node} (q : SystemView) (g : Envelope) → Calm lives n q
    → ((d : DistView) → (node_at q n).dist ≡ Some d → IsUnoccupied d)
    → Fits (here_in lives n) (IsBooted q.cluster n) (node_at q n).controller g → Takes lives n q g
takes_so {lives} {n} q g f free fits = by (node_at q n).controller refl g fits
  where
    h : Here
    h = here_in lives n

    own_file : OwnView
    own_file = own_in q.files n

    P : App → Type 0
    P = IsBooted q.cluster n

    by : (x : ControllerView) → (node_at q n).controller ≡ x → (g : Envelope) → Fits h P x g → Takes lives n q g
    by x is _ (starts a restart booted none) = voice _
        (speaks lives n _ q (hears_start P q.cluster own_file h (node_at q n).controller a restart booted
        (ap (λ (y : ControllerView). y.start_req) is ∙ none)))
    by x is _ (asks a booted asked) =
        request a (ap (λ (y : ControllerView). y.start_req) is ∙ asked) (requests lives n a q free
        (all_at (λ (row : App × Restart). HasNoTuple own_file row.0) (boot_of q.cluster n) booted.0 (a, booted.1) f.lists booted.2)
        (λ d has. all_at (λ (row : App × Restart). SeesRunners n row.0 d q) (boot_of q.cluster n) booted.0 (a, booted.1) (f.runners d has)
        booted.2))
    by x is _ (replies a r asked) = voice _
        (speaks lives n _ q (hears_reply P q.cluster own_file h (node_at q n).controller a r
        (ap (λ (y : ControllerView). y.start_req) is ∙ asked)))
    by x is _ (reports a error asked) = voice _
        (speaks lives n _ q (hears_report P q.cluster own_file h (node_at q n).controller a error
        (ap (λ (y : ControllerView). y.start_req) is ∙ asked)))
    by x is _ (answers o none) = voice _
        (goes_on lives n (fault_in o) q (ap (λ (y : ControllerView). y.start_req) is ∙ none))

-- it comes to the node
pub comes_there : {h : Here} {P : App → Type 0} {x : ControllerView} (g : Envelope) → Fits h P x g
    → (g.to.node ≡ h.node) × (g.to.life ≡ h.life)
comes_there _ (starts a restart booted none) = (refl, refl)
comes_there _ (asks a booted asked) = (refl, refl)
comes_there _ (replies a r asked) = (refl, refl)
comes_there _ (reports a error asked) = (refl, refl)
comes_there _ (answers o none) = (refl, refl)

-- and is taken there
pub arrives_there : {lives : Node → ℕ} {n : Node} (q : SystemView) (g : Envelope) → is_alive_at q n ≡ true
    → ((k : Node) → (node_at q k).life ≡ lives k)
    → (g.to.node ≡ n) × (g.to.life ≡ lives n) → arrived g.to g.message q ≡ received g.to g.message q
arrives_there {lives} {n} q g alive same to =
    arrives_alive g.to g.message q (ap (is_alive_at q) to.0 ∙ alive) (ap (λ k. (node_at q k).life) to.0 ∙ same n ∙ sym to.1)

-- where it isn't the dist_ac's, the node has written
pub wrote : {lives : Node → ℕ} {n : Node} (q : SystemView) (g : Envelope) → Calm lives n q
    → Spoken lives n q (λ (p : SystemView). received g.to g.message p) → Wrote n q.locks q (received g.to g.message q)
wrote {lives} {n} q g f sp =
    let new : LiveView = record (node_at q n) { controller = sp.next; kinds = sp.kinds (node_at q n).kinds; place = sp.place } in
    let there : live_at q n ≡ Some (node_at q n) = there_is q n f.alive in
    record {
      new = new;
      there = there;
      more = sp.more;
      set = [];
      seen = sp.seen;
      is = sp.comes q (node_at q n) there refl refl (f.same_lives n) refl refl
          ∙ (λ i. record (with_node n new q) {
            messages = q.messages ++ sp.more;
            timers = sym (append-nil q.timers) i;
            events = q.events ++ sp.seen;
          });
      life = refl;
      phase = refl;
    }

pub main_came : {lives : Node → ℕ} {n : Node} (q : SystemView) (g : Envelope) → Calm lives n q → q.locks ≡ []
    → ((d : DistView) → (node_at q n).dist ≡ Some d → IsUnoccupied d)
    → Fits (here_in lives n) (IsBooted q.cluster n) (node_at q n).controller g → MainCame lives n q (arrived g.to g.message q)
unfolding wrote
main_came {lives} {n} q g f none free fits =
    subst (MainCame lives n q) (sym (arrives_there q g f.alive f.same_lives (comes_there g fits))) (by g (takes_so q g f free fits))
  where
    there : live_at q n ≡ Some (node_at q n)
    there = there_is q n f.alive

    by : (y : Envelope) → Takes lives n q y → MainCame lives n q (received y.to y.message q)
    by _ (voice y sp) = spoke (received y.to y.message q) (wrote q y f sp) refl sp.then_on
    by _ (request a asked r) =
        let new : LiveView = record (node_at q n) { dist = r.next } in
        turned (received (its_request (here_in lives n) a).to (message.StartRequest a) q) a r.locks
        (record {
          new = new;
          there = there;
          more = r.more;
          set = [];
          seen = [];
          is = r.comes q (node_at q n) there refl (f.same_lives n) refl refl none refl (λ k. refl)
              ∙ (λ i. record (with_node n new q) {
                messages = q.messages ++ r.more;
                timers = sym (append-nil q.timers) i;
                events = sym (append-nil q.events) i;
                locks = r.locks;
              });
          life = refl;
          phase = refl;
        })
        refl asked r.then_on r.keeps
