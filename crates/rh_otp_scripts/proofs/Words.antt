-- What is on its way while a boot script runs: one message at most by which the script goes on, and beside it what is told of starts.
use Rattle.std.proofs.Common.{◌≡◌, ◌≢◌, ◌⊎◌, ◌++◌, ℕ, Bool, true, false, List, [], ◌∷◌, Option, Some, sym, subst, ◌∙◌, inl, inr}
use Rattle.std.specs.Prelude.{All}
use Rattle.std.proofs.lemmas.List.Elements.{All-cons, All-head, All-tail, All-append}
use Rattle.rh_model.specs.ClusterView.{ClusterView}
use Rattle.rh_model.specs.declared.node.App.{App}
use Rattle.rh_model.specs.declared.node.Node.{Node}
use Rattle.rh_model.specs.declared.settings.Dep.{Dep}
use Rattle.rh_model.specs.declared.settings.Restart.{Restart}
use Rattle.rh_otp_model.specs.declared.fault.Outcome.{Outcome}
use Rattle.rh_otp_model.specs.declared.message.Change.TheVariants as change_of
use Rattle.rh_otp_model.specs.declared.message.Message.TheVariants as message
use Rattle.rh_otp_model.specs.declared.message.Reply.{Reply}
use Rattle.rh_otp_model.specs.declared.output.Envelope.{Envelope}
use Rattle.rh_otp_model.specs.declared.process.Here.{Here}
use Rattle.rh_otp_model.specs.declared.process.Role.{Role}
use Rattle.rh_otp_model.specs.declared.process.Role.TheVariants as role
use Rattle.rh_otp_model.specs.Processes.{process_at}
use Rattle.rh_otp_controller.specs.State.{ControllerView}
use Rattle.rh_otp_node.specs.Boot.{entry_at}
use Rattle.rh_otp_orders.proofs.Taking.{Taken}
use Rattle.rh_otp_crashes.proofs.Crossing.{for_controller}
use Rattle.rh_otp_crashes.proofs.Peace.{here_in, taken_all}
use Rattle.rh_otp_crashes.proofs.Posting.{posted_to}
use Rattle.rh_otp_starts.proofs.Requests.{its_reply}

-- ---- by which the script goes on

-- it asks its node's controller for a start
abbrev pub its_start : Here → App → Restart → Envelope
its_start h a restart = record {
  from = process_at h role.Boot;
  to = process_at h role.Controller;
  message = message.Start a restart (process_at h role.Boot);
}

-- the controller asks its dist_ac where the application is to run
abbrev pub its_request : Here → App → Envelope
its_request h a =
    record { from = process_at h role.Controller; to = process_at h role.DistAc; message = message.StartRequest a }

-- the starter reports
abbrev pub its_report : Here → App → Option Dep → Envelope
its_report h a error =
    record { from = process_at h (role.Starter a); to = process_at h role.Controller; message = message.ApplicationStarted a error }

-- the script has its answer
abbrev pub its_answer : Here → Outcome → Envelope
its_answer h o = record { from = process_at h role.Controller; to = process_at h role.Boot; message = message.Answer o }

-- the script alone has asked for this application
abbrev pub HasAsked : Here → App → ControllerView → Type 0
HasAsked h a x = x.start_req ≡ (a, Some (process_at h role.Boot)) ∷ []

-- the node's boot list has it
abbrev pub IsBooted : ClusterView → Node → App → Type 0
IsBooted c n a = (place : ℕ) × (restart : Restart) × (entry_at c n place ≡ Some (a, restart))

-- Such a message is on its way, of such an application, and the controller stands so.
pub data Fits (h : Here) (P : App → Type 0) (x : ControllerView) : Envelope → Type 0 where
  starts : (a : App) (restart : Restart) → P a → x.start_req ≡ [] → Fits h P x (its_start h a restart)
  asks : (a : App) → P a → HasAsked h a x → Fits h P x (its_request h a)
  replies : (a : App) (r : Reply) → HasAsked h a x → Fits h P x (its_reply h a r)
  reports : (a : App) (error : Option Dep) → HasAsked h a x → Fits h P x (its_report h a error)
  answers : (o : Outcome) → x.start_req ≡ [] → Fits h P x (its_answer h o)

-- ---- beside it

-- the node's own dist_ac is told by its controller that the application runs, or what it lacks
abbrev pub own_news : Here → App → Option Dep → Envelope
own_news h a error = record { from = process_at h role.Controller; to = process_at h role.DistAc; message = message.Run a error }

-- another node's dist_ac is told by this one
abbrev pub news : (Node → ℕ) → Node → App → Option Dep → Node → Envelope
news lives n a error m = posted_to lives n (message.AppStarted n a error) m

-- and its controller by that
abbrev pub learned : (Node → ℕ) → Node → App → Node → Envelope
learned lives n a m = for_controller lives m (process_at (here_in lives m) role.DistAc) (message.Change a (change_of.Started n))

pub data IsSide (lives : Node → ℕ) (n : Node) : Envelope → Type 0 where
  runs : (a : App) (error : Option Dep) → IsSide lives n (own_news (here_in lives n) a error)
  tells : (a : App) (error : Option Dep) (m : Node) → m.0 ≢ n.0 → IsSide lives n (news lives n a error m)
  moves : (a : App) (m : Node) → m.0 ≢ n.0 → IsSide lives n (learned lives n a m)

-- ---- what the node's controller and its boot script send

abbrev pub is_dist : Role → Bool
is_dist role.DistAc = true
is_dist r = false

-- it isn't sent by a dist_ac
abbrev pub IsVoice : Envelope → Type 0
IsVoice e = is_dist e.from.role ≡ false

-- The script is over or waits for what doesn't come, or it goes on by such a message, and it may be told that an application runs.
pub data Next (h : Here) (P : App → Type 0) (x : ControllerView) : List Envelope → Type 0 where
  over : Next h P x []
  goes : (g : Envelope) → Fits h P x g → Next h P x (g ∷ [])
  goes_telling : (o : Outcome) (a : App) (error : Option Dep) → x.start_req ≡ []
      → Next h P x (its_answer h o ∷ own_news h a error ∷ [])

-- ---- that one message among the others

-- among these it is on its way, and all others are of a kind
abbrev pub HasMain : (Envelope → Type 0) → Envelope → List Envelope → Type 0
HasMain K g [] = ⊥
HasMain K g (e ∷ l) = ((e ≡ g) × All K l) ⊎ (K e × HasMain K g l)

-- it is taken, or another one is
pub main_taken : (K : Envelope → Type 0) (g e : Envelope) (l left : List Envelope) → HasMain K g l → Taken e l left
    → ((e ≡ g) × All K left) ⊎ (K e × HasMain K g left)
main_taken K g e [] left has taken = absurd taken
main_taken K g e (m ∷ l) left (inl first) (inl here) = inl (sym here.0 ∙ first.0, subst (All K) (sym here.1) first.1)
main_taken K g e (m ∷ l) left (inl first) (inr later) =
    let more : K e × All K later.1 = taken_all K e l later.1 later.3 first.1 in
    inr (more.0, subst (HasMain K g) (sym later.2) (inl (first.0, more.1)))
main_taken K g e (m ∷ l) left (inr behind) (inl here) = inr (subst K here.0 behind.0, subst (HasMain K g) (sym here.1) behind.1)
main_taken K g e (m ∷ l) left (inr behind) (inr later) = by (main_taken K g e l later.1 behind.1 later.3)
  where
    by : ((e ≡ g) × All K later.1) ⊎ (K e × HasMain K g later.1) → ((e ≡ g) × All K left) ⊎ (K e × HasMain K g left)
    by (inl main) = inl (main.0, subst (All K) (sym later.2) (All-cons K m later.1 behind.0 main.1))
    by (inr other) = inr (other.0, subst (HasMain K g) (sym later.2) (inr (behind.0, other.1)))

-- more is sent behind it
pub main_more : (K : Envelope → Type 0) (g : Envelope) (l more : List Envelope) → HasMain K g l → All K more → HasMain K g (l ++ more)
main_more K g [] more has all = absurd has
main_more K g (e ∷ l) more (inl first) all = inl (first.0, All-append K l more first.1 all)
main_more K g (e ∷ l) more (inr behind) all = inr (behind.0, main_more K g l more behind.1 all)

-- it is sent behind others
pub main_last : (K : Envelope → Type 0) (g : Envelope) (l more : List Envelope) → All K l → HasMain K g more → HasMain K g (l ++ more)
main_last K g [] more all has = has
main_last K g (e ∷ l) more all has =
    inr (All-head K e l all, main_last K g l more (All-tail K e l all) has)
