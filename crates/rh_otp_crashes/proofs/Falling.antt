-- What there is on its way behind a crash of nodes that were at rest, and that any two of these messages meet again.
use Rattle.std.proofs.Common.{◌≡◌, ◌⊎◌, ℕ, true, false, List, refl, sym, ap, subst, ◌∙◌, inl, inr}
use Rattle.std.proofs.lemmas.Bool.{cases_Bool, false≢true}
use Rattle.rh_model.specs.declared.node.App.{App}
use Rattle.rh_model.specs.declared.node.Node.{Node}
use Rattle.rh_otp_model.specs.declared.message.Message.TheVariants as message
use Rattle.rh_otp_model.specs.declared.output.Envelope.{Envelope}
use Rattle.rh_otp_model.specs.declared.process.Process.{Process}
use Rattle.rh_otp_model.specs.declared.process.Role.TheVariants as role
use Rattle.rh_otp_model.specs.Processes.{process_at}
use Rattle.rh_otp_net.specs.Queue.{is_of_pair}
use Rattle.rh_otp_system.specs.Delivering.{arrived}
use Rattle.rh_otp_system.specs.Moves.{Delivers, Reaches, here, behind_one}
use Rattle.rh_otp_system.specs.State.{SystemView, node_at, is_alive_at}
use Rattle.rh_otp_laws.proofs.Order.{pair_itself}
use Rattle.rh_otp_orders.specs.Confluence.{Meet, IsOrderly}
use Rattle.rh_otp_orders.specs.Orders.{is_call}
use Rattle.rh_otp_orders.proofs.Taking.{Taken}
use Rattle.rh_otp_crashes.proofs.Crossing.{crosses, meet_back, not_back, same_node}
use Rattle.rh_otp_crashes.proofs.Deeds.{turns, changes, AreLater}
use Rattle.rh_otp_crashes.proofs.Downing.{no_more}
use Rattle.rh_otp_crashes.proofs.Peace.{AtPeace, AtEase, Came, Delivered, here_in, without, only_messages, peace_on, peace_left, acts_dist, acts_controller, arrives_alive, arrives_dead, meets, MeetHere, taken_all}
use Rattle.rh_otp_crashes.proofs.Turning.{Turned, own_in}

-- a dist_ac is told of the end
abbrev pub end_told : (Node → ℕ) → Process → Node → Envelope
end_told lives gone n = record { from = gone; to = process_at (here_in lives n) role.DistAc; message = message.NodeDown gone.node }

-- all messages are such, or tell a controller that an application runs nowhere
pub data IsFallout (lives : Node → ℕ) (gone : Process) : Envelope → Type 0 where
  tells : (n : Node) → IsFallout lives gone (end_told lives gone n)
  clears : (n : Node) (a : App) → IsFallout lives gone (no_more (here_in lives n) a)

-- all else is at rest, and no loss is over at once
pub record Fallout (lives : Node → ℕ) (gone : Process) (s : SystemView) : Type 0 where
  pub peace : AtPeace AtEase (IsFallout lives gone) lives s
  pub later : (n : Node) → AreLater (own_in s.files n)

no_call : {lives : Node → ℕ} {gone : Process} (e : Envelope) → IsFallout lives gone e → is_call e.to.role ≡ false
no_call _ (tells n) = refl
no_call _ (clears n a) = refl

-- what a dist_ac does in such a state of all
down_at : {lives : Node → ℕ} {gone : Process} (n : Node) (s : SystemView) → Fallout lives gone s → is_alive_at s n ≡ true
    → Turned (IsFallout lives gone) s.cluster s.files n (lives n) (message.NodeDown gone.node) (node_at s n).dist
down_at {lives} {gone} n s f alive =
    turns (IsFallout lives gone) s.cluster s.files n (lives n) gone.node (node_at s n).dist (λ a. clears n a)
    (λ d has. f.peace.dists n d alive has) (f.later n)

-- a node that is alive acts for itself, and what comes to one that isn't is lost
comes : {lives : Node → ℕ} {gone : Process} (e : Envelope) (s : SystemView) → IsFallout lives gone e → Fallout lives gone s
    → Came AtEase (IsFallout lives gone) e.to.node s (arrived e.to e.message s)
comes {lives} {gone} _ s (tells n) f = by (cases_Bool (is_alive_at s n))
  where
    e : Envelope
    e = end_told lives gone n

    by : (is_alive_at s n ≡ true) ⊎ (is_alive_at s n ≡ false) → Came AtEase (IsFallout lives gone) n s (arrived e.to e.message s)
    by (inl alive) =
        inl (rw (arrives_alive e.to e.message s alive (f.peace.same_lives n)) (acts_dist n e.message s f.peace alive (down_at n s f alive)))
    by (inr dead) = inr (arrives_dead e.to e.message s dead)
comes {lives} {gone} _ s (clears n a) f = by (cases_Bool (is_alive_at s n))
  where
    e : Envelope
    e = no_more (here_in lives n) a

    by : (is_alive_at s n ≡ true) ⊎ (is_alive_at s n ≡ false) → Came AtEase (IsFallout lives gone) n s (arrived e.to e.message s)
    by (inl alive) =
        inl (rw (arrives_alive e.to e.message s alive (f.peace.same_lives n))
        (acts_controller n e.message s f.peace alive (changes s.cluster s.files n a)))
    by (inr dead) = inr (arrives_dead e.to e.message s dead)

-- files are never written
files_on : {K : Envelope → Type 0} (n : Node) (s t : SystemView) → Came AtEase K n s t → t.files ≡ s.files
files_on n s t (inl a) = ap (λ (x : SystemView). x.files) a.is
files_on n s t (inr same) = ap (λ (x : SystemView). x.files) same

pub goes_on : {lives : Node → ℕ} {gone : Process} (s t : SystemView) → Fallout lives gone s → Delivers s t → Fallout lives gone t
goes_on {lives} {gone} s t f one =
    let d : Delivered AtEase (IsFallout lives gone) lives s t = only_messages s t f.peace one in
    let came : Came AtEase (IsFallout lives gone) d.message.to.node (without s d.left) t =
    subst (Came AtEase (IsFallout lives gone) d.message.to.node (without s d.left)) (sym d.is)
    (comes d.message (without s d.left) d.kind (record { peace = d.still; later = f.later })) in
    record {
      peace = peace_on d.message.to.node (without s d.left) t d.still came;
      later = λ n. subst (λ files. AreLater (own_in files n)) (sym (files_on d.message.to.node (without s d.left) t came)) (f.later n);
    }

-- ---- at one node

-- its dist_ac and its controller
cross_here : {lives : Node → ℕ} {gone : Process} (s : SystemView) → Fallout lives gone s → (n m : Node) (a : App) (left_e left_f : List Envelope)
    → Taken (end_told lives gone n) s.messages left_e → Taken (no_more (here_in lives m) a) s.messages left_f
    → is_of_pair (end_told lives gone n) (no_more (here_in lives m) a) ≡ false → n ≡ m
    → Meet (arrived (end_told lives gone n).to (end_told lives gone n).message (without s left_e))
    (arrived (no_more (here_in lives m) a).to (no_more (here_in lives m) a).message (without s left_f))
cross_here {lives} {gone} s f n m a left_e left_f taken_e taken_f apart one =
    subst (λ (k : Node). Taken (no_more (here_in lives k) a) s.messages left_f
    → is_of_pair (end_told lives gone n) (no_more (here_in lives k) a) ≡ false
    → Meet (arrived (end_told lives gone n).to (end_told lives gone n).message (without s left_e))
    (arrived (no_more (here_in lives k) a).to (no_more (here_in lives k) a).message (without s left_f))) one
    (λ taken apart. crosses s n gone (no_more (here_in lives n) a).from (message.NodeDown gone.node) (no_more (here_in lives n) a).message left_e left_f
    f.peace.same_lives (λ alive. down_at n s f alive) (changes s.cluster s.files n a) taken_e taken apart)
    taken_f apart

meet_here : {lives : Node → ℕ} {gone : Process} (s : SystemView) → Fallout lives gone s → MeetHere (IsFallout lives gone) s
meet_here {lives} {gone} s f _ _ left_e left_f (tells n) (tells m) taken_e taken_f apart one =
    absurd (false≢true (sym apart ∙ ap (λ (k : Node). is_of_pair (end_told lives gone n) (end_told lives gone k)) (sym (same_node n m one))
    ∙ pair_itself (end_told lives gone n)))
meet_here {lives} {gone} s f _ _ left_e left_f (clears n a) (clears m b) taken_e taken_f apart one =
    absurd (false≢true (sym apart
    ∙ ap (λ (k : Node). is_of_pair (no_more (here_in lives n) a) (no_more (here_in lives k) b)) (sym (same_node n m one))
    ∙ pair_itself (no_more (here_in lives n) a)))
meet_here {lives} {gone} s f _ _ left_e left_f (tells n) (clears m a) taken_e taken_f apart one =
    cross_here s f n m a left_e left_f taken_e taken_f apart (same_node n m one)
meet_here {lives} {gone} s f _ _ left_e left_f (clears n a) (tells m) taken_e taken_f apart one =
    meet_back _ _ (cross_here s f m n a left_f left_e taken_f taken_e (not_back (no_more (here_in lives n) a) (end_told lives gone m) apart)
    (same_node m n (sym one)))

-- ---- every order

all_on : {lives : Node → ℕ} {gone : Process} (s p : SystemView) → Reaches s p → Fallout lives gone s → Fallout lives gone p
all_on _ _ (here s) f = f
all_on _ _ (behind_one s q p one rest) f = all_on q p rest (goes_on s q f one)

pub orderly : {lives : Node → ℕ} {gone : Process} (s : SystemView) → Fallout lives gone s → IsOrderly s
orderly {lives} {gone} s start p t u reaches to_t to_u =
    let f : Fallout lives gone p = all_on s p reaches start in
    meets no_call p t u f.peace
    (λ e left kind taken. comes e (without p left) kind (record {
      peace = peace_left p left f.peace (taken_all (IsFallout lives gone) e p.messages left taken f.peace.messages).1;
      later = f.later;
    })) (meet_here p f) to_t to_u
