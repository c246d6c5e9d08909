-- Behind a message a dist_ac needs the lock that it needed before it, or has freed it last.
use Rattle.std.proofs.Common.{◌≡◌, ◌⊎◌, ◌<◌, ◌++◌, ℕ, zero, suc, Bool, true, false, cond, length, List, [], ◌∷◌, Option, Some, None, slice_get, refl, sym, ap, subst, ◌∙◌, inl, inr, arith}
use Rattle.std.proofs.lemmas.Bool.{false≢true}
use Rattle.rh_model.specs.declared.node.App.{App}
use Rattle.rh_model.specs.declared.node.Node.{Node}
use Rattle.rh_otp_model.specs.declared.message.Message.{Message}
use Rattle.rh_otp_model.specs.declared.message.Message.TheVariants as message
use Rattle.rh_otp_model.specs.declared.output.Output.TheVariants as output
use Rattle.rh_otp_model.specs.declared.output.Requester.{Requester}
use Rattle.rh_otp_model.specs.declared.output.Requester.TheVariants.{Sync, Alone}
use Rattle.rh_otp_model.specs.declared.process.Here.{Here}
use Rattle.rh_otp_model.specs.declared.process.Process.{Process}
use Rattle.rh_otp_model.specs.declared.process.Role.TheVariants as role
use Rattle.rh_otp_model.specs.Flags.{has_any}
use Rattle.rh_otp_model.specs.Processes.{process_at}
use Rattle.rh_otp_model.proofs.Places.{place_is}
use Rattle.rh_otp_dist.specs.declared.attempt.AskedBy.TheVariants as asked
use Rattle.rh_otp_dist.specs.declared.outside.Need.{Need}
use Rattle.rh_otp_dist.specs.declared.outside.Need.TheVariants as need
use Rattle.rh_otp_dist.specs.declared.state.Stand.{Stand}
use Rattle.rh_otp_dist.specs.declared.state.Stand.TheVariants as stand
use Rattle.rh_otp_dist.specs.Outside as outside
use Rattle.rh_otp_dist.specs.Choosing.{start_appl}
use Rattle.rh_otp_dist.specs.Received.{handle_next, next_mail, resumed, resumed_if, start_request, taken_out}
use Rattle.rh_otp_dist.specs.Sending.{demonitor}
use Rattle.rh_otp_dist.specs.State.{TurnView, DistView, with_state}
use Rattle.rh_otp_dist.specs.Views.{IntroducingView}
use Rattle.rh_otp_dist.specs.Waiting.{takes, introduce, introduced, introduced_by, wait_dacs, rows_at, merge}
use Rattle.rh_otp_node.specs.Remote.{need_if}
use Rattle.rh_otp_node.specs.Turns.{handled_if}
use Rattle.rh_otp_locks.specs.Holding.{is_introducing, is_starting, IsNeeded}
use Rattle.rh_otp_locks.proofs.Starting.{IsLast, IsOver, IsBy, appl_over, weighed_by_over, there_over, anywhere_over}

-- it needs the lock by this name where it stands, or has freed it last
abbrev pub IsDone : Requester → Process → TurnView → Type 0
IsDone r p u = IsNeeded r p u.state.stand ⊎ IsLast (output.Free r p) u.out

pub over_done : (p : Process) (u : TurnView) → IsOver p u → IsDone (Alone p) p u
over_done p u (inl is) = inl (inr (refl, is))
over_done p u (inr last) = inr last

-- who stands in the middle of neither needs none
pub none_needed : (r : Requester) (p : Process) (w : Stand) → is_introducing w ≡ false → is_starting w ≡ false → IsNeeded r p w → ⊥
none_needed r p w not_one nor_other (inl is) = false≢true (sym not_one ∙ is.1)
none_needed r p w not_one nor_other (inr is) = false≢true (sym nor_other ∙ is.1)

-- ---- introductions

pub waits_done : (nodes known : List Node) (remote : List (App × Node)) (p : Process) (t : TurnView) → IsBy p t
    → IsDone Sync p (wait_dacs nodes known remote t)
waits_done [] known remote p t by = inr (t.out, ap (λ (q : Process). t.out ++ output.Free Sync q ∷ []) by)
waits_done (n ∷ nodes) known remote p t by = inl (inl (refl, refl))

told_done : (i : IntroducingView) (n : Node) (nodes : List Node) (m : Message) (p : Process) (t : TurnView) → IsBy p t
    → IsDone Sync p (introduced i n nodes m t)
told_done i n nodes (message.NewNode m allowed started) p t by =
    waits_done nodes (n ∷ i.known) (i.remote_started ++ rows_at m 0 started) p (merge m allowed t) by
told_done i n nodes m p t by = waits_done nodes i.known i.remote_started p t by

introduced_done : (i : IntroducingView) (nodes : List Node) (m : Message) (p : Process) (t : TurnView) → IsBy p t
    → IsDone Sync p (introduced_by i nodes m t)
introduced_done i [] m p t by = waits_done [] i.known i.remote_started p t by
introduced_done i (n ∷ nodes) m p t by = told_done i n nodes m p (demonitor n t) by

introduce_here : (nodes : List Node) (m : Message) (t : TurnView) → (introduce nodes m t).here ≡ t.here
introduce_here [] m t = refl
introduce_here (n ∷ nodes) m t = introduce_here nodes m _

-- where it has the lock of all that synchronise and introduces itself
pub introduces_done : (nodes : List Node) (p : Process) (t : TurnView) → IsBy p t → IsDone Sync p (outside.introduced_to nodes t)
unfolding outside.introduced_to
introduces_done nodes p t by =
    waits_done nodes (t.here.node ∷ []) [] p (introduce nodes (outside.introduction t) t)
    (ap (λ (h : Here). process_at h role.DistAc) (introduce_here nodes (outside.introduction t) t) ∙ by)

-- ---- it goes on where it stood

syncs : (w : Stand) (m : Message) (p : Process) (t : TurnView) → is_introducing w ≡ true → IsBy p t → IsDone Sync p (resumed w m t)
syncs (stand.ForIntroduction i) m p t is by = introduced_done i i.nodes m p t by
syncs w m p t is by = absurd (false≢true is)

starts : (w : Stand) (m : Message) (p : Process) (t : TurnView) → is_starting w ≡ true → IsBy p t → IsOver p (resumed w m t)
starts (stand.ForWeight w) m p t is by = weighed_by_over w w.nodes m p t is by
starts (stand.ForStart attempt n) m p t is by = there_over attempt n m p t is by
starts (stand.ForAnyStart attempt) m p t is by = anywhere_over attempt m p t is by
starts w m p t is by = absurd (false≢true is)

resumed_done : (w : Stand) (r : Requester) (m : Message) (p : Process) (t : TurnView) → IsNeeded r p w → IsBy p t
    → IsDone r p (resumed w m t)
resumed_done w r m p t (inl is) by = subst (λ (q : Requester). IsDone q p (resumed w m t)) (sym is.0) (syncs w m p t is.1 by)
resumed_done w r m p t (inr is) by =
    subst (λ (q : Requester). IsDone q p (resumed w m t)) (sym is.0) (over_done p (resumed w m t) (starts w m p t is.1 by))

next_done : (place : ℕ) (m : Message) (r : Requester) (p : Process) (t : TurnView) → slice_get t.state.mail place ≡ Some m
    → IsNeeded r p t.state.stand → IsBy p t → IsDone r p (handle_next place t)
unfolding handle_next
next_done place m r p t at needed by =
    subst (λ (o : Option Message). IsDone r p (resumed_if t.state.stand o (taken_out place t))) (sym at)
    (resumed_done t.state.stand r m p (taken_out place t) needed by)

-- ---- the message that it takes next

-- within a list there is something
there : {A : Type 0} (xs : List A) (place : ℕ) → place < length xs → (x : A) × (slice_get xs place ≡ Some x)
there [] place within = absurd (omega (arith, within))
there (x ∷ xs) zero within = (x, refl)
there (x ∷ xs) (suc place) within = there xs place (omega (arith, within))

pub mail_there : (d : DistView) (place : ℕ) → next_mail d ≡ Some place → (m : Message) × (slice_get d.mail place ≡ Some m)
mail_there d place is = there d.mail place (place_is (takes d.stand) d.mail place is).1

pub handled_done : (o : Option ℕ) (r : Requester) (p : Process) (t : TurnView) → next_mail t.state ≡ o → IsNeeded r p t.state.stand
    → IsBy p t → IsDone r p (handled_if o t)
handled_done None r p t is needed by = inl needed
handled_done (Some place) r p t is needed by =
    let at : (m : Message) × (slice_get t.state.mail place ≡ Some m) = mail_there t.state place is in
    next_done place at.0 r p t at.1 needed by

-- ---- when it asks for the lock of its own node, and when its node's wait is over

abbrev pub is_own_lock : Need → Bool
is_own_lock need.OwnLock = true
is_own_lock w = false

abbrev pub is_lock : Need → Bool
is_lock need.Lock = true
is_lock w = false

-- a start request is what it takes next, and it waits for any message
pub record AsksForOwn (d : DistView) : Type 0 where
  pub place : ℕ
  pub app : App
  pub next : next_mail d ≡ Some place
  pub request : slice_get d.mail place ≡ Some (message.StartRequest app)
  pub idle : d.stand ≡ stand.Idle

-- the end of its node's wait is what it takes next
pub record AsksForAll (d : DistView) : Type 0 where
  pub place : ℕ
  pub mail : Message
  pub next : next_mail d ≡ Some place
  pub at : slice_get d.mail place ≡ Some mail
  pub waits : d.stand ≡ stand.ForGo

no_own_if : (b : Bool) (x y : Need) → is_own_lock x ≡ false → is_own_lock y ≡ false → is_own_lock (cond b x y) ≡ false
no_own_if true x y one other = one
no_own_if false x y one other = other

no_lock_if : (b : Bool) (x y : Need) → is_lock x ≡ false → is_lock y ≡ false → is_lock (cond b x y) ≡ false
no_lock_if true x y one other = one
no_lock_if false x y one other = other

answer_no_own : (n : Node) (a : Option App) (d : DistView) → is_own_lock (outside.answer_to n a d) ≡ false
answer_no_own n a d = no_own_if (outside.answers a d) _ _ refl refl

answer_no_lock : (n : Node) (a : Option App) (d : DistView) → is_lock (outside.answer_to n a d) ≡ false
answer_no_lock n a d = no_lock_if (outside.answers a d) _ _ refl refl

idle_own : (place : ℕ) (m : Message) (d : DistView) → next_mail d ≡ Some place → slice_get d.mail place ≡ Some m → d.stand ≡ stand.Idle
    → is_own_lock (outside.idle_need m d) ≡ true → AsksForOwn d
idle_own place (message.StartRequest a) d next at idle is =
    record { place = place; app = a; next = next; request = at; idle = idle }
idle_own place (message.Weight a w n) d next at idle is = absurd (false≢true (sym (answer_no_own n (Some a) d) ∙ is))
idle_own place (message.NewNode n allowed started) d next at idle is =
    absurd (false≢true (sym (no_own_if (has_any started) _ _ refl (answer_no_own n None d)) ∙ is))
idle_own place m d next at idle is = absurd (false≢true is)

idle_no_lock : (m : Message) (d : DistView) → is_lock (outside.idle_need m d) ≡ false
idle_no_lock (message.Weight a w n) d = answer_no_lock n (Some a) d
idle_no_lock (message.NewNode n allowed started) d = no_lock_if (has_any started) _ _ refl (answer_no_lock n None d)
idle_no_lock m d = refl

go_no_own : (m : Message) → is_own_lock (outside.go_need m) ≡ false
go_no_own message.Go = refl
go_no_own m = refl

stands_own : (w : Stand) (place : ℕ) (m : Message) (d : DistView) → next_mail d ≡ Some place → slice_get d.mail place ≡ Some m → d.stand ≡ w
    → is_own_lock (outside.need_at w m d) ≡ true → AsksForOwn d
stands_own stand.Idle place m d next at stands is = idle_own place m d next at stands is
stands_own stand.ForGo place m d next at stands is = absurd (false≢true (sym (go_no_own m) ∙ is))
stands_own w place m d next at stands is = absurd (false≢true is)

stands_all : (w : Stand) (place : ℕ) (m : Message) (d : DistView) → next_mail d ≡ Some place → slice_get d.mail place ≡ Some m → d.stand ≡ w
    → is_lock (outside.need_at w m d) ≡ true → AsksForAll d
stands_all stand.Idle place m d next at stands is = absurd (false≢true (sym (idle_no_lock m d) ∙ is))
stands_all stand.ForGo place m d next at stands is = record { place = place; mail = m; next = next; at = at; waits = stands }
stands_all w place m d next at stands is = absurd (false≢true is)

mail_own : (o : Option Message) (place : ℕ) (d : DistView) → next_mail d ≡ Some place → slice_get d.mail place ≡ o
    → is_own_lock (outside.need_if o d) ≡ true → AsksForOwn d
mail_own None place d next at is = absurd (false≢true is)
mail_own (Some m) place d next at is = stands_own d.stand place m d next at refl is

mail_all : (o : Option Message) (place : ℕ) (d : DistView) → next_mail d ≡ Some place → slice_get d.mail place ≡ o
    → is_lock (outside.need_if o d) ≡ true → AsksForAll d
mail_all None place d next at is = absurd (false≢true is)
mail_all (Some m) place d next at is = stands_all d.stand place m d next at refl is

pub asks_own : (o : Option ℕ) (d : DistView) → next_mail d ≡ o → is_own_lock (need_if o d) ≡ true → AsksForOwn d
asks_own None d next is = absurd (false≢true is)
asks_own (Some place) d next is = mail_own (slice_get d.mail place) place d next refl is

pub asks_all : (o : Option ℕ) (d : DistView) → next_mail d ≡ o → is_lock (need_if o d) ≡ true → AsksForAll d
asks_all None d next is = absurd (false≢true is)
asks_all (Some place) d next is = mail_all (slice_get d.mail place) place d next refl is

-- ---- what it does at these

-- a start request, where it has the lock of its node
requested_done : (a : App) (p : Process) (t : TurnView) → t.has_lock ≡ true → IsBy p t → IsOver p (start_request a t)
requested_done a p t has by =
    let parked : TurnView = with_state (record t.state { parked = t.state.parked ++ a ∷ [] }) t in
    subst (λ (b : Bool). IsOver p (cond b (start_appl a asked.Controller None t) parked)) (sym has) (appl_over a None p t by)

pub request_done : (p : Process) (t : TurnView) → AsksForOwn t.state → t.has_lock ≡ true → IsBy p t
    → IsDone (Alone p) p (handled_if (next_mail t.state) t)
unfolding handle_next
request_done p t asks has by =
    let out : TurnView = taken_out asks.place t in
    subst (λ (o : Option ℕ). IsDone (Alone p) p (handled_if o t)) (sym asks.next)
    (subst (λ (o : Option Message). IsDone (Alone p) p (resumed_if t.state.stand o out)) (sym asks.request)
    (subst (λ (w : Stand). IsDone (Alone p) p (resumed w (message.StartRequest asks.app) out)) (sym asks.idle)
    (over_done p (start_request asks.app out) (requested_done asks.app p out has by))))

-- where its node's wait is over it stands nowhere, until it asks for the lock
pub gone_idle : (t : TurnView) → AsksForAll t.state → (handled_if (next_mail t.state) t).state.stand ≡ stand.Idle
unfolding handle_next
gone_idle t asks =
    let out : TurnView = taken_out asks.place t in
    ap (λ (o : Option ℕ). (handled_if o t).state.stand) asks.next
    ∙ ap (λ (o : Option Message). (resumed_if t.state.stand o out).state.stand) asks.at
    ∙ ap (λ (w : Stand). (resumed w asks.mail out).state.stand) asks.waits
