-- What nodes do with messages doesn't depend on what an observer has seen so far: what is seen of it comes behind that.
use Rattle.std.proofs.Common.{◌≡◌, ◌++◌, ◌+◌, ◌==◌, ◌^◌, ℕ, zero, suc, Bool, true, false, cond, nat_lt, List, [], ◌∷◌, slice_get, Option, Some, None, refl, ap, subst, ◌∙◌}
use Rattle.std.specs.List.{remove}
use Rattle.std.specs.Prelude.{All}
use Rattle.std.proofs.lemmas.Bool.{false≢true}
use Rattle.std.proofs.lemmas.List.{append_assoc}
use Rattle.std.proofs.lemmas.List.Elements.{All-head, All-tail}
use Rattle.std.proofs.lemmas.Option.{none-some, same_Some}
use Rattle.rh_model.specs.declared.node.App.{App}
use Rattle.rh_model.specs.declared.node.Node.{Node}
use Rattle.rh_otp_model.specs.declared.message.Message.{Message}
use Rattle.rh_otp_model.specs.declared.message.Message.TheVariants as message
use Rattle.rh_otp_model.specs.declared.output.Envelope.{Envelope}
use Rattle.rh_otp_model.specs.declared.output.Event.{Event}
use Rattle.rh_otp_model.specs.declared.output.Event.TheVariants as event
use Rattle.rh_otp_model.specs.declared.output.Output.{Output}
use Rattle.rh_otp_model.specs.declared.output.Output.TheVariants as output
use Rattle.rh_otp_model.specs.declared.output.Requester.TheVariants.{Sync}
use Rattle.rh_otp_model.specs.declared.process.Process.{Process}
use Rattle.rh_otp_model.specs.declared.process.Role.{Role}
use Rattle.rh_otp_model.specs.declared.process.Role.TheVariants as role
use Rattle.rh_otp_dist.specs.declared.outside.Need.{Need}
use Rattle.rh_otp_dist.specs.declared.outside.Need.TheVariants as need
use Rattle.rh_otp_net.specs.declared.links.Link.{Link}
use Rattle.rh_otp_net.specs.Links as links
use Rattle.rh_otp_net.specs.Locks.{is_free}
use Rattle.rh_otp_net.specs.Queue.{first_of_pair}
use Rattle.rh_otp_node.specs.Live.{LiveView, with_kind}
use Rattle.rh_otp_node.specs.Turns.{controlled_by}
use Rattle.rh_otp_system.specs.declared.moves.Move.TheVariants as move
use Rattle.rh_otp_system.specs.declared.slow.Slow.TheVariants.{Connect}
use Rattle.rh_otp_system.specs.Connecting.{with_up, waits_in, tell_up, link, with_slow, with_slow_links, connect, reach, send_reached, send_to_dist, with_monitor, monitor}
use Rattle.rh_otp_system.specs.Delivering.{controlled, received_in, received, arrived, arrived_at, delivered}
use Rattle.rh_otp_system.specs.Moves.{made}
use Rattle.rh_otp_system.specs.Outputs.{carried_out, all_carried_out}
use Rattle.rh_otp_system.specs.Sending.{sent, told, with_timer, after}
use Rattle.rh_otp_system.specs.State.{SystemView, node_at, with_node, own_at, is_alive_at, has_dist_at, process_in, lives}
use Rattle.rh_otp_system.specs.Working.{around, dists_of, asked_for, prepared, behind, introduction, introduced, with_sync_lock, take_lock_of, lock_nodes, take_lock, waiting_at, gone, need_at, has_next_at, mail_count_at, asked_at, turn_of, behind_turn, gone_if, handled_for, handled, work_for, work, with_mail, mailed}
use Rattle.rh_otp_crashes.proofs.News.{IsNews, fires, starts, started, running, tells, moves, wakes}

-- is it for a controller or for a dist_ac?
abbrev pub is_handled : Role → Bool
is_handled role.Controller = true
is_handled role.DistAc = true
is_handled r = false

pub news_handled : {lives : Node → ℕ} {n : Node} {a : App} (e : Envelope) → IsNews lives n a e → is_handled e.to.role ≡ true
news_handled _ (fires loss) = refl
news_handled _ (starts gone) = refl
news_handled _ started = refl
news_handled _ running = refl
news_handled _ (tells m other) = refl
news_handled _ (moves m other) = refl
news_handled _ (wakes m other loss) = refl

-- what is so of all is so of the one at a place
pub all_at : (P : Envelope → Type 0) (xs : List Envelope) (k : ℕ) (e : Envelope) → All P xs → slice_get xs k ≡ Some e → P e
all_at P [] k e all is = absurd (none-some e is)
all_at P (x ∷ xs) zero e all is = subst P (same_Some x e is) (All-head P x xs all)
all_at P (x ∷ xs) (suc k) e all is = all_at P xs k e (All-tail P x xs all) is

module _ (es : List Event) where
  -- these events were seen before
  abbrev pub behind_these : SystemView → SystemView
  behind_these s = record s { events = es ++ s.events }

  by_cond : (b : Bool) (f g : SystemView → SystemView) (s : SystemView) → f (behind_these s) ≡ behind_these (f s)
      → g (behind_these s) ≡ behind_these (g s)
      → cond b (f (behind_these s)) (g (behind_these s)) ≡ behind_these (cond b (f s) (g s))
  by_cond true f g s one other = one
  by_cond false f g s one other = other

  abbrev as_it_was : SystemView → SystemView
  as_it_was s = s

  -- ---- what a process has done

  told_on : (e : Event) (s : SystemView) → told e (behind_these s) ≡ behind_these (told e s)
  unfolding told
  told_on (event.Started a n kind) s = λ i. record (with_node n (with_kind a kind (node_at s n)) s) {
    events = append_assoc es s.events (event.Started a n kind ∷ []) i;
  }
  told_on e s = λ i. record s { events = append_assoc es s.events (e ∷ []) i }

  tell_up_on : (n other : Node) (s : SystemView) → tell_up n other (behind_these s) ≡ behind_these (tell_up n other s)
  tell_up_on n other s = by_cond (waits_in (node_at s n).phase) (with_up n other) as_it_was s refl refl

  both_told_on : (one two : Node) (s : SystemView)
      → tell_up two one (tell_up one two (behind_these s)) ≡ behind_these (tell_up two one (tell_up one two s))
  both_told_on one two s = ap (tell_up two one) (tell_up_on one two s) ∙ tell_up_on two one (tell_up one two s)

  slow_on : (rows : List Link) (s : SystemView) → with_slow_links rows (behind_these s) ≡ behind_these (with_slow_links rows s)
  slow_on [] s = refl
  slow_on (l ∷ rows) s = slow_on rows (with_slow (Connect l.0 l.1) s)

  connect_on : (one two : Node) (s : SystemView) → connect one two (behind_these s) ≡ behind_these (connect one two s)
  unfolding connect
  connect_on one two s =
      let rows : List Link = links.to_connect one two s.links in
      by_cond (links.are_linked one two s.links) as_it_was (λ t. with_slow_links rows (link one two t)) s refl
      (ap (with_slow_links rows) (both_told_on one two (record s { links = s.links ++ links.link one two ∷ [] }))
      ∙ slow_on rows (link one two s))

  reach_on : (n other : Node) (s : SystemView) → reach n other (behind_these s) ≡ behind_these (reach n other s)
  reach_on n other s = by_cond (n.0 == other.0) as_it_was (connect n other) s refl (connect_on n other s)

  reached_on : (n to : Node) (m : Message) (s : SystemView) → send_reached n to m (behind_these s) ≡ behind_these (send_reached n to m s)
  reached_on n to m s =
      by_cond (has_dist_at s to) (λ t. sent (process_in t n role.DistAc) (process_in t to role.DistAc) m t) as_it_was s refl refl

  to_dist_on : (n to : Node) (m : Message) (s : SystemView) → send_to_dist n to m (behind_these s) ≡ behind_these (send_to_dist n to m s)
  to_dist_on n to m s =
      by_cond (is_alive_at s to) (λ t. send_reached n to m (reach n to t)) as_it_was s
      (ap (send_reached n to m) (reach_on n to s) ∙ reached_on n to m (reach n to s)) refl

  monitor_on : (n other : Node) (s : SystemView) → monitor n other (behind_these s) ≡ behind_these (monitor n other s)
  monitor_on n other s =
      by_cond (is_alive_at s other) (λ t. with_monitor n other (reach n other t))
      (λ t. sent (process_in t other role.DistAc) (process_in t n role.DistAc) (message.NodeDown other) t) s
      (ap (with_monitor n other) (reach_on n other s)) refl

  after_on : (time : ℕ) (to : Process) (m : Message) (s : SystemView) → after time to m (behind_these s) ≡ behind_these (after time to m s)
  unfolding after
  after_on time to m s =
      by_cond (time == 0) (sent (record to { role = role.Timer }) to m)
      (λ t. cond (nat_lt 4294967295 time) t (cond (nat_lt (t.clock + time) (2 ^ 64)) (with_timer (t.clock + time) to m t) t)) s refl
      (by_cond (nat_lt 4294967295 time) as_it_was
      (λ t. cond (nat_lt (t.clock + time) (2 ^ 64)) (with_timer (t.clock + time) to m t) t) s refl
      (by_cond (nat_lt (s.clock + time) (2 ^ 64)) (λ t. with_timer (t.clock + time) to m t) as_it_was s refl refl))

  carried_on : (n : Node) (o : Output) (s : SystemView) → carried_out n o (behind_these s) ≡ behind_these (carried_out n o s)
  carried_on n (output.Send e) s = refl
  carried_on n (output.Tell e) s = told_on e s
  carried_on n (output.ToDist to m) s = to_dist_on n to m s
  carried_on n (output.Monitor other) s = monitor_on n other s
  carried_on n (output.Free requester owner) s = refl
  carried_on n (output.After time m) s = after_on time (process_in s n role.DistAc) m s

  all_carried_on : (n : Node) (outputs : List Output) (s : SystemView)
      → all_carried_out n outputs (behind_these s) ≡ behind_these (all_carried_out n outputs s)
  all_carried_on n [] s = refl
  all_carried_on n (o ∷ outputs) s =
      ap (all_carried_out n outputs) (carried_on n o s) ∙ all_carried_on n outputs (carried_out n o s)

  behind_on : (n : Node) (done : LiveView × List Output) (s : SystemView) → behind n done (behind_these s) ≡ behind_these (behind n done s)
  behind_on n done s = all_carried_on n done.1 (with_node n done.0 s)

  -- ---- a controller

  controlled_on : (n : Node) (m : Message) (s : SystemView) → controlled n m (behind_these s) ≡ behind_these (controlled n m s)
  controlled_on n m s = behind_on n (controlled_by s.cluster (own_at s n) n m (node_at s n)) s

  -- ---- a dist_ac

  introduced_on : (n : Node) (s : SystemView) → introduced n (behind_these s) ≡ behind_these (introduced n s)
  introduced_on n s = behind_on n (introduction n (dists_of s (links.linked_with n s.links)) s) s

  lock_taken_on : (n : Node) (nodes : Option (List Node)) (s : SystemView)
      → take_lock_of n nodes (behind_these s) ≡ behind_these (take_lock_of n nodes s)
  lock_taken_on n None s = refl
  lock_taken_on n (Some nodes) s =
      by_cond (is_free Sync nodes s.locks) (λ t. introduced n (with_sync_lock n nodes t)) (with_sync_lock n nodes) s
      (introduced_on n (with_sync_lock n nodes s)) refl

  take_lock_on : (n : Node) (s : SystemView) → take_lock n (behind_these s) ≡ behind_these (take_lock n s)
  unfolding take_lock
  take_lock_on n s = lock_taken_on n (lock_nodes n s) s

  gone_on : (n : Node) (s : SystemView) → gone n (behind_these s) ≡ behind_these (gone n s)
  unfolding gone
  gone_on n s = take_lock_on n (waiting_at n (around s n) s)

  asked_same : (n : Node) (w : Need) (s : SystemView) → asked_for n w (behind_these s) ≡ asked_for n w s
  asked_same n need.OwnLock s = refl
  asked_same n (need.Answer other a) s = refl
  asked_same n w s = refl

  prepared_on : (n : Node) (w : Need) (s : SystemView) → prepared n w (behind_these s) ≡ behind_these (prepared n w s)
  prepared_on n need.OwnLock s = refl
  prepared_on n (need.Answer other a) s = refl
  prepared_on n w s = refl

  gone_if_on : (n : Node) (w : Need) (s : SystemView) → gone_if n w (behind_these s) ≡ behind_these (gone_if n w s)
  gone_if_on n need.Lock s = gone_on n s
  gone_if_on n w s = refl

  turn_on : (n : Node) (has_lock burning : Bool) (s : SystemView)
      → behind_turn n has_lock burning (behind_these s) ≡ behind_these (behind_turn n has_lock burning s)
  turn_on n has_lock burning s = behind_on n (turn_of n (asked_at n has_lock burning s) s) s

  handled_for_on : (n : Node) (w : Need) (asked : Bool × Bool) (s : SystemView)
      → handled_for n w asked (behind_these s) ≡ behind_these (handled_for n w asked s)
  handled_for_on n w asked s =
      ap (λ (t : SystemView). gone_if n w (behind_turn n asked.0 asked.1 t)) (prepared_on n w s)
      ∙ ap (gone_if n w) (turn_on n asked.0 asked.1 (prepared n w s))
      ∙ gone_if_on n w (behind_turn n asked.0 asked.1 (prepared n w s))

  handled_on : (n : Node) (s : SystemView) → handled n (behind_these s) ≡ behind_these (handled n s)
  unfolding handled
  handled_on n s =
      ap (λ (asked : Bool × Bool). handled_for n (need_at s n) asked (behind_these s)) (asked_same n (need_at s n) s)
      ∙ handled_for_on n (need_at s n) (asked_for n (need_at s n) s) s

  work_for_on : (k : ℕ) (n : Node) (s : SystemView) → work_for k n (behind_these s) ≡ behind_these (work_for k n s)
  work_for_on zero n s = refl
  work_for_on (suc k) n s =
      by_cond (has_next_at s n) (λ t. work_for k n (handled n t)) as_it_was s
      (ap (work_for k n) (handled_on n s) ∙ work_for_on k n (handled n s)) refl

  work_on : (n : Node) (s : SystemView) → work n (behind_these s) ≡ behind_these (work n s)
  unfolding work
  work_on n s = work_for_on (mail_count_at s n) n s

  mailed_on : (n : Node) (m : Message) (s : SystemView) → mailed n m (behind_these s) ≡ behind_these (mailed n m s)
  unfolding mailed
  mailed_on n m s = work_on n (with_mail n m s)

  -- ---- a message arrives

  received_on : (r : Role) (n : Node) (m : Message) (s : SystemView) → is_handled r ≡ true
      → received_in r n m (behind_these s) ≡ behind_these (received_in r n m s)
  received_on role.Controller n m s is = controlled_on n m s
  received_on role.DistAc n m s is = mailed_on n m s
  received_on r n m s is = absurd (false≢true is)

  arrived_on : (to : Process) (m : Message) (s : SystemView) → is_handled to.role ≡ true
      → arrived to m (behind_these s) ≡ behind_these (arrived to m s)
  arrived_on to m s is = by_cond (lives s to) (received to m) as_it_was s (received_on to.role to.node m s is) refl

  arrived_at_on : (place : ℕ) (o : Option Envelope) (s : SystemView) → ((e : Envelope) → o ≡ Some e → is_handled e.to.role ≡ true)
      → arrived_at place o (behind_these s) ≡ behind_these (arrived_at place o s)
  arrived_at_on place None s is = refl
  arrived_at_on place (Some e) s is = arrived_on e.to e.message (record s { messages = remove s.messages place }) (is e refl)

  pub made_on : (place : ℕ) (s : SystemView) → All (λ (e : Envelope). is_handled e.to.role ≡ true) s.messages
      → made (move.Deliver place) (behind_these s) ≡ behind_these (made (move.Deliver place) s)
  unfolding made delivered
  made_on place s all =
      let at : ℕ = first_of_pair s.messages place in
      arrived_at_on at (slice_get s.messages at) s
      (λ e is. all_at (λ (x : Envelope). is_handled x.to.role ≡ true) s.messages at e all is)
