-- On live nodes a node that begins and whose file has it wait goes on waiting, where its lists name some node: behind what it sees at once
-- at most its timer is set.
use Rattle.std.proofs.Common.{◌≡◌, ◌<◌, ◌+◌, ◌++◌, ◌^◌, ℕ, Bool, true, false, cond, nat_lt, List, [], ◌∷◌, Option, Some, None, refl, ap, ◌∙◌, arith}
use Rattle.std.proofs.lemmas.Bool.{ne_eqb}
use Rattle.rh_model.specs.declared.node.Node.{Node}
use Rattle.rh_otp_model.specs.declared.message.Message.{Message}
use Rattle.rh_otp_model.specs.declared.message.Message.TheVariants as message
use Rattle.rh_otp_model.specs.declared.process.Process.{Process}
use Rattle.rh_otp_model.specs.declared.process.Role.TheVariants as role
use Rattle.rh_otp_model.specs.declared.wait.Wait.{Wait}
use Rattle.rh_otp_model.specs.declared.wait.Wait.TheVariants as wait
use Rattle.rh_otp_net.specs.declared.timers.Timer.{Timer}
use Rattle.rh_otp_node.specs.Kernel.{waits as still_waits}
use Rattle.rh_otp_system.specs.Doing.{begun_at, all_seen, with_timeout, waited_for, waited, booted}
use Rattle.rh_otp_system.specs.Joining.{join, go_on}
use Rattle.rh_otp_system.specs.Sending.{sent, with_timer, after}
use Rattle.rh_otp_system.specs.State.{SystemView, node_at, wait_at, process_in}
use Rattle.rh_otp_waits.specs.Waits.{HasItWait}

-- ---- its timer

abbrev pub with_timers : List Timer → SystemView → SystemView
with_timers timers s = record s { timers = timers }

-- it is set, or never fires
set_if : (never within : Bool) (due : ℕ) (to : Process) (m : Message) (s : SystemView)
    → (timers : List Timer) × (cond never s (cond within (with_timer due to m s) s) ≡ with_timers timers s)
set_if true within due to m s = (s.timers, refl)
set_if false true due to m s = (s.timers ++ record { due = due; step = s.step; to = to; message = m } ∷ [], refl)
set_if false false due to m s = (s.timers, refl)

is_set : (n : Node) (time : ℕ) (s : SystemView) → 0 < time → (timers : List Timer) × (with_timeout n (Some time) s ≡ with_timers timers s)
unfolding after
is_set n time s some =
    let p : Process = process_in s n role.KernelConfig in
    let never : Bool = nat_lt 4294967295 time in
    let within : Bool = nat_lt (s.clock + time) (2 ^ 64) in
    let set : (timers : List Timer)
    × (cond never s (cond within (with_timer (s.clock + time) p message.Timeout s) s) ≡ with_timers timers s) =
    set_if never within (s.clock + time) p message.Timeout s in (
      set.0,
      ap (λ (b : Bool). cond b (sent (record p { role = role.Timer }) p message.Timeout s)
          (cond never s (cond within (with_timer (s.clock + time) p message.Timeout s) s)))
          (ne_eqb time 0 (λ none. omega (arith, none, some)))
          ∙ set.1,
    )

-- ---- it waits

-- where the node has begun, and sees those of its lists that are alive
abbrev pub seen_at_first : Node → SystemView → SystemView
seen_at_first n s =
    let first : SystemView = begun_at n s in
    all_seen n (node_at first n).optional (all_seen n (node_at first n).mandatory first)

-- its lists name some node still
module _ (n : Node) (s : SystemView) (still : still_waits (node_at (seen_at_first n s) n) ≡ true) where
  abbrev first : SystemView
  first = begun_at n s

  abbrev seen : SystemView
  seen = seen_at_first n s

  goes_on_waiting : (time : Option ℕ) (timers : List Timer) → with_timeout n time seen ≡ with_timers timers seen
      → waited_for n time first ≡ with_timers timers seen
  unfolding waited_for
  goes_on_waiting time timers is =
      ap (go_on n) is ∙ ap (λ (b : Bool). cond b (with_timers timers seen) (join n (with_timers timers seen))) still

  waits_so : (w : Wait) → HasItWait w → (timers : List Timer) × (waited w n first ≡ with_timers timers seen)
  waits_so wait.Unset has = absurd has
  waits_so wait.Refused has = absurd has
  waits_so (wait.After time) has =
      let set : (timers : List Timer) × (with_timeout n (Some time) seen ≡ with_timers timers seen) = is_set n time seen has in
      (set.0, goes_on_waiting (Some time) set.0 set.1)
  waits_so wait.Forever has = (seen.timers, goes_on_waiting None seen.timers refl)

  pub only_sees : HasItWait (wait_at s n) → (timers : List Timer) × (booted n s ≡ with_timers timers seen)
  unfolding booted
  only_sees has = waits_so (wait_at s n) has
