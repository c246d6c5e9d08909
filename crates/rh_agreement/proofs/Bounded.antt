-- What comes of a crash of live nodes that were at rest comes to an end: each move uses up what is on its way.
use Rattle.std.proofs.Common.{◌≡◌, ◌⊎◌, ◌<◌, ◌≤◌, ◌+◌, ◌*◌, ◌++◌, ◌==◌, ℕ, zero, suc, Bool, true, false, not, cond, List, [], ◌∷◌, length, reverse, Option, Some, None, refl, sym, ap, subst, ◌∙◌, inl, inr, arith}
use Rattle.std.specs.Prelude.{All}
use Rattle.std.proofs.lemmas.Bool.{cases_Bool, false_from_ne_true}
use Rattle.std.proofs.lemmas.List.{append-nil, length-append}
use Rattle.std.proofs.lemmas.List.Elements.{All-nil, All-head, All-tail}
use Rattle.rh_model.specs.declared.node.App.{App}
use Rattle.rh_model.specs.declared.node.Node.{Node}
use Rattle.rh_otp_model.specs.declared.message.Change.TheVariants as change
use Rattle.rh_otp_model.specs.declared.message.Message.{Message}
use Rattle.rh_otp_model.specs.declared.message.Message.TheVariants as message
use Rattle.rh_otp_model.specs.declared.output.Envelope.{Envelope}
use Rattle.rh_otp_model.specs.declared.output.Output.{Output}
use Rattle.rh_otp_model.specs.declared.output.Output.TheVariants as output
use Rattle.rh_otp_model.specs.declared.process.Process.{Process}
use Rattle.rh_otp_model.specs.declared.process.Role.TheVariants as role
use Rattle.rh_otp_model.specs.declared.wait.OwnFile.{OwnFile}
use Rattle.rh_otp_model.specs.Own.{EntryView}
use Rattle.rh_otp_model.specs.Processes.{process_at}
use Rattle.rh_otp_dist.specs.declared.state.Stand.TheVariants as stand
use Rattle.rh_otp_dist.specs.declared.state.Standing.{Standing}
use Rattle.rh_otp_dist.specs.declared.state.Standing.TheVariants as standing
use Rattle.rh_otp_dist.specs.Down.{lose, lose_each, lost_with, set_timer, time_each, check_each, check_waiting, forget_node, unknow, node_down}
use Rattle.rh_otp_dist.specs.Sending.{to_controller}
use Rattle.rh_otp_dist.specs.State.{DistView, TurnView, standing_of, may_run}
use Rattle.rh_otp_dist.specs.Told.{set_standing, with_waits}
use Rattle.rh_otp_net.specs.declared.order.Order.{Order}
use Rattle.rh_otp_net.specs.declared.order.Order.TheVariants.{FirstComes, LastComes, Drawn}
use Rattle.rh_otp_net.specs.Order.{place_in, next_order}
use Rattle.rh_otp_node.specs.Live.{LiveView}
use Rattle.rh_otp_system.specs.declared.moves.Move.{Move}
use Rattle.rh_otp_system.specs.declared.moves.Move.TheVariants as move
use Rattle.rh_otp_system.specs.declared.slow.Slow.{Slow}
use Rattle.rh_otp_system.specs.Delivering.{arrived, controlled}
use Rattle.rh_otp_system.specs.Moves.{Delivers, can_go_on_at, is_to_end, slow_or_more, message_or_more, quiet_move, made, is_quiet_by, is_quiet_behind, is_settled_by}
use Rattle.rh_otp_system.specs.Resting.{crashed}
use Rattle.rh_otp_system.specs.State.{SystemView, live_at, node_at, with_node, is_alive_at, process_in}
use Rattle.rh_otp_system.specs.Working.{mailed}
use Rattle.rh_otp_laws.specs.Acting.{IsReached}
use Rattle.rh_otp_laws.proofs.Nodes.{alive_is_there}
use Rattle.rh_otp_orders.proofs.Taking.{Taken}
use Rattle.rh_otp_crashes.specs.Crashes.{IsUnoccupied, AreAtRest, FailOverLater}
use Rattle.rh_otp_crashes.proofs.Carrying.{letters, carries}
use Rattle.rh_otp_crashes.proofs.Crash.{lives_of, falls_out}
use Rattle.rh_otp_crashes.proofs.Deeds.{comes_so}
use Rattle.rh_otp_crashes.proofs.Downing.{IsLoss, Stays, no_more, sees_down, down_so, plain_losses, letters_so}
use Rattle.rh_otp_crashes.proofs.Falling.{IsFallout, tells, clears, Fallout, end_told, goes_on}
use Rattle.rh_otp_crashes.proofs.Peace.{AtEase, Delivered, here_in, without, only_messages, arrives_alive, arrives_dead, peace_forgets}
use Rattle.rh_otp_crashes.proofs.Turning.{own_in, node_is, turn, none_on, waits_on, idle_comes}
use Rattle.rh_agreement.proofs.Crashing.{moves}
use Rattle.rh_agreement.proofs.Resting.{none_goes_on}

-- ---- how many messages a dist_ac sends where a node is down: one for each of its entries at most

letters-append : (xs ys : List Output) → letters (xs ++ ys) ≡ letters xs ++ letters ys
letters-append [] ys = refl
letters-append (output.Send e ∷ xs) ys = ap (λ (es : List Envelope). e ∷ es) (letters-append xs ys)
letters-append (output.Tell e ∷ xs) ys = letters-append xs ys
letters-append (output.ToDist m x ∷ xs) ys = letters-append xs ys
letters-append (output.Monitor m ∷ xs) ys = letters-append xs ys
letters-append (output.Free r p ∷ xs) ys = letters-append xs ys
letters-append (output.After time m ∷ xs) ys = letters-append xs ys

abbrev letter_count : TurnView → ℕ
letter_count t = length (letters t.out)

-- nobody waits that didn't, and so many are sent at most
record Sends (k : ℕ) (t u : TurnView) : Type 0 where
  permits : u.state.p_reqs ≡ t.state.p_reqs
  few : letter_count u ≤ letter_count t + k

none_sent : (t : TurnView) → Sends 0 t t
none_sent t = record { permits = refl; few = omega arith }

more_sent : (j k : ℕ) (t u : TurnView) → j ≤ k → Sends j t u → Sends k t u
more_sent j k t u within s = record { permits = s.permits; few = omega (arith, within, s.few) }

both_sent : (j k : ℕ) (t u v : TurnView) → Sends j t u → Sends k u v → Sends (j + k) t v
both_sent j k t u v p q = record { permits = q.permits ∙ p.permits; few = omega (arith, p.few, q.few) }

one_sent : (a : App) (t : TurnView) → Sends 1 t (set_standing a standing.Undefined (to_controller (message.Change a change.NotRunning) t))
one_sent a t = record {
  permits = refl;
  few =
      let parts : length (letters (t.out ++ output.Send (no_more t.here a) ∷ [])) ≡ length (letters t.out) + 1 =
      ap (λ (es : List Envelope). length es) (letters-append t.out (output.Send (no_more t.here a) ∷ []))
      ∙ length-append (letters t.out) (no_more t.here a ∷ []) in
      omega (arith, parts);
}

loses : (n : Node) (a : App) (s : Standing) (t : TurnView) → Sends 1 t (lose n a s t)
loses n a (standing.Distributed m) t = by (not (m.0 == n.0)) (may_run t.state t.here.node a)
  where
    as_before : Sends 1 t t
    as_before = more_sent 0 1 t t (omega arith) (none_sent t)

    by : (b c : Bool) → Sends 1 t (cond b t (cond c (set_standing a (standing.Failover n) t)
        (set_standing a standing.Undefined (to_controller (message.Change a change.NotRunning) t))))
    by true c = as_before
    by false true = record { permits = refl; few = omega arith }
    by false false = one_sent a t
loses n a s t = more_sent 0 1 t t (omega arith) (none_sent t)

loses_each : (n : Node) (entries : List EntryView) (t : TurnView) → Sends (length entries) t (lose_each n entries t)
loses_each n [] t = none_sent t
loses_each n (e ∷ entries) t =
    let next : TurnView = lose n e.app (standing_of t.state e.app) t in
    more_sent (1 + length entries) (length (e ∷ entries)) t (lose_each n entries next) (omega arith)
    (both_sent 1 (length entries) t next (lose_each n entries next) (loses n e.app (standing_of t.state e.app) t) (loses_each n entries next))

-- where nobody waits for a permission
checks : (n : Node) (t : TurnView) → t.state.p_reqs ≡ [] → check_waiting n t ≡ with_waits [] t
unfolding check_waiting
checks n t none = ap (λ rows. check_each n true [] rows t) none

times : (a : App) (timeout : ℕ) (t : TurnView) → Sends 0 t (set_timer a timeout t)
times a timeout t = record {
  permits = refl;
  few =
      let same : length (letters (set_timer a timeout t).out) ≡ length (letters t.out) =
      ap (λ (es : List Envelope). length es) (letters-append t.out _ ∙ append-nil (letters t.out)) in
      omega (arith, same);
}

times_each : (rows : List (App × ℕ)) (t : TurnView) → Sends 0 t (time_each rows t)
times_each [] t = none_sent t
times_each (row ∷ rows) t =
    let next : TurnView = set_timer row.0 row.1 t in
    both_sent 0 0 t next (time_each rows next) (times row.0 row.1 t) (times_each rows next)

sends_few : (n : Node) (t : TurnView) → t.state.p_reqs ≡ [] → letter_count (node_down n t) ≤ letter_count t + length t.own.entries
unfolding node_down
sends_few n t none =
    let lost : TurnView = lose_each n t.own.entries t in
    let forgot : TurnView = forget_node n lost in
    let rows : List (App × ℕ) = reverse (lost_with n t) in
    let one : Sends (length t.own.entries) t lost = loses_each n t.own.entries t in
    let checked : check_waiting n forgot ≡ with_waits [] forgot = checks n forgot (one.permits ∙ none) in
    let over : TurnView = unknow n (with_waits [] forgot) in
    subst (λ (u : TurnView). letter_count (time_each rows (unknow n u)) ≤ letter_count t + length t.own.entries) (sym checked)
    (omega (arith, one.few, (times_each rows over).few))

-- ---- how many moves come of what is on its way

-- what tells of the end can lead to so many messages, each of which leads to no more
abbrev cost : ℕ → Message → ℕ
cost most (message.NodeDown n) = most + 1
cost most m = 1

total : ℕ → List Envelope → ℕ
total most [] = 0
total most (e ∷ es) = cost most e.message + total most es

total-append : (most : ℕ) (xs ys : List Envelope) → total most (xs ++ ys) ≡ total most xs + total most ys
unfolding total
total-append most [] ys = omega arith
total-append most (e ∷ xs) ys = let more : total most (xs ++ ys) ≡ total most xs + total most ys = total-append most xs ys in omega (arith, more)

taken_total : (most : ℕ) (e : Envelope) (messages left : List Envelope) → Taken e messages left
    → total most messages ≡ cost most e.message + total most left
unfolding total
taken_total most e [] left taken = absurd taken
taken_total most e (m ∷ messages) left (inl here) = λ i. cost most (here.0 i).message + total most (sym here.1 i)
taken_total most e (m ∷ messages) left (inr later) =
    let more : total most messages ≡ cost most e.message + total most later.1 = taken_total most e messages later.1 later.3 in
    let rest : total most left ≡ cost most m.message + total most later.1 = ap (total most) later.2 in
    omega (arith, more, rest)

-- messages each of which leads to no more
abbrev LeadsNowhere : ℕ → Envelope → Type 0
LeadsNowhere most e = cost most e.message ≡ 1

counted : (most : ℕ) (es : List Envelope) → All (LeadsNowhere most) es → total most es ≡ length es
unfolding total
counted most [] all = refl
counted most (e ∷ es) all =
    let here : cost most e.message ≡ 1 = All-head (LeadsNowhere most) e es all in
    let more : total most es ≡ length es = counted most es (All-tail (LeadsNowhere most) e es all) in
    omega (arith, here, more)

costs_some : (most : ℕ) (m : Message) → 0 < cost most m
costs_some most (message.NodeDown n) = omega arith
costs_some most m = omega arith

-- ---- a message arrives

-- so much at most stands behind what was on its way
record Adds (most k : ℕ) (s t : SystemView) : Type 0 where
  more : List Envelope
  behind : t.messages ≡ s.messages ++ more
  few : total most more ≤ k

adds_none : (most k : ℕ) (s t : SystemView) → t.messages ≡ s.messages → Adds most k s t
unfolding total
adds_none most k s t same = record { more = []; behind = same ∙ sym (append-nil s.messages); few = omega arith }

-- a dist_ac is told of the end
module _ (most : ℕ) (lives : Node → ℕ) (gone : Process) (m : Node) (s : SystemView) (f : Fallout lives gone s)
    (within : length (own_in s.files m).entries ≤ most) (v : LiveView) (there : live_at s m ≡ Some v) (same : v.life ≡ lives m) where
  abbrev arrives_there : SystemView
  arrives_there = mailed m (message.NodeDown gone.node) s

  hears_idle : (d : DistView) → v.dist ≡ Some d → IsUnoccupied d → d.stand ≡ stand.Idle → Adds most most s arrives_there
  hears_idle d has free is =
      let t : TurnView = turn s.cluster (own_in s.files m) m (lives m) d in
      let last : TurnView = node_down gone.node t in
      let stays : Stays t last = sees_down gone.node t free.permits (f.later m) in
      let losses : All (IsLoss t.here) last.out = stays.losses (All-nil (IsLoss t.here)) in
      let next : SystemView = with_node m (record v { dist = Some last.state }) s in
      let comes : arrives_there ≡ _ =
      idle_comes s.cluster s.files m (lives m) (message.NodeDown gone.node) d last free is refl (λ w. down_so w gone.node t free.permits) s v there has same
      refl refl
      ∙ carries m (process_in next m role.DistAc) last.out next refl (plain_losses t.here last.out losses) in
      let few : letter_count last ≤ letter_count t + length t.own.entries = sends_few gone.node t free.permits in
      let sum : total most (letters last.out) ≡ length (letters last.out) =
      counted most (letters last.out) (letters_so t.here (LeadsNowhere most) (λ a. refl) last.out losses) in
      record {
        more = letters last.out;
        behind = ap (λ (x : SystemView). x.messages) comes;
        few = omega (arith, few, sum, within);
      }

  hears_by : (d : DistView) → v.dist ≡ Some d → IsUnoccupied d → (d.stand ≡ stand.Idle) ⊎ (d.stand ≡ stand.ForGo) → Adds most most s arrives_there
  hears_by d has free (inl is) = hears_idle d has free is
  hears_by d has free (inr is) =
      adds_none most most s arrives_there
      (ap (λ (x : SystemView). x.messages) (waits_on m (message.NodeDown gone.node) s v d there has free is refl))

  hears_if : (o : Option DistView) → v.dist ≡ o → ((d : DistView) → v.dist ≡ Some d → IsUnoccupied d) → Adds most most s arrives_there
  hears_if None none free =
      adds_none most most s arrives_there (ap (λ (x : SystemView). x.messages) (none_on m (message.NodeDown gone.node) s v there none))
  hears_if (Some d) has free = hears_by d has (free d has) (free d has).stand

hears : {lives : Node → ℕ} {gone : Process} (most : ℕ) (m : Node) (s : SystemView) → Fallout lives gone s → length (own_in s.files m).entries ≤ most
    → is_alive_at s m ≡ true → Adds most most s (mailed m (message.NodeDown gone.node) s)
hears {lives} {gone} most m s f within alive =
    let at : (v : LiveView) × (live_at s m ≡ Some v) = alive_is_there s m alive in
    let here : node_at s m ≡ at.0 = node_is s m at.0 at.1 in
    hears_if most lives gone m s f within at.0 at.1 (sym (ap (λ (v : LiveView). v.life) here) ∙ f.peace.same_lives m) at.0.dist refl
    (λ d has. f.peace.dists m d alive (ap (λ (v : LiveView). v.dist) here ∙ has))

-- a controller hears that an application runs nowhere
learns : (most : ℕ) (m : Node) (a : App) (s : SystemView) → is_alive_at s m ≡ true
    → Adds most 0 s (controlled m (message.Change a change.NotRunning) s)
learns most m a s alive =
    let at : (v : LiveView) × (live_at s m ≡ Some v) = alive_is_there s m alive in
    adds_none most 0 s _ (ap (λ (x : SystemView). x.messages) (comes_so m a s at.0 at.1))

-- each entry of a node's own file is counted
abbrev pub AreFew : ℕ → SystemView → Type 0
AreFew most s = (m : Node) → length (own_in s.files m).entries ≤ most

-- less is behind it than it was counted for
abbrev Spends : ℕ → Envelope → SystemView → Type 0
Spends most e s = (k : ℕ) × (k < cost most e.message) × Adds most k s (arrived e.to e.message s)

spends : {lives : Node → ℕ} {gone : Process} (most : ℕ) (e : Envelope) (s : SystemView) → IsFallout lives gone e → Fallout lives gone s → AreFew most s
    → Spends most e s
spends {lives} {gone} most _ s (tells m) f few = by (cases_Bool (is_alive_at s m))
  where
    e : Envelope
    e = end_told lives gone m

    by : (is_alive_at s m ≡ true) ⊎ (is_alive_at s m ≡ false) → Spends most e s
    by (inl alive) =
        (most, omega arith, subst (Adds most most s) (sym (arrives_alive e.to e.message s alive (f.peace.same_lives m))) (hears most m s f (few m) alive))
    by (inr dead) = (0, omega arith, adds_none most 0 s _ (ap (λ (x : SystemView). x.messages) (arrives_dead e.to e.message s dead)))
spends {lives} {gone} most _ s (clears m a) f few = by (cases_Bool (is_alive_at s m))
  where
    e : Envelope
    e = no_more (here_in lives m) a

    by : (is_alive_at s m ≡ true) ⊎ (is_alive_at s m ≡ false) → Spends most e s
    by (inl alive) =
        (0, omega arith, subst (Adds most 0 s) (sym (arrives_alive e.to e.message s alive (f.peace.same_lives m))) (learns most m a s alive))
    by (inr dead) = (0, omega arith, adds_none most 0 s _ (ap (λ (x : SystemView). x.messages) (arrives_dead e.to e.message s dead)))

-- ---- a move

fewer : {lives : Node → ℕ} {gone : Process} (most : ℕ) (s t : SystemView) → Fallout lives gone s → AreFew most s → Delivers s t
    → total most t.messages < total most s.messages
fewer {lives} {gone} most s t f few one =
    let d : Delivered AtEase (IsFallout lives gone) lives s t = only_messages s t f.peace one in
    let left : SystemView = without s d.left in
    let spent : Spends most d.message left = spends most d.message left d.kind (record { peace = d.still; later = f.later }) few in
    let was : total most s.messages ≡ cost most d.message.message + total most d.left = taken_total most d.message s.messages d.left d.taken in
    let is : total most t.messages ≡ total most d.left + total most spent.2.more =
    ap (λ (x : SystemView). total most x.messages) d.is ∙ ap (total most) spent.2.behind ∙ total-append most d.left spent.2.more in
    omega (arith, was, is, spent.1, spent.2.few)

-- where no message is on its way nothing can move
none_taken : (e : Envelope) (messages left : List Envelope) → messages ≡ [] → Taken e messages left → ⊥
none_taken e messages left none taken = subst (λ (l : List Envelope). Taken e l left) none taken

none_can : {lives : Node → ℕ} {gone : Process} (s t : SystemView) → Fallout lives gone s → s.messages ≡ [] → Delivers s t → ⊥
none_can {lives} {gone} s t f none one =
    let d : Delivered AtEase (IsFallout lives gone) lives s t = only_messages s t f.peace one in
    none_taken d.message s.messages d.left none d.taken

nothing_next : {lives : Node → ℕ} {gone : Process} (s : SystemView) → Fallout lives gone s → s.messages ≡ [] → quiet_move s ≡ None
nothing_next s f none =
    none_goes_on s f.peace.calls
    (λ n among. false_from_ne_true (can_go_on_at n s) (λ can. none_can s _ f none (move.Lock n, ((none, f.peace.slow), among, can), refl)))
    (λ n among. false_from_ne_true (is_to_end n s) (λ can. none_can s _ f none (move.End n, ((none, f.peace.slow), among, can), refl)))

-- the place that an order takes is one of these
pub place_within : (order : Order) (count : ℕ) → 0 < count → place_in order count < count
place_within FirstComes count some = some
place_within LastComes count some = omega arith
place_within (Drawn number) count some = omega (arith, some)

-- ---- until nothing moves

few_still : {lives : Node → ℕ} {gone : Process} (most : ℕ) (s t : SystemView) → Fallout lives gone s → AreFew most s → Delivers s t → AreFew most t
few_still most s t f few one m =
    subst (λ (files : List OwnFile). length (own_in files m).entries ≤ most) (sym (moves s t f one).files) (few m)

quiet_soon : {lives : Node → ℕ} {gone : Process} (most k : ℕ) (order : Order) (s : SystemView) → Fallout lives gone s → AreFew most s
    → total most s.messages < k → is_quiet_behind k order s ≡ true
quiet_soon most zero order s f few within = absurd (omega (arith, within))
quiet_soon {lives} {gone} most (suc k) order s f few within = by s.messages refl (λ t. quiet_soon most k (next_order order) t)
  where
    go_on : SystemView → Bool
    go_on = is_quiet_behind k (next_order order)

    by : (messages : List Envelope) → s.messages ≡ messages
        → ((t : SystemView) → Fallout lives gone t → AreFew most t → total most t.messages < k → go_on t ≡ true)
        → is_quiet_by go_on (message_or_more order messages s) s ≡ true
    by [] none rest =
        ap (λ (slow : List Slow). is_quiet_by go_on (slow_or_more order slow s) s) f.peace.slow
        ∙ ap (λ (next : Option Move). is_quiet_by go_on next s) (nothing_next s f none)
    by (e ∷ messages) is rest =
        let place : ℕ = place_in order (length (e ∷ messages)) in
        let there : place < length s.messages =
        subst (λ (l : List Envelope). place < length l) (sym is) (place_within order (length (e ∷ messages)) (omega arith)) in
        let t : SystemView = made (move.Deliver place) s in
        let one : Delivers s t = (move.Deliver place, there, refl) in
        let less : total most t.messages < total most s.messages = fewer most s t f few one in
        rest t (goes_on s t f one) (few_still most s t f few one) (omega (arith, less, within))

-- ---- a crash

costs : (most : ℕ) (m : Message) → cost most m ≤ most + 1
costs most (message.NodeDown n) = omega arith
costs most m = omega arith

at_most : (most : ℕ) (es : List Envelope) → total most es ≤ length es * (most + 1)
unfolding total
at_most most [] = omega arith
at_most most (e ∷ es) =
    let here : cost most e.message ≤ most + 1 = costs most e.message in
    let more : total most es ≤ length es * (most + 1) = at_most most es in
    omega (arith, here, more)

pub crash_is_over : (n : Node) (most k : ℕ) (order : Order) (s : SystemView) → IsReached s → AreAtRest s → FailOverLater s → AreFew most (crashed n s)
    → length (crashed n s).messages * (most + 1) < k → is_settled_by k order (crashed n s) ≡ true
crash_is_over n most k order s reached rest timed few within =
    let first : SystemView = crashed n s in
    let fallout : Fallout (lives_of s) (process_at (here_in (lives_of s) n) role.DistAc) first = falls_out s n reached rest timed in
    quiet_soon most k order (record first { answers = [] }) (record { peace = peace_forgets first fallout.peace; later = fallout.later }) few
    (let sum : total most first.messages ≤ length first.messages * (most + 1) = at_most most first.messages in omega (arith, sum, within))
