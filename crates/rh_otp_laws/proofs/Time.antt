-- No timer is cancelled, and those that are due fire.
use Rattle.std.proofs.Common.{◌≡◌, ◌<◌, ◌++◌, ℕ, List, [], ◌∷◌, map, Some, refl, sym, ap, subst, ◌∙◌}
use Rattle.std.proofs.lemmas.List.{append_assoc, append-nil}
use Rattle.std.proofs.lemmas.List.Elements.{All-nil, All-cons, All-append, All-weaker}
use Rattle.rh_model.specs.ClusterView.{numbered}
use Rattle.rh_model.specs.declared.node.Node.{Node}
use Rattle.rh_otp_net.specs.declared.timers.Timer.{Timer}
use Rattle.rh_otp_net.specs.Timers as timers
use Rattle.rh_otp_node.specs.Live.{LiveView}
use Rattle.rh_otp_system.specs.declared.moves.Move.{Move}
use Rattle.rh_otp_system.specs.State.{SystemView, live_at}
use Rattle.rh_otp_system.specs.Doing.{begun_at, booted, fired_next, all_fired}
use Rattle.rh_otp_system.specs.Ending.{taken_down}
use Rattle.rh_otp_system.specs.Moves.{made}
use Rattle.rh_otp_system.specs.Sending.{told}
use Rattle.rh_otp_laws.specs.Acting.{moves, begins, crashes, calls}
use Rattle.rh_otp_laws.specs.Time.{OnlySetsTimers, TimersAreNeverCancelled, TimersThatAreDueFire, message_of}
use Rattle.rh_otp_laws.proofs.Turn.{Turn, nothing, both, wrote, noted, seen, put, set, linked, slowed, took, freed, called, answered, fell, unmonitored}
use Rattle.rh_otp_laws.proofs.Beginning.{boots, calls_on}
use Rattle.rh_otp_laws.proofs.Moving.{ends, left_by, made_by_turn}

-- the clock, the step and the timers are as they were
none_set : (s t : SystemView) → t.clock ≡ s.clock → t.step ≡ s.step → t.timers ≡ s.timers → OnlySetsTimers s t
none_set s t clock step same = record {
  clock = clock;
  step = step;
  more = [];
  behind = same ∙ sym (append-nil s.timers);
  later = All-nil (λ (x : Timer). s.clock < x.due);
  of_step = All-nil (λ (x : Timer). x.step ≡ s.step);
}

set_both : (s t u : SystemView) → OnlySetsTimers s t → OnlySetsTimers t u → OnlySetsTimers s u
set_both s t u p q = record {
  clock = q.clock ∙ p.clock;
  step = q.step ∙ p.step;
  more = p.more ++ q.more;
  behind = q.behind ∙ ap (λ (l : List Timer). l ++ q.more) p.behind ∙ append_assoc s.timers p.more q.more;
  later = All-append (λ (x : Timer). s.clock < x.due) p.more q.more p.later
      (All-weaker (λ (x : Timer). t.clock < x.due) (λ (x : Timer). s.clock < x.due)
      (λ x later. subst (λ (k : ℕ). k < x.due) p.clock later) q.more q.later);
  of_step = All-append (λ (x : Timer). x.step ≡ s.step) p.more q.more p.of_step
      (All-weaker (λ (x : Timer). x.step ≡ t.step) (λ (x : Timer). x.step ≡ s.step) (λ x is. is ∙ p.step) q.more q.of_step);
}

fell_sets : (n : Node) (s : SystemView) → OnlySetsTimers s (taken_down n s)
unfolding taken_down told
fell_sets n s = none_set s _ refl refl refl

pub only_sets : (n : Node) (s t : SystemView) → Turn n s t → OnlySetsTimers s t
only_sets n _ _ (nothing s) = none_set s s refl refl refl
only_sets n _ _ (both s t u p q) = set_both s t u (only_sets n s t p) (only_sets n t u q)
only_sets n _ _ (wrote s v on) = none_set s _ refl refl refl
only_sets n _ _ (noted s m a kind) = none_set s _ refl refl refl
only_sets n _ _ (seen s e) = none_set s _ refl refl refl
only_sets n _ _ (put s more) = none_set s _ refl refl refl
only_sets n _ _ (set s due to m later) = record {
  clock = refl;
  step = refl;
  more = record { due = due; step = s.step; to = to; message = m } ∷ [];
  behind = refl;
  later = All-cons (λ (x : Timer). s.clock < x.due) _ [] later (All-nil (λ (x : Timer). s.clock < x.due));
  of_step = All-cons (λ (x : Timer). x.step ≡ s.step) _ [] refl (All-nil (λ (x : Timer). x.step ≡ s.step));
}
only_sets n _ _ (linked s links) = none_set s _ refl refl refl
only_sets n _ _ (slowed s slow) = none_set s _ refl refl refl
only_sets n _ _ (took s r p nodes) = none_set s _ refl refl refl
only_sets n _ _ (freed s r p) = none_set s _ refl refl refl
only_sets n _ _ (called s rows last) = none_set s _ refl refl refl
only_sets n _ _ (answered s answers) = none_set s _ refl refl refl
only_sets n _ _ (fell s) = fell_sets n s
only_sets n _ _ (unmonitored s m) = none_set s _ refl refl refl

pub made_sets : (next : Move) (s : SystemView) → OnlySetsTimers s (made next s)
made_sets next s =
    let some : OnlySetsTimers (record s { messages = left_by next s }) (made next s) = only_sets _ _ _ (made_by_turn (numbered 0) next s) in
    set_both s _ _ (none_set s (record s { messages = left_by next s }) refl refl refl) some

booted_sets : (s : SystemView) (n : Node) (v : LiveView) → live_at s n ≡ Some v → OnlySetsTimers s (booted n s)
booted_sets s n v there =
    set_both s (begun_at n s) (booted n s) (none_set s (begun_at n s) refl refl refl) (only_sets n _ _ (boots s n v there))

pub never_cancelled : TimersAreNeverCancelled
never_cancelled _ _ (moves s next possible) = made_sets next s
never_cancelled _ _ (begins s n there down) = booted_sets s n there.0 there.1
never_cancelled _ _ (crashes s n) = only_sets n _ _ (ends n s)
never_cancelled _ _ (calls s a n app) = only_sets n _ _ (calls_on n a n app s)

-- ---- what is due fires

all_fire : (fired : List Timer) (s : SystemView) → all_fired fired s ≡ record s { messages = s.messages ++ map message_of fired }
all_fire [] s = λ i. record s { messages = sym (append-nil s.messages) i }
all_fire (x ∷ fired) s =
    all_fire fired (record s { messages = s.messages ++ message_of x ∷ [] })
    ∙ λ i. record s { messages = append_assoc s.messages (message_of x ∷ []) (map message_of fired) i }

pub due_fire : TimersThatAreDueFire
unfolding fired_next
due_fire s due = all_fire (timers.fired s.timers) (record s { clock = due; timers = timers.left s.timers })
