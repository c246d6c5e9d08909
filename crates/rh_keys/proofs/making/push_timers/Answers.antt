use Rattle.std.proofs.Common.{◌≡◌, ◌++◌, ◌∷◌, [], ℕ, List, length, refl, sym, ap, ◌∙◌, subst, append_assoc, arith}
use Rattle.std.specs.List.{flat_map}
use Rattle.std.proofs.lemmas.List.{append-nil}
use Rattle.rh_trace.proofs.TimersToldApart.{once-without}
use Rattle.rh_state.specs.declared.edit.Edit.{Edit}
use Rattle.rh_state.specs.declared.status.Timer.{Timer}
use Rattle.rh_state.specs.Records.{Grows}
use Rattle.rh_state.specs.StateView.{StateView}
use Rattle.rh_state.specs.Stored.{Stored, read}
use Rattle.rh_state.specs.Timers.{without_timer}
use Rattle.rh_state.proofs.Records.{grows_none, grows_one, grows_more}
use Rattle.rh_keys.specs.Codes.{code}
use Rattle.rh_keys.specs.Keys.{timer_numbers}
use Rattle.rh_keys.proofs.KeyCodes.{code-append}
use Rattle.rh_keys.proofs.TimersOff.{IsOnce, first_off, first_set, none_left}
use Rattle.rh_keys.proofs.making.push_timers.Goals as goal

pub timers-preserved : goal.timers-preserved
timers-preserved c =
    let before : Stored = c.timers.state in
    let after : Stored = c.cancel_timer-edit.new.self in
    let due = c.in-Some.due in
    let t : Timer = c.in-Some.timer in
    let rest = without_timer t (read before).timers in
    let all : (read before).timers ≡ (due, t) ∷ rest = first_off (read before).timers due t (sym c.in-Some.ensures.first) c.timers.invariant.once in
    let left : (read after).timers ≡ rest = ap (λ (s : StateView). s.timers) c.cancel_timer-edit.ensures.part in
    let now = c.now-now.result in
    let line = timer_numbers now in
    record {
      grown = grows_more c.args.state.now before after [] c.timers.taken.items c.push.new.self.items c.timers.invariant.grown
          (grows_one before after c.cancel_timer-edit.result c.timers.taken.items c.push.new.self.items c.in_ok-push.ensures.items
          c.cancel_timer-edit.ensures.done c.cancel_timer-edit.ensures.exact c.timers.invariant.formed c.formed-in-Some.ensures.words);
      formed = c.formed-in-Some.ensures.words;
      once = subst IsOnce (sym left) (once-without t (read before).timers c.timers.invariant.once);
      told = ap (λ (xs : List (ℕ × Timer)). c.push_timer.new.key.items ++ code (flat_map line xs)) left
          ∙ ap (λ (k : List ℕ). k ++ code (flat_map line rest)) c.in_ok-push_timer.ensures
          ∙ append_assoc c.timers.key.items (code (line (due, t))) (code (flat_map line rest))
          ∙ ap (λ (l : List ℕ). c.timers.key.items ++ l) (sym (code-append (line (due, t)) (flat_map line rest)))
          ∙ ap (λ (xs : List (ℕ × Timer)). c.timers.key.items ++ code (flat_map line xs)) (sym all)
          ∙ c.timers.invariant.told;
    }

pub timers-init : goal.timers-init
timers-init c =
    record {
      grown = subst (λ (es : List Edit). Grows c.args.state.now [] c.args.state.now es) (sym c.clear.ensures.items) (grows_none c.args.state.now []);
      formed = c.formed.ensures.words;
      once = c.requires.sound.timers.once;
      told = refl;
    }

pub cancel_timer-edit-requires-clause-set : goal.cancel_timer-edit-requires-clause-set
cancel_timer-edit-requires-clause-set c = first_set (read c.timers.state).timers c.in-Some.due c.in-Some.timer (sym c.in-Some.ensures.first)

pub timers-smaller : goal.timers-smaller
timers-smaller c =
    let before : Stored = c.timers.state in
    let t : Timer = c.in-Some.timer in
    let all = first_off (read before).timers c.in-Some.due t (sym c.in-Some.ensures.first) c.timers.invariant.once in
    let long = ap (λ (xs : List (ℕ × Timer)). length xs) all in
    let left = ap (λ (s : StateView). length s.timers) c.cancel_timer-edit.ensures.part in
    omega (arith, long, left)

pub returns-clause-key : goal.returns-clause-key
returns-clause-key c =
    let line = timer_numbers c.now-now.result in
    let none : (read c.timers.state).timers ≡ [] = none_left (read c.timers.state).timers (sym c.earliest.ensures.first ∙ c.in_default.is) in
    sym (append-nil c.timers.key.items)
    ∙ ap (λ (xs : List (ℕ × Timer)). c.timers.key.items ++ code (flat_map line xs)) (sym none)
    ∙ c.timers.invariant.told
    ∙ ap (λ now. c.args.key.now.items ++ code (flat_map (timer_numbers now) (read c.args.state.now).timers)) c.now-now.ensures.time
