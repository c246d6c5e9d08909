-- A call takes a lock where it asks its dist_ac, and is done with it where it is answered.
use Rattle.std.proofs.Common.{◌≡◌, ◌≢◌, ◌⊎◌, ◌++◌, ◌&&◌, ℕ, zero, suc, Bool, true, false, cond, not, length, List, [], ◌∷◌, filter, Option, Some, None, slice_get, slice_set, refl, sym, ap, subst, ◌∙◌, inl, inr}
use Rattle.std.proofs.lemmas.Bool.{false≢true, and_parts, and_from, not-true}
use Rattle.std.proofs.lemmas.Option.{none-some, same_Some}
use Rattle.rh_model.specs.declared.node.App.{App}
use Rattle.rh_model.specs.declared.node.Node.{Node}
use Rattle.rh_otp_model.specs.declared.fault.Outcome.{Outcome}
use Rattle.rh_otp_model.specs.declared.message.Message.{Message}
use Rattle.rh_otp_model.specs.declared.message.Message.TheVariants as message
use Rattle.rh_otp_model.specs.declared.output.Requester.{Requester}
use Rattle.rh_otp_model.specs.declared.output.Requester.TheVariants.{Alone}
use Rattle.rh_otp_model.specs.declared.process.Process.{Process}
use Rattle.rh_otp_net.specs.declared.locks.Held.{Held}
use Rattle.rh_otp_net.specs.Alike.{is_process, is_requester}
use Rattle.rh_otp_net.specs.Locks.{is_free, held_at}
use Rattle.rh_otp_system.specs.declared.calls.Ask.{Ask}
use Rattle.rh_otp_system.specs.declared.calls.Call.{Call}
use Rattle.rh_otp_system.specs.declared.calls.Stage.{Stage}
use Rattle.rh_otp_system.specs.declared.calls.Stage.TheVariants as stage
use Rattle.rh_otp_system.specs.Calls.{process_of, is_takeover, is_done}
use Rattle.rh_otp_system.specs.Calling as calling
use Rattle.rh_otp_system.specs.Doing as doing
use Rattle.rh_otp_system.specs.Outputs.{free}
use Rattle.rh_otp_system.specs.Resting.{forgotten}
use Rattle.rh_otp_system.specs.State.{SystemView, node_at, lives}
use Rattle.rh_otp_system.specs.Working.{around, alive_of}
use Rattle.rh_otp_laws.proofs.Alike.{process_itself}
use Rattle.rh_otp_laws.proofs.Lists.{IsAt, filtered, kept, in_either, in_first}
use Rattle.rh_otp_locks.specs.Holding.{IsForCall, IsHeldFor}
use Rattle.rh_otp_locks.proofs.Keeping.{Holds, stands_still, held_still, keeps_held, put, freed, tells}
use Rattle.rh_otp_locks.proofs.Turning.{held_by, requester_itself}

-- does it wait for the answer of its dist_ac?
abbrev is_asking : Stage → Bool
is_asking stage.DistAc = true
is_asking w = false

-- ---- a call that is changed

set_elsewhere : {A : Type 0} (xs : List A) (k j : ℕ) (x : A) → j ≢ k → slice_get (slice_set xs k x) j ≡ slice_get xs j
set_elsewhere [] k j x other = refl
set_elsewhere (y ∷ xs) zero zero x other = absurd (other refl)
set_elsewhere (y ∷ xs) zero (suc j) x other = refl
set_elsewhere (y ∷ xs) (suc k) zero x other = refl
set_elsewhere (y ∷ xs) (suc k) (suc j) x other = set_elsewhere xs k j x (λ same. other (ap suc same))

set_there : {A : Type 0} (xs : List A) (k : ℕ) (x y : A) → slice_get xs k ≡ Some x → slice_get (slice_set xs k y) k ≡ Some y
set_there [] k x y at = absurd (none-some x at)
set_there (z ∷ xs) zero x y at = refl
set_there (z ∷ xs) (suc k) x y at = set_there xs k x y at

-- the calls with another one at this place
abbrev with_call_at : ℕ → Call → SystemView → SystemView
with_call_at place new s = record s { calls = slice_set s.calls place new }

-- what a call at another place has a lock for stays
call_elsewhere : (place : ℕ) (new : Call) (s : SystemView) (h : Held) (for : IsForCall s h) → for.place ≢ place
    → IsForCall (with_call_at place new s) h
call_elsewhere place new s h for other = record {
  place = for.place;
  call = for.call;
  is_there = set_elsewhere s.calls place for.place new other ∙ for.is_there;
  waits = for.waits;
  owner = for.owner;
  name = for.name;
}

held_elsewhere : (place : ℕ) (new : Call) (s : SystemView) (h : Held) → ((for : IsForCall s h) → for.place ≢ place) → IsHeldFor s h
    → IsHeldFor (with_call_at place new s) h
held_elsewhere place new s h other held = record {
  there = held.there;
  what = elim held.what [
    | inl for ↦ inl (call_elsewhere place new s h for (other for))
    | inr dist ↦ inr (record { role = dist.role; at = dist.at; stands = dist.stands; needs = dist.needs })
  ];
}

-- the call that stands at a place
same_call : (s : SystemView) (h : Held) (for : IsForCall s h) (place : ℕ) (call : Call) → slice_get s.calls place ≡ Some call
    → for.place ≡ place → for.call ≡ call
same_call s h for place call at is =
    same_Some for.call call (sym for.is_there ∙ ap (slice_get s.calls) is ∙ at)

-- no lock is held for a call that doesn't wait for the answer of its dist_ac, so it can be changed
not_for_it : (s : SystemView) (h : Held) (place : ℕ) (call : Call) → slice_get s.calls place ≡ Some call → is_asking call.stage ≡ false
    → (for : IsForCall s h) → for.place ≢ place
not_for_it s h place call at not_asking for is =
    false≢true (sym not_asking ∙ ap (λ (c : Call). is_asking c.stage) (sym (same_call s h for place call at is)) ∙ ap is_asking for.waits)

changed_holds : (place : ℕ) (call new : Call) (s : SystemView) → slice_get s.calls place ≡ Some call → is_asking call.stage ≡ false
    → Holds s → Holds (with_call_at place new s)
changed_holds place call new s at not_asking holds h at_h =
    held_elsewhere place new s h (not_for_it s h place call at not_asking) (holds h at_h)

stage_is : (place : ℕ) (w : Stage) (call : Call) (s : SystemView) → slice_get s.calls place ≡ Some call
    → with_call_at place (record call { stage = w }) s ≡ calling.with_stage place w s
stage_is place w call s at = ap (λ (o : Option Call). calling.stage_if place w o s) (sym at)

staged_holds : (place : ℕ) (w : Stage) (call : Call) (s : SystemView) → slice_get s.calls place ≡ Some call → is_asking call.stage ≡ false
    → Holds s → Holds (calling.with_stage place w s)
staged_holds place w call s at not_asking holds =
    subst Holds (stage_is place w call s at) (changed_holds place call (record call { stage = w }) s at not_asking holds)

-- which call stands there then
staged_at : (place : ℕ) (w : Stage) (call : Call) (s : SystemView) → slice_get s.calls place ≡ Some call
    → slice_get (calling.with_stage place w s).calls place ≡ Some (record call { stage = w })
staged_at place w call s at =
    ap (λ (t : SystemView). slice_get t.calls place) (sym (stage_is place w call s at))
    ∙ set_there s.calls place call (record call { stage = w }) at

loaded_is : (place : ℕ) (only_loaded : Bool) (call : Call) (s : SystemView) → slice_get s.calls place ≡ Some call
    → with_call_at place (record call { only_loaded = only_loaded }) s ≡ calling.with_loaded place only_loaded s
loaded_is place only_loaded call s at = ap (λ (o : Option Call). calling.loaded_if place only_loaded o s) (sym at)

-- ---- the lock is taken

-- a call is there, and asks its dist_ac, if it doesn't yet
record IsOpen (place : ℕ) (call now : Call) (s : SystemView) : Type 0 where
  at : slice_get s.calls place ≡ Some now
  same : process_of now ≡ process_of call
  not_asking : is_asking now.stage ≡ false
  there : lives s (process_of call) ≡ true

-- behind it the call has the lock at these nodes, and asks
abbrev with_more : Call → List Node → SystemView → SystemView
with_more call nodes s = record s { locks = s.locks ++ held_at (Alone (process_of call)) (process_of call) nodes }

taken_for : (place : ℕ) (call now : Call) (nodes : List Node) (s : SystemView) → IsOpen place call now s → Holds s
    → Holds (with_call_at place (record now { stage = stage.DistAc }) (with_more call nodes s))
taken_for place call now nodes s so holds h at =
    go (in_either h s.locks (held_at (Alone (process_of call)) (process_of call) nodes) at.0 at.1)
  where
    asking : Call
    asking = record now { stage = stage.DistAc }

    go : IsAt h s.locks ⊎ IsAt h (held_at (Alone (process_of call)) (process_of call) nodes)
        → IsHeldFor (with_call_at place asking (with_more call nodes s)) h
    go (inl before) =
        held_still (with_call_at place asking s) (with_call_at place asking (with_more call nodes s)) h refl
        (stands_still (node_at s h.owner.node))
        (held_elsewhere place asking s h (not_for_it s h place now so.at so.not_asking) (holds h before))
    go (inr new) =
        let by : (h.requester ≡ Alone (process_of call)) × (h.owner ≡ process_of call) =
        held_by (Alone (process_of call)) (process_of call) nodes h new.0 new.1 in
        record {
          there = ap (lives s) by.1 ∙ so.there;
          what = inl (record {
            place = place;
            call = asking;
            is_there = set_there s.calls place now asking so.at;
            waits = refl;
            owner = by.1 ∙ sym so.same;
            name = by.0 ∙ ap Alone (sym by.1);
          });
        }

-- what is taken, as the lock is free or not
lock_is : (b : Bool) (call : Call) (nodes : List Node) (s : SystemView) → is_free (Alone (process_of call)) nodes s.locks ≡ b
    → cond b (with_more call nodes s) s ≡ calling.with_lock call nodes s
lock_is true call nodes s free =
    ap (λ (b : Bool). record s { locks = cond b (s.locks ++ held_at (Alone (process_of call)) (process_of call) nodes) s.locks }) (sym free)
lock_is false call nodes s free =
    ap (λ (b : Bool). record s { locks = cond b (s.locks ++ held_at (Alone (process_of call)) (process_of call) nodes) s.locks }) (sym free)

-- it takes the lock, if it is free, and asks
locks_by : (b : Bool) (place : ℕ) (call now : Call) (nodes : List Node) (s : SystemView)
    → is_free (Alone (process_of call)) nodes s.locks ≡ b → IsOpen place call now s → Holds s
    → Holds (cond b (calling.sent_second place call (calling.with_lock call nodes s)) (calling.with_lock call nodes s))
locks_by false place call now nodes s free so holds = subst Holds (lock_is false call nodes s free) holds
locks_by true place call now nodes s free so holds =
    let more : SystemView = with_more call nodes s in
    subst (λ (t : SystemView). Holds (calling.sent_second place call t)) (lock_is true call nodes s free)
    (keeps_held (calling.with_stage place stage.DistAc more) _ (put (calling.with_stage place stage.DistAc more) _)
    (subst Holds (stage_is place stage.DistAc now more so.at) (taken_for place call now nodes s so holds)))

locks_call : (place : ℕ) (call now : Call) (nodes : List Node) (s : SystemView) → IsOpen place call now s → Holds s
    → Holds (calling.lock_call place call nodes s)
unfolding calling.lock_call
locks_call place call now nodes s so holds =
    locks_by (is_free (Alone (process_of call)) (alive_of s nodes) s.locks) place call now (alive_of s nodes) s refl so holds

-- ---- a call goes on

holds_if : (b : Bool) (x y : SystemView) → (b ≡ true → Holds x) → (b ≡ false → Holds y) → Holds (cond b x y)
holds_if true x y one other = one refl
holds_if false x y one other = other refl

-- nothing of a node changes where a call does
staged_lives : (place : ℕ) (w : Stage) (call : Call) (p : Process) (s : SystemView) → slice_get s.calls place ≡ Some call
    → lives (calling.with_stage place w s) p ≡ lives s p
staged_lives place w call p s at = ap (λ (t : SystemView). lives t p) (sym (stage_is place w call s at))

waits_for_lock : (place : ℕ) (call : Call) (nodes : List Node) (s : SystemView) → slice_get s.calls place ≡ Some call
    → is_asking call.stage ≡ false → lives s (process_of call) ≡ true → Holds s → Holds (calling.wait_for_lock place call nodes s)
unfolding calling.wait_for_lock
waits_for_lock place call nodes s at not_asking there holds =
    locks_call place call (record call { stage = stage.Lock nodes }) nodes (calling.with_stage place (stage.Lock nodes) s)
    (record {
      at = staged_at place (stage.Lock nodes) call s at;
      same = refl;
      not_asking = refl;
      there = staged_lives place (stage.Lock nodes) call (process_of call) s at ∙ there;
    })
    (staged_holds place (stage.Lock nodes) call s at not_asking holds)

behind_sync : (place : ℕ) (call : Call) (s : SystemView) → slice_get s.calls place ≡ Some call → is_asking call.stage ≡ false
    → lives s (process_of call) ≡ true → Holds s → Holds (calling.behind_sync place call s)
unfolding calling.behind_sync
behind_sync place call s at not_asking there holds =
    holds_if (is_takeover call.ask) _ _
    (λ is. keeps_held (calling.with_stage place stage.Nodes s) _ (put (calling.with_stage place stage.Nodes s) _)
    (staged_holds place stage.Nodes call s at not_asking holds))
    (λ isnt. waits_for_lock place call (around s call.node) s at not_asking there holds)

goes_on_from : (w : Stage) (place : ℕ) (call : Call) (s : SystemView) → call.stage ≡ w → slice_get s.calls place ≡ Some call
    → lives s (process_of call) ≡ true → Holds s → Holds (calling.go_on_from w place call s)
goes_on_from stage.Synchronised place call s is at there holds = behind_sync place call s at (ap is_asking is) there holds
goes_on_from (stage.Lock nodes) place call s is at there holds =
    locks_call place call call nodes s (record { at = at; same = refl; not_asking = ap is_asking is; there = there }) holds
goes_on_from w place call s is at there holds = holds

-- a call that can go on is there still
can_there : (b : Bool) (x : Bool) → cond b x false ≡ true → b ≡ true
can_there true x is = refl
can_there false x is = absurd (false≢true is)

goes_on_if : (place : ℕ) (found : Option Call) (s : SystemView) → slice_get s.calls place ≡ found → Holds s
    → Holds (calling.go_on_if place found s)
goes_on_if place None s at holds = holds
goes_on_if place (Some call) s at holds =
    holds_if (calling.can_go_on call s) _ _
    (λ can. goes_on_from call.stage place call s refl at
    (can_there (lives s (process_of call)) (calling.can_go_on_from call.stage call s) can) holds)
    (λ cannot. holds)

pub call_goes_on : (place : ℕ) (s : SystemView) → Holds s → Holds (calling.go_on_call place s)
unfolding calling.go_on_call
call_goes_on place s holds = goes_on_if place (slice_get s.calls place) s refl holds

-- ---- a call is answered

-- its lock is free, and so none is held for it
not_for_freed : (place : ℕ) (call : Call) (s : SystemView) (h : Held) → slice_get s.calls place ≡ Some call
    → IsAt h (free (Alone (process_of call)) (process_of call) s).locks
    → (for : IsForCall (free (Alone (process_of call)) (process_of call) s) h) → for.place ≢ place
not_for_freed place call s h at in_freed for is =
    let own : h.owner ≡ process_of call =
    for.owner ∙ ap process_of (same_call (free (Alone (process_of call)) (process_of call) s) h for place call at is) in
    let left : not (is_requester h.requester (Alone (process_of call)) && is_process h.owner (process_of call)) ≡ true =
    (filtered (λ (k : Held). not (is_requester k.requester (Alone (process_of call)) && is_process k.owner (process_of call))) h s.locks
    in_freed).1 in
    false≢true (sym (not-true _ left)
    ∙ and_from (is_requester h.requester (Alone (process_of call))) (is_process h.owner (process_of call))
    (ap (λ (r : Requester). is_requester r (Alone (process_of call))) (for.name ∙ ap Alone own)
    ∙ requester_itself (Alone (process_of call)))
    (ap (λ (p : Process). is_process p (process_of call)) own ∙ process_itself (process_of call)))

is_answered : (place : ℕ) (call : Call) (o : Outcome) (s : SystemView) → slice_get s.calls place ≡ Some call → Holds s
    → Holds (calling.done_with place call o s)
is_answered place call o s at holds =
    let less : SystemView = free (Alone (process_of call)) (process_of call) s in
    let over : SystemView = calling.with_stage place (stage.Done o) less in
    keeps_held over _ (tells _ over)
    (subst Holds (stage_is place (stage.Done o) call less at)
    (λ h at_h. held_elsewhere place (record call { stage = stage.Done o }) less h (not_for_freed place call s h at at_h)
    (keeps_held s less (freed s (Alone (process_of call)) (process_of call)) holds h at_h)))

first_not_asking : (w : Stage) → calling.is_first w ≡ true → is_asking w ≡ false
first_not_asking stage.Controller is = refl
first_not_asking w is = absurd (false≢true is)

nodes_not_asking : (w : Stage) → calling.is_for_nodes w ≡ true → is_asking w ≡ false
nodes_not_asking stage.Nodes is = refl
nodes_not_asking w is = absurd (false≢true is)

asks_on : (place : ℕ) (call : Call) (only_loaded : Bool) (s : SystemView) → slice_get s.calls place ≡ Some call
    → is_asking call.stage ≡ false → Holds s
    → Holds (calling.go_on_call place (calling.with_stage place stage.Synchronised (calling.with_loaded place only_loaded s)))
asks_on place call only_loaded s at not_asking holds =
    let new : Call = record call { only_loaded = only_loaded } in
    subst (λ (t : SystemView). Holds (calling.go_on_call place (calling.with_stage place stage.Synchronised t)))
    (loaded_is place only_loaded call s at)
    (call_goes_on place _
    (staged_holds place stage.Synchronised new (with_call_at place new s) (set_there s.calls place call new at) not_asking
    (changed_holds place call new s at not_asking holds)))

answers : (place : ℕ) (call : Call) (o : Outcome) (s : SystemView) → slice_get s.calls place ≡ Some call → Holds s
    → Holds (calling.answered_by place call o s)
answers place call o s at holds =
    holds_if (calling.is_first call.stage && calling.is_asked_on call.ask o) _ _
    (λ is. asks_on place call (calling.is_only_loaded o) s at
    (first_not_asking call.stage (and_parts (calling.is_first call.stage) (calling.is_asked_on call.ask o) is).0) holds)
    (λ isnt. is_answered place call o s at holds)

is_told_nodes : (place : ℕ) (call : Call) (nodes : List Node) (s : SystemView) → slice_get s.calls place ≡ Some call → Holds s
    → Holds (calling.nodes_told place call nodes s)
is_told_nodes place call nodes s at holds =
    holds_if (calling.is_for_nodes call.stage) _ _
    (λ is. call_goes_on place _ (staged_holds place (stage.Lock nodes) call s at (nodes_not_asking call.stage is) holds))
    (λ isnt. holds)

receives_by : (place : ℕ) (m : Message) (call : Call) (s : SystemView) → slice_get s.calls place ≡ Some call → Holds s
    → Holds (calling.received_by place m call s)
receives_by place (message.Answer o) call s at holds = answers place call o s at holds
receives_by place (message.Nodes nodes) call s at holds = is_told_nodes place call nodes s at holds
receives_by place m call s at holds = holds

receives_if : (place : ℕ) (m : Message) (found : Option Call) (s : SystemView) → slice_get s.calls place ≡ found → Holds s
    → Holds (calling.received_if place m found s)
receives_if place m None s at holds = holds
receives_if place m (Some call) s at holds = receives_by place m call s at holds

receives_at : (place : Option ℕ) (m : Message) (s : SystemView) → Holds s → Holds (calling.call_received_at place m s)
receives_at None m s holds = holds
receives_at (Some place) m s holds = receives_if place m (slice_get s.calls place) s refl holds

pub call_receives : (number : ℕ) (m : Message) (s : SystemView) → Holds s → Holds (calling.call_received number m s)
unfolding calling.call_received
call_receives number m s holds = receives_at (calling.call_place number s) m s holds

-- ---- an operator calls

-- there is one call more
one_more : (call : Call) (s : SystemView) → Holds s → Holds (doing.with_call call s)
one_more call s holds h at =
    let held : IsHeldFor s h = holds h at in
    record {
      there = held.there;
      what = elim held.what [
        | inl for ↦
            let still : IsAt for.call (s.calls ++ call ∷ []) = in_first for.call s.calls (call ∷ []) for.place for.is_there in
            inl (record { place = still.0; call = for.call; is_there = still.1; waits = for.waits; owner = for.owner; name = for.name })
        | inr dist ↦ inr (record { role = dist.role; at = dist.at; stands = dist.stands; needs = dist.needs })
      ];
    }

pub calls_on : (a : Ask) (n : Node) (app : App) (s : SystemView) → Holds s → Holds (doing.called a n app s)
unfolding doing.called
calls_on a n app s holds =
    let call : Call = doing.call_of a n app s in
    let more : SystemView = doing.with_call call s in
    holds_if (is_takeover call.ask) _ _ (λ is. call_goes_on (length s.calls) more (one_more call s holds))
    (λ isnt. keeps_held more _ (put more _) (one_more call s holds))

-- ---- calls that were answered are forgotten

pub forgets : (s : SystemView) → Holds s → Holds (forgotten s)
unfolding forgotten
forgets s holds h at =
    let held : IsHeldFor s h = holds h at in
    record {
      there = held.there;
      what = elim held.what [
        | inl for ↦
            let still : IsAt for.call (filter (λ (call : Call). not (is_done call.stage)) s.calls) =
            kept (λ (call : Call). not (is_done call.stage)) for.call s.calls for.place for.is_there
            (ap (λ (w : Stage). not (is_done w)) for.waits) in
            inl (record { place = still.0; call = for.call; is_there = still.1; waits = for.waits; owner = for.owner; name = for.name })
        | inr dist ↦ inr (record { role = dist.role; at = dist.at; stands = dist.stands; needs = dist.needs })
      ];
    }
