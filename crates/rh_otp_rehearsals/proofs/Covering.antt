-- A step that a law of commands is of ends alike at its turn.
use Rattle.std.proofs.Common.{◌≡◌, ◌≢◌, ◌⊎◌, ◌+◌, ◌-◌, ◌&&◌, ◌^◌, length, nat_le, nat_lt, ℕ, suc, Bool, true, false, cond, List, [], ◌∷◌, Some, None, refl, sym, ap, subst, ◌∙◌, inl, inr, Option, slice_get}
use Rattle.std.proofs.lemmas.Option.{none-some, same_Some}
use Rattle.rh_calls.specs.declared.call.Call.{Call}
use Rattle.rh_calls.specs.declared.call.Call.TheVariants as call
use Rattle.rh_model.specs.ClusterView.{node_count}
use Rattle.rh_model.specs.declared.node.App.{App}
use Rattle.rh_model.specs.declared.node.Node.{Node}
use Rattle.rh_rules.specs.declared.event.Event.{Event}
use Rattle.rh_otp_model.specs.declared.output.Requester.TheVariants.{Alone}
use Rattle.rh_otp_model.specs.declared.process.Role.TheVariants as role
use Rattle.rh_otp_net.specs.declared.order.Order.{Order}
use Rattle.rh_otp_net.specs.Links as links
use Rattle.rh_otp_net.specs.Locks.{is_free}
use Rattle.rh_otp_system.specs.declared.calls.Ask.{Ask}
use Rattle.rh_otp_system.specs.declared.calls.Ask.TheVariants as ask
use Rattle.rh_otp_system.specs.declared.calls.Call.{Call as OpenCall}
use Rattle.rh_otp_system.specs.declared.calls.Stage.{Stage}
use Rattle.rh_otp_system.specs.declared.calls.Stage.TheVariants as stage
use Rattle.rh_otp_system.specs.Calling.{go_on_call}
use Rattle.rh_otp_system.specs.Calling as calling
use Rattle.rh_otp_system.specs.Calls.{process_of, message_of, is_takeover}
use Rattle.rh_otp_system.specs.Doing.{booted, call_of, with_call, called, fired_next, until_if, next_until}
use Rattle.rh_otp_system.specs.Ending as ending
use Rattle.rh_otp_system.specs.Moves.{settled, is_settled_by, Reaches, IsSettled}
use Rattle.rh_otp_system.specs.Resting.{crashed, forgotten}
use Rattle.rh_otp_system.specs.Sending.{sent, told}
use Rattle.rh_otp_system.specs.State.{SystemView, has_dist_at, is_alive_at, node_at}
use Rattle.rh_otp_system.specs.Working.{alive_of, around}
use Rattle.rh_otp_system.proofs.Moving.{settles}
use Rattle.rh_otp_laws.specs.Acting as acting
use Rattle.rh_otp_laws.specs.Acting.{IsThere, IsReached, later, acts, begins, ticks}
use Rattle.rh_otp_laws.proofs.Hanging.{settled_stays_so}
use Rattle.rh_otp_laws.proofs.Time.{due_fire}
use Rattle.rh_otp_orders.specs.Confluence.{EveryOrderEndsAlike}
use Rattle.rh_otp_sim.specs.Acting.{most_moves, waits_for_end, booted_if, called_if}
use Rattle.rh_otp_sim.specs.Calls.{made_by}
use Rattle.rh_otp_sim.specs.Sim.{LiveSimView, opened, net_in}
use Rattle.rh_otp_sim.specs.Stepping.{begun}
use Rattle.rh_otp_reached.proofs.States.{Holds, makes_holds, opened_holds}
use Rattle.rh_otp_reached.proofs.Steps.{begun_stands}
use Rattle.rh_otp_crashes.specs.Crashes.{AreAtRest, FailOverLater}
use Rattle.rh_otp_crashes.specs.Failovers.{FailsOverAt}
use Rattle.rh_otp_crashes.proofs.Crash.{crashes_alike}
use Rattle.rh_otp_crashes.proofs.Failover.{failovers_alike}
use Rattle.rh_otp_ticks.specs.Moments.{EachMomentIsCovered, passing}
use Rattle.rh_otp_ticks.proofs.Ticking.{moments_alike}
use Rattle.rh_otp_stops.proofs.Stop.{stops_alike, exits_alike, forbids_alike}
use Rattle.rh_otp_starts.proofs.Elsewhere.{elsewhere_alike}
use Rattle.rh_otp_starts.proofs.Exits.{fatal_exits_alike}
use Rattle.rh_otp_starts.proofs.Start.{starts_alike, permits_alike}
use Rattle.rh_otp_takeovers.proofs.Takeover.{takeovers_alike}
use Rattle.rh_otp_moves.proofs.Finding as finding
use Rattle.rh_otp_moves.proofs.Forbid as forbidding
use Rattle.rh_otp_moves.proofs.Handover.{moves_alike}
use Rattle.rh_otp_moves.proofs.Permit as permitting
use Rattle.rh_otp_begins.proofs.Here.{here_alike}
use Rattle.rh_otp_begins.proofs.Left.{left_alike}
use Rattle.rh_otp_begins.proofs.Nowhere.{nowhere_alike}
use Rattle.rh_otp_permits.proofs.Permit.{permits_alone}
use Rattle.rh_otp_commands.specs.Commands.{SettlesAlike, FiringsEndAlike, TickEndsAlike}
use Rattle.rh_otp_waits.proofs.Boot as waiting
use Rattle.rh_otp_joins.specs.Joins.{ComesBack}
use Rattle.rh_otp_returns.specs.Returns.{CanBootThere}
use Rattle.rh_otp_returns.proofs.Return.{returns_alike}
use Rattle.rh_otp_scripts.specs.Boots.{GoesOneWay}
use Rattle.rh_otp_scripts.specs.Scripts.{BootsAlone, CanBoot}
use Rattle.rh_otp_scripts.proofs.Script as script
use Rattle.rh_otp_colds.specs.Colds.{IsColdStart}
use Rattle.rh_otp_colds.specs.Wholes.{CanStartTogether}
use Rattle.rh_otp_colds.proofs.Each.{boots_end}
use Rattle.rh_otp_colds.proofs.Starting.{at_rest}
use Rattle.rh_otp_together.proofs.Law.{together_alike}
use Rattle.rh_otp_rehearsals.specs.Covered.{IsCovered, boot, boot_waiting, boot_returning, boot_cold, boot_by_script, crash, time, failover, moments, stop, exit, fatal_exit, forbid, permit, permit_alone, start, start_elsewhere, start_here, start_left, start_nowhere, takeover, permit_starts, permit_elsewhere, forbid_stops, forbid_moves, CallIsCovered, EachIsCovered, CoveredRehearsalsEndAlike}
use Rattle.rh_otp_rehearsals.specs.Rehearsals.{EventEndsAlike, CallEndsAlike, EachEndsAlike}
use Rattle.rh_otp_commands.proofs.OneWay.{rest_ends_alike}
use Rattle.rh_otp_rehearsals.proofs.OneWay.{settles_one_way}

-- ---- no answers are counted at first

none_counted : (s : SystemView) → s.answers ≡ [] → s ≡ record s { answers = [] }
none_counted s none = λ i. record s { answers = none i }

afresh : (s : SystemView) → s.answers ≡ [] → EveryOrderEndsAlike s → SettlesAlike s
afresh s none every = subst EveryOrderEndsAlike (none_counted s none) every

same_if : (b : Bool) (x y s : SystemView) → x.answers ≡ s.answers → y.answers ≡ s.answers → (cond b x y).answers ≡ s.answers
same_if true x y s p q = p
same_if false x y s p q = q

tells_none : (gone n : Node) (s : SystemView) → (ending.down_told gone n s).answers ≡ s.answers
unfolding ending.down_told
tells_none gone n s = same_if (has_dist_at s n && links.are_linked gone n s.links) (ending.told_down gone n s) s s refl refl

tell_none : (gone : Node) (nodes : List Node) (s : SystemView) → (ending.downs_told gone nodes s).answers ≡ s.answers
tell_none gone [] s = refl
tell_none gone (n ∷ nodes) s = tell_none gone nodes (ending.down_told gone n s) ∙ tells_none gone n s

fell_none : (n : Node) (s : SystemView) → (ending.taken_down n s).answers ≡ s.answers
unfolding ending.taken_down told
fell_none n s = refl

crashed_none : (n : Node) (s : SystemView) → (crashed n s).answers ≡ s.answers
unfolding ending.ended
crashed_none n s = tell_none n (ending.taken_down n s).alive (ending.taken_down n s) ∙ fell_none n s

staged_none : (place : ℕ) (w : Stage) (found : Option OpenCall) (s : SystemView) → (calling.stage_if place w found s).answers ≡ s.answers
staged_none place w None s = refl
staged_none place w (Some c) s = refl

locked_none : (place : ℕ) (c : OpenCall) (nodes : List Node) (s : SystemView) → (calling.lock_call place c nodes s).answers ≡ s.answers
unfolding calling.lock_call
locked_none place c nodes s =
    let alive : List Node = alive_of s nodes in
    let locked : SystemView = calling.with_lock c alive s in
    same_if (is_free (Alone (process_of c)) alive s.locks) (calling.sent_second place c locked) locked s
    (staged_none place stage.DistAc (slice_get s.calls place) locked) refl

synchronised_none : (place : ℕ) (c : OpenCall) (s : SystemView) → (calling.behind_sync place c s).answers ≡ s.answers
unfolding calling.behind_sync calling.wait_for_lock
synchronised_none place c s =
    let nodes : List Node = around s c.node in
    same_if (is_takeover c.ask) (calling.ask_nodes place c s) (calling.wait_for_lock place c nodes s) s
    (staged_none place stage.Nodes (slice_get s.calls place) s)
    (locked_none place c nodes (calling.with_stage place (stage.Lock nodes) s)
    ∙ staged_none place (stage.Lock nodes) (slice_get s.calls place) s)

went_on_none : (w : Stage) (place : ℕ) (c : OpenCall) (s : SystemView) → (calling.go_on_from w place c s).answers ≡ s.answers
went_on_none stage.Synchronised place c s = synchronised_none place c s
went_on_none (stage.Lock nodes) place c s = locked_none place c nodes s
went_on_none w place c s = refl

goes_on_none : (place : ℕ) (found : Option OpenCall) (s : SystemView) → (calling.go_on_if place found s).answers ≡ s.answers
goes_on_none place None s = refl
goes_on_none place (Some c) s =
    same_if (calling.can_go_on c s) (calling.go_on_from c.stage place c s) s s (went_on_none c.stage place c s) refl

called_none : (asked : Ask) (n : Node) (a : App) (s : SystemView) → (called asked n a s).answers ≡ s.answers
unfolding called go_on_call
called_none asked n a s =
    let c : OpenCall = call_of asked n a s in
    let t : SystemView = with_call c s in
    let first : SystemView = sent (process_of c) (record (process_of c) { role = role.Controller }) (message_of c) t in
    same_if (is_takeover asked) (go_on_call (length s.calls) t) first s
    (goes_on_none (length s.calls) (slice_get t.calls (length s.calls)) t) refl

-- ---- a call

call_if : (b : Bool) (asked : Ask) (n : Node) (a : App) (s : SystemView) → s.answers ≡ [] → IsSettled s
    → EveryOrderEndsAlike (called asked n a s) → SettlesAlike (cond b (called asked n a s) s)
call_if true asked n a s none at every = afresh (called asked n a s) (called_none asked n a s ∙ none) every
call_if false asked n a s none at every = afresh s none (rest_ends_alike s at)

asks : (asked : Ask) (n : Node) (a : App) (s : SystemView) → s.answers ≡ [] → AreAtRest s
    → EveryOrderEndsAlike (called asked n a s) → SettlesAlike (called_if asked n a s)
asks asked n a s none rest every =
    call_if (nat_lt s.last_call (2 ^ 32 - 1)) asked n a s none rest.settled every

-- ---- a boot

boots_if : (b : Bool) (s : SystemView) (n : Node) → s.answers ≡ [] → waiting.Starts s n → SettlesAlike (cond b (booted n s) s)
boots_if true s n none f =
    afresh (booted n s) (ap (λ (x : SystemView). x.answers) (waiting.tells s n f).same ∙ none) (waiting.starts_alike s n f).0
boots_if false s n none f = afresh s none (rest_ends_alike s f.rest.settled)

return_if : (b : Bool) (s : SystemView) (n : Node) → s.answers ≡ [] → IsReached s → AreAtRest s → ComesBack n s → CanBootThere n s
    → FailOverLater s → SettlesAlike (cond b (booted n s) s)
return_if true s n none reached rest back can later_so = (returns_alike s n reached rest back can (λ soon. later_so)).0
return_if false s n none reached rest back can later_so = afresh s none (rest_ends_alike s rest.settled)

cold_if : (b : Bool) (s : SystemView) (n other : Node) → s.answers ≡ [] → IsReached s → IsColdStart s → CanStartTogether s → IsThere n s
    → is_alive_at s n ≡ false → IsThere other s → other.0 ≢ n.0 → SettlesAlike (cond b (booted n s) s)
cold_if true s n other none reached cold can there down too apart =
    (boots_end together_alike s n other reached cold can there down too apart).0
cold_if false s n other none reached cold can there down too apart = afresh s none (rest_ends_alike s (at_rest s cold).settled)

script_if : (b : Bool) (s t : SystemView) (n : Node) → s.answers ≡ [] → IsReached s → AreAtRest s → IsThere n s → is_alive_at s n ≡ false
    → GoesOneWay (record (booted n s) { answers = [] }) t → BootsAlone n t → CanBoot n t → FailOverLater t
    → SettlesAlike (cond b (booted n s) s)
script_if true s t n none reached rest there down goes alone can later_so =
    (script.boots_alike (record (booted n s) { answers = [] }) t n
    (later (booted n s) _ (later s _ reached (acts s _ (begins s n there down))) (acting.settles (booted n s))) refl goes alone can (λ soon. later_so)).0
script_if false s t n none reached rest there down goes alone can later_so = afresh s none (rest_ends_alike s rest.settled)

-- ---- time passes

-- what is at rest settles at once
stays : (most : ℕ) (order : Order) (s : SystemView) → s.answers ≡ [] → IsSettled s → settled most order s ≡ s
stays most order s none at =
    let is : s ≡ record s { answers = [] } = none_counted s none in
    (settled_stays_so (record s { answers = [] }) (settled most order s) (subst IsSettled is at) (settles most order s).0).1 ∙ sym is

-- nothing is due until then
none_due : (most end : ℕ) (order : Order) (s : SystemView) → next_until end s ≡ None → FiringsEndAlike (suc most) end most_moves order s
none_due most end order s none due found = absurd (none-some due (sym none ∙ found))

passes : (end : ℕ) (order : Order) (s : SystemView) → s.answers ≡ [] → IsSettled (record s { is_ticking = true }) → next_until end s ≡ None
    → TickEndsAlike end most_moves order s
passes end order s none at due =
    let t : SystemView = record s { is_ticking = true } in
    record {
      first = afresh t none (rest_ends_alike t at);
      firings = λ quiet.
          subst (FiringsEndAlike most_moves end most_moves order) (sym (stays most_moves order t none at))
          (none_due 999999 end order t due);
    }

due_is : (end due : ℕ) (next : ℕ × ℕ) (b : Bool) → cond b (Some next.0) None ≡ Some due → next.0 ≡ due
due_is end due next true is = same_Some next.0 due is
due_is end due next false is = absurd (none-some due is)

fails_over : (end : ℕ) (order : Order) (s : SystemView) (n : Node) (a : App) → s.answers ≡ [] → IsReached s
    → AreAtRest (record s { is_ticking = true }) → (fails : FailsOverAt n a (record s { is_ticking = true }))
    → ((t : SystemView) → Reaches (fired_next fails.due (record s { is_ticking = true })) t → IsSettled t → next_until end t ≡ None)
    → TickEndsAlike end most_moves order s
fails_over end order s n a none reached rest fails none_more =
    record {
      first = afresh t none (rest_ends_alike t rest.settled);
      firings = λ quiet.
          subst (FiringsEndAlike most_moves end most_moves order) (sym (stays most_moves order t none rest.settled)) (firings 999998);
    }
  where
    t : SystemView
    t = record s { is_ticking = true }

    u : SystemView
    u = fired_next fails.due t

    u_none : u.answers ≡ []
    u_none = ap (λ (x : SystemView). x.answers) (due_fire t fails.due) ∙ none

    over : is_settled_by most_moves order u ≡ true → next_until end (settled most_moves order u) ≡ None
    over quiet =
        none_more (settled most_moves order u)
        (subst (λ (x : SystemView). Reaches x (settled most_moves order u)) (sym (none_counted u u_none)) (settles most_moves order u).0)
        ((settles most_moves order u).1 quiet)

    is_due : (due : ℕ) → next_until end t ≡ Some due → fails.due ≡ due
    is_due due found =
        due_is end due (fails.due, fails.step) (nat_le fails.due end) (ap (until_if end) (sym fails.next) ∙ found)

    firings : (times : ℕ) → FiringsEndAlike (suc (suc times)) end most_moves order t
    firings times due found =
        subst (λ (d : ℕ). SettlesAlike (fired_next d t) × (is_settled_by most_moves order (fired_next d t) ≡ true
        → FiringsEndAlike (suc times) end most_moves order (settled most_moves order (fired_next d t)))) (is_due due found) (
          afresh u u_none (failovers_alike t n a (later s t reached (ticks s true)) rest fails).0,
          λ quiet. none_due times end order (settled most_moves order u) (over quiet),
        )

passes_moments : (end : ℕ) (order : Order) (s : SystemView) → s.answers ≡ [] → IsReached s → IsSettled (record s { is_ticking = true })
    → EachMomentIsCovered end (record s { is_ticking = true }) → TickEndsAlike end most_moves order s
passes_moments end order s none reached at each =
    let is : record s { is_ticking = true } ≡ passing s = none_counted (record s { is_ticking = true }) none in
    moments_alike s end most_moves order reached (subst IsSettled is at) (subst (EachMomentIsCovered end) is each)

-- ---- every step

-- what is known of the system in which a command is carried out
record Begun (e : Event) (s : SystemView) : Type 0 where
  reached : IsReached s
  none : s.answers ≡ []
  ends_soon : s.ends_soon ≡ waits_for_end e

covers : (e : Event) (sim : LiveSimView) (s : SystemView) → Begun e s → IsCovered e s → EventEndsAlike e sim s
covers _ sim _ b (boot s n most so) = settles_one_way most (booted_if n s) so
covers _ sim _ b (boot_waiting s n rest there sees waits) =
    boots_if (nat_lt n.0 (node_count s.cluster) && nat_lt (node_at s n).life (2 ^ 32 - 1)) s n b.none
    (record { reached = b.reached; rest = rest; there = there; sees = sees; waits = waits })
covers _ sim _ b (boot_returning s n rest back can later_so) =
    return_if (nat_lt n.0 (node_count s.cluster) && nat_lt (node_at s n).life (2 ^ 32 - 1)) s n b.none b.reached rest back can later_so
covers _ sim _ b (boot_cold s n other cold can there down too apart) =
    cold_if (nat_lt n.0 (node_count s.cluster) && nat_lt (node_at s n).life (2 ^ 32 - 1)) s n other b.none b.reached cold can there down too apart
covers _ sim _ b (boot_by_script s t n rest there down goes alone can later_so) =
    script_if (nat_lt n.0 (node_count s.cluster) && nat_lt (node_at s n).life (2 ^ 32 - 1)) s t n b.none b.reached rest there down goes alone can
    later_so
covers _ sim _ b (crash s n rest later_so) = afresh (crashed n s) (crashed_none n s ∙ b.none) (crashes_alike s n b.reached rest later_so).0
covers _ sim _ b (time s ms at due) = passes (s.clock + ms) sim.order s b.none at due
covers _ sim _ b (failover s ms n a rest fails none_more) = fails_over (s.clock + ms) sim.order s n a b.none b.reached rest fails none_more
covers _ sim _ b (moments s ms at each) = passes_moments (s.clock + ms) sim.order s b.none b.reached at each
covers _ sim _ b (stop s n a rest can) = asks ask.Stop n a s b.none rest (stops_alike s n a b.reached rest can).0
covers _ sim _ b (exit s n a is_normal rest can keeps) =
    asks (ask.Exit is_normal) n a s b.none rest (exits_alike s n a is_normal b.reached rest can keeps).0
covers _ sim _ b (fatal_exit s n a is_normal rest can later_so) =
    asks (ask.Exit is_normal) n a s b.none rest (fatal_exits_alike s n a is_normal b.reached rest can later_so).0
covers _ sim _ b (forbid s n a rest own) =
    asks (ask.Permit false) n a s b.none rest (forbids_alike s n a b.reached rest own).0
covers _ sim _ b (permit s n a rest own requests) =
    asks (ask.Permit true) n a s b.none rest (permits_alike s n a b.reached rest b.ends_soon own requests).0
covers _ sim _ b (permit_alone s n a allow rest own notes) =
    asks (ask.Permit allow) n a s b.none rest (permits_alone s n a allow b.reached rest b.ends_soon own notes).0
covers _ sim _ b (start s n a restart rest own) =
    asks (ask.Start restart) n a s b.none rest (starts_alike s n a restart b.reached rest b.ends_soon own).0
covers _ sim _ b (start_elsewhere s n a restart rest runs) =
    asks (ask.Start restart) n a s b.none rest (elsewhere_alike s n a restart b.reached rest b.ends_soon runs).0
covers _ sim _ b (start_here s n a restart rest starts) =
    asks (ask.Start restart) n a s b.none rest (here_alike s n a restart b.reached rest b.ends_soon starts).0
covers _ sim _ b (start_left s n a restart rest left) =
    asks (ask.Start restart) n a s b.none rest (left_alike s n a restart b.reached rest b.ends_soon left).0
covers _ sim _ b (start_nowhere s n a restart rest nowhere) =
    asks (ask.Start restart) n a s b.none rest (nowhere_alike s n a restart b.reached rest b.ends_soon nowhere).0
covers _ sim _ b (takeover s n a restart rest sees) =
    asks (ask.Takeover restart) n a s b.none rest (takeovers_alike s n a restart b.reached rest b.ends_soon sees).0
covers _ sim _ b (permit_starts s n a rest own starts) =
    asks (ask.Permit true) n a s b.none rest (permitting.permits_alike s n a b.reached rest b.ends_soon own starts).0
covers _ sim _ b (permit_elsewhere s n a rest own finds) =
    asks (ask.Permit true) n a s b.none rest (finding.elsewhere_alike s n a b.reached rest b.ends_soon own finds).0
covers _ sim _ b (forbid_stops s n a rest own stops) =
    asks (ask.Permit false) n a s b.none rest (forbidding.forbids_alike s n a b.reached rest b.ends_soon own stops).0
covers _ sim _ b (forbid_moves s n a rest own moves) =
    asks (ask.Permit false) n a s b.none rest (moves_alike s n a b.reached rest b.ends_soon own moves).0

begins_so : (e : Event) (sim : LiveSimView) → Holds sim → Begun e (begun (net_in sim) e sim)
unfolding forgotten
begins_so e sim p = record { reached = (begun_stands e sim p.now).reached; none = refl; ends_soon = refl }

covers_call : (c : Call) (sim : LiveSimView) → Holds sim → CallIsCovered c sim → CallEndsAlike c sim
covers_call (call.Step e) sim p covered = λ accepted. by (covered accepted)
  where
    by : IsCovered e (begun (net_in sim) e sim) ⊎ EventEndsAlike e sim (begun (net_in sim) e sim)
        → EventEndsAlike e sim (begun (net_in sim) e sim)
    by (inl so) = covers e sim (begun (net_in sim) e sim) (begins_so e sim p) so
    by (inr so) = so
covers_call call.Undo sim p covered = tt
covers_call call.Redo sim p covered = tt
covers_call call.UndoAll sim p covered = tt
covers_call call.RedoAll sim p covered = tt
covers_call call.Look sim p covered = tt

covers_all : (calls : List Call) (sim : LiveSimView) → Holds sim → EachIsCovered calls sim → EachEndsAlike calls sim
covers_all [] sim p covered = tt
covers_all (c ∷ calls) sim p covered =
    (covers_call c sim p covered.0, covers_all calls (made_by c sim) (makes_holds c sim p) covered.1)

pub covered_alike : CoveredRehearsalsEndAlike
covered_alike cluster files order calls covered =
    covers_all calls (opened cluster files order) (opened_holds cluster files order) covered
