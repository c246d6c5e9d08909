-- States that the laws are of: of two nodes one waits for the other one, and that begins.
use Rattle.std.proofs.Common.{◌≡◌, ◌≢◌, ◌≤◌, ◌⊎◌, ◌+◌, ◌==◌, ◌||◌, Bool, true, false, cond, List, [], ◌∷◌, length, filter, refl, sym, ap, subst, ◌∙◌, inl, inr, arith}
use Rattle.std.specs.Prelude.{All}
use Rattle.std.proofs.lemmas.Bool.{cases_eq, ne_eqb}
use Rattle.std.proofs.lemmas.List.Elements.{All-nil, All-cons}
use Rattle.rh_model.specs.ClusterView.{ClusterView, NodeView, is_in}
use Rattle.rh_model.specs.declared.node.Node.{Node}
use Rattle.rh_model.specs.declared.settings.SyncWait.TheVariants.{After}
use Rattle.rh_otp_model.specs.declared.message.Message.TheVariants as message
use Rattle.rh_otp_model.specs.declared.output.Envelope.{Envelope}
use Rattle.rh_otp_model.specs.declared.process.Role.TheVariants as role
use Rattle.rh_otp_model.specs.declared.wait.OwnFile.{OwnFile}
use Rattle.rh_otp_model.specs.declared.wait.Wait.TheVariants as wait
use Rattle.rh_otp_controller.specs.Calls.{start as controller_start, stop as controller_stop, permit as controller_permit, top_ends as controller_top_ends}
use Rattle.rh_otp_controller.specs.Changes.{do_start as controller_do_start, change as controller_change, received as controller_received}
use Rattle.rh_otp_controller.specs.Starting.{spawn_starter as controller_spawn_starter, reply_to_requester as controller_reply_to_requester, has_started as controller_has_started, start_reply as controller_start_reply}
use Rattle.rh_otp_dist.specs.Attempts.{finish as dist_finish, runs_elsewhere as dist_runs_elsewhere}
use Rattle.rh_otp_dist.specs.Calls.{take_over as dist_take_over, permit as dist_permit, get_nodes as dist_get_nodes}
use Rattle.rh_otp_dist.specs.Choosing.{start_here as dist_start_here, is_to_start as dist_is_to_start, find_start_node as dist_find_start_node, start_distributed as dist_start_distributed, start_appl as dist_start_appl}
use Rattle.rh_otp_dist.specs.Down.{check_waiting as dist_check_waiting, node_down as dist_node_down}
use Rattle.rh_otp_dist.specs.Outside.{introduced_to as dist_introduced_to}
use Rattle.rh_otp_dist.specs.Received.{handle_next as dist_handle_next}
use Rattle.rh_otp_dist.specs.Sending.{del_t_reqs as dist_del_t_reqs}
use Rattle.rh_otp_dist.specs.Told.{run as dist_run, answer_ends as dist_answer_ends, not_run as dist_not_run, stopped as dist_stopped, new_node as dist_new_node, answer_permits as dist_answer_permits, app_started as dist_app_started, app_stopped as dist_app_stopped, weight_told as dist_weight_told, restart as dist_restart, new_permission as dist_new_permission}
use Rattle.rh_otp_net.specs.Links.{to_connect as net_to_connect}
use Rattle.rh_otp_node.specs.Turns.{controlled_by as node_controlled_by, terminated_by as node_terminated_by, handled_by as node_handled_by, introduced_by as node_introduced_by}
use Rattle.rh_otp_system.specs.Calling.{lock_call as system_lock_call, wait_for_lock as system_wait_for_lock, behind_sync as system_behind_sync, go_on_call as system_go_on_call, call_received as system_call_received}
use Rattle.rh_otp_system.specs.Connecting.{connect as system_connect}
use Rattle.rh_otp_system.specs.Delivering.{delivered as system_delivered, slowed as system_slowed}
use Rattle.rh_otp_system.specs.Doing.{waited_for as system_waited_for, booted as system_booted, called as system_called, fired_next as system_fired_next, ticked as system_ticked, is_ticked as system_is_ticked}
use Rattle.rh_otp_system.specs.Ending.{down_told as system_down_told, taken_down as system_taken_down, ended as system_ended, stopped as system_stopped}
use Rattle.rh_otp_system.specs.Joining.{join as system_join, has_seen as system_has_seen, boot_next as system_boot_next}
use Rattle.rh_otp_system.specs.Moves.{made as system_made}
use Rattle.rh_otp_system.specs.Resting.{rested as system_rested, forgotten as system_forgotten}
use Rattle.rh_otp_system.specs.Sending.{told as system_told, after as system_after}
use Rattle.rh_otp_system.specs.Working.{take_lock as system_take_lock, gone as system_gone, handled as system_handled, work as system_work, mailed as system_mailed}
use Rattle.rh_otp_net.specs.Links.{link, linked_with}
use Rattle.rh_otp_node.specs.declared.node.Phase.TheVariants as phase
use Rattle.rh_otp_node.specs.Kernel as kernel
use Rattle.rh_otp_node.specs.Live.{never_begun, first_dist}
use Rattle.rh_otp_system.specs.declared.cell.Cell.TheVariants as cell
use Rattle.rh_otp_system.specs.Doing.{booted}
use Rattle.rh_otp_system.specs.State.{SystemView, system_of, node_at, own_at, wait_at, process_in}
use Rattle.rh_otp_laws.specs.Acting.{IsThere}
use Rattle.rh_otp_crashes.proofs.Crossing.{same_node}
use Rattle.rh_otp_stops.proofs.Rows.{n1, n2, no_net, quiet}
use Rattle.rh_otp_waits.specs.Waits.{HasItWait, is_listed}
use Rattle.rh_otp_gathers.specs.LastBoot.{WaitsForIt, IsLast}
use Rattle.rh_otp_gathers.specs.Gathers.{times, tellings, IsTelling, one_if, Gathers, AllGather}

-- ---- what happens

-- it waits for these
abbrev node_of : List Node → List Node → NodeView
node_of mandatory optional = record {
  mandatory = mandatory;
  optional = optional;
  sync_wait = After 12000;
  boot = [];
  permissions = [];
  platforms = [];
}

abbrev cluster : ClusterView
cluster = record {
  profile = 1;
  node_names = (97 ∷ []) ∷ (98 ∷ []) ∷ [];
  app_names = [];
  platform_names = [];
  nodes = node_of (n2 ∷ []) [] ∷ node_of [] (n1 ∷ []) ∷ [];
  apps = [];
}

abbrev file : OwnFile
file = record { own = record { has_dist = true; entries = [] }; wait = wait.Forever }

abbrev none_begun : SystemView
none_begun =
    system_of cluster (file ∷ file ∷ []) (cell.Node never_begun ∷ cell.Node never_begun ∷ cell.Net no_net ∷ []) no_net false

abbrev one_waits : SystemView
one_waits = quiet (booted n1 none_begun)

abbrev both_wait : SystemView
both_wait = booted n2 one_waits

-- ---- what the prover computes of it

abbrev telling : SystemView → Node → Node → Envelope
telling s m x = record {
  from = process_in s m role.NetKernel;
  to = process_in s m role.KernelConfig;
  message = message.NodeUp x;
}

record Waits (m : Node) (ms os : List Node) (s : SystemView) : Type 0 where
  there : IsThere m s
  phase : (node_at s m).phase ≡ phase.Waiting
  waits : kernel.waits (node_at s m) ≡ true
  mandatory : (node_at s m).mandatory ≡ ms
  optional : (node_at s m).optional ≡ os
  fresh : (node_at s m).dist ≡ first_dist s.cluster (own_at s m) m

record Both (s : SystemView) : Type 0 where
  alive : s.alive ≡ n1 ∷ n2 ∷ []
  links : s.links ≡ link n2 n1 ∷ []
  locks : s.locks ≡ []
  messages : s.messages ≡ telling s n2 n1 ∷ telling s n1 n2 ∷ telling s n2 n1 ∷ []

both : Both both_wait
unfolding controller_start controller_stop controller_permit controller_top_ends controller_do_start controller_change controller_received controller_spawn_starter controller_reply_to_requester controller_has_started controller_start_reply dist_finish dist_runs_elsewhere dist_take_over dist_permit dist_get_nodes dist_start_here dist_is_to_start dist_find_start_node dist_start_distributed dist_start_appl dist_check_waiting dist_node_down dist_introduced_to dist_handle_next dist_del_t_reqs dist_run dist_answer_ends dist_not_run dist_stopped dist_new_node dist_answer_permits dist_app_started dist_app_stopped dist_weight_told dist_restart dist_new_permission net_to_connect node_controlled_by node_terminated_by node_handled_by node_introduced_by system_lock_call system_wait_for_lock system_behind_sync system_go_on_call system_call_received system_connect system_delivered system_slowed system_waited_for system_booted system_called system_fired_next system_ticked system_is_ticked system_down_told system_taken_down system_ended system_stopped system_join system_has_seen system_boot_next system_made system_rested system_forgotten system_told system_after system_take_lock system_gone system_handled system_work system_mailed
both = record { alive = refl; links = refl; locks = refl; messages = refl }

first_waits : Waits n1 (n2 ∷ []) [] both_wait
unfolding controller_start controller_stop controller_permit controller_top_ends controller_do_start controller_change controller_received controller_spawn_starter controller_reply_to_requester controller_has_started controller_start_reply dist_finish dist_runs_elsewhere dist_take_over dist_permit dist_get_nodes dist_start_here dist_is_to_start dist_find_start_node dist_start_distributed dist_start_appl dist_check_waiting dist_node_down dist_introduced_to dist_handle_next dist_del_t_reqs dist_run dist_answer_ends dist_not_run dist_stopped dist_new_node dist_answer_permits dist_app_started dist_app_stopped dist_weight_told dist_restart dist_new_permission net_to_connect node_controlled_by node_terminated_by node_handled_by node_introduced_by system_lock_call system_wait_for_lock system_behind_sync system_go_on_call system_call_received system_connect system_delivered system_slowed system_waited_for system_booted system_called system_fired_next system_ticked system_is_ticked system_down_told system_taken_down system_ended system_stopped system_join system_has_seen system_boot_next system_made system_rested system_forgotten system_told system_after system_take_lock system_gone system_handled system_work system_mailed
first_waits = record {
  there = (node_at both_wait n1, refl);
  phase = refl;
  waits = refl;
  mandatory = refl;
  optional = refl;
  fresh = refl;
}

second_waits : Waits n2 [] (n1 ∷ []) both_wait
unfolding controller_start controller_stop controller_permit controller_top_ends controller_do_start controller_change controller_received controller_spawn_starter controller_reply_to_requester controller_has_started controller_start_reply dist_finish dist_runs_elsewhere dist_take_over dist_permit dist_get_nodes dist_start_here dist_is_to_start dist_find_start_node dist_start_distributed dist_start_appl dist_check_waiting dist_node_down dist_introduced_to dist_handle_next dist_del_t_reqs dist_run dist_answer_ends dist_not_run dist_stopped dist_new_node dist_answer_permits dist_app_started dist_app_stopped dist_weight_told dist_restart dist_new_permission net_to_connect node_controlled_by node_terminated_by node_handled_by node_introduced_by system_lock_call system_wait_for_lock system_behind_sync system_go_on_call system_call_received system_connect system_delivered system_slowed system_waited_for system_booted system_called system_fired_next system_ticked system_is_ticked system_down_told system_taken_down system_ended system_stopped system_join system_has_seen system_boot_next system_made system_rested system_forgotten system_told system_after system_take_lock system_gone system_handled system_work system_mailed
second_waits = record {
  there = (node_at both_wait n2, refl);
  phase = refl;
  waits = refl;
  mandatory = refl;
  optional = refl;
  fresh = refl;
}

-- ---- so the law is of it

-- a node is the first, the second, or neither
record Neither (m : Node) : Type 0 where
  not_first : (0 == m.0) ≡ false
  not_second : (1 == m.0) ≡ false
  is_not_first : (m.0 == 0) ≡ false
  is_not_second : (m.0 == 1) ≡ false

which : (m : Node) → (m ≡ n1) ⊎ ((m ≡ n2) ⊎ Neither m)
which m = by (cases_eq m.0 0) (cases_eq m.0 1)
  where
    by : (m.0 ≡ 0) ⊎ (m.0 ≢ 0) → (m.0 ≡ 1) ⊎ (m.0 ≢ 1) → (m ≡ n1) ⊎ ((m ≡ n2) ⊎ Neither m)
    by (inl is) c = inl (same_node m n1 is)
    by (inr other) (inl is) = inr (inl (same_node m n2 is))
    by (inr other) (inr another) = inr (inr (record {
      not_first = ne_eqb 0 m.0 (λ is. other (sym is));
      not_second = ne_eqb 1 m.0 (λ is. another (sym is));
      is_not_first = ne_eqb m.0 0 other;
      is_not_second = ne_eqb m.0 1 another;
    }))

abbrev pair : List Node
pair = n1 ∷ n2 ∷ []

neither_times : (m : Node) → Neither m → times m pair ≡ 0
neither_times m out = λ i. length (cond (out.not_first i) (n1 ∷ cond (out.not_second i) (n2 ∷ []) []) (cond (out.not_second i) (n2 ∷ []) []))

once : (m : Node) → times m pair ≤ 1
once m = by (which m)
  where
    by : (m ≡ n1) ⊎ ((m ≡ n2) ⊎ Neither m) → times m pair ≤ 1
    by (inl is) = subst (λ (x : Node). times x pair ≤ 1) (sym is) (omega arith)
    by (inr (inl is)) = subst (λ (x : Node). times x pair ≤ 1) (sym is) (omega arith)
    by (inr (inr out)) = let none : times m pair ≡ 0 = neither_times m out in omega (arith, none)

abbrev three : SystemView → List Envelope
three s = telling s n2 n1 ∷ telling s n1 n2 ∷ telling s n2 n1 ∷ []

first_told : (s : SystemView) (x : Node) → one_if (is_in x (n2 ∷ [])) + one_if (is_in x []) ≤ tellings n1 x (three s)
first_told s x = by (which x)
  where
    by : (x ≡ n1) ⊎ ((x ≡ n2) ⊎ Neither x) → one_if (is_in x (n2 ∷ [])) + one_if (is_in x []) ≤ tellings n1 x (three s)
    by (inl is) = subst (λ (y : Node). one_if (is_in y (n2 ∷ [])) + one_if (is_in y []) ≤ tellings n1 y (three s)) (sym is) (omega arith)
    by (inr (inl is)) = subst (λ (y : Node). one_if (is_in y (n2 ∷ [])) + one_if (is_in y []) ≤ tellings n1 y (three s)) (sym is) (omega arith)
    by (inr (inr out)) =
        let none : one_if (is_in x (n2 ∷ [])) ≡ 0 = ap (λ (c : Bool). one_if (c || false)) out.is_not_second in
        omega (arith, none)

second_told : (s : SystemView) (x : Node) → one_if (is_in x []) + one_if (is_in x (n1 ∷ [])) ≤ tellings n2 x (three s)
second_told s x = by (which x)
  where
    by : (x ≡ n1) ⊎ ((x ≡ n2) ⊎ Neither x) → one_if (is_in x []) + one_if (is_in x (n1 ∷ [])) ≤ tellings n2 x (three s)
    by (inl is) = subst (λ (y : Node). one_if (is_in y []) + one_if (is_in y (n1 ∷ [])) ≤ tellings n2 y (three s)) (sym is) (omega arith)
    by (inr (inl is)) = subst (λ (y : Node). one_if (is_in y []) + one_if (is_in y (n1 ∷ [])) ≤ tellings n2 y (three s)) (sym is) (omega arith)
    by (inr (inr out)) =
        let none : one_if (is_in x (n1 ∷ [])) ≡ 0 = ap (λ (c : Bool). one_if (c || false)) out.is_not_first in
        omega (arith, none)

first_sees : (x : Node) → x.0 ≢ 0 → times x (n2 ∷ []) ≡ times x pair
first_sees x apart = sym (ap (λ (c : Bool). length (cond c (n1 ∷ filter (λ (y : Node). y.0 == x.0) (n2 ∷ [])) (filter (λ (y : Node). y.0 == x.0) (n2 ∷ []))))
    (ne_eqb 0 x.0 (λ is. apart (sym is))))

second_sees : (x : Node) → x.0 ≢ 1 → times x (n1 ∷ []) ≡ times x pair
second_sees x apart = by (0 == x.0) (ne_eqb 1 x.0 (λ is. apart (sym is)))
  where
    by : (c : Bool) → (1 == x.0) ≡ false → length (cond c (n1 ∷ []) []) ≡ length (cond c (n1 ∷ cond (1 == x.0) (n2 ∷ []) []) (cond (1 == x.0) (n2 ∷ []) []))
    by true out = λ i. length (n1 ∷ cond (sym out i) (n2 ∷ []) [])
    by false out = λ i. length (cond (sym out i) (n2 ∷ []) [])

gathers : (s : SystemView) → Both s → Waits n1 (n2 ∷ []) [] s → Waits n2 [] (n1 ∷ []) s → AllGather s
gathers s so first second = record {
  once = λ m. subst (λ (l : List Node). times m l ≤ 1) (sym so.alive) (once m);
  each = λ m within. each m (which m) (subst (λ (l : List Node). 1 ≤ times m l) so.alive within);
  messages = subst (All (IsTelling s)) (sym so.messages)
      (All-cons (IsTelling s) (telling s n2 n1) (telling s n1 n2 ∷ telling s n2 n1 ∷ []) (is_telling n2 n1 (omega arith))
      (All-cons (IsTelling s) (telling s n1 n2) (telling s n2 n1 ∷ []) (is_telling n1 n2 (omega arith))
      (All-cons (IsTelling s) (telling s n2 n1) [] (is_telling n2 n1 (omega arith)) (All-nil (IsTelling s)))));
  locks = so.locks;
}
  where
    is_telling : (m x : Node) → 1 ≤ times m pair → IsTelling s (telling s m x)
    is_telling m x some = record {
      node = m;
      other = x;
      alive = subst (λ (l : List Node). 1 ≤ times m l) (sym so.alive) some;
      is = refl;
    }

    first_gathers : Gathers n1 s
    first_gathers = record {
      there = first.there;
      phase = first.phase;
      waits = first.waits;
      told = λ x.
          subst (λ (l : List Envelope). one_if (is_in x (node_at s n1).mandatory) + one_if (is_in x (node_at s n1).optional) ≤ tellings n1 x l) (sym so.messages)
          (subst (λ (l : List Node). one_if (is_in x (node_at s n1).mandatory) + one_if (is_in x l) ≤ tellings n1 x (three s)) (sym first.optional)
          (subst (λ (l : List Node). one_if (is_in x l) + one_if (is_in x []) ≤ tellings n1 x (three s)) (sym first.mandatory) (first_told s x)));
      fresh = first.fresh;
      sees = λ x apart. ap (λ l. times x (linked_with n1 l)) so.links ∙ first_sees x apart ∙ sym (ap (times x) so.alive);
      not_itself = ap (λ l. times n1 (linked_with n1 l)) so.links;
    }

    second_gathers : Gathers n2 s
    second_gathers = record {
      there = second.there;
      phase = second.phase;
      waits = second.waits;
      told = λ x.
          subst (λ (l : List Envelope). one_if (is_in x (node_at s n2).mandatory) + one_if (is_in x (node_at s n2).optional) ≤ tellings n2 x l) (sym so.messages)
          (subst (λ (l : List Node). one_if (is_in x (node_at s n2).mandatory) + one_if (is_in x l) ≤ tellings n2 x (three s)) (sym second.optional)
          (subst (λ (l : List Node). one_if (is_in x l) + one_if (is_in x (n1 ∷ [])) ≤ tellings n2 x (three s)) (sym second.mandatory) (second_told s x)));
      fresh = second.fresh;
      sees = λ x apart. ap (λ l. times x (linked_with n2 l)) so.links ∙ second_sees x apart ∙ sym (ap (times x) so.alive);
      not_itself = ap (λ l. times n2 (linked_with n2 l)) so.links;
    }

    each : (m : Node) → (m ≡ n1) ⊎ ((m ≡ n2) ⊎ Neither m) → 1 ≤ times m pair → Gathers m s
    each m (inl is) within = subst (λ (x : Node). Gathers x s) (sym is) first_gathers
    each m (inr (inl is)) within = subst (λ (x : Node). Gathers x s) (sym is) second_gathers
    each m (inr (inr out)) within =
        absurd (let none : times m pair ≡ 0 = neither_times m out in omega (arith, none, within))

-- ---- and before

record First (s : SystemView) : Type 0 where
  alive : s.alive ≡ n1 ∷ []
  links : s.links ≡ []
  locks : s.locks ≡ []
  messages : s.messages ≡ []
  there : IsThere n2 s
  file : wait_at s n2 ≡ wait.Forever
  lists : (x : Node) → is_listed s.cluster n2 x ≡ is_in x (n1 ∷ [])

first : First one_waits
unfolding controller_start controller_stop controller_permit controller_top_ends controller_do_start controller_change controller_received controller_spawn_starter controller_reply_to_requester controller_has_started controller_start_reply dist_finish dist_runs_elsewhere dist_take_over dist_permit dist_get_nodes dist_start_here dist_is_to_start dist_find_start_node dist_start_distributed dist_start_appl dist_check_waiting dist_node_down dist_introduced_to dist_handle_next dist_del_t_reqs dist_run dist_answer_ends dist_not_run dist_stopped dist_new_node dist_answer_permits dist_app_started dist_app_stopped dist_weight_told dist_restart dist_new_permission net_to_connect node_controlled_by node_terminated_by node_handled_by node_introduced_by system_lock_call system_wait_for_lock system_behind_sync system_go_on_call system_call_received system_connect system_delivered system_slowed system_waited_for system_booted system_called system_fired_next system_ticked system_is_ticked system_down_told system_taken_down system_ended system_stopped system_join system_has_seen system_boot_next system_made system_rested system_forgotten system_told system_after system_take_lock system_gone system_handled system_work system_mailed
first = record {
  alive = refl;
  links = refl;
  locks = refl;
  messages = refl;
  there = (never_begun, refl);
  file = refl;
  lists = λ x. refl;
}

alone_waits : Waits n1 (n2 ∷ []) [] one_waits
unfolding controller_start controller_stop controller_permit controller_top_ends controller_do_start controller_change controller_received controller_spawn_starter controller_reply_to_requester controller_has_started controller_start_reply dist_finish dist_runs_elsewhere dist_take_over dist_permit dist_get_nodes dist_start_here dist_is_to_start dist_find_start_node dist_start_distributed dist_start_appl dist_check_waiting dist_node_down dist_introduced_to dist_handle_next dist_del_t_reqs dist_run dist_answer_ends dist_not_run dist_stopped dist_new_node dist_answer_permits dist_app_started dist_app_stopped dist_weight_told dist_restart dist_new_permission net_to_connect node_controlled_by node_terminated_by node_handled_by node_introduced_by system_lock_call system_wait_for_lock system_behind_sync system_go_on_call system_call_received system_connect system_delivered system_slowed system_waited_for system_booted system_called system_fired_next system_ticked system_is_ticked system_down_told system_taken_down system_ended system_stopped system_join system_has_seen system_boot_next system_made system_rested system_forgotten system_told system_after system_take_lock system_gone system_handled system_work system_mailed
alone_waits = record {
  there = (node_at one_waits n1, refl);
  phase = refl;
  waits = refl;
  mandatory = refl;
  optional = refl;
  fresh = refl;
}

one_times : (m : Node) → m.0 ≢ 0 → times m (n1 ∷ []) ≡ 0
one_times m apart = ap (λ (c : Bool). length (cond c (n1 ∷ []) [])) (ne_eqb 0 m.0 (λ is. apart (sym is)))

is_last : (s : SystemView) → First s → Waits n1 (n2 ∷ []) [] s → IsLast n2 s
is_last s so w = record {
  there = so.there;
  file = subst HasItWait (sym so.file) tt;
  down = ap (times n2) so.alive;
  unseen = ap (linked_with n2) so.links;
  lists = λ x. so.lists x ∙ ap (is_in x) (sym so.alive);
  other = n1;
  some = subst (λ (l : List Node). 1 ≤ times n1 l) (sym so.alive) (omega arith);
  once = λ m. subst (λ (l : List Node). times m l ≤ 1) (sym so.alive) (once_by m (cases_eq m.0 0));
  others = λ m within. each m (cases_eq m.0 0) (subst (λ (l : List Node). 1 ≤ times m l) so.alive within);
  messages = so.messages;
  locks = so.locks;
}
  where
    once_by : (m : Node) → (m.0 ≡ 0) ⊎ (m.0 ≢ 0) → times m (n1 ∷ []) ≤ 1
    once_by m (inl is) = subst (λ (x : Node). times x (n1 ∷ []) ≤ 1) (sym (same_node m n1 is)) (omega arith)
    once_by m (inr apart) = let none : times m (n1 ∷ []) ≡ 0 = one_times m apart in omega (arith, none)

    alone : (x : Node) (c : Bool) → one_if (c || false) + one_if (is_in x []) ≤ one_if c
    alone x true = omega arith
    alone x false = omega arith

    waits : WaitsForIt n2 n1 s
    waits = record {
      there = w.there;
      phase = w.phase;
      waits = w.waits;
      alone = λ x.
          subst (λ (l : List Node). one_if (is_in x (node_at s n1).mandatory) + one_if (is_in x l) ≤ one_if (x.0 == 1)) (sym w.optional)
          (subst (λ (l : List Node). one_if (is_in x l) + one_if (is_in x []) ≤ one_if (x.0 == 1)) (sym w.mandatory) (alone x (x.0 == 1)));
      fresh = w.fresh;
      sees = λ x apart. ap (λ l. times x (linked_with n1 l)) so.links ∙ sym (one_times x apart) ∙ sym (ap (times x) so.alive);
      not_itself = ap (λ l. times n1 (linked_with n1 l)) so.links;
    }

    each : (m : Node) → (m.0 ≡ 0) ⊎ (m.0 ≢ 0) → 1 ≤ times m (n1 ∷ []) → WaitsForIt n2 m s
    each m (inl is) within = subst (λ (x : Node). WaitsForIt n2 x s) (sym (same_node m n1 is)) waits
    each m (inr apart) within = absurd (let none : times m (n1 ∷ []) ≡ 0 = one_times m apart in omega (arith, none, within))

-- There are such states: of two nodes one waits for the other one, which is the last to begin; and it has begun.
record Row : Type 0 where
  is_last : IsLast n2 one_waits
  all_gather : AllGather both_wait

row : Row
row = record { is_last = is_last one_waits first alone_waits; all_gather = gathers both_wait both first_waits second_waits }
