-- The last boot of a cold start is answered by both by the same lines, in some order, and leads to what is told alike.
use Rattle.std.proofs.Common.{◌≡◌, ◌<◌, ◌==◌, ◌++◌, ◌&&◌, ℕ, Bool, true, false, not, List, ◌∷◌, filter, map, None, refl, sym, ap, subst, ◌∙◌}
use Rattle.std.specs.List.{flat_map}
use Rattle.std.specs.Prelude.{All, AllPairs, if◌then◌else◌}
use Rattle.std.specs.List.Sorted.{IsPermutation}
use Rattle.std.proofs.lemmas.Bool.{eq-eqb}
use Rattle.std.proofs.lemmas.List.{map-append}
use Rattle.std.proofs.lemmas.List.Folds.{list_any_at}
use Rattle.std.proofs.lemmas.List.Sorted.{IsPermutation-sym, IsPermutation-trans, IsPermutation-map}
use Rattle.rh_model.specs.ClusterView.{ClusterView, IsWithin, node_count, boot_of}
use Rattle.rh_model.specs.declared.node.App.{App}
use Rattle.rh_model.specs.declared.node.Node.{Node}
use Rattle.rh_model.specs.declared.settings.Restart.{Restart}
use Rattle.rh_state.specs.declared.status.Kind.TheVariants as kind
use Rattle.rh_state.specs.Numbers.{nodes_of, apps_of}
use Rattle.rh_rules.specs.declared.event.Event.TheVariants as event
use Rattle.rh_rules.specs.declared.notice.Notice.{Notice}
use Rattle.rh_rules.specs.declared.notice.Notice.TheVariants as notice
use Rattle.rh_rules.specs.Course.{is_local}
use Rattle.rh_calls.specs.declared.call.Call.TheVariants as call
use Rattle.rh_script.specs.Answers.{notice_line}
use Rattle.rh_step_laws.specs.Laws.{boots}
use Rattle.rh_start_laws.specs.Starts.{LastBootsStartAll, starts_at, is_booted, locals_told, waits_told_at, start_told}
use Rattle.rh_trail.specs.SimView.{SimView}
use Rattle.rh_otp_crashes.proofs.Turning.{own_in}
use Rattle.rh_otp_model.specs.declared.wait.OwnFile.{OwnFile}
use Rattle.rh_otp_model.specs.declared.process.StartType.TheVariants.{Normal}
use Rattle.rh_otp_model.specs.Own.{controls}
use Rattle.rh_otp_sim.specs.declared.calls.LiveReply.TheVariants as live_reply
use Rattle.rh_otp_sim.specs.declared.lines.Line.{Line}
use Rattle.rh_otp_sim.specs.declared.lines.Line.TheVariants as line
use Rattle.rh_otp_sim.specs.declared.stepping.Outcome.TheVariants as outcome
use Rattle.rh_otp_sim.specs.Sim.{LiveSimView, net_in}
use Rattle.rh_otp_sim.specs.Stepping.{happened}
use Rattle.rh_otp_system.specs.Resting.{forgotten}
use Rattle.rh_otp_system.specs.State.{SystemView, own_at}
use Rattle.rh_otp_text.specs.Lines.{line_text}
use Rattle.rh_otp_colds.specs.Starts.{LastBootsComeUp}
use Rattle.rh_agreement.specs.Telling.{GoTogether}
use Rattle.rh_agreement.specs.Laws.{HasRoom}
use Rattle.rh_agreement.specs.Resting.{AreBothAtRest, held}
use Rattle.rh_agreement_colds.specs.Colds.{IsAnsweredInSomeOrder, StartsCold, LastBootsAreAnsweredInSomeOrder}
use Rattle.rh_agreement_colds.proofs.Counting.{Apart, nodes_within}
use Rattle.rh_agreement_colds.proofs.Grouped.{started, waits, lines_at, locals_at, waits_at, manual_lines, grouped}
use Rattle.rh_agreement_colds.proofs.Lines.{permuted, is_well}
use Rattle.rh_agreement_colds.proofs.Live as lives
use Rattle.rh_agreement_colds.proofs.Permuted.{each_same, map_same, map_map, map_flat, filter_same}
use Rattle.rh_agreement_colds.proofs.Seen.{starting, all_up}
use Rattle.rh_agreement_colds.proofs.Together as both

-- ---- both say it in the same words

module _ {A B C : Type 0} (f : A → C) (g : B → C) where
  both_append : (xs ys : List A) (us vs : List B) → map f xs ≡ map g us → map f ys ≡ map g vs → map f (xs ++ ys) ≡ map g (us ++ vs)
  both_append xs ys us vs first second = map-append f xs ys ∙ (λ i. first i ++ second i) ∙ sym (map-append g us vs)

  both_map : {D : Type 0} (h : D → A) (k : D → B) → ((x : D) → f (h x) ≡ g (k x)) → (xs : List D) → map f (map h xs) ≡ map g (map k xs)
  both_map h k same xs = map_map f h xs ∙ map_same (λ x. f (h x)) (λ x. g (k x)) same xs ∙ sym (map_map g k xs)

  both_flat : {D : Type 0} (h : D → List A) (k : D → List B) → ((x : D) → map f (h x) ≡ map g (k x)) → (xs : List D)
      → map f (flat_map h xs) ≡ map g (flat_map k xs)
  both_flat {D} h k same xs =
      map_flat f h xs
      ∙ each_same (λ (x : D). Unit {0}) (λ x. map f (h x)) (λ x. map g (k x)) (λ x any. same x) xs (λ i d within. tt)
      ∙ sym (map_flat g k xs)

pub same_words : (c : ClusterView) (at : App → Node) → map (notice_line c) (start_told c at) ≡ map (line_text c) (manual_lines c at)
unfolding notice_line line_text
same_words c at =
    both_append f g _ _ _ _
    (both_append f g _ _ _ _
    (both_append f g _ _ _ _ (both_map f g notice.Up line.Up (λ m. refl) (nodes_of c))
    (both_flat f g (locals_told c) (locals_at c)
    (λ m. both_map f g (λ (row : App × Restart). notice.Started row.0 m kind.Normal None) (started m) (λ row. refl)
    (filter (λ (row : App × Restart). is_local c row.0) (boot_of c m))) (nodes_of c)))
    (both_map f g (λ (a : App). notice.Started a (at a) kind.Normal None) (λ (a : App). line.Started a (at a) Normal) (λ a. refl)
    (filter (λ (a : App). not (is_local c a) && is_booted c a) (apps_of c))))
    (both_flat f g (waits_told_at c at) (waits_at c at)
    (λ m. both_map f g (λ (row : App × Restart). notice.Waits row.0 m) (waits m) (λ row. refl)
    (filter (λ (row : App × Restart). not (starts_at c at m row.0)) (boot_of c m))) (nodes_of c))
  where
    f : Notice → List ℕ
    f = notice_line c

    g : Line → List ℕ
    g = line_text c

-- ---- the same starts there by both

-- an entry of the boot list is booted
are_booted : (c : ClusterView) (m : Node) → All (λ (row : App × Restart). boots c m row.0 ≡ true) (boot_of c m)
are_booted c m = λ k d within. list_any_at (λ (e : App × Restart). _ == e.0.0) (boot_of c m) k d within (eq-eqb _ _ refl)

same_lines : (c : ClusterView) (m : Node) (p q : Node → App → Bool) → ((a : App) → boots c m a ≡ true → p m a ≡ q m a)
    → lines_at c p m ≡ lines_at c q m
same_lines c m p q same = λ i. line.Up m ∷ (map (started m) (here i) ++ map (waits m) (elsewhere i))
  where
    here : filter (λ (row : App × Restart). p m row.0) (boot_of c m) ≡ filter (λ (row : App × Restart). q m row.0) (boot_of c m)
    here =
        filter_same (λ (row : App × Restart). boots c m row.0 ≡ true) _ _ (λ row is. same row.0 is) (boot_of c m) (are_booted c m)

    elsewhere : filter (λ (row : App × Restart). not (p m row.0)) (boot_of c m)
        ≡ filter (λ (row : App × Restart). not (q m row.0)) (boot_of c m)
    elsewhere =
        filter_same (λ (row : App × Restart). boots c m row.0 ≡ true) _ _ (λ row is. ap not (same row.0 is)) (boot_of c m) (are_booted c m)

-- it is local for the one where it isn't controlled for the other, and else its node is the same
same_start : (controlled local : Bool) (i j m : ℕ) → controlled ≡ not local → (local ≡ false → i ≡ j)
    → (if local then true else i == m) ≡ (if controlled then j == m else true)
same_start controlled true i j m is same = ap (λ (b : Bool). if b then j == m else true) (sym is)
same_start controlled false i j m is same =
    ap (λ (k : ℕ). k == m) (same refl) ∙ ap (λ (b : Bool). if b then j == m else true) (sym is)

module _ (by_rules : LastBootsStartAll) (by_nodes : LastBootsComeUp) (sim : SimView) (l : LiveSimView) (n : Node)
    (together : GoTogether sim l) (room : HasRoom sim l) (at_rest : AreBothAtRest sim l) (starts : StartsCold n sim l) where
  abbrev last : SystemView
  last = lives.behind by_nodes sim l n together at_rest starts

  abbrev starts_live : Node → App → Bool
  starts_live = starting by_nodes sim l n together at_rest starts

  abbrev lines : List Line
  lines = (happened (net_in l) last).lines

  within : IsWithin sim.cluster
  within = subst IsWithin (sym together.now.cluster ∙ together.cluster) at_rest.valid.sound.within

  cluster_so : last.cluster ≡ sim.cluster
  cluster_so = lives.same_cluster by_nodes sim l n together at_rest starts ∙ together.cluster

  controls_so : (m : Node) (a : App) → controls (own_at (lives.base by_nodes sim l n together at_rest starts) m) a
      ≡ controls (own_at (held l) m) a
  unfolding forgotten
  controls_so m a = ap (λ (files : List OwnFile). controls (own_in files m) a) (lives.files_so by_nodes sim l n together at_rest starts)

  same_there : (m : Node) (a : App) → m.0 < node_count sim.cluster → boots sim.cluster m a ≡ true
      → starts_at sim.cluster starts.order.at m a ≡ starts_live m a
  same_there m a inside is =
      same_start _ (is_local sim.cluster a) (starts.order.at a).0 (starts.can.at a).0 m.0 (controls_so m a ∙ starts.own m a inside is)
      (λ spread. starts.at m a is spread)

  same_groups : flat_map (lines_at sim.cluster (starts_at sim.cluster starts.order.at)) (nodes_of sim.cluster)
      ≡ flat_map (lines_at last.cluster starts_live) (nodes_of last.cluster)
  same_groups =
      each_same (λ (m : Node). m.0 < node_count sim.cluster) _ (lines_at sim.cluster starts_live)
      (λ m inside. same_lines sim.cluster m (starts_at sim.cluster starts.order.at) starts_live (λ a is. same_there m a inside is))
      (nodes_of sim.cluster) (nodes_within sim.cluster)
      ∙ ap (λ (c : ClusterView). flat_map (lines_at c starts_live) (nodes_of c)) (sym cluster_so)

  once : (m : Node) → AllPairs Apart (boot_of last.cluster m)
  once m = subst (λ (c : ClusterView). AllPairs Apart (boot_of c m)) (sym cluster_so) (within.boot_once m)

  same_order : IsPermutation (manual_lines sim.cluster starts.order.at) lines
  same_order =
      IsPermutation-trans _ _ _
      (subst (IsPermutation (manual_lines sim.cluster starts.order.at)) same_groups (grouped sim.cluster within starts.order))
      (IsPermutation-sym _ _
      (permuted last (net_in l) starts_live (all_up by_nodes sim l n together at_rest starts) starts.untold once))

  same_text : IsPermutation (map (notice_line sim.cluster) (start_told sim.cluster starts.order.at)) (map (line_text l.cluster) lines)
  same_text =
      subst (λ (texts : List (List ℕ)). IsPermutation texts (map (line_text l.cluster) lines))
      (ap (λ (c : ClusterView). map (line_text c) (manual_lines sim.cluster starts.order.at)) together.cluster
      ∙ sym (same_words sim.cluster starts.order.at))
      (IsPermutation-map (line_text l.cluster) _ lines same_order)

  pub in_some_order : IsAnsweredInSomeOrder (call.Step (event.Boot n)) sim l
  in_some_order = record {
    notices = start_told sim.cluster starts.order.at;
    lines = lines;
    told = both.manual_told by_rules by_nodes sim l n together room at_rest starts;
    live_told = both.live_told_so by_rules by_nodes sim l n together room at_rest starts
        ∙ (λ i. live_reply.Step (outcome.Done (record {
          answer = is_well last (net_in l) starts_live (all_up by_nodes sim l n together at_rest starts) starts.untold once i;
          lines = lines;
        })));
    same = same_text;
  }

pub last_boots_alike : LastBootsStartAll → LastBootsComeUp → LastBootsAreAnsweredInSomeOrder
last_boots_alike by_rules by_nodes sim l n together room at_rest starts = (
  in_some_order by_rules by_nodes sim l n together room at_rest starts,
  both.go_together by_rules by_nodes sim l n together room at_rest starts,
  both.rest_again by_rules by_nodes sim l n together room at_rest starts,
)
