-- One turn of marking what a node boots.
use Rattle.std.proofs.Common.{◌≡◌, ◌≢◌, ◌<◌, ◌≤◌, ◌+◌, ℕ, zero, suc, false, List, [], ◌∷◌, length, get_or, take, fold, refl, sym, ap, ◌∙◌, subst, arith}
use Rattle.std.proofs.lemmas.List.{take_all}
use Rattle.std.proofs.lemmas.List.Sums.{fold_more}
use Rattle.rh_model.specs.declared.node.Node.{Node}
use Rattle.rh_model.specs.declared.node.App.{App}
use Rattle.rh_model.specs.declared.settings.Restart.{Restart}
use Rattle.rh_model.specs.ClusterView.{ClusterView, IsWithin, app_count, boot_of}
use Rattle.rh_state.specs.declared.status.Place.TheVariants.{Off}
use Rattle.rh_state.specs.StateView.{StateView, runs_at, waits_at, is_started, place_of}
use Rattle.rh_rules.specs.Course.{Course}
use Rattle.rh_trace.proofs.Places.{off_of}
use Rattle.rh_rules.specs.Marking.{with_mark, mark, mark_booted, mark_all}
use Rattle.rh_events.proofs.Marks.{mark_cluster, mark_starts_no_other}
use Rattle.rh_events.proofs.SoundMarks.{not_started}

abbrev Booted : Type 0
Booted = App × Restart

-- a place of a list is read the same with any default
any_default : (xs : List Booted) (k : ℕ) (d e : Booted) → k < length xs → get_or xs k d ≡ get_or xs k e
any_default [] k d e l = absurd (omega arith)
any_default (x ∷ xs) zero d e l = refl
any_default (x ∷ xs) (suc k) d e l = any_default xs k d e (omega arith)

-- from s on, the first i of the boot list are marked, which led to o, and none of the others is started
module _ (s : StateView) (o : Course) (n : Node) (i : ℕ) (within : IsWithin s.cluster) (cluster : o.state.cluster ≡ s.cluster)
    (boot : List Booted) (is : boot ≡ boot_of o.state.cluster n) where
  pub boot_is : boot ≡ boot_of s.cluster n
  boot_is = is ∙ ap (λ (c : ClusterView). boot_of c n) cluster

  module _ (lt : i < length (boot_of s.cluster n))
      (rest : (k : ℕ) (d : Booted) → i ≤ k → k < length (boot_of s.cluster n) → is_started o.state n (get_or (boot_of s.cluster n) k d).0 ≡ false) where
    pub next_app_within : (d : Booted) → (get_or boot i d).0.0 < app_count o.state.cluster
    next_app_within d =
        subst (λ (xs : List Booted). (get_or xs i d).0.0 < app_count o.state.cluster) (sym boot_is)
        (subst (λ (c : ClusterView). (get_or (boot_of s.cluster n) i d).0.0 < app_count c) (sym cluster) (within.boot n i d lt))

    pub next_is_off : (d : Booted) → place_of o.state n (get_or boot i d).0 ≡ Off
    next_is_off d =
        subst (λ (xs : List Booted). place_of o.state n (get_or xs i d).0 ≡ Off) (sym boot_is)
        (off (get_or (boot_of s.cluster n) i d).0 (rest i d (omega arith) lt))
      where
        off : (a : App) → is_started o.state n a ≡ false → place_of o.state n a ≡ Off
        off a h = let apart = not_started (runs_at o.state n a) (waits_at o.state n a) h in off_of o.state n a apart.0 apart.1

    module _ (p : Course) (d : Booted) (marked : p ≡ mark o n (get_or boot i d).0 (get_or boot i d).1) where
      marked_next : p ≡ mark o n (get_or (boot_of s.cluster n) i d).0 (get_or (boot_of s.cluster n) i d).1
      marked_next = subst (λ (xs : List Booted). p ≡ mark o n (get_or xs i d).0 (get_or xs i d).1) boot_is marked

      state_is : p.state ≡ with_mark o.state n (get_or (boot_of s.cluster n) i d).0 (get_or (boot_of s.cluster n) i d).1
      state_is = ap (λ (q : Course). q.state) marked_next

      pub one_more : (first : Course) → o ≡ fold (mark_booted n) first (take i (boot_of s.cluster n))
          → p ≡ fold (mark_booted n) first (take (i + 1) (boot_of s.cluster n))
      one_more first same =
          marked_next
          ∙ ap (λ q. mark q n (get_or (boot_of s.cluster n) i d).0 (get_or (boot_of s.cluster n) i d).1) same
          ∙ sym (fold_more (mark_booted n) first (boot_of s.cluster n) i d lt)

      pub same_cluster : p.state.cluster ≡ s.cluster
      same_cluster =
          ap (λ (v : StateView). v.cluster) state_is
          ∙ mark_cluster o.state n (get_or (boot_of s.cluster n) i d).0 (get_or (boot_of s.cluster n) i d).1 ∙ cluster

      pub others_off : (k : ℕ) (e : Booted) → i + 1 ≤ k → k < length (boot_of s.cluster n) → is_started p.state n (get_or (boot_of s.cluster n) k e).0 ≡ false
      others_off k e h l =
          ap (λ (v : StateView). is_started v n (get_or (boot_of s.cluster n) k e).0) state_is
          ∙ mark_starts_no_other o.state n (get_or (boot_of s.cluster n) i d).0 (get_or (boot_of s.cluster n) k e).0 (get_or (boot_of s.cluster n) i d).1
          differs (rest k e (omega arith) l)
        where
          -- both entries are read with the default of one of them
          at : (get_or (boot_of s.cluster n) k d) ≡ (get_or (boot_of s.cluster n) k e)
          at = any_default (boot_of s.cluster n) k d e l

          differs : (get_or (boot_of s.cluster n) k e).0.0 ≢ (get_or (boot_of s.cluster n) i d).0.0
          differs same = within.boot_once n i k d (omega arith) l (sym same ∙ ap (λ (x : Booted). x.0.0) (sym at))

-- all are marked
pub all_marked : (o : Course) (n : Node) (boot : List Booted) (i : ℕ) → length boot ≤ i → fold (mark_booted n) o (take i boot) ≡ mark_all o n boot
unfolding mark_all
all_marked o n boot i h = ap (λ (xs : List Booted). fold (mark_booted n) o xs) (take_all i boot h)
