-- Equal lines of a report are of equal parts.
use Rattle.std.proofs.Common.{◌≡◌, ◌<◌, ◌^◌, ℕ, true, List, ◌∷◌, ◌++◌, codes, get_or, sym, ap, ◌∙◌, arith, append_assoc}
use Rattle.std.specs.Fmt.{decimal}
use Rattle.std.proofs.lemmas.Fmt.{decimal_injective}
use Rattle.std.proofs.lemmas.List.{append_cancel_left}
use Rattle.rh_model.specs.ClusterView.{ClusterView, IsWithin}
use Rattle.rh_model.specs.declared.node.Node.{Node}
use Rattle.rh_model.specs.declared.node.App.{App}
use Rattle.rh_model.specs.declared.settings.Restart.{Restart}
use Rattle.rh_state.specs.declared.status.Mode.{Mode}
use Rattle.rh_state.specs.declared.status.Kind.{Kind}
use Rattle.rh_state.specs.declared.status.Standing.{Standing}
use Rattle.rh_state.specs.declared.status.Timer.{Timer}
use Rattle.rh_state.specs.declared.status.Timer.TheVariants.{Sync, Failover}
use Rattle.rh_state.specs.Shape.{IsAppOf, IsKindOf, IsStandingOf, IsTimerOf}
use Rattle.rh_calls.specs.Report.{node_word, app_word, mode_words, restart_words, kind_words, standing_words}
use Rattle.rh_laws.specs.Reports.{HasPlainNames}
use Rattle.rh_laws.proofs.Texts.{free, cut}
use Rattle.rh_laws.proofs.ShownWords.{node_blank, app_blank, same_node_word, same_app_word, same_kind_words, same_standing_words, same_restart_words}
use Rattle.rh_laws.proofs.ShownWords.{restart_blank, same_mode_words, mode_blank}
use Rattle.rh_laws.proofs.ReportLines.{running_bytes, waiting_bytes, forbidden_bytes, standing_bytes, timer_bytes}

-- ---- one line
three : (p w r : List ℕ) → (p ++ w ++ codes " ") ++ r ≡ p ++ (w ++ 32 ∷ r)
three p w r = simp append_assoc

five : (p w x y : List ℕ) → ((((p ++ w) ++ codes " ") ++ x) ++ codes " ") ++ y ≡ p ++ (w ++ 32 ∷ (x ++ 32 ∷ y))
five p w x y = simp append_assoc

module _ (c : ClusterView) (within : IsWithin c) (names : HasPlainNames c) where
  -- of a node
  pub same_node_line : (n : Node) (m k : Mode) (i j : ℕ) → i < 2 ^ 64 → j < 2 ^ 64
      → codes "node " ++ node_word c n ++ codes " " ++ mode_words m ++ codes " " ++ decimal i
      ≡ codes "node " ++ node_word c n ++ codes " " ++ mode_words k ++ codes " " ++ decimal j
      → (m ≡ k) × (i ≡ j)
  same_node_line n m k i j il jl e =
      let p = codes "node " ++ node_word c n ++ codes " " in
      let parts = cut 32 (mode_words m) (mode_words k) (decimal i) (decimal j) (mode_blank m) (mode_blank k)
      (append_cancel_left p (mode_words m ++ 32 ∷ decimal i) (mode_words k ++ 32 ∷ decimal j)
      (sym (three p (mode_words m) (decimal i)) ∙ e ∙ three p (mode_words k) (decimal j))) in
      (same_mode_words m k parts.0, decimal_injective i j il jl parts.1)

  -- of what runs
  pub same_running : (a b : App) (r q : Restart) (k l : Kind) → IsAppOf c a → IsAppOf c b → IsKindOf c k → IsKindOf c l
      → running_bytes c a r k ≡ running_bytes c b q l → (a ≡ b) × (r ≡ q) × (k ≡ l)
  same_running a b r q k l ah bh kh lh e =
      let p = codes "  running " in
      let rest : List ℕ = restart_words r ++ 32 ∷ kind_words c k in
      let others : List ℕ = restart_words q ++ 32 ∷ kind_words c l in
      let parts = cut 32 (app_word c a) (app_word c b) rest others (app_blank c within names a ah) (app_blank c within names b bh)
      (append_cancel_left p (app_word c a ++ 32 ∷ rest) (app_word c b ++ 32 ∷ others)
      (sym (five p (app_word c a) (restart_words r) (kind_words c k)) ∙ e ∙ five p (app_word c b) (restart_words q) (kind_words c l))) in
      let more = cut 32 (restart_words r) (restart_words q) (kind_words c k) (kind_words c l) (restart_blank r) (restart_blank q) parts.1 in
      (same_app_word c within names a b ah bh parts.0, same_restart_words r q more.0, same_kind_words c within names k l kh lh more.1)

  -- of what waits
  pub same_waiting : (a b : App) (r q : Restart) → IsAppOf c a → IsAppOf c b → waiting_bytes c a r ≡ waiting_bytes c b q → (a ≡ b) × (r ≡ q)
  same_waiting a b r q ah bh e =
      let p = codes "  waiting " in
      let parts = cut 32 (app_word c a) (app_word c b) (restart_words r) (restart_words q) (app_blank c within names a ah) (app_blank c within names b bh)
      (append_cancel_left p (app_word c a ++ 32 ∷ restart_words r) (app_word c b ++ 32 ∷ restart_words q)
      (sym (three p (app_word c a) (restart_words r)) ∙ e ∙ three p (app_word c b) (restart_words q))) in
      (same_app_word c within names a b ah bh parts.0, same_restart_words r q parts.1)

  -- of what may not run
  pub same_forbidden : (a b : App) → IsAppOf c a → IsAppOf c b → forbidden_bytes c a ≡ forbidden_bytes c b → a ≡ b
  same_forbidden a b ah bh e = same_app_word c within names a b ah bh (append_cancel_left (codes "  forbidden ") (app_word c a) (app_word c b) e)

  -- of where an application stands
  pub same_standing : (a : App) (x y : Standing) → IsStandingOf c x → IsStandingOf c y → standing_bytes c a x ≡ standing_bytes c a y → x ≡ y
  same_standing a x y xh yh e = same_standing_words c within names x y xh yh
      (append_cancel_left (codes "app " ++ app_word c a ++ codes " ") (standing_words c x) (standing_words c y) e)

  -- of a timer
  timer_of : (p : List ℕ) (w v : List ℕ) (i j : ℕ) → free 32 w ≡ true → free 32 v ≡ true → i < 2 ^ 64 → j < 2 ^ 64
      → (p ++ w) ++ codes " " ++ decimal i ≡ (p ++ v) ++ codes " " ++ decimal j → (w ≡ v) × (i ≡ j)
  timer_of p w v i j wh vh il jl e =
      let parts = cut 32 w v (decimal i) (decimal j) wh vh
      (append_cancel_left p (w ++ 32 ∷ decimal i) (v ++ 32 ∷ decimal j) (sym (three p w (decimal i)) ∙ e ∙ three p v (decimal j))) in
      (parts.0, decimal_injective i j il jl parts.1)

  pub same_timer_line : (x y : ℕ × Timer) → IsTimerOf c x.1 × (x.0 < 2 ^ 64) → IsTimerOf c y.1 × (y.0 < 2 ^ 64) → timer_bytes c x ≡ timer_bytes c y → x ≡ y
  same_timer_line (i, Sync n) (j, Sync m) xh yh e =
      let parts = timer_of (codes "timer sync ") (node_word c n) (node_word c m) i j (node_blank c within names n xh.0) (node_blank c within names m yh.0)
      xh.1 yh.1 e in
      let same = same_node_word c within names n m xh.0 yh.0 parts.0 in
      λ k. (parts.1 k, Sync (same k))
  same_timer_line (i, Failover a) (j, Failover b) xh yh e =
      let parts = timer_of (codes "timer failover ") (app_word c a) (app_word c b) i j (app_blank c within names a xh.0) (app_blank c within names b yh.0)
      xh.1 yh.1 e in
      let same = same_app_word c within names a b xh.0 yh.0 parts.0 in
      λ k. (parts.1 k, Failover (same k))
  same_timer_line (i, Sync n) (j, Failover b) xh yh e =
      let tags : get_or (timer_bytes c (i, Sync n)) 6 0 ≡ get_or (timer_bytes c (j, Failover b)) 6 0 = ap (λ (l : List ℕ). get_or l 6 0) e in
      absurd (omega (arith, tags))
  same_timer_line (i, Failover a) (j, Sync m) xh yh e =
      let tags : get_or (timer_bytes c (i, Failover a)) 6 0 ≡ get_or (timer_bytes c (j, Sync m)) 6 0 = ap (λ (l : List ℕ). get_or l 6 0) e in
      absurd (omega (arith, tags))
