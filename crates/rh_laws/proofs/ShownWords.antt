-- Words of a report: no blank and no line feed stands in a name or a number, and each word tells what it is of.
use Rattle.std.proofs.Common.{◌≡◌, ◌≢◌, ◌<◌, ◌^◌, ◌==◌, ℕ, true, cond, not, nat_lt, List, [], ◌∷◌, ◌++◌, length, get_or, codes}
use Rattle.std.proofs.Common.{Option, Some, None, refl, sym, ap, ◌∙◌, subst, arith, unwrap_or, slice_get}
use Rattle.std.specs.Prelude.{AllPairs}
use Rattle.std.specs.Char.{digit_value}
use Rattle.std.specs.Fmt.{decimal}
use Rattle.std.specs.Str.Parse.{AllDigits}
use Rattle.std.proofs.lemmas.Fmt.{decimal_is_IsNumeral}
use Rattle.std.proofs.lemmas.List.{append_cancel_left}
use Rattle.std.proofs.lemmas.List.Elements.{All-weaker}
use Rattle.std.proofs.lemmas.Option.{slice_get-get_or}
use Rattle.rh_model.specs.ClusterView.{ClusterView, IsWithin, numbered, app_numbered}
use Rattle.rh_model.specs.declared.node.Node.{Node}
use Rattle.rh_model.specs.declared.node.App.{App}
use Rattle.rh_model.specs.declared.settings.Restart.{Restart}
use Rattle.rh_model.specs.declared.settings.Restart.TheVariants.{Permanent, Transient, Temporary}
use Rattle.rh_state.specs.declared.status.Mode.{Mode}
use Rattle.rh_state.specs.declared.status.Mode.TheVariants.{Down, Waiting, Up}
use Rattle.rh_state.specs.declared.status.Kind.{Kind}
use Rattle.rh_state.specs.declared.status.Kind.TheVariants as kind
use Rattle.rh_state.specs.declared.status.Standing.{Standing}
use Rattle.rh_state.specs.declared.status.Standing.TheVariants as standing
use Rattle.rh_state.specs.Shape.{IsNodeOf, IsAppOf, IsKindOf, IsStandingOf}
use Rattle.rh_calls.specs.Report.{no_name, node_word, app_word, mode_words, restart_words, kind_words, standing_words}
use Rattle.rh_trace.proofs.Entries.{is_below, is_above, not_same}
use Rattle.rh_base.proofs.Lists.{cases}
use Rattle.rh_laws.specs.Reports.{IsPlain, HasPlainNames}
use Rattle.rh_laws.proofs.LessStarted.{all_hold}
use Rattle.rh_laws.proofs.Texts.{free, free_of}

-- ---- numbers
digits_free : (c : ℕ) (digits : List ℕ) → (digit_value c < 10 → ⊥) → AllDigits 10 digits → free c digits ≡ true
digits_free c [] none h = refl
digits_free c (b ∷ digits) none h = all_hold (not (b == c)) (free c digits)
    (ap not (not_same b c (λ e. none (subst (λ d. digit_value d < 10) e h.0))))
    (digits_free c digits none h.1)

pub number_blank : (n : ℕ) → n < 2 ^ 64 → free 32 (decimal n) ≡ true
number_blank n small = digits_free 32 (decimal n) (λ l. omega (arith, l)) (decimal_is_IsNumeral n small).0.1

pub number_line : (n : ℕ) → n < 2 ^ 64 → free 10 (decimal n) ≡ true
number_line n small = digits_free 10 (decimal n) (λ l. omega (arith, l)) (decimal_is_IsNumeral n small).0.1

-- ---- names
-- the place of a name
same_place : (names : List (List ℕ)) → AllPairs (λ (name later : List ℕ). name ≢ later) names → (i j : ℕ) → i < length names → j < length names
    → get_or names i [] ≡ get_or names j [] → i ≡ j
same_place names once i j il jl e = cases (nat_lt i j)
    (λ t. absurd (once i j [] (is_below i j t) jl e))
    (λ f. cases (nat_lt j i)
    (λ t. absurd (once j i [] (is_below j i t) il (sym e)))
    (λ g. let k = is_above i j f in let l = is_above j i g in omega (arith, k, l)))

word_at : (names : List (List ℕ)) (i : ℕ) → i < length names → unwrap_or (slice_get names i) no_name ≡ get_or names i []
word_at names i inside = ap (λ (o : Option (List ℕ)). unwrap_or o no_name) (slice_get-get_or names i [] inside)

plain_blank : (word : List ℕ) → IsPlain word → free 32 word ≡ true
plain_blank word h = free_of 32 word (All-weaker (λ (b : ℕ). (b ≢ 32) × (b ≢ 10)) (λ (b : ℕ). b ≢ 32) (λ b other. other.0) word h)

plain_line : (word : List ℕ) → IsPlain word → free 10 word ≡ true
plain_line word h = free_of 10 word (All-weaker (λ (b : ℕ). (b ≢ 32) × (b ≢ 10)) (λ (b : ℕ). b ≢ 10) (λ b other. other.1) word h)

module _ (c : ClusterView) (within : IsWithin c) (names : HasPlainNames c) where
  pub node_blank : (n : Node) → IsNodeOf c n → free 32 (node_word c n) ≡ true
  node_blank n h = ap (free 32) (word_at c.node_names n.0 h) ∙ plain_blank (get_or c.node_names n.0 []) (names.nodes n.0 [] h)

  pub node_free : (n : Node) → IsNodeOf c n → free 10 (node_word c n) ≡ true
  node_free n h = ap (free 10) (word_at c.node_names n.0 h) ∙ plain_line (get_or c.node_names n.0 []) (names.nodes n.0 [] h)

  pub app_blank : (a : App) → IsAppOf c a → free 32 (app_word c a) ≡ true
  app_blank a h = ap (free 32) (word_at c.app_names a.0 h) ∙ plain_blank (get_or c.app_names a.0 []) (names.apps a.0 [] h)

  pub app_free : (a : App) → IsAppOf c a → free 10 (app_word c a) ≡ true
  app_free a h = ap (free 10) (word_at c.app_names a.0 h) ∙ plain_line (get_or c.app_names a.0 []) (names.apps a.0 [] h)

  pub same_node_word : (n m : Node) → IsNodeOf c n → IsNodeOf c m → node_word c n ≡ node_word c m → n ≡ m
  same_node_word n m h g e = ap numbered (same_place c.node_names within.node_names n.0 m.0 h g
      (sym (word_at c.node_names n.0 h) ∙ e ∙ word_at c.node_names m.0 g))

  pub same_app_word : (a b : App) → IsAppOf c a → IsAppOf c b → app_word c a ≡ app_word c b → a ≡ b
  same_app_word a b h g e = ap app_numbered (same_place c.app_names within.app_names a.0 b.0 h g
      (sym (word_at c.app_names a.0 h) ∙ e ∙ word_at c.app_names b.0 g))

  -- ---- how an application was started
  abbrev kind_tag : List ℕ → ℕ
  kind_tag word = get_or word 0 0

  pub same_kind_words : (k l : Kind) → IsKindOf c k → IsKindOf c l → kind_words c k ≡ kind_words c l → k ≡ l
  same_kind_words kind.Normal kind.Normal h g e = refl
  same_kind_words (kind.Failover m) (kind.Failover n) h g e =
      ap kind.Failover (same_node_word m n h g (append_cancel_left (codes "failover ") (node_word c m) (node_word c n) e))
  same_kind_words (kind.Takeover m) (kind.Takeover n) h g e =
      ap kind.Takeover (same_node_word m n h g (append_cancel_left (codes "takeover ") (node_word c m) (node_word c n) e))
  same_kind_words k l h g e =
      let tags : kind_tag (kind_words c k) ≡ kind_tag (kind_words c l) = ap kind_tag e in absurd (omega (arith, tags))

  pub kind_free : (k : Kind) → IsKindOf c k → free 10 (kind_words c k) ≡ true
  kind_free kind.Normal h = refl
  kind_free (kind.Failover m) h = node_free m h
  kind_free (kind.Takeover m) h = node_free m h

  -- ---- where it stands
  -- the first byte of its words
  abbrev first_byte : Standing → ℕ
  first_byte standing.Quiet = 113
  first_byte (standing.Wanted from) = 119
  first_byte (standing.Running n) = 114
  first_byte (standing.Lost n) = 108

  begins : (x : Standing) → get_or (standing_words c x) 0 0 ≡ first_byte x
  begins standing.Quiet = refl
  begins (standing.Wanted None) = refl
  begins (standing.Wanted (Some m)) = refl
  begins (standing.Running n) = refl
  begins (standing.Lost n) = refl

  -- a node is named where there is one
  same_wanted_words : (from other : Option Node) → IsStandingOf c (standing.Wanted from) → IsStandingOf c (standing.Wanted other)
      → standing_words c (standing.Wanted from) ≡ standing_words c (standing.Wanted other) → from ≡ other
  same_wanted_words None None h g e = refl
  same_wanted_words (Some m) (Some n) h g e =
      ap Some (same_node_word m n h g (append_cancel_left (codes "wanted ") (node_word c m) (node_word c n) e))
  same_wanted_words None (Some n) h g e =
      let tags : get_or (codes "wanted") 6 0 ≡ get_or (codes "wanted " ++ node_word c n) 6 0 = ap (λ (word : List ℕ). get_or word 6 0) e in
      absurd (omega (arith, tags))
  same_wanted_words (Some m) None h g e =
      let tags : get_or (codes "wanted " ++ node_word c m) 6 0 ≡ get_or (codes "wanted") 6 0 = ap (λ (word : List ℕ). get_or word 6 0) e in
      absurd (omega (arith, tags))

  pub same_standing_words : (x y : Standing) → IsStandingOf c x → IsStandingOf c y → standing_words c x ≡ standing_words c y → x ≡ y
  same_standing_words standing.Quiet standing.Quiet h g e = refl
  same_standing_words (standing.Wanted from) (standing.Wanted other) h g e = ap standing.Wanted (same_wanted_words from other h g e)
  same_standing_words (standing.Running m) (standing.Running n) h g e =
      ap standing.Running (same_node_word m n h g (append_cancel_left (codes "running ") (node_word c m) (node_word c n) e))
  same_standing_words (standing.Lost m) (standing.Lost n) h g e =
      ap standing.Lost (same_node_word m n h g (append_cancel_left (codes "lost ") (node_word c m) (node_word c n) e))
  same_standing_words x y h g e =
      let tags : first_byte x ≡ first_byte y = sym (begins x) ∙ ap (λ (word : List ℕ). get_or word 0 0) e ∙ begins y in absurd (omega (arith, tags))

  pub standing_free : (x : Standing) → IsStandingOf c x → free 10 (standing_words c x) ≡ true
  standing_free standing.Quiet h = refl
  standing_free (standing.Wanted None) h = refl
  standing_free (standing.Wanted (Some m)) h = node_free m h
  standing_free (standing.Running m) h = node_free m h
  standing_free (standing.Lost m) h = node_free m h

-- ---- restart types and modes
abbrev read_restart : List ℕ → Restart
read_restart word = cond (get_or word 0 0 == 112) Permanent (cond (get_or word 1 0 == 114) Transient Temporary)

restart_read : (r : Restart) → read_restart (restart_words r) ≡ r
restart_read Permanent = refl
restart_read Transient = refl
restart_read Temporary = refl

pub same_restart_words : (r q : Restart) → restart_words r ≡ restart_words q → r ≡ q
same_restart_words r q e = sym (restart_read r) ∙ ap read_restart e ∙ restart_read q

pub restart_blank : (r : Restart) → free 32 (restart_words r) ≡ true
restart_blank Permanent = refl
restart_blank Transient = refl
restart_blank Temporary = refl

pub restart_free : (r : Restart) → free 10 (restart_words r) ≡ true
restart_free Permanent = refl
restart_free Transient = refl
restart_free Temporary = refl

abbrev read_mode : List ℕ → Mode
read_mode word = cond (get_or word 0 0 == 100) Down (cond (get_or word 0 0 == 117) Up Waiting)

mode_read : (m : Mode) → read_mode (mode_words m) ≡ m
mode_read Down = refl
mode_read Waiting = refl
mode_read Up = refl

pub same_mode_words : (m k : Mode) → mode_words m ≡ mode_words k → m ≡ k
same_mode_words m k e = sym (mode_read m) ∙ ap read_mode e ∙ mode_read k

pub mode_blank : (m : Mode) → free 32 (mode_words m) ≡ true
mode_blank Down = refl
mode_blank Waiting = refl
mode_blank Up = refl

pub mode_free : (m : Mode) → free 10 (mode_words m) ≡ true
mode_free Down = refl
mode_free Waiting = refl
mode_free Up = refl
