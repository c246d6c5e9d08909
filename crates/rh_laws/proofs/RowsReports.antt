-- Worked rows: what a report shows, and what it doesn't.
use Rattle.std.proofs.Common.{◌≡◌, ◌==◌, ℕ, zero, suc, Bool, true, false, not, List, [], ◌∷◌, codes, None, refl, sym, arith}
use Rattle.std.specs.Prelude.{All}
use Rattle.std.proofs.lemmas.Bool.{and_parts}
use Rattle.rh_model.specs.ClusterView.{ClusterView, AppView}
use Rattle.rh_model.specs.declared.settings.Restart.TheVariants.{Permanent, Transient, Temporary}
use Rattle.rh_state.specs.declared.status.Mode.TheVariants.{Up}
use Rattle.rh_state.specs.Numbers.{nodes_of, apps_of}
use Rattle.rh_state.specs.StateView.{StateView}
use Rattle.rh_state.specs.First.{first, configured}
use Rattle.rh_calls.specs.Report.{report_text, node_line, forbidden_line, line_if_forbidden, app_line, node_lines}
use Rattle.rh_laws.specs.Reports.{IsPlain, HasPlainNames, IsDueSoon}
use Rattle.rh_laws.proofs.Texts.{free, other_byte}
use Rattle.rh_trace.proofs.Every.{Every}

abbrev app : AppView
app = record { deps = []; start_arg = None; phases = false; spread = None }

abbrev named : List ℕ → ClusterView
named last = record {
  profile = 1;
  node_names = codes "n1" ∷ [];
  app_names = codes "a" ∷ codes "b" ∷ last ∷ [];
  platform_names = [];
  nodes = [];
  apps = app ∷ app ∷ app ∷ [];
}

abbrev state_of : List ℕ → List Bool → StateView
state_of last allowed = record (first (named last)) { modes = Up ∷ []; allowed = allowed ∷ [] }

-- ---- names without blanks and line feeds
plain_by : (word : List ℕ) → free 32 word ≡ true → free 10 word ≡ true → IsPlain word
plain_by [] h k i d l = absurd (omega arith)
plain_by (b ∷ word) h k zero d l = (
  λ e. other_byte 32 b (and_parts (not (b == 32)) (free 32 word) h).0 (sym e),
  λ e. other_byte 10 b (and_parts (not (b == 10)) (free 10 word) k).0 (sym e),
)
plain_by (b ∷ word) h k (suc i) d l =
    plain_by word (and_parts (not (b == 32)) (free 32 word) h).1 (and_parts (not (b == 10)) (free 10 word) k).1 i d (omega arith)

all_plain : (names : List (List ℕ)) → Every IsPlain names → All IsPlain names
all_plain [] h i d l = absurd (omega arith)
all_plain (name ∷ names) h zero d l = h.0
all_plain (name ∷ names) h (suc i) d l = all_plain names h.1 i d (omega arith)

plain_row : HasPlainNames (named (codes "web"))
plain_row = record {
  nodes = all_plain (codes "n1" ∷ []) (plain_by (codes "n1") refl refl, tt);
  apps = all_plain (codes "a" ∷ codes "b" ∷ codes "web" ∷ [])
      (plain_by (codes "a") refl refl, (plain_by (codes "b") refl refl, (plain_by (codes "web") refl refl, tt)));
}

no_timer_row : IsDueSoon (first (named (codes "web")))
no_timer_row k d l = absurd (omega arith)

-- ---- the restart type of what isn't started isn't shown, so a report doesn't tell it
unshown_row : report_text (record (state_of (codes "web") (true ∷ true ∷ true ∷ [])) { restarts = (Permanent ∷ Transient ∷ Temporary ∷ []) ∷ [] })
    ≡ report_text (state_of (codes "web") (true ∷ true ∷ true ∷ []))
unfolding nodes_of apps_of node_line line_if_forbidden app_line node_lines configured
unshown_row = refl

-- ---- where a line feed stands in a name two lines can be one: here a and b are forbidden, there what is named by both lines
abbrev broken : List ℕ
broken = codes "a\n  forbidden b"

broken_row : report_text (state_of broken (false ∷ false ∷ true ∷ [])) ≡ report_text (state_of broken (true ∷ true ∷ false ∷ []))
unfolding nodes_of apps_of node_line forbidden_line line_if_forbidden app_line node_lines configured
broken_row = refl
