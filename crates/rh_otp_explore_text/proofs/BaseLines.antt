-- The commands of a base in JSON, line by line.
use Rattle.std.proofs.Common.{◌≡◌, ◌+◌, ℕ, List, [], ◌∷◌, ◌++◌, map, Bool, true, false, refl, sym, ap, ◌∙◌, append_assoc}
use Rattle.std.proofs.lemmas.List.{append-nil}
use Rattle.rh_calls.specs.declared.call.Call.{Call}
use Rattle.rh_json.specs.RunJson.{Asked, asked_in, before}
use Rattle.rh_model.specs.ClusterView.{ClusterView}
use Rattle.rh_otp_json.specs.LiveJson.{answer_line, answer_lines}
use Rattle.rh_otp_sim.specs.Calls.{made_by}
use Rattle.rh_otp_sim.specs.Laws.{behind}
use Rattle.rh_otp_sim.specs.Sim.{LiveSimView}
use Rattle.rh_script.specs.Commands.{line_of}
use Rattle.rh_script.specs.declared.script.Line.{Line}
use Rattle.rh_script.specs.declared.script.Line.TheVariants.{Nothing, Asks, Bad}
use Rattle.rh_otp_explore_text.specs.Bases.{calls_in, GoesOn}

-- one line, of which the cluster says what it asks
module _ (c : ClusterView) (sim : LiveSimView) (k : ℕ) (line : List ℕ) (lines : List (List ℕ)) (out : List ℕ) where
  abbrev rest : List Asked
  rest = asked_in c (k + 1) lines

  abbrev asked_if : Line → List Asked
  asked_if asked = before k line asked rest

  pub on_of_nothing : line_of c line ≡ Nothing → GoesOn true c sim sim k line lines out out
  on_of_nothing is = (
    ap (λ (l : Line). out ++ answer_lines sim (asked_if l)) is,
    ap (λ (l : Line). behind (calls_in (asked_if l)) sim) is,
  )

  pub on_of_call : (call : Call) (later : LiveSimView) (new : List ℕ) → line_of c line ≡ Asks call → later ≡ made_by call sim
      → new ≡ out ++ answer_line sim k line call → GoesOn true c sim later k line lines out new
  on_of_call call later new is same told = (
    ap (λ (l : Line). out ++ answer_lines sim (asked_if l)) is
        ∙ sym (append_assoc out (answer_line sim k line call) (answer_lines (made_by call sim) rest))
        ∙ (λ i. (sym told) i ++ answer_lines ((sym same) i) rest),
    ap (λ (l : Line). behind (calls_in (asked_if l)) sim) is ∙ ap (λ (s : LiveSimView). behind (calls_in rest) s) (sym same),
  )

  pub on_of_bad : line_of c line ≡ Bad → GoesOn false c sim sim k line lines out out
  on_of_bad is = (ap asked_if is, refl, refl)

-- a line in the midst of a base: what is asked here is head, and then tail
module _ (c : ClusterView) (start sim next : LiveSimView) (k : ℕ) (all here tail : List (List ℕ)) (head begun out new : List ℕ)
    (at : here ≡ head ∷ tail)
    (so_far : out ++ answer_lines sim (asked_in c k here) ≡ begun ++ answer_lines start (asked_in c 1 all))
    (led : behind (calls_in (asked_in c k here)) sim ≡ behind (calls_in (asked_in c 1 all)) start) where
  pub text_goes_on : GoesOn true c sim next k head tail out new
      → new ++ answer_lines next (asked_in c (k + 1) tail) ≡ begun ++ answer_lines start (asked_in c 1 all)
  text_goes_on on = sym on.0 ∙ sym (ap (λ (ls : List (List ℕ)). out ++ answer_lines sim (asked_in c k ls)) at) ∙ so_far

  pub sim_goes_on : GoesOn true c sim next k head tail out new
      → behind (calls_in (asked_in c (k + 1) tail)) next ≡ behind (calls_in (asked_in c 1 all)) start
  sim_goes_on on = sym on.1 ∙ sym (ap (λ (ls : List (List ℕ)). behind (calls_in (asked_in c k ls)) sim) at) ∙ led

  -- no command is left
  none : GoesOn false c sim next k head tail out new → asked_in c k here ≡ []
  none on = ap (λ (ls : List (List ℕ)). asked_in c k ls) at ∙ on.0

  pub sim_ends : GoesOn false c sim next k head tail out new → next ≡ behind (calls_in (asked_in c 1 all)) start
  sim_ends on = on.1 ∙ sym (ap (λ (as' : List Asked). behind (calls_in as') sim) (none on)) ∙ led

  pub text_ends : GoesOn false c sim next k head tail out new → new ≡ begun ++ answer_lines start (asked_in c 1 all)
  text_ends on =
      on.2 ∙ sym (append-nil out) ∙ sym (ap (λ (as' : List Asked). out ++ answer_lines sim as') (none on)) ∙ so_far

-- where all lines were read
module _ (c : ClusterView) (start sim : LiveSimView) (k : ℕ) (all here : List (List ℕ)) (begun out : List ℕ) (end : here ≡ []) where
  pub all_told : out ++ answer_lines sim (asked_in c k here) ≡ begun ++ answer_lines start (asked_in c 1 all)
      → out ≡ begun ++ answer_lines start (asked_in c 1 all)
  all_told so_far = sym (append-nil out) ∙ sym (ap (λ (ls : List (List ℕ)). out ++ answer_lines sim (asked_in c k ls)) end) ∙ so_far

  pub all_made : behind (calls_in (asked_in c k here)) sim ≡ behind (calls_in (asked_in c 1 all)) start
      → sim ≡ behind (calls_in (asked_in c 1 all)) start
  all_made led = sym (ap (λ (ls : List (List ℕ)). behind (calls_in (asked_in c k ls)) sim) end) ∙ led
