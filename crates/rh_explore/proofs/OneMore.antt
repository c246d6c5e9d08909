-- One state more is kept.
use Rattle.std.proofs.Common.{◌≡◌, ◌<◌, ◌+◌, ℕ, sum_by, get_or, length, List, [], ◌∷◌, ◌++◌, Some, sym, ap, ◌∙◌, subst, arith}
use Rattle.std.proofs.lemmas.List.{map_push, length-map}
use Rattle.std.proofs.lemmas.Option.{slice_get-get_or}
use Rattle.std.proofs.lemmas.List.Sums.{sum_by_push}
use Rattle.rh_explore.specs.Exploring.{key_of, key_length, most_bytes, HadRoom}
use Rattle.rh_explore.specs.declared.bounds.Bounds.{Bounds}
use Rattle.rh_state.specs.StateView.{StateView}
use Rattle.rh_rules.specs.declared.event.Event.{Event}
use Rattle.rh_step.specs.Runs.{step}
use Rattle.rh_explore.specs.declared.asking.Ask.{Ask}
use Rattle.rh_explore.specs.declared.space.Found.{Found}
use Rattle.rh_explore.specs.declared.space.Space.{Space}
use Rattle.rh_explore.specs.Failures.{AreFirsts}
use Rattle.rh_explore.specs.Reaching.{Scope, behind}
use Rattle.rh_explore.specs.Spaces.{Seen, states_of, IsFoundInTurn, AreInTurn}
use Rattle.rh_explore.specs.Kept.{path_by, paths_of, seen_by, seen_of, code_in, codes_of, bytes_of, AreLinked, IsKept}
use Rattle.rh_explore.proofs.InTurn.{each_push, turn_push}
use Rattle.rh_explore.proofs.PathsTo.{path_at, length-seen}
use Rattle.rh_explore.proofs.Searched.{behind_push}

-- the state that was found behind an event
pub more_is : (w : Scope) (found : List Found) (at : ℕ) (e : Event) (g : Found) → g.last ≡ Some (at, e)
    → seen_by w (path_by (paths_of found) g.last) ≡ record { path = path_at found at ++ e ∷ []; state = step w.pick (behind w w.base (path_at found at)) e }
more_is w found at e g last =
    ap (λ o. seen_by w (path_by (paths_of found) o)) last
    ∙ (λ i. record { path = path_at found at ++ e ∷ []; state = behind_push w w.base (path_at found at) e i })

-- and had room
room_push : (bounds : Bounds) (states : List StateView) (s : StateView) → HadRoom bounds states → length states < bounds.states
    → sum_by key_length states < most_bytes bounds → HadRoom bounds (states ++ s ∷ [])
room_push bounds states s room few small k some within =
    let there = slice_get-get_or (states ++ s ∷ []) k s within in
    each_push states s (λ k earlier x. 0 < k → (k < bounds.states) × (sum_by key_length earlier < most_bytes bounds))
    (λ k x l here some. room k some l) (λ some. (few, small)) k (get_or (states ++ s ∷ []) k s) there some

pub kept_more : (w : Scope) (bounds : Bounds) (asks : List Ask) (old new : Space) (y : Seen) → IsKept w bounds asks old
    → AreLinked new.found.items
    → seen_of w new.found.items ≡ seen_of w old.found.items ++ y ∷ []
    → bytes_of new ≡ bytes_of old ++ key_of y.state ∷ []
    → AreFirsts w.pick new.firsts.items asks (states_of (seen_of w old.found.items) ++ y.state ∷ [])
    → new.bytes ≡ old.bytes + key_length y.state
    → IsFoundInTurn w (seen_of w old.found.items) y
    → length old.found.items < bounds.states → old.bytes < most_bytes bounds
    → IsKept w bounds asks new
kept_more w bounds asks old new y kept linked more bytes firsts longer turn few small =
    let seen = seen_of w old.found.items in
    let state_in = λ (x : Seen). x.state in
    let states : states_of (seen_of w new.found.items) ≡ states_of seen ++ y.state ∷ [] = ap states_of more ∙ map_push state_in seen y in
    record {
      linked = linked;
      codes = bytes ∙ ap (λ (l : List (List ℕ)). l ++ key_of y.state ∷ []) kept.codes ∙ sym (map_push code_in seen y) ∙ ap codes_of (sym more);
      firsts = subst (AreFirsts w.pick new.firsts.items asks) (sym states) firsts;
      bytes = longer ∙ ap (λ n. n + key_length y.state) kept.bytes ∙ sym (sum_by_push key_length (states_of seen) y.state) ∙ ap (sum_by key_length) (sym states);
      in_turn = subst (AreInTurn w) (sym more) (turn_push w seen y kept.in_turn turn);
      room = subst (HadRoom bounds) (sym states) (room_push bounds (states_of seen) y.state kept.room
          (omega (arith, few, length-map seen state_in, length-seen w old.found.items)) (omega (arith, small, kept.bytes)));
    }
