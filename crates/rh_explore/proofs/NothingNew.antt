-- A lead to a state that was there: nothing that is kept changes.
use Rattle.std.proofs.Common.{◌≡◌, ℕ, List, [], Bool, true, false, sum_by, length, slice_get, Option, refl, sym, ap, ◌∙◌, subst}
use Rattle.std.specs.Prelude.{Contains, MatchBool}
use Rattle.std.proofs.lemmas.List.{append-nil}
use Rattle.std.proofs.lemmas.List.Elements.{All-nil}
use Rattle.rh_explore.specs.declared.asking.Ask.{Ask}
use Rattle.rh_explore.specs.declared.bounds.Bounds.{Bounds}
use Rattle.rh_explore.specs.declared.search.Search.{Search}
use Rattle.rh_explore.specs.declared.space.Found.{Found}
use Rattle.rh_explore.specs.declared.space.Space.{Space}
use Rattle.rh_explore.specs.Exploring.{scope_of, key_length, HadRoom}
use Rattle.rh_explore.specs.Failures.{AreFirsts}
use Rattle.rh_explore.specs.Families.{IsAccepted}
use Rattle.rh_explore.specs.Kept.{codes_of, seen_of, seen_in, AreLinked, IsKept, HasTheSame, FindsAt}
use Rattle.rh_explore.specs.Reaching.{Scope}
use Rattle.rh_explore.specs.Spaces.{Seen, states_of, AreInTurn}

pub kept_same : (w : Scope) (bounds : Bounds) (asks : List Ask) (old new : Space) → HasTheSame old new → IsKept w bounds asks old → IsKept w bounds asks new
kept_same w bounds asks old new same kept =
    let seen : seen_of w old.found.items ≡ seen_of w new.found.items = ap (seen_of w) (sym same.found) in
    record {
      linked = subst AreLinked (sym same.found) kept.linked;
      codes = same.keys ∙ kept.codes ∙ ap codes_of seen;
      firsts = subst (λ (os : List (Option ℕ)). AreFirsts w.pick os asks (states_of (seen_of w new.found.items))) (sym same.firsts)
          (subst (λ (all : List Seen). AreFirsts w.pick old.firsts.items asks (states_of all)) seen kept.firsts);
      bytes = same.bytes ∙ kept.bytes ∙ ap (λ (all : List Seen). sum_by key_length (states_of all)) seen;
      in_turn = subst (AreInTurn w) seen kept.in_turn;
      room = subst (λ (all : List Seen). HadRoom bounds (states_of all)) seen kept.room;
    }

pub finds_same : (search : Search) (at : ℕ) (old new : Space) → HasTheSame old new → FindsAt search at old new []
finds_same search at old new same = λ x here. record {
  states = ap (λ (found : List Found). states_of (seen_of (scope_of search) found)) same.found ∙ sym (append-nil (states_of (seen_in search old)));
  accepted = All-nil (IsAccepted x.state);
  known = record {
    keys = λ q has. subst (λ (l : List (List ℕ)). Contains l q) (sym same.keys) has;
    count = ap (λ (os : List (Option ℕ)). length os) (sym same.firsts);
    firsts = λ j none. ap (λ (os : List (Option ℕ)). slice_get os j) (sym same.firsts) ∙ none;
  };
}

-- whatever a test says
pub either : (b : Bool) (P Q : Type 0) → (b ≡ true → P) → (b ≡ false → Q) → MatchBool b P Q
either true P Q is not = is refl
either false P Q is not = not refl
