-- Edits that follow one another.
use Rattle.std.proofs.Common.{◌≡◌, true, List, [], ◌∷◌, ◌++◌, refl, sym, ap, subst, ◌∙◌, append_assoc}
use Rattle.std.proofs.lemmas.List.{append-nil}
use Rattle.rh_base.specs.Exchanges.{back, AllBack}
use Rattle.rh_base.proofs.Exchanges.{back-append, AllBack-append}
use Rattle.rh_state.specs.declared.edit.Edit.{Edit}
use Rattle.rh_state.specs.Edits.{exchange, is_done}
use Rattle.rh_state.specs.Formed.{IsFormed}
use Rattle.rh_state.specs.Records.{CanGoBack, Grows}
use Rattle.rh_state.specs.Stored.{Stored}

-- nothing changed
pub grows_none : (w : Stored) (edits : List Edit) → Grows w edits w edits
grows_none w edits = record { added = []; is = sym (append-nil edits); led = record { all = tt; back = refl } }

-- one setter was called, and its edit kept
pub grows_one : (v w : Stored) (e : Edit) (old new : List Edit) → new ≡ old ++ e ∷ [] → is_done e ≡ true → exchange w e ≡ v
    → IsFormed v → IsFormed w → Grows v old w new
grows_one v w e old new is done exact before after = record {
  added = e ∷ [];
  is = is;
  led = record { all = (tt, record { done = done; before = subst IsFormed (sym exact) before; after = after }); back = exact };
}

-- one part of a step was made, and then another
pub grows_more : (u v w : Stored) (a b c : List Edit) → Grows u a v b → Grows v b w c → Grows u a w c
grows_more u v w a b c g h = record {
  added = g.added ++ h.added;
  is = h.is ∙ ap (λ l. l ++ h.added) g.is ∙ append_assoc a g.added h.added;
  led = record {
    all = AllBack-append exchange CanGoBack w g.added h.added h.led.all (subst (λ s. AllBack exchange CanGoBack s g.added) (sym h.led.back) g.led.all);
    back = back-append exchange w g.added h.added ∙ ap (λ s. back exchange s g.added) h.led.back ∙ g.led.back;
  };
}
