-- Names of nodes that are read one after the other.
use Rattle.std.proofs.Common.{◌≡◌, ◌+◌, ◌<◌, ◌&&◌, ◌++◌, ℕ, List, [], ◌∷◌, length, map, take, drop, get_or, true, false, ap, ◌∙◌}
use Rattle.std.specs.Prelude.{is_some}
use Rattle.std.specs.Borrow.{Bor}
use Rattle.std.proofs.lemmas.List.{take_more, map_push}
use Rattle.rh_model.specs.ClusterView.{ClusterView, node_of}
use Rattle.rh_explore_text.specs.Asks.{are_nodes}
use Rattle.rh_explore_text.proofs.Answered.{next_of}

abbrev texts : List (Bor (List ℕ)) → List (List ℕ)
texts words = map (λ (w : Bor (List ℕ)). w.now) words

module _ (c : ClusterView) (words : List (Bor (List ℕ))) (i : ℕ) (d : Bor (List ℕ)) (at : i < length words) where
  here : are_nodes c (texts (drop i words)) ≡ (is_some (node_of c (get_or words i d).now) && are_nodes c (texts (drop (i + 1) words)))
  here = ap (λ ws. are_nodes c (texts ws)) (next_of words i d at)

  pub fails_here : is_some (node_of c (get_or words i d).now) ≡ false → are_nodes c (texts (drop i words)) ≡ false
  fails_here is = here ∙ ap (λ b. b && are_nodes c (texts (drop (i + 1) words))) is

  pub goes_on : is_some (node_of c (get_or words i d).now) ≡ true → are_nodes c (texts (drop i words)) ≡ are_nodes c (texts (drop (i + 1) words))
  goes_on is = here ∙ ap (λ b. b && are_nodes c (texts (drop (i + 1) words))) is

-- f of one more of these texts
pub one_more : {B : Type 0} (f : List ℕ → B) (words : List (Bor (List ℕ))) (i : ℕ) (d : Bor (List ℕ)) → i < length words
    → map f (texts (take (i + 1) words)) ≡ map f (texts (take i words)) ++ f (get_or words i d).now ∷ []
one_more f words i d at =
    ap (λ ws. map f (texts ws)) (take_more words i d at)
    ∙ ap (map f) (map_push (λ (w : Bor (List ℕ)). w.now) (take i words) (get_or words i d))
    ∙ map_push f (texts (take i words)) (get_or words i d).now
