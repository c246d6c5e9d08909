-- The name of one term.
use Rattle.std.proofs.Common.{◌≡◌, ℕ, Bool, true, false, cond, List, [], ◌∷◌, ◌++◌, map, Option, Some, None, Result, Ok, Err, codes, refl, ap, ◌∙◌}
use Rattle.std.specs.List.{filter_map, cons_option}
use Rattle.std.specs.Prelude.{OnOk}
use Rattle.std.specs.Str.{bytes_eq}
use Rattle.std.proofs.lemmas.Slice.Eq.{bytes_eq-Decides}
use Rattle.std.proofs.lemmas.List.{map-append}
use Rattle.std.proofs.lemmas.List.Elements.{filter_map-append}
use Rattle.rh_base.specs.Tree.{Tree}
use Rattle.rh_cluster.specs.Shapes.{as_node, as_app, as_headed, as_triple, as_atom, ◌>>=◌}
use Rattle.rh_cluster.specs.Headers.{node_names, app_names}

pub on_ok : {A E : Type 0} {P : Type 0} (r : Result A E) → P → OnOk r P
on_ok (Ok x) p = p
on_ok (Err e) p = tt

pub node_names_one : (t : Tree) (x : List ℕ × Tree) → as_node t ≡ Some x → node_names (t ∷ []) ≡ x.0 ∷ []
unfolding node_names
node_names_one t x h = ap (λ (o : Option (List ℕ × Tree)). map (λ (n : List ℕ × Tree). n.0) (cons_option o [])) h

pub node_names_none : (t : Tree) → as_node t ≡ None → node_names (t ∷ []) ≡ []
unfolding node_names
node_names_none t h = ap (λ (o : Option (List ℕ × Tree)). map (λ (n : List ℕ × Tree). n.0) (cons_option o [])) h

pub app_names_one : (t : Tree) (x : List ℕ × Tree) → as_app t ≡ Some x → app_names (t ∷ []) ≡ x.0 ∷ []
unfolding app_names
app_names_one t x h = ap (λ (o : Option (List ℕ × Tree)). map (λ (n : List ℕ × Tree). n.0) (cons_option o [])) h

pub app_names_none : (t : Tree) → as_app t ≡ None → app_names (t ∷ []) ≡ []
unfolding app_names
app_names_none t h = ap (λ (o : Option (List ℕ × Tree)). map (λ (n : List ℕ × Tree). n.0) (cons_option o [])) h

abbrev after_word : List ℕ → (Tree × Tree × Tree) → List ℕ → Option (List ℕ × Tree)
after_word word parts first = cond (bytes_eq first word) (as_atom parts.1 >>= λ name. Some (name, parts.2)) None

abbrev after_parts : List ℕ → (Tree × Tree × Tree) → Option (List ℕ) → Option (List ℕ × Tree)
after_parts word parts first = first >>= after_word word parts

-- with one word, it has no other
one_word : (w v : List ℕ) (parts : Tree × Tree × Tree) (first : List ℕ) (x : List ℕ × Tree) → bytes_eq w v ≡ false → after_word w parts first ≡ Some x
    → after_word v parts first ≡ None
one_word w v parts first x other h = by (bytes_eq first w) refl h
  where
    by : (b : Bool) → bytes_eq first w ≡ b → cond b (as_atom parts.1 >>= λ name. Some (name, parts.2)) None ≡ Some x → after_word v parts first ≡ None
    by true e k =
        ap (λ (s : List ℕ). after_word v parts s) ((bytes_eq-Decides first w).0 e)
        ∙ (λ i. cond (other i) (as_atom parts.1 >>= λ name. Some (name, parts.2)) None)
    by false e k = cc

one_word_atom : (w v : List ℕ) (parts : Tree × Tree × Tree) (first : Option (List ℕ)) (x : List ℕ × Tree) → bytes_eq w v ≡ false
    → after_parts w parts first ≡ Some x → after_parts v parts first ≡ None
one_word_atom w v parts None x other h = refl
one_word_atom w v parts (Some s) x other h = one_word w v parts s x other h

one_word_parts : (w v : List ℕ) (parts : Option (Tree × Tree × Tree)) (x : List ℕ × Tree) → bytes_eq w v ≡ false
    → (parts >>= λ p. after_parts w p (as_atom p.0)) ≡ Some x → (parts >>= λ p. after_parts v p (as_atom p.0)) ≡ None
one_word_parts w v None x other h = refl
one_word_parts w v (Some p) x other h = one_word_atom w v p (as_atom p.0) x other h

pub no_app : (t : Tree) (x : List ℕ × Tree) → as_node t ≡ Some x → as_app t ≡ None
unfolding as_headed
no_app t x h = one_word_parts (codes "node") (codes "application") (as_triple t) x refl h

pub no_node : (t : Tree) (x : List ℕ × Tree) → as_app t ≡ Some x → as_node t ≡ None
unfolding as_headed
no_node t x h = one_word_parts (codes "application") (codes "node") (as_triple t) x refl h

pub node_names-append : (ts : List Tree) (t : Tree) → node_names (ts ++ t ∷ []) ≡ node_names ts ++ node_names (t ∷ [])
unfolding node_names
node_names-append ts t =
    ap (map (λ (n : List ℕ × Tree). n.0)) (filter_map-append as_node ts (t ∷ []))
    ∙ map-append (λ (n : List ℕ × Tree). n.0) (filter_map as_node ts) (filter_map as_node (t ∷ []))

pub app_names-append : (ts : List Tree) (t : Tree) → app_names (ts ++ t ∷ []) ≡ app_names ts ++ app_names (t ∷ [])
unfolding app_names
app_names-append ts t =
    ap (map (λ (n : List ℕ × Tree). n.0)) (filter_map-append as_app ts (t ∷ []))
    ∙ map-append (λ (n : List ℕ × Tree). n.0) (filter_map as_app ts) (filter_map as_app (t ∷ []))
