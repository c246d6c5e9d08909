-- A node that sees all of several others: global connects it with none of them.
use Rattle.std.proofs.Common.{◌≡◌, ◌==◌, ◌&&◌, ◌||◌, Bool, true, false, not, cond, List, [], ◌∷◌, filter, map, refl, ap, ◌∙◌}
use Rattle.std.proofs.lemmas.Bool.{eq-eqb, false≢true}
use Rattle.rh_model.specs.ClusterView.{is_in}
use Rattle.rh_model.specs.declared.node.Node.{Node}
use Rattle.rh_otp_net.specs.declared.links.Link.{Link}
use Rattle.rh_otp_net.specs.Links.{link, are_linked, is_between, is_to_connect, joined}

pub both : (p q : Bool) → (p && q) ≡ true → (p ≡ true) × (q ≡ true)
both true q is = (refl, is)
both false q is = absurd (false≢true is)

either_right : (p q : Bool) → q ≡ true → (p || q) ≡ true
either_right true q is = refl
either_right false q is = is

not_to_connect : (x y z : Bool) → (x || y) ≡ true → (not x && not y && z) ≡ false
not_to_connect true y z is = refl
not_to_connect false true z is = refl
not_to_connect false false z is = absurd (false≢true is)

none_left : (pair : Link) (links : List Link) (a : Node) (others : List Node)
    → ((b : Node) → is_in b others ≡ true → (a.0 == b.0 || are_linked a b links) ≡ true)
    → filter (is_to_connect pair.0 pair.1 links a) others ≡ []
none_left pair links a [] seen = refl
none_left pair links a (b ∷ others) seen =
    ap (λ (t : Bool). cond t (b ∷ rest) rest)
    (not_to_connect (a.0 == b.0) (are_linked a b links) (not (is_between pair.0 pair.1 (link a b)))
    (seen b (ap (λ (t : Bool). t || is_in b others) (eq-eqb b.0 b.0 refl))))
    ∙ none_left pair links a others (λ c within. seen c (either_right (c.0 == b.0) (is_in c others) within))
  where
    rest : List Node
    rest = filter (is_to_connect pair.0 pair.1 links a) others

pub none_joined : (pair : Link) (links : List Link) (a : Node) (others : List Node)
    → ((b : Node) → is_in b others ≡ true → (a.0 == b.0 || are_linked a b links) ≡ true) → joined pair links a others ≡ []
none_joined pair links a others seen = ap (map (link a)) (none_left pair links a others seen)
