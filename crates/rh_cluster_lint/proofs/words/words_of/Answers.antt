use Rattle.std.proofs.Common.{◌≡◌, ◌∙◌, ℕ, List, [], Bool, true, false, refl, if◌then◌else◌}
use Rattle.std.specs.Str.{is_utf8}
use Rattle.std.proofs.lemmas.Str.{is_utf8-from_IsUtf8, IsUtf8-from_is_utf8}
use Rattle.rh_cluster_lint.proofs.words.words_of.Goals as goal

if_it_is : (b : Bool) (xs : List ℕ) → b ≡ true → xs ≡ (if b then xs else [])
if_it_is true xs h = refl
if_it_is false xs h = cc h

if_it_isnt : (b : Bool) (xs : List ℕ) → (b ≡ true → ⊥) → [] ≡ (if b then xs else [])
if_it_isnt true xs h = absurd (h refl)
if_it_isnt false xs h = refl

pub returns-in-Ok : goal.returns-in-Ok
returns-in-Ok c =
    c.in-Ok.ensures.cases.0 ∙ if_it_is (is_utf8 c.args.bytes.now) c.args.bytes.now (is_utf8-from_IsUtf8 c.args.bytes.now c.in-Ok.ensures.cases.1)

pub returns-in-Err : goal.returns-in-Err
returns-in-Err c =
    if_it_isnt (is_utf8 c.args.bytes.now) c.args.bytes.now (λ h. c.in-Err.ensures.cases.0 (IsUtf8-from_is_utf8 c.args.bytes.now h))
