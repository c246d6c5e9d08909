use Rattle.std.proofs.Common.{◌≡◌, ◌∙◌, sym, true, drop, arith}
use Rattle.std.specs.Prelude.{◌==◌}
use Rattle.std.specs.List.{prefix_len}
use Rattle.std.proofs.lemmas.List.{take_rest}
use Rattle.std.proofs.lemmas.List.Sums.{prefix_len-le-length}
use Rattle.rh_terms.specs.Bytes.{begins}
use Rattle.rh_terms.specs.Tokens.{is_plain}
use Rattle.rh_terms.proofs.Cut.{quoted_parts}
use Rattle.rh_terms.proofs.Quoted.{quoted_plain}
use Rattle.rh_terms.proofs.tokens.quoted_text_of.Goals as goal

pub split_at-requires : goal.split_at-requires
split_at-requires c = omega (arith, prefix_len-le-length (is_plain c.args.quote) c.args.bytes.now)

pub text_of_bytes-requires : goal.text_of_bytes-requires
text_of_bytes-requires c =
    let ends : begins (λ x. x == c.args.quote) (drop (prefix_len (is_plain c.args.quote) c.args.bytes.now) c.args.bytes.now) ≡ true =
    rw (← c.plain_len-count.ensures, ← c.split_at.ensures.back) (sym c.begins_with.ensures.begins ∙ c.if-begins_with.true) in
    rw (c.split_at.ensures.front, c.plain_len-count.ensures)
    (quoted_parts c.args.quote c.args.bytes.now _ _ c.requires.quote c.requires.text (quoted_plain c.args.quote c.args.bytes.now ends)).0

pub returns-then-begins_with : goal.returns-then-begins_with
returns-then-begins_with c =
    let ends : begins (λ x. x == c.args.quote) (drop (prefix_len (is_plain c.args.quote) c.args.bytes.now) c.args.bytes.now) ≡ true =
    rw (← c.plain_len-count.ensures, ← c.split_at.ensures.back) (sym c.begins_with.ensures.begins ∙ c.if-begins_with.true) in
    rw (take_rest c.split_at.result.1.now 1, c.in_ok-text_of_bytes.ensures, c.split_at.ensures.front, c.split_at.ensures.back, c.plain_len-count.ensures)
    (quoted_plain c.args.quote c.args.bytes.now ends)

pub text_of_vec-requires : goal.text_of_vec-requires
text_of_vec-requires c = (quoted_parts c.args.quote c.args.bytes.now _ _ c.requires.quote c.requires.text c.in_ok-content.ensures).0
