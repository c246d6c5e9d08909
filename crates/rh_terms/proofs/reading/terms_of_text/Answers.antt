use Rattle.std.proofs.Common.{◌≡◌, Result, Ok, sym, subst, ◌∙◌, arith}
use Rattle.std.proofs.lemmas.Bool.Decides.{nat_tests}
use Rattle.std.proofs.lemmas.Result.{err_from_is_err_and}
use Rattle.rh_terms.specs.declared.nest.TheConstants.{MAX_DEPTH}
use Rattle.rh_terms.specs.declared.fault.Fault.{Fault}
use Rattle.rh_terms.specs.Bytes.{past_blank}
use Rattle.rh_terms.specs.Faults.{Fails}
use Rattle.rh_terms.specs.Grammar.{dot_at}
use Rattle.rh_terms.specs.Kept.{kept_tree}
use Rattle.rh_base.specs.Tree.{Trees, tree_of}
use Rattle.rh_terms.proofs.Cut.{blank_text, dot_text}
use Rattle.rh_terms.proofs.Kept.{text_begins, text_ends, text_kept_goes_on, text_kept_fails_term, text_kept_fails_dot, kept_text, kept_text_shorter}
use Rattle.rh_terms.proofs.reading.terms_of_text.Goals as goal

pub bytes-init : goal.bytes-init
bytes-init g c = record {
  so_far = rw c.new-terms.ensures.items (text_begins g.K.Keep.behind_key c.args.keep c.args.bytes.now);
  text = c.requires;
  known = c.new-again.ensures;
}

pub returns-in_err-term : goal.returns-in_err-term
returns-in_err-term g c =
    let p = err_from_is_err_and c.from_residual.result c.from_residual.ensures.1 in
    let e = c.in_err-term.field-0.0 in
    let P : Result Trees Fault → Type 0 = λ r. Fails e r in
    rw (p.1, p.2) (subst P c.bytes.invariant.so_far
    (text_kept_fails_term g.K.Keep.behind_key c.args.keep e c.bytes.terms.items c.bytes.rest.now (grind (arith, nat_tests)) c.in_err-term.ensures.read))

pub returns-in_err-after : goal.returns-in_err-after
returns-in_err-after g c =
    let p = err_from_is_err_and c.from_residual-in_err-after.result c.from_residual-in_err-after.ensures.1 in
    let e = c.in_err-after.field-0.0 in
    let P : Result Trees Fault → Type 0 = λ r. Fails e r in
    let dot : Fails e (dot_at (past_blank c.in_ok-term.after_term.now)) = rw (← c.skip_blank.ensures.behind) c.in_err-after.ensures in
    rw (p.1, p.2) (subst P c.bytes.invariant.so_far
    (text_kept_fails_dot g.K.Keep.behind_key c.args.keep e c.bytes.terms.items c.in_ok-term.term c.bytes.rest.now c.in_ok-term.after_term.now
    c.in_ok-term.ensures.read dot))

pub bytes-smaller : goal.bytes-smaller
bytes-smaller g c =
    let dot : dot_at (past_blank c.in_ok-term.after_term.now) ≡ Ok c.in_ok-after.after.now = cc (c.in_ok-after.ensures, c.skip_blank.ensures.behind) in
    rw c.skip_blank-rest.ensures.behind (kept_text_shorter (kept_tree g.K.Keep.behind_key c.args.keep) (tree_of c.in_ok-term.term) c.bytes.rest.now
    c.in_ok-term.after_term.now c.in_ok-after.after.now c.in_ok-term.ensures.read dot)

pub bytes-preserved : goal.bytes-preserved
bytes-preserved g c =
    let dot : dot_at (past_blank c.in_ok-term.after_term.now) ≡ Ok c.in_ok-after.after.now = cc (c.in_ok-after.ensures, c.skip_blank.ensures.behind) in
    let text = kept_text (kept_tree g.K.Keep.behind_key c.args.keep) MAX_DEPTH (tree_of c.in_ok-term.term) c.bytes.rest.now
    c.in_ok-term.after_term.now c.in_ok-term.ensures.read c.bytes.invariant.text in
    record {
      so_far = rw c.skip_blank-rest.ensures.behind (text_kept_goes_on g.K.Keep.behind_key c.args.keep c.bytes.terms.items _ c.in_ok-term.term
          c.bytes.rest.now c.in_ok-term.after_term.now c.in_ok-after.after.now c.in_ok-term.ensures.read dot c.in_ok-push.ensures.items
          ∙ c.bytes.invariant.so_far);
      text = rw c.skip_blank-rest.ensures.behind (blank_text c.in_ok-after.after.now
          (dot_text (past_blank c.in_ok-term.after_term.now) c.in_ok-after.after.now dot (blank_text c.in_ok-term.after_term.now text)));
      known = c.in_ok-term.ensures.known;
    }

pub returns : goal.returns
returns g c =
    sym c.bytes.invariant.so_far ∙ text_ends g.K.Keep.behind_key c.args.keep c.bytes.terms.items c.bytes.rest.now (grind (arith, nat_tests))
