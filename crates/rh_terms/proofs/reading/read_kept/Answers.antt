use Rattle.std.proofs.Common.{◌≡◌, true, sym}
use Rattle.std.specs.Str.{is_utf8}
use Rattle.std.proofs.lemmas.Str.{IsUtf8-from_is_utf8}
use Rattle.rh_terms.proofs.Cut.{blank_text}
use Rattle.rh_terms.proofs.Told.{kept_told, kept_no_text, kept_fault}
use Rattle.rh_terms.proofs.reading.read_kept.Goals as goal

pub returns-then-not-is_text : goal.returns-then-not-is_text
returns-then-not-is_text g c = kept_no_text g.K.Keep.behind_key c.args.keep c.args.bytes.now (cc (c.is_text.ensures, c.if-not-is_text.true))

pub terms_of_text-requires : goal.terms_of_text-requires
terms_of_text-requires g c =
    let text : is_utf8 c.args.bytes.now ≡ true = cc (c.is_text.ensures, c.if-not-is_text.false) in
    rw c.skip_blank.ensures.behind (blank_text c.args.bytes.now (IsUtf8-from_is_utf8 c.args.bytes.now text))

pub returns-in-Ok : goal.returns-in-Ok
returns-in-Ok g c =
    let text : is_utf8 c.args.bytes.now ≡ true = cc (c.is_text.ensures, c.if-not-is_text.false) in
    rw c.of.ensures (kept_told g.K.Keep.behind_key c.args.keep c.args.bytes.now _ text (rw (sym c.skip_blank.ensures.behind) c.in-Ok.ensures))

pub returns-in-Err : goal.returns-in-Err
returns-in-Err g c =
    let text : is_utf8 c.args.bytes.now ≡ true = cc (c.is_text.ensures, c.if-not-is_text.false) in
    rw c.fault_of.ensures (kept_fault g.K.Keep.behind_key c.args.keep c.args.bytes.now c.in-Err.error text
    (rw (sym c.skip_blank.ensures.behind) c.in-Err.ensures))
