use Rattle.std.proofs.Common.{◌∙◌, sym, ap}
use Rattle.rh_script.specs.Commands.{begins_with}
use Rattle.rh_script.proofs.Numerals.{read_word, read_plus}
use Rattle.rh_explore_text.proofs.words.number_of.Goals as goal

pub returns-then-begins_with : goal.returns-then-begins_with
returns-then-begins_with c =
    read_plus c.args.word.now (ap (begins_with 43) (sym c.as_bytes.ensures.value) ∙ sym c.begins_with.ensures ∙ c.if-begins_with.true)

pub returns : goal.returns
returns c =
    c.ok.ensures.value
    ∙ read_word c.args.word.now c.parse.result
    (ap (begins_with 43) (sym c.as_bytes.ensures.value) ∙ sym c.begins_with.ensures ∙ c.if-begins_with.false)
    c.parse.ensures.value.0
