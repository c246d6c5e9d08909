use Rattle.std.proofs.Common.{◌≡◌, ◌++◌, take, codes}
use Rattle.std.specs.List.{flat_map}
use Rattle.std.specs.String.{string_bytes}
use Rattle.rh_script.specs.Forms.{word_of}
use Rattle.rh_line_lint.specs.Commands.{argument_words}
use Rattle.rh_line_lint.proofs.commands.push_usage.Given as goal

abbrev pub invariant-loop-argument : goal.invariant-loop-argument
invariant-loop-argument l = string_bytes l.text
    ≡ string_bytes l.fn.text ++ (word_of l.fn.verb ++ flat_map (λ a. codes " " ++ argument_words a) (take l.argument-index l.argument-items))
