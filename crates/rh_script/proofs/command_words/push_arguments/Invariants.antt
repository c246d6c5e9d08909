use Rattle.std.proofs.Common.{◌≡◌, ◌++◌, take}
use Rattle.std.specs.List.{flat_map}
use Rattle.std.specs.String.{string_bytes}
use Rattle.rh_script.specs.CommandWords.{argument_words}
use Rattle.rh_script.proofs.command_words.push_arguments.Given as goal

abbrev pub invariant-loop-argument : goal.invariant-loop-argument
invariant-loop-argument l = string_bytes l.text ≡ string_bytes l.fn.text ++ flat_map (argument_words l.cluster l.given) (take l.argument-index l.arguments)
