use Rattle.std.proofs.Common.{◌≡◌, ◌++◌, codes, take}
use Rattle.std.specs.List.{flat_map}
use Rattle.std.specs.String.{string_bytes}
use Rattle.rh_courses.specs.declared.course.Stay.{Stay}
use Rattle.rh_courses.specs.Texts.{run_words}
use Rattle.rh_courses.proofs.text.push_later.Given as goal

abbrev pub invariant-loop-run : goal.invariant-loop-run
invariant-loop-run l = string_bytes l.text ≡ string_bytes l.fn.text
    ++ flat_map (λ (run : Stay). codes ", " ++ run_words l.cluster run) (take l.run-index l.runs)
