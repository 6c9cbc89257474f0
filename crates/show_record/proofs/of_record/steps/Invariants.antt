use Rattle.std.proofs.Common.{◌≡◌, map, take}
use Rattle.show_record.specs.Picture.{form_of}
use Rattle.show_record.proofs.of_record.steps.Given as goal

abbrev pub invariant-loop-index : goal.invariant-loop-index
invariant-loop-index l = map (λ step. step.form) l.steps.items ≡ map form_of (take l.index l.entries)
